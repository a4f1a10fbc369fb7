use Rattle.std.proofs.Common.{◌≡◌, ◌-◌, ◌∷◌, [], ℕ, arith, length, subst}
use Rattle.sis_model.specs.Order.{remaining, up_to_client}
use Rattle.sis_core.specs.Turns.{HadTurns}
use Rattle.sis_core.proofs.TurnLemmas.{done_more, had_client, longer_more}
use Rattle.sis_core.proofs.sessions.Core.round.Goals as goal

pub loop-client-preserved : goal.loop-client-preserved
loop-client-preserved g c =
    let more =
    longer_more c.loop-client.went c.turn-moved.result (length c.args.self.now.entries)
    (length c.loop-client.self.entries) (length c.turn-moved.new.self.entries)
    c.loop-client.invariant.longer c.loop-client.invariant.most c.turn-moved.ensures.yes
    c.turn-moved.ensures.no in
    record {
      ready = (
        remaining c.loop-client.invariant.ready.0 (c.loop-client.client ∷ []),
        (c.turn-moved.ensures.turn c.loop-client.invariant.ready.0
            c.loop-client.invariant.ready.1).ready,
      );
      turns = λ lines ready.
          let sofar = c.loop-client.invariant.turns lines ready in
          had_client c.args.self.now c.loop-client.self c.turn-moved.new.self lines
          c.loop-client.rest c.turn-moved.new.rest c.loop-client.client
          c.loop-client.invariant.low sofar
          (c.turn-moved.ensures.turn (remaining lines (up_to_client (c.loop-client.client - 1)))
          sofar.ready);
      longer = more.0;
      most = more.1;
      done =
          done_more c.loop-client.rest c.turn-moved.new.rest c.loop-client.client
          c.loop-client.went c.turn-moved.result c.loop-client.invariant.done
          c.turn-moved.ensures.done c.turn-moved.ensures.others;
      low = let low = c.loop-client.invariant.low in omega (arith, low);
      sound = λ sound. c.turn-moved.ensures.sound (c.loop-client.invariant.sound sound);
    }

pub returns-clause-turns : goal.returns-clause-turns
returns-clause-turns g c = λ lines ready.
    let last : c.loop-client.client ≡ 17 =
    omega (arith, c.loop-client-test.false, c.loop-client.auto.client-end) in
    subst (λ (n : ℕ). HadTurns c.args.self.now c.loop-client.self lines c.loop-client.rest
    (up_to_client (n - 1))) last (c.loop-client.invariant.turns lines ready)
