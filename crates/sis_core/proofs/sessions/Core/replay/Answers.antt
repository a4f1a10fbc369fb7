use Rattle.std.proofs.Common.{◌∙◌, ◌+◌, ◌++◌, ◌≤◌, append-nil, ap, arith, length, suc, subst, sym, take}
use Rattle.std.proofs.lemmas.List.{take_all, take_more}
use Rattle.sis_model.specs.Order.{exec_order, remaining, rounds}
use Rattle.sis_core.specs.Sound.{IsSound}
use Rattle.sis_core.specs.Turns.{HadTurns}
use Rattle.sis_core.proofs.TurnLemmas.{ends_exec_order, fewer_to_come, had_all, had_none, had_round, had_size, had_then, none_remains, ready_at_start}
use Rattle.sis_core.proofs.sessions.Core.replay.Goals as goal

pub loop-client-init : goal.loop-client-init
loop-client-init g c = record {
  turns =
      had_none c.args.self.now c.new-rest.result (exec_order c.args.lines.items)
      (ready_at_start c.args.self.now c.new-rest.result c.args.lines.items c.requires.idle
      c.new-rest.ensures c.requires.clients c.requires.served c.requires.room);
  sound = subst IsSound c.self.view_is c.self.invariant;
}

pub loop-client-preserved : goal.loop-client-preserved
loop-client-preserved g c =
    let sofar = c.loop-client.invariant.turns in
    let ls = exec_order c.args.lines.items in
    let turns = take c.loop-client.client-index c.args.schedule.now in
    record {
      turns =
          subst (HadTurns c.args.self.now c.scheduled.new.self ls c.scheduled.new.rest)
          (sym (take_more c.args.schedule.now c.loop-client.client-index _
          c.loop-client-test.true))
          (had_then c.args.self.now c.loop-client.self c.scheduled.new.self ls
          c.loop-client.rest c.scheduled.new.rest turns _ sofar
          (c.scheduled.ensures.turn (remaining ls turns) sofar.ready));
      sound = c.scheduled.ensures.sound c.loop-client.invariant.sound;
    }

pub loop-init : goal.loop-init
loop-init g c =
    let all : length c.args.schedule.now ≤ c.loop-client.client-index =
    omega (arith, c.loop-client-test.false) in
    record {
      turns = (
        0,
        subst (HadTurns c.args.self.now c.loop-client.self (exec_order c.args.lines.items)
            c.loop-client.rest)
            (take_all c.loop-client.client-index c.args.schedule.now all
            ∙ sym (append-nil c.args.schedule.now)) c.loop-client.invariant.turns,
      );
      sound = c.loop-client.invariant.sound;
    }

pub loop-smaller : goal.loop-smaller
loop-smaller g c =
    let sofar = c.loop.invariant.turns in
    let ls = exec_order c.args.lines.items in
    let had =
    had_round c.args.self.now c.loop.self c.round.new.self ls c.loop.rest c.round.new.rest
    c.args.schedule.now sofar.0 sofar.1
    (c.round.ensures.turns (remaining ls (c.args.schedule.now ++ rounds sofar.0))
    sofar.1.ready) in
    let size = had_size c.args.self.now c.round.new.self ls c.round.new.rest
    (c.args.schedule.now ++ rounds (suc sofar.0)) had in
    fewer_to_come (length c.args.self.now.entries + length ls) (length c.loop.self.entries)
    (length c.round.new.self.entries) (c.round.ensures.yes c.loop-test.true)
    (omega (arith, size))

pub loop-preserved : goal.loop-preserved
loop-preserved g c =
    let sofar = c.loop.invariant.turns in
    let ls = exec_order c.args.lines.items in
    record {
      turns = (
        suc sofar.0,
        had_round c.args.self.now c.loop.self c.round.new.self ls c.loop.rest
            c.round.new.rest c.args.schedule.now sofar.0 sofar.1
            (c.round.ensures.turns (remaining ls (c.args.schedule.now ++ rounds sofar.0))
            sofar.1.ready),
      );
      sound = c.round.ensures.sound c.loop.invariant.sound;
    }

pub returns-clause-kept : goal.returns-clause-kept
returns-clause-kept g c =
    let sofar = c.loop.invariant.turns in
    let ls = exec_order c.args.lines.items in
    let turns = c.args.schedule.now ++ rounds (suc sofar.0) in
    let had =
    had_round c.args.self.now c.loop.self c.round.new.self ls c.loop.rest c.round.new.rest
    c.args.schedule.now sofar.0 sofar.1
    (c.round.ensures.turns (remaining ls (c.args.schedule.now ++ rounds sofar.0))
    sofar.1.ready) in
    had_all c.args.self.now c.round.new.self c.args.lines.items c.round.new.rest
    c.args.schedule.now (suc sofar.0) had
    (none_remains c.args.self.now c.round.new.self ls c.round.new.rest turns had
    (c.round.ensures.done c.loop-test.false))

pub returns-clause-lines : goal.returns-clause-lines
returns-clause-lines g c =
    let sofar = c.loop.invariant.turns in
    let ls = exec_order c.args.lines.items in
    let turns = c.args.schedule.now ++ rounds (suc sofar.0) in
    let had =
    had_round c.args.self.now c.loop.self c.round.new.self ls c.loop.rest c.round.new.rest
    c.args.schedule.now sofar.0 sofar.1
    (c.round.ensures.turns (remaining ls (c.args.schedule.now ++ rounds sofar.0))
    sofar.1.ready) in
    let size = had_size c.args.self.now c.round.new.self ls c.round.new.rest turns had in
    let none = ap length (none_remains c.args.self.now c.round.new.self ls c.round.new.rest turns
    had (c.round.ensures.done c.loop-test.false)) in
    omega (arith, size, none)

pub returns-clause-saved : goal.returns-clause-saved
returns-clause-saved g c = λ was.
    let sofar = c.loop.invariant.turns in
    let ls = exec_order c.args.lines.items in
    let turns = c.args.schedule.now ++ rounds (suc sofar.0) in
    let had =
    had_round c.args.self.now c.loop.self c.round.new.self ls c.loop.rest c.round.new.rest
    c.args.schedule.now sofar.0 sofar.1
    (c.round.ensures.turns (remaining ls (c.args.schedule.now ++ rounds sofar.0))
    sofar.1.ready) in
    had.saved (ends_exec_order c.args.lines.items)
    (none_remains c.args.self.now c.round.new.self ls c.round.new.rest turns had
    (c.round.ensures.done c.loop-test.false)) (λ none. was)
