use Rattle.std.proofs.Common.{◌∙◌, ◌-◌, refl, rules, arith}
use Rattle.std.specs.Prelude.{slice_index_or}
use Rattle.std.proofs.lemmas.List.{length-set}
use Rattle.sis_history.specs.Replies.{IsServed}
use Rattle.sis_core.specs.Jobs.{IsClient}
use Rattle.sis_core.specs.Steps.{IsSaved}
use Rattle.sis_core.proofs.ExecLemmas.{counted_all, counted_rest, front_last, front_more, front_none, has_more, is_last, last_all, low_client, one_at_least, rest_all, room_all, room_last, room_more, some_left}
use Rattle.sis_core.proofs.sessions.Core.exec.Goals as goal

pub loop-client-init : goal.loop-client-init
loop-client-init g c = record {
  clients = search rules;
  served = search rules;
  counted =
      counted_all c.lines_by_client-left.result c.reverse.new.self.items c.args.lines.items
      c.deref.result.now c.reverse.ensures.items c.deref.ensures.value
      c.lines_by_client-left.ensures.counts;
  size = search rules;
  room =
      room_all c.reverse.new.self.items c.args.lines.items c.args.self.now.spare
      c.reverse.ensures.items c.requires.room;
  idle = search rules;
  ran =
      front_none c.args.self.now.entries c.reverse.new.self.items c.args.lines.items
      c.reverse.ensures.items;
  opening = search rules;
  saved = search rules;
  sound = search rules;
}

pub bounds-left-client : goal.bounds-left-client
bounds-left-client g c =
    low_client c.loop-client.rest.items c.pop.new.self.items c.in-Some.field-0
    c.in-Some.ensures.items c.loop-client.invariant.clients

pub overflow_sub-left : goal.overflow_sub-left
overflow_sub-left g c =
    one_at_least c.loop-client.left c.loop-client.rest.items c.pop.new.self.items
    c.in-Some.field-0 c.in-Some.ensures.items c.loop-client.invariant.clients
    c.loop-client.invariant.counted

pub bounds-left-client-in-Some : goal.bounds-left-client-in-Some
bounds-left-client-in-Some g c =
    low_client c.loop-client.rest.items c.pop.new.self.items c.in-Some.field-0
    c.in-Some.ensures.items c.loop-client.invariant.clients

pub bounds-left-client-in-Some-2 : goal.bounds-left-client-in-Some-2
bounds-left-client-in-Some-2 g c =
    low_client c.loop-client.rest.items c.pop.new.self.items c.in-Some.field-0
    c.in-Some.ensures.items c.loop-client.invariant.clients

pub run_one-requires-then-left-client-eq0-clause-client :
    goal.run_one-requires-then-left-client-eq0-clause-client
run_one-requires-then-left-client-eq0-clause-client g c =
    last_all (λ x. IsClient x.client) c.loop-client.rest.items c.pop.new.self.items
    c.in-Some.field-0 c.in-Some.ensures.items c.loop-client.invariant.clients

pub run_one-requires-then-left-client-eq0-clause-room :
    goal.run_one-requires-then-left-client-eq0-clause-room
run_one-requires-then-left-client-eq0-clause-room g c =
    let items = c.in-Some.ensures.items in
    let clients = c.loop-client.invariant.clients in
    let low = low_client c.loop-client.rest.items c.pop.new.self.items c.in-Some.field-0 items
    clients in
    let one = one_at_least c.loop-client.left c.loop-client.rest.items c.pop.new.self.items
    c.in-Some.field-0 items clients c.loop-client.invariant.counted in
    let counted = counted_rest c.loop-client.left _ c.loop-client.rest.items c.pop.new.self.items
    c.in-Some.field-0 (slice_index_or c.loop-client.left c.in-Some.field-0.client 0 - 1) items
    clients c.loop-client.invariant.size c.loop-client.invariant.counted (omega (arith, one))
    refl in
    let last = is_last _ c.pop.new.self.items c.in-Some.field-0.client low counted
    c.if-left-client-eq0.true in
    let left = room_last c.loop-client.rest.items c.pop.new.self.items c.in-Some.field-0
    c.loop-client.self.spare c.run_one.new.self.spare items last c.loop-client.invariant.room
    c.run_one.ensures.spare in
    omega (arith, left)

pub loop-client-preserved-then-left-client-eq0 : goal.loop-client-preserved-then-left-client-eq0
loop-client-preserved-then-left-client-eq0 g c =
    let items = c.in-Some.ensures.items in
    let clients = c.loop-client.invariant.clients in
    let low = low_client c.loop-client.rest.items c.pop.new.self.items c.in-Some.field-0 items
    clients in
    let one = one_at_least c.loop-client.left c.loop-client.rest.items c.pop.new.self.items
    c.in-Some.field-0 items clients c.loop-client.invariant.counted in
    let counted = counted_rest c.loop-client.left _ c.loop-client.rest.items c.pop.new.self.items
    c.in-Some.field-0 (slice_index_or c.loop-client.left c.in-Some.field-0.client 0 - 1) items
    clients c.loop-client.invariant.size c.loop-client.invariant.counted (omega (arith, one))
    refl in
    let last = is_last _ c.pop.new.self.items c.in-Some.field-0.client low counted
    c.if-left-client-eq0.true in
    record {
      clients =
          rest_all (λ x. IsClient x.client) c.loop-client.rest.items c.pop.new.self.items
          c.in-Some.field-0 items clients;
      served =
          rest_all (λ x. IsServed x.command) c.loop-client.rest.items c.pop.new.self.items
          c.in-Some.field-0 items c.loop-client.invariant.served;
      counted = counted;
      size =
          length-set c.loop-client.left c.in-Some.field-0.client _
          ∙ c.loop-client.invariant.size;
      room =
          let left = room_last c.loop-client.rest.items c.pop.new.self.items c.in-Some.field-0
          c.loop-client.self.spare c.run_one.new.self.spare items last
          c.loop-client.invariant.room c.run_one.ensures.spare in
          omega (arith, left, c.run_one-then-left-client-eq0.ensures.spare);
      idle = c.run_one-then-left-client-eq0.ensures.idle;
      ran =
          front_last c.args.self.now.entries c.loop-client.self.entries
          c.run_one.new.self.entries c.run_one-then-left-client-eq0.new.self.entries
          c.loop-client.rest.items c.pop.new.self.items c.in-Some.field-0 _ items last
          c.run_one.ensures.kept c.run_one-then-left-client-eq0.ensures.kept
          c.loop-client.invariant.ran;
      opening =
          c.run_one-then-left-client-eq0.ensures.opening ∙ c.run_one.ensures.opening
          ∙ c.loop-client.invariant.opening;
      saved = λ none was. c.run_one-then-left-client-eq0.ensures.saved refl;
      sound = c.run_one-then-left-client-eq0.ensures.sound;
    }

pub loop-client-preserved : goal.loop-client-preserved
loop-client-preserved g c =
    let items = c.in-Some.ensures.items in
    let clients = c.loop-client.invariant.clients in
    let low = low_client c.loop-client.rest.items c.pop.new.self.items c.in-Some.field-0 items
    clients in
    let one = one_at_least c.loop-client.left c.loop-client.rest.items c.pop.new.self.items
    c.in-Some.field-0 items clients c.loop-client.invariant.counted in
    let counted = counted_rest c.loop-client.left _ c.loop-client.rest.items c.pop.new.self.items
    c.in-Some.field-0 (slice_index_or c.loop-client.left c.in-Some.field-0.client 0 - 1) items
    clients c.loop-client.invariant.size c.loop-client.invariant.counted (omega (arith, one))
    refl in
    let more = has_more _ c.pop.new.self.items c.in-Some.field-0.client low counted
    c.if-left-client-eq0.false in
    record {
      clients =
          rest_all (λ x. IsClient x.client) c.loop-client.rest.items c.pop.new.self.items
          c.in-Some.field-0 items clients;
      served =
          rest_all (λ x. IsServed x.command) c.loop-client.rest.items c.pop.new.self.items
          c.in-Some.field-0 items c.loop-client.invariant.served;
      counted = counted;
      size =
          length-set c.loop-client.left c.in-Some.field-0.client _
          ∙ c.loop-client.invariant.size;
      room =
          room_more c.loop-client.rest.items c.pop.new.self.items c.in-Some.field-0
          c.loop-client.self.spare c.run_one.new.self.spare items more
          c.loop-client.invariant.room c.run_one.ensures.spare;
      idle = c.run_one.ensures.idle;
      ran =
          front_more c.args.self.now.entries c.loop-client.self.entries
          c.run_one.new.self.entries c.loop-client.rest.items c.pop.new.self.items
          c.in-Some.field-0 _ items more c.run_one.ensures.kept c.loop-client.invariant.ran;
      opening = c.run_one.ensures.opening ∙ c.loop-client.invariant.opening;
      saved = λ none was.
          some_left c.pop.new.self.items c.in-Some.field-0.client (IsSaved c.run_one.new.self)
          more none;
      sound = c.run_one.ensures.sound;
    }
