use Rattle.std.proofs.Common.{ℕ, ◌≤◌, ◌≡◌, ◌++◌, Bool, false, List, length, take, drop, replicate, sym, ap, ◌∙◌, subst, arith}
use Rattle.std.specs.List.{All}
use Rattle.std.specs.Map.Iter.{deref}
use Rattle.std.proofs.lemmas.Grind.{common_steps}
use Rattle.std.proofs.lemmas.Map.Iter.{rest_more, rest_all}
use Rattle.sis_table.specs.Good.{repeats, Marks}
use Rattle.sis_ranges.specs.Extents.{place_end, runs_of}
use Rattle.sis_table.specs.Volume.{VolumeTable, IsTable}
use Rattle.sis_ranges.specs.declared.run.Run.{Run}
use Rattle.sis_table.proofs.GoodLemmas.{all_places, judge_none, judge_hit, judge_more, judge_all, runs_inside, good_law, no_both}
use Rattle.sis_table.proofs.table.Table.good.Goals as goal

written_back : (new old : List Bool) (n : ℕ) → length new ≡ n → take n (new ++ drop (length new) old) ≡ new
written_back new old n size = grind (arith, common_steps)

pub loop-node-init : goal.loop-node-init
loop-node-init c =
    judge_none c.args.self.now c.in_ok-marks.marks.items _ (subst IsTable c.self.view_is c.self.invariant.table)
    (c.into_iter-node-iterator.ensures.into_iter_gives ∙ c.nodes-node-items.ensures.rest ∙ ap (λ (v : VolumeTable). v.nodes) c.self.view_is)
    (c.in_ok-marks.ensures.items_if_clones_equal (λ y h. h) ∙ ap (λ (v : VolumeTable). replicate v.layout.total false) c.self.view_is)

pub maps_twice-requires : goal.maps_twice-requires
maps_twice-requires c =
    subst (λ (rs : List Run). All (λ r. place_end r ≤ length c.deref_mut.result.now) rs) (sym c.runs.ensures.value)
    (subst (λ (ms : List Bool). All (λ r. place_end r ≤ length ms) (runs_of c.in-Some.node.now.map)) (sym c.deref_mut.ensures.value)
    (runs_inside _ c.loop-node.marks.items c.args.self.now.nodes c.loop-node.node-iterator c.next.new.self c.in-Some.node.now
    (rest_more deref _ _ _ c.in-Some.node c.in-Some.is c.next.ensures.steps) c.loop-node.invariant))

pub returns-then-maps_twice-clause-err : goal.returns-then-maps_twice-clause-err
returns-then-maps_twice-clause-err c =
    judge_hit c.args.self.now.layout.total c.loop-node.marks.items c.args.self.now.nodes c.loop-node.node-iterator c.next.new.self c.in-Some.node.now
    (rest_more deref _ _ _ c.in-Some.node c.in-Some.is c.next.ensures.steps)
    (λ before h. sym c.if-maps_twice.true ∙ c.maps_twice.ensures.value before (subst (λ (l : List Bool). Marks l before) (sym c.deref_mut.ensures.value) h)
    ∙ ap (λ (rs : List Run). repeats before (all_places rs)) c.runs.ensures.value)
    c.loop-node.invariant

pub returns-then-maps_twice-clause-only : goal.returns-then-maps_twice-clause-only
returns-then-maps_twice-clause-only c = λ good. absurd (no_both ((good_law c.args.self.now (subst IsTable c.self.view_is c.self.invariant.table)).1 good) (returns-then-maps_twice-clause-err c))

pub loop-node-preserved : goal.loop-node-preserved
loop-node-preserved c =
    let back = written_back c.maps_twice.new.marks c.loop-node.marks.items c.loop-node.marks.len
    (c.maps_twice.auto.marks ∙ ap length c.deref_mut.ensures.value ∙ sym c.loop-node.marks.ok.0) in
    judge_more c.args.self.now.layout.total c.loop-node.marks.items _ c.args.self.now.nodes c.loop-node.node-iterator c.next.new.self c.in-Some.node.now
    (rest_more deref _ _ _ c.in-Some.node c.in-Some.is c.next.ensures.steps)
    (λ before h. sym c.if-maps_twice.false ∙ c.maps_twice.ensures.value before (subst (λ (l : List Bool). Marks l before) (sym c.deref_mut.ensures.value) h)
    ∙ ap (λ (rs : List Run). repeats before (all_places rs)) c.runs.ensures.value)
    (λ before h. subst (λ (l : List Bool). Marks l (before ++ all_places (runs_of c.in-Some.node.now.map))) (sym back)
    (subst (λ (rs : List Run). Marks c.maps_twice.new.marks (before ++ all_places rs)) c.runs.ensures.value
    (c.if-maps_twice.ensures.marks before (subst (λ (l : List Bool). Marks l before) (sym c.deref_mut.ensures.value) h))))
    (ap length back ∙ c.maps_twice.auto.marks ∙ ap length c.deref_mut.ensures.value)
    c.loop-node.invariant

pub returns-clause-ok : goal.returns-clause-ok
returns-clause-ok c =
    judge_all c.args.self.now.layout.total c.loop-node.marks.items c.args.self.now.nodes c.loop-node.node-iterator
    (rest_all deref _ _ _ c.in-None.is c.next.ensures.steps) c.loop-node.invariant

pub returns-clause-good : goal.returns-clause-good
returns-clause-good c = (good_law c.args.self.now (subst IsTable c.self.view_is c.self.invariant.table)).0 (returns-clause-ok c)
