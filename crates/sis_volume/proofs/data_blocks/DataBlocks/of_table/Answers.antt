use Rattle.std.proofs.Common.{◌≡◌, ℕ, Bool, false, List, length, replicate, refl, sym, ap, ◌∙◌, subst}
use Rattle.std.specs.Prelude.{All}
use Rattle.std.specs.Map.Iter.{deref}
use Rattle.std.proofs.lemmas.Map.Iter.{rest_more, rest_all}
use Rattle.sis_disk.specs.Layout.{first_place, data_blocks}
use Rattle.sis_places.specs.Places.{PlacesView}
use Rattle.sis_ranges.specs.declared.run.Run.{Run}
use Rattle.sis_table.specs.Volume.{used_places}
use Rattle.sis_volume.specs.Keeping.{IsAmong, TakesRuns}
use Rattle.sis_volume.proofs.TableBits.{files_all, files_among, first_more, first_none}
use Rattle.sis_volume.proofs.data_blocks.DataBlocks.of_table.Goals as goal

abbrev both : List Bool → PlacesView
both bs = record { current = bs; committed = bs }

pub loop-node-init : goal.loop-node-init
loop-node-init c =
    first_none c.first_place-low.result (data_blocks c.args.table.now.layout) c.args.table.now.nodes c.into_iter-node-iterator.result c.in_ok-places.places
    (c.into_iter-node-iterator.ensures.into_iter_gives ∙ c.nodes-node-items.ensures.rest)
    (ap (λ (p : PlacesView). p.current) c.in_ok-places.ensures
    ∙ ap (λ (n : ℕ). replicate n false) (c.data_blocks.ensures ∙ ap data_blocks c.layout-layout.ensures.layout))

pub take_runs-requires : goal.take_runs-requires
take_runs-requires c =
    subst (λ (rs : List Run). All (IsAmong c.first_place-low.result (length c.loop-node.places.current)) rs) (sym c.runs.ensures.value)
    (files_among c.args.table.now c.loop-node.node-iterator c.next.new.self c.in-Some.node.now c.first_place-low.result
    (data_blocks c.args.table.now.layout) (length c.loop-node.places.current) c.loop-node.places c.layout-layout.ensures.table
    (rest_more deref _ _ _ c.in-Some.node c.in-Some.is c.next.ensures.steps) c.loop-node.invariant
    (c.first_place-low.ensures ∙ ap first_place c.layout-layout.ensures.layout)
    c.loop-node.invariant.has.size)

pub loop-node-preserved : goal.loop-node-preserved
loop-node-preserved c =
    first_more c.first_place-low.result (data_blocks c.args.table.now.layout) c.args.table.now.nodes c.loop-node.node-iterator c.next.new.self
    c.in-Some.node.now c.loop-node.places c.take_runs.new.places
    (rest_more deref _ _ _ c.in-Some.node c.in-Some.is c.next.ensures.steps)
    (subst (λ (rs : List Run). TakesRuns c.first_place-low.result rs c.loop-node.places c.take_runs.new.places) c.runs.ensures.value c.take_runs.ensures)
    c.loop-node.invariant

pub returns-clause-places : goal.returns-clause-places
returns-clause-places c =
    let low : c.first_place-low.result ≡ first_place c.args.table.now.layout = c.first_place-low.ensures ∙ ap first_place c.layout-layout.ensures.layout in
    let bits : c.loop-node.places.current ≡ used_places c.args.table.now =
    files_all c.args.table.now c.first_place-low.result (data_blocks c.args.table.now.layout) c.loop-node.node-iterator c.loop-node.places low refl
    (rest_all deref _ _ _ c.in-None.is c.next.ensures.steps) c.loop-node.invariant in
    c.commit.ensures ∙ ap both bits
