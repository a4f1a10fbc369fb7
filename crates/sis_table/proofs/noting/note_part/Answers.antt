use Rattle.std.proofs.Common.{List, arith, subst, sym}
use Rattle.std.specs.FinMap.{get}
use Rattle.sis_ranges.specs.Extents.{block_end}
use Rattle.sis_table.specs.declared.place_use.PlaceUse.{PlaceUse}
use Rattle.sis_table.specs.Inside.{Frees, lies_between}
use Rattle.sis_table.proofs.NoteLemmas.{frees_all, frees_more}
use Rattle.sis_table.proofs.noting.note_part.Goals as goal

pub parts-preserved : goal.parts-preserved
parts-preserved c =
    let r = c.in-Some.run' in
    record {
      low = omega (arith, c.parts.invariant.low, c.in-Some.ensures.low);
      high = c.in-Some.ensures.high;
      noted = subst (λ (uses : List PlaceUse). Frees (lies_between (get c.args.map.now) c.args.first (block_end r)) (get c.args.map.now) c.args.uses.now.items uses) (sym c.in_ok-push.ensures.items)
          (frees_more c.args.map.now c.args.first c.parts.at c.args.end r c.parts.invariant.low c.in-Some.ensures c.args.uses.now.items c.parts.uses.items c.parts.invariant.noted);
    }

pub returns : goal.returns
returns c =
    frees_all (get c.args.map.now) c.args.first c.parts.at c.args.end c.args.uses.now.items c.parts.uses.items c.parts.invariant.high c.in_default.ensures c.parts.invariant.noted
