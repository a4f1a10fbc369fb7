use Rattle.std.proofs.Common.{◌∙◌, ◌∷◌, [], List, refl, sym, subst, arith}
use Rattle.sis_disk.specs.declared.layout.Layout.{Layout}
use Rattle.sis_table.specs.Edits.{MayEditBy, stretch}
use Rattle.sis_table.specs.Volume.{VolumeTable, IsTable, empty_table}
use Rattle.sis_table.specs.declared.edit.Edit.{Edit}
use Rattle.sis_table.specs.declared.kind.NodeKind.TheVariants.{Plain}
use Rattle.sis_table.proofs.CallerLemmas.{put_may}
use Rattle.sis_table.proofs.PutLemmas.{put_edits}
use Rattle.sis_cases.proofs.tables.edited.Goals as goal

-- the layout of the cases
abbrev layout : Layout
layout = record { total = 16; area = 2; log = 0; letter = 67 }

table : IsTable (empty_table layout)
table = record {
  layout = record {
    total_low = omega arith;
    total_high = omega arith;
    area_low = omega arith;
    area_high = omega arith;
    log_high = omega arith;
    letter_low = omega arith;
    letter_high = omega arith;
    has_data = omega arith;
  };
  next_low = omega arith;
  next_high = omega arith;
  greatest = omega arith;
  few = omega arith;
  nodes = tt;
}

-- a file of three bytes may be made in the empty table, with its block at place 6
may : MayEditBy (empty_table layout) (put_edits 1 Plain (97 ∷ []) 3 (stretch 0 1 6 ∷ []))
may = put_may (empty_table layout) 1 Plain (97 ∷ []) 3 (stretch 0 1 6 ∷ []) table
    (record {
      fresh = omega arith;
      below = omega arith;
      few = omega arith;
      is_name = refl;
      fit = refl;
      free = refl;
    })
    (omega arith)
    (record { some = omega arith; inside = omega arith; low = omega arith; high = omega arith }, tt)

pub apply_all-requires : goal.apply_all-requires
apply_all-requires c =
    subst (λ (es : List Edit). MayEditBy c.empty-table.result es)
    (sym (c.deref.ensures.value ∙ c.in_ok-edits.ensures))
    (subst (λ (v : VolumeTable). MayEditBy v (put_edits 1 Plain (97 ∷ []) 3 (stretch 0 1 6 ∷ [])))
    (sym c.empty-table.ensures) may)
