-- What a volume keeps after edits of its table.
use Rattle.std.proofs.Common.{◌≡◌, ℕ, ◌*◌, ◌≤◌, Bool, false, ◌||◌, List, [], ◌∷◌, length, Option, refl, sym, ap, ◌∙◌}
use Rattle.std.proofs.lemmas.Bool.{or_parts}
use Rattle.sis_disk.specs.Layout.{first_place, table_cap}
use Rattle.sis_disk.specs.Record.{Seen}
use Rattle.sis_disk.specs.declared.layout.Layout.{Layout}
use Rattle.sis_journal.specs.View.{JournalView}
use Rattle.sis_places.specs.Places.{PlacesView}
use Rattle.sis_table.specs.declared.edit.Edit.{Edit}
use Rattle.sis_table.specs.declared.place_use.PlaceUse.{PlaceUse}
use Rattle.sis_table.specs.Edits.{edited_by}
use Rattle.sis_table.specs.Good.{IsGood}
use Rattle.sis_table.specs.Spelling.{spelling}
use Rattle.sis_table.specs.Uses.{ChangesUse}
use Rattle.sis_table.specs.Volume.{VolumeTable, IsTable}
use Rattle.sis_volume.specs.Applying.{is_edit}
use Rattle.sis_volume.specs.Invariant.{HasCommitted, IsVolume}
use Rattle.sis_volume.specs.Keeping.{ChangesBits}
use Rattle.sis_volume.proofs.TableBits.{bits-changed}

unedited : (v : VolumeTable) (es : List Edit) → is_edit es ≡ false → edited_by v es ≡ v
unedited v [] none = refl
unedited v (e ∷ es) none = absurd cc

module _ (v w : VolumeTable) (es : List Edit) (is : w ≡ edited_by v es) (same : w.layout ≡ v.layout) where
  -- the committed table stays
  committed-applied : (second was : Bool) (bits : List Bool) (seen : Seen)
      → HasCommitted v second bits was seen → HasCommitted w second bits (was || is_edit es) seen
  committed-applied second was bits seen h = record {
    committed = h.committed;
    table = h.table;
    layout = h.layout ∙ sym same;
    places = h.places;
    same = λ e. (let none = or_parts was (is_edit es) e in
        h.same none.0 ∙ sym (is ∙ unedited v es none.1));
    stays = h.stays;
  }

  pub kept-applied : (j : JournalView) (p q : PlacesView) (was : Bool) (down : Option ℕ) (seen : Seen)
      (uses : List PlaceUse) → IsTable w → IsGood w → length (spelling w) ≤ table_cap w.layout
      → ChangesUse v w uses → ChangesBits (first_place v.layout) uses p q
      → IsVolume v j p was down seen → IsVolume w j q (was || is_edit es) down seen
  kept-applied j p q was down seen uses table good fits changes bits h = record {
    table = table;
    good = good;
    fits = fits;
    log = ap (λ (l : Layout). l.log) same ∙ h.log;
    journal = h.journal ∙ sym same;
    size = h.size ∙ ap (λ (l : Layout). 4096 * l.total) (sym same);
    used = bits-changed v w uses p q same h.used changes bits;
    committed = λ up. rw bits.committed (committed-applied j.second was p.committed seen (h.committed up));
  }
