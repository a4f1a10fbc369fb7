-- What a volume keeps while its disk is read.
use Rattle.std.proofs.Common.{ℕ, Bool, Option, ◌∙◌}
use Rattle.sis_disk.specs.Record.{Seen}
use Rattle.sis_journal.specs.View.{JournalView}
use Rattle.sis_places.specs.Places.{PlacesView}
use Rattle.sis_table.specs.Volume.{VolumeTable}
use Rattle.sis_view.specs.Reading.{OnlyReads}
use Rattle.sis_view.proofs.CallerLemmas.{now_reading}
use Rattle.sis_volume.specs.Invariant.{HasCommitted, IsVolume, KeepsTable}

committed-read : (v : VolumeTable) (second : Bool) (bits : _) (is_changed : Bool) (most : ℕ)
    (old new : Seen) → OnlyReads most old new → HasCommitted v second bits is_changed old
    → HasCommitted v second bits is_changed new
committed-read v second bits is_changed most old new reads h = record {
  committed = h.committed;
  table = h.table;
  layout = h.layout;
  places = h.places;
  same = h.same;
  stays = now_reading (KeepsTable second h.committed) most old new reads h.stays;
}

pub kept-read : (v : VolumeTable) (j : JournalView) (p : PlacesView) (is_changed : Bool)
    (down : Option ℕ) (most : ℕ) (old new : Seen) → OnlyReads most old new
    → IsVolume v j p is_changed down old → IsVolume v j p is_changed down new
kept-read v j p is_changed down most old new reads h = record {
  table = h.table;
  good = h.good;
  fits = h.fits;
  log = h.log;
  journal = h.journal;
  size = reads.elapses.size ∙ h.size;
  used = h.used;
  committed = λ up. committed-read v j.second p.committed is_changed most old new reads (h.committed up);
}
