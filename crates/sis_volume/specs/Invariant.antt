-- What a volume keeps between any two calls.
use Rattle.std.specs.Prelude.{◌≡◌, ℕ, ◌*◌, ◌≤◌, Bool, true, false, List, length, Option, None}
use Rattle.sis_disk.specs.Record.{Seen, State}
use Rattle.sis_disk.specs.Stops.{IsFirm, Now}
use Rattle.sis_disk.specs.Layout.{table_cap}
use Rattle.sis_journal.specs.Texts.{KeepsText}
use Rattle.sis_journal.specs.View.{JournalView}
use Rattle.sis_places.specs.Places.{PlacesView}
use Rattle.sis_table.specs.Good.{IsGood}
use Rattle.sis_table.specs.Volume.{VolumeTable, IsTable, is_used, used_places}
use Rattle.sis_table.specs.Spelling.{spelling}

-- The disk keeps this table: its text, and no position of a place that it maps is loose.
pub record KeepsTable (second : Bool) (c : VolumeTable) (s : State) : Type 0 where
  pub text : KeepsText c.layout second (spelling c) s
  pub firm : (place : ℕ) → is_used c place ≡ true → IsFirm s.loose (4096 * place) 4096

-- There is a committed table, which the disk keeps. The bits say which places it maps, and without
-- an edit since the last commit it is the current one.
pub record HasCommitted (v : VolumeTable) (second : Bool) (bits : List Bool) (is_changed : Bool)
    (seen : Seen) : Type 0 where
  pub committed : VolumeTable
  pub table : IsTable committed
  pub layout : committed.layout ≡ v.layout
  pub places : bits ≡ used_places committed
  pub same : is_changed ≡ false → committed ≡ v
  pub stays : Now (KeepsTable second committed) seen

-- The table's files go together, and the bits say which places it maps. It fits its area, the
-- journal is one of its layout, and unless a commit failed there is a committed table.
pub record IsVolume (v : VolumeTable) (j : JournalView) (p : PlacesView) (is_changed : Bool)
    (down : Option ℕ) (seen : Seen) : Type 0 where
  pub table : IsTable v
  pub good : IsGood v
  pub fits : length (spelling v) ≤ table_cap v.layout
  pub log : v.layout.log ≡ 0
  pub journal : j.layout ≡ v.layout
  pub size : seen.size ≡ 4096 * v.layout.total
  pub used : p.current ≡ used_places v
  pub committed : down ≡ None → HasCommitted v j.second p.committed is_changed seen
