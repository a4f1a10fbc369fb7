-- What a `Volume` and a `Txn` show.
use Rattle.std.specs.Prelude.{ℕ, ◌-◌, ◌&&◌, nat_le, nat_lt, Bool, false, not, List, map, count_by, Option}
use Rattle.std.specs.List.{list_any}
use Rattle.sis_disk.specs.declared.layout.Layout.{Layout}
use Rattle.sis_disk.specs.Layout.{first_place}
use Rattle.sis_disk.specs.Record.{Seen}
use Rattle.sis_places.specs.Places.{PlacesView}
use Rattle.sis_places.specs.Places as bits
use Rattle.sis_ranges.specs.Extents.{in_stretch}
use Rattle.sis_table.specs.Volume.{VolumeTable, data_places, used_places}
use Rattle.sis_table.specs.declared.edit.Edit.{Edit}
use Rattle.sis_table.specs.declared.edit.Edit.TheVariants as edit

-- What is seen of the disk, the current table, for each data block whether the committed table maps
-- it, whether the table was edited since the last commit, and the disk's call by which a commit
-- failed.
pub record VolumeView : Type 0 where
  pub seen : Seen
  pub table : VolumeTable
  pub committed : List Bool
  pub is_changed : Bool
  pub down : Option ℕ

-- the edits of a transaction, the first one first
pub record TxnView : Type 0 where
  pub edits : List Edit

-- the data blocks that are held: those of the current table, and those of the committed one
abbrev pub held : VolumeView → PlacesView
held v = record { current = used_places v.table; committed = v.committed }

-- the place is a data block's
abbrev pub is_data : Layout → ℕ → Bool
is_data l place = nat_le (first_place l) place && nat_lt place l.total

-- the place is a data block's, and neither table maps it
abbrev pub is_spare : Layout → PlacesView → ℕ → Bool
is_spare l p place = is_data l place && bits.is_spare p (place - first_place l)

-- the edit maps a block to the place
abbrev pub maps_to : ℕ → Edit → Bool
maps_to place (edit.Make id kind name) = false
maps_to place (edit.Drop id) = false
maps_to place (edit.Rename id name) = false
maps_to place (edit.Size id size) = false
maps_to place (edit.Map id first count at) = in_stretch at count place
maps_to place (edit.Unmap id first count) = false
maps_to place (edit.Version id version) = false

-- the place is a data block's, and neither table nor one of the edits maps it
abbrev pub is_fresh : Layout → PlacesView → List Edit → ℕ → Bool
is_fresh l p edits place = is_spare l p place && not (list_any (maps_to place) edits)

-- how many data blocks pass a test of their places
abbrev pub count_of : Layout → (ℕ → Bool) → ℕ
count_of l test = count_by (λ b. b) (map test (data_places l))

-- how many data blocks neither table maps
abbrev pub spare : VolumeView → ℕ
spare v = count_of v.table.layout (is_spare v.table.layout (held v))

-- how many neither table nor an edit of the transaction maps
abbrev pub fresh : VolumeView → TxnView → ℕ
fresh v txn = count_of v.table.layout (is_fresh v.table.layout (held v) txn.edits)
