-- The table as a text that the journal keeps.
use Rattle.std.proofs.Common.{◌≡◌, ℕ, ◌<◌, List, [], length, slice_index, sym, ap}
use Rattle.std.specs.Prelude.{Ok, nat_lt}
use Rattle.sis_disk.specs.declared.layout.Layout.{Layout}
use Rattle.sis_disk.specs.declared.layout.TableKind.TheVariants as kinds
use Rattle.sis_disk.specs.Layout.{IsLayout}
use Rattle.sis_table.specs.Reading.{head_at, nodes_at, table_at, here}
use Rattle.sis_table.specs.Spelling.{spelling}
use Rattle.sis_table.specs.Volume.{VolumeTable}
use Rattle.sis_table.proofs.ReadingLaws.{table_at-found}
use Rattle.sis_reading.proofs.StepLemmas.{bind_ok, guard_ok, ok_is}

-- bytes that are read as a table are its spelling
pub spelled : (l : Layout) (bytes : List ℕ) (v : VolumeTable) → IsLayout l
    → ((i : ℕ) → slice_index bytes i < 256) → table_at l bytes ≡ Ok v → spelling v ≡ bytes
spelled l bytes v is fits e = sym (table_at-found l bytes v is fits e).0

-- and it has the layout for which it was read
pub read-layout : (l : Layout) (bytes : List ℕ) (v : VolumeTable) → table_at l bytes ≡ Ok v
    → v.layout ≡ l
unfolding table_at
read-layout l bytes v e =
    let bh = bind_ok (head_at (length bytes) bytes) _ v e in
    let bn = bind_ok (nodes_at (length bytes) l bh.0.0 [] bh.0.2 bh.0.3) _ v bh.2 in
    let t : VolumeTable =
    record { layout = l; next_id = bh.0.0; greatest = bh.0.1; nodes = bn.0.0 } in
    let g = guard_ok (here (length bytes) bn.0.1 kinds.Trailing) (nat_lt 0 (length bn.0.1)) _
    (λ (x : Unit {0}). Ok t) v bn.2 in
    sym (ap (λ (w : VolumeTable). w.layout) (ok_is t v g.1))
