-- What a write leaves of the bytes elsewhere.
use Rattle.std.proofs.Common.{◌≡◌, ℕ, ◌+◌, ◌*◌, ◌≤◌, List, length, ap, ◌∙◌, arith}
use Rattle.std.specs.Prelude.{slice_range}
use Rattle.sis_disk.specs.Record.{laid}
pub use Rattle.sis_disk.proofs.Areas.{selected_at-laid, selected_at-below}
pub use Rattle.sis_disk.proofs.LaidRanges.{slice-laid_in, slice-laid_out, take-laid_below, take-laid_first, index-laid_out, laid-join}
use Rattle.sis_table.specs.Content.{run_bytes}

-- the blocks of a run that was written
pub run_bytes-laid : (live bytes : List ℕ) (first count place : ℕ) → 4096 * place + length bytes ≤ length live → length bytes ≡ 4096 * count
    → run_bytes (laid live (4096 * place) bytes) (record { first = first; count = count; place = place }) ≡ bytes
run_bytes-laid live bytes first count place within len =
    let end : 4096 * (place + count) ≡ 4096 * place + length bytes = omega arith in
    ap (slice_range (laid live (4096 * place) bytes) (4096 * place)) end ∙ slice-laid_in live (4096 * place) bytes within
