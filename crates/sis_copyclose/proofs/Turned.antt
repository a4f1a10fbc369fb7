-- Writes and new sizes, once they were made.
use Rattle.std.proofs.Common.{◌≡◌, ℕ, ◌+◌, ◌*◌, ◌≤◌, Bool, true, false, cond, List, [], ◌∷◌, length, Option, None, Some, refl, sym, ap, ◌∙◌, subst, arith}
use Rattle.std.specs.Prelude.{IfSome, Ok, Result, max, ◌==◌, ◌≢◌, nat_lt}
use Rattle.std.specs.Result.{IsErrAnd}
use Rattle.std.proofs.lemmas.Bool.{cond-true, eq-eqb}
use Rattle.std.proofs.lemmas.Bool.Decides.{nat_tests}
use Rattle.sis_disk.specs.Record.{live_of}
use Rattle.sis_history.specs.Needs.{resize_need}
use Rattle.sis_model.specs.Answer.{written}
use Rattle.sis_model.specs.World.{overwritten, resized}
use Rattle.sis_model.specs.declared.reply.Hindrance.{Hindrance}
use Rattle.sis_table.specs.Changes.{Resize, rewrites_end, size_of, touched_blocks, write_of}
use Rattle.sis_table.specs.Volume.{IsTable, node_with}
use Rattle.sis_table.specs.declared.node.Node.{Node}
use Rattle.sis_volume.specs.View.{VolumeView}
use Rattle.sis_copyclose.specs.Calls.{one_if, reads_around, size_reads, write_reads}
use Rattle.sis_copyclose.specs.Changed.{IsWithResize, with_bytes}
use Rattle.sis_copyclose.specs.Inside.{GivesUp, change_reads, changed_bytes, resize_by}
use Rattle.sis_copyclose.specs.Operating.{Operates}
use Rattle.sis_copyclose.proofs.ChangeTexts.{resized_same}
use Rattle.sis_copyclose.proofs.FileBytes.{if_some, long, unchanged_in}
use Rattle.sis_copyclose.proofs.OneEdit.{nothing_done}
use Rattle.sis_copyclose.proofs.Operations.{failed_by}
use Rattle.sis_copyclose.proofs.StagedChange.{size_is, sized_whole, write_is, written_whole}

-- what an operation leaves that changes the file so, and reads so many blocks
abbrev pub Changes : {T : Type 0} → Node → (List ℕ → List ℕ) → Option Resize → ℕ
    → Result T Hindrance → VolumeView → VolumeView → Type 0
Changes n turn change reads r old new =
    Operates (resize_need n change) (IsWithResize old.table n change) (with_bytes n.name turn) reads
    r old new

-- ---- what was asked is the change

write_reads_are : (n : Node) (size at count : ℕ) → 1 ≤ count → size ≡ max n.size (at + count)
    → write_reads n at count ≡ change_reads n size at count
write_reads_are n size at count some same =
    let no : (count == 0) ≡ false = grind (arith, nat_tests) in
    ap (λ (b : Bool). cond b 0 (one_if (rewrites_end n (max n.size (at + count)) (touched_blocks at count)) + reads_around n at count)) no
    ∙ ap (λ (k : ℕ). one_if (rewrites_end n k (touched_blocks at count)) + reads_around n at count) (sym same)

size_reads_are : (n : Node) (size : ℕ) → size_reads n size ≡ change_reads n size 0 0
size_reads_are n size = omega arith

module _ {T : Type 0} (n : Node) (size at : ℕ) (more : List ℕ) (r : Result T Hindrance) (old new : VolumeView) where
  pub as_write : 1 ≤ length more → size ≡ max n.size (at + length more)
      → Changes n (written at more) (Some (resize_by n size at (length more))) (change_reads n size at (length more)) r old new
      → Changes n (written at more) (write_of n at (length more)) (write_reads n at (length more)) r old new
  as_write some same h =
      subst (λ (o : Option Resize). Changes n (written at more) o (write_reads n at (length more)) r old new)
      (sym (write_is n size at (length more) some same))
      (subst (λ (k : ℕ). Changes n (written at more) (Some (resize_by n size at (length more))) k r old new)
      (sym (write_reads_are n size at (length more) some same)) h)

  -- it gave up
  pub change_short : (turn : List ℕ → List ℕ) (by : Hindrance) → old.down ≡ None
      → IsErrAnd r (λ h. h ≡ by)
      → GivesUp (resize_need n (Some (resize_by n size at (length more))))
      (IsWithResize old.table n (Some (resize_by n size at (length more))))
      (length (resize_by n size at (length more)).blocks + change_reads n size at (length more)) old new by
      → Changes n turn (Some (resize_by n size at (length more))) (change_reads n size at (length more)) r old new
  change_short turn by up passed gives =
      failed_by (resize_need n (Some (resize_by n size at (length more))))
      (IsWithResize old.table n (Some (resize_by n size at (length more)))) (with_bytes n.name turn)
      (change_reads n size at (length more)) r old new by up passed gives

pub as_size : {T : Type 0} (n : Node) (size : ℕ) (r : Result T Hindrance) (old new : VolumeView)
    → size ≢ n.size
    → Changes n (resized size) (Some (resize_by n size 0 0)) (change_reads n size 0 0) r old new
    → Changes n (resized size) (size_of n size) (size_reads n size) r old new
as_size n size r old new other h =
    subst (λ (o : Option Resize). Changes n (resized size) o (size_reads n size) r old new)
    (sym (size_is n size 0 0 refl refl other))
    (subst (λ (k : ℕ). Changes n (resized size) (Some (resize_by n size 0 0)) k r old new)
    (sym (size_reads_are n size)) h)

-- the bytes that the changes make
pub turns_write : (n : Node) (size at : ℕ) (more live : List ℕ) → 1 ≤ length more
    → size ≡ max n.size (at + length more) → length live ≡ n.size
    → changed_bytes size at more live ≡ written at more live
turns_write n size at more live some same whole =
    let yes : nat_lt 0 (length more) ≡ true = grind (arith, nat_tests) in
    written_whole n size at more live whole some same
    ∙ sym (ap (λ (b : Bool). cond b (overwritten at more live) live) yes)

pub turns_size : (size : ℕ) (live : List ℕ) → changed_bytes size 0 [] live ≡ resized size live
turns_size size live = sized_whole size 0 [] live refl refl

-- ---- nothing is asked

module _ (v : VolumeView) (n : Node) (up : v.down ≡ None) (table : IsTable v.table) (is : node_with v.table n.id ≡ Some n) where
  same_table : IsWithResize v.table n None v.table
  same_table = ([], record { size = refl; free = refl }, refl)

  no_bytes_in : (at : ℕ) (bytes : List ℕ) → length bytes ≡ 0
      → Changes {T = Unit {0}} n (written at bytes) (write_of n at (length bytes)) (write_reads n at (length bytes)) (Ok tt) v v
  no_bytes_in at [] none =
      nothing_done (IsWithResize v.table n None) (with_bytes n.name (written at [])) 0 v tt up table
      same_table (λ live told. unchanged_in v.table n table is live (written at []) refl)
  no_bytes_in at (b ∷ bytes) none = absurd (omega (arith, none))

  pub nothing_written : (at : ℕ) (bytes : List ℕ) → length bytes ≡ 0
      → Changes {T = Unit {0}} n (written at bytes) (write_of n at (length bytes)) (write_reads n at (length bytes)) (Ok tt) v v
  nothing_written at bytes none = no_bytes_in at bytes none

  pub same_size : (size : ℕ) → IfSome (live_of v.seen) (λ m. length m ≡ 4096 * v.table.layout.total) → n.size ≡ size
      → Changes {T = Unit {0}} n (resized size) (size_of n size) (size_reads n size) (Ok tt) v v
  same_size size sized same =
      let none : size_of n size ≡ None =
      cond-true (size == n.size) None _ (eq-eqb size n.size (sym same)) in
      subst (λ (o : Option Resize). Changes {T = Unit {0}} n (resized size) o (size_reads n size) (Ok tt) v v) (sym none)
      (nothing_done (IsWithResize v.table n None) (with_bytes n.name (resized size)) (size_reads n size) v tt up table
      same_table (λ live told.
      unchanged_in v.table n table is live (resized size)
      (resized_same size _ (long v.table n table is live (if_some (live_of v.seen) (λ m. length m ≡ 4096 * v.table.layout.total) live told sized) ∙ same))))
