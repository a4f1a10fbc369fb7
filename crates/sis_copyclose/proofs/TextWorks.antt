-- Which blocks are read for the texts of a change.
use Rattle.std.proofs.Common.{◌≡◌, ℕ, ◌+◌, ◌-◌, ◌*◌, ◌/◌, ◌%◌, ◌≤◌, refl, ap, subst, arith}
use Rattle.sis_history.specs.Needs.{reads_in}
use Rattle.sis_model.specs.declared.range.ByteRange.{ByteRange}
use Rattle.sis_model.specs.declared.reply.Hindrance.{Hindrance}
use Rattle.sis_model.specs.declared.reply.Hindrance.TheVariants as hindrance
use Rattle.sis_table.specs.Edits.{IfThere}
use Rattle.sis_table.specs.Volume.{VolumeTable, blocks_of, node_with}
use Rattle.sis_table.specs.declared.node.Node.{Node}
use Rattle.sis_volume.specs.View.{VolumeView}
use Rattle.sis_copyclose.specs.Calls.{reads_around}
use Rattle.sis_copyclose.specs.Inside.{Works}
use Rattle.sis_copyclose.specs.Reading.{HindersReading}
use Rattle.sis_copyclose.proofs.FileBytes.{there_has, there_is, there_map}
use Rattle.sis_copyclose.proofs.ReadParts.{before_reads, behind_reads, end_reads}
use Rattle.sis_copyclose.proofs.Works.{reading_wider, works_none, works_then, works_wider}

-- what reading a range of a file leaves
abbrev pub ReadWorks : VolumeView → VolumeView → ℕ → ByteRange → Type 0
ReadWorks old new file range =
    IfThere (node_with old.table file) (λ n. Works (reads_in range n) old new)

pub end_works : (old new : VolumeView) (file : ℕ) (range : ByteRange) (ends : ℕ)
    → range.at % 4096 ≡ 0 → ends ≤ 1 → range.len ≡ 4096 * ends → ReadWorks old new file range
    → Works ends old new
end_works old new file range ends start few len works =
    let it = there_is (node_with old.table file) _ works in
    works_wider (reads_in range it.0) ends old new (end_reads it.0 range ends start few len) it.2

-- why reading a range of a file failed
abbrev pub ReadShort : VolumeView → VolumeView → ℕ → ByteRange → Hindrance → Type 0
ReadShort old new file range by =
    IfThere (node_with old.table file) (λ n. HindersReading (reads_in range n) old.seen new.seen by)

pub end_short : (old new : VolumeView) (file : ℕ) (range : ByteRange) (ends : ℕ) (by : Hindrance)
    → range.at % 4096 ≡ 0 → ends ≤ 1 → range.len ≡ 4096 * ends → ReadShort old new file range by
    → HindersReading ends old.seen new.seen by
end_short old new file range ends by start few len short =
    let it = there_is (node_with old.table file) _ short in
    reading_wider (reads_in range it.0) ends old.seen old.seen new.seen by
    (end_reads it.0 range ends start few len) refl it.2

-- ---- around new bytes

abbrev pub AroundWorks : VolumeView → VolumeView → ℕ → ℕ → ℕ → Type 0
AroundWorks old new file at count =
    IfThere (node_with old.table file) (λ n. Works (reads_around n at count) old new)

pub around_none : (v : VolumeView) (file at count : ℕ) (P : Node → Type 0)
    → IfThere (node_with v.table file) P → AroundWorks v v file at count
around_none v file at count P there =
    there_map (node_with v.table file) P _
    (λ n is h. works_wider 0 (reads_around n at count) v v (omega arith) (works_none v)) there

pub around_before : (old mid : VolumeView) (file at count : ℕ) (range : ByteRange)
    → range.at ≡ 4096 * (at / 4096) → range.len ≡ at % 4096 → ReadWorks old mid file range
    → AroundWorks old mid file at count
around_before old mid file at count range start len works =
    there_map (node_with old.table file) _ _ (λ n is h.
    works_wider (reads_in range n) (reads_around n at count) old mid
    (omega (arith, before_reads n range at start len)) h) works

pub around_both : (old mid new : VolumeView) (file at count : ℕ) (first second : ByteRange)
    → first.at ≡ 4096 * (at / 4096) → first.len ≡ at % 4096 → second.at ≡ at + count
    → second.len ≡ 4096 * blocks_of (at + count) - (at + count) → ReadWorks old mid file first
    → ReadWorks mid new file second → AroundWorks old new file at count
around_both old mid new file at count first second start len begins rest one two =
    there_map (node_with old.table file) _ _ (λ n is h.
    let table = ap (λ (v : VolumeView). v.table) h.same in
    let later = subst (λ (v : VolumeTable). IfThere (node_with v file) (λ m. Works (reads_in second m) mid new)) table two in
    works_then (reads_in first n) (reads_in second n) (reads_around n at count) old mid new
    (omega (arith, before_reads n first at start len, behind_reads n second (at + count) begins rest))
    h (there_has (node_with old.table file) n (λ m. Works (reads_in second m) mid new) is later)) one

-- why it failed
abbrev pub AroundShort : VolumeView → VolumeView → ℕ → ℕ → ℕ → Hindrance → Type 0
AroundShort old new file at count by =
    IfThere (node_with old.table file)
    (λ n. HindersReading (reads_around n at count) old.seen new.seen by)

pub around_memory : (old new : VolumeView) (file at count : ℕ) (P : Node → Type 0)
    → IfThere (node_with old.table file) P → new.seen.faults ≡ old.seen.faults
    → AroundShort old new file at count hindrance.Memory
around_memory old new file at count P there quiet =
    there_map (node_with old.table file) P _ (λ n is h. quiet) there

pub before_short : (old mid : VolumeView) (file at count : ℕ) (range : ByteRange) (by : Hindrance)
    → range.at ≡ 4096 * (at / 4096) → range.len ≡ at % 4096 → ReadShort old mid file range by
    → AroundShort old mid file at count by
before_short old mid file at count range by start len short =
    there_map (node_with old.table file) _ _ (λ n is h.
    reading_wider (reads_in range n) (reads_around n at count) old.seen old.seen mid.seen by
    (omega (arith, before_reads n range at start len)) refl h) short

pub behind_short : (old mid new : VolumeView) (file at count : ℕ) (first second : ByteRange)
    (by : Hindrance) → second.at ≡ at + count
    → second.len ≡ 4096 * blocks_of (at + count) - (at + count) → ReadWorks old mid file first
    → mid.seen.faults ≡ old.seen.faults → ReadShort mid new file second by
    → AroundShort old new file at count by
behind_short old mid new file at count first second by begins rest one quiet short =
    there_map (node_with old.table file) _ _ (λ n is h.
    let table = ap (λ (v : VolumeView). v.table) h.same in
    let later =
    subst (λ (v : VolumeTable). IfThere (node_with v file)
    (λ m. HindersReading (reads_in second m) mid.seen new.seen by)) table short in
    reading_wider (reads_in second n) (reads_around n at count) old.seen mid.seen new.seen by
    (omega (arith, behind_reads n second (at + count) begins rest)) quiet
    (there_has (node_with old.table file) n
    (λ m. HindersReading (reads_in second m) mid.seen new.seen by) is later)) one

-- ---- both texts

pub text_end : (old mid : VolumeView) (file at count ends : ℕ) (P : Node → Type 0)
    → IfThere (node_with old.table file) P → Works ends old mid
    → IfThere (node_with old.table file) (λ n. Works (ends + reads_around n at count) old mid)
text_end old mid file at count ends P there works =
    there_map (node_with old.table file) P _
    (λ n is h. works_wider ends (ends + reads_around n at count) old mid (omega arith) works) there

pub text_both : (old mid new : VolumeView) (file at count ends : ℕ) → Works ends old mid
    → AroundWorks mid new file at count
    → IfThere (node_with old.table file) (λ n. Works (ends + reads_around n at count) old new)
text_both old mid new file at count ends works around =
    let table = ap (λ (v : VolumeView). v.table) works.same in
    there_map (node_with old.table file) _ _
    (λ n is h.
    works_then ends (reads_around n at count) (ends + reads_around n at count) old mid new (omega arith) works h)
    (subst (λ (v : VolumeTable). IfThere (node_with v file) (λ m. Works (reads_around m at count) mid new)) table around)

-- why they failed
pub text_end_short : (old mid : VolumeView) (file at count ends : ℕ) (by : Hindrance)
    (P : Node → Type 0) → IfThere (node_with old.table file) P
    → HindersReading ends old.seen mid.seen by
    → IfThere (node_with old.table file)
    (λ n. HindersReading (ends + reads_around n at count) old.seen mid.seen by)
text_end_short old mid file at count ends by P there short =
    there_map (node_with old.table file) P _ (λ n is h.
    reading_wider ends (ends + reads_around n at count) old.seen old.seen mid.seen by (omega arith)
    refl short) there

pub text_both_short : (old mid new : VolumeView) (file at count ends : ℕ) (by : Hindrance)
    → Works ends old mid → mid.seen.faults ≡ old.seen.faults
    → AroundShort mid new file at count by
    → IfThere (node_with old.table file)
    (λ n. HindersReading (ends + reads_around n at count) old.seen new.seen by)
text_both_short old mid new file at count ends by works quiet short =
    let table = ap (λ (v : VolumeView). v.table) works.same in
    there_map (node_with old.table file) _ _
    (λ n is h.
    reading_wider (reads_around n at count) (ends + reads_around n at count)
    old.seen mid.seen new.seen by (omega arith) quiet h)
    (subst (λ (v : VolumeTable). IfThere (node_with v file)
    (λ m. HindersReading (reads_around m at count) mid.seen new.seen by)) table short)
