-- What reading gives, and what it leaves.
use Rattle.std.specs.Prelude.{◌≡◌, ℕ, ◌+◌, ◌-◌, ◌≤◌, min, List, ◌++◌, length, take, drop, Option, None, IfSome, Result, Err, IfErr, OnErr, OnOk}
use Rattle.sis_disk.specs.Record.{Rose, Seen}
use Rattle.sis_model.specs.declared.reply.Hindrance.{Hindrance}
use Rattle.sis_model.specs.declared.reply.Hindrance.TheVariants as hindrance
use Rattle.sis_table.specs.Content.{content_of}
use Rattle.sis_table.specs.Volume.{VolumeTable}
use Rattle.sis_table.specs.declared.node.Node.{Node}
use Rattle.sis_view.specs.Reading.{OnlyReads}
use Rattle.sis_volume.specs.View.{VolumeView}
use Rattle.sis_model.specs.declared.range.ByteRange.{ByteRange}

-- the bytes of a range, as far as there are some
abbrev pub range_of : ByteRange → List ℕ → List ℕ
range_of range bytes = take range.len (drop range.at bytes)

-- Behind the old bytes stand those of the file in the range, as far as it goes.
pub record Appends (v : VolumeTable) (n : Node) (range : ByteRange) (live : Option (List ℕ))
    (old new : List ℕ) : Type 0 where
  pub bytes : List ℕ
  pub appended : new ≡ old ++ bytes
  pub size : length bytes ≡ min range.len (n.size - range.at)
  pub told : IfSome live (λ now. bytes ≡ range_of range (content_of v now n))

-- Why reading may fail on a volume that is up, where it makes at most so many calls: want of
-- memory, where no call failed, or one fault of the disk, where there may be a call.
abbrev pub HindersReading : ℕ → Seen → Seen → Hindrance → Type 0
HindersReading most old new hindrance.Memory = new.faults ≡ old.faults
HindersReading most old new hindrance.Disk =
    (1 ≤ most) × Rose old.faults new.faults × (new.faults ≤ old.faults + 1)
HindersReading most old new (hindrance.Limit kind) = ⊥
HindersReading most old new (hindrance.Full needed used total) = ⊥
HindersReading most old new (hindrance.TableFull needed cap) = ⊥
HindersReading most old new (hindrance.Down at) = ⊥

-- At most so many calls of the disk went by, all of them reads, and the volume is as it was. Where
-- the number is 0, none was refused either. The count of faults rises only where reading failed,
-- and by one at most.
pub record OnlyLooks {T : Type 0} (most : ℕ) (result : Result T Hindrance)
    (old new : VolumeView) : Type 0 where
  pub same : new ≡ record old { seen = new.seen }
  pub reads : OnlyReads most old.seen new.seen
  pub idle : most ≡ 0 → new.seen ≡ old.seen
  pub quiet : OnOk result (new.seen.faults ≡ old.seen.faults)
  pub once : OnErr result (new.seen.faults ≤ old.seen.faults + 1)
  pub cause : old.down ≡ None → IfErr result (HindersReading most old.seen new.seen)
  pub down : IfSome old.down (λ at. (result ≡ Err (hindrance.Down at)) × (new ≡ old))
