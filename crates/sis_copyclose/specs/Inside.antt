-- Words that only private functions cite.
use Rattle.std.specs.Prelude.{◌≡◌, ◌≢◌, ◌⊎◌, ℕ, ◌+◌, ◌-◌, ◌*◌, ◌/◌, ◌%◌, ◌<◌, ◌≤◌, ◌==◌, nat_lt, max, true, List, [], ◌∷◌, ◌++◌, length, map, flat_map, drop, slice_range, if◌then◌else◌, Option, Some, IfSome}
use Rattle.std.specs.List.{range_with_len}
use Rattle.sis_disk.specs.Causes.{StaysUp}
use Rattle.sis_disk.specs.Layout.{first_byte}
use Rattle.sis_disk.specs.Record.{Seen, live_of}
use Rattle.sis_disk.specs.Stops.{Elapses}
use Rattle.sis_history.specs.Needs.{hindrance_of, IsUnhindered, Need, no_need, put_need, resize_need}
use Rattle.sis_journal.specs.Committing.{Both}
use Rattle.sis_model.specs.World.{overwritten, resized}
use Rattle.sis_model.specs.declared.reply.Hindrance.{Hindrance}
use Rattle.sis_model.specs.declared.reply.Hindrance.TheVariants as hindrance
use Rattle.sis_ranges.specs.declared.run.Run.{Run}
use Rattle.sis_table.specs.Changes.{AreFreeRuns, AreWritten, Resize, make_edits, places_by, resize_edits, resize_to, rewrites_end, touched_blocks}
use Rattle.sis_table.specs.Content.{content_of, files_in, run_bytes}
use Rattle.sis_table.specs.Edits.{MayMake, map_edit}
use Rattle.sis_table.specs.Kinds.{plain_node}
use Rattle.sis_table.specs.Volume.{VolumeTable, IsTable, blocks_of, greatest_number, greatest_size}
use Rattle.sis_table.specs.declared.edit.Edit.{Edit}
use Rattle.sis_table.specs.declared.edit.Edit.TheVariants as edit
use Rattle.sis_table.specs.declared.kind.NodeKind.TheVariants.{Plain}
use Rattle.sis_table.specs.declared.node.Node.{Node}
use Rattle.sis_view.specs.Reading.{OnlyReads}
use Rattle.sis_volume.specs.Stopping.{OnlyOpens, StopsWell}
use Rattle.sis_volume.specs.View.{VolumeView, spare}
use Rattle.sis_copyclose.specs.Calls.{one_if, reads_around, room_calls}
use Rattle.sis_copyclose.specs.Hindering.{Hinders}
use Rattle.sis_copyclose.specs.Operating.{EndsBy, KeepsPlaces, MadeRoom, StillUp}
use Rattle.sis_copyclose.specs.declared.plan.Plan.{Plan}
use Rattle.sis_model.specs.declared.range.ByteRange.{ByteRange}

-- ---- reading

-- Behind the old bytes stand those of the file from one up to before another.
pub record AddsBytes (v : VolumeTable) (n : Node) (at end : ℕ) (live : Option (List ℕ))
    (old new : List ℕ) : Type 0 where
  pub bytes : List ℕ
  pub added : new ≡ old ++ bytes
  pub size : length bytes ≡ end - at
  pub told : IfSome live (λ now. bytes ≡ slice_range (content_of v now n) at end)

-- At most so many bytes of the file were added. Where they are fewer, they end with a block.
pub record AddsPart (v : VolumeTable) (n : Node) (at most count : ℕ) (live : Option (List ℕ))
    (old new : List ℕ) : Type 0 where
  pub some : 1 ≤ count
  pub few : count ≤ most
  pub ends : count < most → (at + count) % 4096 ≡ 0
  pub bytes : AddsBytes v n at (at + count) live old new

-- At most so many reads went by. Where the number is 0, none was refused either.
pub record ReadsFew (most : ℕ) (old new : Seen) : Type 0 where
  pub reads : OnlyReads most old new
  pub idle : most ≡ 0 → new ≡ old

-- ---- what goes by until the table is changed

-- At most so many calls of the disk went by. They changed no byte that the table knows of, and no
-- stop leaves anything else. Where the number is 0, none was refused either.
pub record Works (most : ℕ) (old new : VolumeView) : Type 0 where
  pub same : new ≡ record old { seen = new.seen }
  pub up : StaysUp (first_byte old.table.layout) old.seen new.seen
  pub images : OnlyOpens old.seen new.seen
  pub files : files_in new.table new.seen ≡ files_in old.table old.seen
  pub places : Both (KeepsPlaces old.table) (live_of old.seen) (live_of new.seen)
  pub elapses : Elapses old.seen new.seen
  pub calls : new.seen.calls ≤ old.seen.calls + most
  pub idle : most ≡ 0 → new.seen ≡ old.seen

-- The same, but the table may have been committed before, since room was lacking.
pub record Readies (need : Need) (most : ℕ) (old new : VolumeView) : Type 0 where
  pub table : new.table ≡ old.table
  pub books : (new ≡ record old { seen = new.seen }) ⊎ MadeRoom need old new
  pub up : StillUp old new
  pub stops : StopsWell old new
  pub still : need.blocks ≤ spare old → OnlyOpens old.seen new.seen
  pub files : files_in new.table new.seen ≡ files_in old.table old.seen
  pub places : Both (KeepsPlaces old.table) (live_of old.seen) (live_of new.seen)
  pub elapses : Elapses old.seen new.seen
  pub calls : new.seen.calls ≤ old.seen.calls + (most + room_calls need old)
  pub idle : need.blocks + most ≡ 0 → new.seen ≡ old.seen

-- An operation that needs this, and leads to one of these tables, gave up so, after at most so many
-- calls beside those of a commit.
pub record GivesUp (need : Need) (MayLead : VolumeTable → Type 0) (most : ℕ) (old new : VolumeView)
    (by : Hindrance) : Type 0 where
  pub table : new.table ≡ old.table
  pub books : (new ≡ record old { seen = new.seen; down = new.down }) ⊎ MadeRoom need old new
  pub files : files_in new.table new.seen ≡ files_in old.table old.seen
  pub places : Both (KeepsPlaces old.table) (live_of old.seen) (live_of new.seen)
  pub cause : Hinders need MayLead old new by
  pub needed : by ≡ hindrance.Disk → 1 ≤ need.blocks + most
  pub stops : StopsWell old new
  pub still : need.blocks ≤ spare old → OnlyOpens old.seen new.seen
  pub goes : EndsBy old new by
  pub elapses : Elapses old.seen new.seen
  pub calls : new.seen.calls ≤ old.seen.calls + (most + room_calls need old)
  pub idle : need.blocks + most ≡ 0 → new.seen ≡ old.seen

-- blocks alone, and whether no limit comes before want of them
abbrev pub blocks_alone : ℕ → Need
blocks_alone blocks = record no_need { blocks = blocks }

abbrev pub AsksBlocks : VolumeTable → Need → Type 0
AsksBlocks v need = hindrance_of v need ≡ hindrance_of v (blocks_alone need.blocks)

-- no table
abbrev pub NoTable : VolumeTable → Type 0
NoTable v = ⊥

-- ---- changes of bytes and size

-- a file's bytes, where some are written at an offset and then the size is changed
abbrev pub changed_bytes : ℕ → ℕ → List ℕ → List ℕ → List ℕ
changed_bytes size at more old = resized size (overwritten at more old)

-- the new size, and the blocks that are mapped anew
abbrev pub resize_by : Node → ℕ → ℕ → ℕ → Resize
resize_by n size at count = resize_to n size (touched_blocks at count)

-- So many bytes are written at an offset, and the size is the least that has them; or the size
-- alone is another one.
pub record IsChange (n : Node) (size at count : ℕ) : Type 0 where
  pub plain : plain_node n ≡ true
  pub limit : size ≤ greatest_size
  pub way : ((1 ≤ count) × (size ≡ max n.size (at + count)))
      ⊎ ((count ≡ 0) × (at ≡ 0) × (size ≢ n.size))

-- the blocks of old bytes that such a change reads
abbrev pub change_reads : Node → ℕ → ℕ → ℕ → ℕ
change_reads n size at count =
    one_if (rewrites_end n size (touched_blocks at count)) + reads_around n at count

-- what of the file counts, whether the block at its old end is written, and which blocks are
-- touched
pub record IsPlan (n : Node) (size at count : ℕ) (p : Plan) : Type 0 where
  pub size_is : p.old_size ≡ n.size
  pub version_is : p.version ≡ n.version
  pub ends : p.ends ≡ (if rewrites_end n size (touched_blocks at count) then 1 else 0)
  pub first : p.first ≡ at / 4096
  pub count_is : p.count ≡ blocks_of (at + count) - at / 4096

-- These edits make the change, and the blocks were written to the places that they map.
pub record StagesChange (v : VolumeTable) (n : Node) (size at : ℕ) (more : List ℕ)
    (live : Option (List ℕ)) (edits : List Edit) : Type 0 where
  pub table : IsTable v
  pub version : n.version < greatest_number
  pub unhindered : IsUnhindered v (resize_need n (Some (resize_by n size at (length more))))
  pub sized : IfSome live (λ now. length now ≡ 4096 * v.layout.total)
  pub runs : List Run
  pub free : AreFreeRuns v (resize_by n size at (length more)).blocks runs
  pub edits_are : edits ≡ resize_edits n (Some (resize_by n size at (length more))) runs
  pub written : IfSome live (λ now. AreWritten now (resize_by n size at (length more)).blocks
      (places_by runs) (changed_bytes size at more (content_of v now n)))

-- the edits that come before those that map blocks
abbrev pub cut_by : ℕ → ℕ → ℕ → List Edit
cut_by id old size =
    if nat_lt size old
    then edit.Unmap id (blocks_of size) (blocks_of old - blocks_of size) ∷ [] else []

abbrev pub sized_by : ℕ → ℕ → ℕ → List Edit
sized_by id old size = if size == old then [] else edit.Size id size ∷ []

abbrev pub first_edits : ℕ → Plan → ℕ → List Edit
first_edits id p size =
    cut_by id p.old_size size ++ sized_by id p.old_size size
    ++ edit.Version id (p.version + 1) ∷ []

-- So many bytes of the file are there behind the old ones, zeros where it has ended.
pub record AddsOld (v : VolumeTable) (n : Node) (range : ByteRange) (live : Option (List ℕ))
    (old new : List ℕ) : Type 0 where
  pub bytes : List ℕ
  pub added : new ≡ old ++ bytes
  pub size : length bytes ≡ range.len
  pub told : IfSome live (λ now. bytes ≡ resized range.len (drop range.at (content_of v now n)))

-- what of the file stands before and behind new bytes in the blocks that they touch
abbrev pub before_text : ℕ → List ℕ → List ℕ
before_text at old = resized (at % 4096) (drop (4096 * (at / 4096)) old)

abbrev pub behind_text : ℕ → List ℕ → List ℕ
behind_text end old = resized (4096 * blocks_of end - end) (drop end old)

-- The texts of the blocks: the one at the old end, and those that the new bytes touch.
pub record AreTexts (v : VolumeTable) (n : Node) (p : Plan) (at : ℕ) (more : List ℕ)
    (live : Option (List ℕ)) (end touched : List ℕ) : Type 0 where
  pub end_size : length end ≡ 4096 * p.ends
  pub touched_size : length touched ≡ 4096 * p.count
  pub end_told : IfSome live (λ now. end
      ≡ resized (4096 * p.ends) (drop (4096 * (n.size / 4096)) (content_of v now n)))
  pub touched_told : IfSome live (λ now. touched
      ≡ before_text at (content_of v now n) ++ more
      ++ behind_text (at + length more) (content_of v now n))

-- These edits map the blocks of both texts, which were written to free places.
pub record StagesTexts (v : VolumeTable) (id : ℕ) (p : Plan) (end touched : List ℕ)
    (live : Option (List ℕ)) (old new : List Edit) : Type 0 where
  pub runs : List Run
  pub edits_are : new ≡ old ++ map (map_edit id) runs
  pub free : AreFreeRuns v
      (range_with_len (p.old_size / 4096) p.ends ++ range_with_len p.first p.count) runs
  pub written : IfSome live (λ now. flat_map (run_bytes now) runs ≡ end ++ touched)

-- ---- new files

-- These edits make the file, and its blocks were written to the places that they map.
pub record StagesFile (v : VolumeTable) (name bytes : List ℕ) (live : Option (List ℕ))
    (edits : List Edit) : Type 0 where
  pub table : IsTable v
  pub make : MayMake v v.next_id Plain name
  pub unhindered : IsUnhindered v (put_need (length bytes))
  pub sized : IfSome live (λ now. length now ≡ 4096 * v.layout.total)
  pub runs : List Run
  pub free : AreFreeRuns v (range_with_len 0 (blocks_of (length bytes))) runs
  pub edits_are : edits ≡ make_edits v.next_id name (length bytes) runs
  pub written : IfSome live (λ now. AreWritten now
      (range_with_len 0 (blocks_of (length bytes))) (places_by runs) bytes)
