-- Stages and rows of client 1, for cases that are worked out by hand.
use Rattle.std.specs.Prelude.{ℕ, ◌==◌, true, false, if◌then◌else◌, List, [], ◌∷◌, length, nat_lt, replicate, Option, None, Some}
use Rattle.std.specs.FinMap as map
use Rattle.std.specs.FinMap.{FinMap}
use Rattle.std.specs.Ordering.{nat_cmp}
use Rattle.sis_disk.specs.Record.{Call, Writes, Syncs, Seen}
use Rattle.sis_disk.specs.declared.layout.Layout.{Layout}
use Rattle.sis_model.specs.World.{World, OpenFile, content, overwritten, unopened, with_file, without_file}
use Rattle.sis_model.specs.declared.command.Command.{Command}
use Rattle.sis_model.specs.declared.command.Command.TheVariants as command
use Rattle.sis_model.specs.declared.reply.Fate.{Fate}
use Rattle.sis_model.specs.declared.reply.Hindrance.TheVariants as hindrance
use Rattle.sis_model.specs.declared.reply.Reply.{Reply}
use Rattle.sis_model.specs.declared.reply.Reply.TheVariants as reply
use Rattle.sis_model.specs.declared.unsettled.UnsettledFile.{UnsettledFile}
use Rattle.sis_table.specs.Volume.{VolumeTable}
use Rattle.sis_table.specs.declared.kind.NodeKind.TheVariants.{Plain}
use Rattle.sis_table.specs.declared.node.Node.{Node}
use Rattle.sis_history.specs.Rows.{Row, Enters, Fails}
use Rattle.sis_history.specs.Stage.{Job, Stage}

-- ---- parts

-- an image of 16 blocks, whose data blocks begin at place 6
abbrev pub image : Layout
image = record { total = 16; area = 2; log = 0; letter = 67 }

abbrev pub table_of : ℕ → List Node → VolumeTable
table_of next nodes = record { layout = image; next_id = next; greatest = 0; nodes = nodes }

abbrev pub plain : ℕ → List ℕ → ℕ → ℕ → FinMap nat_cmp ℕ → Node
plain id name size version m =
    record { id = id; name = name; kind = Plain; size = size; version = version; map = m }

abbrev pub name_a : List ℕ
name_a = 97 ∷ []

-- a file of one byte, whose block lies at place 6
abbrev pub block_at_6 : FinMap nat_cmp ℕ
block_at_6 = map.from_sorted ((0, 6) ∷ [])

abbrev pub table_with_a : VolumeTable
table_with_a = table_of 2 (plain 1 name_a 1 1 block_at_6 ∷ [])

abbrev pub world_with_a : List OpenFile → World
world_with_a opens =
    record { letter = 67; files = map.from_sorted ((name_a, 97 ∷ []) ∷ []); opens = opens }

-- the client's open number 1 of that file, which may write
abbrev pub writer : ℕ → OpenFile
writer client = record { client = client; number = 1; name = name_a; writes = true }

-- a disk that tells nothing, and one that tells its calls
abbrev pub untold : ℕ → Seen
untold calls = record { size = 65536; calls = calls; faults = 0; told = None }

abbrev pub told : ℕ → List Call → Seen
told faults calls = record {
  size = 65536;
  calls = length calls;
  faults = faults;
  told = Some (record { opening = []; calls = calls });
}

-- what client 1 has, and what the others have
abbrev pub one : {A : Type 0} → A → A → ℕ → A
one mine others client = if client == 1 then mine else others

-- the table was edited since the last commit
abbrev pub stage : World → VolumeTable → Seen → Option ℕ → Option Job → Stage
stage w v seen down job = record {
  world = w;
  table = v;
  is_changed = true;
  seen = seen;
  down = down;
  jobs = one job None;
  stales = λ client. [];
}

-- all was committed
abbrev pub saved : Stage → Stage
saved s = record s { is_changed = false }

-- client 1 has this command in hand
abbrev pub job_on : Command → Option Job
job_on c =
    Some (record { command = c; notes = []; looks = 0; detached = false; grovel = None })

-- client 1's command is decided and answered by call `calls`, and took these places
abbrev pub enters : Command → Reply → ℕ → List ℕ → Row
enters c r calls places =
    Enters (record { client = 1; command = c; reply = r; decided = calls; answered = calls })
    (record { places = places })

-- ---- a put of three bytes

abbrev pub put_abc : Command
put_abc = command.Put name_a (97 ∷ 98 ∷ 99 ∷ [])

abbrev pub no_files : World
no_files = unopened 67 map.empty

abbrev pub before_put : Stage
before_put = stage no_files (table_of 1 []) (untold 0) None (job_on put_abc)

abbrev pub put_row : Row
put_row = enters put_abc reply.Done 1 (6 ∷ [])

abbrev pub after_put : Stage
after_put =
    stage (with_file no_files name_a (97 ∷ 98 ∷ 99 ∷ []))
    (table_of 2 (plain 1 name_a 3 1 (map.insert map.empty 0 6) ∷ [])) (untold 1) None None

-- ---- a put whose data can't be written

-- the block at place 6 is written, and the call fails
abbrev pub data_calls : List Call
data_calls = Writes 24576 (97 ∷ []) false ∷ []

abbrev pub put_stage : Seen → Option Job → Stage
put_stage seen job = stage no_files (table_of 1 []) seen None job

abbrev pub disk_row : Row
disk_row = enters put_abc (reply.Hindered hindrance.Disk) 1 []

-- ---- a write of one byte far behind the end

abbrev pub write_far : Command
write_far = command.Write 1 8192 (98 ∷ [])

abbrev pub before_write : Stage
before_write =
    stage (world_with_a (writer 1 ∷ [])) table_with_a (untold 5) None (job_on write_far)

-- two blocks go to these places: the one at the old end, and the one that the byte touches
abbrev pub write_row : List ℕ → Row
write_row places = enters write_far reply.Done 7 places

abbrev pub map_after_write : FinMap nat_cmp ℕ
map_after_write =
    map.retain_keys (map.insert (map.insert block_at_6 0 7) 2 8) (λ block. nat_lt block 3)

abbrev pub after_write : Stage
after_write =
    stage (with_file (world_with_a (writer 1 ∷ [])) name_a
    (overwritten 8192 (98 ∷ []) (content (world_with_a (writer 1 ∷ [])) name_a)))
    (table_of 2 (plain 1 name_a 8193 2 map_after_write ∷ [])) (untold 7) None None

-- ---- a write without bytes, where all was committed

abbrev pub write_nothing : Command
write_nothing = command.Write 1 8192 []

abbrev pub before_nothing : Stage
before_nothing =
    saved (stage (world_with_a (writer 1 ∷ [])) table_with_a (untold 5) None
    (job_on write_nothing))

abbrev pub nothing_row : Row
nothing_row = enters write_nothing reply.Done 5 []

abbrev pub after_nothing : Stage
after_nothing =
    saved (stage (with_file (world_with_a (writer 1 ∷ [])) name_a
    (content (world_with_a (writer 1 ∷ [])) name_a))
    table_with_a (untold 5) None None)

-- ---- a file of two blocks, the second of which is a hole

abbrev pub world_with_hole : World
world_with_hole = record (world_with_a (writer 1 ∷ [])) {
  files = map.from_sorted ((name_a, 97 ∷ replicate 8191 0) ∷ []);
}

abbrev pub before_hole : Stage
before_hole =
    stage world_with_hole (table_of 2 (plain 1 name_a 8192 1 block_at_6 ∷ [])) (untold 5) None None

-- ---- a close of a file that client 2 may write

abbrev pub before_close : Stage
before_close =
    stage (world_with_a (writer 1 ∷ writer 2 ∷ [])) table_with_a (untold 5) None
    (job_on (command.Close 1))

abbrev pub close_row : Fate → Row
close_row f = enters (command.Close 1) (reply.Closed f) 9 []

abbrev pub after_close : Stage
after_close = saved (stage (world_with_a (writer 2 ∷ [])) table_with_a (untold 9) None None)

-- ---- an end of a client that has a file open

abbrev pub before_end : Stage
before_end =
    stage (world_with_a (writer 1 ∷ writer 2 ∷ [])) table_with_a (untold 5) None
    (job_on command.End)

abbrev pub end_row : List UnsettledFile → Row
end_row files = enters command.End (reply.Ended 1 files) 9 []

-- the file would be left with a block to take
abbrev pub a_is_unsettled : UnsettledFile
a_is_unsettled = record { name = name_a; left = 1; cause = hindrance.Disk }

abbrev pub after_end : Stage
after_end = saved (stage (world_with_a (writer 2 ∷ [])) table_with_a (untold 9) None None)

-- ---- a rename

abbrev pub name_b : List ℕ
name_b = 98 ∷ []

abbrev pub rename_a : Command
rename_a = command.Rename name_a name_b

abbrev pub before_rename : Stage
before_rename = stage (world_with_a []) table_with_a (untold 5) None (job_on rename_a)

-- it is decided by so many calls of the disk
abbrev pub rename_row : ℕ → Row
rename_row calls = enters rename_a reply.Done calls []

abbrev pub after_rename : ℕ → Stage
after_rename calls =
    stage (with_file (without_file (world_with_a []) name_a) name_b
    (content (world_with_a []) name_a))
    (table_of 2 (plain 1 name_b 1 1 block_at_6 ∷ [])) (untold calls) None None

-- ---- a sync whose commit fails

-- the area is written, and its sync fails
abbrev pub commit_calls : List Call
commit_calls = Writes 8192 (1 ∷ []) true ∷ Syncs false ∷ []

abbrev pub sync_stage : Seen → Option ℕ → Option Job → Stage
sync_stage seen down job = stage (world_with_a []) table_with_a seen down job

abbrev pub fail_row : Row
fail_row = Fails 1 None 1

abbrev pub down_row : Row
down_row = enters command.Sync (reply.Hindered (hindrance.Down 1)) 2 []

-- ---- a sync where all was committed

abbrev pub before_sync : Stage
before_sync = saved (sync_stage (untold 5) None (job_on command.Sync))

-- it is decided by so many calls of the disk
abbrev pub sync_row : ℕ → Row
sync_row calls = enters command.Sync reply.Done calls []

abbrev pub after_sync : ℕ → Stage
after_sync calls = saved (sync_stage (untold calls) None None)
