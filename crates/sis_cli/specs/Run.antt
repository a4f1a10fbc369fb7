-- What a run may answer, and what it leaves.
use Rattle.std.specs.Prelude.{◌≡◌, ◌≢◌, ◌⊎◌, ℕ, ◌*◌, ◌+◌, ◌≤◌, true, false, List, [], map, All, ⊤}
use Rattle.std.specs.Prelude.{Option, Some, None, IfSome, Result, Ok, Err}
use Rattle.std.specs.Option.{option_map}
use Rattle.sis_disk.specs.Record.{DiskRecord, Seen, SyncsAt, Rose, laid, live_of}
use Rattle.sis_disk.specs.declared.layout.Layout.{Layout}
use Rattle.sis_disk.specs.declared.layout.ImageKind.TheVariants as image
use Rattle.sis_disk.specs.Streams.{Appended, AppendedFront}
use Rattle.sis_model.specs.World.{World}
use Rattle.sis_model.specs.History.{IsLegal, world_after}
use Rattle.sis_model.specs.Order.{IsTurnOrder, TakeOneTurn, without_ends}
use Rattle.sis_model.specs.Order.{calls_of, exec_order, expected_calls, line_of}
use Rattle.sis_model.specs.declared.history.Entry.{Entry}
use Rattle.sis_model.specs.declared.history.Line.{Line}
use Rattle.sis_script.specs.Printed.{printed}
use Rattle.sis_script.specs.Script.{Parts, script_of, IsClient, IsBuilt}
use Rattle.sis_script.specs.declared.faults.ScriptFault.TheVariants as script
use Rattle.sis_table.specs.Volume.{VolumeTable, empty_table, IsTable}
use Rattle.sis_table.specs.Content.{StandsFor}
use Rattle.sis_table.specs.Spelling.{spelling}
use Rattle.sis_table.specs.Good.{IsGood, first_defect}
use Rattle.sis_table.specs.Image.{Holds, image_at}
use Rattle.sis_script.specs.Taken.{TakesAtMost}
use Rattle.sis_script.specs.declared.limits.TheConstants.{MOST_SCRIPT_BYTES}
use Rattle.sis_history.specs.Appearing.{AppearsLegal}
use Rattle.sis_history.specs.Entering.{any_down}
use Rattle.sis_history.specs.Runs.{HasRun}
use Rattle.sis_history.specs.Stage.{Stage}
use Rattle.sis_history.specs.Stops.{AreInOrder, SurvivesStops}
use Rattle.sis_journal.specs.Opening.{IsSynced, SyncThenReads}
use Rattle.sis_journal.specs.Formatting.{EndsInSync, new_blocks}
use Rattle.sis_core.specs.Opening.{Starts}
use Rattle.sis_cli.specs.Words.{Words, Fault}
use Rattle.sis_cli.specs.Exit.{risen, length_at}
use Rattle.sis_cli.specs.declared.usage.Verb.{Verb}
use Rattle.sis_cli.specs.declared.usage.Verb.TheVariants as verb
use Rattle.sis_cli.specs.declared.exit.Exit.{Exit}
use Rattle.sis_cli.specs.declared.exit.Exit.TheVariants as exit

-- ---- verbs

-- P for the verbs that run a script, and Q for `format`
abbrev pub ScriptOrFormat : Verb → Type 0 → Type 0 → Type 0
ScriptOrFormat verb.Exec P Q = P
ScriptOrFormat verb.Replay P Q = P
ScriptOrFormat verb.Format P Q = Q

-- P where the words ask for a script to be run, and else Q
abbrev pub IfScript : Result Words Fault → Type 0 → Type 0 → Type 0
IfScript (Ok words) P Q = ScriptOrFormat words.verb P Q
IfScript (Err fault) P Q = Q

-- P holds of the layout where the words ask for an image to be formatted
abbrev pub IfFormat : Result Words Fault → (Layout → Type 0) → Type 0
IfFormat (Ok words) P = IfSome words.layout P
IfFormat (Err fault) P = ⊤

-- ---- what was accepted

-- where the source tells its bytes, they are a script
abbrev pub IsScript : Option (List ℕ) → Type 0
IsScript left = IfSome left (λ bytes. (parts : Parts) × (script_of bytes ≡ Ok parts))

-- where the disk tells its bytes, they are an image, and its files go together
abbrev pub IsGoodImage : Option (List ℕ) → Type 0
IsGoodImage live = IfSome live (λ m. (v : VolumeTable) × (image_at m ≡ Ok v) × IsGood v)

-- The counts of faults of disk, source and sink, before a run and after it.
pub record Counts : Type 0 where
  pub disk : ℕ
  pub disk_now : ℕ
  pub source : ℕ
  pub source_now : ℕ
  pub sink : ℕ
  pub sink_now : ℕ

-- ---- why a run ends so

-- why a script ends so: it is judged first, then the image, then the run, then the output
abbrev pub ScriptCause : Option (List ℕ) → Option (List ℕ) → Counts → Exit → Type 0
ScriptCause left live n exit.Done = IsScript left × IsGoodImage live
ScriptCause left live n (exit.Usage at kind) = ⊥
ScriptCause left live n (exit.Script line kind) =
    IfSome left (λ bytes. script_of bytes ≡ Err (script.Line line kind))
ScriptCause left live n (exit.ScriptLimit kind count) =
    IfSome left (λ bytes. script_of bytes ≡ Err (script.Limit kind count))
ScriptCause left live n (exit.Image at kind) =
    IsScript left × IfSome live (λ m. image_at m ≡ Err (at, kind))
ScriptCause left live n (exit.Bad kind file index) =
    IsScript left × IfSome live (λ m. (v : VolumeTable) × (image_at m ≡ Ok v)
    × (first_defect v ≡ Some (kind, file, index)))
ScriptCause left live n (exit.Disk count) =
    IsScript left × Rose n.disk n.disk_now × (count ≡ risen n.disk n.disk_now)
ScriptCause left live n exit.Sink = IsScript left × IsGoodImage live × Rose n.sink n.sink_now
ScriptCause left live n exit.Source = Rose n.source n.source_now
ScriptCause left live n exit.Memory = ⊤

-- why a disk of this size is not formatted so, or is
abbrev pub FormatCause : Layout → ℕ → ℕ → ℕ → Exit → Type 0
FormatCause l size faults faults_now exit.Done = size ≡ 4096 * l.total
FormatCause l size faults faults_now (exit.Image at kind) =
    (size ≢ 4096 * l.total) × (at ≡ length_at size) × (kind ≡ image.Length)
FormatCause l size faults faults_now (exit.Disk count) =
    (size ≡ 4096 * l.total) × Rose faults faults_now × (count ≡ risen faults faults_now)
FormatCause l size faults faults_now exit.Memory = ⊤
FormatCause l size faults faults_now (exit.Usage at kind) = ⊥
FormatCause l size faults faults_now (exit.Script line kind) = ⊥
FormatCause l size faults faults_now (exit.ScriptLimit kind count) = ⊥
FormatCause l size faults faults_now (exit.Bad kind file index) = ⊥
FormatCause l size faults faults_now exit.Sink = ⊥
FormatCause l size faults faults_now exit.Source = ⊥

-- Why a run ends so. The words are judged first.
abbrev pub ExitCause : Result Words Fault → Option (List ℕ) → Option (List ℕ) → ℕ → Counts → Exit
    → Type 0
ExitCause (Err (at, kind)) left live size n status = status ≡ exit.Usage at kind
ExitCause (Ok words) left live size n status =
    ScriptOrFormat words.verb (ScriptCause left live n status)
    (IfSome words.layout (λ l. FormatCause l size n.disk n.disk_now status))

-- ---- what ends well

-- The source tells a script and the disk an image that is opened, and none of disk, source and sink
-- failed.
pub record MayRunScript (left live : Option (List ℕ)) (n : Counts) : Type 0 where
  pub script : (bytes : List ℕ) × (left ≡ Some bytes) × IsScript (Some bytes)
  pub image : (m : List ℕ) × (live ≡ Some m) × IsGoodImage (Some m)
  pub disk : ¬ Rose n.disk n.disk_now
  pub source : ¬ Rose n.source n.source_now
  pub sink : ¬ Rose n.sink n.sink_now

-- The disk has the layout's length, and it didn't fail.
pub record MayFormat (l : Layout) (size : ℕ) (n : Counts) : Type 0 where
  pub length : size ≡ 4096 * l.total
  pub disk : ¬ Rose n.disk n.disk_now

-- the words are a command, what it reads is accepted, and nothing failed
abbrev pub IsAccepted : Result Words Fault → Option (List ℕ) → Option (List ℕ) → ℕ → Counts → Type 0
IsAccepted (Err fault) left live size n = ⊥
IsAccepted (Ok words) left live size n =
    ScriptOrFormat words.verb (MayRunScript left live n)
    ((l : Layout) × (words.layout ≡ Some l) × MayFormat l size n)

-- ---- what a script does

-- In which order a verb runs the lines of a script: `exec` in the script's, each client's end right
-- behind its last line; `replay` by turns, where each line takes one turn.
abbrev pub RunsInOrder : Verb → Parts → List Line → Type 0
RunsInOrder verb.Exec parts ran = ran ≡ exec_order parts.lines
RunsInOrder verb.Replay parts ran =
    TakeOneTurn parts.lines → IsTurnOrder parts.lines parts.schedule (without_ends ran)
RunsInOrder verb.Format parts ran = ran ≡ []

-- The entries are those of the script's lines and of its clients' ends: each client's calls, each
-- once, in the order that the verb has.
pub record RunsLines (asked : Verb) (parts : Parts) (entries : List Entry) : Type 0 where
  pub order : RunsInOrder asked parts (map line_of entries)
  pub calls : (client : ℕ) → calls_of entries client ≡ expected_calls parts.lines client

-- The entries are those of a script. It is what some bytes say, and these are the source's, where
-- it tells them.
pub record RunsScript (asked : Verb) (left : Option (List ℕ)) (entries : List Entry)
    : Type 0 where
  pub bytes : List ℕ
  pub told : IfSome left (λ told. bytes ≡ told)
  pub parts : Parts
  pub is_script : script_of bytes ≡ Ok parts
  pub clients : All (λ l. IsClient l.client) parts.lines
  pub built : All (λ l. IsBuilt l.command) parts.lines
  pub runs : RunsLines asked parts entries

-- Which entries a run of a script has that ended so: the script's calls, or none where it ended
-- before the first of them.
abbrev pub CallsOfScript : Verb → Exit → Option (List ℕ) → List Entry → Type 0
CallsOfScript v exit.Done left entries = RunsScript v left entries
CallsOfScript v (exit.Usage at kind) left entries = entries ≡ []
CallsOfScript v (exit.Script line kind) left entries = entries ≡ []
CallsOfScript v (exit.ScriptLimit kind count) left entries = entries ≡ []
CallsOfScript v (exit.Image at kind) left entries = entries ≡ []
CallsOfScript v (exit.Bad kind file index) left entries = entries ≡ []
CallsOfScript v (exit.Disk count) left entries = RunsScript v left entries ⊎ (entries ≡ [])
CallsOfScript v exit.Sink left entries = RunsScript v left entries
CallsOfScript v exit.Source left entries = entries ≡ []
CallsOfScript v exit.Memory left entries = RunsScript v left entries ⊎ (entries ≡ [])

-- Which entries a run has that ended so. Words that ask for no script have none.
abbrev pub HasCalls : Result Words Fault → Exit → Option (List ℕ) → List Entry → Type 0
HasCalls (Err fault) status left entries = entries ≡ []
HasCalls (Ok words) status left entries =
    ScriptOrFormat words.verb (CallsOfScript words.verb status left entries) (entries ≡ [])

-- The disk was opened and not called any more: by a sync that succeeded and at most four reads, and
-- none of them failed.
pub record IsOnlyOpened (old new : Seen) : Type 0 where
  pub reads : SyncThenReads 4 old new
  pub synced : IsSynced old new
  pub quiet : new.faults ≡ old.faults

-- The disk failed while it was opened: the sync and the reads had one fault at most, and no call
-- came behind a sync that failed.
pub record FailsOpening (old new : Seen) : Type 0 where
  pub reads : SyncThenReads 4 old new
  pub once : new.faults ≤ old.faults + 1

-- What a run of a script did to the disk that ended so. Where the script was refused, nothing;
-- where the image was refused, or there are no entries, it was opened, or failed while it was.
abbrev pub SparesScript : Exit → Seen → Seen → List Entry → Type 0
SparesScript exit.Done old new entries = entries ≡ [] → IsOnlyOpened old new
SparesScript (exit.Usage at kind) old new entries = new ≡ old
SparesScript (exit.Script line kind) old new entries = new ≡ old
SparesScript (exit.ScriptLimit kind count) old new entries = new ≡ old
SparesScript (exit.Image at kind) old new entries = IsOnlyOpened old new
SparesScript (exit.Bad kind file index) old new entries = IsOnlyOpened old new
SparesScript (exit.Disk count) old new entries = entries ≡ [] → FailsOpening old new
SparesScript exit.Sink old new entries = entries ≡ [] → IsOnlyOpened old new
SparesScript exit.Source old new entries = new ≡ old
SparesScript exit.Memory old new entries = entries ≡ [] → (new ≡ old) ⊎ IsOnlyOpened old new

-- What a format did to the disk that ended so: nothing where it has another length, or memory ran
-- out, and else at most two calls, of which none failed, or one where it ended in `Disk`.
abbrev pub SparesFormat : Exit → Seen → Seen → Type 0
SparesFormat exit.Done old new = (new.calls ≤ old.calls + 2) × (new.faults ≡ old.faults)
SparesFormat (exit.Disk count) old new =
    (new.calls ≤ old.calls + 2) × (new.faults ≤ old.faults + 1)
SparesFormat (exit.Image at kind) old new = new ≡ old
SparesFormat exit.Memory old new = new ≡ old
SparesFormat (exit.Usage at kind) old new = ⊥
SparesFormat (exit.Script line kind) old new = ⊥
SparesFormat (exit.ScriptLimit kind count) old new = ⊥
SparesFormat (exit.Bad kind file index) old new = ⊥
SparesFormat exit.Sink old new = ⊥
SparesFormat exit.Source old new = ⊥

-- What a run did to the disk that ended so. Words that are no command leave it as it was.
abbrev pub Spares : Result Words Fault → Exit → Seen → Seen → List Entry → Type 0
Spares (Err fault) status old new entries = new ≡ old
Spares (Ok words) status old new entries =
    ScriptOrFormat words.verb (SparesScript status old new entries) (SparesFormat status old new)

-- A script takes at most so much of the source as it may hold, and one byte; at `Done` all of it.
pub record TakesScript (status : Exit) (left left_now : Option (List ℕ)) : Type 0 where
  pub most : TakesAtMost (MOST_SCRIPT_BYTES + 1) left left_now
  pub all : status ≡ exit.Done → IfSome left (λ bytes. left_now ≡ Some [])

-- P holds where all output was written: not where the sink failed, or memory ran out
abbrev pub WritesAll : Exit → Type 0 → Type 0
WritesAll exit.Done P = P
WritesAll (exit.Usage at kind) P = P
WritesAll (exit.Script line kind) P = P
WritesAll (exit.ScriptLimit kind count) P = P
WritesAll (exit.Image at kind) P = P
WritesAll (exit.Bad kind file index) P = P
WritesAll (exit.Disk count) P = P
WritesAll exit.Sink P = ⊤
WritesAll exit.Source P = P
WritesAll exit.Memory P = ⊤

-- P holds where the lines ran, and no commit failed
abbrev pub IfUp : Exit → List Entry → Type 0 → Type 0
IfUp exit.Done entries P = P
IfUp (exit.Usage at kind) entries P = ⊤
IfUp (exit.Script line kind) entries P = ⊤
IfUp (exit.ScriptLimit kind count) entries P = ⊤
IfUp (exit.Image at kind) entries P = ⊤
IfUp (exit.Bad kind file index) entries P = ⊤
IfUp (exit.Disk count) entries P = ⊤
IfUp exit.Sink entries P = any_down entries ≡ false → P
IfUp exit.Source entries P = ⊤
IfUp exit.Memory entries P = entries ≢ [] → any_down entries ≡ false → P

-- The image holds this table, whose files go together, and it stands for these files.
pub record HoldsFiles (m : List ℕ) (v : VolumeTable) (w : World) : Type 0 where
  pub holds : Holds m v
  pub good : IsGood v
  pub stands : StandsFor v m w.files

-- The table that was opened is one, of the disk's length, and its files go together. The disk was
-- called no more than opening does.
pub record IsOpened (v : VolumeTable) (old opened : Seen) : Type 0 where
  pub table : IsTable v
  pub good : IsGood v
  pub length : old.size ≡ 4096 * v.layout.total
  pub only : IsOnlyOpened old opened

-- What is to be known of a run that ended so for each stop to be survived: nothing where the lines
-- ran, and else that the image is one that opens. Where the disk failed without entries, it may
-- have failed at the sync with which opening begins: then that one has to have succeeded.
abbrev pub HasOpened : Exit → Seen → DiskRecord → List Entry → Type 0
HasOpened exit.Done old now entries = ⊤
HasOpened (exit.Usage at kind) old now entries = IsGoodImage (live_of old)
HasOpened (exit.Script line kind) old now entries = IsGoodImage (live_of old)
HasOpened (exit.ScriptLimit kind count) old now entries = IsGoodImage (live_of old)
HasOpened (exit.Image at kind) old now entries = IsGoodImage (live_of old)
HasOpened (exit.Bad kind file index) old now entries = IsGoodImage (live_of old)
HasOpened (exit.Disk count) old now entries =
    (entries ≢ []) ⊎ (IsGoodImage (live_of old) × SyncsAt old.calls now)
HasOpened exit.Sink old now entries = ⊤
HasOpened exit.Source old now entries = IsGoodImage (live_of old)
HasOpened exit.Memory old now entries = (entries ≢ []) ⊎ IsGoodImage (live_of old)

-- One history of separate files: a run of rows leads from the files and the table of the opening
-- image, and from what was seen of the disk once it was opened, to the last stage, and has these
-- entries. They are legal where the disk tells its calls, and else but for which bytes were read.
-- In the end nobody has a command in hand, and the table is one again, whose files go together.
-- Where no commit failed, the last live bytes hold what came of files and table. Stopped at any
-- call behind opening's first, whether a commit failed or not, the disk is left with an image that
-- opens as the files after some of the entries: all that were sure by then are among them.
pub record IsHistory (old new : Seen) (status : Exit) (entries : List Entry) : Type 0 where
  pub world : World
  pub table : VolumeTable
  pub opened : Seen
  pub last : Stage
  pub starts : Starts (live_of old) world table
  pub first : entries ≢ [] → IsOpened table old opened
  pub run : HasRun world table opened entries last
  pub seen : last.seen ≡ new
  pub idle : (client : ℕ) → last.jobs client ≡ None
  pub after : last.world ≡ world_after world entries
  pub ends : entries ≢ [] → IsTable last.table × IsGood last.table
  pub legal : (r : DiskRecord) → new.told ≡ Some r → IsLegal world entries
  pub appears : AppearsLegal world entries
  pub order : AreInOrder entries
  pub image : IfUp status entries
      (IfSome (live_of new) (λ m. HoldsFiles m last.table (world_after world entries)))
  pub stops : (before now : DiskRecord) → old.told ≡ Some before → new.told ≡ Some now
      → HasOpened status old now entries
      → SurvivesStops (old.calls + 1) world entries now

-- A run ends in `Done` only where no commit failed, and in `Disk` only where one did, or where the
-- disk failed while it was opened, so that there are no entries. A fault of the sink, and want of
-- memory, decide over a commit that failed.
abbrev pub TellsDown : Exit → List Entry → Type 0
TellsDown exit.Done entries = any_down entries ≡ false
TellsDown (exit.Usage at kind) entries = any_down entries ≡ false
TellsDown (exit.Script line kind) entries = any_down entries ≡ false
TellsDown (exit.ScriptLimit kind count) entries = any_down entries ≡ false
TellsDown (exit.Image at kind) entries = any_down entries ≡ false
TellsDown (exit.Bad kind file index) entries = any_down entries ≡ false
TellsDown (exit.Disk count) entries = (any_down entries ≡ true) ⊎ (entries ≡ [])
TellsDown exit.Sink entries = ⊤
TellsDown exit.Source entries = any_down entries ≡ false
TellsDown exit.Memory entries = ⊤

-- ---- what format does

-- the live bytes with the blocks of an image without files before them, where the disk tells them
abbrev pub with_new_blocks : Layout → Seen → Option (List ℕ)
with_new_blocks l seen =
    option_map (λ live. laid live 0 (new_blocks l (spelling (empty_table l)))) (live_of seen)

-- The image has the table without files, in its first blocks, and the last call was a sync.
pub record IsFormatted (l : Layout) (old new : Seen) : Type 0 where
  pub holds : IfSome (live_of new) (λ m. Holds m (empty_table l))
  pub bytes : live_of new ≡ with_new_blocks l old
  pub synced : IfSome new.told EndsInSync

-- these blocks were written, or no byte has changed
abbrev pub LaysNew : Layout → Seen → Seen → Type 0
LaysNew l old new = (live_of new ≡ live_of old) ⊎ (live_of new ≡ with_new_blocks l old)

-- ---- what parts of a run leave

-- what a run of a script leaves
pub record Serves (asked : Verb) (left left_now : Option (List ℕ)) (old new : Seen) (n : Counts)
    (out out_now : Option (List ℕ)) (status : Exit) (entries : List Entry) : Type 0 where
  pub history : IsHistory old new status entries
  pub calls : CallsOfScript asked status left entries
  pub spared : SparesScript status old new entries
  pub input : TakesScript status left left_now
  pub down : TellsDown status entries
  pub written : WritesAll status (Appended out out_now (printed entries))
  pub front : AppendedFront out out_now (printed entries)
  pub cause : ScriptCause left (live_of old) n status

-- what formatting a disk leaves
pub record Formats (l : Layout) (old new : Seen) (status : Exit)
    (entries : List Entry) : Type 0 where
  pub none : entries ≡ []
  pub spared : SparesFormat status old new
  pub formatted : status ≡ exit.Done → IsFormatted l old new
  pub blocks : LaysNew l old new
  pub cause : FormatCause l old.size old.faults new.faults status
