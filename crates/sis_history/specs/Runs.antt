-- From one stage to the next by a row, and runs of rows.
use Rattle.std.specs.Prelude.{◌≡◌, ◌⊎◌, ◌≤◌, ℕ, Bool, true, false, List, [], ◌∷◌, length, Option, None, Some, IsSomeAnd}
use Rattle.std.specs.List.{AllByRecursion}
use Rattle.sis_disk.specs.Causes.{GoesDown, StaysUp}
use Rattle.sis_disk.specs.Layout.{first_byte}
use Rattle.sis_disk.specs.Record.{Seen}
use Rattle.sis_disk.specs.Stops.{Elapses}
use Rattle.sis_model.specs.Answer.{IsDone, kind_of}
use Rattle.sis_model.specs.Order.{most_clients}
use Rattle.sis_model.specs.World.{World}
use Rattle.sis_model.specs.declared.history.Entry.{Entry}
use Rattle.sis_table.specs.Volume.{VolumeTable}
use Rattle.sis_history.specs.Calls.{begun_by}
use Rattle.sis_history.specs.Causes.{edits_table}
use Rattle.sis_history.specs.Durable.{is_durable}
use Rattle.sis_history.specs.Entering.{MayBegin, MayCommit, MayEnter}
use Rattle.sis_history.specs.Entries.{entries_of}
use Rattle.sis_history.specs.Rows.{Row, Begins, Enters, Fails, client_of, down_by, jobs_by, stales_by, table_by, world_by}
use Rattle.sis_history.specs.Stage.{Job, Stage}

-- when a row may come
abbrev pub MayRow : Stage → Row → Stage → Type 0
MayRow s (Begins client command) t = MayBegin s client command
MayRow s (Enters entry fresh) t = MayEnter s entry fresh t
MayRow s (Fails client file at) t =
    (s.down ≡ None) × (file ≡ None) × IsSomeAnd (s.jobs client) (MayCommit s client)

-- Whether the table was edited since the last commit or the opening: so a command leaves it that
-- was carried out and edits the table, and none that is durable.
abbrev pub EditsBy : Stage → Row → Bool → Type 0
EditsBy s (Begins client command) new = new ≡ s.is_changed
EditsBy s (Enters entry fresh) new =
    (is_durable entry ≡ true → new ≡ false)
    × (new ≡ true → (s.is_changed ≡ true)
    ⊎ ((kind_of entry.reply ≡ IsDone) × (edits_table s entry.client entry.command ≡ true)))
EditsBy s (Fails client file at) new = new ≡ s.is_changed

-- A command begins without a call of the disk. No commit fails in another row but in the one that
-- says so, and then by the call of this number.
abbrev pub CallsBy : Row → ℕ → Seen → Seen → Type 0
CallsBy (Begins client command) first old new = new ≡ old
CallsBy (Enters entry fresh) first old new = StaysUp first old new
CallsBy (Fails client file at) first old new = GoesDown first at old new

-- after a failed commit the disk isn't called
abbrev pub MayCall : Option ℕ → Row → ℕ → Seen → Seen → Type 0
MayCall None row first old new = CallsBy row first old new
MayCall (Some at) row first old new = new ≡ old

-- From one stage to the next by a row: it may come, and the parts of the next stage are what it
-- makes of them.
pub record IsRow (s : Stage) (row : Row) (t : Stage) : Type 0 where
  pub may : MayRow s row t
  pub elapses : Elapses s.seen t.seen
  pub calls : MayCall s.down row (first_byte s.table.layout) s.seen t.seen
  pub world : t.world ≡ world_by s.world row
  pub table : t.table ≡ table_by s row
  pub edits : EditsBy s row t.is_changed
  pub down : t.down ≡ down_by s.down row
  pub jobs : (client : ℕ) → t.jobs client ≡ jobs_by s row client
  pub stales : (client : ℕ) → t.stales client ≡ stales_by s row client

-- from one stage to another by these rows
abbrev pub IsRun : Stage → List Row → Stage → Type 0
IsRun s [] last = last ≡ s
IsRun s (row ∷ rows) last = (next : Stage) × IsRow s row next × IsRun next rows last

-- Rows of a client lead from before a step of its command to after it. At most one of them is an
-- entry, and none begins a command.
pub record HasStepped (client : ℕ) (s t : Stage) (rows : List Row) : Type 0 where
  pub run : IsRun s rows t
  pub own : AllByRecursion (λ row. client_of row ≡ client) rows
  pub none_begins : begun_by rows client ≡ []
  pub few : length (entries_of rows) ≤ 1

-- only clients of numbers that there are have a command in hand
abbrev pub HasClients : Stage → Type 0
HasClients s =
    (client : ℕ) (j : Job) → s.jobs client ≡ Some j → (1 ≤ client) × (client ≤ most_clients)

-- the entries are of such clients
abbrev pub AreOfClients : List Entry → Type 0
AreOfClients entries = AllByRecursion (λ e. (1 ≤ e.client) × (e.client ≤ most_clients)) entries

-- the stage with which a run begins: nobody has a command in hand, or something to tidy
abbrev pub first_stage : World → VolumeTable → Seen → Stage
first_stage w v seen = record {
  world = w;
  table = v;
  is_changed = false;
  seen = seen;
  down = None;
  jobs = λ client. None;
  stales = λ client. [];
}

-- A run leads from these files, this table and this disk to a stage, and has these entries.
pub record HasRun (w : World) (v : VolumeTable) (seen : Seen) (entries : List Entry)
    (last : Stage) : Type 0 where
  pub rows : List Row
  pub run : IsRun (first_stage w v seen) rows last
  pub same : entries ≡ entries_of rows
