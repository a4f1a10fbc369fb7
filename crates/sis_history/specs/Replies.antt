-- What a reply says of the stage before its entry.
use Rattle.std.specs.Prelude.{◌≡◌, ℕ, true, false, [], IsSomeAnd, ⊤}
use Rattle.sis_disk.specs.Layout.{data_blocks}
use Rattle.sis_model.specs.World.{World, OpenFile, open_of}
use Rattle.sis_model.specs.declared.command.Command.{Command}
use Rattle.sis_model.specs.declared.command.Command.TheVariants as command
use Rattle.sis_model.specs.declared.reply.Fate.{Fate}
use Rattle.sis_model.specs.declared.reply.Fate.TheVariants as fate
use Rattle.sis_model.specs.declared.reply.Reply.{Reply}
use Rattle.sis_model.specs.declared.reply.Reply.TheVariants as reply
use Rattle.sis_table.specs.Kinds.{plain_node}
use Rattle.sis_table.specs.Volume.{node_named, used}
use Rattle.sis_table.specs.declared.node.Node.{Node}
use Rattle.sis_history.specs.Causes.{IsCarriedOut, IsCause}
use Rattle.sis_history.specs.Changed.{Fresh}
use Rattle.sis_history.specs.Stage.{Job, Stage, has_other_writer}

-- the commands that are carried out so far
abbrev pub IsServed : Command → Type 0
IsServed (command.Put name bytes) = ⊤
IsServed (command.Open name write) = ⊤
IsServed (command.Read number at len) = ⊤
IsServed (command.Write number at bytes) = ⊤
IsServed (command.Size number len) = ⊤
IsServed (command.Close number) = ⊤
IsServed (command.Remove name) = ⊤
IsServed (command.Rename old new) = ⊤
IsServed (command.Stat name) = ⊤
IsServed (command.List after) = ⊤
IsServed (command.Tell name) = ⊥
IsServed command.Space = ⊤
IsServed (command.Fsctl code bytes) = ⊥
IsServed command.Sync = ⊤
IsServed command.Grovel = ⊥
IsServed command.End = ⊤

-- ---- fates

-- the open may write, and no other open may write its file
pub record IsLastWriter (w : World) (o : OpenFile) : Type 0 where
  pub writes : o.writes ≡ true
  pub alone : has_other_writer w o ≡ false

-- what a close leaves of its file; no file is a link so far
abbrev pub IsFate : Stage → Job → OpenFile → Node → Fate → Type 0
IsFate s j o n fate.Read = o.writes ≡ false
IsFate s j o n fate.Writer = (o.writes ≡ true) × (has_other_writer s.world o ≡ true)
IsFate s j o n fate.Plain =
    IsLastWriter s.world o × (plain_node n ≡ true) × (j.detached ≡ false)
IsFate s j o n fate.Link = ⊥
IsFate s j o n fate.Settled = ⊥
IsFate s j o n (fate.Unsettled left cause) = ⊥

-- a close of the client's open of this number leaves that of its file
abbrev pub IsFateOf : Stage → ℕ → Job → ℕ → Fate → Type 0
IsFateOf s client j number f =
    IsSomeAnd (open_of s.world client number)
    (λ o. IsSomeAnd (node_named s.table o.name) (λ n. IsFate s j o n f))

abbrev pub Closes : Stage → ℕ → Job → Command → Fate → Type 0
Closes s client j (command.Close number) f = IsFateOf s client j number f
Closes s client j _ f = ⊥

-- ---- replies

-- What a reply says of the stage before its entry and of the disk's calls up to it, where the world
-- allows the reply.
abbrev pub Fits : Stage → Fresh → Stage → ℕ → Job → Reply → Type 0
Fits s fresh t client j reply.Done = IsCarriedOut s client j.command fresh
Fits s fresh t client j (reply.Opened number) = IsCarriedOut s client j.command fresh
Fits s fresh t client j (reply.Read bytes) = IsCarriedOut s client j.command fresh
Fits s fresh t client j (reply.Closed f) =
    IsCarriedOut s client j.command fresh × Closes s client j j.command f
Fits s fresh t client j (reply.Sized size) = IsCarriedOut s client j.command fresh
Fits s fresh t client j (reply.Names names more) = IsCarriedOut s client j.command fresh
Fits s fresh t client j (reply.Space used_now total) =
    IsCarriedOut s client j.command fresh × (used_now ≡ used s.table)
    × (total ≡ data_blocks s.table.layout)
-- none is left unsettled, since no file is a link so far
Fits s fresh t client j (reply.Ended closed unsettled) =
    IsCarriedOut s client j.command fresh × (unsettled ≡ [])
Fits s fresh t client j (reply.Hindered by) = IsCause s fresh t client j.command by
-- which of these comes, the world says
Fits s fresh t client j reply.InvalidOpen = ⊤
Fits s fresh t client j reply.InvalidParameter = ⊤
Fits s fresh t client j reply.AccessDenied = ⊤
Fits s fresh t client j reply.NotFound = ⊤
Fits s fresh t client j reply.Collision = ⊤
Fits s fresh t client j reply.InUse = ⊤
-- no command that is carried out so far is answered so
Fits s fresh t client j (reply.Told kind) = ⊥
Fits s fresh t client j (reply.Groveled report) = ⊥
Fits s fresh t client j (reply.InvalidRequest fault) = ⊥
Fits s fresh t client j reply.InvalidDeviceRequest = ⊥
Fits s fresh t client j reply.NameInvalid = ⊥
Fits s fresh t client j reply.NotSameDevice = ⊥
Fits s fresh t client j reply.NotShared = ⊥
Fits s fresh t client j (reply.Unsettled left) = ⊥
