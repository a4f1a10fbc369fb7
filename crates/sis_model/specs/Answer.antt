-- What a command may be answered in a world, and which world it leaves.
use Rattle.std.specs.Prelude.{◌≡◌, ℕ, ◌+◌, ◌^◌, ◌⊎◌, ◌||◌, Bool, true, false, not, if◌then◌else◌, List, [], length, take, drop, nat_lt, nat_le, is_some, Option, None, Some, IsTrue, ⊤}
use Rattle.sis_name.specs.Units.{is_store_name}
use Rattle.sis_request.specs.Request.{request_at}
use Rattle.sis_model.specs.World.{World, OpenFile, bytes_of, content, names_after, with_file, without_file, open_of, opens_of, is_open, most_opens, free_number, with_open, without_open, without_client, resized, overwritten}
use Rattle.sis_model.specs.Copy.{or_refused, refusal_of_control, copied}
use Rattle.sis_model.specs.declared.command.Command.{Command}
use Rattle.sis_model.specs.declared.command.Command.TheVariants as command
use Rattle.sis_model.specs.declared.reply.Reply.{Reply}
use Rattle.sis_model.specs.declared.reply.Reply.TheVariants as reply
use Rattle.sis_model.specs.declared.reply.Hindrance.{Hindrance}
use Rattle.sis_model.specs.declared.reply.Hindrance.TheVariants as hindrance
use Rattle.sis_model.specs.declared.reply.LimitKind.TheVariants as limit

-- the most bytes of one read, write or put
abbrev pub most_bytes : ℕ
most_bytes = 65536

-- the greatest size of a file
abbrev pub greatest_size : ℕ
greatest_size = 2 ^ 36

-- the most names of one list
abbrev pub most_names : ℕ
most_names = 100

-- no file, or one of the common store's names
abbrev pub refusal_of_name : World → List ℕ → Option Reply → Option Reply
refusal_of_name w name next =
    or_refused (is_store_name name) reply.AccessDenied
    (or_refused (not (is_some (bytes_of w name))) reply.NotFound next)

-- no open of this number
abbrev pub refusal_of_open : Option OpenFile → Option Reply → Option Reply
refusal_of_open None next = Some reply.InvalidOpen
refusal_of_open (Some o) next = next

-- no open of this number, or one that only reads
abbrev pub refusal_of_writer : Option OpenFile → Option Reply → Option Reply
refusal_of_writer None next = Some reply.InvalidOpen
refusal_of_writer (Some o) next = or_refused (not o.writes) reply.AccessDenied next

-- the command's first refusal
abbrev pub refusal_of : World → ℕ → Command → Option Reply
refusal_of w client (command.Put name bytes) =
    or_refused (nat_lt most_bytes (length bytes)) reply.InvalidParameter
    (or_refused (is_store_name name) reply.AccessDenied
    (or_refused (is_some (bytes_of w name)) reply.Collision None))
refusal_of w client (command.Open name write) =
    refusal_of_name w name
    (or_refused (nat_le most_opens (length (opens_of w client)))
    (reply.Hindered (hindrance.Limit limit.Opens)) None)
refusal_of w client (command.Read number at len) =
    refusal_of_open (open_of w client number)
    (or_refused (nat_lt most_bytes len || nat_lt greatest_size at) reply.InvalidParameter None)
refusal_of w client (command.Write number at bytes) =
    refusal_of_writer (open_of w client number)
    (or_refused (nat_lt most_bytes (length bytes) || nat_lt greatest_size (at + length bytes))
    reply.InvalidParameter None)
refusal_of w client (command.Size number len) =
    refusal_of_writer (open_of w client number)
    (or_refused (nat_lt greatest_size len) reply.InvalidParameter None)
refusal_of w client (command.Close number) = refusal_of_open (open_of w client number) None
refusal_of w client (command.Remove name) =
    refusal_of_name w name (or_refused (is_open w name) reply.InUse None)
refusal_of w client (command.Rename old new) =
    or_refused (is_store_name old || is_store_name new) reply.AccessDenied
    (or_refused (not (is_some (bytes_of w old))) reply.NotFound
    (or_refused (is_some (bytes_of w new)) reply.Collision
    (or_refused (is_open w old) reply.InUse None)))
refusal_of w client (command.Stat name) = refusal_of_name w name None
refusal_of w client (command.List after) = None
refusal_of w client (command.Tell name) = refusal_of_name w name None
refusal_of w client command.Space = None
refusal_of w client (command.Fsctl code bytes) = refusal_of_control w code bytes
refusal_of w client command.Sync = None
refusal_of w client command.Grovel = None
refusal_of w client command.End = None

-- the bytes, and the name, of an open file
abbrev pub name_at : Option OpenFile → List ℕ
name_at None = []
name_at (Some o) = o.name

abbrev pub opened : World → ℕ → ℕ → List ℕ
opened w client number = content w (name_at (open_of w client number))

-- replies that aren't fixed by the world of files alone
abbrev pub IsClosed : Reply → Type 0
IsClosed (reply.Closed fate) = ⊤
IsClosed _ = ⊥

abbrev pub IsTold : Reply → Type 0
IsTold (reply.Told kind) = ⊤
IsTold _ = ⊥

abbrev pub IsSpace : Reply → Type 0
IsSpace (reply.Space used total) = ⊤
IsSpace _ = ⊥

abbrev pub IsGroveled : Reply → Type 0
IsGroveled (reply.Groveled report) = ⊤
IsGroveled _ = ⊥

abbrev pub IsEnded : ℕ → Reply → Type 0
IsEnded opens (reply.Ended closed unsettled) = closed ≡ opens
IsEnded opens _ = ⊥

-- The reply of a command that is neither refused nor hindered. A fate, a kind, numbers of blocks, a
-- grovel's report and a list of unsettled files are free here: they tell how files are kept.
abbrev pub Answers : World → ℕ → Command → Reply → Type 0
Answers w client (command.Put name bytes) r = r ≡ reply.Done
Answers w client (command.Open name write) r = r ≡ reply.Opened (free_number w client)
Answers w client (command.Read number at len) r =
    r ≡ reply.Read (take len (drop at (opened w client number)))
Answers w client (command.Write number at bytes) r = r ≡ reply.Done
Answers w client (command.Size number len) r = r ≡ reply.Done
Answers w client (command.Close number) r = IsClosed r
Answers w client (command.Remove name) r = r ≡ reply.Done
Answers w client (command.Rename old new) r = r ≡ reply.Done
Answers w client (command.Stat name) r = r ≡ reply.Sized (length (content w name))
Answers w client (command.List after) r =
    r ≡ reply.Names (take most_names (names_after w after))
    (nat_lt most_names (length (names_after w after)))
Answers w client (command.Tell name) r = IsTold r
Answers w client command.Space r = IsSpace r
Answers w client (command.Fsctl code bytes) r = r ≡ reply.Done
Answers w client command.Sync r = r ≡ reply.Done
Answers w client command.Grovel r = IsGroveled r
Answers w client command.End r = IsEnded (length (opens_of w client)) r

-- a write without bytes changes nothing, not even the size
abbrev pub written : ℕ → List ℕ → List ℕ → List ℕ
written at more bytes = if nat_lt 0 (length more) then overwritten at more bytes else bytes

-- the world where an open file's bytes are changed so
abbrev pub with_change : World → Option OpenFile → (List ℕ → List ℕ) → World
with_change w None change = w
with_change w (Some o) change = with_file w o.name (change (content w o.name))

-- the world after a command that is neither refused nor hindered
abbrev pub changed_by : World → ℕ → Command → World
changed_by w client (command.Put name bytes) = with_file w name bytes
changed_by w client (command.Open name write) = with_open w client name write
changed_by w client (command.Read number at len) = w
changed_by w client (command.Write number at bytes) =
    with_change w (open_of w client number) (written at bytes)
changed_by w client (command.Size number len) =
    with_change w (open_of w client number) (resized len)
changed_by w client (command.Close number) = without_open w client number
changed_by w client (command.Remove name) = without_file w name
changed_by w client (command.Rename old new) = with_file (without_file w old) new (content w old)
changed_by w client (command.Stat name) = w
changed_by w client (command.List after) = w
changed_by w client (command.Tell name) = w
changed_by w client command.Space = w
changed_by w client (command.Fsctl code bytes) = copied w (request_at bytes)
changed_by w client command.Sync = w
changed_by w client command.Grovel = w
changed_by w client command.End = without_client w client

-- What a reply says of its command: it was carried out, refused, or hindered. A hindrance may come
-- before a refusal or not.
pub data Kind : Type 0 where
  IsDone : Kind
  IsRefused : Kind
  IsHindered : (first : Bool) → Kind

-- The limit of opens depends on the world alone, so it is a refusal. That a commit failed before,
-- and want of memory, may come before any refusal.
abbrev pub kind_of_hindrance : Hindrance → Kind
kind_of_hindrance (hindrance.Limit limit.Opens) = IsRefused
kind_of_hindrance (hindrance.Limit limit.Files) = IsHindered false
kind_of_hindrance (hindrance.Limit limit.Ids) = IsHindered false
kind_of_hindrance (hindrance.Limit limit.Indexes) = IsHindered false
kind_of_hindrance (hindrance.Limit limit.Versions) = IsHindered false
kind_of_hindrance (hindrance.Full needed used total) = IsHindered false
kind_of_hindrance (hindrance.TableFull needed cap) = IsHindered false
kind_of_hindrance hindrance.Disk = IsHindered false
kind_of_hindrance (hindrance.Down at) = IsHindered true
kind_of_hindrance hindrance.Memory = IsHindered true

abbrev pub kind_of : Reply → Kind
kind_of reply.Done = IsDone
kind_of (reply.Opened number) = IsDone
kind_of (reply.Read bytes) = IsDone
kind_of (reply.Closed fate) = IsDone
kind_of (reply.Sized size) = IsDone
kind_of (reply.Names names more) = IsDone
kind_of (reply.Told kind) = IsDone
kind_of (reply.Space used total) = IsDone
kind_of (reply.Groveled report) = IsDone
kind_of (reply.Ended closed unsettled) = IsDone
kind_of reply.InvalidOpen = IsRefused
kind_of reply.InvalidParameter = IsRefused
kind_of (reply.InvalidRequest fault) = IsRefused
kind_of reply.InvalidDeviceRequest = IsRefused
kind_of reply.AccessDenied = IsRefused
kind_of reply.NotShared = IsHindered false
kind_of reply.NameInvalid = IsRefused
kind_of reply.NotFound = IsRefused
kind_of reply.Collision = IsRefused
kind_of reply.InUse = IsRefused
kind_of reply.NotSameDevice = IsRefused
kind_of (reply.Unsettled left) = IsHindered false
kind_of (reply.Hindered by) = kind_of_hindrance by

abbrev pub MayReplyAs : World → ℕ → Command → Reply → Kind → Type 0
MayReplyAs w client c r IsDone = (refusal_of w client c ≡ None) × Answers w client c r
MayReplyAs w client c r IsRefused = refusal_of w client c ≡ Some r
MayReplyAs w client c r (IsHindered first) = IsTrue first ⊎ (refusal_of w client c ≡ None)

-- in this world the client's command may get this reply
abbrev pub MayReply : World → ℕ → Command → Reply → Type 0
MayReply w client c r = MayReplyAs w client c r (kind_of r)

abbrev pub world_as : World → ℕ → Command → Kind → World
world_as w client c IsDone = changed_by w client c
world_as w client c IsRefused = w
world_as w client c (IsHindered first) = w

-- the world after a command with its reply: only one that is carried out changes it
abbrev pub world_with : World → ℕ → Command → Reply → World
world_with w client c r = world_as w client c (kind_of r)

-- a copy of the reply may take memory: it has bytes or names, or files that were not settled
abbrev pub holds_memory : Reply → Bool
holds_memory reply.Done = false
holds_memory (reply.Opened number) = false
holds_memory (reply.Read bytes) = true
holds_memory (reply.Closed fate) = false
holds_memory (reply.Sized size) = false
holds_memory (reply.Names names more) = true
holds_memory (reply.Told kind) = false
holds_memory (reply.Space used total) = false
holds_memory (reply.Groveled report) = false
holds_memory (reply.Ended closed unsettled) = nat_lt 0 (length unsettled)
holds_memory reply.InvalidOpen = false
holds_memory reply.InvalidParameter = false
holds_memory (reply.InvalidRequest fault) = false
holds_memory reply.InvalidDeviceRequest = false
holds_memory reply.AccessDenied = false
holds_memory reply.NotShared = false
holds_memory reply.NameInvalid = false
holds_memory reply.NotFound = false
holds_memory reply.Collision = false
holds_memory reply.InUse = false
holds_memory reply.NotSameDevice = false
holds_memory (reply.Unsettled left) = false
holds_memory (reply.Hindered by) = false
