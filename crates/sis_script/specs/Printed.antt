-- The printed line of an entry.
use Rattle.std.specs.Prelude.{ℕ, List, [], ◌∷◌, ◌++◌, flat_map, codes}
use Rattle.std.specs.Fmt.{decimal}
use Rattle.std.specs.Int.{to_be_bytes, w32}
use Rattle.hex.specs.Hex.{encode_upper}
use Rattle.sis_name.specs.Status.{status_number}
use Rattle.sis_name.specs.declared.status.Status.{Status}
use Rattle.sis_name.specs.declared.status.Status.TheVariants as status
use Rattle.sis_model.specs.declared.command.Command.{Command}
use Rattle.sis_model.specs.declared.command.Command.TheVariants as command
use Rattle.sis_model.specs.declared.reply.Reply.{Reply}
use Rattle.sis_model.specs.declared.reply.Reply.TheVariants as reply
use Rattle.sis_model.specs.declared.reply.Hindrance.{Hindrance}
use Rattle.sis_model.specs.declared.reply.Hindrance.TheVariants as hindrance
use Rattle.sis_model.specs.declared.history.Entry.{Entry}
use Rattle.sis_script.specs.Details.{word, details}

-- the verb of a command
abbrev pub verb_text : Command → List ℕ
verb_text (command.Put name bytes) = codes "put"
verb_text (command.Open name write) = codes "open"
verb_text (command.Read number at len) = codes "read"
verb_text (command.Write number at bytes) = codes "write"
verb_text (command.Size number len) = codes "size"
verb_text (command.Close number) = codes "close"
verb_text (command.Remove name) = codes "remove"
verb_text (command.Rename old new) = codes "rename"
verb_text (command.Stat name) = codes "stat"
verb_text (command.List after) = codes "list"
verb_text (command.Tell name) = codes "tell"
verb_text command.Space = codes "space"
verb_text (command.Fsctl code bytes) = codes "fsctl"
verb_text command.Sync = codes "sync"
verb_text command.Grovel = codes "grovel"
verb_text command.End = codes "end"

-- the status of a hindrance
abbrev pub hindrance_status : Hindrance → Status
hindrance_status (hindrance.Limit kind) = status.DiskFull
hindrance_status (hindrance.Full needed used total) = status.DiskFull
hindrance_status (hindrance.TableFull needed cap) = status.DiskFull
hindrance_status hindrance.Disk = status.IoDeviceError
hindrance_status (hindrance.Down at) = status.IoDeviceError
hindrance_status hindrance.Memory = status.InsufficientResources

-- the status of a reply
abbrev pub status_of : Reply → Status
status_of reply.Done = status.Success
status_of (reply.Opened number) = status.Success
status_of (reply.Read bytes) = status.Success
status_of (reply.Closed fate) = status.Success
status_of (reply.Sized size) = status.Success
status_of (reply.Names names more) = status.Success
status_of (reply.Told kind) = status.Success
status_of (reply.Space used total) = status.Success
status_of (reply.Groveled report) = status.Success
status_of (reply.Ended closed unsettled) = status.Success
status_of reply.InvalidOpen = status.InvalidHandle
status_of reply.InvalidParameter = status.InvalidParameter
status_of (reply.InvalidRequest fault) = status.InvalidParameter
status_of reply.InvalidDeviceRequest = status.InvalidDeviceRequest
status_of reply.AccessDenied = status.AccessDenied
status_of reply.NotShared = status.ObjectTypeMismatch
status_of reply.NameInvalid = status.ObjectNameInvalid
status_of reply.NotFound = status.ObjectNameNotFound
status_of reply.Collision = status.ObjectNameCollision
status_of reply.InUse = status.SharingViolation
status_of reply.NotSameDevice = status.NotSameDevice
status_of (reply.Unsettled left) = status.SharingViolation
status_of (reply.Hindered by) = hindrance_status by

-- a status as eight hex digits in upper case
abbrev pub eight_digits : ℕ → List ℕ
eight_digits n = encode_upper (to_be_bytes w32 n)

-- an entry's line: client, verb, status, details, LF
abbrev pub entry_text : Entry → List ℕ
entry_text e =
    decimal e.client ++ word (verb_text e.command)
    ++ word (eight_digits (status_number (status_of e.reply)))
    ++ details e.reply ++ 10 ∷ []

-- the lines of all entries, in their order
abbrev pub printed : List Entry → List ℕ
printed entries = flat_map entry_text entries
