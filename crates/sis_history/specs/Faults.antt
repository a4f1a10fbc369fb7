-- How many faults of the disk a run tells of.
use Rattle.std.specs.Prelude.{ℕ, ◌+◌, Bool, true, false, if◌then◌else◌, List, [], ◌∷◌}
use Rattle.sis_model.specs.declared.reply.Hindrance.{Hindrance}
use Rattle.sis_model.specs.declared.reply.Hindrance.TheVariants as hindrance
use Rattle.sis_model.specs.declared.reply.Reply.{Reply}
use Rattle.sis_model.specs.declared.reply.Reply.TheVariants as reply
use Rattle.sis_history.specs.Rows.{Row, Begins, Enters, Fails}

-- the disk failed, and not by a commit
abbrev pub is_disk_fault : Hindrance → Bool
is_disk_fault hindrance.Disk = true
is_disk_fault (hindrance.Limit kind) = false
is_disk_fault (hindrance.Full needed used total) = false
is_disk_fault (hindrance.TableFull needed cap) = false
is_disk_fault (hindrance.Down at) = false
is_disk_fault hindrance.Memory = false

-- the reply says so
abbrev pub is_disk : Reply → Bool
is_disk (reply.Hindered by) = is_disk_fault by
is_disk reply.Done = false
is_disk (reply.Opened number) = false
is_disk (reply.Read bytes) = false
is_disk (reply.Closed fate) = false
is_disk (reply.Sized size) = false
is_disk (reply.Names names more) = false
is_disk (reply.Told kind) = false
is_disk (reply.Space used total) = false
is_disk (reply.Groveled report) = false
is_disk (reply.Ended closed unsettled) = false
is_disk reply.InvalidOpen = false
is_disk reply.InvalidParameter = false
is_disk (reply.InvalidRequest fault) = false
is_disk reply.InvalidDeviceRequest = false
is_disk reply.AccessDenied = false
is_disk reply.NotShared = false
is_disk reply.NameInvalid = false
is_disk reply.NotFound = false
is_disk reply.Collision = false
is_disk reply.InUse = false
is_disk reply.NotSameDevice = false
is_disk (reply.Unsettled left) = false

-- a reply says so, or a commit failed
abbrev pub tells_fault : Row → Bool
tells_fault (Begins client command) = false
tells_fault (Enters entry fresh) = is_disk entry.reply
tells_fault (Fails client file at) = true

abbrev pub faults_told : List Row → ℕ
faults_told [] = 0
faults_told (row ∷ rows) = (if tells_fault row then 1 else 0) + faults_told rows
