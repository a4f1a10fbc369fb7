-- When a command may be decided, and when a commit may fail before.
use Rattle.std.specs.Prelude.{◌≡◌, ◌⊎◌, ◌<◌, ◌≤◌, ◌&&◌, not, ℕ, Bool, true, false, List, [], Option, None, Some, IfSome, IsSomeAnd}
use Rattle.std.specs.List.{list_any}
use Rattle.sis_model.specs.Answer.{IsDone, MayReply, kind_of, refusal_of}
use Rattle.sis_model.specs.Order.{most_clients}
use Rattle.sis_model.specs.declared.command.Command.{Command}
use Rattle.sis_model.specs.declared.history.Entry.{Entry}
use Rattle.sis_model.specs.declared.reply.Hindrance.{Hindrance}
use Rattle.sis_model.specs.declared.reply.Hindrance.TheVariants as hindrance
use Rattle.sis_model.specs.declared.reply.Reply.{Reply}
use Rattle.sis_model.specs.declared.reply.Reply.TheVariants as reply
use Rattle.sis_history.specs.Answered.{answered_after}
use Rattle.sis_history.specs.Appearing.{MayAppear}
use Rattle.sis_history.specs.Causes.{commits, needs_disk}
use Rattle.sis_history.specs.Changed.{Fresh}
use Rattle.sis_history.specs.Needs.{IsUnhindered, need_of}
use Rattle.sis_history.specs.Replies.{Fits, IsServed}
use Rattle.sis_history.specs.Rows.{Enters, own_stales}
use Rattle.sis_history.specs.Stage.{Job, Stage}

-- the reply says that a commit failed
abbrev pub is_down : Reply → Bool
is_down (reply.Hindered (hindrance.Down at)) = true
is_down _ = false

-- one of the entries says so
abbrev pub any_down : List Entry → Bool
any_down entries = list_any (λ e. is_down e.reply) entries

-- once a commit failed, each command is answered so, and none before
abbrev pub AnswersDown : Option ℕ → Reply → Type 0
AnswersDown None r = is_down r ≡ false
AnswersDown (Some at) r = r ≡ reply.Hindered (hindrance.Down at)

-- Whether the disk may have been called for such a reply: not for a refusal, a limit or want of
-- room, which come first.
abbrev pub is_met_first : Hindrance → Bool
is_met_first (hindrance.Limit kind) = true
is_met_first (hindrance.Full needed used total) = true
is_met_first (hindrance.TableFull needed cap) = false
is_met_first hindrance.Disk = false
is_met_first (hindrance.Down at) = false
is_met_first hindrance.Memory = false

abbrev pub comes_first : Reply → Bool
comes_first (reply.Hindered by) = is_met_first by
comes_first reply.InvalidOpen = true
comes_first reply.InvalidParameter = true
comes_first (reply.InvalidRequest fault) = true
comes_first reply.InvalidDeviceRequest = true
comes_first reply.AccessDenied = true
comes_first reply.NotShared = true
comes_first reply.NameInvalid = true
comes_first reply.NotFound = true
comes_first reply.Collision = true
comes_first reply.InUse = true
comes_first reply.NotSameDevice = true
comes_first (reply.Unsettled left) = true
comes_first reply.Done = false
comes_first (reply.Opened number) = false
comes_first (reply.Read bytes) = false
comes_first (reply.Closed fate) = false
comes_first (reply.Sized size) = false
comes_first (reply.Names names more) = false
comes_first (reply.Told kind) = false
comes_first (reply.Space used total) = false
comes_first (reply.Groveled report) = false
comes_first (reply.Ended closed unsettled) = false

-- the disk may have been called for a command with this reply
abbrev pub may_have_called : Stage → ℕ → Command → Reply → Bool
may_have_called s client c r = needs_disk s client c && not (comes_first r)

-- the entry is of this job's command, and its reply fits
pub record Decides (s : Stage) (fresh : Fresh) (t : Stage) (e : Entry) (j : Job) : Type 0 where
  pub asked : e.command ≡ j.command
  pub fits : Fits s fresh t e.client j e.reply

-- A client's job is decided in a step from `s` to `t`: as the world allows, where the disk tells
-- the bytes of files, and else but for which bytes were read; and as the files are kept. The disk
-- is called only where the command needs it, and a command that was carried out met no fault of it.
-- The client is answered at once, unless its call has still to tidy.
pub record MayEnter (s : Stage) (e : Entry) (fresh : Fresh) (t : Stage) : Type 0 where
  pub job : IsSomeAnd (s.jobs e.client) (Decides s fresh t e)
  pub served : IsServed e.command
  pub may : MayAppear s.world e.client e.command e.reply
  pub told : IfSome t.seen.told (λ r. MayReply s.world e.client e.command e.reply)
  pub down : AnswersDown s.down e.reply
  pub decided : e.decided ≡ t.seen.calls
  pub uncalled : may_have_called s e.client e.command e.reply ≡ false → t.seen ≡ s.seen
  pub quiet : kind_of e.reply ≡ IsDone → t.seen.faults ≡ s.seen.faults
  pub answered : e.answered
      ≡ answered_after (own_stales s (Enters e fresh) (s.stales e.client)) t.seen.calls

-- A client without a command in hand, that has nothing to tidy, may begin one that is carried out.
pub record MayBegin (s : Stage) (client : ℕ) (command : Command) : Type 0 where
  pub low : 1 ≤ client
  pub high : client ≤ most_clients
  pub served : IsServed command
  pub idle : s.jobs client ≡ None
  pub tidied : s.stales client ≡ []

-- A commit of what was edited may fail in a step of this job: nothing refuses or hinders its
-- command, which commits, or needs blocks and may make room for them.
pub record MayCommit (s : Stage) (client : ℕ) (j : Job) : Type 0 where
  pub accepted : refusal_of s.world client j.command ≡ None
  pub unhindered : IsUnhindered s.table (need_of s client j.command)
  pub edited : s.is_changed ≡ true
  pub cause : (commits j.command ≡ true) ⊎ (0 < (need_of s client j.command).blocks)

-- ---- what has to be answered

-- this, or want of memory, or that a commit failed
abbrev pub IsAnswered : Reply → Reply → Type 0
IsAnswered wanted r =
    (r ≡ wanted) ⊎ (r ≡ reply.Hindered hindrance.Memory) ⊎ (is_down r ≡ true)
