-- What is answered where a reply can't be copied for want of memory.
use Rattle.std.proofs.Common.{◌≡◌, ◌⊎◌, inl, inr, ℕ, ◌&&◌, not, Bool, true, false, List, [], length, None, refl, sym, ap, subst, ◌∙◌}
use Rattle.std.specs.Prelude.{IfSome, nat_lt}
use Rattle.sis_history.specs.Appearing.{MayAppear}
use Rattle.sis_history.specs.Causes.{commits, edits_table, needs_disk, takes_memory}
use Rattle.sis_history.specs.Changed.{Fresh, changed_table, table_as}
use Rattle.sis_history.specs.Durable.{makes_durable}
use Rattle.sis_history.specs.Entering.{comes_first}
use Rattle.sis_history.specs.Replies.{Fits}
use Rattle.sis_model.specs.Answer.{Answers, IsDone, MayReply, changed_by, holds_memory, kind_of, world_as, world_with}
use Rattle.sis_model.specs.World.{World}
use Rattle.sis_model.specs.declared.command.Command.{Command}
use Rattle.sis_model.specs.declared.command.Command.TheVariants as command
use Rattle.sis_model.specs.declared.reply.Hindrance.{Hindrance}
use Rattle.sis_model.specs.declared.reply.Hindrance.TheVariants as hindrance
use Rattle.sis_model.specs.declared.reply.Reply.{Reply}
use Rattle.sis_model.specs.declared.reply.Reply.TheVariants as reply
use Rattle.sis_model.specs.declared.unsettled.UnsettledFile.{UnsettledFile}
use Rattle.sis_table.specs.Content.{files_in}
use Rattle.sis_volume.specs.View.{VolumeView}
use Rattle.sis_core.specs.Deciding.{Answered, Decided, DecidesFor, plain_job}
use Rattle.sis_core.specs.Session.{FitsArea, Jobs, SessionView, stage_of}
use Rattle.sis_core.proofs.Operated.{different, if_some}

-- ---- commands whose replies hold memory

-- the command changes nothing, and takes memory
record TellsMuch (w : World) (v : VolumeView) (client : ℕ) (c : Command) : Type 0 where
  leaves : changed_by w client c ≡ w
  table : (jobs : Jobs) (fresh : Fresh)
      → changed_table (stage_of w v jobs) client c fresh ≡ v.table
  memory : takes_memory c ≡ true
  edits : (jobs : Jobs) → edits_table (stage_of w v jobs) client c ≡ false
  waits : commits c ≡ false

read_tells : (w : World) (v : VolumeView) (client : ℕ) (c : Command) (bytes : List ℕ)
    → Answers w client c (reply.Read bytes) → TellsMuch w v client c
read_tells w v client (command.Put name more) bytes is = absurd cc
read_tells w v client (command.Open name write) bytes is = absurd cc
read_tells w v client (command.Read number at len) bytes is = record {
  leaves = refl;
  table = λ jobs fresh. refl;
  memory = refl;
  edits = λ jobs. refl;
  waits = refl;
}
read_tells w v client (command.Write number at more) bytes is = absurd cc
read_tells w v client (command.Size number len) bytes is = absurd cc
read_tells w v client (command.Close number) bytes is = absurd is
read_tells w v client (command.Remove name) bytes is = absurd cc
read_tells w v client (command.Rename old new) bytes is = absurd cc
read_tells w v client (command.Stat name) bytes is = absurd cc
read_tells w v client (command.List after) bytes is = absurd cc
read_tells w v client (command.Tell name) bytes is = absurd is
read_tells w v client command.Space bytes is = absurd is
read_tells w v client (command.Fsctl code more) bytes is = absurd cc
read_tells w v client command.Sync bytes is = absurd cc
read_tells w v client command.Grovel bytes is = absurd is
read_tells w v client command.End bytes is = absurd is

names_tell : (w : World) (v : VolumeView) (client : ℕ) (c : Command) (names : List (List ℕ))
    (more : Bool) → Answers w client c (reply.Names names more) → TellsMuch w v client c
names_tell w v client (command.Put name bytes) names more is = absurd cc
names_tell w v client (command.Open name write) names more is = absurd cc
names_tell w v client (command.Read number at len) names more is = absurd cc
names_tell w v client (command.Write number at bytes) names more is = absurd cc
names_tell w v client (command.Size number len) names more is = absurd cc
names_tell w v client (command.Close number) names more is = absurd is
names_tell w v client (command.Remove name) names more is = absurd cc
names_tell w v client (command.Rename old new) names more is = absurd cc
names_tell w v client (command.Stat name) names more is = absurd cc
names_tell w v client (command.List after) names more is = record {
  leaves = refl;
  table = λ jobs fresh. refl;
  memory = refl;
  edits = λ jobs. refl;
  waits = refl;
}
names_tell w v client (command.Tell name) names more is = absurd is
names_tell w v client command.Space names more is = absurd is
names_tell w v client (command.Fsctl code bytes) names more is = absurd cc
names_tell w v client command.Sync names more is = absurd cc
names_tell w v client command.Grovel names more is = absurd is
names_tell w v client command.End names more is = absurd is

-- such a reply was carried out, by such a command
record HoldsMuch (w : World) (v : VolumeView) (client : ℕ) (c : Command) (r : Reply) : Type 0 where
  tells : TellsMuch w v client c
  kind : kind_of r ≡ IsDone
  last : comes_first r ≡ false

holds : (w : World) (v : VolumeView) (client : ℕ) (c : Command) (r : Reply)
    → MayAppear w client c r → holds_memory r ≡ true
    → ((closed : ℕ) (unsettled : List UnsettledFile) → r ≡ reply.Ended closed unsettled
    → unsettled ≡ []) → HoldsMuch w v client c r
holds w v client c (reply.Read bytes) may much none =
    record { tells = read_tells w v client c may.0 may.2.1; kind = refl; last = refl }
holds w v client c (reply.Names names more) may much none =
    record { tells = names_tell w v client c names more may.1; kind = refl; last = refl }
holds w v client c (reply.Ended closed unsettled) may much none =
    let few : nat_lt 0 (length unsettled) ≡ false =
    ap (λ (us : List UnsettledFile). nat_lt 0 (length us)) (none closed unsettled refl) in
    absurd (different (sym much ∙ few))
holds w v client c _ may much none = absurd (different (sym much))

-- ---- want of memory

down_holds : (r : Reply) (at : ℕ) → r ≡ reply.Hindered (hindrance.Down at)
    → holds_memory r ≡ true → ⊥
down_holds r at is much = different (sym much ∙ ap holds_memory is)

-- where a reply is hindered nothing is durable
pub hindered_durable : (c : Command) (by : Hindrance) → makes_durable c (reply.Hindered by) ≡ false
hindered_durable command.Sync by = refl
hindered_durable (command.Close number) by = refl
hindered_durable command.End by = refl
hindered_durable _ by = refl

short_answered : (w : World) (old new : VolumeView) (client : ℕ) (c : Command) (r : Reply)
    (fresh : Fresh) → HoldsMuch w old client c r → Answered w old new client c r fresh
    → Answered w old new client c (reply.Hindered hindrance.Memory) fresh
short_answered w old new client c r fresh much a = record {
  was_up = a.was_up;
  up = a.up;
  not_down = refl;
  may = inl refl;
  told =
      if_some (MayReply w client c (reply.Hindered hindrance.Memory)) new.seen.told (inl refl);
  fits = λ area jobs later next. (much.tells.memory, a.quiet much.kind);
  uncalled = λ jobs test.
      a.uncalled jobs (ap (λ (first : Bool).
      needs_disk (stage_of w old jobs) client c && not first) much.last ∙ test);
  quiet = λ done. a.quiet much.kind;
  table = λ jobs.
      a.table jobs ∙ ap (table_as (stage_of w old jobs) client c fresh) much.kind
      ∙ much.tells.table jobs fresh;
  edits = record {
    durable = λ e. absurd (different (sym e ∙ hindered_durable c hindrance.Memory));
    only = λ jobs is_changed. inl (before jobs (a.edits.only jobs is_changed));
  };
  needed = a.needed;
  calls = a.calls;
  elapses = a.elapses;
}
  where
    before : (jobs : Jobs) → (old.is_changed ≡ true)
        ⊎ ((kind_of r ≡ IsDone) × (edits_table (stage_of w old jobs) client c ≡ true))
        → old.is_changed ≡ true
    before jobs (inl was) = was
    before jobs (inr edits) = absurd (different (sym edits.1 ∙ much.tells.edits jobs))

nobody : Jobs
nobody client = None

-- A reply that holds memory can give way to want of memory.
pub short_decides : (w : World) (old new : SessionView) (client : ℕ) (c : Command) (r : Reply)
    → FitsArea new.volume.table → holds_memory r ≡ true → DecidesFor w old new client c r
    → DecidesFor w old new client c (reply.Hindered hindrance.Memory)
short_decides w old new client c r area much d = by d.decided
  where
    by : Decided w old.volume new.volume client c r
        → DecidesFor w old new client c (reply.Hindered hindrance.Memory)
    by (inl answered) =
        let a = answered.1 in
        let h : HoldsMuch w old.volume client c r = holds w old.volume client c r a.may much
        (λ closed unsettled is.
        (subst (λ (x : Reply). Fits (stage_of w old.volume nobody) answered.0
        (stage_of w new.volume nobody) client (plain_job c) x) is
        (a.fits area nobody nobody w)).1) in
        let same : world_with w client c r ≡ w =
        ap (world_as w client c) h.kind ∙ h.tells.leaves in
        record {
          decided =
              inl (answered.0, short_answered w old.volume new.volume client c r answered.0 h a);
          stands =
              subst (λ (x : World). IfSome (files_in new.volume.table new.volume.seen)
              (λ files. files ≡ x.files)) same d.stands;
          opens = sym (ap (λ (x : World). x.opens) same) ∙ d.opens;
          there = d.there;
        }
    by (inr (inl failed)) = absurd (down_holds r failed.0 failed.1.replied much)
    by (inr (inr was)) = absurd (down_holds r was.0 was.1.replied much)

-- The reply that is given, and the history's copy of it: the command's, or want of memory.
pub copied_decides : (w : World) (old new : SessionView) (client : ℕ) (c : Command) (r given : Reply)
    → FitsArea new.volume.table
    → (given ≡ r) ⊎ ((holds_memory r ≡ true) × (given ≡ reply.Hindered hindrance.Memory))
    → DecidesFor w old new client c r → DecidesFor w old new client c given
copied_decides w old new client c r given area (inl same) d =
    subst (λ (x : Reply). DecidesFor w old new client c x) (sym same) d
copied_decides w old new client c r given area (inr short) d =
    subst (λ (x : Reply). DecidesFor w old new client c x) (sym short.1)
    (short_decides w old new client c r area short.0 d)
