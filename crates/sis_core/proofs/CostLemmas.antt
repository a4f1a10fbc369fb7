-- The calls that are made for commands.
use Rattle.std.proofs.Common.{◌≡◌, inl, inr, ℕ, ◌+◌, ◌<◌, ◌≤◌, Bool, false, if◌then◌else◌, Option, None, Result, Ok, Err, refl, sym, ap, subst, ◌∙◌, arith}
use Rattle.std.specs.Prelude.{IfSome}
use Rattle.sis_copyclose.specs.Calls.{most_calls}
use Rattle.sis_copyclose.specs.Hindering.{Hinders}
use Rattle.sis_copyclose.specs.Operating.{EndsBy, Operates}
use Rattle.sis_copyclose.specs.Reading.{OnlyLooks}
use Rattle.sis_disk.specs.Record.{Seen}
use Rattle.sis_disk.proofs.Images.{leaves_none}
use Rattle.sis_history.specs.Causes.{commits}
use Rattle.sis_history.specs.Needs.{Need, need_of, reads_in, reads_of}
use Rattle.sis_history.specs.Stage.{Stage}
use Rattle.sis_model.specs.declared.command.Command.{Command}
use Rattle.sis_model.specs.declared.command.Command.TheVariants as command
use Rattle.sis_model.specs.declared.range.ByteRange.{ByteRange}
use Rattle.sis_model.specs.declared.reply.Hindrance.{Hindrance}
use Rattle.sis_model.specs.declared.reply.Hindrance.TheVariants as hindrance
use Rattle.sis_name.specs.Files.{Files}
use Rattle.sis_table.specs.Opens.{OpensAs}
use Rattle.sis_table.specs.Volume.{VolumeTable}
use Rattle.sis_table.specs.declared.node.Node.{Node}
use Rattle.sis_view.proofs.CallerLemmas.{leaves_reading}
use Rattle.sis_volume.specs.Stopping.{OnlyOpens}
use Rattle.sis_volume.specs.View.{VolumeView, spare}
use Rattle.sis_core.specs.Costs.{CallsFor, CommitsNothing, FailsFor, reads_for, step_calls}

-- no commit failed
still_up : (P : ℕ → Type 0) (down : Option ℕ) → down ≡ None → IfSome down P
still_up P down up = subst (λ (o : Option ℕ). IfSome o P) (sym up) tt

-- where no call is made a stop leaves what it left before
no_call : (seen : Seen) → OnlyOpens seen seen
no_call seen files opens =
    leaves_none (OpensAs files) seen seen (record { calls = refl; told = refl }) opens

-- nothing was done
pub calls_none : (s : Stage) (v : VolumeView) (client : ℕ) (c : Command) → CallsFor s v v client c
calls_none s v client c = record {
  calls = omega arith;
  still = λ waits few. record { images = no_call v.seen; committed = refl; edited = λ e. e };
  fell = λ up. still_up (FailsFor s v client c) v.down up;
}

-- ---- operations

module _ (s : Stage) (client : ℕ) (c : Command) (need : Need)
    (MayLead : VolumeTable → Type 0) (change : Files → Files) (reads : ℕ) (old new : VolumeView)
    (waits : commits c ≡ false) (need_is : need_of s client c ≡ need)
    (reads_is : reads_for s client c ≡ reads) (up : old.down ≡ None) where
  abbrev Leaves : {T : Type 0} → Result T Hindrance → Type 0
  Leaves result = Operates need MayLead change reads result old new

  most_is : step_calls old s client c ≡ most_calls need reads old
  most_is =
      ap (λ (b : Bool). if b then (if old.is_changed then 4 else 0)
      else most_calls (need_of s client c) (reads_for s client c) old) waits
      ∙ ap (λ (n : Need). most_calls n (reads_for s client c) old) need_is
      ∙ ap (λ (n : ℕ). most_calls need n old) reads_is

  enough : (need_of s client c).blocks ≤ spare old → need.blocks ≤ spare old
  enough few = subst (λ (n : Need). n.blocks ≤ spare old) need_is few

  lacked : spare old < need.blocks → spare old < (need_of s client c).blocks
  lacked lacks = subst (λ (n : Need). spare old < n.blocks) (sym need_is) lacks

  nothing_done : {T : Type 0} (x : T) → Leaves (Ok x) → need.blocks ≤ spare old
      → CommitsNothing old new
  nothing_done x left few = record {
    images = left.still few;
    committed = elim left.held [
      | inl same ↦ same
      | inr lacks ↦ absurd (let fewer : spare old < need.blocks = lacks.0 in omega arith)
    ];
    edited = λ was. elim left.changed [
      | inl same ↦ ap (λ (v : VolumeView). v.is_changed) same ∙ was
      | inr edited ↦ edited
    ];
  }

  nothing_kept : {T : Type 0} (by : Hindrance) → Leaves {T = T} (Err by) → need.blocks ≤ spare old
      → CommitsNothing old new
  nothing_kept by left few = elim left.books [
    | inl same ↦ record {
      images = left.still few;
      committed = ap (λ (v : VolumeView). v.committed) same;
      edited = λ was. ap (λ (v : VolumeView). v.is_changed) same ∙ was;
    }
    | inr room ↦
        absurd (let fewer : spare old < need.blocks = room.lacked in omega arith)
  ]

  fell_by : (by : Hindrance) → Hinders need MayLead old new by → EndsBy old new by
      → IfSome new.down (FailsFor s old client c)
  fell_by (hindrance.Down at) cause ends =
      subst (λ (o : Option ℕ). IfSome o (FailsFor s old client c)) (sym ends.down)
      (record {
        soon = (cause.2).soon;
        edited = (cause.2).edited;
        lacked = λ e. lacked cause.1;
      })
  fell_by (hindrance.Limit kind) cause ends =
      still_up (FailsFor s old client c) new.down ends.down
  fell_by (hindrance.Full needed used total) cause ends =
      still_up (FailsFor s old client c) new.down ends.down
  fell_by hindrance.Disk cause ends = still_up (FailsFor s old client c) new.down ends.down
  fell_by (hindrance.TableFull needed cap) cause ends =
      still_up (FailsFor s old client c) new.down ends.down
  fell_by hindrance.Memory cause ends = still_up (FailsFor s old client c) new.down ends.down

  -- those of an operation that the command makes
  pub calls_operated : {T : Type 0} (result : Result T Hindrance) → Leaves result
      → CallsFor s old new client c
  calls_operated (Ok x) left = record {
    calls =
        subst (λ (n : ℕ). new.seen.calls ≤ old.seen.calls + n) (sym most_is) left.calls;
    still = λ e few. nothing_done x left (enough few);
    fell = λ e. still_up (FailsFor s old client c) new.down (left.up).down;
  }
  calls_operated (Err by) left = record {
    calls =
        subst (λ (n : ℕ). new.seen.calls ≤ old.seen.calls + n) (sym most_is) left.calls;
    still = λ e few. nothing_kept by left (enough few);
    fell = λ e. fell_by by (left.cause up) (left.goes up);
  }

-- ---- reads

pub calls_read : {T : Type 0} (s : Stage) (client number : ℕ) (range : ByteRange) (n : Node)
    (result : Result T Hindrance) (old new : VolumeView)
    → reads_of s client number range ≡ reads_in range n
    → OnlyLooks (reads_in range n) result old new
    → CallsFor s old new client (command.Read number range.at range.len)
calls_read s client number range n result old new reads looks = record {
  calls = omega (arith, reads, looks.reads.calls);
  still = λ waits few. record {
    images = λ files opens.
        leaves_reading (OpensAs files) (reads_in range n) old.seen new.seen looks.reads opens;
    committed = ap (λ (v : VolumeView). v.committed) looks.same;
    edited = λ was. ap (λ (v : VolumeView). v.is_changed) looks.same ∙ was;
  };
  fell = λ up.
      still_up (FailsFor s old client (command.Read number range.at range.len)) new.down
      (ap (λ (v : VolumeView). v.down) looks.same ∙ up);
}
