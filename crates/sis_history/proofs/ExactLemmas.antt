-- What a client has to be answered.
use Rattle.std.proofs.Common.{◌≡◌, ◌⊎◌, inl, inr, ℕ, ◌+◌, false, length, Option, Some, None, refl, sym, subst, ◌∙◌, arith}
use Rattle.std.specs.Prelude.{IsSomeAnd, IsTrue, nat_lt}
use Rattle.std.proofs.lemmas.Bool.Decides.{nat_tests}
use Rattle.sis_disk.specs.Layout.{data_blocks}
use Rattle.sis_model.specs.Answer.{MayReply, refusal_of}
use Rattle.sis_model.specs.World.{World}
use Rattle.sis_model.specs.declared.command.Command.{Command}
use Rattle.sis_model.specs.declared.history.Entry.{Entry}
use Rattle.sis_model.specs.declared.reply.Hindrance.{Hindrance}
use Rattle.sis_model.specs.declared.reply.Hindrance.TheVariants as hindrance
use Rattle.sis_model.specs.declared.reply.LimitKind.TheVariants as limit
use Rattle.sis_model.specs.declared.reply.Reply.{Reply}
use Rattle.sis_model.specs.declared.reply.Reply.TheVariants as reply
use Rattle.sis_table.specs.Volume.{VolumeTable, IsTable, greatest_number, most_nodes, used}
use Rattle.sis_table.proofs.ChangesUsed.{used_bounded}
use Rattle.sis_history.specs.Appearing.{MayAppear}
use Rattle.sis_history.specs.Causes.{IsCause}
use Rattle.sis_history.specs.Changed.{Fresh}
use Rattle.sis_history.specs.Entering.{Decides, IsAnswered}
use Rattle.sis_history.specs.Needs.{IsUnhindered, hindrance_of, need_of, no_need}
use Rattle.sis_history.specs.Replies.{Fits}
use Rattle.sis_history.specs.Rows.{Enters}
use Rattle.sis_history.specs.Runs.{IsRow}
use Rattle.sis_history.specs.Stage.{Job, Stage}

-- what a fact about some value says of that value
pub some_and : {T : Type 0} (P : T → Type 0) (o : Option T) → IsSomeAnd o P
    → (x : T) × (o ≡ Some x) × P x
some_and P None holds = absurd holds
some_and P (Some x) holds = (x, refl, holds)

-- ---- refusals

no_refusal : (refusal : Reply) (o : Option Reply) → o ≡ Some refusal → o ≡ None → ⊥
no_refusal refusal o is none = (let both : Some refusal ≡ None = sym is ∙ none in cc)

first_false : {P : Type 0} → IsTrue false ⊎ P → P
first_false (inl never) = absurd cc
first_false (inr holds) = holds

module _ (w : World) (client : ℕ) (c : Command) (refusal : Reply)
    (is : refusal_of w client c ≡ Some refusal) where
  accepted : {P : Type 0} → refusal_of w client c ≡ None → P
  accepted none = absurd (no_refusal refusal (refusal_of w client c) is none)

  refused_as : (r : Reply) → refusal_of w client c ≡ Some r → r ≡ refusal
  refused_as r other = (let both : Some r ≡ Some refusal = sym other ∙ is in cc)

  by_hindrance : (by : Hindrance) → MayReply w client c (reply.Hindered by)
      → IsAnswered refusal (reply.Hindered by)
  by_hindrance (hindrance.Limit limit.Opens) may = inl (refused_as _ may)
  by_hindrance (hindrance.Limit limit.Files) may = accepted (first_false may)
  by_hindrance (hindrance.Limit limit.Ids) may = accepted (first_false may)
  by_hindrance (hindrance.Limit limit.Indexes) may = accepted (first_false may)
  by_hindrance (hindrance.Limit limit.Versions) may = accepted (first_false may)
  by_hindrance (hindrance.Full needed used' total) may = accepted (first_false may)
  by_hindrance (hindrance.TableFull needed cap) may = accepted (first_false may)
  by_hindrance hindrance.Disk may = accepted (first_false may)
  by_hindrance (hindrance.Down at) may = inr (inr refl)
  by_hindrance hindrance.Memory may = inr (inl refl)

  pub refused_answer : (r : Reply) → MayAppear w client c r → IsAnswered refusal r
  refused_answer (reply.Hindered by) may = by_hindrance by may
  refused_answer reply.Done may = accepted may.0
  refused_answer (reply.Opened number) may = accepted may.0
  refused_answer (reply.Read bytes) may = accepted may.2.0
  refused_answer (reply.Closed fate) may = accepted may.0
  refused_answer (reply.Sized size) may = accepted may.0
  refused_answer (reply.Names names more) may = accepted may.0
  refused_answer (reply.Told kind) may = accepted may.0
  refused_answer (reply.Space used' total) may = accepted may.0
  refused_answer (reply.Groveled report) may = accepted may.0
  refused_answer (reply.Ended closed unsettled) may = accepted may.0
  refused_answer reply.NotShared may = accepted (first_false may)
  refused_answer (reply.Unsettled left) may = accepted (first_false may)
  refused_answer reply.InvalidOpen may = inl (refused_as _ may)
  refused_answer reply.InvalidParameter may = inl (refused_as _ may)
  refused_answer (reply.InvalidRequest fault) may = inl (refused_as _ may)
  refused_answer reply.InvalidDeviceRequest may = inl (refused_as _ may)
  refused_answer reply.AccessDenied may = inl (refused_as _ may)
  refused_answer reply.NameInvalid may = inl (refused_as _ may)
  refused_answer reply.NotFound may = inl (refused_as _ may)
  refused_answer reply.Collision may = inl (refused_as _ may)
  refused_answer reply.InUse may = inl (refused_as _ may)
  refused_answer reply.NotSameDevice may = inl (refused_as _ may)

pub entry_refused : (s t : Stage) (e : Entry) (fresh : Fresh) (refusal : Reply)
    → IsRow s (Enters e fresh) t → refusal_of s.world e.client e.command ≡ Some refusal
    → IsAnswered refusal e.reply
entry_refused s t e fresh refusal r is =
    refused_answer s.world e.client e.command refusal is e.reply r.may.may

-- ---- hindrances

module _ (s : Stage) (fresh : Fresh) (t : Stage) (client : ℕ) (j : Job) (h : Hindrance)
    (free : refusal_of s.world client j.command ≡ None)
    (met : hindrance_of s.table (need_of s client j.command) ≡ Some h) where
  unmet : {P : Type 0} → IsUnhindered s.table (need_of s client j.command) → P
  unmet none = absurd (let both : Some h ≡ None = sym met ∙ none in cc)

  same_met : (by : Hindrance) → hindrance_of s.table (need_of s client j.command) ≡ Some by
      → reply.Hindered by ≡ reply.Hindered h
  same_met by is = (let both : Some by ≡ Some h = sym is ∙ met in cc)

  unrefused : {P : Type 0} (r : Reply) → refusal_of s.world client j.command ≡ Some r → P
  unrefused r is = absurd (no_refusal r (refusal_of s.world client j.command) is free)

  hindered_as : (by : Hindrance) → IsCause s fresh t client j.command by
      → MayReply s.world client j.command (reply.Hindered by)
      → IsAnswered (reply.Hindered h) (reply.Hindered by)
  hindered_as (hindrance.Limit limit.Opens) cause may = unrefused _ may
  hindered_as (hindrance.Limit limit.Files) cause may = inl (same_met _ cause)
  hindered_as (hindrance.Limit limit.Ids) cause may = inl (same_met _ cause)
  hindered_as (hindrance.Limit limit.Indexes) cause may = inl (same_met _ cause)
  hindered_as (hindrance.Limit limit.Versions) cause may = inl (same_met _ cause)
  hindered_as (hindrance.Full needed used' total) cause may = inl (same_met _ cause)
  hindered_as (hindrance.TableFull needed cap) cause may = unmet (cause.1).unhindered
  hindered_as hindrance.Disk cause may = unmet cause.1
  hindered_as (hindrance.Down at) cause may = inr (inr refl)
  hindered_as hindrance.Memory cause may = inr (inl refl)

  pub hindered_answer : (r : Reply) → Fits s fresh t client j r
      → MayAppear s.world client j.command r → IsAnswered (reply.Hindered h) r
  hindered_answer (reply.Hindered by) fits may = hindered_as by fits may
  hindered_answer reply.Done fits may = unmet fits.takes.unhindered
  hindered_answer (reply.Opened number) fits may = unmet fits.takes.unhindered
  hindered_answer (reply.Read bytes) fits may = unmet fits.takes.unhindered
  hindered_answer (reply.Closed fate) fits may = unmet (fits.0).takes.unhindered
  hindered_answer (reply.Sized size) fits may = unmet fits.takes.unhindered
  hindered_answer (reply.Names names more) fits may = unmet fits.takes.unhindered
  hindered_answer (reply.Space used' total) fits may = unmet (fits.0).takes.unhindered
  hindered_answer (reply.Ended closed unsettled) fits may = unmet (fits.0).takes.unhindered
  hindered_answer (reply.Told kind) fits may = absurd fits
  hindered_answer (reply.Groveled report) fits may = absurd fits
  hindered_answer reply.NotShared fits may = absurd fits
  hindered_answer (reply.Unsettled left) fits may = absurd fits
  hindered_answer (reply.InvalidRequest fault) fits may = absurd fits
  hindered_answer reply.InvalidDeviceRequest fits may = absurd fits
  hindered_answer reply.NameInvalid fits may = absurd fits
  hindered_answer reply.NotSameDevice fits may = absurd fits
  hindered_answer reply.InvalidOpen fits may = unrefused _ may
  hindered_answer reply.InvalidParameter fits may = unrefused _ may
  hindered_answer reply.AccessDenied fits may = unrefused _ may
  hindered_answer reply.NotFound fits may = unrefused _ may
  hindered_answer reply.Collision fits may = unrefused _ may
  hindered_answer reply.InUse fits may = unrefused _ may

pub entry_hindered : (s t : Stage) (e : Entry) (fresh : Fresh) (h : Hindrance)
    → IsRow s (Enters e fresh) t
    → refusal_of s.world e.client e.command ≡ None
    → hindrance_of s.table (need_of s e.client e.command) ≡ Some h
    → IsAnswered (reply.Hindered h) e.reply
entry_hindered s t e fresh h r free met =
    let job = some_and (Decides s fresh t e) (s.jobs e.client) r.may.job in
    let decides : Decides s fresh t e job.0 = job.2 in
    let asked = decides.asked in
    hindered_answer s fresh t e.client job.0 h
    (subst (λ (c : Command). refusal_of s.world e.client c ≡ None) asked free)
    (subst (λ (c : Command). hindrance_of s.table (need_of s e.client c) ≡ Some h) asked met)
    e.reply decides.fits
    (subst (λ (c : Command). MayAppear s.world e.client c e.reply) asked r.may.may)

-- ---- no need

pub no_need_free : (v : VolumeTable) → IsTable v → IsUnhindered v no_need
no_need_free v is =
    let files : nat_lt most_nodes (length v.nodes + 0) ≡ false =
    (let few = is.few in grind (arith, nat_tests)) in
    let ids : nat_lt greatest_number (v.next_id + 0) ≡ false =
    (let few = is.next_high in grind (arith, nat_tests)) in
    let indexes : nat_lt greatest_number (v.greatest + 0) ≡ false =
    (let few = is.greatest in grind (arith, nat_tests)) in
    let blocks : nat_lt (data_blocks v.layout) (used v + 0) ≡ false =
    (let few = used_bounded v in grind (arith, nat_tests)) in
    rw (files, ids, indexes, blocks) refl
