-- Entries that are added behind those of before.
use Rattle.std.proofs.Common.{◌≡◌, ℕ, ◌+◌, ◌<◌, List, [], ◌∷◌, ◌++◌, length, true, Some, refl, sym, ap, ap₂, subst, ◌∙◌, arith, append_assoc, append-nil}
use Rattle.std.specs.Prelude.{Option, slice_set, ◌==◌}
use Rattle.std.proofs.lemmas.Bool.Decides.{nat_tests}
use Rattle.std.proofs.lemmas.List.{length-append, length-map, map-append}
use Rattle.sis_model.specs.Order.{line_of}
use Rattle.sis_model.specs.declared.command.Command.{Command}
use Rattle.sis_model.specs.declared.history.Entry.{Entry}
use Rattle.sis_model.specs.declared.history.Line.{Line}
use Rattle.sis_model.specs.declared.reply.Reply.{Reply}
use Rattle.sis_core.specs.declared.job.Job.{Job}
use Rattle.sis_core.specs.declared.job.Job.TheVariants as job
use Rattle.sis_core.specs.Jobs.{AreIdle}
use Rattle.sis_core.specs.Steps.{entry_of}
use Rattle.sis_core.specs.Turns.{AddsLines}
use Rattle.sis_core.specs.View.{job_of}
use Rattle.sis_core.proofs.JobLemmas.{job_here}

pub adds_none : (es : List Entry) → AddsLines es es []
adds_none es = record { more = []; kept = sym (append-nil es); lines = refl }

pub adds_then : (a b c : List Entry) (first second : List Line) → AddsLines a b first
    → AddsLines b c second → AddsLines a c (first ++ second)
adds_then a b c first second one two = record {
  more = one.more ++ two.more;
  kept =
      two.kept ∙ ap (λ (es : List Entry). es ++ two.more) one.kept
      ∙ append_assoc a one.more two.more;
  lines =
      map-append line_of one.more two.more
      ∙ ap₂ (λ (xs ys : List Line). xs ++ ys) one.lines two.lines;
}

pub adds_as : (old new : List Entry) (ls order : List Line) → ls ≡ order → AddsLines old new ls
    → AddsLines old new order
adds_as old new ls order same adds = record {
  more = adds.more;
  kept = adds.kept;
  lines = adds.lines ∙ same;
}

-- so many more
pub adds_length : (old new : List Entry) (order : List Line) → AddsLines old new order
    → length new ≡ length old + length order
adds_length old new order adds =
    let more = ap length adds.lines in
    let all = ap length adds.kept in
    omega (arith, all, length-append old adds.more, length-map adds.more line_of, more)

-- the command that a client took is the one that it has in hand
same_begun : (old : List (Option Job)) (client : ℕ) (c d : Command) → AreIdle old → client < 17
    → job_of (slice_set old client (Some (job.Begun c))) client ≡ Some (job.Begun d) → c ≡ d
same_begun old client c d idle lt has =
    let size = ap length idle in
    let test : (client == client) ≡ true = grind (arith, nat_tests) in
    let here : job_of (slice_set old client (Some (job.Begun c))) client ≡ Some (job.Begun c) =
    job_here old client client (Some (job.Begun c)) (omega (arith, size, lt)) test in
    by (sym here ∙ has)
  where
    by : Some (job.Begun c) ≡ Some (job.Begun d) → c ≡ d
    by e = cc

-- a client's command was begun, decided and answered
pub adds_one : (old mid new : List Entry) (before begun : List (Option Job)) (client : ℕ)
    (c d : Command) (r : Reply) (calls : ℕ) → AreIdle before → client < 17
    → begun ≡ slice_set before client (Some (job.Begun c)) → mid ≡ old
    → job_of begun client ≡ Some (job.Begun d) → new ≡ mid ++ entry_of client d r calls ∷ []
    → AddsLines old new (record { client = client; command = c } ∷ [])
adds_one old mid new before begun client c d r calls idle lt jobs same has added =
    let one : c ≡ d =
    same_begun before client c d idle lt
    (subst (λ (js : List (Option Job)). job_of js client ≡ Some (job.Begun d)) jobs has) in
    record {
      more = entry_of client d r calls ∷ [];
      kept = added ∙ ap (λ (es : List Entry). es ++ entry_of client d r calls ∷ []) same;
      lines = ap (λ (x : Command). record { client = client; command = x } ∷ []) (sym one);
    }
