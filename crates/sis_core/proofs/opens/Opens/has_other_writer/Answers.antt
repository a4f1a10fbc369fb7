use Rattle.std.proofs.Common.{◌≡◌, ℕ, List, ap, arith, subst, ◌∙◌}
use Rattle.std.specs.Prelude.{nat_lt}
use Rattle.std.proofs.lemmas.Bool.Decides.{nat_tests}
use Rattle.sis_core.specs.Opens.{AreNumbered, count_of, open_as, writes_in}
use Rattle.sis_core.specs.declared.opens.Open.{Open}
use Rattle.sis_core.specs.declared.opens.index.FileOpens.{FileOpens}
use Rattle.sis_core.proofs.OpensIndex.{other_writers, own}
use Rattle.sis_core.proofs.opens.Opens.has_other_writer.Goals as goal
use Rattle.sis_core.proofs.opens.Opens.has_other_writer.Goals.{in-Some, in_default-2, in_default-3, in_default}

pub returns : goal.returns
returns c =
    let this = c.args.this.now in
    let file = this.file in
    let opens = c.args.self.now in
    let mine = own file (open_as this.client this.number opens) in
    let mine_is : c.match-find.own ≡ mine =
    elim c.match-find.branch [
      | in-Some w ↦ rw (← c.find.ensures, w.in-Some.is) (grind (arith, nat_tests))
      | in_default-2 w ↦ rw (← c.find.ensures, w.in-Some.is) (grind (arith, nat_tests))
      | in_default-3 w ↦ rw (← c.find.ensures, w.in-Some.is) (grind (arith, nat_tests))
      | in_default w ↦ rw (← c.find.ensures, w.in_default.is) (w.own-is)
    ] in
    let numbered : AreNumbered opens =
    subst (λ (os : List Open). AreNumbered os) c.self.view_is c.self.invariant.numbered in
    ap (λ (n : ℕ). nat_lt n c.opens_in.result.writers) mine_is
    ∙ ap (λ (f : FileOpens). nat_lt mine f.writers)
    (c.opens_in.ensures ∙ c.self.invariant.files file)
    ∙ ap (λ (os : List Open). nat_lt mine (count_of (writes_in file) os)) c.self.view_is
    ∙ other_writers this opens numbered
