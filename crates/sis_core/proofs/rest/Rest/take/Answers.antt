use Rattle.std.proofs.Common.{◌≡◌, ◌∙◌, ◌+◌, ◌++◌, ◌<◌, ℕ, List, ap, arith, drop, false, length, subst, sym}
use Rattle.std.specs.Prelude.{slice_index_or, slice_set}
use Rattle.std.proofs.lemmas.List.{get_or-set_other}
use Rattle.sis_model.specs.Order.{commands_of}
use Rattle.sis_model.specs.declared.command.Command.{Command}
use Rattle.sis_model.specs.declared.history.Line.{Line}
use Rattle.sis_core.specs.Rest.{RestView, end_if, left}
use Rattle.sis_core.proofs.LineLemmas.{commands_set}
use Rattle.sis_core.proofs.rest.Rest.take.Goals as goal

pub returns-then-at-len-clause-others : goal.returns-then-at-len-clause-others
returns-then-at-len-clause-others c = λ other not.
    let ls = c.self.inside.lines.items in
    let at = c.next_line-at.result in
    let d = c.index_mut.result.now in
    let lt : at < length ls = omega (arith, c.if-at-len.true, c.len.ensures) in
    let mine : (slice_index_or ls at d).client ≡ c.args.client =
    subst (λ (xs : List Line). at < length xs → (slice_index_or xs at d).client ≡ c.args.client)
    c.deref.ensures.value (λ low. c.next_line-at.ensures.client low d) lt in
    let same : d.client ≡ c.args.client =
    ap (λ (l : Line). l.client) c.index_mut.ensures.value ∙ mine in
    ap (λ (n : ℕ). commands_of other (drop n (slice_set ls at
    (record { client = d.client; command = c.replace.new.dest })))
    ++ end_if (slice_index_or c.self.inside.ends other false))
    (get_or-set_other c.self.inside.next c.args.client other (at + 1) 0 not)
    ∙ ap (λ (cs : List Command). cs ++ end_if (slice_index_or c.self.inside.ends other false))
    (commands_set other ls at (slice_index_or c.self.inside.next other 0)
    (record { client = d.client; command = c.replace.new.dest }) d lt
    (λ e. not (sym e ∙ mine)) (λ e. not (sym e ∙ same)))
    ∙ ap (λ (r : RestView). left r other) c.self.view_is
