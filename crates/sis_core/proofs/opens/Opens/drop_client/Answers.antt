use Rattle.std.proofs.Common.{rules, ◌≡◌, List, ap, filter, not, subst, sym, ◌∙◌}
use Rattle.std.proofs.lemmas.Fn.{filter_same}
use Rattle.sis_core.specs.Opens.{IsIndex, is_of}
use Rattle.sis_core.specs.declared.opens.Open.{Open}
use Rattle.sis_core.proofs.opens.Opens.drop_client.Goals as goal

pub invariant_of-self : goal.invariant_of-self
invariant_of-self c =
    let items = c.self.inside.opens.items in
    let client = c.args.client in
    let same : c.deref.result.now ≡ items = c.deref.ensures.value in
    let kept : c.retain.new.self.items ≡ filter (λ o. not (is_of client o)) items =
    filter_same _ _ _ (λ x b f' k. search rules) items c.retain.new.self.items
    c.retain.ensures.filtered in
    let all : IsIndex c.deref.result.now c.self.inside.index =
    subst (λ (os : List Open). IsIndex os c.self.inside.index) (sym same) c.self.invariant in
    subst (λ (os : List Open). IsIndex os c.leave_all.new.self)
    (ap (λ (os : List Open). filter (λ o. not (is_of client o)) os) same ∙ sym kept)
    (c.leave_all.ensures all)

pub returns : goal.returns
returns c =
    filter_same _ _ _ (λ x b f' k. search rules) _ _ c.retain.ensures.filtered
    ∙ ap (λ (os : List Open). filter (λ o. not (is_of c.args.client o)) os) c.self.view_is
