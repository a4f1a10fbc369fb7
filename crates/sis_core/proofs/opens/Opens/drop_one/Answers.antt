use Rattle.std.proofs.Common.{rules, ◌≡◌, List, Some, ap, filter, not, subst, sym, ◌∙◌}
use Rattle.std.proofs.lemmas.Fn.{filter_same}
use Rattle.sis_core.specs.Opens.{IsIndex, is_as, open_as}
use Rattle.sis_core.specs.declared.opens.Open.{Open}
use Rattle.sis_core.proofs.OpensIndex.{filter_none, stands_in}
use Rattle.sis_core.proofs.opens.Opens.drop_one.Goals as goal

pub invariant_of-self : goal.invariant_of-self
invariant_of-self c =
    let client = c.args.client in
    let number = c.args.number in
    let items = c.self.inside.opens.items in
    let found : open_as client number items ≡ Some c.in-Some.open =
    ap (open_as client number) c.self.view_is ∙ sym c.find.ensures ∙ c.in-Some.is in
    let s = stands_in client number items c.in-Some.open c.self.invariant.numbered found in
    let kept : c.retain.new.self.items ≡ filter (λ o. not (is_as client number o)) items =
    filter_same _ _ _ (λ x b f' k. search rules) items c.retain.new.self.items
    c.retain.ensures.filtered in
    subst (λ (os : List Open). IsIndex os c.leave.new.self) (sym (kept ∙ s.left))
    (c.leave.ensures s.front s.rest
    (subst (λ (os : List Open). IsIndex os c.self.inside.index) s.is c.self.invariant))

pub returns-in-Some : goal.returns-in-Some
returns-in-Some c =
    filter_same _ _ _ (λ x b f' k. search rules) _ _ c.retain.ensures.filtered
    ∙ ap (λ (os : List Open). filter (λ o. not (is_as c.args.client c.args.number o)) os)
    c.self.view_is

pub returns-in_default : goal.returns-in_default
returns-in_default c =
    sym (filter_none (is_as c.args.client c.args.number) c.args.self.now
    (sym c.find.ensures ∙ c.in_default.is))
