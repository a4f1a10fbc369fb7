use Rattle.std.proofs.Common.{ℕ, ◌-◌, List, sym, subst, ◌∙◌, arith}
use Rattle.sis_places.specs.Inside.{ArePlaces}
use Rattle.sis_places.proofs.PlacesLemmas.{ArePlaces-commit, used_fits}
use Rattle.sis_places.proofs.places.Places.commit.Goals as goal

pub overflow_sub-self : goal.overflow_sub-self
overflow_sub-self c = omega (arith, used_fits c.self.inside.len c.self.inside.current.items, c.self.invariant.used_is)

pub invariant_of-self : goal.invariant_of-self
invariant_of-self c =
    let len = c.self.inside.len in
    let current = c.self.inside.current.items in
    let used = c.self.inside.used in
    subst (λ (b : List ℕ). ArePlaces len current b used (len - used)) (sym (c.copy_from_slice.ensures.items ∙ c.deref.ensures.value))
    (ArePlaces-commit len current c.self.inside.committed.items used c.self.inside.spare c.self.invariant)
