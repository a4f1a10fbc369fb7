use Rattle.std.proofs.Common.{◌≡◌, ℕ, ◌+◌, ◌-◌, List, Bool, true, false, None, ap, subst}
use Rattle.sis_places.specs.Places.{PlacesView, FindsNextSet, IsNextSet, spare_bits}
use Rattle.sis_places.specs.Inside.{IsFirst, is_neither}
use Rattle.sis_places.proofs.Searches.{none_behind, none_found, next_found}
use Rattle.sis_places.proofs.places.Places.next_spare.Goals as goal

-- a search of these words, where they are those of the fields
of_words : (a b current committed : List ℕ) (value : Bool) (from below first : ℕ) → a ≡ current → b ≡ committed
    → IsFirst (is_neither a b) value from below first → IsFirst (is_neither current committed) value from below first
of_words a b current committed value from below first is_a is_b h =
    subst (λ (y : List ℕ). IsFirst (is_neither current y) value from below first) is_b
    (subst (λ (x : List ℕ). IsFirst (is_neither x b) value from below first) is_a h)

pub returns-then-from-self : goal.returns-then-from-self
returns-then-from-self c =
    subst (λ (v : PlacesView). FindsNextSet (spare_bits v) c.args.from c.args.most None) c.self.view_is
    (none_behind c.self.inside.len c.self.inside.current.items c.self.inside.committed.items c.args.from c.args.most c.if-from-self.true)

pub returns-then-start-self : goal.returns-then-start-self
returns-then-start-self c =
    let len = c.self.inside.len in
    let current = c.self.inside.current.items in
    let committed = c.self.inside.committed.items in
    subst (λ (v : PlacesView). FindsNextSet (spare_bits v) c.args.from c.args.most None) c.self.view_is
    (none_found len current committed c.args.from c.args.most c.first-start.result
    (of_words c.deref.result.now c.deref-2.result.now current committed true c.args.from len c.first-start.result c.deref.ensures.value c.deref-2.ensures.value c.first-start.ensures)
    c.if-start-self.true)

pub returns : goal.returns
returns c =
    let len = c.self.inside.len in
    let current = c.self.inside.current.items in
    let committed = c.self.inside.committed.items in
    let start = c.first-start.result in
    let end = c.first-end.result in
    let below = start + c.min.result in
    subst (λ (v : PlacesView). IsNextSet (spare_bits v) c.args.from c.args.most (record { start = start; count = end - start })) c.self.view_is
    (next_found len current committed c.args.from c.args.most start below end c.requires
    (of_words c.deref.result.now c.deref-2.result.now current committed true c.args.from len start c.deref.ensures.value c.deref-2.ensures.value c.first-start.ensures)
    c.if-start-self.false (ap (λ (n : ℕ). start + n) c.min.ensures)
    (of_words c.deref-3.result.now c.deref-4.result.now current committed false start below end c.deref-3.ensures.value c.deref-4.ensures.value c.first-end.ensures))
