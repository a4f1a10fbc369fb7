use Rattle.std.proofs.Common.{ℕ, ◌/◌, List, Bool, get_or, ap, ◌∙◌, arith}
use Rattle.sis_places.specs.Places.{PlacesView, with_bits}
use Rattle.sis_places.specs.Inside.{bits_of}
use Rattle.sis_places.proofs.BitLemmas.{len_of_view, with_current, word_below}
use Rattle.sis_places.proofs.PlacesLemmas.{putting, counted, ArePlaces-put, bits_of-put}
use Rattle.sis_places.proofs.places.Places.put_in_word.Goals as goal

pub word_at-before-requires : goal.word_at-before-requires
word_at-before-requires c =
    let size = len_of_view c.self.inside.len c.self.inside.current.items c.self.inside.committed.items c.args.self.now c.self.view_is in
    omega (arith, size, c.requires, c.self.invariant.current_packed.size, c.deref.ensures.len)

pub word_at-other-requires : goal.word_at-other-requires
word_at-other-requires c =
    let size = len_of_view c.self.inside.len c.self.inside.current.items c.self.inside.committed.items c.args.self.now c.self.view_is in
    omega (arith, size, c.requires, c.self.invariant.committed_packed.size, c.deref-2.ensures.len)

pub index_mut-requires : goal.index_mut-requires
index_mut-requires c =
    let size = len_of_view c.self.inside.len c.self.inside.current.items c.self.inside.committed.items c.args.self.now c.self.view_is in
    let below = word_below c.self.inside.len c.self.inside.current.items c.args.start c.self.invariant.current_packed.size (omega (arith, size, c.requires)) in
    omega (arith, below, c.self.inside.current.ok.0)

pub overflow_sub-self : goal.overflow_sub-self
overflow_sub-self c =
    let size = len_of_view c.self.inside.len c.self.inside.current.items c.self.inside.committed.items c.args.self.now c.self.view_is in
    let h = putting c.self.inside.len c.self.inside.current.items c.self.inside.committed.items c.self.inside.used c.self.inside.spare c.args.start c.args.count c.args.value
    c.word_at-before.result c.word_at-other.result c.put-after.result
    c.self.invariant c.requires.some c.requires.word (omega (arith, size, c.requires))
    (c.word_at-before.ensures ∙ ap (λ (words : List ℕ). get_or words (c.args.start / 64) 0) c.deref.ensures.value)
    (c.word_at-other.ensures ∙ ap (λ (words : List ℕ). get_or words (c.args.start / 64) 0) c.deref-2.ensures.value)
    c.word_at-before.type_inv c.word_at-other.type_inv c.put-after.type_inv c.put-after.ensures in
    let counts = counted _ _ _ _ _ _ _ _ _ _ _ h in
    omega (arith, counts.had, c.ones.ensures)

pub overflow_add-self : goal.overflow_add-self
overflow_add-self c =
    let size = len_of_view c.self.inside.len c.self.inside.current.items c.self.inside.committed.items c.args.self.now c.self.view_is in
    let h = putting c.self.inside.len c.self.inside.current.items c.self.inside.committed.items c.self.inside.used c.self.inside.spare c.args.start c.args.count c.args.value
    c.word_at-before.result c.word_at-other.result c.put-after.result
    c.self.invariant c.requires.some c.requires.word (omega (arith, size, c.requires))
    (c.word_at-before.ensures ∙ ap (λ (words : List ℕ). get_or words (c.args.start / 64) 0) c.deref.ensures.value)
    (c.word_at-other.ensures ∙ ap (λ (words : List ℕ). get_or words (c.args.start / 64) 0) c.deref-2.ensures.value)
    c.word_at-before.type_inv c.word_at-other.type_inv c.put-after.type_inv c.put-after.ensures in
    let counts = counted _ _ _ _ _ _ _ _ _ _ _ h in
    omega (arith, counts.had, counts.used_is, counts.used_few, c.ones.ensures, c.ones-2.ensures)

pub overflow_add-self-2 : goal.overflow_add-self-2
overflow_add-self-2 c =
    let size = len_of_view c.self.inside.len c.self.inside.current.items c.self.inside.committed.items c.args.self.now c.self.view_is in
    let h = putting c.self.inside.len c.self.inside.current.items c.self.inside.committed.items c.self.inside.used c.self.inside.spare c.args.start c.args.count c.args.value
    c.word_at-before.result c.word_at-other.result c.put-after.result
    c.self.invariant c.requires.some c.requires.word (omega (arith, size, c.requires))
    (c.word_at-before.ensures ∙ ap (λ (words : List ℕ). get_or words (c.args.start / 64) 0) c.deref.ensures.value)
    (c.word_at-other.ensures ∙ ap (λ (words : List ℕ). get_or words (c.args.start / 64) 0) c.deref-2.ensures.value)
    c.word_at-before.type_inv c.word_at-other.type_inv c.put-after.type_inv c.put-after.ensures in
    let counts = counted _ _ _ _ _ _ _ _ _ _ _ h in
    omega (arith, counts.spare_few, c.ones-3.ensures)

pub overflow_sub-self-2 : goal.overflow_sub-self-2
overflow_sub-self-2 c =
    let size = len_of_view c.self.inside.len c.self.inside.current.items c.self.inside.committed.items c.args.self.now c.self.view_is in
    let h = putting c.self.inside.len c.self.inside.current.items c.self.inside.committed.items c.self.inside.used c.self.inside.spare c.args.start c.args.count c.args.value
    c.word_at-before.result c.word_at-other.result c.put-after.result
    c.self.invariant c.requires.some c.requires.word (omega (arith, size, c.requires))
    (c.word_at-before.ensures ∙ ap (λ (words : List ℕ). get_or words (c.args.start / 64) 0) c.deref.ensures.value)
    (c.word_at-other.ensures ∙ ap (λ (words : List ℕ). get_or words (c.args.start / 64) 0) c.deref-2.ensures.value)
    c.word_at-before.type_inv c.word_at-other.type_inv c.put-after.type_inv c.put-after.ensures in
    let counts = counted _ _ _ _ _ _ _ _ _ _ _ h in
    omega (arith, counts.spare_is, c.ones-3.ensures, c.ones-4.ensures)

pub invariant_of-self : goal.invariant_of-self
invariant_of-self c =
    let size = len_of_view c.self.inside.len c.self.inside.current.items c.self.inside.committed.items c.args.self.now c.self.view_is in
    let h = putting c.self.inside.len c.self.inside.current.items c.self.inside.committed.items c.self.inside.used c.self.inside.spare c.args.start c.args.count c.args.value
    c.word_at-before.result c.word_at-other.result c.put-after.result
    c.self.invariant c.requires.some c.requires.word (omega (arith, size, c.requires))
    (c.word_at-before.ensures ∙ ap (λ (words : List ℕ). get_or words (c.args.start / 64) 0) c.deref.ensures.value)
    (c.word_at-other.ensures ∙ ap (λ (words : List ℕ). get_or words (c.args.start / 64) 0) c.deref-2.ensures.value)
    c.word_at-before.type_inv c.word_at-other.type_inv c.put-after.type_inv c.put-after.ensures in
    rw (c.ones.ensures, c.ones-2.ensures, c.ones-3.ensures, c.ones-4.ensures) (ArePlaces-put _ _ _ _ _ _ _ _ _ _ _ h)

pub returns : goal.returns
returns c =
    let size = len_of_view c.self.inside.len c.self.inside.current.items c.self.inside.committed.items c.args.self.now c.self.view_is in
    let h = putting c.self.inside.len c.self.inside.current.items c.self.inside.committed.items c.self.inside.used c.self.inside.spare c.args.start c.args.count c.args.value
    c.word_at-before.result c.word_at-other.result c.put-after.result
    c.self.invariant c.requires.some c.requires.word (omega (arith, size, c.requires))
    (c.word_at-before.ensures ∙ ap (λ (words : List ℕ). get_or words (c.args.start / 64) 0) c.deref.ensures.value)
    (c.word_at-other.ensures ∙ ap (λ (words : List ℕ). get_or words (c.args.start / 64) 0) c.deref-2.ensures.value)
    c.word_at-before.type_inv c.word_at-other.type_inv c.put-after.type_inv c.put-after.ensures in
    let bits = bits_of-put _ _ _ _ _ _ _ _ _ _ _ h in
    let v : PlacesView = record { current = bits_of c.self.inside.len c.self.inside.current.items; committed = bits_of c.self.inside.len c.self.inside.committed.items } in
    ap (λ (b : List Bool). with_current b v) bits ∙ ap (with_bits c.args.start c.args.count c.args.value) c.self.view_is
