use Rattle.std.proofs.Common.{ℕ, ◌/◌, ◌%◌, ◌<◌, List, false, not, get_or, ap, ap₂, ◌∙◌, sym, arith}
use Rattle.std.specs.Prelude.{◌==◌, ◌&&◌, bit_or}
use Rattle.std.proofs.lemmas.Nat.Bits.{shr_and_one}
use Rattle.sis_places.specs.Places.{PlacesView, spare_bits}
use Rattle.sis_places.specs.Inside.{has_bit}
use Rattle.sis_places.proofs.BitLemmas.{len_of_view, get_or-spare_bits}
use Rattle.sis_places.proofs.WordLemmas.{neither_bit}
use Rattle.sis_places.proofs.places.Places.is_spare.Goals as goal

pub word_at-requires : goal.word_at-requires
word_at-requires c =
    let size = len_of_view c.self.inside.len c.self.inside.current.items c.self.inside.committed.items c.args.self.now c.self.view_is in
    omega (arith, size, c.requires, c.self.invariant.current_packed.size, c.deref.ensures.len)

pub word_at-requires-2 : goal.word_at-requires-2
word_at-requires-2 c =
    let size = len_of_view c.self.inside.len c.self.inside.current.items c.self.inside.committed.items c.args.self.now c.self.view_is in
    omega (arith, size, c.requires, c.self.invariant.committed_packed.size, c.deref-2.ensures.len)

pub returns : goal.returns
returns c =
    let len = c.self.inside.len in
    let current = c.self.inside.current.items in
    let committed = c.self.inside.committed.items in
    let place = c.args.place in
    let size = len_of_view c.self.inside.len c.self.inside.current.items c.self.inside.committed.items c.args.self.now c.self.view_is in
    let lt : place < len = omega (arith, size, c.requires) in
    let word = λ (ws : List ℕ). get_or ws (place / 64) 0 in
    ap (λ (n : ℕ). n == 0) (shr_and_one (bit_or c.word_at.result c.word_at-2.result) (place % 64))
    ∙ neither_bit c.word_at.result c.word_at-2.result (place % 64)
    ∙ ap₂ (λ (x y : ℕ). not (has_bit x (place % 64)) && not (has_bit y (place % 64)))
    (c.word_at.ensures ∙ ap word c.deref.ensures.value) (c.word_at-2.ensures ∙ ap word c.deref-2.ensures.value)
    ∙ sym (get_or-spare_bits len current committed place lt)
    ∙ ap (λ (v : PlacesView). get_or (spare_bits v) place false) c.self.view_is
