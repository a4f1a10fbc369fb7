use Rattle.std.proofs.Common.{ℕ, ◌/◌, ◌%◌, ◌<◌, List, false, get_or, ap, ◌∙◌, sym, arith}
use Rattle.std.specs.Prelude.{◌==◌}
use Rattle.std.proofs.lemmas.Nat.Bits.{shr_and_one}
use Rattle.sis_places.specs.Places.{PlacesView}
use Rattle.sis_places.specs.Inside.{has_bit}
use Rattle.sis_places.proofs.BitLemmas.{len_of_view, get_or-bits_of}
use Rattle.sis_places.proofs.places.Places.is_used.Goals as goal

pub word_at-requires : goal.word_at-requires
word_at-requires c =
    let size = len_of_view c.self.inside.len c.self.inside.current.items c.self.inside.committed.items c.args.self.now c.self.view_is in
    omega (arith, size, c.requires, c.self.invariant.current_packed.size, c.deref.ensures.len)

pub returns : goal.returns
returns c =
    let len = c.self.inside.len in
    let words = c.self.inside.current.items in
    let place = c.args.place in
    let size = len_of_view c.self.inside.len c.self.inside.current.items c.self.inside.committed.items c.args.self.now c.self.view_is in
    let lt : place < len = omega (arith, size, c.requires) in
    ap (λ (n : ℕ). n == 1) (shr_and_one c.word_at.result (place % 64))
    ∙ ap (λ (w : ℕ). has_bit w (place % 64)) (c.word_at.ensures ∙ ap (λ (ws : List ℕ). get_or ws (place / 64) 0) c.deref.ensures.value)
    ∙ sym (get_or-bits_of len words place lt)
    ∙ ap (λ (v : PlacesView). get_or v.current place false) c.self.view_is
