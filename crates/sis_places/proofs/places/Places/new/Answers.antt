use Rattle.std.proofs.Common.{◌≡◌, ℕ, ◌*◌, ◌≤◌, List, Bool, replicate, ap₂, sym, subst, ◌∙◌, arith}
use Rattle.sis_places.specs.Places.{PlacesView}
use Rattle.sis_places.specs.Inside.{ArePlaces, bits_of}
use Rattle.sis_places.proofs.PlacesLemmas.{ArePlaces-zero, bits_of-zero}
use Rattle.sis_places.proofs.places.Places.new.Goals as goal

pub invariant_of-result : goal.invariant_of-result
invariant_of-result c =
    let len = c.args.len in
    let words = c.div_ceil-words.result in
    let first : c.in_ok-vec.field-0.items ≡ replicate words 0 = c.in_ok-vec.ensures.items_if_clones_equal (λ y h. h) in
    let second : c.in_ok-vec-2.field-0.items ≡ replicate words 0 = c.in_ok-vec-2.ensures.items_if_clones_equal (λ y h. h) in
    let fits : len ≤ 64 * words = omega (arith, c.div_ceil-words.ensures) in
    subst (λ (a : List ℕ). ArePlaces len a c.in_ok-vec-2.field-0.items 0 len) (sym first)
    (subst (λ (b : List ℕ). ArePlaces len (replicate words 0) b 0 len) (sym second) (ArePlaces-zero len words fits))

pub returns : goal.returns
returns c =
    let len = c.args.len in
    let words = c.div_ceil-words.result in
    let first : c.in_ok-vec.field-0.items ≡ replicate words 0 = c.in_ok-vec.ensures.items_if_clones_equal (λ y h. h) in
    let second : c.in_ok-vec-2.field-0.items ≡ replicate words 0 = c.in_ok-vec-2.ensures.items_if_clones_equal (λ y h. h) in
    let view = λ (a b : List ℕ). let v : PlacesView = record { current = bits_of len a; committed = bits_of len b } in v in
    let pair = λ (a b : List Bool). let v : PlacesView = record { current = a; committed = b } in v in
    ap₂ view first second ∙ ap₂ pair (bits_of-zero len words) (bits_of-zero len words)
