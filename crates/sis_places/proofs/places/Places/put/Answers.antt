use Rattle.std.proofs.Common.{◌≡◌, ℕ, ◌+◌, ◌-◌, length, ap, sym, ◌∙◌, arith}
use Rattle.sis_places.specs.Places.{PlacesView, with_bits}
use Rattle.sis_places.proofs.BitLemmas.{len_of_view, length-set_bits, with_bits-none, with_bits-with_bits}
use Rattle.sis_places.proofs.places.Places.put.Goals as goal

pub overflow_add-start : goal.overflow_add-start
overflow_add-start c =
    let size = len_of_view c.self.inside.len c.self.inside.current.items c.self.inside.committed.items c.args.self.now c.self.view_is in
    omega (arith, size, c.requires)

pub loop-at-init : goal.loop-at-init
loop-at-init c =
    let size = len_of_view c.self.inside.len c.self.inside.current.items c.self.inside.committed.items c.args.self.now c.self.view_is in
    let nothing = with_bits-none c.args.self.now c.args.start c.args.value (omega (arith, c.requires)) in
    let done : c.args.start - c.args.start ≡ 0 = omega arith in
    record {
      behind = omega arith;
      within = omega (arith, size, c.requires, c.min-end.ensures);
      is = sym (ap (λ (n : ℕ). with_bits c.args.start n c.args.value c.args.self.now) done ∙ nothing);
    }

pub put_in_word-requires : goal.put_in_word-requires
put_in_word-requires c =
    let done = c.loop-at.invariant in
    let behind = done.behind in
    let same = ap (λ (v : PlacesView). length v.current) done.is in
    let kept = length-set_bits c.args.start (c.loop-at.at - c.args.start) c.args.value c.args.self.now.current
    (omega (arith, behind, c.requires, c.loop-at-test.true, c.min-end.ensures)) in
    record {
      some = omega (arith, c.min-part.ensures, c.loop-at-test.true);
      word = omega (arith, c.min-part.ensures);
      within = omega (arith, same, kept, c.min-part.ensures, c.requires, c.loop-at-test.true, c.min-end.ensures);
    }

pub overflow_add-at : goal.overflow_add-at
overflow_add-at c = omega (arith, c.min-part.ensures, c.loop-at-test.true, c.min-end.type_inv)

pub loop-at-preserved : goal.loop-at-preserved
loop-at-preserved c =
    let done = c.loop-at.invariant in
    let behind = done.behind in
    let v = c.args.self.now in
    let start = c.args.start in
    let value = c.args.value in
    let m = c.loop-at.at - start in
    let n = c.min-part.result in
    let at : start + m ≡ c.loop-at.at = omega (arith, behind) in
    let both = with_bits-with_bits v start m n value (omega (arith, at, c.min-part.ensures, c.requires, c.loop-at-test.true, c.min-end.ensures)) in
    record {
      behind = omega (arith, behind);
      within = omega (arith, c.min-part.ensures, c.loop-at-test.true);
      is = c.put_in_word.ensures
          ∙ ap (with_bits c.loop-at.at n value) done.is
          ∙ ap (λ (k : ℕ). with_bits k n value (with_bits start m value v)) (sym at)
          ∙ both
          ∙ ap (λ (k : ℕ). with_bits start k value v) (omega (arith, behind));
    }

pub returns : goal.returns
returns c =
    let done = c.loop-at.invariant in
    let within = done.within in
    let behind = done.behind in
    let size = len_of_view c.self.inside.len c.self.inside.current.items c.self.inside.committed.items c.args.self.now c.self.view_is in
    done.is ∙ ap (λ (n : ℕ). with_bits c.args.start n c.args.value c.args.self.now) (omega (arith, within, behind, size, c.requires, c.min-end.ensures, c.loop-at-test.false))
