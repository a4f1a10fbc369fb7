-- Runs with more behind them.
use Rattle.std.proofs.Common.{◌≡◌, ℕ, zero, suc, ◌+◌, ◌-◌, ◌<◌, ◌≤◌, Bool, true, false, cond, List, [], ◌∷◌, ◌++◌, length, take, drop, get_or, set, Option, Some, refl, ap, sym, ◌∙◌, subst, arith, append_assoc}
use Rattle.std.specs.List.{AllByRecursion, insert}
use Rattle.std.specs.Option.{option_or}
use Rattle.std.proofs.lemmas.List.{append-nil}
use Rattle.std.proofs.lemmas.Bool.Decides.{nat_tests}
use Rattle.sis_ranges.specs.declared.run.Run.{Run}
use Rattle.sis_ranges.specs.Extents.{block_end, place_end, has_block, place_of, can_join, IsApart, AreRuns, IsWithin}
use Rattle.sis_ranges.specs.Inside.{blocks_in, first_of, with_run, with_runs, with_some}
use Rattle.sis_ranges.proofs.CutLemmas.{IsBehind, apart_behind, can_join-same}

-- the block behind the last run
abbrev pub end_of : List Run → ℕ
end_of [] = 0
end_of (r ∷ []) = block_end r
end_of (r ∷ s ∷ rs) = end_of (s ∷ rs)

-- what may be added behind the runs
pub record MayAppend (runs : List Run) (x : Run) : Type 0 where
  pub some : 1 ≤ x.count
  pub behind : end_of runs ≤ x.first

-- two runs as one
abbrev pub joined : Run → Run → Run
joined r x = record { first = r.first; count = r.count + x.count; place = r.place }

-- where two runs can be joined
pub record GoesOn (r x : Run) : Type 0 where
  pub block : block_end r ≡ x.first
  pub place : place_end r ≡ x.place

goes_on : (r x : Run) → can_join r x ≡ true → GoesOn r x
goes_on r x h = record { block = grind (arith, nat_tests); place = grind (arith, nat_tests) }

pub with_run-joined : (r x : Run) → can_join r x ≡ true → with_run (r ∷ []) x ≡ joined r x ∷ []
with_run-joined r x h = ap (λ (b : Bool). cond b (joined r x ∷ []) (r ∷ x ∷ [])) h

pub with_run-behind : (r x : Run) → can_join r x ≡ false → with_run (r ∷ []) x ≡ r ∷ x ∷ []
with_run-behind r x h = ap (λ (b : Bool). cond b (joined r x ∷ []) (r ∷ x ∷ [])) h

-- the last run before a place grows
pub with_run-set : (rs : List Run) (x r s : Run) (at n : ℕ) → at ≡ suc n → n < length rs → r ≡ get_or rs n r → s ≡ get_or rs n s
    → can_join r x ≡ true → take at (set rs n (joined s x)) ≡ with_run (take at rs) x
with_run-set rs x r s at n next lt at_r at_s h =
    ap (λ (k : ℕ). take k (set rs n (joined s x))) next ∙ grown rs r s n lt at_r at_s h ∙ ap (λ (k : ℕ). with_run (take k rs) x) (sym next)
  where
    grown : (rs : List Run) (r s : Run) (n : ℕ) → n < length rs → r ≡ get_or rs n r → s ≡ get_or rs n s → can_join r x ≡ true
        → take (suc n) (set rs n (joined s x)) ≡ with_run (take (suc n) rs) x
    grown [] r s n lt at_r at_s h = absurd (omega (arith, lt))
    grown (q ∷ qs) r s zero lt at_r at_s h =
        ap (λ (t : Run). joined t x ∷ []) at_s ∙ sym (with_run-joined q x (subst (λ t. can_join t x ≡ true) at_r h))
    grown (q ∷ []) r s (suc n) lt at_r at_s h = absurd (omega (arith, lt))
    grown (q ∷ p ∷ ps) r s (suc n) lt at_r at_s h = ap (λ (l : List Run). q ∷ l) (grown (p ∷ ps) r s n (omega (arith, lt)) at_r at_s h)

-- or the new one stands behind it
pub with_run-push : (rs : List Run) (x r : Run) (at n : ℕ) → at ≡ suc n → n < length rs → r ≡ get_or rs n r → can_join r x ≡ false
    → take at rs ++ x ∷ [] ≡ with_run (take at rs) x
with_run-push rs x r at n next lt at_r h =
    ap (λ (k : ℕ). take k rs ++ x ∷ []) next ∙ behind rs r n lt at_r h ∙ ap (λ (k : ℕ). with_run (take k rs) x) (sym next)
  where
    behind : (rs : List Run) (r : Run) (n : ℕ) → n < length rs → r ≡ get_or rs n r → can_join r x ≡ false
        → take (suc n) rs ++ x ∷ [] ≡ with_run (take (suc n) rs) x
    behind [] r n lt at_r h = absurd (omega (arith, lt))
    behind (q ∷ qs) r zero lt at_r h = sym (with_run-behind q x (subst (λ t. can_join t x ≡ false) at_r h))
    behind (q ∷ []) r (suc n) lt at_r h = absurd (omega (arith, lt))
    behind (q ∷ p ∷ ps) r (suc n) lt at_r h = ap (λ (l : List Run). q ∷ l) (behind (p ∷ ps) r n (omega (arith, lt)) at_r h)

pub with_run-none : (rs : List Run) (x : Run) (at : ℕ) → at ≡ 0 → take at rs ++ x ∷ [] ≡ with_run (take at rs) x
with_run-none rs x at none = ap (λ (k : ℕ). take k rs ++ x ∷ []) none ∙ front rs ∙ ap (λ (k : ℕ). with_run (take k rs) x) (sym none)
  where
    front : (rs : List Run) → take 0 rs ++ x ∷ [] ≡ with_run (take 0 rs) x
    front [] = refl
    front (r ∷ rs) = refl

-- a run written at a place, and one put there
pub take-written : (rs : List Run) (x : Run) (at k : ℕ) → k ≡ suc at → at < length rs → take k (set rs at x) ≡ take at rs ++ x ∷ []
take-written rs x at k next lt = ap (λ (n : ℕ). take n (set rs at x)) next ∙ written rs at lt
  where
    written : (rs : List Run) (at : ℕ) → at < length rs → take (suc at) (set rs at x) ≡ take at rs ++ x ∷ []
    written [] at lt = absurd (omega (arith, lt))
    written (r ∷ rs) zero lt = refl
    written (r ∷ rs) (suc n) lt = ap (λ (l : List Run). r ∷ l) (written rs n (omega (arith, lt)))

pub take-put : (rs : List Run) (x : Run) (at k : ℕ) → k ≡ suc at → at ≤ length rs → take k (insert rs at x) ≡ take at rs ++ x ∷ []
take-put rs x at k next le = ap (λ (n : ℕ). take n (insert rs at x)) next ∙ there rs at le
  where
    there : (rs : List Run) (at : ℕ) → at ≤ length rs → take (suc at) (take at rs ++ x ∷ drop at rs) ≡ take at rs ++ x ∷ []
    there [] zero le = refl
    there [] (suc n) le = absurd (omega (arith, le))
    there (r ∷ rs) zero le = refl
    there (r ∷ rs) (suc n) le = ap (λ (l : List Run). r ∷ l) (there rs n (omega (arith, le)))

pub drop-put : (rs : List Run) (x : Run) (at k : ℕ) → k ≡ suc at → at ≤ length rs → drop k (insert rs at x) ≡ drop at rs
drop-put rs x at k next le = ap (λ (n : ℕ). drop n (insert rs at x)) next ∙ there rs at le
  where
    there : (rs : List Run) (at : ℕ) → at ≤ length rs → drop (suc at) (take at rs ++ x ∷ drop at rs) ≡ drop at rs
    there [] zero le = refl
    there [] (suc n) le = absurd (omega (arith, le))
    there (r ∷ rs) zero le = refl
    there (r ∷ rs) (suc n) le = there rs n (omega (arith, le))

IsApart-with_run : (r s x : Run) (rs : List Run) → IsApart r (s ∷ rs) → IsApart r (with_run (s ∷ rs) x)
IsApart-with_run r s x [] h =
    elim (can_join s x) as (λ b. IsApart r (cond b (joined s x ∷ []) (s ∷ x ∷ []))) [ true ↦ h | false ↦ h ]
IsApart-with_run r s x (t ∷ ts) h = h

AreRuns-two : (r x : Run) (b : Bool) → can_join r x ≡ b → AreRuns (r ∷ []) → MayAppend (r ∷ []) x
    → AreRuns (cond b (joined r x ∷ []) (r ∷ x ∷ []))
AreRuns-two r x true h runs may = (omega (arith, runs.0), tt, tt)
AreRuns-two r x false h runs may = (runs.0, (may.behind, h), (may.some, tt, tt))

-- they stay runs
pub AreRuns-with_run : (runs : List Run) (x : Run) → AreRuns runs → MayAppend runs x → AreRuns (with_run runs x)
AreRuns-with_run [] x runs may = (may.some, tt, tt)
AreRuns-with_run (r ∷ []) x runs may = AreRuns-two r x (can_join r x) refl runs may
AreRuns-with_run (r ∷ s ∷ rs) x runs may = (
  runs.0,
  IsApart-with_run r s x rs runs.1,
  AreRuns-with_run (s ∷ rs) x runs.2 (record { some = may.some; behind = may.behind }),
)

-- the last block's end
end_of-two : (r x : Run) (b : Bool) → can_join r x ≡ b → end_of (cond b (joined r x ∷ []) (r ∷ x ∷ [])) ≡ block_end x
end_of-two r x true h = let g = goes_on r x h in omega (arith, g.block)
end_of-two r x false h = refl

end_of-cons : (r s x : Run) (rs : List Run) → end_of (r ∷ with_run (s ∷ rs) x) ≡ end_of (with_run (s ∷ rs) x)
end_of-cons r s x [] =
    elim (can_join s x) as (λ b. end_of (r ∷ cond b (joined s x ∷ []) (s ∷ x ∷ [])) ≡ end_of (cond b (joined s x ∷ []) (s ∷ x ∷ []))) [ true ↦ refl | false ↦ refl ]
end_of-cons r s x (t ∷ ts) = refl

pub end_of-with_run : (runs : List Run) (x : Run) → end_of (with_run runs x) ≡ block_end x
end_of-with_run [] x = refl
end_of-with_run (r ∷ []) x = end_of-two r x (can_join r x) refl
end_of-with_run (r ∷ s ∷ rs) x = end_of-cons r s x rs ∙ end_of-with_run (s ∷ rs) x

-- ---- their number

pub length-with_run : (runs : List Run) (x : Run) → (length runs ≤ length (with_run runs x)) × (length (with_run runs x) ≤ length runs + 1)
length-with_run [] x = (omega arith, omega arith)
length-with_run (r ∷ []) x =
    elim (can_join r x) as (λ b. (1 ≤ length (cond b (joined r x ∷ []) (r ∷ x ∷ []))) × (length (cond b (joined r x ∷ []) (r ∷ x ∷ [])) ≤ 2)) [
      | true ↦ (omega arith, omega arith)
      | false ↦ (omega arith, omega arith)
    ]
length-with_run (r ∷ s ∷ rs) x =
    let h = length-with_run (s ∷ rs) x in
    (omega (arith, h.0), omega (arith, h.1))

pub length-with_runs : (runs xs : List Run) → length (with_runs runs xs) ≤ length runs + length xs
length-with_runs runs [] = omega arith
length-with_runs runs (x ∷ xs) = omega (arith, length-with_runs (with_run runs x) xs, (length-with_run runs x).1)

-- ---- the number of their blocks

pub blocks-with_run : (runs : List Run) (x : Run) → blocks_in (with_run runs x) ≡ blocks_in runs + x.count
blocks-with_run [] x = omega arith
blocks-with_run (r ∷ []) x =
    elim (can_join r x) as (λ b. blocks_in (cond b (joined r x ∷ []) (r ∷ x ∷ [])) ≡ r.count + 0 + x.count) [
      | true ↦ omega arith
      | false ↦ omega arith
    ]
blocks-with_run (r ∷ s ∷ rs) x = omega (arith, blocks-with_run (s ∷ rs) x)

pub blocks-with_runs : (runs xs : List Run) → blocks_in (with_runs runs xs) ≡ blocks_in runs + blocks_in xs
blocks-with_runs runs [] = omega arith
blocks-with_runs runs (x ∷ xs) = omega (arith, blocks-with_runs (with_run runs x) xs, blocks-with_run runs x)

-- ---- limits

within_two : (r x : Run) (b : Bool) → can_join r x ≡ b → IsWithin r → IsWithin x → AllByRecursion IsWithin (cond b (joined r x ∷ []) (r ∷ x ∷ []))
within_two r x true h one other =
    let g = goes_on r x h in
    (record { blocks = omega (arith, g.block, other.blocks); places = omega (arith, g.place, other.places) }, tt)
within_two r x false h one other = (one, (other, tt))

pub within-with_run : (runs : List Run) (x : Run) → AllByRecursion IsWithin runs → IsWithin x → AllByRecursion IsWithin (with_run runs x)
within-with_run [] x runs one = (one, tt)
within-with_run (r ∷ []) x runs one = within_two r x (can_join r x) refl runs.0 one
within-with_run (r ∷ s ∷ rs) x runs one = (runs.0, within-with_run (s ∷ rs) x runs.1 one)

pub within-with_runs : (runs xs : List Run) → AllByRecursion IsWithin runs → AllByRecursion IsWithin xs → AllByRecursion IsWithin (with_runs runs xs)
within-with_runs runs [] all more = all
within-with_runs runs (x ∷ xs) all more = within-with_runs (with_run runs x) xs (within-with_run runs x all more.0) more.1

-- ---- many runs

pub AreRuns-with_runs : (runs xs : List Run) → AreRuns runs → AreRuns xs → IsBehind (end_of runs) xs → AreRuns (with_runs runs xs)
AreRuns-with_runs runs [] are more behind = are
AreRuns-with_runs runs (x ∷ xs) are more behind =
    AreRuns-with_runs (with_run runs x) xs (AreRuns-with_run runs x are (record { some = more.0; behind = behind })) more.2
    (subst (λ (n : ℕ). IsBehind n xs) (sym (end_of-with_run runs x)) (apart_behind x xs (block_end x) more.1 (omega arith)))

-- ---- places

-- a run added behind others is found where the others have no block
pub place_of-with_run : (runs : List Run) (x : Run) (block : ℕ) → place_of (with_run runs x) block ≡ place_of (runs ++ x ∷ []) block
place_of-with_run [] x block = refl
place_of-with_run (r ∷ []) x block = grind (arith, nat_tests)
place_of-with_run (r ∷ s ∷ rs) x block = ap (cond (has_block block r) (Some (r.place + (block - r.first)))) (place_of-with_run (s ∷ rs) x block)

pub place_of-append : (front back : List Run) (block : ℕ) → place_of (front ++ back) block ≡ option_or (place_of front block) (place_of back block)
place_of-append [] back block = refl
place_of-append (r ∷ rs) back block = elim (has_block block r) as (λ b. cond b (Some (r.place + (block - r.first))) (place_of (rs ++ back) block) ≡ option_or (cond b (Some (r.place + (block - r.first))) (place_of rs block)) (place_of back block)) [
  | true ↦ refl
  | false ↦ place_of-append rs back block
]

-- joining runs moves no block
pub place_of-with_runs : (runs more : List Run) (block : ℕ) → place_of (with_runs runs more) block ≡ place_of (runs ++ more) block
place_of-with_runs runs [] block = ap (λ (rs : List Run). place_of rs block) (sym (append-nil runs))
place_of-with_runs runs (x ∷ xs) block =
    place_of-with_runs (with_run runs x) xs block
    ∙ place_of-append (with_run runs x) xs block
    ∙ ap (λ (o : Option ℕ). option_or o (place_of xs block)) (place_of-with_run runs x block)
    ∙ sym (place_of-append (runs ++ x ∷ []) xs block)
    ∙ ap (λ (rs : List Run). place_of rs block) (append_assoc runs (x ∷ []) xs)

-- ---- runs behind one that was joined stay as they are

-- the last run goes on in another
abbrev joins_last : List Run → Run → Bool
joins_last [] z = false
joins_last (r ∷ []) z = can_join r z
joins_last (r ∷ s ∷ rs) z = joins_last (s ∷ rs) z

with_run-apart : (runs : List Run) (z : Run) → joins_last runs z ≡ false → with_run runs z ≡ runs ++ z ∷ []
with_run-apart [] z h = refl
with_run-apart (r ∷ []) z h = with_run-behind r z h
with_run-apart (r ∷ s ∷ rs) z h = ap (λ (l : List Run). r ∷ l) (with_run-apart (s ∷ rs) z h)

joins_last-two : (r y z : Run) (b : Bool) → can_join r y ≡ b → can_join y z ≡ false → joins_last (cond b (joined r y ∷ []) (r ∷ y ∷ [])) z ≡ false
joins_last-two r y z true h apart =
    let g = goes_on r y h in
    can_join-same y (joined r y) z (omega (arith, g.block)) (omega (arith, g.place)) apart
joins_last-two r y z false h apart = apart

joins_last-cons : (r s y z : Run) (rs : List Run) → joins_last (r ∷ with_run (s ∷ rs) y) z ≡ joins_last (with_run (s ∷ rs) y) z
joins_last-cons r s y z [] =
    elim (can_join s y) as (λ b. joins_last (r ∷ cond b (joined s y ∷ []) (s ∷ y ∷ [])) z ≡ joins_last (cond b (joined s y ∷ []) (s ∷ y ∷ [])) z) [ true ↦ refl | false ↦ refl ]
joins_last-cons r s y z (t ∷ ts) = refl

joins_last-with_run : (runs : List Run) (y z : Run) → can_join y z ≡ false → joins_last (with_run runs y) z ≡ false
joins_last-with_run [] y z apart = apart
joins_last-with_run (r ∷ []) y z apart = joins_last-two r y z (can_join r y) refl apart
joins_last-with_run (r ∷ s ∷ rs) y z apart = joins_last-cons r s y z rs ∙ joins_last-with_run (s ∷ rs) y z apart

with_runs-behind : (runs : List Run) (y : Run) (zs : List Run) → IsApart y zs → AreRuns zs → with_runs (with_run runs y) zs ≡ with_run runs y ++ zs
with_runs-behind runs y [] apart are = sym (append-nil (with_run runs y))
with_runs-behind runs y (z ∷ zs) apart are =
    with_runs-behind (with_run runs y) z zs are.1 are.2
    ∙ ap (λ (l : List Run). l ++ zs) (with_run-apart (with_run runs y) z (joins_last-with_run runs y z apart.1))
    ∙ append_assoc (with_run runs y) (z ∷ []) zs

pub with_runs-first : (runs xs : List Run) → AreRuns xs → with_runs runs xs ≡ with_some runs (first_of xs) ++ drop 1 xs
with_runs-first runs [] are = sym (append-nil runs)
with_runs-first runs (x ∷ xs) are = with_runs-behind runs x xs are.1 are.2
