-- A replay of calls leads where the calls lead.
use Rattle.std.proofs.Common.{◌≡◌, ℕ, zero, suc, ◌+◌, ◌-◌, ◌<◌, ◌≤◌, min, inl, inr, Bool, true, false, List, [], ◌∷◌, ◌++◌, length, take, drop, map, get_or, replicate, refl, sym, ap, subst, ◌∙◌, arith, length-drop, length-append}
use Rattle.std.specs.Prelude.{nat_le, nat_lt, ◌&&◌, ◌||◌}
use Rattle.std.specs.List.{AllByRecursion, range_with_len}
use Rattle.std.proofs.Math.ListN.{get_or-append}
use Rattle.std.proofs.lemmas.List.{ext_get_or, length-take-le, length-replicate, get_or-take, get_or-drop, get_or-append_right, get_or-replicate, take_min}
use Rattle.std.proofs.lemmas.List.FromFn.{get_or-map-range_with_len, length-map-range_with_len}
use Rattle.std.proofs.lemmas.Bool.{cases_lt}
use Rattle.std.proofs.lemmas.Bool.Decides.{nat_tests}
use Rattle.sis_disk.specs.Record.{Call, Reads, Writes, Syncs, DiskRecord, State, after, after_all, is_loose, laid, state_at}
use Rattle.sis_disk.specs.Notes.{taken, all_taken, calls_of, call_of}
use Rattle.sis_disk.specs.Picks.{loose_bits, synced_at, synced_by, synced_after}
use Rattle.sis_disk.specs.Replay.{Replayed, Fits, AllFit, replayed_by, replayed_after, set_bits, unplayed}
use Rattle.sis_disk.specs.declared.log.Noted.{Noted}
use Rattle.sis_disk.proofs.Laid.{length-laid, not_inside}

-- ---- NOTES

-- the calls that are left lead to `all`
pub record IsLeft (notes : List Noted) (rest : List ℕ) (a all : Replayed) : Type 0 where
  pub row : all_taken notes ≤ length rest
  pub fit : AllByRecursion (Fits (length a.live)) (calls_of notes rest)
  pub told : replayed_after a (calls_of notes rest) ≡ all

pub left_more :
    (n : Noted) (notes tail : List Noted) (rest bytes behind : List ℕ) (a b all : Replayed)
    → notes ≡ n ∷ tail → bytes ≡ take (taken n) rest → behind ≡ drop (taken n) rest
    → b ≡ replayed_by (call_of n bytes) a → length b.live ≡ length a.live
    → IsLeft notes rest a all → IsLeft tail behind b all
left_more n notes tail rest bytes behind a b all first front back step size before =
    let left : IsLeft (n ∷ tail) rest a all =
    subst (λ (ns : List Noted). IsLeft ns rest a all) first before in
    let len : length behind ≡ length (drop (taken n) rest) = ap (λ (xs : List ℕ). length xs) back in
    record {
      row = omega (arith, left.row, length-drop (taken n) rest);
      fit = rw (size, back) left.fit.1;
      told = rw (step, front, back) left.told;
    }

-- the calls of the first notes
pub calls_of-take : (k : ℕ) (notes : List Noted) (row : List ℕ)
    → calls_of (take k notes) row ≡ take k (calls_of notes row)
calls_of-take zero notes row = refl
calls_of-take (suc k) [] row = refl
calls_of-take (suc k) (n ∷ ns) row =
    ap (λ (cs : List Call). call_of n (take (taken n) row) ∷ cs)
    (calls_of-take k ns (drop (taken n) row))

-- the calls of so many of the notes as there are, of k
pub calls_first : (k count : ℕ) (notes front : List Noted) (row rest : List ℕ) → front ≡ notes
    → rest ≡ row → count ≡ min k (length notes)
    → calls_of (take count front) rest ≡ take k (calls_of notes row)
calls_first k count notes front row rest same_notes same_row is =
    rw (same_notes, same_row, is, take_min k notes, calls_of-take k notes row)

pub all_taken-take : (k : ℕ) (notes : List Noted) → all_taken (take k notes) ≤ all_taken notes
all_taken-take zero notes = omega arith
all_taken-take (suc k) [] = omega arith
all_taken-take (suc k) (n ∷ ns) = omega (arith, all_taken-take k ns)

-- ---- WRITES THAT FIT

pub all-take : {X : Type 0} (P : X → Type 0) (k : ℕ) (xs : List X) → AllByRecursion P xs
    → AllByRecursion P (take k xs)
all-take P zero xs all = tt
all-take P (suc k) [] all = tt
all-take P (suc k) (x ∷ xs) all = (all.0, all-take P k xs all.1)

pub all-push : {X : Type 0} (P : X → Type 0) (xs : List X) (x : X) → AllByRecursion P xs → P x
    → AllByRecursion P (xs ++ x ∷ [])
all-push P [] x all px = (px, tt)
all-push P (y ∷ ys) x all px = (all.0, all-push P ys x all.1 px)

pub size_by : (c : Call) (s : State) → Fits (length s.live) c
    → length (after s c).live ≡ length s.live
size_by (Reads at len ok) s fits = refl
size_by (Writes at bytes true) s fits = length-laid at bytes s.live fits
size_by (Writes at bytes false) s fits = refl
size_by (Syncs true) s fits = refl
size_by (Syncs false) s fits = refl

pub size_after : (s : State) (cs : List Call) → AllByRecursion (Fits (length s.live)) cs
    → length (after_all s cs).live ≡ length s.live
size_after s [] fit = refl
size_after s (c ∷ cs) fit =
    let same : length (after s c).live ≡ length s.live = size_by c s fit.0 in
    size_after (after s c) cs (rw same fit.1) ∙ same

-- ---- BITS

length-set_bits : (at n : ℕ) (bits : List Bool) → at + n ≤ length bits
    → length (set_bits at n bits) ≡ length bits
length-set_bits at n bits within =
    omega (
      arith,
      length-append (take at bits ++ replicate n true) (drop (at + n) bits),
      length-append (take at bits) (replicate n true),
      length-take-le at bits,
      length-replicate n true,
      length-drop (at + n) bits,
    )

inside : (at n i : ℕ) → at ≤ i → i < at + n → (nat_le at i && nat_lt i (at + n)) ≡ true
inside at n i low high = grind (arith, nat_tests)

set_bits_at : (at n : ℕ) (bits : List Bool) (i : ℕ) → at + n ≤ length bits
    → get_or (set_bits at n bits) i false
    ≡ ((nat_le at i && nat_lt i (at + n)) || get_or bits i false)
set_bits_at at n bits i within =
    let front : length (take at bits) ≡ at = length-take-le at bits (omega arith) in
    let both : length (take at bits ++ replicate n true) ≡ at + n =
    omega (arith, length-append (take at bits) (replicate n true), length-replicate n true) in
    elim (cases_lt i at) [
      | inl below ↦ rw (not_inside at n i (inl below)) (
          get_or-append (take at bits ++ replicate n true) (drop (at + n) bits) false i
          (omega arith)
          ∙ get_or-append (take at bits) (replicate n true) false i (omega arith)
          ∙ get_or-take at bits i false below)
      | inr low ↦ elim (cases_lt i (at + n)) [
        | inl high ↦ rw (inside at n i low high) (
            get_or-append (take at bits ++ replicate n true) (drop (at + n) bits) false i
            (omega arith)
            ∙ get_or-append_right (take at bits) (replicate n true) at i false front low
            ∙ get_or-replicate n (i - at) true false (omega arith))
        | inr above ↦ rw (not_inside at n i (inr above)) (
            get_or-append_right (take at bits ++ replicate n true) (drop (at + n) bits)
            (at + n) i false both above
            ∙ get_or-drop (at + n) bits (i - (at + n)) false
            ∙ (let e : at + n + (i - (at + n)) ≡ i = omega arith in
            ap (λ (j : ℕ). get_or bits j false) e))
      ]
    ]

-- the positions of a disk of this length, each with whether it is loose
abbrev bits_of : List (ℕ × ℕ) → ℕ → List Bool
bits_of loose size = map (is_loose loose) (range_with_len 0 size)

bits_at : (loose : List (ℕ × ℕ)) (size i : ℕ) → i < size
    → get_or (bits_of loose size) i false ≡ is_loose loose i
bits_at loose size i lt =
    get_or-map-range_with_len (is_loose loose) 0 size i i false lt (omega arith)

bits_set : (loose : List (ℕ × ℕ)) (size at n : ℕ) → at + n ≤ size
    → set_bits at n (bits_of loose size) ≡ bits_of ((at, n) ∷ loose) size
bits_set loose size at n within =
    let len : length (bits_of loose size) ≡ size =
    length-map-range_with_len (is_loose loose) 0 size in
    let fit : at + n ≤ length (bits_of loose size) = omega arith in
    let same : length (set_bits at n (bits_of loose size)) ≡ size =
    length-set_bits at n (bits_of loose size) fit ∙ len in
    let sizes = same ∙ sym (length-map-range_with_len (is_loose ((at, n) ∷ loose)) 0 size) in
    ext_get_or false _ _ sizes (λ i lt.
    let low : i < size = omega (arith, same, lt) in
    set_bits_at at n (bits_of loose size) i fit
    ∙ ap (λ (b : Bool). (nat_le at i && nat_lt i (at + n)) || b) (bits_at loose size i low)
    ∙ sym (bits_at ((at, n) ∷ loose) size i low))

bits_clear : (size : ℕ) → replicate size false ≡ bits_of [] size
bits_clear size =
    let same = length-replicate size false in
    let sizes = same ∙ sym (length-map-range_with_len (is_loose []) 0 size) in
    ext_get_or false _ _ sizes (λ i lt.
    let low : i < size = omega (arith, same, lt) in
    get_or-replicate size i false false low ∙ sym (bits_at [] size i low))

-- ---- REPLAYS

-- a replay stands where a state and the bytes at the last sync stand
pub record Agrees (a : Replayed) (s : State) (old : List ℕ) : Type 0 where
  pub live : a.live ≡ s.live
  pub synced : a.synced ≡ old
  pub loose : a.loose ≡ loose_bits s

agrees_by : (c : Call) (a : Replayed) (s : State) (old : List ℕ) → Fits (length s.live) c
    → Agrees a s old → Agrees (replayed_by c a) (after s c) (synced_by c s old)
agrees_by (Reads at len ok) a s old fits g = g
agrees_by (Writes at bytes true) a s old fits g = record {
  live = ap (λ (l : List ℕ). laid l at bytes) g.live;
  synced = g.synced;
  loose =
      ap (λ (bits : List Bool). set_bits at (length bytes) bits) g.loose
      ∙ bits_set s.loose (length s.live) at (length bytes) fits
      ∙ ap (λ (size : ℕ). bits_of ((at, length bytes) ∷ s.loose) size)
      (sym (length-laid at bytes s.live fits));
}
agrees_by (Writes at bytes false) a s old fits g = record {
  live = g.live;
  synced = g.synced;
  loose =
      ap (λ (bits : List Bool). set_bits at (length bytes) bits) g.loose
      ∙ bits_set s.loose (length s.live) at (length bytes) fits;
}
agrees_by (Syncs true) a s old fits g = record {
  live = g.live;
  synced = g.live;
  loose = ap (λ (l : List ℕ). replicate (length l) false) g.live ∙ bits_clear (length s.live);
}
agrees_by (Syncs false) a s old fits g = g

agrees_after : (a : Replayed) (s : State) (old : List ℕ) (cs : List Call)
    → AllByRecursion (Fits (length s.live)) cs → Agrees a s old
    → Agrees (replayed_after a cs) (after_all s cs) (synced_after old s cs)
agrees_after a s old [] fit g = g
agrees_after a s old (c ∷ cs) fit g =
    let same : length (after s c).live ≡ length s.live = size_by c s fit.0 in
    agrees_after (replayed_by c a) (after s c) (synced_by c s old) cs (rw same fit.1)
    (agrees_by c a s old fit.0 g)

pub agrees_at : (r : DiskRecord) (k : ℕ) → AllFit r
    → Agrees (replayed_after (unplayed r.opening) (take k r.calls)) (state_at r k) (synced_at r k)
agrees_at r k fit =
    agrees_after (unplayed r.opening) (record { live = r.opening; loose = [] }) r.opening
    (take k r.calls) (all-take _ k r.calls fit) (record {
      live = refl;
      synced = refl;
      loose = bits_clear (length r.opening);
    })
