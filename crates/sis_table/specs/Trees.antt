-- Changes of a tree, by key.
use Rattle.std.specs.Prelude.{◌≡◌, List, Option, None, IsSome, Bool, cond, true, false}
use Rattle.std.specs.List.{list_any}
use Rattle.std.specs.Option.{unwrap_or, option_or}
use Rattle.std.specs.declared.cmp.Ordering.{Ordering}
use Rattle.std.specs.Ordering.{eq_by_cmp}
use Rattle.std.specs.BTreeMap.{BTreeMap, get}
use Rattle.sis_table.specs.declared.trees.Changes.{Changes}

-- what stands under a key after a change of it, where this stood there before
abbrev pub changed : {X : Type 0} → Option (Option X) → Option X → Option X
changed change before = unwrap_or change before

-- the same with something else under one key
abbrev pub put_at : {K X : Type 0} → (K → K → Ordering) → K → Option X → (K → Option X) → K
    → Option X
put_at R k value f q = cond (eq_by_cmp R k q) value (f q)

-- a key is one of these
abbrev pub is_one : {K : Type 0} → (K → K → Ordering) → List K → K → Bool
is_one {K} R ks q = list_any (λ k. eq_by_cmp R k q) ks

module _ {K X : Type 0} (R : K → K → Ordering) where
  -- the map has none of the keys of these values
  abbrev pub AreNew : BTreeMap K X → BTreeMap K X → Type 0
  AreNew added m = (q : K) → IsSome (get R added q) → get R m q ≡ None

  -- the changes lead from these values of keys to those
  pub record Leads (c : Changes K X) (base now : K → Option X) : Type 0 where
    pub added : (q : K) → IsSome (get R c.added q) → base q ≡ None
    pub touched : (q : K) → IsSome (get R c.touched q) → IsSome (base q)
    pub told : (q : K) → now q ≡ changed (get R c.touched q) (option_or (get R c.added q) (base q))

  -- some of the values were entered, at most those of these keys
  pub record Entered (added : BTreeMap K X) (ks : List K) (old now : BTreeMap K X) : Type 0 where
    pub among : (q : K) → is_one R ks q ≡ true → IsSome (get R added q)
    pub others : (q : K) → is_one R ks q ≡ false → get R now q ≡ get R old q
