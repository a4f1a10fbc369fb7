-- Changes of a tree, as far as loops have come.
use Rattle.std.proofs.Common.{◌≡◌, false, ◌||◌, List, Option, IsSome, is_some}
use Rattle.std.specs.Option.{option_or}
use Rattle.std.specs.BTreeMap.{BTreeMap, get, IsOrdered}
use Rattle.std.specs.declared.cmp.Ordering.{Ordering}
use Rattle.sis_table.specs.Trees.{changed, is_one}

module _ {K X : Type 0} (R : K → K → Ordering) where
  -- values are entered: these are left, and the keys of the others were noted
  pub record Entering (all rest : BTreeMap K X) (ks : List K) (old now : BTreeMap K X) : Type 0 where
    pub told : (q : K) → option_or (get R rest q) (get R now q) ≡ option_or (get R all q) (get R old q)
    pub keys : (q : K) → (is_one R ks q || is_some (get R rest q)) ≡ is_some (get R all q)
    pub others : (q : K) → is_one R ks q ≡ false → get R now q ≡ get R old q
    pub was_ordered : IsOrdered R old
    pub ordered : IsOrdered R now

  -- values are put: these are left
  pub record Putting (all : BTreeMap K (Option X)) (old : BTreeMap K X) (rest : BTreeMap K (Option X)) (now : BTreeMap K X) : Type 0 where
    pub told : (q : K) → changed (get R rest q) (get R now q) ≡ changed (get R all q) (get R old q)
    pub there : (q : K) → IsSome (get R rest q) → IsSome (get R now q)
    pub ordered : IsOrdered R now
