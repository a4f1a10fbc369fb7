-- Steps of readings: what a step that didn't fail gave, and what one gives again.
use Rattle.std.proofs.Common.{◌≡◌, Bool, true, false, Result, Ok, Err, refl}
use Rattle.sis_reading.specs.Steps.{◌>>=◌, guard}

-- the value of a step that did not fail
pub bind_ok : {A B E : Type 0} (r : Result A E) (f : A → Result B E) (y : B) → (r >>= f) ≡ Ok y
    → (x : A) × (r ≡ Ok x) × (f x ≡ Ok y)
bind_ok (Ok x) f y e = (x, refl, e)
bind_ok (Err d) f y e = absurd cc

-- the same, with what follows as a function of what was read
pub bind_then : {A B E : Type 0} (r : Result A E) (f : A → Result B E) (y : B) (P : Type 0)
    → (r >>= f) ≡ Ok y → ((x : A) → r ≡ Ok x → f x ≡ Ok y → P) → P
bind_then (Ok x) f y P e next = next x refl e
bind_then (Err d) f y P e next = absurd cc

-- a step that gives a value, and what follows
pub bind_again : {A B E : Type 0} (r : Result A E) (x : A) (f : A → Result B E) (y : Result B E)
    → r ≡ Ok x → f x ≡ y → (r >>= f) ≡ y
bind_again r x f y is e = rw is e

abbrev done : {A E : Type 0} → A → Result A E
done x = Ok x

pub ok_is : {A E : Type 0} (x y : A) → done {A = A} {E = E} x ≡ done y → x ≡ y
ok_is x y e = cc

-- a field that was read wasn't wrong
pub guard_ok : {A B E : Type 0} (fault : E) (wrong : Bool) (x : A) (f : A → Result B E) (y : B)
    → (guard fault wrong x >>= f) ≡ Ok y → (wrong ≡ false) × (f x ≡ Ok y)
guard_ok fault true x f y e = absurd cc
guard_ok fault false x f y e = (refl, e)

-- the same of a reading that ends there
pub guarded : {A E : Type 0} (fault : E) (wrong : Bool) (x y : A) → guard fault wrong x ≡ Ok y
    → (wrong ≡ false) × (x ≡ y)
guarded fault true x y e = absurd cc
guarded fault false x y e = (refl, cc)

-- a field that isn't wrong, and what follows
pub guard_again : {A B E : Type 0} (fault : E) (wrong : Bool) (x : A) (f : A → Result B E)
    (y : Result B E) → wrong ≡ false → f x ≡ y → (guard fault wrong x >>= f) ≡ y
guard_again fault wrong x f y right e = rw right e
