-- Readings that may fail, on lists, and how a function's answer stands to one.
use Rattle.std.specs.Prelude.{◌≡◌, Bool, if◌then◌else◌, Option, Some, None, Result, Ok, Err, ⊤}

infixl 10 ◌>>=◌
-- one reading, and then one that takes its value
abbrev pub ◌>>=◌ : {A B E : Type 0} → Result A E → (A → Result B E) → Result B E
(Ok x) >>= f = f x
(Err e) >>= f = Err e

-- goes on with this value where the field isn't wrong
abbrev pub guard : {A E : Type 0} → E → Bool → A → Result A E
guard fault wrong x = if wrong then Err fault else Ok x

-- the reading has this fault; none is named where memory ran out
abbrev pub Fails : {Y E : Type 0} → Option E → Result Y E → Type 0
Fails None read = ⊤
Fails (Some fault) read = read ≡ Err fault

-- What a function returned, seen by `view`, is what the reading gives, unless memory ran out.
-- `named` is the fault of the reading that an error names, and none where it is want of memory.
abbrev pub Gives : {X Y F E : Type 0} → (F → Option E) → (X → Y) → Result X F → Result Y E → Type 0
Gives named view (Ok x) read = read ≡ Ok (view x)
Gives named view (Err e) read = Fails (named e) read
