-- What a sink holds after several writes.
use Rattle.std.proofs.Common.{◌≡◌, ℕ, List, [], ◌++◌, Option, Some, None, refl, ap, sym, ◌∙◌, append_assoc, append-nil}
use Rattle.sis_disk.specs.Streams.{Appended, AppendedFront}

pub Appended-none : (before : Option (List ℕ)) → Appended before before []
Appended-none None = tt
Appended-none (Some old) = sym (append-nil old)

pub Appended-more : (a b c : Option (List ℕ)) (xs ys : List ℕ) → Appended a b xs → Appended b c ys → Appended a c (xs ++ ys)
Appended-more None None None xs ys f g = tt
Appended-more None None (Some c) xs ys f g = g
Appended-more None (Some b) c xs ys f g = absurd f
Appended-more (Some a) None c xs ys f g = absurd f
Appended-more (Some a) (Some b) None xs ys f g = g
Appended-more (Some a) (Some b) (Some c) xs ys f g = g ∙ ap (λ zs. zs ++ ys) f ∙ append_assoc a xs ys

-- nothing is a front of all
pub AppendedFront-none : (before : Option (List ℕ)) (bytes : List ℕ) → AppendedFront before before bytes
AppendedFront-none before bytes = ([], bytes, refl, Appended-none before)

-- what came first, and a front of what follows, are a front of all
pub AppendedFront-more : (a b c : Option (List ℕ)) (xs ys all rest : List ℕ) → all ≡ xs ++ (ys ++ rest) → Appended a b xs → AppendedFront b c ys → AppendedFront a c all
AppendedFront-more a b c xs ys all rest e f g =
    (xs ++ g.0, g.1 ++ rest, e ∙ ap (λ zs. xs ++ (zs ++ rest)) g.2 ∙ ap (λ zs. xs ++ zs) (append_assoc g.0 g.1 rest) ∙ sym (append_assoc xs g.0 (g.1 ++ rest)), Appended-more a b c xs g.0 f g.3)
