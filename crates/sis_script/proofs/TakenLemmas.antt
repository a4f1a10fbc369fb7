-- What two readings took, one after the other.
use Rattle.std.proofs.Common.{ℕ, List, ◌++◌, Option, Some, None, ap, sym, ◌∙◌, append_assoc}
use Rattle.sis_disk.specs.Streams.{Takes}
use Rattle.sis_script.specs.Taken.{HasRead}

pub HasRead-more : (a b c : Option (List ℕ)) (front bytes : List ℕ) → HasRead a b front → Takes b c bytes → HasRead a c (front ++ bytes)
HasRead-more None None None front bytes f g = tt
HasRead-more None None (Some c) front bytes f g = g
HasRead-more None (Some b) c front bytes f g = absurd f
HasRead-more (Some a) None c front bytes f g = absurd f
HasRead-more (Some a) (Some b) None front bytes f g = g
HasRead-more (Some a) (Some b) (Some c) front bytes f g =
    f ∙ ap (λ xs. front ++ xs) g.0 ∙ sym (append_assoc front bytes c)
