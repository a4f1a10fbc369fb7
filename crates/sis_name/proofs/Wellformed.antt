use Rattle.std.proofs.Common.{◌≡◌, ℕ, Bool, true, false, cond, List, length, Option, None, Some, position, flat_map, refl, ap, sym, ◌∙◌, ◌==◌, nat_lt}
use Rattle.std.specs.Char.Utf16.{has_unpaired_surrogate}
use Rattle.std.specs.Char.Escape.{encode_utf16}
use Rattle.std.specs.Str.{IsUtf8}
use Rattle.std.specs.String.{IsUtf16Of}
use Rattle.std.proofs.lemmas.Str.{chars_from_encodes}
use Rattle.sis_name.specs.declared.fault.NameFault.{NameFault}
use Rattle.sis_name.specs.Units.{is_barred, text_units}
use Rattle.sis_name.specs.Name.{IsName, unit_fault}
use Rattle.sis_name.proofs.SurrogateLemmas.{paired}

or_none : (b : Bool) (f : NameFault) (y : Option NameFault) → cond b (Some f) y ≡ None → y ≡ None
or_none true f y h = cc
or_none false f y h = h

unit_none : (p q : Option ℕ) → unit_fault p q ≡ None → q ≡ None
unit_none None None h = refl
unit_none None (Some at) h = cc
unit_none (Some at) q h = cc

-- a name has no surrogate without its partner
pub name_paired : (units : List ℕ) → IsName units → has_unpaired_surrogate units ≡ false
name_paired units h = paired 0 units (unit_none (position is_barred units) _ (or_none (nat_lt 255 (length units)) _ _ (or_none (length units == 0) _ _ h)))

-- a text of which these are the units
pub units_again : (units bytes : List ℕ) → IsUtf8 bytes → IsUtf16Of units bytes → text_units bytes ≡ units
units_again units bytes u h = ap (flat_map encode_utf16) (sym (chars_from_encodes h.0 bytes u (sym h.2))) ∙ sym h.1
