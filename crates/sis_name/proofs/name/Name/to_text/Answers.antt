use Rattle.std.proofs.Common.{◌≡◌, false, is_err, Result, Ok, Err, refl, ap, ◌∙◌, string_bytes}
use Rattle.std.proofs.lemmas.Str.{IsUtf8-string_bytes}
use Rattle.std.specs.Char.Utf16.{has_unpaired_surrogate}
use Rattle.std.specs.Result.{IsOk}
use Rattle.std.specs.String.{IsUtf16Of}
use Rattle.sis_name.proofs.Wellformed.{name_paired, units_again}
use Rattle.sis_name.proofs.name.Name.to_text.Goals as goal

not_err : {A E : Type 0} (r : Result A E) → is_err r ≡ false → IsOk r
not_err (Ok x) h = refl
not_err (Err e) h = cc

pub unwrap-requires : goal.unwrap-requires
unwrap-requires c = not_err _ (c.in_ok-from_utf16.ensures.unpaired ∙ ap has_unpaired_surrogate c.deref.ensures.value ∙ name_paired _ c.self.invariant)

pub returns-clause-units : goal.returns-clause-units
returns-clause-units c =
    let h : IsUtf16Of c.deref.result.now (string_bytes c.unwrap.result) = rw c.unwrap.ensures at c.in_ok-from_utf16.ensures.ok in
    units_again _ _ (IsUtf8-string_bytes c.unwrap.result) h ∙ c.deref.ensures.value ∙ c.self.view_is
