-- What is printed before an entry, of it, and behind it.
use Rattle.std.proofs.Common.{◌≡◌, ℕ, ◌+◌, ◌<◌, List, [], ◌∷◌, ◌++◌, length, take, drop, get_or, ap, sym, ◌∙◌, append-nil, add-one, drop-cons}
use Rattle.std.proofs.lemmas.List.{take_more, take-append-drop}
use Rattle.std.proofs.lemmas.Grind.{flat_map-append}
use Rattle.sis_model.specs.declared.history.Entry.{Entry}
use Rattle.sis_script.specs.Printed.{printed, entry_text}

-- one more entry
pub printed-more : (es : List Entry) (i : ℕ) (e : Entry) → i < length es → e ≡ get_or es i e → printed (take (i + 1) es) ≡ printed (take i es) ++ entry_text e
printed-more es i e h is =
    ap printed (take_more es i e h) ∙ flat_map-append entry_text (take i es) (get_or es i e ∷ []) ∙ ap (λ xs. printed (take i es) ++ xs) (append-nil (entry_text (get_or es i e))) ∙ ap (λ x. printed (take i es) ++ entry_text x) (sym is)

from_here : (es : List Entry) (i : ℕ) (e : Entry) → i < length es → e ≡ get_or es i e → drop i es ≡ e ∷ drop (i + 1) es
from_here es i e h is = drop-cons es i e h ∙ ap (λ (k : ℕ). get_or es i e ∷ drop k es) (sym (add-one i)) ∙ ap (λ x. x ∷ drop (i + 1) es) (sym is)

-- what is printed before an entry, its line, and what is printed behind it
pub printed-split : (es : List Entry) (i : ℕ) (e : Entry) → i < length es → e ≡ get_or es i e → printed es ≡ printed (take i es) ++ (entry_text e ++ printed (drop (i + 1) es))
printed-split es i e h is =
    ap printed (sym (take-append-drop i es)) ∙ flat_map-append entry_text (take i es) (drop i es) ∙ ap (λ xs. printed (take i es) ++ printed xs) (from_here es i e h is)
