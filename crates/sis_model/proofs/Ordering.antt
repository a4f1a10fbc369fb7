-- The order of a script's lines, made from the last line on.
use Rattle.std.proofs.Common.{◌≡◌, ℕ, ◌<◌, Bool, true, false, ◌||◌, List, [], ◌∷◌, ◌++◌, length, refl, sym, ap, ◌∙◌, arith, append_assoc, append-nil}
use Rattle.std.specs.Prelude.{reverse, ◌==◌, slice_index_or, slice_set, not, if◌then◌else◌, replicate}
use Rattle.std.specs.List.{list_any}
use Rattle.std.proofs.lemmas.List.{reverse-append, get_or-set_other, get_or-replicate, get_or_default, length-set, length-replicate}
use Rattle.std.proofs.lemmas.Grind.{get_or-set_at}
use Rattle.std.proofs.lemmas.Bool.Decides.{nat_tests}
use Rattle.sis_model.specs.Order.{exec_order, end_of}
use Rattle.sis_model.specs.declared.history.Line.{Line}
use Rattle.sis_model.proofs.Orders.{exec_order-more, exec_order-last}

-- the lines behind `front` are ordered, and these clients have had their end
pub record Ordered (lines front order : List Line) (has_end : List Bool) : Type 0 where
  pub back : List Line
  pub parts : lines ≡ front ++ back
  pub in_order : reverse order ≡ exec_order back
  pub ends : (client : ℕ) → client < 256
      → slice_index_or has_end client false ≡ list_any (λ m. m.client == client) back

pub ordered_none : (lines order : List Line) (has_end : List Bool) → order ≡ []
    → has_end ≡ replicate 256 false → Ordered lines lines order has_end
ordered_none lines order has_end none no_ends = record {
  back = [];
  parts = sym (append-nil lines);
  in_order = ap reverse none;
  ends =
      λ client lt. ap (λ (bs : List Bool). slice_index_or bs client false) no_ends
      ∙ get_or-replicate 256 client false false lt;
}

-- no client has had its end
pub all_numbers : (has_end : List Bool) → has_end ≡ replicate 256 false → length has_end ≡ 256
all_numbers has_end is = ap length is ∙ length-replicate 256 false

pub read_end : (has_end : List Bool) (client : ℕ) (found : Bool) → length has_end ≡ 256
    → client < 256 → found ≡ slice_index_or has_end client found
    → found ≡ slice_index_or has_end client false
read_end has_end client found size low is =
    is ∙ get_or_default has_end client found false (omega (arith, size, low))

split_more : (lines front rest back : List Line) (l : Line) → lines ≡ front ++ back
    → front ≡ rest ++ l ∷ [] → lines ≡ rest ++ (l ∷ back)
split_more lines front rest back l parts is =
    parts ∙ ap (λ (ls : List Line). ls ++ back) is ∙ append_assoc rest (l ∷ []) back

-- one line more, with its client's end behind it where it is the last one
pub ordered_more : (lines front rest order between after : List Line) (has_end now : List Bool)
    (l : Line) (last : Bool) → Ordered lines front order has_end → front ≡ rest ++ l ∷ []
    → l.client < 256 → length has_end ≡ 256
    → last ≡ not (slice_index_or has_end l.client false)
    → between ≡ (if last then order ++ end_of l.client ∷ [] else order)
    → after ≡ between ++ l ∷ [] → now ≡ slice_set has_end l.client true
    → Ordered lines rest after now
ordered_more lines front rest order between after has_end now l last h is low size is_last one two
    set_is = record {
      back = l ∷ h.back;
      parts = split_more lines front rest h.back l h.parts is;
      in_order =
          ap reverse two ∙ reverse-append between (l ∷ [])
          ∙ ap (λ (ls : List Line). l ∷ reverse ls) one
          ∙ by_last last (list_any (λ m. m.client == l.client) h.back) refl
          (is_last ∙ ap not (h.ends l.client low));
      ends = λ client lt. by client lt (l.client == client) refl;
    }
  where
    by_last : (b has : Bool) → list_any (λ m. m.client == l.client) h.back ≡ has → b ≡ not has
        → l ∷ reverse (if b then order ++ end_of l.client ∷ [] else order) ≡ exec_order (l ∷ h.back)
    by_last true true e f = absurd cc
    by_last true false e f =
        ap (λ (ls : List Line). l ∷ ls) (reverse-append order (end_of l.client ∷ []))
        ∙ ap (λ (ls : List Line). l ∷ end_of l.client ∷ ls) h.in_order
        ∙ sym (exec_order-last l h.back e)
    by_last false true e f =
        ap (λ (ls : List Line). l ∷ ls) h.in_order ∙ sym (exec_order-more l h.back e)
    by_last false false e f = absurd cc

    by : (client : ℕ) → client < 256 → (b : Bool) → (l.client == client) ≡ b
        → slice_index_or now client false ≡ (b || list_any (λ m. m.client == client) h.back)
    by client lt true e =
        ap (λ (bs : List Bool). slice_index_or bs client false) set_is
        ∙ get_or-set_at has_end l.client client true false (grind (arith, nat_tests))
        (omega (arith, size, low))
    by client lt false e =
        ap (λ (bs : List Bool). slice_index_or bs client false) set_is
        ∙ get_or-set_other has_end l.client client true false (grind (arith, nat_tests))
        ∙ h.ends client lt

pub ordered_all : (lines front order : List Line) (has_end : List Bool)
    → Ordered lines front order has_end → front ≡ [] → reverse order ≡ exec_order lines
ordered_all lines front order has_end h none =
    h.in_order ∙ ap exec_order (sym (h.parts ∙ ap (λ (ls : List Line). ls ++ h.back) none))

-- and one of them has
pub few_ends : (has_end : List Bool) (client : ℕ) → length has_end ≡ 256
    → length (slice_set has_end client true) ≡ 256
few_ends has_end client size = length-set has_end client true ∙ size
