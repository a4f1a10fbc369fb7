-- Lemmas on the names of store files: they are names, and each has one GUID.
use Rattle.std.proofs.Common.{◌≡◌, ℕ, zero, suc, ◌+◌, ◌*◌, ◌-◌, ◌<◌, ◌≤◌, ◌==◌, Bool, true, false, not, cond, ◌&&◌, List, [], ◌∷◌, ◌++◌, length, length-append, take, drop, slice_index, slice_range, get_or, All, Option, None, Some, option_map, inl, refl, ap, sym, ◌∙◌, arith, subst, true≢false, ◌≢◌, ◌↔◌, nat_lt, Any, MatchOption, IfNone, Result, Ok, Err, IsOk, IfOk}
use Rattle.std.proofs.lemmas.Bool.Decides.{nat_tests}
use Rattle.std.proofs.lemmas.List.{get_or_default, take_at, drop_at, take-append-drop, append_cancel_left, append_cancel_right}
use Rattle.std.proofs.lemmas.List.Folds.{list_all-append}
use Rattle.std.proofs.lemmas.List.Sums.{AllPass-from_list_all}
use Rattle.std.proofs.lemmas.Bool.{and_parts, eqb-true}
use Rattle.std.proofs.lemmas.List.Elements.{All-from_recursion}
use Rattle.std.proofs.lemmas.Option.{cond_some, none-some, same_Some, option_and_then_some}
use Rattle.std.proofs.lemmas.Slice.Eq.{bytes_eq-Decides}
use Rattle.sis_name.specs.Files.{same_name}
use Rattle.std.specs.Bool.{then_some}
use Rattle.std.specs.Result.{result_ok}
use Rattle.std.specs.Str.{bytes_eq}
use Rattle.std.specs.List.{list_all, position_or_len}
use Rattle.uuid.specs.Text.{by_index, lower, hyphenated_text, digit_place, hex_digit, nibble, parsed, parsed_simple, digits_of, has_hyphens, is_hex_digit, value_of, byte_of_digits}
use Rattle.uuid.specs.Parts.{swap_fields}
use Rattle.uuid.proofs.TextLemmas.{by_index_length, by_index_at, nibble_small, hyphenated_ascii}
use Rattle.uuid.proofs.RoundTrips.{parses_hyphenated, swap_twice}
use Rattle.sis_name.specs.Units.{is_barred, is_surrogate, unpaired_from, store_prefix}
use Rattle.sis_name.specs.Name.{IsName}
use Rattle.sis_name.specs.StoreNames.{IsGuid, guid_text, store_ending, store_name, guid_at_text, guid_of_name, store_guid}

-- ---- they are names

-- neither barred nor a surrogate
abbrev is_plain : ℕ → Bool
is_plain unit = not (is_barred unit) && not (is_surrogate unit)

none_barred : (units : List ℕ) → list_all is_plain units ≡ true → position_or_len is_barred units ≡ length units
none_barred [] plain = refl
none_barred (u ∷ units) plain = grind (arith, nat_tests, none_barred units)

none_unpaired : (at : ℕ) (units : List ℕ) → list_all is_plain units ≡ true → unpaired_from at units ≡ None
none_unpaired at [] plain = refl
none_unpaired at (u ∷ []) plain = grind (arith, nat_tests)
none_unpaired at (u ∷ v ∷ units) plain = grind (arith, nat_tests, none_unpaired (at + 1) (v ∷ units))

by_index_plain : (n : ℕ) (f : ℕ → ℕ) → ((k : ℕ) → k < n → is_plain (f k) ≡ true) → list_all is_plain (by_index n f) ≡ true
unfolding by_index
by_index_plain zero f plain = refl
by_index_plain (suc n) f plain = list_all-append is_plain (by_index n f) (f n ∷ []) ∙ rw (by_index_plain n f (λ k h. plain k (omega arith)), plain n (omega arith)) refl

digit_plain : (d : ℕ) → d < 16 → is_plain (hex_digit lower d) ≡ true
digit_plain d small = grind (arith, nat_tests)

text_plain : (guid : List ℕ) → list_all is_plain (guid_text guid) ≡ true
text_plain guid = by_index_plain 36 _ (λ k within. grind (arith, nat_tests, digit_plain (nibble (swap_fields guid) (digit_place k)) (nibble_small (swap_fields guid) (digit_place k))))

name_plain : (guid : List ℕ) → list_all is_plain (store_name guid) ≡ true
name_plain guid = list_all-append is_plain store_prefix (guid_text guid ++ store_ending) ∙ rw (list_all-append is_plain (guid_text guid) store_ending, text_plain guid) refl

pub text_len : (guid : List ℕ) → length (guid_text guid) ≡ 36
text_len guid = by_index_length 36 _

pub name_len : (guid : List ℕ) → length (store_name guid) ≡ 57
name_len guid = omega (arith, length-append store_prefix (guid_text guid ++ store_ending), length-append (guid_text guid) store_ending, text_len guid)

plain_is_name : (units : List ℕ) → length units ≡ 57 → list_all is_plain units ≡ true → IsName units
plain_is_name units len plain =
    rw (len, none_barred units plain ∙ len, none_unpaired 0 units plain) refl

pub store_is_name : (guid : List ℕ) → IsName (store_name guid)
store_is_name guid = plain_is_name (store_name guid) (name_len guid) (name_plain guid)

-- ---- each has one GUID

digit_fits : (c : ℕ) → is_hex_digit c ≡ true → value_of c < 16
digit_fits c hex = grind (arith, nat_tests)

byte_of_hex : (s : List ℕ) (j : ℕ) → list_all is_hex_digit s ≡ true → length s ≡ 32 → j < 16 → byte_of_digits s j < 256
byte_of_hex s j hex len within =
    let all = AllPass-from_list_all is_hex_digit s hex in
    let high = digit_fits (get_or s (2 * j) 0) (all (2 * j) 0 (omega arith)) in
    let low = digit_fits (get_or s (2 * j + 1) 0) (all (2 * j + 1) 0 (omega arith)) in
    omega arith

parsed_simple_is_guid : (s uuid : List ℕ) → parsed_simple s ≡ Some uuid → IsGuid uuid
parsed_simple_is_guid s uuid is_parsed =
    let parts = cond_some ((length s == 32) && list_all is_hex_digit s) (by_index 16 (byte_of_digits s)) uuid is_parsed in
    let tests = and_parts (length s == 32) (list_all is_hex_digit s) parts.0 in
    let len = eqb-true (length s) 32 tests.0 in
    let fits : All (λ b. b < 256) (by_index 16 (byte_of_digits s)) = λ k d within.
    let small : k < 16 = omega (arith, by_index_length 16 (byte_of_digits s)) in
    rw (by_index_at 16 (byte_of_digits s) k d small) (byte_of_hex s k tests.1 len small) in
    subst IsGuid parts.1 (by_index_length 16 (byte_of_digits s), fits)

some_if : (b : Bool) (o : Option (List ℕ)) (uuid : List ℕ) → cond b o None ≡ Some uuid → o ≡ Some uuid
some_if true o uuid is_some = is_some
some_if false o uuid is_some = cc

-- what a text of 36 units parses to
pub parsed_is_guid : (text uuid : List ℕ) → length text ≡ 36 → parsed text ≡ Some uuid → IsGuid uuid
parsed_is_guid text uuid len is_parsed =
    parsed_simple_is_guid (digits_of text) uuid (some_if (has_hyphens text) (parsed_simple (digits_of text)) uuid (rw len at is_parsed))

pub swap_is_guid : (guid : List ℕ) → IsGuid guid → IsGuid (swap_fields guid)
swap_is_guid guid is_guid =
    let at : (k : ℕ) → nat_lt k 16 ≡ true → slice_index guid k < 256 = λ k within. is_guid.1 k 0 (grind (arith, nat_tests, is_guid.0)) in
    (refl, All-from_recursion (λ b. b < 256) (swap_fields guid) (at 3 refl, (at 2 refl, (at 1 refl, (at 0 refl, (at 5 refl, (at 4 refl, (at 7 refl, (at 6 refl, (at 8 refl, (at 9 refl, (at 10 refl, (at 11 refl, (at 12 refl, (at 13 refl, (at 14 refl, (at 15 refl, tt)))))))))))))))))

text_is_parsed : (guid : List ℕ) → IsGuid guid → parsed (guid_text guid) ≡ Some (swap_fields guid)
text_is_parsed guid is_guid =
    let swapped = swap_is_guid guid is_guid in
    sym (parses_hyphenated lower (swap_fields guid) (inl refl) swapped.0 swapped.1)

-- the text of a name
text_there : (text : List ℕ) → length text ≡ 36 → slice_range (store_prefix ++ text ++ store_ending) 17 53 ≡ text
text_there text len = take_at text store_ending 36 len

pub name_has_guid : (guid : List ℕ) → IsGuid guid → store_guid (store_name guid) ≡ Some guid
name_has_guid guid is_guid =
    let there : guid_at_text (store_name guid) ≡ Some guid = rw (text_there (guid_text guid) (text_len guid), text_is_parsed guid is_guid, swap_twice guid is_guid.0) refl in
    rw (there, (bytes_eq-Decides (store_name guid) (store_name guid)).1 refl) refl

swapped_from : (o : Option (List ℕ)) (guid : List ℕ) → option_map swap_fields o ≡ Some guid → (uuid : List ℕ) × (o ≡ Some uuid) × (swap_fields uuid ≡ guid)
swapped_from None guid is_some = cc
swapped_from (Some uuid) guid is_some = (uuid, refl, same_Some (swap_fields uuid) guid is_some)

pub guid_has_name : (units guid : List ℕ) → store_guid units ≡ Some guid → IsGuid guid × (units ≡ store_name guid)
guid_has_name units guid found =
    option_and_then_some (guid_of_name units) (guid_at_text units) guid found (λ there at_text kept.
    let parts = cond_some (same_name (store_name there) units) there guid kept in
    let named : units ≡ store_name guid = sym ((bytes_eq-Decides (store_name there) units).0 parts.0) ∙ ap store_name parts.1 in
    let text : slice_range units 17 53 ≡ guid_text guid = ap (λ xs. slice_range xs 17 53) named ∙ text_there (guid_text guid) (text_len guid) in
    let read = swapped_from (parsed (slice_range units 17 53)) there at_text in
    let uuid_fits = parsed_is_guid (slice_range units 17 53) read.0 (ap length text ∙ text_len guid) read.1 in
    (subst IsGuid (read.2 ∙ parts.1) (swap_is_guid read.0 uuid_fits), named))

pub one_name : (one two : List ℕ) → IsGuid one → IsGuid two → store_name one ≡ store_name two → one ≡ two
one_name one two is_one is_two same =
    same_Some one two (sym (name_has_guid one is_one) ∙ ap store_guid same ∙ name_has_guid two is_two)

-- ---- which units have none

none_from : (o : Option (List ℕ)) → ((guid : List ℕ) → o ≡ Some guid → ⊥) → o ≡ None
none_from None refused = refl
none_from (Some guid) refused = absurd (refused guid refl)

-- units that are no store file's name
no_guid : (units : List ℕ) → ((guid : List ℕ) → IsGuid guid → units ≡ store_name guid → ⊥) → store_guid units ≡ None
no_guid units other = none_from (store_guid units) (λ guid found. let named = guid_has_name units guid found in other guid named.0 named.1)

differ : (xs ys : List ℕ) → bytes_eq xs ys ≡ false → xs ≡ ys → ⊥
differ xs ys test same = true≢false (sym ((bytes_eq-Decides xs ys).1 same) ∙ test)

pub no_prefix : (units : List ℕ) → bytes_eq (take 17 units) store_prefix ≡ false → store_guid units ≡ None
no_prefix units other = no_guid units (λ guid is_guid named. differ (take 17 units) store_prefix other (ap (take 17) named))

pub no_ending : (units rest : List ℕ) → rest ≡ drop 17 units → bytes_eq (drop (length rest - 4) rest) store_ending ≡ false → store_guid units ≡ None
no_ending units rest is_rest other =
    no_guid units (λ guid is_guid named.
    let text_and_ending : rest ≡ guid_text guid ++ store_ending = is_rest ∙ ap (drop 17) named in
    let place : length rest - 4 ≡ 36 = omega (arith, ap length text_and_ending, length-append (guid_text guid) store_ending, text_len guid) in
    differ (drop (length rest - 4) rest) store_ending other (ap (λ n. drop n rest) place ∙ ap (drop 36) text_and_ending ∙ drop_at (guid_text guid) store_ending 36 (text_len guid)))

-- the units between the prefix and the ending
pub around : (units rest text : List ℕ) → bytes_eq (take 17 units) store_prefix ≡ true → rest ≡ drop 17 units → bytes_eq (drop (length rest - 4) rest) store_ending ≡ true → text ≡ take (length rest - 4) rest
    → units ≡ store_prefix ++ text ++ store_ending
around units rest text prefix is_rest ending is_text =
    let front : take 17 units ≡ store_prefix = (bytes_eq-Decides (take 17 units) store_prefix).0 prefix in
    let back : drop (length rest - 4) rest ≡ store_ending = (bytes_eq-Decides (drop (length rest - 4) rest) store_ending).0 ending in
    let inside : rest ≡ text ++ store_ending = sym (take-append-drop (length rest - 4) rest) ∙ rw (is_text, back) refl in
    sym (take-append-drop 17 units) ∙ ap (λ xs. xs ++ drop 17 units) front ∙ ap (λ xs. store_prefix ++ xs) (sym is_rest ∙ inside)

same_text : (text guid : List ℕ) → store_prefix ++ text ++ store_ending ≡ store_name guid → text ≡ guid_text guid
same_text text guid same = append_cancel_right text (guid_text guid) store_ending (append_cancel_left store_prefix (text ++ store_ending) (guid_text guid ++ store_ending) same)

-- the text is no GUID's
pub no_text : (text : List ℕ) → ((guid : List ℕ) → IsGuid guid → text ≡ guid_text guid → ⊥) → store_guid (store_prefix ++ text ++ store_ending) ≡ None
no_text text other = no_guid (store_prefix ++ text ++ store_ending) (λ guid is_guid named. other guid is_guid (same_text text guid named))

pub no_len : (text : List ℕ) → length text ≢ 36 → store_guid (store_prefix ++ text ++ store_ending) ≡ None
no_len text other = no_text text (λ guid is_guid is. other (ap length is ∙ text_len guid))

pub no_byte : (text : List ℕ) → Any (λ unit. 256 ≤ unit) text → store_guid (store_prefix ++ text ++ store_ending) ≡ None
no_byte text large =
    no_text text (λ guid is_guid is. omega (arith, large.3, large.4, get_or_default text large.0 large.1 0 large.2, ap (λ xs. get_or xs large.0 0) is, hyphenated_ascii lower (swap_fields guid) (inl refl) large.0))

pub no_parse : (text : List ℕ) → parsed text ≡ None → store_guid (store_prefix ++ text ++ store_ending) ≡ None
no_parse text none = no_text text (λ guid is_guid is. none-some (swap_fields guid) (sym none ∙ ap parsed is ∙ text_is_parsed guid is_guid))

-- the text is the spelling of what it parses to, or another
pub spelled : (text uuid : List ℕ) (same : Bool) → length text ≡ 36 → parsed text ≡ Some uuid → bytes_eq (hyphenated_text lower uuid) text ≡ same
    → then_some same (swap_fields uuid) ≡ store_guid (store_prefix ++ text ++ store_ending)
spelled text uuid true len is_parsed test =
    let fits = parsed_is_guid text uuid len is_parsed in
    let own : hyphenated_text lower uuid ≡ text = (bytes_eq-Decides (hyphenated_text lower uuid) text).0 test in
    let is : guid_text (swap_fields uuid) ≡ text = ap (hyphenated_text lower) (swap_twice uuid fits.0) ∙ own in
    sym (name_has_guid (swap_fields uuid) (swap_is_guid uuid fits)) ∙ ap (λ xs. store_guid (store_prefix ++ xs ++ store_ending)) is
spelled text uuid false len is_parsed test =
    sym (no_text text (λ guid is_guid is.
    let swapped : swap_fields guid ≡ uuid = same_Some (swap_fields guid) uuid (sym (text_is_parsed guid is_guid) ∙ ap parsed (sym is) ∙ is_parsed) in
    differ (hyphenated_text lower uuid) text test (ap (hyphenated_text lower) (sym swapped) ∙ sym is)))

-- ---- what a caller knows of an answer

-- what follows in each case
pub match_then : {X : Type 0} (o : Option X) {P R : Type 0} {Q S : X → Type 0} → MatchOption o P Q → (P → R) → ((x : X) → Q x → S x) → MatchOption o R S
match_then None given none some = none given
match_then (Some x) given none some = some x given

pub ok_of_parse : {E : Type 0} (r : Result (List ℕ) E) (text : List ℕ) → (IsOk r ↔ ((uuid : List ℕ) × (parsed text ≡ Some uuid))) → IfOk r (λ uuid. Some uuid ≡ parsed text) → result_ok r ≡ parsed text
ok_of_parse (Ok uuid) text ok bytes = bytes
ok_of_parse (Err e) text ok bytes = sym (none_from (parsed text) (λ uuid is_some. true≢false (sym (ok.1 (uuid, is_some)))))

pub at_none : {X P : Type 0} (o : Option X) → P → IfNone o P
at_none None given = given
at_none (Some x) given = tt
