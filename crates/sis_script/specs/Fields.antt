-- The fields of a line. A reading of a field gives its value and what is left of the line.
use Rattle.std.specs.Prelude.{ℕ, ◌+◌, ◌==◌, Bool, true, false, ◌&&◌, if◌then◌else◌, List, [], ◌∷◌, length, take, drop, nat_lt, nat_eq, codes, slice_index, position, unwrap_or, Option, Some, None, Result, Ok, Err}
use Rattle.std.specs.Str.{is_utf8}
use Rattle.std.specs.Cmp.Lexicographic.{pointwise}
use Rattle.std.specs.Int.{from_be_bytes, w32}
use Rattle.hex.specs.Hex.{decode_of, decode_sized}
use Rattle.sis_name.specs.Name.{name_fault}
use Rattle.sis_name.specs.Units.{text_units}
use Rattle.sis_name.specs.declared.fault.NameFault.{NameFault}
use Rattle.sis_reading.specs.Number.{plain_number}
use Rattle.sis_reading.specs.Steps.{◌>>=◌}
use Rattle.sis_script.specs.declared.faults.LineKind.{LineKind}
use Rattle.sis_script.specs.declared.faults.LineKind.TheVariants as kind

-- what ends each field but a name
abbrev pub is_space : ℕ → Bool
is_space b = b == 32

-- what stands on both sides of a name
abbrev pub is_quote : ℕ → Bool
is_quote b = b == 34

-- what stands behind the space that begins a field
abbrev pub field_at : List ℕ → Result (List ℕ) LineKind
field_at [] = Err kind.Fields
field_at (b ∷ rest) = if b == 32 then Ok rest else Err kind.Fields

-- nothing follows the last field
abbrev pub end_at : List ℕ → Result (List ℕ) LineKind
end_at [] = Ok []
end_at (b ∷ rest) = Err kind.Fields

-- how many bytes stand before the next space or the end
abbrev pub word_len : List ℕ → ℕ
word_len text = unwrap_or (position is_space text) (length text)

-- these bytes, and the rest from there on
abbrev pub word_at : List ℕ → List ℕ × List ℕ
word_at text = (take (word_len text) text, drop (word_len text) text)

-- a field that is one word, and what the word says
unfoldable pub field_of : {A : Type 0} → (List ℕ → Result A LineKind) → List ℕ
    → Result (A × List ℕ) LineKind
field_of read text = do
  start ← field_at text
  value ← read (word_at start).0
  Ok (value, (word_at start).1)

-- the word is this text
abbrev pub is_word : List ℕ → List ℕ → Bool
is_word word text = pointwise nat_eq word text

-- the units themselves, if they have no fault as a name
abbrev pub unless_fault : Option NameFault → List ℕ → Result (List ℕ) LineKind
unless_fault None units = Ok units
unless_fault (Some fault) units = Err kind.Name

-- the name whose text this is
abbrev pub name_of : List ℕ → Result (List ℕ) LineKind
name_of text =
    if is_utf8 text then unless_fault (name_fault (text_units text)) (text_units text)
    else Err kind.Name

-- what stands before a quotation mark at this place, and the rest behind that
abbrev pub quoted_to : List ℕ → Option ℕ → Result (List ℕ × List ℕ) LineKind
quoted_to rest None = Err kind.Name
quoted_to rest (Some at) = Ok (take at rest, drop (at + 1) rest)

-- what stands between two quotation marks, and the rest behind the second
abbrev pub quoted_at : List ℕ → Result (List ℕ × List ℕ) LineKind
quoted_at [] = Err kind.Name
quoted_at (b ∷ rest) = if b == 34 then quoted_to rest (position is_quote rest) else Err kind.Name

-- a field that is a name
unfoldable pub name_at : List ℕ → Result (List ℕ × List ℕ) LineKind
name_at text = do
  start ← field_at text
  quoted ← quoted_at start
  name ← name_of quoted.0
  Ok (name, quoted.1)

-- bytes that hex digits gave, whatever was wrong with others
abbrev pub hex_of_decoded : {E : Type 0} → Result (List ℕ) E → Result (List ℕ) LineKind
hex_of_decoded (Ok bytes) = Ok bytes
hex_of_decoded (Err e) = Err kind.Hex

-- the bytes that a word spells: none by a dash, others by two hex digits each
abbrev pub hex_of : List ℕ → Result (List ℕ) LineKind
hex_of word =
    if length word == 1 && slice_index word 0 == 45 then Ok []
    else if nat_lt 0 (length word) then hex_of_decoded (decode_of word)
    else Err kind.Hex

-- a field that is bytes in hex
abbrev pub hex_at : List ℕ → Result (List ℕ × List ℕ) LineKind
hex_at text = field_of hex_of text

-- the number that a word spells, if it is one below 2^64
abbrev pub number_in : Option ℕ → Result ℕ LineKind
number_in None = Err kind.Number
number_in (Some n) = Ok n

-- a field that is a number
abbrev pub number_at : List ℕ → Result (ℕ × List ℕ) LineKind
number_at text = field_of (λ word. number_in (plain_number word)) text

-- whether an open may write: `w`, or `r` where it only reads
abbrev pub mode_of : List ℕ → Result Bool LineKind
mode_of word =
    if is_word word (codes "r") then Ok false
    else if is_word word (codes "w") then Ok true
    else Err kind.Mode

-- a field that is the mode of an open
abbrev pub mode_at : List ℕ → Result (Bool × List ℕ) LineKind
mode_at text = field_of mode_of text

-- four bytes as one number, the first byte the greatest
abbrev pub code_of_decoded : {E : Type 0} → Result (List ℕ) E → Result ℕ LineKind
code_of_decoded (Ok bytes) = Ok (from_be_bytes w32 bytes)
code_of_decoded (Err e) = Err kind.Code

-- the code that eight hex digits spell
abbrev pub code_of : List ℕ → Result ℕ LineKind
code_of word = code_of_decoded (decode_sized word 4)

-- a field that is a control's code
abbrev pub code_at : List ℕ → Result (ℕ × List ℕ) LineKind
code_at text = field_of code_of text
