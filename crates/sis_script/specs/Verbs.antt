-- The verbs of a script, and the command that each one's fields say.
use Rattle.std.specs.Prelude.{ℕ, Bool, true, false, if◌then◌else◌, List, [], ◌∷◌, codes, Option, Some, None, Result, Ok, Err}
use Rattle.sis_model.specs.declared.command.Command.{Command}
use Rattle.sis_model.specs.declared.command.Command.TheVariants as command
use Rattle.sis_reading.specs.Steps.{◌>>=◌}
use Rattle.sis_script.specs.Fields.{is_word, field_of, end_at, number_at, name_at, hex_at, mode_at, code_at}
use Rattle.sis_script.specs.declared.faults.LineKind.{LineKind}
use Rattle.sis_script.specs.declared.faults.LineKind.TheVariants as kind
use Rattle.sis_script.specs.declared.verbs.Verb.{Verb}
use Rattle.sis_script.specs.declared.verbs.Verb.TheVariants as verb

-- the verb that a word is
abbrev pub verb_of : List ℕ → Option Verb
verb_of word =
    if is_word word (codes "put") then Some verb.Put
    else if is_word word (codes "open") then Some verb.Open
    else if is_word word (codes "read") then Some verb.Read
    else if is_word word (codes "write") then Some verb.Write
    else if is_word word (codes "size") then Some verb.Size
    else if is_word word (codes "close") then Some verb.Close
    else if is_word word (codes "remove") then Some verb.Remove
    else if is_word word (codes "rename") then Some verb.Rename
    else if is_word word (codes "stat") then Some verb.Stat
    else if is_word word (codes "list") then Some verb.List
    else if is_word word (codes "tell") then Some verb.Tell
    else if is_word word (codes "space") then Some verb.Space
    else if is_word word (codes "fsctl") then Some verb.Fsctl
    else if is_word word (codes "sync") then Some verb.Sync
    else if is_word word (codes "grovel") then Some verb.Grovel
    else None

-- Which verbs' commands are carried out. The others come later, and are refused till then.
abbrev pub is_built : Verb → Bool
is_built verb.Put = true
is_built verb.Open = true
is_built verb.Read = true
is_built verb.Write = true
is_built verb.Size = true
is_built verb.Close = true
is_built verb.Remove = true
is_built verb.Rename = true
is_built verb.Stat = true
is_built verb.List = true
is_built verb.Tell = false
is_built verb.Space = true
is_built verb.Fsctl = false
is_built verb.Sync = true
is_built verb.Grovel = false

-- the verb, where it is one that is carried out
abbrev pub built_in : Option Verb → Result Verb LineKind
built_in None = Err kind.Verb
built_in (Some v) = if is_built v then Ok v else Err kind.Verb

-- the same of a word
abbrev pub built_of : List ℕ → Result Verb LineKind
built_of word = built_in (verb_of word)

-- a field that is a verb
abbrev pub verb_at : List ℕ → Result (Verb × List ℕ) LineKind
verb_at text = field_of built_of text

-- a name as the last field
unfoldable pub last_name_at : List ℕ → Result (List ℕ) LineKind
last_name_at text = do
  name ← name_at text
  rest ← end_at name.1
  Ok name.0

-- `NAME HEX`
unfoldable pub put_at : List ℕ → Result Command LineKind
put_at text = do
  name ← name_at text
  bytes ← hex_at name.1
  rest ← end_at bytes.1
  Ok (command.Put name.0 bytes.0)

-- `NAME r` or `NAME w`
unfoldable pub open_at : List ℕ → Result Command LineKind
open_at text = do
  name ← name_at text
  write ← mode_at name.1
  rest ← end_at write.1
  Ok (command.Open name.0 write.0)

-- `N OFF LEN`
unfoldable pub read_at : List ℕ → Result Command LineKind
read_at text = do
  number ← number_at text
  at ← number_at number.1
  len ← number_at at.1
  rest ← end_at len.1
  Ok (command.Read number.0 at.0 len.0)

-- `N OFF HEX`
unfoldable pub write_at : List ℕ → Result Command LineKind
write_at text = do
  number ← number_at text
  at ← number_at number.1
  bytes ← hex_at at.1
  rest ← end_at bytes.1
  Ok (command.Write number.0 at.0 bytes.0)

-- `N LEN`
unfoldable pub size_at : List ℕ → Result Command LineKind
size_at text = do
  number ← number_at text
  len ← number_at number.1
  rest ← end_at len.1
  Ok (command.Size number.0 len.0)

-- `N`
unfoldable pub close_at : List ℕ → Result Command LineKind
close_at text = do
  number ← number_at text
  rest ← end_at number.1
  Ok (command.Close number.0)

-- `NAME NAME`
unfoldable pub rename_at : List ℕ → Result Command LineKind
rename_at text = do
  old ← name_at text
  new ← last_name_at old.1
  Ok (command.Rename old.0 new)

-- nothing, or `NAME`
abbrev pub list_at : List ℕ → Result Command LineKind
list_at [] = Ok (command.List None)
list_at (b ∷ rest) = last_name_at (b ∷ rest) >>= λ name. Ok (command.List (Some name))

-- `CODE HEX`
unfoldable pub fsctl_at : List ℕ → Result Command LineKind
fsctl_at text = do
  code ← code_at text
  bytes ← hex_at code.1
  rest ← end_at bytes.1
  Ok (command.Fsctl code.0 bytes.0)

-- nothing, whatever the command
abbrev pub bare_at : Command → List ℕ → Result Command LineKind
bare_at command text = end_at text >>= λ rest. Ok command

-- the command of a verb, from what stands behind the verb
abbrev pub fields_at : Verb → List ℕ → Result Command LineKind
fields_at verb.Put text = put_at text
fields_at verb.Open text = open_at text
fields_at verb.Read text = read_at text
fields_at verb.Write text = write_at text
fields_at verb.Size text = size_at text
fields_at verb.Close text = close_at text
fields_at verb.Remove text = last_name_at text >>= λ name. Ok (command.Remove name)
fields_at verb.Rename text = rename_at text
fields_at verb.Stat text = last_name_at text >>= λ name. Ok (command.Stat name)
fields_at verb.List text = list_at text
fields_at verb.Tell text = last_name_at text >>= λ name. Ok (command.Tell name)
fields_at verb.Space text = bare_at command.Space text
fields_at verb.Fsctl text = fsctl_at text
fields_at verb.Sync text = bare_at command.Sync text
fields_at verb.Grovel text = bare_at command.Grovel text
