-- The world of wholly separate files, and what is asked of it.
use Rattle.std.specs.Prelude.{ℕ, ◌+◌, ◌==◌, ◌&&◌, Bool, not, List, [], ◌∷◌, ◌++◌, length, take, drop, replicate, filter, find, unwrap_or, Option}
use Rattle.std.specs.List.{list_any, range_with_len}
use Rattle.std.specs.FinMap as map
use Rattle.sis_name.specs.Files.{Files, same_name}
use Rattle.sis_name.specs.Units.{is_after}

-- an open file: whose it is, under which number, and whether it may write
pub record OpenFile : Type 0 where
  pub client : ℕ
  pub number : ℕ
  pub name : List ℕ
  pub writes : Bool

-- the letter that a path to the volume begins with, the files, and those that are open
pub record World : Type 0 where
  pub letter : ℕ
  pub files : Files
  pub opens : List OpenFile

-- the world that has these files, none of them open
abbrev pub unopened : ℕ → Files → World
unopened letter files = record { letter = letter; files = files; opens = [] }

-- the bytes of a file
abbrev pub bytes_of : World → List ℕ → Option (List ℕ)
bytes_of w name = map.get w.files name

-- the same, and no bytes where there is no file
abbrev pub content : World → List ℕ → List ℕ
content w name = unwrap_or (bytes_of w name) []

-- the names of files that are greater than this one, in order; all names, without one
abbrev pub names_after : World → Option (List ℕ) → List (List ℕ)
names_after w after = filter (is_after after) (map.keys w.files)

-- the world with these bytes under this name
abbrev pub with_file : World → List ℕ → List ℕ → World
with_file w name bytes = record w { files = map.insert w.files name bytes }

-- the world without this file
abbrev pub without_file : World → List ℕ → World
without_file w name = record w { files = map.remove w.files name }

-- the open of a client under a number
abbrev pub is_open_as : ℕ → ℕ → OpenFile → Bool
is_open_as client number o = (o.client == client) && (o.number == number)

abbrev pub open_of : World → ℕ → ℕ → Option OpenFile
open_of w client number = find (is_open_as client number) w.opens

-- the client's opens
abbrev pub opens_of : World → ℕ → List OpenFile
opens_of w client = filter (λ o. o.client == client) w.opens

-- a client has the file open, and one that may write it
abbrev pub is_open : World → List ℕ → Bool
is_open w name = list_any (λ o. same_name o.name name) w.opens

abbrev pub is_written : World → List ℕ → Bool
is_written w name = list_any (λ o. same_name o.name name && o.writes) w.opens

-- the greatest number of a client's opens
abbrev pub most_opens : ℕ
most_opens = 64

-- the least number from 1 that the client has free
abbrev pub free_number : World → ℕ → ℕ
free_number w client =
    unwrap_or (find (λ number. not (list_any (is_open_as client number) w.opens))
    (range_with_len 1 most_opens)) 0

-- the world with one more open
abbrev pub with_open : World → ℕ → List ℕ → Bool → World
with_open w client name writes =
    record w {
      opens = w.opens ++ record {
        client = client;
        number = free_number w client;
        name = name;
        writes = writes;
      } ∷ [];
    }

abbrev pub without_open : World → ℕ → ℕ → World
without_open w client number =
    record w { opens = filter (λ o. not (is_open_as client number o)) w.opens }

-- the world without the client's opens
abbrev pub without_client : World → ℕ → World
without_client w client = record w { opens = filter (λ o. not (o.client == client)) w.opens }

-- so many bytes, those of the file and zeros behind them
abbrev pub resized : ℕ → List ℕ → List ℕ
resized len bytes = take len (bytes ++ replicate len 0)

-- the file's bytes where others were written from an offset on
abbrev pub overwritten : ℕ → List ℕ → List ℕ → List ℕ
overwritten at more bytes = resized at bytes ++ more ++ drop (at + length more) bytes
