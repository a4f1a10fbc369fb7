-- Which files are open, and whose opens they are.
use Rattle.std.specs.Prelude.{◌≡◌, ℕ, ◌==◌, ◌&&◌, not, Bool, if◌then◌else◌, List, [], ◌∷◌, length, filter, find, unwrap_or, Option, None}
use Rattle.std.specs.List.{list_any, range_with_len}
use Rattle.std.specs.Ordering.{nat_cmp, ordering_then}
use Rattle.std.specs.BTreeMap.{BTreeMap, get}
use Rattle.std.specs.declared.cmp.Ordering.{Ordering}
use Rattle.sis_model.specs.World.{most_opens}
use Rattle.sis_model.specs.declared.reply.Fate.{Fate}
use Rattle.sis_model.specs.declared.reply.Fate.TheVariants as fate
use Rattle.sis_core.specs.declared.opens.Open.{Open}
use Rattle.sis_core.specs.declared.opens.index.FileOpens.{FileOpens}
use Rattle.sis_core.specs.declared.opens.index.Index.{Index}

-- the client's open of this number
abbrev pub is_as : ℕ → ℕ → Open → Bool
is_as client number o = (o.client == client) && (o.number == number)

abbrev pub open_as : ℕ → ℕ → List Open → Option Open
open_as client number opens = find (is_as client number) opens

-- the client's opens
abbrev pub is_of : ℕ → Open → Bool
is_of client o = o.client == client

-- the least number from 1 that the client has free
abbrev pub free_number : ℕ → List Open → ℕ
free_number client opens =
    unwrap_or (find (λ number. not (list_any (is_as client number) opens))
    (range_with_len 1 most_opens)) 0

-- the file is open, and may be written by another open than this one
abbrev pub has_file : ℕ → List Open → Bool
has_file file opens = list_any (λ o. o.file == file) opens

abbrev pub has_other_writer : Open → List Open → Bool
has_other_writer o opens =
    list_any (λ p. (p.file == o.file) && p.writes && not (is_as o.client o.number p)) opens

-- what a close leaves of its file; no file is a link so far
abbrev pub fate_in : List Open → Open → Fate
fate_in opens o =
    if not o.writes then fate.Read
    else if has_other_writer o opens then fate.Writer
    else fate.Plain

-- a client has no two opens of one number
abbrev pub AreNumbered : List Open → Type 0
AreNumbered [] = Unit {0}
AreNumbered (o ∷ os) = (open_as o.client o.number os ≡ None) × AreNumbered os

-- how many of these opens pass a test
abbrev pub count_of : (Open → Bool) → List Open → ℕ
count_of test opens = length (filter test opens)

-- the opens of a file, and those of them that may write
abbrev pub is_in : ℕ → Open → Bool
is_in file o = o.file == file

abbrev pub writes_in : ℕ → Open → Bool
writes_in file o = (o.file == file) && o.writes

-- how many opens a file has, and one that isn't open
abbrev pub file_opens : ℕ → List Open → FileOpens
file_opens file opens =
    record { opens = count_of (is_in file) opens; writers = count_of (writes_in file) opens }

abbrev pub not_open : FileOpens
not_open = record { opens = 0; writers = 0 }

-- the order of pairs, by the first number and then by the second
abbrev pub pair_cmp : (ℕ × ℕ) → (ℕ × ℕ) → Ordering
pair_cmp x y = ordering_then (nat_cmp x.0 y.0) (nat_cmp x.1 y.1)

-- the map says how many of these opens each client has, and each file
abbrev pub CountsClients : List Open → BTreeMap ℕ ℕ → Type 0
CountsClients opens clients =
    (client : ℕ) → unwrap_or (get nat_cmp clients client) 0 ≡ count_of (is_of client) opens

abbrev pub CountsFiles : List Open → BTreeMap ℕ FileOpens → Type 0
CountsFiles opens files =
    (file : ℕ) → unwrap_or (get nat_cmp files file) not_open ≡ file_opens file opens

-- the index of these opens, of which no two have the same client and number
pub record IsIndex (opens : List Open) (index : Index) : Type 0 where
  pub numbered : AreNumbered opens
  pub numbers : (client number : ℕ)
      → get pair_cmp index.numbers (client, number) ≡ open_as client number opens
  pub clients : CountsClients opens index.clients
  pub files : CountsFiles opens index.files
