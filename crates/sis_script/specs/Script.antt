-- Which bytes are a script and what it says, and what is the first thing wrong with others.
use Rattle.std.specs.Prelude.{◌≡◌, ℕ, ◌+◌, ◌≤◌, ◌==◌, Bool, not, ◌&&◌, if◌then◌else◌, List, [], ◌∷◌, ◌++◌, length, nat_lt, nat_le, Option, Some, None, Result, Ok, Err, ⊤}
use Rattle.std.specs.Str.{is_utf8}
use Rattle.std.specs.Str.Lines.{lines}
use Rattle.std.specs.List.{All, slice_split}
use Rattle.sis_model.specs.declared.command.Command.{Command}
use Rattle.sis_model.specs.declared.command.Command.TheVariants as command
use Rattle.sis_model.specs.declared.history.Line.{Line}
use Rattle.sis_reading.specs.Number.{plain_number}
use Rattle.sis_reading.specs.Steps.{◌>>=◌}
use Rattle.sis_script.specs.Fields.{is_space, field_at, word_at}
use Rattle.sis_script.specs.Verbs.{verb_at, fields_at}
use Rattle.sis_script.specs.declared.limits.TheConstants.{MOST_SCRIPT_BYTES, MOST_LINES, LAST_CLIENT}
use Rattle.sis_script.specs.declared.faults.LineKind.{LineKind}
use Rattle.sis_script.specs.declared.faults.LineKind.TheVariants as kind
use Rattle.sis_script.specs.declared.faults.ScriptFault.{ScriptFault}
use Rattle.sis_script.specs.declared.faults.ScriptFault.TheVariants as fault
use Rattle.sis_script.specs.declared.faults.ScriptLimit.TheVariants as limit

-- a script: the commands of its lines, and the turns of its schedule
pub record Parts : Type 0 where
  pub lines : List Line
  pub schedule : List ℕ

-- a number that a client may have
abbrev pub is_client : ℕ → Bool
is_client n = nat_le 1 n && nat_le n LAST_CLIENT

-- the number, where it is a client's
abbrev pub client_in : Option ℕ → Result ℕ LineKind
client_in None = Err kind.Client
client_in (Some n) = if is_client n then Ok n else Err kind.Client

-- the client that a word spells
abbrev pub client_of : List ℕ → Result ℕ LineKind
client_of word = client_in (plain_number word)

-- this client, and those behind it
abbrev pub with_client : ℕ → Result (List ℕ) LineKind → Result (List ℕ) LineKind
with_client client (Ok clients) = Ok (client ∷ clients)
with_client client (Err e) = Err e

-- the clients that these words spell, the first wrong one first
abbrev pub clients_of : List (List ℕ) → Result (List ℕ) LineKind
clients_of [] = Ok []
clients_of (word ∷ words) = client_of word >>= λ client. with_client client (clients_of words)

-- what follows an `@`: one or more clients, each after one space
unfoldable pub turns_at : List ℕ → Result (List ℕ) LineKind
turns_at text = do
  start ← field_at text
  clients_of (slice_split is_space start)

-- a line of a client: the client, one space, a verb, and its fields
unfoldable pub command_at : List ℕ → Result Line LineKind
command_at text = do
  client ← client_of (word_at text).0
  verb ← verb_at (word_at text).1
  command ← fields_at verb.0 verb.1
  Ok (record { client = client; command = command })

-- what a skipped line says
abbrev pub no_parts : Parts
no_parts = record { lines = []; schedule = [] }

-- what a client's line says
abbrev pub only_line : Line → Parts
only_line line = record { lines = line ∷ []; schedule = [] }

-- what a line of the schedule says
abbrev pub only_turns : List ℕ → Parts
only_turns clients = record { lines = []; schedule = clients }

-- what a line says: nothing where it is empty or begins with `#`, turns where it begins with `@`
abbrev pub line_at : List ℕ → Result Parts LineKind
line_at [] = Ok no_parts
line_at (b ∷ rest) =
    if b == 35 then Ok no_parts
    else if b == 64 then (turns_at rest >>= λ clients. Ok (only_turns clients))
    else (command_at (b ∷ rest) >>= λ line. Ok (only_line line))

-- the same of any bytes: all others are tried only where they are UTF-8
abbrev pub item_of : List ℕ → Result Parts LineKind
item_of text = if not (is_utf8 text) then Err kind.Encoding else line_at text

-- these parts, and those behind them
abbrev pub joined : Parts → Parts → Parts
joined p q = record { lines = p.lines ++ q.lines; schedule = p.schedule ++ q.schedule }

-- these parts before those that are read behind them
abbrev pub with_front : Parts → Result Parts ScriptFault → Result Parts ScriptFault
with_front p (Ok q) = Ok (joined p q)
with_front p (Err e) = Err e

-- line n, and those behind it
abbrev pub after_item : ℕ → Result Parts LineKind → Result Parts ScriptFault
    → Result Parts ScriptFault
after_item n (Ok parts) rest = with_front parts rest
after_item n (Err kind) rest = Err (fault.Line n kind)

-- what the lines behind the first n say
abbrev pub parts_from : ℕ → List (List ℕ) → Result Parts ScriptFault
parts_from n [] = Ok no_parts
parts_from n (l ∷ ls) =
    if nat_lt n MOST_LINES then after_item (n + 1) (item_of l) (parts_from (n + 1) ls)
    else Err (fault.Limit limit.Lines (MOST_LINES + 1))

-- What some bytes say as a script. Lines end with LF or CR LF, and the last may end with the bytes.
abbrev pub script_of : List ℕ → Result Parts ScriptFault
script_of bytes =
    if nat_lt MOST_SCRIPT_BYTES (length bytes)
    then Err (fault.Limit limit.Bytes (MOST_SCRIPT_BYTES + 1))
    else parts_from 0 (lines bytes)

-- the bytes fail for this reason, unless memory or the source did
abbrev pub FailsAs : ScriptFault → Result Parts ScriptFault → Type 0
FailsAs fault.Source read = ⊤
FailsAs fault.Memory read = ⊤
FailsAs (fault.Line n kind) read = read ≡ Err (fault.Line n kind)
FailsAs (fault.Limit kind count) read = read ≡ Err (fault.Limit kind count)

-- What a function returned, seen by `view`, is what the bytes say, unless memory or the source
-- failed.
abbrev pub Says : {X : Type 0} → (X → Parts) → Result X ScriptFault → Result Parts ScriptFault
    → Type 0
Says view (Ok x) read = read ≡ Ok (view x)
Says view (Err e) read = FailsAs e read

-- P holds where the lines were judged: not where the source, memory or the limit of bytes ended it
abbrev pub IfJudged : {X : Type 0} → Result X ScriptFault → Type 0 → Type 0
IfJudged (Ok x) P = P
IfJudged (Err fault.Source) P = ⊤
IfJudged (Err fault.Memory) P = ⊤
IfJudged (Err (fault.Line n kind)) P = P
IfJudged (Err (fault.Limit limit.Bytes count)) P = ⊤
IfJudged (Err (fault.Limit limit.Lines count)) P = P

-- a client that a script may name
abbrev pub IsClient : ℕ → Type 0
IsClient client = (1 ≤ client) × (client ≤ LAST_CLIENT)

-- a command whose verb is carried out, so that a script may have it
abbrev pub IsBuilt : Command → Type 0
IsBuilt (command.Put name bytes) = ⊤
IsBuilt (command.Open name write) = ⊤
IsBuilt (command.Read number at len) = ⊤
IsBuilt (command.Write number at bytes) = ⊤
IsBuilt (command.Size number len) = ⊤
IsBuilt (command.Close number) = ⊤
IsBuilt (command.Remove name) = ⊤
IsBuilt (command.Rename old new) = ⊤
IsBuilt (command.Stat name) = ⊤
IsBuilt (command.List after) = ⊤
IsBuilt (command.Tell name) = ⊥
IsBuilt command.Space = ⊤
IsBuilt (command.Fsctl code bytes) = ⊥
IsBuilt command.Sync = ⊤
IsBuilt command.Grovel = ⊥
IsBuilt command.End = ⊥

-- what each script keeps: its clients, its commands and its turns are ones that a script may have
pub record AreAllowed (parts : Parts) : Type 0 where
  pub clients : All (λ l. IsClient l.client) parts.lines
  pub built : All (λ l. IsBuilt l.command) parts.lines
  pub turns : All IsClient parts.schedule
