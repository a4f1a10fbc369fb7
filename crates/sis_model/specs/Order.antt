-- Which commands a run makes, and in which order.
use Rattle.std.specs.Prelude.{◌≡◌, ℕ, zero, suc, ◌==◌, Bool, true, false, not, if◌then◌else◌, List, [], ◌∷◌, ◌++◌, filter, map}
use Rattle.std.specs.List.{list_any, AllByRecursion}
use Rattle.sis_model.specs.declared.command.Command.{Command}
use Rattle.sis_model.specs.declared.command.Command.TheVariants as command
use Rattle.sis_model.specs.declared.history.Entry.{Entry}
use Rattle.sis_model.specs.declared.history.Line.{Line}

-- an entry's client and command
abbrev pub line_of : Entry → Line
line_of e = record { client = e.client; command = e.command }

-- the commands of one client
abbrev pub commands_of : ℕ → List Line → List Command
commands_of client [] = []
commands_of client (l ∷ ls) =
    if l.client == client then l.command ∷ commands_of client ls else commands_of client ls

-- the commands of one client's entries
abbrev pub calls_of : List Entry → ℕ → List Command
calls_of es client = commands_of client (map line_of es)

-- a client that has commands ends with one more
abbrev pub with_end : List Command → List Command
with_end [] = []
with_end (c ∷ cs) = (c ∷ cs) ++ command.End ∷ []

-- the calls that a script owes a client: its lines, and then its end
abbrev pub expected_calls : List Line → ℕ → List Command
expected_calls lines client = with_end (commands_of client lines)

abbrev pub end_of : ℕ → Line
end_of client = record { client = client; command = command.End }

-- each client's end right after its last line
abbrev pub exec_order : List Line → List Line
exec_order [] = []
exec_order (l ∷ ls) =
    if list_any (λ m. m.client == l.client) ls then l ∷ exec_order ls
    else l ∷ end_of l.client ∷ exec_order ls

-- a client's next line, if it has one
abbrev pub next_of : ℕ → List Command → List Line
next_of client [] = []
next_of client (c ∷ cs) = record { client = client; command = c } ∷ []

-- the lines without the client's first one
abbrev pub without_next : ℕ → List Line → List Line
without_next client [] = []
without_next client (l ∷ ls) = if l.client == client then ls else l ∷ without_next client ls

-- the lines that these clients' turns take, and those that they leave
abbrev pub taken : List Line → List ℕ → List Line
taken lines [] = []
taken lines (c ∷ cs) = next_of c (commands_of c lines) ++ taken (without_next c lines) cs

abbrev pub remaining : List Line → List ℕ → List Line
remaining lines [] = lines
remaining lines (c ∷ cs) = remaining (without_next c lines) cs

-- clients have the numbers from 1 to this one
abbrev pub most_clients : ℕ
most_clients = 16

-- the clients 1 to n
abbrev pub up_to_client : ℕ → List ℕ
up_to_client zero = []
up_to_client (suc n) = up_to_client n ++ suc n ∷ []

-- a turn of each client, so many times
abbrev pub rounds : ℕ → List ℕ
rounds zero = []
rounds (suc n) = rounds n ++ up_to_client most_clients

-- the order of the lines by the turns of a schedule, and then by rounds until no line is left
abbrev pub IsTurnOrder : List Line → List ℕ → List Line → Type 0
IsTurnOrder lines schedule order =
    (n : ℕ) × (order ≡ taken lines (schedule ++ rounds n))
    × (remaining lines (schedule ++ rounds n) ≡ [])

-- the command that ends a session
abbrev pub is_end : Command → Bool
is_end command.End = true
is_end (command.Put name bytes) = false
is_end (command.Open name write) = false
is_end (command.Read number at len) = false
is_end (command.Write number at bytes) = false
is_end (command.Size number len) = false
is_end (command.Close number) = false
is_end (command.Remove name) = false
is_end (command.Rename old new) = false
is_end (command.Stat name) = false
is_end (command.List after) = false
is_end (command.Tell name) = false
is_end command.Space = false
is_end (command.Fsctl code bytes) = false
is_end command.Sync = false
is_end command.Grovel = false

-- the lines that aren't ends
abbrev pub without_ends : List Line → List Line
without_ends ls = filter (λ l. not (is_end l.command)) ls

-- the command is begun, decided and answered in one turn of its client
abbrev pub takes_one_turn : Command → Bool
takes_one_turn (command.Put name bytes) = true
takes_one_turn (command.Open name write) = true
takes_one_turn (command.Read number at len) = true
takes_one_turn (command.Write number at bytes) = true
takes_one_turn (command.Size number len) = true
takes_one_turn (command.Close number) = false
takes_one_turn (command.Remove name) = false
takes_one_turn (command.Rename old new) = true
takes_one_turn (command.Stat name) = true
takes_one_turn (command.List after) = true
takes_one_turn (command.Tell name) = true
takes_one_turn command.Space = true
takes_one_turn (command.Fsctl code bytes) = false
takes_one_turn command.Sync = true
takes_one_turn command.Grovel = false
takes_one_turn command.End = false

-- each of the lines takes one turn
abbrev pub TakeOneTurn : List Line → Type 0
TakeOneTurn ls = AllByRecursion (λ l. takes_one_turn l.command ≡ true) ls
