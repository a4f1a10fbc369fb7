-- What clients asked in a run, and what they have in hand.
use Rattle.std.specs.Prelude.{ℕ, ◌==◌, if◌then◌else◌, List, [], ◌∷◌, ◌++◌, Option, None, Some}
use Rattle.sis_model.specs.declared.command.Command.{Command}
use Rattle.sis_history.specs.Rows.{Row, Begins, Enters, Fails}
use Rattle.sis_history.specs.Stage.{Job}

-- the command that a client begins in a row, if it does
abbrev pub begun_in : Row → ℕ → List Command
begun_in (Begins who command) client = if who == client then command ∷ [] else []
begun_in (Enters entry fresh) client = []
begun_in (Fails who file at) client = []

-- those that it begins in some rows, in order
abbrev pub begun_by : List Row → ℕ → List Command
begun_by [] client = []
begun_by (row ∷ rows) client = begun_in row client ++ begun_by rows client

-- the command in hand
abbrev pub in_hand : Option Job → List Command
in_hand None = []
in_hand (Some j) = j.command ∷ []
