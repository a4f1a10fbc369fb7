-- The entries of a run.
use Rattle.std.specs.Prelude.{List, [], ◌∷◌, ◌++◌}
use Rattle.sis_model.specs.declared.history.Entry.{Entry}
use Rattle.sis_history.specs.Rows.{Row, Begins, Enters, Fails}

-- the entries after one row more
abbrev pub with_row : List Entry → Row → List Entry
with_row entries (Begins client command) = entries
with_row entries (Enters entry fresh) = entries ++ entry ∷ []
with_row entries (Fails client file at) = entries

-- the entries after some rows more
abbrev pub with_rows : List Entry → List Row → List Entry
with_rows entries [] = entries
with_rows entries (row ∷ rows) = with_rows (with_row entries row) rows

-- the entries of some rows
abbrev pub entries_of : List Row → List Entry
entries_of rows = with_rows [] rows
