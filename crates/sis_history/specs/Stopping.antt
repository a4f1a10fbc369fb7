-- What stops need to know of the rows of a run.
use Rattle.std.specs.Prelude.{◌≡◌, true, if◌then◌else◌, ⊤}
use Rattle.sis_disk.specs.Stops.{Now, Shows}
use Rattle.sis_name.specs.Files.{Files}
use Rattle.sis_table.specs.Opens.{OpensAs}
use Rattle.sis_history.specs.Durable.{is_durable}
use Rattle.sis_history.specs.Rows.{Row, Begins, Enters, Fails}
use Rattle.sis_history.specs.Stage.{Stage}

-- behind a durable entry each image that a stop leaves opens as the files of then
abbrev pub KeepsDurable : Row → Stage → Type 0
KeepsDurable (Begins client command) t = ⊤
KeepsDurable (Enters entry fresh) t =
    is_durable entry ≡ true → Now (Shows (OpensAs t.world.files)) t.seen
KeepsDurable (Fails client file at) t = ⊤

-- the committed files after a row: those of then behind a durable entry, and else those before
abbrev pub committed_by : Files → Row → Stage → Files
committed_by files (Begins client command) t = files
committed_by files (Enters entry fresh) t = if is_durable entry then t.world.files else files
committed_by files (Fails client file at) t = files
