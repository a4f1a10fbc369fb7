-- What a `History` shows: its entries, and for how many more it has room.
use Rattle.std.specs.Prelude.{ℕ, List}
use Rattle.sis_model.specs.declared.history.Entry.{Entry}

pub record Recorded : Type 0 where
  pub entries : List Entry
  pub spare : ℕ
