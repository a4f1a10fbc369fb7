-- What contracts see of a source and of a sink in memory.
use Rattle.std.specs.Prelude.{ℕ, List}

-- What is left of its bytes, how many it gives at most at a time, the numbers of the calls to fail,
-- and how many calls and faults there were. The last two stand still at the end of their type.
pub record SourceView : Type 0 where
  pub left : List ℕ
  pub cut : ℕ
  pub fails : List ℕ
  pub calls : ℕ
  pub faults : ℕ

-- What was written, the room for more in bytes, and the rest as for a source.
pub record SinkView : Type 0 where
  pub written : List ℕ
  pub room : ℕ
  pub fails : List ℕ
  pub calls : ℕ
  pub faults : ℕ
