-- The GUIDs that a counter gives.
use Rattle.std.specs.Prelude.{ℕ, ◌++◌, List, replicate}
use Rattle.byteorder.specs.Endian.{big_bytes}

-- eight zero bytes, and the number in big-endian order
abbrev pub guid_of : ℕ → List ℕ
guid_of number = replicate 8 0 ++ big_bytes 8 number
