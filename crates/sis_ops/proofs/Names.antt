-- A name that no file has.
use Rattle.std.proofs.Common.{◌≡◌, ℕ, false, List, Option, is_some, sym, ap, ◌∙◌}
use Rattle.std.specs.List.{list_any}
use Rattle.std.specs.Option.{option_map}
use Rattle.sis_table.specs.Volume.{VolumeTable, has_name, id_of, node_named}
use Rattle.sis_table.proofs.ContentLemmas.{node_named-has, some_mapped}

-- a look-up that finds nothing
pub is_free : (v : VolumeTable) (name : List ℕ) (found : Option ℕ)
    → found ≡ option_map id_of (node_named v name) → is_some found ≡ false
    → list_any (has_name name) v.nodes ≡ false
is_free v name found e none =
    sym (ap is_some e ∙ some_mapped id_of (node_named v name) ∙ node_named-has v name) ∙ none
