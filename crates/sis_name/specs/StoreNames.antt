-- The names of the common store's files: the prefix, the text of a GUID, and an ending.
use Rattle.std.specs.Prelude.{◌≡◌, ℕ, ◌<◌, List, ◌++◌, All, length, slice_range, codes, Option, None, Some, option_map, option_and_then, if◌then◌else◌}
use Rattle.uuid.specs.Parts.{swap_fields}
use Rattle.uuid.specs.Text.{hyphenated_text, lower, parsed}
use Rattle.sis_name.specs.Units.{store_prefix}
use Rattle.sis_name.specs.Files.{same_name}

-- sixteen bytes
abbrev pub IsGuid : List ℕ → Type 0
IsGuid guid = (length guid ≡ 16) × All (λ b. b < 256) guid

-- a GUID in the hyphenated form, lower case: its first three fields are little-endian
abbrev pub guid_text : List ℕ → List ℕ
guid_text guid = hyphenated_text lower (swap_fields guid)

-- what the names of store files end with
abbrev pub store_ending : List ℕ
store_ending = codes ".sis"

-- the name of the store file with this GUID
abbrev pub store_name : List ℕ → List ℕ
store_name guid = store_prefix ++ guid_text guid ++ store_ending

-- the GUID that the 36 units behind the prefix spell, in any spelling
abbrev pub guid_at_text : List ℕ → Option (List ℕ)
guid_at_text units = option_map swap_fields (parsed (slice_range units 17 53))

-- this GUID, if these units are the name of its store file
abbrev pub guid_of_name : List ℕ → List ℕ → Option (List ℕ)
guid_of_name units guid = if same_name (store_name guid) units then Some guid else None

-- the GUID of which these units are the store file's name
abbrev pub store_guid : List ℕ → Option (List ℕ)
store_guid units = option_and_then (guid_of_name units) (guid_at_text units)
