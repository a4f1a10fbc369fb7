-- Which limit an operation meets.
use Rattle.std.proofs.Common.{◌≡◌, ℕ, ◌+◌, ◌<◌, ◌≤◌, true, false, length, Option, Some, None, refl, ◌∙◌, arith, inl, inr}
use Rattle.std.specs.Prelude.{◌==◌, nat_lt, if◌then◌else◌}
use Rattle.std.proofs.lemmas.Bool.{cases_lt}
use Rattle.std.proofs.lemmas.Bool.Decides.{nat_tests}
use Rattle.sis_history.specs.Needs.{hindrance_of, no_need, put_need, resize_need}
use Rattle.sis_disk.specs.Layout.{data_blocks}
use Rattle.sis_model.specs.declared.reply.Hindrance.{Hindrance}
use Rattle.sis_model.specs.declared.reply.Hindrance.TheVariants as hindrance
use Rattle.sis_model.specs.declared.reply.LimitKind.TheVariants as limit
use Rattle.sis_table.specs.Changes.{Resize}
use Rattle.sis_table.specs.Volume.{VolumeTable, IsTable, greatest_number, most_nodes, used}
use Rattle.sis_table.specs.declared.node.Node.{Node}
use Rattle.sis_table.proofs.ChangesUsed.{used_bounded}
use Rattle.sis_copyclose.specs.Inside.{AsksBlocks, blocks_alone}

-- no table is beyond its limits
few_nodes : (v : VolumeTable) → IsTable v → nat_lt most_nodes (length v.nodes + 0) ≡ false
few_nodes v table = let few = table.few in grind (arith, nat_tests)

low_id : (v : VolumeTable) → IsTable v → nat_lt greatest_number (v.next_id + 0) ≡ false
low_id v table = let high = table.next_high in grind (arith, nat_tests)

low_index : (v : VolumeTable) → IsTable v → nat_lt greatest_number (v.greatest + 0) ≡ false
low_index v table = let high = table.greatest in grind (arith, nat_tests)

-- an operation that makes and maps nothing meets no limit
pub asks_none : (v : VolumeTable) → IsTable v → hindrance_of v no_need ≡ None
asks_none v table =
    let bound = used_bounded v in
    let room : nat_lt (data_blocks v.layout) (used v + 0) ≡ false = grind (arith, nat_tests) in
    rw (few_nodes v table, low_id v table, low_index v table, room) refl

-- blocks alone meet want of room
abbrev full_of : VolumeTable → ℕ → Option Hindrance
full_of v blocks =
    if nat_lt (data_blocks v.layout) (used v + blocks)
    then Some (hindrance.Full blocks (used v) (data_blocks v.layout))
    else None

alone : (v : VolumeTable) (blocks : ℕ) → IsTable v
    → hindrance_of v (blocks_alone blocks) ≡ full_of v blocks
alone v blocks table = rw (few_nodes v table, low_id v table, low_index v table) refl

pub alone_full : (v : VolumeTable) (blocks : ℕ) → IsTable v
    → data_blocks v.layout < used v + blocks
    → hindrance_of v (blocks_alone blocks) ≡ Some (hindrance.Full blocks (used v) (data_blocks v.layout))
alone_full v blocks table lt =
    let more : nat_lt (data_blocks v.layout) (used v + blocks) ≡ true = grind (arith, nat_tests) in
    alone v blocks table ∙ rw more refl

pub alone_fits : (v : VolumeTable) (blocks : ℕ) → IsTable v
    → (data_blocks v.layout < used v + blocks → ⊥) → hindrance_of v (blocks_alone blocks) ≡ None
alone_fits v blocks table not_lt = elim (cases_lt (data_blocks v.layout) (used v + blocks)) [
  | inl lt ↦ absurd (not_lt lt)
  | inr le ↦
      (let fits : nat_lt (data_blocks v.layout) (used v + blocks) ≡ false = grind (arith, nat_tests) in
      alone v blocks table ∙ rw fits refl)
]

-- a change meets its file's version, or asks for blocks
pub resize_asks : (v : VolumeTable) (n : Node) (r : Resize) → IsTable v
    → n.version < greatest_number → AsksBlocks v (resize_need n (Some r))
resize_asks v n r table low =
    let other : (n.version == greatest_number) ≡ false = grind (arith, nat_tests) in
    rw (few_nodes v table, low_id v table, low_index v table, other) refl

pub version_met : (v : VolumeTable) (n : Node) (r : Resize) → IsTable v
    → n.version ≡ greatest_number
    → hindrance_of v (resize_need n (Some r)) ≡ Some (hindrance.Limit limit.Versions)
version_met v n r table is =
    let same : (n.version == greatest_number) ≡ true = grind (arith, nat_tests) in
    rw (few_nodes v table, low_id v table, low_index v table, same) refl

-- a new file meets the limit of files, or of ids, or asks for blocks
pub files_met : (v : VolumeTable) (size : ℕ) → most_nodes ≤ length v.nodes
    → hindrance_of v (put_need size) ≡ Some (hindrance.Limit limit.Files)
files_met v size le =
    let many : nat_lt most_nodes (length v.nodes + 1) ≡ true = grind (arith, nat_tests) in
    rw many refl

pub ids_met : (v : VolumeTable) (size : ℕ) → length v.nodes < most_nodes
    → greatest_number ≤ v.next_id
    → hindrance_of v (put_need size) ≡ Some (hindrance.Limit limit.Ids)
ids_met v size lt le =
    let few : nat_lt most_nodes (length v.nodes + 1) ≡ false = grind (arith, nat_tests) in
    let many : nat_lt greatest_number (v.next_id + 1) ≡ true = grind (arith, nat_tests) in
    rw (few, many) refl

pub put_asks : (v : VolumeTable) (size : ℕ) → IsTable v → length v.nodes < most_nodes
    → v.next_id < greatest_number → AsksBlocks v (put_need size)
put_asks v size table nodes ids =
    let few : nat_lt most_nodes (length v.nodes + 1) ≡ false = grind (arith, nat_tests) in
    let low : nat_lt greatest_number (v.next_id + 1) ≡ false = grind (arith, nat_tests) in
    rw (few, low, few_nodes v table, low_id v table, low_index v table) refl
