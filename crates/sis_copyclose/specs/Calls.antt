-- How many calls of the disk an operation makes, at most.
use Rattle.std.specs.Prelude.{ℕ, ◌+◌, ◌*◌, ◌/◌, ◌%◌, ◌==◌, ◌&&◌, max, not, nat_lt, Bool, [], if◌then◌else◌}
use Rattle.sis_history.specs.Needs.{Need}
use Rattle.sis_table.specs.Changes.{maps, rewrites_end, touched_blocks}
use Rattle.sis_table.specs.declared.node.Node.{Node}
use Rattle.sis_volume.specs.View.{VolumeView, spare}

abbrev pub one_if : Bool → ℕ
one_if b = if b then 1 else 0

-- the calls of the commit that makes room, where fewer places are spare than blocks are needed
abbrev pub room_calls : Need → VolumeView → ℕ
room_calls need v = if nat_lt (spare v) need.blocks then 4 else 0

-- those of an operation that reads so many blocks: it writes each block that it needs
abbrev pub most_calls : Need → ℕ → VolumeView → ℕ
most_calls need reads v = need.blocks + reads + room_calls need v

-- ---- blocks that a change of a file reads

-- Old bytes stand before new ones in their first block, or behind them in their last one, and the
-- block is mapped.
abbrev pub stands_before : Node → ℕ → Bool
stands_before n at =
    not (at % 4096 == 0) && nat_lt (4096 * (at / 4096)) n.size && maps n (at / 4096)

abbrev pub stands_behind : Node → ℕ → Bool
stands_behind n end = not (end % 4096 == 0) && nat_lt end n.size && maps n (end / 4096)

-- the blocks of old bytes around so many new ones
abbrev pub reads_around : Node → ℕ → ℕ → ℕ
reads_around n at count = one_if (stands_before n at) + one_if (stands_behind n (at + count))

-- those of a new size: the block at the old end, where it is written anew
abbrev pub size_reads : Node → ℕ → ℕ
size_reads n len = one_if (rewrites_end n len [])

-- those of a write
abbrev pub write_reads : Node → ℕ → ℕ → ℕ
write_reads n at count =
    if count == 0 then 0
    else one_if (rewrites_end n (max n.size (at + count)) (touched_blocks at count))
    + reads_around n at count
