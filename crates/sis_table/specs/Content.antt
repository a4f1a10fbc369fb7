-- For which files a table and the bytes of an image stand.
use Rattle.std.specs.Prelude.{◌≡◌, ℕ, ◌+◌, ◌*◌, List, take, map, flat_map, replicate, slice_range, Option, None, Some}
use Rattle.std.specs.List.{range_with_len}
use Rattle.std.specs.Option.{option_map}
use Rattle.std.specs.FinMap.{from_entries, get}
use Rattle.sis_disk.specs.Record.{Seen, live_of}
use Rattle.sis_name.specs.Files.{Files}
use Rattle.sis_ranges.specs.declared.run.Run.{Run}
use Rattle.sis_table.specs.declared.node.Node.{Node}
use Rattle.sis_table.specs.declared.kind.NodeKind.{NodeKind}
use Rattle.sis_table.specs.declared.kind.NodeKind.TheVariants.{Plain}
use Rattle.sis_table.specs.Volume.{VolumeTable, blocks_of, user_nodes}

-- the block at a place of the image
abbrev pub block_at : List ℕ → ℕ → List ℕ
block_at live place = slice_range live (4096 * place) (4096 * place + 4096)

-- the blocks of a run
abbrev pub run_bytes : List ℕ → Run → List ℕ
run_bytes live r = slice_range live (4096 * r.place) (4096 * (r.place + r.count))

-- a block that lies nowhere has zeros
abbrev pub mapped_block : List ℕ → Option ℕ → List ℕ
mapped_block live None = replicate 4096 0
mapped_block live (Some place) = block_at live place

-- the bytes of a file's own blocks, in order, cut at its size
abbrev pub own_content : List ℕ → Node → List ℕ
own_content live n =
    take n.size (flat_map (λ block. mapped_block live (get n.map block))
    (range_with_len 0 (blocks_of n.size)))

-- a file's bytes: a plain file has its own alone
abbrev pub content_by : NodeKind → VolumeTable → List ℕ → Node → List ℕ
content_by Plain v live n = own_content live n

abbrev pub content_of : VolumeTable → List ℕ → Node → List ℕ
content_of v live n = content_by n.kind v live n

-- the users' files under their names
abbrev pub files_of : VolumeTable → List ℕ → Files
files_of v live = from_entries (map (λ n. (n.name, content_of v live n)) (user_nodes v))

-- the table and these bytes of an image stand for these files
abbrev pub StandsFor : VolumeTable → List ℕ → Files → Type 0
StandsFor v live files = files ≡ files_of v live

-- the files, where a disk tells its bytes
abbrev pub files_in : VolumeTable → Seen → Option Files
files_in v seen = option_map (files_of v) (live_of seen)
