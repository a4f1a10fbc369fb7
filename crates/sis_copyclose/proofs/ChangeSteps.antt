-- A change of a file, step by step until it is staged.
use Rattle.std.proofs.Common.{◌≡◌, ℕ, ◌+◌, ◌/◌, ◌<◌, ◌≤◌, List, length, None, Some, refl, sym, ap, ◌∙◌, subst, arith, length-append}
use Rattle.std.specs.List.{range_with_len}
use Rattle.sis_history.specs.Needs.{IsUnhindered, Need, resize_need}
use Rattle.sis_model.specs.declared.reply.Hindrance.{Hindrance}
use Rattle.sis_model.specs.declared.reply.Hindrance.TheVariants as hindrance
use Rattle.sis_model.specs.declared.reply.LimitKind.TheVariants as limit
use Rattle.sis_table.specs.Edits.{IfThere}
use Rattle.sis_table.specs.Volume.{VolumeTable, IsTable, greatest_number, node_with}
use Rattle.sis_table.specs.declared.node.Node.{Node}
use Rattle.sis_table.proofs.ChangesMaps.{length-range}
use Rattle.sis_table.proofs.ChangesNodes.{there_limits}
use Rattle.sis_volume.specs.View.{VolumeView}
use Rattle.sis_copyclose.specs.Calls.{reads_around}
use Rattle.sis_copyclose.specs.Changed.{IsWithResize}
use Rattle.sis_copyclose.specs.Inside.{AsksBlocks, GivesUp, IsPlan, NoTable, Readies, Works, blocks_alone, change_reads, resize_by}
use Rattle.sis_copyclose.specs.Reading.{HindersReading}
use Rattle.sis_copyclose.specs.declared.plan.Plan.{Plan}
use Rattle.sis_copyclose.proofs.ChangeTexts.{plan_blocks}
use Rattle.sis_copyclose.proofs.FileBytes.{there_has, there_is, there_map}
use Rattle.sis_copyclose.proofs.MakingRoom.{unhindered_by}
use Rattle.sis_copyclose.proofs.Needing.{resize_asks, version_met}
use Rattle.sis_copyclose.proofs.Operations.{gives_up_wider, limit_refused, memory_short, work_short}
use Rattle.sis_copyclose.proofs.Works.{readied_then, readied_wider, reading_wider}

-- so many blocks are mapped anew
pub plan_len : (n : Node) (size at count : ℕ) (p : Plan) → IsPlan n size at count p
    → length (resize_by n size at count).blocks ≡ p.ends + p.count
plan_len n size at count p is =
    sym (ap (λ (xs : List ℕ). length xs) (plan_blocks n size at count p is))
    ∙ length-append (range_with_len (p.old_size / 4096) p.ends) (range_with_len p.first p.count)
    ∙ omega (arith, length-range (p.old_size / 4096) p.ends, length-range p.first p.count)

abbrev pub need_of : Node → ℕ → ℕ → ℕ → Need
need_of n size at count = resize_need n (Some (resize_by n size at count))

abbrev pub most_of : Node → ℕ → ℕ → ℕ → ℕ
most_of n size at count = length (resize_by n size at count).blocks + change_reads n size at count

-- the room that was made for so many blocks
abbrev pub RoomFor : VolumeView → VolumeView → ℕ → Type 0
RoomFor old mid blocks = (need : Need) → need.blocks ≡ blocks → Readies need 0 old mid

-- what stands before the edits that map blocks
pub room_up : (old mid : VolumeView) (blocks : ℕ) → RoomFor old mid blocks → mid.down ≡ None
room_up old mid blocks room = (room (blocks_alone blocks) refl).up.down

pub room_table : (old mid : VolumeView) (blocks : ℕ) → RoomFor old mid blocks → mid.table ≡ old.table
room_table old mid blocks room = (room (blocks_alone blocks) refl).table

pub room_there : (old mid : VolumeView) (blocks file : ℕ) (P Q : Node → Type 0) → RoomFor old mid blocks
    → ((n : Node) → P n → Q n) → IfThere (node_with old.table file) P
    → IfThere (node_with mid.table file) Q
room_there old mid blocks file P Q room f there =
    subst (λ (v : VolumeTable). IfThere (node_with v file) Q) (sym (room_table old mid blocks room))
    (there_map (node_with old.table file) P Q (λ n is h. f n h) there)

pub later_same : (mid later : VolumeView) (file : ℕ) (most : Node → ℕ)
    → IfThere (node_with mid.table file) (λ n. Works (most n) mid later)
    → later ≡ record mid { seen = later.seen }
later_same mid later file most works = (there_is (node_with mid.table file) _ works).2.same

module _ (old : VolumeView) (file size at count : ℕ) (plan : Plan) (up : old.down ≡ None) (table : IsTable old.table)
    (planned : IfThere (node_with old.table file) (λ n. IsPlan n size at count plan)) where
  abbrev Short : VolumeView → Hindrance → Type 0
  Short new by =
      IfThere (node_with old.table file) (λ n. GivesUp (need_of n size at count)
      (IsWithResize old.table n (Some (resize_by n size at count))) (most_of n size at count) old new by)

  pub version_short : greatest_number ≤ plan.version → Short old (hindrance.Limit limit.Versions)
  version_short le =
      there_map (node_with old.table file) _ _ (λ n is p.
      let high = (there_limits old.table file n table is).version_high in
      limit_refused (need_of n size at count) (IsWithResize old.table n (Some (resize_by n size at count)))
      (most_of n size at count) old limit.Versions up
      (version_met old.table n (resize_by n size at count) table (omega (arith, p.version_is, high, le)))) planned

  pub asks : (n : Node) → plan.version < greatest_number → IsPlan n size at count plan
      → AsksBlocks old.table (need_of n size at count)
  asks n low p = resize_asks old.table n (resize_by n size at count) table (omega (arith, p.version_is, low))

  pub room_short : (mid : VolumeView) (by : Hindrance) → plan.version < greatest_number
      → ((need : Need) → need.blocks ≡ plan.ends + plan.count → AsksBlocks old.table need
      → GivesUp need NoTable 0 old mid by) → Short mid by
  room_short mid by low gives =
      there_map (node_with old.table file) _ _ (λ n is p.
      gives_up_wider (need_of n size at count) (IsWithResize old.table n (Some (resize_by n size at count)))
      0 (most_of n size at count) old mid by (omega arith)
      (gives (need_of n size at count) (plan_len n size at count plan p) (asks n low p))) planned

  module _ (mid later : VolumeView) (room : RoomFor old mid (plan.ends + plan.count))
      (texts : IfThere (node_with mid.table file) (λ n. Works (plan.ends + reads_around n at count) mid later)) where
    read_ready : (n : Node) → node_with old.table file ≡ Some n → IsPlan n size at count plan
        → Readies (need_of n size at count) (change_reads n size at count) old later
    read_ready n is p =
        let one = room (need_of n size at count) (plan_len n size at count plan p) in
        let works = there_has (node_with old.table file) n (λ m. Works (plan.ends + reads_around m at count) mid later) is
        (subst (λ (v : VolumeTable). IfThere (node_with v file) (λ m. Works (plan.ends + reads_around m at count) mid later)) one.table texts) in
        readied_then (need_of n size at count) 0 (plan.ends + reads_around n at count) (change_reads n size at count) old mid later
        (omega (arith, p.ends)) up one works

    pub memory_of : later.seen.faults ≡ old.seen.faults → Short later hindrance.Memory
    memory_of still =
        there_map (node_with old.table file) _ _ (λ n is p.
        memory_short (need_of n size at count) (IsWithResize old.table n (Some (resize_by n size at count)))
        (most_of n size at count) old later
        (readied_wider (need_of n size at count) (change_reads n size at count) (most_of n size at
        count)
        old later (omega arith) (read_ready n is p)) still) planned

    pub text_short : (by : Hindrance) → plan.version < greatest_number
        → IsUnhindered old.table (blocks_alone (plan.ends + plan.count))
        → mid.seen.faults ≡ old.seen.faults
        → IfThere (node_with mid.table file)
        (λ n. HindersReading (plan.ends + reads_around n at count) mid.seen later.seen by)
        → Short later by
    text_short by low fits still cause =
        there_map (node_with old.table file) _ _ (λ n is p.
        let one = room (need_of n size at count) (plan_len n size at count plan p) in
        work_short (need_of n size at count) (IsWithResize old.table n (Some (resize_by n size at count)))
        (most_of n size at count) old later
        (readied_wider (need_of n size at count) (change_reads n size at count) (most_of n size at count) old later (omega arith) (read_ready n is p)) by
        (unhindered_by old.table (need_of n size at count) (plan.ends + plan.count) (asks n low p) (plan_len n size at count plan p) fits)
        (reading_wider (plan.ends + reads_around n at count) (most_of n size at count)
        old.seen mid.seen later.seen by (omega (arith, p.ends)) still
        (there_has (node_with old.table file) n
        (λ m. HindersReading (plan.ends + reads_around m at count) mid.seen later.seen by) is
        (subst (λ (v : VolumeTable). IfThere (node_with v file)
        (λ m. HindersReading (plan.ends + reads_around m at count) mid.seen later.seen by))
        one.table cause)))) planned

    pub change_ready : (new : VolumeView) → Works (plan.ends + plan.count) later new
        → IfThere (node_with old.table file) (λ n. Readies (need_of n size at count) (most_of n size at count) old new)
    change_ready new works =
        there_map (node_with old.table file) _ _ (λ n is p.
        readied_then (need_of n size at count) (change_reads n size at count) (plan.ends + plan.count) (most_of n size at count) old later new
        (omega (arith, plan_len n size at count plan p)) up (read_ready n is p) works) planned

    pub stage_short : (new : VolumeView) (by : Hindrance) → Works (plan.ends + plan.count) later new
        → plan.version < greatest_number
        → IsUnhindered old.table (blocks_alone (plan.ends + plan.count))
        → later.seen.faults ≡ old.seen.faults
        → HindersReading (plan.ends + plan.count) later.seen new.seen by → Short new by
    stage_short new by works low fits still cause =
        there_map (node_with old.table file) _ _ (λ n is p.
        let ready = readied_then (need_of n size at count) (change_reads n size at count) (plan.ends + plan.count) (most_of n size at count) old later new
        (omega (arith, plan_len n size at count plan p)) up (read_ready n is p) works in
        work_short (need_of n size at count) (IsWithResize old.table n (Some (resize_by n size at count)))
        (most_of n size at count) old new ready by
        (unhindered_by old.table (need_of n size at count) (plan.ends + plan.count) (asks n low p) (plan_len n size at count plan p) fits)
        (reading_wider (plan.ends + plan.count) (most_of n size at count)
        old.seen later.seen new.seen by (omega (arith, plan_len n size at count plan p)) still
        cause)) planned
