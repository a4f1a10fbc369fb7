use Rattle.std.proofs.Common.{◌≡◌, ℕ, ◌*◌, List, arith}
use Rattle.std.specs.Prelude.{Result, Ok, Err, IfOk}
use Rattle.sis_disk.specs.declared.layout.Layout.{Layout}
use Rattle.sis_disk.specs.Layout.{IsLayout}
use Rattle.sis_disk.specs.Superblock.{ImageFault, superblock}
use Rattle.sis_journal.proofs.SuperblockLaws.{is_found}
use Rattle.sis_journal.proofs.superblock.read_superblock.Goals as goal

parts : (size : ℕ) (block : List ℕ) (r : Result Layout ImageFault) → IfOk r (λ l. (block ≡ superblock l) × IsLayout l × (size ≡ 4096 * l.total))
    → IfOk r (λ l. block ≡ superblock l) × IfOk r IsLayout × IfOk r (λ l. size ≡ 4096 * l.total)
parts size block (Ok l) h = h
parts size block (Err fault) h = (tt, tt, tt)

pub returns-clause-block : goal.returns-clause-block
returns-clause-block c =
    (parts c.args.size c.args.block.now _ (is_found c.args.size c.args.block.now c.read_fields.result (λ i. omega (arith, c.type_inv.block i)) c.requires c.read_fields.ensures.value)).0

pub returns-clause-layout : goal.returns-clause-layout
returns-clause-layout c =
    (parts c.args.size c.args.block.now _ (is_found c.args.size c.args.block.now c.read_fields.result (λ i. omega (arith, c.type_inv.block i)) c.requires c.read_fields.ensures.value)).1

pub returns-clause-size : goal.returns-clause-size
returns-clause-size c =
    (parts c.args.size c.args.block.now _ (is_found c.args.size c.args.block.now c.read_fields.result (λ i. omega (arith, c.type_inv.block i)) c.requires c.read_fields.ensures.value)).2
