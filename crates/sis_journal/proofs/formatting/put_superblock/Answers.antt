use Rattle.std.proofs.Common.{ℕ, List, ◌++◌, replicate, ap, ap₂, ◌∙◌}
use Rattle.byteorder.specs.Endian.{little_bytes}
use Rattle.sis_disk.specs.Superblock.{superblock, magic}
use Rattle.sis_journal.proofs.formatting.put_superblock.Goals as goal

pub returns-clause-items : goal.returns-clause-items
unfolding superblock
returns-clause-items c =
    c.put-2.ensures.items ∙ ap (λ (x : List ℕ). x ++ replicate 4056 0)
    (c.put_u64-3.ensures.items ∙ ap (λ (x : List ℕ). x ++ little_bytes 8 c.args.layout.now.log)
    (c.put_u64-2.ensures.items ∙ ap (λ (x : List ℕ). x ++ little_bytes 8 c.args.layout.now.area)
    (c.put_u64.ensures.items ∙ ap (λ (x : List ℕ). x ++ little_bytes 8 c.args.layout.now.total)
    (c.put_u32-2.ensures.items ∙ ap₂ (λ (x : List ℕ) (n : ℕ). x ++ little_bytes 4 n)
    (c.put_u32.ensures.items ∙ ap (λ (x : List ℕ). x ++ little_bytes 4 1)
    (c.put.ensures.items ∙ ap (λ (x : List ℕ). x ++ magic) c.requires.empty)) c.from.ensures))))
