use Rattle.std.proofs.Common.{◌≡◌, ◌+◌, length, ap, ◌∙◌, arith}
use Rattle.std.specs.Int.{next_multiple_of}
use Rattle.sis_disk.specs.Areas.{area_bytes}
use Rattle.sis_disk.proofs.Areas.{length-area_bytes}
use Rattle.sis_journal.proofs.NewImages.{spelled}
use Rattle.sis_journal.proofs.formatting.spell_image.Goals as goal

pub returns : goal.returns
returns g c =
    let text = g.K.Kept.text c.args.value.now in
    let len = length-area_bytes text in
    let area : c.next_multiple_of-area_len.result ≡ next_multiple_of (length (area_bytes text)) 4096 = c.next_multiple_of-area_len.ensures.value ∙ ap (λ n. next_multiple_of n 4096) (omega arith) in
    record {
      bytes = spelled c.args.layout.now text c.put_superblock.new.out.items c.put.new.out.items c.put_area.new.out.items c.resize.new.self.items c.put_area.new.out.len (8192 + c.next_multiple_of-area_len.result)
          c.put_superblock.ensures.items c.put.ensures.items c.put_area.ensures.text c.in_ok-resize.ensures.items (omega arith) (omega arith);
    }
