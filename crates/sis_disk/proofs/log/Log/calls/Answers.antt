use Rattle.std.proofs.Common.{◌≡◌, ◌∙◌, sym, ap, length, arith}
use Rattle.std.proofs.lemmas.Grind.{common_steps}
use Rattle.sis_disk.specs.Memory.{MemoryView}
use Rattle.sis_disk.specs.Notes.{length-calls_of}
use Rattle.sis_disk.proofs.log.Log.calls.Goals as goal

pub returns : goal.returns
returns c =
    let same : length c.args.self.now.told.calls ≡ length c.self.inside.notes.items = sym (ap (λ (v : MemoryView). length v.told.calls) c.self.view_is) ∙ length-calls_of c.self.inside.notes.items c.self.inside.row.items in
    grind (arith, common_steps)
