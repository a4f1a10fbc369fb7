use Rattle.std.proofs.Common.{ap, ◌∙◌}
use Rattle.std.proofs.lemmas.Result.{IfOk-weaker}
use Rattle.sis_disk.specs.Memory.{MemoryView, seen_of}
use Rattle.sis_view.proofs.tests.disk_of.Goals as goal

pub returns : goal.returns
returns c = IfOk-weaker c.new.result _ _
    (λ disk is. ap (λ (d : MemoryView). (seen_of d).size) is ∙ c.in_ok-bytes.ensures)
    c.new.ensures
