use Rattle.std.proofs.Common.{◌≡◌, ℕ, ap, ◌∙◌, arith}
use Rattle.byteorder.specs.Endian.{little_bytes, little_number}
use Rattle.sis_journal.proofs.Readings.{spelled_again}
use Rattle.sis_journal.proofs.opening.number_of.Goals as goal

pub returns-clause-spelled : goal.returns-clause-spelled
returns-clause-spelled c =
    let number : c.read_u64.result ≡ little_number 8 c.args.bytes.now = c.read_u64.ensures in
    ap (λ (n : ℕ). little_bytes 8 n) number
    ∙ spelled_again c.args.bytes.now (λ i. omega (arith, c.type_inv.bytes i)) (omega arith) (omega arith)
