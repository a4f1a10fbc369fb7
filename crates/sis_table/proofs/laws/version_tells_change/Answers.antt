use Rattle.sis_table.proofs.ChangesLaws.{resize_versions}
use Rattle.sis_table.proofs.laws.version_tells_change.Goals as goal

pub returns : goal.returns
returns c = resize_versions
