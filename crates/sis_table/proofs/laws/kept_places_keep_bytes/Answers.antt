use Rattle.sis_table.proofs.ChangesContent.{content_of-kept}
use Rattle.sis_table.proofs.laws.kept_places_keep_bytes.Goals as goal

pub returns : goal.returns
returns c = content_of-kept
