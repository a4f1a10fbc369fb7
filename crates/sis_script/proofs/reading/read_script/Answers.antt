use Rattle.sis_script.proofs.ReadLemmas.{too_long}
use Rattle.sis_script.proofs.reading.read_script.Goals as goal

-- more bytes than a script may have
pub returns-in-Err-TooLong-clause-some : goal.returns-in-Err-TooLong-clause-some
returns-in-Err-TooLong-clause-some g c = too_long
