use Rattle.sis_table.proofs.ChangesPieces.{piece-mapped, piece-unmapped}
use Rattle.sis_table.proofs.laws.piece_has_bytes.Goals as goal

pub returns-clause-mapped : goal.returns-clause-mapped
returns-clause-mapped c = piece-mapped

pub returns-clause-unmapped : goal.returns-clause-unmapped
returns-clause-unmapped c = piece-unmapped
