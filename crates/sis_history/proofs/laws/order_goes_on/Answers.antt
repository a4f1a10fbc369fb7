use Rattle.sis_history.proofs.CountLemmas.{in_order_push, within_push, within_later}
use Rattle.sis_history.proofs.laws.order_goes_on.Goals as goal

pub returns-clause-order : goal.returns-clause-order
returns-clause-order c = in_order_push

pub returns-clause-within : goal.returns-clause-within
returns-clause-within c = within_push

pub returns-clause-later : goal.returns-clause-later
returns-clause-later c = within_later
