use Rattle.sis_history.proofs.AnswerLemmas.{answered_legal, answered_order, answered_within, answered_world, committed_answer, survives_answer}
use Rattle.sis_history.proofs.answers.late_answer_changes_nothing_else.Goals as goal

pub returns-clause-legal : goal.returns-clause-legal
returns-clause-legal c w entries client calls = answered_legal client calls w entries

pub returns-clause-world : goal.returns-clause-world
returns-clause-world c w entries client calls = answered_world client calls w entries

pub returns-clause-order : goal.returns-clause-order
returns-clause-order c entries client calls = answered_order client calls entries

pub returns-clause-within : goal.returns-clause-within
returns-clause-within c n entries client calls = answered_within client calls n entries

pub returns-clause-stops : goal.returns-clause-stops
returns-clause-stops c = survives_answer

pub returns-clause-committed : goal.returns-clause-committed
returns-clause-committed c = committed_answer
