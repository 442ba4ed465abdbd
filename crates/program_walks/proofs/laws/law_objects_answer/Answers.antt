use Rattle.program_walks.proofs.BoardAnswers.{board_answers, memory_answers}
use Rattle.program_walks.proofs.laws.law_objects_answer.Goals as goal

pub returns-clause-board : goal.returns-clause-board
returns-clause-board c = board_answers

pub returns-clause-memory : goal.returns-clause-memory
returns-clause-memory c = memory_answers
