use Rattle.reader_theory.specs.Exactness.{never}
use Rattle.reader_theory.proofs.Whole.{exact_whole, one_reading}
use Rattle.statement_reader.specs.Laws.{Part_at}
use Rattle.statement_reader.specs.Forms.{part_reader}
use Rattle.statement_reader.proofs.Places.{exact_part}
use Rattle.statement_reader.proofs.law.parts_exactly.Goals as goal

pub returns-clause-answered : goal.returns-clause-answered
returns-clause-answered c = λ limit i. exact_whole (Part_at limit i) never (part_reader limit i) (exact_part limit i)

pub returns-clause-once : goal.returns-clause-once
returns-clause-once c = λ limit i. one_reading (Part_at limit i) never (part_reader limit i) (exact_part limit i)
