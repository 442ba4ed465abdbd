use Rattle.std.proofs.Common.{◌-◌, arith}
use Rattle.expr_reader.specs.Laws.{Expressions_at}
use Rattle.expr_reader.specs.Openings.{goes}
use Rattle.expr_reader.specs.Full.{full}
use Rattle.reader_theory.proofs.Whole.{exact_whole, one_reading}
use Rattle.expr_reader.proofs.Whole.{exact_full}
use Rattle.expr_reader.proofs.law.expressions_exactly.Goals as goal

pub returns-clause-answered : goal.returns-clause-answered
returns-clause-answered c = λ limit left level e. exact_whole (Expressions_at limit level) (goes 0) (full left).expression (exact_full limit left level e)

pub returns-clause-once : goal.returns-clause-once
returns-clause-once c = λ limit level l. one_reading (Expressions_at limit level) (goes 0) (full (limit - level)).expression (exact_full limit (limit - level) level (omega arith))
