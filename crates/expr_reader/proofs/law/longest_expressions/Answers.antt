use Rattle.std.proofs.Common.{◌-◌, refl, arith}
use Rattle.fortran_grammar.specs.Tokens as t
use Rattle.expr_reader.specs.Laws.{Expressions_at}
use Rattle.expr_reader.specs.Openings.{goes}
use Rattle.expr_reader.specs.Full.{full}
use Rattle.expr_reader.specs.Tests.{nowhere}
use Rattle.reader_theory.proofs.Whole.{one_reading}
use Rattle.expr_reader.proofs.Firmly.{firm_full}
use Rattle.expr_reader.proofs.Greedy.{longest, one_longest}
use Rattle.expr_reader.proofs.Whole.{exact_full}
use Rattle.expr_reader.proofs.law.longest_expressions.Goals as goal

pub returns-clause-answered : goal.returns-clause-answered
returns-clause-answered c = λ limit left level e. longest (Expressions_at limit level) (goes 0) (full left).expression (exact_full limit left level e) (firm_full left) (record { tok = t.over; at = nowhere }) refl

pub returns-clause-once : goal.returns-clause-once
returns-clause-once c = λ limit level l. one_longest (Expressions_at limit level) (one_reading (Expressions_at limit level) (goes 0) (full (limit - level)).expression (exact_full limit (limit - level) level (omega arith)))
