use Rattle.std.proofs.Common.{ap}
use Rattle.rule_definitions.specs.Judgements.{first_of}
use Rattle.rule_definitions.specs.Units.{program_judged}
use Rattle.std.specs.Prelude.{None}
use Rattle.rule_laws.proofs.Firsts.{first_among, first_none}
use Rattle.rule_laws.proofs.breaks.law_first_break_is_a_break.Goals as goal

pub returns-clause-first : goal.returns-clause-first
returns-clause-first c p b e =
    let h = first_among (program_judged p).breaks b e in
    record { is_broken = h.0; is_first = λ r at k. h.1 (record { rule = r; at = at }) k }

pub returns-clause-none : goal.returns-clause-none
returns-clause-none c p = (first_none (program_judged p).breaks, λ e. ap (first_of None) e)
