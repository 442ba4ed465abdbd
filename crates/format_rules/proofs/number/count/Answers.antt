use Rattle.std.proofs.Common.{rules, sym, ◌∙◌}
use Rattle.format_rules.proofs.Numbers.{long_list}
use Rattle.format_rules.proofs.number.count.Goals as goal

pub returns-then-not-is_empty : goal.returns-then-not-is_empty
returns-then-not-is_empty c =
    sym (long_list c.args.pieces.now c.in_ok-first.behind.now c.in-Some.rest.now c.in_ok-first.first.now c.in-Some.second.now c.in_ok-tens.tens c.in_ok-ones.ones
    (search rules) (search rules) (sym c.in_ok-tens.ensures.value) (sym c.in_ok-ones.ensures.value) (sym c.is_empty.ensures ∙ c.if-not-is_empty.true))
