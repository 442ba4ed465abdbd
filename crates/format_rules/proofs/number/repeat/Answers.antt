use Rattle.std.proofs.Common.{sym, ◌∙◌}
use Rattle.format_rules.proofs.Numbers.{repeat_list}
use Rattle.format_rules.proofs.number.repeat.Goals as goal

pub returns : goal.returns
returns c = c.count.ensures ∙ sym (repeat_list c.args.pieces.now (sym c.is_empty.ensures ∙ c.if-is_empty.false))
