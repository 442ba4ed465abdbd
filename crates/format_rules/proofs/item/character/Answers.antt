use Rattle.std.proofs.Common.{sym, ◌∙◌}
use Rattle.format_rules.proofs.Numbers.{character_behind, counted_character}
use Rattle.format_rules.proofs.item.character.Goals as goal
use Rattle.format_rules.proofs.item.character.Goals.{else-is_empty-via-then-is_empty+else-is_empty-2, else-is_empty-via-else-is_empty}

pub returns-else-is_empty : goal.returns-else-is_empty
returns-else-is_empty c = elim c.else-is_empty.branch [
  | else-is_empty-via-then-is_empty+else-is_empty-2 w ↦
      sym (character_behind c.args.digits.now c.args.behind.now (sym c.is_empty.ensures ∙ w.if-is_empty.true) (sym w.is_empty-then-is_empty.ensures ∙ w.if-is_empty-2.false))
  | else-is_empty-via-else-is_empty w ↦ sym (counted_character c.args.digits.now c.args.behind.now c.requires (sym c.is_empty.ensures ∙ w.if-is_empty.false))
]
