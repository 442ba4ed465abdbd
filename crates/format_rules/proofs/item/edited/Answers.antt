use Rattle.std.proofs.Common.{rules, ap, sym, ◌∙◌, ℕ, List, take, drop, map}
use Rattle.rule_definitions.specs.Formats.{counted}
use Rattle.format_rules.specs.declared.piece.Piece.{Piece}
use Rattle.format_rules.specs.Views.{seen}
use Rattle.format_rules.proofs.Cuts.{digits_whole, edited_sign}
use Rattle.format_rules.proofs.item.edited.Goals as goal

pub lettered-requires : goal.lettered-requires
lettered-requires c =
    ap (λ (l : List Piece). (counted (map seen l)).rest) (c.split_at.ensures.front ∙ ap (λ (n : ℕ). take n c.args.item.now) c.digits_len.ensures.value)
    ∙ digits_whole c.args.item.now

pub returns-in-Sign : goal.returns-in-Sign
returns-in-Sign c =
    c.lettered.ensures
    ∙ sym (edited_sign c.args.item.now c.split_at.result.0.now c.split_at.result.1.now c.in_ok-first.behind.now c.in-Sign.letter
    (c.split_at.ensures.front ∙ ap (λ (n : ℕ). take n c.args.item.now) c.digits_len.ensures.value)
    (c.split_at.ensures.back ∙ ap (λ (n : ℕ). drop n c.args.item.now) c.digits_len.ensures.value)
    (search rules))
