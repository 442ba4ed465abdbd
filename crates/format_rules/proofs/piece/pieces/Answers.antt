use Rattle.std.proofs.Common.{rules, ◌++◌, ◌∷◌, [], ap, sym, ◌∙◌, ℕ}
use Rattle.rule_definitions.specs.Formats as reading
use Rattle.format_rules.specs.declared.piece.Piece.TheVariants.{Sign}
use Rattle.format_rules.proofs.Reading.{quote_turn, sign_turn, blank_turn}
use Rattle.format_rules.proofs.piece.pieces.Goals as goal

pub loop-first-preserved-then-is_quote : goal.loop-first-preserved-then-is_quote
loop-first-preserved-then-is_quote c =
    quote_turn c.loop-first.left.now c.in-Some.rest.now c.in-Some.first.now c.loop-first.pieces.items c.push.new.self.items (reading.pieces reading.outside c.args.text.now)
    c.in-Some-2.characters c.in-Some-2.behind.now (search rules) (sym c.is_quote.ensures ∙ c.if-is_quote.true)
    (first_of (search rules, cc c.in_ok-characters.ensures.read)) c.in_ok-push.ensures.items c.loop-first.invariant

pub loop-first-preserved-in-Continue-branch-4 : goal.loop-first-preserved-in-Continue-branch-4
loop-first-preserved-in-Continue-branch-4 c =
    sign_turn c.loop-first.left.now c.in-Some.rest.now c.in-Some.first.now c.loop-first.pieces.items c.push-then-not-is_blank.new.self.items (reading.pieces reading.outside c.args.text.now)
    (search rules) (sym c.is_quote.ensures ∙ c.if-is_quote.false) (sym c.is_blank.ensures ∙ c.if-not-is_blank.true)
    (c.in_ok-push-2.ensures.items ∙ ap (λ (k : ℕ). c.loop-first.pieces.items ++ Sign k ∷ []) c.lower.ensures) c.loop-first.invariant

pub loop-first-preserved : goal.loop-first-preserved
loop-first-preserved c =
    blank_turn c.loop-first.left.now c.in-Some.rest.now c.in-Some.first.now c.loop-first.pieces.items c.loop-first.pieces.items (reading.pieces reading.outside c.args.text.now)
    (search rules) (sym c.is_blank.ensures ∙ c.if-not-is_blank.false) c.loop-first.invariant
