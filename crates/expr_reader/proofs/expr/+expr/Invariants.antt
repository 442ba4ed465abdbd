use Rattle.std.proofs.Common.{◌≡◌, ◌+◌, ◌-◌, ◌*◌, ◌≤◌}
use Rattle.reader_theory.specs.Readers.{joined, many}
use Rattle.fortran_tokens.specs.declared.token.Sign.TheVariants as sign
use Rattle.fortran_tree.specs.ExpressionViews.{expression}
use Rattle.expr_reader.specs.Full.{full}
use Rattle.expr_reader.specs.Openings.{binds}
use Rattle.expr_reader.specs.PieceViews.{pieces_of, expression_list, grown, grown_list, further, piece_by, mode_after}
use Rattle.expr_reader.specs.Reading.{folded, item, operand_of}
use Rattle.expr_reader.specs.Tests.{is_sign, followed_by}
use Rattle.expr_reader.specs.Words.{tokens_of}
use Rattle.expr_reader.proofs.Loops.{operators}
use Rattle.expr_reader.proofs.Repeats.{items}
use Rattle.expr_reader.proofs.expr.+expr.Given as goal

-- A level has a reader for each strength with a loop for each chain, and those of primaries; within brackets are those
-- of the next level.
abbrev pub decreases-expression : goal.decreases-expression
decreases-expression l = l.left * 200 + 89

abbrev pub decreases-chain : goal.decreases-chain
decreases-chain l = l.left * 200 + ((8 - l.strong) * 10 + 15)

abbrev pub decreases-operand : goal.decreases-operand
decreases-operand l = l.left * 200 + ((8 - l.strong) * 10 + 10)

abbrev pub decreases-operators : goal.decreases-operators
decreases-operators l = l.left * 200 + ((8 - l.strong) * 10 + 11)

abbrev pub decreases-negation : goal.decreases-negation
decreases-negation l = l.left * 200 + 59

abbrev pub decreases-relation : goal.decreases-relation
decreases-relation l = l.left * 200 + 49

abbrev pub decreases-sum : goal.decreases-sum
decreases-sum l = l.left * 200 + 39

abbrev pub decreases-signed : goal.decreases-signed
decreases-signed l = l.left * 200 + 35

abbrev pub decreases-power : goal.decreases-power
decreases-power l = l.left * 200 + 19

abbrev pub decreases-primary : goal.decreases-primary
decreases-primary l = l.left * 200 + 9

abbrev pub decreases-group : goal.decreases-group
decreases-group l = l.left * 200 + 7

abbrev pub decreases-constructor : goal.decreases-constructor
decreases-constructor l = l.left * 200 + 7

abbrev pub decreases-named : goal.decreases-named
decreases-named l = l.left * 200 + 8

abbrev pub decreases-brackets : goal.decreases-brackets
decreases-brackets l = l.left * 200 + 7

abbrev pub decreases-selector : goal.decreases-selector
decreases-selector l = l.left * 200 + 7

abbrev pub decreases-more_expressions : goal.decreases-more_expressions
decreases-more_expressions l = l.left * 200 + 90

abbrev pub decreases-expressions : goal.decreases-expressions
decreases-expressions l = l.left * 200 + 91

abbrev pub decreases-maybe_expression : goal.decreases-maybe_expression
decreases-maybe_expression l = l.left * 200 + 90

abbrev pub decreases-specifier : goal.decreases-specifier
decreases-specifier l = l.left * 200 + 90

abbrev pub decreases-bounds : goal.decreases-bounds
decreases-bounds l = l.left * 200 + 91

abbrev pub decreases-subscript : goal.decreases-subscript
decreases-subscript l = l.left * 200 + 92

abbrev pub decreases-piece : goal.decreases-piece
decreases-piece l = l.left * 200 + 93

abbrev pub decreases-more_pieces : goal.decreases-more_pieces
decreases-more_pieces l = l.left * 200 + 94

abbrev pub decreases-choices : goal.decreases-choices
decreases-choices l = l.left * 200 + 96

abbrev pub decreases-pieces : goal.decreases-pieces
decreases-pieces l = l.left * 200 + 95

abbrev pub decreases-more_choices : goal.decreases-more_choices
decreases-more_choices l = l.left * 200 + 95

abbrev pub invariant-operators-loop-turn : goal.invariant-operators-loop-turn
invariant-operators-loop-turn l =
    (l._turn ≤ l._turn-end)
    × (joined folded (expression l.all) (operators l.fn.strong (operand_of l.fn.strong (full l.fn.left)) (l._turn-end - l._turn) (tokens_of l.rest))
    ≡ joined folded (expression l.fn.first) (many (binds l.fn.strong) (item l.fn.strong (operand_of l.fn.strong (full l.fn.left))) (tokens_of l.fn.words)))

abbrev pub invariant-more_expressions-loop-turn : goal.invariant-more_expressions-loop-turn
invariant-more_expressions-loop-turn l =
    (l._turn ≤ l._turn-end)
    × (joined grown_list (expression_list l.all.items) (items {S = Unit {0}} (is_sign sign.Comma) (λ s. (full l.fn.left).expression) (λ s a. s) (l._turn-end - l._turn) tt (tokens_of l.rest))
    ≡ joined grown_list (expression_list l.fn.first.items) (followed_by (full l.fn.left).expression (tokens_of l.fn.words)))

abbrev pub invariant-more_pieces-loop-turn : goal.invariant-more_pieces-loop-turn
invariant-more_pieces-loop-turn l =
    (l._turn ≤ l._turn-end)
    × (joined grown (pieces_of l.all.items) (items (is_sign sign.Comma) (λ m. piece_by m (full l.fn.left).expression) mode_after (l._turn-end - l._turn) l.mode (tokens_of l.rest))
    ≡ joined grown (pieces_of l.fn.first.items) (further l.fn.mode (full l.fn.left).expression (tokens_of l.fn.words)))
