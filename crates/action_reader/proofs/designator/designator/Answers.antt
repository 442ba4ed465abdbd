use Rattle.std.proofs.Common.{rules, ◌≡◌, ap, sym, ◌∙◌}
use Rattle.std.proofs.lemmas.Grind.{common_steps}
use Rattle.std.proofs.Common.{arith}
use Rattle.reader_theory.specs.Words.{found}
use Rattle.reader_theory.specs.Readers.{joined, optional, then_by}
use Rattle.fortran_tree.specs.ExpressionViews.{designator}
use Rattle.expr_reader.specs.Designators.{designator_of}
use Rattle.expr_reader.specs.Full.{is_square}
use Rattle.expr_reader.specs.Levels.{selector_at}
use Rattle.expr_reader.specs.PieceViews.{held_chosen, held_pieces}
use Rattle.expr_reader.specs.Words.{tokens_of}
use Rattle.expr_reader.specs.Selectors.{choices}
use Rattle.statement_reader.specs.Families.{an_expression, squared}
use Rattle.action_reader.specs.Pieces as pieces
use Rattle.action_reader.proofs.Modes.{selector_is}
use Rattle.action_reader.proofs.designator.designator.Goals as goal

pub returns-in_ok-made-in-Ok : goal.returns-in_ok-made-in-Ok
returns-in_ok-made-in-Ok c =
    let part : pieces.part c.args.left (tokens_of c.args.words.now) ≡ found (c.in_ok-part.part.0, held_pieces c.in_ok-part.part.1) (tokens_of c.in_ok-part.rest.now) = search rules in
    let selector : optional is_square (selector_at c.args.left) (tokens_of c.in_ok-part.rest.now) ≡ found (held_chosen c.in-Ok.selector) (tokens_of c.in-Ok.rest.now) = search rules in
    let made : designator c.in_ok-made-in-Ok.field-0 ≡ designator_of (c.in_ok-part.part.0, held_pieces c.in_ok-part.part.1) (held_chosen c.in-Ok.selector) = search rules in
    ap (then_by designator_of (λ _. optional is_square (squared (λ l. choices (an_expression l)) c.args.left))) part
    ∙ (ap (joined designator_of (c.in_ok-part.part.0, held_pieces c.in_ok-part.part.1)) (selector_is c.args.left (tokens_of c.in_ok-part.rest.now) ∙ selector)
    ∙ ap (λ d. found d (tokens_of c.in-Ok.rest.now)) (sym made))
