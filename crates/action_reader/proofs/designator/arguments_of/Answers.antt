use Rattle.std.proofs.Common.{rules, ◌≡◌, [], ◌∷◌, ◌++◌, Some, None, ap, sym, ◌∙◌, append-nil}
use Rattle.fortran_tree.specs.ExpressionViews.{arguments}
use Rattle.expr_reader.specs.PieceViews.{option_items}
use Rattle.expr_reader.proofs.PieceLists.{arguments_pushed}
use Rattle.action_reader.proofs.designator.arguments_of.Goals as goal

pub loop-piece-preserved-in-Continue-1 : goal.loop-piece-preserved-in-Continue-1
loop-piece-preserved-in-Continue-1 c =
    let grown : c.push.new.self.items ≡ c.loop-piece.out.items ++ c.in-Some-argument.argument ∷ [] = search rules in
    let some : c.argument.result ≡ Some c.in-Some-argument.argument = search rules in
    ap arguments grown
    ∙ (ap (λ o. arguments (c.loop-piece.out.items ++ option_items o)) (sym some)
    ∙ arguments_pushed c.loop-piece.out.items c.loop-piece.yielded c.argument.result c.in-Some.piece c.loop-piece.invariant c.argument.ensures)

pub loop-piece-preserved : goal.loop-piece-preserved
loop-piece-preserved c =
    let none : c.argument.result ≡ None = search rules in
    ap arguments (sym (append-nil c.loop-piece.out.items))
    ∙ (ap (λ o. arguments (c.loop-piece.out.items ++ option_items o)) (sym none)
    ∙ arguments_pushed c.loop-piece.out.items c.loop-piece.yielded c.argument.result c.in-Some.piece c.loop-piece.invariant c.argument.ensures)
