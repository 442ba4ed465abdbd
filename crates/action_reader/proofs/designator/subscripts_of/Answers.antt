use Rattle.std.proofs.Common.{rules, ◌≡◌, [], ◌∷◌, ◌++◌, ap, ◌∙◌}
use Rattle.fortran_tree.specs.ExpressionViews.{section_subscripts}
use Rattle.expr_reader.proofs.PieceLists.{subscripts_pushed}
use Rattle.action_reader.proofs.designator.subscripts_of.Goals as goal

pub loop-piece-preserved : goal.loop-piece-preserved
loop-piece-preserved c =
    let grown : c.push.new.self.items ≡ c.loop-piece.out.items ++ c.subscript.result ∷ [] = search rules in
    ap section_subscripts grown ∙ subscripts_pushed c.loop-piece.out.items c.loop-piece.yielded c.subscript.result c.in-Some.piece c.loop-piece.invariant c.subscript.ensures
