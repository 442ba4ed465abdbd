use Rattle.std.proofs.Common.{◌≡◌, ◌∷◌, map}
use Rattle.fortran_tree.specs.ExpressionViews.{specifiers}
use Rattle.statement_reader.specs.Objects.{objects_of, specifiers_of}
use Rattle.keyword_reader.specs.Views.{choice_of}
use Rattle.keyword_reader.proofs.object.parted.Given as goal

abbrev pub invariant-loop-choice : goal.invariant-loop-choice
invariant-loop-choice g l =
    (map g.R.Reads.look l.objects.items ≡ g.R.Reads.look l.fn.first ∷ objects_of (map (choice_of g.R.Reads.look) l.yielded))
    × (specifiers l.specifiers.items ≡ specifiers_of (map (choice_of g.R.Reads.look) l.yielded))
