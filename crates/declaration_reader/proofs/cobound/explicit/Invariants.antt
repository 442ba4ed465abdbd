use Rattle.std.proofs.Common.{◌≡◌, map}
use Rattle.fortran_tree.specs.DeclarationViews.{bounds, maybe_expression}
use Rattle.statement_reader.specs.Dimensions.{cobounds_of, last_lower}
use Rattle.declaration_reader.specs.Views.{bound_of}
use Rattle.declaration_reader.proofs.cobound.explicit.Given as goal

abbrev pub invariant-loop-bound : goal.invariant-loop-bound
invariant-loop-bound l =
    (map bounds l.cobounds.items ≡ cobounds_of (map bound_of l.yielded))
    × (maybe_expression l.last_lower ≡ last_lower (map bound_of l.yielded))
