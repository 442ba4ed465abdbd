-- One cobound more, in memory.
use Rattle.std.proofs.Common.{◌≡◌, List, [], ◌∷◌, ◌++◌, map, Option, ap, sym, ◌∙◌}
use Rattle.fortran_tree.specs.declared.declaration.Bounds.{Bounds}
use Rattle.fortran_tree.specs.declared.expr.Expr.{Expr}
use Rattle.fortran_tree.specs.DeclarationViews.{bounds, maybe_expression}
use Rattle.expr_reader.specs.PieceViews.{option_items}
use Rattle.statement_reader.specs.Dimensions.{cobounds_of, last_lower}
use Rattle.action_reader.proofs.Turns.{map_append}
use Rattle.declaration_reader.specs.declared.cobound.Cobound.{Cobound}
use Rattle.declaration_reader.specs.Pieces.{paired}
use Rattle.declaration_reader.specs.Views.{bound_of}
use Rattle.declaration_reader.proofs.Declared.{cobounds_pushed, lower_pushed}

-- the bounds so far, and the lower cobound that is left, are those of these cobounds
abbrev pub Made : List Bounds → Option Expr → List Cobound → Type 0
Made out lower done = (map bounds out ≡ cobounds_of (map bound_of done)) × (maybe_expression lower ≡ last_lower (map bound_of done))

pub made_next : (out more : List Bounds) (lower next : Option Expr) (done : List Cobound) (b : Cobound) (o : Option Bounds) → Made out lower done → (map bounds (option_items o), maybe_expression next) ≡ paired (maybe_expression lower) (bound_of b) → more ≡ out ++ option_items o → Made more next (done ++ b ∷ [])
made_next out more lower next done b o made e grown =
    let ds : map bound_of (done ++ b ∷ []) ≡ map bound_of done ++ bound_of b ∷ [] = map_append bound_of done (b ∷ []) in (
      ap (map bounds) grown
          ∙ (map_append bounds out (option_items o)
          ∙ (ap (λ z. z ++ map bounds (option_items o)) made.0
          ∙ (ap (λ z. cobounds_of (map bound_of done) ++ z) (ap (λ z. z.0) e ∙ ap (λ l. (paired l (bound_of b)).0) made.1)
          ∙ (sym (cobounds_pushed (map bound_of done) (bound_of b)) ∙ ap cobounds_of (sym ds))))),
      ap (λ z. z.1) e ∙ (ap (λ l. (paired l (bound_of b)).1) made.1 ∙ (sym (lower_pushed (map bound_of done) (bound_of b)) ∙ ap last_lower (sym ds))),
    )
