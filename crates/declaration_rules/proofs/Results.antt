-- A turn of the loop over the dummy arguments of a procedure.
use Rattle.std.proofs.Common.{◌≡◌, ◌∙◌, List, ◌∷◌, sym, ap}
use Rattle.std.specs.Prelude.{Option}
use Rattle.fortran_tree.specs.declared.name.Name.{Name}
use Rattle.rule_definitions.specs.declared.broken.Broken.{Broken}
use Rattle.rule_definitions.specs.Judgements.{first_of}
use Rattle.rule_definitions.specs.Names.{Scope}
use Rattle.rule_definitions.specs.Declarations.{Unit'}
use Rattle.rule_definitions.specs.Units.{with_dummy, with_dummies}
use Rattle.scope_table.proofs.First.{first_of_both}

pub dummies_first : (u : Unit') (x : Name) (rest all : List Name) (s t : Scope) (f g end : Option Broken) → all ≡ x ∷ rest → g ≡ first_of f (with_dummy u s x).breaks → (with_dummy u s x).scope ≡ t
    → first_of f (with_dummies u all s).breaks ≡ end → first_of g (with_dummies u rest t).breaks ≡ end
dummies_first u x rest all s t f g end d e o h =
    ap (λ k. first_of k (with_dummies u rest t).breaks) e
    ∙ ap (λ k. first_of (first_of f (with_dummy u s x).breaks) (with_dummies u rest k).breaks) (sym o)
    ∙ sym (first_of_both f (with_dummy u s x).breaks (with_dummies u rest (with_dummy u s x).scope).breaks)
    ∙ ap (λ k. first_of f (with_dummies u k s).breaks) (sym d) ∙ h

pub dummies_scope : (u : Unit') (x : Name) (rest all : List Name) (s t end : Scope) → all ≡ x ∷ rest → (with_dummy u s x).scope ≡ t
    → (with_dummies u all s).scope ≡ end → (with_dummies u rest t).scope ≡ end
dummies_scope u x rest all s t end d o h =
    ap (λ k. (with_dummies u rest k).scope) (sym o) ∙ ap (λ k. (with_dummies u k s).scope) (sym d) ∙ h
