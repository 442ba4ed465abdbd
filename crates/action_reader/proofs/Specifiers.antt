-- Specifiers, one behind the other.
use Rattle.std.proofs.Common.{◌≡◌, ℕ, Bool, true, false, cond, List, [], ◌∷◌, map, refl, ap, sym, ◌∙◌}
use Rattle.reader_theory.specs.Words.{Verdict, found, fault, expected}
use Rattle.reader_theory.specs.Readers.{then_by, joined, behind, token, first, second, pair, both}
use Rattle.fortran_tokens.specs.declared.token.Sign.TheVariants as sign
use Rattle.fortran_tree.specs.declared.expr.Specifier.{Specifier}
use Rattle.fortran_tree.specs.declared.name.Name.{Name}
use Rattle.fortran_tree.specs.Expressions.{more_specifiers}
use Rattle.fortran_tree.specs.ExpressionViews.{expression, specifiers}
use Rattle.fortran_grammar.specs.Tokens.{Token}
use Rattle.expr_reader.specs.Levels.{a_keyword, begins_with}
use Rattle.expr_reader.specs.Reading.{Reader}
use Rattle.expr_reader.specs.Tests.{a_name, is_sign}
use Rattle.statement_reader.specs.Actions.{a_specifier, specifiers_from}
use Rattle.statement_reader.specs.Families.{an_expression}
use Rattle.action_reader.specs.Beginnings as b
use Rattle.action_reader.specs.Views.{assigned_of}
use Rattle.action_reader.proofs.Enclosed.{bracket_laws}
use Rattle.action_reader.proofs.Keys.{second_is}
use Rattle.action_reader.proofs.Turns.{list_laws}

-- a name and `=` before what is read
keyword_then : {A : Type 0} (r : Reader A) (v : Verdict Token Name) → then_by pair (λ _. behind (is_sign sign.Assign) r) v ≡ then_by pair (λ _. r) (then_by first (λ _. token (is_sign sign.Assign)) v)
keyword_then r (fault c rest) = refl
keyword_then r (found n []) = refl
keyword_then r (found n (z ∷ u)) = by_test (is_sign sign.Assign z)
  where
    by_test : (b : Bool) → joined pair n (then_by second (λ _. r) (cond b (found z u) (fault expected (z ∷ u)))) ≡ then_by pair (λ _. r) (joined first n (cond b (found z u) (fault expected (z ∷ u))))
    by_test true = ap (joined pair n) (second_is z (r u))
    by_test false = refl

pub keyword_is : {A : Type 0} (r : Reader A) (ts : List Token) → both pair a_name (behind (is_sign sign.Assign) r) ts ≡ then_by pair (λ _. r) (a_keyword ts)
keyword_is r ts = keyword_then r (a_name ts)

pub specifier_is : (left : ℕ) (ts : List Token) → a_specifier left ts ≡ then_by pair (λ _. an_expression left) (a_keyword ts)
specifier_is left ts = keyword_is (an_expression left) ts

pub specifiers_are : (ps : List Specifier) → specifiers_from (map assigned_of ps) ≡ specifiers ps
specifiers_are [] = refl
specifiers_are (p ∷ ps) = ap (more_specifiers p.name (expression p.value)) (specifiers_are ps)

pub begins_is : (s : _) (ts : List Token) → begins_with s ts ≡ b.begins (is_sign s) ts
begins_is s [] = refl
begins_is s (x ∷ ts) = refl

pub ruleset specifier_laws = (bracket_laws, list_laws, specifier_is, specifiers_are, begins_is)
