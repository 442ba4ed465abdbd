-- Objects and specifiers behind them.
use Rattle.std.proofs.Common.{◌≡◌, ℕ, Bool, true, false, cond, List, [], ◌∷◌, ◌++◌, map, refl, ap}
use Rattle.reader_theory.specs.Readers.{turned}
use Rattle.fortran_tree.specs.declared.expr.Specifier.{Specifier}
use Rattle.fortran_tree.specs.Expressions.{Specifiers, no_specifiers, more_specifiers}
use Rattle.fortran_tree.specs.ExpressionViews.{expression, specifiers}
use Rattle.fortran_grammar.specs.Tokens.{Token}
use Rattle.statement_reader.specs.Actions.{a_specifier}
use Rattle.statement_reader.specs.Families.{Family}
use Rattle.statement_reader.specs.Objects.{object, specifier, a_choice, objects_of, specifiers_of}
use Rattle.action_reader.proofs.Specifiers.{specifier_laws}
use Rattle.keyword_reader.specs.declared.object.Choice.{Choice as Held}
use Rattle.keyword_reader.specs.declared.object.Choice.TheVariants as held
use Rattle.keyword_reader.specs.Views.{choice_of}
use Rattle.keyword_reader.specs.Families.{begins_specifier}

-- the choice between an object and a specifier
pub choice_behind : {A : Type 0} (r : Family A) (b : Bool) (left : ℕ) (ts : List Token) → b ≡ true → a_choice r b left ts ≡ turned specifier (a_specifier left ts)
choice_behind r true left ts e = refl
choice_behind r false left ts e = absurd (cc)

pub choice_specifier : {A : Type 0} (r : Family A) (b : Bool) (left : ℕ) (ts : List Token) → begins_specifier ts ≡ true → a_choice r b left ts ≡ turned specifier (a_specifier left ts)
choice_specifier r true left ts e = refl
choice_specifier r false left ts e = ap (λ b. cond b (turned specifier (a_specifier left ts)) (turned object (r left ts))) e

pub choice_object : {A : Type 0} (r : Family A) (b : Bool) (left : ℕ) (ts : List Token) → b ≡ false → begins_specifier ts ≡ false → a_choice r b left ts ≡ turned object (r left ts)
choice_object r true left ts e f = absurd (cc)
choice_object r false left ts e f = ap (λ b. cond b (turned specifier (a_specifier left ts)) (turned object (r left ts))) f

-- specifiers, and one more behind them
abbrev pub and_last : Specifiers → Specifier → Specifiers
and_last no_specifiers p = more_specifiers p.name (expression p.value) no_specifiers
and_last (more_specifiers n e qs) p = more_specifiers n e (and_last qs p)

pub held_pushed : (ps : List Specifier) (p : Specifier) → specifiers (ps ++ p ∷ []) ≡ and_last (specifiers ps) p
held_pushed [] p = refl
held_pushed (q ∷ ps) p = ap (more_specifiers q.name (expression q.value)) (held_pushed ps p)

-- one choice more
module _ {A B : Type 0} (look : A → B) where
  pub object_pushed : (cs : List (Held A)) (x : A) → objects_of (map (choice_of look) (cs ++ held.Object x ∷ [])) ≡ objects_of (map (choice_of look) cs) ++ look x ∷ []
  object_pushed [] x = refl
  object_pushed (held.Object y ∷ cs) x = ap (λ z. look y ∷ z) (object_pushed cs x)
  object_pushed (held.Specifier p ∷ cs) x = object_pushed cs x

  pub object_same : (cs : List (Held A)) (p : Specifier) → objects_of (map (choice_of look) (cs ++ held.Specifier p ∷ [])) ≡ objects_of (map (choice_of look) cs)
  object_same [] p = refl
  object_same (held.Object y ∷ cs) p = ap (λ z. look y ∷ z) (object_same cs p)
  object_same (held.Specifier q ∷ cs) p = object_same cs p

  pub specifier_pushed : (cs : List (Held A)) (p : Specifier) → specifiers_of (map (choice_of look) (cs ++ held.Specifier p ∷ [])) ≡ and_last (specifiers_of (map (choice_of look) cs)) p
  specifier_pushed [] p = refl
  specifier_pushed (held.Object y ∷ cs) p = specifier_pushed cs p
  specifier_pushed (held.Specifier q ∷ cs) p = ap (more_specifiers q.name (expression q.value)) (specifier_pushed cs p)

  pub specifier_same : (cs : List (Held A)) (x : A) → specifiers_of (map (choice_of look) (cs ++ held.Object x ∷ [])) ≡ specifiers_of (map (choice_of look) cs)
  specifier_same [] x = refl
  specifier_same (held.Object y ∷ cs) x = specifier_same cs x
  specifier_same (held.Specifier q ∷ cs) x = ap (more_specifiers q.name (expression q.value)) (specifier_same cs x)

pub ruleset object_laws = (specifier_laws, choice_behind, choice_specifier, choice_object)
