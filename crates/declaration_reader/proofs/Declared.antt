-- Cobounds, one behind the other.
use Rattle.std.proofs.Common.{◌≡◌, ℕ, Bool, true, false, List, [], ◌∷◌, ◌++◌, Some, None, refl, ap}
use Rattle.reader_theory.specs.Words.{Verdict, found, fault}
use Rattle.reader_theory.specs.Readers.{joined, pair, then_by, turned}
use Rattle.fortran_tokens.specs.declared.token.Sign.TheVariants as sign
use Rattle.fortran_tree.specs.Expressions.{Expression}
use Rattle.fortran_grammar.specs.Tokens.{Token}
use Rattle.statement_reader.specs.Dimensions.{Bound, a_bound, a_sign, cobounds_of, last_lower, upper_bound}
use Rattle.statement_reader.specs.Families.{an_expression}
use Rattle.action_reader.proofs.Specifiers.{specifier_laws}
use Rattle.declaration_reader.specs.Pieces.{end_of_bound, paired}

upper_so : (e : Expression) (v : Verdict Token (Unit {0})) → turned upper_bound (joined pair e v) ≡ joined pair e (turned (λ z. false) v)
upper_so e (found z rest) = refl
upper_so e (fault c rest) = refl

upper_is : (left : ℕ) (v : Verdict Token Expression) → turned upper_bound (then_by pair (λ _. a_sign sign.Comma left) v) ≡ then_by pair (λ _. end_of_bound true left) v
upper_is left (found e rest) = upper_so e (a_sign sign.Comma left rest)
upper_is left (fault c rest) = refl

pub bound_is : (is_upper : Bool) (left : ℕ) (ts : List Token) → a_bound is_upper left ts ≡ then_by pair (λ _. end_of_bound is_upper left) (an_expression left ts)
bound_is true left ts = upper_is left (an_expression left ts)
bound_is false left ts = refl

-- one cobound more
pub cobounds_pushed : (qs : List Bound) (q : Bound) → cobounds_of (qs ++ q ∷ []) ≡ cobounds_of qs ++ (paired (last_lower qs) q).0
cobounds_pushed [] (e, true) = refl
cobounds_pushed [] (e, false) = refl
cobounds_pushed ((e, false) ∷ qs) q = ap (λ z. record { lower = None; upper = e } ∷ z) (cobounds_pushed qs q)
cobounds_pushed ((e, true) ∷ []) (f, c) = refl
cobounds_pushed ((e, true) ∷ (f, c) ∷ qs) q = ap (λ z. record { lower = Some e; upper = f } ∷ z) (cobounds_pushed qs q)

pub lower_pushed : (qs : List Bound) (q : Bound) → last_lower (qs ++ q ∷ []) ≡ (paired (last_lower qs) q).1
lower_pushed [] (e, true) = refl
lower_pushed [] (e, false) = refl
lower_pushed ((e, false) ∷ qs) q = lower_pushed qs q
lower_pushed ((e, true) ∷ []) (f, c) = refl
lower_pushed ((e, true) ∷ (f, c) ∷ qs) q = lower_pushed qs q

pub ruleset declared_laws = (specifier_laws, bound_is)
