-- Cobounds as they are written.
use Rattle.std.proofs.Common.{◌≡◌, ℕ, Bool, true, false, List, [], ◌∷◌, ◌++◌, Option, Some, None, map, refl, ap, sym, ◌∙◌}
use Rattle.reader_theory.specs.Words.{Verdict, found, fault}
use Rattle.reader_theory.specs.Readers.{joined, pair, then_by, turned}
use Rattle.fortran_tokens.specs.declared.token.Sign.TheVariants as sign
use Rattle.fortran_tree.specs.declared.declaration.Bounds.{Bounds as Held}
use Rattle.fortran_tree.specs.declared.expr.Expr.{Expr}
use Rattle.fortran_tree.specs.DeclarationViews.{bounds, maybe_expression}
use Rattle.fortran_tree.specs.Expressions.{Expression}
use Rattle.fortran_grammar.specs.Tokens.{Token}
use Rattle.expr_reader.specs.PieceViews.{option_items}
use Rattle.statement_reader.specs.Dimensions.{Bound, a_bound, a_sign, cobounds_of, last_lower, upper_bound}
use Rattle.statement_reader.specs.Families.{an_expression}
use Rattle.action_reader.proofs.Specifiers.{specifier_laws}
use Rattle.action_reader.proofs.Turns.{map_append}
use Rattle.keyword_reader.specs.declared.cobound.Cobound.{Cobound}
use Rattle.keyword_reader.specs.Families.{end_of_bound, paired}
use Rattle.keyword_reader.specs.Views.{bound_of}

upper_so : (e : Expression) (v : Verdict Token (Unit {0})) → turned upper_bound (joined pair e v) ≡ joined pair e (turned (λ z. false) v)
upper_so e (found z rest) = refl
upper_so e (fault c rest) = refl

upper_is : (left : ℕ) (v : Verdict Token Expression) → turned upper_bound (then_by pair (λ _. a_sign sign.Comma left) v) ≡ then_by pair (λ _. end_of_bound true left) v
upper_is left (found e rest) = upper_so e (a_sign sign.Comma left rest)
upper_is left (fault c rest) = refl

pub bound_is : (is_upper : Bool) (left : ℕ) (ts : List Token) → a_bound is_upper left ts ≡ then_by pair (λ _. end_of_bound is_upper left) (an_expression left ts)
bound_is true left ts = upper_is left (an_expression left ts)
bound_is false left ts = refl

-- one cobound more
pub cobounds_pushed : (qs : List Bound) (q : Bound) → cobounds_of (qs ++ q ∷ []) ≡ cobounds_of qs ++ (paired (last_lower qs) q).0
cobounds_pushed [] (e, true) = refl
cobounds_pushed [] (e, false) = refl
cobounds_pushed ((e, false) ∷ qs) q = ap (λ z. record { lower = None; upper = e } ∷ z) (cobounds_pushed qs q)
cobounds_pushed ((e, true) ∷ []) (f, c) = refl
cobounds_pushed ((e, true) ∷ (f, c) ∷ qs) q = ap (λ z. record { lower = Some e; upper = f } ∷ z) (cobounds_pushed qs q)

pub lower_pushed : (qs : List Bound) (q : Bound) → last_lower (qs ++ q ∷ []) ≡ (paired (last_lower qs) q).1
lower_pushed [] (e, true) = refl
lower_pushed [] (e, false) = refl
lower_pushed ((e, false) ∷ qs) q = lower_pushed qs q
lower_pushed ((e, true) ∷ []) (f, c) = refl
lower_pushed ((e, true) ∷ (f, c) ∷ qs) q = lower_pushed qs q

pub bound_more : (xs : List Held) (lower : Option Expr) (qs : List Cobound) (b : Cobound) (r : Option Held × Option Expr) → map bounds xs ≡ cobounds_of (map bound_of qs) → maybe_expression lower ≡ last_lower (map bound_of qs)
    → (map bounds (option_items r.0), maybe_expression r.1) ≡ paired (maybe_expression lower) (bound_of b)
    → (map bounds (xs ++ option_items r.0) ≡ cobounds_of (map bound_of (qs ++ b ∷ []))) × (maybe_expression r.1 ≡ last_lower (map bound_of (qs ++ b ∷ [])))
bound_more xs lower qs b r h k e =
    let q = map_append bound_of qs (b ∷ []) in
    let p = e ∙ ap (λ l. paired l (bound_of b)) k in (
      map_append bounds xs (option_items r.0)
          ∙ (ap (λ z. z ++ map bounds (option_items r.0)) h
          ∙ (ap (λ z. cobounds_of (map bound_of qs) ++ z) (ap (λ z. z.0) p)
          ∙ sym (ap cobounds_of q ∙ cobounds_pushed (map bound_of qs) (bound_of b)))),
      ap (λ z. z.1) p ∙ sym (ap last_lower q ∙ lower_pushed (map bound_of qs) (bound_of b)),
    )

pub ruleset shaped_laws = (specifier_laws, bound_is)
