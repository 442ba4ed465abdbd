-- Facts of operators and tokens.
use Rattle.std.proofs.Common.{◌≡◌, ℕ, suc, ◌≤◌, Bool, true, false, ◌||◌, nat_eq, nat_lt, List, [], ◌∷◌, refl, ap, ◌∙◌, subst, arith, ltb-false}
use Rattle.std.proofs.lemmas.Bool.{le-ltb, eqb-true, ne_eqb, false≢true}
use Rattle.reader_theory.specs.Exactness.{Stops}
use Rattle.fortran_tokens.specs.declared.token.Sign.TheVariants as sign
use Rattle.fortran_tree.specs.declared.expr.PrefixOperator.{PrefixOperator}
use Rattle.fortran_tree.specs.declared.expr.PrefixOperator.TheVariants as prefixes
use Rattle.fortran_tree.specs.declared.expr.Operator.{Operator}
use Rattle.fortran_tree.specs.declared.expr.Operator.TheVariants as o
use Rattle.fortran_grammar.specs.Tokens as t
use Rattle.fortran_grammar.specs.Tokens.{Tok, Token}
use Rattle.fortran_grammar.specs.Phrases as p
use Rattle.fortran_grammar.specs.Phrases.{Phrase}
use Rattle.fortran_grammar.specs.ExpressionGrammar.{strength, left_rank, right_rank, right_of, operator_sign, prefix_sign, prefix_strength}
use Rattle.expr_reader.specs.Openings.{operator_in, operator_of, grip, goes, binds, opening}

-- the strengths of operators that go from the left
abbrev pub from_left : ℕ → Bool
from_left k = nat_lt k 4 || (nat_eq k 6 || nat_eq k 7)

-- how an operator's operands bind, and whether the right one stands a level further in
abbrev pub Binding : ℕ → ℕ → (Phrase → Phrase) → Operator → Type 0
Binding left right inside x = (left_rank x ≡ left) × (right_rank x ≡ right) × ((P : Phrase) → right_of x P ≡ inside P)

abbrev pub here : Phrase → Phrase
here P = P

pub left_binding : (x : Operator) → from_left (strength x) ≡ true → Binding (strength x) (suc (strength x)) here x
left_binding o.Eqv e = (refl, refl, λ P. refl)
left_binding o.Neqv e = (refl, refl, λ P. refl)
left_binding o.Or e = (refl, refl, λ P. refl)
left_binding o.And e = (refl, refl, λ P. refl)
left_binding o.Add e = (refl, refl, λ P. refl)
left_binding o.Subtract e = (refl, refl, λ P. refl)
left_binding o.Multiply e = (refl, refl, λ P. refl)
left_binding o.Divide e = (refl, refl, λ P. refl)
left_binding x e = absurd (false≢true e)

pub chain_binding : (k : ℕ) → from_left k ≡ true → (x : Operator) → strength x ≡ k → Binding k (suc k) here x
chain_binding k f x e = subst (λ n. Binding n (suc n) here x) e (left_binding x (ap from_left e ∙ f))

pub relation_binding : (x : Operator) → strength x ≡ 5 → Binding 6 6 here x
relation_binding o.Equal e = (refl, refl, λ P. refl)
relation_binding o.NotEqual e = (refl, refl, λ P. refl)
relation_binding o.Less e = (refl, refl, λ P. refl)
relation_binding o.LessEqual e = (refl, refl, λ P. refl)
relation_binding o.Greater e = (refl, refl, λ P. refl)
relation_binding o.GreaterEqual e = (refl, refl, λ P. refl)
relation_binding x e = absurd (omega arith)

pub power_binding : (x : Operator) → strength x ≡ 8 → Binding 9 8 p.deeper x
power_binding o.Power e = (refl, refl, λ P. refl)
power_binding x e = absurd (omega arith)

-- the left operand binds as tightly as its operator, or more so
pub at_least : (x : Operator) → strength x ≤ left_rank x
at_least o.Power = omega arith
at_least x = omega arith

pub some_strength : (x : Operator) → 1 ≤ strength x
some_strength o.Eqv = omega arith
some_strength x = omega arith

pub some_prefix_strength : (x : PrefixOperator) → 1 ≤ prefix_strength x
some_prefix_strength prefixes.Not = omega arith
some_prefix_strength x = omega arith

-- an operator's sign is that operator
pub grip_back : (x : Operator) → grip (t.sign (operator_sign x)) ≡ strength x
grip_back o.Power = refl
grip_back x = refl

pub operator_back : (x : Operator) → operator_in (t.sign (operator_sign x)) ≡ x
operator_back o.Power = refl
operator_back x = refl

pub opening_back : (x : PrefixOperator) → opening (t.sign (prefix_sign x)) ≡ prefix_strength x
opening_back prefixes.Not = refl
opening_back x = refl

-- a token that binds is a sign of an operator that does
sign_of_tok : (k : ℕ) (x : Tok) → 1 ≤ k → k ≤ 8 → nat_eq (grip x) k ≡ true → (x ≡ t.sign (operator_sign (operator_in x))) × (strength (operator_in x) ≡ k)
sign_of_tok k (t.sign sign.Power) l h e = (refl, eqb-true _ k e)
sign_of_tok k (t.sign sign.Star) l h e = (refl, eqb-true _ k e)
sign_of_tok k (t.sign sign.Slash) l h e = (refl, eqb-true _ k e)
sign_of_tok k (t.sign sign.Plus) l h e = (refl, eqb-true _ k e)
sign_of_tok k (t.sign sign.Minus) l h e = (refl, eqb-true _ k e)
sign_of_tok k (t.sign sign.Equal) l h e = (refl, eqb-true _ k e)
sign_of_tok k (t.sign sign.NotEqual) l h e = (refl, eqb-true _ k e)
sign_of_tok k (t.sign sign.Less) l h e = (refl, eqb-true _ k e)
sign_of_tok k (t.sign sign.LessEqual) l h e = (refl, eqb-true _ k e)
sign_of_tok k (t.sign sign.Greater) l h e = (refl, eqb-true _ k e)
sign_of_tok k (t.sign sign.GreaterEqual) l h e = (refl, eqb-true _ k e)
sign_of_tok k (t.sign sign.And) l h e = (refl, eqb-true _ k e)
sign_of_tok k (t.sign sign.Or) l h e = (refl, eqb-true _ k e)
sign_of_tok k (t.sign sign.Eqv) l h e = (refl, eqb-true _ k e)
sign_of_tok k (t.sign sign.Neqv) l h e = (refl, eqb-true _ k e)
sign_of_tok k (t.sign s) l h e = absurd (let i = eqb-true _ k e in omega arith)
sign_of_tok k x l h e = absurd (let i = eqb-true _ k e in omega arith)

pub sign_of : (k : ℕ) (x : Token) → 1 ≤ k → k ≤ 8 → binds k x ≡ true → (x.tok ≡ t.sign (operator_sign (operator_of x))) × (strength (operator_of x) ≡ k)
sign_of k x l h e = sign_of_tok k x.tok l h e

-- what goes on behind a loose term isn't there, so what goes on behind a tight one isn't
pub stops_more : (k : ℕ) (rest : List Token) → Stops (goes k) rest → Stops (goes (suc k)) rest
stops_more k [] h = tt
stops_more k (x ∷ rest) h = let g = ltb-false k (grip x.tok) h in le-ltb (suc k) (grip x.tok) (omega arith)

-- nor is an operator of that strength
pub stops_binds : (k : ℕ) (rest : List Token) → Stops (goes k) rest → Stops (binds (suc k)) rest
stops_binds k [] h = tt
stops_binds k (x ∷ rest) h = let g = ltb-false k (grip x.tok) h in ne_eqb (grip x.tok) (suc k) (λ e. (let i = e in omega arith))

pub next_stops : (k : ℕ) (x : Token) → binds k x ≡ true → goes k x ≡ false
next_stops k x e = let i = eqb-true (grip x.tok) k e in le-ltb k (grip x.tok) (omega arith)
