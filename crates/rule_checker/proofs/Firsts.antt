-- The first of broken rules, where they are noted part by part.
use Rattle.std.proofs.Common.{◌≡◌, ◌∙◌, ℕ, ◌<◌, ◌≤◌, Bool, true, false, List, [], ◌∷◌, ◌++◌, refl, sym, ap, arith}
use Rattle.std.specs.Prelude.{cond, nat_eq, nat_lt, Option, Some, None}
use Rattle.std.proofs.lemmas.Bool.Decides.{nat_tests}
use Rattle.rule_definitions.specs.declared.broken.Broken.{Broken}
use Rattle.rule_definitions.specs.Judgements.{comes_first, first_of}
use Rattle.rule_checker.specs.Noted.{noted}

-- by one number, else by what is said behind it
abbrev lex : ℕ → ℕ → Bool → Bool
lex x y r = cond (nat_eq x y) r (nat_lt x y)

lex_trans : (x y z : ℕ) (r s t : Bool) → (r ≡ true → s ≡ true → t ≡ true) → lex x y r ≡ true → lex y z s ≡ true → lex x z t ≡ true
lex_trans x y z r s t h e f = grind (arith, nat_tests)

lex_not : (x y z : ℕ) (r s t : Bool) → (r ≡ false → s ≡ false → t ≡ false) → lex y x r ≡ false → lex z y s ≡ false → lex z x t ≡ false
lex_not x y z r s t h e f = grind (arith, nat_tests)

lt_trans : (x y z : ℕ) → nat_lt x y ≡ true → nat_lt y z ≡ true → nat_lt x z ≡ true
lt_trans x y z e f = grind (arith, nat_tests)

lt_not : (x y z : ℕ) → nat_lt y x ≡ false → nat_lt z y ≡ false → nat_lt z x ≡ false
lt_not x y z e f = grind (arith, nat_tests)

comes_trans : (a b c : Broken) → comes_first a b ≡ true → comes_first b c ≡ true → comes_first a c ≡ true
comes_trans a b c = lex_trans a.at.line b.at.line c.at.line _ _ _ (lex_trans a.at.col b.at.col c.at.col _ _ _ (lt_trans a.rule b.rule c.rule))

comes_not : (a b c : Broken) → comes_first b a ≡ false → comes_first c b ≡ false → comes_first c a ≡ false
comes_not a b c = lex_not a.at.line b.at.line c.at.line _ _ _ (lex_not a.at.col b.at.col c.at.col _ _ _ (lt_not a.rule b.rule c.rule))

abbrev earlier : Broken → Broken → Broken
earlier a b = cond (comes_first b a) b a

earlier_cases : (a b c : Broken) (p q : Bool) → comes_first b a ≡ p → comes_first c b ≡ q → earlier (earlier a b) c ≡ earlier a (earlier b c)
earlier_cases a b c true true e f =
    ap (λ k. earlier (cond k b a) c) e ∙ ap (λ k. cond k c b) f ∙ sym (ap (λ k. earlier a (cond k c b)) f ∙ ap (λ k. cond k c a) (comes_trans c b a f e))
earlier_cases a b c true false e f =
    ap (λ k. earlier (cond k b a) c) e ∙ ap (λ k. cond k c b) f ∙ sym (ap (λ k. earlier a (cond k c b)) f ∙ ap (λ k. cond k b a) e)
earlier_cases a b c false true e f =
    ap (λ k. earlier (cond k b a) c) e ∙ sym (ap (λ k. earlier a (cond k c b)) f)
earlier_cases a b c false false e f =
    ap (λ k. earlier (cond k b a) c) e ∙ ap (λ k. cond k c a) (comes_not a b c e f) ∙ sym (ap (λ k. earlier a (cond k c b)) f ∙ ap (λ k. cond k b a) e)

earlier_both : (a b c : Broken) → earlier (earlier a b) c ≡ earlier a (earlier b c)
earlier_both a b c = earlier_cases a b c (comes_first b a) (comes_first c b) refl refl

some_first : (o : Option Broken) (b : Broken) (bs : List Broken) → first_of o (noted (first_of (Some b) bs)) ≡ first_of (first_of o (b ∷ [])) bs
some_first o b [] = refl
some_first None b (x ∷ bs) = some_first None (earlier b x) bs
some_first (Some a) b (x ∷ bs) = some_first (Some a) (earlier b x) bs ∙ ap (λ k. first_of (Some k) bs) (sym (earlier_both a b x))

-- a part that was noted by itself
pub first_apart : (o : Option Broken) (bs : List Broken) → first_of o (noted (first_of None bs)) ≡ first_of o bs
first_apart o [] = refl
first_apart None (b ∷ bs) = some_first None b bs
first_apart (Some a) (b ∷ bs) = some_first (Some a) b bs
