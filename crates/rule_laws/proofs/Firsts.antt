-- The first of a list of breaks is one of them, and none comes before it.
use Rattle.std.proofs.Common.{◌≡◌, ◌∙◌, ℕ, Bool, true, false, List, [], ◌∷◌, inl, inr, refl, sym, subst, arith}
use Rattle.std.specs.Prelude.{cond, nat_eq, nat_lt, Some, None}
use Rattle.std.proofs.lemmas.Bool.Decides.{nat_tests}
use Rattle.rule_definitions.specs.Acceptance.{IsAmong}
use Rattle.rule_definitions.specs.Judgements.{comes_first, first_of}
use Rattle.rule_definitions.specs.declared.broken.Broken.{Broken}

-- by one number, else by what is said behind it
abbrev lex : ℕ → ℕ → Bool → Bool
lex x y r = cond (nat_eq x y) r (nat_lt x y)

lex_not : (x y z : ℕ) (r s t : Bool) → (r ≡ false → s ≡ false → t ≡ false) → lex y x r ≡ false → lex z y s ≡ false → lex z x t ≡ false
lex_not x y z r s t h e f = grind (arith, nat_tests)

lt_not : (x y z : ℕ) → nat_lt y x ≡ false → nat_lt z y ≡ false → nat_lt z x ≡ false
lt_not x y z e f = grind (arith, nat_tests)

lex_back : (x y : ℕ) (r s : Bool) → (r ≡ true → s ≡ false) → lex x y r ≡ true → lex y x s ≡ false
lex_back x y r s h e = grind (arith, nat_tests)

lt_back : (x y : ℕ) → nat_lt x y ≡ true → nat_lt y x ≡ false
lt_back x y e = grind (arith, nat_tests)

lex_self : (x : ℕ) (r : Bool) → r ≡ false → lex x x r ≡ false
lex_self x r e = grind (arith, nat_tests)

lt_self : (x : ℕ) → nat_lt x x ≡ false
lt_self x = grind (arith, nat_tests)

comes_not : (a b c : Broken) → comes_first b a ≡ false → comes_first c b ≡ false → comes_first c a ≡ false
comes_not a b c = lex_not a.at.line b.at.line c.at.line _ _ _ (lex_not a.at.col b.at.col c.at.col _ _ _ (lt_not a.rule b.rule c.rule))

comes_back : (a b : Broken) → comes_first a b ≡ true → comes_first b a ≡ false
comes_back a b = lex_back a.at.line b.at.line _ _ (lex_back a.at.col b.at.col _ _ (lt_back a.rule b.rule))

comes_self : (a : Broken) → comes_first a a ≡ false
comes_self a = lex_self a.at.line _ (lex_self a.at.col _ (lt_self a.rule))

some_inj : (a b : Broken) → Some a ≡ Some b → a ≡ b
some_inj a b e = cc

none_some : (r : Broken) → None ≡ Some r → ⊥
none_some r e = cc

abbrev Past : List Broken → Broken → Type 0
Past bs r = (x : Broken) → IsAmong bs x → comes_first x r ≡ false

abbrev IsLeast : List Broken → Broken → Type 0
IsLeast bs r = IsAmong bs r × Past bs r

-- one break more behind the first, with what holds of the rest behind either
turn : (a b : Broken) (bs : List Broken) (r : Broken) (t : Bool) → comes_first b a ≡ t
    → (first_of (Some b) bs ≡ Some r → IsLeast (b ∷ bs) r) → (first_of (Some a) bs ≡ Some r → IsLeast (a ∷ bs) r)
    → first_of (Some (cond t b a)) bs ≡ Some r → IsLeast (a ∷ b ∷ bs) r
turn a b bs r true c f g e =
    let h = f e in
    (inr h.0, λ x k. elim k [ inl i ↦ subst (λ y. comes_first y r ≡ false) i (comes_not r b a (h.1 b (inl refl)) (comes_back b a c)) | inr i ↦ h.1 x i ])
turn a b bs r false c f g e =
    let h = g e in (
      elim (h.0) [ inl i ↦ inl i | inr i ↦ inr (inr i) ],
      λ x k. elim k [ inl i ↦ h.1 x (inl i) | inr i ↦ elim i [ inl j ↦ subst (λ y. comes_first y r ≡ false) j (comes_not r a b (h.1 a (inl refl)) c) | inr j ↦ h.1 x (inr j) ] ],
    )

least : (a : Broken) (bs : List Broken) (r : Broken) → first_of (Some a) bs ≡ Some r → IsLeast (a ∷ bs) r
least a [] r e = (inl (some_inj a r e), λ x h. elim h [ inl f ↦ subst (λ k. comes_first k r ≡ false) (sym (some_inj a r e) ∙ f) (comes_self r) | inr f ↦ absurd f ])
least a (b ∷ bs) r e = turn a b bs r (comes_first b a) refl (least b bs r) (least a bs r) e

pub first_among : (bs : List Broken) (r : Broken) → first_of None bs ≡ Some r → IsLeast bs r
first_among [] r e = absurd (none_some r e)
first_among (b ∷ bs) r e = least b bs r e

some_stays : (a : Broken) (bs : List Broken) → first_of (Some a) bs ≡ None → ⊥
some_stays a [] e = cc
some_stays a (b ∷ bs) e = some_stays (cond (comes_first b a) b a) bs e

pub first_none : (bs : List Broken) → first_of None bs ≡ None → bs ≡ []
first_none [] e = refl
first_none (b ∷ bs) e = absurd (some_stays b bs e)
