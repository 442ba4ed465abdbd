-- What several USE statements give together under a name.
use Rattle.std.proofs.Common.{◌≡◌, ℕ, Bool, true, false, List, refl, sym, ap, ◌∙◌}
use Rattle.std.specs.Prelude.{cond, bytes_eq, ◌&&◌}
use Rattle.std.proofs.lemmas.Slice.Eq.{bytes_eq-Decides}
use Rattle.module_units.specs.Visible as v
use Rattle.module_units.specs.Visible.{Entity, Denoted, nothing, one, several, agreed, same_entity}
use Rattle.unit_names.specs.Found.{joined}

both_true : (a b : Bool) → (a && b) ≡ true → (a ≡ true) × (b ≡ true)
both_true true true e = (refl, refl)
both_true true false e = absurd (cc e)
both_true false b e = absurd (cc e)

true_both : (a b : Bool) → a ≡ true → b ≡ true → (a && b) ≡ true
true_both true true p q = refl
true_both true false p q = q
true_both false b p q = p

same_text : (x y : List ℕ) → bytes_eq x y ≡ true → x ≡ y
same_text x y e = (bytes_eq-Decides x y).0 e

text_same : (x : List ℕ) → bytes_eq x x ≡ true
text_same x = (bytes_eq-Decides x x).1 refl

-- entities that are the same are one
pub same_is : (d e : Entity) → same_entity d e ≡ true → d ≡ e
same_is (v.of_module m x) (v.of_module n y) e = let h = both_true (bytes_eq m n) (bytes_eq x y) e in ap (λ k. v.of_module k x) (same_text m n h.0) ∙ ap (v.of_module n) (same_text x y h.1)
same_is (v.of_module m x) (v.of_main y) e = absurd (cc e)
same_is (v.of_module m x) (v.of_procedure y) e = absurd (cc e)
same_is (v.of_module m x) (v.of_environment y) e = absurd (cc e)
same_is (v.of_module m x) (v.intrinsic y) e = absurd (cc e)
same_is (v.of_main x) (v.of_module n y) e = absurd (cc e)
same_is (v.of_main x) (v.of_main y) e = ap v.of_main (same_text x y e)
same_is (v.of_main x) (v.of_procedure y) e = absurd (cc e)
same_is (v.of_main x) (v.of_environment y) e = absurd (cc e)
same_is (v.of_main x) (v.intrinsic y) e = absurd (cc e)
same_is (v.of_procedure x) (v.of_module n y) e = absurd (cc e)
same_is (v.of_procedure x) (v.of_main y) e = absurd (cc e)
same_is (v.of_procedure x) (v.of_procedure y) e = ap v.of_procedure (same_text x y e)
same_is (v.of_procedure x) (v.of_environment y) e = absurd (cc e)
same_is (v.of_procedure x) (v.intrinsic y) e = absurd (cc e)
same_is (v.of_environment x) (v.of_module n y) e = absurd (cc e)
same_is (v.of_environment x) (v.of_main y) e = absurd (cc e)
same_is (v.of_environment x) (v.of_procedure y) e = absurd (cc e)
same_is (v.of_environment x) (v.of_environment y) e = ap v.of_environment (same_text x y e)
same_is (v.of_environment x) (v.intrinsic y) e = absurd (cc e)
same_is (v.intrinsic x) (v.of_module n y) e = absurd (cc e)
same_is (v.intrinsic x) (v.of_main y) e = absurd (cc e)
same_is (v.intrinsic x) (v.of_procedure y) e = absurd (cc e)
same_is (v.intrinsic x) (v.of_environment y) e = absurd (cc e)
same_is (v.intrinsic x) (v.intrinsic y) e = ap v.intrinsic (same_text x y e)

pub same_self : (d : Entity) → same_entity d d ≡ true
same_self (v.of_module m x) = true_both (bytes_eq m m) (bytes_eq x x) (text_same m) (text_same x)
same_self (v.of_main x) = text_same x
same_self (v.of_procedure x) = text_same x
same_self (v.of_environment x) = text_same x
same_self (v.intrinsic x) = text_same x

pub nothing_before : (d : Denoted) → joined nothing d ≡ d
nothing_before nothing = refl
nothing_before (one e) = refl
nothing_before several = refl

several_before : (d : Denoted) → joined several d ≡ several
several_before nothing = refl
several_before (one e) = refl
several_before several = refl

of_three : (x y z : Entity) (b c : Bool) → same_entity x y ≡ b → same_entity y z ≡ c → joined (cond b (one x) several) (one z) ≡ joined (one x) (cond c (one y) several)
of_three x y z true true p q = ap (λ k. cond k (one x) several) (ap (λ w. same_entity w z) (same_is x y p) ∙ q) ∙ sym (ap (λ k. cond k (one x) several) p)
of_three x y z true false p q = ap (λ k. cond k (one x) several) (ap (λ w. same_entity w z) (same_is x y p) ∙ q)
of_three x y z false true p q = sym (ap (λ k. cond k (one x) several) p)
of_three x y z false false p q = refl

pub joined_three : (a b c : Denoted) → joined (joined a b) c ≡ joined a (joined b c)
joined_three a b nothing = refl
joined_three a b several = refl
joined_three a nothing (one z) = refl
joined_three a several (one z) = refl
joined_three nothing (one y) (one z) = sym (nothing_before (agreed (one y) z))
joined_three several (one y) (one z) = sym (several_before (agreed (one y) z))
joined_three (one x) (one y) (one z) = of_three x y z (same_entity x y) (same_entity y z) refl refl

not_turned : (x y : Entity) (c : Bool) → same_entity x y ≡ false → same_entity y x ≡ c → several ≡ cond c (one y) several
not_turned x y false p q = refl
not_turned x y true p q = absurd (cc (sym p ∙ (ap (same_entity x) (same_is y x q) ∙ same_self x)))

of_two : (x y : Entity) (b : Bool) → same_entity x y ≡ b → cond b (one x) several ≡ cond (same_entity y x) (one y) several
of_two x y true p = sym (ap (λ k. cond k (one x) several) (same_self x)) ∙ ap (λ w. cond (same_entity w x) (one w) several) (same_is x y p)
of_two x y false p = not_turned x y (same_entity y x) p refl

pub joined_turned : (a b : Denoted) → joined a b ≡ joined b a
joined_turned nothing b = nothing_before b
joined_turned several b = several_before b
joined_turned (one x) nothing = refl
joined_turned (one x) several = refl
joined_turned (one x) (one y) = of_two x y (same_entity x y) refl

pub joined_twice : (a : Denoted) → joined a a ≡ a
joined_twice nothing = refl
joined_twice several = refl
joined_twice (one x) = ap (λ k. cond k (one x) several) (same_self x)

pub ruleset joined_laws = (joined_three, nothing_before)
