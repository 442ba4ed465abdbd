-- The argument of a dummy where that of another is taken away.
use Rattle.std.proofs.Common.{◌≡◌, ◌∙◌, refl, ap, sym, arith, ℕ, List, [], ◌∷◌}
use Rattle.std.specs.Prelude.{Bool, true, false, cond, nat_eq, Option, Some, None}
use Rattle.rule_definitions.specs.Arguments.{Actual, Binding, bound_placed, bound_to, value_for}
use Rattle.caf_base.specs.declared.value.Kind.{Kind}
use Rattle.caf_base.specs.declared.value.Kind.TheVariants.{I4}
use Rattle.rule_definitions.specs.IntrinsicFunctions.{kind_argument}
use Rattle.rule_definitions.specs.Judgements.{Judgement, fine}
use Rattle.rule_definitions.specs.Names.{Scope}
use Rattle.rule_definitions.specs.Parts.{Placed, integer_kind, kind_value}
use Rattle.call_rules.specs.Bindings.{is_the_number, without}

first_of_all : (o : Option ℕ) (j : ℕ) (x y : Option Actual) → elim o [ None ↦ y | Some k ↦ cond (nat_eq j k) x y ] ≡ cond (is_the_number j o) x y
first_of_all None j x y = refl
first_of_all (Some k) j x y = refl

first_bound : (b : Binding) (bs : List Binding) (j : ℕ) → bound_to (b ∷ bs) j ≡ cond (is_the_number j b.index) (Some b.actual) (bound_to bs j)
first_bound b bs j = first_of_all b.index j (Some b.actual) (bound_to bs j)

stays : (t : Bool) (b : Binding) (bs rest : List Binding) (j : ℕ) → (t ≡ true → is_the_number j b.index ≡ false) → bound_to rest j ≡ bound_to bs j
    → bound_to (cond t bs (b ∷ rest)) j ≡ bound_to (b ∷ bs) j
stays true b bs rest j f g = sym (first_bound b bs j ∙ ap (λ v. cond v (Some b.actual) (bound_to bs j)) (f refl))
stays false b bs rest j f g = first_bound b rest j ∙ ap (λ o. cond (is_the_number j b.index) (Some b.actual) o) g ∙ sym (first_bound b bs j)

apart : (i j : ℕ) (o : Option ℕ) → nat_eq j i ≡ false → is_the_number i o ≡ true → is_the_number j o ≡ false
apart i j None e f = refl
apart i j (Some k) e f = grind (arith)

others_stay : (i j : ℕ) → nat_eq j i ≡ false → (bs : List Binding) → bound_to (without bs i) j ≡ bound_to bs j
others_stay i j e [] = refl
others_stay i j e (b ∷ bs) = stays (is_the_number i b.index) b bs (without bs i) j (apart i j b.index e) (others_stay i j e bs)

value_stays : (i j : ℕ) → nat_eq j i ≡ false → (bs : List Binding) → value_for (without bs i) j ≡ value_for bs j
value_stays i j e bs = ap (λ o. elim o [ None ↦ None | Some a ↦ bound_placed a ]) (others_stay i j e bs)

pub second_stays : (bs : List Binding) → value_for (without bs 0) 1 ≡ value_for bs 1
second_stays bs = value_stays 0 1 refl bs

pub third_stays : (bs : List Binding) → value_for (without (without bs 0) 1) 2 ≡ value_for bs 2
third_stays bs = value_stays 1 2 refl (without bs 0) ∙ value_stays 0 2 refl bs

pub kind_stays : (s : Scope) (bs : List Binding) → kind_argument s (without bs 0) 1 ≡ kind_argument s bs 1
kind_stays s bs = ap (λ o. elim o [ None ↦ fine I4 | Some e ↦ kind_value s integer_kind e ]) (second_stays bs)

pub ruleset taken_away = (second_stays, third_stays)
