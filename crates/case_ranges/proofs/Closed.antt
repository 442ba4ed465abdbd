-- What the definitions say of open ends is said of closed ones, since every number has 64 bits.
use Rattle.std.proofs.Common.{◌≡◌, ◌∙◌, ◌≤ℤ◌, ◌<ℤ◌, ◌&&◌, ◌||◌, ◌∷◌, ◌++◌, ◌⊎◌, inl, inr, ap, arith, sym, refl, ℤ, pos, negsuc, Bool, true, false, List, [], Option, None, Some}
use Rattle.std.proofs.lemmas.Int.{ints}
use Rattle.std.specs.Int.RustNames.{FitsSigned, int_le, int_lt}
use Rattle.std.specs.Option.{unwrap_or}
use Rattle.checked_tree.specs.declared.statement.CaseRange.{CaseRange}
use Rattle.rule_definitions.specs.Statements.{low, high, is_not_above, has_value, overlaps, overlaps_one}
use Rattle.case_ranges.specs.Ends.{low_end, high_end, IsHeld, AllHeld, meets, meets_one}
use mir.Syntax.{w64}

pub le_so : (a b : ℤ) → a ≤ℤ b → int_le a b ≡ true
le_so a b h = grind (arith, ints)

pub le_not : (a b : ℤ) → b <ℤ a → int_le a b ≡ false
le_not a b h = grind (arith, ints)

pub so_le : (a b : ℤ) → int_le a b ≡ true → a ≤ℤ b
so_le a b h = grind (arith, ints)

pub not_le : (a b : ℤ) → int_le a b ≡ false → b <ℤ a
not_le a b h = grind (arith, ints)

pub so_lt : (a b : ℤ) → int_lt a b ≡ true → a <ℤ b
so_lt a b h = grind (arith, ints)

pub not_lt : (a b : ℤ) → int_lt a b ≡ false → b ≤ℤ a
not_lt a b h = grind (arith, ints)

pub below_or_not : (a b : ℤ) → (a ≤ℤ b) ⊎ (b <ℤ a)
below_or_not a b = elim (int_le a b) as (λ v. int_le a b ≡ v → (a ≤ℤ b) ⊎ (b <ℤ a)) [ true ↦ λ e. inl (so_le a b e) | false ↦ λ e. inr (not_le a b e) ] refl

from_least : (z : ℤ) → FitsSigned w64 z → int_le (negsuc 9223372036854775807) z ≡ true
from_least (pos n) h = refl
from_least (negsuc n) h = grind (arith, h.sfits)

to_greatest : (z : ℤ) → FitsSigned w64 z → int_le z (pos 9223372036854775807) ≡ true
to_greatest (pos n) h = grind (arith, h.sfits)
to_greatest (negsuc n) h = refl

pub closed : (m n : Option ℤ) → FitsSigned w64 (unwrap_or m (negsuc 9223372036854775807)) → FitsSigned w64 (unwrap_or n (pos 9223372036854775807))
    → is_not_above m n ≡ int_le (unwrap_or m (negsuc 9223372036854775807)) (unwrap_or n (pos 9223372036854775807))
closed (Some m) (Some n) f g = refl
closed (Some m) None f g = sym (to_greatest m f)
closed None (Some n) f g = sym (from_least n g)
closed None None f g = refl

and_true : (a b c : Bool) → b ≡ true → ((a && b) && c) ≡ (a && c)
and_true true true c h = refl
and_true true false c h = cc
and_true false b c h = refl

and_false : (a b c : Bool) → b ≡ false → ((a && b) && c) ≡ false
and_false true true c h = cc
and_false true false c h = refl
and_false false b c h = refl

pub overlaps_as_closed : (x r : CaseRange) → IsHeld x → IsHeld r → int_le (low_end r) (high_end r) ≡ true → overlaps x r ≡ meets (low_end r) (high_end r) x
overlaps_as_closed x r f g h =
    let own : has_value r ≡ true = closed (low r) (high r) g.0 g.1 ∙ h in
    let a : has_value x ≡ int_le (low_end x) (high_end x) = closed (low x) (high x) f.0 f.1 in
    let b : is_not_above (low x) (high r) ≡ int_le (low_end x) (high_end r) = closed (low x) (high r) f.0 g.1 in
    let d : is_not_above (low r) (high x) ≡ int_le (low_end r) (high_end x) = closed (low r) (high x) g.0 f.1 in
    and_true (has_value x) (has_value r) (is_not_above (low x) (high r) && is_not_above (low r) (high x)) own
    ∙ ap (λ v. v && (is_not_above (low x) (high r) && is_not_above (low r) (high x))) a
    ∙ ap (λ v. int_le (low_end x) (high_end x) && (v && is_not_above (low r) (high x))) b
    ∙ ap (λ v. int_le (low_end x) (high_end x) && (int_le (low_end x) (high_end r) && v)) d

pub overlaps_one_as_closed : (xs : List CaseRange) (r : CaseRange) → AllHeld xs → IsHeld r → int_le (low_end r) (high_end r) ≡ true → overlaps_one xs r ≡ meets_one (low_end r) (high_end r) xs
overlaps_one_as_closed [] r f g h = refl
overlaps_one_as_closed (x ∷ xs) r f g h =
    ap (λ v. v || overlaps_one xs r) (overlaps_as_closed x r f.0 g h) ∙ ap (λ v. meets (low_end r) (high_end r) x || v) (overlaps_one_as_closed xs r f.1 g h)

-- a range without a value overlaps none
pub overlaps_none : (xs : List CaseRange) (r : CaseRange) → IsHeld r → int_le (low_end r) (high_end r) ≡ false → overlaps_one xs r ≡ false
overlaps_none [] r g h = refl
overlaps_none (x ∷ xs) r g h =
    ap (λ v. v || overlaps_one xs r) (and_false (has_value x) (has_value r) _ (closed (low r) (high r) g.0 g.1 ∙ h)) ∙ overlaps_none xs r g h

pub all_held : (xs : List CaseRange) (r : CaseRange) → AllHeld xs → IsHeld r → AllHeld (xs ++ r ∷ [])
all_held [] r f g = (g, tt)
all_held (x ∷ xs) r f g = (f.0, all_held xs r f.1 g)

or_false : (v : Bool) → (v || false) ≡ v
or_false true = refl
or_false false = refl

or_joined : (u v w : Bool) → (u || (v || w)) ≡ ((u || v) || w)
or_joined true v w = refl
or_joined false v w = refl

pub meets_more : (a b : ℤ) (xs : List CaseRange) (r : CaseRange) → meets_one a b (xs ++ r ∷ []) ≡ (meets_one a b xs || meets a b r)
meets_more a b [] r = or_false (meets a b r)
meets_more a b (x ∷ xs) r = ap (λ v. meets a b x || v) (meets_more a b xs r) ∙ or_joined (meets a b x) (meets_one a b xs) (meets a b r)
