-- What one look-up tells, at the numbers that the code has.
use Rattle.std.proofs.Common.{rules, ◌≡◌, ◌∙◌, ◌≤ℤ◌, ◌<ℤ◌, ◌∷◌, ◌++◌, [], ap, arith, sym, refl, subst, ℤ, Bool, true, false, List, Option, None, Some, IsSome, IfSome, is_gt, Less, Equal, Greater, Ordering, slice_get}
use Rattle.std.proofs.lemmas.Int.{ints, to_z-of_z}
use Rattle.std.proofs.lemmas.Cmp.{int_ranked}
use Rattle.std.specs.Int.RustNames.{int_le, int_lt, FitsSigned}
use Rattle.std.specs.Int.Signed.{≤ℤ_refl}
use Rattle.std.specs.Option.{is_some}
use Rattle.std.specs.BTreeMap.{BTreeMap}
use Rattle.std.specs.Ordering.{int_cmp, MatchOrdering}
use Rattle.checked_tree.specs.declared.statement.CaseRange.{CaseRange}
use Rattle.rule_definitions.specs.Statements.{overlaps_one}
use Rattle.case_ranges.specs.declared.intervals.Interval.{Interval}
use Rattle.case_ranges.specs.Ends.{low_end, high_end, meets_one}
use Rattle.case_ranges.specs.Intervals.{Has, IsFree, AreApart, Keeps, KeepsWith, Stored}
use Rattle.case_ranges.proofs.Closed.{so_le, so_lt, not_lt, all_held, overlaps_one_as_closed, overlaps_none}
use Rattle.case_ranges.proofs.Kept.{begun, nothing_more}
use mir.Syntax.{w64}
use mir.Val.{to_z, of_z}

-- what holds of the first of a list
pub at_first : (P : ℤ × ℤ → Type 0) (r rest : List (ℤ × ℤ)) (e : ℤ × ℤ) → r ≡ e ∷ rest → IfSome (slice_get r 0) P → P e
at_first P r rest e s h = subst (λ z. IfSome (slice_get z 0) P) s h

by_order : (o : Ordering) (a q : ℤ) → MatchOrdering o (a <ℤ q) (a ≡ q) (q <ℤ a) → a ≤ℤ q → is_gt o ≡ false
by_order Less a q h le = refl
by_order Equal a q h le = refl
by_order Greater a q h le = absurd (omega (arith, ints))

pub not_above : (a q : ℤ) → a ≤ℤ q → is_gt (int_cmp a q) ≡ false
not_above a q le = by_order (int_cmp a q) a q (int_ranked a q (int_cmp a q) refl) le

from_order : (o : Ordering) (a q : ℤ) → MatchOrdering o (a <ℤ q) (a ≡ q) (q <ℤ a) → is_gt o ≡ false → a ≤ℤ q
from_order Less a q h e = omega (arith, ints)
from_order Equal a q h e = subst (λ z. a ≤ℤ z) h (≤ℤ_refl a)
from_order Greater a q h e = absurd (let d : true ≡ false = e in cc)

pub le_where_not_above : (a q : ℤ) → is_gt (int_cmp a q) ≡ false → a ≤ℤ q
le_where_not_above a q e = from_order (int_cmp a q) a q (int_ranked a q (int_cmp a q) refl) e

pub is_there : (v : Option ℤ) (j : ℤ) → v ≡ Some j → IsSome v
is_there v j e = search (rules, e)

-- the code's number is the number
pub number : (z : ℤ) → FitsSigned w64 z → to_z w64 (of_z w64 z) ≡ z
number z f = to_z-of_z w64 z f

held : (z n : ℤ) → z ≡ n → FitsSigned w64 z → FitsSigned w64 n
held z n e f = subst (λ k. FitsSigned w64 k) e f

found_or_free : (m : BTreeMap ℤ ℤ) (xs : List CaseRange) (low high : ℤ) → Stored m xs → low ≤ℤ high → (o : Option Interval)
    → IfSome o (λ x. Has m x.high x.low) → IfSome o (λ x. x.low ≤ℤ high) → IfSome o (λ x. low ≤ℤ x.high) → (o ≡ None → AreApart m → IsFree m low high)
    → is_some o ≡ meets_one low high xs
found_or_free m xs low high s le (Some x) a b d free = sym (s.keeps.found x.high x.low low high a le b d)
found_or_free m xs low high s le None a b d free = sym (s.keeps.free low high le (free refl s.keeps.apart))

pub met : (m : BTreeMap ℤ ℤ) (xs : List CaseRange) (r : CaseRange) (y z low high : ℤ) → y ≡ low_end r → z ≡ high_end r → FitsSigned w64 y → FitsSigned w64 z → low ≡ y → high ≡ z
    → Stored m xs → int_le low high ≡ true → (o : Option Interval)
    → IfSome o (λ x. Has m x.high x.low) → IfSome o (λ x. x.low ≤ℤ high) → IfSome o (λ x. low ≤ℤ x.high) → (o ≡ None → AreApart m → IsFree m low high)
    → is_some o ≡ overlaps_one xs r
met m xs r y z low high d e f g p q s t o a b h free =
    let u : low ≡ low_end r = p ∙ d in
    let v : high ≡ high_end r = q ∙ e in
    let le : int_le (low_end r) (high_end r) ≡ true = subst (λ n. int_le (low_end r) n ≡ true) v (subst (λ n. int_le n high ≡ true) u t) in
    found_or_free m xs low high s (so_le low high t) o a b h free
    ∙ ap (λ n. meets_one n high xs) u ∙ ap (λ n. meets_one (low_end r) n xs) v
    ∙ sym (overlaps_one_as_closed xs r s.held (held y _ d f, held z _ e g) le)

pub not_met : (xs : List CaseRange) (r : CaseRange) (y z low high : ℤ) → y ≡ low_end r → z ≡ high_end r → FitsSigned w64 y → FitsSigned w64 z → low ≡ y → high ≡ z
    → int_le low high ≡ false → false ≡ overlaps_one xs r
not_met xs r y z low high d e f g p q t =
    let le : int_le (low_end r) (high_end r) ≡ false = subst (λ n. int_le (low_end r) n ≡ false) (q ∙ e) (subst (λ n. int_le n high ≡ false) (p ∙ d) t) in
    sym (overlaps_none xs r (held y _ d f, held z _ e g) le)

pub twice : (z : ℤ) → FitsSigned w64 z → to_z w64 (of_z w64 (to_z w64 (of_z w64 z))) ≡ z
twice z f = ap (λ n. to_z w64 (of_z w64 n)) (number z f) ∙ number z f

-- a test of two numbers, whichever way the code has them
pub tested : (a b x y : ℤ) (v : Bool) → a ≡ x → b ≡ y → int_le a b ≡ v → int_le x y ≡ v
tested a b x y v d e t = subst (λ n. int_le x n ≡ v) e (subst (λ n. int_le n b ≡ v) d t)

pub not_above_number : (a z q : ℤ) → a ≡ z → z ≤ℤ q → is_gt (int_cmp a q) ≡ false
not_above_number a z q e le = not_above a q (subst (λ n. n ≤ℤ q) (sym e) le)

-- a range without a number leaves the intervals as they are
pub stored_nothing : (m : BTreeMap ℤ ℤ) (xs ys : List CaseRange) (r : CaseRange) (y z low high : ℤ) → y ≡ low_end r → z ≡ high_end r → FitsSigned w64 y → FitsSigned w64 z
    → low ≡ y → high ≡ z → int_lt high low ≡ true → ys ≡ xs ++ r ∷ [] → Stored m xs → Stored m ys
stored_nothing m xs ys r y z low high d e f g p q t i s =
    let lt : high_end r <ℤ low_end r = subst (λ n. n <ℤ low_end r) (q ∙ e) (subst (λ n. high <ℤ n) (p ∙ d) (so_lt high low t)) in
    subst (λ l. Stored m l) (sym i) (record {
      held = all_held xs r s.held (held y _ d f, held z _ e g);
      keeps = nothing_more m xs r s.keeps lt;
    })

-- a range with a number, which is put to them
pub stored_put : (m o n : BTreeMap ℤ ℤ) (xs ys : List CaseRange) (r : CaseRange) (y z low high a b c d : ℤ) → y ≡ low_end r → z ≡ high_end r → FitsSigned w64 y → FitsSigned w64 z
    → low ≡ y → high ≡ z → a ≡ y → b ≡ z → int_lt b a ≡ false → ys ≡ xs ++ r ∷ []
    → ((l : List CaseRange) → KeepsWith m low high l → KeepsWith o c d l) → (AreApart m → IsFree o c d)
    → ((l : List CaseRange) → KeepsWith o c d l → IsFree o c d → Keeps n l) → Stored m xs → Stored n ys
stored_put m o n xs ys r y z low high a b c d e f g h p q u v t i joined free end s =
    let le : low_end r ≤ℤ high_end r = subst (λ k. low_end r ≤ℤ k) (v ∙ f) (subst (λ k. k ≤ℤ b) (u ∙ e) (not_lt b a t)) in
    let k : KeepsWith m (low_end r) (high_end r) (xs ++ r ∷ []) = begun m xs r s.keeps le in
    let w : KeepsWith m low high (xs ++ r ∷ []) = subst (λ j. KeepsWith m j high (xs ++ r ∷ [])) (sym (p ∙ e)) (subst (λ j. KeepsWith m (low_end r) j (xs ++ r ∷ [])) (sym (q ∙ f)) k) in
    subst (λ l. Stored n l) (sym i) (record {
      held = all_held xs r s.held (held y _ e g, held z _ f h);
      keeps = end (xs ++ r ∷ []) (joined (xs ++ r ∷ []) w) (free s.keeps.apart);
    })
