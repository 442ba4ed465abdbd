-- The cobounds of a coarray that breaks nothing are numbers of kind 4, and none is empty.
use Rattle.std.proofs.Common.{◌≡◌, ◌∙◌, ℕ, ℤ, ◌+◌, Bool, true, false, List, [], ◌∷◌, ◌++◌, length, refl, sym, subst, arith}
use Rattle.std.proofs.lemmas.Int.{ints}
use Rattle.std.specs.Prelude.{not, pos, ◌-ℤ◌, ◌+ℤ◌, int_lt, int_le, nat_le, ◌&&◌, map, Option, Some, None}
use Rattle.caf_base.specs.declared.place.Pos.{Pos}
use Rattle.caf_base.specs.declared.value.Kind.TheVariants.{I4}
use Rattle.caf_base.specs.declared.value.Value.TheVariants.{Int, Bool as Truth}
use Rattle.fortran_tree.specs.Expressions as f
use Rattle.fortran_tree.specs.Statements as d
use Rattle.checked_tree.specs.declared.data.Codimensions.{Codimensions}
use Rattle.checked_tree.specs.declared.data.Codimensions.TheVariants as coshapes
use Rattle.coarray_tables.specs.Fits.{are_first_cobounds}
use Rattle.rule_definitions.specs.Judgements.{breaks, unless, breaks_of}
use Rattle.rule_definitions.specs.Names.{Scope, KnownBounds}
use Rattle.rule_definitions.specs.Constants.{Constancy, value, values, no_constant, value_of, is_in_kind, all_bounds, with_first}
use Rattle.rule_definitions.specs.Parts.{place_of, plain, type_of, logical_array_breaks}
use Rattle.rule_definitions.specs.Expressions.{placed}
use Rattle.rule_definitions.specs.Declarations.{lacks_value, bound_of_value, bound_value, lower_value, cobounds_value, corank_of, coshape_breaks, coextent, coshape_of_bounds, coshape_known, is_shaped}
use Rattle.accepted_ranks.proofs.Means.{Means, none_some, some_same, no, left_nothing, right_nothing, unless_nothing, fine_means, refused_means, no_meaning, ruled_means, formed_means, under_means, both_means, then_means, cond_means}
use Rattle.accepted_ranks.proofs.Actions.{any}

-- ---- bounds
abbrev IsSmall : ℤ → Type 0
IsSmall n = is_in_kind I4 n ≡ true

of_value_means : (p : Pos) (c : Constancy) → Means (bound_of_value p c) IsSmall
of_value_means p (value (Int n)) = ruled_means (unless (is_in_kind I4 n) 25 p) (λ e. fine_means n (unless_nothing (is_in_kind I4 n) 25 p e))
of_value_means p (value (Truth b)) = refused_means 25 p
of_value_means p (values es vs) = refused_means 37 p
of_value_means p no_constant = refused_means 25 p

bound_means : (s : Scope) (e : f.Expression) → Means (bound_value s e) IsSmall
bound_means s e = cond_means (lacks_value s e)
    (λ b. formed_means (breaks 25 (place_of e)) (λ k. no_meaning refl))
    (λ b. then_means _ (any {j = plain (placed s e)}) (λ x u. ruled_means (logical_array_breaks 25 (type_of x) (value_of s x) (place_of e)) (λ k. of_value_means (place_of e) (value_of s x))))

lower_means : (s : Scope) (o : Option f.Expression) → Means (lower_value s o) IsSmall
lower_means s None = fine_means (pos 1) refl
lower_means s (Some e) = bound_means s e

abbrev AreCobounds : ℤ × ℤ → Type 0
AreCobounds m = IsSmall m.0 × IsSmall m.1 × (not (int_lt m.1 m.0) ≡ true)

cobounds_means : (s : Scope) (b : d.Bounds) → Means (cobounds_value s b) AreCobounds
cobounds_means s b = under_means {P = λ m. IsSmall m.0 × IsSmall m.1} (λ m. unless (not (int_lt m.1 m.0)) 25 (place_of b.upper))
    (both_means (λ m n. (m, n)) (lower_means s b.lower) (bound_means s b.upper) (λ m n h k. (h, k)))
    (λ m h e. (h.0, h.1, unless_nothing (not (int_lt m.1 m.0)) 25 (place_of b.upper) e))

-- ---- all of them
abbrev AreAll : List (ℤ × ℤ) → Type 0
AreAll [] = Unit {0}
AreAll (m ∷ ms) = AreCobounds m × AreAll ms

abbrev meanings : Scope → List d.Bounds → List KnownBounds
meanings s bs = map (λ b. (cobounds_value s b).meaning) bs

with_first_of : (m : ℤ × ℤ) (o : Option (List (ℤ × ℤ))) (ds : List (ℤ × ℤ)) → with_first m o ≡ Some ds → (rest : List (ℤ × ℤ)) × (o ≡ Some rest) × (m ∷ rest ≡ ds)
with_first_of m None ds e = none_some ds e
with_first_of m (Some rest) ds e = (rest, refl, some_same (m ∷ rest) ds e)

abbrev AllOf : ℕ → List (ℤ × ℤ) → Type 0
AllOf n ds = AreAll ds × (length ds ≡ n)

one_more : (s : Scope) (b : d.Bounds) (n : ℕ) (o : KnownBounds) (rest : List KnownBounds) → (cobounds_value s b).breaks ≡ [] → (cobounds_value s b).meaning ≡ o
    → ((ds : List (ℤ × ℤ)) → all_bounds rest ≡ Some ds → AllOf n ds) → (ds : List (ℤ × ℤ)) → all_bounds (o ∷ rest) ≡ Some ds → AllOf (n + 1) ds
one_more s b n None rest e g h ds k = none_some ds k
one_more s b n (Some m) rest e g h ds k =
    let w = with_first_of m (all_bounds rest) ds k in
    let r = h w.0 w.1 in
    let l = r.1 in
    subst (AllOf (n + 1)) w.2 (((cobounds_means s b).means e m g, r.0), omega arith)

all_sound : (s : Scope) (bs : List d.Bounds) → breaks_of (map (cobounds_value s) bs) ≡ [] → (ds : List (ℤ × ℤ)) → all_bounds (meanings s bs) ≡ Some ds → AllOf (length bs) ds
all_sound s [] e ds k = subst (AllOf 0) (some_same [] ds k) (tt, refl)
all_sound s (b ∷ bs) e ds k =
    let rest = breaks_of (map (cobounds_value s) bs) in
    let z : length bs + 1 ≡ length (b ∷ bs) = omega arith in
    subst (λ n. AllOf n ds) z (one_more s b (length bs) (cobounds_value s b).meaning (meanings s bs) (left_nothing (cobounds_value s b).breaks rest e) refl (all_sound s bs (right_nothing (cobounds_value s b).breaks rest e)) ds k)

-- ---- cobounds as the machine has them
and_true : (a b : Bool) → a ≡ true → b ≡ true → a && b ≡ true
and_true true b e g = g
and_true false b e g = no e

not_true : (b : Bool) → not b ≡ true → b ≡ false
not_true true e = no e
not_true false e = refl

extent_more : (m n : ℤ) → int_lt n m ≡ false → int_le (pos 1) ((n -ℤ m) +ℤ pos 1) ≡ true
extent_more m n e = grind (arith, ints)

some_extent : (m n : ℤ) → not (int_lt n m) ≡ true → int_le (pos 1) ((n -ℤ m) +ℤ pos 1) ≡ true
some_extent m n e = extent_more m n (not_true (int_lt n m) e)

upper_of : (m n : ℤ) → (m +ℤ ((n -ℤ m) +ℤ pos 1)) -ℤ pos 1 ≡ n
upper_of m n = grind (arith, ints)

first_cobounds : (ds : List (ℤ × ℤ)) (l : ℤ) → AreAll ds → IsSmall l → are_first_cobounds (map (λ m. m.0) ds ++ l ∷ []) (map coextent ds) ≡ true
first_cobounds [] l h k = and_true (is_in_kind I4 l) true k refl
first_cobounds (m ∷ ds) l h k =
    and_true _ _ h.0.0 (and_true _ _ (some_extent m.0 m.1 h.0.2) (and_true _ _ (subst IsSmall (sym (upper_of m.0 m.1)) h.0.1) (first_cobounds ds l h.1 k)))

abbrev pub has_cobounds : Codimensions → Bool
has_cobounds (coshapes.Explicit co) = nat_le (length co.lower) 3 && are_first_cobounds co.lower co.extent
has_cobounds co = true

-- none that are known before the run
abbrev pub is_open : Codimensions → Bool
is_open (coshapes.Explicit co) = false
is_open co = true

lower_count : (ds : List (ℤ × ℤ)) (l : ℤ) → length (map (λ m. m.0) ds ++ l ∷ []) ≡ length ds + 1
lower_count [] l = refl
lower_count (m ∷ ds) l = (let h = lower_count ds l in omega arith)

explicit_has : (n : ℕ) (o : Option (List (ℤ × ℤ))) (p : Option ℤ) → nat_le (n + 1) 3 ≡ true → ((ds : List (ℤ × ℤ)) → o ≡ Some ds → AllOf n ds) → ((l : ℤ) → p ≡ Some l → IsSmall l) → has_cobounds (coshape_of_bounds o p) ≡ true
explicit_has n None p c h k = refl
explicit_has n (Some ds) None c h k = refl
explicit_has n (Some ds) (Some l) c h k =
    let r = h ds refl in
    let w : n + 1 ≡ length (map (λ m. m.0) ds ++ l ∷ []) = (let a = r.1 in let b = lower_count ds l in omega arith) in
    and_true _ _ (subst (λ i. nat_le i 3 ≡ true) w c) (first_cobounds ds l r.0 (k l refl))

-- an allocatable coarray is deferred
not_explicit : {A : Type 0} (ds : List d.Dimension) (bs : List d.Bounds) (l : Option f.Expression) → is_shaped true ds (Some (d.explicit_coshape bs l)) ≡ true → A
not_explicit [] bs l e = no e
not_explicit (x ∷ ds) bs l e = no (sym (and_false _) ∙ e)
  where
    and_false : (a : Bool) → a && false ≡ false
    and_false true = refl
    and_false false = refl

pub coshape_has : (s : Scope) (b : Bool) (ds : List d.Dimension) (c : Option d.CoarraySpec) → nat_le (corank_of c) 3 ≡ true → is_shaped b ds c ≡ true → coshape_breaks s b c ≡ [] → has_cobounds (coshape_known s c) ≡ true
coshape_has s b ds None r h e = refl
coshape_has s b ds (Some (d.deferred_coshape n)) r h e = refl
coshape_has s true ds (Some (d.explicit_coshape bs l)) r h e = not_explicit ds bs l h
coshape_has s false ds (Some (d.explicit_coshape bs l)) r h e =
    let xs = breaks_of (map (cobounds_value s) bs) in
    explicit_has (length bs) (all_bounds (meanings s bs)) (lower_value s l).meaning r
    (all_sound s bs (left_nothing xs (lower_value s l).breaks e)) ((lower_means s l).means (right_nothing xs (lower_value s l).breaks e))

pub coshape_open : (s : Scope) (ds : List d.Dimension) (c : Option d.CoarraySpec) → is_shaped true ds c ≡ true → is_open (coshape_known s c) ≡ true
coshape_open s ds None h = refl
coshape_open s ds (Some (d.deferred_coshape n)) h = refl
coshape_open s ds (Some (d.explicit_coshape bs l)) h = not_explicit ds bs l h
