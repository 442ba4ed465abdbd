-- Types, bounds and initial values in declarations are judged soundly.
use Rattle.std.proofs.Common.{inl, ◌≡◌, ◌∙◌, ℕ, ℤ, Bool, true, false, List, [], ◌∷◌, ◌++◌, refl, sym, ap}
use Rattle.std.specs.Prelude.{cond, not, int_lt, pos, Option, Some, None, map}
use Rattle.caf_base.specs.declared.place.Pos.{Pos}
use Rattle.caf_base.specs.declared.value.Kind.{Kind}
use Rattle.caf_base.specs.declared.value.Kind.TheVariants.{I4, L4}
use Rattle.caf_base.specs.declared.value.Value.TheVariants.{Int, Bool as Truth}
use Rattle.fortran_tree.specs.Expressions as f
use Rattle.fortran_tree.specs.Statements as d
use Rattle.checked_tree.specs.Expressions as t
use Rattle.checked_tree.specs.declared.data.DataType.TheVariants.{Intrinsic}
use Rattle.rule_definitions.specs.declared.broken.Broken.{Broken}
use Rattle.rule_definitions.specs.Judgements.{breaks, unless, is_nothing, Judgement, is_there, said_of, formed, then_made, then, breaks_of}
use Rattle.rule_definitions.specs.Names
use Rattle.rule_definitions.specs.Names.{Scope, Meaning, KnownBounds, denotes, is_logical}
use Rattle.rule_definitions.specs.Constants.{Constancy, value, values, no_constant, value_of, is_in_kind, all_bounds, with_first}
use Rattle.rule_definitions.specs.Parts.{place_of, plain, integer_kind, logical_kind, type_of}
use Rattle.rule_definitions.specs.Expressions.{judged, placed}
use Rattle.rule_definitions.specs.Declarations.{lacks_value, constant_expression, declared_kind, type_denoted, type_judged, bound_of_value, bound_value, lower_value, bounds_value, cobounds_value, is_deferred, any_deferred, raw_breaks, raw_bounds_breaks, raw_dimensions_breaks, raw_coshape_breaks, dimension_judged, dimensions_breaks, dimensions_known, coshape_breaks}
use Rattle.rule_laws.proofs.Sound.{is_numbered, AreNumbered, IsSound, none_numbered, cond_numbered, unless_numbered, both_numbered, left_nothing, right_nothing, cons_nil, breaks_some, fine_sound, refused_sound, unknown_sound, weaker, ruled_plain, around_sound, under_sound, made_sound, made_of_both_sound, then_plain, cond_sound}
use Rattle.rule_laws.proofs.Known.{no}
use Rattle.rule_laws.proofs.Calls.{or_left, or_right}
use Rattle.rule_laws.proofs.PartsSound.{plain_sound, kind_value_sound, logical_array_numbered}
use Rattle.rule_laws.proofs.ExpressionsSound.{judged_sound}
use Rattle.rule_laws.proofs.Calls.{lacks_calls}
use Rattle.rule_laws.proofs.Filled.{IsFilled, filled_known}

-- an expression that has a value
valued_sound : (s : Scope) (e : f.Expression) → IsSound (IsFilled s × (lacks_value s e ≡ false)) (judged s e)
valued_sound s e = judged_sound s (IsFilled s × (lacks_value s e ≡ false)) e (λ h. (filled_known s (h.0), inl (lacks_calls s e (h.1))))

plain_valued : (s : Scope) (e : f.Expression) → IsSound (IsFilled s × (lacks_value s e ≡ false)) (plain (placed s e))
plain_valued s e = plain_sound (placed s e) (valued_sound s e)

pub constant_within : {T : Type 0} (H : Type 0) (s : Scope) (r : ℕ) (e : f.Expression) (rule : t.Expression → Judgement T) → is_numbered r ≡ true → (H → IsFilled s) → ((x : t.Expression) → IsSound H (rule x)) → IsSound H (constant_expression s r e rule)
constant_within H s r e rule n f h = cond_sound (lacks_value s e) (around_sound (judged s e).breaks r (place_of e) (valued_sound s e).numbered n) (then_plain rule (weaker (λ z. (f (z.0), z.1)) (plain_valued s e)) (λ x. weaker (λ z. z.0) (h x)))

constant_sound : {T : Type 0} (s : Scope) (r : ℕ) (e : f.Expression) (rule : t.Expression → Judgement T) → is_numbered r ≡ true → ((x : t.Expression) → IsSound (IsFilled s) (rule x)) → IsSound (IsFilled s) (constant_expression s r e rule)
constant_sound s r e rule n h = constant_within (IsFilled s) s r e rule n (λ z. z) h

-- Types

kind_sound : (s : Scope) (kinds : ℤ → Option Kind) (e : f.Expression) → IsSound (IsFilled s) (declared_kind s kinds e)
kind_sound s kinds e = cond_sound (lacks_value s e) (around_sound (judged s e).breaks 22 (place_of e) (valued_sound s e).numbered refl) (kind_value_sound s kinds (placed s e) (valued_sound s e))

denoted_type_sound : {H : Type 0} (m : Option Meaning) (p : Pos) → IsSound H (type_denoted m p)
denoted_type_sound None p = refused_sound 20 p refl
denoted_type_sound (Some (Names.module_type y)) p = fine_sound y
denoted_type_sound (Some m) p = refused_sound 20 p refl

pub type_sound : (s : Scope) (x : d.DeclarationTypeSpec) → IsSound (IsFilled s) (type_judged s x)
type_sound s (d.integer None) = fine_sound (Intrinsic I4)
type_sound s (d.integer (Some e)) = made_sound Intrinsic (kind_sound s integer_kind e)
type_sound s (d.logical None) = fine_sound (Intrinsic L4)
type_sound s (d.logical (Some e)) = made_sound Intrinsic (kind_sound s logical_kind e)
type_sound s (d.derived n) = denoted_type_sound (denotes s n.text) n.at

-- Bounds

bound_of_sound : {H : Type 0} (p : Pos) (c : Constancy) → IsSound H (bound_of_value p c)
bound_of_sound p (value (Int n)) = ruled_plain (fine_sound n) (unless_numbered (is_in_kind I4 n) 25 p refl)
bound_of_sound p (value (Truth b)) = refused_sound 25 p refl
bound_of_sound p (values es vs) = refused_sound 37 p refl
bound_of_sound p no_constant = refused_sound 25 p refl

bound_sound : (s : Scope) (e : f.Expression) → IsSound (IsFilled s) (bound_value s e)
bound_sound s e = constant_sound s 25 e _ refl (λ x. ruled_plain (bound_of_sound (place_of e) (value_of s x)) (logical_array_numbered 25 (type_of x) (value_of s x) (place_of e) refl))

lower_sound : (s : Scope) (o : Option f.Expression) → IsSound (IsFilled s) (lower_value s o)
lower_sound s None = fine_sound (pos 1)
lower_sound s (Some e) = bound_sound s e

bounds_sound : (s : Scope) (b : d.Bounds) → IsSound (IsFilled s) (bounds_value s b)
bounds_sound s b = made_of_both_sound {C = ℤ × ℤ} (λ m n. (m, n)) (lower_sound s b.lower) (bound_sound s b.upper)

cobounds_sound : (s : Scope) (b : d.Bounds) → IsSound (IsFilled s) (cobounds_value s b)
cobounds_sound s b = under_sound (λ m. unless (not (int_lt (m.1) (m.0))) 25 (place_of b.upper)) (bounds_sound s b) (λ m k. unless_numbered (not (int_lt (m.1) (m.0))) 25 (place_of b.upper) refl)

dimension_sound : (s : Scope) (x : d.Dimension) → IsSound (IsFilled s × (is_deferred x ≡ false)) (dimension_judged s x)
dimension_sound s (d.deferred p) = unknown_sound (λ h. no (sym (h.1)))
dimension_sound s (d.explicit b) = weaker (λ h. h.0) (bounds_sound s b)

pub raw_numbered : (s : Scope) (o : Option f.Expression) → AreNumbered (raw_breaks s o)
raw_numbered s None = none_numbered
raw_numbered s (Some e) = (plain_valued s e).numbered

raw_bounds_numbered : (s : Scope) (bs : List d.Bounds) → AreNumbered (raw_bounds_breaks s bs)
raw_bounds_numbered s [] = none_numbered
raw_bounds_numbered s (b ∷ bs) = both_numbered (raw_numbered s b.lower) (both_numbered (raw_numbered s (Some b.upper)) (raw_bounds_numbered s bs))

pub raw_dimensions_numbered : (s : Scope) (ds : List d.Dimension) → AreNumbered (raw_dimensions_breaks s ds)
raw_dimensions_numbered s [] = none_numbered
raw_dimensions_numbered s (d.deferred p ∷ ds) = raw_dimensions_numbered s ds
raw_dimensions_numbered s (d.explicit b ∷ ds) = both_numbered (raw_bounds_numbered s (b ∷ [])) (raw_dimensions_numbered s ds)

pub raw_coshape_numbered : (s : Scope) (c : Option d.CoarraySpec) → AreNumbered (raw_coshape_breaks s c)
raw_coshape_numbered s None = none_numbered
raw_coshape_numbered s (Some (d.deferred_coshape n)) = none_numbered
raw_coshape_numbered s (Some (d.explicit_coshape bs l)) = both_numbered (raw_bounds_numbered s bs) (raw_numbered s l)

judged_dimensions_numbered : (s : Scope) (ds : List d.Dimension) → AreNumbered (breaks_of (map (dimension_judged s) ds))
judged_dimensions_numbered s [] = none_numbered
judged_dimensions_numbered s (x ∷ ds) = both_numbered (dimension_sound s x).numbered (judged_dimensions_numbered s ds)

pub dimensions_numbered : (s : Scope) (b : Bool) (ds : List d.Dimension) → AreNumbered (dimensions_breaks s b ds)
dimensions_numbered s b ds = cond_numbered b (raw_dimensions_numbered s ds) (judged_dimensions_numbered s ds)

cobounds_numbered : (s : Scope) (bs : List d.Bounds) → AreNumbered (breaks_of (map (cobounds_value s) bs))
cobounds_numbered s [] = none_numbered
cobounds_numbered s (b ∷ bs) = both_numbered (cobounds_sound s b).numbered (cobounds_numbered s bs)

pub coshape_numbered : (s : Scope) (b : Bool) (c : Option d.CoarraySpec) → AreNumbered (coshape_breaks s b c)
coshape_numbered s true c = raw_coshape_numbered s c
coshape_numbered s false None = none_numbered
coshape_numbered s false (Some (d.deferred_coshape n)) = none_numbered
coshape_numbered s false (Some (d.explicit_coshape bs l)) = both_numbered (cobounds_numbered s bs) (lower_sound s l).numbered

-- the bounds of an array that isn't allocatable are known where nothing breaks in them
with_first_there : (x : ℤ × ℤ) (o : Option (List (ℤ × ℤ))) → is_there o ≡ true → is_there (with_first x o) ≡ true
with_first_there x None e = e
with_first_there x (Some xs) e = refl

all_there : (o : KnownBounds) (ds : List KnownBounds) → is_there o ≡ true → is_there (all_bounds ds) ≡ true → is_there (all_bounds (o ∷ ds)) ≡ true
all_there None ds e f = e
all_there (Some x) ds e f = with_first_there x (all_bounds ds) f

pub dimensions_there : (s : Scope) (ds : List d.Dimension) → IsFilled s → any_deferred ds ≡ false → breaks_of (map (dimension_judged s) ds) ≡ [] → is_there (all_bounds (dimensions_known s false ds)) ≡ true
dimensions_there s [] h k e = refl
dimensions_there s (x ∷ ds) h k e =
    let f = left_nothing (dimension_judged s x).breaks (breaks_of (map (dimension_judged s) ds)) e in
    let g = right_nothing (dimension_judged s x).breaks (breaks_of (map (dimension_judged s) ds)) e in
    all_there (dimension_judged s x).meaning (dimensions_known s false ds) ((dimension_sound s x).decided (h, or_left (is_deferred x) (any_deferred ds) k) f) (dimensions_there s ds h (or_right (is_deferred x) (any_deferred ds) k) g)

-- Raw parts: where nothing breaks in a constant expression, nothing breaks in the expression

formed_some : (bs : List Broken) (r : ℕ) (p : Pos) → bs ++ cond (is_nothing bs) (breaks r p) [] ≡ [] → ⊥
formed_some [] r p e = breaks_some r p e
formed_some (b ∷ bs) r p e = cons_nil b (bs ++ []) e

constant_cases : {T : Type 0} (b : Bool) (bs : List Broken) (r : ℕ) (p : Pos) (j : Judgement T) → (cond b (formed (record { breaks = bs; meaning = None }) (breaks r p)) j).breaks ≡ [] → (b ≡ false) × (j.breaks ≡ [])
constant_cases true bs r p j e = absurd (formed_some bs r p e)
constant_cases false bs r p j e = (refl, e)

pub constant_unbroken : {T : Type 0} (s : Scope) (r : ℕ) (e : f.Expression) (rule : t.Expression → Judgement T) → (constant_expression s r e rule).breaks ≡ [] → (lacks_value s e ≡ false) × ((then (plain (placed s e)) rule).breaks ≡ [])
constant_unbroken s r e rule h = constant_cases (lacks_value s e) (judged s e).breaks r (place_of e) (then (plain (placed s e)) rule) h

constant_raw : {T : Type 0} (s : Scope) (r : ℕ) (e : f.Expression) (rule : t.Expression → Judgement T) → (constant_expression s r e rule).breaks ≡ [] → raw_breaks s (Some e) ≡ []
constant_raw s r e rule h = left_nothing (plain (placed s e)).breaks (then_made rule (plain (placed s e)).meaning).breaks ((constant_unbroken s r e rule h).1)

bound_raw : (s : Scope) (e : f.Expression) → (bound_value s e).breaks ≡ [] → raw_breaks s (Some e) ≡ []
bound_raw s e h = constant_raw s 25 e _ h

lower_raw : (s : Scope) (o : Option f.Expression) → (lower_value s o).breaks ≡ [] → raw_breaks s o ≡ []
lower_raw s None h = refl
lower_raw s (Some e) h = bound_raw s e h

join_nothing : (xs ys : List Broken) → xs ≡ [] → ys ≡ [] → xs ++ ys ≡ []
join_nothing xs ys e f = ap (λ z. z ++ ys) e ∙ f

bounds_raw : (s : Scope) (b : d.Bounds) (bs : List d.Bounds) → (bounds_value s b).breaks ≡ [] → raw_bounds_breaks s bs ≡ [] → raw_bounds_breaks s (b ∷ bs) ≡ []
bounds_raw s b bs h k =
    let f = lower_raw s b.lower (left_nothing (lower_value s b.lower).breaks (bound_value s b.upper).breaks h) in
    let g = bound_raw s b.upper (right_nothing (lower_value s b.lower).breaks (bound_value s b.upper).breaks h) in
    join_nothing (raw_breaks s b.lower) (raw_breaks s (Some b.upper) ++ raw_bounds_breaks s bs) f (join_nothing (raw_breaks s (Some b.upper)) (raw_bounds_breaks s bs) g k)

judged_raw : (s : Scope) (ds : List d.Dimension) → breaks_of (map (dimension_judged s) ds) ≡ [] → raw_dimensions_breaks s ds ≡ []
judged_raw s [] h = refl
judged_raw s (d.deferred p ∷ ds) h = judged_raw s ds h
judged_raw s (d.explicit b ∷ ds) h = join_nothing (raw_bounds_breaks s (b ∷ [])) (raw_dimensions_breaks s ds) (bounds_raw s b [] (left_nothing (bounds_value s b).breaks (breaks_of (map (dimension_judged s) ds)) h) refl) (judged_raw s ds (right_nothing (bounds_value s b).breaks (breaks_of (map (dimension_judged s) ds)) h))

pub dimensions_raw : (s : Scope) (b : Bool) (ds : List d.Dimension) → dimensions_breaks s b ds ≡ [] → raw_dimensions_breaks s ds ≡ []
dimensions_raw s true ds h = h
dimensions_raw s false ds h = judged_raw s ds h

cobounds_raw : (s : Scope) (bs : List d.Bounds) → breaks_of (map (cobounds_value s) bs) ≡ [] → raw_bounds_breaks s bs ≡ []
cobounds_raw s [] h = refl
cobounds_raw s (b ∷ bs) h =
    let f = left_nothing (cobounds_value s b).breaks (breaks_of (map (cobounds_value s) bs)) h in
    bounds_raw s b bs (left_nothing (bounds_value s b).breaks (said_of (λ m. unless (not (int_lt (m.1) (m.0))) 25 (place_of b.upper)) (bounds_value s b).meaning) f) (cobounds_raw s bs (right_nothing (cobounds_value s b).breaks (breaks_of (map (cobounds_value s) bs)) h))

pub coshape_raw : (s : Scope) (b : Bool) (c : Option d.CoarraySpec) → coshape_breaks s b c ≡ [] → raw_coshape_breaks s c ≡ []
coshape_raw s true c h = h
coshape_raw s false None h = refl
coshape_raw s false (Some (d.deferred_coshape n)) h = refl
coshape_raw s false (Some (d.explicit_coshape bs l)) h = join_nothing (raw_bounds_breaks s bs) (raw_breaks s l) (cobounds_raw s bs (left_nothing (breaks_of (map (cobounds_value s) bs)) (lower_value s l).breaks h)) (lower_raw s l (right_nothing (breaks_of (map (cobounds_value s) bs)) (lower_value s l).breaks h))
