-- Each static coarray of values of an accepted program has a first value of its kind for each of its cells.
use Rattle.std.proofs.Common.{◌≡◌, ◌∙◌, ℕ, zero, suc, ◌+◌, ◌*◌, ℤ, pos, Bool, true, false, List, [], ◌∷◌, ◌++◌, length, refl, sym, ap, subst}
use Rattle.std.proofs.lemmas.List.{length-map, length-replicate}
use Rattle.std.proofs.lemmas.Bool.{eq-eqb}
use Rattle.std.specs.Prelude.{cond, not, nat_eq, ◌&&◌, map, replicate, Option, Some, None}
use Rattle.std.specs.List.{list_all}
use Rattle.caf_base.specs.declared.place.Pos.{Pos}
use Rattle.caf_base.specs.declared.value.Kind.{Kind}
use Rattle.caf_base.specs.declared.value.Kind.TheVariants.{I4, I8, L4}
use Rattle.caf_base.specs.declared.value.Value.{Value}
use Rattle.caf_base.specs.declared.value.Value.TheVariants.{Int, Bool as Truth}
use Rattle.caf_base.specs.Arithmetic as arithmetic
use Rattle.coarray_types.specs.Places.{extent_of, size_of}
use Rattle.fortran_tree.specs.Expressions as f
use Rattle.fortran_tree.specs.Statements as d
use Rattle.fortran_tree.specs.Units as u
use Rattle.checked_tree.specs.Expressions as t
use Rattle.checked_tree.specs.Statements as ts
use Rattle.checked_tree.specs.declared.data.DataType.{DataType}
use Rattle.checked_tree.specs.declared.data.DataType.TheVariants.{Intrinsic, Team, Event, Lock}
use Rattle.checked_tree.specs.declared.data.Codimensions.{Codimensions}
use Rattle.checked_tree.specs.declared.data.Codimensions.TheVariants as coshapes
use Rattle.checked_tree.specs.declared.data.Constant.{Constant}
use Rattle.checked_tree.specs.declared.data.Dimensions.{Dimensions}
use Rattle.checked_tree.specs.declared.data.Dimensions.TheVariants as shapes
use Rattle.checked_tree.specs.declared.data.Initial.{Initial}
use Rattle.checked_tree.specs.declared.data.Initial.TheVariants as initials
use Rattle.checked_tree.specs.declared.data.Variable.{Variable}
use Rattle.object_rules.specs.Folds.{is_of_kind}
use Rattle.object_rules.specs.MemoryRules.{has_first_values}
use Rattle.tree_meaning.specs.Environment.{declared_bounds}
use Rattle.tree_meaning.specs.Start as start
use Rattle.program_tables.specs.Tables.{cell_type, declared_coarray, coarray_of, coarray_found, coarray_at}
use Rattle.checked_run.specs.Coarrays.{in_memory, coarrays_of}
use Rattle.rule_definitions.specs.Judgements.{breaks, unless, is_nothing, Judgement, all_made}
use Rattle.rule_definitions.specs.Names
use Rattle.rule_definitions.specs.Names.{Scope, Symbol, Named, named, Meaning, KnownBounds, variables_of, is_logical}
use Rattle.rule_definitions.specs.Constants.{Constancy, value, values, no_constant, value_of, all_bounds, with_first}
use Rattle.rule_definitions.specs.Parts.{place_of, plain, type_of}
use Rattle.rule_definitions.specs.Expressions.{placed}
use Rattle.rule_definitions.specs.Declarations.{Attributes, lacks_value, dimensions_known, is_like, is_held, all_held, has_extents, type_breaks, extent_breaks, value_breaks, constant_breaks, initial_value, raw_breaks, initialized_breaks, is_named_constant, initial_judged, initial_of, array_constant_of, further_constants, effective_dimensions, effective_coshape, constant_entity, with_name, variable_entity, declared_all}
use Rattle.rule_definitions.specs.Statements.{Counted, counted_statements, behind, judged_statements, end_breaks}
use Rattle.rule_definitions.specs.Units
use Rattle.rule_definitions.specs.Units.{Opened, opened_procedures, constants_behind, interface_of, variable_of, dimensions_of, unit_judged, procedures_judged, position_of, completed, coarray_numbers, procedures_of, main_unit, headings_of, first_scope, uses_breaks, twice_breaks, opened_breaks, name_of, program_form, program_with, counted_all, main_declared, interfaces_of, program_judged}
use Rattle.rule_definitions.specs.Declarations
use Rattle.accepted_ranks.proofs.Means.{Means, none_some, some_same, no, same_number, cons_nil, left_nothing, right_nothing, unless_nothing, and_left, and_right, fine_means, unknown_means, no_meaning, ruled_means, formed_means, made_means, then_means, cond_means, of_both}
use Rattle.accepted_ranks.proofs.Actions.{any}
use Rattle.accepted_runs.proofs.Declared.{IsSound, declarations_keep}
use Rattle.accepted_runs.proofs.Few.{AreAt, made_at, DimensionsOf, dimensions_from}
use Rattle.accepted_runs.proofs.Sized.{product, IsSized, IsSizedConstant, AreSized, known_sized}

-- ---- values that a constant gives
abbrev IsGiven : DataType → List KnownBounds → Constancy → Type 0
IsGiven y ds (value v) = all_held y (v ∷ []) ≡ true
IsGiven y ds (values ns vs) = (all_held y vs ≡ true) × (has_extents ds ns ≡ true) × (length vs ≡ product ns)
IsGiven y ds no_constant = ⊥

abbrev IsGivenTyped : Option DataType → List KnownBounds → Constancy → Type 0
IsGivenTyped (Some (Intrinsic k)) ds c = IsGiven (Intrinsic k) ds c
IsGivenTyped y ds c = ⊥

types_held : (b c : Bool) (p : Pos) → cond b (unless c 22 p) (breaks 32 p) ≡ [] → c ≡ true
types_held true c p e = unless_nothing c 22 p e
types_held false c p e = cons_nil _ [] e

extents_had : (ds : List KnownBounds) (ns : List ℕ) (p : Pos) → extent_breaks ds ns p ≡ [] → has_extents ds ns ≡ true
extents_had [] ns p e = cons_nil _ [] e
extents_had (x ∷ ds) ns p e = unless_nothing (has_extents (x ∷ ds) ns) 38 p e

value_given : (y : DataType) (ds : List KnownBounds) (v : DataType) (c : Constancy) (p : Pos) → IsSized c → value_breaks y ds v c p ≡ [] → IsGiven y ds c
value_given y ds v (value n) p h e = types_held (is_like y v) (all_held y (n ∷ [])) p e
value_given y ds v (values ns vs) p h e = (types_held (is_like y v) (all_held y vs) p (left_nothing (type_breaks y v vs p) (extent_breaks ds ns p) e), extents_had ds ns p (right_nothing (type_breaks y v vs p) (extent_breaks ds ns p) e), h)
value_given y ds v no_constant p h e = cons_nil _ [] e

valued_means : (s : Scope) (y : Option DataType) (ds : List KnownBounds) (e : f.Expression) (x : t.Expression) → AreSized s.constants → Means (initial_value s y ds e x) (IsGivenTyped y ds)
valued_means s (Some (Intrinsic k)) ds e x h = ruled_means (value_breaks (Intrinsic k) ds (type_of x) (value_of s x) (place_of e)) (λ b. fine_means (value_of s x) (value_given (Intrinsic k) ds (type_of x) (value_of s x) (place_of e) (known_sized s h x) b))
valued_means s (Some Team) ds e x h = ruled_means (constant_breaks (value_of s x) (place_of e)) (λ b. unknown_means)
valued_means s (Some Event) ds e x h = ruled_means (constant_breaks (value_of s x) (place_of e)) (λ b. unknown_means)
valued_means s (Some Lock) ds e x h = ruled_means (constant_breaks (value_of s x) (place_of e)) (λ b. unknown_means)
valued_means s None ds e x h = ruled_means (constant_breaks (value_of s x) (place_of e)) (λ b. unknown_means)

abbrev IsGivenIf : Option DataType → List KnownBounds → Option Constancy → Type 0
IsGivenIf y ds None = Unit {0}
IsGivenIf y ds (Some c) = IsGivenTyped y ds c

initial_means : (s : Scope) (a : Attributes) (n : List ℕ) (y : Option DataType) (ds : List KnownBounds) (o : Option f.Expression) → AreSized s.constants → Means (initial_judged s main_unit a n y ds o) (IsGivenIf y ds)
initial_means s a n y ds None h = fine_means None tt
initial_means s a n y ds (Some e) h = made_means (λ x. Some x) (ruled_means (cond (is_nothing (raw_breaks s (Some e))) (initialized_breaks main_unit (is_named_constant main_unit a n) a.is_allocatable y (place_of e)) [])
    (λ b. cond_means (lacks_value s e) (λ c. formed_means (breaks 22 (place_of e)) (λ k. no_meaning refl)) (λ c. then_means (initial_value s y ds e) (any {j = plain (placed s e)}) (λ x k. valued_means s y ds e x h)))) (λ x k. k)

-- ---- first values of a variable
abbrev pub HasFirst : Option DataType → List KnownBounds → Initial → Type 0
HasFirst y ds initials.Unstated = Unit {0}
HasFirst y ds (initials.All v) = IsGivenTyped y ds (value v)
HasFirst y ds (initials.Each vs) = (ns : List ℕ) × IsGivenTyped y ds (values ns vs)

abbrev MeantIf : Option DataType → List KnownBounds → Option (Option Constancy) → Type 0
MeantIf y ds None = Unit {0}
MeantIf y ds (Some o) = IsGivenIf y ds o

first_of : (y : Option DataType) (ds : List KnownBounds) (o : Option (Option Constancy)) → MeantIf y ds o → HasFirst y ds (initial_of o)
first_of y ds None h = tt
first_of y ds (Some None) h = tt
first_of y ds (Some (Some (value v))) h = h
first_of y ds (Some (Some (values ns vs))) h = (ns, h)
first_of y ds (Some (Some no_constant)) h = tt

meant : (y : Option DataType) (ds : List KnownBounds) (j : Judgement (Option Constancy)) (o : Option (Option Constancy)) → j.meaning ≡ o → j.breaks ≡ [] → Means j (IsGivenIf y ds) → MeantIf y ds o
meant y ds j None e b h = tt
meant y ds j (Some x) e b h = h.means b x e

-- ---- array constants
with_first_of : (m : ℤ × ℤ) (o : Option (List (ℤ × ℤ))) (es : List (ℤ × ℤ)) → with_first m o ≡ Some es → (rest : List (ℤ × ℤ)) × (o ≡ Some rest) × (m ∷ rest ≡ es)
with_first_of m None es e = none_some es e
with_first_of m (Some rest) es e = (rest, refl, some_same (m ∷ rest) es e)

extents_size : (ds : List KnownBounds) (ns : List ℕ) (es : List (ℤ × ℤ)) → has_extents ds ns ≡ true → all_bounds ds ≡ Some es → product ns ≡ size_of es
extents_size [] [] es h e = ap size_of (some_same [] es e)
extents_size [] (n ∷ ns) es h e = no h
extents_size (None ∷ ds) [] es h e = no h
extents_size (None ∷ ds) (n ∷ ns) es h e = none_some es e
extents_size (Some m ∷ ds) [] es h e = no h
extents_size (Some m ∷ ds) (n ∷ ns) es h e =
    let w = with_first_of m (all_bounds ds) es e in
    let q : extent_of m ≡ n = same_number (extent_of m) n (and_left (nat_eq (extent_of m) n) (has_extents ds ns) h) in
    let r = extents_size ds ns w.0 (and_right (nat_eq (extent_of m) n) (has_extents ds ns) h) w.1 in
    subst (λ xs. n * product ns ≡ size_of xs) w.2 (ap (λ k. k * product ns) (sym q) ∙ ap (λ k. extent_of m * k) r)

abbrev SizedIf : Option Constant → Type 0
SizedIf None = Unit {0}
SizedIf (Some c) = IsSizedConstant c

constant_sized : (y : Option DataType) (ds : List KnownBounds) (o : Option (List (ℤ × ℤ))) (j : Option (Option Constancy)) → all_bounds ds ≡ o → MeantIf y ds j → SizedIf (array_constant_of y o j)
constant_sized (Some (Intrinsic k)) ds (Some es) (Some (Some (value v))) e h = length-replicate (size_of es) v
constant_sized (Some (Intrinsic k)) ds (Some es) (Some (Some (values ns vs))) e h = h.2 ∙ extents_size ds ns es h.1 e
constant_sized (Some (Intrinsic k)) ds (Some es) (Some (Some no_constant)) e h = absurd h
constant_sized (Some (Intrinsic k)) ds (Some es) (Some None) e h = tt
constant_sized (Some (Intrinsic k)) ds (Some es) None e h = tt
constant_sized (Some (Intrinsic k)) ds None j e h = tt
constant_sized (Some Team) ds o j e h = tt
constant_sized (Some Event) ds o j e h = tt
constant_sized (Some Lock) ds o j e h = tt
constant_sized None ds o j e h = tt

both_sized : (cs ks : List Constant) → AreSized cs → AreSized ks → AreSized (cs ++ ks)
both_sized [] ks h k = k
both_sized (c ∷ cs) ks h k = (h.0, both_sized cs ks h.1 k)

further_sized : (ds : List KnownBounds) (o : Option Constant) → SizedIf o → AreSized (further_constants ds o)
further_sized [] o h = tt
further_sized (x ∷ ds) None h = tt
further_sized (x ∷ ds) (Some c) h = (h, tt)

-- ---- names
abbrev IsFirstMeant : Meaning → Type 0
IsFirstMeant (Names.variable x) = HasFirst x.of_type x.bounds x.initial
IsFirstMeant m = Unit {0}

abbrev AllMeant : List Named → Type 0
AllMeant [] = Unit {0}
AllMeant (x ∷ xs) = IsFirstMeant x.meaning × AllMeant xs

both_meant : (xs ys : List Named) → AllMeant xs → AllMeant ys → AllMeant (xs ++ ys)
both_meant [] ys h k = k
both_meant (x ∷ xs) ys h k = (h.0, both_meant xs ys h.1 k)

abbrev IsFirstScope : Scope → Type 0
IsFirstScope s = AllMeant s.own × AreSized s.constants

entity_first : (s : Scope) (a : Attributes) (y : Option DataType) (e : d.Entity) (b : Bool) → IsFirstScope s → IsSound s main_unit a y e
    → IsFirstScope (cond b (constant_entity s (dimensions_known s a.is_allocatable (effective_dimensions a e)) y e (initial_judged s main_unit a e.name.text y (dimensions_known s a.is_allocatable (effective_dimensions a e)) e.initial).meaning) (with_name s (variable_entity s main_unit a y e)))
entity_first s a y e true h k =
    let ds = dimensions_known s a.is_allocatable (effective_dimensions a e) in
    let j = initial_judged s main_unit a e.name.text y ds e.initial in
    let o = array_constant_of y (all_bounds ds) j.meaning in
    let m = meant y ds j j.meaning refl k.initial (initial_means s a e.name.text y ds e.initial h.1) in
    (both_meant s.own (named e.name.text _ ∷ []) h.0 (tt, tt), both_sized s.constants (further_constants ds o) h.1 (further_sized ds o (constant_sized y ds (all_bounds ds) j.meaning refl m)))
entity_first s a y e false h k =
    let ds = dimensions_known s a.is_allocatable (effective_dimensions a e) in
    let j = initial_judged s main_unit a e.name.text y ds e.initial in
    let m = meant y ds j j.meaning refl k.initial (initial_means s a e.name.text y ds e.initial h.1) in
    (both_meant s.own (variable_entity s main_unit a y e ∷ []) h.0 (first_of y ds j.meaning m, tt), h.1)

abbrev AreFirst : List Symbol → Type 0
AreFirst [] = Unit {0}
AreFirst (x ∷ xs) = HasFirst x.of_type x.bounds x.initial × AreFirst xs

first_step : (m : Meaning) (xs : List Symbol) → IsFirstMeant m → AreFirst xs → AreFirst (elim m [ Names.variable y ↦ y ∷ xs | o ↦ xs ])
first_step (Names.variable x) xs h k = (h, k)
first_step (Names.constant c) xs h k = k
first_step (Names.subroutine n) xs h k = k
first_step (Names.function n) xs h k = k
first_step (Names.module_constant n) xs h k = k
first_step (Names.module_type n) xs h k = k
first_step (Names.intrinsic_function n) xs h k = k
first_step (Names.intrinsic_subroutine n) xs h k = k

all_first : (xs : List Named) → AllMeant xs → AreFirst (variables_of xs)
all_first [] h = tt
all_first (x ∷ xs) h = first_step x.meaning (variables_of xs) h.0 (all_first xs h.1)

declared_first : (p : u.Program) (is : _) → (main_declared p is).breaks ≡ [] → AreFirst (variables_of (main_declared p is).scope.own)
declared_first p is e = all_first (main_declared p is).scope.own
    (declarations_keep main_unit IsFirstScope (λ s a y x h k. entity_first s a y x (is_named_constant main_unit a x.name.text) h k) p.body.declarations (record (first_scope p) { interfaces = is }) (tt, tt) e).0

-- ---- values in memory
zero_suits : (k : Kind) → is_of_kind k (arithmetic.value_of k (pos 0)) ≡ true
zero_suits I4 = refl
zero_suits I8 = refl
zero_suits L4 = refl

number_suits : (k : Kind) (v : Value) → is_held (Intrinsic k) v ≡ true → is_of_kind k (arithmetic.value_of k (arithmetic.number_of v)) ≡ true
number_suits I4 (Int n) h = h
number_suits I4 (Truth b) h = no h
number_suits I8 (Int n) h = h
number_suits I8 (Truth b) h = no h
number_suits L4 v h = refl

abbrev Suit : Kind → List ℤ → Type 0
Suit k ns = list_all (is_of_kind k) (map (arithmetic.value_of k) ns) ≡ true

and_true : (a b : Bool) → a ≡ true → b ≡ true → a && b ≡ true
and_true true b e g = g
and_true false b e g = no e

same_suit : (k : Kind) (n : ℕ) (z : ℤ) → is_of_kind k (arithmetic.value_of k z) ≡ true → Suit k (replicate n z)
same_suit k zero z h = refl
same_suit k (suc n) z h = and_true _ _ h (same_suit k n z h)

each_suit : (k : Kind) (vs : List Value) → all_held (Intrinsic k) vs ≡ true → Suit k (map arithmetic.number_of vs)
each_suit k [] h = refl
each_suit k (v ∷ vs) h = and_true _ _ (number_suits k v (and_left (is_held (Intrinsic k) v) (all_held (Intrinsic k) vs) h)) (each_suit k vs (and_right (is_held (Intrinsic k) v) (all_held (Intrinsic k) vs) h))

abbrev Fill : Kind → ℕ → List ℤ → Type 0
Fill k n ns = (length ns ≡ n) × Suit k ns

filled : (k : Kind) (ds : List KnownBounds) (es : List (ℤ × ℤ)) (i : Initial) → all_bounds ds ≡ Some es → HasFirst (Some (Intrinsic k)) ds i → Fill k (size_of es) (start.first_values i (size_of es))
filled k ds es initials.Unstated e h = (length-replicate (size_of es) (pos 0), same_suit k (size_of es) (pos 0) (zero_suits k))
filled k ds es (initials.All v) e h = (length-replicate (size_of es) (arithmetic.number_of v), same_suit k (size_of es) (arithmetic.number_of v) (number_suits k v (and_left (is_held (Intrinsic k) v) true h)))
filled k ds es (initials.Each vs) e h = (length-map vs arithmetic.number_of ∙ h.1.2 ∙ extents_size ds h.0 es h.1.1 e, each_suit k vs h.1.0)

team_filled : (ds : List KnownBounds) (es : List (ℤ × ℤ)) (i : Initial) → HasFirst (Some Team) ds i → Fill I4 (size_of es) (start.first_values i (size_of es))
team_filled ds es initials.Unstated h = (length-replicate (size_of es) (pos 0), same_suit I4 (size_of es) (pos 0) refl)
team_filled ds es (initials.All v) h = absurd h
team_filled ds es (initials.Each vs) h = absurd h.1

there : (k : Kind) (n : ℕ) (ns : List ℤ) → Fill k n ns → nat_eq (length (map (arithmetic.value_of k) ns)) n && list_all (is_of_kind k) (map (arithmetic.value_of k) ns) ≡ true
there k n ns h = and_true _ _ (eq-eqb _ _ (length-map ns (arithmetic.value_of k) ∙ h.0)) h.1

first_there : (y : DataType) (ds : List KnownBounds) (es : List (ℤ × ℤ)) (co : Codimensions) (i : Initial) → all_bounds ds ≡ Some es → HasFirst (Some y) ds i
    → has_first_values (in_memory (declared_coarray (cell_type y) i (start.own_of (Some es) co))) ≡ true
first_there y ds es coshapes.Absent i e h = refl
first_there y ds es (coshapes.Deferred n) i e h = refl
first_there (Intrinsic k) ds es (coshapes.Explicit co) i e h = there k (size_of es) (start.first_values i (size_of es)) (filled k ds es i e h)
first_there Team ds es (coshapes.Explicit co) i e h = there I4 (size_of es) (start.first_values i (size_of es)) (team_filled ds es i h)
first_there Event ds es (coshapes.Explicit co) i e h = refl
first_there Lock ds es (coshapes.Explicit co) i e h = refl

first_by : (x : Symbol) (y : DataType) (ds : Dimensions) → DimensionsOf x ds → HasFirst (Some y) x.bounds x.initial
    → has_first_values (in_memory (declared_coarray (cell_type y) x.initial (start.own_of (declared_bounds ds) x.coshape))) ≡ true
first_by x y (shapes.Deferred n) e h = refl
first_by x y (shapes.Explicit s) e h = first_there y x.bounds s.dims x.coshape x.initial e h

typed : (o : Option DataType) (y : DataType) → (Units.type_known o).meaning ≡ Some y → o ≡ Some y
typed None y e = none_some y e
typed (Some z) y e = e

coarray_first : (x : Symbol) (v : Variable) → HasFirst x.of_type x.bounds x.initial → (variable_of x).meaning ≡ Some v → has_first_values (in_memory (coarray_of v)) ≡ true
coarray_first x v h e =
    let o = of_both (λ y ds. record { name = x.name; of_type = y; dimensions = ds; codimensions = x.coshape; is_allocatable = x.is_allocatable; initial = x.initial }) (Units.type_known x.of_type).meaning (dimensions_of x).meaning v e in
    let k : HasFirst (Some o.0) x.bounds x.initial = subst (λ z. HasFirst z x.bounds x.initial) (typed x.of_type o.0 o.2) h in
    subst (λ w. has_first_values (in_memory (coarray_of w)) ≡ true) o.4 (first_by x o.0 o.1 (dimensions_from x (x.is_allocatable && not (nat_eq (length x.bounds) 0)) (all_bounds x.bounds) refl o.1 o.3) k)

-- ---- all coarrays
abbrev numbers : Bool → ℕ → List ℕ → List ℕ
numbers b k ns = cond b ns (k ∷ ns)

abbrev AllFirst : List Variable → List ℕ → Type 0
AllFirst vs ns = list_all has_first_values (map in_memory (map (coarray_at vs) ns)) ≡ true

one_first : (vs : List Variable) (k : ℕ) (ns : List ℕ) (b : Bool) → has_first_values (in_memory (coarray_at vs k)) ≡ true → AllFirst vs ns → AllFirst vs (numbers b k ns)
one_first vs k ns true h i = i
one_first vs k ns false h i = and_true (has_first_values (in_memory (coarray_at vs k))) _ h i

coarrays_first : (vs : List Variable) (xs : List Symbol) (k : ℕ) → AreAt vs k xs → AreFirst xs → AllFirst vs (coarray_numbers k xs)
coarrays_first vs [] k a h = refl
coarrays_first vs (x ∷ xs) k a h =
    let same : coarray_of a.0.0 ≡ coarray_at vs k = ap coarray_found (sym a.0.1) in
    one_first vs k (coarray_numbers (k + 1) xs) (nat_eq x.corank 0) (subst (λ c. has_first_values (in_memory c) ≡ true) same (coarray_first x a.0.0 h.0 a.0.2)) (coarrays_first vs xs (k + 1) a.1 h.1)

-- ---- the program
abbrev HasFirsts : ts.Program → Type 0
HasFirsts c = list_all has_first_values (coarrays_of c) ≡ true

with_first_values : (p : u.Program) (s : Scope) (os : List Opened) (is : List Names.Interface) (cs : _) → AreFirst (variables_of s.own) → Means (program_with p s os is cs) HasFirsts
with_first_values p s os is cs f = record {
  means = λ e x m.
      let start' : Counted = record { criticals = 0; literals = [] } in
      let c = counted_statements p.body.statements in
      let xs = variables_of s.own in
      let form = program_form p xs cs (behind c (counted_all os)) in
      let a = unit_judged xs p.body.statements (judged_statements (position_of (completed is cs s) start') p.body.statements) in
      let b = procedures_judged is cs c os in
      let o = of_both form a.meaning b.meaning x m in
      let w = of_both _ (all_made (map variable_of xs)).meaning (judged_statements (position_of (completed is cs s) start') p.body.statements).meaning o.0 o.2 in
      let k : AllFirst w.0 (coarray_numbers 0 xs) = coarrays_first w.0 xs 0 (made_at xs w.0 w.2) f in
      subst HasFirsts o.4 (subst (λ v. HasFirsts (form v o.1)) w.4 k);
}

pub program_first : (p : u.Program) → Means (program_judged p) HasFirsts
program_first p =
    let is0 = interfaces_of p in
    let x = main_declared p is0 in
    let s = record x.scope { pending = [] } in
    let os = opened_procedures s (procedures_of p) in
    ruled_means x.breaks (λ e. ruled_means (uses_breaks p.uses ++ (twice_breaks (map name_of s.own) (headings_of p) ++ (opened_breaks os ++ (Declarations.limit_breaks (variables_of s.own) ++ end_breaks p.name p.end.name)))) (λ w.
    with_first_values p s os (map interface_of os) (constants_behind s os) (declared_first p is0 e)))
