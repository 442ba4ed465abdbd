-- The coarrays that an accepted program begins with are few, and have no more cells than an image may have.
use Rattle.std.proofs.Common.{◌≡◌, ℕ, suc, ◌+◌, ◌≤◌, Bool, true, false, List, [], ◌∷◌, ◌++◌, length, refl, sym, ap, subst, arith}
use Rattle.std.proofs.lemmas.Bool.{le-leb, ltb-false}
use Rattle.std.proofs.lemmas.List.{length-map}
use Rattle.std.specs.Prelude.{cond, not, nat_eq, nat_lt, nat_le, ℤ, ◌&&◌, ◌||◌, map, Option, Some, None, slice_get}
use Rattle.caf_base.specs.declared.place.Pos.{Pos}
use Rattle.coarray_types.specs.Places.{size_of}
use Rattle.fortran_tree.specs.Statements as d
use Rattle.fortran_tree.specs.Units as u
use Rattle.checked_tree.specs.declared.data.DataType.{DataType}
use Rattle.checked_tree.specs.declared.data.Dimensions.{Dimensions}
use Rattle.checked_tree.specs.declared.data.Dimensions.TheVariants as shapes
use Rattle.checked_tree.specs.declared.data.Codimensions.{Codimensions}
use Rattle.checked_tree.specs.declared.data.Codimensions.TheVariants as coshapes
use Rattle.checked_tree.specs.declared.data.Variable.{Variable}
use Rattle.checked_tree.specs.Statements as ts
use Rattle.image_acts.specs.Statuses.{most_cells}
use Rattle.image_code.specs.declared.tables.Coarray.{Coarray}
use Rattle.tree_meaning.specs.Environment.{declared_bounds}
use Rattle.tree_meaning.specs.Start as start
use Rattle.program_tables.specs.Tables.{cell_type, declared_coarray, coarray_of, coarray_found, coarray_at, tables_of}
use Rattle.coarray_tables.specs.Start.{first_own, own_size}
use Rattle.coarray_tables.specs.Fits.{is_fit, are_fit}
use Rattle.rule_definitions.specs.Judgements.{fine, unknown, all_made}
use Rattle.rule_definitions.specs.Names
use Rattle.rule_definitions.specs.Names.{Scope, Symbol, Named, named, Meaning, KnownBounds, variables_of}
use Rattle.rule_definitions.specs.Constants.{all_bounds, with_first}
use Rattle.rule_definitions.specs.Declarations.{Attributes, is_shaped, coshape_known, dimension_judged, dimensions_known, effective_dimensions, effective_coshape, is_named_constant, constant_entity, initial_judged, with_name, variable_entity, cells_of, passing_breaks, cells_breaks, coarrays_among, locals_among, limit_breaks}
use Rattle.rule_definitions.specs.Statements.{Counted, counted_statements, behind, judged_statements, end_breaks}
use Rattle.rule_definitions.specs.Units.{uses_breaks, twice_breaks, Opened, opened_procedures, constants_behind, interface_of, dimensions_of, variable_of, unit_judged, procedures_judged, position_of, completed, coarray_numbers, procedures_of, main_unit, headings_of, first_scope, opened_breaks, name_of, program_form, program_with, counted_all, main_declared, interfaces_of, program_judged}
use Rattle.rule_laws.proofs.Filled.{all_meant, meant_both}
use Rattle.accepted_ranks.proofs.Means.{Means, none_some, some_same, no, left_nothing, right_nothing, unless_nothing, and_left, and_right, ruled_means, of_both}
use Rattle.accepted_runs.proofs.Declared.{IsSound, declarations_keep}
use Rattle.accepted_runs.proofs.Cobounds.{has_cobounds, is_open, coshape_has, coshape_open}

and_true : (a b : Bool) → a ≡ true → b ≡ true → a && b ≡ true
and_true true b e g = g
and_true false b e g = no e

-- ---- variables
abbrev pub is_few : Symbol → Bool
is_few x = nat_le (length x.bounds) 3 && (has_cobounds x.coshape && (not x.is_allocatable || is_open x.coshape))

abbrev pub is_few_meant : Meaning → Bool
is_few_meant (Names.variable x) = is_few x
is_few_meant m = true

open_if : (s : Scope) (b : Bool) (ds : List d.Dimension) (c : Option d.CoarraySpec) → is_shaped b ds c ≡ true → not b || is_open (coshape_known s c) ≡ true
open_if s true ds c h = coshape_open s ds c h
open_if s false ds c h = refl

variable_few : (s : Scope) (a : Attributes) (y : Option DataType) (e : d.Entity) → IsSound s main_unit a y e → is_few_meant (variable_entity s main_unit a y e).meaning ≡ true
variable_few s a y e h =
    let ds = effective_dimensions a e in
    let c = effective_coshape a e in
    and_true _ _ (subst (λ n. nat_le n 3 ≡ true) (sym (length-map ds (λ x. cond a.is_allocatable None (dimension_judged s x).meaning))) h.rank)
    (and_true _ _ (coshape_has s a.is_allocatable ds c h.corank h.shaped h.coshape) (open_if s a.is_allocatable ds c h.shaped))

abbrev IsFewScope : Scope → Type 0
IsFewScope s = all_meant is_few_meant s.own ≡ true

one_meant : (m : Meaning) → is_few_meant m ≡ true → is_few_meant m && true ≡ true
one_meant m h = and_true (is_few_meant m) true h refl

entity_few : (s : Scope) (a : Attributes) (y : Option DataType) (e : d.Entity) (b : Bool) → IsFewScope s → IsSound s main_unit a y e
    → IsFewScope (cond b (constant_entity s (dimensions_known s a.is_allocatable (effective_dimensions a e)) y e (initial_judged s main_unit a e.name.text y (dimensions_known s a.is_allocatable (effective_dimensions a e)) e.initial).meaning) (with_name s (variable_entity s main_unit a y e)))
entity_few s a y e true h k = meant_both is_few_meant s.own (named e.name.text _ ∷ []) h refl
entity_few s a y e false h k = meant_both is_few_meant s.own (variable_entity s main_unit a y e ∷ []) h (one_meant (variable_entity s main_unit a y e).meaning (variable_few s a y e k))

abbrev pub AreFew : List Symbol → Type 0
AreFew [] = Unit {0}
AreFew (x ∷ xs) = (is_few x ≡ true) × AreFew xs

few_step : (m : Meaning) (xs : List Symbol) → is_few_meant m ≡ true → AreFew xs → AreFew (elim m [ Names.variable y ↦ y ∷ xs | o ↦ xs ])
few_step (Names.variable x) xs h k = (h, k)
few_step (Names.constant c) xs h k = k
few_step (Names.subroutine n) xs h k = k
few_step (Names.function n) xs h k = k
few_step (Names.module_constant n) xs h k = k
few_step (Names.module_type n) xs h k = k
few_step (Names.intrinsic_function n) xs h k = k
few_step (Names.intrinsic_subroutine n) xs h k = k

all_few : (xs : List Named) → all_meant is_few_meant xs ≡ true → AreFew (variables_of xs)
all_few [] h = tt
all_few (x ∷ xs) h = few_step x.meaning (variables_of xs) (and_left (is_few_meant x.meaning) (all_meant is_few_meant xs) h) (all_few xs (and_right (is_few_meant x.meaning) (all_meant is_few_meant xs) h))

pub declared_few : (p : u.Program) (is : _) → (main_declared p is).breaks ≡ [] → AreFew (variables_of (main_declared p is).scope.own)
declared_few p is e = all_few (main_declared p is).scope.own
    (declarations_keep main_unit IsFewScope (λ s a y x h k. entity_few s a y x (is_named_constant main_unit a x.name.text) h k) p.body.declarations (record (first_scope p) { interfaces = is }) refl e)

-- ---- the numbers of coarrays
abbrev pub AreAt : List Variable → ℕ → List Symbol → Type 0
AreAt vs k [] = Unit {0}
AreAt vs k (x ∷ xs) = ((v : Variable) × (slice_get vs k ≡ Some v) × ((variable_of x).meaning ≡ Some v)) × AreAt vs (k + 1) xs

abbrev made_list : List Symbol → Option (List Variable)
made_list xs = (all_made (map variable_of xs)).meaning

behind_first : (v : Variable) (vs : List Variable) (k : ℕ) (xs : List Symbol) → AreAt vs k xs → AreAt (v ∷ vs) (k + 1) xs
behind_first v vs k [] h = tt
behind_first v vs k (x ∷ xs) h =
    let z : suc k ≡ k + 1 = omega arith in
    ((h.0.0, subst (λ i. slice_get (v ∷ vs) i ≡ Some h.0.0) z h.0.1, h.0.2), behind_first v vs (k + 1) xs h.1)

pub made_at : (xs : List Symbol) (vs : List Variable) → made_list xs ≡ Some vs → AreAt vs 0 xs
made_at [] vs e = tt
made_at (x ∷ xs) vs e =
    let o = of_both (λ w ws. w ∷ ws) (variable_of x).meaning (made_list xs) vs e in
    let rest = behind_first o.0 o.1 0 xs (made_at xs o.1 o.3) in
    subst (λ ws. AreAt ws 0 (x ∷ xs)) o.4 ((o.0, refl, o.2), rest)

-- ---- one coarray
with_first_of : (m : ℤ × ℤ) (o : Option (List (ℤ × ℤ))) (ds : List (ℤ × ℤ)) → with_first m o ≡ Some ds → (rest : List (ℤ × ℤ)) × (o ≡ Some rest) × (m ∷ rest ≡ ds)
with_first_of m None ds e = none_some ds e
with_first_of m (Some rest) ds e = (rest, refl, some_same (m ∷ rest) ds e)

bounds_count : (bs : List KnownBounds) (ds : List (ℤ × ℤ)) → all_bounds bs ≡ Some ds → length ds ≡ length bs
bounds_count [] ds e = sym (ap length (some_same [] ds e))
bounds_count (None ∷ bs) ds e = none_some ds e
bounds_count (Some m ∷ bs) ds e =
    let w = with_first_of m (all_bounds bs) ds e in
    let r = bounds_count bs w.0 w.1 in
    let q = ap length w.2 in
    omega arith

-- what a coarray of a variable has, where the variable is a symbol's
pub record IsHeld (c : Coarray) (n : ℕ) : Type 0 where
  pub fit : is_fit c ≡ true
  pub cells : own_size (first_own c) ≤ n

none_held : (t : _) (i : _) (n : ℕ) → IsHeld (declared_coarray t i None) n
none_held t i n = record { fit = refl; cells = omega arith }

explicit_held : (t : _) (i : _) (b : Bool) (bs : List KnownBounds) (ds : List (ℤ × ℤ)) (co : Codimensions) → all_bounds bs ≡ Some ds → nat_le (length bs) 3 ≡ true → has_cobounds co ≡ true → not b || is_open co ≡ true
    → IsHeld (declared_coarray t i (start.own_of (Some ds) co)) (cond b 0 (elim (all_bounds bs) [ None ↦ 0 | Some es ↦ size_of es ]))
explicit_held t i b bs ds coshapes.Absent e r h k = none_held t i _
explicit_held t i b bs ds (coshapes.Deferred n) e r h k = none_held t i _
explicit_held t i true bs ds (coshapes.Explicit co) e r h k = no k
explicit_held t i false bs ds (coshapes.Explicit co) e r h k = record {
  fit = and_true _ _ (subst (λ n. nat_le n 3 ≡ true) (sym (bounds_count bs ds e)) r) h;
  cells = (let z : elim (all_bounds bs) [ None ↦ 0 | Some es ↦ size_of es ] ≡ size_of ds = ap (λ o. elim o [ None ↦ 0 | Some es ↦ size_of es ]) e in omega arith);
}

abbrev pub DimensionsOf : Symbol → Dimensions → Type 0
DimensionsOf x (shapes.Deferred n) = Unit {0}
DimensionsOf x (shapes.Explicit s) = all_bounds x.bounds ≡ Some s.dims

pub dimensions_from : (x : Symbol) (b : Bool) (o : Option (List (ℤ × ℤ))) → all_bounds x.bounds ≡ o → (ds : Dimensions)
    → (cond b (fine (shapes.Deferred (length x.bounds))) (elim o [ None ↦ unknown | Some es ↦ fine (shapes.Explicit (record { dims = es })) ])).meaning ≡ Some ds → DimensionsOf x ds
dimensions_from x true o e ds g = subst (DimensionsOf x) (some_same (shapes.Deferred (length x.bounds)) ds g) tt
dimensions_from x false None e ds g = none_some ds g
dimensions_from x false (Some es) e ds g = subst (DimensionsOf x) (some_same (shapes.Explicit (record { dims = es })) ds g) e

held_by : (x : Symbol) (y : DataType) (ds : Dimensions) → DimensionsOf x ds → is_few x ≡ true
    → IsHeld (declared_coarray (cell_type y) x.initial (start.own_of (declared_bounds ds) x.coshape)) (cells_of x)
held_by x y (shapes.Deferred n) e h = none_held (cell_type y) x.initial (cells_of x)
held_by x y (shapes.Explicit s) e h =
    let a = nat_le (length x.bounds) 3 in
    let b = has_cobounds x.coshape in
    let c = not x.is_allocatable || is_open x.coshape in
    let g = and_right a (b && c) h in
    explicit_held (cell_type y) x.initial x.is_allocatable x.bounds s.dims x.coshape e (and_left a (b && c) h) (and_left b c g) (and_right b c g)

pub coarray_held : (x : Symbol) (v : Variable) → is_few x ≡ true → (variable_of x).meaning ≡ Some v → IsHeld (coarray_of v) (cells_of x)
coarray_held x v h e =
    let o = of_both (λ y ds. record { name = x.name; of_type = y; dimensions = ds; codimensions = x.coshape; is_allocatable = x.is_allocatable; initial = x.initial }) _ (dimensions_of x).meaning v e in
    subst (λ w. IsHeld (coarray_of w) (cells_of x)) o.4 (held_by x o.0 o.1 (dimensions_from x (x.is_allocatable && not (nat_eq (length x.bounds) 0)) (all_bounds x.bounds) refl o.1 o.3) h)

-- ---- all coarrays
within : (sum more : ℕ) (p : Pos) → sum ≤ 65536 → passing_breaks sum more p ≡ [] → sum + more ≤ 65536
within sum more p h e =
    let a = le-leb sum 65536 h in
    let b = unless_nothing (not (nat_le sum 65536 && nat_lt 65536 (sum + more))) 30 p e in
    not_more (nat_lt 65536 (sum + more)) refl (subst (λ k. not (k && nat_lt 65536 (sum + more)) ≡ true) a b)
  where
    not_more : (k : Bool) → nat_lt 65536 (sum + more) ≡ k → not (true && k) ≡ true → sum + more ≤ 65536
    not_more true f g = no g
    not_more false f g = (let w = ltb-false 65536 (sum + more) f in omega arith)

abbrev among : Bool → Symbol → List Symbol → List Symbol
among b x xs = cond b xs (x ∷ xs)

abbrev numbers : Bool → ℕ → List ℕ → List ℕ
numbers b k ns = cond b ns (k ∷ ns)

-- the coarrays of these symbols fit beside n cells, where the rules count so many
abbrev FitBeside : List Variable → ℕ → List Symbol → Type 0
FitBeside vs k xs = (n sum : ℕ) → n ≤ sum → sum ≤ 65536 → cells_breaks sum (coarrays_among xs) ≡ [] → are_fit n (map (coarray_at vs) (coarray_numbers k xs)) ≡ true

one_fit : (vs : List Variable) (x : Symbol) (xs : List Symbol) (k n sum : ℕ) (b : Bool) → AreAt vs k (x ∷ xs) → is_few x ≡ true → FitBeside vs (k + 1) xs → n ≤ sum → sum ≤ 65536 → cells_breaks sum (among b x (coarrays_among xs)) ≡ []
    → are_fit n (map (coarray_at vs) (numbers b k (coarray_numbers (k + 1) xs))) ≡ true
one_fit vs x xs k n sum true a f others h l e = others n sum h l e
one_fit vs x xs k n sum false a f others h l e =
    let held = coarray_held x a.0.0 f a.0.2 in
    let same : coarray_of a.0.0 ≡ coarray_at vs k = ap coarray_found (sym a.0.1) in
    let c = coarray_of a.0.0 in
    let ps = passing_breaks sum (cells_of x) x.at in
    let rest = cells_breaks (sum + cells_of x) (coarrays_among xs) in
    let fine = within sum (cells_of x) x.at l (left_nothing ps rest e) in
    let more = held.cells in
    let below : n + own_size (first_own c) ≤ sum + cells_of x = omega arith in
    let few : n + own_size (first_own c) ≤ most_cells = omega arith in
    let behind' = others (n + own_size (first_own c)) (sum + cells_of x) below fine (right_nothing ps rest e) in
    subst (λ w. are_fit n (w ∷ map (coarray_at vs) (coarray_numbers (k + 1) xs)) ≡ true) same (and_true (is_fit c) _ held.fit (and_true (nat_le (n + own_size (first_own c)) most_cells) _ (le-leb _ _ few) behind'))

coarrays_fit : (vs : List Variable) (xs : List Symbol) (k : ℕ) → AreAt vs k xs → AreFew xs → FitBeside vs k xs
coarrays_fit vs [] k a f n sum h l e = refl
coarrays_fit vs (x ∷ xs) k a f n sum h l e = one_fit vs x xs k n sum (nat_eq x.corank 0) a f.0 (coarrays_fit vs xs (k + 1) a.1 f.1) h l e

-- ---- the program
abbrev BeginsWell : ts.Program → Type 0
BeginsWell c = are_fit 0 (tables_of c).coarrays ≡ true

with_fit : (p : u.Program) (s : Scope) (os : List Opened) (is : List Names.Interface) (cs : _) → AreFew (variables_of s.own) → limit_breaks (variables_of s.own) ≡ [] → Means (program_with p s os is cs) BeginsWell
with_fit p s os is cs f l = record {
  means = λ e x m.
      let start' : Counted = record { criticals = 0; literals = [] } in
      let c = counted_statements p.body.statements in
      let xs = variables_of s.own in
      let form = program_form p xs cs (behind c (counted_all os)) in
      let a = unit_judged xs p.body.statements (judged_statements (position_of (completed is cs s) start') p.body.statements) in
      let b = procedures_judged is cs c os in
      let o = of_both form a.meaning b.meaning x m in
      let w = of_both _ (all_made (map variable_of xs)).meaning (judged_statements (position_of (completed is cs s) start') p.body.statements).meaning o.0 o.2 in
      let k : are_fit 0 (map (coarray_at w.0) (coarray_numbers 0 xs)) ≡ true = coarrays_fit w.0 xs 0 (made_at xs w.0 w.2) f 0 0 (omega arith) (omega arith) (left_nothing (cells_breaks 0 (coarrays_among xs)) (cells_breaks 0 (locals_among xs)) l) in
      subst BeginsWell o.4 (subst (λ v. BeginsWell (form v o.1)) w.4 k);
}

pub program_fits : (p : u.Program) → Means (program_judged p) BeginsWell
program_fits p =
    let is0 = interfaces_of p in
    let x = main_declared p is0 in
    let s = record x.scope { pending = [] } in
    let os = opened_procedures s (procedures_of p) in
    let a = uses_breaks p.uses in
    let b = twice_breaks (map name_of s.own) (headings_of p) in
    let c = opened_breaks os in
    let l = limit_breaks (variables_of s.own) in
    let y = end_breaks p.name p.end.name in
    ruled_means x.breaks (λ e. ruled_means (a ++ (b ++ (c ++ (l ++ y)))) (λ w.
    with_fit p s os (map interface_of os) (constants_behind s os) (declared_few p is0 e)
    (left_nothing l y (right_nothing c (l ++ y) (right_nothing b (c ++ (l ++ y)) (right_nothing a (b ++ (c ++ (l ++ y))) w))))))
