-- The interface of a procedure is that of the typed one: its dummies and its result have the ranks of its variables.
use Rattle.std.proofs.Common.{◌≡◌, ◌∙◌, ℕ, ℤ, zero, suc, ◌+◌, Bool, true, false, List, [], ◌∷◌, length, refl, sym, ap, subst, arith}
use Rattle.std.specs.Prelude.{cond, not, map, nat_eq, bytes_eq, nat_le, ◌&&◌, Option, Some, None}
use Rattle.fortran_tree.specs.Statements as fs
use Rattle.fortran_tree.specs.declared.name.Name.{Name}
use Rattle.checked_tree.specs.Statements as ts
use Rattle.checked_tree.specs.Statements.{Procedure}
use Rattle.checked_tree.specs.declared.data.Dimensions.{Dimensions}
use Rattle.checked_tree.specs.declared.data.Dimensions.TheVariants as shapes
use Rattle.checked_tree.specs.declared.data.Variable.{Variable}
use Rattle.rule_definitions.specs.Judgements.{Judgement, fine, unknown, all_made, item_at}
use Rattle.rule_definitions.specs.Names
use Rattle.rule_definitions.specs.Names.{Symbol, Named, Meaning, Interface, KnownBounds, is_declared_role, variables_of}
use Rattle.rule_definitions.specs.Constants.{all_bounds, with_first}
use Rattle.rule_definitions.specs.Statements.{Counted, counted_statements, behind, judged_statements}
use Rattle.rule_definitions.specs.Units.{Opened, symbol_named, symbols_named, interface_of, dimensions_of, type_known, variable_of, unit_judged, number_of, dummy_typed, procedure_form, completed, position_of, procedure_judged, procedures_judged}
use Rattle.checked_tree.specs.declared.data.Constant.{Constant}
use Rattle.tree_meaning.specs.Environment.{rank_in, rank_of}
use Rattle.made_code.specs.Ranks.{procedure_at}
use Rattle.rule_laws.proofs.Filled.{all_meant}
use Rattle.accepted_ranks.specs.Scopes.{AreDummies, HasResult, IsInterfaceOf}
use Rattle.accepted_ranks.proofs.Means.{none_some, some_same, of_made, of_both, and_left, and_right}
use Rattle.accepted_ranks.proofs.Declared.{is_kept, is_variable, is_fit, ArePlaced}

-- ---- variables have the ranks of their symbols
first_long : (d : ℤ × ℤ) (o : Option (List (ℤ × ℤ))) (n : ℕ) (bs : List (ℤ × ℤ)) → ((cs : List (ℤ × ℤ)) → o ≡ Some cs → length cs ≡ n) → with_first d o ≡ Some bs → length bs ≡ suc n
first_long d None n bs h e = none_some bs e
first_long d (Some cs) n bs h e = subst (λ k. length k ≡ suc n) (some_same (d ∷ cs) bs e) (ap suc (h cs refl))

bounds_long : (ds : List KnownBounds) (bs : List (ℤ × ℤ)) → all_bounds ds ≡ Some bs → length bs ≡ length ds
bounds_long [] bs e = sym (ap (λ k. length k) (some_same [] bs e))
bounds_long (None ∷ ds) bs e = none_some bs e
bounds_long (Some d ∷ ds) bs e = first_long d (all_bounds ds) (length ds) bs (λ cs g. bounds_long ds cs g) e

abbrev explicit_of : Option (List (ℤ × ℤ)) → Judgement Dimensions
explicit_of o = elim o [ None ↦ unknown | Some ds ↦ fine (shapes.Explicit (record { dims = ds })) ]

explicit_rank : (o : Option (List (ℤ × ℤ))) (n : ℕ) (x : Dimensions) → ((bs : List (ℤ × ℤ)) → o ≡ Some bs → length bs ≡ n) → (explicit_of o).meaning ≡ Some x → rank_of x ≡ n
explicit_rank None n x h e = none_some x e
explicit_rank (Some bs) n x h e = subst (λ k. rank_of k ≡ n) (some_same (shapes.Explicit (record { dims = bs })) x e) (h bs refl)

either_rank : (b : Bool) (o : Option (List (ℤ × ℤ))) (n : ℕ) (x : Dimensions) → ((bs : List (ℤ × ℤ)) → o ≡ Some bs → length bs ≡ n)
    → (cond b (fine (shapes.Deferred n)) (explicit_of o)).meaning ≡ Some x → rank_of x ≡ n
either_rank true o n x h e = subst (λ k. rank_of k ≡ n) (some_same (shapes.Deferred n) x e) refl
either_rank false o n x h e = explicit_rank o n x h e

variable_rank : (x : Symbol) (v : Variable) → (variable_of x).meaning ≡ Some v → rank_of v.dimensions ≡ length x.bounds
variable_rank x v e =
    let o = of_both (λ y ds. record { name = x.name; of_type = y; dimensions = ds; codimensions = x.coshape; is_allocatable = x.is_allocatable; initial = x.initial }) (type_known x.of_type).meaning (dimensions_of x).meaning v e in
    sym (ap (λ k. rank_of k.dimensions) o.4) ∙ either_rank (x.is_allocatable && not (nat_eq (length x.bounds) 0)) (all_bounds x.bounds) (length x.bounds) o.1 (bounds_long x.bounds) o.3

abbrev HaveRanks : List Symbol → List Variable → Type 0
HaveRanks [] vs = Unit {0}
HaveRanks (x ∷ xs) [] = ⊥
HaveRanks (x ∷ xs) (v ∷ vs) = (rank_of v.dimensions ≡ length x.bounds) × HaveRanks xs vs

variables_ranks : (xs : List Symbol) (vs : List Variable) → (all_made (map variable_of xs)).meaning ≡ Some vs → HaveRanks xs vs
variables_ranks [] vs e = tt
variables_ranks (x ∷ xs) vs e =
    let o = of_both (λ y ys. y ∷ ys) (variable_of x).meaning (all_made (map variable_of xs)).meaning vs e in
    subst (HaveRanks (x ∷ xs)) o.4 (variable_rank x o.0 o.2, variables_ranks xs o.1 o.3)

-- ---- each symbol of a procedure
abbrev Each : (Symbol → Type 0) → List Symbol → Type 0
Each P [] = Unit {0}
Each P (x ∷ xs) = P x × Each P xs

module _ (P : Symbol → Type 0) where
  pick : (b : Bool) (x y : Symbol) (o : Option Symbol) → P x → (o ≡ Some y → P y) → cond b (Some x) o ≡ Some y → P y
  pick true x y o h k e = subst P (some_same x y e) h
  pick false x y o h k e = k e

  each_named : (xs : List Symbol) (n : List ℕ) (y : Symbol) → Each P xs → symbol_named xs n ≡ Some y → P y
  each_named [] n y h e = none_some y e
  each_named (x ∷ xs) n y h e = pick (bytes_eq x.name n) x y (symbol_named xs n) h.0 (each_named xs n y h.1) e

  found_each : (o : Option Symbol) (ys : List Symbol) → ((y : Symbol) → o ≡ Some y → P y) → Each P ys → Each P (elim o [ None ↦ ys | Some x ↦ x ∷ ys ])
  found_each None ys h k = k
  found_each (Some y) ys h k = (h y refl, k)

  each_symbols : (xs : List Symbol) (ns : List Name) → Each P xs → Each P (symbols_named xs ns)
  each_symbols xs [] h = tt
  each_symbols xs (n ∷ ns) h = found_each (symbol_named xs n.text) (symbols_named xs ns) (λ y e. each_named xs n.text y h e) (each_symbols xs ns h)

abbrev IsRightIn : List Variable → Symbol → Type 0
IsRightIn vs x = (is_declared_role x.role ≡ true) × (rank_in vs (number_of x) ≡ length x.bounds)

-- those from the variable with number k on
right_from : (full : List Variable) (xs : List Symbol) (vs : List Variable) (k : ℕ) → ((j : ℕ) → rank_in full (k + j) ≡ rank_in vs j) → ArePlaced k xs → Each (λ x. is_declared_role x.role ≡ true) xs → HaveRanks xs vs → Each (IsRightIn full) xs
right_from full [] vs k f p r h = tt
right_from full (x ∷ xs) [] k f p r h = absurd h
right_from full (x ∷ xs) (v ∷ vs) k f p r h =
    let here : number_of x ≡ k + 0 = (let e = p.0 in omega arith) in (
      (r.0, ap (rank_in full) here ∙ f 0 ∙ h.0),
      right_from full xs vs (suc k) (λ j. (let w : suc k + j ≡ k + suc j = omega arith in ap (rank_in full) w ∙ f (suc j))) p.1 r.1 h.1,
    )

declared_step : (m : Meaning) (ys : List Symbol) → is_fit m ≡ true → Each (λ x. is_declared_role x.role ≡ true) ys → Each (λ x. is_declared_role x.role ≡ true) (elim m [ Names.variable y ↦ y ∷ ys | k ↦ ys ])
declared_step (Names.variable x) ys h k =
    let a = nat_le (length x.bounds) 3 in
    let b = is_kept x.of_type x.object in
    let c = is_variable x.object in
    let d = is_declared_role x.role in
    (and_right c d (and_right b (c && d) (and_right a (b && (c && d)) h)), k)
declared_step (Names.constant c) ys h k = k
declared_step (Names.subroutine c) ys h k = k
declared_step (Names.function c) ys h k = k
declared_step (Names.module_constant c) ys h k = k
declared_step (Names.module_type c) ys h k = k
declared_step (Names.intrinsic_function c) ys h k = k
declared_step (Names.intrinsic_subroutine c) ys h k = k

all_declared : (xs : List Named) → all_meant is_fit xs ≡ true → Each (λ x. is_declared_role x.role ≡ true) (variables_of xs)
all_declared [] h = tt
all_declared (x ∷ xs) h = declared_step x.meaning (variables_of xs) (and_left (is_fit x.meaning) (all_meant is_fit xs) h) (all_declared xs (and_right (is_fit x.meaning) (all_meant is_fit xs) h))

-- ---- interfaces
dummies_right : (vs : List Variable) (ds : List Symbol) → Each (IsRightIn vs) ds → AreDummies vs ds (map dummy_typed ds)
dummies_right vs [] h = tt
dummies_right vs (d ∷ ds) h = (h.0.0, h.0.1, dummies_right vs ds h.1)

abbrev number_if : Option Symbol → Option ℕ
number_if o = elim o [ None ↦ None | Some y ↦ Some (number_of y) ]

abbrev named_if : List Symbol → Option Name → Option Symbol
named_if xs o = elim o [ None ↦ None | Some n ↦ symbol_named xs n.text ]

result_by : (vs : List Variable) (o : Option Symbol) → ((y : Symbol) → o ≡ Some y → IsRightIn vs y) → HasResult vs o (number_if o)
result_by vs None h = tt
result_by vs (Some y) h = (h y refl).1

result_right : (vs : List Variable) (xs : List Symbol) (o : Option Name) → Each (IsRightIn vs) xs
    → HasResult vs (named_if xs o) (number_if (named_if xs o))
result_right vs xs None h = tt
result_right vs xs (Some n) h = result_by vs (symbol_named xs n.text) (λ y e. each_named (IsRightIn vs) xs n.text y h e)

abbrev pub IsNamedRight : Opened → Type 0
IsNamedRight o = (all_meant is_fit o.scope.own ≡ true) × ArePlaced 0 (variables_of o.scope.own)

unit_right : (o : Opened) (x : ts.Unit') (ss : fs.Statements) (j : Judgement ts.Statements) → IsNamedRight o → (unit_judged (variables_of o.scope.own) ss j).meaning ≡ Some x → IsInterfaceOf (interface_of o) (procedure_form (interface_of o) x)
unit_right o x ss j h e =
    let xs = variables_of o.scope.own in
    let m = of_both _ (all_made (map variable_of xs)).meaning j.meaning x e in
    let g : HaveRanks xs x.variables = subst (λ k. HaveRanks xs k.variables) m.4 (variables_ranks xs m.0 m.2) in
    let r = right_from x.variables xs x.variables 0 (λ n. (let w : 0 + n ≡ n = omega arith in ap (rank_in x.variables) w)) h.1 (all_declared o.scope.own h.0) g in
    (dummies_right x.variables (symbols_named xs o.headed.dummies) (each_symbols (IsRightIn x.variables) xs o.headed.dummies r), result_right x.variables xs o.headed.answer r)

there_cond : {T : Type 0} (b : Bool) (o : Option T) (x : T) → cond b o None ≡ Some x → o ≡ Some x
there_cond true o x e = e
there_cond false o x e = none_some x e

procedure_right : (is : List Interface) (cs : List Constant) (c : Counted) (o : Opened) (q : Procedure) → IsNamedRight o → (procedure_judged is cs c o).meaning ≡ Some q → IsInterfaceOf (interface_of o) q
procedure_right is cs c o q h e =
    let j = judged_statements (position_of (completed is cs o.scope) c) o.body.statements in
    let w = unit_judged (variables_of o.scope.own) o.body.statements j in
    let m = of_made (procedure_form (interface_of o)) w.meaning q (there_cond _ _ q e) in
    subst (IsInterfaceOf (interface_of o)) m.2 (unit_right o m.0 o.body.statements j h m.1)

abbrev pub AllNamedRight : List Opened → Type 0
AllNamedRight [] = Unit {0}
AllNamedRight (o ∷ os) = IsNamedRight o × AllNamedRight os

at_either : (o : Opened) (os : List Opened) (q : Procedure) (qs : List Procedure) (k : ℕ) (i : Interface) → IsInterfaceOf (interface_of o) q → ((j : ℕ) → item_at (map interface_of os) j ≡ Some i → IsInterfaceOf i (procedure_at qs j))
    → item_at (map interface_of (o ∷ os)) k ≡ Some i → IsInterfaceOf i (procedure_at (q ∷ qs) k)
at_either o os q qs zero i h f g = subst (λ z. IsInterfaceOf z q) (some_same (interface_of o) i g) h
at_either o os q qs (suc k) i h f g = f k g

pub interfaces_right : (is : List Interface) (cs : List Constant) (c : Counted) (os : List Opened) (ps : List Procedure) → AllNamedRight os → (procedures_judged is cs c os).meaning ≡ Some ps
    → (k : ℕ) (i : Interface) → item_at (map interface_of os) k ≡ Some i → IsInterfaceOf i (procedure_at ps k)
interfaces_right is cs c [] ps h e k i g = none_some i g
interfaces_right is cs c (o ∷ os) ps h e k i g =
    let d = behind c (counted_statements o.body.statements) in
    let m = of_both (λ q qs. q ∷ qs) (procedure_judged is cs c o).meaning (procedures_judged is cs d os).meaning ps e in
    subst (λ qs. IsInterfaceOf i (procedure_at qs k)) m.4 (at_either o os m.0 m.1 k i (procedure_right is cs c o m.0 h.0 m.2) (λ j f. interfaces_right is cs d os m.1 h.1 m.3 j i f) g)
