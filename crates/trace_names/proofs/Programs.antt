-- The names of the variables of an accepted program, and of its coarrays.
use Rattle.std.proofs.Common.{◌≡◌, ◌∙◌, ℕ, ◌+◌, ◌<◌, Bool, true, false, cond, List, [], ◌∷◌, ◌++◌, length, map, get_or, refl, ap, sym, subst, arith}
use Rattle.std.proofs.lemmas.List.{length-map}
use Rattle.std.proofs.lemmas.Option.{slice_get-map, slice_get-get_or}
use Rattle.std.specs.Option.{option_map}
use Rattle.std.specs.Prelude.{Option, Some, None, slice_get}
use Rattle.fortran_tree.specs.Statements as fs
use Rattle.fortran_tree.specs.Units as u
use Rattle.checked_tree.specs.Statements as ts
use Rattle.checked_tree.specs.declared.data.Constant.{Constant}
use Rattle.checked_tree.specs.declared.data.Variable.{Variable}
use Rattle.rule_definitions.specs.Acceptance.{Accepts}
use Rattle.rule_definitions.specs.Judgements.{is_nothing, Judgement, both, all_made}
use Rattle.rule_definitions.specs.Names.{Scope, Symbol, Interface, variables_of}
use Rattle.rule_definitions.specs.Declarations.{limit_breaks}
use Rattle.rule_definitions.specs.Statements.{Counted, counted_statements, behind, judged_statements, end_breaks}
use Rattle.rule_definitions.specs.Units.{uses_breaks, twice_breaks, Opened, opened_procedures, opened_breaks, constants_behind, interface_of, dimensions_of, type_known, variable_of, unit_judged, completed, position_of, procedures_judged, counted_all, coarray_numbers, procedures_of, main_unit, headings_of, first_scope, name_of, program_form, program_with, program_opened, main_declared, interfaces_of}
use Rattle.trace_theory.specs.Entries.{Each}
use Rattle.trace_forms.specs.Names.{IsName, AreNames}
use Rattle.trace_names.specs.Entities as e
use Rattle.trace_names.specs.Entities.{DeclareNames, variable_names}
use Rattle.trace_names.proofs.Lists.{some_same, none_some, each_at, differ_at}
use Rattle.trace_names.proofs.Scopes.{symbol_name, none_own, declarations_own}
use Rattle.trace_names.proofs.Numbers.{Rise, numbers_rise, rise_within, rise_differ}

-- ---- judgements that have a meaning
there : {T : Type 0} (b : Bool) (o : Option T) (x : T) → cond b o None ≡ Some x → o ≡ Some x
there true o x e = e
there false o x e = none_some x e

of_both : {A B C : Type 0} (f : A → B → C) (a : Option A) (b : Option B) (z : C) → both f a b ≡ Some z
    → (x : A) × (y : B) × (a ≡ Some x) × (b ≡ Some y) × (f x y ≡ z)
of_both f None b z e = none_some z e
of_both f (Some x) None z e = none_some z e
of_both f (Some x) (Some y) z e = (x, y, refl, refl, some_same (f x y) z e)

-- the variables have the names of their symbols
variable_name : (x : Symbol) (v : Variable) → (variable_of x).meaning ≡ Some v → v.name ≡ x.name
variable_name x v h =
    let w = of_both (λ y ds. record { name = x.name; of_type = y; dimensions = ds; codimensions = x.coshape; is_allocatable = x.is_allocatable; initial = x.initial })
    (type_known x.of_type).meaning (dimensions_of x).meaning v h in
    sym (ap (λ k. k.name) w.4)

variables_named : (xs : List Symbol) (vs : List Variable) → (all_made (map variable_of xs)).meaning ≡ Some vs
    → map e.name_of vs ≡ map symbol_name xs
variables_named [] vs h = sym (ap (map e.name_of) (some_same [] vs h))
variables_named (x ∷ xs) vs h =
    let w = of_both (λ v rest. v ∷ rest) (variable_of x).meaning (all_made (map variable_of xs)).meaning vs h in
    sym (ap (map e.name_of) w.4) ∙ (λ i. variable_name x w.0 w.2 i ∷ variables_named xs w.1 w.3 i)

-- the main program of a checked program: its variables are these, and its coarrays those of them
pub record IsMainOf (xs : List Symbol) (c : ts.Program) : Type 0 where
  pub variables : variable_names c ≡ map symbol_name xs
  pub coarrays : c.coarrays ≡ coarray_numbers 0 xs

unit_main : (xs : List Symbol) (ss : fs.Statements) (j : Judgement ts.Statements) (x : ts.Unit') → (unit_judged xs ss j).meaning ≡ Some x
    → map e.name_of x.variables ≡ map symbol_name xs
unit_main xs ss j x h =
    let w = of_both _ (all_made (map variable_of xs)).meaning j.meaning x h in
    sym (ap (λ k. map e.name_of k.variables) w.4) ∙ variables_named xs w.0 w.2

with_main : (p : u.Program) (s : Scope) (os : List Opened) (is : List Interface) (cs : List Constant) (c : ts.Program)
    → (program_with p s os is cs).meaning ≡ Some c → IsMainOf (variables_of s.own) c
with_main p s os is cs c h =
    let xs = variables_of s.own in
    let counted = counted_statements p.body.statements in
    let start : Counted = record { criticals = 0; literals = [] } in
    let j = judged_statements (position_of (completed is cs s) start) p.body.statements in
    let form = program_form p xs cs (behind counted (counted_all os)) in
    let w = of_both form (unit_judged xs p.body.statements j).meaning (procedures_judged is cs counted os).meaning c h in
    record {
      variables = sym (ap variable_names w.4) ∙ unit_main xs p.body.statements j w.0 w.2;
      coarrays = sym (ap (λ k. k.coarrays) w.4);
    }

opened_main : (p : u.Program) (s : Scope) (c : ts.Program) → (program_opened p s).meaning ≡ Some c → IsMainOf (variables_of s.own) c
opened_main p s c h =
    let os = opened_procedures s (procedures_of p) in
    let is = map interface_of os in
    let cs = constants_behind s os in
    let bs = uses_breaks p.uses ++ (twice_breaks (map name_of s.own) (headings_of p)
    ++ (opened_breaks os ++ (limit_breaks (variables_of s.own) ++ end_breaks p.name p.end.name))) in
    with_main p s os is cs c (there (is_nothing bs) (program_with p s os is cs).meaning c h)

pub accepted_main : (p : u.Program) (c : ts.Program) → DeclareNames p.body.declarations → Accepts p c
    → (xs : List Symbol) × IsMainOf xs c × AreNames (map symbol_name xs)
accepted_main p c h a =
    let d = main_declared p (interfaces_of p) in
    let s = record d.scope { pending = [] } in
    let xs = variables_of d.scope.own in
    let own = declarations_own main_unit p.body.declarations (record (first_scope p) { interfaces = interfaces_of p }) none_own h in
    let main = opened_main p s c (there (is_nothing d.breaks) (program_opened p s).meaning c a.meaning) in
    (xs, main, record { differ = λ j k n e f. differ_at (map symbol_name xs) j k n own.differ e f; each = own.each })

pub variables_differ : (p : u.Program) (c : ts.Program) → DeclareNames p.body.declarations → Accepts p c → AreNames (variable_names c)
variables_differ p c h a = let w = accepted_main p c h a in subst AreNames (sym w.1.variables) w.2

-- ---- the names of the coarrays
some_at : (xs : List (List ℕ)) (k : ℕ) → k < length xs → (x : List ℕ) × (slice_get xs k ≡ Some x)
some_at xs k h = (get_or xs k [], slice_get-get_or xs k [] h)

module _ (names : List (List ℕ)) (at : ℕ → List ℕ) (there_is : (k : ℕ) (n : List ℕ) → slice_get names k ≡ Some n → at k ≡ n) where
  each_picked : (least : ℕ) (ks : List ℕ) → Rise least (length names) ks → Each IsName names → Each IsName (map at ks)
  each_picked least [] r h = tt
  each_picked least (k ∷ ks) r h =
      let x = some_at names k r.1 in
      (subst IsName (sym (there_is k x.0 x.1)) (each_at IsName names k x.0 h x.1), each_picked (k + 1) ks r.2 h)

  from_option : (o : Option ℕ) (n : List ℕ) → option_map at o ≡ Some n → (k : ℕ) × (o ≡ Some k) × (at k ≡ n)
  from_option None n e = none_some n e
  from_option (Some k) n e = (k, refl, some_same (at k) n e)

  picked_at : (least : ℕ) (ks : List ℕ) (i : ℕ) (n : List ℕ) → Rise least (length names) ks → slice_get (map at ks) i ≡ Some n
      → (k : ℕ) × (slice_get ks i ≡ Some k) × (slice_get names k ≡ Some n)
  picked_at least ks i n r e =
      let w = from_option (slice_get ks i) n (sym (slice_get-map at ks i) ∙ e) in
      let x = some_at names w.0 (rise_within least (length names) ks i w.0 r w.1).1 in
      (w.0, w.1, x.1 ∙ ap Some (sym (there_is w.0 x.0 x.1) ∙ w.2))

  pub picked_names : (ks : List ℕ) → Rise 0 (length names) ks → AreNames names → AreNames (map at ks)
  picked_names ks r h = record {
    differ = λ i j n e f.
        let a = picked_at 0 ks i n r e in
        let b = picked_at 0 ks j n r f in
        let same = h.differ a.0 b.0 n a.2 b.2 in
        rise_differ 0 (length names) ks i j a.0 r a.1 (b.1 ∙ ap Some (sym same));
    each = each_picked 0 ks r h.each;
  }

-- the coarrays that are told by the numbers of a program's have names of its variables
pub coarrays_differ : (p : u.Program) (c : ts.Program) (at : ℕ → List ℕ)
    → ((k : ℕ) (n : List ℕ) → slice_get (variable_names c) k ≡ Some n → at k ≡ n)
    → DeclareNames p.body.declarations → Accepts p c → AreNames (map at c.coarrays)
coarrays_differ p c at f h a =
    let w = accepted_main p c h a in
    let xs = w.0 in
    let size : length xs ≡ length (variable_names c) = sym (ap length w.1.variables ∙ length-map xs symbol_name) in
    let none : 0 + length xs ≡ length xs = omega arith in
    let rise = subst (λ n. Rise 0 n c.coarrays) (none ∙ size) (subst (Rise 0 (0 + length xs)) (sym w.1.coarrays) (numbers_rise 0 xs)) in
    picked_names (variable_names c) at f c.coarrays rise (variables_differ p c h a)
