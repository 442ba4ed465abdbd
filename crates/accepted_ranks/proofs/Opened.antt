-- The scope of a procedure whose heading and declarations break nothing has names that are as they must be.
use Rattle.std.proofs.Common.{◌≡◌, ◌∙◌, Bool, true, false, List, [], ◌∷◌, ◌++◌, length, refl, sym, ap, subst}
use Rattle.std.specs.Prelude.{cond, map, nat_le, ◌&&◌, Option, Some, None}
use Rattle.fortran_tree.specs.Units as u
use Rattle.fortran_tree.specs.declared.name.Name.{Name}
use Rattle.caf_base.specs.declared.place.Pos.{Pos}
use Rattle.checked_tree.specs.declared.data.DataType.{DataType}
use Rattle.checked_tree.specs.declared.data.DataType.TheVariants.{Intrinsic, Team, Event, Lock}
use Rattle.checked_tree.specs.declared.data.Object.{Object}
use Rattle.checked_tree.specs.declared.data.Object.TheVariants as objects
use Rattle.rule_definitions.specs.Judgements.{said_of, is_there}
use Rattle.rule_definitions.specs.Names
use Rattle.rule_definitions.specs.Names.{Scope, Named, Meaning, denoted_in, is_declared_role, variables_of}
use Rattle.rule_definitions.specs.Declarations.{Unit', is_declared, special_type_breaks, declared_all}
use Rattle.rule_definitions.specs.Units.{Headed, place_of_answer, dummy_breaks, own_name, answer_breaks, second_type_breaks, first_type, type_breaks, is_typed, heading_breaks, hosted_object, hosted_meaning, hosted, bare, unit_of, opened, with_dummy, with_dummies, with_untyped, with_answer, opened_procedure}
use Rattle.rule_laws.proofs.Filled.{all_meant}
use Rattle.accepted_ranks.proofs.Means.{cons_nil, left_nothing, right_nothing, unless_nothing, no, and_left, and_right}
use Rattle.accepted_ranks.proofs.Declared.{both_true, is_kept, is_variable, is_fit, ArePlaced, Grows, same_grows, cond_grows, then_grows, variable_more, declarations_grow}

-- ---- names of the host
hosted_kept : (y : Option DataType) (o : Object) → is_kept y o ≡ true → is_kept y (hosted_object o) ≡ true
hosted_kept None (objects.Local l) h = refl
hosted_kept (Some (Intrinsic k)) (objects.Local l) h = refl
hosted_kept (Some Team) (objects.Local l) h = refl
hosted_kept (Some Event) (objects.Local l) h = no h
hosted_kept (Some Lock) (objects.Local l) h = no h
hosted_kept y (objects.Coarray n) h = h
hosted_kept y (objects.Constant n) h = h

hosted_variable : (o : Object) → is_variable o ≡ true → is_variable (hosted_object o) ≡ true
hosted_variable (objects.Local l) h = refl
hosted_variable (objects.Coarray n) h = h
hosted_variable (objects.Constant n) h = h

hosted_fit : (m : Meaning) → is_fit m ≡ true → is_fit (hosted_meaning m) ≡ true
hosted_fit (Names.variable x) h =
    let r = nat_le (length x.bounds) 3 in
    let k = is_kept x.of_type x.object in
    let v = is_variable x.object in
    let l = is_declared_role x.role in
    let g = and_right r (k && (v && l)) h in
    both_true r (is_kept x.of_type (hosted_object x.object) && (is_variable (hosted_object x.object) && true)) (and_left r (k && (v && l)) h)
    (both_true (is_kept x.of_type (hosted_object x.object)) (is_variable (hosted_object x.object) && true) (hosted_kept x.of_type x.object (and_left k (v && l) g))
    (both_true (is_variable (hosted_object x.object)) true (hosted_variable x.object (and_left v l (and_right k (v && l) g))) refl))
hosted_fit (Names.constant c) h = h
hosted_fit (Names.subroutine n) h = no h
hosted_fit (Names.function n) h = no h
hosted_fit (Names.module_constant n) h = no h
hosted_fit (Names.module_type n) h = no h
hosted_fit (Names.intrinsic_function n) h = no h
hosted_fit (Names.intrinsic_subroutine n) h = no h

pub hosted_all : (xs : List Named) → all_meant is_fit xs ≡ true → all_meant is_fit (map hosted xs) ≡ true
hosted_all [] h = refl
hosted_all (x ∷ xs) h = both_true (is_fit (hosted_meaning x.meaning)) (all_meant is_fit (map hosted xs)) (hosted_fit x.meaning (and_left (is_fit x.meaning) (all_meant is_fit xs) h)) (hosted_all xs (and_right (is_fit x.meaning) (all_meant is_fit xs) h))

-- ---- a result that the heading types
typed_kept : (y : Option DataType) (p : Pos) (l : _) → special_type_breaks y 0 0 p ≡ [] → is_kept y (objects.Local l) ≡ true
typed_kept None p l h = refl
typed_kept (Some (Intrinsic k)) p l h = refl
typed_kept (Some Team) p l h = refl
typed_kept (Some Event) p l h = no (unless_nothing false 27 p h)
typed_kept (Some Lock) p l h = no (unless_nothing false 27 p h)

heading_special : (s : Scope) (h : Headed) → heading_breaks s h ≡ [] → special_type_breaks (first_type s h.types).meaning 0 0 (place_of_answer h) ≡ []
heading_special s h e =
    let a = dummy_breaks (own_name h) h.dummies in
    let b = said_of (answer_breaks h) h.answer in
    let c = second_type_breaks h.types (place_of_answer h) in
    let x = type_breaks s h.types in
    let y = special_type_breaks (first_type s h.types).meaning 0 0 (place_of_answer h) in
    right_nothing x y (right_nothing c (x ++ y) (right_nothing b (c ++ (x ++ y)) (right_nothing a (b ++ (c ++ (x ++ y))) e)))

no_more : (xs : List Named) → xs ++ [] ≡ xs
no_more [] = refl
no_more (x ∷ xs) = ap (λ k. x ∷ k) (no_more xs)

abbrev FitNames : List Named → Type 0
FitNames xs = (all_meant is_fit xs ≡ true) × (true ≡ true → ArePlaced 0 (variables_of xs))

answer_list : (n : Option Name) (y : Option DataType) (p : Pos) (xs : List Named) → special_type_breaks y 0 0 p ≡ [] → FitNames xs
    → FitNames (xs ++ elim n [ None ↦ [] | Some m ↦ bare m y Names.function_result (length (variables_of xs)) ∷ [] ])
answer_list None y p xs h k = subst FitNames (sym (no_more xs)) k
answer_list (Some m) y p xs h k = variable_more true xs m.text _ k (both_true (is_kept y _) true (typed_kept y p _ h) refl) (λ e. refl)

answer_more : (b : Bool) (n : Option Name) (y : Option DataType) (p : Pos) (xs : List Named) → special_type_breaks y 0 0 p ≡ [] → FitNames xs
    → FitNames (xs ++ cond b (elim n [ None ↦ [] | Some m ↦ bare m y Names.function_result (length (variables_of xs)) ∷ [] ]) [])
answer_more true n y p xs h k = answer_list n y p xs h k
answer_more false n y p xs h k = subst FitNames (sym (no_more xs)) k

-- ---- dummies and results
dummy_grows : {K : Type 0} (v : Unit') (s : Scope) (n : Name) → Grows K true s (with_dummy v s n)
dummy_grows v s n = cond_grows true s (is_declared v s n.text) (same_grows true s []) (record { fits = λ k f e. cons_nil _ [] e; host = refl; procedures = refl; accessible = refl })

dummies_grow : {K : Type 0} (v : Unit') (ns : List Name) (s : Scope) → Grows K true s (with_dummies v ns s)
dummies_grow v [] s = same_grows true s []
dummies_grow v (n ∷ ns) s = then_grows true s (with_dummy v s n) (with_dummies v ns) (dummy_grows v s n) (dummies_grow v ns (with_dummy v s n).scope)

untyped_grows : {K : Type 0} (s : Scope) (n : Name) → Grows K true s (with_untyped s n)
untyped_grows s n = cond_grows true s (is_there (denoted_in s.own n.text)) (same_grows true s []) (record { fits = λ k f e. cons_nil _ [] e; host = refl; procedures = refl; accessible = refl })

any_grows : {K : Type 0} (s : Scope) (o : Option Name) → Grows K true s (elim o [ None ↦ record { breaks = []; scope = s } | Some n ↦ with_untyped s n ])
any_grows s None = same_grows true s []
any_grows s (Some n) = untyped_grows s n

result_grows : (host : Scope) (h : Headed) (s : Scope) → Grows (heading_breaks host h ≡ []) true s (with_answer host h s)
result_grows host h s = cond_grows true s (is_typed h) (record {
  fits = λ k f e. answer_more (is_typed h) h.answer (first_type host h.types).meaning (place_of_answer h) s.own (heading_special host h k) f;
  host = refl;
  procedures = refl;
  accessible = refl;
}) (any_grows s h.answer)

-- ---- procedures
pub record IsOpened (host : Scope) (h : Headed) (x : u.Procedure) : Type 0 where
  pub fits : (opened_procedure host h x).breaks ≡ [] → FitNames (opened_procedure host h x).scope.own
  pub procedures : (opened_procedure host h x).scope.procedures ≡ host.procedures
  pub accessible : (opened_procedure host h x).scope.accessible ≡ host.accessible

pub procedure_opened : (host : Scope) (h : Headed) (x : u.Procedure) → IsOpened host h x
procedure_opened host h x =
    let v = unit_of h in
    let s0 = opened host h x.body.declarations in
    let a = declared_all v x.body.declarations s0 in
    let b = with_dummies v h.dummies a.scope in
    let c = with_answer host h b.scope in
    let bs = heading_breaks host h in
    let ga : Grows (Unit {0}) true s0 a = declarations_grow v x.body.declarations s0 in
    let gb : Grows (Unit {0}) true a.scope b = dummies_grow v h.dummies a.scope in
    let gc : Grows (bs ≡ []) true b.scope c = result_grows host h b.scope in
    record {
      fits = λ e. (
          let r = right_nothing bs (a.breaks ++ (b.breaks ++ c.breaks)) e in
          let q = right_nothing a.breaks (b.breaks ++ c.breaks) r in
          gc.fits (left_nothing bs (a.breaks ++ (b.breaks ++ c.breaks)) e) (gb.fits tt (ga.fits tt (refl, λ z. tt) (left_nothing a.breaks (b.breaks ++ c.breaks) r)) (left_nothing b.breaks c.breaks q)) (right_nothing b.breaks c.breaks q));
      procedures = gc.procedures ∙ gb.procedures ∙ ga.procedures;
      accessible = gc.accessible ∙ gb.accessible ∙ ga.accessible;
    }
