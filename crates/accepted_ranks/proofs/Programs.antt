-- The scopes of a program that breaks nothing have the ranks of its variables and procedures, and so the program has
-- its ranks.
use Rattle.std.proofs.Common.{◌≡◌, ◌∙◌, ℕ, zero, suc, ◌+◌, Bool, true, false, List, [], ◌∷◌, ◌++◌, length, refl, sym, ap, subst, arith}
use Rattle.std.proofs.lemmas.Bool.{leb-true}
use Rattle.std.specs.Prelude.{cond, not, map, nat_le, ◌&&◌, Option, Some, None}
use Rattle.fortran_tree.specs.Statements as fs
use Rattle.fortran_tree.specs.Units as u
use Rattle.fortran_tree.specs.declared.name.Name.{Name}
use Rattle.checked_tree.specs.Statements as ts
use Rattle.checked_tree.specs.Statements.{Procedure}
use Rattle.checked_tree.specs.declared.data.Constant.{Constant}
use Rattle.checked_tree.specs.declared.data.DataType.{DataType}
use Rattle.checked_tree.specs.declared.data.DataType.TheVariants.{Intrinsic, Team, Event, Lock}
use Rattle.checked_tree.specs.declared.data.Object.{Object}
use Rattle.checked_tree.specs.declared.data.Object.TheVariants as objects
use Rattle.rule_definitions.specs.Judgements.{Judgement, all_made, or_else, is_there, item_at}
use Rattle.rule_definitions.specs.Names
use Rattle.rule_definitions.specs.Names.{Scope, Symbol, ConstantSymbol, Named, named, Meaning, Interface, denotes, denoted_in, denoted_outside, intrinsic_procedures, module_names, is_among, is_object, if_object, symbol_in, symbol_of, is_declared_role, variables_of}
use Rattle.rule_definitions.specs.Declarations.{is_special, limit_breaks}
use Rattle.rule_definitions.specs.Statements.{Counted, counted_statements, behind, end_breaks, judged_statements}
use Rattle.rule_definitions.specs.Units.{is_module, uses_breaks, accessible_name, accessible_names, accessible_by, accessible_of, Headed, headed, meaning_of_heading, procedure_names, twice_breaks, Opened, opened_procedure, opened_procedures, constants_behind, symbol_named, interface_of, variable_of, unit_judged, procedure_form, completed, position_of, procedure_judged, procedures_judged, counted_all, procedures_of, main_unit, headings_of, first_scope, opened_breaks, name_of, program_form, program_with, program_opened, main_declared, interfaces_of, program_judged}
use Rattle.accepted_ranks.specs.Kinded as ranks
use Rattle.made_code.specs.Ranks.{procedure_at}
use Rattle.rule_laws.proofs.Filled.{all_meant, meant_in, meant_both}
use Rattle.made_code.specs.Ranks.{IsRankedProgram}
use Rattle.accepted_ranks.proofs.Ranked.{program_ranked}
use Rattle.accepted_ranks.specs.Scopes.{AreRanks, IsKeptIfTyped, IsInterfaceOf}
use Rattle.accepted_ranks.proofs.Means.{Means, weaker, none_some, some_same, no, of_both, left_nothing, right_nothing, and_left, and_right, fine_means, ruled_means, made_means, both_means}
use Rattle.accepted_ranks.proofs.Actions.{any}
use Rattle.accepted_ranks.proofs.Statements.{statements_means}
use Rattle.accepted_ranks.proofs.Declared.{both_true, is_kept, is_variable, is_fit, Grows, declarations_grow}
use Rattle.accepted_ranks.proofs.Opened.{hosted_all, procedure_opened}
use Rattle.accepted_ranks.proofs.Interfaces.{AllNamedRight, interfaces_right}

-- ---- what names stand for where statements stand
abbrev is_resultless : Option Interface → Bool
is_resultless None = true
is_resultless (Some i) = not (is_there i.result)

abbrev is_good : List Interface → Meaning → Bool
is_good is (Names.variable x) = is_fit (Names.variable x)
is_good is (Names.constant c) = is_fit (Names.constant c)
is_good is (Names.subroutine n) = is_resultless (item_at is n)
is_good is m = true

fit_good : (is : List Interface) (m : Meaning) → is_fit m ≡ true → is_good is m ≡ true
fit_good is (Names.variable x) h = h
fit_good is (Names.constant c) h = h
fit_good is (Names.subroutine n) h = no h
fit_good is (Names.function n) h = refl
fit_good is (Names.module_constant n) h = refl
fit_good is (Names.module_type n) h = refl
fit_good is (Names.intrinsic_function n) h = refl
fit_good is (Names.intrinsic_subroutine n) h = refl

all_good : (is : List Interface) (xs : List Named) → all_meant is_fit xs ≡ true → all_meant (is_good is) xs ≡ true
all_good is [] h = refl
all_good is (x ∷ xs) h = both_true (is_good is x.meaning) (all_meant (is_good is) xs) (fit_good is x.meaning (and_left (is_fit x.meaning) (all_meant is_fit xs) h)) (all_good is xs (and_right (is_fit x.meaning) (all_meant is_fit xs) h))

-- ---- names that USE makes accessible
module _ (is : List Interface) where
  module_good : all_meant (is_good is) module_names ≡ true
  module_good = refl

  intrinsics_good : all_meant (is_good is) intrinsic_procedures ≡ true
  intrinsics_good = refl

  one_good : (n : List ℕ) (o : Option Meaning) → ((m : Meaning) → o ≡ Some m → is_good is m ≡ true) → all_meant (is_good is) (elim o [ None ↦ [] | Some m ↦ named n m ∷ [] ]) ≡ true
  one_good n None h = refl
  one_good n (Some m) h = both_true (is_good is m) true (h m refl) refl

  names_good : (ns : List Name) → all_meant (is_good is) (accessible_names ns) ≡ true
  names_good [] = refl
  names_good (n ∷ ns) = meant_both (is_good is) (accessible_name n.text) (accessible_names ns) (one_good n.text (denoted_in module_names n.text) (λ m e. meant_in (is_good is) module_names n.text m module_good e)) (names_good ns)

  only_good : (o : Option (List Name)) → all_meant (is_good is) (elim o [ None ↦ module_names | Some ns ↦ accessible_names ns ]) ≡ true
  only_good None = module_good
  only_good (Some ns) = names_good ns

  cond_good : (b : Bool) (xs : List Named) → all_meant (is_good is) xs ≡ true → all_meant (is_good is) (cond b xs []) ≡ true
  cond_good true xs h = h
  cond_good false xs h = refl

  uses_good : (xs : List u.Use) → all_meant (is_good is) (accessible_of xs) ≡ true
  uses_good [] = refl
  uses_good (x ∷ xs) = meant_both (is_good is) (accessible_by x) (accessible_of xs) (cond_good (is_module x.module_name.text) (elim x.only [ None ↦ module_names | Some ns ↦ accessible_names ns ]) (only_good x.only)) (uses_good xs)

  -- ---- names of procedures
  heading_good : (n : ℕ) (o : Option Name) → (o ≡ None → is_resultless (item_at is n) ≡ true) → is_good is (elim o [ None ↦ Names.subroutine n | Some r ↦ Names.function n ]) ≡ true
  heading_good n None h = h refl
  heading_good n (Some r) h = refl

  abbrev IsRightHead : ℕ → Headed → Type 0
  IsRightHead n h = h.answer ≡ None → is_resultless (item_at is n) ≡ true

  headings_good : (n : ℕ) (hs : List Headed) → ((i : ℕ) (h : Headed) → item_at hs i ≡ Some h → IsRightHead (n + i) h) → all_meant (is_good is) (procedure_names n hs) ≡ true
  headings_good n [] f = refl
  headings_good n (h ∷ hs) f =
      let z : n + 0 ≡ n = omega arith in
      both_true (is_good is (meaning_of_heading n h)) (all_meant (is_good is) (procedure_names (n + 1) hs)) (heading_good n h.answer (subst (λ k. IsRightHead k h) z (f 0 h refl)))
      (headings_good (n + 1) hs (λ i k e. (let w : n + suc i ≡ (n + 1) + i = omega arith in subst (λ j. IsRightHead j k) w (f (suc i) k e))))

abbrev heads : List u.Procedure → List Headed
heads xs = map (λ x. headed x.heading) xs

abbrev result_named : List Symbol → Option Name → Option Symbol
result_named xs o = elim o [ None ↦ None | Some n ↦ symbol_named xs n.text ]

none_named : (xs : List Symbol) (o : Option Name) → o ≡ None → not (is_there (result_named xs o)) ≡ true
none_named xs None e = refl
none_named xs (Some n) e = none_some n (sym e)

interface_resultless : (s : Scope) (xs : List u.Procedure) (i : ℕ) (h : Headed) → item_at (heads xs) i ≡ Some h → h.answer ≡ None → is_resultless (item_at (map interface_of (opened_procedures s xs)) i) ≡ true
interface_resultless s [] i h e a = none_some h e
interface_resultless s (x ∷ xs) zero h e a = none_named (variables_of (opened_procedure s (headed x.heading) x).scope.own) (headed x.heading).answer (ap (λ k. k.answer) (some_same (headed x.heading) h e) ∙ a)
interface_resultless s (x ∷ xs) (suc i) h e a = interface_resultless (record s { constants = (opened_procedure s (headed x.heading) x).scope.constants }) xs i h e a

pub self_good : (p : u.Program) (s : Scope) → all_meant (is_good (map interface_of (opened_procedures s (procedures_of p)))) (procedure_names 0 (headings_of p)) ≡ true
self_good p s =
    let xs = procedures_of p in
    let is = map interface_of (opened_procedures s xs) in
    headings_good is 0 (heads xs) (λ i h e. (let z : i ≡ 0 + i = omega arith in subst (λ k. IsRightHead is k h) z (λ a. interface_resultless s xs i h e a)))

-- ---- scopes
pub record IsGoodScope (s : Scope) : Type 0 where
  pub own : all_meant is_fit s.own ≡ true
  pub host : all_meant is_fit s.host ≡ true
  pub procedures : all_meant (is_good s.interfaces) s.procedures ≡ true
  pub accessible : all_meant (is_good s.interfaces) s.accessible ≡ true

else_cases : {T A : Type 0} (a b : Option T) (m : T) → or_else a b ≡ Some m → (a ≡ Some m → A) → (b ≡ Some m → A) → A
else_cases None b m e f g = g e
else_cases (Some x) b m e f g = f e

unless_pending : {T : Type 0} (b : Bool) (o : Option T) (m : T) → cond b None o ≡ Some m → o ≡ Some m
unless_pending true o m e = none_some m e
unless_pending false o m e = e

denoted_good : (s : Scope) → IsGoodScope s → (n : List ℕ) (m : Meaning) → denotes s n ≡ Some m → is_good s.interfaces m ≡ true
denoted_good s h n m e =
    let q = is_good s.interfaces in
    else_cases (denoted_in s.own n) (cond (is_among s.pending n) None (denoted_outside s n)) m e
    (λ k. meant_in q s.own n m (all_good s.interfaces s.own h.own) k)
    (λ k. else_cases (denoted_in s.host n) (or_else (denoted_in s.procedures n) (or_else (denoted_in s.accessible n) (denoted_in intrinsic_procedures n))) m (unless_pending (is_among s.pending n) (denoted_outside s n) m k)
    (λ i. meant_in q s.host n m (all_good s.interfaces s.host h.host) i)
    (λ i. else_cases (denoted_in s.procedures n) (or_else (denoted_in s.accessible n) (denoted_in intrinsic_procedures n)) m i
    (λ j. meant_in q s.procedures n m h.procedures j)
    (λ j. else_cases (denoted_in s.accessible n) (denoted_in intrinsic_procedures n) m j
    (λ l. meant_in q s.accessible n m h.accessible l)
    (λ l. meant_in q intrinsic_procedures n m (intrinsics_good s.interfaces) l))))

kept_if : (y : Option DataType) (o : Object) → is_kept y o ≡ true → is_variable o ≡ true → IsKeptIfTyped y o
kept_if None o h k = tt
kept_if (Some (Intrinsic i)) o h k = tt
kept_if (Some Team) o h k = tt
kept_if (Some Event) (objects.Local l) h k = no h
kept_if (Some Event) (objects.Coarray n) h k = tt
kept_if (Some Event) (objects.Constant n) h k = no k
kept_if (Some Lock) (objects.Local l) h k = no h
kept_if (Some Lock) (objects.Coarray n) h k = tt
kept_if (Some Lock) (objects.Constant n) h k = no k

plain_kept : (y : Option DataType) (o : Object) → not (is_special y) ≡ true → IsKeptIfTyped y o
plain_kept None o h = tt
plain_kept (Some (Intrinsic i)) o h = tt
plain_kept (Some Team) o h = tt
plain_kept (Some Event) o h = no h
plain_kept (Some Lock) o h = no h

no_result : (o : Option Symbol) → not (is_there o) ≡ true → o ≡ None
no_result None h = refl
no_result (Some x) h = no h

-- no variable is a constant
no_object : (x : Symbol) (o : Object) (n : ℕ) (r : Option Symbol) → is_variable o ≡ true → r ≡ None → cond (is_object o (objects.Constant n)) (Some x) r ≡ None
no_object x (objects.Local l) n r h e = e
no_object x (objects.Coarray l) n r h e = e
no_object x (objects.Constant l) n r h e = no h

abbrev among : Meaning → Object → Option Symbol → Option Symbol
among m o r = elim m [ Names.variable y ↦ if_object y o r | k ↦ r ]

no_constant : (m : Meaning) (n : ℕ) (r : Option Symbol) → is_fit m ≡ true → r ≡ None → among m (objects.Constant n) r ≡ None
no_constant (Names.variable x) n r h e =
    let a = nat_le (length x.bounds) 3 in
    let b = is_kept x.of_type x.object in
    let c = is_variable x.object in
    let d = is_declared_role x.role in
    no_object x x.object n r (and_left c d (and_right b (c && d) (and_right a (b && (c && d)) h))) e
no_constant (Names.constant c) n r h e = e
no_constant (Names.subroutine k) n r h e = e
no_constant (Names.function k) n r h e = e
no_constant (Names.module_constant k) n r h e = e
no_constant (Names.module_type k) n r h e = e
no_constant (Names.intrinsic_function k) n r h e = e
no_constant (Names.intrinsic_subroutine k) n r h e = e

none_in : (xs : List Named) (n : ℕ) → all_meant is_fit xs ≡ true → symbol_in xs (objects.Constant n) ≡ None
none_in [] n h = refl
none_in (x ∷ xs) n h = no_constant x.meaning n (symbol_in xs (objects.Constant n)) (and_left (is_fit x.meaning) (all_meant is_fit xs) h) (none_in xs n (and_right (is_fit x.meaning) (all_meant is_fit xs) h))

neither : {T : Type 0} (a b : Option T) → a ≡ None → b ≡ None → or_else a b ≡ None
neither None b e f = f
neither (Some x) b e f = none_some x (sym e)

scope_ranks : (ps : List Procedure) (s : Scope) → IsGoodScope s → ((k : ℕ) (i : Interface) → item_at s.interfaces k ≡ Some i → IsInterfaceOf i (procedure_at ps k)) → AreRanks ps s
scope_ranks ps s h f = record {
  variables = λ n x e. (
      let g = denoted_good s h n (Names.variable x) e in
      leb-true (length x.bounds) 3 (and_left (nat_le (length x.bounds) 3) (is_kept x.of_type x.object && (is_variable x.object && is_declared_role x.role)) g));
  constants = λ n x e. leb-true (length x.bounds) 3 (and_left (nat_le (length x.bounds) 3) (not (is_special x.of_type)) (denoted_good s h n (Names.constant x) e));
  apart = λ n. neither (symbol_in s.own (objects.Constant n)) (symbol_in s.host (objects.Constant n)) (none_in s.own n h.own) (none_in s.host n h.host);
  kept = λ n x e. (
      let a = nat_le (length x.bounds) 3 in
      let b = is_kept x.of_type x.object in
      let c = is_variable x.object in
      let d = is_declared_role x.role in
      let g = and_right a (b && (c && d)) (denoted_good s h n (Names.variable x) e) in
      kept_if x.of_type x.object (and_left b (c && d) g) (and_left c d (and_right b (c && d) g)));
  kept_constants = λ n x e m. plain_kept x.of_type (objects.Constant m) (and_right (nat_le (length x.bounds) 3) (not (is_special x.of_type)) (denoted_good s h n (Names.constant x) e));
  resultless = λ n k i e g. no_result i.result (subst (λ o. is_resultless o ≡ true) g (denoted_good s h n (Names.subroutine k) e));
  interfaces = f;
}

-- ---- the scopes of a program
abbrev AllGood : List Interface → List Constant → List Opened → Type 0
AllGood is cs [] = Unit {0}
AllGood is cs (o ∷ os) = IsGoodScope (completed is cs o.scope) × AllGood is cs os

-- the main program's names, where its procedures are opened
pub record IsHost (is : List Interface) (s : Scope) : Type 0 where
  pub own : all_meant is_fit s.own ≡ true
  pub procedures : all_meant (is_good is) s.procedures ≡ true
  pub accessible : all_meant (is_good is) s.accessible ≡ true

more_constants : (is : List Interface) (s : Scope) (cs : List Constant) → IsHost is s → IsHost is (record s { constants = cs })
more_constants is s cs h = record { own = h.own; procedures = h.procedures; accessible = h.accessible }

opened_good : (is : List Interface) (cs : List Constant) (s : Scope) (xs : List u.Procedure) → IsHost is s → opened_breaks (opened_procedures s xs) ≡ [] → AllGood is cs (opened_procedures s xs) × AllNamedRight (opened_procedures s xs)
opened_good is cs s [] h b = (tt, tt)
opened_good is cs s (x ∷ xs) h b =
    let o = opened_procedure s (headed x.heading) x in
    let k = procedure_opened s (headed x.heading) x in
    let rest = opened_breaks (opened_procedures (record s { constants = o.scope.constants }) xs) in
    let g = k.fits (left_nothing o.breaks rest b) in
    let r = opened_good is cs (record s { constants = o.scope.constants }) xs (more_constants is s o.scope.constants h) (right_nothing o.breaks rest b) in
    let here : IsGoodScope (completed is cs o.scope) = record {
      own = g.0;
      host = hosted_all s.own h.own;
      procedures = ap (all_meant (is_good is)) k.procedures ∙ h.procedures;
      accessible = ap (all_meant (is_good is)) k.accessible ∙ h.accessible;
    } in
    ((here, r.0), ((g.0, g.1 refl), r.1))

-- ---- typed units
module _ (ps : List Procedure) where
  unit_means : (xs : List Symbol) (ss : fs.Statements) {j : Judgement ts.Statements} → Means j (ranks.AreStatements ps) → Means (unit_judged xs ss j) (λ x. ranks.AreStatements ps x.statements)
  unit_means xs ss h = both_means _ (any {j = all_made (map variable_of xs)}) h (λ vs body v w. w)

  procedure_means : (is : List Interface) (cs : List Constant) (c : Counted) (o : Opened) → AreRanks ps (completed is cs o.scope) → Means (procedure_judged is cs c o) (λ q. ranks.AreStatements ps q.unit.statements)
  procedure_means is cs c o r = ruled_means (end_breaks (Some o.headed.name) o.end)
      (λ b. made_means (procedure_form (interface_of o)) (unit_means (variables_of o.scope.own) o.body.statements (statements_means ps (position_of (completed is cs o.scope) c) r o.body.statements)) (λ x h. h))

  procedures_mean : (is : List Interface) (cs : List Constant) (c : Counted) (os : List Opened) → AllGood is cs os → ((k : ℕ) (i : Interface) → item_at is k ≡ Some i → IsInterfaceOf i (procedure_at ps k)) → Means (procedures_judged is cs c os) (ranks.AreProcedures ps)
  procedures_mean is cs c [] h f = fine_means [] tt
  procedures_mean is cs c (o ∷ os) h f = both_means (λ q qs. q ∷ qs) (procedure_means is cs c o (scope_ranks ps (completed is cs o.scope) h.0 f)) (procedures_mean is cs (behind c (counted_statements o.body.statements)) os h.1 f) (λ q qs v w. (v, w))

-- ---- the program
with_means : (p : u.Program) (s : Scope) (os : List Opened) (cs : List Constant) → IsGoodScope (completed (map interface_of os) cs s) → AllGood (map interface_of os) cs os → AllNamedRight os → Means (program_with p s os (map interface_of os) cs) ranks.IsKindedProgram
with_means p s os cs h g r = record {
  means = λ e x m.
      let is = map interface_of os in
      let start : Counted = record { criticals = 0; literals = [] } in
      let c = counted_statements p.body.statements in
      let form = program_form p (variables_of s.own) cs (behind c (counted_all os)) in
      let a = unit_judged (variables_of s.own) p.body.statements (judged_statements (position_of (completed is cs s) start) p.body.statements) in
      let b = procedures_judged is cs c os in
      let o = of_both form a.meaning b.meaning x m in
      let f = interfaces_right is cs c os o.1 r o.3 in
      let k = scope_ranks o.1 (completed is cs s) h f in
      let main = (unit_means o.1 (variables_of s.own) p.body.statements (statements_means o.1 (position_of (completed is cs s) start) k p.body.statements)).means (left_nothing a.breaks b.breaks e) o.0 o.2 in
      let others = (procedures_mean o.1 is cs c os g f).means (right_nothing a.breaks b.breaks e) o.1 o.3 in
      subst ranks.IsKindedProgram o.4 (main, others);
}

opened_means : (p : u.Program) (s : Scope) → all_meant is_fit s.own ≡ true → s.host ≡ [] → s.procedures ≡ procedure_names 0 (headings_of p) → s.accessible ≡ accessible_of p.uses → Means (program_opened p s) ranks.IsKindedProgram
opened_means p s h e f g =
    let xs = procedures_of p in
    let os = opened_procedures s xs in
    let is = map interface_of os in
    let cs = constants_behind s os in
    let a = uses_breaks p.uses in
    let b = twice_breaks (map name_of s.own) (headings_of p) in
    let c = opened_breaks os in
    let x = limit_breaks (variables_of s.own) in
    let y = end_breaks p.name p.end.name in
    let procedures : all_meant (is_good is) s.procedures ≡ true = ap (all_meant (is_good is)) f ∙ self_good p s in
    let accessible : all_meant (is_good is) s.accessible ≡ true = ap (all_meant (is_good is)) g ∙ uses_good is p.uses in
    let here : IsGoodScope (completed is cs s) = record { own = h; host = ap (all_meant is_fit) e; procedures = procedures; accessible = accessible } in
    let host : IsHost is s = record { own = h; procedures = procedures; accessible = accessible } in
    ruled_means (a ++ (b ++ (c ++ (x ++ y)))) (λ w. (
    let q = opened_good is cs s xs host (left_nothing c (x ++ y) (right_nothing b (c ++ (x ++ y)) (right_nothing a (b ++ (c ++ (x ++ y))) w))) in
    with_means p s os cs here q.0 q.1))

pub program_kinded : (p : u.Program) → Means (program_judged p) ranks.IsKindedProgram
program_kinded p =
    let s = record (first_scope p) { interfaces = interfaces_of p } in
    let x = main_declared p (interfaces_of p) in
    let g : Grows (Unit {0}) false s x = declarations_grow main_unit p.body.declarations s in
    ruled_means x.breaks (λ e. opened_means p (record x.scope { pending = [] }) (g.fits tt (refl, λ k. no k) e).0 g.host g.procedures g.accessible)

-- and so it has its ranks
pub program_means : (p : u.Program) → Means (program_judged p) IsRankedProgram
program_means p = weaker (program_kinded p) program_ranked
