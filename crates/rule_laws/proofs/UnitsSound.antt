-- Programs are judged soundly, where their functions have typed results.
use Rattle.std.proofs.Common.{◌≡◌, ◌∙◌, ℕ, ℤ, zero, suc, ◌+◌, Bool, true, false, List, [], ◌∷◌, ◌++◌, refl, sym, ap, subst, arith}
use Rattle.std.specs.Prelude.{cond, not, nat_eq, nat_lt, nat_le, ◌&&◌, ◌||◌, Option, Some, None, length, map}
use Rattle.caf_base.specs.declared.place.Pos.{Pos}
use Rattle.fortran_tree.specs.Statements as fs
use Rattle.fortran_tree.specs.Units as u
use Rattle.fortran_tree.specs.declared.name.Name.{Name}
use Rattle.checked_tree.specs.Statements as ts
use Rattle.checked_tree.specs.declared.data.DataType.{DataType}
use Rattle.checked_tree.specs.declared.data.Dimensions.{Dimensions}
use Rattle.checked_tree.specs.declared.data.Dimensions.TheVariants as shapes
use Rattle.checked_tree.specs.declared.data.Constant.{Constant}
use Rattle.rule_definitions.specs.Judgements.{Judgement, fine, unknown, all_made, is_there, item_at}
use Rattle.rule_definitions.specs.Names
use Rattle.rule_definitions.specs.Names.{Scope, Symbol, Named, named, Meaning, Interface, is_among, denoted_in, variables_of, module_names}
use Rattle.rule_definitions.specs.Constants.{all_bounds}
use Rattle.rule_definitions.specs.Declarations.{cells_of, cells_breaks, coarrays_among, locals_among, limit_breaks}
use Rattle.rule_definitions.specs.Statements.{Counted, counted_statements, behind, end_breaks}
use Rattle.rule_definitions.specs.Units.{is_module, only_breaks, names_breaks, uses_breaks, accessible_name, accessible_names, accessible_by, accessible_of, Headed, headed, meaning_of_heading, procedure_names, twice_breaks, Opened, opened_procedure, opened_procedures, constants_behind, interface_of, dimensions_of, type_known, variable_of, unit_judged, procedure_form, completed, position_of, procedure_judged, procedures_judged, procedures_of, main_unit, headings_of, first_scope, opened_breaks, name_of, program_with, program_opened, main_declared, interfaces_of, program_judged}
use Rattle.rule_definitions.specs.Acceptance.{Breaks}
use Rattle.std.proofs.lemmas.Bool.Decides.{nat_tests}
use Rattle.rule_laws.specs.Meanings.{IsUnbroken, IsAccepted}
use Rattle.rule_laws.specs.Rules.{IsRule}
use Rattle.rule_laws.proofs.Sound.{is_numbered, AreNumbered, IsSound, none_numbered, breaks_numbered, cond_numbered, unless_numbered, both_numbered, left_nothing, right_nothing, fine_sound, unknown_sound, weaker, ruled_sound, ruled_plain, made_sound, made_of_both_sound, cond_sound, some_same, none_some}
use Rattle.rule_laws.proofs.AssignmentsSound.{IsSettled}
use Rattle.rule_laws.proofs.Known.{is_known, has_typed_result, is_placed, is_known_symbol, and_left, and_right, no}
use Rattle.rule_laws.proofs.ArgumentsSound.{and_both}
use Rattle.rule_laws.proofs.StatementsSound.{end_numbered, statements_sound}
use Rattle.rule_laws.proofs.Filled.{is_bounded, is_data, is_library, is_typed, all_meant, meant_in, meant_both, IsFilled, filled_settled}
use Rattle.rule_laws.proofs.DeclaredSound.{IsGrown, declarations_grown}
use Rattle.rule_laws.proofs.OpenedSound.{procedure_opened}

-- USE

only_numbered : (ns : List Name) → AreNumbered (only_breaks ns)
only_numbered [] = none_numbered
only_numbered (n ∷ ns) = both_numbered (unless_numbered (is_there (denoted_in module_names n.text)) 20 n.at refl) (only_numbered ns)

names_numbered : (o : Option (List Name)) → AreNumbered (names_breaks o)
names_numbered None = none_numbered
names_numbered (Some ns) = only_numbered ns

uses_numbered : (xs : List u.Use) → AreNumbered (uses_breaks xs)
uses_numbered [] = none_numbered
uses_numbered (x ∷ xs) = both_numbered (cond_numbered (is_module x.module_name.text) (names_numbered x.only) (breaks_numbered 20 x.module_name.at refl)) (uses_numbered xs)

module_library : all_meant is_library module_names ≡ true
module_library = refl

one_library : (n : List ℕ) (o : Option Meaning) → ((m : Meaning) → o ≡ Some m → is_library m ≡ true) → all_meant is_library (elim o [ None ↦ [] | Some m ↦ named n m ∷ [] ]) ≡ true
one_library n None h = refl
one_library n (Some m) h = and_both (is_library m) true (h m refl) refl

names_library : (ns : List Name) → all_meant is_library (accessible_names ns) ≡ true
names_library [] = refl
names_library (n ∷ ns) = meant_both is_library (accessible_name n.text) (accessible_names ns) (one_library n.text (denoted_in module_names n.text) (λ m e. meant_in is_library module_names n.text m module_library e)) (names_library ns)

only_library : (o : Option (List Name)) → all_meant is_library (elim o [ None ↦ module_names | Some ns ↦ accessible_names ns ]) ≡ true
only_library None = module_library
only_library (Some ns) = names_library ns

cond_library : (b : Bool) (xs : List Named) → all_meant is_library xs ≡ true → all_meant is_library (cond b xs []) ≡ true
cond_library true xs h = h
cond_library false xs h = refl

uses_library : (xs : List u.Use) → all_meant is_library (accessible_of xs) ≡ true
uses_library [] = refl
uses_library (x ∷ xs) = meant_both is_library (accessible_by x) (accessible_of xs) (cond_library (is_module x.module_name.text) (elim x.only [ None ↦ module_names | Some ns ↦ accessible_names ns ]) (only_library x.only)) (uses_library xs)

-- Names of procedures

heading_known : (is : List Interface) (n : ℕ) (o : Option Name) → is_there (item_at is n) ≡ true → is_known is (elim o [ None ↦ Names.subroutine n | Some r ↦ Names.function n ]) ≡ true
heading_known is n None h = h
heading_known is n (Some r) h = refl

names_known : (is : List Interface) (n : ℕ) (hs : List Headed) → ((i : ℕ) (h : Headed) → item_at hs i ≡ Some h → is_there (item_at is (n + i)) ≡ true) → all_meant (is_known is) (procedure_names n hs) ≡ true
names_known is n [] f = refl
names_known is n (h ∷ hs) f =
    let z : n + 0 ≡ n = omega arith in
    let g : is_there (item_at is n) ≡ true = subst (λ k. is_there (item_at is k) ≡ true) z (f 0 h refl) in
    and_both (is_known is (meaning_of_heading n h)) (all_meant (is_known is) (procedure_names (n + 1) hs)) (heading_known is n h.answer g)
    (names_known is (n + 1) hs (λ i k e. (let w : n + suc i ≡ (n + 1) + i = omega arith in subst (λ j. is_there (item_at is j) ≡ true) w (f (suc i) k e))))

heading_typed : (is : List Interface) (n : ℕ) (o : Option Name) → (is_there o ≡ true → has_typed_result (item_at is n) ≡ true) → is_typed is (elim o [ None ↦ Names.subroutine n | Some r ↦ Names.function n ]) ≡ true
heading_typed is n None h = refl
heading_typed is n (Some r) h = h refl

abbrev IsTyped : List Interface → ℕ → Headed → Type 0
IsTyped is n h = is_there h.answer ≡ true → has_typed_result (item_at is n) ≡ true

names_typed : (is : List Interface) (n : ℕ) (hs : List Headed) → ((i : ℕ) (h : Headed) → item_at hs i ≡ Some h → IsTyped is (n + i) h) → all_meant (is_typed is) (procedure_names n hs) ≡ true
names_typed is n [] f = refl
names_typed is n (h ∷ hs) f =
    let z : n + 0 ≡ n = omega arith in
    let g : IsTyped is n h = subst (λ k. IsTyped is k h) z (f 0 h refl) in
    and_both (is_typed is (meaning_of_heading n h)) (all_meant (is_typed is) (procedure_names (n + 1) hs)) (heading_typed is n h.answer g)
    (names_typed is (n + 1) hs (λ i k e. (let w : n + suc i ≡ (n + 1) + i = omega arith in subst (λ j. IsTyped is j k) w (f (suc i) k e))))

-- the procedures of a scope in order
abbrev heads : List u.Procedure → List Headed
heads xs = map (λ x. headed x.heading) xs

interface_there : (s : Scope) (xs : List u.Procedure) (i : ℕ) (h : Headed) → item_at (heads xs) i ≡ Some h → is_there (item_at (map interface_of (opened_procedures s xs)) i) ≡ true
interface_there s [] i h e = none_some h e
interface_there s (x ∷ xs) zero h e = refl
interface_there s (x ∷ xs) (suc i) h e = interface_there (record s { constants = (opened_procedure s (headed x.heading) x).scope.constants }) xs i h e

constants_filled : (s : Scope) (cs : List Constant) → IsFilled s → IsFilled (record s { constants = cs })
constants_filled s cs f = record { own = f.own; host = f.host; procedures = f.procedures; accessible = f.accessible }

interface_typed : (s : Scope) (xs : List u.Procedure) (i : ℕ) (h : Headed) → IsFilled s → opened_breaks (opened_procedures s xs) ≡ [] → item_at (heads xs) i ≡ Some h → is_there h.answer ≡ true → has_typed_result (item_at (map interface_of (opened_procedures s xs)) i) ≡ true
interface_typed s [] i h f b e a = none_some h e
interface_typed s (x ∷ xs) zero h f b e a =
    let o = opened_procedure s (headed x.heading) x in
    (procedure_opened s (headed x.heading) x).answer f (left_nothing o.breaks (opened_breaks (opened_procedures (record s { constants = o.scope.constants }) xs)) b) (ap (λ z. is_there z.answer) (some_same (headed x.heading) h e) ∙ a)
interface_typed s (x ∷ xs) (suc i) h f b e a =
    let o = opened_procedure s (headed x.heading) x in
    interface_typed (record s { constants = o.scope.constants }) xs i h (constants_filled s o.scope.constants f) (right_nothing o.breaks (opened_breaks (opened_procedures (record s { constants = o.scope.constants }) xs)) b) e a

opened_numbered : (s : Scope) (xs : List u.Procedure) → AreNumbered (opened_breaks (opened_procedures s xs))
opened_numbered s [] = none_numbered
opened_numbered s (x ∷ xs) = both_numbered (procedure_opened s (headed x.heading) x).numbered (opened_numbered (record s { constants = (opened_procedure s (headed x.heading) x).scope.constants }) xs)

-- Scopes in which statements stand

completed_filled : (is : List Interface) (cs : List Constant) (s : Scope) (ps : List Named) → IsFilled s → s.procedures ≡ ps → all_meant (is_known is) ps ≡ true → IsFilled (completed is cs s)
completed_filled is cs s ps f e h = record { own = f.own; host = f.host; procedures = ap (all_meant (is_known is)) e ∙ h; accessible = f.accessible }

completed_settled : (is : List Interface) (cs : List Constant) (s : Scope) (ps : List Named) → IsFilled s → s.procedures ≡ ps → all_meant (is_known is) ps ≡ true → all_meant (is_typed is) ps ≡ true → IsSettled (completed is cs s)
completed_settled is cs s ps f e h k = filled_settled (completed is cs s) (completed_filled is cs s ps f e h) (ap (all_meant (is_typed is)) e ∙ k)

abbrev AllSettled : List Interface → List Constant → List Opened → Type 0
AllSettled is cs [] = Unit {0}
AllSettled is cs (o ∷ os) = (IsSettled (completed is cs o.scope) × (all_meant is_data o.scope.own ≡ true)) × AllSettled is cs os

all_settled : (is : List Interface) (cs : List Constant) (s : Scope) (xs : List u.Procedure) → IsFilled s → opened_breaks (opened_procedures s xs) ≡ [] → all_meant (is_known is) s.procedures ≡ true → all_meant (is_typed is) s.procedures ≡ true → AllSettled is cs (opened_procedures s xs)
all_settled is cs s [] f b h t = tt
all_settled is cs s (x ∷ xs) f b h t =
    let o = opened_procedure s (headed x.heading) x in
    let k = procedure_opened s (headed x.heading) x in
    let rest = opened_breaks (opened_procedures (record s { constants = o.scope.constants }) xs) in
    let g = k.filled f (left_nothing o.breaks rest b) in
    ((completed_settled is cs o.scope s.procedures g k.kept h t, g.own), all_settled is cs (record s { constants = o.scope.constants }) xs (constants_filled s o.scope.constants f) (right_nothing o.breaks rest b) h t)

-- Variables

known_sound : {H : Type 0} (o : Option DataType) → (H → is_there o ≡ true) → IsSound H (type_known o)
known_sound None h = unknown_sound (λ k. no (h k))
known_sound (Some y) h = fine_sound y

explicit_sound : {H : Type 0} (o : Option (List (ℤ × ℤ))) → (H → is_there o ≡ true) → IsSound H (elim o [ None ↦ unknown {T = Dimensions} | Some ds ↦ fine (shapes.Explicit (record { dims = ds })) ])
explicit_sound None h = unknown_sound (λ k. no (h k))
explicit_sound (Some ds) h = fine_sound (shapes.Explicit (record { dims = ds }))

or_rest : (a b : Bool) → a || b ≡ true → a ≡ false → b ≡ true
or_rest true b e f = no (sym f)
or_rest false true e f = refl
or_rest false false e f = e

dimensions_sound : (x : Symbol) → IsSound (is_bounded x ≡ true) (dimensions_of x)
dimensions_sound x = cond_sound (x.is_allocatable && not (nat_eq (length x.bounds) 0)) (fine_sound (shapes.Deferred (length x.bounds)))
    (explicit_sound (all_bounds x.bounds) (λ h. or_rest (x.is_allocatable && not (nat_eq (length x.bounds) 0)) (is_there (all_bounds x.bounds)) (h.0) (h.1)))

variable_sound : (x : Symbol) → IsSound (is_data (Names.variable x) ≡ true) (variable_of x)
variable_sound x = made_of_both_sound (λ y ds. record { name = x.name; of_type = y; dimensions = ds; codimensions = x.coshape; is_allocatable = x.is_allocatable; initial = x.initial })
    (known_sound x.of_type (λ h. and_left (is_there x.of_type) (is_placed x.of_type x.object) (and_left (is_known_symbol x) (is_bounded x) h)))
    (weaker (λ h. and_right (is_known_symbol x) (is_bounded x) h) (dimensions_sound x))

variables_step : (H : Type 0) (m : Meaning) (ys : List Symbol) → (H → is_data m ≡ true) → IsSound H (all_made (map variable_of ys)) → IsSound H (all_made (map variable_of (elim m [ Names.variable y ↦ y ∷ ys | k ↦ ys ])))
variables_step H (Names.variable y) ys h k = made_of_both_sound (λ x xs. x ∷ xs) (weaker h (variable_sound y)) k
variables_step H m ys h k = k

variables_sound : (H : Type 0) (xs : List Named) → (H → all_meant is_data xs ≡ true) → IsSound H (all_made (map variable_of (variables_of xs)))
variables_sound H [] h = fine_sound []
variables_sound H (x ∷ xs) h = variables_step H x.meaning (variables_of xs) (λ z. and_left (is_data x.meaning) (all_meant is_data xs) (h z)) (variables_sound H xs (λ z. and_right (is_data x.meaning) (all_meant is_data xs) (h z)))

unit_sound : (H : Type 0) (xs : List Named) (ss : fs.Statements) {j : Judgement ts.Statements} → (H → all_meant is_data xs ≡ true) → IsSound H j → IsSound H (unit_judged (variables_of xs) ss j)
unit_sound H xs ss h k = made_of_both_sound _ (variables_sound H xs h) k

-- Procedures

procedure_sound : (H : Type 0) (is : List Interface) (cs : List Constant) (c : Counted) (o : Opened) → (H → IsSettled (completed is cs o.scope)) → (H → all_meant is_data o.scope.own ≡ true) → IsSound H (procedure_judged is cs c o)
procedure_sound H is cs c o f g = ruled_plain (made_sound (procedure_form (interface_of o)) (unit_sound H o.scope.own o.body.statements g (weaker f (statements_sound (position_of (completed is cs o.scope) c) o.body.statements))))
    (end_numbered (Some o.headed.name) o.end)

procedures_sound : (H : Type 0) (is : List Interface) (cs : List Constant) (c : Counted) (os : List Opened) → (H → AllSettled is cs os) → IsSound H (procedures_judged is cs c os)
procedures_sound H is cs c [] f = fine_sound []
procedures_sound H is cs c (o ∷ os) f = made_of_both_sound (λ p ps. p ∷ ps) (procedure_sound H is cs c o (λ z. ((f z).0).0) (λ z. ((f z).0).1)) (procedures_sound H is cs (behind c (counted_statements o.body.statements)) os (λ z. (f z).1))

-- The program

twice_numbered : (before : List (List ℕ)) (hs : List Headed) → AreNumbered (twice_breaks before hs)
twice_numbered before [] = none_numbered
twice_numbered before (h ∷ hs) = both_numbered (unless_numbered (not (is_among before h.name.text)) 21 h.name.at refl) (twice_numbered (h.name.text ∷ before) hs)

cells_numbered : (n : ℕ) (xs : List Symbol) → AreNumbered (cells_breaks n xs)
cells_numbered n [] = none_numbered
cells_numbered n (x ∷ xs) = both_numbered (unless_numbered (not (nat_le n 65536 && nat_lt 65536 (n + cells_of x))) 30 x.at refl) (cells_numbered (n + cells_of x) xs)

limits_numbered : (xs : List Symbol) → AreNumbered (limit_breaks xs)
limits_numbered xs = both_numbered (cells_numbered 0 (coarrays_among xs)) (cells_numbered 0 (locals_among xs))

with_sound : (H : Type 0) (p : u.Program) (s : Scope) (os : List Opened) (is : List Interface) (cs : List Constant) → (H → all_meant is_data s.own ≡ true) → (H → IsSettled (completed is cs s)) → (H → AllSettled is cs os) → IsSound H (program_with p s os is cs)
with_sound H p s os is cs d f g = made_of_both_sound _
    (unit_sound H s.own p.body.statements d (weaker f (statements_sound (position_of (completed is cs s) (record { criticals = 0; literals = [] })) p.body.statements)))
    (procedures_sound H is cs (counted_statements p.body.statements) os g)

-- the names of the procedures are known, and those of functions typed, by the procedures themselves
self_known : (p : u.Program) (s : Scope) → all_meant (is_known (map interface_of (opened_procedures s (procedures_of p)))) (procedure_names 0 (headings_of p)) ≡ true
self_known p s =
    let xs = procedures_of p in
    let is = map interface_of (opened_procedures s xs) in
    names_known is 0 (heads xs) (λ i h e. (let z : i ≡ 0 + i = omega arith in subst (λ k. is_there (item_at is k) ≡ true) z (interface_there s xs i h e)))

self_typed : (p : u.Program) (s : Scope) → IsFilled s → opened_breaks (opened_procedures s (procedures_of p)) ≡ [] → all_meant (is_typed (map interface_of (opened_procedures s (procedures_of p)))) (procedure_names 0 (headings_of p)) ≡ true
self_typed p s f b =
    let xs = procedures_of p in
    let is = map interface_of (opened_procedures s xs) in
    names_typed is 0 (heads xs) (λ i h e. (let z : i ≡ 0 + i = omega arith in subst (λ k. IsTyped is k h) z (λ a. interface_typed s xs i h f b e a)))

opened_sound : (H : Type 0) (p : u.Program) (s : Scope) → (H → IsFilled s) → s.procedures ≡ procedure_names 0 (headings_of p) → IsSound H (program_opened p s)
opened_sound H p s f e =
    let xs = procedures_of p in
    let os = opened_procedures s xs in
    let is = map interface_of os in
    let cs = constants_behind s os in
    let a = uses_breaks p.uses in
    let b = twice_breaks (map name_of s.own) (headings_of p) in
    let c = opened_breaks os in
    let x = limit_breaks (variables_of s.own) in
    let y = end_breaks p.name p.end.name in
    let bs = a ++ (b ++ (c ++ (x ++ y))) in
    let opens : bs ≡ [] → c ≡ [] = λ h. left_nothing c (x ++ y) (right_nothing b (c ++ (x ++ y)) (right_nothing a (b ++ (c ++ (x ++ y))) h)) in
    ruled_sound bs
    (with_sound (H × (bs ≡ [])) p s os is cs (λ z. (f (z.0)).own)
    (λ z. completed_settled is cs s (procedure_names 0 (headings_of p)) (f (z.0)) e (self_known p s) (self_typed p s (f (z.0)) (opens (z.1))))
    (λ z. all_settled is cs s xs (f (z.0)) (opens (z.1)) (ap (all_meant (is_known is)) e ∙ self_known p s) (ap (all_meant (is_typed is)) e ∙ self_typed p s (f (z.0)) (opens (z.1)))))
    (both_numbered (uses_numbered p.uses) (both_numbered (twice_numbered (map name_of s.own) (headings_of p)) (both_numbered (opened_numbered s xs) (both_numbered (limits_numbered (variables_of s.own)) (end_numbered p.name p.end.name)))))

-- the scope before the declarations
first_filled : (p : u.Program) → IsFilled (record (first_scope p) { interfaces = interfaces_of p })
first_filled p = record {
  own = refl;
  host = refl;
  procedures = self_known p (record (main_declared p []).scope { pending = [] });
  accessible = uses_library p.uses;
}

pending_filled : (s : Scope) → IsFilled s → IsFilled (record s { pending = [] })
pending_filled s f = record { own = f.own; host = f.host; procedures = f.procedures; accessible = f.accessible }

pub program_sound : (p : u.Program) → IsSound (Unit {0}) (program_judged p)
program_sound p =
    let s = record (first_scope p) { interfaces = interfaces_of p } in
    let x = main_declared p (interfaces_of p) in
    let g : IsGrown (Unit {0}) main_unit s x = declarations_grown main_unit p.body.declarations s in
    ruled_sound x.breaks (opened_sound (Unit {0} × (x.breaks ≡ [])) p (record x.scope { pending = [] }) (λ z. pending_filled x.scope (g.filled tt (first_filled p) (z.1))) g.kept) g.numbered

-- In the words of the laws

rule_bounds : (r : ℕ) → is_numbered r ≡ true → IsRule r
rule_bounds r e =
    let a = and_left (nat_le 20 r) (nat_le r 59) e in
    let b = and_right (nat_le 20 r) (nat_le r 59) e in
    (grind (arith, nat_tests), grind (arith, nat_tests))

pub broken_rule : (p : u.Program) (r : ℕ) (at : Pos) → Breaks p r at → IsRule r
broken_rule p r at h = rule_bounds r ((program_sound p).numbered.each (record { rule = r; at = at }) h)

there_some : {T : Type 0} (o : Option T) → is_there o ≡ true → (x : T) × (o ≡ Some x)
there_some None e = no e
there_some (Some x) e = (x, refl)

pub accepted_whole : (p : u.Program) → IsUnbroken p → IsAccepted p
accepted_whole p e =
    let m = there_some (program_judged p).meaning ((program_sound p).decided tt e) in
    (m.0, record { unbroken = e; meaning = m.1 })
