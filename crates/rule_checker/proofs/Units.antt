-- Units, one behind the other.
use Rattle.std.proofs.Common.{◌≡◌, ◌∙◌, ℕ, ◌+◌, Bool, true, false, List, [], ◌∷◌, ◌++◌, drop, length, refl, sym, ap, arith}
use Rattle.std.specs.Prelude.{Option, Some, None, cond, map}
use Rattle.std.specs.Option.{option_map}
use Rattle.std.proofs.lemmas.List.{append-nil, append_assoc, map-append}
use Rattle.checked_tree.specs.Statements as ts
use Rattle.checked_tree.specs.StatementViews as typed
use Rattle.checked_tree.specs.declared.program.Procedure.{Procedure as ProcedureTyped}
use Rattle.fortran_tree.specs.declared.name.Name.{Name}
use Rattle.checked_tree.specs.declared.data.Constant.{Constant}
use Rattle.fortran_tree.specs.Units as u
use Rattle.fortran_tree.specs.UnitViews.{procedure}
use Rattle.fortran_tree.specs.declared.unit.Procedure.{Procedure}
use Rattle.part_rules.specs.Views.{list_of, one_more}
use Rattle.rule_definitions.specs.declared.broken.Broken.{Broken}
use Rattle.rule_definitions.specs.Judgements.{Judgement, both, first_of, is_nothing, made}
use Rattle.rule_definitions.specs.Names.{Interface, Named, Scope}
use Rattle.rule_definitions.specs.Statements.{Counted, Position, behind, counted_statements, end_breaks}
use Rattle.rule_definitions.specs.Units.{Opened, completed, counted_all, headed, interface_of, opened_procedure, opened_procedures, position_of, procedure_form, procedure_judged, procedures_judged}
use Rattle.scope_table.proofs.First.{first_of_both}
use Rattle.scope_table.specs.Symbols.{interface}
use Rattle.scope_table.specs.declared.symbol.Interface.{Interface as InterfaceInMemory}
use Rattle.unit_scopes.specs.Scopes.{owning, scope_of_opened}
use Rattle.rule_checker.specs.Units.{Units, all_further, counted, one_further, procedure_here, unit_here, units, with_procedure}
use Rattle.rule_checker.specs.declared.procedure.Gone.{Gone}

pub seen_one_more : {S T : Type 0} (f : S → T) (o : Option (List S)) (x : Option S) → option_map (map f) (both one_more o x) ≡ both one_more (option_map (map f) o) (option_map f x)
seen_one_more f None x = refl
seen_one_more f (Some xs) None = refl
seen_one_more f (Some xs) (Some x) = ap Some (map-append f xs (x ∷ []))

-- a turn of the loop over procedures
pub turn_further : (is : List Interface) (cs : List Constant) (c : Scope) (ps : List Procedure) (ts : List (List Named)) (js : List InterfaceInMemory) (i : ℕ) (p : Procedure) (t : List Named) (j : InterfaceInMemory) (k l end : Units)
    → drop i ps ≡ p ∷ drop (i + 1) ps → drop i ts ≡ t ∷ drop (i + 1) ts → drop i js ≡ j ∷ drop (i + 1) js → l ≡ one_further is cs (procedure p) (owning c t) (interface j) k
    → all_further is cs (map procedure (drop i ps)) (map (owning c) (drop i ts)) (map interface (drop i js)) k ≡ end
    → all_further is cs (map procedure (drop (i + 1) ps)) (map (owning c) (drop (i + 1) ts)) (map interface (drop (i + 1) js)) l ≡ end
unfolding all_further
turn_further is cs c ps ts js i p t j k l end dp dt dj e h =
    ap (all_further is cs (map procedure (drop (i + 1) ps)) (map (owning c) (drop (i + 1) ts)) (map interface (drop (i + 1) js))) e
    ∙ sym (ap (λ z. all_further is cs (map procedure z) (map (owning c) (drop i ts)) (map interface (drop i js)) k) dp
    ∙ ap (λ z. all_further is cs (map procedure (p ∷ drop (i + 1) ps)) (map (owning c) z) (map interface (drop i js)) k) dt
    ∙ ap (λ z. all_further is cs (map procedure (p ∷ drop (i + 1) ps)) (map (owning c) (t ∷ drop (i + 1) ts)) (map interface z) k) dj) ∙ h

pub further_none : (is : List Interface) (cs : List Constant) (ss : List Scope) (js : List Interface) (k : Units) → all_further is cs [] ss js k ≡ k
unfolding all_further
further_none is cs ss js k = refl

abbrev parts : Option Broken → Counted → Option (List ts.Procedure) → Units
parts f c ps = record { first = f; counted = c; procedures = ps }

abbrev pub appended : Option (List ts.Procedure) → Option (List ts.Procedure) → Option (List ts.Procedure)
appended a b = both (λ xs ys. xs ++ ys) a b

-- all procedures behind other units
abbrev pub behind_units : List Interface → List Constant → List Opened → Units → Units
behind_units is cs os k = parts (first_of k.first (procedures_judged is cs k.counted os).breaks) (behind k.counted (counted_all os)) (appended k.procedures (procedures_judged is cs k.counted os).meaning)

abbrev counts : ℕ → List (List ℕ) → Counted
counts n ls = record { criticals = n; literals = ls }

behind_none : (c : Counted) → behind c (counted_all []) ≡ c
behind_none c =
    let z : c.criticals + 0 ≡ c.criticals = omega arith in
    ap (λ n. counts n (c.literals ++ [])) z ∙ ap (counts c.criticals) (append-nil c.literals)

behind_both : (a b c : Counted) → behind (behind a b) c ≡ behind a (behind b c)
behind_both a b c =
    let z : (a.criticals + b.criticals) + c.criticals ≡ a.criticals + (b.criticals + c.criticals) = omega arith in
    ap (λ n. counts n ((a.literals ++ b.literals) ++ c.literals)) z ∙ ap (counts (a.criticals + (b.criticals + c.criticals))) (append_assoc a.literals b.literals c.literals)

appended_none : (o : Option (List ts.Procedure)) → appended o (Some []) ≡ o
appended_none None = refl
appended_none (Some ps) = ap Some (append-nil ps)

appended_more : (o : Option (List ts.Procedure)) (p : Option ts.Procedure) (q : Option (List ts.Procedure)) → appended (both one_more o p) q ≡ appended o (both (λ x xs. x ∷ xs) p q)
appended_more None p q = refl
appended_more (Some ps) None q = refl
appended_more (Some ps) (Some p) None = refl
appended_more (Some ps) (Some p) (Some qs) = ap Some (append_assoc ps (p ∷ []) qs)

none_further : (is : List Interface) (cs : List Constant) (k : Units) → k ≡ behind_units is cs [] k
none_further is cs k = sym (ap (λ c. parts k.first c (appended k.procedures (Some []))) (behind_none k.counted) ∙ ap (parts k.first k.counted) (appended_none k.procedures))

next_further : (is : List Interface) (cs : List Constant) (x : u.Procedure) (o : Opened) (os : List Opened) (k : Units) → o.body ≡ x.body
    → behind_units is cs os (with_procedure (procedure_judged is cs k.counted o) x k) ≡ behind_units is cs (o ∷ os) k
next_further is cs x o os k e =
    let j = procedure_judged is cs k.counted o in
    let c = counted_statements x.body.statements in
    let d = counted_statements o.body.statements in
    let l = procedures_judged is cs (behind k.counted c) os in
    ap (λ z. parts z (behind (behind k.counted c) (counted_all os)) (appended (both one_more k.procedures j.meaning) l.meaning)) (sym (first_of_both k.first j.breaks l.breaks))
    ∙ ap (λ z. parts (first_of k.first (j.breaks ++ l.breaks)) z (appended (both one_more k.procedures j.meaning) l.meaning)) (behind_both k.counted c (counted_all os))
    ∙ ap (parts (first_of k.first (j.breaks ++ l.breaks)) (behind k.counted (behind c (counted_all os)))) (appended_more k.procedures j.meaning l.meaning)
    ∙ ap (λ (b : u.Body). let m = procedures_judged is cs (behind k.counted (counted_statements b.statements)) os in
    parts (first_of k.first (j.breaks ++ m.breaks)) (behind k.counted (behind (counted_statements b.statements) (counted_all os))) (appended k.procedures (both (λ p ps. p ∷ ps) j.meaning m.meaning))) (sym e)

abbrev with_constants : Scope → List Constant → Scope
with_constants s cs = record s { constants = cs }

pub further_opened : (is : List Interface) (cs : List Constant) (s : Scope) (xs : List u.Procedure) (k : Units)
    → all_further is cs xs (map scope_of_opened (opened_procedures s xs)) (map interface_of (opened_procedures s xs)) k ≡ behind_units is cs (opened_procedures s xs) k
unfolding all_further one_further procedure_here unit_here
further_opened is cs s [] k = none_further is cs k
further_opened is cs s (x ∷ xs) k =
    let o = opened_procedure s (headed x.heading) x in
    further_opened is cs (with_constants s o.scope.constants) xs (with_procedure (procedure_judged is cs k.counted o) x k)
    ∙ next_further is cs x o (opened_procedures (with_constants s o.scope.constants) xs) k refl

-- a procedure, from its parts
made_is : {A B : Type 0} (f : A → B) (o : Option A) → option_map f o ≡ made f o
made_is f None = refl
made_is f (Some x) = refl

abbrev ended : u.Procedure → Name → List Broken
ended p n = end_breaks (Some n) p.end.name

abbrev named_unit : List Named → Position → u.Procedure → Judgement ts.Unit'
named_unit own x p = unit_here own x p.body.statements

pub procedure_first : (own : List Named) (x : Position) (i : Interface) (p : u.Procedure) (n : Name) (f g h : Option Broken) → n ≡ (headed p.heading).name
    → g ≡ first_of f (named_unit own x p).breaks → h ≡ first_of g (ended p n) → h ≡ first_of f (procedure_here own x i p).breaks
unfolding procedure_here
procedure_first own x i p n f g h e a b =
    b ∙ ap (λ k. first_of k (ended p n)) a ∙ ap (λ k. first_of (first_of f (named_unit own x p).breaks) (ended p k)) e ∙ sym (first_of_both f (named_unit own x p).breaks (ended p (headed p.heading).name))

pub procedure_fine : (own : List Named) (x : Position) (i : Interface) (p : u.Procedure) (n : Name) (b : Bool) (o : Option ts.Unit') (q : Option ts.Procedure) → n ≡ (headed p.heading).name
    → b ≡ is_nothing (ended p n) → b ≡ true → o ≡ (named_unit own x p).meaning → q ≡ option_map (procedure_form i) o → q ≡ (procedure_here own x i p).meaning
unfolding procedure_here
procedure_fine own x i p n b o q e a t m k =
    k ∙ made_is (procedure_form i) o ∙ ap (made (procedure_form i)) m
    ∙ ap (λ z. cond z (made (procedure_form i) (named_unit own x p).meaning) None) (sym t ∙ a ∙ ap (λ z. is_nothing (ended p z)) e)

pub procedure_broken : (own : List Named) (x : Position) (i : Interface) (p : u.Procedure) (n : Name) (b : Bool) → n ≡ (headed p.heading).name
    → b ≡ is_nothing (ended p n) → b ≡ false → None ≡ (procedure_here own x i p).meaning
unfolding procedure_here
procedure_broken own x i p n b e a t = ap (λ z. cond z (made (procedure_form i) (named_unit own x p).meaning) None) (sym t ∙ a ∙ ap (λ z. is_nothing (ended p z)) e)

-- the next procedure behind other units
pub next_units : (is : List Interface) (cs : List Constant) (p : u.Procedure) (s : Scope) (j : Interface) (g k : Gone) (z : Scope) (x : Position) (o : Option ProcedureTyped)
    → z ≡ completed is cs s → x ≡ position_of z (counted g.counts) → k.first ≡ first_of g.first (procedure_here s.own x j p).breaks → option_map typed.procedure o ≡ (procedure_here s.own x j p).meaning
    → option_map list_of k.procedures ≡ both one_more (option_map list_of g.procedures) o → counted k.counts ≡ behind (counted g.counts) (counted_statements p.body.statements)
    → units k ≡ one_further is cs p s j (units g)
unfolding units one_further
next_units is cs p s j g k z x o ez ex hf ho hk hc =
    let y = position_of (completed is cs s) (counted g.counts) in
    let e : x ≡ y = ex ∙ ap (λ w. position_of w (counted g.counts)) ez in
    let old = option_map (map typed.procedure) (option_map list_of g.procedures) in
    ap (λ w. parts w (counted k.counts) (option_map (map typed.procedure) (option_map list_of k.procedures))) (hf ∙ ap (λ w. first_of g.first (procedure_here s.own w j p).breaks) e)
    ∙ ap (λ w. parts (first_of g.first (procedure_here s.own y j p).breaks) w (option_map (map typed.procedure) (option_map list_of k.procedures))) hc
    ∙ ap (parts (first_of g.first (procedure_here s.own y j p).breaks) (behind (counted g.counts) (counted_statements p.body.statements)))
    (ap (option_map (map typed.procedure)) hk ∙ seen_one_more typed.procedure (option_map list_of g.procedures) o ∙ ap (both one_more old) (ho ∙ ap (λ w. (procedure_here s.own w j p).meaning) e))
