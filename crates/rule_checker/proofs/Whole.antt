-- A whole program, from its parts.
use Rattle.std.proofs.Common.{◌≡◌, ◌∙◌, ℕ, ◌+◌, Bool, true, false, List, [], ◌∷◌, ◌++◌, length, refl, sym, ap, arith}
use Rattle.std.specs.Prelude.{Option, Some, None, bytes_eq, cond, map, not, ◌||◌}
use Rattle.std.specs.Option.{option_map}
use Rattle.std.proofs.lemmas.List.{length-map}
use Rattle.checked_tree.specs.Statements as ts
use Rattle.checked_tree.specs.StatementViews as typed
use Rattle.checked_tree.specs.declared.data.Constant.{Constant}
use Rattle.checked_tree.specs.declared.program.Checked.{Checked}
use Rattle.checked_tree.specs.declared.program.Unit.{Unit}
use Rattle.checked_tree.specs.declared.program.Procedure.{Procedure}
use Rattle.std.specs.declared.alloc.Global.{Global}
use Rattle.std.specs.declared.vec.Vec.{Vec}
use Rattle.part_rules.specs.Views.{list_of}
use Rattle.fortran_tree.specs.Units as u
use Rattle.rule_definitions.specs.declared.broken.Broken.{Broken}
use Rattle.rule_definitions.specs.Acceptance.{Accepts}
use Rattle.rule_definitions.specs.Declarations.{Declared, limit_breaks}
use Rattle.rule_definitions.specs.Judgements.{Judgement, both, comes_first, first_of, is_nothing, is_there, ruled, unless}
use Rattle.rule_definitions.specs.Names.{Interface, Named, Scope, is_among, variables_of}
use Rattle.rule_definitions.specs.Statements.{Counted, Position, behind, counted_statements, end_breaks, no_count}
use Rattle.rule_definitions.specs.Units.{Headed, Opened, coarray_numbers, completed, constants_behind, counted_all, headed, headings_of, interface_of, interfaces_of, main_declared, name_of, opened_breaks, opened_procedure, opened_procedures, position_of, procedures_judged, procedures_of, program_declared, program_judged, program_opened, program_with, twice_breaks, uses_breaks}
use Rattle.rule_laws.proofs.UnitsSound.{accepted_whole}
use Rattle.scope_table.proofs.First.{first_of_both}
use Rattle.scope_table.specs.Outside.{Outer}
use Rattle.scope_table.specs.Symbols.{interface}
use Rattle.unit_scopes.specs.Openings.{closing}
use Rattle.unit_scopes.specs.Scopes.{Passed, bare_scope, main_behind, main_scope, owning, passed, passed_of, passed_through, scope_of_opened}
use Rattle.unit_scopes.specs.declared.program.Procedures.{Procedures}
use Rattle.unit_scopes.specs.declared.scopes.Scopes.{Scopes}
use Rattle.rule_checker.specs.Noted.{noted}
use Rattle.rule_checker.specs.Units.{Units, all_further, counted, unit_here, units}
use Rattle.rule_checker.specs.declared.program.Judged.{Judged}
use Rattle.rule_checker.specs.declared.unit.Counts.{Counts}
use Rattle.rule_checker.specs.Whole.{All, begun, formed, rest_first, seen, statements_in, whole, with_procedures, with_rest}
use Rattle.rule_checker.proofs.Firsts.{first_apart}
use Rattle.rule_checker.proofs.Units.{appended, behind_units, further_opened}

-- the rules that are noted, as one list
rest_list : (us ns os ls es : List Broken) (o : Option Broken)
    → first_of (first_of (first_of (first_of (first_of o us) ns) (noted (first_of None os))) ls) es ≡ first_of o (us ++ (ns ++ (os ++ (ls ++ es))))
rest_list us ns os ls es o =
    ap (λ k. first_of (first_of k ls) es) (first_apart (first_of (first_of o us) ns) os)
    ∙ sym (first_of_both o us (ns ++ (os ++ (ls ++ es))) ∙ first_of_both (first_of o us) ns (os ++ (ls ++ es)) ∙ first_of_both (first_of (first_of o us) ns) os (ls ++ es)
    ∙ first_of_both (first_of (first_of (first_of o us) ns) os) ls es)

all_list : (ms ps rs ds : List Broken) → first_of (first_of (first_of (first_of None ms) ps) rs) (noted (first_of None ds)) ≡ first_of None (((ms ++ ps) ++ rs) ++ ds)
all_list ms ps rs ds =
    first_apart (first_of (first_of (first_of None ms) ps) rs) ds
    ∙ sym (first_of_both None ((ms ++ ps) ++ rs) ds ∙ ap (λ k. first_of k ds) (first_of_both None (ms ++ ps) rs ∙ ap (λ k. first_of k rs) (first_of_both None ms ps)))

-- what is found of a program, said by the definitions
abbrev parts_of : u.Program → List Named → Option Broken → Option Broken → List Scope → Scope → List Interface → List Constant → All
parts_of p own opened declared ss s is cs = with_rest p own opened declared (with_procedures is cs (procedures_of p) ss (begun is cs s p))

abbrev procedures_in : u.Program → Declared → List Opened
procedures_in p d = opened_procedures (record d.scope { pending = [] }) (procedures_of p)

abbrev all_of : u.Program → Declared → All
all_of p d =
    let s = record d.scope { pending = [] } in
    let os = procedures_in p d in
    parts_of p s.own (first_of None (opened_breaks os)) (first_of None d.breaks) (map scope_of_opened os) (bare_scope s) (map interface_of os) (constants_behind s os)

whole_parts : (p : u.Program) (o : Outer) (is : List Interface) (x : Scopes)
    → whole o x p ≡ parts_of p x.own x.procedures.grown.first x.first (map (owning (closing (main_scope o is []) x.own)) x.procedures.tables.items) (owning (main_scope o is []) x.own) (map interface x.procedures.interfaces.items) x.procedures.grown.constants.items
unfolding whole begun
whole_parts p o is x = refl

whole_of : (p : u.Program) (o : Outer) (is : List Interface) (x : Scopes) → x.first ≡ first_of None (main_declared p is).breaks → x.own ≡ (main_declared p is).scope.own
    → owning (main_scope o is []) x.own ≡ bare_scope (main_behind p is) → passed (closing (main_scope o is []) x.own) x.procedures ≡ passed_through (main_behind p is) (procedures_of p) None
    → whole o x p ≡ all_of p (main_declared p is)
unfolding passed passed_through passed_of
whole_of p o is x f n b h =
    let d = main_declared p is in
    let s = main_behind p is in
    let os = procedures_in p d in
    let q = x.procedures in
    let t = map (owning (closing (main_scope o is []) x.own)) q.tables.items in
    let m = owning (main_scope o is []) x.own in
    let js = map interface q.interfaces.items in
    let cs = q.grown.constants.items in
    whole_parts p o is x
    ∙ ap (λ z. parts_of p z q.grown.first x.first t m js cs) n
    ∙ ap (λ z. parts_of p s.own z x.first t m js cs) (ap (λ (k : Passed). k.first) h)
    ∙ ap (λ z. parts_of p s.own (first_of None (opened_breaks os)) z t m js cs) f
    ∙ ap (λ z. parts_of p s.own (first_of None (opened_breaks os)) (first_of None d.breaks) z m js cs) (ap (λ (k : Passed). k.scopes) h)
    ∙ ap (λ z. parts_of p s.own (first_of None (opened_breaks os)) (first_of None d.breaks) (map scope_of_opened os) z js cs) b
    ∙ ap (λ z. parts_of p s.own (first_of None (opened_breaks os)) (first_of None d.breaks) (map scope_of_opened os) (bare_scope s) z cs) (ap (λ (k : Passed). k.interfaces) h)
    ∙ ap (parts_of p s.own (first_of None (opened_breaks os)) (first_of None d.breaks) (map scope_of_opened os) (bare_scope s) (map interface_of os)) (ap (λ (k : Passed). k.constants) h)

-- as many scopes and interfaces as procedures
opened_length : (s : Scope) (xs : List u.Procedure) → length (opened_procedures s xs) ≡ length xs
opened_length s [] = refl
opened_length s (x ∷ xs) =
    let k = opened_length (record s { constants = (opened_procedure s (headed x.heading) x).scope.constants }) xs in
    omega (arith, k)

pub tables_length : (p : u.Program) (s c : Scope) (q : Procedures) → passed c q ≡ passed_through s (procedures_of p) None → length q.tables.items ≡ length (procedures_of p)
unfolding passed passed_through passed_of
tables_length p s c q h =
    sym (length-map q.tables.items (owning c)) ∙ ap (λ (k : Passed). length k.scopes) h ∙ length-map (opened_procedures s (procedures_of p)) scope_of_opened ∙ opened_length s (procedures_of p)

pub interfaces_length : (p : u.Program) (s c : Scope) (q : Procedures) → passed c q ≡ passed_through s (procedures_of p) None → length q.interfaces.items ≡ length (procedures_of p)
unfolding passed passed_through passed_of
interfaces_length p s c q h =
    sym (length-map q.interfaces.items interface) ∙ ap (λ (k : Passed). length k.interfaces) h ∙ length-map (opened_procedures s (procedures_of p)) interface_of ∙ opened_length s (procedures_of p)

counted_first : (c : Counted) → behind no_count c ≡ c
counted_first c =
    let z : 0 + c.criticals ≡ c.criticals = omega arith in
    ap (λ n. let k : Counted = record { criticals = n; literals = c.literals } in k) z

appended_first : (o : Option (List ts.Procedure)) → appended (Some []) o ≡ o
appended_first None = refl
appended_first (Some ps) = refl

abbrev unit_parts : Option Broken → Counted → Option (List ts.Procedure) → Units
unit_parts f c ps = record { first = f; counted = c; procedures = ps }

-- the units of a program, behind one another
abbrev units_said : u.Program → Declared → Units
units_said p d =
    let s = record d.scope { pending = [] } in
    let os = procedures_in p d in
    let is = map interface_of os in
    let cs = constants_behind s os in
    let c = counted_statements p.body.statements in
    let j = procedures_judged is cs c os in
    unit_parts (first_of (first_of None (unit_here s.own (position_of (completed is cs s) no_count) p.body.statements).breaks) j.breaks) (behind c (counted_all os)) j.meaning

units_are : (p : u.Program) (d : Declared) → (with_procedures (map interface_of (procedures_in p d)) (constants_behind (record d.scope { pending = [] }) (procedures_in p d)) (procedures_of p) (map scope_of_opened (procedures_in p d))
    (begun (map interface_of (procedures_in p d)) (constants_behind (record d.scope { pending = [] }) (procedures_in p d)) (bare_scope (record d.scope { pending = [] })) p)).units ≡ units_said p d
unfolding with_procedures begun
units_are p d =
    let s = record d.scope { pending = [] } in
    let os = procedures_in p d in
    let is = map interface_of os in
    let cs = constants_behind s os in
    let c = counted_statements p.body.statements in
    let f = first_of None (unit_here s.own (position_of (completed is cs s) no_count) p.body.statements).breaks in
    further_opened is cs s (procedures_of p) (unit_parts f (behind no_count c) (Some []))
    ∙ ap (λ z. behind_units is cs os (unit_parts f z (Some []))) (counted_first c)
    ∙ ap (unit_parts (first_of f (procedures_judged is cs c os).breaks) (behind c (counted_all os))) (appended_first (procedures_judged is cs c os).meaning)

first_said : (p : u.Program) (d : Declared) → (all_of p d).units.first ≡ first_of None (program_declared p d).breaks
unfolding unit_here
first_said p d =
    let s = record d.scope { pending = [] } in
    let os = procedures_in p d in
    let is = map interface_of os in
    let cs = constants_behind s os in
    let ms = (unit_here s.own (position_of (completed is cs s) no_count) p.body.statements).breaks in
    let ps = (procedures_judged is cs (counted_statements p.body.statements) os).breaks in
    let us = uses_breaks p.uses in
    let ns = twice_breaks (map name_of s.own) (headings_of p) in
    let ob = opened_breaks os in
    let ls = limit_breaks (variables_of s.own) in
    let es = end_breaks p.name p.end.name in
    ap (λ (k : Units). rest_first p s.own (first_of None ob) (first_of None d.breaks) k.first) (units_are p d)
    ∙ ap (λ k. first_of k (noted (first_of None d.breaks))) (rest_list us ns ob ls es (first_of (first_of None ms) ps))
    ∙ all_list ms ps (us ++ (ns ++ (ob ++ (ls ++ es)))) d.breaks

stays : (bs : List Broken) (b : Broken) → is_there (first_of (Some b) bs) ≡ true
stays [] b = refl
stays (c ∷ bs) b = stays bs (cond (comes_first c b) c b)

unbroken : (bs : List Broken) → first_of None bs ≡ None → bs ≡ []
unbroken [] h = refl
unbroken (b ∷ bs) h =
    let z : ◌≡◌ {A = ℕ} 1 0 = ap (λ k. cond k 1 0) (sym (stays bs b)) ∙ ap (λ o. cond (is_there o) 1 0) h in
    absurd (omega (arith, z))

last_nothing : (xs ys : List Broken) → xs ++ ys ≡ [] → ys ≡ []
last_nothing [] ys h = h
last_nothing (x ∷ xs) ys h = let z = ap length h in absurd (omega (arith, z))

first_nothing : (xs ys : List Broken) → xs ++ ys ≡ [] → xs ≡ []
first_nothing [] ys h = refl
first_nothing (x ∷ xs) ys h = let z = ap length h in absurd (omega (arith, z))

ruled_meaning : {T : Type 0} (j : Judgement T) (bs : List Broken) → j.breaks ++ bs ≡ [] → j.meaning ≡ (ruled j bs).meaning
ruled_meaning j bs h = ap (λ z. cond (is_nothing z) j.meaning None) (sym (last_nothing j.breaks bs h))

meaning_said : (p : u.Program) (d : Declared) → (program_declared p d).breaks ≡ []
    → both (formed p (coarray_numbers 0 (variables_of d.scope.own)) (constants_behind (record d.scope { pending = [] }) (procedures_in p d)) (all_of p d).units.counted) (all_of p d).main (all_of p d).units.procedures ≡ (program_declared p d).meaning
unfolding with_procedures begun unit_here
meaning_said p d h =
    let s = record d.scope { pending = [] } in
    let os = procedures_in p d in
    let cs = constants_behind s os in
    let j = program_with p s os (map interface_of os) cs in
    let rs = uses_breaks p.uses ++ (twice_breaks (map name_of s.own) (headings_of p) ++ (opened_breaks os ++ (limit_breaks (variables_of s.own) ++ end_breaks p.name p.end.name))) in
    ap (λ (k : Units). both (formed p (coarray_numbers 0 (variables_of s.own)) cs k.counted) (all_of p d).main k.procedures) (units_are p d)
    ∙ ruled_meaning j rs (first_nothing (j.breaks ++ rs) d.breaks h) ∙ ruled_meaning (ruled j rs) d.breaks h

-- the first of the rules that a program breaks
pub first_found : (p : u.Program) (o : Outer) (is : List Interface) (x : Scopes) (a : All) (f : Option Broken) → is ≡ interfaces_of p → x.first ≡ first_of None (main_declared p is).breaks → x.own ≡ (main_declared p is).scope.own
    → owning (main_scope o is []) x.own ≡ bare_scope (main_behind p is) → passed (closing (main_scope o is []) x.own) x.procedures ≡ passed_through (main_behind p is) (procedures_of p) None
    → a ≡ whole o x p → f ≡ a.units.first → f ≡ first_of None (program_judged p).breaks
first_found p o is x a f e hf hn hb hp w g =
    g ∙ ap (λ (k : All). k.units.first) (w ∙ whole_of p o is x hf hn hb hp) ∙ first_said p (main_declared p is) ∙ ap (λ z. first_of None (program_declared p (main_declared p z)).breaks) e

-- what a program stands for that breaks none
pub meaning_found : (p : u.Program) (o : Outer) (is : List Interface) (x : Scopes) (a : All) (f : Option Broken) (m : Option ts.Program) → is ≡ interfaces_of p → x.first ≡ first_of None (main_declared p is).breaks → x.own ≡ (main_declared p is).scope.own
    → owning (main_scope o is []) x.own ≡ bare_scope (main_behind p is) → passed (closing (main_scope o is []) x.own) x.procedures ≡ passed_through (main_behind p is) (procedures_of p) None
    → a ≡ whole o x p → f ≡ a.units.first → m ≡ both (formed p (coarray_numbers 0 (variables_of x.own)) x.procedures.grown.constants.items a.units.counted) a.main a.units.procedures
    → f ≡ None → m ≡ (program_judged p).meaning
unfolding passed passed_through passed_of
meaning_found p o is x a f m e hf hn hb hp w g hm z =
    let d = main_declared p is in
    let u : (program_declared p d).breaks ≡ [] =
    ap (λ k. (program_declared p (main_declared p k)).breaks) e ∙ unbroken (program_judged p).breaks (sym (first_found p o is x a f e hf hn hb hp w g) ∙ z) in
    hm ∙ ap (λ (k : All). both (formed p (coarray_numbers 0 (variables_of x.own)) x.procedures.grown.constants.items k.units.counted) k.main k.units.procedures) (w ∙ whole_of p o is x hf hn hb hp)
    ∙ ap (λ k. both (formed p (coarray_numbers 0 (variables_of k)) x.procedures.grown.constants.items (all_of p d).units.counted) (all_of p d).main (all_of p d).units.procedures) hn
    ∙ ap (λ k. both (formed p (coarray_numbers 0 (variables_of d.scope.own)) k (all_of p d).units.counted) (all_of p d).main (all_of p d).units.procedures) (ap (λ (k : Passed). k.constants) hp)
    ∙ meaning_said p d u ∙ ap (λ k. (program_declared p (main_declared p k)).meaning) e

-- the main program's statements, from their parts
pub begun_is : (is : List Interface) (cs : List Constant) (s z : Scope) (p : u.Program) (x : Position) (j : Judged) (n : Counted) → n ≡ no_count → z ≡ completed is cs s → x ≡ position_of z n
    → j.units.first ≡ first_of None (unit_here s.own x p.body.statements).breaks → option_map typed.unit j.main ≡ (unit_here s.own x p.body.statements).meaning
    → counted j.units.counts ≡ behind n (counted_statements p.body.statements) → option_map list_of j.units.procedures ≡ Some [] → seen j ≡ begun is cs s p
unfolding seen units begun
begun_is is cs s z p x j n en ez ex hf hm hc hp =
    let y = position_of (completed is cs s) no_count in
    let e : x ≡ y = ex ∙ ap (position_of z) en ∙ ap (λ w. position_of w no_count) ez in
    let all : Option ts.Unit' → Option Broken → Counted → Option (List ts.Procedure) → All = λ m f c ps. record { main = m; units = unit_parts f c ps } in
    ap (λ w. all w j.units.first (counted j.units.counts) (option_map (map typed.procedure) (option_map list_of j.units.procedures))) (hm ∙ ap (λ w. (unit_here s.own w p.body.statements).meaning) e)
    ∙ ap (λ w. all (unit_here s.own y p.body.statements).meaning w (counted j.units.counts) (option_map (map typed.procedure) (option_map list_of j.units.procedures))) (hf ∙ ap (λ w. first_of None (unit_here s.own w p.body.statements).breaks) e)
    ∙ ap (λ w. all (unit_here s.own y p.body.statements).meaning (first_of None (unit_here s.own y p.body.statements).breaks) w (option_map (map typed.procedure) (option_map list_of j.units.procedures))) (hc ∙ ap (λ w. behind w (counted_statements p.body.statements)) en)
    ∙ ap (λ w. all (unit_here s.own y p.body.statements).meaning (first_of None (unit_here s.own y p.body.statements).breaks) (behind no_count (counted_statements p.body.statements)) (option_map (map typed.procedure) w)) hp

-- the statements of all units
pub all_is : (is : List Interface) (cs : List Constant) (ps : List u.Procedure) (ss : List Scope) (a : All) (j k : Judged) → seen j ≡ a → k.main ≡ j.main → units k.units ≡ all_further is cs ps ss is (units j.units) → seen k ≡ with_procedures is cs ps ss a
unfolding seen with_procedures
all_is is cs ps ss a j k e m h =
    let all : Option ts.Unit' → Units → All = λ x y. record { main = x; units = y } in
    ap (λ z. all (option_map typed.unit z) (units k.units)) m ∙ ap (all (option_map typed.unit j.main)) h ∙ ap (with_procedures is cs ps ss) e

-- and what a program breaks besides
pub scoped_is : (o : Outer) (x : Scopes) (p : u.Program) (j k : Judged)
    → seen j ≡ statements_in o x.own x.procedures.tables.items (map interface x.procedures.interfaces.items) x.procedures.grown.constants.items p
    → k.main ≡ j.main → k.units.counts ≡ j.units.counts → k.units.procedures ≡ j.units.procedures → k.units.first ≡ rest_first p x.own x.procedures.grown.first x.first j.units.first → seen k ≡ whole o x p
unfolding seen units whole
scoped_is o x p j k e m c q h =
    let all : Option Unit → Option Broken → Counts → Option (Vec Procedure Global) → All = λ y f n ps. record { main = option_map typed.unit y; units = unit_parts f (counted n) (option_map (map typed.procedure) (option_map list_of ps)) } in
    ap (λ z. all z k.units.first k.units.counts k.units.procedures) m ∙ ap (λ z. all j.main z k.units.counts k.units.procedures) h
    ∙ ap (λ z. all j.main (rest_first p x.own x.procedures.grown.first x.first j.units.first) z k.units.procedures) c
    ∙ ap (all j.main (rest_first p x.own x.procedures.grown.first x.first j.units.first) j.units.counts) q
    ∙ ap (with_rest p x.own x.procedures.grown.first x.first) e

-- what is found, from what was judged
pub seen_first : (j : Judged) → j.units.first ≡ (seen j).units.first
unfolding seen units
seen_first j = refl

pub formed_seen : (p : u.Program) (ns ms : List ℕ) (cs : List Constant) (j : Judged) (m : Option ts.Program) → ns ≡ ms
    → m ≡ both (formed p ns cs (counted j.units.counts)) (option_map typed.unit j.main) (option_map (map typed.procedure) (option_map list_of j.units.procedures))
    → m ≡ both (formed p ms cs (seen j).units.counted) (seen j).main (seen j).units.procedures
unfolding seen units
formed_seen p ns ms cs j m e h =
    h ∙ ap (λ z. both (formed p z cs (counted j.units.counts)) (option_map typed.unit j.main) (option_map (map typed.procedure) (option_map list_of j.units.procedures))) e

-- what check_tree answers
pub accepts : (p : u.Program) (f : Option Broken) (c : Option Checked) (k : Checked) → f ≡ first_of None (program_judged p).breaks → (f ≡ None → option_map typed.program c ≡ (program_judged p).meaning)
    → f ≡ None → c ≡ Some k → Accepts p (typed.program k)
accepts p f c k e h z m = record { unbroken = unbroken (program_judged p).breaks (sym e ∙ z); meaning = sym (h z) ∙ ap (option_map typed.program) m }

-- what breaks nothing stands for a checked program, so one is there
no_checked : (k : ts.Program) → None ≡ Some k → ⊥
no_checked k e = cc

pub checks : (p : u.Program) (f : Option Broken) (c : Option Checked) → f ≡ first_of None (program_judged p).breaks → (f ≡ None → option_map typed.program c ≡ (program_judged p).meaning)
    → f ≡ None → c ≡ None → ⊥
checks p f c e h z m =
    let a = accepted_whole p (unbroken (program_judged p).breaks (sym e ∙ z)) in
    no_checked (a.0) (sym (ap (option_map typed.program) m) ∙ h z ∙ (a.1).meaning)

-- names that are the same
pub same_twice : (a b : List (List ℕ)) (hs : List Headed) → ((n : List ℕ) → is_among a n ≡ is_among b n) → twice_breaks a hs ≡ twice_breaks b hs
same_twice a b [] h = refl
same_twice a b (x ∷ hs) h =
    ap (λ z. unless (not z) 21 x.name.at ++ twice_breaks (x.name.text ∷ a) hs) (h x.name.text)
    ∙ ap (λ z. unless (not (is_among b x.name.text)) 21 x.name.at ++ z) (same_twice (x.name.text ∷ a) (x.name.text ∷ b) hs (λ n. ap (λ z. bytes_eq x.name.text n || z) (h n)))
