-- Action statements are judged soundly in a known scope.
use Rattle.std.proofs.Common.{◌≡◌, ℕ, ◌+◌, Bool, true, false, List, [], ◌∷◌, ◌++◌, inr, refl}
use Rattle.std.specs.Prelude.{codes, not, ◌&&◌, ◌||◌, Option, Some, None, length, map}
use Rattle.caf_base.specs.declared.place.Pos.{Pos}
use Rattle.fortran_tree.specs.Expressions as f
use Rattle.fortran_tree.specs.Statements as fs
use Rattle.fortran_tree.specs.declared.name.Name.{Name}
use Rattle.checked_tree.specs.Expressions as t
use Rattle.checked_tree.specs.Statements as ts
use Rattle.checked_tree.specs.declared.data.DataType.{DataType}
use Rattle.checked_tree.specs.declared.data.DataType.TheVariants.{Intrinsic, Team, Event, Lock}
use Rattle.checked_tree.specs.declared.data.Local.{Local}
use Rattle.checked_tree.specs.declared.data.Object.{Object}
use Rattle.checked_tree.specs.declared.data.Object.TheVariants as objects
use Rattle.checked_tree.specs.declared.format.Descriptor.{Descriptor}
use Rattle.rule_definitions.specs.Judgements.{breaks, unless, Judgement, fine, refused, unknown, ruled, is_there, item_at}
use Rattle.rule_definitions.specs.declared.taken.Taken.TheVariants.{Integers as integers, Logicals as logicals}
use Rattle.rule_definitions.specs.Names
use Rattle.rule_definitions.specs.Names.{Scope, Symbol, Meaning, Interface, denotes, is_procedure, is_integer, is_team, is_event, is_lock, symbol_of}
use Rattle.rule_definitions.specs.Parts.{Placed, place_of, type_of, scalar_breaks, condition, bound_or_code}
use Rattle.rule_definitions.specs.Specifiers.{Written, all_breaks, order_written}
use Rattle.rule_definitions.specs.Arguments.{Actual, breaks_in_all}
use Rattle.rule_definitions.specs.Expressions.{judged_specifiers, placed}
use Rattle.rule_definitions.specs.Formats.{descriptors, format_breaks, has_data}
use Rattle.rule_definitions.specs.Actions.{Around, Site, called_with, called, actuals_of, item_breaks, printed, printed_all, has_values, format_of, format_judged, literals_of_format, print_judged, depth_of, crosses, absent_place, leaving, has_boundary, is_in_critical, controlled, maybe, any_coarray, controlled_if, stat_name, with_stat, written_if, image_set_breaks, is_image_set, image_set, team_variable, form_team, lock_of, found_lock, a_lock, placed_designator, lock_judged, wait_judged, alone, judged_action}
use Rattle.rule_laws.proofs.Sound.{AreNumbered, IsSound, none_numbered, breaks_numbered, cond_numbered, unless_numbered, both_numbered, left_nothing, breaks_some, fine_sound, refused_sound, unknown_sound, weaker, ruled_sound, ruled_plain, around_sound, under_sound, made_sound, made_of_both_sound, made_of_three_sound, then_plain, cond_plain}
use Rattle.rule_laws.proofs.Known.{is_placed, AreKnown, and_left, and_right, no}
use Rattle.rule_laws.proofs.PartsSound.{plain_sound, wanted_sound, integer_sound, unlike_numbered, scalar_numbered}
use Rattle.rule_laws.proofs.ArgumentsSound.{AllActuals, in_all_numbered, arguments_sound}
use Rattle.rule_laws.proofs.FunctionsSound.{team_sound}
use Rattle.rule_laws.proofs.SpecifiersSound.{AllWritten, all_numbered, stat_sound, acquired_sound, new_index_sound, until_count_sound}
use Rattle.rule_laws.proofs.SubroutinesSound.{event_sound, own_event_sound, four_sound, intrinsic_call_sound}
use Rattle.rule_laws.proofs.ExpressionsSound.{arguments_all}
use Rattle.rule_laws.proofs.AssignmentsSound.{IsSettled, settled_sound, written_all, left_sound, assignment_sound}
use Rattle.rule_laws.proofs.AllocationsSound.{allocations_sound, deallocations_sound}

-- Calls

called_with_sound : {H : Type 0} (o : Option Interface) (s : Scope) (n : ℕ) (xs : List Actual) (p : Pos) → (H → is_there o ≡ true) → AllActuals H xs → IsSound H (called_with o s n xs p)
called_with_sound None s n xs p h k = unknown_sound (λ z. no (h z))
called_with_sound {H = H} (Some i) s n xs p h k = made_sound (ts.call n) (arguments_sound H s i.dummies xs p k)

called_sound : (H : Type 0) (s : Scope) (m : Option Meaning) (xs : List Actual) (p : Pos) → (H → AreKnown s.interfaces m) → AllActuals H xs → IsSound H (called s m xs p)
called_sound H s None xs p h k = refused_sound 20 p refl
called_sound H s (Some (Names.subroutine n)) xs p h k = called_with_sound (item_at s.interfaces n) s n xs p (λ z. (h z).known (Names.subroutine n) refl) k
called_sound H s (Some (Names.intrinsic_subroutine n)) xs p h k = intrinsic_call_sound n xs p k
called_sound H s (Some m) xs p h k = around_sound (breaks_in_all xs) 47 p (in_all_numbered H xs k) refl

actuals_all : (s : Scope) (xs : Option f.Arguments) → AllActuals (IsSettled s) (actuals_of s xs)
actuals_all s None = tt
actuals_all s (Some xs) = arguments_all s (IsSettled s) xs (λ h. (h.0, inr (h.1)))

-- Output

printed_sound : {H : Type 0} (e : Placed) → IsSound H e.judged → IsSound H (printed e)
printed_sound e h = made_sound ts.value (under_sound (item_breaks e.at) (plain_sound e h) (λ x k. unless_numbered (not (is_event (type_of x) || (is_lock (type_of x) || is_team (type_of x)))) 58 e.at refl))

items_sound : (s : Scope) (n : ℕ) (is : List fs.Item) → IsSound (IsSettled s) (printed_all s n is)
items_sound s n [] = fine_sound []
items_sound s n (fs.quoted l ∷ rest) = made_of_both_sound (λ x xs. x ∷ xs) (fine_sound (ts.literal n)) (items_sound s (n + 1) rest)
items_sound s n (fs.value e ∷ rest) = made_of_both_sound (λ x xs. x ∷ xs) (printed_sound (placed s e) (settled_sound s e)) (items_sound s n rest)

descriptors_numbered : (o : Option (List Descriptor)) (b : Bool) (p : Pos) → AreNumbered (format_breaks o b p)
descriptors_numbered None b p = breaks_numbered 57 p refl
descriptors_numbered (Some ds) b p = unless_numbered (not b || has_data ds) 57 p refl

descriptors_sound : {H : Type 0} (n : ℕ) (o : Option (List Descriptor)) (b : Bool) (p : Pos) → IsSound (H × (format_breaks o b p ≡ [])) (format_of n o)
descriptors_sound n None b p = unknown_sound (λ z. breaks_some 57 p (z.1))
descriptors_sound n (Some ds) b p = fine_sound (ts.written n ds)

format_sound : {H : Type 0} (n : ℕ) (o : fs.Format) (is : List fs.Item) → IsSound H (format_judged n o is)
format_sound n fs.free is = fine_sound ts.free
format_sound n (fs.written l) is = ruled_sound (format_breaks (descriptors l.text) (has_values is) l.at) (descriptors_sound n (descriptors l.text) (has_values is) l.at) (descriptors_numbered (descriptors l.text) (has_values is) l.at)

print_sound : (x : Site) (o : fs.Format) (is : List fs.Item) → IsSound (IsSettled x.scope) (print_judged x o is)
print_sound x o is = made_of_both_sound ts.print (format_sound x.literals o is) (items_sound x.scope (x.literals + literals_of_format o) is)

-- Branches

leaving_any : {H : Type 0} (make : ℕ → ts.StatementForm) (o : Option ℕ) (b : Bool) (q p : Pos) → IsSound H (elim o [ None ↦ refused {T = ts.StatementForm} 41 q | Some k ↦ ruled (fine (make k)) (unless b 42 p) ])
leaving_any make None b q p = refused_sound 41 q refl
leaving_any make (Some k) b q p = ruled_plain (fine_sound (make k)) (unless_numbered b 42 p refl)

leaving_sound : {H : Type 0} (make : ℕ → ts.StatementForm) (n : Option Name) (around : List Around) (p : Pos) → IsSound H (leaving make n around p)
leaving_sound make n around p = leaving_any make (depth_of n around) (not (crosses n around)) (absent_place n around p) p

pub controlled_sound : {H : Type 0} (x : Site) (p : Pos) {j : Judgement ts.StatementForm} → IsSound H j → IsSound H (controlled x p j)
controlled_sound x p h = ruled_plain h (unless_numbered (not (is_in_critical x.around)) 43 p refl)

pub maybe_wanted : (s : Scope) (o : Option f.Expression) → IsSound (IsSettled s) (maybe bound_or_code s o)
maybe_wanted s None = fine_sound t.missing
maybe_wanted s (Some e) = made_sound t.given (wanted_sound integers (placed s e) (settled_sound s e))

-- Image control statements

pub with_stat_sound : (H : Type 0) (ws : List Written) → AllWritten H ws → IsSound H (with_stat ws)
with_stat_sound H ws h = ruled_sound (all_breaks stat_name ws) (stat_sound H stat_name ws h) (all_numbered H stat_name ws h)

written_if_all : (s : Scope) (o : Option f.Specifiers) → AllWritten (IsSettled s) (written_if s o)
written_if_all s None = tt
written_if_all s (Some ps) = written_all s ps

image_set_sound : (s : Scope) (i : fs.ImageSet) → IsSound (IsSettled s) (image_set s i)
image_set_sound s fs.all_images = fine_sound ts.all_images
image_set_sound s (fs.images e) = made_sound ts.images (under_sound (image_set_breaks (place_of e)) (plain_sound (placed s e) (settled_sound s e)) (λ x k. cond_numbered (is_image_set x) none_numbered (unlike_numbered 52 (type_of x) (place_of e) refl)))

-- a team variable is a local one
team_object : {H : Type 0} (y : DataType) (o : Object) (r : ℕ) (p : Pos) → (H → is_placed (Some y) o ≡ true)
    → IsSound (H × (unless (is_team y) 51 p ++ scalar_breaks r p ≡ [])) (elim o [ objects.Local l ↦ fine l | objects.Coarray n ↦ unknown {T = Local} | objects.Constant n ↦ unknown {T = Local} ])
team_object y (objects.Local l) r p h = fine_sound l
team_object Team (objects.Coarray n) r p h = unknown_sound (λ z. no (h (z.0)))
team_object Event (objects.Coarray n) r p h = unknown_sound (λ z. breaks_some 51 p (left_nothing (breaks 51 p) (scalar_breaks r p) (z.1)))
team_object Lock (objects.Coarray n) r p h = unknown_sound (λ z. breaks_some 51 p (left_nothing (breaks 51 p) (scalar_breaks r p) (z.1)))
team_object (Intrinsic k) (objects.Coarray n) r p h = unknown_sound (λ z. breaks_some 51 p (left_nothing (breaks 51 p) (scalar_breaks r p) (z.1)))
team_object y (objects.Constant n) r p h = unknown_sound (λ z. no (h (z.0)))

team_typed : {H : Type 0} (p : Pos) (y : Option DataType) (o : Object) (r : ℕ) → (H → is_there y && is_placed y o ≡ true)
    → IsSound H (elim y [ None ↦ unknown {T = Local} | Some z ↦ ruled (elim o [ objects.Local l ↦ fine l | objects.Coarray n ↦ unknown {T = Local} | objects.Constant n ↦ unknown {T = Local} ]) (unless (is_team z) 51 p ++ scalar_breaks r p) ])
team_typed p None o r h = unknown_sound (λ z. no (and_left false (is_placed None o) (h z)))
team_typed p (Some y) o r h = ruled_sound (unless (is_team y) 51 p ++ scalar_breaks r p) (team_object y o r p (λ z. and_right true (is_placed (Some y) o) (h z))) (both_numbered (unless_numbered (is_team y) 51 p refl) (scalar_numbered r p))

team_variable_sound : (H : Type 0) (s : Scope) (m : Option Meaning) (p : Pos) → (H → AreKnown s.interfaces m) → IsSound H (team_variable m p)
team_variable_sound H s None p h = refused_sound 20 p refl
team_variable_sound H s (Some (Names.variable x)) p h = team_typed p x.of_type x.object (length x.bounds) (λ z. (h z).known (Names.variable x) refl)
team_variable_sound H s (Some m) p h = refused_sound 51 p refl

form_team_sound : (s : Scope) (e : f.Expression) (n : Name) (ws : List Written) → AllWritten (IsSettled s) ws → IsSound (IsSettled s) (form_team s e n ws)
form_team_sound s e n ws h =
    let allowed = codes "new_index" ∷ stat_name in
    ruled_sound (all_breaks allowed ws)
    (four_sound (λ a l i r. ts.form_team a l i r (order_written (codes "new_index") (codes "stat") ws)) (weaker (λ z. z.0) (integer_sound 39 refl (placed s e) (settled_sound s e)))
    (weaker (λ z. z.0) (team_variable_sound (IsSettled s) s (denotes s n.text) n.at (λ z. (z.0).known n.text))) (new_index_sound (IsSettled s) allowed ws h) (stat_sound (IsSettled s) allowed ws h))
    (all_numbered (IsSettled s) allowed ws h)

lock_found : {H : Type 0} (o : Option t.Designator) (p : Pos) → IsSound H (found_lock o p)
lock_found None p = refused_sound 48 p refl
lock_found (Some d) p = fine_sound d

lock_sound : {H : Type 0} (e : Placed) → IsSound H e.judged → IsSound H (a_lock e)
lock_sound e h = then_plain (λ x. found_lock (lock_of x) e.at) (plain_sound e h) (λ x. lock_found (lock_of x) e.at)

lock_judged_sound : (s : Scope) (d : f.Designator) (ws : List Written) → AllWritten (IsSettled s) ws → IsSound (IsSettled s) (lock_judged s d ws)
lock_judged_sound s d ws h =
    let allowed = codes "acquired_lock" ∷ stat_name in
    ruled_sound (all_breaks allowed ws)
    (made_of_three_sound (λ l a r. ts.lock l a r (order_written (codes "acquired_lock") (codes "stat") ws)) (weaker (λ z. z.0) (lock_sound (placed_designator s d) (settled_sound s (f.designator d)))) (acquired_sound (IsSettled s) allowed ws h) (stat_sound (IsSettled s) allowed ws h))
    (all_numbered (IsSettled s) allowed ws h)

wait_judged_sound : (s : Scope) (d : f.Designator) (ws : List Written) → AllWritten (IsSettled s) ws → IsSound (IsSettled s) (wait_judged s d ws)
wait_judged_sound s d ws h =
    let allowed = codes "until_count" ∷ stat_name in
    ruled_sound (all_breaks allowed ws)
    (made_of_three_sound (λ v n r. ts.event_wait v n r (order_written (codes "until_count") (codes "stat") ws)) (weaker (λ z. z.0) (own_event_sound (placed_designator s d) (settled_sound s (f.designator d)))) (until_count_sound (IsSettled s) allowed ws h) (stat_sound (IsSettled s) allowed ws h))
    (all_numbered (IsSettled s) allowed ws h)

pub condition_sound : (s : Scope) (e : f.Expression) → IsSound (IsSettled s) (condition (placed s e))
condition_sound s e = wanted_sound logicals (placed s e) (settled_sound s e)

stat_of : (s : Scope) (ps : f.Specifiers) → IsSound (IsSettled s) (with_stat (judged_specifiers s ps))
stat_of s ps = with_stat_sound (IsSettled s) (judged_specifiers s ps) (written_all s ps)

stat_if : (s : Scope) (o : Option f.Specifiers) → IsSound (IsSettled s) (with_stat (written_if s o))
stat_if s o = with_stat_sound (IsSettled s) (written_if s o) (written_if_all s o)

controlled_if_sound : {H : Type 0} (b : Bool) (x : Site) (p : Pos) {j : Judgement ts.StatementForm} → IsSound H j → IsSound H (controlled_if b x p j)
controlled_if_sound b x p h = cond_plain b (controlled_sound x p h) h

pub action_sound : (x : Site) (a : fs.ActionStatement) (p : Pos) → IsSound (IsSettled x.scope) (judged_action x a p)
action_sound x (fs.assignment d e) p = assignment_sound (IsSettled x.scope) x p (placed x.scope e) (left_sound x.scope d) (settled_sound x.scope e)
action_sound x (fs.call n xs) p = called_sound (IsSettled x.scope) x.scope (denotes x.scope n.text) (actuals_of x.scope xs) n.at (λ z. (z.0).known n.text) (actuals_all x.scope xs)
action_sound x (fs.print o is) p = print_sound x o is
action_sound x (fs.exit n) p = leaving_sound ts.exit n x.around p
action_sound x (fs.cycle n) p = leaving_sound ts.cycle n x.around p
action_sound x fs.return p = controlled_sound x p (ruled_plain (fine_sound ts.return) (unless_numbered (not (has_boundary x.around)) 42 p refl))
action_sound x (fs.stop e) p = controlled_sound x p (made_sound ts.stop (maybe_wanted x.scope e))
action_sound x (fs.error_stop e) p = made_sound ts.error_stop (maybe_wanted x.scope e)
action_sound x fs.fail_image p = fine_sound ts.fail_image
action_sound x (fs.allocate os ps) p = controlled_if_sound (any_coarray x.scope (map (λ o. o.name) os)) x p (made_of_both_sound ts.allocate (allocations_sound x.scope os) (stat_of x.scope ps))
action_sound x (fs.deallocate ns ps) p = controlled_if_sound (any_coarray x.scope ns) x p (made_of_both_sound ts.deallocate (deallocations_sound x.scope ns) (stat_of x.scope ps))
action_sound x (fs.sync_all ps) p = controlled_sound x p (made_sound ts.sync_all (stat_if x.scope ps))
action_sound x (fs.sync_memory ps) p = controlled_sound x p (made_sound ts.sync_memory (stat_if x.scope ps))
action_sound x (fs.sync_images i ps) p = controlled_sound x p (made_of_both_sound ts.sync_images (image_set_sound x.scope i) (stat_of x.scope ps))
action_sound x (fs.sync_team e ps) p = controlled_sound x p (made_of_both_sound ts.sync_team (team_sound (placed x.scope e) (settled_sound x.scope e)) (stat_of x.scope ps))
action_sound x (fs.form_team e n ps) p = controlled_sound x p (form_team_sound x.scope e n (judged_specifiers x.scope ps) (written_all x.scope ps))
action_sound x (fs.lock d ps) p = controlled_sound x p (lock_judged_sound x.scope d (judged_specifiers x.scope ps) (written_all x.scope ps))
action_sound x (fs.unlock d ps) p = controlled_sound x p (made_of_both_sound ts.unlock (lock_sound (placed_designator x.scope d) (settled_sound x.scope (f.designator d))) (stat_of x.scope ps))
action_sound x (fs.event_post d ps) p = controlled_sound x p (made_of_both_sound ts.event_post (event_sound (placed_designator x.scope d) (settled_sound x.scope (f.designator d))) (stat_of x.scope ps))
action_sound x (fs.event_wait d ps) p = controlled_sound x p (wait_judged_sound x.scope d (judged_specifiers x.scope ps) (written_all x.scope ps))
action_sound x (fs.if_statement e a q) p = made_of_both_sound (λ c b. ts.if c (alone b q.line) ts.no_else_ifs ts.no_statements) (condition_sound x.scope e) (action_sound x a q)
