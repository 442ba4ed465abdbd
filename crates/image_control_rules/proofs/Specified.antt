-- Statements with two specifiers: what breaks in them, and what they stand for, by their specifiers as a whole.
use Rattle.std.proofs.Common.{◌≡◌, ◌∙◌, Bool, true, false, List, [], ◌∷◌, ◌++◌, refl, sym, ap}
use Rattle.std.specs.Prelude.{Option, Some, None, cond, codes}
use Rattle.std.proofs.lemmas.List.{append_assoc}
use Rattle.fortran_tree.specs.Expressions as f
use Rattle.fortran_tree.specs.declared.name.Name.{Name}
use Rattle.checked_tree.specs.Statements as ts
use Rattle.rule_definitions.specs.declared.broken.Broken.{Broken}
use Rattle.rule_definitions.specs.Actions.{a_lock, form_team, lock_judged, placed_designator, stat_name, team_variable, wait_judged}
use Rattle.rule_definitions.specs.Expressions.{placed}
use Rattle.rule_definitions.specs.IntrinsicSubroutines.{an_own_event}
use Rattle.rule_definitions.specs.Judgements.{both, is_nothing, three}
use Rattle.rule_definitions.specs.Names.{Scope, denotes}
use Rattle.rule_definitions.specs.Parts.{integer}
use Rattle.rule_definitions.specs.Specifiers.{Written, acquired_variable, all_breaks, number_named, order_written, stat_variable}
use Rattle.specifier_rules.specs.Meanings.{acquired_and_stat, acquired_with, number_and_stat, number_with}
use Rattle.image_control_rules.specs.Statements.{event_wait_with, form_team_with, lock_with}

three_joined : {A B C D E : Type 0} (f : A → B → C → D) (g : B → C → E) (h : A → E → D) → ((a : A) (b : B) (c : C) → f a b c ≡ h a (g b c))
    → (t : Bool) (x : Option A) (y : Option B) (z : Option C) → cond t (three f x y z) None ≡ both h x (cond t (both g y z) None)
three_joined f g h e true None y z = refl
three_joined f g h e true (Some x) None z = refl
three_joined f g h e true (Some x) (Some y) None = refl
three_joined f g h e true (Some x) (Some y) (Some z) = ap Some (e x y z)
three_joined f g h e false None y z = refl
three_joined f g h e false (Some x) y z = refl

four_joined : {A B C D E F : Type 0} (f : A → B → C → D → F) (g : C → D → E) (h : A → B → E → F) → ((a : A) (b : B) (c : C) (d : D) → f a b c d ≡ h a b (g c d))
    → (t : Bool) (w : Option A) (x : Option B) (y : Option C) (z : Option D) → cond t (both (λ k u. k u) (three f w x y) z) None ≡ three h w x (cond t (both g y z) None)
four_joined f g h e true None x y z = refl
four_joined f g h e true (Some w) None y z = refl
four_joined f g h e true (Some w) (Some x) None z = refl
four_joined f g h e true (Some w) (Some x) (Some y) None = refl
four_joined f g h e true (Some w) (Some x) (Some y) (Some z) = ap Some (e w x y z)
four_joined f g h e false None x y z = refl
four_joined f g h e false (Some w) None y z = refl
four_joined f g h e false (Some w) (Some x) y z = refl

assoc_three : (as' bs cs ds : List Broken) → (as' ++ (bs ++ cs)) ++ ds ≡ as' ++ ((bs ++ cs) ++ ds)
assoc_three as' bs cs ds = append_assoc as' (bs ++ cs) ds

assoc_four : (as' bs cs ds es : List Broken) → ((as' ++ (bs ++ cs)) ++ ds) ++ es ≡ as' ++ (bs ++ ((cs ++ ds) ++ es))
assoc_four as' bs cs ds es =
    append_assoc (as' ++ (bs ++ cs)) ds es ∙ append_assoc as' (bs ++ cs) (ds ++ es)
    ∙ ap (λ x. as' ++ x) (append_assoc bs cs (ds ++ es) ∙ ap (λ x. bs ++ x) (sym (append_assoc cs ds es)))

pub lock_breaks : (s : Scope) (d : f.Designator) (ws : List Written) → (lock_judged s d ws).breaks ≡ (a_lock (placed_designator s d)).breaks ++ (acquired_and_stat ws).breaks
lock_breaks s d ws = assoc_three (a_lock (placed_designator s d)).breaks (acquired_variable ws).breaks (stat_variable ws).breaks (all_breaks (codes "acquired_lock" ∷ stat_name) ws)

pub lock_meaning : (s : Scope) (d : f.Designator) (ws : List Written) → (lock_judged s d ws).meaning ≡ both lock_with (a_lock (placed_designator s d)).meaning (acquired_and_stat ws).meaning
lock_meaning s d ws =
    three_joined (λ l a r. ts.lock l a r (order_written (codes "acquired_lock") (codes "stat") ws)) (acquired_with (order_written (codes "acquired_lock") (codes "stat") ws)) lock_with (λ a b c. refl)
    (is_nothing (all_breaks (codes "acquired_lock" ∷ stat_name) ws)) (a_lock (placed_designator s d)).meaning (acquired_variable ws).meaning (stat_variable ws).meaning

pub wait_breaks : (s : Scope) (d : f.Designator) (ws : List Written) → (wait_judged s d ws).breaks ≡ (an_own_event (placed_designator s d)).breaks ++ (number_and_stat (codes "until_count") ws).breaks
wait_breaks s d ws = assoc_three (an_own_event (placed_designator s d)).breaks (number_named (codes "until_count") ws).breaks (stat_variable ws).breaks (all_breaks (codes "until_count" ∷ stat_name) ws)

pub wait_meaning : (s : Scope) (d : f.Designator) (ws : List Written) → (wait_judged s d ws).meaning ≡ both event_wait_with (an_own_event (placed_designator s d)).meaning (number_and_stat (codes "until_count") ws).meaning
wait_meaning s d ws =
    three_joined (λ v n r. ts.event_wait v n r (order_written (codes "until_count") (codes "stat") ws)) (number_with (order_written (codes "until_count") (codes "stat") ws)) event_wait_with (λ a b c. refl)
    (is_nothing (all_breaks (codes "until_count" ∷ stat_name) ws)) (an_own_event (placed_designator s d)).meaning (number_named (codes "until_count") ws).meaning (stat_variable ws).meaning

pub form_team_breaks : (s : Scope) (e : f.Expression) (n : Name) (ws : List Written)
    → (form_team s e n ws).breaks ≡ (integer 39 (placed s e)).breaks ++ ((team_variable (denotes s n.text) n.at).breaks ++ (number_and_stat (codes "new_index") ws).breaks)
form_team_breaks s e n ws =
    assoc_four (integer 39 (placed s e)).breaks (team_variable (denotes s n.text) n.at).breaks (number_named (codes "new_index") ws).breaks (stat_variable ws).breaks (all_breaks (codes "new_index" ∷ stat_name) ws)

pub form_team_meaning : (s : Scope) (e : f.Expression) (n : Name) (ws : List Written)
    → (form_team s e n ws).meaning ≡ three form_team_with (integer 39 (placed s e)).meaning (team_variable (denotes s n.text) n.at).meaning (number_and_stat (codes "new_index") ws).meaning
form_team_meaning s e n ws =
    four_joined (λ a l i r. ts.form_team a l i r (order_written (codes "new_index") (codes "stat") ws)) (number_with (order_written (codes "new_index") (codes "stat") ws)) form_team_with (λ a b c d. refl)
    (is_nothing (all_breaks (codes "new_index" ∷ stat_name) ws)) (integer 39 (placed s e)).meaning (team_variable (denotes s n.text) n.at).meaning (number_named (codes "new_index") ws).meaning (stat_variable ws).meaning
