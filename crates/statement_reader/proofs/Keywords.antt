-- Actions that begin with a keyword are read exactly.
use Rattle.std.proofs.Common.{◌≡◌, ℕ, Bool, true, codes, List, [], ◌∷◌, inl, inr, refl, ap, sym, subst}
use Rattle.std.proofs.lemmas.Bool.{false≢true}
use Rattle.reader_theory.specs.Words.{Mark}
use Rattle.reader_theory.specs.Exactness.{never, Heads}
use Rattle.reader_theory.specs.Languages.{Or}
use Rattle.reader_theory.proofs.Single.{relabel}
use Rattle.reader_theory.proofs.Marks.{never_stops}
use Rattle.fortran_tokens.specs.declared.token.Sign.TheVariants as sign
use Rattle.fortran_tree.specs.Statements as s
use Rattle.fortran_tree.specs.Statements.{ActionStatement}
use Rattle.fortran_grammar.specs.Tokens.{Token}
use Rattle.fortran_grammar.specs.Phrases as p
use Rattle.fortran_grammar.specs.Phrases.{Phrase, Words, ◌▸◌}
use Rattle.fortran_grammar.specs.ExpressionGrammar as g
use Rattle.fortran_grammar.specs.ActionGrammar as a
use Rattle.expr_reader.specs.Openings.{goes}
use Rattle.expr_reader.specs.Tests.{is_sign, is_word, a_name}
use Rattle.statement_reader.specs.Families.{rounded, is_one_of}
use Rattle.statement_reader.specs.Actions.{an_object, a_team, a_new_team, some_images, maybe_specifiers, a_call, a_write, a_print, maybe_name, maybe_expression, of_two, of_three, of_none, a_key}
use Rattle.statement_reader.specs.Dimensions.{an_allocation}
use Rattle.statement_reader.specs.Objects.{some_objects}
use Rattle.statement_reader.specs.Keywords.{made, after, a_sync, an_event, a_keyword_action, is_keyword_action}
use Rattle.expr_reader.proofs.Phrases.{Of}
use Rattle.expr_reader.proofs.Pieces.{either_of}
use Rattle.statement_reader.proofs.Families.{Everywhere, Made, Keyed, After, beyond, keyed, keyed_or, each_made, each_round, each_key, each_wider, each_after_key}
use Rattle.statement_reader.proofs.Actions.{specifier_more, write_more, stop_more, each_call, each_print, each_write, each_maybe_name, each_maybe_expression, each_maybe_specifiers, each_object, each_team, each_new_team, each_images}
use Rattle.statement_reader.proofs.Dimensions.{shape_more}
use Rattle.statement_reader.proofs.Objects.{each_names, each_allocations}

-- in brackets
abbrev names_more : Token → Bool
names_more = either_of (is_sign sign.Comma) (either_of (is_sign sign.Assign) (either_of never (goes 0)))

abbrev allocations_more : Token → Bool
allocations_more = either_of (is_sign sign.Comma) (either_of (is_sign sign.Assign) (either_of shape_more (goes 0)))

each_allocate : Everywhere (Of (λ q. a.allocated q.0 q.1)) never (rounded (some_objects an_allocation))
each_allocate = each_round (λ q. p.listed a.allocation q.0 ▸ g.more_specifiers q.1) allocations_more (some_objects an_allocation) each_allocations (λ at. refl)

each_deallocate : Everywhere (Of (λ q. a.deallocated q.0 q.1)) never (rounded (some_objects (λ left. a_name)))
each_deallocate = each_round (λ q. p.listed p.name q.0 ▸ g.more_specifiers q.1) names_more (some_objects (λ left. a_name)) each_names (λ at. refl)

each_in_object : Everywhere (Of (λ q. a.object q.0 q.1)) never (rounded an_object)
each_in_object = each_round (λ q. g.designator q.0 ▸ g.more_specifiers q.1) specifier_more an_object each_object (λ at. refl)

each_in_team : Everywhere (Of (λ q. a.team q.0 q.1)) never (rounded a_team)
each_in_team = each_round (λ q. g.expr q.0 ▸ g.more_specifiers q.1) specifier_more a_team each_team (λ at. refl)

each_in_new_team : Everywhere (Of (λ q. a.new_team q.0 q.1.0 q.1.1)) never (rounded a_new_team)
each_in_new_team = each_round (λ q. g.expr q.0 ▸ p.sign sign.Comma ▸ p.name q.1.0 ▸ g.more_specifiers q.1.1) specifier_more a_new_team each_new_team (λ at. refl)

each_in_images : Everywhere (Of (λ q. a.synchronized q.0 q.1)) never (rounded some_images)
each_in_images = each_round (λ q. a.image_set q.0 ▸ g.more_specifiers q.1) specifier_more some_images each_images (λ at. refl)

-- The languages of the forms.
abbrev pub Form : Type 1
Form = ℕ → ℕ → ActionStatement → List (Mark Token) → Type 0

abbrev all_form : Form
all_form = After (codes "all") (Made s.sync_all (p.optional a.bracketed_specifiers))

abbrev memory_form : Form
memory_form = After (codes "memory") (Made s.sync_memory (p.optional a.bracketed_specifiers))

abbrev images_form : Form
images_form = After (codes "images") (Made (of_two s.sync_images) (λ q. a.synchronized q.0 q.1))

abbrev team_form : Form
team_form = After (codes "team") (Made (of_two s.sync_team) (λ q. a.team q.0 q.1))

abbrev post_form : Form
post_form = After (codes "post") (Made (of_two s.event_post) (λ q. a.object q.0 q.1))

abbrev wait_form : Form
wait_form = After (codes "wait") (Made (of_two s.event_wait) (λ q. a.object q.0 q.1))

abbrev any_sync : Form
any_sync = λ l d. Or (all_form l d) (Or (memory_form l d) (Or (images_form l d) (team_form l d)))

abbrev any_event : Form
any_event = λ l d. Or (post_form l d) (wait_form l d)

abbrev call_form : Form
call_form = After (codes "call") (Made (of_two s.call) (λ q. p.name q.0 ▸ p.optional a.bracketed_arguments q.1))

abbrev print_form : Form
print_form = After (codes "print") (Made (of_two s.print) (λ q. a.format q.0 ▸ p.followed a.item q.1))

abbrev write_form : Form
write_form = After (codes "write") (Made (of_two s.print) (λ q. p.round (p.sign sign.Star ▸ p.sign sign.Comma ▸ a.format q.0) ▸ p.maybe_listed a.item q.1))

abbrev exit_form : Form
exit_form = After (codes "exit") (Made s.exit (p.optional p.name))

abbrev cycle_form : Form
cycle_form = After (codes "cycle") (Made s.cycle (p.optional p.name))

abbrev stop_form : Form
stop_form = After (codes "stop") (Made s.stop (p.optional g.expr))

abbrev error_form : Form
error_form = After (codes "error") (After (codes "stop") (Made s.error_stop (p.optional g.expr)))

abbrev fail_form : Form
fail_form = After (codes "fail") (Made (of_none s.fail_image) (λ (z : Unit {0}). p.key (codes "image")))

abbrev allocate_form : Form
allocate_form = After (codes "allocate") (Made (of_two s.allocate) (λ q. a.allocated q.0 q.1))

abbrev deallocate_form : Form
deallocate_form = After (codes "deallocate") (Made (of_two s.deallocate) (λ q. a.deallocated q.0 q.1))

abbrev form_form : Form
form_form = After (codes "form") (After (codes "team") (Made (of_three s.form_team) (λ q. a.new_team q.0 q.1.0 q.1.1)))

abbrev lock_form : Form
lock_form = After (codes "lock") (Made (of_two s.lock) (λ q. a.object q.0 q.1))

abbrev unlock_form : Form
unlock_form = After (codes "unlock") (Made (of_two s.unlock) (λ q. a.object q.0 q.1))

abbrev sync_form : Form
sync_form = After (codes "sync") any_sync

abbrev event_form : Form
event_form = After (codes "event") any_event

abbrev return_form : Form
return_form = Made (of_none s.return) (λ (z : Unit {0}). p.key (codes "return"))

-- All but the first so many of them.
abbrev from_return : Form
from_return = return_form

abbrev from_event : Form
from_event = λ l d. Or (event_form l d) (from_return l d)

abbrev from_sync : Form
from_sync = λ l d. Or (sync_form l d) (from_event l d)

abbrev from_unlock : Form
from_unlock = λ l d. Or (unlock_form l d) (from_sync l d)

abbrev from_lock : Form
from_lock = λ l d. Or (lock_form l d) (from_unlock l d)

abbrev from_form : Form
from_form = λ l d. Or (form_form l d) (from_lock l d)

abbrev from_deallocate : Form
from_deallocate = λ l d. Or (deallocate_form l d) (from_form l d)

abbrev from_allocate : Form
from_allocate = λ l d. Or (allocate_form l d) (from_deallocate l d)

abbrev from_fail : Form
from_fail = λ l d. Or (fail_form l d) (from_allocate l d)

abbrev from_error : Form
from_error = λ l d. Or (error_form l d) (from_fail l d)

abbrev from_stop : Form
from_stop = λ l d. Or (stop_form l d) (from_error l d)

abbrev from_cycle : Form
from_cycle = λ l d. Or (cycle_form l d) (from_stop l d)

abbrev from_exit : Form
from_exit = λ l d. Or (exit_form l d) (from_cycle l d)

abbrev from_write : Form
from_write = λ l d. Or (write_form l d) (from_exit l d)

abbrev from_print : Form
from_print = λ l d. Or (print_form l d) (from_write l d)

abbrev from_call : Form
from_call = λ l d. Or (call_form l d) (from_print l d)

-- Each form is read exactly.
k_all : Keyed (codes "all" ∷ []) all_form beyond (after (codes "all") (made s.sync_all maybe_specifiers))
k_all = keyed (Made s.sync_all (p.optional a.bracketed_specifiers)) (is_sign sign.OpenRound) (made s.sync_all maybe_specifiers) (each_made s.sync_all (p.optional a.bracketed_specifiers) (is_sign sign.OpenRound) maybe_specifiers each_maybe_specifiers) (codes "all") (λ at. refl)

k_memory : Keyed (codes "memory" ∷ []) memory_form beyond (after (codes "memory") (made s.sync_memory maybe_specifiers))
k_memory = keyed (Made s.sync_memory (p.optional a.bracketed_specifiers)) (is_sign sign.OpenRound) (made s.sync_memory maybe_specifiers) (each_made s.sync_memory (p.optional a.bracketed_specifiers) (is_sign sign.OpenRound) maybe_specifiers each_maybe_specifiers) (codes "memory") (λ at. refl)

k_images : Keyed (codes "images" ∷ []) images_form beyond (after (codes "images") (made (of_two s.sync_images) (rounded some_images)))
k_images = keyed (Made (of_two s.sync_images) (λ q. a.synchronized q.0 q.1)) never (made (of_two s.sync_images) (rounded some_images)) (each_made (of_two s.sync_images) (λ q. a.synchronized q.0 q.1) never (rounded some_images) each_in_images) (codes "images") (λ at. refl)

k_team : Keyed (codes "team" ∷ []) team_form beyond (after (codes "team") (made (of_two s.sync_team) (rounded a_team)))
k_team = keyed (Made (of_two s.sync_team) (λ q. a.team q.0 q.1)) never (made (of_two s.sync_team) (rounded a_team)) (each_made (of_two s.sync_team) (λ q. a.team q.0 q.1) never (rounded a_team) each_in_team) (codes "team") (λ at. refl)

k_post : Keyed (codes "post" ∷ []) post_form beyond (after (codes "post") (made (of_two s.event_post) (rounded an_object)))
k_post = keyed (Made (of_two s.event_post) (λ q. a.object q.0 q.1)) never (made (of_two s.event_post) (rounded an_object)) (each_made (of_two s.event_post) (λ q. a.object q.0 q.1) never (rounded an_object) each_in_object) (codes "post") (λ at. refl)

k_wait : Keyed (codes "wait" ∷ []) wait_form beyond (after (codes "wait") (made (of_two s.event_wait) (rounded an_object)))
k_wait = keyed (Made (of_two s.event_wait) (λ q. a.object q.0 q.1)) never (made (of_two s.event_wait) (rounded an_object)) (each_made (of_two s.event_wait) (λ q. a.object q.0 q.1) never (rounded an_object) each_in_object) (codes "wait") (λ at. refl)

k_any_sync : Keyed (codes "all" ∷ codes "memory" ∷ codes "images" ∷ codes "team" ∷ []) any_sync beyond a_sync
k_any_sync = keyed_or (codes "all") _ all_form _ beyond (after (codes "all") (made s.sync_all maybe_specifiers)) _ k_all
    (keyed_or (codes "memory") _ memory_form _ beyond (after (codes "memory") (made s.sync_memory maybe_specifiers)) _ k_memory
    (keyed_or (codes "images") _ images_form _ beyond (after (codes "images") (made (of_two s.sync_images) (rounded some_images))) _ k_images k_team refl) refl) refl

k_any_event : Keyed (codes "post" ∷ codes "wait" ∷ []) any_event beyond an_event
k_any_event = keyed_or (codes "post") _ post_form _ beyond (after (codes "post") (made (of_two s.event_post) (rounded an_object))) _ k_post k_wait refl

k_call : Keyed (codes "call" ∷ []) call_form beyond (after (codes "call") (made (of_two s.call) a_call))
k_call = keyed (Made (of_two s.call) (λ q. p.name q.0 ▸ p.optional a.bracketed_arguments q.1)) (is_sign sign.OpenRound) (made (of_two s.call) a_call) (each_made (of_two s.call) (λ q. p.name q.0 ▸ p.optional a.bracketed_arguments q.1) (is_sign sign.OpenRound) a_call each_call) (codes "call") (λ at. refl)

k_print : Keyed (codes "print" ∷ []) print_form beyond (after (codes "print") (made (of_two s.print) a_print))
k_print = keyed (Made (of_two s.print) (λ q. a.format q.0 ▸ p.followed a.item q.1)) specifier_more (made (of_two s.print) a_print) (each_made (of_two s.print) (λ q. a.format q.0 ▸ p.followed a.item q.1) specifier_more a_print each_print) (codes "print") (λ at. refl)

k_write : Keyed (codes "write" ∷ []) write_form beyond (after (codes "write") (made (of_two s.print) a_write))
k_write = keyed (Made (of_two s.print) (λ q. p.round (p.sign sign.Star ▸ p.sign sign.Comma ▸ a.format q.0) ▸ p.maybe_listed a.item q.1)) write_more (made (of_two s.print) a_write) (each_made (of_two s.print) (λ q. p.round (p.sign sign.Star ▸ p.sign sign.Comma ▸ a.format q.0) ▸ p.maybe_listed a.item q.1) write_more a_write each_write) (codes "write") (λ at. refl)

k_exit : Keyed (codes "exit" ∷ []) exit_form beyond (after (codes "exit") (made s.exit maybe_name))
k_exit = keyed (Made s.exit (p.optional p.name)) is_word (made s.exit maybe_name) (each_made s.exit (p.optional p.name) is_word maybe_name each_maybe_name) (codes "exit") (λ at. refl)

k_cycle : Keyed (codes "cycle" ∷ []) cycle_form beyond (after (codes "cycle") (made s.cycle maybe_name))
k_cycle = keyed (Made s.cycle (p.optional p.name)) is_word (made s.cycle maybe_name) (each_made s.cycle (p.optional p.name) is_word maybe_name each_maybe_name) (codes "cycle") (λ at. refl)

k_stop : Keyed (codes "stop" ∷ []) stop_form beyond (after (codes "stop") (made s.stop maybe_expression))
k_stop = keyed (Made s.stop (p.optional g.expr)) stop_more (made s.stop maybe_expression) (each_made s.stop (p.optional g.expr) stop_more maybe_expression each_maybe_expression) (codes "stop") (λ at. refl)

k_error : Keyed (codes "error" ∷ []) error_form beyond (after (codes "error") (after (codes "stop") (made s.error_stop maybe_expression)))
k_error = keyed (After (codes "stop") (Made s.error_stop (p.optional g.expr))) stop_more (after (codes "stop") (made s.error_stop maybe_expression)) (each_after_key (Made s.error_stop (p.optional g.expr)) stop_more (made s.error_stop maybe_expression) (each_made s.error_stop (p.optional g.expr) stop_more maybe_expression each_maybe_expression) (codes "stop")) (codes "error") (λ at. refl)

k_fail : Keyed (codes "fail" ∷ []) fail_form beyond (after (codes "fail") (made (of_none s.fail_image) (a_key (codes "image"))))
k_fail = keyed (Made (of_none s.fail_image) (λ (z : Unit {0}). p.key (codes "image"))) never (made (of_none s.fail_image) (a_key (codes "image"))) (each_made (of_none s.fail_image) (λ (z : Unit {0}). p.key (codes "image")) never (a_key (codes "image")) (each_key (codes "image"))) (codes "fail") (λ at. refl)

k_allocate : Keyed (codes "allocate" ∷ []) allocate_form beyond (after (codes "allocate") (made (of_two s.allocate) (rounded (some_objects an_allocation))))
k_allocate = keyed (Made (of_two s.allocate) (λ q. a.allocated q.0 q.1)) never (made (of_two s.allocate) (rounded (some_objects an_allocation))) (each_made (of_two s.allocate) (λ q. a.allocated q.0 q.1) never (rounded (some_objects an_allocation)) each_allocate) (codes "allocate") (λ at. refl)

k_deallocate : Keyed (codes "deallocate" ∷ []) deallocate_form beyond (after (codes "deallocate") (made (of_two s.deallocate) (rounded (some_objects (λ left. a_name)))))
k_deallocate = keyed (Made (of_two s.deallocate) (λ q. a.deallocated q.0 q.1)) never (made (of_two s.deallocate) (rounded (some_objects (λ left. a_name)))) (each_made (of_two s.deallocate) (λ q. a.deallocated q.0 q.1) never (rounded (some_objects (λ left. a_name))) each_deallocate) (codes "deallocate") (λ at. refl)

k_form : Keyed (codes "form" ∷ []) form_form beyond (after (codes "form") (after (codes "team") (made (of_three s.form_team) (rounded a_new_team))))
k_form = keyed (After (codes "team") (Made (of_three s.form_team) (λ q. a.new_team q.0 q.1.0 q.1.1))) never (after (codes "team") (made (of_three s.form_team) (rounded a_new_team))) (each_after_key (Made (of_three s.form_team) (λ q. a.new_team q.0 q.1.0 q.1.1)) never (made (of_three s.form_team) (rounded a_new_team)) (each_made (of_three s.form_team) (λ q. a.new_team q.0 q.1.0 q.1.1) never (rounded a_new_team) each_in_new_team) (codes "team")) (codes "form") (λ at. refl)

k_lock : Keyed (codes "lock" ∷ []) lock_form beyond (after (codes "lock") (made (of_two s.lock) (rounded an_object)))
k_lock = keyed (Made (of_two s.lock) (λ q. a.object q.0 q.1)) never (made (of_two s.lock) (rounded an_object)) (each_made (of_two s.lock) (λ q. a.object q.0 q.1) never (rounded an_object) each_in_object) (codes "lock") (λ at. refl)

k_unlock : Keyed (codes "unlock" ∷ []) unlock_form beyond (after (codes "unlock") (made (of_two s.unlock) (rounded an_object)))
k_unlock = keyed (Made (of_two s.unlock) (λ q. a.object q.0 q.1)) never (made (of_two s.unlock) (rounded an_object)) (each_made (of_two s.unlock) (λ q. a.object q.0 q.1) never (rounded an_object) each_in_object) (codes "unlock") (λ at. refl)

k_sync : Keyed (codes "sync" ∷ []) sync_form beyond (after (codes "sync") a_sync)
k_sync = keyed any_sync beyond a_sync k_any_sync.exact (codes "sync") (λ at. refl)

k_event : Keyed (codes "event" ∷ []) event_form beyond (after (codes "event") an_event)
k_event = keyed any_event beyond an_event k_any_event.exact (codes "event") (λ at. refl)

k_return : Keyed (codes "return" ∷ []) return_form beyond (made (of_none s.return) (a_key (codes "return")))
k_return = record {
  exact = each_wider return_form never beyond (made (of_none s.return) (a_key (codes "return"))) (each_made (of_none s.return) (λ (z : Unit {0}). p.key (codes "return")) never (a_key (codes "return")) (each_key (codes "return"))) (λ rest h. never_stops rest);
  heads = λ l d e w (z, is, (at, h)). subst (Heads (is_one_of (codes "return" ∷ []))) (sym h) refl;
}

abbrev pub action_keywords : List (List ℕ)
action_keywords = codes "call" ∷ codes "print" ∷ codes "write" ∷ codes "exit" ∷ codes "cycle" ∷ codes "stop" ∷ codes "error" ∷ codes "fail" ∷ codes "allocate" ∷ codes "deallocate" ∷ codes "form" ∷ codes "lock" ∷ codes "unlock" ∷ codes "sync" ∷ codes "event" ∷ codes "return" ∷ []

k_all_forms : Keyed action_keywords from_call beyond a_keyword_action
k_all_forms = keyed_or (codes "call") _ call_form _ beyond (after (codes "call") (made (of_two s.call) a_call)) _ k_call (keyed_or (codes "print") _ print_form _ beyond (after (codes "print") (made (of_two s.print) a_print)) _ k_print (keyed_or (codes "write") _ write_form _ beyond (after (codes "write") (made (of_two s.print) a_write)) _ k_write (keyed_or (codes "exit") _ exit_form _ beyond (after (codes "exit") (made s.exit maybe_name)) _ k_exit (keyed_or (codes "cycle") _ cycle_form _ beyond (after (codes "cycle") (made s.cycle maybe_name)) _ k_cycle (keyed_or (codes "stop") _ stop_form _ beyond (after (codes "stop") (made s.stop maybe_expression)) _ k_stop (keyed_or (codes "error") _ error_form _ beyond (after (codes "error") (after (codes "stop") (made s.error_stop maybe_expression))) _ k_error (keyed_or (codes "fail") _ fail_form _ beyond (after (codes "fail") (made (of_none s.fail_image) (a_key (codes "image")))) _ k_fail (keyed_or (codes "allocate") _ allocate_form _ beyond (after (codes "allocate") (made (of_two s.allocate) (rounded (some_objects an_allocation)))) _ k_allocate (keyed_or (codes "deallocate") _ deallocate_form _ beyond (after (codes "deallocate") (made (of_two s.deallocate) (rounded (some_objects (λ left. a_name))))) _ k_deallocate (keyed_or (codes "form") _ form_form _ beyond (after (codes "form") (after (codes "team") (made (of_three s.form_team) (rounded a_new_team)))) _ k_form (keyed_or (codes "lock") _ lock_form _ beyond (after (codes "lock") (made (of_two s.lock) (rounded an_object))) _ k_lock (keyed_or (codes "unlock") _ unlock_form _ beyond (after (codes "unlock") (made (of_two s.unlock) (rounded an_object))) _ k_unlock (keyed_or (codes "sync") _ sync_form _ beyond (after (codes "sync") a_sync) _ k_sync (keyed_or (codes "event") _ event_form _ beyond (after (codes "event") an_event) _ k_event k_return refl) refl) refl) refl) refl) refl) refl) refl) refl) refl) refl) refl) refl) refl) refl

-- They are the grammar's.
module _ (l d : ℕ) where
  -- behind one keyword, and behind two
  one_key : {A : Type 0} (k : List ℕ) (f : A → ActionStatement) (X : A → Phrase) → ((q : A) (w : List (Mark Token)) → Words (p.key k ▸ X q) l d w → Words (a.action_statement (f q)) l d w) → (e : ActionStatement) (w : List (Mark Token)) → After k (Made f X) l d e w → Words (a.action_statement e) l d w
  one_key k f X into e w (u, v, c, (q, is, h), split) = subst (λ z. Words (a.action_statement z) l d w) (sym is) (into q w (u, v, c, h, split))

  two_keys : {A : Type 0} (j k : List ℕ) (f : A → ActionStatement) (X : A → Phrase) → ((q : A) (w : List (Mark Token)) → Words (p.key j ▸ p.key k ▸ X q) l d w → Words (a.action_statement (f q)) l d w) → (e : ActionStatement) (w : List (Mark Token)) → After j (After k (Made f X)) l d e w → Words (a.action_statement e) l d w
  two_keys j k f X into e w (u, v, c, (m, n, b, (q, is, h), split2), split) = subst (λ z. Words (a.action_statement z) l d w) (sym is) (into q w (u, v, c, (m, n, b, h, split2), split))

  into_sync : (e : ActionStatement) (w : List (Mark Token)) → sync_form l d e w → Words (a.action_statement e) l d w
  into_sync e w (u, v, c, inl h, split) = two_keys (codes "sync") (codes "all") s.sync_all (p.optional a.bracketed_specifiers) (λ q w h. h) e w (u, v, c, h, split)
  into_sync e w (u, v, c, inr (inl h), split) = two_keys (codes "sync") (codes "memory") s.sync_memory (p.optional a.bracketed_specifiers) (λ q w h. h) e w (u, v, c, h, split)
  into_sync e w (u, v, c, inr (inr (inl h)), split) = two_keys (codes "sync") (codes "images") (of_two s.sync_images) (λ q. a.synchronized q.0 q.1) (λ q w h. h) e w (u, v, c, h, split)
  into_sync e w (u, v, c, inr (inr (inr h)), split) = two_keys (codes "sync") (codes "team") (of_two s.sync_team) (λ q. a.team q.0 q.1) (λ q w h. h) e w (u, v, c, h, split)

  into_event : (e : ActionStatement) (w : List (Mark Token)) → event_form l d e w → Words (a.action_statement e) l d w
  into_event e w (u, v, c, inl h, split) = two_keys (codes "event") (codes "post") (of_two s.event_post) (λ q. a.object q.0 q.1) (λ q w h. h) e w (u, v, c, h, split)
  into_event e w (u, v, c, inr h, split) = two_keys (codes "event") (codes "wait") (of_two s.event_wait) (λ q. a.object q.0 q.1) (λ q w h. h) e w (u, v, c, h, split)

  into_action : (e : ActionStatement) (w : List (Mark Token)) → from_call l d e w → Words (a.action_statement e) l d w
  into_action e w (inl h) = one_key (codes "call") (of_two s.call) (λ q. p.name q.0 ▸ p.optional a.bracketed_arguments q.1) (λ q w h. h) e w h
  into_action e w (inr (inl h)) = one_key (codes "print") (of_two s.print) (λ q. a.format q.0 ▸ p.followed a.item q.1) (λ q w h. inl h) e w h
  into_action e w (inr (inr (inl h))) = one_key (codes "write") (of_two s.print) (λ q. p.round (p.sign sign.Star ▸ p.sign sign.Comma ▸ a.format q.0) ▸ p.maybe_listed a.item q.1) (λ q w h. inr h) e w h
  into_action e w (inr (inr (inr (inl h)))) = one_key (codes "exit") s.exit (p.optional p.name) (λ q w h. h) e w h
  into_action e w (inr (inr (inr (inr (inl h))))) = one_key (codes "cycle") s.cycle (p.optional p.name) (λ q w h. h) e w h
  into_action e w (inr (inr (inr (inr (inr (inl h)))))) = one_key (codes "stop") s.stop (p.optional g.expr) (λ q w h. h) e w h
  into_action e w (inr (inr (inr (inr (inr (inr (inl h))))))) = two_keys (codes "error") (codes "stop") s.error_stop (p.optional g.expr) (λ q w h. h) e w h
  into_action e w (inr (inr (inr (inr (inr (inr (inr (inl h)))))))) = one_key (codes "fail") (of_none s.fail_image) (λ (z : Unit {0}). p.key (codes "image")) (λ q w h. h) e w h
  into_action e w (inr (inr (inr (inr (inr (inr (inr (inr (inl h))))))))) = one_key (codes "allocate") (of_two s.allocate) (λ q. a.allocated q.0 q.1) (λ q w h. h) e w h
  into_action e w (inr (inr (inr (inr (inr (inr (inr (inr (inr (inl h)))))))))) = one_key (codes "deallocate") (of_two s.deallocate) (λ q. a.deallocated q.0 q.1) (λ q w h. h) e w h
  into_action e w (inr (inr (inr (inr (inr (inr (inr (inr (inr (inr (inl h))))))))))) = two_keys (codes "form") (codes "team") (of_three s.form_team) (λ q. a.new_team q.0 q.1.0 q.1.1) (λ q w h. h) e w h
  into_action e w (inr (inr (inr (inr (inr (inr (inr (inr (inr (inr (inr (inl h)))))))))))) = one_key (codes "lock") (of_two s.lock) (λ q. a.object q.0 q.1) (λ q w h. h) e w h
  into_action e w (inr (inr (inr (inr (inr (inr (inr (inr (inr (inr (inr (inr (inl h))))))))))))) = one_key (codes "unlock") (of_two s.unlock) (λ q. a.object q.0 q.1) (λ q w h. h) e w h
  into_action e w (inr (inr (inr (inr (inr (inr (inr (inr (inr (inr (inr (inr (inr (inl h)))))))))))))) = into_sync e w h
  into_action e w (inr (inr (inr (inr (inr (inr (inr (inr (inr (inr (inr (inr (inr (inr (inl h))))))))))))))) = into_event e w h
  into_action e w (inr (inr (inr (inr (inr (inr (inr (inr (inr (inr (inr (inr (inr (inr (inr h))))))))))))))) = subst (λ z. Words (a.action_statement z) l d w) (sym h.1) h.2

  pub is_keyword : (e : ActionStatement) (w : List (Mark Token)) → from_call l d e w → is_keyword_action e ≡ true
  is_keyword e w (inl (u, v, c, (q, is, h), split)) = ap is_keyword_action is
  is_keyword e w (inr (inl (u, v, c, (q, is, h), split))) = ap is_keyword_action is
  is_keyword e w (inr (inr (inl (u, v, c, (q, is, h), split)))) = ap is_keyword_action is
  is_keyword e w (inr (inr (inr (inl (u, v, c, (q, is, h), split))))) = ap is_keyword_action is
  is_keyword e w (inr (inr (inr (inr (inl (u, v, c, (q, is, h), split)))))) = ap is_keyword_action is
  is_keyword e w (inr (inr (inr (inr (inr (inl (u, v, c, (q, is, h), split))))))) = ap is_keyword_action is
  is_keyword e w (inr (inr (inr (inr (inr (inr (inl (u, v, c, (i, j, b, (q, is, h), split2), split)))))))) = ap is_keyword_action is
  is_keyword e w (inr (inr (inr (inr (inr (inr (inr (inl (u, v, c, (q, is, h), split))))))))) = ap is_keyword_action is
  is_keyword e w (inr (inr (inr (inr (inr (inr (inr (inr (inl (u, v, c, (q, is, h), split)))))))))) = ap is_keyword_action is
  is_keyword e w (inr (inr (inr (inr (inr (inr (inr (inr (inr (inl (u, v, c, (q, is, h), split))))))))))) = ap is_keyword_action is
  is_keyword e w (inr (inr (inr (inr (inr (inr (inr (inr (inr (inr (inl (u, v, c, (i, j, b, (q, is, h), split2), split)))))))))))) = ap is_keyword_action is
  is_keyword e w (inr (inr (inr (inr (inr (inr (inr (inr (inr (inr (inr (inl (u, v, c, (q, is, h), split))))))))))))) = ap is_keyword_action is
  is_keyword e w (inr (inr (inr (inr (inr (inr (inr (inr (inr (inr (inr (inr (inl (u, v, c, (q, is, h), split)))))))))))))) = ap is_keyword_action is
  is_keyword e w (inr (inr (inr (inr (inr (inr (inr (inr (inr (inr (inr (inr (inr (inl (u, v, c, inl (i, j, b, (q, is, h), split2), split))))))))))))))) = ap is_keyword_action is
  is_keyword e w (inr (inr (inr (inr (inr (inr (inr (inr (inr (inr (inr (inr (inr (inl (u, v, c, inr (inl (i, j, b, (q, is, h), split2)), split))))))))))))))) = ap is_keyword_action is
  is_keyword e w (inr (inr (inr (inr (inr (inr (inr (inr (inr (inr (inr (inr (inr (inl (u, v, c, inr (inr (inl (i, j, b, (q, is, h), split2))), split))))))))))))))) = ap is_keyword_action is
  is_keyword e w (inr (inr (inr (inr (inr (inr (inr (inr (inr (inr (inr (inr (inr (inl (u, v, c, inr (inr (inr (i, j, b, (q, is, h), split2))), split))))))))))))))) = ap is_keyword_action is
  is_keyword e w (inr (inr (inr (inr (inr (inr (inr (inr (inr (inr (inr (inr (inr (inr (inl (u, v, c, inl (i, j, b, (q, is, h), split2), split)))))))))))))))) = ap is_keyword_action is
  is_keyword e w (inr (inr (inr (inr (inr (inr (inr (inr (inr (inr (inr (inr (inr (inr (inl (u, v, c, inr (i, j, b, (q, is, h), split2), split)))))))))))))))) = ap is_keyword_action is
  is_keyword e w (inr (inr (inr (inr (inr (inr (inr (inr (inr (inr (inr (inr (inr (inr (inr (q, is, h)))))))))))))))) = ap is_keyword_action is

  from_action : (e : ActionStatement) (w : List (Mark Token)) → is_keyword_action e ≡ true → Words (a.action_statement e) l d w → from_call l d e w
  from_action (s.assignment x e) w f h = absurd (false≢true f)
  from_action (s.if_statement e x at) w f h = absurd (false≢true f)
  from_action (s.call n args) w f (u, v, c, h, split) = inl (u, v, c, ((n, args), refl, h), split)
  from_action (s.print x is) w f (inl (u, v, c, h, split)) = inr (inl (u, v, c, ((x, is), refl, h), split))
  from_action (s.print x is) w f (inr (u, v, c, h, split)) = inr (inr (inl (u, v, c, ((x, is), refl, h), split)))
  from_action (s.exit n) w f (u, v, c, h, split) = inr (inr (inr (inl (u, v, c, (n, refl, h), split))))
  from_action (s.cycle n) w f (u, v, c, h, split) = inr (inr (inr (inr (inl (u, v, c, (n, refl, h), split)))))
  from_action (s.stop n) w f (u, v, c, h, split) = inr (inr (inr (inr (inr (inl (u, v, c, (n, refl, h), split))))))
  from_action (s.error_stop n) w f (u, v, c, (i, j, b, h, split2), split) = inr (inr (inr (inr (inr (inr (inl (u, v, c, (i, j, b, (n, refl, h), split2), split)))))))
  from_action s.fail_image w f (u, v, c, h, split) = inr (inr (inr (inr (inr (inr (inr (inl (u, v, c, (tt, refl, h), split))))))))
  from_action (s.allocate os ps) w f (u, v, c, h, split) = inr (inr (inr (inr (inr (inr (inr (inr (inl (u, v, c, ((os, ps), refl, h), split)))))))))
  from_action (s.deallocate os ps) w f (u, v, c, h, split) = inr (inr (inr (inr (inr (inr (inr (inr (inr (inl (u, v, c, ((os, ps), refl, h), split))))))))))
  from_action (s.form_team x n ps) w f (u, v, c, (i, j, b, h, split2), split) = inr (inr (inr (inr (inr (inr (inr (inr (inr (inr (inl (u, v, c, (i, j, b, ((x, (n, ps)), refl, h), split2), split)))))))))))
  from_action (s.lock x ps) w f (u, v, c, h, split) = inr (inr (inr (inr (inr (inr (inr (inr (inr (inr (inr (inl (u, v, c, ((x, ps), refl, h), split))))))))))))
  from_action (s.unlock x ps) w f (u, v, c, h, split) = inr (inr (inr (inr (inr (inr (inr (inr (inr (inr (inr (inr (inl (u, v, c, ((x, ps), refl, h), split)))))))))))))
  from_action (s.sync_all ps) w f (u, v, c, (i, j, b, h, split2), split) = inr (inr (inr (inr (inr (inr (inr (inr (inr (inr (inr (inr (inr (inl (u, v, c, inl (i, j, b, (ps, refl, h), split2), split))))))))))))))
  from_action (s.sync_memory ps) w f (u, v, c, (i, j, b, h, split2), split) = inr (inr (inr (inr (inr (inr (inr (inr (inr (inr (inr (inr (inr (inl (u, v, c, inr (inl (i, j, b, (ps, refl, h), split2)), split))))))))))))))
  from_action (s.sync_images x ps) w f (u, v, c, (i, j, b, h, split2), split) = inr (inr (inr (inr (inr (inr (inr (inr (inr (inr (inr (inr (inr (inl (u, v, c, inr (inr (inl (i, j, b, ((x, ps), refl, h), split2))), split))))))))))))))
  from_action (s.sync_team x ps) w f (u, v, c, (i, j, b, h, split2), split) = inr (inr (inr (inr (inr (inr (inr (inr (inr (inr (inr (inr (inr (inl (u, v, c, inr (inr (inr (i, j, b, ((x, ps), refl, h), split2))), split))))))))))))))
  from_action (s.event_post x ps) w f (u, v, c, (i, j, b, h, split2), split) = inr (inr (inr (inr (inr (inr (inr (inr (inr (inr (inr (inr (inr (inr (inl (u, v, c, inl (i, j, b, ((x, ps), refl, h), split2), split)))))))))))))))
  from_action (s.event_wait x ps) w f (u, v, c, (i, j, b, h, split2), split) = inr (inr (inr (inr (inr (inr (inr (inr (inr (inr (inr (inr (inr (inr (inl (u, v, c, inr (i, j, b, ((x, ps), refl, h), split2), split)))))))))))))))
  from_action s.return w f h = inr (inr (inr (inr (inr (inr (inr (inr (inr (inr (inr (inr (inr (inr (inr (tt, refl, h)))))))))))))))

-- the words of actions that begin with a keyword
abbrev pub Keyword_action : Form
Keyword_action l d e w = (is_keyword_action e ≡ true) × Words (a.action_statement e) l d w

pub each_keyword_action : Everywhere Keyword_action beyond a_keyword_action
each_keyword_action limit left level h = relabel (from_call limit level) (Keyword_action limit level) (a_keyword_action left) beyond beyond (k_all_forms.exact limit left level h)
    (λ e w o. (is_keyword limit level e w o, into_action limit level e w o)) (λ e w o. from_action limit level e w o.0 o.1) (λ rest o. o)

pub keyword_heads : (l d : ℕ) (e : ActionStatement) (w : List (Mark Token)) → Keyword_action l d e w → Heads (is_one_of action_keywords) w
keyword_heads l d e w h = k_all_forms.heads l d e w (from_action l d e w h.0 h.1)
