-- What image control statements take: no evaluation cell of their own.
use Rattle.std.proofs.Common.{refl, ℕ, suc, ◌||◌, nat_lt, ℤ, pos, negsuc, Bool, cond, List, [], ◌∷◌, length}
use Rattle.caf_events.specs.declared.ask.Ask.{Ask}
use Rattle.caf_events.specs.declared.ask.Ask.TheVariants as asked
use Rattle.caf_events.specs.declared.reply.Reply.{Reply}
use Rattle.caf_events.specs.declared.reply.Reply.TheVariants as replies
use Rattle.caf_events.specs.declared.round.Arriving.{Arriving}
use Rattle.checked_tree.specs.Expressions as t
use Rattle.image_acts.specs.Statuses.{most_teams}
use Rattle.image_acts.specs.Faults.{no_team, room}
use Rattle.image_acts.specs.Teams.{is_in, team_in}
use Rattle.tree_meaning.specs.Environment.{Environment}
use Rattle.tree_meaning.specs.Settling.{is_accepted}
use Rattle.tree_meaning.specs.ImageControl.{is_allocatable_in}
use Rattle.direct_meaning.specs.States.{own_in}
use Rattle.direct_meaning.specs.Outcomes.{giving, ◌▹◌, asking, of_some, changing}
use Rattle.direct_meaning.specs.Images.{the, team, current_team}
use Rattle.direct_meaning.specs.Expressions.{Target}
use Rattle.direct_meaning.specs.Synchronizing.{ending, settle, round_of, left, round, number_in, is_child, child_team, near_team, enter_team, leave_team, is_of_team, without_own, forget_own, delete_own, delete_made, delete_all, this}
use Rattle.direct_released.proofs.Quiet.{IsQuiet, q_then, q_giving, q_cond, q_unless, q_some, q_asking}
use Rattle.direct_released.proofs.QuietSteps.{q_the, q_set_target}

q_ending : (q : Ask) → IsQuiet (ending {X = Unit {0}} q)
q_ending q l z r = tt

pub q_settle : (stat : t.OptionalResult) (g : Target) (accepted : List ℤ) (s : ℤ) → IsQuiet (settle stat g accepted s)
q_settle t.no_result g accepted s =
    q_cond (is_accepted accepted s) (giving tt) (ending (asked.ErrorStop s)) (λ l z. (refl, refl)) (q_ending (asked.ErrorStop s))
q_settle (t.result r) g accepted s = q_set_target g s

q_round_of : (r : Reply) → IsQuiet (round_of r)
q_round_of (replies.Round n) = λ l z. (refl, refl)
q_round_of (replies.Clash i m) = λ l z. tt
q_round_of r = λ l z. tt

q_left : (r : Reply) → IsQuiet (left r)
q_left (replies.Left s fs) = λ l z. (refl, refl)
q_left r = λ l z. tt

pub q_round : (n : ℕ) (kind : Arriving) → IsQuiet (round n kind)
q_round n kind =
    q_then (asking (asked.Arrive (team n) kind)) (λ r. round_of r ▹ (λ k. asking (asked.Leave (team n) k) ▹ left))
    (q_asking (asked.Arrive (team n) kind))
    (λ r. q_then (round_of r) (λ k. asking (asked.Leave (team n) k) ▹ left) (q_round_of r)
    (λ k. q_then (asking (asked.Leave (team n) k)) left (q_asking (asked.Leave (team n) k)) q_left))

pub q_number_in : (r : Reply) → IsQuiet (number_in r)
q_number_in (replies.Number s) = λ l z. (refl, refl)
q_number_in r = λ l z. tt

pub q_near_team : (v : ℤ) → IsQuiet (near_team v)
q_near_team (pos n) = λ l z. q_unless no_team (is_in n z.teams || is_child (team_in n z.known) z) (giving n) (q_giving n) l z
q_near_team (negsuc n) = λ l z. tt

pub q_child_team : (v : ℤ) → IsQuiet (child_team v)
q_child_team (pos n) = λ l z. q_unless no_team (is_child (team_in n z.known) z) (giving n) (q_giving n) l z
q_child_team (negsuc n) = λ l z. tt

pub q_enter_team : (n : ℕ) → IsQuiet (enter_team n)
q_enter_team n = λ l z. q_unless room (nat_lt (length z.teams) most_teams) (λ m y. giving tt m (record y { teams = n ∷ y.teams }))
    (λ m y. (refl, refl)) l z

pub q_leave_team : IsQuiet leave_team
q_leave_team l z = (refl, refl)

-- the coarrays of END TEAM
q_forget : (c : ℕ) → IsQuiet (forget_own c)
q_forget c = λ l z. q_then (of_some (own_in c z)) (λ o. changing (without_own c o)) (q_some (own_in c z)) (λ o m y. (refl, refl)) l z

q_delete : (c : ℕ) → IsQuiet (delete_own c)
q_delete c = q_then (the this) (λ i. asking (asked.Delete i c) ▹ (λ r. forget_own c)) (q_the this)
    (λ i. q_then (asking (asked.Delete i c)) (λ r. forget_own c) (q_asking (asked.Delete i c)) (λ r. q_forget c))

q_delete_made : (c : ℕ) → IsQuiet (delete_made c)
q_delete_made c = λ l z. q_cond (is_of_team (own_in c z) (current_team z)) (delete_own c) (giving tt) (q_delete c)
    (λ m y. (refl, refl)) l z

pub q_delete_all : (e : Environment) (ns : List ℕ) (c : ℕ) → IsQuiet (delete_all e ns c)
q_delete_all e [] c = λ l z. (refl, refl)
q_delete_all e (n ∷ ns) c =
    let b : Bool = is_allocatable_in e e.program.main.variables n in
    q_then (cond b (delete_made c) (giving tt)) (λ u. delete_all e ns (suc c))
    (q_cond b (delete_made c) (giving tt) (q_delete_made c) (λ l z. (refl, refl))) (λ u. q_delete_all e ns (suc c))
