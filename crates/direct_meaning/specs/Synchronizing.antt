-- What image control statements ask, what the replies give, and what becomes of a status (ISO/IEC 1539-1:2018, 11.1.5,
-- 11.1.6, 11.6).
use Rattle.std.specs.Prelude.{ℕ, suc, ◌-◌, ◌*◌, ◌&&◌, ◌||◌, nat_eq, nat_lt, cond, max, ℤ, pos, negsuc, Bool, false, List, [], ◌∷◌, ◌++◌, map, length, Option, None, Some, slice_set}
use Rattle.std.specs.Ordering.{int_eq}
use Rattle.caf_base.specs.declared.place.ImageNo.{ImageNo}
use Rattle.caf_base.specs.Arithmetic.{natural, truth}
use Rattle.caf_events.specs.declared.ask.Ask.{Ask}
use Rattle.caf_events.specs.declared.ask.Ask.TheVariants as asks
use Rattle.caf_events.specs.declared.reply.FormedTeam.{FormedTeam}
use Rattle.caf_events.specs.declared.reply.Reply.{Reply}
use Rattle.caf_events.specs.declared.reply.Reply.TheVariants as replies
use Rattle.caf_events.specs.declared.round.Arriving.{Arriving}
use Rattle.caf_events.specs.declared.round.Arriving.TheVariants as arrivals
use Rattle.coarray_types.specs.Places.{size_of}
use Rattle.checked_tree.specs.Expressions as t
use Rattle.image_acts.specs.Statuses.{failed_image, unlocked_failed_image, most_teams}
use Rattle.image_acts.specs.Faults.{no_team, not_allocated, room}
use Rattle.image_acts.specs.Acts.{Scope}
use Rattle.image_acts.specs.Core.{Own, Team}
use Rattle.image_acts.specs.Places.{Place}
use Rattle.image_acts.specs.Replies.{fitting}
use Rattle.image_acts.specs.Teams.{is_in, team_in, behind_first}
use Rattle.image_acts.specs.Words.{word}
use Rattle.image_acts.specs.Operate.Asking.{span_of, has_cell}
use Rattle.tree_meaning.specs.Environment.{Environment}
use Rattle.tree_meaning.specs.ImageControl.{is_allocatable_in}
use Rattle.tree_meaning.specs.Settling.{is_accepted}
use Rattle.direct_meaning.specs.States.{State, own_in}
use Rattle.direct_meaning.specs.Outcomes.{over, Does, giving, fault, nothing_said, ◌▹◌, asking, unless, of_some, changing}
use Rattle.direct_meaning.specs.Values.{set_scalar}
use Rattle.direct_meaning.specs.Images.{current_team, the, team}
use Rattle.direct_meaning.specs.Expressions.{Target, set_target}

-- the last ask of an image
abbrev pub ending : {X : Type 0} → Ask → Does X
ending a = asking a ▹ (λ r l s. over s)

-- STAT= gets the status; without it a status but 0 and the accepted ones starts error termination (11.6.11)
abbrev pub settle : t.OptionalResult → Target → List ℤ → ℤ → Does (Unit {0})
settle t.no_result g accepted status = cond (is_accepted accepted status) (giving tt) (ending (asks.ErrorStop status))
settle (t.result r) g accepted status = set_target g status

-- an arrival at a team; one that clashes ends the image
abbrev pub round_of : Reply → Does ℕ
round_of (replies.Round n) = giving n
round_of (replies.Clash i l) = λ m z. over z
round_of reply = nothing_said

abbrev pub left : Reply → Does ℤ
left (replies.Left status teams) = giving status
left reply = nothing_said

-- a round of a team (11.6.3): the arrival and the departure; its status
abbrev pub round : ℕ → Arriving → Does ℤ
round n kind = asking (asks.Arrive (team n) kind) ▹ (λ r. round_of r ▹ (λ k. asking (asks.Leave (team n) k) ▹ left))

abbrev pub number_in : Reply → Does ℤ
number_in (replies.Number status) = giving status
number_in reply = nothing_said

-- this image, as it names itself
abbrev pub this : State → ImageNo
this s = record { 0 = s.me }

-- a team that a FORM TEAM of the current team formed, with this image in it (11.6.9): that of CHANGE TEAM (11.1.5)
abbrev pub is_child : Option Team → State → Bool
is_child None s = false
is_child (Some k) s = nat_eq k.parent (current_team s) && is_in s.me k.members

abbrev pub child_team : ℤ → Does ℕ
child_team (pos n) = λ l s. unless no_team (is_child (team_in n s.known) s) (giving n) l s
child_team (negsuc n) = nothing_said

-- the team of SYNC TEAM (11.6.6): such a one, the current team, or an ancestor of it
abbrev pub near_team : ℤ → Does ℕ
near_team (pos n) = λ l s. unless no_team (is_in n s.teams || is_child (team_in n s.known) s) (giving n) l s
near_team (negsuc n) = nothing_said

-- it becomes the current team (the profile has a limit), and its parent does again
abbrev pub enter_team : ℕ → Does (Unit {0})
enter_team n = λ l s. unless room (nat_lt (length s.teams) most_teams) (λ m z. giving tt m (record z { teams = n ∷ z.teams })) l s

abbrev pub leave_team : Does (Unit {0})
leave_team = changing (λ s. record s { teams = behind_first s.teams })

-- The round of a FORM TEAM (11.6.9): its status, its number in the parent team, and the teams that it formed, which are
-- no more than the images can be in.
abbrev pub left_formed : ℕ → Reply → Does (ℤ × ℕ × List FormedTeam)
left_formed k (replies.Left status teams) = λ l s. giving (status, k, fitting (2 * s.images) teams) l s
left_formed k reply = nothing_said

abbrev pub form_round : ℕ → (number index : ℤ) → Does (ℤ × ℕ × List FormedTeam)
form_round n number index = asking (asks.Arrive (team n) (arrivals.Form number index)) ▹ (λ r. round_of r ▹ (λ k. asking (asks.Leave (team n) k) ▹ left_formed k))

-- a formed team, as the image knows it from then on
abbrev pub formed_in : (parent round : ℕ) → FormedTeam → Team
formed_in p r f = record { team = f.team.0; parent = p; round = r; number = f.number; members = map (λ i. i.0) f.members }

-- the one that has this image is what the team variable gets; where there is none the variable keeps its value
abbrev pub team_of_image : ℕ → List Team → Option Team
team_of_image i [] = None
team_of_image i (k ∷ ks) = cond (is_in i k.members) (Some k) (team_of_image i ks)

abbrev pub set_team : Scope → ℕ → Option Team → Does (Unit {0})
set_team s x None = giving tt
set_team s x (Some k) = set_scalar s x (pos k.team)

abbrev pub know_teams : Scope → ℕ → List Team → Does (Unit {0})
know_teams s x ks = the (λ z. z.me) ▹ (λ i. changing (λ z. record z { known = ks ++ z.known }) ▹ (λ u. set_team s x (team_of_image i ks)))

abbrev pub note_teams : Scope → ℕ → ℕ → List FormedTeam → Does (Unit {0})
note_teams s x r fs = the current_team ▹ (λ n. know_teams s x (map (formed_in n r) fs))

-- the deallocation of a coarray on this image (9.7.3.2)
abbrev pub without_own : ℕ → Own → State → State
without_own c o s = record s { coarrays = slice_set s.coarrays c None; coarray_cells = s.coarray_cells - size_of o.bounds }

abbrev pub forget_own : ℕ → Does (Unit {0})
forget_own c = λ l s. (of_some (own_in c s) ▹ (λ o. changing (without_own c o))) l s

abbrev pub delete_own : ℕ → Does (Unit {0})
delete_own c = the this ▹ (λ i. asking (asks.Delete i c) ▹ (λ r. forget_own c))

-- END TEAM: the coarrays that were allocated in the team and are still there, in declared order (11.1.5.2)
abbrev pub is_of_team : Option Own → ℕ → Bool
is_of_team None n = false
is_of_team (Some o) n = nat_eq o.team n

abbrev pub delete_made : ℕ → Does (Unit {0})
delete_made c = λ l s. cond (is_of_team (own_in c s) (current_team s)) (delete_own c) (giving tt) l s

abbrev pub delete_all : Environment → List ℕ → ℕ → Does (Unit {0})
delete_all e [] c = giving tt
delete_all e (n ∷ ns) c = cond (is_allocatable_in e e.program.main.variables n) (delete_made c) (giving tt) ▹ (λ u. delete_all e ns (suc c))

-- the status of LOCK, UNLOCK and EVENT POST: of a failed image STAT_FAILED_IMAGE
abbrev pub cell_status : Reply → Does ℤ
cell_status (replies.Number (pos n)) = giving (pos n)
cell_status replies.Dead = giving failed_image
cell_status replies.Absent = fault not_allocated
cell_status reply = nothing_said

-- with ACQUIRED_LOCK= (11.6.10): whether the lock was acquired, as it is too where its last holder failed; and the
-- status, which is 0 where another image holds it
abbrev pub tried_status : Reply → Does (ℤ × ℤ)
tried_status (replies.Number (pos n)) = giving (truth (int_eq (pos n) (pos 0) || int_eq (pos n) unlocked_failed_image), pos n)
tried_status replies.Busy = giving (pos 0, pos 0)
tried_status replies.Dead = giving (pos 0, failed_image)
tried_status replies.Absent = fault not_allocated
tried_status reply = nothing_said

-- STAT= of the selector in a statement that has a status of its own: STAT_FAILED_IMAGE or 0
abbrev pub set_selector : Target → ℤ → Does (Unit {0})
set_selector g status = set_target g (cond (int_eq status failed_image) failed_image (pos 0))

-- an event of this image, which has to be there; EVENT WAIT waits for at least one post (11.6.8)
abbrev pub own_cell : ℕ → Place → Does (Unit {0})
own_cell c p = λ l s. unless not_allocated (has_cell (own_in c s) (word p.start)) (giving tt) l s

abbrev pub threshold : ℤ → ℕ
threshold v = max (natural v) 1

abbrev pub wait_for : ℕ → Place → ℤ → Does ℤ
wait_for c p v = own_cell c p ▹ (λ u. the this ▹ (λ i. asking (asks.Wait i (span_of c p) (threshold v)) ▹ number_in))
