-- Each act is exact.
use Rattle.std.proofs.Common.{◌≡◌, ℕ, suc, ◌+◌, Bool, true, false, cond, List, [], ◌∷◌, ◌++◌, map, length, refl, ap, sym, subst, arith}
use Rattle.std.specs.Prelude.{ℤ, pos, ◌-◌, ◌&&◌, nat_le, take, drop, Option, None, Some}
use Rattle.walk_theory.specs.Language.{goes_to, faults, asking, ends_with, stuck}
use Rattle.coarray_types.specs.Places.{size_of}
use Rattle.caf_events.specs.declared.ask.Ask.{Ask}
use Rattle.caf_events.specs.declared.ask.Ask.TheVariants as asks
use Rattle.caf_events.specs.declared.reply.FormedTeam.{FormedTeam}
use Rattle.caf_events.specs.declared.reply.Reply.{Reply}
use Rattle.caf_events.specs.declared.reply.Reply.TheVariants as replies
use Rattle.image_acts.specs.Faults.{room}
use Rattle.image_acts.specs.Statuses.{most_cells}
use Rattle.image_acts.specs.Words.{word}
use Rattle.image_acts.specs.Acts as a
use Rattle.image_acts.specs.Acts.{Act, constant, stack, variable, operator, bounded, allocation, selector, team, call, print, ask}
use Rattle.image_acts.specs.Core.{Core, Own, Team, with_values}
use Rattle.image_acts.specs.Frames.{pairs_in, with_cell}
use Rattle.image_acts.specs.Owning.{own_in, with_own}
use Rattle.image_acts.specs.Teams.{is_in, current_team}
use Rattle.image_acts.specs.Replies.{leave_reply}
use Rattle.image_acts.specs.Taking.{Acted, given, unless, taken}
use Rattle.image_acts.specs.Operate.Operators.{operator_effect}
use Rattle.image_acts.specs.Operate.Stack.{stack_effect}
use Rattle.image_acts.specs.Operate.Variables.{variable_effect}
use Rattle.image_acts.specs.Operate.Bounds.{bounds_effect}
use Rattle.image_acts.specs.Operate.Allocating.{allocation_effect, bounds_size, cobounds_size, noted, own_of}
use Rattle.image_acts.specs.Operate.Selecting.{selector_effect}
use Rattle.image_acts.specs.Operate.Teaming.{team_effect}
use Rattle.image_acts.specs.Operate.Calling.{call_effect}
use Rattle.image_acts.specs.Operate.Printing.{print_effect}
use Rattle.image_acts.specs.Operate.Asking.{ask_effect}
use Rattle.image_acts.specs.Meaning.{missed, settled}
use Rattle.image_code.specs.Levels.{of_numbers, left_of}
use Rattle.stack_laws.specs.Exact.{No, Plain, AsksBy, Stand, kept_of, KeptBy, Exactly, IsExact}
use Rattle.stack_laws.proofs.Standing.{same_values, stand_of}
use Rattle.stack_laws.proofs.Numbers.{exact_operator, exact_stack}
use Rattle.stack_laws.proofs.Arrays.{exact_variable, exact_bounds}
use Rattle.stack_laws.proofs.Images.{exact_allocation, exact_selector, exact_team, exact_call, exact_print}
use Rattle.stack_laws.proofs.Asks.{exact_ask}

missing : (Q : Ask → Type 0) (K : Core → Type 0) (m : ℕ) (vs : List ℤ) (x : Act) → Exactly Q K m vs (missed x)
missing Q K m vs (ask a.leave) = tt
missing Q K m vs (ask a.take) = tt
missing Q K m vs x = tt

-- what is left where an operand isn't there goes nowhere
settles : (Q : Ask → Type 0) (K : Core → Type 0) (m : ℕ) (vs : List ℤ) (x : Act) (e : Acted) → Exactly Q K m vs e → Exactly Q K m vs (settled x e)
settles Q K m vs x (goes_to d) h = h
settles Q K m vs x (faults n) h = h
settles Q K m vs x (asking q f) h = h
settles Q K m vs x (ends_with q) h = h
settles Q K m vs x stuck h = missing Q K m vs x

-- ---- the acts that note teams and allocations, and a departure, which tells of teams
abbrev Whatever : Core → Type 0
Whatever c = Unit {0}

of_two_tests : (Q : Ask → Type 0) (b d : Bool) (m : ℕ) (vs : List ℤ) (e : Core) → Stand m vs e.values → Exactly Q Whatever m vs (unless room b (unless room d (goes_to e)))
of_two_tests Q true true m vs e s = (s, tt)
of_two_tests Q true false m vs e s = tt
of_two_tests Q false d m vs e s = tt

noted_so : (Q : Ask → Type 0) (k rank corank : ℕ) (bs : List (ℤ × ℤ)) (cs : List ℤ) (c : Core) (m : ℕ) (vs : List ℤ) → Stand m vs c.values → Exactly Q Whatever m vs (noted k rank corank bs cs c)
noted_so Q k rank corank bs cs c m vs s =
    of_two_tests Q (nat_le rank 3 && nat_le corank 3) (nat_le (c.coarray_cells + size_of bs) most_cells) m vs (with_own k (Some (own_of bs cs (current_team c))) (c.coarray_cells + size_of bs) c) s

note_made : (Q : Ask → Type 0) (k depth rank corank : ℕ) (c : Core) (m : ℕ) (vs : List ℤ) → Stand m vs c.values → Exactly Q Whatever m vs (allocation_effect (a.note_made k depth rank corank) c)
note_made Q k depth rank corank c m vs s = by_taken (taken (bounds_size rank + cobounds_size corank) (drop depth c.values) [])
  where
    by_taken : (o : Option (List ℤ × List ℤ)) → Exactly Q Whatever m vs (given o (λ p. noted k rank corank (pairs_in (take (bounds_size rank) p.0)) (drop (bounds_size rank) p.0) c))
    by_taken None = tt
    by_taken (Some p) = noted_so Q k rank corank (pairs_in (take (bounds_size rank) p.0)) (drop (bounds_size rank) p.0) c m vs s

abbrev own_freed : ℕ → Option Own → Core → Acted
own_freed k None c = stuck
own_freed k (Some o) c = goes_to (with_own k None (c.coarray_cells - size_of o.bounds) c)

note_freed : (Q : Ask → Type 0) (k : ℕ) (o : Option Own) (c : Core) (m : ℕ) (vs : List ℤ) → Stand m vs c.values → Exactly Q Whatever m vs (own_freed k o c)
note_freed Q k None c m vs s = tt
note_freed Q k (Some o) c m vs s = (s, tt)

abbrev known_as : (parent round : ℕ) → FormedTeam → Team
known_as p r f = record { team = f.team.0; parent = p; round = r; number = f.number; members = map (λ i. i.0) f.members }

abbrev team_of : ℕ → List Team → Option Team
team_of me [] = None
team_of me (k ∷ ks) = cond (is_in me k.members) (Some k) (team_of me ks)

abbrev with_own_team : a.Scope → ℕ → Option Team → Core → Core
with_own_team s x None c = c
with_own_team s x (Some k) c = with_cell s x (pos k.team) c

abbrev teams_noted : a.Scope → ℕ → List Team → Core → Core
teams_noted s x ks c = with_own_team s x (team_of c.me ks) (record c { known = ks ++ c.known; formed = [] })

team_values : (s : a.Scope) (x : ℕ) (o : Option Team) (c : Core) → (with_own_team s x o c).values ≡ c.values
team_values s x None c = refl
team_values s x (Some k) c = same_values s _ c

note_teams : (Q : Ask → Type 0) (s : a.Scope) (x : ℕ) (c : Core) → Exactly Q Whatever 0 c.values (team_effect (a.note_teams s x) c)
note_teams Q s x c = by_round c.round
  where
    by_round : (o : Option ℕ) → Exactly Q Whatever 0 c.values (given o (λ r. goes_to (teams_noted s x (map (known_as (current_team c) r) c.formed) c)))
    by_round None = tt
    by_round (Some r) = (let ks = map (known_as (current_team c) r) c.formed in (team_values s x (team_of c.me ks) (record c { known = ks ++ c.known; formed = [] }), tt))

left_values : (c : Core) (r : Reply) → Stand 1 c.values (leave_reply c r).values
left_values c (replies.Left s teams) = refl
left_values c r = refl

leaves : (v : ℤ) (vs : List ℤ) (c : Core) → Exactly Plain Whatever 1 vs (ask_effect a.leave (with_values c (v ∷ vs)))
leaves v vs c = by_round c.round
  where
    by_round : (o : Option ℕ) → Exactly Plain Whatever 1 vs (given o (λ r. asking (asks.Leave (record { 0 = word v }) r) (leave_reply (with_values c vs))))
    by_round None = tt
    by_round (Some n) = (refl, λ r. (left_values (with_values c vs) r, tt))

no_number : (xs : List ℤ) → length xs ≡ 0 → xs ≡ []
no_number [] e = refl
no_number (x ∷ xs) e = absurd (let f : suc (length xs) ≡ 0 = e in omega arith)

one_number : (xs : List ℤ) → length xs ≡ 1 → (v : ℤ) × (xs ≡ v ∷ [])
one_number [] e = absurd (let f : 0 ≡ 1 = e in omega arith)
one_number (x ∷ []) e = (x, refl)
one_number (x ∷ y ∷ xs) e = absurd (let f : suc (suc (length xs)) ≡ 1 = e in omega arith)

settle : (c : Core) (vs : List ℤ) (x : Act) (e : Acted) → Exactly (AsksBy x) (KeptBy x c) (left_of of_numbers x) vs e → Exactly (AsksBy x) (KeptBy x c) (left_of of_numbers x) vs (settled x e)
settle c vs x e h = settles (AsksBy x) (KeptBy x c) (left_of of_numbers x) vs x e h

-- ---- every act
pub exact_act : (x : Act) → IsExact x
exact_act (constant v) c xs vs h = subst (λ z. Stand 1 vs (v ∷ (z ++ vs)) × (kept_of c ≡ kept_of c)) (sym (no_number xs h)) (refl, refl)
exact_act (stack x) c xs vs h = settle c vs (stack x) (stack_effect x (with_values c (xs ++ vs))) (exact_stack x c xs vs h).exact
exact_act (variable x) c xs vs h = settle c vs (variable x) (variable_effect x (with_values c (xs ++ vs))) (exact_variable x c xs vs h).exact
exact_act (operator x) c xs vs h = settle c vs (operator x) (operator_effect x (with_values c (xs ++ vs))) (exact_operator x c xs vs h).exact
exact_act (bounded x) c xs vs h = settle c vs (bounded x) (bounds_effect x (with_values c (xs ++ vs))) (exact_bounds x c xs vs h).exact
exact_act (allocation (a.note_made k depth rank corank)) c xs vs h =
    let m = depth + bounds_size rank + cobounds_size corank in
    let d = with_values c (xs ++ vs) in
    settle c vs (allocation (a.note_made k depth rank corank)) (allocation_effect (a.note_made k depth rank corank) d) (note_made No k depth rank corank d m vs (stand_of m xs vs h))
exact_act (allocation (a.note_freed k)) c xs vs h =
    let d = with_values c (xs ++ vs) in
    settle c vs (allocation (a.note_freed k)) (allocation_effect (a.note_freed k) d) (note_freed No k (own_in c k) d 0 vs (stand_of 0 xs vs h))
exact_act (allocation a.begin_plan) c xs vs h = settle c vs (allocation a.begin_plan) (allocation_effect a.begin_plan (with_values c (xs ++ vs))) (exact_allocation a.begin_plan tt c xs vs h).exact
exact_act (allocation (a.plan_coarray k depth rank corank)) c xs vs h =
    settle c vs (allocation (a.plan_coarray k depth rank corank)) (allocation_effect (a.plan_coarray k depth rank corank) (with_values c (xs ++ vs))) (exact_allocation (a.plan_coarray k depth rank corank) tt c xs vs h).exact
exact_act (allocation (a.plan_local s x depth rank)) c xs vs h =
    settle c vs (allocation (a.plan_local s x depth rank)) (allocation_effect (a.plan_local s x depth rank) (with_values c (xs ++ vs))) (exact_allocation (a.plan_local s x depth rank) tt c xs vs h).exact
exact_act (allocation a.end_plan) c xs vs h = settle c vs (allocation a.end_plan) (allocation_effect a.end_plan (with_values c (xs ++ vs))) (exact_allocation a.end_plan tt c xs vs h).exact
exact_act (allocation (a.make s x depth rank)) c xs vs h =
    settle c vs (allocation (a.make s x depth rank)) (allocation_effect (a.make s x depth rank) (with_values c (xs ++ vs))) (exact_allocation (a.make s x depth rank) tt c xs vs h).exact
exact_act (allocation (a.free s x)) c xs vs h = settle c vs (allocation (a.free s x)) (allocation_effect (a.free s x) (with_values c (xs ++ vs))) (exact_allocation (a.free s x) tt c xs vs h).exact
exact_act (allocation (a.lay_out x rank)) c xs vs h = settle c vs (allocation (a.lay_out x rank)) (allocation_effect (a.lay_out x rank) (with_values c (xs ++ vs))) (exact_allocation (a.lay_out x rank) tt c xs vs h).exact
exact_act (selector x) c xs vs h = settle c vs (selector x) (selector_effect x (with_values c (xs ++ vs))) (exact_selector x c xs vs h).exact
exact_act (team (a.note_teams s x)) c xs vs h =
    let d = with_values c (xs ++ vs) in
    settle c vs (team (a.note_teams s x)) (team_effect (a.note_teams s x) d) (subst (λ z. Exactly No Whatever 0 z (team_effect (a.note_teams s x) d)) (ap (λ z. z ++ vs) (no_number xs h)) (note_teams No s x d))
exact_act (team a.child_team) c xs vs h = settle c vs (team a.child_team) (team_effect a.child_team (with_values c (xs ++ vs))) (exact_team a.child_team tt c xs vs h).exact
exact_act (team a.near_team) c xs vs h = settle c vs (team a.near_team) (team_effect a.near_team (with_values c (xs ++ vs))) (exact_team a.near_team tt c xs vs h).exact
exact_act (team a.make_current) c xs vs h = settle c vs (team a.make_current) (team_effect a.make_current (with_values c (xs ++ vs))) (exact_team a.make_current tt c xs vs h).exact
exact_act (team a.leave_team) c xs vs h = settle c vs (team a.leave_team) (team_effect a.leave_team (with_values c (xs ++ vs))) (exact_team a.leave_team tt c xs vs h).exact
exact_act (call x) c xs vs h = settle c vs (call x) (call_effect x (with_values c (xs ++ vs))) (exact_call x c xs vs h).exact
exact_act (print x) c xs vs h = settle c vs (print x) (print_effect x (with_values c (xs ++ vs))) (exact_print x c xs vs h).exact
exact_act (ask a.leave) c xs vs h =
    let p = one_number xs h in
    settle c vs (ask a.leave) (ask_effect a.leave (with_values c (xs ++ vs))) (subst (λ z. Exactly Plain Whatever 1 vs (ask_effect a.leave (with_values c (z ++ vs)))) (sym p.1) (leaves p.0 vs c))
exact_act (ask (a.read j rank)) c xs vs h = settle c vs (ask (a.read j rank)) (ask_effect (a.read j rank) (with_values c (xs ++ vs))) (exact_ask (a.read j rank) tt c xs vs h).exact
exact_act (ask (a.write j rank kind)) c xs vs h = settle c vs (ask (a.write j rank kind)) (ask_effect (a.write j rank kind) (with_values c (xs ++ vs))) (exact_ask (a.write j rank kind) tt c xs vs h).exact
exact_act (ask (a.write_array j rank kind)) c xs vs h = settle c vs (ask (a.write_array j rank kind)) (ask_effect (a.write_array j rank kind) (with_values c (xs ++ vs))) (exact_ask (a.write_array j rank kind) tt c xs vs h).exact
exact_act (ask (a.create j depth rank)) c xs vs h = settle c vs (ask (a.create j depth rank)) (ask_effect (a.create j depth rank) (with_values c (xs ++ vs))) (exact_ask (a.create j depth rank) tt c xs vs h).exact
exact_act (ask (a.delete j)) c xs vs h = settle c vs (ask (a.delete j)) (ask_effect (a.delete j) (with_values c (xs ++ vs))) (exact_ask (a.delete j) tt c xs vs h).exact
exact_act (ask (a.atomic op j kind)) c xs vs h = settle c vs (ask (a.atomic op j kind)) (ask_effect (a.atomic op j kind) (with_values c (xs ++ vs))) (exact_ask (a.atomic op j kind) tt c xs vs h).exact
exact_act (ask (a.lock j)) c xs vs h = settle c vs (ask (a.lock j)) (ask_effect (a.lock j) (with_values c (xs ++ vs))) (exact_ask (a.lock j) tt c xs vs h).exact
exact_act (ask (a.try_lock j)) c xs vs h = settle c vs (ask (a.try_lock j)) (ask_effect (a.try_lock j) (with_values c (xs ++ vs))) (exact_ask (a.try_lock j) tt c xs vs h).exact
exact_act (ask (a.unlock j)) c xs vs h = settle c vs (ask (a.unlock j)) (ask_effect (a.unlock j) (with_values c (xs ++ vs))) (exact_ask (a.unlock j) tt c xs vs h).exact
exact_act (ask (a.post j)) c xs vs h = settle c vs (ask (a.post j)) (ask_effect (a.post j) (with_values c (xs ++ vs))) (exact_ask (a.post j) tt c xs vs h).exact
exact_act (ask (a.wait j)) c xs vs h = settle c vs (ask (a.wait j)) (ask_effect (a.wait j) (with_values c (xs ++ vs))) (exact_ask (a.wait j) tt c xs vs h).exact
exact_act (ask (a.query j)) c xs vs h = settle c vs (ask (a.query j)) (ask_effect (a.query j) (with_values c (xs ++ vs))) (exact_ask (a.query j) tt c xs vs h).exact
exact_act (ask a.arrive_sync) c xs vs h = settle c vs (ask a.arrive_sync) (ask_effect a.arrive_sync (with_values c (xs ++ vs))) (exact_ask a.arrive_sync tt c xs vs h).exact
exact_act (ask a.arrive_form) c xs vs h = settle c vs (ask a.arrive_form) (ask_effect a.arrive_form (with_values c (xs ++ vs))) (exact_ask a.arrive_form tt c xs vs h).exact
exact_act (ask a.arrive_change) c xs vs h = settle c vs (ask a.arrive_change) (ask_effect a.arrive_change (with_values c (xs ++ vs))) (exact_ask a.arrive_change tt c xs vs h).exact
exact_act (ask a.arrive_end) c xs vs h = settle c vs (ask a.arrive_end) (ask_effect a.arrive_end (with_values c (xs ++ vs))) (exact_ask a.arrive_end tt c xs vs h).exact
exact_act (ask (a.arrive_allocate n)) c xs vs h = settle c vs (ask (a.arrive_allocate n)) (ask_effect (a.arrive_allocate n) (with_values c (xs ++ vs))) (exact_ask (a.arrive_allocate n) tt c xs vs h).exact
exact_act (ask (a.arrive_deallocate n)) c xs vs h = settle c vs (ask (a.arrive_deallocate n)) (ask_effect (a.arrive_deallocate n) (with_values c (xs ++ vs))) (exact_ask (a.arrive_deallocate n) tt c xs vs h).exact
exact_act (ask (a.gather op kind)) c xs vs h = settle c vs (ask (a.gather op kind)) (ask_effect (a.gather op kind) (with_values c (xs ++ vs))) (exact_ask (a.gather op kind) tt c xs vs h).exact
exact_act (ask a.take) c xs vs h = settle c vs (ask a.take) (ask_effect a.take (with_values c (xs ++ vs))) (exact_ask a.take tt c xs vs h).exact
exact_act (ask a.pair) c xs vs h = settle c vs (ask a.pair) (ask_effect a.pair (with_values c (xs ++ vs))) (exact_ask a.pair tt c xs vs h).exact
exact_act (ask a.unpair) c xs vs h = settle c vs (ask a.unpair) (ask_effect a.unpair (with_values c (xs ++ vs))) (exact_ask a.unpair tt c xs vs h).exact
exact_act (ask (a.enter_critical n)) c xs vs h = settle c vs (ask (a.enter_critical n)) (ask_effect (a.enter_critical n) (with_values c (xs ++ vs))) (exact_ask (a.enter_critical n) tt c xs vs h).exact
exact_act (ask (a.exit_critical n)) c xs vs h = settle c vs (ask (a.exit_critical n)) (ask_effect (a.exit_critical n) (with_values c (xs ++ vs))) (exact_ask (a.exit_critical n) tt c xs vs h).exact
exact_act (ask a.failed) c xs vs h = settle c vs (ask a.failed) (ask_effect a.failed (with_values c (xs ++ vs))) (exact_ask a.failed tt c xs vs h).exact
exact_act (ask a.stopped) c xs vs h = settle c vs (ask a.stopped) (ask_effect a.stopped (with_values c (xs ++ vs))) (exact_ask a.stopped tt c xs vs h).exact
exact_act (ask a.status) c xs vs h = settle c vs (ask a.status) (ask_effect a.status (with_values c (xs ++ vs))) (exact_ask a.status tt c xs vs h).exact
exact_act (ask a.say) c xs vs h = settle c vs (ask a.say) (ask_effect a.say (with_values c (xs ++ vs))) (exact_ask a.say tt c xs vs h).exact
exact_act (ask a.memory) c xs vs h = settle c vs (ask a.memory) (ask_effect a.memory (with_values c (xs ++ vs))) (exact_ask a.memory tt c xs vs h).exact
exact_act (ask a.fail) c xs vs h = settle c vs (ask a.fail) (ask_effect a.fail (with_values c (xs ++ vs))) (exact_ask a.fail tt c xs vs h).exact
exact_act (ask a.stop) c xs vs h = settle c vs (ask a.stop) (ask_effect a.stop (with_values c (xs ++ vs))) (exact_ask a.stop tt c xs vs h).exact
exact_act (ask a.error_stop) c xs vs h = settle c vs (ask a.error_stop) (ask_effect a.error_stop (with_values c (xs ++ vs))) (exact_ask a.error_stop tt c xs vs h).exact
exact_act (ask a.end_program) c xs vs h = settle c vs (ask a.end_program) (ask_effect a.end_program (with_values c (xs ++ vs))) (exact_ask a.end_program tt c xs vs h).exact
