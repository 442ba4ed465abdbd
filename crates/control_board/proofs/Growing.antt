-- Room for a step, and its plan.
use Rattle.std.proofs.Common.{◌≡◌, ℕ, suc, ◌<◌, ◌≤◌, true, false, List, [], ◌∷◌, ◌++◌, length, ap, sym, ◌∙◌, subst, arith, length-append}
use Rattle.std.specs.Prelude.{Result, Ok, Err, OnOk, IfOk, Option, Some, None}
use Rattle.std.specs.Global.{Vec}
use Rattle.std.proofs.lemmas.List.{length-map}
use Rattle.caf_base.specs.declared.place.ImageNo.{ImageNo}
use Rattle.caf_base.specs.declared.place.TeamNo.{TeamNo}
use Rattle.caf_events.specs.declared.ask.Ask.TheVariants as asks
use Rattle.caf_events.specs.declared.round.Arriving.{Arriving}
use Rattle.caf_events.specs.declared.round.Arriving.TheVariants as arrivings
use Rattle.caf_events.specs.declared.event.Entry.{Entry}
use Rattle.object_rules.specs.Happenings.{control, happened}
use Rattle.object_rules.specs.TeamRounds.{arrivals}
use Rattle.object_rules.specs.BoardTeams.{Team, made_by, teams_from, teams_after, members_at}
use Rattle.team_tree.specs.KnownTeams.{images_from}
use Rattle.team_tree.specs.declared.arg.FormArg.{FormArg as GivenArg}
use Rattle.control_board.specs.declared.forming.Formation.{Formation}
use Rattle.control_board.specs.declared.forming.Plan.{Plan}
use Rattle.control_board.specs.declared.parts.Parts.{Parts}
use Rattle.control_board.specs.Boards.{IsBoard, MakesFor, MakesNoTeam, IsPlanAt, Planned, given_at, PlanFits, IsStocked, TeamsRoom, AllFew, all_made, made_by_one, bad_of, bad_now, due}
use Rattle.control_board.proofs.Members.{rounds_count}
use Rattle.control_board.proofs.Plans.{is_given, not_form, makes_none}

-- ---- what holds of a success
pub on_two : {T E : Type 0} {P Q R : Type 0} (r : Result T E) → (P → Q → R) → OnOk r P → OnOk r Q → OnOk r R
on_two (Ok x) f p q = f p q
on_two (Err e) f p q = tt

pub on_any : {T E : Type 0} {P : Type 0} (r : Result T E) → P → OnOk r P
on_any (Ok x) p = p
on_any (Err e) p = tt

pub if_two : {T E : Type 0} {P Q R : T → Type 0} (r : Result T E) → ((x : T) → P x → Q x → R x) → IfOk r P → IfOk r Q → IfOk r R
if_two (Ok x) f p q = f x p q
if_two (Err e) f p q = tt

-- ---- the plan of an arrival
pub planned_arrival : (n : ℕ) (h : List Entry) (i : ImageNo) (team : TeamNo) (arriving : Arriving) (o : Option Formation) (plan : Plan) → MakesFor n h i team arriving o → all_made plan.formations.items ≡ made_by_one o → plan.bad ≡ bad_of o → Planned n h plan i (asks.Arrive team arriving)
planned_arrival n h i team arriving o plan m made bad = record {
  made = λ stamp line. m.made stamp line ∙ sym made;
  bad = λ t a stamp line e. (
      let w : team ≡ t = cc in
      bad ∙ m.bad stamp line ∙ ap (λ (u : TeamNo). bad_now u.0 (suc (arrivals u.0 i.0 (happened control h))) (members_at (teams_after n h) u.0) h (due n h i (asks.Arrive team arriving) stamp line)) w);
}

-- what is planned of an arrival at FORM TEAM is planned of the arrival with which it was given
pub plan_given : {E : Type 0} (r : Result Unit E) (p : Parts) (plan : Plan) (i : ImageNo) (team : TeamNo) (arriving : Arriving) (a : GivenArg) → given_at i arriving ≡ Some a
    → OnOk r (IsPlanAt p a.image team (arrivings.Form a.number a.new_index) plan) → OnOk r (IsPlanAt p i team arriving plan)
plan_given r p plan i team arriving a e planned =
    let g = is_given i arriving a e in
    subst (λ (b : Arriving). OnOk r (IsPlanAt p i team b plan)) (sym g.0) (subst (λ (j : ImageNo). OnOk r (IsPlanAt p j team (arrivings.Form a.number a.new_index) plan)) g.1 planned)

-- no arrival at another statement makes a team
pub plan_none : (p : Parts) (plan : Plan) (i : ImageNo) (team : TeamNo) (arriving : Arriving) → given_at i arriving ≡ None → 0 < team.0 → team.0 ≤ length p.teams.teams → MakesNoTeam plan → IsPlanAt p i team arriving plan
plan_none p plan i team arriving e low high none n h b ready =
    planned_arrival n h i team arriving None plan (makes_none n h p b i team arriving (not_form i arriving e) low high) (ap all_made none.formations) none.bad

-- ---- the teams of a plan fit
pub stock_count : (n : ℕ) (plan : Plan) → IsStocked n plan → length plan.control.items ≡ length (all_made plan.formations.items)
stock_count n plan s = sym (length-map plan.control.items (λ (v : Vec ImageNo). v.items)) ∙ ap length s.control ∙ length-map (all_made plan.formations.items) (λ (x : Team). images_from x.members)

pub plan_fits : (n : ℕ) (q : Parts) (plan : Plan) → q.plan ≡ plan → q.images ≡ n → IsStocked n plan → AllFew plan.formations.items → TeamsRoom q (length plan.control.items) → PlanFits q q.plan
plan_fits n q plan same images stock few room = subst (PlanFits q) (sym same) (record {
  stock = subst (λ k. IsStocked k plan) (sym images) stock;
  few = few;
  room = subst (TeamsRoom q) (stock_count n plan stock) room;
})

-- ---- team 1 is there
from_there : (ts : List Team) (before es : List Entry) → 0 < length ts → 0 < length (teams_from ts before es)
from_there ts before [] l = l
from_there ts before (e ∷ es) l = from_there (ts ++ made_by 1 ts before e) (before ++ e ∷ []) es (let a = length-append ts (made_by 1 ts before e) in omega arith)

pub first_there : (n : ℕ) (h : List Entry) (p : Parts) → IsBoard n h p → (0 < 1) × (1 ≤ length p.control.teams) × (1 ≤ length p.collective.teams)
first_there n h p b =
    let t : 0 < length (teams_after n h) = from_there _ [] h (omega arith) in
    let c = rounds_count n h p b false in
    let d = rounds_count n h p b true in
    let low : 0 < 1 = omega arith in
    let first : 1 ≤ length p.control.teams = omega arith in
    let second : 1 ≤ length p.collective.teams = omega arith in
    (low, first, second)
