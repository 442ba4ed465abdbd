-- The state of the control board, and what it tells of the history.
use Rattle.std.specs.Prelude.{ℕ, suc, ℤ, pos, nat_eq, replicate, vec_len, vec_capacity, All, cond, filter_map, slice_index_or, slice_set, Option, None, ◌+◌, ◌-◌, ◌<◌, ◌≤◌, ◌^◌, ◌≡◌, Bool, IsTrue, true, false, ◌&&◌, not, nat_le, List, [], ◌∷◌, ◌++◌, length, map, slice_get, Some, is_some}
use Rattle.std.specs.List.{list_any, list_all}
use Rattle.std.specs.Global.{Vec}
use Rattle.caf_base.specs.declared.place.ImageNo.{ImageNo}
use Rattle.caf_base.specs.declared.value.Value.{Value}
use Rattle.caf_base.specs.declared.value.Kind.{Kind}
use Rattle.caf_base.specs.declared.place.TeamNo.{TeamNo}
use Rattle.caf_events.specs.declared.round.Arriving.{Arriving}
use Rattle.caf_events.specs.declared.round.Arriving.TheVariants as arrivings
use Rattle.caf_events.specs.declared.round.GatherOp.{GatherOp}
use Rattle.caf_events.specs.declared.round.RoundKind.{RoundKind}
use Rattle.caf_events.specs.declared.round.RoundKind.TheVariants as kinds
use Rattle.caf_events.specs.Histories.{last_stamp_of}
use Rattle.caf_events.specs.declared.ask.Ask.{Ask}
use Rattle.caf_events.specs.declared.ask.Ask.TheVariants as asks
use Rattle.caf_events.specs.declared.reply.Reply.{Reply}
use Rattle.caf_events.specs.declared.reply.Reply.TheVariants as replies
use Rattle.caf_events.specs.declared.event.Entry.{Entry}
use Rattle.object_rules.specs.Happenings.{Happening, arrives, Class, control, collective, images, happens, happened, numbers_of, has_stopped, has_failed}
use Rattle.object_rules.specs.TeamRounds.{Opening, Missed, opening_of, arrivals, missed_by}
use Rattle.object_rules.specs.FormedTeams.{FormArg, Members, is_bad_form, formed}
use Rattle.object_rules.specs.ImagePairs.{names, pairs_of, at_pairing}
use Rattle.object_rules.specs.Constructs.{construct_after}
use Rattle.object_rules.specs.BoardTeams.{Team, arrives_there, nth_arrival, round_of, form_arg, form_args, is_form, teams_made, closes_now, made_in_team, made_by, teams_after, members_at, closing}
use Rattle.object_rules.specs.BoardRules as rules
use Rattle.object_rules.specs.BoardRules.{is_image, gathered, has_joined, all_differ, is_open, enter_status, board_ready, board_reply, indices_from, image_status}
use Rattle.failure_status.specs.Endings.{AreWithin, Ended, end_of}
use Rattle.team_round.specs.declared.round.Arrival.{Arrival}
use Rattle.team_round.specs.declared.round.Arrival.TheVariants as arrived
use Rattle.team_round.specs.TeamStates.{TeamState, RoundsState, fresh_team, images_to, missed_status, members_in, TellsAll, IsWith}
use Rattle.image_sync.specs.Holds.{hold_in, HasRoomFor}
use Rattle.image_sync.specs.PairStates.{TellsSyncs}
use Rattle.team_tree.specs.declared.arg.FormArg.{FormArg as GivenArg}
use Rattle.team_tree.specs.declared.arg.Members.{Members as MadeMembers}
use Rattle.team_tree.specs.Args.{plain_arg, plain_teams}
use Rattle.team_tree.specs.Orders.{given_by}
use Rattle.team_tree.specs.KnownTeams.{team_of, images_from, all_known, AreFew}
use Rattle.control_board.specs.Values.{BroughtState, no_values}
use Rattle.control_board.specs.declared.forming.Given.{Given}
use Rattle.control_board.specs.declared.forming.BadRound.{BadRound}
use Rattle.control_board.specs.declared.forming.Formation.{Formation}
use Rattle.control_board.specs.declared.forming.Plan.{Plan}
use Rattle.control_board.specs.declared.parts.Parts.{Parts}

-- the rounds of collective subroutines, or those of image control statements
abbrev pub class_of : Bool → Class
class_of true = collective
class_of false = control

abbrev pub rounds_in : Parts → Bool → RoundsState
rounds_in p true = p.collective
rounds_in p false = p.control

-- what an image has brought to the collective subroutines of a team, the first one first
abbrev pub brings : ℕ → ℕ → Entry → Option (List Value)
brings t i e = cond (arrives_there t i (happens collective e.image.0 e.event.line e.event.ask e.event.reply)) (gathered e.event.ask) None

abbrev pub brought : ℕ → ℕ → List Entry → List (List Value)
brought t i h = filter_map (brings t i) h

-- what the images are kept to have brought, that of image 1 first
abbrev pub values_in : List BroughtState → List (List (List Value))
values_in bs = map (λ b. b.values) bs

abbrev pub values_of : List BroughtState → ℕ → List (List Value)
values_of bs i = slice_index_or (values_in bs) (i - 1) []

-- what is kept for a team
abbrev pub table_of : List (List BroughtState) → ℕ → List BroughtState
table_of ts t = slice_index_or ts (t - 1) []

-- after an arrival that joined its round the values of the image are kept behind the others, and after one that clashed
-- nothing is
abbrev pub IsKeptWith : List BroughtState → List BroughtState → ℕ → List Value → Arrival → Type 0
IsKeptWith bs cs i vs (arrived.Joined r) = values_in cs ≡ slice_set (values_in bs) (i - 1) (values_of bs i ++ vs ∷ [])
IsKeptWith bs cs i vs (arrived.Clash j l) = cs ≡ bs

-- the same of the table of a team: the others stay
abbrev pub IsKeptIn : List (List BroughtState) → List (List BroughtState) → ℕ → ℕ → List Value → Arrival → Type 0
IsKeptIn ts us t i vs a = map values_in us ≡ slice_set (map values_in ts) (t - 1) (values_in (table_of us t)) × IsKeptWith (table_of ts t) (table_of us t) i vs a

-- there is room for what the image brings to one more call
abbrev pub HasRoomIn : List (List BroughtState) → ℕ → ℕ → Type 0
HasRoomIn ts t i = (x : BroughtState) → slice_get (table_of ts t) (i - 1) ≡ Some x → 0 < x.room

-- ---- FORM TEAM (ISO/IEC 1539-1:2018, 11.6.9)
-- what images gave in a round of a team, in the order of their arrivals
abbrev pub args_in : List Given → ℕ → ℕ → List GivenArg
args_in [] t r = []
args_in (g ∷ gs) t r = cond (nat_eq g.team.0 t && nat_eq g.round r) (g.arg ∷ []) [] ++ args_in gs t r

abbrev pub plain_given : Option GivenArg → Option FormArg
plain_given None = None
plain_given (Some a) = Some (plain_arg a)

-- what an arrival gives
abbrev pub arg_of : Option Entry → Option FormArg
arg_of None = None
arg_of (Some e) = form_arg e.image.0 e.event.ask

-- what these members gave, in their order
abbrev pub args_of : List GivenArg → List ℕ → List FormArg
args_of as_ ms = filter_map (λ m. plain_given (given_by as_ m)) ms

-- what an image gives where it arrives at FORM TEAM
abbrev pub given_at : ImageNo → Arriving → Option GivenArg
given_at i (arrivings.Form number new_index) = Some (record { image = i; number = number; new_index = new_index })
given_at i arriving = None

-- what is kept after an arrival: what it gave, where it joined a round
abbrev pub given_with : List Given → TeamNo → Option GivenArg → Arrival → List Given
given_with gs t (Some a) (arrived.Joined r) = gs ++ record { team = t; round = r; arg = a } ∷ []
given_with gs t o a = gs

-- a round of FORM TEAM that closed with a bad argument: no member had ended, and no team was made
abbrev pub is_bad_round : ℕ → ℕ → List ℕ → List Entry → Bool
is_bad_round t r ms f =
    is_form (opening_of t r (happened control f)) && (not (missed_by ms (happened control f)).stopped && (not (missed_by ms (happened control f)).failed && is_bad_form (form_args (round_of control t r ms f))))

abbrev pub was_bad : ℕ → ℕ → List ℕ → Option (List Entry) → Bool
was_bad t r ms None = false
was_bad t r ms (Some f) = is_bad_round t r ms f

-- it closes with this entry
abbrev pub bad_now : ℕ → ℕ → List ℕ → List Entry → Entry → Bool
bad_now t r ms h e = closes_now t ms (happened control h) (happened control (h ++ e ∷ [])) r && is_bad_round t r ms (h ++ e ∷ [])

abbrev pub is_listed : List BadRound → ℕ → ℕ → Bool
is_listed bs t r = list_any (λ b. nat_eq b.team.0 t && nat_eq b.round r) bs

-- what is kept after an arrival: its round, where that closed with a bad argument
abbrev pub listed_with : List BadRound → TeamNo → Arrival → Bool → List BadRound
listed_with bs t (arrived.Joined r) true = bs ++ record { team = t; round = r } ∷ []
listed_with bs t a bad = bs

-- a team that a round of its parent makes
abbrev pub team_with : ℕ → ℕ → Members → Team
team_with t r x = record { parent = t; round = r; number = x.number; members = x.images }

-- the teams that a round makes, and those of several
abbrev pub made_of : Formation → List Team
made_of f = map (team_with f.plan.parent.0 f.round) (plain_teams f.plan.teams.items)

abbrev pub all_made : List Formation → List Team
all_made [] = []
all_made (f ∷ fs) = made_of f ++ all_made fs

abbrev pub made_by_one : Option Formation → List Team
made_by_one None = []
made_by_one (Some f) = made_of f

abbrev pub bad_of : Option Formation → Bool
bad_of None = false
bad_of (Some f) = f.plan.bad

abbrev pub is_few : Option Formation → Type 0
is_few None = Unit {0}
is_few (Some f) = AreFew f.plan.teams.items

abbrev pub AllFew : List Formation → Type 0
AllFew fs = (k : ℕ) (f : Formation) → slice_get fs k ≡ Some f → AreFew f.plan.teams.items

-- the members of teams, as images
abbrev pub images_of_teams : List Team → List (List ImageNo)
images_of_teams ts = map (λ (x : Team). images_from x.members) ts

-- lists of images with those of teams behind them
abbrev pub IsCopied : List (Vec ImageNo) → List MadeMembers → List (Vec ImageNo) → Type 0
IsCopied before teams after = map (λ (v : Vec ImageNo). v.items) after ≡ map (λ (v : Vec ImageNo). v.items) before ++ map (λ (m : MadeMembers). m.images.items) teams

-- all members are images of the run
abbrev pub are_images : ℕ → List Team → Bool
are_images n ts = list_all (λ (x : Team). list_all (is_image n) x.members) ts

-- the teams that a round of a team makes where it closes with the entry e, by its status
abbrev pub made_at : ℕ → ℕ → List ℕ → List Entry → Entry → List Team
made_at t r ms h e = cond (closes_now t ms (happened control h) (happened control (h ++ e ∷ [])) r) (teams_made t r ms (h ++ e ∷ [])) []

-- the same of several rounds
abbrev pub made_over : ℕ → List ℕ → List Entry → Entry → List ℕ → List Team
made_over t ms h e [] = []
made_over t ms h e (r ∷ rs) = made_at t r ms h e ++ made_over t ms h e rs

-- what the board keeps goes with its history, in a run of n images
pub record IsBoard (n : ℕ) (h : List Entry) (p : Parts) : Type 0 where
  pub run : p.images ≡ n
  pub runs : (c : Bool) → (rounds_in p c).images ≡ n
  pub teams : p.teams.teams ≡ all_known (teams_after n h)
  pub few : length p.teams.teams < 2 ^ 32
  pub births : p.births.items ≡ map (λ (x : Team). x.round) (teams_after n h)
  pub members : (c : Bool) → members_in (rounds_in p c).teams ≡ map (λ (x : Team). images_from x.members) (teams_after n h)
  pub within : are_images n (teams_after n h) ≡ true
  pub rounds : (c : Bool) → TellsAll n (rounds_in p c) (happened (class_of c) h)
  pub joined : (c : Bool) (t i : ℕ) → 0 < arrivals t i (happened (class_of c) h) → names i (members_at (teams_after n h) t) ≡ true
  pub tables : length p.brought.items ≡ length (teams_after n h)
  pub bringers : (t : ℕ) → 0 < t → t ≤ length p.brought.items → length (table_of p.brought.items t) ≡ n
  pub values : (t i : ℕ) → 0 < t → t ≤ length p.brought.items → 0 < i → i ≤ n → values_of (table_of p.brought.items t) i ≡ brought t i h
  pub forms : (t r m : ℕ) → 0 < r → plain_given (given_by (args_in p.forms.items t r) m) ≡ arg_of (nth_arrival control t m r h)
  pub bad : (t r : ℕ) → 0 < r → is_listed p.bad.items t r ≡ was_bad t r (members_at (teams_after n h) t) (closing control t r (members_at (teams_after n h) t) h)
  pub syncs : TellsSyncs n p.pairs (happened images h)
  pub constructs : (c : ℕ) → hold_in p.criticals.constructs c ≡ construct_after c h
  pub steps : length h ≤ last_stamp_of h

-- the rounds of team 1 with all images, in which nobody has arrived
pub record IsFreshRounds (n : ℕ) (s : RoundsState) : Type 0 where
  pub images : s.images ≡ n
  pub teams : s.teams ≡ fresh_team n (images_to n) ∷ []
  pub told : TellsAll n s []

-- it goes with some history
pub record IsKept (p : Parts) : Type 0 where
  pub images : ℕ
  pub history : List Entry
  pub board : IsBoard images history p

-- it goes with some history of a run that has this image
pub record HasImage (p : Parts) (i : ℕ) : Type 0 where
  pub images : ℕ
  pub history : List Entry
  pub board : IsBoard images history p
  pub image : is_image images i ≡ true

-- whether an ask of an image of the run fits and can come
abbrev pub comes_by : ℕ → List Entry → ℕ → Ask → Bool
comes_by n h i (asks.Arrive team arriving) = rules.fits_board n h i (asks.Arrive team arriving)
comes_by n h i (asks.Leave team round) = has_joined control n h i team.0 round && is_some (closing control team.0 round (members_at (teams_after n h) team.0) h)
comes_by n h i (asks.Gather team op root kind values) = rules.fits_board n h i (asks.Gather team op root kind values)
comes_by n h i (asks.Take team round) = has_joined collective n h i team.0 round && is_some (closing collective team.0 round (members_at (teams_after n h) team.0) h)
comes_by n h i (asks.Pair named) = list_all (is_image n) (numbers_of named) && all_differ (numbers_of named)
comes_by n h i asks.Unpair = nat_le 1 (pairs_of i (happened images h)) && is_some (at_pairing i (pairs_of i (happened images h)) (happened images h))
comes_by n h i (asks.Enter construct) = is_open (construct_after construct h)
comes_by n h i (asks.Exit construct) = true
comes_by n h i asks.Gone = true
comes_by n h i (asks.Stop code) = true
comes_by n h i (asks.Failed team) = rules.fits_board n h i (asks.Failed team)
comes_by n h i (asks.Stopped team) = rules.fits_board n h i (asks.Stopped team)
comes_by n h i (asks.Status team index) = rules.fits_board n h i (asks.Status team index)
comes_by n h i ask = false

-- the reply to an ask that came
abbrev pub reply_by : ℕ → List Entry → ℕ → Ask → Reply
reply_by n h i (asks.Arrive team arriving) = board_reply n h i (asks.Arrive team arriving)
reply_by n h i (asks.Leave team round) = board_reply n h i (asks.Leave team round)
reply_by n h i (asks.Gather team op root kind values) = board_reply n h i (asks.Gather team op root kind values)
reply_by n h i (asks.Take team round) = board_reply n h i (asks.Take team round)
reply_by n h i asks.Unpair = board_reply n h i asks.Unpair
reply_by n h i (asks.Enter construct) = board_reply n h i (asks.Enter construct)
reply_by n h i (asks.Failed team) = board_reply n h i (asks.Failed team)
reply_by n h i (asks.Stopped team) = board_reply n h i (asks.Stopped team)
reply_by n h i (asks.Status team index) = board_reply n h i (asks.Status team index)
reply_by n h i ask = replies.Done

-- the parts have room for so many values that an image brings to a collective subroutine of a team
pub record GatherRoom (p : Parts) (i t count : ℕ) : Type 0 where
  pub rounds : (x : TeamState) → slice_get p.collective.teams (t - 1) ≡ Some x → 0 < x.room
  pub values : HasRoomIn p.brought.items t i
  pub few : count < 2 ^ 32

-- by the plan no team is made, and it keeps nothing for one
pub record MakesNoTeam (plan : Plan) : Type 0 where
  pub formations : plan.formations.items ≡ []
  pub bad : plan.bad ≡ false
  pub control : plan.control.items ≡ []
  pub collective : plan.collective.items ≡ []
  pub tables : plan.tables.items ≡ []

-- what is kept of each team of a plan is there
pub record IsStocked (n : ℕ) (plan : Plan) : Type 0 where
  pub control : map (λ v. v.items) plan.control.items ≡ images_of_teams (all_made plan.formations.items)
  pub collective : map (λ v. v.items) plan.collective.items ≡ images_of_teams (all_made plan.formations.items)
  pub tables : plan.tables.items ≡ replicate (length (all_made plan.formations.items)) (replicate n no_values)

-- the parts have room for so many teams
pub record TeamsRoom (p : Parts) (more : ℕ) : Type 0 where
  pub control : (more ≤ p.control.room) × (more ≤ p.control.spare)
  pub collective : (more ≤ p.collective.room) × (more ≤ p.collective.spare)
  pub teams : more ≤ p.teams.room
  pub births : vec_len p.births + more ≤ vec_capacity p.births
  pub tables : vec_len p.brought + more ≤ vec_capacity p.brought
  pub numbers : length p.teams.teams + more < 2 ^ 32

-- the teams of a plan fit into the parts
pub record PlanFits (p : Parts) (plan : Plan) : Type 0 where
  pub stock : IsStocked p.images plan
  pub few : AllFew plan.formations.items
  pub room : TeamsRoom p (length (all_made plan.formations.items))

-- the parts have room for an arrival at a team
pub record ArriveRoom (p : Parts) (t : ℕ) : Type 0 where
  pub rounds : (x : TeamState) → slice_get p.control.teams (t - 1) ≡ Some x → 0 < x.room
  pub forms : vec_len p.forms < vec_capacity p.forms
  pub bad : vec_len p.bad < vec_capacity p.bad
  pub plan : PlanFits p p.plan

-- the parts have room for the step of an ask of an image
abbrev pub PartsRoom : Parts → ℕ → Ask → Type 0
PartsRoom p i (asks.Arrive team arriving) = ArriveRoom p team.0
PartsRoom p i (asks.Gather team op root kind values) = GatherRoom p i team.0 (length values)
PartsRoom p i (asks.Enter construct) = HasRoomFor p.criticals construct
PartsRoom p i asks.Gone = PlanFits p p.plan
PartsRoom p i (asks.Stop code) = PlanFits p p.plan
PartsRoom p i ask = Unit {0}

-- the entry of an ask of an image, with the reply that is due
abbrev pub due : ℕ → List Entry → ImageNo → Ask → ℕ → ℕ → Entry
due n h i ask stamp line = record { image = i; event = record { ask = ask; reply = board_reply n h i.0 ask; stamp = stamp; line = line } }

-- the plan is that of an ask: it has the teams that its entry makes, and says whether the round of its arrival closes
-- with a bad argument
pub record Planned (n : ℕ) (h : List Entry) (plan : Plan) (i : ImageNo) (ask : Ask) : Type 0 where
  pub made : (stamp line : ℕ) → made_by 1 (teams_after n h) h (due n h i ask stamp line) ≡ all_made plan.formations.items
  pub bad : (team : TeamNo) (arriving : Arriving) (stamp line : ℕ) → ask ≡ asks.Arrive team arriving
      → plan.bad ≡ bad_now team.0 (suc (arrivals team.0 i.0 (happened control h))) (members_at (teams_after n h) team.0) h (due n h i ask stamp line)

abbrev pub IsPlanned : ℕ → List Entry → Plan → ImageNo → Ask → Type 0
IsPlanned n h plan i (asks.Arrive team arriving) = Planned n h plan i (asks.Arrive team arriving)
IsPlanned n h plan i asks.Gone = Planned n h plan i asks.Gone
IsPlanned n h plan i (asks.Stop code) = Planned n h plan i (asks.Stop code)
IsPlanned n h plan i ask = Unit {0}

-- what a round of FORM TEAM makes that closes with this status, by what its members gave
abbrev pub IsFormed : Parts → TeamNo → ℕ → ℤ → List GivenArg → Option Formation → Type 0
IsFormed p team round status args o = (n : ℕ) (h : List Entry) (m : Missed) → IsBoard n h p → status ≡ missed_status m
    → (made_by_one o ≡ map (team_with team.0 round) (formed m.stopped m.failed (args_of args (members_at (teams_after n h) team.0))))
    × (bad_of o ≡ (not m.stopped && (not m.failed && is_bad_form (args_of args (members_at (teams_after n h) team.0)))))

-- what is made where the image arrives at FORM TEAM and joins this round
abbrev pub IsJoined : Parts → TeamNo → ℕ → GivenArg → Option Formation → Type 0
IsJoined p team round arg o = (n : ℕ) (h : List Entry) (e : Entry) → IsBoard n h p → e.image ≡ arg.image → e.event.ask ≡ asks.Arrive team (arrivings.Form arg.number arg.new_index)
    → happens control e.image.0 e.event.line e.event.ask e.event.reply ≡ Some (arrives team.0 arg.image.0 kinds.Form e.event.line) → round ≡ arrivals team.0 arg.image.0 (happened control h) + 1
    → is_form (opening_of team.0 round (happened control (h ++ e ∷ []))) ≡ true
    → (made_by_one o ≡ made_at team.0 round (members_at (teams_after n h) team.0) h e) × (bad_of o ≡ bad_now team.0 round (members_at (teams_after n h) team.0) h e)

-- what an arrival makes
pub record MakesFor (n : ℕ) (h : List Entry) (i : ImageNo) (team : TeamNo) (arriving : Arriving) (o : Option Formation) : Type 0 where
  pub made : (stamp line : ℕ) → made_by 1 (teams_after n h) h (due n h i (asks.Arrive team arriving) stamp line) ≡ made_by_one o
  pub bad : (stamp line : ℕ) → bad_of o ≡ bad_now team.0 (suc (arrivals team.0 i.0 (happened control h))) (members_at (teams_after n h) team.0) h (due n h i (asks.Arrive team arriving) stamp line)

abbrev pub MakesAt : Parts → ImageNo → TeamNo → Arriving → Option Formation → Type 0
MakesAt p i team arriving o = (n : ℕ) (h : List Entry) → IsBoard n h p → IsTrue (board_ready n h i.0 (asks.Arrive team arriving)) → MakesFor n h i team arriving o

-- the plan is that of an arrival
abbrev pub IsPlanAt : Parts → ImageNo → TeamNo → Arriving → Plan → Type 0
IsPlanAt p i team arriving plan = (n : ℕ) (h : List Entry) → IsBoard n h p → IsTrue (board_ready n h i.0 (asks.Arrive team arriving)) → Planned n h plan i (asks.Arrive team arriving)

-- what the end of an image makes of a round, of a team, and of all
abbrev pub Ends : Entry → ℕ → Bool → Type 0
Ends e i failed = happens control e.image.0 e.event.line e.event.ask e.event.reply ≡ Some (end_of i failed)

abbrev pub EndsRound : Parts → TeamNo → ℕ → ImageNo → Bool → Option Formation → Type 0
EndsRound p team round i failed o = (n : ℕ) (h : List Entry) (e : Entry) → IsBoard n h p → Ends e i.0 failed → made_by_one o ≡ made_at team.0 round (members_at (teams_after n h) team.0) h e

abbrev pub EndsTeam : Parts → TeamNo → ImageNo → Bool → List Formation → List Formation → Type 0
EndsTeam p team i failed before after = (n : ℕ) (h : List Entry) (e : Entry) → IsBoard n h p → Ends e i.0 failed → all_made after ≡ all_made before ++ made_in_team team.0 (members_at (teams_after n h) team.0) h e

abbrev pub EndsAll : Parts → ImageNo → Bool → List Formation → Type 0
EndsAll p i failed fs = (n : ℕ) (h : List Entry) (e : Entry) → IsBoard n h p → Ends e i.0 failed → made_by 1 (teams_after n h) h e ≡ all_made fs

-- an ask by which an image fails or stops
abbrev pub is_end_ask : Bool → Ask → Bool
is_end_ask true asks.Gone = true
is_end_ask false (asks.Stop code) = true
is_end_ask failed ask = false

-- room was made in the parts: all else stays
pub record HasGrown (p q : Parts) : Type 0 where
  pub images : q.images ≡ p.images
  pub teams : q.teams.teams ≡ p.teams.teams
  pub births : q.births.items ≡ p.births.items
  pub runs : (c : Bool) → (rounds_in q c).images ≡ (rounds_in p c).images
  pub members : (c : Bool) → members_in (rounds_in q c).teams ≡ members_in (rounds_in p c).teams
  pub rounds : (c : Bool) (n : ℕ) (hs : List Happening) → TellsAll n (rounds_in p c) hs → TellsAll n (rounds_in q c) hs
  pub tables : map values_in q.brought.items ≡ map values_in p.brought.items
  pub forms : q.forms.items ≡ p.forms.items
  pub bad : q.bad.items ≡ p.bad.items
  pub pairs : q.pairs ≡ p.pairs
  pub criticals : q.criticals.constructs ≡ p.criticals.constructs

-- the parts with the teams of a plan
pub record IsEnacted (p : Parts) (plan : Plan) (q : Parts) : Type 0 where
  pub images : q.images ≡ p.images
  pub teams : q.teams.teams ≡ p.teams.teams ++ all_known (all_made plan.formations.items)
  pub births : q.births.items ≡ p.births.items ++ map (λ (x : Team). x.round) (all_made plan.formations.items)
  pub control : IsWith p.control plan.control.items q.control
  pub collective : IsWith p.collective plan.collective.items q.collective
  pub tables : q.brought.items ≡ p.brought.items ++ plan.tables.items
  pub forms : q.forms ≡ p.forms
  pub bad : q.bad ≡ p.bad
  pub pairs : q.pairs ≡ p.pairs
  pub criticals : q.criticals ≡ p.criticals

-- the rounds are those of a class of parts that go with some history
pub record AreRounds (s : RoundsState) (c : Bool) (p : Parts) : Type 0 where
  pub images : ℕ
  pub history : List Entry
  pub board : IsBoard images history p
  pub same : s ≡ rounds_in p c

-- an ask that came, and its reply is to be made or the step to be done: after a history with which the parts go
pub record Comes (p : Parts) (i : ℕ) (ask : Ask) : Type 0 where
  pub images : ℕ
  pub history : List Entry
  pub board : IsBoard images history p
  pub ready : IsTrue (board_ready images history i ask)
  pub few : length history + 1 < 2 ^ 64
  pub room : PartsRoom p i ask

-- what an image is told of an arrival
abbrev pub reply_to : Arrival → Reply
reply_to (arrived.Joined round) = replies.Round round
reply_to (arrived.Clash image line) = replies.Clash image line

-- what an image brought to its call of this number, from 1
abbrev pub value_at : List BroughtState → ℕ → ℕ → List Value
value_at bs call i = slice_index_or (values_of bs i) (call - 1) []

-- each of these images has brought values to its call of this number
abbrev pub AreThere : List BroughtState → ℕ → List ImageNo → Type 0
AreThere bs call ms = All (λ m. call ≤ length (values_of bs m.0)) ms

-- all members of the team have come to this round of collective subroutines
pub record AllCame (p : Parts) (t round : ℕ) : Type 0 where
  pub low : 0 < t
  pub high : t ≤ length p.teams.teams
  pub rounds : t ≤ length p.collective.teams
  pub table : t ≤ length p.brought.items
  pub first : 0 < round
  pub images : AreWithin (length (table_of p.brought.items t)) (team_of p.teams.teams t).members
  pub there : AreThere (table_of p.brought.items t) round (team_of p.teams.teams t).members

-- the values of a round by its first arrival, and the reply with them
abbrev pub collected_of : Option Opening → List (List Value) → Option (List Value)
collected_of None parts = Some []
collected_of (Some o) parts = rules.collected o.kind parts

abbrev pub taken_of : Option (List Value) → Reply
taken_of None = replies.Taken (pos 6006) []
taken_of (Some vs) = replies.Taken (pos 0) vs

-- the marks of those that failed, or of those that stopped
abbrev pub marks_of : Ended → Bool → List Bool
marks_of s true = s.failed
marks_of s false = s.stopped

abbrev pub ended_as : Bool → ℕ → List Happening → Bool
ended_as true i hs = has_failed i hs
ended_as false i hs = has_stopped i hs

-- the team is one of those that the parts keep
pub record KeepsTeam (p : Parts) (t : ℕ) : Type 0 where
  pub kept : IsKept p
  pub low : 0 < t
  pub high : t ≤ length p.teams.teams

-- an ask that came, for which room is to be made
pub record Asked (p : Parts) (i : ℕ) (ask : Ask) : Type 0 where
  pub images : ℕ
  pub history : List Entry
  pub board : IsBoard images history p
  pub ready : IsTrue (board_ready images history i ask)
  pub few : length history + 1 < 2 ^ 64

-- an image of the run ends, after a history that can have an entry more
pub record CanEndNow (p : Parts) (i : ℕ) : Type 0 where
  pub images : ℕ
  pub history : List Entry
  pub board : IsBoard images history p
  pub image : is_image images i ≡ true
  pub few : length history + 1 < 2 ^ 64

-- an image of the run comes to a collective subroutine of a team of which it is a member
pub record Gathers (p : Parts) (i t : ℕ) : Type 0 where
  pub images : ℕ
  pub history : List Entry
  pub board : IsBoard images history p
  pub image : is_image images i ≡ true
  pub member : names i (members_at (teams_after images history) t) ≡ true
  pub few : length history + 1 < 2 ^ 64

-- the step can be made: the ask came, its number of rounds has a number left, and there is room
pub record CanStep (p : Parts) (i : ℕ) (ask : Ask) : Type 0 where
  pub images : ℕ
  pub history : List Entry
  pub board : IsBoard images history p
  pub ready : IsTrue (board_ready images history i ask)
  pub few : length history < 2 ^ 62
  pub room : PartsRoom p i ask
  pub plan : IsPlanned images history p.plan (record { 0 = i }) ask

-- the step of the stop of an image can be made
pub record CanStop (p : Parts) (i : ℕ) : Type 0 where
  pub code : ℤ
  pub step : CanStep p i (asks.Stop code)

-- the step of an arrival at a collective subroutine of this kind can be made
pub record CanGather (p : Parts) (i : ℕ) (team : TeamNo) (what : RoundKind) (values : List Value) : Type 0 where
  pub op : GatherOp
  pub root : ℕ
  pub kind : Kind
  pub is : what ≡ kinds.Collective op root kind (length values)
  pub step : CanStep p i (asks.Gather team op root kind values)

-- a step of an ask that came: the parts go with the history and its entry
abbrev pub StepsTo : Parts → ImageNo → Ask → ℕ → Parts → Type 0
StepsTo p i ask line q = (n : ℕ) (h : List Entry) (stamp : ℕ) → IsBoard n h p → IsTrue (board_ready n h i.0 ask) → IsPlanned n h p.plan i ask → last_stamp_of h < stamp → IsBoard n (h ++ due n h i ask stamp line ∷ []) q

-- the step of an ask that brings nothing to be kept: for most of them nothing changes
abbrev pub StepBy : Parts → ImageNo → Ask → ℕ → Parts → Type 0
StepBy p i (asks.Pair named) line q = StepsTo p i (asks.Pair named) line q
StepBy p i (asks.Enter construct) line q = StepsTo p i (asks.Enter construct) line q
StepBy p i (asks.Exit construct) line q = StepsTo p i (asks.Exit construct) line q
StepBy p i asks.Gone line q = StepsTo p i asks.Gone line q
StepBy p i (asks.Stop code) line q = StepsTo p i (asks.Stop code) line q
StepBy p i ask line q = q ≡ p

-- what contracts see of a board: the images of its run, its history, and what it keeps
pub record BoardState : Type 0 where
  pub images : ℕ
  pub history : List Entry
  pub parts : Parts

-- there is room for the step of an ask, and the plan is that of the ask
abbrev pub HasRoom : BoardState → ℕ → Ask → Type 0
HasRoom s i ask = PartsRoom s.parts i ask × IsPlanned s.images s.history s.parts.plan (record { 0 = i }) ask
