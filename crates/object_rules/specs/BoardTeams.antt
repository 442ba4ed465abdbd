-- The teams of a run (ISO/IEC 1539-1:2018, 5.3.4, 11.6.9): the initial team, and those that closed rounds of FORM TEAM
-- made.
use Rattle.std.specs.Prelude.{ℕ, suc, ◌-◌, max, ℤ, negsuc, Bool, true, false, ◌&&◌, not, nat_eq, cond, List, [], ◌∷◌, ◌++◌, map, filter, filter_map, slice_get, Option, Some, None}
use Rattle.std.specs.List.{range_with_len}
use Rattle.caf_events.specs.declared.ask.Ask.{Ask}
use Rattle.caf_events.specs.declared.ask.Ask.TheVariants as asks
use Rattle.caf_events.specs.declared.round.Arriving.TheVariants as arrivings
use Rattle.caf_events.specs.declared.round.RoundKind.{RoundKind}
use Rattle.caf_events.specs.declared.round.RoundKind.TheVariants as kinds
use Rattle.caf_events.specs.declared.reply.FormedTeam.{FormedTeam}
use Rattle.caf_events.specs.declared.event.Entry.{Entry}
use Rattle.object_rules.specs.Scans.{first_front}
use Rattle.object_rules.specs.Happenings.{Happening, Class, control, happens, happened}
use Rattle.object_rules.specs.TeamRounds.{is_arrival, arrivals, has_closed, Opening, opening_of, missed_by}
use Rattle.object_rules.specs.FormedTeams.{FormArg, formed}

-- a team: the team and the round of it that made it (0 for the initial team, which has team number -1), its team
-- number, and its members in index order
pub record Team : Type 0 where
  pub parent : ℕ
  pub round : ℕ
  pub number : ℤ
  pub members : List ℕ

-- the entry is an arrival of the image on the team
abbrev pub arrives_there : ℕ → ℕ → Option Happening → Bool
arrives_there team image None = false
arrives_there team image (Some x) = is_arrival team image x

-- arrival n of an image on a team, counted from 1
abbrev pub nth_arrival : Class → ℕ → ℕ → ℕ → List Entry → Option Entry
nth_arrival class team image n [] = None
nth_arrival class team image n (e ∷ es) =
    cond (arrives_there team image (happens class e.image.0 e.event.line e.event.ask e.event.reply))
    (cond (nat_eq n 1) (Some e) (nth_arrival class team image (n - 1) es))
    (nth_arrival class team image n es)

-- the arrivals of a round, in the order of the members; those of images that failed after they arrived are among them
abbrev pub round_of : Class → ℕ → ℕ → List ℕ → List Entry → List Entry
round_of class team round members f = filter_map (λ m. nth_arrival class team m round f) members

-- what an arrival at a FORM TEAM gives
abbrev pub form_arg : ℕ → Ask → Option FormArg
form_arg i (asks.Arrive team (arrivings.Form number new_index)) = Some (record { image = i; number = number; new_index = new_index })
form_arg i ask = None

abbrev pub form_args : List Entry → List FormArg
form_args es = filter_map (λ e. form_arg e.image.0 e.event.ask) es

-- the history up to the close of a round, where it has closed
abbrev pub closing : Class → ℕ → ℕ → List ℕ → List Entry → Option (List Entry)
closing class team round members h = first_front (λ f. has_closed members team round (happened class f)) h

abbrev pub is_form_kind : RoundKind → Bool
is_form_kind kinds.Form = true
is_form_kind kind = false

abbrev pub is_form : Option Opening → Bool
is_form None = false
is_form (Some o) = is_form_kind o.kind

-- the teams that a round makes which closes with the last entry of f
abbrev pub teams_made : ℕ → ℕ → List ℕ → List Entry → List Team
teams_made team round members f =
    let missed = missed_by members (happened control f) in
    cond (is_form (opening_of team round (happened control f)))
    (map (λ x. record { parent = team; round = round; number = x.number; members = x.images }) (formed missed.stopped missed.failed (form_args (round_of control team round members f))))
    []

-- the most rounds that a member has joined
abbrev pub most_joined : ℕ → List ℕ → List Happening → ℕ
most_joined team [] hs = 0
most_joined team (m ∷ ms) hs = max (arrivals team m hs) (most_joined team ms hs)

-- the entry e, after those before it, closes the round
abbrev pub closes_now : ℕ → List ℕ → List Happening → List Happening → ℕ → Bool
closes_now team members before now round = not (has_closed members team round before) && has_closed members team round now

-- these rounds of a team, where each closes with the last entry of f: the teams that they make, in the order of the
-- rounds
abbrev pub made_in_rounds : ℕ → List ℕ → List Entry → List ℕ → List Team
made_in_rounds team members f [] = []
made_in_rounds team members f (r ∷ rs) = teams_made team r members f ++ made_in_rounds team members f rs

-- the teams that an entry makes whose parent is this team
abbrev pub made_in_team : ℕ → List ℕ → List Entry → Entry → List Team
made_in_team team members before e =
    let now = happened control (before ++ e ∷ []) in
    made_in_rounds team members (before ++ e ∷ []) (filter (closes_now team members (happened control before) now) (range_with_len 1 (most_joined team members now)))

-- the teams that an entry makes, by the parent's own number; the first of the list has this number
abbrev pub made_by : ℕ → List Team → List Entry → Entry → List Team
made_by t [] before e = []
made_by t (x ∷ xs) before e = made_in_team t x.members before e ++ made_by (suc t) xs before e

abbrev pub teams_from : List Team → List Entry → List Entry → List Team
teams_from ts before [] = ts
teams_from ts before (e ∷ es) = teams_from (ts ++ made_by 1 ts before e) (before ++ e ∷ []) es

-- the teams of a run of n images after a history, by their own numbers from 1: team 1 holds all images
abbrev pub teams_after : ℕ → List Entry → List Team
teams_after n h = teams_from (record { parent = 0; round = 0; number = negsuc 0; members = range_with_len 1 n } ∷ []) [] h

-- the members of a team, in index order; none where it isn't there
abbrev pub members_there : Option Team → List ℕ
members_there None = []
members_there (Some t) = t.members

abbrev pub members_at : List Team → ℕ → List ℕ
members_at ts t = cond (nat_eq t 0) [] (members_there (slice_get ts (t - 1)))

-- a team as a reply tells it
abbrev pub told_team : ℕ → Team → FormedTeam
told_team t x = record { team = record { 0 = t }; number = x.number; members = map (λ i. record { 0 = i }) x.members }

-- the teams that a round made; the first of the list has this number
abbrev pub made_teams : ℕ → ℕ → ℕ → List Team → List FormedTeam
made_teams team round t [] = []
made_teams team round t (x ∷ xs) = cond (nat_eq x.parent team && nat_eq x.round round) (told_team t x ∷ []) [] ++ made_teams team round (suc t) xs
