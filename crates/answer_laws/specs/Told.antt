-- Which teams an image was told of (ISO/IEC 1539-1:2018, 5.3.4, 11.6.9): the initial team, and those that its
-- departures from FORM TEAM named.
use Rattle.std.specs.Prelude.{ℕ, Bool, true, false, ◌||◌, IsTrue, nat_eq, List, [], ◌∷◌, ◌++◌}
use Rattle.std.specs.List.{list_any}
use Rattle.caf_events.specs.declared.ask.Ask.{Ask}
use Rattle.caf_events.specs.declared.ask.Ask.TheVariants as asks
use Rattle.caf_events.specs.declared.reply.Reply.{Reply}
use Rattle.caf_events.specs.declared.reply.Reply.TheVariants as replies
use Rattle.trace_theory.specs.Machines.{Said}

-- the reply names the team: it stands among the teams of a departure
abbrev pub names_team : ℕ → Reply → Bool
names_team t (replies.Left status teams) = list_any (λ x. nat_eq x.team.0 t) teams
names_team t reply = false

-- the image knows the team: it is the initial team, or a reply named it
abbrev pub knows_team : List (Said Ask Reply) → ℕ → Bool
knows_team heard t = nat_eq t 1 || list_any (λ e. names_team t e.reply) heard

-- the team that an ask names, if it names one, is one that the image knows
abbrev pub knows_team_of : List (Said Ask Reply) → Ask → Bool
knows_team_of heard (asks.Arrive team arriving) = knows_team heard team.0
knows_team_of heard (asks.Leave team round) = knows_team heard team.0
knows_team_of heard (asks.Gather team op root kind values) = knows_team heard team.0
knows_team_of heard (asks.Take team round) = knows_team heard team.0
knows_team_of heard (asks.Failed team) = knows_team heard team.0
knows_team_of heard (asks.Stopped team) = knows_team heard team.0
knows_team_of heard (asks.Status team index) = knows_team heard team.0
knows_team_of heard ask = true

-- after what the image said and heard, the ask names no team but one that it was told
abbrev pub IsTold : List (Said Ask Reply) → Ask → Type 0
IsTold before ask = IsTrue (knows_team_of before ask)

-- each ask of a list names no team but one that the image was told before it
abbrev pub AllTold : List (Said Ask Reply) → List (Said Ask Reply) → Type 0
AllTold before [] = Unit {0}
AllTold before (e ∷ es) = IsTold before e.ask × AllTold (before ++ e ∷ []) es
