-- The members of a team, as the departures from the rounds of FORM TEAM tell them (ISO/IEC 1539-1:2018, 11.6.9).
use Rattle.std.specs.Prelude.{ℕ, Bool, false, nat_eq, cond, List, [], ◌∷◌, map}
use Rattle.std.specs.List.{list_any}
use Rattle.caf_events.specs.declared.ask.Ask.{Ask}
use Rattle.caf_events.specs.declared.ask.Ask.TheVariants as asks
use Rattle.caf_events.specs.declared.reply.Reply.{Reply}
use Rattle.caf_events.specs.declared.reply.Reply.TheVariants as replies
use Rattle.caf_events.specs.declared.reply.FormedTeam.{FormedTeam}
use Rattle.caf_events.specs.declared.event.Entry.{Entry}
use Rattle.core_runs.specs.Beginnings.{numbers_to}

-- the members of team t among those of which a reply tells, else these
abbrev pub told : ℕ → List FormedTeam → List ℕ → List ℕ
told t [] js = js
told t (x ∷ xs) js = cond (nat_eq x.team.0 t) (map (λ i. i.0) x.members) (told t xs js)

-- the same of a reply
abbrev pub told_in : ℕ → Reply → List ℕ → List ℕ
told_in t (replies.Left status teams) js = told t teams js
told_in t reply js = js

-- the same of an ask with its reply: a departure from a round of a team tells
abbrev pub told_by : ℕ → Ask → Reply → List ℕ → List ℕ
told_by t (asks.Leave team round) reply js = told_in t reply js
told_by t ask reply js = js

-- the members of a team that FORM TEAM made, as the first departure tells them that names it
abbrev pub formed : ℕ → List Entry → List ℕ
formed t [] = []
formed t (e ∷ es) = told_by t e.event.ask e.event.reply (formed t es)

-- the members of a team of a run of n images: all of them, where it is the initial team
abbrev pub members : ℕ → ℕ → List Entry → List ℕ
members n t g = cond (nat_eq t 1) (numbers_to n) (formed t g)

-- a departure that names the team
abbrev pub names_in : ℕ → Reply → Bool
names_in t (replies.Left status teams) = list_any (λ (x : FormedTeam). nat_eq x.team.0 t) teams
names_in t reply = false

abbrev pub names_by : ℕ → Ask → Reply → Bool
names_by t (asks.Leave team round) reply = names_in t reply
names_by t ask reply = false

-- the entry is one
abbrev pub tells : ℕ → Entry → Bool
tells t e = names_by t e.event.ask e.event.reply
