-- Which traces can be shown by lines, in either form of their text.
use Rattle.std.specs.Prelude.{ℕ, ◌≡◌, List, [], ◌∷◌, ◌++◌, true, is_some}
use Rattle.caf_events.specs.declared.ask.Ask.{Ask}
use Rattle.caf_events.specs.declared.ask.Ask.TheVariants as asks
use Rattle.caf_events.specs.declared.event.Entry.{Entry}
use Rattle.trace_text.specs.Forms.{Form, First, Second, number_behind}
use Rattle.trace_forms.specs.Ranges.{HasText}

-- behind these entries the team has a team number: it is the initial one, or a reply gave it one
abbrev pub HasNumber : List Entry → ℕ → Type 0
HasNumber before team = is_some (number_behind before team) ≡ true

-- in the second form the team that an ask names has a team number
abbrev pub TeamHasNumber : Form → List Entry → Ask → Type 0
TeamHasNumber First before ask = Unit {0}
TeamHasNumber Second before (asks.Arrive team arriving) = HasNumber before team.0
TeamHasNumber Second before (asks.Leave team round) = HasNumber before team.0
TeamHasNumber Second before (asks.Gather team op root kind vs) = HasNumber before team.0
TeamHasNumber Second before (asks.Take team round) = HasNumber before team.0
TeamHasNumber Second before (asks.Failed team) = HasNumber before team.0
TeamHasNumber Second before (asks.Stopped team) = HasNumber before team.0
TeamHasNumber Second before (asks.Status team index) = HasNumber before team.0
TeamHasNumber Second before ask = Unit {0}

-- each of these entries, which stand behind others, can be shown by a line
abbrev pub HaveTexts : Form → List (List ℕ) → List Entry → List Entry → Type 0
HaveTexts form names before [] = Unit {0}
HaveTexts form names before (e ∷ es) =
    HasText names e × TeamHasNumber form before e.event.ask × HaveTexts form names (before ++ e ∷ []) es
