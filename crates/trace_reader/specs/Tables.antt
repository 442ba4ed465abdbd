-- The form of a file and a table of its team numbers, and the lines that they show.
use Rattle.std.specs.Prelude.{ℕ, ℤ, ◌≡◌, cond, Bool, true, false, not, ◌||◌, is_some, List, Option}
use Rattle.std.specs.Prelude.{None, Some}
use Rattle.std.specs.BTreeMap.{BTreeMap}
use Rattle.caf_events.specs.declared.ask.Ask.{Ask}
use Rattle.caf_events.specs.declared.ask.Ask.TheVariants as asks
use Rattle.caf_events.specs.declared.reply.Reply.{Reply}
use Rattle.caf_events.specs.declared.event.Entry.{Entry}
use Rattle.trace_text.specs.TraceText.{number_text, entry_line}
use Rattle.trace_text.specs.Forms.{number_in_reply, number_by_table, team_by_table, Gains}
use Rattle.trace_forms.specs.Ranges.{HasText}
use Rattle.trace_reader.specs.declared.teams.Teams.{Teams}

-- a team that an ask names
abbrev pub team_text_by : Teams → ℕ → List ℕ
team_text_by teams = cond teams.is_second (team_by_table teams.numbers) number_text

-- by a table the team that an ask names has a team number
abbrev pub is_numbered_by : BTreeMap ℕ ℤ → Ask → Bool
is_numbered_by numbers (asks.Arrive team arriving) = is_some (number_by_table numbers team.0)
is_numbered_by numbers (asks.Leave team round) = is_some (number_by_table numbers team.0)
is_numbered_by numbers (asks.Gather team op root kind vs) = is_some (number_by_table numbers team.0)
is_numbered_by numbers (asks.Take team round) = is_some (number_by_table numbers team.0)
is_numbered_by numbers (asks.Failed team) = is_some (number_by_table numbers team.0)
is_numbered_by numbers (asks.Stopped team) = is_some (number_by_table numbers team.0)
is_numbered_by numbers (asks.Status team index) = is_some (number_by_table numbers team.0)
is_numbered_by numbers ask = true

-- in the second form the team that an ask names has a team number
abbrev pub shows_team_of : Teams → Ask → Bool
shows_team_of teams ask = not teams.is_second || is_numbered_by teams.numbers ask

-- the form stays, and in the second form the team numbers of a reply are taken
pub record TakesNumbers (old : Teams) (reply : Reply) (new : Teams) : Type 0 where
  pub form : new.is_second ≡ old.is_second
  pub gains : old.is_second ≡ true → Gains old.numbers (λ team. number_in_reply team reply) new.numbers

-- the line is that of the entry, which it can show
pub record IsLineOf (teams : Teams) (names : List (List ℕ)) (e : Entry) (line : List ℕ) : Type 0 where
  pub has_text : HasText names e
  pub numbered : shows_team_of teams e.event.ask ≡ true
  pub printed : entry_line (team_text_by teams) names e ≡ line

-- whether the line of the entry is this one, and its team numbers are taken then
abbrev pub Prints : Bool → Teams → List (List ℕ) → Entry → List ℕ → Teams → Type 0
Prints true old names e line new =
    (entry_line (team_text_by old) names e ≡ line) × TakesNumbers old e.event.reply new
Prints false old names e line new = entry_line (team_text_by old) names e ≡ line → ⊥

-- whether the line shows the entry, and its team numbers are taken then
abbrev pub Shows : Bool → Teams → List (List ℕ) → Entry → List ℕ → Teams → Type 0
Shows true old names e line new = IsLineOf old names e line × TakesNumbers old e.event.reply new
Shows false old names e line new = IsLineOf old names e line → ⊥

-- the line shows the entry that is there, and its team numbers are taken; where none is there it shows none
abbrev pub ShownBy : Option Entry → Teams → List (List ℕ) → List ℕ → Teams → Type 0
ShownBy (Some e) old names line new = Shows true old names e line new
ShownBy None old names line new = (e : Entry) → IsLineOf old names e line → ⊥
