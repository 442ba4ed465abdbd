-- The two forms of the text of a trace. In the first a team that an ask names stands by its number in the run alone. In
-- the second its team number, by which the program knows it, stands behind a slash; this one is printed.
use Rattle.std.specs.Prelude.{ℕ, ℤ, negsuc, ◌≡◌, cond, nat_eq, List, [], ◌∷◌, ◌++◌, Option, None, Some, codes}
use Rattle.std.specs.BTreeMap.{BTreeMap, get}
use Rattle.std.specs.List.{concat}
use Rattle.std.specs.Option.{option_or}
use Rattle.std.specs.Ordering.{nat_cmp}
use Rattle.caf_text.specs.Numbers.{decimal_text}
use Rattle.caf_events.specs.declared.reply.Reply.{Reply}
use Rattle.caf_events.specs.declared.reply.Reply.TheVariants as replies
use Rattle.caf_events.specs.declared.reply.FormedTeam.{FormedTeam}
use Rattle.caf_events.specs.declared.event.Entry.{Entry}
use Rattle.trace_text.specs.TraceText.{number_text, entry_line}

pub data Form : Type 0 where
  First : Form
  Second : Form

-- ---- team numbers
-- the team number of a team among teams that were formed, that of the first one that is it
abbrev pub number_among : ℕ → List FormedTeam → Option ℤ
number_among team [] = None
number_among team (t ∷ ts) = cond (nat_eq t.team.0 team) (Some t.number) (number_among team ts)

-- the team number that a reply gives a team
abbrev pub number_in_reply : ℕ → Reply → Option ℤ
number_in_reply team (replies.Left status teams) = number_among team teams
number_in_reply team reply = None

-- the team number that the first reply of these entries with one for a team gives it
abbrev pub given_number : ℕ → List Entry → Option ℤ
given_number team [] = None
given_number team (e ∷ es) = option_or (number_in_reply team e.event.reply) (given_number team es)

-- the team number of a team: -1 for the initial one, else the one that it was given
abbrev pub number_or_initial : ℕ → Option ℤ → Option ℤ
number_or_initial team given = cond (nat_eq team 1) (Some (negsuc 0)) given

-- the team number of a team behind these entries
abbrev pub number_behind : List Entry → ℕ → Option ℤ
number_behind before team = number_or_initial team (given_number team before)

-- ---- teams of asks
-- a team number in decimal, nothing where there is none
abbrev pub team_number_text : Option ℤ → List ℕ
team_number_text None = []
team_number_text (Some number) = decimal_text number

-- a team with its team number behind a slash
abbrev pub numbered_team : ℕ → Option ℤ → List ℕ
numbered_team team number = number_text team ++ codes "/" ++ team_number_text number

-- a team that an ask names, behind these entries
abbrev pub asked_team : Form → List Entry → ℕ → List ℕ
asked_team First before team = number_text team
asked_team Second before team = numbered_team team (number_behind before team)

-- ---- lines
-- the lines of entries that stand behind others
abbrev pub lines_behind : Form → List (List ℕ) → List Entry → List Entry → List (List ℕ)
lines_behind form names before [] = []
lines_behind form names before (e ∷ es) =
    entry_line (asked_team form before) names e ∷ lines_behind form names (before ++ e ∷ []) es

-- the lines of a trace in a form, with the names of the coarrays by their numbers
abbrev pub trace_lines : Form → List (List ℕ) → List Entry → List (List ℕ)
trace_lines form names es = lines_behind form names [] es

-- the text of a trace: its lines in the second form
abbrev pub trace_text : List (List ℕ) → List Entry → List ℕ
trace_text names es = concat (trace_lines Second names es)

-- ---- a table of team numbers
-- the team number of a team by a table: -1 for the initial one
abbrev pub number_by_table : BTreeMap ℕ ℤ → ℕ → Option ℤ
number_by_table numbers team = number_or_initial team (get nat_cmp numbers team)

-- a team that an ask names, by a table
abbrev pub team_by_table : BTreeMap ℕ ℤ → ℕ → List ℕ
team_by_table numbers team = numbered_team team (number_by_table numbers team)

-- the table has the team numbers that these entries give
abbrev pub HasGiven : List Entry → BTreeMap ℕ ℤ → Type 0
HasGiven es numbers = (team : ℕ) → get nat_cmp numbers team ≡ given_number team es

-- the table has gained these team numbers for teams that had none
abbrev pub Gains : BTreeMap ℕ ℤ → (ℕ → Option ℤ) → BTreeMap ℕ ℤ → Type 0
Gains old more new = (team : ℕ) → get nat_cmp new team ≡ option_or (get nat_cmp old team) (more team)
