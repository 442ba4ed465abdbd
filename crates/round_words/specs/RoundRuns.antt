-- Runs without failures, and what images say of their rounds.
use Rattle.std.specs.Prelude.{ℕ, ◌+◌, ◌≡◌, Bool, true, cond, List, [], ◌∷◌, ◌++◌}
use Rattle.trace_theory.specs.Entries.{Each}
use Rattle.trace_theory.specs.Machines.{Said}
use Rattle.caf_events.specs.declared.ask.Ask.{Ask}
use Rattle.caf_events.specs.declared.reply.Reply.{Reply}
use Rattle.caf_events.specs.declared.event.Entry.{Entry}
use Rattle.object_rules.specs.Cells.{Declared}
use Rattle.object_rules.specs.Happenings.{Class, control, collective, images, happens}
use Rattle.object_rules.specs.BoardTeams.{teams_after, members_at, arrives_there}
use Rattle.core_runs.specs.CoreRuns.{at_board, said_by}
use Rattle.core_runs.specs.Lawful.{IsLawfulTrace}
use Rattle.core_runs.specs.Sequences.{NothingAfterEnd}
use Rattle.every_order.specs.Decided.{is_free}

-- a lawful trace of free steps, so without failures and with FORM TEAM of the initial team alone, in which nothing
-- follows the end of an image
pub record IsRoundRun (s : List Declared) (n : ℕ) (g : List Entry) : Type 0 where
  pub lawful : IsLawfulTrace s n g
  pub free : Each (λ x. is_free x.event.ask x.event.reply ≡ true) g
  pub ends : (i : ℕ) → NothingAfterEnd (said_by i g)

-- the members of a team after a run
abbrev pub team_members : ℕ → List Entry → ℕ → List ℕ
team_members n g team = members_at (teams_after n (at_board g)) team

-- rounds are of image control statements or of collective subroutines
abbrev pub IsRoundClass : Class → Type 0
IsRoundClass control = Unit {0}
IsRoundClass collective = Unit {0}
IsRoundClass images = ⊥

-- how often an image arrived at a team, by its words
abbrev pub joins_by : Class → ℕ → ℕ → Said Ask Reply → Bool
joins_by class team j w = arrives_there team j (happens class j w.line w.ask w.reply)

abbrev pub arrivals_said : Class → ℕ → ℕ → List (Said Ask Reply) → ℕ
arrivals_said class team j [] = 0
arrivals_said class team j (w ∷ ws) = cond (joins_by class team j w) 1 0 + arrivals_said class team j ws

-- a run that is ahead of another one: each image has said what it said there, or more
abbrev pub IsAhead : List Entry → List Entry → Type 0
IsAhead u w = (i : ℕ) → (more : List (Said Ask Reply)) × (said_by i u ≡ said_by i w ++ more)
