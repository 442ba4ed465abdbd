-- What the steps on teams do to a core, said of its table of teams.
use Rattle.std.specs.Prelude.{◌≡◌, ℕ, ◌*◌, ℤ, pos, nat_lt, List, ◌∷◌, length, Option, Some, None}
use Rattle.std.specs.Option.{option_map}
use Rattle.caf_base.specs.Arithmetic.{natural}
use Rattle.caf_events.specs.declared.reply.FormedTeam.{FormedTeam}
use Rattle.caf_events.specs.declared.reply.Reply.TheVariants as replies
use Rattle.walk_theory.specs.Language.{goes_to, faults}
use Rattle.image_acts.specs.Acts as a
use Rattle.image_acts.specs.Core.{Core, with_values, pushed}
use Rattle.image_acts.specs.Faults.{no_team, room}
use Rattle.image_acts.specs.Frames.{with_cell}
use Rattle.image_acts.specs.Statuses.{most_teams}
use Rattle.image_acts.specs.Replies.{fitting, leave_reply}
use Rattle.image_acts.specs.Taking.{Acted, unless, giving, telling}
use Rattle.image_acts.specs.Teams.{is_in, team_in, current_team, members, numbered_team, behind_first, is_established}
use Rattle.image_acts.specs.Operate.Selecting.{selector_effect}
use Rattle.image_acts.specs.Operate.Teaming.{team_effect}
use Rattle.team_tables.specs.Tables.{Table, with_teams, current_of, members_here, numbered_here, index_here, is_established_here, is_child, is_near, is_root, team_at_level, image_count_of_number, team_with, newly_known, with_noted}

-- a core with these teams, and these numbers on its stack
abbrev pub core_of : Table → List ℤ → Core → Core
core_of t vs c = with_values (with_teams t c) vs

-- what was found is put down; else the run fault NoTeam
abbrev pub given_or_no_team : Option ℤ → Core → Acted
given_or_no_team None c = faults no_team
given_or_no_team (Some v) c = giving v c

-- a scalar of a frame gets the team that was found
abbrev pub with_team_in : a.Scope → ℕ → Option ℕ → Core → Core
with_team_in s x None c = c
with_team_in s x (Some n) c = with_cell s x (pos n) c

abbrev pub own_team : ℕ → Table → Option ℕ
own_team r t = option_map (λ k. k.team) (team_with t.me (newly_known r t))

-- what a table of teams says, as a core says it
pub record SaysOfTeams : Type 0 where
  pub current : (t : Table) (c : Core) → current_team (with_teams t c) ≡ current_of t
  pub of_team : (t : Table) (c : Core) (n : ℕ) → members (with_teams t c) n ≡ members_here t n
  pub numbered : (t : Table) (c : Core) (v : ℤ) → numbered_team (with_teams t c) v ≡ numbered_here t v
  pub established : (t : Table) (c : Core) (made n : ℕ) → is_established (with_teams t c) made n ≡ is_established_here t made n

-- the steps on the current team, and those that note teams
pub record DoesToTeams : Type 0 where
  pub child_team : (t : Table) (c : Core) (v : ℤ) (vs : List ℤ) → team_effect a.child_team (core_of t (v ∷ vs) c) ≡ unless no_team (is_child t (team_in (natural v) t.known)) (goes_to (core_of t (v ∷ vs) c))
  pub near_team : (t : Table) (c : Core) (v : ℤ) (vs : List ℤ) → team_effect a.near_team (core_of t (v ∷ vs) c) ≡ unless no_team (is_near t (natural v)) (goes_to (core_of t (v ∷ vs) c))
  pub make_current : (t : Table) (c : Core) (v : ℤ) (vs : List ℤ)
      → team_effect a.make_current (core_of t (v ∷ vs) c) ≡ unless room (nat_lt (length t.current) most_teams) (goes_to (core_of (record t { current = natural v ∷ t.current }) vs c))
  pub leave_team : (t : Table) (c : Core) → team_effect a.leave_team (with_teams t c) ≡ goes_to (with_teams (record t { current = behind_first t.current }) c)
  pub note_teams : (t : Table) (c : Core) (s : a.Scope) (x r : ℕ)
      → c.round ≡ Some r → team_effect (a.note_teams s x) (with_teams t c) ≡ goes_to (with_team_in s x (own_team r t) (with_teams (with_noted r t) c))
  pub leave : (t : Table) (c : Core) (status : ℤ) (teams : List FormedTeam)
      → leave_reply (with_teams t c) (replies.Left status teams) ≡ pushed status (with_teams (record t { formed = fitting (2 * t.images) teams }) c)

-- the steps that name teams
pub record NamesTeams : Type 0 where
  pub this_team : (t : Table) (c : Core) → selector_effect a.this_team (with_teams t c) ≡ giving (pos (current_of t)) (with_teams t c)
  pub team_value : (t : Table) (c : Core) (v : ℤ) (vs : List ℤ) → selector_effect a.team_value (core_of t (v ∷ vs) c) ≡ unless no_team (is_in (natural v) t.current) (giving v (core_of t vs c))
  pub sibling_team : (t : Table) (c : Core) (v : ℤ) (vs : List ℤ)
      → selector_effect a.sibling_team (core_of t (v ∷ vs) c) ≡ given_or_no_team (option_map (λ k. pos k.team) (numbered_here t v)) (core_of t vs c)
  pub get_team : (t : Table) (c : Core) (v : ℤ) (vs : List ℤ) → selector_effect a.get_team (core_of t (v ∷ vs) c) ≡ given_or_no_team (option_map (λ n. pos n) (team_at_level t v)) (core_of t vs c)
  pub team_number : (t : Table) (c : Core) (v : ℤ) (vs : List ℤ)
      → selector_effect a.team_number (core_of t (v ∷ vs) c) ≡ given_or_no_team (option_map (λ k. k.number) (team_in (natural v) t.known)) (core_of t vs c)
  pub own_index : (t : Table) (c : Core) (v : ℤ) (vs : List ℤ) → selector_effect a.own_index (core_of t (v ∷ vs) c) ≡ giving (pos (index_here t (natural v))) (core_of t vs c)
  pub image_count : (t : Table) (c : Core) (v : ℤ) (vs : List ℤ) → selector_effect a.image_count (core_of t (v ∷ vs) c) ≡ giving (pos (length (members_here t (natural v)))) (core_of t vs c)
  pub image_count_of_number : (t : Table) (c : Core) (v : ℤ) (vs : List ℤ)
      → selector_effect a.image_count_of_number (core_of t (v ∷ vs) c) ≡ given_or_no_team (option_map (λ n. pos n) (image_count_of_number t v)) (core_of t vs c)
  pub is_root : (t : Table) (c : Core) (v : ℤ) (vs : List ℤ) → selector_effect a.is_root (core_of t (v ∷ vs) c) ≡ telling (is_root t v) (core_of t vs c)
