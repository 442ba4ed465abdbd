-- Teams in a row, the oldest one first, and the members of all of them one behind the other.
use Rattle.std.specs.Prelude.{ℕ, ◌+◌, ◌-◌, ◌^◌, ◌<◌, ◌≤◌, ◌≡◌, ◌*◌, List, [], ◌∷◌, map, reverse, take, drop, length, sum_by, negsuc}
use Rattle.caf_events.specs.declared.reply.FormedTeam.{FormedTeam}
use Rattle.image_acts.specs.Core.{Team}
use Rattle.team_tables.specs.Tables.{AreSmall}
use Rattle.team_tables.specs.declared.entries.Entry.{Entry}

-- the members of a team in a row of members
abbrev pub members_at : List ℕ → Entry → List ℕ
members_at ms e = take (e.end - e.start) (drop e.start ms)

abbrev pub team_at : List ℕ → Entry → Team
team_at ms e = record { team = e.team; parent = e.parent; round = e.round; number = e.number; members = members_at ms e }

abbrev pub formed_at : List ℕ → Entry → FormedTeam
formed_at ms e = record { team = record { 0 = e.team }; number = e.number; members = map (λ n. record { 0 = n }) (members_at ms e) }

-- the newest team first
abbrev pub known_in : List ℕ → List Entry → List Team
known_in ms es = map (team_at ms) (reverse es)

abbrev pub formed_in : List ℕ → List Entry → List FormedTeam
formed_in ms es = map (formed_at ms) (reverse es)

-- a team's parent, and the round of the parent that formed it
abbrev pub formed_by : (parent round : ℕ) → Entry → Entry
formed_by p r e = record e { parent = p; round = r }

-- its members stand before an end, and are fewer than 2 ^ 33
abbrev pub IsWithin : ℕ → Entry → Type 0
IsWithin n e = (e.start ≤ e.end) × (e.end ≤ n) × (e.end < e.start + 2 ^ 33)

abbrev pub AreWithin : ℕ → List Entry → Type 0
AreWithin n [] = Unit {0}
AreWithin n (e ∷ es) = IsWithin n e × AreWithin n es

-- the members of each team begin where those of the one before it end, from a place on to an end
abbrev pub ArePacked : (from to : ℕ) → List Entry → Type 0
ArePacked s n [] = s ≡ n
ArePacked s n (e ∷ es) = (e.start ≡ s) × (s ≤ e.end) × (e.end < s + 2 ^ 33) × ArePacked e.end n es

-- how many teams there are, and members of them in all
abbrev pub weight_of : List FormedTeam → ℕ
weight_of ts = sum_by (λ t. 1 + length t.members) ts

-- where the members of a formed team stand that begin at a place
abbrev pub entry_of : FormedTeam → ℕ → Entry
entry_of t s = record { team = t.team.0; parent = 0; round = 0; number = t.number; start = s; end = s + length t.members }

-- the initial team's, of so many images
abbrev pub first_entry : ℕ → Entry
first_entry n = record { team = 1; parent = 0; round = 0; number = negsuc 0; start = 0; end = n }

-- The teams of an image in memory: the members of the known ones stand up to a place, those of the formed ones behind
-- it. There is room for all current teams, for the teams that a round forms, and for these among the known ones.
pub record AreKept (current : List ℕ) (known formed : List Entry) (members : List ℕ) (placed images current_room known_room formed_room : ℕ) : Type 0 where
  pub small : AreSmall current
  pub deep : 32768 ≤ current_room
  pub known_packed : ArePacked 0 placed known
  pub formed_packed : ArePacked placed (length members) formed
  pub known_roomy : length known + length formed ≤ known_room
  pub formed_roomy : 2 * images ≤ formed_room
  pub few : 2 * images < 2 ^ 33
