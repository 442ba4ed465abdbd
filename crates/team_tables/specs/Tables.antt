-- The teams that an image knows (ISO/IEC 1539-1:2018, 5.3.4, 11.1.5, 11.6.9), and which of them are current ones.
use Rattle.std.specs.Prelude.{ℕ, zero, suc, ◌+◌, ◌*◌, ◌^◌, ◌<◌, ◌≤◌, ℤ, pos, negsuc, Bool, false, ◌&&◌, ◌||◌, nat_eq, cond, List, [], ◌∷◌, ◌++◌, map, length, sum_by, Option, Some, None}
use Rattle.std.specs.Option.{option_map}
use Rattle.std.specs.Ordering.{int_eq}
use Rattle.caf_events.specs.declared.reply.FormedTeam.{FormedTeam}
use Rattle.image_acts.specs.Core.{Core, Team}
use Rattle.image_acts.specs.Teams.{is_in, index_in, team_in, members_of, sibling_in, from_team, behind_first}

-- for how many teams there is room, and for how many members in all
pub record Room : Type 0 where
  pub teams : ℕ
  pub members : ℕ

-- what a core says of teams, and the room for it
pub record Table : Type 0 where
  pub current : List ℕ  -- the current team first, the initial team last
  pub known : List Team
  pub formed : List FormedTeam
  pub me : ℕ
  pub images : ℕ
  pub room : Room

-- a core with these teams
abbrev pub with_teams : Table → Core → Core
with_teams t c = record c { teams = t.current; known = t.known; formed = t.formed; me = t.me; images = t.images }

-- the images from 1 to n, and the initial team (5.3.4)
abbrev pub images_from : ℕ → ℕ → List ℕ
images_from i zero = []
images_from i (suc n) = i ∷ images_from (suc i) n

abbrev pub initial_team : ℕ → Team
initial_team n = record { team = 1; parent = 0; round = 0; number = negsuc 0; members = images_from 1 n }

-- image me of so many knows the initial team at the start
abbrev pub first_table : (me images : ℕ) → Room → Table
first_table me images r = record { current = 1 ∷ []; known = initial_team images ∷ []; formed = []; me = me; images = images; room = r }

-- how many members teams have in all
abbrev pub members_in : List Team → ℕ
members_in ks = sum_by (λ k. length k.members) ks

-- there is room for what a round forms: so many teams, and so many members
abbrev pub HasRoom : Table → Type 0
HasRoom t = (length t.known + 2 * t.images ≤ t.room.teams) × (members_in t.known + 2 * t.images ≤ t.room.members)

-- the current team, the initial one where none is left; and its parent, which the initial team is itself
abbrev pub first_of : List ℕ → ℕ
first_of [] = 1
first_of (t ∷ ts) = t

abbrev pub current_of : Table → ℕ
current_of t = first_of t.current

abbrev pub parent_of : Table → ℕ
parent_of t = first_of (behind_first t.current)

-- the members of a team in index order, and the index of this image in it
abbrev pub members_here : Table → ℕ → List ℕ
members_here t n = members_of (team_in n t.known)

abbrev pub index_here : Table → ℕ → ℕ
index_here t n = index_in t.me (members_here t n)

-- the team of the current team's FORM TEAM with a team number (9.6)
abbrev pub sibling_of : Option Team → ℤ → List Team → Option Team
sibling_of None v ks = None
sibling_of (Some k) v ks = sibling_in k v ks

abbrev pub numbered_here : Table → ℤ → Option Team
numbered_here t v = sibling_of (team_in (current_of t) t.known) v t.known

-- whether a coarray that was allocated in a team is established in another one (5.4.7, 9.6)
abbrev pub is_established_here : Table → (made team : ℕ) → Bool
is_established_here t made n = is_in made (cond (is_in n t.current) (from_team n t.current) (behind_first t.current))

-- CHANGE TEAM goes to a team that the current team formed, and that has this image (11.1.5.2)
abbrev pub is_child : Table → Option Team → Bool
is_child t None = false
is_child t (Some k) = nat_eq k.parent (current_of t) && is_in t.me k.members

-- SYNC TEAM is of such a team, or of the current one or an ancestor (11.6.6)
abbrev pub is_near : Table → ℕ → Bool
is_near t n = is_in n t.current || is_child t (team_in n t.known)

-- a formed team as this image knows it, and the first of some teams that has an image
abbrev pub known_as : (parent round : ℕ) → FormedTeam → Team
known_as p r f = record { team = f.team.0; parent = p; round = r; number = f.number; members = map (λ i. i.0) f.members }

abbrev pub team_with : ℕ → List Team → Option Team
team_with me [] = None
team_with me (k ∷ ks) = cond (is_in me k.members) (Some k) (team_with me ks)

-- the formed teams as they are known once they are noted
abbrev pub newly_known : ℕ → Table → List Team
newly_known r t = map (known_as (current_of t) r) t.formed

abbrev pub with_noted : ℕ → Table → Table
with_noted r t = record t { known = newly_known r t ++ t.known; formed = [] }

-- GET_TEAM (16.9.85)
abbrev pub team_at_level : Table → ℤ → Option ℕ
team_at_level t v = cond (int_eq v (pos 1)) (Some 1) (cond (int_eq v (pos 2)) (Some (parent_of t)) (cond (int_eq v (pos 3)) (Some (current_of t)) None))

-- NUM_IMAGES of a team number (16.9.145)
abbrev pub image_count_of_number : Table → ℤ → Option ℕ
image_count_of_number t v = cond (int_eq v (negsuc 0)) (Some t.images) (option_map (λ k. length k.members) (numbered_here t v))

-- whether the result of a collective comes to this image, whose root has this index, 0 for all
abbrev pub is_root : Table → ℤ → Bool
is_root t v = int_eq v (pos 0) || int_eq v (pos (index_here t (current_of t)))

-- team numbers in a run that a number of 64 bits with a sign holds
abbrev pub AreSmall : List ℕ → Type 0
AreSmall [] = Unit {0}
AreSmall (t ∷ ts) = (t < 2 ^ 63) × AreSmall ts
