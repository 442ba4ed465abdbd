-- Teams and images that an expression names (ISO/IEC 1539-1:2018, 5.3.4, 9.6, 16.9).
use Rattle.std.specs.Prelude.{ℕ, suc, ◌-◌, ◌==◌, ◌||◌, nat_le, not, cond, ℤ, pos, negsuc, Bool, List, [], ◌∷◌, map, length, Option, None, Some, slice_get}
use Rattle.std.specs.Ordering.{int_eq}
use Rattle.caf_base.specs.declared.place.ImageNo.{ImageNo}
use Rattle.caf_base.specs.declared.place.TeamNo.{TeamNo}
use Rattle.caf_base.specs.declared.value.Kind.TheVariants as kinds
use Rattle.caf_events.specs.declared.reply.Reply.{Reply}
use Rattle.caf_events.specs.declared.reply.Reply.TheVariants as replies
use Rattle.caf_base.specs.Arithmetic.{fits_kind}
use Rattle.image_acts.specs.Words.{word}
use Rattle.image_acts.specs.Statuses.{most_access_cells}
use Rattle.image_acts.specs.Faults.{no_team, cobounds_fault, not_established, cells_fault, bounds_fault, overflow}
use Rattle.image_acts.specs.Core.{Own, Team}
use Rattle.image_acts.specs.Places.{Place, cells_of}
use Rattle.image_acts.specs.Teams.{is_in, index_in, team_in, members_of, from_team, behind_first, sibling_in, index_of, cosubscripts_behind, member_at}
use Rattle.direct_meaning.specs.States.{State, own_in}
use Rattle.direct_meaning.specs.Values.{Value, number}
use Rattle.direct_meaning.specs.Outcomes.{Does, giving, fault, nothing_said, ◌▹◌, unless, or_fault}

-- the current team: the initial team at first
abbrev pub current_team : State → ℕ
current_team s = elim s.teams [ [] ↦ 1 | t ∷ ts ↦ t ]

abbrev pub members : ℕ → State → List ℕ
members t s = members_of (team_in t s.known)

-- THIS_IMAGE of a team (16.9.190): this image's index
abbrev pub own_index : ℕ → State → ℕ
own_index t s = index_in s.me (members t s)

-- a value of the state
abbrev pub the : {X : Type 0} → (State → X) → Does X
the f = λ l s. giving (f s) l s

-- TEAM=, and a team argument: the current team or an ancestor of it
abbrev pub own_team : ℤ → Does ℕ
own_team (pos n) = λ l s. unless no_team (is_in n s.teams) (giving n) l s
own_team (negsuc n) = nothing_said

-- a team that this image knows
abbrev pub known_team : ℕ → Does Team
known_team n = λ l s. or_fault no_team (team_in n s.known) l s

-- TEAM_NUMBER= (9.6): a team of the FORM TEAM that made the current team; in the initial team itself alone, by -1
abbrev pub sibling : Option Team → ℤ → List Team → Option Team
sibling None v ks = None
sibling (Some k) v ks = sibling_in k v ks

abbrev pub numbered_team : ℤ → Does Team
numbered_team v = λ l s. or_fault no_team (sibling (team_in (current_team s) s.known) v s.known) l s

-- the coarray was allocated in the selected team or an ancestor of it; for a team that this image isn't in, in an
-- ancestor of the current team (5.4.7)
abbrev pub is_established : ℕ → ℕ → State → Bool
is_established made t s = is_in made (cond (is_in t s.teams) (from_team t s.teams) (behind_first s.teams))

-- the image that cosubscripts name in a team, for an access to a part: CoBounds where they name none, but for a part
-- without cells
abbrev pub image_in : Own → List ℤ → ℕ → Place → Does ℕ
image_in o cs t p = λ l s.
    unless cobounds_fault (not (index_of o cs (length (members t s)) == 0) || (cells_of p == 0))
    (unless not_established (is_established o.team t s)
    (unless cells_fault (nat_le (cells_of p) most_access_cells)
    (giving (member_at (members t s) (index_of o cs (length (members t s))))))) l s

abbrev pub selected_image : ℕ → List ℤ → ℕ → Place → Does ℕ
selected_image c cs t p = λ l s. (or_fault not_established (own_in c s) ▹ (λ o. image_in o cs t p)) l s

-- without a selector it is this image
abbrev pub this_image : Place → Does ℕ
this_image p = λ l s. unless cells_fault (nat_le (cells_of p) most_access_cells) (giving s.me) l s

-- GET_TEAM (16.9.85): the initial team, the parent, which the initial team is to itself, and the current team
abbrev pub parent_of : List ℕ → ℕ
parent_of ts = elim (behind_first ts) [ [] ↦ 1 | u ∷ us ↦ u ]

abbrev pub team_of_level : ℤ → Does ℕ
team_of_level v = cond (int_eq v (pos 1)) (giving 1) (cond (int_eq v (pos 2)) (the (λ s. parent_of s.teams)) (cond (int_eq v (pos 3)) (the current_team) (fault no_team)))

-- NUM_IMAGES(TEAM_NUMBER) (16.9.145): -1 is the initial team's
abbrev pub images_of_number : ℤ → Does ℕ
images_of_number v = cond (int_eq v (negsuc 0)) (the (λ s. s.images)) (numbered_team v ▹ (λ k. giving (length k.members)))

-- THIS_IMAGE(COARRAY, DIM): one cosubscript of this image, of default kind
abbrev pub numbered_in : List ℤ → ℤ → Does Value
numbered_in cs (pos (suc d)) = or_fault bounds_fault (slice_get cs d) ▹ (λ v. unless overflow (fits_kind kinds.I4 v) (giving (number v)))
numbered_in cs d = fault bounds_fault

abbrev pub cosubscript : Own → ℤ → ℕ → Does Value
cosubscript o d t = λ l s. numbered_in (cosubscripts_behind o.lowers o.extents (own_index t s - 1)) d l s

abbrev pub image : ℕ → ImageNo
image n = record { 0 = word (pos n) }

abbrev pub team : ℕ → TeamNo
team t = record { 0 = word (pos t) }

-- what a list of images tells
abbrev pub indices : Reply → Does (List ℤ)
indices (replies.Indices ns) = giving (map (λ n. pos n) ns)
indices reply = nothing_said

abbrev pub status : Reply → Does ℤ
status (replies.Number s) = giving s
status reply = nothing_said
