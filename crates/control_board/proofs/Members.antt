-- The teams that the board keeps are those of the history.
use Rattle.std.proofs.Common.{◌≡◌, ℕ, zero, suc, ◌-◌, ◌<◌, ◌≤◌, Bool, true, false, ◌&&◌, nat_eq, nat_le, List, [], ◌∷◌, inl, inr, length, map, refl, ap, sym, ◌∙◌, subst, arith}
use Rattle.std.specs.Prelude.{Some, slice_get, slice_index_or}
use Rattle.std.specs.List.{list_all}
use Rattle.caf_base.specs.declared.place.ImageNo.{ImageNo}
use Rattle.std.proofs.lemmas.Bool.{and_parts, leb-true, le-leb, cases_Bool, ne_eqb}
use Rattle.std.proofs.lemmas.List.{length-map}
use Rattle.caf_events.specs.declared.event.Entry.{Entry}
use Rattle.object_rules.specs.Happenings.{numbers_of}
use Rattle.object_rules.specs.ImagePairs.{names}
use Rattle.object_rules.specs.BoardTeams.{Team, teams_after, members_there, members_at}
use Rattle.object_rules.specs.BoardRules.{is_image}
use Rattle.failure_status.specs.Endings.{AreWithin}
use Rattle.team_round.specs.TeamStates.{TeamState, members_in}
use Rattle.team_tree.specs.KnownTeams.{KnownTeam, no_team, team_of, images_from, known, all_known}
use Rattle.control_board.specs.declared.parts.Parts.{Parts}
use Rattle.control_board.specs.Boards.{IsBoard, rounds_in, are_images}

pub numbers_images : (ms : List ℕ) → numbers_of (images_from ms) ≡ ms
numbers_images [] = refl
numbers_images (m ∷ ms) = ap (λ l. m ∷ l) (numbers_images ms)

-- a number from 1 to n
pub image_within : (n i : ℕ) → is_image n i ≡ true → (0 < i) × (i ≤ n)
image_within n i h =
    let p = and_parts (nat_le 1 i) (nat_le i n) h in
    let a = leb-true 1 i p.0 in
    let b = leb-true i n p.1 in
    (omega arith, omega arith)

-- ---- the members of a team by its number
pub at_place : (ts : List Team) (t : ℕ) → 0 < t → members_at ts t ≡ members_there (slice_get ts (t - 1))
at_place ts t low = let z : nat_eq t 0 ≡ false = ne_eqb t 0 (λ e. absurd (omega arith)) in rw z refl

-- an image is a member of a team that is there only
range_from : (ts : List Team) (k i : ℕ) → names i (members_there (slice_get ts k)) ≡ true → k < length ts
range_from [] k i h = absurd (cc)
range_from (x ∷ xs) zero i h = omega arith
range_from (x ∷ xs) (suc k) i h = let r = range_from xs k i h in omega arith

pub member_range : (ts : List Team) (t i : ℕ) → names i (members_at ts t) ≡ true → (0 < t) × (t ≤ length ts)
member_range ts zero i h = absurd (cc)
member_range ts (suc k) i h =
    let low : 0 < suc k = omega arith in
    let r = range_from ts (suc k - 1) i (ap (names i) (sym (at_place ts (suc k) low)) ∙ h) in
    (low, omega arith)

known_from : (ts : List Team) (k : ℕ) → k < length ts → numbers_of (slice_index_or (all_known ts) k no_team).members ≡ members_there (slice_get ts k)
known_from [] k h = absurd (omega arith)
known_from (x ∷ xs) zero h = numbers_images x.members
known_from (x ∷ xs) (suc k) h = known_from xs k (omega arith)

pub known_members : (ts : List Team) (t : ℕ) → 0 < t → t ≤ length ts → numbers_of (team_of (all_known ts) t).members ≡ members_at ts t
known_members ts t a b = known_from ts (t - 1) (omega arith) ∙ sym (at_place ts t a)

not_true : (b : Bool) → (b ≡ true → ⊥) → b ≡ false
not_true true f = absurd (f refl)
not_true false f = refl

pub member_law : (ts : List Team) (t i : ℕ) → (is_image (length (all_known ts)) t && names i (numbers_of (team_of (all_known ts) t).members)) ≡ names i (members_at ts t)
member_law ts t i = elim (cases_Bool (is_image (length (all_known ts)) t)) [
  | inl in_range ↦ (
      let r = image_within (length (all_known ts)) t in_range in
      let l = length-map ts known in
      let high : t ≤ length (all_known ts) = r.1 in
      let m : names i (numbers_of (team_of (all_known ts) t).members) ≡ names i (members_at ts t) = ap (names i) (known_members ts t r.0 (omega arith)) in
      rw in_range m)
  | inr out ↦ (
      let no : names i (members_at ts t) ≡ false = not_true (names i (members_at ts t)) (λ y. (
      let r = member_range ts t i y in
      let l = length-map ts known in
      let low : 0 < t = r.0 in
      let high : t ≤ length ts = r.1 in
      let a = le-leb 1 t (omega arith) in
      let c = le-leb t (length (all_known ts)) (omega arith) in
      let w : true ≡ false = sym (both_true (nat_le 1 t) (nat_le t (length (all_known ts))) a c) ∙ out in
      cc)) in
      rw (out, no) refl)
]
  where
    both_true : (a b : Bool) → a ≡ true → b ≡ true → (a && b) ≡ true
    both_true true true e f = refl
    both_true true false e f = absurd (cc)
    both_true false b e f = absurd (cc)

head_same : {A : Type 0} (x y : A) (xs ys : List A) → x ∷ xs ≡ y ∷ ys → x ≡ y
head_same x y xs ys e = cc

tail_same : {A : Type 0} (x y : A) (xs ys : List A) → x ∷ xs ≡ y ∷ ys → xs ≡ ys
tail_same x y xs ys e = cc

some_same : {A : Type 0} (x y : A) → Some x ≡ Some y → x ≡ y
some_same x y e = cc

-- the rounds of a team have its members
rounds_from : (cs : List TeamState) (ts : List Team) (k : ℕ) (x : TeamState) → members_in cs ≡ map (λ (y : Team). images_from y.members) ts → slice_get cs k ≡ Some x → numbers_of x.members ≡ members_there (slice_get ts k)
rounds_from [] ts k x e at = absurd (cc)
rounds_from (c ∷ cs) [] k x e at = absurd (cc)
rounds_from (c ∷ cs) (t ∷ ts) zero x e at = ap (λ (y : TeamState). numbers_of y.members) (sym (some_same c x at)) ∙ ap numbers_of (head_same c.members (images_from t.members) _ _ e) ∙ numbers_images t.members
rounds_from (c ∷ cs) (t ∷ ts) (suc k) x e at = rounds_from cs ts k x (tail_same c.members (images_from t.members) (members_in cs) (map (λ (y : Team). images_from y.members) ts) e) at

rounds_at : (cs : List TeamState) (ts : List Team) (t : ℕ) (x : TeamState) → 0 < t → members_in cs ≡ map (λ (y : Team). images_from y.members) ts → slice_get cs (t - 1) ≡ Some x → numbers_of x.members ≡ members_at ts t
rounds_at cs ts t x low e at = rounds_from cs ts (t - 1) x e at ∙ sym (at_place ts t low)

pub get_there : {A : Type 0} (xs : List A) (k : ℕ) → k < length xs → (x : A) × (slice_get xs k ≡ Some x)
get_there [] k h = absurd (omega arith)
get_there (x ∷ xs) zero h = (x, refl)
get_there (x ∷ xs) (suc k) h = get_there xs k (omega arith)

set_from : (n : ℕ) (set : List ImageNo) → list_all (is_image n) (numbers_of set) ≡ true → (k : ℕ) (d : ImageNo) → k < length set → (0 < (slice_index_or set k d).0) × ((slice_index_or set k d).0 ≤ n)
set_from n [] e k d l = absurd (omega arith)
set_from n (x ∷ xs) e zero d l = image_within n x.0 (and_parts (is_image n x.0) (list_all (is_image n) (numbers_of xs)) e).0
set_from n (x ∷ xs) e (suc k) d l = set_from n xs (and_parts (is_image n x.0) (list_all (is_image n) (numbers_of xs)) e).1 k d (omega arith)

-- a set of images of the run
pub set_within : (n m : ℕ) (set : List ImageNo) → m ≡ n → list_all (is_image n) (numbers_of set) ≡ true → AreWithin m set
set_within n m set same e = subst (λ q. AreWithin q set) (sym same) (set_from n set e)

images_from_place : (n : ℕ) (ts : List Team) (k : ℕ) → are_images n ts ≡ true → list_all (is_image n) (members_there (slice_get ts k)) ≡ true
images_from_place n [] k e = refl
images_from_place n (x ∷ xs) zero e = (and_parts (list_all (is_image n) x.members) (are_images n xs) e).0
images_from_place n (x ∷ xs) (suc k) e = images_from_place n xs k (and_parts (list_all (is_image n) x.members) (are_images n xs) e).1

images_at : (n : ℕ) (ts : List Team) (t : ℕ) → are_images n ts ≡ true → list_all (is_image n) (members_at ts t) ≡ true
images_at n ts zero e = refl
images_at n ts (suc k) e = ap (list_all (is_image n)) (at_place ts (suc k) (omega arith)) ∙ images_from_place n ts (suc k - 1) e

module _ (n : ℕ) (h : List Entry) (p : Parts) (b : IsBoard n h p) where
  pub rounds_members : (c : Bool) (t : ℕ) (x : TeamState) → 0 < t → slice_get (rounds_in p c).teams (t - 1) ≡ Some x → numbers_of x.members ≡ members_at (teams_after n h) t
  rounds_members c t x low at = rounds_at (rounds_in p c).teams (teams_after n h) t x low (b.members c) at

  pub rounds_count : (c : Bool) → length (rounds_in p c).teams ≡ length (teams_after n h)
  rounds_count c = sym (length-map (rounds_in p c).teams (λ (x : TeamState). x.members)) ∙ ap length (b.members c) ∙ length-map (teams_after n h) (λ (x : Team). images_from x.members)

  pub teams_count : length p.teams.teams ≡ length (teams_after n h)
  teams_count = ap length b.teams ∙ length-map (teams_after n h) known

  -- the team of a member is there, in all parts
  pub member_there : (c : Bool) (t i : ℕ) → names i (members_at (teams_after n h) t) ≡ true → (0 < t) × (t ≤ length (rounds_in p c).teams) × (t ≤ length p.teams.teams)
  member_there c t i m =
      let r = member_range (teams_after n h) t i m in
      let a = rounds_count c in
      let d = teams_count in
      let low : 0 < t = r.0 in
      let high : t ≤ length (teams_after n h) = r.1 in
      (low, omega arith, omega arith)

  pub tables_there : (t : ℕ) → 0 < t → t ≤ length p.teams.teams → t ≤ length p.brought.items
  tables_there t low high = let c = teams_count in let d = b.tables in omega arith

  pub is_member_law : (t i : ℕ) → (is_image (length p.teams.teams) t && names i (numbers_of (team_of p.teams.teams t).members)) ≡ names i (members_at (teams_after n h) t)
  is_member_law t i = ap (λ (ts : List KnownTeam). is_image (length ts) t && names i (numbers_of (team_of ts t).members)) b.teams ∙ member_law (teams_after n h) t i

  pub known_there : (t : ℕ) → 0 < t → t ≤ length p.teams.teams → numbers_of (team_of p.teams.teams t).members ≡ members_at (teams_after n h) t
  known_there t low high =
      let c = teams_count in
      ap (λ (ts : List KnownTeam). numbers_of (team_of ts t).members) b.teams ∙ known_members (teams_after n h) t low (omega arith)

  -- its members are images of the run
  pub members_images : (t : ℕ) → list_all (is_image n) (members_at (teams_after n h) t) ≡ true
  members_images t = images_at n (teams_after n h) t b.within

  pub known_within : (t : ℕ) → 0 < t → t ≤ length p.teams.teams → AreWithin n (team_of p.teams.teams t).members
  known_within t low high = set_within n n (team_of p.teams.teams t).members refl (ap (list_all (is_image n)) (known_there t low high) ∙ members_images t)
