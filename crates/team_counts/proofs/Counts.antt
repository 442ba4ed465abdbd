-- A history makes no more teams than it has entries.
use Rattle.std.proofs.Common.{◌≡◌, ℕ, zero, suc, ◌+◌, ◌≤◌, Bool, true, false, ◌&&◌, cond, List, [], ◌∷◌, length, inl, inr, refl, ap, sym, ◌∙◌, subst, arith}
use Rattle.std.specs.Prelude.{nat_eq, Option, Some, None, slice_get}
use Rattle.std.proofs.lemmas.Bool.{cases_Bool, and_from, eq-eqb}
use Rattle.trace_theory.specs.Entries.{Each}
use Rattle.caf_events.specs.declared.event.Entry.{Entry}
use Rattle.object_rules.specs.Happenings.{Happening, arrives, pairs, stops, fails, control, happened}
use Rattle.object_rules.specs.TeamRounds.{is_arrival, arrivals}
use Rattle.object_rules.specs.BoardTeams.{Team, teams_made, teams_after}
use Rattle.team_laws.proofs.Lists.{each_from, get_low}
use Rattle.team_laws.proofs.Times.{times}
use Rattle.team_laws.proofs.Teams.{teams_stay}
use Rattle.team_laws.proofs.Rounds.{closing_is}
use Rattle.team_laws.proofs.MadeTeams.{is_of_round, of_round, made_after}
use Rattle.team_laws.proofs.OnceMembers.{members_once}
use Rattle.team_laws.proofs.Parents.{parent_before}
use Rattle.team_counts.proofs.Sums.{sum_to, sum_of, to_both, of_both, to_le, of_le, to_none, of_none, swapped, one_to, is_within, within, next_once}
use Rattle.team_counts.proofs.Rounds.{happened_few, round_makes}

-- ---- arrivals at a team
abbrev is_there : ℕ → Happening → Bool
is_there t (arrives u i kind line) = nat_eq u t
is_there t x = false

abbrev at_team : ℕ → List Happening → ℕ
at_team t [] = 0
at_team t (x ∷ xs) = cond (is_there t x) 1 0 + at_team t xs

-- of members none of whom stands twice one arrives at a time
same_times : (b : Bool) (i : ℕ) (ms : List ℕ) → times i ms ≤ 1 → sum_of (λ m. cond (b && nat_eq i m) 1 0) ms ≤ cond b 1 0
same_times false i ms h = (let e = of_none ms in omega arith)
same_times true i ms h = (let e = as_times ms in omega arith)
  where
    as_times : (ms : List ℕ) → sum_of (λ m. cond (nat_eq i m) 1 0) ms ≡ times i ms
    as_times [] = refl
    as_times (m ∷ ms) = (let r = as_times ms in omega arith)

one_arrives : (t : ℕ) (ms : List ℕ) (x : Happening) → ((i : ℕ) → times i ms ≤ 1)
    → sum_of (λ m. cond (is_arrival t m x) 1 0) ms ≤ cond (is_there t x) 1 0
one_arrives t ms (arrives u i kind line) h = same_times (nat_eq u t) i ms (h i)
one_arrives t ms (pairs i set) h = (let e = of_none ms in omega arith)
one_arrives t ms (stops i) h = (let e = of_none ms in omega arith)
one_arrives t ms (fails i) h = (let e = of_none ms in omega arith)

members_arrive : (t : ℕ) (ms : List ℕ) (hs : List Happening) → ((i : ℕ) → times i ms ≤ 1) → sum_of (λ m. arrivals t m hs) ms ≤ at_team t hs
members_arrive t ms [] h = (let e = of_none ms in omega arith)
members_arrive t ms (x ∷ hs) h =
    let r = members_arrive t ms hs h in
    let b = of_both (λ m. cond (is_arrival t m x) 1 0) (λ m. arrivals t m hs) ms in
    let o = one_arrives t ms x h in
    omega arith

one_team : (k : ℕ) (x : Happening) → sum_to (λ t. cond (is_there (suc t) x) 1 0) k ≤ 1
one_team k (arrives u i kind line) = next_once u k
one_team k (pairs i set) = (let e = to_none k in omega arith)
one_team k (stops i) = (let e = to_none k in omega arith)
one_team k (fails i) = (let e = to_none k in omega arith)

all_arrive : (k : ℕ) (hs : List Happening) → sum_to (λ t. at_team (suc t) hs) k ≤ length hs
all_arrive k [] = (let e = to_none k in omega arith)
all_arrive k (x ∷ hs) =
    let r = all_arrive k hs in
    let b = to_both (λ t. cond (is_there (suc t) x) 1 0) (λ t. at_team (suc t) hs) k in
    let o = one_team k x in
    omega arith

-- ---- the teams of each round
abbrev made : ℕ → ℕ → List Team → ℕ
made t r ts = length (of_round t r ts)

more_made : (t r : ℕ) (x : Team) (xs : List Team) → made t r (x ∷ xs) ≡ cond (is_of_round t r x) 1 0 + made t r xs
more_made t r x xs = elim (cases_Bool (is_of_round t r x)) [ inl y ↦ rw y (omega arith) | inr f ↦ rw f (omega arith) ]

-- each of these teams is of one of the rounds 0 to k of one of the teams 1 to suc j
abbrev IsIn : ℕ → ℕ → Team → Type 0
IsIn j k x = (p : ℕ) × (x.parent ≡ suc p) × (p ≤ j) × (x.round ≤ k)

abbrev hit : Team → ℕ → ℕ → ℕ
hit x t r = cond (is_of_round (suc t) r x) 1 0

is_hit : (j k : ℕ) (x : Team) → IsIn j k x → 1 ≤ sum_to (λ t. sum_to (hit x t) k) j
is_hit j k x h =
    let one : hit x h.0 x.round ≡ 1 = ap (λ b. cond b 1 0)
    (and_from (nat_eq x.parent (suc h.0)) (nat_eq x.round x.round) (eq-eqb x.parent (suc h.0) h.1) (eq-eqb x.round x.round refl)) in
    let a = one_to (hit x h.0) k x.round h.3 in
    let b = one_to (λ t. sum_to (hit x t) k) j h.0 h.2 in
    omega arith

covers : (j k : ℕ) (xs : List Team) → Each (IsIn j k) xs → length xs ≤ sum_to (λ t. sum_to (λ r. made (suc t) r xs) k) j
covers j k [] h = omega arith
covers j k (x ∷ xs) h =
    let rest = covers j k xs h.1 in
    let here = is_hit j k x h.0 in
    let both = to_both (λ t. sum_to (hit x t) k) (λ t. sum_to (λ r. made (suc t) r xs) k) j in
    let more = to_le (λ t. sum_to (hit x t) k + sum_to (λ r. made (suc t) r xs) k) (λ t. sum_to (λ r. made (suc t) r (x ∷ xs)) k) j (λ t.
    let b = to_both (hit x t) (λ r. made (suc t) r xs) k in
    let l = to_le (λ r. hit x t r + made (suc t) r xs) (λ r. made (suc t) r (x ∷ xs)) k
    (λ r. let e = more_made (suc t) r x xs in omega arith) in
    omega arith) in
    omega arith

abbrev rounds : List Team → ℕ
rounds [] = 0
rounds (x ∷ xs) = x.round + rounds xs

get_round : (xs : List Team) (k : ℕ) (x : Team) → slice_get xs k ≡ Some x → x.round ≤ rounds xs
get_round [] k x e = absurd (cc)
get_round (y ∷ ys) zero x e = (let w : y ≡ x = cc in subst (λ (z : Team). z.round ≤ y.round + rounds ys) w (omega arith))
get_round (y ∷ ys) (suc k) x e = (let r = get_round ys k x e in omega arith)

before_it : (q : ℕ) → 1 ≤ q → (p : ℕ) × (q ≡ suc p)
before_it zero h = absurd (omega arith)
before_it (suc p) h = (p, refl)

module _ (n : ℕ) (h : List Entry) where
  abbrev ts : List Team
  ts = teams_after n h

  abbrev arrived : ℕ → ℕ → ℕ
  arrived t m = arrivals (suc t) m (happened control h)

  same_parent : (j k : ℕ) (x y : Team) → slice_get ts j ≡ Some x → slice_get ts k ≡ Some y → j ≡ k → x ≡ y
  same_parent j k x y p q e = let w : Some x ≡ Some y = sym p ∙ ap (slice_get ts) e ∙ q in cc

  round_bound : (t r : ℕ) (x : Team) → slice_get ts t ≡ Some x → made (suc t) r ts ≤ sum_of (λ m. is_within (arrived t m) r) x.members
  round_bound t r x there = elim (made_after (suc t) r n h (omega arith)) [
    | inl nil ↦ (let e = ap length nil in omega arith)
    | inr m ↦ (
        let number = m.number in
        let c = closing_is control (suc t) r m.parent.members h m.front m.closed in
        let a = round_makes (suc t) r m.front c.0 m.parent.members in
        let b : length (teams_made (suc t) r m.parent.members m.front) ≤ sum_of (λ i. is_within (arrived t i) r) m.parent.members
        = subst (λ z. length (teams_made (suc t) r m.parent.members m.front) ≤ sum_of
        (λ i. is_within (arrivals (suc t) i (happened control z)) r) m.parent.members) (sym c.1) a in
        let e = ap length m.made in
        subst (λ (z : Team). made (suc t) r ts ≤ sum_of (λ i. is_within (arrived t i) r) z.members)
        (same_parent m.place t m.parent x m.there there (omega arith)) (omega arith))
  ]

  no_round : (t r : ℕ) → slice_get ts t ≡ None → made (suc t) r ts ≤ 0
  no_round t r there = elim (made_after (suc t) r n h (omega arith)) [
    | inl nil ↦ (let e = ap length nil in omega arith)
    | inr m ↦ (
        let number = m.number in
        let place : m.place ≡ t = omega arith in
        let w : Some m.parent ≡ None = sym m.there ∙ ap (slice_get ts) place ∙ there in
        absurd (cc))
  ]

  team_makes : (t k : ℕ) → sum_to (λ r. made (suc t) r ts) k ≤ at_team (suc t) (happened control h)
  team_makes t k = by (slice_get ts t) refl
    where
      by : (o : Option Team) → slice_get ts t ≡ o → sum_to (λ r. made (suc t) r ts) k ≤ at_team (suc t) (happened control h)
      by None e = (let a = to_le (λ r. made (suc t) r ts) (λ r. 0) k (λ r. no_round t r e) in let b = to_none k in omega arith)
      by (Some x) e =
          let a = to_le (λ r. made (suc t) r ts) (λ r. sum_of (λ m. is_within (arrived t m) r) x.members) k (λ r. round_bound t r x e) in
          let b = swapped (λ r m. is_within (arrived t m) r) k x.members in
          let c = of_le (λ m. sum_to (λ r. is_within (arrived t m) r) k) (λ m. arrived t m) x.members (λ m. within (arrived t m) k) in
          let d = members_arrive (suc t) x.members (happened control h) (λ m. members_once m n h t x e) in
          omega arith

  -- those behind the first one
  rest_few : (x : Team) (new : List Team) → ts ≡ x ∷ new → length new ≤ length h
  rest_few x new split =
      let j = length new in
      let k = rounds new in
      let inside = each_from (IsIn j k) new (λ i y e.
      let q = parent_before n h i y (ap (λ z. slice_get z (suc i)) split ∙ e) in
      let p = before_it y.parent q.0 in
      let low = get_low new i y e in
      let high = q.1 in
      let is = p.1 in
      (p.0, p.1, omega arith, get_round new i y e)) in
      let a = covers j k new inside in
      let b = to_le (λ t. sum_to (λ r. made (suc t) r new) k) (λ t. sum_to (λ r. made (suc t) r ts) k) j (λ t.
      to_le (λ r. made (suc t) r new) (λ r. made (suc t) r ts) k
      (λ r. let e = ap (made (suc t) r) split in let m = more_made (suc t) r x new in omega arith)) in
      let c = to_le (λ t. sum_to (λ r. made (suc t) r ts) k) (λ t. at_team (suc t) (happened control h)) j (λ t. team_makes t k) in
      let d = all_arrive j (happened control h) in
      let f = happened_few h in
      omega arith

pub teams_few : (n : ℕ) (h : List Entry) → length (teams_after n h) ≤ suc (length h)
teams_few n h =
    let s = teams_stay n [] h in
    let r = rest_few n h _ s.0 s.1 in
    let e = ap length s.1 in
    omega arith
