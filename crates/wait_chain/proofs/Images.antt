-- Whom an image waits for is an image of the run.
use Rattle.std.proofs.Common.{◌≡◌, ℕ, zero, suc, ◌+◌, ◌-◌, ◌<◌, ◌≤◌, Bool, true, false, nat_eq, nat_le, ◌&&◌, not, List, [], ◌∷◌, ◌++◌, inl, inr, refl, ap, sym, ◌∙◌, subst, arith}
use Rattle.std.specs.Prelude.{Option, Some, None, slice_get}
use Rattle.std.specs.List.{list_all, range_with_len}
use Rattle.std.proofs.lemmas.Bool.{cases_Bool, and_parts, eqb-true, ne_eqb, leb-true}
use Rattle.caf_events.specs.declared.ask.Ask.{Ask}
use Rattle.caf_events.specs.declared.ask.Ask.TheVariants as asks
use Rattle.caf_events.specs.declared.reply.Reply.{Reply}
use Rattle.caf_events.specs.declared.event.Entry.{Entry}
use Rattle.caf_events.specs.Histories.{Served}
use Rattle.object_rules.specs.Cells.{Declared}
use Rattle.object_rules.specs.Happenings.{Happening, Class, control, collective, images, happens, happened, numbers_of, has_ended}
use Rattle.object_rules.specs.TeamRounds.{has_arrived}
use Rattle.object_rules.specs.ImagePairs.{names, last_named_from, last_named, has_partner}
use Rattle.object_rules.specs.Constructs.{free, held, construct_after}
use Rattle.object_rules.specs.Locks.{lock_after}
use Rattle.object_rules.specs.BoardTeams.{Team, teams_after, members_there, members_at}
use Rattle.object_rules.specs.BoardRules.{is_image, all_differ, fits_board, can_come, board_ready, board_reply}
use Rattle.core_runs.specs.Beginnings.{IsOneOf}
use Rattle.core_runs.specs.Lists.{image_of, key_of}
use Rattle.core_runs.specs.CoreRuns.{at_board, of_memory}
use Rattle.core_runs.specs.Lawful.{IsLawfulTrace}
use Rattle.team_laws.proofs.Teams.{teams_stay, members_of_team}
use Rattle.team_laws.proofs.Parents.{parent_before, members_of_parent}
use Rattle.wait_reason.specs.WaitsFor.{lacks_arrival, lacks_pair, waits_with}
use Rattle.wait_reason.proofs.Boards.{held_is}
use Rattle.wait_reason.proofs.Counts.{with_one, picked_one}
use Rattle.wait_reason.proofs.Fronts.{each_picked}
use Rattle.wait_chain.specs.Counts.{named_by}
use Rattle.wait_chain.proofs.Inside.{inside_image}
use Rattle.wait_chain.proofs.LockTurns.{held_image}

pub is_image_one : (n j : ℕ) → is_image n j ≡ true → IsOneOf n j
is_image_one n j h = let p = and_parts (nat_le 1 j) (nat_le j n) h in let a = leb-true 1 j p.0 in (omega arith, leb-true j n p.1)

in_range : (j a n : ℕ) → names j (range_with_len a n) ≡ true → (a ≤ j) × (j < a + n)
in_range j a zero h = absurd (cc)
in_range j a (suc n) h = elim (cases_Bool (nat_eq j a)) [
  | inl t ↦ (let e = eqb-true j a t in (omega arith, omega arith))
  | inr f ↦ (let r = in_range j (a + 1) n (rw f at h) in let x = r.0 in let y = r.1 in (omega arith, omega arith))
]

-- a test that holds of all holds of each that is named
pub passes : (p : ℕ → Bool) (j : ℕ) (ms : List ℕ) → list_all p ms ≡ true → names j ms ≡ true → p j ≡ true
passes p j [] h k = absurd (cc)
passes p j (m ∷ ms) h k =
    let q = and_parts (p m) (list_all p ms) h in
    elim (cases_Bool (nat_eq j m)) [
      | inl e ↦ subst (λ z. p z ≡ true) (sym (eqb-true j m e)) q.0
      | inr e ↦ passes p j ms q.1 (rw e at k)
    ]

-- the initial team holds all images
pub first_members : (n : ℕ) (h : List Entry) → members_at (teams_after n h) 1 ≡ range_with_len 1 n
first_members n h = let r = teams_stay n [] h in members_of_team (teams_after n h) 0 _ (ap (λ (ts : List Team). slice_get ts 0) r.1)

-- the members of a team by its place in the list
members_is : (ts : List Team) (k : ℕ) → members_at ts (suc k) ≡ members_there (slice_get ts k)
members_is ts k =
    let away : nat_eq (suc k) 0 ≡ false = ne_eqb (suc k) 0 (λ e. absurd (omega arith)) in
    let at : suc k - 1 ≡ k = omega arith in
    rw (away, at) refl

-- a team that has a member is there
some_team : (j : ℕ) (o : Option Team) → names j (members_there o) ≡ true → (x : Team) × (o ≡ Some x) × (names j x.members ≡ true)
some_team j None h = absurd (cc)
some_team j (Some x) h = (x, refl, h)

pub team_there : (ts : List Team) (j k : ℕ) → names j (members_at ts (suc k)) ≡ true → (x : Team) × (slice_get ts k ≡ Some x) × (names j x.members ≡ true)
team_there ts j k h = some_team j (slice_get ts k) (subst (λ z. names j z ≡ true) (members_is ts k) h)

members_one : (fuel n : ℕ) (h : List Entry) (t j : ℕ) → t ≤ fuel → names j (members_at (teams_after n h) t) ≡ true → IsOneOf n j
members_one zero n h zero j le w = absurd (cc)
members_one zero n h (suc t) j le w = absurd (omega arith)
members_one (suc fuel) n h zero j le w = absurd (cc)
members_one (suc fuel) n h (suc zero) j le w =
    let r = in_range j 1 n (subst (λ ms. names j ms ≡ true) (first_members n h) w) in
    let a = r.0 in
    let b = r.1 in
    (omega arith, omega arith)
members_one (suc fuel) n h (suc (suc k)) j le w =
    let x = team_there (teams_after n h) j (suc k) w in
    let lt = (parent_before n h k x.0 x.1).1 in
    members_one fuel n h x.0.parent j (omega arith) (passes (λ m. names m (members_at (teams_after n h) x.0.parent)) j x.0.members (members_of_parent n h k x.0 x.1) x.2)

-- a member of a team is an image of the run
pub member_one : (n : ℕ) (h : List Entry) (t j : ℕ) → names j (members_at (teams_after n h) t) ≡ true → IsOneOf n j
member_one n h t j w = members_one t n h t j (omega arith) w

-- all of these are images of the run
abbrev AllOne : ℕ → List ℕ → Type 0
AllOne n js = (k : ℕ) → names k js ≡ true → IsOneOf n k

named_one : (i k line : ℕ) (a : Ask) (r : Reply) (hs : List Happening) (js : List ℕ) → last_named_from i js (with_one (happens images k line a r) hs) ≡ last_named_from i (named_by i k a js) hs
named_one i k line (asks.Pair named) r hs js = refl
named_one i k line (asks.Stop code) r hs js = refl
named_one i k line asks.Gone r hs js = refl
named_one i k line a r hs js = refl

named_fit : (n : ℕ) (b : List Entry) (i k : ℕ) (a : Ask) (js : List ℕ) → board_ready n b k a ≡ true → AllOne n js → AllOne n (named_by i k a js)
named_fit n b i k (asks.Pair named) js ready all =
    let p = and_parts (is_image n k && fits_board n b k (asks.Pair named)) (can_come n b k (asks.Pair named)) ready in
    let q = and_parts (is_image n k) (fits_board n b k (asks.Pair named)) p.0 in
    let r = and_parts (list_all (is_image n) (numbers_of named)) (all_differ (numbers_of named)) q.1 in
    elim (cases_Bool (nat_eq k i)) [
      | inl t ↦ rw t (λ m w. is_image_one n m (passes (is_image n) m (numbers_of named) r.0 w))
      | inr f ↦ rw f all
    ]
named_fit n b i k a js ready all = all

named_all : (n i : ℕ) (b es : List Entry) (js : List ℕ) → Served (board_ready n) (board_reply n) b es → AllOne n js → AllOne n (last_named_from i js (happened images es))
named_all n i b [] js served all = all
named_all n i b (e ∷ es) js served all =
    subst (AllOne n)
    (sym (ap (last_named_from i js) (picked_one images e es (happens images e.image.0 e.event.line e.event.ask e.event.reply) refl) ∙ named_one i e.image.0 e.event.line e.event.ask e.event.reply (happened images es) js))
    (named_all n i (b ++ e ∷ []) es (named_by i e.image.0 e.event.ask js) served.2 (named_fit n b i e.image.0 e.event.ask js served.0 all))

-- whom an image named in its last SYNC IMAGES is one
last_named_one : (n i j : ℕ) (h : List Entry) → Served (board_ready n) (board_reply n) [] h → names j (last_named i (happened images h)) ≡ true → IsOneOf n j
last_named_one n i j h served w = named_all n i [] h [] served (λ k z. absurd (cc)) j w

module _ (coarrays : List Declared) (n : ℕ) (t : List Entry) (lawful : IsLawfulTrace coarrays n t) where
  arrival_one : (class : Class) (team round j : ℕ) → lacks_arrival class n (at_board t) team round j ≡ true → IsOneOf n j
  arrival_one class team round j w =
      let ms = members_at (teams_after n (at_board t)) team in
      let hs = happened class (at_board t) in
      let p = and_parts (names j ms && not (has_arrived team round j hs)) (not (has_ended j hs)) w in
      member_one n (at_board t) team j (and_parts (names j ms) (not (has_arrived team round j hs)) p.0).0

  pair_one : (i j : ℕ) → lacks_pair (happened images (at_board t)) i j ≡ true → IsOneOf n j
  pair_one i j w =
      let hs = happened images (at_board t) in
      let p = and_parts (names j (last_named i hs) && not (has_partner i hs j)) (not (has_ended j hs)) w in
      last_named_one n i j (at_board t) lawful.board (and_parts (names j (last_named i hs)) (not (has_partner i hs j)) p.0).0

  pub lock_one : (owner c o j : ℕ) → lock_after c o (of_memory owner t) ≡ held j → IsOneOf n j
  lock_one owner c o j h = elim (held_image n c o free (of_memory owner t) j (each_picked (λ e. IsOneOf n (image_of e)) (λ e. nat_eq (key_of e) (suc owner)) t lawful.images) h) [ inl off ↦ absurd (cc) | inr one ↦ one ]

  pub inside_one : (c j : ℕ) → construct_after c (at_board t) ≡ held j → IsOneOf n j
  inside_one c j h = elim (inside_image n c free (at_board t) j (each_picked (λ e. IsOneOf n (image_of e)) (λ e. nat_eq (key_of e) 1) t lawful.images) h) [ inl off ↦ absurd (cc) | inr one ↦ one ]

  -- so is whom one waits for
  pub waits_one : (i j : ℕ) (a : Ask) → waits_with n t i a j ≡ true → IsOneOf n j
  waits_one i j (asks.Leave team round) w = arrival_one control team.0 round j w
  waits_one i j (asks.Take team round) w = arrival_one collective team.0 round j w
  waits_one i j asks.Unpair w = pair_one i j w
  waits_one i j (asks.Lock owner span) w = lock_one owner.0 span.coarray span.start j (held_is j (lock_after span.coarray span.start (of_memory owner.0 t)) w)
  waits_one i j (asks.Enter c) w = inside_one c j (held_is j (construct_after c (at_board t)) w)
  waits_one i j a w = absurd (let z = w in cc)
