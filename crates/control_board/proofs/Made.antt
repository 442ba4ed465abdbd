-- The teams that one more entry makes.
use Rattle.std.proofs.Common.{◌≡◌, ℕ, zero, suc, ◌+◌, ◌-◌, ◌<◌, ◌≤◌, Bool, true, false, ◌&&◌, not, nat_eq, cond, List, [], ◌∷◌, ◌++◌, inl, inr, length, map, refl, ap, sym, ◌∙◌, arith, append_assoc, take}
use Rattle.std.specs.Prelude.{filter, slice_get, Option, Some, None}
use Rattle.std.specs.List.{list_any, list_all, range_with_len}
use Rattle.std.proofs.lemmas.List.{append-nil}
use Rattle.std.proofs.lemmas.Bool.{cases_Bool, eq-eqb, ne_eqb, leb-true, and_parts, or_cases, eqb-true}
use Rattle.caf_events.specs.declared.ask.Ask.{Ask}
use Rattle.caf_events.specs.declared.ask.Ask.TheVariants as asks
use Rattle.caf_events.specs.declared.reply.Reply.{Reply}
use Rattle.caf_events.specs.declared.reply.Reply.TheVariants as replies
use Rattle.caf_events.specs.declared.round.Arriving.TheVariants as arrivings
use Rattle.caf_events.specs.declared.round.RoundKind.{RoundKind}
use Rattle.caf_events.specs.declared.event.Entry.{Entry}
use Rattle.object_rules.specs.Happenings.{Happening, arrives, control, happens, happened}
use Rattle.object_rules.specs.TeamRounds.{is_arrival, arrivals, has_arrived, has_closed, opening_of, missed_by}
use Rattle.object_rules.specs.FormedTeams.{FormArg, Members, formed}
use Rattle.object_rules.specs.BoardRules.{is_image}
use Rattle.object_rules.specs.BoardTeams.{Team, arrives_there, nth_arrival, round_of, form_arg, form_args, is_form, teams_made, most_joined, closes_now, made_in_rounds, made_in_team, made_by, members_at, members_there}
use Rattle.team_round.proofs.Making.{made_there, made_arrival, happened_some}
use Rattle.team_round.proofs.Telling.{end_closed, end_counts}
use Rattle.failure_status.specs.Endings.{end_of}
use Rattle.team_tree.proofs.Formed.{formed_are}
use Rattle.control_board.specs.Boards.{team_with, are_images, made_at, made_over, Ends}
use Rattle.control_board.proofs.Forms.{there}

-- ---- what rounds make, one by one
over_is : (t : ℕ) (ms : List ℕ) (h : List Entry) (e : Entry) (rs : List ℕ) → made_in_rounds t ms (h ++ e ∷ []) (filter (closes_now t ms (happened control h) (happened control (h ++ e ∷ []))) rs) ≡ made_over t ms h e rs
over_is t ms h e [] = refl
over_is t ms h e (r ∷ rs) = elim (cases_Bool (closes_now t ms (happened control h) (happened control (h ++ e ∷ [])) r)) [
  | inl y ↦ rw y (ap (λ l. teams_made t r ms (h ++ e ∷ []) ++ l) (over_is t ms h e rs))
  | inr n ↦ rw n (over_is t ms h e rs)
]

pub over_append : (t : ℕ) (ms : List ℕ) (h : List Entry) (e : Entry) (xs ys : List ℕ) → made_over t ms h e (xs ++ ys) ≡ made_over t ms h e xs ++ made_over t ms h e ys
over_append t ms h e [] ys = refl
over_append t ms h e (x ∷ xs) ys = ap (λ l. made_at t x ms h e ++ l) (over_append t ms h e xs ys) ∙ sym (append_assoc (made_at t x ms h e) (made_over t ms h e xs) (made_over t ms h e ys))

over_none : (t : ℕ) (ms : List ℕ) (h : List Entry) (e : Entry) (a k : ℕ) → ((r : ℕ) → a ≤ r → r < a + k → made_at t r ms h e ≡ []) → made_over t ms h e (range_with_len a k) ≡ []
over_none t ms h e a zero f = refl
over_none t ms h e a (suc k) f = ap (λ l. l ++ made_over t ms h e (range_with_len (a + 1) k)) (f a (omega arith) (omega arith)) ∙ over_none t ms h e (a + 1) k (λ r l u. f r (omega arith) (omega arith))

range_split : (a j k : ℕ) → range_with_len a (j + k) ≡ range_with_len a j ++ range_with_len (a + j) k
range_split a zero k = let e : a + 0 ≡ a = omega arith in let z : 0 + k ≡ k = omega arith in ap (range_with_len a) z ∙ ap (λ b. range_with_len b k) (sym e)
range_split a (suc j) k =
    let e : suc j + k ≡ suc (j + k) = omega arith in
    let f : a + 1 + j ≡ a + suc j = omega arith in
    ap (range_with_len a) e ∙ ap (λ l. a ∷ l) (range_split (a + 1) j k ∙ ap (λ b. range_with_len (a + 1) j ++ range_with_len b k) f)

pub range_last : (a k : ℕ) → range_with_len a (k + 1) ≡ range_with_len a k ++ (a + k) ∷ []
range_last a k = range_split a k 1

-- the next round of those after a place
pub over_next : (t : ℕ) (ms : List ℕ) (h : List Entry) (e : Entry) (from r : ℕ) → from ≤ r → made_over t ms h e (range_with_len (from + 1) (r - from)) ++ made_at t (r + 1) ms h e ≡ made_over t ms h e (range_with_len (from + 1) (r + 1 - from))
over_next t ms h e from r low =
    let k : r - from + 1 ≡ r + 1 - from = omega arith in
    let q : from + 1 + (r - from) ≡ r + 1 = omega arith in
    ap (λ l. made_over t ms h e (range_with_len (from + 1) (r - from)) ++ l) (sym (append-nil (made_at t (r + 1) ms h e)) ∙ ap (λ j. made_over t ms h e (j ∷ [])) (sym q))
    ∙ sym (over_append t ms h e (range_with_len (from + 1) (r - from)) ((from + 1 + (r - from)) ∷ []))
    ∙ ap (made_over t ms h e) (sym (range_last (from + 1) (r - from))) ∙ ap (λ j. made_over t ms h e (range_with_len (from + 1) j)) k

over_cut : (t : ℕ) (ms : List ℕ) (h : List Entry) (e : Entry) (j k : ℕ) → ((r : ℕ) → j < r → made_at t r ms h e ≡ []) → j ≤ k → made_over t ms h e (range_with_len 1 k) ≡ made_over t ms h e (range_with_len 1 j)
over_cut t ms h e j k f l =
    let s : j + (k - j) ≡ k = omega arith in
    ap (λ q. made_over t ms h e (range_with_len 1 q)) (sym s) ∙ ap (made_over t ms h e) (range_split 1 j (k - j)) ∙ over_append t ms h e (range_with_len 1 j) (range_with_len (1 + j) (k - j))
    ∙ ap (λ q. made_over t ms h e (range_with_len 1 j) ++ q) (over_none t ms h e (1 + j) (k - j) (λ r a b. f r (omega arith)))
    ∙ append-nil (made_over t ms h e (range_with_len 1 j))

over_after : (t : ℕ) (ms : List ℕ) (h : List Entry) (e : Entry) (j k : ℕ) → ((r : ℕ) → 0 < r → r ≤ j → made_at t r ms h e ≡ []) → j ≤ k → made_over t ms h e (range_with_len 1 k) ≡ made_over t ms h e (range_with_len (j + 1) (k - j))
over_after t ms h e j k f l =
    let s : j + (k - j) ≡ k = omega arith in
    let q : 1 + j ≡ j + 1 = omega arith in
    ap (λ q. made_over t ms h e (range_with_len 1 q)) (sym s) ∙ ap (made_over t ms h e) (range_split 1 j (k - j)) ∙ over_append t ms h e (range_with_len 1 j) (range_with_len (1 + j) (k - j))
    ∙ ap (λ q. q ++ made_over t ms h e (range_with_len (1 + j) (k - j))) (over_none t ms h e 1 j (λ r a b. f r (omega arith) (omega arith)))
    ∙ ap (λ b. made_over t ms h e (range_with_len b (k - j))) q

-- ---- an end
closes_not : (t r : ℕ) (ms : List ℕ) (h : List Entry) (e : Entry) → closes_now t ms (happened control h) (happened control (h ++ e ∷ [])) r ≡ false → made_at t r ms h e ≡ []
closes_not t r ms h e n = rw n refl

never : (b : Bool) → (not b && b) ≡ false
never true = refl
never false = refl

second : (b c : Bool) → c ≡ false → (b && c) ≡ false
second true c e = e
second false c e = refl

first_not : (b c : Bool) → b ≡ false → (b && c) ≡ false
first_not true c e = absurd (cc)
first_not false c e = refl

arrived_most : (t r : ℕ) (ms : List ℕ) (hs : List Happening) → list_any (λ m. has_arrived t r m hs) ms ≡ true → r ≤ most_joined t ms hs
arrived_most t r [] hs h = absurd (cc)
arrived_most t r (m ∷ ms) hs h = elim (or_cases (has_arrived t r m hs) (list_any (λ k. has_arrived t r k hs) ms) h) [
  | inl a ↦ (let l = leb-true r (arrivals t m hs) a in omega arith)
  | inr b ↦ (let l = arrived_most t r ms hs b in omega arith)
]

past_most : (t r : ℕ) (ms : List ℕ) (before hs : List Happening) → most_joined t ms hs < r → closes_now t ms before hs r ≡ false
past_most t r ms before hs l = elim (cases_Bool (list_any (λ m. has_arrived t r m hs) ms)) [
  | inl y ↦ absurd (let w = arrived_most t r ms hs y in omega arith)
  | inr n ↦ second (not (has_closed ms t r before)) (has_closed ms t r hs) (first_not (list_any (λ m. has_arrived t r m hs) ms) _ n)
]

most_few : (t : ℕ) (ms : List ℕ) (hs : List Happening) (k : ℕ) → ((m : ℕ) → arrivals t m hs ≤ k) → most_joined t ms hs ≤ k
most_few t [] hs k f = omega arith
most_few t (m ∷ ms) hs k f = let a = f m in let b = most_few t ms hs k f in omega arith

-- the teams that an end makes of a team's rounds: those that the image hasn't joined
pub team_ends : (t : ℕ) (ms : List ℕ) (h : List Entry) (e : Entry) (i : ℕ) (failed : Bool) (j k : ℕ) → Ends e i failed → j ≡ arrivals t i (happened control h) → ((m : ℕ) → arrivals t m (happened control h) ≤ k)
    → made_in_team t ms h e ≡ made_over t ms h e (range_with_len (j + 1) (k - j))
team_ends t ms h e i failed j k ends joined few =
    let now : happened control (h ++ e ∷ []) ≡ happened control h ++ end_of i failed ∷ [] = happened_some control h e (end_of i failed) ends in
    let most : most_joined t ms (happened control (h ++ e ∷ [])) ≤ k = most_few t ms (happened control (h ++ e ∷ [])) k (λ m. (let c = few m in let d : arrivals t m (happened control (h ++ e ∷ [])) ≡ arrivals t m (happened control h) = ap (arrivals t m) now ∙ end_counts t m i failed (happened control h) in omega arith)) in
    over_is t ms h e (range_with_len 1 (most_joined t ms (happened control (h ++ e ∷ []))))
    ∙ sym (over_cut t ms h e (most_joined t ms (happened control (h ++ e ∷ []))) k (λ r l. closes_not t r ms h e (past_most t r ms (happened control h) (happened control (h ++ e ∷ [])) l)) most)
    ∙ over_after t ms h e j k (λ r a b. closes_not t r ms h e (
    ap (λ hs. closes_now t ms (happened control h) hs r) now
    ∙ ap (λ c. not (has_closed ms t r (happened control h)) && c) (end_closed ms t r i failed (happened control h) (omega arith))
    ∙ never (has_closed ms t r (happened control h)))) (let c = few i in omega arith)

-- one team more
by_last : (t : ℕ) (ts : List Team) (x : Team) (h : List Entry) (e : Entry) → made_by t (ts ++ x ∷ []) h e ≡ made_by t ts h e ++ made_in_team (t + length ts) x.members h e
by_last t [] x h e = let q : t + 0 ≡ t = omega arith in append-nil (made_in_team t x.members h e) ∙ ap (λ k. made_in_team k x.members h e) (sym q)
by_last t (y ∷ ys) x h e =
    let q : suc t + length ys ≡ t + suc (length ys) = omega arith in
    ap (λ l. made_in_team t y.members h e ++ l) (by_last (suc t) ys x h e) ∙ sym (append_assoc (made_in_team t y.members h e) (made_by (suc t) ys h e) (made_in_team (suc t + length ys) x.members h e))
    ∙ ap (λ k. (made_in_team t y.members h e ++ made_by (suc t) ys h e) ++ made_in_team k x.members h e) q

pub take_last : (ts : List Team) (k : ℕ) → k < length ts → (x : Team) × (slice_get ts k ≡ Some x) × (take (k + 1) ts ≡ take k ts ++ x ∷ []) × (length (take k ts) ≡ k)
take_last [] k l = absurd (omega arith)
take_last (x ∷ xs) zero l = (x, refl, refl, refl)
take_last (x ∷ xs) (suc k) l =
    let r = take_last xs k (omega arith) in
    let e : suc k + 1 ≡ suc (k + 1) = omega arith in
    (r.0, r.1, ap (λ j. take j (x ∷ xs)) e ∙ ap (λ q. x ∷ q) r.2, ap suc r.3)

members_got : (ts : List Team) (k : ℕ) (x : Team) → slice_get ts k ≡ Some x → members_at ts (k + 1) ≡ x.members
members_got ts k x e =
    let z : nat_eq (k + 1) 0 ≡ false = ne_eqb (k + 1) 0 (λ q. absurd (omega arith)) in
    let q : k + 1 - 1 ≡ k = omega arith in
    rw z (ap (λ j. members_there (slice_get ts j)) q ∙ ap members_there e)

pub by_more : (ts : List Team) (k : ℕ) (h : List Entry) (e : Entry) → k < length ts → made_by 1 (take (k + 1) ts) h e ≡ made_by 1 (take k ts) h e ++ made_in_team (k + 1) (members_at ts (k + 1)) h e
by_more ts k h e l =
    let r = take_last ts k l in
    let q : 1 + length (take k ts) ≡ k + 1 = omega (arith, r.3) in
    ap (λ us. made_by 1 us h e) r.2 ∙ by_last 1 (take k ts) r.0 h e
    ∙ ap (λ j. made_by 1 (take k ts) h e ++ made_in_team j r.0.members h e) q
    ∙ ap (λ ms. made_by 1 (take k ts) h e ++ made_in_team (k + 1) ms h e) (sym (members_got ts k r.0 r.1))

-- ---- an arrival
module _ (h : List Entry) (e : Entry) (team i : ℕ) (kind : RoundKind) (line : ℕ) (is : happens control e.image.0 e.event.line e.event.ask e.event.reply ≡ Some (arrives team i kind line)) where
  there_past : (t : ℕ) (ts : List Team) → team < t → made_there h e team i kind line is t ts ≡ []
  there_past t [] l = refl
  there_past t (x ∷ xs) l = rw (ne_eqb t team (λ q. absurd (omega arith))) (there_past (suc t) xs (omega arith))

  there_at : (t : ℕ) (ts : List Team) (k : ℕ) (x : Team) → slice_get ts k ≡ Some x → team ≡ t + k → made_there h e team i kind line is t ts ≡ made_at team (suc (arrivals team i (happened control h))) x.members h e
  there_at t [] k x g q = absurd (cc)
  there_at t (y ∷ ys) zero x g q =
      let same : y ≡ x = cc in
      let n : t ≡ team = omega arith in
      rw (eq-eqb t team n) (
      ap (λ l. cond (closes_now t y.members (happened control h) (happened control (h ++ e ∷ [])) (suc (arrivals team i (happened control h)))) (teams_made t (suc (arrivals team i (happened control h))) y.members (h ++ e ∷ []) ++ []) [] ++ l) (there_past (suc t) ys (omega arith))
      ∙ append-nil (cond (closes_now t y.members (happened control h) (happened control (h ++ e ∷ [])) (suc (arrivals team i (happened control h)))) (teams_made t (suc (arrivals team i (happened control h))) y.members (h ++ e ∷ []) ++ []) [])
      ∙ ap (λ l. cond (closes_now t y.members (happened control h) (happened control (h ++ e ∷ [])) (suc (arrivals team i (happened control h)))) l []) (append-nil (teams_made t (suc (arrivals team i (happened control h))) y.members (h ++ e ∷ [])))
      ∙ ap (λ u. made_at u (suc (arrivals team i (happened control h))) y.members h e) n
      ∙ ap (λ (z : Team). made_at team (suc (arrivals team i (happened control h))) z.members h e) same)
  there_at t (y ∷ ys) (suc k) x g q = rw (ne_eqb t team (λ w. absurd (omega arith))) (there_at (suc t) ys k x g (omega arith))

  pub arrival_makes : (ts : List Team) (x : Team) → 0 < team → slice_get ts (team - 1) ≡ Some x → made_by 1 ts h e ≡ made_at team (suc (arrivals team i (happened control h))) (members_at ts team) h e
  arrival_makes ts x low g =
      let s : team - 1 + 1 ≡ team = omega arith in
      made_arrival h e team i kind line is 1 ts ∙ there_at 1 ts (team - 1) x g (omega arith)
      ∙ ap (λ ms. made_at team (suc (arrivals team i (happened control h))) ms h e) (sym (members_got ts (team - 1) x g) ∙ ap (members_at ts) s)

-- ---- the members of the teams that are made are images of the run
arrives_as : (i line m t : ℕ) (a : Ask) (r : Reply) (x : Happening) → happens control i line a r ≡ Some x → is_arrival t m x ≡ true → i ≡ m
arrives_as i line m t (asks.Arrive team arriving) (replies.Round round) x h y =
    let s : is_arrival t m x ≡ (nat_eq team.0 t && nat_eq i m) = ap (is_arrival t m) (same h) in
    eqb-true i m (and_parts (nat_eq team.0 t) (nat_eq i m) (sym s ∙ y)).1
  where
    same : {A : Type 0} {x y : A} → Some x ≡ Some y → y ≡ x
    same e = cc
arrives_as i line m t (asks.Stop code) r x h y = absurd (let s : is_arrival t m x ≡ false = ap (is_arrival t m) (same h) in let w : true ≡ false = sym y ∙ s in cc)
  where
    same : {A : Type 0} {x y : A} → Some x ≡ Some y → y ≡ x
    same e = cc
arrives_as i line m t asks.Gone r x h y = absurd (let s : is_arrival t m x ≡ false = ap (is_arrival t m) (same h) in let w : true ≡ false = sym y ∙ s in cc)
  where
    same : {A : Type 0} {x y : A} → Some x ≡ Some y → y ≡ x
    same e = cc
arrives_as i line m t a r x h y = absurd (cc)

there_image : (t m : ℕ) (e : Entry) → there t m e ≡ true → e.image.0 ≡ m
there_image t m e y = by (happens control e.image.0 e.event.line e.event.ask e.event.reply) refl y
  where
    by : (o : Option Happening) → happens control e.image.0 e.event.line e.event.ask e.event.reply ≡ o → arrives_there t m o ≡ true → e.image.0 ≡ m
    by None q y = absurd (cc)
    by (Some x) q y = arrives_as e.image.0 e.event.line m t e.event.ask e.event.reply x q y

nth_image : (t m r : ℕ) (h : List Entry) (e : Entry) → nth_arrival control t m r h ≡ Some e → e.image.0 ≡ m
nth_image t m r [] e q = absurd (cc)
nth_image t m r (x ∷ xs) e q = elim (cases_Bool (there t m x)) [
  | inl y ↦ elim (cases_Bool (nat_eq r 1)) [
    | inl one ↦ (let s : Some x ≡ Some e = sym (rw (y, one) refl) ∙ q in ap (λ (z : Entry). z.image.0) (let w : e ≡ x = cc in w) ∙ there_image t m x y)
    | inr more ↦ nth_image t m (r - 1) xs e (sym (rw (y, more) refl) ∙ q)
  ]
  | inr n ↦ nth_image t m r xs e (sym (rw n refl) ∙ q)
]

form_image : (i : ℕ) (a : Ask) (x : FormArg) → form_arg i a ≡ Some x → x.image ≡ i
form_image i (asks.Arrive team (arrivings.Form number new_index)) x e = let w : record { image = i; number = number; new_index = new_index } ≡ x = cc in sym (ap (λ (z : FormArg). z.image) w)
form_image i a x e = absurd (cc)

args_images : (n t r : ℕ) (h : List Entry) (ms : List ℕ) → list_all (is_image n) ms ≡ true → list_all (λ a. is_image n a.image) (form_args (round_of control t r ms h)) ≡ true
args_images n t r h [] q = refl
args_images n t r h (m ∷ ms) q =
    let s = and_parts (is_image n m) (list_all (is_image n) ms) q in
    by (nth_arrival control t m r h) refl s.0 (args_images n t r h ms s.1)
  where
    also : (a : Bool) (b : Bool) → a ≡ true → b ≡ true → (a && b) ≡ true
    also true b e f = f
    also false b e f = absurd (cc)

    given : (e : Entry) → nth_arrival control t m r h ≡ Some e → (o : Option FormArg) → form_arg e.image.0 e.event.ask ≡ o → is_image n m ≡ true → list_all (λ (a : FormArg). is_image n a.image) (form_args (round_of control t r ms h)) ≡ true
        → list_all (λ (a : FormArg). is_image n a.image) (form_args (round_of control t r (m ∷ ms) h)) ≡ true
    given e q None s low rest = rw q (rw s rest)
    given e q (Some a) s low rest = rw q (rw s (also (is_image n a.image) _ (ap (is_image n) (form_image e.image.0 e.event.ask a s ∙ nth_image t m r h e q) ∙ low) rest))

    by : (o : Option Entry) → nth_arrival control t m r h ≡ o → is_image n m ≡ true → list_all (λ (a : FormArg). is_image n a.image) (form_args (round_of control t r ms h)) ≡ true → list_all (λ (a : FormArg). is_image n a.image) (form_args (round_of control t r (m ∷ ms) h)) ≡ true
    by None q low rest = rw q rest
    by (Some e) q low rest = given e q (form_arg e.image.0 e.event.ask) refl low rest

teams_images : (n t r : ℕ) (ts : List Members) → list_all (λ (x : Members). list_all (is_image n) x.images) ts ≡ true → are_images n (map (team_with t r) ts) ≡ true
teams_images n t r [] q = refl
teams_images n t r (x ∷ xs) q =
    let s = and_parts (list_all (is_image n) x.images) (list_all (λ (y : Members). list_all (is_image n) y.images) xs) q in
    rw s.0 (teams_images n t r xs s.1)

pub images_append : (n : ℕ) (xs ys : List Team) → are_images n xs ≡ true → are_images n ys ≡ true → are_images n (xs ++ ys) ≡ true
images_append n [] ys p q = q
images_append n (x ∷ xs) ys p q = let s = and_parts (list_all (is_image n) x.members) (are_images n xs) p in rw s.0 (images_append n xs ys s.1 q)

made_images : (n t r : ℕ) (ms : List ℕ) (f : List Entry) → list_all (is_image n) ms ≡ true → are_images n (teams_made t r ms f) ≡ true
made_images n t r ms f q = elim (cases_Bool (is_form (opening_of t r (happened control f)))) [
  | inl y ↦ rw y (teams_images n t r (formed (missed_by ms (happened control f)).stopped (missed_by ms (happened control f)).failed (form_args (round_of control t r ms f)))
      (formed_are (is_image n) (missed_by ms (happened control f)).stopped (missed_by ms (happened control f)).failed (form_args (round_of control t r ms f)) (args_images n t r f ms q)))
  | inr z ↦ rw z refl
]

rounds_images : (n t : ℕ) (ms : List ℕ) (f : List Entry) (rs : List ℕ) → list_all (is_image n) ms ≡ true → are_images n (made_in_rounds t ms f rs) ≡ true
rounds_images n t ms f [] q = refl
rounds_images n t ms f (r ∷ rs) q = images_append n (teams_made t r ms f) (made_in_rounds t ms f rs) (made_images n t r ms f q) (rounds_images n t ms f rs q)

pub by_images : (n t : ℕ) (ts : List Team) (h : List Entry) (e : Entry) → are_images n ts ≡ true → are_images n (made_by t ts h e) ≡ true
by_images n t [] h e q = refl
by_images n t (x ∷ xs) h e q =
    let s = and_parts (list_all (is_image n) x.members) (are_images n xs) q in
    images_append n (made_in_team t x.members h e) (made_by (suc t) xs h e) (rounds_images n t x.members (h ++ e ∷ []) _ s.0) (by_images n (suc t) xs h e s.1)

pub take_all : (ts : List Team) (k : ℕ) → length ts ≤ k → take k ts ≡ ts
take_all [] zero l = refl
take_all [] (suc k) l = refl
take_all (x ∷ xs) zero l = absurd (omega arith)
take_all (x ∷ xs) (suc k) l = ap (λ q. x ∷ q) (take_all xs k (omega arith))
