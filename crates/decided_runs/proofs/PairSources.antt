-- Who ends SYNC IMAGES has the same sources in every run: the segments in which the images that it named began theirs.
use Rattle.std.proofs.Common.{◌≡◌, ◌⊎◌, ◌≤◌, ℕ, suc, ◌+◌, ◌-◌, Bool, true, false, IsTrue, nat_eq, nat_le, ◌&&◌, ◌||◌, not, cond, List, [], ◌∷◌, ◌++◌, length, map, inl, inr, refl, ap, sym, ◌∙◌, subst, arith, append_assoc}
use Rattle.std.specs.Prelude.{zero, take, drop, Option, Some, None}
use Rattle.std.specs.List.{flat_map}
use Rattle.std.proofs.lemmas.List.{append-nil}
use Rattle.std.proofs.lemmas.Bool.{cases_Bool, or_cases, or_left, or_right, both_ways, leb-true, eqb-true, eq-eqb}
use Rattle.trace_theory.specs.Machines.{Said}
use Rattle.caf_base.specs.declared.place.ImageNo.{ImageNo}
use Rattle.caf_events.specs.declared.ask.Ask.{Ask}
use Rattle.caf_events.specs.declared.ask.Ask.TheVariants as asks
use Rattle.caf_events.specs.declared.reply.Reply.{Reply}
use Rattle.caf_events.specs.declared.reply.Reply.TheVariants as replies
use Rattle.caf_events.specs.declared.event.Entry.{Entry}
use Rattle.caf_events.specs.Asks.{place_of}
use Rattle.object_rules.specs.Cells.{Declared}
use Rattle.object_rules.specs.Happenings.{numbers_of}
use Rattle.object_rules.specs.ImagePairs as pairing
use Rattle.object_rules.specs.BoardRules.{board_ready}
use Rattle.core_runs.specs.Lists.{said}
use Rattle.core_runs.specs.CoreRuns.{at_board, of_image, said_by}
use Rattle.order_theory.specs.Order.{Segment, Within, done, segment_of}
use Rattle.order_theory.specs.Races.{Stands}
use Rattle.order_theory.specs.Acts.{Act, pairs, unpairs, gets, unlocks, posts, finishes, pair, adds, leaves_all, names, completing, turn, turned, waiting, waiting_from, named_after, last_named_from, corresponding, released, entries}
use Rattle.order_theory.proofs.Splits.{fronts_at, done_append}
use Rattle.order_theory.proofs.Withins.{within_flat, within_left, within_right}
use Rattle.order_axioms.specs.Statuses.{tells_stopped, tells_success, tells_acquired}
use Rattle.order_axioms.specs.Views.{view, act_by, act_of, end_of_pair, first_cell}
use Rattle.order_cuts.specs.Cuts.{Follows, IsSame}
use Rattle.order_cuts.proofs.OwnParts.{same_marks, same_act}
use Rattle.every_order.specs.Likes.{likes}
use Rattle.free_replies.proofs.Alike.{said_same}
use Rattle.free_replies.proofs.Written.{all_at}
use Rattle.free_replies.proofs.Replies.{board_here, front_follows}
use Rattle.round_words.specs.RoundRuns.{IsAhead, IsRoundRun}
use Rattle.round_words.proofs.BoardWords.{stopped_said, stopped_append}
use Rattle.round_words.proofs.Ahead.{follows_ahead, stopped_whole}
use Rattle.round_words.proofs.RoundRuns.{round_front}
use Rattle.round_replies.proofs.RoundSources.{follows_front}
use Rattle.decided_runs.proofs.PairWords.{sets_said, add_set, sets_append, count_in, count_append, last_set, comes_said}
use Rattle.decided_runs.proofs.PairCloses.{unpair_paired, behind, all_come}

-- the act begins SYNC IMAGES with image i
abbrev pairs_with : ℕ → Act → Bool
pairs_with i (pairs js) = names i js
pairs_with i a = false

-- what a step adds to the segments of image j in which it makes steps of which the test holds, where d are completed
-- before it
abbrev pub begun_by : (Act → Bool) → ℕ → ℕ → Act → List Segment → List Segment
begun_by test j d a q = cond (test a) (record { image = j; number = d } ∷ q) q

abbrev pub done_by : Act → ℕ → ℕ
done_by a d = cond (completing a) 1 0 + d

-- these segments by its words
abbrev pub segments_said : (Act → Bool) → ℕ → ℕ → List (Said Ask Reply) → List Segment
segments_said test j d [] = []
segments_said test j d (w ∷ ws) = begun_by test j d (act_by w.ask w.reply) (segments_said test j (done_by (act_by w.ask w.reply) d) ws)

abbrev pub done_after : ℕ → List (Said Ask Reply) → ℕ
done_after d [] = d
done_after d (w ∷ ws) = done_after (done_by (act_by w.ask w.reply) d) ws

begun_append : (test : Act → Bool) (j d : ℕ) (a : Act) (q r : List Segment) → begun_by test j d a (q ++ r) ≡ begun_by test j d a q ++ r
begun_append test j d a q r = by (test a)
  where
    by : (b : Bool) → cond b (record { image = j; number = d } ∷ (q ++ r)) (q ++ r) ≡ cond b (record { image = j; number = d } ∷ q) q ++ r
    by true = refl
    by false = refl

pub segments_append : (test : Act → Bool) (j d : ℕ) (xs ys : List (Said Ask Reply)) → segments_said test j d (xs ++ ys) ≡ segments_said test j d xs ++ segments_said test j (done_after d xs) ys
segments_append test j d [] ys = refl
segments_append test j d (w ∷ xs) ys =
    ap (begun_by test j d (act_by w.ask w.reply)) (segments_append test j (done_by (act_by w.ask w.reply) d) xs ys)
    ∙ begun_append test j d (act_by w.ask w.reply) (segments_said test j (done_by (act_by w.ask w.reply) d) xs) (segments_said test j (done_after (done_by (act_by w.ask w.reply) d) xs) ys)

said_segments : (test : Act → Bool) (j d : ℕ) (x : Entry) (g : List Entry) (o : Bool) → segments_said test j d (map (λ (y : Entry). said y.event) (cond o (x ∷ g) g))
    ≡ cond o (begun_by test j d (act_of x) (segments_said test j (done_by (act_of x) d) (map (λ (y : Entry). said y.event) g))) (segments_said test j d (map (λ (y : Entry). said y.event) g))
said_segments test j d x g true = refl
said_segments test j d x g false = refl

turned_pair : (j i k : ℕ) (a : Act) (seg : Segment) (q : List Segment) → turned (turn (pair j i) k a) seg q ≡ q ++ cond (nat_eq k j) (cond (pairs_with i a) (seg ∷ []) []) []
turned_pair j i k (pairs js) seg q = by (nat_eq k j) (names i js)
  where
    by : (x y : Bool) → turned (cond (x && y) adds leaves_all) seg q ≡ q ++ cond x (cond y (seg ∷ []) []) []
    by true true = refl
    by true false = sym (append-nil q)
    by false y = sym (append-nil q)
turned_pair j i k a seg q = by (nat_eq k j)
  where
    by : (x : Bool) → q ≡ q ++ cond {A = List Segment} x [] []
    by true = sym (append-nil q)
    by false = sym (append-nil q)

swap_count : (m : ℕ) (c : Bool) → m + (cond (true && c) 1 0 + 0) ≡ cond c 1 0 + m
swap_count m true = omega arith
swap_count m false = omega arith

no_count : (m : ℕ) → m + (0 + 0) ≡ m
no_count m = omega arith

begins : (c : Bool) (s : Segment) (q : List Segment) → cond c (s ∷ []) [] ++ q ≡ cond c (s ∷ q) q
begins true s q = refl
begins false s q = refl

module _ (n j i : ℕ) where
  abbrev many : List Entry → ℕ
  many b = done (entries (view n)) j b

  step_is : (b : List Entry) (e : Entry) (g : List Entry) (p : List Segment) (o : Bool) → nat_eq e.image.0 j ≡ o
      → (p ++ cond (nat_eq e.image.0 j) (cond (pairs_with i (act_of e)) (segment_of (entries (view n)) b e ∷ []) []) []) ++ segments_said (pairs_with i) j (many (b ++ e ∷ [])) (said_by j g)
      ≡ p ++ cond o (begun_by (pairs_with i) j (many b) (act_of e) (segments_said (pairs_with i) j (done_by (act_of e) (many b)) (said_by j g))) (segments_said (pairs_with i) j (many b) (said_by j g))
  step_is b e g p true own =
      let is = eqb-true e.image.0 j own in
      let count : many (b ++ e ∷ []) ≡ done_by (act_of e) (many b) =
      done_append Entry (entries (view n)) j b (e ∷ []) ∙ ap (λ c. many b + (cond (c && completing (act_of e)) 1 0 + 0)) own ∙ swap_count (many b) (completing (act_of e)) in
      let seg : segment_of (entries (view n)) b e ≡ record { image = j; number = many b } = ap (λ k. record { image = k; number = done (entries (view n)) k b }) is in
      let rest = segments_said (pairs_with i) j (many (b ++ e ∷ [])) (said_by j g) in
      append_assoc p (cond (nat_eq e.image.0 j) (cond (pairs_with i (act_of e)) (segment_of (entries (view n)) b e ∷ []) []) []) rest
      ∙ ap (λ z. p ++ (cond z (cond (pairs_with i (act_of e)) (segment_of (entries (view n)) b e ∷ []) []) [] ++ rest)) own
      ∙ ap (λ z. p ++ (cond (pairs_with i (act_of e)) (z ∷ []) [] ++ rest)) seg
      ∙ ap (λ z. p ++ (cond (pairs_with i (act_of e)) (record { image = j; number = many b } ∷ []) [] ++ segments_said (pairs_with i) j z (said_by j g))) count
      ∙ ap (λ z. p ++ z) (begins (pairs_with i (act_of e)) (record { image = j; number = many b }) (segments_said (pairs_with i) j (done_by (act_of e) (many b)) (said_by j g)))
  step_is b e g p false own =
      let count : many (b ++ e ∷ []) ≡ many b = done_append Entry (entries (view n)) j b (e ∷ []) ∙ ap (λ c. many b + (cond (c && completing (act_of e)) 1 0 + 0)) own ∙ no_count (many b) in
      ap (λ z. (p ++ cond z (cond (pairs_with i (act_of e)) (segment_of (entries (view n)) b e ∷ []) []) []) ++ segments_said (pairs_with i) j (many (b ++ e ∷ [])) (said_by j g)) own
      ∙ ap (λ z. z ++ segments_said (pairs_with i) j (many (b ++ e ∷ [])) (said_by j g)) (append-nil p)
      ∙ ap (λ z. p ++ segments_said (pairs_with i) j z (said_by j g)) count

  -- the segments that wait at the pair are those of image j's words
  waits_from : (b es : List Entry) (q : List Segment) → waiting_from (view n) (pair j i) b q es ≡ q ++ segments_said (pairs_with i) j (done (entries (view n)) j b) (said_by j es)
  waits_from b [] q = sym (append-nil q)
  waits_from b (e ∷ es) q =
      ap (λ z. waiting_from (view n) (pair j i) (b ++ e ∷ []) z es) (turned_pair j i e.image.0 (act_of e) (segment_of (entries (view n)) b e) q)
      ∙ waits_from (b ++ e ∷ []) es (q ++ cond (nat_eq e.image.0 j) (cond (pairs_with i (act_of e)) (segment_of (entries (view n)) b e ∷ []) []) [])
      ∙ step_is b e es q (nat_eq e.image.0 j) refl
      ∙ ap (λ z. q ++ z) (sym (said_segments (pairs_with i) j (done (entries (view n)) j b) e (of_image j es) (nat_eq e.image.0 j)))

  pub waits_are : (g : List Entry) → waiting (view n) (pair j i) g ≡ segments_said (pairs_with i) j 0 (said_by j g)
  waits_are g = waits_from [] g []

-- the images named, as the entries' acts have them and as the board has them
names_are : (i : ℕ) (ms : List ImageNo) → names i (map (λ k. k.0) ms) ≡ pairing.names i (numbers_of ms)
names_are i [] = refl
names_are i (m ∷ ms) = ap (λ b. b || names i (map (λ k. k.0) ms)) (swap m.0) ∙ ap (λ b. nat_eq i m.0 || b) (names_are i ms)
  where
    swap : (k : ℕ) → nat_eq k i ≡ nat_eq i k
    swap k = elim (cases_Bool (nat_eq i k)) [
      | inl t ↦ eq-eqb k i (sym (eqb-true i k t)) ∙ sym t
      | inr f ↦ elim (cases_Bool (nat_eq k i)) [ inl u ↦ absurd (both_ways (nat_eq i k) f (eq-eqb i k (sym (eqb-true k i u)))) | inr g ↦ g ∙ sym f ]
    ]

zero_add : (m : ℕ) → 0 + m ≡ m
zero_add m = omega arith

-- as many as its sets that have image i
-- the images with which an act begins SYNC IMAGES, and with which an ask does
abbrev set_of_act : Act → Option (List ℕ)
set_of_act (pairs js) = Some js
set_of_act a = None

abbrev set_of : Ask → Option (List ℕ)
set_of (asks.Pair named) = Some (numbers_of named)
set_of a = None

no_set : (b : Bool) (x y : Act) → set_of_act x ≡ None → set_of_act y ≡ None → set_of_act (cond b x y) ≡ None
no_set true x y p q = p
no_set false x y p q = q

act_sets : (a : Ask) (r : Reply) → set_of_act (act_by a r) ≡ set_of a
act_sets (asks.Arrive team arriving) (replies.Round k) = refl
act_sets (asks.Arrive team arriving) r = refl
act_sets (asks.Leave team k) (replies.Left status teams) = refl
act_sets (asks.Leave team k) r = refl
act_sets asks.Unpair (replies.Number status) = refl
act_sets asks.Unpair r = refl
act_sets (asks.Lock owner span) (replies.Number status) = no_set (tells_acquired status) (gets (first_cell owner.0 span)) finishes refl refl
act_sets (asks.Lock owner span) r = refl
act_sets (asks.TryLock owner span) (replies.Number status) = no_set (tells_acquired status) (gets (first_cell owner.0 span)) finishes refl refl
act_sets (asks.TryLock owner span) r = refl
act_sets (asks.Unlock owner span) (replies.Number status) = no_set (tells_success status) (unlocks (first_cell owner.0 span)) finishes refl refl
act_sets (asks.Unlock owner span) r = refl
act_sets (asks.Post owner span) (replies.Number status) = no_set (tells_success status) (posts (first_cell owner.0 span)) finishes refl refl
act_sets (asks.Post owner span) r = refl
act_sets a r = refl

abbrev has_in : ℕ → Option (List ℕ) → Bool
has_in i None = false
has_in i (Some js) = names i js

with_is : (i : ℕ) (a : Act) → pairs_with i a ≡ has_in i (set_of_act a)
with_is i (pairs js) = refl
with_is i a = refl

abbrev chosen : Bool → List ℕ → Option (List ℕ) → List ℕ
chosen b js None = js
chosen b js (Some ks) = cond b ks js

named_is : (i k : ℕ) (js : List ℕ) (a : Act) → named_after i js k a ≡ chosen (nat_eq i k) js (set_of_act a)
named_is i k js (pairs ks) = refl
named_is i k js a = refl

count_step : (i : ℕ) (a : Ask) (r : Reply) (ss : List (List ℕ)) → cond (pairs_with i (act_by a r)) 1 0 + count_in i ss ≡ count_in i (add_set a ss)
count_step i a r ss = ap (λ b. cond b 1 0 + count_in i ss) (with_is i (act_by a r) ∙ ap (has_in i) (act_sets a r)) ∙ by a
  where
    by : (a : Ask) → cond (has_in i (set_of a)) 1 0 + count_in i ss ≡ count_in i (add_set a ss)
    by (asks.Pair named) = ap (λ b. cond b 1 0 + count_in i ss) (names_are i named)
    by a = zero_add (count_in i ss)

length_step : (j i d : ℕ) (a : Act) (q : List Segment) → length (begun_by (pairs_with i) j d a q) ≡ cond (pairs_with i a) 1 0 + length q
length_step j i d a q = by (pairs_with i a)
  where
    by : (b : Bool) → length (cond b (record { image = j; number = d } ∷ q) q) ≡ cond b 1 0 + length q
    by true = omega arith
    by false = omega arith

pub segments_many : (j i d : ℕ) (ws : List (Said Ask Reply)) → length (segments_said (pairs_with i) j d ws) ≡ count_in i (sets_said ws)
segments_many j i d [] = refl
segments_many j i d (w ∷ ws) =
    length_step j i d (act_by w.ask w.reply) (segments_said (pairs_with i) j (done_by (act_by w.ask w.reply) d) ws)
    ∙ ap (λ m. cond (pairs_with i (act_by w.ask w.reply)) 1 0 + m) (segments_many j i (done_by (act_by w.ask w.reply) d) ws)
    ∙ count_step i w.ask w.reply (sets_said ws)

turned_false : (k i : ℕ) → nat_eq k i ≡ false → nat_eq i k ≡ false
turned_false k i own = elim (cases_Bool (nat_eq i k)) [ inr f ↦ f | inl t ↦ absurd (both_ways (nat_eq k i) own (eq-eqb k i (sym (eqb-true i k t)))) ]

-- the images that an image named last
last_step : (i k : ℕ) (js : List ℕ) (a : Ask) (r : Reply) (ss : List (List ℕ)) (o : Bool) → nat_eq k i ≡ o → last_set (named_after i js k (act_by a r)) ss ≡ cond o (last_set js (add_set a ss)) (last_set js ss)
last_step i k js a r ss o own = ap (λ z. last_set z ss) (named_is i k js (act_by a r) ∙ ap (chosen (nat_eq i k) js) (act_sets a r)) ∙ by a o own
  where
    same : (o : Bool) (x : List ℕ) → x ≡ cond o x x
    same true x = refl
    same false x = refl

    by : (a : Ask) (o : Bool) → nat_eq k i ≡ o → last_set (chosen (nat_eq i k) js (set_of a)) ss ≡ cond o (last_set js (add_set a ss)) (last_set js ss)
    by (asks.Pair named) true own = ap (λ b. last_set (cond b (numbers_of named) js) ss) (eq-eqb i k (sym (eqb-true k i own)))
    by (asks.Pair named) false own = ap (λ b. last_set (cond b (numbers_of named) js) ss) (turned_false k i own)
    by a o own = same o (last_set js ss)

pub last_are : (n i : ℕ) (js : List ℕ) (g : List Entry) → last_named_from (view n) i js g ≡ last_set js (sets_said (said_by i g))
last_are n i js [] = refl
last_are n i js (e ∷ g) =
    last_are n i (named_after i js e.image.0 (act_of e)) g
    ∙ last_step i e.image.0 js e.event.ask e.event.reply (sets_said (said_by i g)) (nat_eq e.image.0 i) refl
    ∙ sym (said_last (nat_eq e.image.0 i))
  where
    said_last : (o : Bool) → last_set js (sets_said (map (λ (y : Entry). said y.event) (cond o (e ∷ of_image i g) (of_image i g)))) ≡ cond o (last_set js (add_set e.event.ask (sets_said (said_by i g)))) (last_set js (sets_said (said_by i g)))
    said_last true = refl
    said_last false = refl

-- who is named last is named
named_in : (j : ℕ) (s : List ℕ) → Within j s → pairing.names j s ≡ true
named_in j [] w = absurd w
named_in j (x ∷ s) (inl e) = or_left (nat_eq j x) (pairing.names j s) (eq-eqb j x e)
named_in j (x ∷ s) (inr w) = or_right (nat_eq j x) (pairing.names j s) (named_in j s w)

last_counts : (j : ℕ) (js : List ℕ) (ss : List (List ℕ)) → Within j (last_set js ss) → Within j js ⊎ (1 ≤ count_in j ss)
last_counts j js [] w = inl w
last_counts j js (s ∷ ss) w = elim (last_counts j s ss w) [
  | inl h ↦ (let e = named_in j s h in inr (rw e (omega arith)))
  | inr l ↦ inr (omega arith)
]

-- the member at a place
pub record AtNth (a : Segment) (m : ℕ) (xs : List Segment) : Type 0 where
  pub front : List Segment
  pub back : List Segment
  pub split : xs ≡ front ++ a ∷ back
  pub size : length front ≡ m

at_nth : (a : Segment) (m : ℕ) (xs : List Segment) → Within a (take 1 (drop m xs)) → AtNth a m xs
at_nth a zero [] w = absurd w
at_nth a zero (x ∷ xs) (inl e) = record { front = []; back = xs; split = ap (λ z. z ∷ xs) (sym e); size = refl }
at_nth a zero (x ∷ xs) (inr w) = absurd w
at_nth a (suc m) [] w = absurd w
at_nth a (suc m) (x ∷ xs) w = let r = at_nth a m xs w in record { front = x ∷ r.front; back = r.back; split = ap (λ z. x ∷ z) r.split; size = ap suc r.size }

nth_within : (a : Segment) (front back : List Segment) → Within a (take 1 (drop (length front) (front ++ a ∷ back)))
nth_within a [] back = inl refl
nth_within a (x ∷ front) back = nth_within a front back

flat_within : {A B : Type 0} (f : A → List B) (b : B) (x : A) (xs : List A) → Within x xs → Within b (f x) → Within b (flat_map f xs)
flat_within {A} {B} f b x [] w h = absurd w
flat_within {A} {B} f b x (y ∷ xs) (inl e) h = within_left B b (f y) (flat_map f xs) (subst (λ z. Within b (f z)) e h)
flat_within {A} {B} f b x (y ∷ xs) (inr w) h = within_right B b (f y) (flat_map f xs) (flat_within f b x xs w h)

-- an end of SYNC IMAGES that releases something is whole
whole_pair : (n : ℕ) (g : List Entry) (i : ℕ) (r : Reply) (a : Segment) → Within a (released (view n) g i (end_of_pair r)) → end_of_pair r ≡ unpairs true
whole_pair n g i (replies.Number status) a w = by (tells_stopped status) w
  where
    by : (b : Bool) → Within a (released (view n) g i (unpairs (not b))) → unpairs (not b) ≡ unpairs true
    by true w = absurd w
    by false w = refl
whole_pair n g i r a w = absurd w

module _ (s : List Declared) (n : ℕ) (t : List Entry) (run_t : IsRoundRun s n t) (g : List Entry) (run : IsRoundRun s n g) (fol : Follows (view n) (likes n) t g) where
  module _ (x : Stands t) (y : Stands g) (same : IsSame (view n) (likes n) x y) (asked : x.event.event.ask ≡ asks.Unpair) where
    abbrev i : ℕ
    i = x.event.image.0

    abbrev f : List Entry
    f = y.before

    run_f : IsRoundRun s n f
    run_f = round_front s n f (y.event ∷ y.rest) (subst (IsRoundRun s n) y.split run)

    ahead_f : IsAhead t f
    ahead_f = follows_ahead n t f (follows_front n t g f (y.event ∷ y.rest) y.split fol)

    ahead_x : IsAhead t x.before
    ahead_x = follows_ahead n t x.before (front_follows n t x)

    -- the image has said the same before it
    words : said_by i x.before ≡ said_by i f
    words = (same_marks Entry (Said Ask Reply) (view n) (likes n) t g fol x y same).0

    asked_y : y.event.event.ask ≡ asks.Unpair
    asked_y = sym (ap (λ (q : Said Ask Reply). q.ask) (said_same n t g fol x y same)) ∙ asked

    ready : IsTrue (board_ready n (at_board f) i asks.Unpair)
    ready = subst (λ k. IsTrue (board_ready n (at_board f) k asks.Unpair)) (sym same.image) (subst (λ b. IsTrue (board_ready n (at_board f) y.event.image.0 b)) asked_y (board_here s n g run.lawful y (ap place_of asked_y)).0)

    abbrev sets : List (List ℕ)
    sets = sets_said (said_by i f)

    abbrev begun : ℕ → List Entry → List Segment
    begun j h = segments_said (pairs_with i) j 0 (said_by j h)

    grown : (j : ℕ) (h : List Entry) → IsAhead t h → (more : List Segment) × (begun j t ≡ begun j h ++ more)
    grown j h ahead = let a = ahead j in (segments_said (pairs_with i) j (done_after 0 (said_by j h)) a.0, ap (segments_said (pairs_with i) j 0) a.1 ∙ segments_append (pairs_with i) j 0 (said_by j h) a.0)

    -- the corresponding segment of one that it names
    one_same : (j : ℕ) (a : Segment) → Within j (last_set [] sets) → Within a (take 1 (drop (count_in j sets - 1) (begun j x.before))) → Within a (take 1 (drop (count_in j sets - 1) (begun j f)))
    one_same j a named w =
        let c = unpair_paired n f i ready in
        let low : 1 ≤ count_in j sets = elim (last_counts j [] sets named) [ inl none ↦ absurd none | inr l ↦ l ] in
        let p = at_nth a (count_in j sets - 1) (begun j x.before) w in
        let rx = grown j x.before ahead_x in
        let rf = grown j f ahead_f in
        let size = p.size in
        let all : begun j t ≡ p.front ++ a ∷ (p.back ++ rx.0) = rx.1 ∙ ap (λ z. z ++ rx.0) p.split ∙ append_assoc p.front (a ∷ p.back) rx.0 in
        let come = all_at (comes_said i sets (λ m. said_by m c.front)) (last_set [] sets) j (all_come s n i f run_f c) named in
        let here : (k : List Segment) × (begun j f ≡ p.front ++ a ∷ k) = elim (or_cases (nat_le (count_in j sets) (count_in i (sets_said (said_by j c.front)))) (stopped_said (said_by j c.front)) come) [
          | inl partner ↦ (
              let l = leb-true (count_in j sets) (count_in i (sets_said (said_by j c.front))) partner in
              let b = behind s n i f run_f c j in
              let e = ap (λ z. count_in i (sets_said z)) b.1 ∙ ap (count_in i) (sets_append (said_by j c.front) b.0) ∙ count_append i (sets_said (said_by j c.front)) (sets_said b.0) in
              let many = segments_many j i 0 (said_by j f) in
              let r = fronts_at Segment p.front (p.back ++ rx.0) (begun j f) rf.0 a (sym all ∙ rf.1) (omega arith) in
              (r.0, r.1))
          | inr stopped ↦ (
              let b = behind s n i f run_f c j in
              let still = ap stopped_said b.1 ∙ stopped_append (said_by j c.front) b.0 ∙ or_left (stopped_said (said_by j c.front)) (stopped_said b.0) stopped in
              (p.back ++ rx.0, ap (segments_said (pairs_with i) j 0) (sym (stopped_whole t f j (run_t.ends j) ahead_f still)) ∙ all))
        ] in
        subst (λ z. Within a (take 1 (drop (count_in j sets - 1) z))) (sym here.1) (subst (λ m. Within a (take 1 (drop m (p.front ++ a ∷ here.0)))) size (nth_within a p.front here.0))

    corresponds : (h : List Entry) (j : ℕ) → said_by i h ≡ said_by i f → corresponding (view n) h i j ≡ take 1 (drop (count_in j sets - 1) (begun j h))
    corresponds h j same_words =
        ap (λ z. take 1 (drop (length z - 1) (waiting (view n) (pair j i) h))) (waits_are n i j h)
        ∙ ap (λ m. take 1 (drop (m - 1) (waiting (view n) (pair j i) h))) (segments_many i j 0 (said_by i h) ∙ ap (λ z. count_in j (sets_said z)) same_words)
        ∙ ap (λ z. take 1 (drop (count_in j sets - 1) z)) (waits_are n j i h)

    -- THE SAME SOURCES of an end of SYNC IMAGES
    pub pair_release : (a : Segment) → Within a (released (view n) x.before i (act_of x.event)) → Within a (released (view n) y.before y.event.image.0 (act_of y.event))
    pair_release a w =
        let act : act_of x.event ≡ end_of_pair x.event.event.reply = ap (λ b. act_by b x.event.event.reply) asked in
        let full = whole_pair n x.before i x.event.event.reply a (subst (λ q. Within a (released (view n) x.before i q)) act w) in
        let act_y : act_of y.event ≡ unpairs true = sym (same_act Entry (Said Ask Reply) (view n) (likes n) t g fol x y same) ∙ act ∙ full in
        let w' : Within a (flat_map (corresponding (view n) x.before i) (last_named_from (view n) i [] x.before)) = subst (λ q. Within a (released (view n) x.before i q)) (act ∙ full) w in
        let m = within_flat ℕ Segment (corresponding (view n) x.before i) a (last_named_from (view n) i [] x.before) w' in
        let named : Within m.0 (last_set [] sets) = subst (Within m.0) (last_are n i [] x.before ∙ ap (λ z. last_set [] (sets_said z)) words) m.1 in
        let one = one_same m.0 a named (subst (Within a) (corresponds x.before m.0 words) m.2) in
        let there : Within a (flat_map (corresponding (view n) f i) (last_named_from (view n) i [] f)) =
        flat_within (corresponding (view n) f i) a m.0 (last_named_from (view n) i [] f) (subst (Within m.0) (sym (last_are n i [] f)) named) (subst (Within a) (sym (corresponds f m.0 refl)) one) in
        subst (λ q. Within a (released (view n) f y.event.image.0 q)) (sym act_y) (subst (λ k. Within a (released (view n) f k (unpairs true))) same.image there)
