-- An entry that completes a segment: its image's clock takes what is released to it, then what it is told of, and
-- counts one more segment.
use Rattle.std.proofs.Common.{◌≡◌, ℕ, ◌+◌, ◌-◌, ◌<◌, ◌≤◌, ◌^◌, max, true, List, [], ◌∷◌, ◌++◌, length, get_or, set, map, take, drop, refl, ap, sym, ◌∙◌, subst, arith, length-set, get_or-set_same, Option}
use Rattle.std.proofs.lemmas.List.{set-set, take-map, drop-map}
use Rattle.std.specs.List.{flat_map}
use Rattle.caf_events.specs.declared.event.Entry.{Entry}
use Rattle.order_theory.specs.Races.{Cell}
use Rattle.order_theory.specs.Stored.{all_joined}
use Rattle.order_theory.specs.Clocks.{Covers}
use Rattle.order_theory.specs.Acts.{Act, waits, unpairs, event, pair, waiting, corresponding, completing, released}
use Rattle.order_theory.proofs.Clocks.{covers_none}
use Rattle.order_theory.proofs.Sources.{sound}
use Rattle.order_theory.proofs.Queues.{queue_taken, covers_flat}
use Rattle.segment_clock.specs.Counts.{count_of, joined, ticked}
use Rattle.segment_clock.proofs.Joins.{count_ticked, length_joined, length_with_count}
use Rattle.order_axioms.specs.Views.{act_of, view, edges}
use Rattle.race_watch.specs.declared.order.Order.{Order}
use Rattle.race_watch.specs.Tables.{counts_of, IsClockOf, joined_all, Numbered, numbered_at, count_in, numbered}
use Rattle.race_watch.specs.Orders.{clock_of, named_by, Sized, QueueKept, Ordered, Turned, Completing, GoingOn, paired}
use Rattle.race_watch.proofs.Turning.{count_with, size_all, count_all, sized_take, sized_drop, own_size, own_done, room}
use Rattle.race_watch.proofs.Forgetting.{drop_past, count_kept}
use Rattle.race_watch.proofs.Stepping.{moves}

-- the images' clocks with this one in place of that of e's image
pub record InPlace (n : ℕ) (e : Entry) (s : Order) (clock : List ℕ) (mid : List (List ℕ)) : Type 0 where
  pub own : get_or mid (e.image.0 - 1) [] ≡ clock
  pub size : length mid ≡ n
  pub over : (x : List ℕ) → set mid (e.image.0 - 1) x ≡ set s.images.items (e.image.0 - 1) x

-- the clock has what it had and what is released to it
pub record HasTaken (n : ℕ) (g : List Entry) (e : Entry) (s : Order) (clock : List ℕ) (rel : ℕ → ℕ) : Type 0 where
  pub size : length clock ≡ n
  pub count : (i : ℕ) → count_of clock i ≡ max (count_of (clock_of s e.image.0) i) (rel i)
  pub covers : Covers (edges n) g (released (view n) g e.image.0 (act_of e)) rel

-- what the SYNC IMAGES of image j that corresponds to the last one of image i that names j counts
abbrev pub pair_counts : Order → ℕ → ℕ → ℕ → ℕ
pair_counts s i j = all_joined (map count_of (numbered (count_in (numbered_at s.pairs i j) - 1) (numbered_at s.pairs j i)))

size_paired : (table : List (List Numbered)) (i : ℕ) (js : List ℕ) (c : List ℕ) → length (paired table i js c) ≡ length c
size_paired table i [] c = refl
size_paired table i (j ∷ js) c =
    let ds = numbered (count_in (numbered_at table i j) - 1) (numbered_at table j i) in
    size_paired table i js (joined_all c ds) ∙ size_all c ds

count_paired : (n : ℕ) (s : Order) → ((j h : ℕ) → Sized n (numbered_at s.pairs j h).clocks) → (i : ℕ) (js : List ℕ) (c : List ℕ) (x : ℕ) → length c ≡ n
    → count_of (paired s.pairs i js c) x ≡ max (count_of c x) (all_joined (map (pair_counts s i) js) x)
count_paired n s sizes i [] c x h = omega arith
count_paired n s sizes i (j ∷ js) c x h =
    let q = numbered_at s.pairs j i in
    let m = count_in (numbered_at s.pairs i j) - 1 in
    let k = sized_take n 1 (drop (m - q.first) q.clocks) (sized_drop n (m - q.first) q.clocks (sizes j i)) in
    let a = count_all n c (numbered m q) x h k in
    let b = count_paired n s sizes i js (joined_all c (numbered m q)) x (size_all c (numbered m q) ∙ h) in
    omega arith

-- the clock of a number that isn't forgotten
numbered_kept : (number : ℕ) (q : Numbered) (gone : List (ℕ → ℕ)) → length gone ≡ q.first → q.first ≤ number → take 1 (drop number (gone ++ map count_of q.clocks)) ≡ map count_of (numbered number q)
numbered_kept number q gone e h =
    ap (take 1) (drop_past gone (map count_of q.clocks) number (omega arith) ∙ ap (λ z. drop (number - z) (map count_of q.clocks)) e ∙ drop-map count_of (number - q.first) q.clocks) ∙ take-map count_of 1 (drop (number - q.first) q.clocks)

pair_covered : (n : ℕ) (g : List Entry) (s : Order) → Ordered n g s → (i j : ℕ) → Covers (edges n) g (corresponding (view n) g i j) (pair_counts s i j)
pair_covered n g s rec i j =
    let m = count_in (numbered_at s.pairs i j) - 1 in
    let theirs = rec.pairs j i in
    subst (λ k. Covers (edges n) g (take 1 (drop (k - 1) (waiting (view n) (pair j i) g))) (pair_counts s i j)) (sym (count_kept n g (pair i j) (numbered_at s.pairs i j) (rec.pairs i j)))
    (subst (λ f. Covers (edges n) g (take 1 (drop m (waiting (view n) (pair j i) g))) (all_joined f)) (numbered_kept m (numbered_at s.pairs j i) theirs.gone theirs.many (rec.needed j i))
    (queue_taken Entry (view n) m 1 g (waiting (view n) (pair j i) g) (theirs.gone ++ map count_of (numbered_at s.pairs j i).clocks) theirs.covers))

module _ (n : ℕ) (g : List Entry) (e : Entry) (a : Act) (s : Order) (told : Option (List ℕ)) (c : Completing n g e a s told) where
  -- nothing is released
  pub in_place : InPlace n e s (clock_of s e.image.0) s.images.items
  in_place = record { own = refl; size = c.ordered.image_count; over = λ x. refl }

  pub taken_none : released (view n) g e.image.0 a ≡ [] → HasTaken n g e s (clock_of s e.image.0) (λ i. 0)
  taken_none none = record {
    size = own_size n g s c.ordered e c.first c.last;
    count = λ i. omega arith;
    covers = subst (λ z. Covers (edges n) g z (λ i. 0)) (sym (ap (released (view n) g e.image.0) c.act ∙ none)) (covers_none Entry (edges n) (sound Entry (view n)) g);
  }

  -- some clock is
  pub put_in : (clock : List ℕ) (mid : List (List ℕ)) → mid ≡ set s.images.items (e.image.0 - 1) clock → InPlace n e s clock mid
  put_in clock mid is =
      let f = c.first in let l = c.last in let z = c.ordered.image_count in record {
        own = ap (λ m. get_or m (e.image.0 - 1) []) is ∙ get_or-set_same s.images.items (e.image.0 - 1) clock [] (omega arith);
        size = ap length is ∙ length-set s.images.items (e.image.0 - 1) clock ∙ z;
        over = λ x. ap (λ m. set m (e.image.0 - 1) x) is ∙ set-set s.images.items (e.image.0 - 1) clock x;
      }

  pub taken_one : (rel : Option (List ℕ)) → IsClockOf n rel → Covers (edges n) g (released (view n) g e.image.0 a) (count_of (counts_of rel)) → HasTaken n g e s (joined (clock_of s e.image.0) (counts_of rel)) (count_of (counts_of rel))
  taken_one rel size cov = record {
    size = length_joined (clock_of s e.image.0) (counts_of rel) ∙ own_size n g s c.ordered e c.first c.last;
    count = λ i. count_with n (clock_of s e.image.0) rel i (own_size n g s c.ordered e c.first c.last) size;
    covers = subst (λ z. Covers (edges n) g z (count_of (counts_of rel))) (sym (ap (released (view n) g e.image.0) c.act)) cov;
  }

  -- the first posts of an event are
  pub taken_queue : (d : Cell) (k : ℕ) (cs : List (List ℕ)) → a ≡ waits d k → QueueKept n g (event d) cs → HasTaken n g e s (joined_all (clock_of s e.image.0) (take k cs)) (all_joined (map count_of (take k cs)))
  taken_queue d k cs is kept = record {
    size = size_all (clock_of s e.image.0) (take k cs) ∙ own_size n g s c.ordered e c.first c.last;
    count = λ i. count_all n (clock_of s e.image.0) (take k cs) i (own_size n g s c.ordered e c.first c.last) (sized_take n k cs kept.sized);
    covers = subst (λ z. Covers (edges n) g z (all_joined (map count_of (take k cs)))) (sym (ap (released (view n) g e.image.0) (c.act ∙ is)))
        (subst (λ f. Covers (edges n) g (take k (waiting (view n) (event d) g)) (all_joined f)) (take-map count_of k cs) (queue_taken Entry (view n) 0 k g (waiting (view n) (event d) g) (map count_of cs) kept.covers));
  }

  -- the SYNC IMAGES that correspond are
  pub taken_pairs : a ≡ unpairs true → HasTaken n g e s (paired s.pairs e.image.0 (named_by s e.image.0) (clock_of s e.image.0)) (all_joined (map (pair_counts s e.image.0) (named_by s e.image.0)))
  taken_pairs is = record {
    size = size_paired s.pairs e.image.0 (named_by s e.image.0) (clock_of s e.image.0) ∙ own_size n g s c.ordered e c.first c.last;
    count = λ i. count_paired n s (λ j h. (c.ordered.pairs j h).sized) e.image.0 (named_by s e.image.0) (clock_of s e.image.0) i (own_size n g s c.ordered e c.first c.last);
    covers = subst (λ z. Covers (edges n) g z (all_joined (map (pair_counts s e.image.0) (named_by s e.image.0)))) (sym (ap (released (view n) g e.image.0) (c.act ∙ is)))
        (subst (λ js. Covers (edges n) g (flat_map (corresponding (view n) g e.image.0) js) (all_joined (map (pair_counts s e.image.0) (named_by s e.image.0)))) (c.ordered.named e.image.0 c.first c.last)
        (covers_flat Entry (view n) g (corresponding (view n) g e.image.0) (pair_counts s e.image.0) (named_by s e.image.0) (λ j w. pair_covered n g s c.ordered e.image.0 j)));
  }

  pub going_on : GoingOn n g e a s
  going_on = record { first = c.first; last = c.last; act = c.act; ordered = c.ordered }

  module _ (clock : List ℕ) (rel : ℕ → ℕ) (taken : HasTaken n g e s clock rel) (mid : List (List ℕ)) (placed : InPlace n e s clock mid) where
    pub last : (e.image.0 ≤ length mid) × (e.image.0 ≤ length s.completed.items)
    last = let l = c.last in let z = placed.size in let y = c.ordered.completed_count in (omega arith, omega arith)

    pub long : e.image.0 ≤ length (get_or mid (e.image.0 - 1) [])
    long = let l = c.last in let z = ap length placed.own ∙ taken.size in omega arith

    pub told_size : IsClockOf (length (get_or mid (e.image.0 - 1) [])) told
    told_size = subst (λ m. IsClockOf m told) (sym (ap length placed.own ∙ taken.size)) c.sized

    pub roomy : count_of (joined (get_or mid (e.image.0 - 1) []) (counts_of told)) e.image.0 < 2 ^ 64 - 1
    roomy =
        let r = room n g s c.ordered e c.first c.last rel (count_of (counts_of told)) taken.covers c.covers in
        let p = count_with n clock told e.image.0 taken.size c.sized in
        let q = taken.count e.image.0 in
        let o = ap (λ z. count_of (joined z (counts_of told)) e.image.0) placed.own in
        let b = c.short in
        omega arith

    pub more : get_or s.completed.items (e.image.0 - 1) 0 < 2 ^ 64 - 1
    more = let d = own_done n g s c.ordered e c.first c.last in let b = c.short in omega arith

    pub finished : completing a ≡ true → (s' : Order) → Turned n e.image.0 a (clock_of s e.image.0) s s'
        → s'.images.items ≡ set mid (e.image.0 - 1) (ticked (joined (get_or mid (e.image.0 - 1) []) (counts_of told)) e.image.0)
        → s'.completed.items ≡ set s.completed.items (e.image.0 - 1) (get_or s.completed.items (e.image.0 - 1) 0 + 1)
        → Ordered n (g ++ e ∷ []) s'
    finished comp s' turned ei ec =
        let whole : length (joined clock (counts_of told)) ≡ n = length_joined clock (counts_of told) ∙ taken.size in
        let f = c.first in
        let l = c.last in
        moves n g s c.ordered e c.first c.last a c.act s' turned comp (ticked (joined clock (counts_of told)) e.image.0) rel (count_of (counts_of told)) (length_with_count _ e.image.0 _ ∙ whole)
        (λ i.
        let x = count_ticked (joined clock (counts_of told)) e.image.0 i c.first (omega arith) in
        let y = count_with n clock told i taken.size c.sized in
        let z = taken.count i in
        omega arith)
        taken.covers c.covers (ei ∙ placed.over _ ∙ ap (λ z. set s.images.items (e.image.0 - 1) (ticked (joined z (counts_of told)) e.image.0)) placed.own) ec

    -- all that the code asks for at the image's clock and count
    pub record Ready : Type 0 where
      pub last : (e.image.0 ≤ length mid) × (e.image.0 ≤ length s.completed.items)
      pub long : e.image.0 ≤ length (get_or mid (e.image.0 - 1) [])
      pub told_size : IsClockOf (length (get_or mid (e.image.0 - 1) [])) told
      pub roomy : count_of (joined (get_or mid (e.image.0 - 1) []) (counts_of told)) e.image.0 < 2 ^ 64 - 1
      pub more : get_or s.completed.items (e.image.0 - 1) 0 < 2 ^ 64 - 1

    pub ready : Ready
    ready = record { last = last; long = long; told_size = told_size; roomy = roomy; more = more }
