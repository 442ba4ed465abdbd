-- The clocks of images and of keys after one more entry.
use Rattle.std.proofs.Common.{◌≡◌, ℕ, zero, suc, ◌-◌, ◌<◌, ◌≤◌, max, List, [], ◌∷◌, ◌++◌, length, get_or, set, map, take, drop, inl, inr, refl, ap, sym, ◌∙◌, subst, arith, get_or-set_same, get_or-set_other, Option, Some, None}
use Rattle.std.proofs.lemmas.Bool.{cases_eq}
use Rattle.std.proofs.lemmas.List.{map-append, drop-map}
use Rattle.caf_events.specs.declared.event.Entry.{Entry}
use Rattle.order_theory.specs.Order.{Segment, segment_of}
use Rattle.order_theory.specs.Clocks.{Covers}
use Rattle.order_theory.specs.Acts.{Act, Key, Turn, adds, clears, drops, leaves_all, turn, entries, waiting, released, others}
use Rattle.order_theory.specs.Stored.{turned_clock, EachCovered, turned_queue, all_joined}
use Rattle.order_theory.proofs.Splits.{done_length}
use Rattle.order_theory.proofs.Withins.{within_left, within_right}
use Rattle.order_theory.proofs.Clocks.{covers_same}
use Rattle.order_theory.proofs.Sources.{sound}
use Rattle.order_theory.proofs.Recorder.{key_more, covered_own, covered_bound}
use Rattle.order_theory.proofs.Queues.{queue_more}
use Rattle.segment_clock.specs.Counts.{count_of, joined}
use Rattle.segment_clock.proofs.Joins.{count_joined, length_joined}
use Rattle.order_axioms.specs.Views.{act_of, view, edges}
use Rattle.race_watch.specs.declared.order.Order.{Order}
use Rattle.race_watch.specs.Tables.{counts_of, merged, IsClockOf, joined_all}
use Rattle.race_watch.specs.Orders.{clock_of, Sized, JointKept, QueueKept, Ordered, turned_counts, turned_clocks}

-- one place of a list set, and the others
pub at_set : {X : Type 0} (P : ℕ → X → Type 0) (xs : List X) (i j : ℕ) (y d : X) → i < length xs → (i ≡ j → P j y) → ((i ≡ j → ⊥) → P j (get_or xs j d)) → P j (get_or (set xs i y) j d)
at_set P xs i j y d l here other =
    elim (cases_eq i j) [
      | inl e ↦ subst (λ k. P k (get_or (set xs i y) k d)) e (subst (P i) (sym (get_or-set_same xs i y d l)) (subst (λ k. P k y) (sym e) (here e)))
      | inr n ↦ subst (P j) (sym (get_or-set_other xs i j y d (λ e. n (sym e)))) (other n)
    ]

pub count_empty : (i : ℕ) → count_of [] i ≡ 0
count_empty zero = refl
count_empty (suc i) = refl

-- a clock joined with another, or with none
pub count_with : (n : ℕ) (c : List ℕ) (d : Option (List ℕ)) (i : ℕ) → length c ≡ n → IsClockOf n d → count_of (joined c (counts_of d)) i ≡ max (count_of c i) (count_of (counts_of d) i)
count_with n c (Some d) i h l = count_joined c d i (l ∙ sym h)
count_with n [] None i h l = (let z = count_empty i in omega arith)
count_with n (x ∷ xs) None i h l = (let z = count_empty i in omega arith)

count_merged : (n : ℕ) (own : List ℕ) (c : Option (List ℕ)) (i : ℕ) → length own ≡ n → IsClockOf n c → count_of (counts_of (merged c own)) i ≡ max (count_of (counts_of c) i) (count_of own i)
count_merged n own None i h k = (let z = count_empty i in omega arith)
count_merged n own (Some c) i h l = count_joined c own i (h ∙ sym l)

size_merged : (n : ℕ) (own : List ℕ) (c : Option (List ℕ)) → length own ≡ n → IsClockOf n c → IsClockOf n (merged c own)
size_merged n own None h k = h
size_merged n own (Some c) h l = length_joined c own ∙ l

counts_turned : (n : ℕ) (t : Turn) (own : List ℕ) (c : Option (List ℕ)) (i : ℕ) → length own ≡ n → IsClockOf n c → count_of (counts_of (turned_counts t own c)) i ≡ turned_clock t (count_of own) (count_of (counts_of c)) i
counts_turned n adds own c i h k = count_merged n own c i h k
counts_turned n clears own c i h k = count_empty i
counts_turned n (drops m) own c i h k = refl
counts_turned n leaves_all own c i h k = refl

sized_turned : (n : ℕ) (t : Turn) (own : List ℕ) (c : Option (List ℕ)) → length own ≡ n → IsClockOf n c → IsClockOf n (turned_counts t own c)
sized_turned n adds own c h k = size_merged n own c h k
sized_turned n clears own c h k = tt
sized_turned n (drops m) own c h k = k
sized_turned n leaves_all own c h k = k

clocks_turned : (t : Turn) (own : List ℕ) (cs : List (List ℕ)) → map count_of (turned_clocks t own cs) ≡ turned_queue t (count_of own) (map count_of cs)
clocks_turned adds own cs = map-append count_of cs (own ∷ [])
clocks_turned clears own cs = refl
clocks_turned (drops m) own cs = sym (drop-map count_of m cs)
clocks_turned leaves_all own cs = refl

pub sized_last : (n : ℕ) (own : List ℕ) (cs : List (List ℕ)) → length own ≡ n → Sized n cs → Sized n (cs ++ own ∷ [])
sized_last n own [] h k = (h, tt)
sized_last n own (c ∷ cs) h k = (k.0, sized_last n own cs h k.1)

pub sized_drop : (n m : ℕ) (cs : List (List ℕ)) → Sized n cs → Sized n (drop m cs)
sized_drop n zero cs k = k
sized_drop n (suc m) [] k = tt
sized_drop n (suc m) (c ∷ cs) k = sized_drop n m cs k.1

pub sized_take : (n m : ℕ) (cs : List (List ℕ)) → Sized n cs → Sized n (take m cs)
sized_take n zero cs k = tt
sized_take n (suc m) [] k = tt
sized_take n (suc m) (c ∷ cs) k = (k.0, sized_take n m cs k.1)

queue_sized : (n : ℕ) (t : Turn) (own : List ℕ) (cs : List (List ℕ)) → length own ≡ n → Sized n cs → Sized n (turned_clocks t own cs)
queue_sized n adds own cs h k = sized_last n own cs h k
queue_sized n clears own cs h k = tt
queue_sized n (drops m) own cs h k = sized_drop n m cs k
queue_sized n leaves_all own cs h k = k

pub sized_all : (n m : ℕ) (cs : List (List ℕ)) → m ≡ n → Sized n cs → (k : ℕ) (d : List ℕ) → k < length cs → length (get_or cs k d) ≡ m
sized_all n m [] e h k d l = absurd (omega arith)
sized_all n m (c ∷ cs) e h zero d l = h.0 ∙ sym e
sized_all n m (c ∷ cs) e h (suc k) d l = sized_all n m cs e h.1 k d (omega arith)

-- many clocks joined one after the other
pub size_all : (c : List ℕ) (ds : List (List ℕ)) → length (joined_all c ds) ≡ length c
size_all c [] = refl
size_all c (d ∷ ds) = size_all (joined c d) ds ∙ length_joined c d

pub count_all : (n : ℕ) (c : List ℕ) (ds : List (List ℕ)) (i : ℕ) → length c ≡ n → Sized n ds → count_of (joined_all c ds) i ≡ max (count_of c i) (all_joined (map count_of ds) i)
count_all n c [] i h k = omega arith
count_all n c (d ∷ ds) i h k =
    let a = count_all n (joined c d) ds i (length_joined c d ∙ h) k.1 in
    let b = count_joined c d i (k.0 ∙ sym h) in
    omega arith

module _ (n : ℕ) (g : List Entry) (s : Order) (rec : Ordered n g s) (e : Entry) (first : 0 < e.image.0) (last : e.image.0 ≤ n) where
  -- the clock of the entry's image
  pub own : Covers (edges n) g (segment_of (entries (view n)) g e ∷ []) (count_of (clock_of s e.image.0))
  own = rec.clocks e.image.0 first last

  pub own_size : length (clock_of s e.image.0) ≡ n
  own_size = rec.clock_sizes e.image.0 first last

  -- what is released to the entry's image and what it is told of has begun, so no clock of it goes beyond the trace
  pub room : (rel oth : ℕ → ℕ) → Covers (edges n) g (released (view n) g e.image.0 (act_of e)) rel → Covers (edges n) g (others (view n) g e) oth
      → max (count_of (clock_of s e.image.0) e.image.0) (max (rel e.image.0) (oth e.image.0)) ≤ suc (length g)
  room rel oth r o =
      let known = (sound Entry (view n)).known in
      let a = covered_own Entry (view n) g e.image.0 (count_of (clock_of s e.image.0)) own in
      let b = covered_bound Entry (view n) g (released (view n) g e.image.0 (act_of e)) rel r (λ x w. known g e x (inr (within_left Segment x (released (view n) g e.image.0 (act_of e)) (others (view n) g e) w))) e.image.0 in
      let c = covered_bound Entry (view n) g (others (view n) g e) oth o (λ x w. known g e x (inr (within_right Segment x (released (view n) g e.image.0 (act_of e)) (others (view n) g e) w))) e.image.0 in
      let d = done_length Entry (entries (view n)) e.image.0 g in
      omega arith

  pub own_done : get_or s.completed.items (e.image.0 - 1) 0 ≤ length g
  own_done = let a = rec.counts e.image.0 first last in let d = done_length Entry (entries (view n)) e.image.0 g in omega arith

  module _ (a : Act) (is : act_of e ≡ a) where
    pub joint_more : (key : Key) (c c' : Option (List ℕ)) → JointKept n g key c → ((m : ℕ) → turn key e.image.0 a ≡ drops m → ⊥) → c' ≡ turned_counts (turn key e.image.0 a) (clock_of s e.image.0) c → JointKept n (g ++ e ∷ []) key c'
    joint_more key c c' kept whole step =
        let same : turn key e.image.0 (act_of e) ≡ turn key e.image.0 a = ap (turn key e.image.0) is in
        record {
          sized = subst (IsClockOf n) (sym step) (sized_turned n (turn key e.image.0 a) (clock_of s e.image.0) c own_size kept.sized);
          covers = covers_same Entry (edges n) (sound Entry (view n)) (g ++ e ∷ []) (waiting (view n) key (g ++ e ∷ [])) (turned_clock (turn key e.image.0 (act_of e)) (count_of (clock_of s e.image.0)) (count_of (counts_of c))) (count_of (counts_of c'))
              (λ i. ap (λ z. count_of (counts_of z) i) step ∙ counts_turned n (turn key e.image.0 a) (clock_of s e.image.0) c i own_size kept.sized ∙ sym (ap (λ z. turned_clock z (count_of (clock_of s e.image.0)) (count_of (counts_of c)) i) same))
              (key_more Entry (view n) g e key (count_of (clock_of s e.image.0)) (count_of (counts_of c)) (λ m z. whole m (sym same ∙ z)) kept.covers own);
        }

    pub queue_after : (key : Key) (cs cs' : List (List ℕ)) → QueueKept n g key cs → cs' ≡ turned_clocks (turn key e.image.0 a) (clock_of s e.image.0) cs → QueueKept n (g ++ e ∷ []) key cs'
    queue_after key cs cs' kept step =
        let same : turn key e.image.0 (act_of e) ≡ turn key e.image.0 a = ap (turn key e.image.0) is in
        record {
          sized = subst (Sized n) (sym step) (queue_sized n (turn key e.image.0 a) (clock_of s e.image.0) cs own_size kept.sized);
          covers = subst (EachCovered (edges n) (g ++ e ∷ []) (waiting (view n) key (g ++ e ∷ [])))
              (ap (λ z. turned_queue z (count_of (clock_of s e.image.0)) (map count_of cs)) same ∙ sym (clocks_turned (turn key e.image.0 a) (clock_of s e.image.0) cs) ∙ ap (map count_of) (sym step))
              (queue_more Entry (view n) g e key (count_of (clock_of s e.image.0)) (map count_of cs) kept.covers own);
        }
