-- One more entry: all that is kept of segment order goes with it.
use Rattle.std.proofs.Common.{◌≡◌, ℕ, suc, ◌+◌, ◌-◌, ◌<◌, ◌≤◌, max, Bool, true, false, nat_eq, ◌&&◌, cond, List, [], ◌∷◌, ◌++◌, length, get_or, set, refl, ap, sym, ◌∙◌, subst, arith, length-set}
use Rattle.std.proofs.lemmas.Bool.{ne_eqb, and_left, and_right}
use Rattle.caf_events.specs.declared.event.Entry.{Entry}
use Rattle.order_theory.specs.Order.{done}
use Rattle.order_theory.specs.Clocks.{Covers, tick}
use Rattle.order_theory.specs.Races.{Cell, same_cell, within_coarray}
use Rattle.order_theory.specs.Acts.{Act, arrives, leaves, pairs, unpairs, gets, unlocks, enters, exits, posts, waits, finishes, creates, deletes, goes_on, round, lock, construct, event, adds, clears, drops, leaves_all, turn, completing, entries, released, others, last_named_from, named_after}
use Rattle.order_theory.specs.Stored.{present}
use Rattle.order_theory.proofs.Splits.{done_append, done_at}
use Rattle.order_theory.proofs.Clocks.{covers_same}
use Rattle.order_theory.proofs.Sources.{sound}
use Rattle.order_theory.proofs.Recorder.{clock_stays, clock_moves}
use Rattle.segment_clock.specs.Counts.{count_of}
use Rattle.order_axioms.specs.Views.{act_of, view, edges}
use Rattle.race_watch.specs.declared.order.Order.{Order}
use Rattle.race_watch.specs.Orders.{clock_of, Ordered, Turned}
use Rattle.race_watch.proofs.Turning.{at_set, own, joint_more, queue_after}
use Rattle.race_watch.proofs.Forgetting.{pairs_after, needed_after}

no_adding : (b : Bool) (m : ℕ) → cond b adds leaves_all ≡ drops m → ⊥
no_adding true m h = cc
no_adding false m h = cc

no_clearing : (b : Bool) (m : ℕ) → cond b clears leaves_all ≡ drops m → ⊥
no_clearing true m h = cc
no_clearing false m h = cc

-- nothing is dropped from a round, a lock or a construct
round_whole : (t k : ℕ) (i : ℕ) (a : Act) (m : ℕ) → turn (round t k) i a ≡ drops m → ⊥
round_whole t k i (arrives u l) m h = no_adding (nat_eq t u && nat_eq k l) m h
round_whole t k i (leaves u l w) m h = cc
round_whole t k i (pairs js) m h = cc
round_whole t k i (unpairs w) m h = cc
round_whole t k i (gets d) m h = cc
round_whole t k i (unlocks d) m h = cc
round_whole t k i (enters p) m h = cc
round_whole t k i (exits p) m h = cc
round_whole t k i (posts d) m h = cc
round_whole t k i (waits d l) m h = cc
round_whole t k i finishes m h = cc
round_whole t k i (creates o p) m h = cc
round_whole t k i (deletes o p) m h = cc
round_whole t k i goes_on m h = cc

lock_whole : (c : Cell) (i : ℕ) (a : Act) (m : ℕ) → turn (lock c) i a ≡ drops m → ⊥
lock_whole c i (arrives u l) m h = cc
lock_whole c i (leaves u l w) m h = cc
lock_whole c i (pairs js) m h = cc
lock_whole c i (unpairs w) m h = cc
lock_whole c i (gets d) m h = no_clearing (same_cell c d) m h
lock_whole c i (unlocks d) m h = no_adding (same_cell c d) m h
lock_whole c i (enters p) m h = cc
lock_whole c i (exits p) m h = cc
lock_whole c i (posts d) m h = cc
lock_whole c i (waits d l) m h = cc
lock_whole c i finishes m h = cc
lock_whole c i (creates o p) m h = no_clearing (within_coarray o p c) m h
lock_whole c i (deletes o p) m h = cc
lock_whole c i goes_on m h = cc

construct_whole : (k : ℕ) (i : ℕ) (a : Act) (m : ℕ) → turn (construct k) i a ≡ drops m → ⊥
construct_whole k i (arrives u l) m h = cc
construct_whole k i (leaves u l w) m h = cc
construct_whole k i (pairs js) m h = cc
construct_whole k i (unpairs w) m h = cc
construct_whole k i (gets d) m h = cc
construct_whole k i (unlocks d) m h = cc
construct_whole k i (enters p) m h = no_clearing (nat_eq k p) m h
construct_whole k i (exits p) m h = no_adding (nat_eq k p) m h
construct_whole k i (posts d) m h = cc
construct_whole k i (waits d l) m h = cc
construct_whole k i finishes m h = cc
construct_whole k i (creates o p) m h = cc
construct_whole k i (deletes o p) m h = cc
construct_whole k i goes_on m h = cc

-- whom an image named last, after one more entry
named_from : (n i : ℕ) (js : List ℕ) (g : List Entry) (e : Entry) → last_named_from (view n) i js (g ++ e ∷ []) ≡ named_after i (last_named_from (view n) i js g) e.image.0 (act_of e)
named_from n i js [] e = refl
named_from n i js (x ∷ xs) e = named_from n i (named_after i js x.image.0 (act_of x)) xs e

-- another image's place
other_place : (i j : ℕ) → 0 < i → 0 < j → (i - 1 ≡ j - 1 → ⊥) → i ≡ j → ⊥
other_place i j p q h e = h (ap (λ z. z - 1) e)

same_place : (i j : ℕ) → 0 < i → 0 < j → i - 1 ≡ j - 1 → i ≡ j
same_place i j p q h = omega arith

module _ (n : ℕ) (g : List Entry) (s : Order) (rec : Ordered n g s) (e : Entry) (first : 0 < e.image.0) (last : e.image.0 ≤ n) (a : Act) (is : act_of e ≡ a) (s' : Order) (turned : Turned n e.image.0 a (clock_of s e.image.0) s s') where
  -- what is kept of the images
  pub record Images : Type 0 where
    pub image_count : length s'.images.items ≡ n
    pub completed_count : length s'.completed.items ≡ n
    pub clock_sizes : (i : ℕ) → 0 < i → i ≤ n → length (clock_of s' i) ≡ n
    pub clocks : (i : ℕ) → 0 < i → i ≤ n → Covers (edges n) (g ++ e ∷ []) (present (view n) (g ++ e ∷ []) i ∷ []) (count_of (clock_of s' i))
    pub counts : (i : ℕ) → 0 < i → i ≤ n → get_or s'.completed.items (i - 1) 0 ≡ done (entries (view n)) i (g ++ e ∷ [])

  pub after : Images → Ordered n (g ++ e ∷ []) s'
  after im = record {
    image_count = im.image_count;
    completed_count = im.completed_count;
    named_count = turned.named_count ∙ rec.named_count;
    clock_sizes = im.clock_sizes;
    clocks = im.clocks;
    counts = im.counts;
    named = λ i p q. turned.named i p q ∙ ap (λ z. named_after i z e.image.0 a) (rec.named i p q) ∙ ap (named_after i (last_named_from (view n) i [] g) e.image.0) (sym is) ∙ sym (named_from n i [] g e);
    rounds = λ t k. joint_more n g s rec e first last a is (round t k) _ _ (rec.rounds t k) (round_whole t k e.image.0 a) (turned.rounds t k);
    locks = λ c p q. joint_more n g s rec e first last a is (lock c) _ _ (rec.locks c p q) (lock_whole c e.image.0 a) (turned.locks c p q);
    constructs = λ k. joint_more n g s rec e first last a is (construct k) _ _ (rec.constructs k) (construct_whole k e.image.0 a) (turned.constructs k);
    events = λ c p q. queue_after n g s rec e first last a is (event c) _ _ (rec.events c p q) (turned.events c p q);
    pairs = pairs_after n g s rec e first last a is s' turned;
    needed = needed_after n g s rec e first last a is s' turned;
  }

  -- the entry completes no segment
  pub stays : completing a ≡ false → s'.images ≡ s.images → s'.completed ≡ s.completed → Ordered n (g ++ e ∷ []) s'
  stays h ei ec =
      let still : completing (act_of e) ≡ false = ap completing is ∙ h in
      after (record {
        image_count = ap (λ z. length z.items) ei ∙ rec.image_count;
        completed_count = ap (λ z. length z.items) ec ∙ rec.completed_count;
        clock_sizes = λ i p q. ap (λ z. length (get_or z.items (i - 1) [])) ei ∙ rec.clock_sizes i p q;
        clocks = λ i p q. subst (λ z. Covers (edges n) (g ++ e ∷ []) (present (view n) (g ++ e ∷ []) i ∷ []) (count_of (get_or z.items (i - 1) []))) (sym ei)
            (clock_stays Entry (view n) g e i (count_of (clock_of s i)) (and_right (nat_eq e.image.0 i) (completing (act_of e)) still) (rec.clocks i p q));
        counts = λ i p q. ap (λ z. get_or z.items (i - 1) 0) ec ∙ (
            let d = done_append Entry (entries (view n)) i g (e ∷ []) in
            let f = rw (and_right (nat_eq e.image.0 i) (completing (act_of e)) still) at d in
            let k = rec.counts i p q in
            omega arith);
      })

  -- it completes its image's segment, whose next clock covers what is released to it and what it is told of too
  pub moves : completing a ≡ true → (new : List ℕ) (rel oth : ℕ → ℕ) → length new ≡ n
      → ((i : ℕ) → count_of new i ≡ tick e.image.0 (λ k. max (count_of (clock_of s e.image.0) k) (max (rel k) (oth k))) i)
      → Covers (edges n) g (released (view n) g e.image.0 (act_of e)) rel → Covers (edges n) g (others (view n) g e) oth
      → s'.images.items ≡ set s.images.items (e.image.0 - 1) new → s'.completed.items ≡ set s.completed.items (e.image.0 - 1) (get_or s.completed.items (e.image.0 - 1) 0 + 1)
      → Ordered n (g ++ e ∷ []) s'
  moves h new rel oth size count r o ei ec =
      let comp : completing (act_of e) ≡ true = ap completing is ∙ h in
      let many = rec.image_count in
      let many_done = rec.completed_count in
      after (record {
        image_count = ap length ei ∙ length-set s.images.items (e.image.0 - 1) new ∙ rec.image_count;
        completed_count = ap length ec ∙ length-set s.completed.items (e.image.0 - 1) _ ∙ rec.completed_count;
        clock_sizes = λ i p q. ap (λ z. length (get_or z (i - 1) [])) ei ∙ at_set (λ k c. length c ≡ n) s.images.items (e.image.0 - 1) (i - 1) new [] (omega arith) (λ y. size) (λ y. rec.clock_sizes i p q);
        clocks = λ i p q. subst (λ z. Covers (edges n) (g ++ e ∷ []) (present (view n) (g ++ e ∷ []) i ∷ []) (count_of (get_or z (i - 1) []))) (sym ei)
            (at_set (λ k c. Covers (edges n) (g ++ e ∷ []) (present (view n) (g ++ e ∷ []) i ∷ []) (count_of c)) s.images.items (e.image.0 - 1) (i - 1) new [] (omega arith)
            (λ y. subst (λ k. Covers (edges n) (g ++ e ∷ []) (present (view n) (g ++ e ∷ []) k ∷ []) (count_of new)) (same_place e.image.0 i first p y)
            (covers_same Entry (edges n) (sound Entry (view n)) (g ++ e ∷ []) (present (view n) (g ++ e ∷ []) e.image.0 ∷ []) (tick e.image.0 (λ k. max (count_of (clock_of s e.image.0) k) (max (rel k) (oth k)))) (count_of new) count
            (clock_moves Entry (view n) g e (count_of (clock_of s e.image.0)) rel oth comp (own n g s rec e first last) r o)))
            (λ y. clock_stays Entry (view n) g e i (count_of (clock_of s i)) (and_left (nat_eq e.image.0 i) (completing (act_of e)) (ne_eqb e.image.0 i (other_place e.image.0 i first p y))) (rec.clocks i p q)));
        counts = λ i p q. ap (λ z. get_or z (i - 1) 0) ec ∙
            at_set (λ k x. x ≡ done (entries (view n)) i (g ++ e ∷ [])) s.completed.items (e.image.0 - 1) (i - 1) (get_or s.completed.items (e.image.0 - 1) 0 + 1) 0 (omega arith)
            (λ y. subst (λ k. get_or s.completed.items (e.image.0 - 1) 0 + 1 ≡ done (entries (view n)) k (g ++ e ∷ [])) (same_place e.image.0 i first p y)
            (let d : done (entries (view n)) e.image.0 (g ++ e ∷ []) ≡ suc (done (entries (view n)) e.image.0 g) = done_at Entry (entries (view n)) g e comp in
            let k = rec.counts e.image.0 first last in omega arith))
            (λ y.
            let d = done_append Entry (entries (view n)) i g (e ∷ []) in
            let f = rw (and_left (nat_eq e.image.0 i) (completing (act_of e)) (ne_eqb e.image.0 i (other_place e.image.0 i first p y))) at d in
            let k = rec.counts i p q in
            omega arith);
      })
