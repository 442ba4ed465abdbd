-- Before the first entry.
use Rattle.std.proofs.Common.{◌≡◌, ℕ, zero, suc, ◌+◌, ◌-◌, ◌<◌, List, [], ◌∷◌, length, get_or, replicate, refl, ap, ◌∙◌, sym, subst, arith, Option, None}
use Rattle.std.proofs.lemmas.List.{length-replicate}
use Rattle.caf_events.specs.declared.event.Entry.{Entry}
use Rattle.order_theory.specs.Clocks.{Covers, tick}
use Rattle.order_theory.specs.Acts.{Key, round, pair, lock, construct, event, waiting}
use Rattle.order_theory.specs.Stored.{present, EachCovered}
use Rattle.order_theory.proofs.Clocks.{covers_same, covers_none}
use Rattle.order_theory.proofs.Sources.{sound}
use Rattle.order_theory.proofs.Recorder.{clock_first}
use Rattle.segment_clock.specs.Counts.{count_of, ticked}
use Rattle.segment_clock.proofs.Joins.{count_ticked, count_none, length_with_count}
use Rattle.order_axioms.specs.Views.{view, edges}
use Rattle.race_watch.specs.declared.order.Order.{Order}
use Rattle.race_watch.specs.Tables.{clock_at, queue_at, Numbered, none_yet, numbered_at}
use Rattle.race_watch.specs.Orders.{line_of, clock_of, JointKept, QueueKept, NumberedKept, Ordered}
use Rattle.race_watch.proofs.Turning.{count_empty}

zero_at : (n j : ℕ) → get_or {A = ℕ} (replicate n 0) j 0 ≡ 0
zero_at zero j = refl
zero_at (suc n) zero = refl
zero_at (suc n) (suc j) = zero_at n j

first_joint : (n : ℕ) (key : Key) (c : Option (List ℕ)) → waiting (view n) key [] ≡ [] → c ≡ None → JointKept n [] key c
first_joint n key c w e = subst (JointKept n [] key) (sym e) (record {
  sized = tt;
  covers = subst (λ z. Covers (edges n) [] z (count_of [])) (sym w) (covers_same Entry (edges n) (sound Entry (view n)) [] [] (λ i. 0) (count_of []) count_empty (covers_none Entry (edges n) (sound Entry (view n)) []));
})

first_queue : (n : ℕ) (key : Key) (cs : List (List ℕ)) → waiting (view n) key [] ≡ [] → cs ≡ [] → QueueKept n [] key cs
first_queue n key cs w e = subst (QueueKept n [] key) (sym e) (record { sized = tt; covers = subst (λ z. EachCovered (edges n) [] z []) (sym w) tt })

first_numbered : (n : ℕ) (key : Key) (q : Numbered) → waiting (view n) key [] ≡ [] → q ≡ none_yet → NumberedKept n [] key q
first_numbered n key q w e = subst (NumberedKept n [] key) (sym e) (record { sized = tt; gone = []; many = refl; covers = subst (λ z. EachCovered (edges n) [] z []) (sym w) tt })

pub first_ordered : (n : ℕ) (s : Order) → length s.images.items ≡ n → ((j : ℕ) → j < n → get_or s.images.items j [] ≡ ticked (replicate n 0) (j + 1)) → s.completed.items ≡ replicate n 0
    → length s.named.items ≡ n → ((j : ℕ) → get_or s.named.items j [] ≡ []) → s.rounds ≡ [] → s.locks ≡ [] → s.constructs ≡ [] → s.events ≡ [] → s.pairs ≡ [] → Ordered n [] s
first_ordered n s size clocks zeros many names rounds locks constructs events pairs = record {
  image_count = size;
  completed_count = ap length zeros ∙ length-replicate n 0;
  named_count = many;
  clock_sizes = λ i p q. ap length (clocks (i - 1) (omega arith)) ∙ length_with_count (replicate n 0) (i - 1 + 1) _ ∙ length-replicate n 0;
  clocks = λ i p q.
      covers_same Entry (edges n) (sound Entry (view n)) [] (present (view n) [] i ∷ []) (tick i (λ k. 0)) (count_of (clock_of s i))
      (λ k. let same : i - 1 + 1 ≡ i = omega arith in let m : length {A = ℕ} (replicate n 0) ≡ n = length-replicate n 0 in
      let a = count_ticked (replicate n 0) i k p (omega arith) in let b = count_none n k in
      ap (λ z. count_of z k) (clocks (i - 1) (omega arith) ∙ ap (ticked (replicate n 0)) same) ∙ omega arith)
      (clock_first Entry (view n) i);
  counts = λ i p q. ap (λ z. get_or z (i - 1) 0) zeros ∙ zero_at n (i - 1);
  named = λ i p q. names (i - 1);
  rounds = λ t k. first_joint n (round t k) _ refl (ap (λ z. clock_at z t k) rounds);
  locks = λ c p q. first_joint n (lock c) _ refl (ap (λ z. clock_at z (line_of n c.owner c.coarray) c.offset) locks);
  constructs = λ k. first_joint n (construct k) _ refl (ap (λ z. clock_at z 0 k) constructs);
  events = λ c p q. first_queue n (event c) _ refl (ap (λ z. queue_at z (line_of n c.owner c.coarray) c.offset) events);
  pairs = λ j h. first_numbered n (pair j h) _ refl (ap (λ z. numbered_at z j h) pairs);
  needed = λ j h. let z = ap (λ t. (numbered_at t j h).first) pairs in omega arith;
}
