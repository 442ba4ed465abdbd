-- The state of SYNC IMAGES of a run, after an arrival and after an end.
use Rattle.std.proofs.Common.{◌≡◌, ℕ, zero, suc, ◌-◌, ◌^◌, ◌<◌, ◌≤◌, Bool, true, false, nat_eq, List, [], ◌∷◌, ◌++◌, inl, inr, length, replicate, refl, ap, sym, ◌∙◌, subst, arith, length-set}
use Rattle.std.specs.Prelude.{None, slice_index, slice_index_or}
use Rattle.std.proofs.lemmas.Bool.{eqb-true, ne_eqb, or_cases}
use Rattle.caf_base.specs.declared.place.ImageNo.{ImageNo}
use Rattle.object_rules.specs.Happenings.{Happening, pairs, numbers_of}
use Rattle.object_rules.specs.ImagePairs.{names, at_pairing}
use Rattle.failure_status.specs.Endings.{Ended, AreWithin, flag_of, ended_with, end_of, TellsEnded}
use Rattle.failure_status.proofs.Noted.{tells_end, tells_same}
use Rattle.image_sync.specs.PairStates.{PairRow, no_row, row_of, fresh_row, IsOfOneRun, TellsPairs, TellsSyncs, IsTold, AreTried, AreTriedTo, AreSquare, AreCounted, BeginsIn, Begins}
use Rattle.image_sync.proofs.Telling.{tells_tried, told_end, told_pair}
use Rattle.image_sync.proofs.Trying.{are_tried, square_tried, counted_tried}

-- the images of a set are of the run
in_run : (n : ℕ) (set : List ImageNo) → AreWithin n set → (j : ℕ) → names j (numbers_of set) ≡ true → (0 < j) × (j ≤ n)
in_run n [] w j m = absurd (cc)
in_run n (x ∷ xs) w j m = elim (or_cases (nat_eq j x.0) (names j (numbers_of xs)) m) [
  | inl e ↦ (let s : j ≡ x.0 = eqb-true j x.0 e in let here : (0 < x.0) × (x.0 ≤ n) = w 0 x (omega arith) in (omega arith, omega arith))
  | inr t ↦ in_run n xs (λ k d h. w (suc k) d (omega arith)) j t
]

-- after the tries the state tells it
tries_tell : (n m : ℕ) (rows after : List PairRow) (ended : Ended) (hs : List Happening) (x : Happening) → m ≡ n → IsTold n rows hs x → TellsEnded n ended (hs ++ x ∷ []) → length after ≡ m → AreTriedTo m m rows ended after
    → TellsSyncs n (record { ended = ended; rows = after }) (hs ++ x ∷ [])
tries_tell n m rows after ended hs x e told ends l t = record {
  images = l ∙ e;
  ended_told = ends;
  rows_told = tells_tried n rows after ended hs x told ends (subst (λ q. AreTried q rows ended after) e (are_tried m m rows after ended refl t));
}

pub tells_arrival : (n i : ℕ) (set : List ImageNo) (ended : Ended) (rows begun after : List PairRow) (hs : List Happening) → 0 < i → i ≤ length rows → AreWithin (length rows) set → Begins i (numbers_of set) rows begun
    → length after ≡ length begun → AreTriedTo (length begun) (length begun) begun ended after → TellsSyncs n (record { ended = ended; rows = rows }) hs
    → TellsSyncs n (record { ended = ended; rows = after }) (hs ++ pairs i (numbers_of set) ∷ [])
tells_arrival n i set ended rows begun after hs low high within b l t s =
    let e = s.images in
    tries_tell n (length begun) begun after ended hs (pairs i (numbers_of set)) (b.as_many ∙ e)
    (told_pair n i (numbers_of set) rows begun hs low (omega arith) (in_run n set (subst (λ m. AreWithin m set) e within)) s.rows_told (subst (λ m. BeginsIn m i (numbers_of set) rows begun) e b.begins))
    (tells_same n ended hs (pairs i (numbers_of set)) (λ j. refl) (λ j. refl) s.ended_told) l t

pub tells_end_of : (n i : ℕ) (failed : Bool) (was ended : Ended) (rows after : List PairRow) (hs : List Happening) → 0 < i → i ≤ length rows → ended ≡ ended_with was i failed
    → length after ≡ length rows → AreTriedTo (length rows) (length rows) rows ended after → TellsSyncs n (record { ended = was; rows = rows }) hs
    → TellsSyncs n (record { ended = ended; rows = after }) (hs ++ end_of i failed ∷ [])
tells_end_of n i failed was ended rows after hs low high e l t s =
    let m = s.images in
    tries_tell n (length rows) rows after ended hs (end_of i failed) m (told_end n i failed rows hs s.rows_told)
    (subst (λ q. TellsEnded n q (hs ++ end_of i failed ∷ [])) (sym e) (tells_end n was hs i failed low (omega arith) s.ended_told)) l t

-- ---- the marks and rows stay those of one run
pub one_run_tried : (ended : Ended) (rows after : List PairRow) → length ended.stopped ≡ length rows → length ended.failed ≡ length rows → length rows < 2 ^ 32 → AreSquare (length rows) rows → AreCounted rows → length after ≡ length rows
    → AreTriedTo (length rows) (length rows) rows ended after → IsOfOneRun (record { ended = ended; rows = after })
one_run_tried ended rows after stopped failed few square counted l t = record {
  few = subst (λ m. m < 2 ^ 32) (sym l) few;
  stopped = stopped ∙ sym l;
  failed = failed ∙ sym l;
  square = subst (λ m. AreSquare m after) (sym l) (square_tried (length rows) (length rows) rows after ended t square);
  counted = counted_tried (length rows) (length rows) rows after ended l refl t counted;
}

pub one_run_begun : (i : ℕ) (set : List ℕ) (ended : Ended) (rows begun after : List PairRow) → IsOfOneRun (record { ended = ended; rows = rows }) → Begins i set rows begun → length after ≡ length begun
    → AreTriedTo (length begun) (length begun) begun ended after → IsOfOneRun (record { ended = ended; rows = after })
one_run_begun i set ended rows begun after s b l t =
    one_run_tried ended begun after (s.stopped ∙ sym b.as_many) (s.failed ∙ sym b.as_many) (subst (λ m. m < 2 ^ 32) (sym b.as_many) s.few) (subst (λ m. AreSquare m begun) (sym b.as_many) b.square) b.counted l t

marks_stay : (was : Ended) (i : ℕ) (failed : Bool) → (length (ended_with was i failed).stopped ≡ length was.stopped) × (length (ended_with was i failed).failed ≡ length was.failed)
marks_stay was i true = (refl, length-set was.failed (i - 1) true)
marks_stay was i false = (length-set was.stopped (i - 1) true, refl)

pub one_run_ended : (i : ℕ) (failed : Bool) (was ended : Ended) (rows after : List PairRow) → ended ≡ ended_with was i failed → IsOfOneRun (record { ended = was; rows = rows }) → length after ≡ length rows
    → AreTriedTo (length rows) (length rows) rows ended after → IsOfOneRun (record { ended = ended; rows = after })
one_run_ended i failed was ended rows after e s l t =
    let m = marks_stay was i failed in
    one_run_tried ended rows after (ap (λ (q : Ended). length q.stopped) e ∙ m.0 ∙ s.stopped) (ap (λ (q : Ended). length q.failed) e ∙ m.1 ∙ s.failed) s.few s.square s.counted l t

-- the marks after an end are as many
pub as_many_marks : (i : ℕ) (failed : Bool) (was ended : Ended) (n : ℕ) → ended ≡ ended_with was i failed → length was.stopped ≡ n → length was.failed ≡ n → (length ended.stopped ≡ n) × (length ended.failed ≡ n)
as_many_marks i failed was ended n e a b = let m = marks_stay was i failed in (ap (λ (q : Ended). length q.stopped) e ∙ m.0 ∙ a, ap (λ (q : Ended). length q.failed) e ∙ m.1 ∙ b)

-- ---- a new run
flags_none : (n k : ℕ) → slice_index_or (replicate n false) k false ≡ false
flags_none zero k = refl
flags_none (suc n) zero = refl
flags_none (suc n) (suc k) = flags_none n k

counts_none : (n k : ℕ) → slice_index (replicate n 0) k ≡ 0
counts_none zero k = refl
counts_none (suc n) zero = refl
counts_none (suc n) (suc k) = counts_none n k

length_replicate : {A : Type 0} (n : ℕ) (x : A) → length (replicate n x) ≡ n
length_replicate zero x = refl
length_replicate (suc n) x = ap suc (length_replicate n x)

row_there : (n k : ℕ) (r : PairRow) → k < n → slice_index_or (replicate n r) k no_row ≡ r
row_there zero k r h = absurd (omega arith)
row_there (suc n) zero r h = refl
row_there (suc n) (suc k) r h = row_there n k r (omega arith)

row_fresh : (n i : ℕ) → 0 < i → i ≤ n → row_of (replicate n (fresh_row n)) i ≡ fresh_row n
row_fresh n i a b = row_there n (i - 1) (fresh_row n) (omega arith)

pub one_run_new : (n : ℕ) (ended : Ended) (rows : List PairRow) → n < 2 ^ 32 → ended.stopped ≡ replicate n false → ended.failed ≡ replicate n false → rows ≡ replicate n (fresh_row n) → IsOfOneRun (record { ended = ended; rows = rows })
one_run_new n ended rows few s f e =
    let l : length rows ≡ n = ap length e ∙ length_replicate n (fresh_row n) in
    record {
      few = subst (λ m. m < 2 ^ 32) (sym l) few;
      stopped = ap length s ∙ length_replicate n false ∙ sym l;
      failed = ap length f ∙ length_replicate n false ∙ sym l;
      square = λ k h. (
          let there : slice_index_or rows k no_row ≡ fresh_row n = ap (λ q. slice_index_or q k no_row) e ∙ row_there n k (fresh_row n) (omega arith) in
          (ap (λ (x : PairRow). length x.named) there ∙ length_replicate n false ∙ sym l, ap (λ (x : PairRow). length x.counts) there ∙ length_replicate n 0 ∙ sym l));
      counted = λ k j h. (
          let there : slice_index_or rows k no_row ≡ fresh_row n = ap (λ q. slice_index_or q k no_row) e ∙ row_there n k (fresh_row n) (omega arith) in
          let zeros : slice_index (slice_index_or rows k no_row).counts j ≡ 0 = ap (λ (x : PairRow). slice_index x.counts j) there ∙ counts_none n j in
          omega arith);
    }

none_yet : (i m : ℕ) → 0 < m → at_pairing i m [] ≡ None
none_yet i zero few = absurd (omega arith)
none_yet i (suc m) few = let e : nat_eq 0 (suc m) ≡ false = ne_eqb 0 (suc m) (λ q. absurd (omega arith)) in rw e refl

pub tells_none : (n : ℕ) (ended : Ended) (rows : List PairRow) → ended.stopped ≡ replicate n false → ended.failed ≡ replicate n false → rows ≡ replicate n (fresh_row n) → TellsSyncs n (record { ended = ended; rows = rows }) []
tells_none n ended rows s f e = record {
  images = ap length e ∙ length_replicate n (fresh_row n);
  ended_told = record {
    stopped_count = ap length s ∙ length_replicate n false;
    failed_count = ap length f ∙ length_replicate n false;
    stopped_are = λ i a b. ap (λ q. flag_of q i) s ∙ flags_none n (i - 1);
    failed_are = λ i a b. ap (λ q. flag_of q i) f ∙ flags_none n (i - 1);
  };
  rows_told = subst (λ q. TellsPairs n q []) (sym e) (record {
    begun = λ i a b. ap (λ (r : PairRow). r.begun) (row_fresh n i a b);
    counts = λ i j a b c d. ap (λ (r : PairRow). slice_index r.counts (j - 1)) (row_fresh n i a b) ∙ counts_none n (j - 1);
    named = λ i j a b c d. ap (λ (r : PairRow). flag_of r.named j) (row_fresh n i a b) ∙ flags_none n (j - 1);
    within = λ i j m. absurd (cc);
    closed = λ i a b. ap (λ (r : PairRow). r.closed) (row_fresh n i a b);
    not_begun = λ i m few. none_yet i m few;
  });
}
