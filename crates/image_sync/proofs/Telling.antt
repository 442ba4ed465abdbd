-- What the state tells after an arrival or an end, and after the tries.
use Rattle.std.proofs.Common.{◌≡◌, ℕ, ◌+◌, ◌-◌, ◌<◌, ◌≤◌, Bool, true, false, ◌&&◌, ◌||◌, not, nat_le, cond, List, [], ◌∷◌, ◌++◌, inl, inr, refl, ap, sym, ◌∙◌, subst, arith}
use Rattle.std.specs.Prelude.{slice_index}
use Rattle.std.specs.List.{list_any, list_all, range_with_len}
use Rattle.std.proofs.lemmas.Bool.{cases_eq, cases_Bool, eq-eqb, ne_eqb}
use Rattle.object_rules.specs.Happenings.{Happening, pairs, has_stopped, has_failed}
use Rattle.object_rules.specs.TeamRounds.{status_of}
use Rattle.object_rules.specs.ImagePairs.{names, is_pair, pairs_of, naming, last_named, has_partner, at_pairing, pairing_status}
use Rattle.failure_status.specs.Endings.{Ended, flag_of, end_of, TellsEnded}
use Rattle.image_sync.specs.PairStates.{PairRow, row_of, names_in, count_in, has_partner_in, paired_in, status_in_pairs, status_paired, TellsPairs, AreTried, IsTold, BeginsIn}
use Rattle.image_sync.proofs.Pairing.{pairs_more, naming_more, last_named_more, not_begun_more, all_over, paired_is, closed_more}

not_any : (p : ℕ → Bool) (xs : List ℕ) → list_any p xs ≡ not (list_all (λ x. not (p x)) xs)
not_any p [] = refl
not_any p (x ∷ xs) = elim (cases_Bool (p x)) [ inl t ↦ rw t refl | inr f ↦ rw f (not_any p xs) ]

de_morgan : (a b : Bool) → not (a && b) ≡ (not a || not b)
de_morgan true b = refl
de_morgan false b = refl

-- some of the set, and some of all images of the run that is in it
any_over : (p q : ℕ → Bool) (n : ℕ) (set : List ℕ) → ((j : ℕ) → names j set ≡ true → (0 < j) × (j ≤ n)) → ((j : ℕ) → 0 < j → j ≤ n → q j ≡ (names j set && p j)) → list_any q (range_with_len 1 n) ≡ list_any p set
any_over p q n set within same =
    not_any q (range_with_len 1 n)
    ∙ ap not (all_over (λ j. not (p j)) (λ j. not (q j)) n set within (λ j a b. ap not (same j a b) ∙ de_morgan (names j set) (p j)))
    ∙ sym (not_any p set)

module _ (n : ℕ) (rows rows' : List PairRow) (ended : Ended) (hs : List Happening) (x : Happening) (told : IsTold n rows hs x) (ends : TellsEnded n ended (hs ++ x ∷ [])) where
  status_is : (i : ℕ) → 0 < i → i ≤ n → status_in_pairs rows ended n i ≡ pairing_status i (hs ++ x ∷ [])
  status_is i low high =
      ap (λ b. status_of b (list_any (λ j. names_in rows i j && flag_of ended.failed j) (range_with_len 1 n)))
      (any_over (λ j. has_stopped j (hs ++ x ∷ []) && not (has_partner i (hs ++ x ∷ []) j)) (λ j. names_in rows i j && (flag_of ended.stopped j && not (has_partner_in rows i j))) n (last_named i (hs ++ x ∷ [])) (told.within i)
      (λ j a b. ap (λ c. c && (flag_of ended.stopped j && not (has_partner_in rows i j))) (told.named i j low high a b)
      ∙ ap (λ c. names j (last_named i (hs ++ x ∷ [])) && (c && not (has_partner_in rows i j))) (ends.stopped_are j a b)
      ∙ ap (λ c. names j (last_named i (hs ++ x ∷ [])) && (has_stopped j (hs ++ x ∷ []) && not c)) (ap (λ k. nat_le k (count_in rows j i)) (told.counts i j low high a b) ∙ ap (nat_le (naming i j (hs ++ x ∷ []))) (told.counts j i a b low high))))
      ∙ ap (status_of (list_any (λ j. has_stopped j (hs ++ x ∷ []) && not (has_partner i (hs ++ x ∷ []) j)) (last_named i (hs ++ x ∷ []))))
      (any_over (λ j. has_failed j (hs ++ x ∷ [])) (λ j. names_in rows i j && flag_of ended.failed j) n (last_named i (hs ++ x ∷ [])) (told.within i)
      (λ j a b. ap (λ c. c && flag_of ended.failed j) (told.named i j low high a b) ∙ ap (λ c. names j (last_named i (hs ++ x ∷ [])) && c) (ends.failed_are j a b)))

  -- after the tries all is told
  pub tells_tried : AreTried n rows ended rows' → TellsPairs n rows' (hs ++ x ∷ [])
  tells_tried tried = record {
    begun = λ i a b. ap (λ r. r.begun) (tried i a b) ∙ told.begun i a b;
    counts = λ i j a b c d. ap (λ r. slice_index r.counts (j - 1)) (tried i a b) ∙ told.counts i j a b c d;
    named = λ i j a b c d. ap (λ r. flag_of r.named j) (tried i a b) ∙ told.named i j a b c d;
    within = told.within;
    closed = λ i a b. ap (λ r. r.closed) (tried i a b)
        ∙ closed_more i (pairs_of i (hs ++ x ∷ [])) hs x (row_of rows i).closed (paired_in rows ended n i) (status_in_pairs rows ended n i) refl (told.closed i a b)
        (paired_is n rows ended (hs ++ x ∷ []) i a b told.counts (λ j. told.named i j a b) (told.within i) ends) (status_is i a b);
    not_begun = λ i m few. not_begun_more i m hs x (told.not_begun i m (let e = pairs_more i hs x in omega arith)) few;
  }

-- ---- an image stops or fails: nothing changes but who has ended
no_pair : (j i : ℕ) (failed : Bool) → is_pair j (end_of i failed) ≡ false
no_pair j i true = refl
no_pair j i false = refl

end_pairs : (j i : ℕ) (failed : Bool) (hs : List Happening) → pairs_of j (hs ++ end_of i failed ∷ []) ≡ pairs_of j hs
end_pairs j i true hs = let e = pairs_more j hs (end_of i true) in omega arith
end_pairs j i false hs = let e = pairs_more j hs (end_of i false) in omega arith

end_naming : (a b i : ℕ) (failed : Bool) (hs : List Happening) → naming a b (hs ++ end_of i failed ∷ []) ≡ naming a b hs
end_naming a b i true hs = let e = naming_more a b hs (end_of i true) in omega arith
end_naming a b i false hs = let e = naming_more a b hs (end_of i false) in omega arith

end_named : (a i : ℕ) (failed : Bool) (hs : List Happening) → last_named a (hs ++ end_of i failed ∷ []) ≡ last_named a hs
end_named a i true hs = last_named_more a hs (end_of i true)
end_named a i false hs = last_named_more a hs (end_of i false)

pub told_end : (n i : ℕ) (failed : Bool) (rows : List PairRow) (hs : List Happening) → TellsPairs n rows hs → IsTold n rows hs (end_of i failed)
told_end n i failed rows hs t = record {
  begun = λ j a b. t.begun j a b ∙ sym (end_pairs j i failed hs);
  counts = λ j k a b c d. t.counts j k a b c d ∙ sym (end_naming j k i failed hs);
  named = λ j k a b c d. t.named j k a b c d ∙ ap (names k) (sym (end_named j i failed hs));
  within = λ j k m. t.within j k (ap (names k) (sym (end_named j i failed hs)) ∙ m);
  closed = λ j a b. t.closed j a b ∙ ap (λ m. status_paired j (at_pairing j m hs)) (sym (end_pairs j i failed hs));
  not_begun = t.not_begun;
}

-- ---- an image begins SYNC IMAGES with a set
module _ (n i : ℕ) (set : List ℕ) (rows rows' : List PairRow) (hs : List Happening) (low : 0 < i) (high : i ≤ n) (in_run : (j : ℕ) → names j set ≡ true → (0 < j) × (j ≤ n)) (t : TellsPairs n rows hs) (b : BeginsIn n i set rows rows') where
  x : Happening
  x = pairs i set

  mine : pairs_of i (hs ++ pairs i set ∷ []) ≡ pairs_of i hs + 1
  mine = pairs_more i hs (pairs i set) ∙ ap (λ c. pairs_of i hs + cond c 1 0) (eq-eqb i i refl)

  others_pairs : (j : ℕ) → (i ≡ j → ⊥) → pairs_of j (hs ++ pairs i set ∷ []) ≡ pairs_of j hs
  others_pairs j o =
      let e : pairs_of j (hs ++ pairs i set ∷ []) ≡ pairs_of j hs + 0 = pairs_more j hs (pairs i set) ∙ ap (λ c. pairs_of j hs + cond c 1 0) (ne_eqb i j o) in
      omega arith

  mine_named : last_named i (hs ++ pairs i set ∷ []) ≡ set
  mine_named = last_named_more i hs (pairs i set) ∙ ap (λ c. cond c set (last_named i hs)) (eq-eqb i i refl)

  others_named : (j : ℕ) → (i ≡ j → ⊥) → last_named j (hs ++ pairs i set ∷ []) ≡ last_named j hs
  others_named j o = last_named_more j hs (pairs i set) ∙ ap (λ c. cond c set (last_named j hs)) (ne_eqb i j o)

  mine_naming : (k : ℕ) → naming i k (hs ++ pairs i set ∷ []) ≡ naming i k hs + cond (names k set) 1 0
  mine_naming k = naming_more i k hs (pairs i set) ∙ ap (λ c. naming i k hs + cond (c && names k set) 1 0) (eq-eqb i i refl)

  others_naming : (j k : ℕ) → (i ≡ j → ⊥) → naming j k (hs ++ pairs i set ∷ []) ≡ naming j k hs
  others_naming j k o =
      let e : naming j k (hs ++ pairs i set ∷ []) ≡ naming j k hs + 0 = naming_more j k hs (pairs i set) ∙ ap (λ c. naming j k hs + cond (c && names k set) 1 0) (ne_eqb i j o) in
      omega arith

  either : (P : ℕ → Type 0) → P i → ((j : ℕ) → 0 < j → j ≤ n → (i ≡ j → ⊥) → P j) → (j : ℕ) → 0 < j → j ≤ n → P j
  either P here there j a c = elim (cases_eq i j) [ inl same ↦ subst P same here | inr other ↦ there j a c other ]

  pub told_pair : IsTold n rows' hs (pairs i set)
  told_pair = record {
    begun = either (λ j. (row_of rows' j).begun ≡ pairs_of j (hs ++ pairs i set ∷ [])) (b.here.begun ∙ ap (λ m. m + 1) (t.begun i low high) ∙ sym mine)
        (λ j a c o. ap (λ r. r.begun) (b.others j a c o) ∙ t.begun j a c ∙ sym (others_pairs j o));
    counts = λ j k a c d e. either (λ q. count_in rows' q k ≡ naming q k (hs ++ pairs i set ∷ []))
        (b.here.counts k d e ∙ ap (λ m. m + cond (names k set) 1 0) (t.counts i k low high d e) ∙ sym (mine_naming k))
        (λ q p r o. ap (λ w. slice_index w.counts (k - 1)) (b.others q p r o) ∙ t.counts q k p r d e ∙ sym (others_naming q k o)) j a c;
    named = λ j k a c d e. either (λ q. names_in rows' q k ≡ names k (last_named q (hs ++ pairs i set ∷ [])))
        (b.here.named k d e ∙ ap (names k) (sym mine_named))
        (λ q p r o. ap (λ w. flag_of w.named k) (b.others q p r o) ∙ t.named q k p r d e ∙ ap (names k) (sym (others_named q o))) j a c;
    within = λ j k m. elim (cases_eq i j) [
      | inl same ↦ in_run k (ap (names k) (sym (subst (λ q. last_named q (hs ++ pairs i set ∷ []) ≡ set) same mine_named)) ∙ m)
      | inr other ↦ t.within j k (ap (names k) (sym (others_named j other)) ∙ m)
    ];
    closed = either (λ j. (row_of rows' j).closed ≡ status_paired j (at_pairing j (pairs_of j (hs ++ pairs i set ∷ [])) hs))
        (b.here.closed ∙ ap (status_paired i) (sym (t.not_begun i (pairs_of i (hs ++ pairs i set ∷ [])) (let e = mine in omega arith))))
        (λ j a c o. ap (λ r. r.closed) (b.others j a c o) ∙ t.closed j a c ∙ ap (λ m. status_paired j (at_pairing j m hs)) (sym (others_pairs j o)));
    not_begun = t.not_begun;
  }
