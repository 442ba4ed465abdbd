-- A trace in which the stamp due to an own step is one more than the image's last has no stamp above the number of its
-- entries.
use Rattle.std.proofs.Common.{◌≡◌, ℕ, zero, suc, ◌+◌, ◌≤◌, max, List, [], ◌∷◌, ◌++◌, length, refl, ap, sym, ◌∙◌, subst, arith, append_assoc}
use Rattle.std.proofs.lemmas.List.{append-nil, length-append}
use Rattle.trace_theory.specs.Entries.{of, Each, last_or}
use Rattle.trace_theory.specs.Runs.{place_last, due, IsStamped}
use Rattle.trace_theory.proofs.Filters.{each_filter}
use Rattle.trace_theory.proofs.Snocs.{each_last}

module _ {E : Type 0} where
  pub each_by : (P Q : E → Type 0) → ((x : E) → P x → Q x) → (xs : List E) → Each P xs → Each Q xs
  each_by P Q f [] h = tt
  each_by P Q f (x ∷ xs) h = (f x h.0, each_by P Q f xs h.1)

  -- what holds of each entry, wherever it stands, holds of all
  pub each_split : (P : E → Type 0) (xs : List E) → ((before after : List E) (x : E) → xs ≡ before ++ x ∷ after → P x) → Each P xs
  each_split P [] h = tt
  each_split P (x ∷ xs) h = (h [] xs x refl, each_split P xs (λ before after y e. h (x ∷ before) after y (ap (λ zs. x ∷ zs) e)))

  -- no stamp of these entries is above their number
  abbrev pub Few : (E → ℕ) → List E → Type 0
  Few stamp xs = Each (λ y. stamp y ≤ length xs) xs

  -- a last stamp is no greater than all stamps are
  pub last_few : (stamp : E → ℕ) (n m : ℕ) (xs : List E) → n ≤ m → Each (λ y. stamp y ≤ m) xs → last_or stamp n xs ≤ m
  last_few stamp n m [] le h = le
  last_few stamp n m (x ∷ xs) le h = last_few stamp (stamp x) m xs h.0 h.1

  -- nor is the last one of a key
  pub key_few : (key stamp : E → ℕ) (k m : ℕ) (xs : List E) → Each (λ y. stamp y ≤ m) xs → last_or stamp 0 (of key k xs) ≤ m
  key_few key stamp k m xs h = last_few stamp 0 m (of key k xs) (omega arith) (each_filter (λ y. stamp y ≤ m) _ xs h)

  pub place_few : (place stamp : E → ℕ) (k m : ℕ) (xs : List E) → Each (λ y. stamp y ≤ m) xs → place_last stamp k (of place k xs) ≤ m
  place_few place stamp zero m xs h = omega arith
  place_few place stamp (suc o) m xs h = key_few place stamp (suc o) m xs h

  -- the stamp that is due, where an own step has one more than its image's last
  pub due_is : (own : E → ℕ → ℕ) (stamp : E → ℕ) (k : ℕ) (x : E) (mine : ℕ) (h : List E) → ((n : ℕ) → own x n ≡ suc n)
      → due own k x mine (place_last stamp k h) ≡ suc (max mine (place_last stamp k h))
  due_is own stamp zero x mine h plain = let e = plain mine in omega arith
  due_is own stamp (suc o) x mine h plain = refl

  few_more : (stamp : E → ℕ) (xs : List E) (x : E) → Few stamp xs → stamp x ≤ suc (length xs) → Few stamp (xs ++ x ∷ [])
  few_more stamp xs x h le =
      let l : length (xs ++ x ∷ []) ≡ length xs + 1 = length-append xs (x ∷ []) in
      each_last (λ y. stamp y ≤ length (xs ++ x ∷ [])) xs x
      (each_by (λ y. stamp y ≤ length xs) (λ y. stamp y ≤ length (xs ++ x ∷ [])) (λ y k. omega arith) xs h)
      (omega arith)

module _ {E : Type 0} (image place stamp : E → ℕ) (own : E → ℕ → ℕ) (t : List E) (stamped : IsStamped image place stamp own t)
    (plain : (before after : List E) (x : E) → t ≡ before ++ x ∷ after → Few stamp before → (n : ℕ) → own x n ≡ suc n) where
  -- an entry's stamp is at most its number
  at_most : (before after : List E) (x : E) → t ≡ before ++ x ∷ after → Few stamp before → stamp x ≤ suc (length before)
  at_most before after x e h =
      let s = stamped before after x e in
      let d = due_is own stamp (place x) x (last_or stamp 0 (of image (image x) before)) (of place (place x) before) (plain before after x e h) in
      let mine = key_few image stamp (image x) (length before) before h in
      let there = place_few place stamp (place x) (length before) before h in
      omega arith

  few_from : (done rest after : List E) → t ≡ done ++ (rest ++ after) → Few stamp done → Few stamp (done ++ rest)
  few_from done [] after e h = subst (Few stamp) (sym (append-nil done)) h
  few_from done (x ∷ rest) after e h =
      subst (Few stamp) (append_assoc done (x ∷ []) rest)
      (few_from (done ++ x ∷ []) rest after (e ∙ sym (append_assoc done (x ∷ []) (rest ++ after)))
      (few_more stamp done x h (at_most done (rest ++ after) x e h)))

  pub few_before : (before after : List E) → t ≡ before ++ after → Few stamp before
  few_before before after e = few_from [] before after e tt

  pub numbered : (before after : List E) (x : E) → t ≡ before ++ x ∷ after → stamp x ≤ suc (length before)
  numbered before after x e = at_most before after x e (few_before before (x ∷ after) e)
