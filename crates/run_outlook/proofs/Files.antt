-- The sets in which images are filed, where one is written again.
use Rattle.std.proofs.Common.{◌≡◌, ℕ, zero, suc, ◌+◌, ◌%◌, ◌<◌, ◌≤◌, List, [], ◌∷◌, ◌++◌, ◌⊎◌, inl, inr, length, refl, ap, sym, ◌∙◌, subst, arith, Bool, true, false, length-set}
use Rattle.std.specs.Prelude.{◌||◌, nat_eq, map, slice_index_or, slice_set}
use Rattle.std.proofs.lemmas.Bool.{cases_eq}
use Rattle.std.proofs.lemmas.List.{get_or-set_same, get_or-set_other, get_or_past}
use Rattle.std.proofs.lemmas.Nat.Bits.{bit_at-zero}
use Rattle.caf_base.specs.declared.place.Place.{Place}
use Rattle.caf_base.specs.declared.place.Place.TheVariants.{Memory, Board, Own}
use Rattle.run_outlook.specs.declared.image_set.ImageSet.{ImageSet}
use Rattle.run_outlook.specs.ImageSets.{has}
use Rattle.run_outlook.specs.Outlooks.{IsFileOf, IsFiled, filed_at}
use Rattle.run_outlook.proofs.Slices.{map_set, map_index, map_length}

pub or_cases : (a b : Bool) → (a || b) ≡ true → (a ≡ true) ⊎ (b ≡ true)
or_cases true b h = inl refl
or_cases false b h = inr h

pub or_right : (a b : Bool) → b ≡ true → (a || b) ≡ true
or_right true b h = refl
or_right false b h = h

-- an object has its files at one place
pub same_file : (n : ℕ) (place : Place) (j k : ℕ) → IsFileOf n place j → IsFileOf n place k → j ≡ k
same_file n Own j k a b = absurd a
same_file n Board j k a b = a.0 ∙ sym b.0
same_file n (Memory owner) j k a b = a.0 ∙ sym b.0

module _ (files : List ImageSet) (k : ℕ) (x y : ImageSet) (within : k < length files) (is : x ≡ slice_index_or files k x) where
  pub filed_is : filed_at files k ≡ x.words.items
  filed_is = map_index (λ (s : ImageSet). s.words.items) files k x [] within is

  pub filed_here : filed_at (slice_set files k y) k ≡ y.words.items
  filed_here =
      ap (λ ls. slice_index_or ls k []) (map_set (λ (s : ImageSet). s.words.items) files k y)
      ∙ get_or-set_same (map (λ (s : ImageSet). s.words.items) files) k y.words.items [] (let l = map_length (λ (s : ImageSet). s.words.items) files in omega arith)

  filed_elsewhere : (j : ℕ) → (j ≡ k → ⊥) → filed_at (slice_set files k y) j ≡ filed_at files j
  filed_elsewhere j apart =
      ap (λ ls. slice_index_or ls j []) (map_set (λ (s : ImageSet). s.words.items) files k y)
      ∙ get_or-set_other (map (λ (s : ImageSet). s.words.items) files) k j y.words.items [] apart

  -- what holds of each of the sets and of the one that is written
  pub each_file : (P : ℕ → List ℕ → Type 0) → ((j : ℕ) → P j (filed_at files j)) → P k y.words.items → (j : ℕ) → P j (filed_at (slice_set files k y) j)
  each_file P all one j = elim (cases_eq j k) [
    | inl e ↦ subst (λ n. P n (filed_at (slice_set files k y) n)) (sym e) (subst (P k) (sym filed_here) one)
    | inr n ↦ subst (P j) (sym (filed_elsewhere j n)) (all j)
  ]

  pub as_many : length (slice_set files k y) ≡ length files
  as_many = length-set files k y

  -- an image that is in both, or not the one that is taken out, stays filed
  pub still_filed : (i : ℕ) → (has x.words.items i ≡ true → has y.words.items i ≡ true) → (q : Place) → IsFiled files q i → IsFiled (slice_set files k y) q i
  still_filed i more q was j file =
      each_file (λ n ws. IsFileOf (length files) q n → has ws i ≡ true) was (λ f. more (subst (λ ws. has ws i ≡ true) filed_is (was k f))) j (subst (λ n. IsFileOf n q j) as_many file)

  -- the image in the set that is written is filed
  pub filed_now : (i : ℕ) (q : Place) → IsFileOf (length files) q k → has y.words.items i ≡ true → IsFiled (slice_set files k y) q i
  filed_now i q here at j file =
      let same : k ≡ j = same_file (length files) q k j here (subst (λ n. IsFileOf n q j) as_many file) in
      subst (λ n. has (filed_at (slice_set files k y) n) i ≡ true) same (subst (λ ws. has ws i ≡ true) (sym filed_here) at)

-- what holds of each of the sets and of one more
pub each_more : (P : ℕ → List ℕ → Type 0) (files : List ImageSet) (x : ImageSet) → ((j : ℕ) → j < length files → P j (filed_at files j)) → P (length files) x.words.items → (j : ℕ) → j < length files + 1 → P j (filed_at (files ++ x ∷ []) j)
each_more P [] x all one zero h = one
each_more P [] x all one (suc j) h = absurd (omega arith)
each_more P (f ∷ fs) x all one zero h = all 0 (omega arith)
each_more P (f ∷ fs) x all one (suc j) h = each_more (λ n. P (suc n)) fs x (λ n l. all (suc n) (omega arith)) one j (omega arith)

-- past the sets nobody is filed
pub none_past_files : (files : List ImageSet) (k i : ℕ) → length files ≤ k → has (filed_at files k) i ≡ false
none_past_files files k i past =
    ap (λ ws. has ws i) (get_or_past (map (λ (s : ImageSet). s.words.items) files) k [] (let l = map_length (λ (s : ImageSet). s.words.items) files in omega arith))
    ∙ ap (λ b. nat_eq b 1) (bit_at-zero (i % 64))
