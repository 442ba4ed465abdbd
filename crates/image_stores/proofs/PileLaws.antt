-- Piles in a row of items, and the row from its other end.
use Rattle.std.proofs.Common.{◌≡◌, ℕ, zero, suc, ◌+◌, ◌-◌, ◌<◌, ◌≤◌, List, [], ◌∷◌, ◌++◌, length, get_or, take, drop, refl, ap, sym, subst, ◌∙◌, arith}
use Rattle.std.specs.Prelude.{reverse}
use Rattle.std.proofs.lemmas.List.{length-take, length-drop, length-reverse, reverse-append, reverse-reverse, take-append-drop, take_rest}
use Rattle.std.proofs.Math.Seq.{take-add, take-suc, take-length, drop-append_seam, take-append_seam}
use Rattle.image_stores.specs.Piles.{Pile, Piled, pile, items_in, newest, merged, with_last, piles_of, counts}
use Rattle.image_stores.specs.declared.piles.Base.{Base}

pub piles_long : {H T : Type 0} (bs : List (Base H)) (xs : List T) → length (piles_of bs xs) ≡ length bs
piles_long [] xs = refl
piles_long (b ∷ bs) xs = ap suc (piles_long bs (drop b.count xs))

pub piles_full : {H T : Type 0} (bs : List (Base H)) (xs : List T) → counts bs ≤ length xs → items_in (piles_of bs xs) ≡ counts bs
piles_full [] xs h = refl
piles_full (b ∷ bs) xs h = (let l = length-take b.count xs in let d = length-drop b.count xs in let r = piles_full bs (drop b.count xs) (omega arith) in omega arith)

drop_twice : {X : Type 0} (n m : ℕ) (xs : List X) → drop m (drop n xs) ≡ drop (n + m) xs
drop_twice zero m xs = (let e : 0 + m ≡ m = omega arith in rw e refl)
drop_twice (suc n) zero [] = (let e : suc n + 0 ≡ suc n = omega arith in rw e refl)
drop_twice (suc n) (suc m) [] = (let e : suc n + suc m ≡ suc (n + suc m) = omega arith in rw e refl)
drop_twice (suc n) m (x ∷ xs) = (let e : suc n + m ≡ suc (n + m) = omega arith in rw e (drop_twice n m xs))

merge_seen : {H T : Type 0} (b c : Base H) (bs : List (Base H)) (xs : List T) → pile c.head (take (c.count + b.count) xs) ∷ piles_of bs (drop (c.count + b.count) xs) ≡ merged (piles_of (b ∷ c ∷ bs) xs)
merge_seen b c bs xs =
    let e : c.count + b.count ≡ b.count + c.count = omega arith in
    ap (λ n. pile c.head (take n xs) ∷ piles_of bs (drop n xs)) e
    ∙ ap (λ ys. pile c.head ys ∷ piles_of bs (drop (b.count + c.count) xs)) (take-add b.count c.count xs)
    ∙ ap (λ ys. pile c.head (take b.count xs ++ take c.count (drop b.count xs)) ∷ piles_of bs ys) (sym (drop_twice b.count c.count xs))

-- the first items of a row are behind the last ones of the row from its other end
split_reverse : {X : Type 0} (k : ℕ) (xs : List X) → reverse xs ≡ reverse (drop k xs) ++ reverse (take k xs)
split_reverse k xs = ap reverse (sym (take-append-drop k xs)) ∙ reverse-append (take k xs) (drop k xs)

last_long : {X : Type 0} (n : ℕ) (xs : List X) → n ≤ length xs → length (reverse (drop (length xs - n) xs)) ≡ n
last_long n xs h = (let a = length-reverse (drop (length xs - n) xs) in let b = length-drop (length xs - n) xs in omega arith)

pub first_items : {X : Type 0} (n : ℕ) (xs : List X) → n ≤ length xs → reverse (take (length xs - n) xs) ≡ drop n (reverse xs)
first_items n xs h = sym (ap (λ m. drop m (reverse xs)) (sym (last_long n xs h)) ∙ ap (drop (length (reverse (drop (length xs - n) xs)))) (split_reverse (length xs - n) xs) ∙ drop-append_seam (reverse (drop (length xs - n) xs)) (reverse (take (length xs - n) xs)))

pub last_items : {X : Type 0} (n : ℕ) (xs : List X) → n ≤ length xs → drop (length xs - n) xs ≡ reverse (take n (reverse xs))
last_items n xs h =
    let e : take n (reverse xs) ≡ reverse (drop (length xs - n) xs) = ap (λ m. take m (reverse xs)) (sym (last_long n xs h)) ∙ ap (take (length (reverse (drop (length xs - n) xs)))) (split_reverse (length xs - n) xs) ∙ take-append_seam (reverse (drop (length xs - n) xs)) (reverse (take (length xs - n) xs)) in
    sym (ap reverse e ∙ reverse-reverse (drop (length xs - n) xs))

last_first : {X : Type 0} (old new : List X) (b : X) → old ≡ new ++ b ∷ [] → reverse old ≡ b ∷ reverse new
last_first old new b e = ap reverse e ∙ reverse-append new (b ∷ [])

-- another item in the place of the last one
last_seen : {H T : Type 0} (h : H) (k : ℕ) (bs : List (Base H)) (x y : T) (zs : List T) → 0 < length (take k (y ∷ zs))
    → pile h (take k (x ∷ zs)) ∷ piles_of bs (drop k (x ∷ zs)) ≡ pile h (x ∷ drop 1 (take k (y ∷ zs))) ∷ piles_of bs (drop k (y ∷ zs))
last_seen h zero bs x y zs p = absurd (omega arith)
last_seen h (suc k) bs x y zs p = refl

piles_with_last : {H T : Type 0} (bs : List (Base H)) (x y : T) (zs : List T) → 0 < length (newest (piles_of bs (y ∷ zs))) → piles_of bs (x ∷ zs) ≡ with_last x (piles_of bs (y ∷ zs))
piles_with_last [] x y zs p = absurd (omega arith)
piles_with_last (b ∷ bs) x y zs p = last_seen b.head b.count bs x y zs p

newest_within : {H T : Type 0} (bs : List (Base H)) (xs : List T) → length (newest (piles_of bs xs)) ≤ length xs
newest_within [] xs = omega arith
newest_within (b ∷ bs) xs = (let l = length-take b.count xs in omega arith)

module _ {H T : Type 0} where
  abbrev piled : List (Pile H T) → ℕ → ℕ → Piled H T
  piled ps m n = record { piles = ps; most = m; size = n }

  pub same_piled : (ps qs : List (Pile H T)) (m n k l : ℕ) → ps ≡ qs → m ≡ n → k ≡ l → piled ps m k ≡ piled qs n l
  same_piled ps qs m n k l a b c = rw (a, b, c) refl

  count_within : (old new : List (Base H)) (b : Base H) (xs : List T) → old ≡ new ++ b ∷ [] → counts (reverse old) ≡ length xs → b.count ≤ length xs
  count_within old new b xs e f = (let g = ap counts (last_first old new b e) in omega arith)

  pub end_view : (old new : List (Base H)) (b : Base H) (xs ys : List T) → old ≡ new ++ b ∷ [] → counts (reverse old) ≡ length xs → ys ≡ take (length xs - b.count) xs → piles_of (reverse new) (reverse ys) ≡ drop 1 (piles_of (reverse old) (reverse xs))
  end_view old new b xs ys e f g =
      ap (λ zs. piles_of (reverse new) (reverse zs)) g
      ∙ ap (piles_of (reverse new)) (first_items b.count xs (count_within old new b xs e f))
      ∙ sym (ap (λ bs. drop 1 (piles_of bs (reverse xs))) (last_first old new b e))

  pub end_counts : (old new : List (Base H)) (b : Base H) (xs ys : List T) → old ≡ new ++ b ∷ [] → counts (reverse old) ≡ length xs → ys ≡ take (length xs - b.count) xs → counts (reverse new) ≡ length ys
  end_counts old new b xs ys e f g = (let h = ap counts (last_first old new b e) in let l = ap length g in let k = length-take (length xs - b.count) xs in omega arith)

  pub merge_view : (old mid new end : List (Base H)) (b c d : Base H) (xs : List T) → old ≡ mid ++ b ∷ [] → mid ≡ new ++ c ∷ [] → end ≡ new ++ d ∷ [] → d.head ≡ c.head → d.count ≡ c.count + b.count → piles_of (reverse end) (reverse xs) ≡ merged (piles_of (reverse old) (reverse xs))
  merge_view old mid new end b c d xs e f g h k =
      ap (λ bs. piles_of bs (reverse xs)) (last_first end new d g)
      ∙ ap (λ j. pile j (take d.count (reverse xs)) ∷ piles_of (reverse new) (drop d.count (reverse xs))) h
      ∙ ap (λ n. pile c.head (take n (reverse xs)) ∷ piles_of (reverse new) (drop n (reverse xs))) k
      ∙ merge_seen b c (reverse new) (reverse xs)
      ∙ sym (ap (λ bs. merged (piles_of bs (reverse xs))) (last_first old mid b e ∙ ap (λ bs. b ∷ bs) (last_first mid new c f)))

  pub newest_view : (bs : List (Base H)) (b : Base H) (xs zs : List T) (n m : ℕ) → 0 < n → n ≡ length bs → m ≡ length xs → zs ≡ xs → b ≡ get_or bs (n - 1) b → counts (reverse bs) ≡ length xs → take (m - (m - b.count)) (drop (m - b.count) zs) ≡ reverse (newest (piles_of (reverse bs) (reverse xs)))
  newest_view bs b xs zs n m p e f z g h =
      let k : suc (n - 1) ≡ length bs = omega arith in
      let a : bs ≡ take (n - 1) bs ++ b ∷ [] = sym (take-length bs) ∙ ap (λ j. take j bs) (sym k) ∙ take-suc bs (n - 1) b (omega arith) ∙ ap (λ y. take (n - 1) bs ++ y ∷ []) (sym g) in
      let w = count_within bs (take (n - 1) bs) b xs a h in
      ap (λ j. take (j - (j - b.count)) (drop (j - b.count) zs)) f
      ∙ ap (λ ys. take (length xs - (length xs - b.count)) (drop (length xs - b.count) ys)) z
      ∙ take_rest xs (length xs - b.count)
      ∙ last_items b.count xs w
      ∙ sym (ap (λ cs. reverse (newest (piles_of cs (reverse xs)))) (last_first bs (take (n - 1) bs) b a))

  pub last_view : (bs : List (Base H)) (old mid new : List T) (x y : T) → old ≡ mid ++ y ∷ [] → new ≡ mid ++ x ∷ [] → 0 < length (newest (piles_of (reverse bs) (reverse old)))
      → piles_of (reverse bs) (reverse new) ≡ with_last x (piles_of (reverse bs) (reverse old))
  last_view bs old mid new x y e f p =
      let g = last_first old mid y e in
      ap (piles_of (reverse bs)) (last_first new mid x f)
      ∙ piles_with_last (reverse bs) x y (reverse mid) (subst (λ zs. 0 < length (newest (piles_of (reverse bs) zs))) g p)
      ∙ sym (ap (λ zs. with_last x (piles_of (reverse bs) zs)) g)

  -- where the newest pile has an item there is one
  pub some_item : (bs : List (Base H)) (xs : List T) (s : Piled H T) (m n : ℕ) → piled (piles_of (reverse bs) (reverse xs)) m n ≡ s → 0 < length (newest s.piles) → 0 < length xs
  some_item bs xs s m n e p =
      let a = newest_within (reverse bs) (reverse xs) in
      let b = length-reverse xs in
      let c = ap (λ (t : Piled H T). length (newest t.piles)) e in
      omega arith
