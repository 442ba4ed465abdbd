-- Laws of a stack's values.
use Rattle.std.proofs.Common.{◌≡◌, ℕ, zero, suc, ◌+◌, ◌-◌, ◌<◌, ◌≤◌, ◌≢◌, ℤ, pos, List, [], ◌∷◌, ◌++◌, length, take, drop, w64, SFits, to_z, of_z, slice_set, slice_index_or, refl, ap, sym, ◌∙◌, arith}
use Rattle.std.proofs.lemmas.List.{get_or-set_same, get_or-set_other, get_or-drop, append_assoc, length-append, length-take, length-drop, reverse-append, take-append-drop}
use Rattle.std.proofs.Math.Seq.{take-suc}
use Rattle.std.proofs.lemmas.Int.{to_z-of_z}
use Rattle.std.specs.Prelude.{Some, None, slice_get, reverse}
use Rattle.image_stores.specs.Numbers.{Pile, below}
use Rattle.std.proofs.lemmas.List.{length-set}

pub below_length : (s : List ℤ) (n : ℕ) → length (below s n) ≡ n
below_length s zero = refl
below_length s (suc n) = let h = below_length s n in omega arith

pub below_set : (s : List ℤ) (k : ℕ) (v : ℤ) (n : ℕ) → n ≤ k → below (slice_set s k v) n ≡ below s n
below_set s k v zero h = refl
below_set s k v (suc n) h =
    let d : n ≢ k = λ e. absurd (omega arith) in
    ap (λ x. x ∷ below (slice_set s k v) n) (get_or-set_other s k n v (pos 0) d) ∙ ap (λ xs. slice_index_or s n (pos 0) ∷ xs) (below_set s k v n (omega arith))

pub below_push : (s : List ℤ) (k : ℕ) (v : ℤ) → k < length s → below (slice_set s k v) (k + 1) ≡ v ∷ below s k
below_push s k v h =
    let e : k + 1 ≡ suc k = omega arith in
    ap (λ n. below (slice_set s k v) n) e ∙ ap (λ x. x ∷ below (slice_set s k v) k) (get_or-set_same s k v (pos 0) h) ∙ ap (λ xs. v ∷ xs) (below_set s k v k (omega arith))

pub below_one : (s : List ℤ) (n : ℕ) → 0 < n → below s n ≡ slice_index_or s (n - 1) (pos 0) ∷ below s (n - 1)
below_one s zero h = absurd (omega arith)
below_one s (suc n) h = let e : suc n - 1 ≡ n = omega arith in ap (λ m. slice_index_or s m (pos 0) ∷ below s m) (sym e)

-- one more value, in a view
pub push_room : (s s' : List ℤ) (k : ℕ) (v : ℤ) (h : Pile) → h ≡ record { values = below s k; size = length s } → length h.values < h.size → s' ≡ slice_set s k v → k + 1 ≤ length s'
push_room s s' k v h e r w =
    let a = below_length s k in
    let b = ap (λ (x : Pile). length x.values) e in
    let d = ap (λ (x : Pile). x.size) e in
    let f = ap length w ∙ length-set s k v in
    omega arith

pub push_view : (s s' : List ℤ) (k : ℕ) (v : ℤ) (h : Pile) → h ≡ record { values = below s k; size = length s } → length h.values < h.size → s' ≡ slice_set s k v → ◌≡◌ {A = Pile} (record { values = below s' (k + 1); size = length s' }) (record { values = v ∷ h.values; size = h.size })
push_view s s' k v h e r w =
    let within : k < length s = (let a = below_length s k in let b = ap (λ (x : Pile). length x.values) e in let d = ap (λ (x : Pile). x.size) e in omega arith) in
    let x : below s' (k + 1) ≡ v ∷ h.values = ap (λ t. below t (k + 1)) w ∙ below_push s k v within ∙ ap (λ vs. v ∷ vs) (sym (ap (λ (x : Pile). x.values) e)) in
    let y : length s' ≡ h.size = ap length w ∙ length-set s k v ∙ sym (ap (λ (x : Pile). x.size) e) in
    rw (x, y) refl

pub top_is : (s : List ℤ) (n : ℕ) → 0 < n → below s n ≡ slice_index_or s (n - 1) (pos 0) ∷ drop 1 (below s n)
top_is s zero h = absurd (omega arith)
top_is s (suc n) h = let e : suc n - 1 ≡ n = omega arith in ap (λ m. slice_index_or s m (pos 0) ∷ below s n) (sym e)

pub two_are : (s : List ℤ) (n : ℕ) → 1 < n → below s n ≡ slice_index_or s (n - 1) (pos 0) ∷ slice_index_or s (n - 2) (pos 0) ∷ drop 2 (below s n)
two_are s zero h = absurd (omega arith)
two_are s (suc zero) h = absurd (omega arith)
two_are s (suc (suc n)) h =
    let e : suc (suc n) - 1 ≡ suc n = omega arith in
    let f : suc (suc n) - 2 ≡ n = omega arith in
    ap (λ m. slice_index_or s m (pos 0) ∷ slice_index_or s n (pos 0) ∷ below s n) (sym e) ∙ ap (λ m. slice_index_or s (suc (suc n) - 1) (pos 0) ∷ slice_index_or s m (pos 0) ∷ below s n) (sym f)

pub put_is : (s : List ℤ) (n : ℕ) (v : ℤ) → 0 < n → n ≤ length s → below (slice_set s (n - 1) v) n ≡ v ∷ drop 1 (below s n)
put_is s zero v h r = absurd (omega arith)
put_is s (suc n) v h r =
    let e : suc n - 1 ≡ n = omega arith in
    let f : n + 1 ≡ suc n = omega arith in
    ap (λ m. below (slice_set s m v) (suc n)) e ∙ ap (λ m. below (slice_set s n v) m) (sym f) ∙ below_push s n v (omega arith)

pub replace_is : (s : List ℤ) (n : ℕ) (v : ℤ) → 1 < n → n ≤ length s → below (slice_set s (n - 2) v) (n - 1) ≡ v ∷ drop 2 (below s n)
replace_is s zero v h r = absurd (omega arith)
replace_is s (suc zero) v h r = absurd (omega arith)
replace_is s (suc (suc n)) v h r =
    let e : suc (suc n) - 2 ≡ n = omega arith in
    let f : suc (suc n) - 1 ≡ n + 1 = omega arith in
    ap (λ m. below (slice_set s m v) (suc (suc n) - 1)) e ∙ ap (λ m. below (slice_set s n v) m) f ∙ below_push s n v (omega arith)

pub same_word : (z : ℤ) → SFits w64 z → to_z w64 (of_z w64 z) ≡ z
same_word z h = to_z-of_z w64 z h

pub put_view : (s s' : List ℤ) (n : ℕ) (v : ℤ) (h : Pile) → h ≡ record { values = below s n; size = length s } → 0 < n → n ≤ length s → s' ≡ slice_set s (n - 1) v → ◌≡◌ {A = Pile} (record { values = below s' n; size = length s' }) (record { values = v ∷ drop 1 h.values; size = h.size })
put_view s s' n v h e r i w =
    let x : below s' n ≡ v ∷ drop 1 h.values = ap (λ t. below t n) w ∙ put_is s n v r i ∙ ap (λ vs. v ∷ drop 1 vs) (sym (ap (λ (x : Pile). x.values) e)) in
    let y : length s' ≡ h.size = ap length w ∙ length-set s (n - 1) v ∙ sym (ap (λ (x : Pile). x.size) e) in
    rw (x, y) refl

pub replace_view : (s s' : List ℤ) (n : ℕ) (v : ℤ) (h : Pile) → h ≡ record { values = below s n; size = length s } → 1 < n → n ≤ length s → s' ≡ slice_set s (n - 2) v → ◌≡◌ {A = Pile} (record { values = below s' (n - 1); size = length s' }) (record { values = v ∷ drop 2 h.values; size = h.size })
replace_view s s' n v h e r i w =
    let x : below s' (n - 1) ≡ v ∷ drop 2 h.values = ap (λ t. below t (n - 1)) w ∙ replace_is s n v r i ∙ ap (λ vs. v ∷ drop 2 vs) (sym (ap (λ (x : Pile). x.values) e)) in
    let y : length s' ≡ h.size = ap length w ∙ length-set s (n - 2) v ∙ sym (ap (λ (x : Pile). x.size) e) in
    rw (x, y) refl

-- the number beneath so many others
pub below_get : (s : List ℤ) (n k : ℕ) → k < n → slice_get (below s n) k ≡ Some (slice_index_or s (n - 1 - k) (pos 0))
below_get s zero k h = absurd (omega arith)
below_get s (suc n) zero h = let e : suc n - 1 - 0 ≡ n = omega arith in ap (λ m. Some (slice_index_or s m (pos 0))) (sym e)
below_get s (suc n) (suc k) h = let e : n - 1 - k ≡ suc n - 1 - suc k = omega arith in below_get s n k (omega arith) ∙ ap (λ m. Some (slice_index_or s m (pos 0))) e

pub below_past : (s : List ℤ) (n k : ℕ) → n ≤ k → slice_get (below s n) k ≡ None
below_past s zero k h = refl
below_past s (suc n) zero h = absurd (omega arith)
below_past s (suc n) (suc k) h = below_past s n k (omega arith)

none_dropped : {X : Type 0} (xs : List X) → xs ≡ drop 0 xs
none_dropped [] = refl
none_dropped (x ∷ xs) = refl

pub below_drop : (s : List ℤ) (n k : ℕ) → k ≤ n → below s (n - k) ≡ drop k (below s n)
below_drop s n zero h = let e : n - 0 ≡ n = omega arith in ap (below s) e ∙ none_dropped (below s n)
below_drop s zero (suc k) h = absurd (omega arith)
below_drop s (suc n) (suc k) h = let e : suc n - suc k ≡ n - k = omega arith in ap (below s) e ∙ below_drop s n k (omega arith)

-- the numbers beneath some others are cells one behind the other
run_below : (s : List ℤ) (n e : ℕ) → n ≤ e → e ≤ length s → reverse (take n (below s e)) ≡ take n (drop (e - n) s)
run_below s zero e h w = refl
run_below s (suc n) zero h w = absurd (omega arith)
run_below s (suc n) (suc e) h w =
    let at : suc e - suc n ≡ e - n = omega arith in
    let sum : (e - n) + n ≡ e = omega arith in
    let long : n < length (drop (e - n) s) = (let l = length-drop (e - n) s in omega arith) in
    reverse-append (slice_index_or s e (pos 0) ∷ []) (take n (below s e))
    ∙ ap (λ ys. ys ++ slice_index_or s e (pos 0) ∷ []) (run_below s n e (omega arith) (omega arith))
    ∙ sym (ap (λ k. take (suc n) (drop k s)) at ∙ take-suc (drop (e - n) s) n (pos 0) long ∙ ap (λ x. take n (drop (e - n) s) ++ x ∷ []) (get_or-drop (e - n) s n (pos 0) ∙ ap (λ k. slice_index_or s k (pos 0)) sum))

pub beneath_view : (s : List ℤ) (used d n : ℕ) (h : Pile) → h ≡ record { values = below s used; size = length s } → used ≤ length s → d + n ≤ used → take ((used - d) - ((used - d) - n)) (drop ((used - d) - n) s) ≡ reverse (take n (drop d h.values))
beneath_view s used d n h e w f =
    let k : (used - d) - ((used - d) - n) ≡ n = omega arith in
    ap (λ j. take j (drop ((used - d) - n) s)) k
    ∙ sym (run_below s n (used - d) (omega arith) (omega arith))
    ∙ ap (λ vs. reverse (take n vs)) (below_drop s used d (omega arith) ∙ ap (drop d) (sym (ap (λ (x : Pile). x.values) e)))

-- a number once more
pub below_index : (s : List ℤ) (n k : ℕ) → k < n → slice_index_or s (n - 1 - k) (pos 0) ≡ slice_index_or (below s n) k (pos 0)
below_index s zero k h = absurd (omega arith)
below_index s (suc n) zero h = let e : suc n - 1 - 0 ≡ n = omega arith in ap (λ m. slice_index_or s m (pos 0)) e
below_index s (suc n) (suc k) h = let e : suc n - 1 - suc k ≡ n - 1 - k = omega arith in ap (λ m. slice_index_or s m (pos 0)) e ∙ below_index s n k (omega arith)

index_behind : (ts vs : List ℤ) (m k : ℕ) → k ≡ length ts + m → slice_index_or (ts ++ vs) k (pos 0) ≡ slice_index_or vs m (pos 0)
index_behind [] vs m k e = (let f : k ≡ m = omega arith in ap (λ i. slice_index_or vs i (pos 0)) f)
index_behind (t ∷ ts) vs m zero e = absurd (omega arith)
index_behind (t ∷ ts) vs m (suc k) e = index_behind ts vs m k (omega arith)

-- the elements from one on
from_one : (vs : List ℤ) (m i : ℕ) → m < length vs → take (suc i) (drop m vs) ≡ slice_index_or vs m (pos 0) ∷ take i (drop (suc m) vs)
from_one [] m i h = absurd (omega arith)
from_one (v ∷ vs) zero i h = ap (λ xs. v ∷ take i xs) (none_dropped vs)
from_one (v ∷ vs) (suc m) i h = from_one vs m i (omega arith)

taken_here : (vs : List ℤ) (m i : ℕ) → m + i ≤ length vs → length (take i (drop m vs)) ≡ i
taken_here vs m zero h = omega (arith, length-take 0 (drop m vs))
taken_here vs m (suc i) h = omega (arith, length-take (suc i) (drop m vs), length-drop m vs)

more_of : (vs : List ℤ) (m i k : ℕ) → k ≡ i + m → m + suc i ≤ length vs → slice_index_or (take i (drop (suc m) vs) ++ vs) k (pos 0) ∷ (take i (drop (suc m) vs) ++ vs) ≡ take (suc i) (drop m vs) ++ vs
more_of vs m i k e h =
    let l : length (take i (drop (suc m) vs)) ≡ i = taken_here vs (suc m) i (omega arith) in
    ap (λ x. x ∷ (take i (drop (suc m) vs) ++ vs)) (index_behind (take i (drop (suc m) vs)) vs m k (omega arith))
    ∙ ap (λ xs. xs ++ vs) (sym (from_one vs m i (omega arith)))

pub repeated : (vs : List ℤ) (d n i : ℕ) (now : List ℤ) → i < n → d + n ≤ length vs → now ≡ take i (drop (d + (n - i)) vs) ++ vs
    → slice_index_or now (d + n - 1) (pos 0) ∷ now ≡ take (i + 1) (drop (d + (n - (i + 1))) vs) ++ vs
repeated vs d n i now l h w =
    let a : d + (n - i) ≡ suc (d + (n - (i + 1))) = omega arith in
    let b : suc i ≡ i + 1 = omega arith in
    ap (λ xs. slice_index_or xs (d + n - 1) (pos 0) ∷ xs) (w ∙ ap (λ m. take i (drop m vs) ++ vs) a)
    ∙ more_of vs (d + (n - (i + 1))) i (d + n - 1) (omega arith) (omega arith)
    ∙ ap (λ m. take m (drop (d + (n - (i + 1))) vs) ++ vs) b

-- numbers that are brought to the top: cells one behind the other, and what they are as a stack
index_front : (p q : List ℤ) (k : ℕ) → k < length p → slice_index_or (p ++ q) k (pos 0) ≡ slice_index_or p k (pos 0)
index_front [] q k h = absurd (omega arith)
index_front (x ∷ p) q zero h = refl
index_front (x ∷ p) q (suc k) h = index_front p q k (omega arith)

below_front : (p q : List ℤ) (k : ℕ) → k ≤ length p → below (p ++ q) k ≡ below p k
below_front p q zero h = refl
below_front p q (suc k) h = ap (λ x. x ∷ below (p ++ q) k) (index_front p q k (omega arith)) ∙ ap (λ xs. slice_index_or p k (pos 0) ∷ xs) (below_front p q k (omega arith))

abbrev turned : List ℤ → List ℤ
turned p = below p (length p)

below_behind : (p q : List ℤ) (k : ℕ) → below (p ++ q) (length p + k) ≡ below q k ++ turned p
below_behind p q zero = (let e : length p + 0 ≡ length p = omega arith in ap (below (p ++ q)) e ∙ below_front p q (length p) (omega arith))
below_behind p q (suc k) =
    let e : length p + suc k ≡ suc (length p + k) = omega arith in
    ap (below (p ++ q)) e
    ∙ ap (λ x. x ∷ below (p ++ q) (length p + k)) (index_behind p q k (length p + k) refl)
    ∙ ap (λ xs. slice_index_or q k (pos 0) ∷ xs) (below_behind p q k)

below_three : (p q r e : List ℤ) (n : ℕ) → n ≡ length p + (length q + length r) → below (p ++ ((q ++ r) ++ e)) n ≡ turned r ++ (turned q ++ turned p)
below_three p q r e n h =
    ap (below (p ++ ((q ++ r) ++ e))) h
    ∙ below_behind p ((q ++ r) ++ e) (length q + length r)
    ∙ ap (λ xs. xs ++ turned p) (below_front (q ++ r) e (length q + length r) (omega (arith, length-append q r)) ∙ below_behind q r (length r))
    ∙ append_assoc (turned r) (turned q) (turned p)

take_seam : (xs ys : List ℤ) (n : ℕ) → length xs ≡ n → take n (xs ++ ys) ≡ xs
take_seam [] [] n h = (let e : n ≡ 0 = omega arith in rw e refl)
take_seam [] (y ∷ ys) n h = (let e : n ≡ 0 = omega arith in rw e refl)
take_seam (x ∷ xs) ys zero h = absurd (omega arith)
take_seam (x ∷ xs) ys (suc n) h = ap (λ zs. x ∷ zs) (take_seam xs ys n (omega arith))

drop_seam : (xs ys : List ℤ) (n : ℕ) → length xs ≡ n → drop n (xs ++ ys) ≡ ys
drop_seam [] ys n h = (let e : n ≡ 0 = omega arith in ap (λ m. drop m ys) e ∙ sym (none_dropped ys))
drop_seam (x ∷ xs) ys zero h = absurd (omega arith)
drop_seam (x ∷ xs) ys (suc n) h = drop_seam xs ys n (omega arith)

abbrev brought : (d n : ℕ) → List ℤ → List ℤ
brought d n vs = take n (drop d vs) ++ (take d vs ++ drop (d + n) vs)

brought_three : (u x r : List ℤ) (d n : ℕ) → length u ≡ d → length x ≡ n → brought d n (u ++ (x ++ r)) ≡ x ++ (u ++ r)
brought_three u x r d n a b =
    let e : take n (drop d (u ++ (x ++ r))) ≡ x = ap (take n) (drop_seam u (x ++ r) d a) ∙ take_seam x r n b in
    let f : take d (u ++ (x ++ r)) ≡ u = take_seam u (x ++ r) d a in
    let g : drop (d + n) (u ++ (x ++ r)) ≡ r = ap (drop (d + n)) (sym (append_assoc u x r)) ∙ drop_seam (u ++ x) r (d + n) (omega (arith, length-append u x)) in
    ap (λ ys. ys ++ (take d (u ++ (x ++ r)) ++ drop (d + n) (u ++ (x ++ r)))) e
    ∙ ap (λ ys. x ++ (ys ++ drop (d + n) (u ++ (x ++ r)))) f
    ∙ ap (λ ys. x ++ (u ++ ys)) g

turned_around : (p q r e : List ℤ) (n d used : ℕ) → length q ≡ n → length r ≡ d → used ≡ length p + (n + d) → below (p ++ ((r ++ q) ++ e)) used ≡ brought d n (below (p ++ ((q ++ r) ++ e)) used)
turned_around p q r e n d used a b h =
    below_three p r q e used (omega arith)
    ∙ sym (ap (brought d n) (below_three p q r e used (omega arith)) ∙ brought_three (turned r) (turned q) (turned p) d n (below_length r (length r) ∙ b) (below_length q (length q) ∙ a))

abbrev between : List ℤ → (start end : ℕ) → List ℤ
between s start end = take (end - start) (drop start s)

abbrev rotated : List ℤ → (start end n : ℕ) → List ℤ
rotated s start end n = take start s ++ ((drop n (between s start end) ++ take n (between s start end)) ++ drop end s)

nil_dropped : (k : ℕ) → drop {A = ℤ} k [] ≡ []
nil_dropped zero = refl
nil_dropped (suc k) = refl

drop_twice : (s : List ℤ) (a k : ℕ) → drop k (drop a s) ≡ drop (k + a) s
drop_twice s zero k = (let e : k + 0 ≡ k = omega arith in ap (drop k) (sym (none_dropped s)) ∙ ap (λ m. drop m s) (sym e))
drop_twice [] (suc a) k = nil_dropped k ∙ sym (nil_dropped (k + suc a))
drop_twice (x ∷ s) (suc a) k = (let e : k + suc a ≡ suc (k + a) = omega arith in drop_twice s a k ∙ ap (λ m. drop m (x ∷ s)) (sym e))

in_parts : (s : List ℤ) (start end n : ℕ) → start ≤ end → s ≡ take start s ++ ((take n (between s start end) ++ drop n (between s start end)) ++ drop end s)
in_parts s start end n h =
    let e : (end - start) + start ≡ end = omega arith in
    sym (ap (λ m. take start s ++ (m ++ drop end s)) (take-append-drop n (between s start end))
    ∙ ap (λ m. take start s ++ (between s start end ++ m)) (sym (drop_twice s start (end - start) ∙ ap (λ m. drop m s) e))
    ∙ ap (λ m. take start s ++ m) (take-append-drop (end - start) (drop start s))
    ∙ take-append-drop start s)

rotated_long : (s : List ℤ) (start end n : ℕ) → start ≤ end → end ≤ length s → length (rotated s start end n) ≡ length s
rotated_long s start end n h w =
    let m = between s start end in
    let l = ap length (in_parts s start end n h) in
    omega (arith, length-append (take start s) ((drop n m ++ take n m) ++ drop end s), length-append (drop n m ++ take n m) (drop end s), length-append (drop n m) (take n m), length-append (take start s) ((take n m ++ drop n m) ++ drop end s), length-append (take n m ++ drop n m) (drop end s), length-append (take n m) (drop n m))

pub long_enough : (s : List ℤ) (used d n : ℕ) (h : Pile) → h ≡ record { values = below s used; size = length s } → d + n ≤ length h.values → d + n ≤ used
long_enough s used d n h e r = (let a = ap (λ (x : Pile). length x.values) e ∙ below_length s used in omega arith)

pub bring_view : (s s' : List ℤ) (used d n : ℕ) (h : Pile) → h ≡ record { values = below s used; size = length s } → used ≤ length s → d + n ≤ used → s' ≡ rotated s (used - d - n) used n → ◌≡◌ {A = Pile} (record { values = below s' used; size = length s' }) (record { values = brought d n h.values; size = h.size })
bring_view s s' used d n h e w f r =
    let start = used - d - n in
    let m : length (between s start used) ≡ n + d = omega (arith, length-take (used - start) (drop start s), length-drop start s) in
    let lq : length (take n (between s start used)) ≡ n = omega (arith, length-take n (between s start used)) in
    let lr : length (drop n (between s start used)) ≡ d = omega (arith, length-drop n (between s start used)) in
    let lp : length (take start s) ≡ start = omega (arith, length-take start s) in
    let x : below s' used ≡ brought d n h.values = ap (λ t. below t used) r
    ∙ turned_around (take start s) (take n (between s start used)) (drop n (between s start used)) (drop used s) n d used lq lr (omega arith)
    ∙ ap (λ t. brought d n (below t used)) (sym (in_parts s start used n (omega arith)))
    ∙ ap (brought d n) (sym (ap (λ (x : Pile). x.values) e)) in
    let y : length s' ≡ h.size = ap length r ∙ rotated_long s start used n (omega arith) w ∙ sym (ap (λ (x : Pile). x.size) e) in
    rw (x, y) refl
