-- A table of names: what its look-ups say of the list of the names.
use Rattle.std.proofs.Common.{◌≡◌, ℕ, zero, suc, ◌+◌, ◌<◌, Bool, true, false, cond, nat_lt, List, [], ◌∷◌}
use Rattle.std.proofs.Common.{◌++◌, map, length, take, get_or, Some, None, slice_get, refl, ap, sym, ◌∙◌}
use Rattle.std.proofs.Common.{arith, bytes_eq, ◌||◌}
use Rattle.std.specs.Prelude.{Vec, position}
use Rattle.std.specs.List.{list_any}
use Rattle.std.specs.declared.alloc.Global.{Global}
use Rattle.std.proofs.lemmas.Bool.{lt-ltb}
use Rattle.std.proofs.lemmas.List.Sums.{position_or_len_is}
use Rattle.std.proofs.lemmas.Slice.Eq.{bytes_eq-Decides}
use Rattle.trace_forms.specs.Names.{AreNames}

-- the names of a list of keys
abbrev pub items_of : List (Vec ℕ Global) → List (List ℕ)
items_of vs = map (λ v. v.items) vs

pub differ : (xs ys : List ℕ) → (xs ≡ ys → ⊥) → bytes_eq xs ys ≡ false
differ xs ys apart = by (bytes_eq xs ys) refl
  where
    by : (t : Bool) → bytes_eq xs ys ≡ t → bytes_eq xs ys ≡ false
    by true e = absurd (apart ((bytes_eq-Decides xs ys).0 e))
    by false e = e

get_item : (vs : List (Vec ℕ Global)) (k : ℕ) (d : Vec ℕ Global) → k < length vs → slice_get (items_of vs) k
    ≡ Some (get_or vs k d).items
get_item [] k d h = absurd (omega arith)
get_item (v ∷ vs) zero d h = refl
get_item (v ∷ vs) (suc k) d h = get_item vs k d (omega arith)

within : (vs : List (Vec ℕ Global)) (k : ℕ) (n : List ℕ) → slice_get (items_of vs) k ≡ Some n → k < length vs
within [] k n e = absurd (cc)
within (v ∷ vs) zero n e = omega arith
within (v ∷ vs) (suc k) n e = let h = within vs k n e in omega arith

some_same : (x y : List ℕ) → Some x ≡ Some y → x ≡ y
some_same x y e = cc

-- the number of a name among names that differ
place_in : (vs : List (Vec ℕ Global)) (d : Vec ℕ Global) → AreNames (items_of vs) → (k : ℕ) (n : List ℕ)
    → slice_get (items_of vs) k ≡ Some n → position (λ v. bytes_eq n v.items) vs ≡ Some k
place_in vs d are k n e =
    let h = within vs k n e in
    let at = position_or_len_is (λ v. bytes_eq n v.items) vs k d (omega arith)
    (λ j l. differ n (get_or vs j d).items (λ same. let f = are.differ j k n (get_item vs j d (omega arith)
    ∙ ap Some (sym same)) e in omega arith))
    (λ _. (bytes_eq-Decides n (get_or vs k d).items).1 (some_same n (get_or vs k d).items (sym e
    ∙ get_item vs k d h))) in
    (λ i. cond (nat_lt (at i) (length vs)) (Some (at i)) None) ∙ ap (λ b. cond b (Some k) None) (lt-ltb k (length vs) h)

pub place_is : (vs : List (Vec ℕ Global)) → AreNames (items_of vs) → (k : ℕ) (n : List ℕ)
    → slice_get (items_of vs) k ≡ Some n → position (λ v. bytes_eq n v.items) vs ≡ Some k
place_is [] are k n e = absurd (cc)
place_is (v ∷ vs) are k n e = place_in (v ∷ vs) v are k n e

-- a name behind others isn't among them
none_of : (x : List ℕ) (vs : List (Vec ℕ Global)) → ((j : ℕ) (y : List ℕ) → slice_get (items_of vs) j ≡ Some y
    → x ≡ y → ⊥) → list_any (λ v. bytes_eq x v.items) vs ≡ false
none_of x [] none = refl
none_of x (v ∷ vs) none = (λ i. differ x v.items (none 0 v.items refl) i || list_any
    (λ w. bytes_eq x w.items) vs) ∙ none_of x vs (λ j y g. none (suc j) y g)

take_get : (xs : List (List ℕ)) (k j : ℕ) (y : List ℕ) → slice_get (take k xs) j ≡ Some y → (slice_get xs j
    ≡ Some y) × (j < k)
take_get [] zero j y e = absurd (cc)
take_get [] (suc k) j y e = absurd (cc)
take_get (x ∷ xs) zero j y e = absurd (cc)
take_get (x ∷ xs) (suc k) zero y e = (e, omega arith)
take_get (x ∷ xs) (suc k) (suc j) y e = let t = take_get xs k j y e in (t.0, omega (arith, t.1))

pub fresh : (names : List (List ℕ)) → AreNames names → (k : ℕ) (x : List ℕ) → slice_get names k ≡ Some x
    → (vs : List (Vec ℕ Global)) → items_of vs ≡ take k names → list_any (λ v. bytes_eq x v.items) vs ≡ false
fresh names are k x at vs is = none_of x vs (λ j y g same.
    let t = take_get names k j y (ap (λ z. slice_get z j) (sym is) ∙ g) in
    let f = are.differ j k y t.0 (at ∙ ap Some same) in
    omega (arith, t.1))

-- one name more
item_at : (xs : List (List ℕ)) (i : ℕ) (x : List ℕ) → i < length xs → x ≡ get_or xs i x → slice_get xs i ≡ Some x
item_at [] i x h e = absurd (omega arith)
item_at (y ∷ ys) zero x h e = ap Some (sym e)
item_at (y ∷ ys) (suc i) x h e = item_at ys i x (omega arith) e

take_next : (xs : List (List ℕ)) (k : ℕ) (x : List ℕ) → slice_get xs k ≡ Some x
    → take k xs ++ (x ∷ []) ≡ take (suc k) xs
take_next [] k x e = absurd (cc)
take_next (y ∷ ys) zero x e = ap (λ z. z ∷ []) (sym (some_same y x e))
take_next (y ∷ ys) (suc k) x e = ap (λ zs. y ∷ zs) (take_next ys k x e)

items_more : (vs : List (Vec ℕ Global)) (v : Vec ℕ Global) → items_of (vs ++ (v ∷ [])) ≡ items_of vs ++ (v.items ∷ [])
items_more [] v = refl
items_more (w ∷ vs) v = ap (λ z. w.items ∷ z) (items_more vs v)

pub grown : (names : List (List ℕ)) → AreNames names → (k : ℕ) (x : List ℕ) → k < length names → x ≡ get_or names k x
    → (old new : List (Vec ℕ Global)) (v : Vec ℕ Global) → v.items ≡ x → items_of old ≡ take k names
    → new ≡ cond (list_any (λ w. bytes_eq v.items w.items) old) old (old ++ (v ∷ []))
    → items_of new ≡ take (k + 1) names
grown names are k x h at old new v is read e =
    let there = item_at names k x h at in
    let none = fresh names are k v.items (there ∙ ap Some (sym is)) old read in
    let n : suc k ≡ k + 1 = omega arith in
    ap items_of (e ∙ ap (λ b. cond b old (old ++ (v ∷ []))) none) ∙ items_more old v
    ∙ (λ i. read i ++ (is i ∷ [])) ∙ take_next names k x there ∙ ap (λ j. take j names) n
