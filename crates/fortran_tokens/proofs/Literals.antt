-- The longest literal that begins a text.
use Rattle.std.proofs.Common.{◌≡◌, ℕ, zero, suc, ◌+◌, ◌≤◌, Bool, true, false, cond, not, nat_eq, List, [], ◌∷◌, length, take, Option, Some, None, refl, sym, subst, arith}
use Rattle.std.proofs.Math.Numerals.{one-add}
use Rattle.std.proofs.lemmas.Bool.{and_parts, and_from}
use Rattle.fortran_tokens.specs.Forms.{is_literal_rest}
use Rattle.fortran_tokens.specs.Scans.{later, closes}

-- the first n bytes close a literal, and no more of them do; or none do
Closed : ℕ → Bool → List ℕ → Option ℕ → Type 0
Closed q inside t None = (m : ℕ) → m ≤ length t → is_literal_rest q inside (take m t) ≡ true → ⊥
Closed q inside t (Some n) = (n ≤ length t) × (is_literal_rest q inside (take n t) ≡ true) × ((m : ℕ) → m ≤ length t → is_literal_rest q inside (take m t) ≡ true → m ≤ n)

none_empty : (q : ℕ) (m : ℕ) → m ≤ length {A = ℕ} [] → is_literal_rest q true (take m []) ≡ true → ⊥
none_empty q zero h e = cc
none_empty q (suc m) h e = absurd (omega arith)

-- one more byte within a literal
inside_more : (q b : ℕ) (t : List ℕ) (o : Option ℕ) → Closed q (not (nat_eq b q)) t o → Closed q true (b ∷ t) (later None 1 o)
unfolding Closed
inside_more q b t None h = none
  where
    none : (m : ℕ) → m ≤ length (b ∷ t) → is_literal_rest q true (take m (b ∷ t)) ≡ true → ⊥
    none zero l e = cc
    none (suc m) l e = h m (omega arith) e
inside_more q b t (Some n) h =
    let fits = h.0 in
    (omega arith, subst (λ k. is_literal_rest q true (take k (b ∷ t)) ≡ true) (sym (one-add n)) h.1, most)
  where
    most : (m : ℕ) → m ≤ length (b ∷ t) → is_literal_rest q true (take m (b ∷ t)) ≡ true → m ≤ 1 + n
    most zero l e = omega arith
    most (suc m) l e = let k = h.2 m (omega arith) e in omega arith

-- one more byte behind a closed one
closed_more : (q b : ℕ) (t : List ℕ) (o : Option ℕ) → Closed q true t o → (same : Bool) → same ≡ nat_eq b q → Closed q false (b ∷ t) (cond same (later (Some 0) 1 o) (Some 0))
unfolding Closed
closed_more q b t None h true s = (omega arith, refl, most)
  where
    most : (m : ℕ) → m ≤ length (b ∷ t) → is_literal_rest q false (take m (b ∷ t)) ≡ true → m ≤ 0
    most zero l e = omega arith
    most (suc m) l e = absurd (h m (omega arith) (and_parts (nat_eq b q) (is_literal_rest q true (take m t)) e).1)
closed_more q b t (Some n) h true s =
    let fits = h.0 in
    (omega arith, subst (λ k. is_literal_rest q false (take k (b ∷ t)) ≡ true) (sym (one-add n)) (and_from (nat_eq b q) (is_literal_rest q true (take n t)) (sym s) h.1), most)
  where
    most : (m : ℕ) → m ≤ length (b ∷ t) → is_literal_rest q false (take m (b ∷ t)) ≡ true → m ≤ 1 + n
    most zero l e = omega arith
    most (suc m) l e = let k = h.2 m (omega arith) (and_parts (nat_eq b q) (is_literal_rest q true (take m t)) e).1 in omega arith
closed_more q b t o h false s = (omega arith, refl, most)
  where
    most : (m : ℕ) → m ≤ length (b ∷ t) → is_literal_rest q false (take m (b ∷ t)) ≡ true → m ≤ 0
    most zero l e = omega arith
    most (suc m) l e = absurd (let k = (and_parts (nat_eq b q) (is_literal_rest q true (take m t)) e).0 in cc)

closed_empty : (q : ℕ) → Closed q false [] (Some 0)
unfolding Closed
closed_empty q = (omega arith, refl, λ m h e. h)

open_empty : (q : ℕ) → Closed q true [] None
unfolding Closed
open_empty q = none_empty q

closes_exact : (q : ℕ) (inside : Bool) (t : List ℕ) → Closed q inside t (closes q inside t)
closes_exact q true [] = open_empty q
closes_exact q false [] = closed_empty q
closes_exact q true (b ∷ t) = inside_more q b t (closes q (not (nat_eq b q)) t) (closes_exact q (not (nat_eq b q)) t)
closes_exact q false (b ∷ t) = closed_more q b t (closes q true t) (closes_exact q true t) (nat_eq b q) refl

pub closes_none : (q : ℕ) (t : List ℕ) → closes q true t ≡ None → (m : ℕ) → m ≤ length t → is_literal_rest q true (take m t) ≡ true → ⊥
unfolding Closed
closes_none q t e = subst (Closed q true t) e (closes_exact q true t)

pub closes_some : (q : ℕ) (t : List ℕ) (n : ℕ) → closes q true t ≡ Some n → (n ≤ length t) × (is_literal_rest q true (take n t) ≡ true) × ((m : ℕ) → m ≤ length t → is_literal_rest q true (take m t) ≡ true → m ≤ n)
unfolding Closed
closes_some q t n e = subst (Closed q true t) e (closes_exact q true t)
