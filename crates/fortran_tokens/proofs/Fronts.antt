-- Fronts of a text whose bytes pass a test.
use Rattle.std.proofs.Common.{◌≡◌, ℕ, zero, suc, ◌+◌, ◌≤◌, Bool, true, false, cond, List, [], ◌∷◌, length, take, refl, sym, subst, arith}
use Rattle.std.specs.List.{list_all, prefix_len}
use Rattle.std.proofs.Math.Numerals.{one-add}
use Rattle.std.proofs.lemmas.Bool.{and_parts, and_from}

-- a front whose bytes all pass is not longer than the first bytes that pass
pub front_most : (p : ℕ → Bool) (t : List ℕ) (m : ℕ) → m ≤ length t → list_all p (take m t) ≡ true → m ≤ prefix_len p t
front_most p t zero h e = omega arith
front_most p [] (suc m) h e = absurd (omega arith)
front_most p (b ∷ t) (suc m) h e =
    let parts = and_parts (p b) (list_all p (take m t)) e in
    let next = front_most p t m (omega arith) parts.1 in
    subst (λ c. suc m ≤ cond c (1 + prefix_len p t) 0) (sym parts.0) (omega arith)

front_here : (p : ℕ → Bool) (b : ℕ) (t : List ℕ) (n : ℕ) → list_all p (take n t) ≡ true → (c : Bool) → c ≡ p b → list_all p (take (cond c (1 + n) 0) (b ∷ t)) ≡ true
front_here p b t n h true e = subst (λ k. list_all p (take k (b ∷ t)) ≡ true) (sym (one-add n)) (and_from (p b) (list_all p (take n t)) (sym e) h)
front_here p b t n h false e = refl

-- the first bytes that pass all pass
pub front_passes : (p : ℕ → Bool) (t : List ℕ) → list_all p (take (prefix_len p t) t) ≡ true
front_passes p [] = refl
front_passes p (b ∷ t) = front_here p b t (prefix_len p t) (front_passes p t) (p b) refl
