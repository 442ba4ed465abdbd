-- The last place at which a literal is closed, step by step.
use Rattle.std.proofs.Common.{◌≡◌, ℕ, ◌+◌, ◌<◌, ◌≤◌, Bool, true, false, cond, not, nat_eq, List, [], ◌∷◌, length, get_or, drop, Option, Some, None, refl, ap, sym, ◌∙◌, arith, add-one, add-zero}
use Rattle.std.proofs.lemmas.Bool.{eq-eqb, ne_eqb}
use Rattle.std.proofs.Math.Seq.{drop-cons}
use Rattle.std.specs.Prelude.{IfSome}
use Rattle.fortran_tokens.specs.Scans.{later, closes}

-- a place behind one byte more
later_more : (last : Option ℕ) (i : ℕ) (o : Option ℕ) → later last i (later None 1 o) ≡ later last (i + 1) o
later_more last i None = refl
later_more last i (Some n) = ap (λ k. Some k) (omega arith)

-- behind a closed literal a place is there
later_any : (q : ℕ) (t : List ℕ) (last one : Option ℕ) (i : ℕ) → later last i (closes q false t) ≡ later one i (closes q false t)
later_any q [] last one i = refl
later_any q (b ∷ t) last one i = by_case (nat_eq b q) (closes q true t)
  where
    by_case : (s : Bool) (o : Option ℕ) → later last i (cond s (later (Some 0) 1 o) (Some 0)) ≡ later one i (cond s (later (Some 0) 1 o) (Some 0))
    by_case false o = refl
    by_case true None = refl
    by_case true (Some n) = refl

-- the byte at a place, and the rest
here : (t : List ℕ) (i : ℕ) → i < length t → drop i t ≡ get_or t i 0 ∷ drop (i + 1) t
here t i h = rw add-one (drop-cons t i 0 h)

-- within a literal, another byte
pub goes_on : (q : ℕ) (t : List ℕ) (i : ℕ) (last : Option ℕ) → i < length t → (get_or t i 0 ≡ q → ⊥) → later last (i + 1) (closes q true (drop (i + 1) t)) ≡ later last i (closes q true (drop i t))
goes_on q t i last h n =
    let other = ap (λ s. later last i (later None 1 (closes q (not s) (drop (i + 1) t)))) (ne_eqb (get_or t i 0) q n) in
    sym (ap (λ u. later last i (closes q true u)) (here t i h) ∙ (other ∙ later_more last i (closes q true (drop (i + 1) t))))

-- within a literal, its delimiter
pub closes_here : (q : ℕ) (t : List ℕ) (i : ℕ) (last : Option ℕ) → i < length t → get_or t i 0 ≡ q → later (Some (i + 1)) (i + 1) (closes q false (drop (i + 1) t)) ≡ later last i (closes q true (drop i t))
closes_here q t i last h e =
    let same = ap (λ s. later last i (later None 1 (closes q (not s) (drop (i + 1) t)))) (eq-eqb (get_or t i 0) q e) in
    later_any q (drop (i + 1) t) (Some (i + 1)) last (i + 1)
    ∙ sym (ap (λ u. later last i (closes q true u)) (here t i h) ∙ (same ∙ later_more last i (closes q false (drop (i + 1) t))))

later_zero : (last : Option ℕ) (i : ℕ) (o : Option ℕ) → last ≡ Some i → later last i (later (Some 0) 1 o) ≡ later last (i + 1) o
later_zero last i None e = ap (λ k. Some k) (add-zero i) ∙ sym e
later_zero last i (Some n) e = ap (λ k. Some k) (omega arith)

-- behind a closed one, its delimiter
pub opens_again : (q : ℕ) (t : List ℕ) (i : ℕ) (last : Option ℕ) → i < length t → get_or t i 0 ≡ q → last ≡ Some i → later last (i + 1) (closes q true (drop (i + 1) t)) ≡ later last i (closes q false (drop i t))
opens_again q t i last h e k =
    let same = ap (λ s. later last i (cond s (later (Some 0) 1 (closes q true (drop (i + 1) t))) (Some 0))) (eq-eqb (get_or t i 0) q e) in
    sym (ap (λ u. later last i (closes q false u)) (here t i h) ∙ (same ∙ later_zero last i (closes q true (drop (i + 1) t)) k))

-- the last place so far, with what is left
pub record LastSoFar (q : ℕ) (t : List ℕ) (i : ℕ) (inside : Bool) (last : Option ℕ) : Type 0 where
  pub found : later last i (closes q inside (drop i t)) ≡ closes q true t
  pub within : IfSome last (λ n. n ≤ i)
  pub closed : inside ≡ false → last ≡ Some i

within_more : (last : Option ℕ) (i : ℕ) → IfSome last (λ n. n ≤ i) → IfSome last (λ n. n ≤ i + 1)
within_more None i h = tt
within_more (Some n) i h = omega arith

pub so_far_closes : (q : ℕ) (t : List ℕ) (i : ℕ) (inside : Bool) (last : Option ℕ) → i < length t → get_or t i 0 ≡ q → inside ≡ true → LastSoFar q t i inside last → LastSoFar q t (i + 1) false (Some (i + 1))
so_far_closes q t i inside last h e w k = record {
  found = closes_here q t i last h e ∙ (ap (λ b. later last i (closes q b (drop i t))) (sym w) ∙ k.found);
  within = (let n = k.within in omega arith);
  closed = λ _. refl;
}

pub so_far_inside : (q : ℕ) (t : List ℕ) (i : ℕ) (inside : Bool) (last : Option ℕ) → i < length t → (get_or t i 0 ≡ q → ⊥) → inside ≡ true → LastSoFar q t i inside last → LastSoFar q t (i + 1) inside last
so_far_inside q t i inside last h n w k = record {
  found = ap (λ b. later last (i + 1) (closes q b (drop (i + 1) t))) w ∙ (goes_on q t i last h n ∙ (ap (λ b. later last i (closes q b (drop i t))) (sym w) ∙ k.found));
  within = within_more last i k.within;
  closed = λ f. absurd (cc);
}

pub so_far_opens : (q : ℕ) (t : List ℕ) (i : ℕ) (inside : Bool) (last : Option ℕ) → i < length t → get_or t i 0 ≡ q → inside ≡ false → LastSoFar q t i inside last → LastSoFar q t (i + 1) true last
so_far_opens q t i inside last h e w k = record {
  found = opens_again q t i last h e (k.closed w) ∙ (ap (λ b. later last i (closes q b (drop i t))) (sym w) ∙ k.found);
  within = within_more last i k.within;
  closed = λ f. absurd (cc);
}
