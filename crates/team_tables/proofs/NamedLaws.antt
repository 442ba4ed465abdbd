-- Indices and current teams that are looked up.
use Rattle.std.proofs.Common.{◌≡◌, ℕ, zero, suc, ◌<◌, ◌≤◌, true, false, cond, List, [], ◌∷◌, length, refl, ap, sym, arith}
use Rattle.std.specs.Prelude.{nat_eq}
use Rattle.image_acts.specs.Teams.{is_in, index_in, from_team, behind_first}

-- an index is no larger than the number of members
pub index_within : (n : ℕ) (ms : List ℕ) → index_in n ms ≤ length ms
index_within n [] = omega arith
index_within n (m ∷ ms) = elim (nat_eq m n) as (λ b. nat_eq m n ≡ b → index_in n (m ∷ ms) ≤ length (m ∷ ms)) [
  | true ↦ λ h. rw h (let l : 1 ≤ length (m ∷ ms) = omega arith in l)
  | false ↦ λ h. (let r = index_within n ms in elim (index_in n ms) as (λ i. index_in n ms ≡ i → index_in n (m ∷ ms) ≤ length (m ∷ ms)) [
    | zero ↦ λ g. rw (h, g) (let l : 0 ≤ length (m ∷ ms) = omega arith in l)
    | suc i ↦ λ g. rw (h, g) (let l : suc (suc i) ≤ length (m ∷ ms) = omega arith in l)
  ] refl)
] refl

-- a team is among these where some are left from it on
none_from : (t : ℕ) (ts : List ℕ) → from_team t ts ≡ [] → is_in t ts ≡ false
none_from t [] h = refl
none_from t (u ∷ us) h = elim (nat_eq u t) as (λ b. nat_eq u t ≡ b → is_in t (u ∷ us) ≡ false) [
  | true ↦ λ g. absurd (let e : u ∷ us ≡ [] = rw g at h in cc)
  | false ↦ λ g. rw g (none_from t us (rw g at h))
] refl

some_from : (t : ℕ) (ts : List ℕ) → 0 < length (from_team t ts) → is_in t ts ≡ true
some_from t [] h = absurd (omega arith)
some_from t (u ∷ us) h = elim (nat_eq u t) as (λ b. nat_eq u t ≡ b → is_in t (u ∷ us) ≡ true) [
  | true ↦ λ g. rw g refl
  | false ↦ λ g. rw g (some_from t us (rw g at h))
] refl

module _ (made t : ℕ) (ts : List ℕ) where
  pub established_above : from_team t ts ≡ [] → is_in made (behind_first ts) ≡ is_in made (cond (is_in t ts) (from_team t ts) (behind_first ts))
  established_above h = sym (ap (λ b. is_in made (cond b (from_team t ts) (behind_first ts))) (none_from t ts h))

  pub established_from : 0 < length (from_team t ts) → is_in made (from_team t ts) ≡ is_in made (cond (is_in t ts) (from_team t ts) (behind_first ts))
  established_from h = sym (ap (λ b. is_in made (cond b (from_team t ts) (behind_first ts))) (some_from t ts h))

pub none_there : (ts : List ℕ) → length ts ≡ 0 → ts ≡ []
none_there [] h = refl
none_there (t ∷ ts) h = absurd (omega arith)
