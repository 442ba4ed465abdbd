-- What stands in slots, one after the other.
use Rattle.std.proofs.Common.{◌≡◌, ◌+◌, ℕ, suc, List, [], ◌∷◌, length, Option, None, Some, ap, sym, subst, arith}
use Rattle.std.specs.Prelude.{slice_index_or}
use Rattle.image_core.specs.Parts.{EachAt}
use Rattle.program_run.specs.Machines.{EachWhereThere}

-- what stands in the slots that are left has this at its place, of which the first is `from`
abbrev pub EachFrom : {A : Type 0} → (ℕ → A → Type 0) → ℕ → List (Option A) → Type 0
EachFrom {A} P from slots = (k : ℕ) (x : A) → slice_index_or slots k None ≡ Some x → P (from + k) x

module _ {A : Type 0} (P : ℕ → A → Type 0) where
  -- what stands in the first slot
  pub in_first : (from : ℕ) (slot : Option A) (x : A) (slots : List (Option A)) → slot ≡ Some x → EachFrom P from (slot ∷ slots) → P from x
  in_first from slot x slots there each = let same : from + 0 ≡ from = omega arith in subst (λ k. P k x) same (each 0 x there)

  -- what stands behind it
  pub in_rest : (from to : ℕ) (slot : Option A) (slots : List (Option A)) → to ≡ suc from → EachFrom P from (slot ∷ slots) → EachFrom P to slots
  in_rest from to slot slots next each k x there = let same : from + suc k ≡ to + k = omega arith in subst (λ j. P j x) same (each (suc k) x there)

  -- before the first slot is looked at
  pub none_yet : (xs : List A) (rest slots : List (Option A)) → xs ≡ [] → rest ≡ slots → EachWhereThere P slots → (length xs + length rest ≡ length slots) × EachAt P xs × EachFrom P (length xs) rest
  none_yet xs rest slots none same each =
      let long = ap length same in
      let count : 0 + length rest ≡ length slots = omega arith in
      subst (λ ys. (length ys + length rest ≡ length slots) × EachAt P ys × EachFrom P (length ys) rest) (sym none)
      (count, (λ k x lt is. absurd (omega arith)), subst (EachFrom P 0) (sym same) (λ k x there. (let at : k ≡ 0 + k = omega arith in subst (λ j. P j x) at (each k x there))))
