-- The indices of the members of which a test holds rise, and are some of the team's.
use Rattle.std.proofs.Common.{◌≡◌, ℕ, suc, ◌+◌, ◌<◌, ◌≤◌, Bool, true, List, [], ◌∷◌, length, inl, inr, refl, arith}
use Rattle.std.proofs.lemmas.Bool.{cases_Bool, lt-ltb, le-leb}
use Rattle.object_rules.specs.BoardRules.{indices_from}
use Rattle.object_rules.specs.Answering.{are_indices}

pub indices_rise : (test : ℕ → Bool) (size least k : ℕ) (ms : List ℕ) → least < k → k + length ms ≤ suc size → are_indices least size (indices_from k test ms) ≡ true
indices_rise test size least k [] low high = refl
indices_rise test size least k (m ∷ ms) low high = elim (cases_Bool (test m)) [
  | inl t ↦ rw (t, lt-ltb least k low, le-leb k size (omega arith)) (indices_rise test size k (suc k) ms (omega arith) (omega arith))
  | inr f ↦ rw f (indices_rise test size least (suc k) ms (omega arith) (omega arith))
]
