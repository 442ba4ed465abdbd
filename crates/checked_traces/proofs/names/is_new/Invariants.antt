use Rattle.std.proofs.Common.{◌≡◌, ℕ, ◌<◌, Some, slice_get}
use Rattle.checked_traces.proofs.names.is_new.Given as goal

abbrev pub invariant-loop-text : goal.invariant-loop-text
invariant-loop-text l = (k : ℕ) → k < l.text-index → slice_get l.texts k ≡ Some l.name → ⊥
