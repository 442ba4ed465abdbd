-- Steps that leave the asks of all other images as ready as they were.
use Rattle.std.specs.Prelude.{ℕ, ◌≡◌, Bool, List, [], ◌∷◌, ◌++◌}
use Rattle.caf_events.specs.declared.ask.Ask.{Ask}
use Rattle.caf_events.specs.declared.event.Entry.{Entry}

-- behind this history the entry changes no other image's readiness at the object
abbrev pub IsInert : {A : Type 0} → (A → List Entry → ℕ → Ask → Bool) → A → List Entry → Entry → Type 0
IsInert ready made h e = (j : ℕ) (ask : Ask) → (j ≡ e.image.0 → ⊥) → ready made (h ++ e ∷ []) j ask ≡ ready made h j ask
