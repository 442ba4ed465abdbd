-- One part behind another, which doesn't depend on it.
use Rattle.std.proofs.Common.{◌≡◌, List}
use Rattle.reader_theory.specs.Words.{Mark, Language, ◌⟫◌}

abbrev pub Both : {T A B C : Type 0} → (A → B → C) → Language T A → Language T B → C → List (Mark T) → Type 0
Both {T} {A} {B} {C} f L M c w = (a : A) × (b : B) × (c ≡ f a b) × (L a ⟫ M b) w
