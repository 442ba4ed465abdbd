-- The languages of readers that are put together.
use Rattle.std.specs.Prelude.{◌≡◌, Bool, true, false, List, [], ◌∷◌, ◌⊎◌, Option, Some, None}
use Rattle.reader_theory.specs.Words.{Mark, Language, ◌⟫◌}

-- one token that passes the test
abbrev pub Single : {T : Type 0} → (T → Bool) → T → List (Mark T) → Type 0
Single test x w = (test x ≡ true) × (w ≡ record { token = x; deep = false } ∷ [])

-- no token, and always this tree
abbrev pub Nothing : {T A : Type 0} → A → A → List (Mark T) → Type 0
Nothing a b w = (b ≡ a) × (w ≡ [])

-- the same words, of another tree
abbrev pub Image : {T A B : Type 0} → (A → B) → Language T A → B → List (Mark T) → Type 0
Image {T} {A} {B} f L b w = (a : A) × (b ≡ f a) × L a w

-- one of two
abbrev pub Or : {T A : Type 0} → Language T A → Language T A → A → List (Mark T) → Type 0
Or L M a w = L a w ⊎ M a w

-- one part, and behind it another, which may depend on the first
abbrev pub By : {T A B C : Type 0} → (A → B → C) → Language T A → (A → Language T B) → C → List (Mark T) → Type 0
By {T} {A} {B} {C} f L M c w = (a : A) × (b : B) × (c ≡ f a b) × (L a ⟫ M a b) w

-- a part that may be left out
abbrev pub Optional : {T A : Type 0} → Language T A → Option A → List (Mark T) → Type 0
Optional L None w = w ≡ []
Optional L (Some a) w = L a w

-- items one behind another, of which each may depend on a state that those before it made
abbrev pub Items_by : {T A S : Type 0} → (S → Language T A) → (S → A → S) → List A → S → List (Mark T) → Type 0
Items_by L next [] s w = w ≡ []
Items_by L next (a ∷ es) s w = (L s a ⟫ Items_by L next es (next s a)) w

-- the same where all items are alike
abbrev pub Items : {T A : Type 0} → Language T A → List A → List (Mark T) → Type 0
Items L es = Items_by {S = Unit {0}} (λ _. L) (λ s a. s) es tt
