-- Clocks of segments. A clock is a count for each image, as a function of the image: of its segments it covers the
-- first so many.
use Rattle.std.specs.Prelude.{ℕ, ◌+◌, ◌<◌, ◌≡◌, ◌↔◌, nat_eq, cond, List}
use Rattle.order_theory.specs.Order.{Segment, EdgeRules, Within, Precedes, Reaches}

-- The clock covers exactly what precedes this segment.
pub record IsClock {E : Type 0} (r : EdgeRules E) (t : List E) (b : Segment) (c : ℕ → ℕ) : Type 0 where
  pub exactly : (i s : ℕ) → (s < c i) ↔ Precedes r t (record { image = i; number = s }) b

-- The clock covers exactly these segments and what precedes one of them.
pub record Covers {E : Type 0} (r : EdgeRules E) (t : List E) (bs : List Segment) (c : ℕ → ℕ) : Type 0 where
  pub exactly : (i s : ℕ) → (s < c i) ↔ ((b : Segment) × Within b bs × Reaches r t (record { image = i; number = s }) b)

-- The clock tells of other images what precedes this segment; of its own image it may tell more.
pub record TellsOthers {E : Type 0} (r : EdgeRules E) (t : List E) (b : Segment) (c : ℕ → ℕ) : Type 0 where
  pub exactly : (i s : ℕ) → (i ≡ b.image → ⊥) → (s < c i) ↔ Precedes r t (record { image = i; number = s }) b

-- one more for an image
abbrev pub tick : ℕ → (ℕ → ℕ) → ℕ → ℕ
tick j c i = cond (nat_eq i j) 1 0 + c i
