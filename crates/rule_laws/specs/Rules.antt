-- The numbers of the rules.
use Rattle.std.specs.Prelude.{◌≤◌, ℕ}

-- a rule of the table in docs/use/REFUSALS.md
abbrev pub IsRule : ℕ → Type 0
IsRule r = (20 ≤ r) × (r ≤ 59)
