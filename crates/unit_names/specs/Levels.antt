-- Blocks of names, and levels: the numbers of some of them.
use Rattle.std.specs.Prelude.{ℕ, ◌<◌, ◌≡◌, Bool, true, false, cond, nat_eq, List, [], ◌∷◌, ◌++◌, slice_get, unwrap_or}
use Rattle.std.specs.Borrow.{Bor}
use Rattle.rule_definitions.specs.Names.{is_among}
use Rattle.module_units.specs.Visible.{Denoted, nothing}
use Rattle.unit_names.specs.Found.{Row, under, joined, texts}

-- the block of a number, and none where there is no such block
abbrev pub block_at : List (List Row) → ℕ → List Row
block_at bs i = unwrap_or (slice_get bs i) []

-- what the blocks of some levels give under a name
abbrev pub reached : List (List Row) → List ℕ → List ℕ → Denoted
reached bs [] n = nothing
reached bs (i ∷ is) n = joined (under (block_at bs i) n) (reached bs is n)

-- what a block gives under some names alone
abbrev pub under_listed : List (Bor (List ℕ)) → List Row → List ℕ → Denoted
under_listed xs rs n = cond (is_among (texts xs) n) (under rs n) nothing

-- each level is the number of a block
abbrev pub AreWithin : ℕ → List ℕ → Type 0
AreWithin k [] = Unit {0}
AreWithin k (i ∷ is) = (i < k) × AreWithin k is

abbrev pub is_level : List ℕ → ℕ → Bool
is_level [] l = false
is_level (i ∷ is) l = cond (nat_eq i l) true (is_level is l)

-- blocks stand behind others
abbrev pub Extends : List (List Row) → List (List Row) → Type 0
Extends bs cs = (more : List (List Row)) × (cs ≡ bs ++ more)
