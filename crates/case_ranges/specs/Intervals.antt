-- Closed intervals in a map, each as its lower end at its upper one, and the ranges whose numbers they have.
use Rattle.std.specs.Prelude.{◌≡◌, ◌≤ℤ◌, ◌<ℤ◌, ℤ, true, false, List, Some}
use Rattle.std.specs.BTreeMap.{BTreeMap, get}
use Rattle.std.specs.Ordering.{int_cmp}
use Rattle.checked_tree.specs.declared.statement.CaseRange.{CaseRange}
use Rattle.case_ranges.specs.Ends.{meets_one, AllHeld}

-- the interval from l to k is there
abbrev pub Has : BTreeMap ℤ ℤ → ℤ → ℤ → Type 0
Has m k l = get int_cmp m k ≡ Some l

-- none of them has a number from a to b
abbrev pub IsFree : BTreeMap ℤ ℤ → ℤ → ℤ → Type 0
IsFree m a b = (k l : ℤ) → Has m k l → l ≤ℤ b → a ≤ℤ k → ⊥

-- each has a number, and no two have one in common
pub record AreApart (m : BTreeMap ℤ ℤ) : Type 0 where
  pub filled : (k l : ℤ) → Has m k l → l ≤ℤ k
  pub apart : (k l i j : ℤ) → Has m k l → Has m i j → k <ℤ i → k <ℤ j

-- they have the numbers of xs
pub record Keeps (m : BTreeMap ℤ ℤ) (xs : List CaseRange) : Type 0 where
  pub apart : AreApart m
  pub found : (k l a b : ℤ) → Has m k l → a ≤ℤ b → l ≤ℤ b → a ≤ℤ k → meets_one a b xs ≡ true
  pub free : (a b : ℤ) → a ≤ℤ b → IsFree m a b → meets_one a b xs ≡ false

-- they and the numbers from low to high have the numbers of xs
pub record KeepsWith (m : BTreeMap ℤ ℤ) (low high : ℤ) (xs : List CaseRange) : Type 0 where
  pub apart : AreApart m
  pub filled : low ≤ℤ high
  pub found : (k l a b : ℤ) → Has m k l → a ≤ℤ b → l ≤ℤ b → a ≤ℤ k → meets_one a b xs ≡ true
  pub within : (a b : ℤ) → a ≤ℤ b → low ≤ℤ b → a ≤ℤ high → meets_one a b xs ≡ true
  pub free : (a b : ℤ) → a ≤ℤ b → IsFree m a b → (low ≤ℤ b → a ≤ℤ high → ⊥) → meets_one a b xs ≡ false

-- what a store of ranges keeps
pub record Stored (m : BTreeMap ℤ ℤ) (xs : List CaseRange) : Type 0 where
  pub held : AllHeld xs
  pub keeps : Keeps m xs
