-- Where the variables of a table stand, and which number each has.
use Rattle.std.specs.Prelude.{◌≡◌, ℕ, suc, zero, Bool, true, List, [], ◌∷◌, Option, Some, None, map, slice_get}
use Rattle.checked_tree.specs.declared.data.Home.{Home}
use Rattle.checked_tree.specs.declared.data.Home.TheVariants.{Own}
use Rattle.checked_tree.specs.declared.data.Object.{Object}
use Rattle.checked_tree.specs.declared.data.Object.TheVariants as objects
use Rattle.rule_definitions.specs.Names as n
use Rattle.scope_table.specs.declared.symbol.Entry.{Entry}
use Rattle.scope_table.specs.declared.symbol.Entry.TheVariants as entries
use Rattle.scope_table.specs.Symbols.{symbol, seen_from}

-- the places of the variables among the entries, in their order
abbrev pub variable_places : List Entry → List ℕ
variable_places [] = []
variable_places (entries.Constant c ∷ es) = map suc (variable_places es)
variable_places (entries.Variable x ∷ es) = 0 ∷ map suc (variable_places es)

-- a variable that is no coarray has this number, in its own scope
abbrev pub HasNumber : ℕ → Object → Type 0
HasNumber i (objects.Local l) = (l.home ≡ Own) × (l.variable ≡ i)
HasNumber i o = Unit {0}

-- the variables have their numbers, counted from here
abbrev pub AreNumbered : ℕ → List Entry → Type 0
AreNumbered i [] = Unit {0}
AreNumbered i (entries.Constant c ∷ es) = AreNumbered i es
AreNumbered i (entries.Variable x ∷ es) = HasNumber i x.object × AreNumbered (suc i) es

-- what a table keeps of its variables
pub record ArePlaced (are_numbered : Bool) (places : List ℕ) (es : List Entry) : Type 0 where
  pub placed : places ≡ variable_places es
  pub numbers : are_numbered ≡ true → AreNumbered 0 es

-- the variable that is no coarray at an entry, seen from its scope or from a procedure of it
abbrev pub local_object : Home → n.Symbol → Object → Option n.Symbol
local_object h x (objects.Local l) = Some (seen_from h x)
local_object h x o = None

abbrev pub local_in : Home → Option Entry → Option n.Symbol
local_in h (Some (entries.Variable x)) = local_object h (symbol x) x.object
local_in h o = None

abbrev pub local_at : Home → List Entry → Option ℕ → Option n.Symbol
local_at h es None = None
local_at h es (Some k) = local_in h (slice_get es k)
