-- What lists of entities give under a name, as a function of the name.
use Rattle.std.specs.Prelude.{ℕ, Bool, true, false, cond, bytes_eq, List, [], ◌∷◌, ◌||◌}
use Rattle.module_units.specs.Visible.{Denoted, nothing, Given, given_under}
use Rattle.unit_tree.specs.Files as f
use Rattle.unit_tree.specs.Files.{Rename, OnlyItem}
use Rattle.unit_names.specs.Found.{joined}

-- what is accessible under each name
abbrev pub Accessible : Type 0
Accessible = List ℕ → Denoted

abbrev pub accessible : List Given → Accessible
accessible gs n = given_under nothing gs n

abbrev pub is_given : Denoted → Bool
is_given nothing = false
is_given d = true

-- what one name gives under another one
abbrev pub under_new : Accessible → List ℕ → List ℕ → Accessible
under_new g new n x = cond (bytes_eq new x) (g n) nothing

-- what an item behind ONLY gives, and all of them
abbrev pub under_item : Accessible → OnlyItem → Accessible
under_item g (f.named n) x = under_new g n.text n.text x
under_item g (f.renamed r) x = under_new g r.local.text r.entity.text x

abbrev pub under_items : Accessible → List OnlyItem → Accessible
under_items g [] x = nothing
under_items g (i ∷ is) x = joined (under_item g i x) (under_items g is x)

-- what new names give, and whether a name has new ones
abbrev pub under_renames : Accessible → List Rename → Accessible
under_renames g [] x = nothing
under_renames g (r ∷ rs) x = joined (under_new g r.local.text r.entity.text x) (under_renames g rs x)

abbrev pub is_renamed : List Rename → List ℕ → Bool
is_renamed [] n = false
is_renamed (r ∷ rs) n = bytes_eq r.entity.text n || is_renamed rs n

-- what keeps its name
abbrev pub under_own : Accessible → List Rename → Accessible
under_own g rs x = cond (is_renamed rs x) nothing (g x)
