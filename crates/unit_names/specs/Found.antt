-- What USE gives under names, as it stands in memory.
use Rattle.std.specs.Prelude.{ℕ, cond, bytes_eq, List, [], ◌∷◌, Option, Some, None, map}
use Rattle.std.specs.Borrow.{Bor}
use Rattle.std.specs.declared.vec.Vec.{Vec}
use Rattle.std.specs.declared.alloc.Global.{Global}
use Rattle.module_units.specs.Visible as v
use Rattle.module_units.specs.Visible.{Denoted, nothing, one, several, agreed}
use Rattle.unit_names.specs.declared.entity.Entity.{Entity}
use Rattle.unit_names.specs.declared.entity.Found.{Found}
use Rattle.unit_names.specs.declared.entity.Found.TheVariants as founds

abbrev pub entity_of : Option (Bor (List ℕ)) → List ℕ → v.Entity
entity_of None x = v.of_environment x
entity_of (Some m) x = v.of_module m.now x

abbrev pub entity : Entity → v.Entity
entity e = entity_of e.module e.name.now

abbrev pub found : Found → Denoted
found founds.Nothing = nothing
found (founds.One e) = one (entity e)
found founds.Several = several

-- what is given twice under a name
abbrev pub joined : Denoted → Denoted → Denoted
joined d nothing = d
joined d (one e) = agreed d e
joined d several = several

-- a table of names, of which the first row of a name holds
pub record Row : Type 0 where
  pub name : List ℕ
  pub denoted : Denoted

abbrev pub under : List Row → List ℕ → Denoted
under [] n = nothing
under (r ∷ rs) n = cond (bytes_eq r.name n) r.denoted (under rs n)

abbrev pub row : Vec ℕ Global × Found → Row
row p = record { name = p.0.items; denoted = found p.1 }

-- the bytes of slices
abbrev pub texts : List (Bor (List ℕ)) → List (List ℕ)
texts xs = map (λ x. x.now) xs

-- what a map has under a name
abbrev pub found_in : Option Found → Denoted
found_in None = nothing
found_in (Some f) = found f
