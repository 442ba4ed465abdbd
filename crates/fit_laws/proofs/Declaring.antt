-- The coarrays of a program's tables, as a memory has them, are those that the program declares.
use Rattle.std.proofs.Common.{◌≡◌, ℕ, cond, List, [], ◌∷◌, map, refl, ap, ◌∙◌}
use Rattle.std.specs.Prelude.{Option, Some, None, slice_get}
use Rattle.caf_base.specs.declared.value.Kind.TheVariants as kinds
use Rattle.checked_tree.specs.declared.data.Initial.{Initial}
use Rattle.checked_tree.specs.declared.data.Initial.TheVariants as initials
use Rattle.checked_tree.specs.declared.data.Variable.{Variable}
use Rattle.checked_tree.specs.Statements as s
use Rattle.image_acts.specs.Core.{Own}
use Rattle.image_code.specs.declared.tables.CellType.{CellType}
use Rattle.image_code.specs.declared.tables.CellType.TheVariants as types
use Rattle.image_code.specs.declared.tables.Coarray.{Coarray}
use Rattle.tree_meaning.specs.Environment.{declared_bounds}
use Rattle.tree_meaning.specs.Start.{own_of, own_of_variable, own_in}
use Rattle.object_rules.specs.Cells.{Declared}
use Rattle.program_tables.specs.Tables.{cell_type, declared_coarray, coarray_found, coarray_at, tables_of}
use Rattle.told_walks.specs.Asked.{own_cells}
use Rattle.walk_laws.specs.Fits.{first_cells, AreDeclaredBy}

module _ (made : Coarray → Declared) (alike : (c : Coarray) → (made c).allocatable ≡ c.is_allocatable) (wide : (c : Coarray) → (made c).cells ≡ c.cells) where
  cells_of : (c : Coarray) → first_cells (made c) ≡ cond c.is_allocatable None (Some c.cells)
  cells_of c = ap (λ b. cond b None (Some (made c).cells)) (alike c) ∙ ap (λ n. cond c.is_allocatable None (Some n)) (wide c)

  one_declared : (t : CellType) (i : Initial) (o : Option Own) → first_cells (made (declared_coarray t i o)) ≡ own_cells o
  one_declared t i None = cells_of (declared_coarray t i None)
  one_declared t i (Some o) = cells_of (declared_coarray t i (Some o))

  one_found : (v : Option Variable) → first_cells (made (coarray_found v)) ≡ own_cells (own_of_variable v)
  one_found None = one_declared (types.Value kinds.I4) initials.Unstated None
  one_found (Some v) = one_declared (cell_type v.of_type) v.initial (own_of (declared_bounds v.dimensions) v.codimensions)

  all_declared : (vs : List Variable) (ns : List ℕ) → map first_cells (map made (map (coarray_at vs) ns)) ≡ map own_cells (map (own_in vs) ns)
  all_declared vs [] = refl
  all_declared vs (n ∷ ns) = ap (λ x. x ∷ map first_cells (map made (map (coarray_at vs) ns))) (one_found (slice_get vs n)) ∙ ap (λ xs. own_cells (own_in vs n) ∷ xs) (all_declared vs ns)

  pub tables_declare : (p : s.Program) → AreDeclaredBy p (map made (tables_of p).coarrays)
  tables_declare p = all_declared p.main.variables p.coarrays
