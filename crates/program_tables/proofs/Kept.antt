-- What the tables keep is what is there at the start.
use Rattle.std.proofs.Common.{◌≡◌, ℕ, List, [], ◌∷◌, map, refl, ap, ap₂, ◌∙◌}
use Rattle.std.specs.Prelude.{Option, Some, None, slice_get}
use Rattle.checked_tree.specs.declared.data.Codimensions.{Codimensions}
use Rattle.checked_tree.specs.declared.data.Codimensions.TheVariants as codimensions
use Rattle.checked_tree.specs.declared.data.Initial.{Initial}
use Rattle.checked_tree.specs.declared.data.Variable.{Variable}
use Rattle.checked_tree.specs.Statements as s
use Rattle.image_acts.specs.Core.{Core, Local, Own}
use Rattle.image_code.specs.declared.tables.CellType.{CellType}
use Rattle.std.specs.Prelude.{ℤ}
use Rattle.tree_meaning.specs.Configured.{config_of, core_of, local_of}
use Rattle.tree_meaning.specs.Environment.{declared_bounds}
use Rattle.tree_meaning.specs.Start as start
use Rattle.tree_meaning.specs.declared.start.TreeConfig.{TreeConfig}
use Rattle.walk_theory.specs.Walks.{Config}
use Rattle.image_acts.specs.Acts.{Act}
use Rattle.image_code.specs.declared.tables.MainFrame.{MainFrame}
use Rattle.program_tables.specs.Tables.{cell_type, declared_coarray, coarray_at, coarray_found, kept_array, kept_frame, array_kept, frame_kept, own_kept, tables_of}

array_same : (x : Option Local) → array_kept (kept_array x) ≡ x
array_same None = refl
array_same (Some x) = refl

arrays_same : (xs : List (Option Local)) → map array_kept (map kept_array xs) ≡ xs
arrays_same [] = refl
arrays_same (x ∷ xs) = ap₂ (λ y ys. y ∷ ys) (array_same x) (arrays_same xs)

pub frame_same : (p : s.Program) → frame_kept (tables_of p).main ≡ start.first_frame p
frame_same p = let f = start.first_frame p in ap (λ xs. record { cells = f.cells; arrays = xs; base = 0; need = f.need }) (arrays_same f.arrays)

own_declared : (t : CellType) (i : Initial) (bs : Option (List (ℤ × ℤ))) (co : Codimensions) → own_kept (declared_coarray t i (start.own_of bs co)) ≡ start.own_of bs co
own_declared t i None co = refl
own_declared t i (Some bs) codimensions.Absent = refl
own_declared t i (Some bs) (codimensions.Explicit co) = refl
own_declared t i (Some bs) (codimensions.Deferred n) = refl

own_found : (v : Option Variable) → own_kept (coarray_found v) ≡ start.own_of_variable v
own_found None = refl
own_found (Some v) = own_declared (cell_type v.of_type) v.initial (declared_bounds v.dimensions) v.codimensions

owns_same : (vs : List Variable) (ns : List ℕ) → map own_kept (map (coarray_at vs) ns) ≡ map (start.own_in vs) ns
owns_same vs [] = refl
owns_same vs (n ∷ ns) = ap₂ (λ y ys. y ∷ ys) (own_found (slice_get vs n)) (owns_same vs ns)

pub owns_are : (p : s.Program) → map own_kept (tables_of p).coarrays ≡ start.own_coarrays p
owns_are p = owns_same p.main.variables p.coarrays

-- the frame of a start in memory
pub frame_started : (t : TreeConfig) (p : s.Program) (me n : ℕ) (m : MainFrame) → config_of t ≡ start.start_of p me n
    → m ≡ record { cells = t.cells; arrays = map kept_array (map local_of t.arrays.items); need = t.local_cells } → m ≡ kept_frame (start.first_frame p)
frame_started t p me n m h e =
    let f : core_of t ≡ start.first_core p me n = ap (λ (c : Config Act Core). c.core) h in
    e ∙ ap (λ (c : Core). kept_frame c.frame) f
