-- Image control statements.
use Rattle.std.proofs.Common.{◌≡◌, ◌≢◌, ℕ, zero, suc, List, [], ◌∷◌, refl}
use Rattle.std.specs.Prelude.{slice_get}
use Rattle.checked_tree.specs.declared.data.Variable.{Variable}
use Rattle.checked_tree.specs.Expressions as t
use Rattle.tree_meaning.specs.Environment.{Environment}
use Rattle.tree_meaning.specs.Expressions.{expression}
use Rattle.tree_meaning.specs.ImageControl.{index_set, is_allocatable_in}
use Rattle.control_code.specs.Control.{allocatable_found}

pub index_array : (e : Environment) (r : ℕ) (x : t.Expression) → r ≢ 0 → index_set e r x ≡ expression e x
index_array e zero x h = absurd (h refl)
index_array e (suc r) x h = refl

pub allocatable_at : (e : Environment) (vs : List Variable) (n : ℕ) → is_allocatable_in e vs n ≡ allocatable_found (slice_get vs n)
allocatable_at e [] n = refl
allocatable_at e (v ∷ vs) zero = refl
allocatable_at e (v ∷ vs) (suc n) = allocatable_at e vs n
