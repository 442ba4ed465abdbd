-- Hidden cells of a core, and a core that is ready again.
use Rattle.std.proofs.Common.{◌≡◌, refl, ap, sym, subst, ◌∙◌, ℕ, zero, suc, ◌+◌, ◌*◌, ◌≤◌, ◌<◌, ℤ, List, [], ◌∷◌, ◌++◌, length, Some, slice_get, slice_set, arith}
use Rattle.image_acts.specs.Statuses.{most_cells}
use Rattle.image_acts.specs.Acts.{here}
use Rattle.image_acts.specs.Core.{Core, elements_in}
use Rattle.image_acts.specs.Frames.{cell_in, with_cell}
use Rattle.image_acts.specs.Operate.Printing.{open_portions}
use Rattle.tree_meaning.specs.Environment.{Environment}
use Rattle.direct_meaning.specs.States.{State}
use Rattle.direct_hidden.specs.Hiding.{SameFrame}
use Rattle.direct_walks.specs.Walking.{Beside, core_of}
use Rattle.direct_walks.specs.Ready.{Keeps, IsReady}

-- cells of a list
pub set_same : (xs : List ℤ) (k : ℕ) (v : ℤ) → k < length xs → slice_get (slice_set xs k v) k ≡ Some v
set_same [] k v h = absurd (omega arith)
set_same (x ∷ xs) zero v h = refl
set_same (x ∷ xs) (suc k) v h = set_same xs k v (omega arith)

pub set_other : (xs : List ℤ) (k j : ℕ) (v : ℤ) → (k ≡ j → ⊥) → slice_get (slice_set xs k v) j ≡ slice_get xs j
set_other [] k j v n = refl
set_other (x ∷ xs) zero zero v n = absurd (n refl)
set_other (x ∷ xs) zero (suc j) v n = refl
set_other (x ∷ xs) (suc k) zero v n = refl
set_other (x ∷ xs) (suc k) (suc j) v n = set_other xs k j v (λ e. n (ap suc e))

-- hidden cells stand behind the variables
get_behind : (xs ys : List ℤ) (k m : ℕ) → m ≡ length xs + k → slice_get (xs ++ ys) m ≡ slice_get ys k
get_behind [] ys k m h = let e : m ≡ k = omega (arith, h) in ap (slice_get ys) e
get_behind (x ∷ xs) ys k zero h = absurd (omega (arith, h))
get_behind (x ∷ xs) ys k (suc m) h = get_behind xs ys k m (omega (arith, h))

set_behind : (xs ys : List ℤ) (k m : ℕ) (v : ℤ) → m ≡ length xs + k → slice_set (xs ++ ys) m v ≡ xs ++ slice_set ys k v
set_behind [] ys k m v h = let e : m ≡ k = omega (arith, h) in ap (λ i. slice_set ys i v) e
set_behind (x ∷ xs) ys k zero v h = absurd (omega (arith, h))
set_behind (x ∷ xs) ys k (suc m) v h = ap (λ zs. x ∷ zs) (set_behind xs ys k m v (omega (arith, h)))

pub keeps_all : (h : ℕ) (b : Beside) → Keeps h b b
keeps_all h b j below = refl

-- with another hidden cell
abbrev pub with_kept : Beside → ℕ → ℤ → Beside
with_kept b k v = record b { hidden = slice_set b.hidden k v }

pub hidden_get : (c : Core) (b : Beside) (z : State) (m k : ℕ) → m ≡ length z.frame.cells + k
    → cell_in here m (core_of c b z) ≡ slice_get b.hidden k
hidden_get c b z m k h = get_behind z.frame.cells b.hidden k m h

pub hidden_set : (c : Core) (b : Beside) (z : State) (m k : ℕ) (v : ℤ) → m ≡ length z.frame.cells + k
    → with_cell here m v (core_of c b z) ≡ core_of c (with_kept b k v) z
hidden_set c b z m k v h = ap (λ vs. record (core_of c b z) { frame = record z.frame { cells = vs } }) (set_behind z.frame.cells b.hidden k m v h)

module _ (e : Environment) (most lines : ℕ) where
  -- ready again
  pub ready_after : (c : Core) (b : Beside) (z y : State) → IsReady e most lines c b z → SameFrame z y → y.used ≡ y.frame.base
      → IsReady e most lines c b y
  ready_after c b z y r same free =
      let u : z.used ≡ y.used = r.free ∙ sym same.1 ∙ sym free in
      record {
        variables = same.0 ∙ r.variables;
        hidden = r.hidden;
        free = free;
        cells = subst (λ n. n ≤ most_cells) u r.cells;
        room = subst (λ n. elements_in c.arrays + 6 * 64 ≤ n + 458751) u r.room;
        texts = subst (λ n. open_portions c.printing + lines ≤ n + 65793) u r.texts;
      }

  pub ready_beside : (c : Core) (b f : Beside) (z : State) → IsReady e most lines c b z → length f.hidden ≡ length b.hidden
      → IsReady e most lines c f z
  ready_beside c b f z r same = record {
    variables = r.variables;
    hidden = same ∙ r.hidden;
    free = r.free;
    cells = r.cells;
    room = r.room;
    texts = r.texts;
  }
