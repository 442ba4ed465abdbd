-- A DO construct's loop has its iteration count.
use Rattle.std.proofs.Common.{◌≡◌, refl, ap, sym, ◌∙◌, arith, ℕ, zero, suc, ℤ, pos, negsuc, ◌+◌, ◌-◌, ◌+ℤ◌, Bool, true, false, List, [], ◌∷◌, Option, None, Some}
use Rattle.std.proofs.lemmas.Bool.{lt-ltb}
use Rattle.std.specs.Prelude.{slice_get, slice_set, int_lt, min, not}
use Rattle.std.specs.Ordering.{int_eq}
use Rattle.caf_base.specs.declared.value.Kind.{Kind}
use Rattle.walk_theory.specs.Language.{goes_to, holds, fails}
use Rattle.walk_theory.specs.Syntax.{Steps, end_parts}
use Rattle.walk_theory.specs.Evaluation.{leaves, and_then, of_effect, outcome}
use Rattle.walk_theory.specs.Iterations.{IsCounted}
use Rattle.caf_base.specs.Arithmetic.{truth, fits_kind, iterations, natural}
use Rattle.image_acts.specs.Statuses.{most_iterations}
use Rattle.image_acts.specs.Faults.{overflow, zero_step}
use Rattle.image_acts.specs.Acts.{Act, Scope, here, host, variable, begin_iterations, next_iteration, more_iterations}
use Rattle.image_acts.specs.Core.{Core, Frame, pushed}
use Rattle.image_acts.specs.Frames.{cell_in, with_cell}
use Rattle.image_acts.specs.Taking.{given, unless, telling, tested}
use Rattle.image_acts.specs.Meaning.{image_language, settled}
use Rattle.tree_meaning.specs.Sequences.{doing}
use Rattle.tree_meaning.specs.DoLoops.{count_of_cell, iterations_left, do_loop}

-- after the test
tested_by : Option ℤ → Core → Core
tested_by None c = c
tested_by (Some v) c = pushed (truth (int_lt (pos 0) v)) c

tests : (x : Act) (o : Option ℤ) (c : Core) (r : ℕ) → count_of_cell o ≡ Some r
    → and_then (of_effect c (settled x (given o (λ v. telling (int_lt (pos 0) v) c)))) (outcome image_language end_parts) ≡ leaves (tested_by o c)
unfolding tested_by
tests x None c r e = cc
tests x (Some v) c r e = refl

last : (o : Option ℤ) (c : Core) → count_of_cell o ≡ Some 0 → tested (tested_by o c) ≡ fails c
unfolding tested_by
last None c e = cc
last (Some (pos zero)) c e = refl
last (Some (pos (suc n))) c e = cc
last (Some (negsuc n)) c e = refl

more : (o : Option ℤ) (c : Core) (r : ℕ) → count_of_cell o ≡ Some (suc r) → tested (tested_by o c) ≡ holds c
unfolding tested_by
more None c r e = cc
more (Some (pos zero)) c r e = cc
more (Some (pos (suc n))) c r e = rw (lt-ltb 0 (suc n) (omega arith)) refl
more (Some (negsuc n)) c r e = cc

-- a cell that is there is there after a store, and has what was stored
stored : (l : List ℤ) (t : ℕ) (v w : ℤ) → slice_get l t ≡ Some w → slice_get (slice_set l t v) t ≡ Some v
stored [] t v w e = cc
stored (y ∷ ys) zero v w e = refl
stored (y ∷ ys) (suc t) v w e = stored ys t v w e

remains : (l : List ℤ) (x t : ℕ) (v w : ℤ) → slice_get l t ≡ Some w → (y : ℤ) × (slice_get (slice_set l x v) t ≡ Some y)
remains [] x t v w e = (w, cc)
remains (y ∷ ys) zero zero v w e = (v, refl)
remains (y ∷ ys) zero (suc t) v w e = (w, e)
remains (y ∷ ys) (suc x) zero v w e = (y, refl)
remains (y ∷ ys) (suc x) (suc t) v w e = remains ys x t v w e

-- also where the store is to a variable of the host
beside_host : (cs : List Frame) (c : Core) (x t : ℕ) (v w : ℤ) → cell_in here t c ≡ Some w → (y : ℤ) × (cell_in here t (with_cell host x v (record c { callers = cs })) ≡ Some y)
beside_host [] c x t v w e = remains c.frame.cells x t v w e
beside_host (g ∷ gs) c x t v w e = (w, e)

beside : (s : Scope) (c : Core) (x t : ℕ) (v w : ℤ) → cell_in here t c ≡ Some w → (y : ℤ) × (cell_in here t (with_cell s x v c) ≡ Some y)
beside here c x t v w e = remains c.frame.cells x t v w e
beside host c x t v w e = beside_host c.callers c x t v w e

less_one : (n : ℕ) → pos (natural (pos (suc n)) - 1) ≡ pos n
less_one n = let e : suc n - 1 ≡ n = omega arith in ap (λ k. pos k) e

-- one iteration less
one_less : (s : Scope) (c : Core) (x t : ℕ) (v : ℤ) (n : ℕ) → cell_in here t c ≡ Some (pos (suc n)) → iterations_left t (with_cell here t (pos (natural (pos (suc n)) - 1)) (with_cell s x v c)) ≡ Some n
one_less s c x t v n e = let p = beside s c x t v (pos (suc n)) e in ap count_of_cell (stored (with_cell s x v c).frame.cells t (pos (natural (pos (suc n)) - 1)) p.0 p.1) ∙ ap (λ z. count_of_cell (Some z)) (less_one n)

goes_there : (x : Act) (k : ℕ) (b : Bool) (c e d : Core) → and_then (of_effect c (settled x (unless k b (goes_to e)))) (outcome image_language end_parts) ≡ leaves d → d ≡ e
goes_there x k true c e d h = cc
goes_there x k false c e d h = cc

-- the step to the next iteration, where it goes on
takes : (s : Scope) (k : Kind) (x t : ℕ) (ox os ol : Option ℤ) (c d : Core) (r : ℕ) → ol ≡ cell_in here t c → count_of_cell ol ≡ Some (suc r)
    → and_then (of_effect c (settled (variable (next_iteration s x t k)) (given ox (λ v. given os (λ step. given ol (λ left. unless overflow (fits_kind k (v +ℤ step)) (goes_to (with_cell here t (pos (natural left - 1)) (with_cell s x (v +ℤ step) c))))))))) (outcome image_language end_parts) ≡ leaves d
    → iterations_left t d ≡ Some r
takes s k x t None os ol c d r a e h = cc
takes s k x t (Some v) None ol c d r a e h = cc
takes s k x t (Some v) (Some st) None c d r a e h = cc
takes s k x t (Some v) (Some st) (Some (negsuc n)) c d r a e h = cc
takes s k x t (Some v) (Some st) (Some (pos zero)) c d r a e h = cc
takes s k x t (Some v) (Some st) (Some (pos (suc n))) c d r a e h =
    ap (iterations_left t) (goes_there (variable (next_iteration s x t k)) overflow (fits_kind k (v +ℤ st)) c _ d h) ∙ one_less s c x t (v +ℤ st) n (sym a) ∙ (cc)

-- the loop of a DO construct has the iteration count of its hidden cell
pub do_is_counted : (l : ℕ) (s : Scope) (x t : ℕ) (k : Kind) (body : Steps Act) → IsCounted image_language (iterations_left t) (do_loop l s x t k body)
do_is_counted l s x t k body = record {
  tested = λ c. tested_by (cell_in here t c) c;
  tests = λ c r e. tests (variable (more_iterations t)) (cell_in here t c) c r e;
  last = λ c e. last (cell_in here t c) c e;
  more = λ c r e. more (cell_in here t c) c r e;
  takes = λ c d r e h. takes s k x t (cell_in s x c) (cell_in here (t + 1) c) (cell_in here t c) c d r refl e h;
}

-- DO begins with the count of 11.1.7.4.1 in its hidden cell, where the frame has that cell
pub do_begins : (s : Scope) (x t : ℕ) (first last step u : ℤ) (c d : Core) → cell_in here t c ≡ Some u
    → outcome image_language (doing (variable (begin_iterations s x t) ∷ [])) (pushed step (pushed last (pushed first c))) ≡ leaves d
    → iterations_left t d ≡ Some (min (iterations first last step) most_iterations)
do_begins s x t first last step u c d hu h =
    let p = beside s c x t first u hu in
    let q = remains (with_cell s x first c).frame.cells (t + 1) t step p.0 p.1 in
    ap (iterations_left t) (goes_there (variable (begin_iterations s x t)) zero_step (not (int_eq step (pos 0))) (pushed step (pushed last (pushed first c))) _ d h)
    ∙ ap count_of_cell (stored (with_cell here (t + 1) step (with_cell s x first c)).frame.cells t (pos (min (iterations first last step) most_iterations)) q.0 q.1)
