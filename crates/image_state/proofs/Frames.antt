-- Frames in rows of cells, and the variables of the main program, in a core.
use Rattle.std.proofs.Common.{◌≡◌, ℕ, zero, suc, ◌+◌, ◌*◌, ◌<◌, ◌≤◌, ℤ, pos, List, [], ◌∷◌, length, drop, replicate, slice_set, refl, ap, sym, ◌∙◌, subst, inl, inr, ◌⊎◌, arith}
use Rattle.std.specs.Prelude.{slice_get, unwrap_or, Option, None}
use Rattle.std.proofs.lemmas.List.{length-set, length-replicate}
use Rattle.caf_base.specs.Arithmetic.{natural}
use Rattle.image_acts.specs.Acts as a
use Rattle.image_acts.specs.Core.{Core, Frame, Local}
use Rattle.image_acts.specs.Frames.{last_or, with_last, with_frame, with_cell, cell_in}
use Rattle.std.proofs.lemmas.Bool.{le-ltb, lt-ltb, le-leb, lt-leb}
use Rattle.image_acts.specs.Operate.Calling.{call_effect}
use Rattle.image_stores.specs.Rows.{total, first, set_first}
use Rattle.local_arrays.specs.Frames.{front_of}
use Rattle.image_state.specs.declared.state.Acting.TheVariants as actings
use Rattle.image_state.specs.Acting.{with_core, Acts}
use Rattle.image_state.specs.Kept.{Kept, Beside, Main, base_in, scalars_in, frame_in, main_with, main_frame, frames_in, front_in, callers_in, core_of, entered, AreRows}

-- the arrays of each frame
abbrev pub Locals : Type 0
Locals = List (List (Option Local))

frames_long : (rows : List (List ℤ)) (main : Main) (fs : Locals) → length (frames_in rows main fs) ≡ suc (length rows)
frames_long [] main fs = refl
frames_long (r ∷ rs) main fs = ap suc (frames_long rs main (drop 1 fs))

pub callers_long : (rows : List (List ℤ)) (main : Main) (fs : Locals) → length (callers_in rows main fs) ≡ length rows
callers_long [] main fs = refl
callers_long (r ∷ rs) main fs = frames_long rs main (drop 1 fs)

cases_nil : {X : Type 0} (xs : List X) → (xs ≡ []) ⊎ (0 < length xs)
cases_nil [] = inl refl
cases_nil (x ∷ xs) = inr (omega arith)

-- a scalar stands behind the two numbers of its frame
get_behind : (r : List ℤ) (x : ℕ) → slice_get r (suc (suc x)) ≡ slice_get (scalars_in r) x
get_behind [] x = refl
get_behind (b ∷ []) x = refl
get_behind (b ∷ n ∷ r) x = refl

set_behind : (r : List ℤ) (xs : List (Option Local)) (x : ℕ) (v : ℤ) → frame_in (slice_set r (suc (suc x)) v) xs ≡ record (frame_in r xs) { cells = slice_set (scalars_in r) x v }
set_behind [] xs x v = refl
set_behind (b ∷ []) xs x v = refl
set_behind (b ∷ n ∷ r) xs x v = refl

two_on : (x : ℕ) → x + 2 ≡ suc (suc x)
two_on x = omega arith

pub front_get : (rows : List (List ℤ)) (main : Main) (fs : Locals) (x : ℕ) → 0 < length rows → slice_get (first rows) (x + 2) ≡ slice_get (front_in rows main fs).cells x
front_get [] main fs x h = absurd (omega arith)
front_get (r ∷ rs) main fs x h = ap (slice_get r) (two_on x) ∙ get_behind r x

pub front_base : (rows : List (List ℤ)) (main : Main) (fs : Locals) → 0 < length rows → natural (unwrap_or (slice_get (first rows) 0) (pos 0)) ≡ (front_in rows main fs).base
front_base [] main fs h = absurd (omega arith)
front_base ([] ∷ rs) main fs h = refl
front_base ((b ∷ r) ∷ rs) main fs h = refl

pub front_need : (rows : List (List ℤ)) (main : Main) (fs : Locals) → 0 < length rows → natural (unwrap_or (slice_get (first rows) 1) (pos 0)) ≡ (front_in rows main fs).need
front_need [] main fs h = absurd (omega arith)
front_need ([] ∷ rs) main fs h = refl
front_need ((b ∷ []) ∷ rs) main fs h = refl
front_need ((b ∷ n ∷ r) ∷ rs) main fs h = refl

pub front_main : (rows : List (List ℤ)) (main : Main) (fs : Locals) → length rows ≡ 0 → front_in rows main fs ≡ main_frame main (front_of fs)
front_main [] main fs h = refl
front_main (r ∷ rs) main fs h = absurd (omega arith)

pub base_small : (n : ℕ) (rows : List (List ℤ)) (main : Main) (fs : Locals) → AreRows n rows → 0 < length rows → (front_in rows main fs).base ≤ 65536
base_small n [] main fs s h = absurd (omega arith)
base_small n (r ∷ rs) main fs s h = s.1

-- the arrays of the frame behind so many rows
abbrev pub last_in : List (List ℤ) → Locals → List (Option Local)
last_in [] fs = front_of fs
last_in (r ∷ rs) fs = last_in rs (drop 1 fs)

pub last_frames : (f : Frame) (rows : List (List ℤ)) (main : Main) (fs : Locals) → last_or f (frames_in rows main fs) ≡ main_frame main (last_in rows fs)
last_frames f [] main fs = refl
last_frames f (r ∷ rs) main fs = last_frames (frame_in r (front_of fs)) rs main (drop 1 fs)

pub host_is : (rows : List (List ℤ)) (main : Main) (fs : Locals) → last_or (front_in rows main fs) (callers_in rows main fs) ≡ main_frame main (last_in rows fs)
host_is [] main fs = refl
host_is (r ∷ rs) main fs = last_frames (frame_in r (front_of fs)) rs main (drop 1 fs)

pub here_is_host : (c : Core) (x : ℕ) (v : ℤ) → length c.callers ≡ 0 → with_cell a.here x v c ≡ with_cell a.host x v c
here_is_host c x v h = elim (cases_nil c.callers) [ inl e ↦ rw e refl | inr n ↦ absurd (omega arith) ]

pub get_here_is_host : (c : Core) (x : ℕ) → length c.callers ≡ 0 → cell_in a.here x c ≡ cell_in a.host x c
get_here_is_host c x h = elim (cases_nil c.callers) [ inl e ↦ rw e refl | inr n ↦ absurd (omega arith) ]

pub with_last_of : (f : Frame) (r : List ℤ) (rows : List (List ℤ)) (main : Main) (fs : Locals) → with_last f (frames_in (r ∷ rows) main fs) ≡ frame_in r (front_of fs) ∷ with_last f (frames_in rows main (drop 1 fs))
with_last_of f r [] main fs = refl
with_last_of f r (q ∷ qs) main fs = refl

module _ (vs : List ℤ) (used local : ℕ) (b : Beside) where
  abbrev core : List (List ℤ) → Main → Locals → Core
  core rows main fs = core_of vs rows main fs used local b

  pub row_put : (rows : List (List ℤ)) (main : Main) (fs : Locals) (x : ℕ) (v : ℤ) → 0 < length (callers_in rows main fs) → with_cell a.here x v (core rows main fs) ≡ core (set_first rows (x + 2) v) main fs
  row_put [] main fs x v h = absurd (omega arith)
  row_put (r ∷ rs) main fs x v h = sym (ap (λ (n : ℕ). core (slice_set r n v ∷ rs) main fs) (two_on x) ∙ ap (λ (f : Frame). record (core (r ∷ rs) main fs) { frame = f }) (set_behind r (front_of fs) x v))

  abbrev with_set : ℕ → ℤ → Main → Main
  with_set x v m = record m { cells = slice_set m.cells x v }

  last_with : (new : Main) (rows : List (List ℤ)) (main : Main) (fs : Locals) → with_last (main_frame new (last_in rows fs)) (frames_in rows main fs) ≡ frames_in rows new fs
  last_with new [] main fs = refl
  last_with new (r ∷ rs) main fs = with_last_of (main_frame new (last_in rs (drop 1 fs))) r rs main fs ∙ ap (λ gs. frame_in r (front_of fs) ∷ gs) (last_with new rs main (drop 1 fs))

  abbrev set_cells : ℕ → ℤ → Frame → Frame
  set_cells x v f = record f { cells = slice_set f.cells x v }

  -- a core with another frame of the main program
  pub host_framed : (rows : List (List ℤ)) (main : Main) (fs : Locals) (r : List ℤ) (f : Frame) → with_frame a.host f (core (r ∷ rows) main fs) ≡ record (core (r ∷ rows) main fs) { callers = with_last f (frames_in rows main (drop 1 fs)) }
  host_framed [] main fs r f = refl
  host_framed (q ∷ qs) main fs r f = refl

  pub host_put : (rows : List (List ℤ)) (main : Main) (fs : Locals) (x : ℕ) (v : ℤ) → with_cell a.host x v (core rows main fs) ≡ core rows (with_set x v main) fs
  host_put [] main fs x v = refl
  host_put (r ∷ rs) main fs x v =
      host_framed rs main fs r (set_cells x v (last_or (frame_in r (front_of fs)) (frames_in rs main (drop 1 fs))))
      ∙ ap (λ (f : Frame). record (core (r ∷ rs) main fs) { callers = with_last (set_cells x v f) (frames_in rs main (drop 1 fs)) }) (last_frames (frame_in r (front_of fs)) rs main (drop 1 fs))
      ∙ ap (λ (gs : List Frame). record (core (r ∷ rs) main fs) { callers = gs }) (last_with (with_set x v main) rs main (drop 1 fs))

  frames_split : (rows : List (List ℤ)) (main : Main) (fs : Locals) → front_in rows main fs ∷ callers_in rows main fs ≡ frames_in rows main fs
  frames_split [] main fs = refl
  frames_split (r ∷ rs) main fs = refl

-- a row of zeros with its two numbers set
pub row_begun : (n : ℕ) (rows : List (List ℤ)) (b k : ℤ) → set_first (set_first (replicate (n + 2) (pos 0) ∷ rows) 0 b) 1 k ≡ (b ∷ k ∷ replicate n (pos 0)) ∷ rows
row_begun n rows b k = ap (λ (m : ℕ). set_first (set_first (replicate m (pos 0) ∷ rows) 0 b) 1 k) (two_on n)

pub begun : (vs : List ℤ) (used local : ℕ) (b : Beside) (rows : List (List ℤ)) (main : Main) (fs : Locals) (cells arrays need : ℕ)
    → entered cells arrays need (core_of vs rows main fs used local b) ≡ core_of vs ((pos used ∷ pos need ∷ replicate cells (pos 0)) ∷ rows) main (replicate arrays None ∷ fs) used (local + need) b
begun vs used local b rows main fs cells arrays need = ap (λ (gs : List Frame). record (entered cells arrays need (core_of vs rows main fs used local b)) { callers = gs }) (frames_split vs used local b rows main fs)

-- back to the caller
pub ended : (rows : List (List ℤ)) (main : Main) (fs : Locals) → 0 < length rows → callers_in rows main fs ≡ front_in (drop 1 rows) main (drop 1 fs) ∷ callers_in (drop 1 rows) main (drop 1 fs)
ended [] main fs h = absurd (omega arith)
ended (r ∷ []) main fs h = refl
ended (r ∷ q ∷ qs) main fs h = refl

-- rows keep to their room
pub set_rows : (n : ℕ) (rows : List (List ℤ)) (x : ℕ) (v : ℤ) → AreRows n rows → AreRows n (set_first rows (x + 2) v)
set_rows n [] x v s = tt
set_rows n ([] ∷ rs) x v s = s
set_rows n ((b ∷ r) ∷ rs) x v s = (let l = length-set (b ∷ r) (x + 2) v in let h = s.0 in (omega arith, subst (λ (m : ℕ). base_in (slice_set (b ∷ r) m v) ≤ 65536) (sym (two_on x)) s.1, s.2))

pub set_long : (rows : List (List ℤ)) (x : ℕ) (v : ℤ) → length (set_first rows x v) ≡ length rows
set_long [] x v = refl
set_long (r ∷ rs) x v = refl

pub end_rows : (n : ℕ) (rows : List (List ℤ)) → AreRows n rows → AreRows n (drop 1 rows)
end_rows n [] s = tt
end_rows n (r ∷ []) s = tt
end_rows n (r ∷ q ∷ qs) s = s.2

pub begin_rows : (n cells : ℕ) (rows : List (List ℤ)) (used need : ℕ) → cells ≤ n → used ≤ 65536 → AreRows (n + 2) rows → AreRows (n + 2) ((pos used ∷ pos need ∷ replicate cells (pos 0)) ∷ rows)
begin_rows n cells rows used need c u s = (let l = length-replicate cells (pos 0) in omega arith, u, s)

pub times_suc : (n d : ℕ) → suc d * n ≡ n + d * n
times_suc n d = omega arith

pub rows_total : (n : ℕ) (rows : List (List ℤ)) → AreRows n rows → total rows ≤ length rows * n
rows_total n [] s = omega arith
rows_total n (r ∷ rs) s = (let h = rows_total n rs s.2 in let l = s.0 in let t = times_suc n (length rs) in omega arith)

-- the main program's scalars, in a core
pub host_get : (vs : List ℤ) (rows : List (List ℤ)) (main : Main) (fs : Locals) (used local : ℕ) (b : Beside) (c : Core) (x : ℕ) → core_of vs rows main fs used local b ≡ c → slice_get (last_or c.frame c.callers).cells x ≡ slice_get main.cells x
host_get vs rows main fs used local b c x e = ap (λ (d : Core). slice_get (last_or d.frame d.callers).cells x) (sym e) ∙ ap (λ (f : Frame). slice_get f.cells x) (host_is rows main fs)

pub main_put : (vs : List ℤ) (rows : List (List ℤ)) (cells new : List ℤ) (need : ℕ) (fs : Locals) (used local : ℕ) (b : Beside) (x : ℕ) (v : ℤ) (k m : Kept) → k ≡ m → k.core ≡ core_of vs rows (main_with cells need) fs used local b → new ≡ slice_set cells x v → with_core k (core_of vs rows (main_with new need) fs used local b) ≡ with_core m (with_cell a.host x v m.core)
main_put vs rows cells new need fs used local b x v k m e f w =
    ap (λ (ms : List ℤ). with_core k (core_of vs rows (main_with ms need) fs used local b)) w
    ∙ ap (with_core k) (sym (host_put vs used local b rows (main_with cells need) fs x v))
    ∙ ap (λ (c : Core). with_core k (with_cell a.host x v c)) (sym f)
    ∙ ap (λ (j : Kept). with_core j (with_cell a.host x v j.core)) e

pub front_put : (vs : List ℤ) (rows new : List (List ℤ)) (main : Main) (fs : Locals) (used local : ℕ) (b : Beside) (x : ℕ) (v : ℤ) (k m : Kept) → k ≡ m → k.core ≡ core_of vs rows main fs used local b → 0 < length m.core.callers → new ≡ set_first rows (x + 2) v → with_core k (core_of vs new main fs used local b) ≡ with_core m (with_cell a.here x v m.core)
front_put vs rows new main fs used local b x v k m e f h w =
    let l : 0 < length (callers_in rows main fs) = (let p = ap (λ (j : Kept). length j.core.callers) e in let q = ap (λ (c : Core). length c.callers) f in omega arith) in
    ap (λ (rs : List (List ℤ)). with_core k (core_of vs rs main fs used local b)) w
    ∙ ap (with_core k) (sym (row_put vs used local b rows main fs x v l))
    ∙ ap (λ (c : Core). with_core k (with_cell a.here x v c)) (sym f)
    ∙ ap (λ (j : Kept). with_core j (with_cell a.here x v j.core)) e

-- calls that begin no frame, and one that does
pub begin_deep : (m : Kept) (cells arrays need : ℕ) → 256 ≤ length m.core.callers → Acts m (call_effect (a.begin_frame cells arrays need) m.core) m (actings.Fault 10)
begin_deep m cells arrays need h = rw (le-ltb (length m.core.callers) 256 h) (refl, refl)

pub begin_full : (m : Kept) (cells arrays need : ℕ) → length m.core.callers < 256 → 65536 < m.core.local_cells + need → Acts m (call_effect (a.begin_frame cells arrays need) m.core) m (actings.Fault 11)
begin_full m cells arrays need h l = rw (lt-ltb (length m.core.callers) 256 h, lt-leb (m.core.local_cells + need) 65536 l) (refl, refl)

pub begin_done : (m e : Kept) (cells arrays need : ℕ) → length m.core.callers < 256 → m.core.local_cells + need ≤ 65536 → e ≡ with_core m (entered cells arrays need m.core) → Acts m (call_effect (a.begin_frame cells arrays need) m.core) e actings.Done
begin_done m e cells arrays need h l g = rw (lt-ltb (length m.core.callers) 256 h, le-leb (m.core.local_cells + need) 65536 l) (refl, g)

-- the room for one row more
pub mul_more : (n d k : ℕ) → d < k → d * n + n ≤ k * n
mul_more n d zero h = absurd (omega arith)
mul_more n zero (suc k) h = (let t = times_suc n k in omega arith)
mul_more n (suc d) (suc k) h = (let t = times_suc n k in let u = times_suc n d in let r = mul_more n d k (omega arith) in omega arith)

pub room_for : (n cells size : ℕ) (rows : List (List ℤ)) → AreRows (n + 2) rows → length rows < 256 → cells ≤ n → size ≡ 256 * (n + 2) → total rows + (cells + 2) ≤ size
room_for n cells size rows s h c e = (let t = rows_total (n + 2) rows s in let u = mul_more (n + 2) (length rows) 256 h in omega arith)
