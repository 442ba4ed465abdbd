-- Laws of arrays in one row of cells.
use Rattle.std.proofs.Common.{◌≡◌, ℕ, zero, suc, ◌+◌, ◌-◌, ◌<◌, ◌≤◌, ℤ, List, [], ◌∷◌, ◌++◌, take, drop, length, refl, ap, sym, ◌∙◌, arith, pos, replicate, append_assoc, slice_set, subst, min, Bool, true, false, cond, leb-true, le-leb, slice_index_or}
use Rattle.std.proofs.lemmas.List.{take-append-le, drop-append-le, length-take, length-drop, length-append, length-replicate, length-set, take-append-drop, get_or-take, get_or-drop, replicate-append-replicate}
use Rattle.std.proofs.lemmas.List.Sums.{sum_by-cons}
use Rattle.std.proofs.lemmas.Option.{slice_get-get_or, slice_get_past}
use Rattle.std.proofs.Math.Seq.{take-append_seam, drop-append_seam}
use Rattle.std.specs.Prelude.{slice_get, Option, Some, None, is_some, nat_le}
use Rattle.caf_base.specs.Arithmetic.{natural}
use Rattle.walk_theory.specs.Terms.{found, at_fault}
use Rattle.image_acts.specs.Core.{Local}
use Rattle.coarray_types.specs.Places.{size_of}
use Rattle.image_acts.specs.Frames.{cells_in_arrays, local_size, zeros_in}
use Rattle.image_acts.specs.Places.{Place, place_in, cells_of, offsets, elements_at, with_elements_at}
use Rattle.image_acts.specs.Operate.Variables.{elements_there}
use Rattle.local_arrays.specs.declared.bounds.Bounds.{Bounds}
use Rattle.local_arrays.specs.declared.reach.Reach.TheVariants as reaches
use Rattle.local_arrays.specs.declared.row.Info.{Info}
use Rattle.local_arrays.specs.Arrays.{array_at, values_of, loaded, overwritten, refilled, HasCells}
use Rattle.local_arrays.specs.Rows.{Rowed, IsSpot, exchanged, locals_of, local_with, pairs_of, total_size, placed, AreBounds, IsWell, HasReach, AreWell, Fit}

pub locals_long : (cells : List ℤ) (is : List Info) → length (locals_of cells is) ≡ length is
locals_long cells [] = refl
locals_long cells (i ∷ is) = ap suc (locals_long (drop i.size cells) is)

-- an array has as many cells as its info says
pub size_is : (b : Option Bounds) (n : ℕ) (xs : List ℤ) → IsWell b n → n ≡ length xs → local_size (local_with b xs) ≡ n
size_is None n xs w e = sym w
size_is (Some b) n xs w e = sym e

taken_long : (n m : ℕ) (xs : List ℤ) → n + m ≡ length xs → n ≡ length (take n xs)
taken_long n m xs e = (let l = length-take n xs in omega arith)

dropped_long : (n m : ℕ) (xs : List ℤ) → n + m ≡ length xs → m ≡ length (drop n xs)
dropped_long n m xs e = (let l = length-drop n xs in omega arith)

pub cells_all : (cells : List ℤ) (is : List Info) → AreWell is → total_size is ≡ length cells → cells_in_arrays (locals_of cells is) ≡ length cells
cells_all cells [] w e = e
cells_all cells (i ∷ is) w e =
    let s = sum_by-cons local_size (local_with i.bounds (take i.size cells)) (locals_of (drop i.size cells) is) in
    let a = size_is i.bounds i.size (take i.size cells) w.0 (taken_long i.size (total_size is) cells e) in
    let b = cells_all (drop i.size cells) is w.2 (dropped_long i.size (total_size is) cells e) in
    let d = dropped_long i.size (total_size is) cells e in
    omega arith

-- each stands behind those before it
pub start_at : (s : ℕ) (is : List Info) (k : ℕ) (i : Info) → is ≡ placed s is → slice_get is k ≡ Some i → i.start ≡ s + total_size (take k is)
start_at s [] k i p e = absurd (cc)
start_at s (j ∷ is) zero i p e =
    let a : j ≡ i = cc in
    let b : j ≡ record j { start = s } = cc in
    let c = ap (λ (x : Info). x.start) a in
    let d = ap (λ (x : Info). x.start) b in
    omega arith
start_at s (j ∷ is) (suc k) i p e =
    let b : is ≡ placed (s + j.size) is = cc in
    let r = start_at (s + j.size) is k i b e in
    omega arith

drop_nil : (k : ℕ) → ◌≡◌ {A = List ℤ} (drop k []) []
drop_nil zero = refl
drop_nil (suc k) = refl

take_nil : (k : ℕ) → ◌≡◌ {A = List ℤ} (take k []) []
take_nil zero = refl
take_nil (suc k) = refl

drop_twice : (m n : ℕ) (xs : List ℤ) → drop n (drop m xs) ≡ drop (m + n) xs
drop_twice zero n xs = (let e : 0 + n ≡ n = omega arith in ap (λ k. drop k xs) (sym e))
drop_twice (suc m) n [] = drop_nil n ∙ sym (drop_nil (suc m + n))
drop_twice (suc m) n (x ∷ xs) = (let e : suc m + n ≡ suc (m + n) = omega arith in drop_twice m n xs ∙ ap (λ k. drop k (x ∷ xs)) (sym e))

take_parts : (m n : ℕ) (xs : List ℤ) → take (m + n) xs ≡ take m xs ++ take n (drop m xs)
take_parts zero n xs = (let e : 0 + n ≡ n = omega arith in ap (λ k. take k xs) e)
take_parts (suc m) n [] = take_nil (suc m + n) ∙ sym (take_nil n)
take_parts (suc m) n (x ∷ xs) = (let e : suc m + n ≡ suc (m + n) = omega arith in ap (λ k. take k (x ∷ xs)) e ∙ ap (λ r. x ∷ r) (take_parts m n xs))

pub local_at : (cells : List ℤ) (is : List Info) (k : ℕ) (i : Info) → slice_get is k ≡ Some i → slice_get (locals_of cells is) k ≡ Some (local_with i.bounds (take i.size (drop (total_size (take k is)) cells)))
local_at cells [] k i e = absurd (cc)
local_at cells (j ∷ is) zero i e = (let a : j ≡ i = cc in ap (λ (x : Info). Some (local_with x.bounds (take x.size cells))) a)
local_at cells (j ∷ is) (suc k) i e = local_at (drop j.size cells) is k i e ∙ ap (λ xs. Some (local_with i.bounds (take i.size xs))) (drop_twice j.size (total_size (take k is)) cells)

pub front_small : (is : List Info) (k : ℕ) (i : Info) → slice_get is k ≡ Some i → total_size (take k is) + i.size ≤ total_size is
front_small [] k i e = absurd (cc)
front_small (j ∷ is) zero i e = (let a : j ≡ i = cc in let b = ap (λ (x : Info). x.size) a in omega arith)
front_small (j ∷ is) (suc k) i e = (let r = front_small is k i e in omega arith)

-- the array of an info, and its cells
pub within : (cells : List ℤ) (is : List Info) (k : ℕ) (i : Info) → Fit cells is → slice_get is k ≡ Some i → i.start + i.size ≤ length cells
within cells is k i f e =
    let s = start_at 0 is k i f.placed e in
    let r = front_small is k i e in
    let t = f.full in
    omega arith

pub found_at : (cells : List ℤ) (is : List Info) (k : ℕ) (i : Info) → Fit cells is → slice_get is k ≡ Some i → array_at k (locals_of cells is) ≡ local_with i.bounds (take i.size (drop i.start cells))
found_at cells is k i f e =
    let s : total_size (take k is) ≡ i.start = (let x = start_at 0 is k i f.placed e in omega arith) in
    rw (local_at cells is k i e, s) refl

pub well_at : (is : List Info) (k : ℕ) (i : Info) → AreWell is → slice_get is k ≡ Some i → IsWell i.bounds i.size
well_at [] k i w e = absurd (cc)
well_at (j ∷ is) zero i w e = (let a : j ≡ i = cc in subst (λ (x : Info). IsWell x.bounds x.size) a w.0)
well_at (j ∷ is) (suc k) i w e = well_at is k i w.2 e

pub reach_at : (is : List Info) (k : ℕ) (i : Info) → AreWell is → slice_get is k ≡ Some i → HasReach i
reach_at [] k i w e = absurd (cc)
reach_at (j ∷ is) zero i w e = (let a : j ≡ i = cc in subst HasReach a w.1)
reach_at (j ∷ is) (suc k) i w e = reach_at is k i w.2 e

-- other cells in the place of those of one array
front_is : (n : ℕ) (xs ys : List ℤ) → n ≡ length xs → take n (xs ++ ys) ≡ xs
front_is n xs ys e = rw e (take-append_seam xs ys)

back_is : (n : ℕ) (xs ys : List ℤ) → n ≡ length xs → drop n (xs ++ ys) ≡ ys
back_is n xs ys e = rw e (drop-append_seam xs ys)

pub spliced : (cells : List ℤ) (is : List Info) (k : ℕ) (i j : Info) (ys : List ℤ) → slice_get is k ≡ Some i → total_size is ≡ length cells → j.size ≡ length ys
    → locals_of (take (total_size (take k is)) cells ++ (ys ++ drop (total_size (take k is) + i.size) cells)) (slice_set is k j) ≡ slice_set (locals_of cells is) k (local_with j.bounds ys)
spliced cells [] k i j ys e t l = absurd (cc)
spliced cells (m ∷ is) zero i j ys e t l =
    let a : m ≡ i = cc in
    let z : 0 + i.size ≡ m.size = (let b = ap (λ (x : Info). x.size) a in omega arith) in
    let d = drop (0 + i.size) cells in
    ap (λ v. local_with j.bounds v ∷ locals_of (drop j.size (ys ++ d)) is) (front_is j.size ys d l)
    ∙ ap (λ v. local_with j.bounds ys ∷ locals_of v is) (back_is j.size ys d l)
    ∙ ap (λ n. local_with j.bounds ys ∷ locals_of (drop n cells) is) z
spliced cells (m ∷ is) (suc k) i j ys e t l =
    let n = total_size (take k is) in
    let front = take m.size cells in
    let rest = take n (drop m.size cells) ++ (ys ++ drop (n + i.size) (drop m.size cells)) in
    let f : m.size ≡ length front = (let x = length-take m.size cells in omega arith) in
    let d : total_size is ≡ length (drop m.size cells) = (let x = length-drop m.size cells in omega arith) in
    let w : (m.size + n) + i.size ≡ m.size + (n + i.size) = omega arith in
    let whole : take (m.size + n) cells ++ (ys ++ drop ((m.size + n) + i.size) cells) ≡ front ++ rest
    = ap (λ x. x ++ (ys ++ drop ((m.size + n) + i.size) cells)) (take_parts m.size n cells)
    ∙ append_assoc front (take n (drop m.size cells)) (ys ++ drop ((m.size + n) + i.size) cells)
    ∙ ap (λ q. front ++ (take n (drop m.size cells) ++ (ys ++ q))) (ap (λ q. drop q cells) w ∙ sym (drop_twice m.size (n + i.size) cells)) in
    ap (λ cs. locals_of cs (m ∷ slice_set is k j)) whole
    ∙ ap (λ v. local_with m.bounds v ∷ locals_of (drop m.size (front ++ rest)) (slice_set is k j)) (front_is m.size front rest f)
    ∙ ap (λ v. local_with m.bounds front ∷ locals_of v (slice_set is k j)) (back_is m.size front rest f)
    ∙ ap (λ v. local_with m.bounds front ∷ v) (spliced (drop m.size cells) is k i j ys e d l)

pub same_set : (is : List Info) (k : ℕ) (i : Info) → slice_get is k ≡ Some i → slice_set is k i ≡ is
same_set [] k i e = absurd (cc)
same_set (j ∷ is) zero i e = (let a : j ≡ i = cc in ap (λ (x : Info). x ∷ is) (sym a))
same_set (j ∷ is) (suc k) i e = ap (λ xs. j ∷ xs) (same_set is k i e)

pub exchanged_long : (start size : ℕ) (ys cells : List ℤ) → start + size ≤ length cells → length (exchanged start size ys cells) + size ≡ length cells + length ys
exchanged_long start size ys cells h =
    let a = length-append (take start cells) (ys ++ drop (start + size) cells) in
    let b = length-append ys (drop (start + size) cells) in
    let t = length-take start cells in
    let d = length-drop (start + size) cells in
    omega arith

-- as many other elements for one array
pub written_view : (cells : List ℤ) (is : List Info) (k : ℕ) (i : Info) (ys : List ℤ) → Fit cells is → slice_get is k ≡ Some i → length ys ≡ i.size
    → locals_of (exchanged i.start i.size ys cells) is ≡ slice_set (locals_of cells is) k (local_with i.bounds ys)
written_view cells is k i ys f e l =
    let s : i.start ≡ total_size (take k is) = (let x = start_at 0 is k i f.placed e in omega arith) in
    ap (λ n. locals_of (take n cells ++ (ys ++ drop (n + i.size) cells)) is) s
    ∙ ap (λ xs. locals_of (take (total_size (take k is)) cells ++ (ys ++ drop (total_size (take k is) + i.size) cells)) xs) (sym (same_set is k i e))
    ∙ spliced cells is k i i ys e f.full (sym l)

pub written_fit : (cells : List ℤ) (is : List Info) (k : ℕ) (i : Info) (ys : List ℤ) → Fit cells is → slice_get is k ≡ Some i → length ys ≡ i.size → Fit (exchanged i.start i.size ys cells) is
written_fit cells is k i ys f e l =
    let x = exchanged_long i.start i.size ys cells (within cells is k i f e) in
    let t = f.full in
    let s = f.small in
    record { placed = f.placed; full = omega arith; well = f.well; small = omega arith }

-- one array more, which isn't there
placed_append : (s : ℕ) (is : List Info) (i : Info) → placed s (is ++ i ∷ []) ≡ placed s is ++ record i { start = s + total_size is } ∷ []
placed_append s [] i = (let e : s ≡ s + 0 = omega arith in ap (λ n. record i { start = n } ∷ []) e)
placed_append s (j ∷ is) i =
    let e : (s + j.size) + total_size is ≡ s + (j.size + total_size is) = omega arith in
    ap (λ xs. record j { start = s } ∷ xs) (placed_append (s + j.size) is i ∙ ap (λ n. placed (s + j.size) is ++ record i { start = n } ∷ []) e)

total_append : (is : List Info) (i : Info) → total_size (is ++ i ∷ []) ≡ total_size is + i.size
total_append [] i = omega arith
total_append (j ∷ is) i = (let h = total_append is i in omega arith)

well_append : (is : List Info) (i : Info) → AreWell is → IsWell i.bounds i.size → HasReach i → AreWell (is ++ i ∷ [])
well_append [] i w v r = (v, r, tt)
well_append (j ∷ is) i w v r = (w.0, w.1, well_append is i w.2 v r)

abbrev pub none_at : ℕ → Info
none_at s = record { reach = reaches.Other; bounds = None; start = s; size = 0 }

pub pushed_fit : (cells : List ℤ) (is js : List Info) → Fit cells is → js ≡ is ++ none_at (length cells) ∷ [] → Fit cells js
pushed_fit cells is js f e =
    let t = total_append is (none_at (length cells)) in
    let u = f.full in
    let z : 0 + total_size is ≡ length cells = omega arith in
    subst (Fit cells) (sym e) (record {
      placed = sym (placed_append 0 is (none_at (length cells)) ∙ ap (λ xs. xs ++ none_at (0 + total_size is) ∷ []) (sym f.placed) ∙ ap (λ n. is ++ none_at n ∷ []) z);
      full = omega arith;
      well = well_append is (none_at (length cells)) f.well refl tt;
      small = f.small;
    })

pushed_one : (cells : List ℤ) (is : List Info) (n : ℕ) → locals_of cells (is ++ none_at n ∷ []) ≡ locals_of cells is ++ None ∷ []
pushed_one cells [] n = refl
pushed_one cells (i ∷ is) n = ap (λ xs. local_with i.bounds (take i.size cells) ∷ xs) (pushed_one (drop i.size cells) is n)

pub pushed_view : (cells : List ℤ) (is js : List Info) → js ≡ is ++ none_at (length cells) ∷ [] → locals_of cells js ≡ locals_of cells is ++ None ∷ []
pushed_view cells is js e = ap (locals_of cells) e ∙ pushed_one cells is (length cells)

-- the first so many arrays
pub kept_view : (cells : List ℤ) (is : List Info) (n : ℕ) → total_size is ≡ length cells → locals_of (take (total_size (take n is)) cells) (take n is) ≡ take n (locals_of cells is)
kept_view cells is zero t = refl
kept_view cells [] (suc n) t = refl
kept_view cells (i ∷ is) (suc n) t =
    let m = total_size (take n is) in
    let front = take i.size cells in
    let rest = take m (drop i.size cells) in
    let f : i.size ≡ length front = (let x = length-take i.size cells in omega arith) in
    let d : total_size is ≡ length (drop i.size cells) = (let x = length-drop i.size cells in omega arith) in
    ap (λ cs. local_with i.bounds (take i.size cs) ∷ locals_of (drop i.size cs) (take n is)) (take_parts i.size m cells)
    ∙ ap (λ v. local_with i.bounds v ∷ locals_of (drop i.size (front ++ rest)) (take n is)) (front_is i.size front rest f)
    ∙ ap (λ v. local_with i.bounds front ∷ locals_of v (take n is)) (back_is i.size front rest f)
    ∙ ap (λ v. local_with i.bounds front ∷ v) (kept_view (drop i.size cells) is n d)

kept_total : (is : List Info) (n : ℕ) → total_size (take n is) ≤ total_size is
kept_total is zero = omega arith
kept_total [] (suc n) = omega arith
kept_total (i ∷ is) (suc n) = (let h = kept_total is n in omega arith)

kept_placed : (s : ℕ) (is : List Info) (n : ℕ) → placed s (take n is) ≡ take n (placed s is)
kept_placed s is zero = refl
kept_placed s [] (suc n) = refl
kept_placed s (i ∷ is) (suc n) = ap (λ xs. record i { start = s } ∷ xs) (kept_placed (s + i.size) is n)

kept_well : (is : List Info) (n : ℕ) → AreWell is → AreWell (take n is)
kept_well is zero w = tt
kept_well [] (suc n) w = tt
kept_well (i ∷ is) (suc n) w = (w.0, w.1, kept_well is n w.2)

pub kept_fit : (cells : List ℤ) (is : List Info) (n : ℕ) → Fit cells is → Fit (take (total_size (take n is)) cells) (take n is)
kept_fit cells is n f =
    let l = length-take (total_size (take n is)) cells in
    let t = kept_total is n in
    let u = f.full in
    let s = f.small in
    record {
      placed = ap (take n) f.placed ∙ sym (kept_placed 0 is n);
      full = omega arith;
      well = kept_well is n f.well;
      small = omega arith;
    }

-- one other cell
set_front : (size at : ℕ) (v : ℤ) (cells : List ℤ) → at < size → slice_set cells at v ≡ slice_set (take size cells) at v ++ drop size cells
set_front zero at v cells h = absurd (omega arith)
set_front (suc size) at v [] h = refl
set_front (suc size) zero v (x ∷ cells) h = ap (λ xs. v ∷ xs) (sym (take-append-drop size cells))
set_front (suc size) (suc at) v (x ∷ cells) h = ap (λ xs. x ∷ xs) (set_front size at v cells (omega arith))

pub set_exchanged : (start size at : ℕ) (v : ℤ) (cells : List ℤ) → at < size → slice_set cells (start + at) v ≡ exchanged start size (slice_set (take size (drop start cells)) at v) cells
set_exchanged zero size at v cells h =
    let a : 0 + at ≡ at = omega arith in
    let b : 0 + size ≡ size = omega arith in
    ap (λ n. slice_set cells n v) a ∙ set_front size at v cells h ∙ ap (λ n. slice_set (take size cells) at v ++ drop n cells) (sym b)
set_exchanged (suc start) size at v [] h = sym (nothing_set size at v (drop_nil (suc start + size)))
  where
    nothing_set : (size at : ℕ) (v : ℤ) {ys : List ℤ} → ys ≡ [] → slice_set (take size []) at v ++ ys ≡ []
    nothing_set size at v e = rw (e, take_nil size) refl
set_exchanged (suc start) size at v (x ∷ cells) h =
    let a : suc start + at ≡ suc (start + at) = omega arith in
    let b : suc start + size ≡ suc (start + size) = omega arith in
    ap (λ n. slice_set (x ∷ cells) n v) a ∙ ap (λ xs. x ∷ xs) (set_exchanged start size at v cells h)
    ∙ ap (λ n. x ∷ (take start cells ++ (slice_set (take size (drop start cells)) at v ++ drop n (x ∷ cells)))) (sym b)

pub same_rowed : (xs ys : List (Option Local)) (m n p q : ℕ) → xs ≡ ys → m ≡ n → p ≡ q → ◌≡◌ {A = Rowed} (record { arrays = xs; most = m; size = p }) (record { arrays = ys; most = n; size = q })
same_rowed xs ys m n p q e f g = rw (e, f, g) refl

front_at : (cells : List ℤ) (is : List Info) (k : ℕ) (i : Info) → Fit cells is → slice_get is k ≡ Some i → i.start ≡ total_size (take k is)
front_at cells is k i f e = (let x = start_at 0 is k i f.placed e in omega arith)

pub truncated_fit : (cells cells' : List ℤ) (is is' : List Info) (n : ℕ) (i : Info) → Fit cells is → slice_get is n ≡ Some i → cells' ≡ take i.start cells → is' ≡ take n is → Fit cells' is'
truncated_fit cells cells' is is' n i f e a b =
    let s = front_at cells is n i f e in
    subst (λ (xs : List ℤ). Fit xs is') (sym (a ∙ ap (λ m. take m cells) s)) (subst (λ (xs : List Info). Fit (take (total_size (take n is)) cells) xs) (sym b) (kept_fit cells is n f))

pub truncated_view : (cells cells' : List ℤ) (is is' : List Info) (n : ℕ) (i : Info) → Fit cells is → slice_get is n ≡ Some i → cells' ≡ take i.start cells → is' ≡ take n is → locals_of cells' is' ≡ take n (locals_of cells is)
truncated_view cells cells' is is' n i f e a b =
    let s = front_at cells is n i f e in
    ap (λ xs. locals_of xs is') (a ∙ ap (λ m. take m cells) s) ∙ ap (λ xs. locals_of (take (total_size (take n is)) cells) xs) b ∙ kept_view cells is n f.full

-- other values at a place
pub with_long : (os ws vs : List ℤ) → length (with_elements_at os ws vs) ≡ length vs
with_long [] ws vs = refl
with_long (o ∷ os) [] vs = refl
with_long (o ∷ os) (w ∷ ws) vs = with_long os ws (slice_set vs (natural o) w) ∙ length-set vs (natural o) w

over_is : (b : Option Bounds) (p : Place) (ws xs : List ℤ) → local_with b (with_elements_at (offsets p) ws xs) ≡ overwritten p ws (local_with b xs)
over_is None p ws xs = refl
over_is (Some b) p ws xs = refl

part_long : (start size : ℕ) (cells : List ℤ) → start + size ≤ length cells → length (take size (drop start cells)) ≡ size
part_long start size cells h =
    let a = length-take size (drop start cells) in
    let b = length-drop start cells in
    omega arith

pub over_view : (cells cells' : List ℤ) (is : List Info) (k : ℕ) (i : Info) (p : Place) (ws : List ℤ) → Fit cells is → slice_get is k ≡ Some i
    → cells' ≡ exchanged i.start i.size (with_elements_at (offsets p) ws (take i.size (drop i.start cells))) cells
    → locals_of cells' is ≡ slice_set (locals_of cells is) k (overwritten p ws (array_at k (locals_of cells is)))
over_view cells cells' is k i p ws f e w =
    let xs = take i.size (drop i.start cells) in
    ap (λ cs. locals_of cs is) w
    ∙ written_view cells is k i (with_elements_at (offsets p) ws xs) f e (with_long (offsets p) ws xs ∙ part_long i.start i.size cells (within cells is k i f e))
    ∙ ap (λ x. slice_set (locals_of cells is) k x) (over_is i.bounds p ws xs ∙ ap (λ x. overwritten p ws x) (sym (found_at cells is k i f e)))

pub over_fit : (cells cells' : List ℤ) (is : List Info) (k : ℕ) (i : Info) (p : Place) (ws : List ℤ) → Fit cells is → slice_get is k ≡ Some i
    → cells' ≡ exchanged i.start i.size (with_elements_at (offsets p) ws (take i.size (drop i.start cells))) cells → Fit cells' is
over_fit cells cells' is k i p ws f e w =
    let xs = take i.size (drop i.start cells) in
    subst (λ (cs : List ℤ). Fit cs is) (sym w) (written_fit cells is k i (with_elements_at (offsets p) ws xs) f e (with_long (offsets p) ws xs ∙ part_long i.start i.size cells (within cells is k i f e)))

-- a place whose cells are there has as many cells as fit
some_cond : (b : Bool) (x : Option (List ℤ)) → is_some (cond b x None) ≡ true → b ≡ true
some_cond true x h = refl
some_cond false x h = absurd (cc)

few_in : (b : Option Bounds) (xs : List ℤ) (p : Place) → HasCells (local_with b xs) p → cells_of p ≤ length xs
few_in None xs p h = absurd h
few_in (Some b) xs p h = leb-true (cells_of p) (length xs) (some_cond (nat_le (cells_of p) (length xs)) (elements_at (offsets p) xs) h)

pub few_cells : (cells : List ℤ) (is : List Info) (k : ℕ) (i : Info) (p : Place) → Fit cells is → slice_get is k ≡ Some i → HasCells (array_at k (locals_of cells is)) p → cells_of p < 4294967296
few_cells cells is k i p f e h =
    let xs = take i.size (drop i.start cells) in
    let a = few_in i.bounds xs p (subst (λ (o : Option Local). HasCells o p) (found_at cells is k i f e) h) in
    let b = part_long i.start i.size cells (within cells is k i f e) in
    let w = within cells is k i f e in
    let s = f.small in
    omega arith

-- an element
same_cond : (b : Bool) → ◌≡◌ {A = Option (List ℤ)} (cond b None None) None
same_cond true = refl
same_cond false = refl

past_end : (xs : List ℤ) (o : ℤ) → length xs ≤ natural o → values_of (elements_there (place_in (o ∷ [])) (record { bounds = []; elements = xs })) ≡ at_fault 12
past_end xs o h = rw (slice_get_past xs (natural o) h, same_cond (nat_le 1 (length xs))) refl

in_reach : (xs : List ℤ) (o : ℤ) → natural o < length xs → values_of (elements_there (place_in (o ∷ [])) (record { bounds = []; elements = xs })) ≡ found (slice_index_or xs (natural o) (pos 0) ∷ [])
in_reach xs o h = rw (slice_get-get_or xs (natural o) (pos 0) h, le-leb 1 (length xs) (omega arith)) refl

pub element_missing : (cells : List ℤ) (is : List Info) (k : ℕ) (i : Info) (o : ℤ) → Fit cells is → slice_get is k ≡ Some i → i.bounds ≡ None → loaded (array_at k (locals_of cells is)) (place_in (o ∷ [])) ≡ at_fault 6
element_missing cells is k i o f e b = rw (found_at cells is k i f e, b) refl

pub element_past : (cells : List ℤ) (is : List Info) (k : ℕ) (i : Info) (b : Bounds) (o : ℤ) → Fit cells is → slice_get is k ≡ Some i → i.bounds ≡ Some b → i.size ≤ natural o → loaded (array_at k (locals_of cells is)) (place_in (o ∷ [])) ≡ at_fault 12
element_past cells is k i b o f e t h =
    let l = part_long i.start i.size cells (within cells is k i f e) in
    rw (found_at cells is k i f e, t) (past_end (take i.size (drop i.start cells)) o (omega arith))

pub element_there : (cells : List ℤ) (is : List Info) (k : ℕ) (o : ℤ) (at : ℕ) → Fit cells is → IsSpot is k o at → loaded (array_at k (locals_of cells is)) (place_in (o ∷ [])) ≡ found (slice_index_or cells at (pos 0) ∷ [])
element_there cells is k o at f s =
    let i = s.info in
    let l = part_long i.start i.size cells (within cells is k i f s.is_info) in
    let a = s.inside in
    rw (found_at cells is k i f s.is_info, s.is_there)
    (in_reach (take i.size (drop i.start cells)) o (omega arith)
    ∙ ap (λ v. found (v ∷ [])) (get_or-take i.size (drop i.start cells) (natural o) (pos 0) a ∙ get_or-drop i.start cells (natural o) (pos 0) ∙ ap (λ n. slice_index_or cells n (pos 0)) (sym s.is_at)))

pub spot_within : (cells : List ℤ) (is : List Info) (k : ℕ) (o : ℤ) (at : ℕ) → Fit cells is → IsSpot is k o at → at < length cells
spot_within cells is k o at f s =
    let w = within cells is k s.info f s.is_info in
    let a = s.inside in
    let b = s.is_at in
    omega arith

pub spot_has : (cells : List ℤ) (is : List Info) (k : ℕ) (o : ℤ) (at : ℕ) → Fit cells is → IsSpot is k o at → HasCells (array_at k (locals_of cells is)) (place_in (o ∷ []))
spot_has cells is k o at f s =
    let i = s.info in
    let xs = take i.size (drop i.start cells) in
    let l = part_long i.start i.size cells (within cells is k i f s.is_info) in
    let a = s.inside in
    let h : natural o < length xs = omega arith in
    let t : is_some (elements_there (place_in (o ∷ [])) (record { bounds = []; elements = xs })) ≡ true = rw (slice_get-get_or xs (natural o) (pos 0) h, le-leb 1 (length xs) (omega arith)) refl in
    rw (found_at cells is k i f s.is_info, s.is_there) t

pub spot_written : (cells cells' : List ℤ) (is : List Info) (k : ℕ) (o : ℤ) (at : ℕ) (v : ℤ) (s : IsSpot is k o at) → cells' ≡ slice_set cells at v
    → cells' ≡ exchanged s.info.start s.info.size (with_elements_at (offsets (place_in (o ∷ []))) (v ∷ []) (take s.info.size (drop s.info.start cells))) cells
spot_written cells cells' is k o at v s e = e ∙ ap (λ n. slice_set cells n v) s.is_at ∙ set_exchanged s.info.start s.info.size (natural o) v cells s.inside

pub zeros_more : (xs ys : List ℤ) (i : ℕ) → xs ≡ ys ++ replicate i (pos 0) → xs ++ pos 0 ∷ [] ≡ ys ++ replicate (i + 1) (pos 0)
zeros_more xs ys i e = ap (λ r. r ++ pos 0 ∷ []) e ∙ append_assoc ys (replicate i (pos 0)) (pos 0 ∷ []) ∙ ap (λ r. ys ++ r) (replicate-append-replicate i 1 (pos 0))

-- a gap of zeros in the place of so many cells
pub opened : (xs ys zs : List ℤ) (start n : ℕ) → start ≤ length xs → ys ≡ xs ++ replicate n (pos 0) → zs ≡ take start ys ++ (drop (length (drop start ys) - n) (drop start ys) ++ take (length (drop start ys) - n) (drop start ys)) → zs ≡ take start xs ++ (replicate n (pos 0) ++ drop start xs)
opened xs ys zs start n h e f =
    let z = replicate n (pos 0) in
    let d : drop start ys ≡ drop start xs ++ z = ap (drop start) e ∙ drop-append-le start xs z h in
    let t : take start ys ≡ take start xs = ap (take start) e ∙ take-append-le start xs z h in
    let k : length (drop start xs ++ z) - n ≡ length (drop start xs) = (let a = length-append (drop start xs) z in let b = length-replicate n (pos 0) in omega arith) in
    f ∙ ap (λ v. v ++ (drop (length (drop start ys) - n) (drop start ys) ++ take (length (drop start ys) - n) (drop start ys))) t
    ∙ ap (λ w. take start xs ++ (drop (length w - n) w ++ take (length w - n) w)) d
    ∙ ap (λ m. take start xs ++ (drop m (drop start xs ++ z) ++ take m (drop start xs ++ z))) k
    ∙ ap (λ v. take start xs ++ (v ++ take (length (drop start xs)) (drop start xs ++ z))) (drop-append_seam (drop start xs) z)
    ∙ ap (λ v. take start xs ++ (z ++ v)) (take-append_seam (drop start xs) z)

pub gap_is : (xs ys zs : List ℤ) (start size n : ℕ) → start + size ≤ length xs → ys ≡ take start xs ++ drop (start + size) xs → zs ≡ take start ys ++ (replicate n (pos 0) ++ drop start ys) → zs ≡ exchanged start size (replicate n (pos 0)) xs
gap_is xs ys zs start size n h e f =
    let l : start ≡ length (take start xs) = (let a = length-take start xs in omega arith) in
    f ∙ ap (λ v. take start v ++ (replicate n (pos 0) ++ drop start v)) e
    ∙ ap (λ v. v ++ (replicate n (pos 0) ++ drop start (take start xs ++ drop (start + size) xs))) (front_is start (take start xs) (drop (start + size) xs) l)
    ∙ ap (λ v. take start xs ++ (replicate n (pos 0) ++ v)) (back_is start (take start xs) (drop (start + size) xs) l)

-- arrays behind one that is another are placed anew
pub placed_turn : (is : List Info) (k : ℕ) (i : Info) (at : ℕ) → slice_get is k ≡ Some i
    → take (k + 1) (slice_set is k (record i { start = at })) ++ placed (at + i.size) (drop (k + 1) (slice_set is k (record i { start = at }))) ≡ take k is ++ placed at (drop k is)
placed_turn [] k i at e = absurd (cc)
placed_turn (m ∷ is) zero i at e = (let a : m ≡ i = cc in ap (λ (x : Info). record x { start = at } ∷ placed (at + x.size) is) (sym a))
placed_turn (m ∷ is) (suc k) i at e =
    let z : suc k + 1 ≡ suc (k + 1) = omega arith in
    let js = m ∷ slice_set is k (record i { start = at }) in
    ap (λ n. take n js ++ placed (at + i.size) (drop n js)) z ∙ ap (λ xs. m ∷ xs) (placed_turn is k i at e)

pub left_turn : (is : List Info) (k : ℕ) (i : Info) (j : Info) → slice_get is k ≡ Some i → i.size + total_size (drop (k + 1) (slice_set is k j)) ≡ total_size (drop k is)
left_turn [] k i j e = absurd (cc)
left_turn (m ∷ is) zero i j e = (let a : m ≡ i = cc in ap (λ (x : Info). x.size + total_size is) (sym a))
left_turn (m ∷ is) (suc k) i j e =
    let z : suc k + 1 ≡ suc (k + 1) = omega arith in
    ap (λ n. i.size + total_size (drop n (m ∷ slice_set is k j))) z ∙ left_turn is k i j e

pub placed_end : (is : List Info) (k at : ℕ) → length is ≤ k → take k is ++ placed at (drop k is) ≡ is
placed_end [] zero at h = refl
placed_end [] (suc k) at h = refl
placed_end (i ∷ is) zero at h = absurd (omega arith)
placed_end (i ∷ is) (suc k) at h = ap (λ xs. i ∷ xs) (placed_end is k at (omega arith))

-- an array in the place of one, and those behind it placed anew
placed_set : (s : ℕ) (is : List Info) (k : ℕ) (i j : Info) → is ≡ placed s is → slice_get is k ≡ Some i → j.start ≡ i.start
    → take (k + 1) (slice_set is k j) ++ placed (j.start + j.size) (drop (k + 1) (slice_set is k j)) ≡ placed s (slice_set is k j)
placed_set s [] k i j p e h = absurd (cc)
placed_set s (m ∷ is) zero i j p e h =
    let a : m ≡ i = cc in
    let b : m ≡ record m { start = s } = cc in
    let c = ap (λ (x : Info). x.start) a in
    let d = ap (λ (x : Info). x.start) b in
    let t : j.start ≡ s = omega arith in
    ap (λ n. record j { start = n } ∷ placed (n + j.size) is) t
placed_set s (m ∷ is) (suc k) i j p e h =
    let b : m ≡ record m { start = s } = cc in
    let q : is ≡ placed (s + m.size) is = cc in
    let z : suc k + 1 ≡ suc (k + 1) = omega arith in
    ap (λ n. take n (m ∷ slice_set is k j) ++ placed (j.start + j.size) (drop n (m ∷ slice_set is k j))) z
    ∙ ap (λ xs. m ∷ xs) (placed_set (s + m.size) is k i j q e h)
    ∙ ap (λ (x : Info). x ∷ placed (s + m.size) (slice_set is k j)) b

placed_twice : (s : ℕ) (is : List Info) → placed s (placed s is) ≡ placed s is
placed_twice s [] = refl
placed_twice s (i ∷ is) = ap (λ xs. record i { start = s } ∷ xs) (placed_twice (s + i.size) is)

placed_view : (s : ℕ) (cells : List ℤ) (is : List Info) → locals_of cells (placed s is) ≡ locals_of cells is
placed_view s cells [] = refl
placed_view s cells (i ∷ is) = ap (λ xs. local_with i.bounds (take i.size cells) ∷ xs) (placed_view (s + i.size) (drop i.size cells) is)

placed_total : (s : ℕ) (is : List Info) → total_size (placed s is) ≡ total_size is
placed_total s [] = refl
placed_total s (i ∷ is) = ap (λ n. i.size + n) (placed_total (s + i.size) is)

placed_well : (s : ℕ) (is : List Info) → AreWell is → AreWell (placed s is)
placed_well s [] w = tt
placed_well s (i ∷ is) w = (w.0, w.1, placed_well (s + i.size) is w.2)

set_total : (is : List Info) (k : ℕ) (i j : Info) → slice_get is k ≡ Some i → total_size (slice_set is k j) + i.size ≡ total_size is + j.size
set_total [] k i j e = absurd (cc)
set_total (m ∷ is) zero i j e = (let a : m ≡ i = cc in let b = ap (λ (x : Info). x.size) a in omega arith)
set_total (m ∷ is) (suc k) i j e = (let h = set_total is k i j e in omega arith)

set_well : (is : List Info) (k : ℕ) (j : Info) → AreWell is → IsWell j.bounds j.size → HasReach j → AreWell (slice_set is k j)
set_well [] k j w v r = tt
set_well (m ∷ is) zero j w v r = (v, r, w.2)
set_well (m ∷ is) (suc k) j w v r = (w.0, w.1, set_well is k j w.2 v r)

pub drop_total : (is : List Info) (k : ℕ) → total_size (drop k is) ≤ total_size is
drop_total is zero = omega arith
drop_total [] (suc k) = omega arith
drop_total (i ∷ is) (suc k) = (let h = drop_total is k in omega arith)

pub reset_placed : (is js : List Info) (k : ℕ) (i j : Info) → is ≡ placed 0 is → slice_get is k ≡ Some i → j.start ≡ i.start
    → js ≡ take (k + 1) (slice_set is k j) ++ placed (j.start + j.size) (drop (k + 1) (slice_set is k j)) → js ≡ placed 0 (slice_set is k j)
reset_placed is js k i j p e h w = w ∙ placed_set 0 is k i j p e h

pub reset_fit : (cells cells' : List ℤ) (is js : List Info) (k : ℕ) (i j : Info) → Fit cells is → slice_get is k ≡ Some i → IsWell j.bounds j.size → HasReach j
    → cells' ≡ exchanged i.start i.size (replicate j.size (pos 0)) cells → js ≡ placed 0 (slice_set is k j) → length cells' < 4294967296 → Fit cells' js
reset_fit cells cells' is js k i j f e v r c w s =
    let x = exchanged_long i.start i.size (replicate j.size (pos 0)) cells (within cells is k i f e) in
    let z = length-replicate j.size (pos 0) in
    let y = ap length c in
    let t = set_total is k i j e in
    let u = ap total_size w ∙ placed_total 0 (slice_set is k j) in
    let g = f.full in
    record {
      placed = w ∙ sym (placed_twice 0 (slice_set is k j)) ∙ ap (placed 0) (sym w);
      full = omega arith;
      well = subst AreWell (sym w) (placed_well 0 (slice_set is k j) (set_well is k j f.well v r));
      small = s;
    }

pub reset_view : (cells cells' : List ℤ) (is js : List Info) (k : ℕ) (i j : Info) → Fit cells is → slice_get is k ≡ Some i
    → cells' ≡ exchanged i.start i.size (replicate j.size (pos 0)) cells → js ≡ placed 0 (slice_set is k j) → locals_of cells' js ≡ slice_set (locals_of cells is) k (local_with j.bounds (replicate j.size (pos 0)))
reset_view cells cells' is js k i j f e c w =
    let s = front_at cells is k i f e in
    let ys = replicate j.size (pos 0) in
    ap (λ xs. locals_of cells' xs) w ∙ placed_view 0 cells' (slice_set is k j)
    ∙ ap (λ cs. locals_of cs (slice_set is k j)) (c ∙ ap (λ n. exchanged n i.size ys cells) s)
    ∙ spliced cells is k i j ys e f.full (sym (length-replicate j.size (pos 0)))

-- how many cells there are with another array
pub set_cells : (xs : List (Option Local)) (k : ℕ) (x v : Option Local) → slice_get xs k ≡ Some x → cells_in_arrays (slice_set xs k v) + local_size x ≡ cells_in_arrays xs + local_size v
set_cells [] k x v e = absurd (cc)
set_cells (y ∷ xs) zero x v e =
    let a : y ≡ x = cc in
    let b = ap local_size a in
    let s = sum_by-cons local_size v xs in
    let t = sum_by-cons local_size y xs in
    omega arith
set_cells (y ∷ xs) (suc k) x v e =
    let h = set_cells xs k x v e in
    let s = sum_by-cons local_size y (slice_set xs k v) in
    let t = sum_by-cons local_size y xs in
    omega arith

pub reset_room : (cells : List ℤ) (is : List Info) (k : ℕ) (i : Info) (b : Option Bounds) (n m : ℕ) → Fit cells is → slice_get is k ≡ Some i → IsWell b n
    → cells_in_arrays (slice_set (locals_of cells is) k (local_with b (replicate n (pos 0)))) ≤ m → length cells + n ≤ m + i.size
reset_room cells is k i b n m f e w h =
    let v = local_with b (replicate n (pos 0)) in
    let x = local_with i.bounds (take i.size (drop (total_size (take k is)) cells)) in
    let s = set_cells (locals_of cells is) k x v (local_at cells is k i e) in
    let a = cells_all cells is f.well f.full in
    let t = size_is b n (replicate n (pos 0)) w (sym (length-replicate n (pos 0))) in
    let u = front_at cells is k i f e in
    let r = part_long (total_size (take k is)) i.size cells (let q = within cells is k i f e in omega arith) in
    let y = size_is i.bounds i.size (take i.size (drop (total_size (take k is)) cells)) (well_at is k i f.well e) (sym r) in
    omega arith

-- other elements, as many
refill_is : (b : Option Bounds) (ws xs : List ℤ) → local_with b ws ≡ refilled ws (local_with b xs)
refill_is None ws xs = refl
refill_is (Some b) ws xs = refl

pub same_size : (cells : List ℤ) (is : List Info) (k : ℕ) (i : Info) → Fit cells is → slice_get is k ≡ Some i → local_size (array_at k (locals_of cells is)) ≡ i.size
same_size cells is k i f e = ap local_size (found_at cells is k i f e) ∙ size_is i.bounds i.size (take i.size (drop i.start cells)) (well_at is k i f.well e) (sym (part_long i.start i.size cells (within cells is k i f e)))

pub refill_view : (cells cells' : List ℤ) (is : List Info) (k : ℕ) (i : Info) (ws : List ℤ) → Fit cells is → slice_get is k ≡ Some i → length ws ≡ i.size
    → cells' ≡ exchanged i.start (length ws) ws cells → locals_of cells' is ≡ slice_set (locals_of cells is) k (refilled ws (array_at k (locals_of cells is)))
refill_view cells cells' is k i ws f e l c =
    ap (λ cs. locals_of cs is) (c ∙ ap (λ n. exchanged i.start n ws cells) l)
    ∙ written_view cells is k i ws f e l
    ∙ ap (λ x. slice_set (locals_of cells is) k x) (refill_is i.bounds ws (take i.size (drop i.start cells)) ∙ ap (λ x. refilled ws x) (sym (found_at cells is k i f e)))

pub refill_fit : (cells cells' : List ℤ) (is : List Info) (k : ℕ) (i : Info) (ws : List ℤ) → Fit cells is → slice_get is k ≡ Some i → length ws ≡ i.size
    → cells' ≡ exchanged i.start (length ws) ws cells → Fit cells' is
refill_fit cells cells' is k i ws f e l c = subst (λ (cs : List ℤ). Fit cs is) (sym (c ∙ ap (λ n. exchanged i.start n ws cells) l)) (written_fit cells is k i ws f e l)

pub placed_from : (is js ks : List Info) (k : ℕ) (j : Info) → js ≡ slice_set is k j → ks ≡ take (k + 1) js ++ placed (j.start + j.size) (drop (k + 1) js)
    → ks ≡ take (k + 1) (slice_set is k j) ++ placed (j.start + j.size) (drop (k + 1) (slice_set is k j))
placed_from is js ks k j e f = f ∙ ap (λ xs. take (k + 1) xs ++ placed (j.start + j.size) (drop (k + 1) xs)) e

pub reset_small : (cells cells' : List ℤ) (start size n cap : ℕ) → start + size ≤ length cells → cells' ≡ exchanged start size (replicate n (pos 0)) cells → length cells + n ≤ cap + size → cap < 4294967296 → length cells' < 4294967296
reset_small cells cells' start size n cap w c r s =
    let x = exchanged_long start size (replicate n (pos 0)) cells w in
    let z = length-replicate n (pos 0) in
    let y = ap length c in
    omega arith

-- the bounds of an array
pub bounds_there : (is : List Info) (k : ℕ) (i : Info) (b : Bounds) → AreWell is → slice_get is k ≡ Some i → i.bounds ≡ Some b → AreBounds b
bounds_there is k i b w e t = subst (λ (o : Option Bounds). IsWell o i.size) t (well_at is k i w e)

pub missing_local : (cells : List ℤ) (is : List Info) (k : ℕ) (i : Info) → Fit cells is → slice_get is k ≡ Some i → i.bounds ≡ None → array_at k (locals_of cells is) ≡ None
missing_local cells is k i f e t = found_at cells is k i f e ∙ ap (λ (b : Option Bounds). local_with b (take i.size (drop i.start cells))) t

pub there_local : (cells : List ℤ) (is : List Info) (k : ℕ) (i : Info) (b : Bounds) → Fit cells is → slice_get is k ≡ Some i → i.bounds ≡ Some b → array_at k (locals_of cells is) ≡ Some (record { bounds = pairs_of b; elements = take i.size (drop i.start cells) })
there_local cells is k i b f e t = found_at cells is k i f e ∙ ap (λ (o : Option Bounds). local_with o (take i.size (drop i.start cells))) t

-- how many cells there are with another array in the place of one
set_cells_at : (xs : List (Option Local)) (k : ℕ) (v : Option Local) → k < length xs → cells_in_arrays (slice_set xs k v) + local_size (array_at k xs) ≡ cells_in_arrays xs + local_size v
set_cells_at [] k v h = absurd (omega arith)
set_cells_at (x ∷ xs) zero v h =
    let s = sum_by-cons local_size v xs in
    let t = sum_by-cons local_size x xs in
    omega arith
set_cells_at (x ∷ xs) (suc k) v h =
    let r = set_cells_at xs k v (omega arith) in
    let s = sum_by-cons local_size x (slice_set xs k v) in
    let t = sum_by-cons local_size x xs in
    omega arith

one_of_cells : (xs : List (Option Local)) (k : ℕ) → k < length xs → local_size (array_at k xs) ≤ cells_in_arrays xs
one_of_cells [] k h = absurd (omega arith)
one_of_cells (x ∷ xs) zero h = (let t = sum_by-cons local_size x xs in omega arith)
one_of_cells (x ∷ xs) (suc k) h =
    let r = one_of_cells xs k (omega arith) in
    let t = sum_by-cons local_size x xs in
    omega arith

pub fits_true : (xs : List (Option Local)) (k : ℕ) (v : Option Local) (n others room : ℕ) → k < length xs → others ≡ cells_in_arrays xs - local_size (array_at k xs) → min (local_size v) 340282366920938463463374607431768211455 ≡ n
    → others ≤ room → n ≤ room - others → room < 18446744073709551616 → cells_in_arrays (slice_set xs k v) ≤ room
fits_true xs k v n others room h o e a b w =
    let s = set_cells_at xs k v h in
    let t = one_of_cells xs k h in
    omega arith

pub fits_false : (xs : List (Option Local)) (k : ℕ) (v : Option Local) (n others room : ℕ) → k < length xs → others ≡ cells_in_arrays xs - local_size (array_at k xs) → min (local_size v) 340282366920938463463374607431768211455 ≡ n
    → room < others + n → room < cells_in_arrays (slice_set xs k v)
fits_false xs k v n others room h o e a =
    let s = set_cells_at xs k v h in
    let t = one_of_cells xs k h in
    omega arith

-- an array taken away
pub removed_fit : (cells cells' : List ℤ) (is js : List Info) (k : ℕ) (i : Info) → Fit cells is → slice_get is k ≡ Some i → cells' ≡ take i.start cells ++ drop (i.start + i.size) cells
    → js ≡ placed 0 (slice_set is k (none_at i.start)) → Fit cells' js
removed_fit cells cells' is js k i f e c w =
    let x = exchanged_long i.start i.size [] cells (within cells is k i f e) in
    let y = ap length c in
    let s = f.small in
    reset_fit cells cells' is js k i (none_at i.start) f e refl tt c w (omega arith)

pub removed_view : (cells cells' : List ℤ) (is js : List Info) (k : ℕ) (i : Info) → Fit cells is → slice_get is k ≡ Some i → cells' ≡ take i.start cells ++ drop (i.start + i.size) cells
    → js ≡ placed 0 (slice_set is k (none_at i.start)) → locals_of cells' js ≡ slice_set (locals_of cells is) k None
removed_view cells cells' is js k i f e c w = reset_view cells cells' is js k i (none_at i.start) f e c w

pub pushed_more : (xs ys zs : List (Option Local)) (i : ℕ) → xs ≡ ys ++ replicate i None → zs ≡ xs ++ None ∷ [] → zs ≡ ys ++ replicate (i + 1) None
pushed_more xs ys zs i e f = f ∙ ap (λ r. r ++ None ∷ []) e ∙ append_assoc ys (replicate i None) (None ∷ []) ∙ ap (λ r. ys ++ r) (replicate-append-replicate i 1 None)

-- an array laid out
pub laid_is : (b : Bounds) (ps : List (ℤ × ℤ)) (n : ℕ) → pairs_of b ≡ ps → n ≡ min (size_of ps) 340282366920938463463374607431768211455 → n < 4294967296 → local_with (Some b) (replicate n (pos 0)) ≡ Some (zeros_in ps)
laid_is b ps n p e h =
    let s : n ≡ size_of ps = omega arith in
    ap (λ qs. Some (record { bounds = qs; elements = replicate n (pos 0) })) p ∙ ap (λ m. Some (record { bounds = ps; elements = replicate m (pos 0) })) s

pub laid_row : (r : Rowed) (new : Rowed) (k : ℕ) (v w : Option Local) → new ≡ record { arrays = slice_set r.arrays k v; most = r.most; size = r.size } → v ≡ w → new ≡ record { arrays = slice_set r.arrays k w; most = r.most; size = r.size }
laid_row r new k v w e f = e ∙ ap (λ o. record { arrays = slice_set r.arrays k o; most = r.most; size = r.size }) f

set_get : (xs : List (Option Local)) (k : ℕ) (v : Option Local) → k < length xs → array_at k (slice_set xs k v) ≡ v
set_get [] k v h = absurd (omega arith)
set_get (x ∷ xs) zero v h = refl
set_get (x ∷ xs) (suc k) v h = set_get xs k v (omega arith)

set_twice : (xs : List (Option Local)) (k : ℕ) (v w : Option Local) → slice_set (slice_set xs k v) k w ≡ slice_set xs k w
set_twice [] k v w = refl
set_twice (x ∷ xs) zero v w = refl
set_twice (x ∷ xs) (suc k) v w = ap (λ ys. x ∷ ys) (set_twice xs k v w)

pub renewed_row : (r one two : Rowed) (k : ℕ) (b : Bounds) (zs vs : List ℤ) (qs : List (ℤ × ℤ)) → k < length r.arrays → one ≡ record { arrays = slice_set r.arrays k (local_with (Some b) zs); most = r.most; size = r.size }
    → two ≡ record { arrays = slice_set one.arrays k (refilled vs (array_at k one.arrays)); most = one.most; size = one.size } → pairs_of b ≡ qs
    → two ≡ record { arrays = slice_set r.arrays k (Some (record { bounds = qs; elements = vs })); most = r.most; size = r.size }
renewed_row r one two k b zs vs qs h e f p =
    let v = local_with (Some b) zs in
    f ∙ ap (λ (x : Rowed). record { arrays = slice_set x.arrays k (refilled vs (array_at k x.arrays)); most = x.most; size = x.size }) e
    ∙ ap (λ o. record { arrays = slice_set (slice_set r.arrays k v) k (refilled vs o); most = r.most; size = r.size }) (set_get r.arrays k v h)
    ∙ ap (λ xs. record { arrays = xs; most = r.most; size = r.size }) (set_twice r.arrays k v (refilled vs v))
    ∙ ap (λ ps. record { arrays = slice_set r.arrays k (Some (record { bounds = ps; elements = vs })); most = r.most; size = r.size }) p
