-- Array values that get the elements at a place, one after another, and those of a whole array.
use Rattle.std.proofs.Common.{◌≡◌, ℕ, zero, suc, ◌+◌, ◌<◌, ℤ, List, [], ◌∷◌, ◌++◌, length, take, refl, ap, sym, ◌∙◌, arith, Bool, true, false}
use Rattle.std.specs.Prelude.{Option, Some, None, slice_get, nat_le, cond}
use Rattle.std.proofs.lemmas.List.Sums.{sum_by-cons}
use Rattle.std.proofs.lemmas.List.{length-append}
use Rattle.std.proofs.Math.Seq.{take-length}
use Rattle.walk_theory.specs.Terms.{found}
use Rattle.caf_base.specs.Arithmetic.{natural}
use Rattle.image_acts.specs.Core.{Array, Local, elements_in}
use Rattle.image_acts.specs.Frames.{local_size}
use Rattle.image_acts.specs.Places.{Place, cells_of, elements_at, offsets}
use Rattle.array_places.proofs.Counting.{offsets_length}
use Rattle.array_values.specs.Values.{Values, lengthened}
use Rattle.local_arrays.specs.Arrays.{elements_of, loaded, values_of}

-- an array value on top of others
abbrev pub topped : List ℕ → List Array → List ℤ → List Array
topped e xs vs = record { extents = e; elements = vs } ∷ xs

pub lengthened_total : (v : ℤ) (xs : List Array) → 0 < length xs → elements_in (lengthened v xs) ≡ elements_in xs + 1
lengthened_total v [] h = absurd (omega arith)
lengthened_total v (x ∷ xs) h =
    let a = sum_by-cons (λ (x : Array). length x.elements) x xs in
    let b = sum_by-cons (λ (x : Array). length x.elements) (record x { elements = x.elements ++ v ∷ [] }) xs in
    let l = length-append x.elements (v ∷ []) in
    omega arith

pub lengthened_some : (v : ℤ) (xs : List Array) → 0 < length xs → 0 < length (lengthened v xs)
lengthened_some v [] h = absurd (omega arith)
lengthened_some v (x ∷ xs) h = omega arith

pub take_one_more : (vs : List ℤ) (k : ℕ) (v : ℤ) → slice_get vs k ≡ Some v → take (suc k) vs ≡ take k vs ++ v ∷ []
take_one_more [] k v h = absurd (cc)
take_one_more (w ∷ vs) zero v h = (let e : w ≡ v = cc in ap (λ x. x ∷ []) e)
take_one_more (w ∷ vs) (suc k) v h = ap (λ xs. w ∷ xs) (take_one_more vs k v h)

pub lengthened_same : (e : List ℕ) (vs : List ℤ) (xs old : List Array) (k : ℕ) (v : ℤ) → xs ≡ record { extents = e; elements = take k vs } ∷ old → slice_get vs k ≡ Some v → lengthened v xs ≡ record { extents = e; elements = take (k + 1) vs } ∷ old
lengthened_same e vs xs old k v h g =
    let s : k + 1 ≡ suc k = omega arith in
    ap (lengthened v) h ∙ ap (topped e old) (sym (ap (λ (n : ℕ). take n vs) s ∙ take_one_more vs k v g))

-- as many elements as offsets
abbrev with_element : Option ℤ → Option (List ℤ) → Option (List ℤ)
with_element None vs = None
with_element (Some v) None = None
with_element (Some v) (Some vs) = Some (v ∷ vs)

one_more : (a : Option ℤ) (b : Option (List ℤ)) (n : ℕ) (vs : List ℤ) → ((ws : List ℤ) → b ≡ Some ws → length ws ≡ n) → with_element a b ≡ Some vs → length vs ≡ suc n
one_more None b n vs f h = absurd (cc)
one_more (Some v) None n vs f h = absurd (cc)
one_more (Some v) (Some ws) n vs f h = (let e : vs ≡ v ∷ ws = cc in ap length e ∙ ap suc (f ws refl))

elements_long : (os es vs : List ℤ) → elements_at os es ≡ Some vs → length vs ≡ length os
elements_long [] es [] h = refl
elements_long [] es (v ∷ vs) h = absurd (cc)
elements_long (o ∷ os) es vs h = one_more (slice_get es (natural o)) (elements_at os es) (length os) vs (λ ws e. elements_long os es ws e) h

pub all_taken : (p : Place) (es vs : List ℤ) → elements_at (offsets p) es ≡ Some vs → take (cells_of p) vs ≡ vs
all_taken p es vs h =
    let e : length vs ≡ cells_of p = elements_long (offsets p) es vs h ∙ offsets_length p.start p.dims in
    ap (λ (n : ℕ). take n vs) (sym e) ∙ take-length vs

-- the elements of an array that is there
within_bounds : (b : Bool) (o : Option (List ℤ)) (vs : List ℤ) → values_of (cond b o None) ≡ found vs → o ≡ Some vs
within_bounds false o vs h = absurd (cc)
within_bounds true None vs h = absurd (cc)
within_bounds true (Some ws) vs h = (let e : ws ≡ vs = cc in ap Some e)

pub there_loaded : (o : Option Local) (p : Place) (es vs : List ℤ) → elements_of o ≡ Some es → loaded o p ≡ found vs → elements_at (offsets p) es ≡ Some vs
there_loaded None p es vs h g = absurd (cc)
there_loaded (Some l) p es vs h g =
    let e : l.elements ≡ es = cc in
    ap (elements_at (offsets p)) (sym e) ∙ within_bounds (nat_le (cells_of p) (length l.elements)) (elements_at (offsets p) l.elements) vs g

pub size_there : (o : Option Local) (es : List ℤ) → elements_of o ≡ Some es → local_size o ≡ length es
size_there None es h = absurd (cc)
size_there (Some l) es h = (let e : l.elements ≡ es = cc in ap length e)

pub elements_there_are : (o : Option Local) (l : Local) (es : List ℤ) → elements_of o ≡ Some es → o ≡ Some l → es ≡ l.elements
elements_there_are o l es h g = (let e : Some l.elements ≡ Some es = sym (ap elements_of g) ∙ h in cc)

pub values_are : (x : Values) (xs : List Array) (most size : ℕ) → x.arrays ≡ xs → x.most ≡ most → x.size ≡ size → x ≡ record { arrays = xs; most = most; size = size }
values_are x xs most size p q r = rw (← p, ← q, ← r) refl

pub not_loaded : (o : Option Local) (p : Place) (vs : List ℤ) → o ≡ None → loaded o p ≡ found vs → ⊥
not_loaded o p vs e h = (let f : loaded None p ≡ found vs = ap (λ (q : Option Local). loaded q p) (sym e) ∙ h in absurd (cc))
