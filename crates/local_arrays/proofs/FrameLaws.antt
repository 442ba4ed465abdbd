-- Laws of frames in a row of arrays.
use Rattle.std.proofs.Common.{◌≡◌, ℕ, zero, suc, ◌+◌, ◌-◌, ◌<◌, ◌≤◌, List, [], ◌∷◌, ◌++◌, take, drop, length, refl, ap, sym, ◌∙◌, arith, slice_set, slice_index_or, subst}
use Rattle.std.proofs.lemmas.List.{drop-set-lt, take-set-le, drop-set-add, length-take, length-drop, length-append, reverse-append}
use Rattle.std.proofs.lemmas.List.Sums.{sum_by-cons}
use Rattle.std.proofs.lemmas.Option.{slice_get_past}
use Rattle.std.proofs.Math.Seq.{take-set-lt, take-append_seam, drop-append_seam, take-suc, take-length}
use Rattle.std.specs.Prelude.{slice_get, Option, None, reverse, Result, Ok, Err, OnOk, OnErr}
use Rattle.image_acts.specs.Acts.{Scope, here, host}
use Rattle.image_acts.specs.Core.{Local}
use Rattle.image_acts.specs.Frames.{joined, cells_in_arrays, cells_in_frames, local_size}
use Rattle.local_arrays.specs.Arrays.{array_at}
use Rattle.local_arrays.specs.Rows.{Rowed}
use Rattle.local_arrays.specs.Frames.{Framed, count_of, front_of, main_of, with_front, with_main, array_of, with_array, frames_of, base_of, Nested, SlotIs, NoSlot}

-- there is always a frame
main_behind : {X : Type 0} (bs : List ℕ) (f : List X) (xs : List X) → main_of (f ∷ frames_of bs xs) ≡ main_of (frames_of bs xs)
main_behind [] f xs = refl
main_behind (b ∷ bs) f xs = refl

with_main_behind : {X : Type 0} (bs : List ℕ) (f g : List X) (xs : List X) → with_main f (g ∷ frames_of bs xs) ≡ g ∷ with_main f (frames_of bs xs)
with_main_behind [] f g xs = refl
with_main_behind (b ∷ bs) f g xs = refl

get_behind : {X : Type 0} (b x : ℕ) (xs : List X) → slice_get (drop b xs) x ≡ slice_get xs (b + x)
get_behind zero x xs = (let e : 0 + x ≡ x = omega arith in ap (λ n. slice_get xs n) (sym e))
get_behind (suc b) x [] = refl
get_behind (suc b) x (y ∷ xs) = (let e : suc b + x ≡ suc (b + x) = omega arith in get_behind b x xs ∙ ap (λ n. slice_get (y ∷ xs) n) (sym e))

get_front : {X : Type 0} (b x : ℕ) (xs : List X) → x < b → slice_get (take b xs) x ≡ slice_get xs x
get_front zero x xs h = absurd (omega arith)
get_front (suc b) x [] h = refl
get_front (suc b) zero (y ∷ xs) h = refl
get_front (suc b) (suc x) (y ∷ xs) h = get_front b x xs (omega arith)

-- the arrays of the frame in front, and of the last one
here_get : {X : Type 0} (bs : List ℕ) (xs : List X) (x : ℕ) → slice_get (front_of (frames_of bs xs)) x ≡ slice_get xs (base_of bs + x)
here_get [] xs x = (let e : 0 + x ≡ x = omega arith in ap (λ n. slice_get xs n) (sym e))
here_get (b ∷ bs) xs x = get_behind b x xs

here_set : {X : Type 0} (bs : List ℕ) (xs : List X) (x : ℕ) (v : X) → frames_of bs (slice_set xs (base_of bs + x) v) ≡ with_front (slice_set (front_of (frames_of bs xs)) x v) (frames_of bs xs)
here_set [] xs x v = (let e : 0 + x ≡ x = omega arith in ap (λ n. slice_set xs n v ∷ []) e)
here_set (b ∷ bs) xs x v = rw (drop-set-add b xs x v, take-set-le b xs (b + x) v (omega arith)) refl

nested_main : (bs : List ℕ) (n m : ℕ) → Nested bs n m → m ≤ n
nested_main [] n m e = omega arith
nested_main (b ∷ bs) n m e = (let h = nested_main bs b m e.1 in let w = e.0 in omega arith)

host_get : {X : Type 0} (bs : List ℕ) (n m : ℕ) (xs : List X) (x : ℕ) → Nested bs n m → x < m → slice_get (main_of (frames_of bs xs)) x ≡ slice_get xs x
host_get [] n m xs x e h = refl
host_get (b ∷ bs) n m xs x e h =
    let w = nested_main bs b m e.1 in
    ap (λ f. slice_get f x) (main_behind bs (drop b xs) (take b xs)) ∙ host_get bs b m (take b xs) x e.1 h ∙ get_front b x xs (omega arith)

host_set : {X : Type 0} (bs : List ℕ) (n m : ℕ) (xs : List X) (x : ℕ) (v : X) → Nested bs n m → x < m → frames_of bs (slice_set xs x v) ≡ with_main (slice_set (main_of (frames_of bs xs)) x v) (frames_of bs xs)
host_set [] n m xs x v e h = refl
host_set (b ∷ bs) n m xs x v e h =
    let w = nested_main bs b m e.1 in
    let l : x < b = omega arith in
    ap (λ f. f ∷ frames_of bs (take b (slice_set xs x v))) (drop-set-lt b xs x v l)
    ∙ ap (λ ys. drop b xs ∷ frames_of bs ys) (take-set-lt b xs x v l)
    ∙ ap (λ fs. drop b xs ∷ fs) (host_set bs b m (take b xs) x v e.1 h)
    ∙ sym (with_main_behind bs (slice_set (main_of (frames_of bs (take b xs))) x v) (drop b xs) (take b xs))
    ∙ ap (λ f. with_main (slice_set f x v) (drop b xs ∷ frames_of bs (take b xs))) (sym (main_behind bs (drop b xs) (take b xs)))

-- the array at a place of the row
pub slot_get : (s : Scope) (x main k : ℕ) (bs : List ℕ) (xs : List (Option Local)) → Nested bs (length xs) main → SlotIs s x (base_of bs) main (length xs) k → array_of s x (frames_of bs xs) ≡ array_at k xs
slot_get here x main k bs xs n e = ap joined (here_get bs xs x ∙ ap (λ i. slice_get xs i) (sym e.0))
slot_get host x main k bs xs n e = ap joined (host_get bs (length xs) main xs x n e.1 ∙ ap (λ i. slice_get xs i) (sym e.0))

pub slot_set : (s : Scope) (x main k : ℕ) (bs : List ℕ) (xs : List (Option Local)) (v : Option Local) → Nested bs (length xs) main → SlotIs s x (base_of bs) main (length xs) k
    → frames_of bs (slice_set xs k v) ≡ with_array s x v (frames_of bs xs)
slot_set here x main k bs xs v n e = ap (λ i. frames_of bs (slice_set xs i v)) e.0 ∙ here_set bs xs x v
slot_set host x main k bs xs v n e = ap (λ i. frames_of bs (slice_set xs i v)) e.0 ∙ host_set bs (length xs) main xs x v n e.1

pub slot_within : (s : Scope) (x main k : ℕ) (bs : List ℕ) (n : ℕ) → Nested bs n main → SlotIs s x (base_of bs) main n k → k < n
slot_within here x main k bs n m e = e.1
slot_within host x main k bs n m e = (let h = nested_main bs n main m in let a = e.0 in let b = e.1 in omega arith)

-- where there is no such array
front_long : {X : Type 0} (bs : List ℕ) (xs : List X) → length (front_of (frames_of bs xs)) ≡ length xs - base_of bs
front_long [] xs = omega arith
front_long (b ∷ bs) xs = length-drop b xs

main_long : {X : Type 0} (bs : List ℕ) (n m : ℕ) (xs : List X) → n ≡ length xs → Nested bs n m → length (main_of (frames_of bs xs)) ≡ m
main_long [] n m xs l e = sym l ∙ e
main_long (b ∷ bs) n m xs l e = ap length (main_behind bs (drop b xs) (take b xs)) ∙ main_long bs b m (take b xs) (let a = length-take b xs in let w = e.0 in omega arith) e.1

none_past : (xs : List (Option Local)) (x : ℕ) → length xs ≤ x → array_at x xs ≡ None
none_past xs x h = ap joined (slice_get_past xs x h)

set_past : {X : Type 0} (xs : List X) (x : ℕ) (v : X) → length xs ≤ x → slice_set xs x v ≡ xs
set_past [] x v h = refl
set_past (y ∷ xs) zero v h = absurd (omega arith)
set_past (y ∷ xs) (suc x) v h = ap (λ ys. y ∷ ys) (set_past xs x v (omega arith))

same_front : {X : Type 0} (fs : List (List X)) → with_front (front_of fs) fs ≡ fs
same_front [] = refl
same_front (f ∷ fs) = refl

same_main : {X : Type 0} (fs : List (List X)) → with_main (main_of fs) fs ≡ fs
same_main [] = refl
same_main (f ∷ []) = refl
same_main (f ∷ g ∷ fs) = ap (λ gs. f ∷ gs) (same_main (g ∷ fs))

pub no_slot : (s : Scope) (x main : ℕ) (bs : List ℕ) (xs : List (Option Local)) → Nested bs (length xs) main → NoSlot s x (base_of bs) main (length xs) → array_of s x (frames_of bs xs) ≡ None
no_slot here x main bs xs n h = none_past (front_of (frames_of bs xs)) x (let l = front_long bs xs in omega arith)
no_slot host x main bs xs n h = none_past (main_of (frames_of bs xs)) x (let l = main_long bs (length xs) main xs refl n in omega arith)

pub no_set : (s : Scope) (x main : ℕ) (bs : List ℕ) (xs : List (Option Local)) (v : Option Local) → Nested bs (length xs) main → NoSlot s x (base_of bs) main (length xs) → with_array s x v (frames_of bs xs) ≡ frames_of bs xs
no_set here x main bs xs v n h = ap (λ f. with_front f (frames_of bs xs)) (set_past (front_of (frames_of bs xs)) x v (let l = front_long bs xs in omega arith)) ∙ same_front (frames_of bs xs)
no_set host x main bs xs v n h = ap (λ f. with_main f (frames_of bs xs)) (set_past (main_of (frames_of bs xs)) x v (let l = main_long bs (length xs) main xs refl n in omega arith)) ∙ same_main (frames_of bs xs)

-- how many cells, arrays and frames there are
cells_parts : (b : ℕ) (xs : List (Option Local)) → cells_in_arrays (drop b xs) + cells_in_arrays (take b xs) ≡ cells_in_arrays xs
cells_parts zero xs = omega arith
cells_parts (suc b) [] = refl
cells_parts (suc b) (x ∷ xs) =
    let h = cells_parts b xs in
    let s = sum_by-cons local_size x xs in
    let t = sum_by-cons local_size x (take b xs) in
    omega arith

pub cells_same : (bs : List ℕ) (xs : List (Option Local)) → cells_in_frames (frames_of bs xs) ≡ cells_in_arrays xs
cells_same [] xs = (let s = sum_by-cons cells_in_arrays xs [] in omega arith)
cells_same (b ∷ bs) xs =
    let s = sum_by-cons cells_in_arrays (drop b xs) (frames_of bs (take b xs)) in
    let h = cells_same bs (take b xs) in
    let p = cells_parts b xs in
    omega arith

pub count_same : {X : Type 0} (bs : List ℕ) (xs : List X) → count_of (frames_of bs xs) ≡ length xs
count_same [] xs = omega arith
count_same (b ∷ bs) xs =
    let h = count_same bs (take b xs) in
    let t = length-take b xs in
    let d = length-drop b xs in
    omega arith

pub frames_long : {X : Type 0} (bs : List ℕ) (xs : List X) → length (frames_of bs xs) ≡ 1 + length bs
frames_long [] xs = refl
frames_long (b ∷ bs) xs = (let h = frames_long bs (take b xs) in omega arith)

pub same_framed : (xs ys : List (List (Option Local))) (m n p q r s : ℕ) → xs ≡ ys → m ≡ n → p ≡ q → r ≡ s
    → ◌≡◌ {A = Framed} (record { frames = xs; most = m; size = p; deepest = r }) (record { frames = ys; most = n; size = q; deepest = s })
same_framed xs ys m n p q r s e f g h = rw (e, f, g, h) refl

-- the same of frames that are kept: base is where the one in front begins, len how many arrays the row has
pub kept_get : (s : Scope) (x main k base len : ℕ) (bs : List ℕ) (xs : List (Option Local)) (fs : List (List (Option Local))) → frames_of bs xs ≡ fs → Nested bs (length xs) main → base ≡ base_of bs → len ≡ length xs
    → SlotIs s x base main len k → array_of s x fs ≡ array_at k xs
kept_get s x main k base len bs xs fs f n b l h = ap (λ gs. array_of s x gs) (sym f) ∙ slot_get s x main k bs xs n (subst (λ i. SlotIs s x i main (length xs) k) b (subst (λ i. SlotIs s x base main i k) l h))

pub kept_none : (s : Scope) (x main base len : ℕ) (bs : List ℕ) (xs : List (Option Local)) (fs : List (List (Option Local))) → frames_of bs xs ≡ fs → Nested bs (length xs) main → base ≡ base_of bs → len ≡ length xs
    → NoSlot s x base main len → array_of s x fs ≡ None
kept_none s x main base len bs xs fs f n b l h = ap (λ gs. array_of s x gs) (sym f) ∙ no_slot s x main bs xs n (subst (λ i. NoSlot s x i main (length xs)) b (subst (λ i. NoSlot s x base main i) l h))

pub kept_within : (s : Scope) (x main k base len : ℕ) (bs : List ℕ) (n : ℕ) → Nested bs n main → base ≡ base_of bs → len ≡ n → SlotIs s x base main len k → k < n
kept_within s x main k base len bs n e b l h = slot_within s x main k bs n e (subst (λ i. SlotIs s x i main n k) b (subst (λ i. SlotIs s x base main i k) l h))

pub kept_same : (s : Scope) (x main base len : ℕ) (bs : List ℕ) (xs : List (Option Local)) (v : Option Local) (m : Framed) → frames_of bs xs ≡ m.frames → Nested bs (length xs) main → base ≡ base_of bs → len ≡ length xs
    → NoSlot s x base main len → m ≡ record m { frames = with_array s x v m.frames }
kept_same s x main base len bs xs v m f n b l h =
    let e = no_set s x main bs xs v n (subst (λ i. NoSlot s x i main (length xs)) b (subst (λ i. NoSlot s x base main i) l h)) in
    ap (λ gs. record m { frames = gs }) (sym (ap (λ gs. with_array s x v gs) (sym f) ∙ e ∙ f))

pub kept_set : (s : Scope) (x main k base len d : ℕ) (bs : List ℕ) (row new : Rowed) (v w : Option Local) (m : Framed) → ◌≡◌ {A = Framed} (record { frames = frames_of bs row.arrays; most = row.most; size = row.size; deepest = d }) m
    → Nested bs (length row.arrays) main → base ≡ base_of bs → len ≡ length row.arrays → SlotIs s x base main len k → new ≡ record { arrays = slice_set row.arrays k v; most = row.most; size = row.size } → v ≡ w
    → ◌≡◌ {A = Framed} (record { frames = frames_of bs new.arrays; most = new.most; size = new.size; deepest = d }) (record m { frames = with_array s x w m.frames })
kept_set s x main k base len d bs row new v w m f n b l h e u =
    let g = slot_set s x main k bs row.arrays v n (subst (λ i. SlotIs s x i main (length row.arrays) k) b (subst (λ i. SlotIs s x base main i k) l h)) in
    ap (λ (r : Rowed). record { frames = frames_of bs r.arrays; most = r.most; size = r.size; deepest = d }) e
    ∙ ap (λ gs. record { frames = gs; most = row.most; size = row.size; deepest = d }) (g ∙ ap (λ o. with_array s x o (frames_of bs row.arrays)) u)
    ∙ ap (λ (a : Framed). record a { frames = with_array s x w a.frames }) f

pub on_ok : {X E P Q : Type 0} (r : Result X E) → (P → Q) → OnOk r P → OnOk r Q
on_ok (Ok x) f p = f p
on_ok (Err e) f p = p

-- a frame begun, and one ended
pub begun_view : (bs : List ℕ) (xs ys : List (Option Local)) → frames_of (length xs ∷ bs) (xs ++ ys) ≡ ys ∷ frames_of bs xs
begun_view bs xs ys = rw (drop-append_seam xs ys, take-append_seam xs ys) refl

pub begun_nested : (bs : List ℕ) (xs ys : List (Option Local)) (main : ℕ) → Nested bs (length xs) main → Nested (length xs ∷ bs) (length (xs ++ ys)) main
begun_nested bs xs ys main n = ((let l = length-append xs ys in omega arith), n)

pub pushed_bases : (bs cs : List ℕ) (b : ℕ) → cs ≡ bs ++ b ∷ [] → reverse cs ≡ b ∷ reverse bs
pushed_bases bs cs b e = ap reverse e ∙ reverse-append bs (b ∷ [])

pub ended_nested : (b : ℕ) (bs : List ℕ) (xs : List (Option Local)) (main : ℕ) → Nested (b ∷ bs) (length xs) main → Nested bs (length (take b xs)) main
ended_nested b bs xs main n = subst (λ k. Nested bs k main) (let l = length-take b xs in let w = n.0 in omega arith) n.1

pub last_is : (bs : List ℕ) (n : ℕ) → suc n ≡ length bs → slice_index_or bs n 0 ≡ base_of (reverse bs)
last_is bs n e =
    let w : take (suc n) bs ≡ take n bs ++ slice_index_or bs n 0 ∷ [] = take-suc bs n 0 (omega arith) in
    let z : take (suc n) bs ≡ bs = ap (λ k. take k bs) e ∙ take-length bs in
    ap base_of (sym (pushed_bases (take n bs) bs (slice_index_or bs n 0) (sym z ∙ w)))

pub on_err : {X E P Q : Type 0} (r : Result X E) → (P → Q) → OnErr r P → OnErr r Q
on_err (Ok x) f p = p
on_err (Err e) f p = f p

-- how many cells all arrays have with another one in the place of one
cells_none : (s : Scope) (x main base len : ℕ) (bs : List ℕ) (xs : List (Option Local)) (v : Option Local) (fs : List (List (Option Local))) → frames_of bs xs ≡ fs → Nested bs (length xs) main → base ≡ base_of bs → len ≡ length xs
    → NoSlot s x base main len → cells_in_arrays xs ≡ cells_in_frames (with_array s x v fs)
cells_none s x main base len bs xs v fs f n b l h =
    sym (ap (λ gs. cells_in_frames (with_array s x v gs)) (sym f) ∙ ap cells_in_frames (no_set s x main bs xs v n (subst (λ i. NoSlot s x i main (length xs)) b (subst (λ i. NoSlot s x base main i) l h))) ∙ cells_same bs xs)

cells_some : (s : Scope) (x main k base len : ℕ) (bs : List ℕ) (xs : List (Option Local)) (v : Option Local) (fs : List (List (Option Local))) → frames_of bs xs ≡ fs → Nested bs (length xs) main → base ≡ base_of bs → len ≡ length xs
    → SlotIs s x base main len k → cells_in_arrays (slice_set xs k v) ≡ cells_in_frames (with_array s x v fs)
cells_some s x main k base len bs xs v fs f n b l h =
    sym (ap (λ gs. cells_in_frames (with_array s x v gs)) (sym f) ∙ ap cells_in_frames (sym (slot_set s x main k bs xs v n (subst (λ i. SlotIs s x i main (length xs) k) b (subst (λ i. SlotIs s x base main i k) l h)))) ∙ cells_same bs (slice_set xs k v))

pub none_fits : (s : Scope) (x main base len a m : ℕ) (bs : List ℕ) (xs : List (Option Local)) (v : Option Local) (fs : List (List (Option Local))) → frames_of bs xs ≡ fs → Nested bs (length xs) main → base ≡ base_of bs → len ≡ length xs
    → NoSlot s x base main len → a ≡ m → cells_in_arrays xs ≤ a → cells_in_frames (with_array s x v fs) ≤ m
none_fits s x main base len a m bs xs v fs f n b l h e w = (let c = cells_none s x main base len bs xs v fs f n b l h in omega arith)

pub none_full : (s : Scope) (x main base len a m : ℕ) (bs : List ℕ) (xs : List (Option Local)) (v : Option Local) (fs : List (List (Option Local))) → frames_of bs xs ≡ fs → Nested bs (length xs) main → base ≡ base_of bs → len ≡ length xs
    → NoSlot s x base main len → a ≡ m → a < cells_in_arrays xs → m < cells_in_frames (with_array s x v fs)
none_full s x main base len a m bs xs v fs f n b l h e w = (let c = cells_none s x main base len bs xs v fs f n b l h in omega arith)

pub some_fits : (s : Scope) (x main k base len a m : ℕ) (bs : List ℕ) (xs : List (Option Local)) (v : Option Local) (fs : List (List (Option Local))) → frames_of bs xs ≡ fs → Nested bs (length xs) main → base ≡ base_of bs → len ≡ length xs
    → SlotIs s x base main len k → a ≡ m → cells_in_arrays (slice_set xs k v) ≤ a → cells_in_frames (with_array s x v fs) ≤ m
some_fits s x main k base len a m bs xs v fs f n b l h e w = (let c = cells_some s x main k base len bs xs v fs f n b l h in omega arith)

pub some_full : (s : Scope) (x main k base len a m : ℕ) (bs : List ℕ) (xs : List (Option Local)) (v : Option Local) (fs : List (List (Option Local))) → frames_of bs xs ≡ fs → Nested bs (length xs) main → base ≡ base_of bs → len ≡ length xs
    → SlotIs s x base main len k → a ≡ m → a < cells_in_arrays (slice_set xs k v) → m < cells_in_frames (with_array s x v fs)
some_full s x main k base len a m bs xs v fs f n b l h e w = (let c = cells_some s x main k base len bs xs v fs f n b l h in omega arith)
