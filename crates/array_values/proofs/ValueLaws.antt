-- Array values in piles.
use Rattle.std.proofs.Common.{◌≡◌, ℕ, suc, ◌+◌, ◌<◌, ◌≤◌, ℤ, pos, List, [], ◌∷◌, ◌++◌, length, drop, refl, ap, sym, ◌∙◌, arith}
use Rattle.std.specs.Prelude.{Some, None, reverse}
use Rattle.std.proofs.lemmas.List.{length-reverse, reverse-append, reverse-reverse}
use Rattle.std.proofs.lemmas.List.Sums.{sum_by-cons}
use Rattle.image_acts.specs.Core.{Array, elements_in}
use Rattle.image_acts.specs.Teams.{counted_from}
use Rattle.image_stores.specs.Piles.{Pile, pile, items_in, newest, head_of, heaped, headed, merged}
use Rattle.array_values.specs.declared.extents.Extents.{Extents}
use Rattle.array_values.specs.declared.extents.Extents.TheVariants as extents
use Rattle.array_values.specs.Extents.{listed}
use Rattle.array_values.specs.Values.{array_of, arrays_in, row_of, extents_on_top, elements_on_top, with_element, merged_arrays, lengthened}
use Rattle.array_values.proofs.RowLaws.{counted_long}

pub newest_elements : (ps : List (Pile Extents ℤ)) → reverse (newest ps) ≡ elements_on_top (arrays_in ps)
newest_elements [] = refl
newest_elements (p ∷ ps) = refl

pub newest_few : (ps : List (Pile Extents ℤ)) → length (reverse (newest ps)) ≤ items_in ps
newest_few [] = omega arith
newest_few (p ∷ ps) = (let l = length-reverse p.items in omega arith)

pub head_extents : (ps : List (Pile Extents ℤ)) (e : Extents) → head_of ps ≡ Some e → listed e ≡ extents_on_top (arrays_in ps)
head_extents [] e h = absurd (cc)
head_extents (p ∷ ps) e h = (let f : e ≡ p.head = cc in ap listed f)

pub head_there : (ps : List (Pile Extents ℤ)) (e : Extents) → head_of ps ≡ Some e → 0 < length (arrays_in ps)
head_there [] e h = absurd (cc)
head_there (p ∷ ps) e h = omega arith

pub no_head : (ps : List (Pile Extents ℤ)) → head_of ps ≡ None → length (arrays_in ps) ≡ 0
no_head [] h = refl
no_head (p ∷ ps) h = absurd (cc)

pub arrays_long : (ps : List (Pile Extents ℤ)) → length (arrays_in ps) ≡ length ps
arrays_long [] = refl
arrays_long (p ∷ ps) = ap suc (arrays_long ps)

pub arrays_dropped : (ps : List (Pile Extents ℤ)) → arrays_in (drop 1 ps) ≡ drop 1 (arrays_in ps)
arrays_dropped [] = refl
arrays_dropped (p ∷ ps) = refl

pub elements_many : (ps : List (Pile Extents ℤ)) → elements_in (arrays_in ps) ≡ items_in ps
elements_many [] = refl
elements_many (p ∷ ps) =
    let e = sum_by-cons (λ (x : Array). length x.elements) (array_of p) (arrays_in ps) in
    let l = length-reverse p.items in
    let r = elements_many ps in
    omega arith

-- another head leaves as many
pub headed_long : (e : Extents) (ps : List (Pile Extents ℤ)) → length (headed e ps) ≡ length ps
headed_long e [] = refl
headed_long e (p ∷ ps) = refl

pub headed_many : (e : Extents) (ps : List (Pile Extents ℤ)) → items_in (headed e ps) ≡ items_in ps
headed_many e [] = refl
headed_many e (p ∷ ps) = refl

same_row : (n : ℕ) (xs ys : List ℤ) → xs ≡ ys → n ≡ length ys → ◌≡◌ {A = Array} (record { extents = n ∷ []; elements = xs }) (row_of ys)
same_row n xs ys e f = rw (e, f) refl

pub element_added : (v : ℤ) (n : ℕ) (ps : List (Pile Extents ℤ)) → n ≡ length (elements_on_top (arrays_in ps)) + 1 → arrays_in (heaped v (headed (extents.One (pos n)) ps)) ≡ with_element v (arrays_in ps)
element_added v n [] h = refl
element_added v n (p ∷ ps) h =
    let e = reverse-append (v ∷ []) p.items in
    let l : n ≡ length (reverse p.items ++ v ∷ []) = (let a = length-reverse (v ∷ p.items) in let b = ap length e in let c = length-reverse p.items in omega arith) in
    ap (λ (x : Array). x ∷ arrays_in ps) (same_row n (reverse (v ∷ p.items)) (reverse p.items ++ v ∷ []) e l)

pub merged_some : (ps : List (Pile Extents ℤ)) → 1 < length ps → 0 < length (merged ps)
merged_some [] h = absurd (omega arith)
merged_some (p ∷ []) h = absurd (omega arith)
merged_some (p ∷ q ∷ ps) h = omega arith

pub arrays_merged : (n : ℕ) (ps : List (Pile Extents ℤ)) → 1 < length ps → n ≡ length (elements_on_top (arrays_in (merged ps))) → arrays_in (headed (extents.One (pos n)) (merged ps)) ≡ merged_arrays (arrays_in ps)
arrays_merged n [] h e = absurd (omega arith)
arrays_merged n (p ∷ []) h e = absurd (omega arith)
arrays_merged n (p ∷ q ∷ ps) h e =
    let f = reverse-append p.items q.items in
    ap (λ (x : Array). x ∷ arrays_in ps) (same_row n (reverse (p.items ++ q.items)) (reverse q.items ++ reverse p.items) f (e ∙ ap length f))

-- rows
pub row_turned : (xs : List ℤ) → array_of (pile (extents.One (pos (length xs))) (reverse xs)) ≡ row_of xs
row_turned xs = rw (reverse-reverse xs) refl

pub counted_row : (n : ℕ) → array_of (pile (extents.One (pos n)) (reverse (counted_from 1 n))) ≡ row_of (counted_from 1 n)
counted_row n = same_row n (reverse (reverse (counted_from 1 n))) (counted_from 1 n) (reverse-reverse (counted_from 1 n)) (sym (counted_long 1 n))

pub arrays_lengthened : (v : ℤ) (ps : List (Pile Extents ℤ)) → arrays_in (heaped v ps) ≡ lengthened v (arrays_in ps)
arrays_lengthened v [] = refl
arrays_lengthened v (p ∷ ps) = ap (λ (vs : List ℤ). record (array_of p) { elements = vs } ∷ arrays_in ps) (reverse-append (v ∷ []) p.items)
