-- Elements at offsets, one after another.
use Rattle.std.proofs.Common.{◌≡◌, ◌∙◌, ℕ, zero, suc, ◌+◌, ◌≤◌, ℤ, pos, Bool, true, false, List, [], ◌∷◌, length, drop, replicate, refl, sym, ap, arith}
use Rattle.std.specs.Prelude.{Option, Some, None, slice_get, slice_set, is_some, unwrap_or}
use Rattle.caf_base.specs.Arithmetic.{natural}
use Rattle.image_acts.specs.Places.{elements_at, with_elements_at}

pub drop_there : (os : List ℤ) (k : ℕ) (o : ℤ) → slice_get os k ≡ Some o → drop k os ≡ o ∷ drop (k + 1) os
drop_there [] k o e = absurd (cc)
drop_there (x ∷ os) zero o e = let f : x ≡ o = cc in ap (λ (y : ℤ). y ∷ os) f
drop_there (x ∷ os) (suc k) o e = let n : suc k + 1 ≡ suc (k + 1) = omega arith in drop_there os k o e ∙ ap (λ (j : ℕ). o ∷ drop j (x ∷ os)) (sym n)

pub drop_all : (os : List ℤ) (k : ℕ) → length os ≤ k → drop k os ≡ []
drop_all [] zero h = refl
drop_all [] (suc k) h = refl
drop_all (x ∷ os) zero h = absurd (omega arith)
drop_all (x ∷ os) (suc k) h = drop_all os k (omega arith)

abbrev with_element : Option ℤ → Option (List ℤ) → Option (List ℤ)
with_element None vs = None
with_element (Some v) None = None
with_element (Some v) (Some vs) = Some (v ∷ vs)

still_there : (v : ℤ) (x : Option (List ℤ)) → is_some (with_element (Some v) x) ≡ is_some x
still_there v None = refl
still_there v (Some vs) = refl

module _ (os vs : List ℤ) (k : ℕ) (o : ℤ) (t : Bool) (at : slice_get os k ≡ Some o) (so_far : is_some (elements_at (drop k os) vs) ≡ t) where
  from_here : is_some (with_element (slice_get vs (natural o)) (elements_at (drop (k + 1) os) vs)) ≡ t
  from_here = ap (λ (l : List ℤ). is_some (elements_at l vs)) (sym (drop_there os k o at)) ∙ so_far

  pub there_turn : (v : ℤ) → slice_get vs (natural o) ≡ Some v → is_some (elements_at (drop (k + 1) os) vs) ≡ t
  there_turn v e =
      sym (still_there v (elements_at (drop (k + 1) os) vs))
      ∙ ap (λ (x : Option ℤ). is_some (with_element x (elements_at (drop (k + 1) os) vs))) (sym e)
      ∙ from_here

  pub there_not : slice_get vs (natural o) ≡ None → false ≡ t
  there_not e = ap (λ (x : Option ℤ). is_some (with_element x (elements_at (drop (k + 1) os) vs))) (sym e) ∙ from_here

pub there_end : (os vs : List ℤ) (k : ℕ) (t : Bool) → length os ≤ k → is_some (elements_at (drop k os) vs) ≡ t → true ≡ t
there_end os vs k t h i = ap (λ (l : List ℤ). is_some (elements_at l vs)) (sym (drop_all os k h)) ∙ i

-- an element of those that are there
value_here : (a : Option ℤ) (b : Option (List ℤ)) (ws : List ℤ) → with_element a b ≡ Some ws → slice_get ws 0 ≡ Some (unwrap_or a (pos 0))
value_here None b ws e = absurd (cc)
value_here (Some v) None ws e = absurd (cc)
value_here (Some v) (Some vs) ws e = let f : v ∷ vs ≡ ws = cc in ap (λ (l : List ℤ). slice_get l 0) (sym f)

values_behind : (a : Option ℤ) (b : Option (List ℤ)) (ws : List ℤ) → with_element a b ≡ Some ws → (vs : List ℤ) × (v : ℤ) × (b ≡ Some vs) × (ws ≡ v ∷ vs)
values_behind None b ws e = absurd (cc)
values_behind (Some v) None ws e = absurd (cc)
values_behind (Some v) (Some vs) ws e = let f : ws ≡ v ∷ vs = cc in (vs, v, refl, f)

pub value_there : (os vs ws : List ℤ) (k : ℕ) (o : ℤ) → elements_at os vs ≡ Some ws → slice_get os k ≡ Some o → slice_get ws k ≡ Some (unwrap_or (slice_get vs (natural o)) (pos 0))
value_there [] vs ws k o e h = absurd (cc)
value_there (x ∷ os) vs ws zero o e h =
    let f : x ≡ o = cc in
    value_here (slice_get vs (natural x)) (elements_at os vs) ws e ∙ ap (λ (y : ℤ). Some (unwrap_or (slice_get vs (natural y)) (pos 0))) f
value_there (x ∷ os) vs ws (suc k) o e h =
    let b = values_behind (slice_get vs (natural x)) (elements_at os vs) ws e in
    ap (λ (l : List ℤ). slice_get l (suc k)) b.3 ∙ value_there os vs b.0 k o b.2 h

-- elements that are put, one after another
none_put : (os vs : List ℤ) → with_elements_at os [] vs ≡ vs
none_put [] vs = refl
none_put (o ∷ os) vs = refl

module _ (os vs t : List ℤ) (k : ℕ) where
  pub put_turn : (ws rest : List ℤ) (o v : ℤ) (new : List ℤ) → slice_get os k ≡ Some o → ws ≡ v ∷ rest → new ≡ slice_set vs (natural o) v → with_elements_at (drop k os) ws vs ≡ t
      → with_elements_at (drop (k + 1) os) rest new ≡ t
  put_turn ws rest o v new e f m i =
      ap (with_elements_at (drop (k + 1) os) rest) m
      ∙ ap (λ (l : List ℤ). with_elements_at l (v ∷ rest) vs) (sym (drop_there os k o e))
      ∙ ap (λ (l : List ℤ). with_elements_at (drop k os) l vs) (sym f)
      ∙ i

  pub put_end : (ws : List ℤ) → length os ≤ k → with_elements_at (drop k os) ws vs ≡ t → vs ≡ t
  put_end ws h i = ap (λ (l : List ℤ). with_elements_at l ws vs) (sym (drop_all os k h)) ∙ i

  pub put_all : (ws : List ℤ) → length ws ≡ 0 → with_elements_at (drop k os) ws vs ≡ t → vs ≡ t
  put_all [] h i = sym (none_put (drop k os) vs) ∙ i
  put_all (w ∷ ws) h i = absurd (omega arith)

  pub fill_turn : (o v : ℤ) (new : List ℤ) → slice_get os k ≡ Some o → new ≡ slice_set vs (natural o) v → with_elements_at (drop k os) (replicate (length (drop k os)) v) vs ≡ t
      → with_elements_at (drop (k + 1) os) (replicate (length (drop (k + 1) os)) v) new ≡ t
  fill_turn o v new e m i =
      ap (with_elements_at (drop (k + 1) os) (replicate (length (drop (k + 1) os)) v)) m
      ∙ ap (λ (l : List ℤ). with_elements_at l (replicate (length l) v) vs) (sym (drop_there os k o e))
      ∙ i
