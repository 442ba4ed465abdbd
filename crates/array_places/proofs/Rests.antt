-- The way to a place without cells, dimension by dimension.
use Rattle.std.proofs.Common.{◌≡◌, ◌∙◌, ℕ, ℤ, pos, Bool, true, false, cond, List, [], ◌∷◌, ◌++◌, refl, sym, ap, append_assoc}
use Rattle.walk_theory.specs.Terms.{Found, found, at_fault, with_found}
use Rattle.image_acts.specs.Places.{Subscript, Dimension, dimension, dimensions, resting, dims_numbers}
use Rattle.array_places.specs.declared.triplet.Subscripts.{Subscripts}
use Rattle.array_places.specs.Sections.{rested_from, seen}

kept_rest : (k : Bool) (n : ℕ) (ns : List ℤ) (es : List (ℕ × ℤ)) → ns ++ dims_numbers (cond k ((n, pos 0) ∷ es) es) ≡ cond k (ns ++ pos n ∷ pos 0 ∷ []) ns ++ dims_numbers es
kept_rest true n ns es = sym (append_assoc ns (pos n ∷ pos 0 ∷ []) (dims_numbers es))
kept_rest false n ns es = refl

-- the numbers with a dimension more
module _ (l u : ℤ) (d : Subscripts) (ns ms : List ℤ) (place : ms ≡ cond d.is_kept (ns ++ pos d.count ∷ pos 0 ∷ []) ns) where
  one_rested : (x : Found (List Dimension))
      → with_found (with_found x (λ ds. found (seen d ∷ ds))) (λ ds. found (ns ++ dims_numbers (resting ds))) ≡ with_found x (λ ds. found (ms ++ dims_numbers (resting ds)))
  one_rested (at_fault k) = refl
  one_rested (found ds) = ap found (kept_rest d.is_kept d.count ns (resting ds) ∙ ap (λ v. v ++ dims_numbers (resting ds)) (sym place))

  pub rests_on : (bs : List (ℤ × ℤ)) (sub : Subscript) (ss : List Subscript) → found (seen d) ≡ dimension (l, u) sub → rested_from ns ((l, u) ∷ bs) (sub ∷ ss) ≡ rested_from ms bs ss
  rests_on bs sub ss e =
      ap (λ (x : Found Dimension). with_found (with_found x (λ y. with_found (dimensions bs ss) (λ ds. found (y ∷ ds)))) (λ ds. found (ns ++ dims_numbers (resting ds)))) (sym e)
      ∙ one_rested (dimensions bs ss)
