-- Fronts of lists that are of one run.
use Rattle.std.proofs.Common.{◌≡◌, ℕ, suc, List, [], ◌∷◌, ◌++◌, ap, ◌∙◌, subst, append_assoc}
use Rattle.trace_theory.specs.Entries.{Each, Above, Rises}
use Rattle.trace_theory.specs.Runs.{Woven, Front}

module _ {E : Type 0} where
  each_front : (P : E → Type 0) (xs ys : List E) → Each P (xs ++ ys) → Each P xs
  each_front P [] ys h = tt
  each_front P (x ∷ xs) ys h = (h.0, each_front P xs ys h.1)

  above_front : (stamp : E → ℕ) (n : ℕ) (xs ys : List E) → Above stamp n (xs ++ ys) → Above stamp n xs
  above_front stamp n [] ys h = tt
  above_front stamp n (x ∷ xs) ys h = (h.0, above_front stamp n xs ys h.1)

  rises_front : (stamp : E → ℕ) (xs ys : List E) → Rises stamp (xs ++ ys) → Rises stamp xs
  rises_front stamp [] ys h = tt
  rises_front stamp (x ∷ xs) ys h = (above_front stamp (stamp x) xs ys h.0, rises_front stamp xs ys h.1)

  -- where a front has an entry, the whole list has it behind the same others
  split_front : (all front left g g' : List E) (e : E) → all ≡ front ++ left → front ≡ g ++ e ∷ g' → all ≡ g ++ e ∷ (g' ++ left)
  split_front all front left g g' e a b = a ∙ ap (λ xs. xs ++ left) b ∙ append_assoc g (e ∷ g') left

module _ (E : Type 0) (image place stamp : E → ℕ) (own : E → ℕ → ℕ) (events histories events' histories' : ℕ → List E) (w : Woven image place stamp own events histories) (f : Front image place events histories events' histories') where
  -- fronts of the lists that agree with one another are of one run
  pub woven_front : Woven image place stamp own events' histories'
  woven_front = record {
    mine = λ i. each_front (λ e. image e ≡ i) (events' i) (f.image_left i) (subst (Each (λ e. image e ≡ i)) (f.image_front i) (w.mine i));
    there = λ o. each_front (λ e. place e ≡ suc o) (histories' (suc o)) (f.object_left o) (subst (Each (λ e. place e ≡ suc o)) (f.object_front o) (w.there o));
    image_rises = λ i. rises_front stamp (events' i) (f.image_left i) (subst (Rises stamp) (f.image_front i) (w.image_rises i));
    object_rises = λ o. rises_front stamp (histories' (suc o)) (f.object_left o) (subst (Rises stamp) (f.object_front o) (w.object_rises o));
    agree = f.agree;
    fits = λ i o g g' h h' e a b. w.fits i o g (g' ++ f.image_left i) h (h' ++ f.object_left o) e (split_front (events i) (events' i) (f.image_left i) g g' e (f.image_front i) a) (split_front (histories (suc o)) (histories' (suc o)) (f.object_left o) h h' e (f.object_front o) b);
    own_fits = λ i g g' e p a. w.own_fits i g (g' ++ f.image_left i) e p (split_front (events i) (events' i) (f.image_left i) g g' e (f.image_front i) a);
  }
