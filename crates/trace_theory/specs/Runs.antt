-- Each image's list of entries and each object's history as one run, and the trace of that run.
use Rattle.std.specs.Prelude.{ℕ, zero, suc, ◌<◌, ◌≡◌, max, List, [], ◌∷◌, ◌++◌}
use Rattle.trace_theory.specs.Entries.{of, Each, last_or, Rises}

-- the stamp of a place's last entry: at an image's own place none counts, since the image's list has them all
abbrev pub place_last : {E : Type 0} → (E → ℕ) → ℕ → List E → ℕ
place_last stamp zero h = 0
place_last stamp (suc o) h = last_or stamp 0 h

-- The stamp that is due to an entry: at its image's own place the one that `own` makes of the image's last stamp, at an
-- object one more than the greater of the last stamps of its image and of that object.
abbrev pub due : {E : Type 0} → (E → ℕ → ℕ) → ℕ → E → ℕ → ℕ → ℕ
due own zero e mine there = own e mine
due own (suc o) e mine there = suc (max mine there)

-- The images' lists and the objects' histories are of one run: stamps rise in each list, an image and an object have
-- the same entries of one another in the same order, and each stamp is the one that is due after those before it in its
-- lists.
pub record Woven {E : Type 0} (image place stamp : E → ℕ) (own : E → ℕ → ℕ) (events histories : ℕ → List E) : Type 0 where
  pub mine : (i : ℕ) → Each (λ e. image e ≡ i) (events i)
  pub there : (o : ℕ) → Each (λ e. place e ≡ suc o) (histories (suc o))
  pub image_rises : (i : ℕ) → Rises stamp (events i)
  pub object_rises : (o : ℕ) → Rises stamp (histories (suc o))
  pub agree : (i o : ℕ) → of image i (histories (suc o)) ≡ of place (suc o) (events i)
  pub fits : (i o : ℕ) (g g' h h' : List E) (e : E) → events i ≡ g ++ e ∷ g' → histories (suc o) ≡ h ++ e ∷ h' → stamp e ≡ suc (max (last_or stamp 0 g) (last_or stamp 0 h))
  pub own_fits : (i : ℕ) (g g' : List E) (e : E) → place e ≡ 0 → events i ≡ g ++ e ∷ g' → stamp e ≡ own e (last_or stamp 0 g)

-- The new lists are the old ones with one more entry, at the end of its image's list and of its object's history, with
-- the stamp that is due to it; it is above the image's last one, also where `own` says less.
pub record Adds {E : Type 0} (image place stamp : E → ℕ) (own : E → ℕ → ℕ) (events histories events' histories' : ℕ → List E) (e : E) : Type 0 where
  pub image_more : events' (image e) ≡ events (image e) ++ e ∷ []
  pub image_same : (i : ℕ) → (image e ≡ i → ⊥) → events' i ≡ events i
  pub object_more : (o : ℕ) → place e ≡ suc o → histories' (suc o) ≡ histories (suc o) ++ e ∷ []
  pub object_same : (o : ℕ) → (place e ≡ suc o → ⊥) → histories' (suc o) ≡ histories (suc o)
  pub stamped : stamp e ≡ due own (place e) e (last_or stamp 0 (events (image e))) (place_last stamp (place e) (histories (place e)))
  pub above : last_or stamp 0 (events (image e)) < stamp e

-- each stamp of a trace is the one that is due after the last ones of its image and of its object before it
abbrev pub IsStamped : {E : Type 0} → (E → ℕ) → (E → ℕ) → (E → ℕ) → (E → ℕ → ℕ) → List E → Type 0
IsStamped {E} image place stamp own t =
    (before after : List E) (e : E) → t ≡ before ++ e ∷ after
    → stamp e ≡ due own (place e) e (last_or stamp 0 (of image (image e) before)) (place_last stamp (place e) (of place (place e) before))

-- what is known of the trace of lists that are of one run
pub record TraceOf {E : Type 0} (image place stamp : E → ℕ) (own : E → ℕ → ℕ) (events histories : ℕ → List E) (t : List E) : Type 0 where
  pub images : (i : ℕ) → of image i t ≡ events i
  pub objects : (o : ℕ) → of place (suc o) t ≡ histories (suc o)
  pub stamped : IsStamped image place stamp own t

-- The new lists are fronts of the old ones, and an image and an object have the same entries of one another.
pub record Front {E : Type 0} (image place : E → ℕ) (events histories events' histories' : ℕ → List E) : Type 0 where
  pub image_left : ℕ → List E
  pub object_left : ℕ → List E
  pub image_front : (i : ℕ) → events i ≡ events' i ++ image_left i
  pub object_front : (o : ℕ) → histories (suc o) ≡ histories' (suc o) ++ object_left o
  pub agree : (i o : ℕ) → of image i (histories' (suc o)) ≡ of place (suc o) (events' i)
