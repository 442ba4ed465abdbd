-- What an image's events have to do with what it has seen of each object, and with the objects' histories at the end.
use Rattle.std.specs.Prelude.{ℕ, suc, ◌<◌, ◌≤◌, ◌≡◌, max, List, [], ◌∷◌, ◌++◌}
use Rattle.trace_theory.specs.Entries.{of, Each, Rises, last_or}

module _ {E : Type 0} (image place stamp : E → ℕ) where
  -- an image's events by themselves, in a run of so many objects: all are the image's and at objects of the run or its
  -- own, stamps rise, and an own step's stamp is one more than the last
  pub record OfImage (i count : ℕ) (events : List E) : Type 0 where
    pub each : Each (λ e. image e ≡ i) events
    pub rises : Rises stamp events
    pub places : Each (λ e. place e ≤ count) events
    pub own_fits : (g g' : List E) (e : E) → place e ≡ 0 → events ≡ g ++ e ∷ g' → stamp e ≡ suc (last_or stamp 0 g)

  -- an image's events, and what it has seen of the object o: its own entries there, in its order, each with the stamp
  -- that is due after those before it in both lists
  pub record Linked (i o : ℕ) (events seen own : List E) : Type 0 where
    pub agree : own ≡ of place (suc o) events
    pub mine : of image i seen ≡ own
    pub fits : (g g' h h' : List E) (e : E) → events ≡ g ++ e ∷ g' → seen ≡ h ++ e ∷ h' → stamp e ≡ suc (max (last_or stamp 0 g) (last_or stamp 0 h))

  -- an object's history at the end, and one image: what it has seen is a beginning of the history, and its entries
  -- there are its own
  pub record Closed (i : ℕ) (history seen own : List E) : Type 0 where
    pub longer : (rest : List E) × (history ≡ seen ++ rest)
    pub mine : of image i history ≡ own

  -- what an image has seen of an object, with both
  pub record HasSeen (i o : ℕ) (events history : List E) : Type 0 where
    pub seen : List E
    pub own : List E
    pub linked : Linked i o events seen own
    pub closed : Closed i history seen own

  -- all images and all objects of a run at its end
  pub record AllClosed (count : ℕ) (events histories : ℕ → List E) : Type 0 where
    pub images : (i : ℕ) → OfImage i count (events i)
    pub rises : (o : ℕ) → Rises stamp (histories (suc o))
    pub seen : (i o : ℕ) → o < count → HasSeen i o (events i) (histories (suc o))
    pub none_else : (o : ℕ) → count ≤ o → histories (suc o) ≡ []
