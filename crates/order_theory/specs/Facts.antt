-- What must be known of a trace so that the laws hold of it.
use Rattle.std.specs.Prelude.{ℕ, ◌≤◌, ◌≡◌, ◌⊎◌, Bool, true, false, nat_eq, List, [], ◌∷◌, ◌++◌, length}
use Rattle.std.specs.List.{filter}
use Rattle.order_theory.specs.Order.{Within, segment_of}
use Rattle.order_theory.specs.Races.{Cell, Touching, is_access}
use Rattle.order_theory.specs.Acts.{View, entries, pausing, completing}

-- an access that touches a cell
abbrev pub AccessesCell : {E : Type 0} → Touching E → List E → E → Type 0
AccessesCell a g e = (c : Cell) × Within c (a.cells g e) × (is_access (a.class_of e) ≡ true)

-- An image that paused acts no more in that segment, and an image that an entry speaks of acts no more at all.
pub record Pauses {E : Type 0} (v : View E) (acts : List E → E → Type 0) (t : List E) : Type 0 where
  pub pauses :
      (g h g' h' : List E) (x f : E) → t ≡ g ++ x ∷ h → t ≡ g' ++ f ∷ h' → pausing (v.act x) ≡ true → acts g' f
      → segment_of (entries v) g x ≡ segment_of (entries v) g' f → length g' ≤ length g
  pub silent :
      (g h g' h' : List E) (x f : E) → t ≡ g ++ x ∷ h → t ≡ g' ++ f ∷ h' → Within (v.image f) (v.speaks g x) → acts g' f
      → length g' ≤ length g

-- one image's entries
abbrev pub own_list : {E : Type 0} → View E → ℕ → List E → List E
own_list v i es = filter (λ e. nat_eq (v.image e) i) es

module _ {E : Type 0} (v : View E) (acts : E → Bool) where
  -- none of these entries acts
  abbrev pub NoneActs : List E → Type 0
  NoneActs [] = Unit {0}
  NoneActs (e ∷ es) = (acts e ≡ false) × NoneActs es

  -- what follows a pause in its image's list: nothing, or first an entry that completes the segment, or nothing that
  -- acts
  abbrev pub Settles : List E → Type 0
  Settles [] = Unit {0}
  Settles (e ∷ es) = ((completing (v.act e) ≡ true) × (acts e ≡ false)) ⊎ NoneActs (e ∷ es)

  -- What each image's own list says of pauses and failures (11.6.2, 5.3.6). `fails` are the entries by which an image
  -- fails.
  pub record OwnFacts (fails : E → Bool) (t : List E) : Type 0 where
    pub settles : (g h : List E) (x : E) → t ≡ g ++ x ∷ h → pausing (v.act x) ≡ true → Settles (own_list v (v.image x) h)
    pub failed_quiet : (g h : List E) (x : E) → t ≡ g ++ x ∷ h → fails x ≡ true → NoneActs (own_list v (v.image x) h)
    pub spoken_failed :
        (g h : List E) (x : E) (i : ℕ) → t ≡ g ++ x ∷ h → Within i (v.speaks g x)
        → (b : List E) × (f : E) × (r : List E) × (g ≡ b ++ f ∷ r) × (v.image f ≡ i) × (fails f ≡ true)
