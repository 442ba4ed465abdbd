-- Lists of entries. An entry is an event as all images see it: `image` tells whose it is, `place` where it was made
-- (0 is the image's own place, n + 1 is object n) and `stamp` its number in the order of the run.
use Rattle.std.specs.Prelude.{ℕ, ◌<◌, ◌≤◌, ◌≡◌, nat_eq, List, [], ◌∷◌, ◌⊎◌}
use Rattle.std.specs.List.{filter}

-- the entries whose key is i: with `image` those of an image, with `place` those of an object
abbrev pub of : {E : Type 0} → (E → ℕ) → ℕ → List E → List E
of key i es = filter (λ e. nat_eq (key e) i) es

-- what is true of each entry
abbrev pub Each : {E : Type 0} → (E → Type 0) → List E → Type 0
Each P [] = Unit {0}
Each P (e ∷ es) = P e × Each P es

-- the stamp of the last entry, n where there is none
abbrev pub last_or : {E : Type 0} → (E → ℕ) → ℕ → List E → ℕ
last_or stamp n [] = n
last_or stamp n (e ∷ es) = last_or stamp (stamp e) es

-- each stamp is greater than n
abbrev pub Above : {E : Type 0} → (E → ℕ) → ℕ → List E → Type 0
Above stamp n [] = Unit {0}
Above stamp n (e ∷ es) = (n < stamp e) × Above stamp n es

-- each later entry has a greater stamp
abbrev pub Rises : {E : Type 0} → (E → ℕ) → List E → Type 0
Rises stamp [] = Unit {0}
Rises stamp (e ∷ es) = Above stamp (stamp e) es × Rises stamp es

-- no stamp is less than n
abbrev pub NoneBelow : {E : Type 0} → (E → ℕ) → ℕ → List E → Type 0
NoneBelow stamp n [] = Unit {0}
NoneBelow stamp n (e ∷ es) = (n ≤ stamp e) × NoneBelow stamp n es

-- no later entry has a smaller stamp
abbrev pub NeverFalls : {E : Type 0} → (E → ℕ) → List E → Type 0
NeverFalls stamp [] = Unit {0}
NeverFalls stamp (e ∷ es) = NoneBelow stamp (stamp e) es × NeverFalls stamp es

-- e is before f in a trace: by stamp, and where the stamps are the same by image
abbrev pub Earlier : {E : Type 0} → (E → ℕ) → (E → ℕ) → E → E → Type 0
Earlier image stamp e f = (stamp e < stamp f) ⊎ ((stamp e ≡ stamp f) × (image e < image f))

-- e is before each of these entries
abbrev pub AllLater : {E : Type 0} → (E → ℕ) → (E → ℕ) → E → List E → Type 0
AllLater image stamp e [] = Unit {0}
AllLater image stamp e (f ∷ fs) = Earlier image stamp e f × AllLater image stamp e fs

-- the order of a trace: each entry is before all that follow it
abbrev pub IsTraceOrder : {E : Type 0} → (E → ℕ) → (E → ℕ) → List E → Type 0
IsTraceOrder image stamp [] = Unit {0}
IsTraceOrder image stamp (e ∷ es) = AllLater image stamp e es × IsTraceOrder image stamp es
