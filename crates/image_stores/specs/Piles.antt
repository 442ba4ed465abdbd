-- Piles of items, one on top of the other. Of a pile the last item comes first.
use Rattle.std.specs.Prelude.{ℕ, ◌+◌, List, [], ◌∷◌, ◌++◌, take, drop, length, Option, Some, None}
use Rattle.image_stores.specs.declared.piles.Base.{Base}

-- what a pile is for, and its items
pub record Pile (H T : Type 0) : Type 0 where
  pub head : H
  pub items : List T

-- piles, the newest first; how many there is room for, and how many items
pub record Piled (H T : Type 0) : Type 0 where
  pub piles : List (Pile H T)
  pub most : ℕ
  pub size : ℕ

abbrev pub pile : {H T : Type 0} → H → List T → Pile H T
pile h xs = record { head = h; items = xs }

-- how many items the piles have
abbrev pub items_in : {H T : Type 0} → List (Pile H T) → ℕ
items_in [] = 0
items_in (p ∷ ps) = length p.items + items_in ps

-- the items of the newest pile
abbrev pub newest : {H T : Type 0} → List (Pile H T) → List T
newest [] = []
newest (p ∷ ps) = p.items

abbrev pub head_of : {H T : Type 0} → List (Pile H T) → Option H
head_of [] = None
head_of (p ∷ ps) = Some p.head

-- the last item of the newest pile, where it has one
abbrev pub last_of : {H T : Type 0} → List (Pile H T) → Option T
last_of ps = elim (newest ps) [ [] ↦ None | x ∷ xs ↦ Some x ]

-- with one item more on the newest pile, with another one as the last there, or with another head; the newest pile on
-- top of the one beneath, whose head stays
abbrev pub heaped : {H T : Type 0} → T → List (Pile H T) → List (Pile H T)
heaped x [] = []
heaped x (p ∷ ps) = pile p.head (x ∷ p.items) ∷ ps

abbrev pub with_last : {H T : Type 0} → T → List (Pile H T) → List (Pile H T)
with_last x [] = []
with_last x (p ∷ ps) = pile p.head (x ∷ drop 1 p.items) ∷ ps

abbrev pub headed : {H T : Type 0} → H → List (Pile H T) → List (Pile H T)
headed h [] = []
headed h (p ∷ ps) = pile h p.items ∷ ps

abbrev pub merged : {H T : Type 0} → List (Pile H T) → List (Pile H T)
merged [] = []
merged (p ∷ []) = p ∷ []
merged (p ∷ q ∷ ps) = pile q.head (p.items ++ q.items) ∷ ps

-- the piles that stand one on top of the other, the newest first, in a row of items whose last one comes first
abbrev pub piles_of : {H T : Type 0} → List (Base H) → List T → List (Pile H T)
piles_of [] xs = []
piles_of (b ∷ bs) xs = pile b.head (take b.count xs) ∷ piles_of bs (drop b.count xs)

abbrev pub counts : {H : Type 0} → List (Base H) → ℕ
counts [] = 0
counts (b ∷ bs) = b.count + counts bs
