-- The memories' gates begin to close.
use Rattle.std.proofs.Common.{◌≡◌, ℕ, map, get_or, drop, take, refl, ap, ◌∙◌, List, [], ◌∷◌, ◌++◌}
use Rattle.turn_gate.specs.Known.{Known}
use Rattle.turn_gate.specs.Passes.{Opened}
use Rattle.image_gate.specs.Fabrics.{desk_of}

pub one_more : {A : Type 0} → (xs : List A) (x : A) (ys : List A) → (xs ++ x ∷ []) ++ ys ≡ xs ++ x ∷ ys
one_more [] x ys = refl
one_more (z ∷ zs) x ys = ap (λ l. z ∷ l) (one_more zs x ys)

module _ {O : Type 0} (images : List ℕ) (gate : Opened O) (rest rest' : List (Opened O)) (desks : List Known) (next : rest' ≡ gate ∷ rest) (are : desks ≡ map (desk_of images) rest') where
  pub desk_next : desks ≡ desk_of images gate ∷ map (desk_of images) rest
  desk_next = are ∙ ap (map (desk_of images)) next

module _ {O : Type 0} (images : List ℕ) (gate : Opened O) (rest rest' : List (Opened O)) (desks desks' : List Known) (desk : Known) (next : rest' ≡ gate ∷ rest) (are : desks ≡ map (desk_of images) rest')
    (value : desk ≡ get_or desks 0 desk) (items : desks' ≡ take 0 desks ++ drop 1 desks) where
  -- the first pass of the next gate is taken
  pub closes_next : (desk ≡ desk_of images gate) × (desks' ≡ map (desk_of images) rest)
  closes_next =
      let d = desk_next images gate rest rest' desks next are in
      (value ∙ ap (λ (l : List Known). get_or l 0 desk) d, items ∙ ap (λ (l : List Known). take 0 l ++ drop 1 l) d)
