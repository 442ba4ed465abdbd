-- A text that grows by one item's text at each turn of a loop.
use Rattle.std.proofs.Common.{ℕ, ◌+◌, ◌≡◌, sym, ap, ◌∙◌, List, [], ◌∷◌, ◌++◌, flat_map, length, take, get_or, ◌<◌}
use Rattle.std.proofs.lemmas.List.{flat_map_more, take_more}

-- one item more
pub item_turn : {X : Type 0} (f : X → List ℕ) (old now new : List ℕ) (xs : List X) (i : ℕ) (x : X) → i < length xs → x ≡ get_or xs i x →
    now ≡ old ++ flat_map f (take i xs) → new ≡ now ++ f x → new ≡ old ++ flat_map f (take (i + 1) xs)
item_turn f old now new xs i x below is is_now is_new =
    is_new ∙ (ap (λ bs. bs ++ f x) is_now ∙ (flat_map_more f old (take i xs) x
    ∙ ap (λ ys. old ++ flat_map f ys) (ap (λ y. take i xs ++ y ∷ []) is ∙ sym (take_more xs i x below))))
