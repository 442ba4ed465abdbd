-- Turns of loops.
use Rattle.std.proofs.Common.{◌≡◌, ◌∙◌, ℕ, ◌+◌, ◌≤◌, List, [], ◌∷◌, ◌++◌, drop, length, length-drop, refl, sym, ap, arith, ℤ}
use Rattle.std.specs.Prelude.{Option, Some, None, map}
use Rattle.std.specs.Option.{option_map}
use Rattle.std.proofs.lemmas.List.{append-nil, append_assoc, map-append}
use Rattle.rule_definitions.specs.Names.{KnownBounds}
use Rattle.rule_definitions.specs.Constants.{all_bounds, with_first}

-- a turn of a loop that makes an item of each, where both are seen through a view
pub turn_seen : {X Y Z : Type 0} (f : Y → Z) (one : X → Z) (all : List X → List Z) (more : (x : X) (xs : List X) → all (x ∷ xs) ≡ one x ∷ all xs) (xs : List X) (i : ℕ) (x : X) (ys zs : List Y) (y : Y) (end : List Z)
    → drop i xs ≡ x ∷ drop (i + 1) xs → f y ≡ one x → zs ≡ ys ++ y ∷ [] → map f ys ++ all (drop i xs) ≡ end → map f zs ++ all (drop (i + 1) xs) ≡ end
turn_seen f one all more xs i x ys zs y end d e r h =
    ap (λ k. map f k ++ all (drop (i + 1) xs)) r ∙ ap (λ k. k ++ all (drop (i + 1) xs)) (map-append f ys (y ∷ []))
    ∙ ap (λ k. (map f ys ++ k ∷ []) ++ all (drop (i + 1) xs)) e
    ∙ append_assoc (map f ys) (one x ∷ []) (all (drop (i + 1) xs)) ∙ ap (λ k. map f ys ++ k) (sym (ap all d ∙ more x (drop (i + 1) xs))) ∙ h

known_more : (b : ℤ × ℤ) (ys : List (ℤ × ℤ)) (o : Option (List (ℤ × ℤ))) → option_map (λ k. (ys ++ b ∷ []) ++ k) o ≡ option_map (λ k. ys ++ k) (with_first b o)
known_more b ys None = refl
known_more b ys (Some r) = ap Some (append_assoc ys (b ∷ []) r)

-- a turn of a loop over known bounds
pub turn_known : (ds : List KnownBounds) (i : ℕ) (x : KnownBounds) (b : ℤ × ℤ) (ys zs : List (ℤ × ℤ)) (end : Option (List (ℤ × ℤ))) → drop i ds ≡ x ∷ drop (i + 1) ds → x ≡ Some b → zs ≡ ys ++ b ∷ []
    → option_map (λ k. ys ++ k) (all_bounds (drop i ds)) ≡ end → option_map (λ k. zs ++ k) (all_bounds (drop (i + 1) ds)) ≡ end
turn_known ds i x b ys zs end d e r h =
    ap (λ y. option_map (λ k. y ++ k) (all_bounds (drop (i + 1) ds))) r ∙ known_more b ys (all_bounds (drop (i + 1) ds))
    ∙ ap (λ y. option_map (λ k. ys ++ k) (all_bounds y)) (sym (d ∙ ap (λ k. k ∷ drop (i + 1) ds) e)) ∙ h

-- unknown bounds
pub turn_unknown : (ds : List KnownBounds) (i : ℕ) (x : KnownBounds) (ys : List (ℤ × ℤ)) (end : Option (List (ℤ × ℤ))) → drop i ds ≡ x ∷ drop (i + 1) ds → x ≡ None
    → option_map (λ k. ys ++ k) (all_bounds (drop i ds)) ≡ end → None ≡ end
turn_unknown ds i x ys end d e h =
    ap (λ y. option_map (λ k. ys ++ k) (all_bounds y)) (sym (d ∙ ap (λ k. k ∷ drop (i + 1) ds) e)) ∙ h

-- a turn of a loop that gives an item of each
pub turn_gives : {X Y : Type 0} (one : X → Y) (all : List X → List Y) (more : (x : X) (xs : List X) → all (x ∷ xs) ≡ one x ∷ all xs) (xs : List X) (i : ℕ) (x : X) (ys zs : List Y) (y : Y) (end : List Y)
    → drop i xs ≡ x ∷ drop (i + 1) xs → y ≡ one x → zs ≡ ys ++ y ∷ [] → ys ++ all (drop i xs) ≡ end → zs ++ all (drop (i + 1) xs) ≡ end
turn_gives one all more xs i x ys zs y end d e r h =
    ap (λ k. k ++ all (drop (i + 1) xs)) (r ∙ ap (λ k. ys ++ k ∷ []) e) ∙ append_assoc ys (one x ∷ []) (all (drop (i + 1) xs))
    ∙ ap (λ k. ys ++ k) (sym (ap all d ∙ more x (drop (i + 1) xs))) ∙ h

empty : {X : Type 0} (xs : List X) → length xs ≡ 0 → xs ≡ []
empty [] h = refl
empty (x ∷ xs) h = absurd (omega (arith, h))

-- the end of a loop over the items of a list
pub finish : {X K : Type 0} (f : List X → K → K) (none : (k : K) → f [] k ≡ k) (xs : List X) (i : ℕ) (k end : K) → length xs ≤ i → f (drop i xs) k ≡ end → k ≡ end
finish f none xs i k end h e =
    let l = length-drop i xs in
    let z : length (drop i xs) ≡ 0 = omega (arith, l, h) in
    sym (none k) ∙ ap (λ y. f y k) (sym (empty (drop i xs) z)) ∙ e
