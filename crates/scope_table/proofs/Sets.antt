-- Names among others.
use Rattle.std.proofs.Common.{◌≡◌, ◌∙◌, ℕ, ◌+◌, Bool, true, false, not, ◌||◌, List, [], ◌∷◌, ◌++◌, drop, refl, sym, ap}
use Rattle.std.specs.Prelude.{cond, bytes_eq}
use Rattle.std.specs.Bool.{Decides}
use Rattle.std.proofs.lemmas.Slice.Eq.{bytes_eq-Decides}
use Rattle.rule_definitions.specs.Names.{is_among}
use Rattle.scope_table.specs.Pending.{Adds}

pub or_or : (a b c : Bool) → ((a || b) || c) ≡ (a || (b || c))
or_or true b c = refl
or_or false b c = refl

or_false : (a : Bool) → (a || false) ≡ a
or_false true = refl
or_false false = refl

-- a name among two lists
pub among_both : (xs ys : List (List ℕ)) (n : List ℕ) → is_among (xs ++ ys) n ≡ (is_among xs n || is_among ys n)
among_both [] ys n = refl
among_both (x ∷ xs) ys n = ap (λ k. bytes_eq x n || k) (among_both xs ys n) ∙ sym (or_or (bytes_eq x n) (is_among xs n) (is_among ys n))

already : (xs : List (List ℕ)) (x n : List ℕ) (b : Bool) → Decides b (x ≡ n) → is_among xs x ≡ true → is_among xs n ≡ (is_among xs n || (b || false))
already xs x n true d h = ap (is_among xs) (sym (d.0 refl)) ∙ h ∙ sym (ap (λ k. k || true) (ap (is_among xs) (sym (d.0 refl)) ∙ h))
already xs x n false d h = sym (or_false (is_among xs n))

added : (xs : List (List ℕ)) (x n : List ℕ) (t : Bool) → is_among xs x ≡ t → is_among (cond (not t) (xs ++ x ∷ []) xs) n ≡ (is_among xs n || is_among (x ∷ []) n)
added xs x n true h = already xs x n (bytes_eq x n) (bytes_eq-Decides x n) h
added xs x n false h = among_both xs (x ∷ []) n

-- a name that is added unless it is there
pub adds_one : (new old : List (List ℕ)) (x : List ℕ) (b : Bool) → b ≡ not (is_among old x) → new ≡ cond b (old ++ x ∷ []) old → Adds new old (x ∷ [])
adds_one new old x b t e n = ap (λ k. is_among k n) (e ∙ ap (λ k. cond k (old ++ x ∷ []) old) t) ∙ added old x n (is_among old x) refl

-- a turn of a loop that adds the items of a list
pub turn_adds : {X : Type 0} (f : List X → List (List ℕ)) (xs : List X) (i : ℕ) (x : X) (step : List (List ℕ)) (mid new : List (List ℕ)) (end : Bool) (n : List ℕ)
    → f (x ∷ drop (i + 1) xs) ≡ step ++ f (drop (i + 1) xs) → drop i xs ≡ x ∷ drop (i + 1) xs → Adds new mid step
    → (is_among mid n || is_among (f (drop i xs)) n) ≡ end → (is_among new n || is_among (f (drop (i + 1) xs)) n) ≡ end
turn_adds f xs i x step mid new end n m d g h =
    ap (λ k. k || is_among (f (drop (i + 1) xs)) n) (g n) ∙ or_or (is_among mid n) (is_among step n) (is_among (f (drop (i + 1) xs)) n)
    ∙ ap (λ k. is_among mid n || k) (sym (ap (λ k. is_among k n) (ap f d ∙ m) ∙ among_both step (f (drop (i + 1) xs)) n)) ∙ h

pub three_sets : (start a b c p q r : List (List ℕ)) (n : List ℕ) → start ≡ [] → Adds a start p → Adds b a q → Adds c b r → is_among c n ≡ is_among (p ++ (q ++ r)) n
three_sets start a b c p q r n e f g h =
    h n ∙ ap (λ k. k || is_among r n) (g n ∙ ap (λ k. k || is_among q n) (f n ∙ ap (λ k. is_among k n || is_among p n) e))
    ∙ or_or (is_among p n) (is_among q n) (is_among r n)
    ∙ sym (among_both p (q ++ r) n ∙ ap (λ k. is_among p n || k) (among_both q r n))

pub adds_none : (old : List (List ℕ)) → Adds old old []
adds_none old n = sym (or_false (is_among old n))
