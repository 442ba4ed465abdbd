-- What is made of parts that were judged two by two.
use Rattle.std.proofs.Common.{◌≡◌, ◌∙◌, Bool, true, false, refl, ap}
use Rattle.std.specs.Prelude.{Option, Some, None, cond}
use Rattle.std.specs.Option.{option_map}
use Rattle.rule_definitions.specs.Judgements.{both, three}

-- two parts, each seen through a view
pub two_seen : {A B S T R : Type 0} (f : S → T → R) (sa : A → S) (sb : B → T) (x : Option A) (y : Option B)
    → option_map (λ (p : A × B). f (sa p.0) (sb p.1)) (both (λ a b. (a, b)) x y) ≡ both f (option_map sa x) (option_map sb y)
two_seen f sa sb None y = refl
two_seen f sa sb (Some x) None = refl
two_seen f sa sb (Some x) (Some y) = refl

-- three parts, of which the last two are a pair
pub three_seen : {A B C S T U R : Type 0} (f : S → T → U → R) (sa : A → S) (sb : B → T) (sc : C → U) (x : Option A) (y : Option B) (z : Option C)
    → option_map (λ (p : A × (B × C)). f (sa p.0) (sb p.1.0) (sc p.1.1)) (both (λ a b. (a, b)) x (both (λ a b. (a, b)) y z)) ≡ three f (option_map sa x) (option_map sb y) (option_map sc z)
three_seen f sa sb sc None y z = refl
three_seen f sa sb sc (Some x) None z = refl
three_seen f sa sb sc (Some x) (Some y) None = refl
three_seen f sa sb sc (Some x) (Some y) (Some z) = refl

-- four parts: such a pair of three, and the last
pub four_seen : {A B C D S T U V R : Type 0} (f : S → T → U → V → R) (sa : A → S) (sb : B → T) (sc : C → U) (sd : D → V) (x : Option A) (y : Option B) (z : Option C) (w : Option D)
    → option_map (λ (p : (A × (B × C)) × D). f (sa p.0.0) (sb p.0.1.0) (sc p.0.1.1) (sd p.1)) (both (λ a b. (a, b)) (both (λ a b. (a, b)) x (both (λ a b. (a, b)) y z)) w)
    ≡ both (λ g v. g v) (three f (option_map sa x) (option_map sb y) (option_map sc z)) (option_map sd w)
four_seen f sa sb sc sd None y z w = refl
four_seen f sa sb sc sd (Some x) None z w = refl
four_seen f sa sb sc sd (Some x) (Some y) None w = refl
four_seen f sa sb sc sd (Some x) (Some y) (Some z) None = refl
four_seen f sa sb sc sd (Some x) (Some y) (Some z) (Some w) = refl

-- two parts that were judged and joined
pub two_found : {A B S T R : Type 0} (f : S → T → R) (sa : A → S) (sb : B → T) (p : Option (A × B)) (x : Option A) (y : Option B) (s : Option S) (t : Option T) (o : Option R)
    → o ≡ option_map (λ (p : A × B). f (sa p.0) (sb p.1)) p → p ≡ both (λ a b. (a, b)) x y → option_map sa x ≡ s → option_map sb y ≡ t → o ≡ both f s t
two_found f sa sb p x y s t o made joined ex ey =
    made ∙ ap (option_map (λ p. f (sa p.0) (sb p.1))) joined ∙ two_seen f sa sb x y ∙ ap (λ m. both f m (option_map sb y)) ex ∙ ap (both f s) ey

-- four parts that were judged and joined: the second and the third, the first with these, these with the last
pub four_found : {A B C D S T U V R : Type 0} (f : S → T → U → V → R) (sa : A → S) (sb : B → T) (sc : C → U) (sd : D → V)
    (p : Option ((A × (B × C)) × D)) (q : Option (A × (B × C))) (r : Option (B × C)) (x : Option A) (y : Option B) (z : Option C) (w : Option D) (s : Option S) (t : Option T) (u : Option U) (v : Option V) (o : Option R)
    → o ≡ option_map (λ (p : (A × (B × C)) × D). f (sa p.0.0) (sb p.0.1.0) (sc p.0.1.1) (sd p.1)) p → p ≡ both (λ a b. (a, b)) q w → q ≡ both (λ a b. (a, b)) x r → r ≡ both (λ a b. (a, b)) y z
    → option_map sa x ≡ s → option_map sb y ≡ t → option_map sc z ≡ u → option_map sd w ≡ v → o ≡ both (λ g k. g k) (three f s t u) v
four_found f sa sb sc sd p q r x y z w s t u v o made whole start inner ex ey ez ew =
    made
    ∙ ap (option_map (λ p. f (sa p.0.0) (sb p.0.1.0) (sc p.0.1.1) (sd p.1))) (whole ∙ ap (λ m. both (λ a b. (a, b)) m w) (start ∙ ap (both (λ a b. (a, b)) x) inner))
    ∙ four_seen f sa sb sc sd x y z w
    ∙ ap (λ m. both (λ g k. g k) (three f m (option_map sb y) (option_map sc z)) (option_map sd w)) ex
    ∙ ap (λ m. both (λ g k. g k) (three f s m (option_map sc z)) (option_map sd w)) ey
    ∙ ap (λ m. both (λ g k. g k) (three f s t m) (option_map sd w)) ez
    ∙ ap (both (λ g k. g k) (three f s t u)) ew

-- the meaning of a part that may break a rule besides
pub ruled_seen : {A B : Type 0} (f : A → B) (b : Bool) (m : Option A) → option_map f (cond b m None) ≡ cond b (option_map f m) None
ruled_seen f true m = refl
ruled_seen f false m = refl

pub ruleset seen_pairs = (two_seen, three_seen, four_seen)
