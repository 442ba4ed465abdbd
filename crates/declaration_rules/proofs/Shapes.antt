-- Breaks of lists of parts.
use Rattle.std.proofs.Common.{◌≡◌, ◌∙◌, ℕ, ◌+◌, Bool, true, false, ◌&&◌, List, [], ◌∷◌, ◌++◌, drop, refl, sym, ap}
use Rattle.std.specs.Prelude.{Option, map}
use Rattle.rule_definitions.specs.declared.broken.Broken.{Broken}
use Rattle.rule_definitions.specs.Judgements.{first_of, is_nothing}
use Rattle.scope_table.proofs.First.{first_of_both}

pub nothing_in_both : (xs ys : List Broken) → is_nothing (xs ++ ys) ≡ (is_nothing xs && is_nothing ys)
nothing_in_both [] ys = refl
nothing_in_both (x ∷ xs) ys = refl

-- a turn of a loop that notes the breaks of the items of a list
pub turn_notes : {X : Type 0} (bs : X → List Broken) (all : List X → List Broken) (more : (x : X) (xs : List X) → all (x ∷ xs) ≡ bs x ++ all xs)
    (xs : List X) (i : ℕ) (x : X) (f g end : Option Broken) → drop i xs ≡ x ∷ drop (i + 1) xs → g ≡ first_of f (bs x) → first_of f (all (drop i xs)) ≡ end → first_of g (all (drop (i + 1) xs)) ≡ end
turn_notes bs all more xs i x f g end d e h =
    ap (λ k. first_of k (all (drop (i + 1) xs))) e ∙ sym (first_of_both f (bs x) (all (drop (i + 1) xs))) ∙ ap (first_of f) (sym (ap all d ∙ more x (drop (i + 1) xs))) ∙ h

and_and : (a b c : Bool) → ((a && b) && c) ≡ (a && (b && c))
and_and true b c = refl
and_and false b c = refl

-- a turn of a loop that asks whether nothing breaks
pub turn_clean : {X : Type 0} (bs : X → List Broken) (all : List X → List Broken) (more : (x : X) (xs : List X) → all (x ∷ xs) ≡ bs x ++ all xs)
    (xs : List X) (i : ℕ) (x : X) (a b c end : Bool) → drop i xs ≡ x ∷ drop (i + 1) xs → b ≡ is_nothing (bs x) → c ≡ (a && b) → (a && is_nothing (all (drop i xs))) ≡ end → (c && is_nothing (all (drop (i + 1) xs))) ≡ end
turn_clean bs all more xs i x a b c end d e r h =
    ap (λ k. k && is_nothing (all (drop (i + 1) xs))) (r ∙ ap (λ k. a && k) e) ∙ and_and a (is_nothing (bs x)) (is_nothing (all (drop (i + 1) xs)))
    ∙ ap (λ k. a && k) (sym (ap is_nothing (ap all d ∙ more x (drop (i + 1) xs)) ∙ nothing_in_both (bs x) (all (drop (i + 1) xs)))) ∙ h

append_one : {Y : Type 0} (ys : List Y) (y : Y) (zs : List Y) → (ys ++ y ∷ []) ++ zs ≡ ys ++ (y ∷ zs)
append_one [] y zs = refl
append_one (x ∷ ys) y zs = ap (λ k. x ∷ k) (append_one ys y zs)

-- a turn of a loop that makes an item of each
pub turn_made : {X Y : Type 0} (see : X → Y) (xs : List X) (i : ℕ) (x : X) (ys zs : List Y) (y : Y) (end : List Y) → drop i xs ≡ x ∷ drop (i + 1) xs → y ≡ see x → zs ≡ ys ++ y ∷ []
    → ys ++ map see (drop i xs) ≡ end → zs ++ map see (drop (i + 1) xs) ≡ end
turn_made see xs i x ys zs y end d e r h =
    ap (λ k. k ++ map see (drop (i + 1) xs)) (r ∙ ap (λ k. ys ++ k ∷ []) e) ∙ append_one ys (see x) (map see (drop (i + 1) xs)) ∙ ap (λ k. ys ++ map see k) (sym d) ∙ h

-- what is noted behind what was noted
pub noted_behind : (o o' o'' : Option Broken) (xs ys : List Broken) → o' ≡ first_of o xs → o'' ≡ first_of o' ys → o'' ≡ first_of o (xs ++ ys)
noted_behind o o' o'' xs ys e h = h ∙ ap (λ k. first_of k ys) e ∙ sym (first_of_both o xs ys)

pub noted_six : (o o1 o2 o3 o4 o5 o6 : Option Broken) (a b c d e f : List Broken) → o1 ≡ first_of o a → o2 ≡ first_of o1 b → o3 ≡ first_of o2 c → o4 ≡ first_of o3 d → o5 ≡ first_of o4 e → o6 ≡ first_of o5 f
    → o6 ≡ first_of o (a ++ (b ++ (c ++ (d ++ (e ++ f)))))
noted_six o o1 o2 o3 o4 o5 o6 a b c d e f p1 p2 p3 p4 p5 p6 =
    noted_behind o o1 o6 a (b ++ (c ++ (d ++ (e ++ f)))) p1
    (noted_behind o1 o2 o6 b (c ++ (d ++ (e ++ f))) p2
    (noted_behind o2 o3 o6 c (d ++ (e ++ f)) p3
    (noted_behind o3 o4 o6 d (e ++ f) p4
    (noted_behind o4 o5 o6 e f p5 p6))))
