-- What the look-ups of a map by names say of the list of its names.
use Rattle.std.proofs.Common.{◌≡◌, ◌∙◌, ℕ, Bool, true, false, not, List, [], ◌∷◌, refl, sym, ap, arith}
use Rattle.std.specs.Prelude.{Vec, map, suc, ◌+◌, cond, nat_lt, length, bytes_eq, position, Some, None}
use Rattle.std.specs.List.{list_any, position_or_len}
use Rattle.std.specs.declared.alloc.Global.{Global}
use Rattle.std.specs.Bool.{Decides, one_answer}
use Rattle.std.proofs.lemmas.Slice.Eq.{bytes_eq-Decides}
use Rattle.rule_definitions.specs.Judgements.{made}
use Rattle.rule_definitions.specs.Names.{is_among}
use Rattle.scope_table.specs.Names.{place_of}

turned : (a b : List ℕ) → Decides (bytes_eq b a) (a ≡ b)
turned a b = (λ e. sym ((bytes_eq-Decides b a).0 e), λ e. (bytes_eq-Decides b a).1 (sym e))

-- two names are compared in either order
pub either_way : (a b : List ℕ) → bytes_eq a b ≡ bytes_eq b a
either_way a b = one_answer (bytes_eq a b) (bytes_eq b a) (bytes_eq-Decides a b) (turned a b)

-- a name is among those of which a search finds one
pub found_among : (n : List ℕ) (vs : List (Vec ℕ Global)) → list_any (λ v. bytes_eq n v.items) vs ≡ is_among (map (λ v. v.items) vs) n
found_among n [] = refl
found_among n (v ∷ vs) = rw (either_way n v.items, found_among n vs) refl

one_more : (k : ℕ) → 1 + k ≡ suc k
one_more k = grind (arith)

if_there : (c : Bool) (k : ℕ) → cond c (Some (1 + k)) None ≡ made suc (cond c (Some k) None)
if_there true k = ap (λ n. Some n) (one_more k)
if_there false k = refl

both_less : (k l : ℕ) → nat_lt (1 + k) (suc l) ≡ nat_lt k l
both_less k l = grind (arith)

first_less : (l : ℕ) → nat_lt 0 (suc l) ≡ true
first_less l = grind (arith)

-- a search from the front: at the first name, or behind it
from_front : (b : Bool) (k l : ℕ) → cond (nat_lt (cond (not b) (1 + k) 0) (suc l)) (Some (cond (not b) (1 + k) 0)) None ≡ cond b (Some 0) (made suc (cond (nat_lt k l) (Some k) None))
from_front true k l = ap (λ c. cond c (Some 0) None) (first_less l)
from_front false k l = ap (λ c. cond c (Some (1 + k)) None) (both_less k l) ∙ if_there (nat_lt k l) k

-- the index that a search finds is the place of the name
pub found_place : (n : List ℕ) (vs : List (Vec ℕ Global)) → position (λ v. bytes_eq n v.items) vs ≡ place_of n (map (λ v. v.items) vs)
found_place n [] = refl
found_place n (v ∷ vs) =
    from_front (bytes_eq n v.items) (position_or_len (λ w. bytes_eq n w.items) vs) (length vs)
    ∙ ap (λ b. cond b (Some 0) (made suc (position (λ w. bytes_eq n w.items) vs))) (either_way n v.items)
    ∙ ap (λ o. cond (bytes_eq v.items n) (Some 0) (made suc o)) (found_place n vs)
