-- Numbers that are put down one after another.
use Rattle.std.proofs.Common.{◌≡◌, ℕ, zero, suc, ◌+◌, ◌<◌, ℤ, pos, List, [], ◌∷◌, ◌++◌, length, get_or, take, replicate, refl, ap, ◌∙◌, arith}
use Rattle.std.specs.Prelude.{map, reverse}
use Rattle.std.proofs.lemmas.List.{reverse-append, reverse-reverse, map_push}
use Rattle.std.proofs.Math.Seq.{take-suc}
use Rattle.caf_base.specs.declared.value.Value.{Value}
use Rattle.caf_base.specs.Arithmetic.{number_of}
use Rattle.image_acts.specs.Teams.{counted_from}

counted_on : (s n : ℕ) → counted_from s (suc n) ≡ counted_from s n ++ pos (s + n) ∷ []
counted_on s zero = (let e : s ≡ s + 0 = omega arith in ap (λ k. pos k ∷ []) e)
counted_on s (suc n) = (let e : s + 1 + n ≡ s + suc n = omega arith in ap (λ xs. pos s ∷ xs) (counted_on (s + 1) n ∙ ap (λ k. counted_from (s + 1) n ++ pos k ∷ []) e))

pub counted_long : (s n : ℕ) → length (counted_from s n) ≡ n
counted_long s zero = refl
counted_long s (suc n) = ap suc (counted_long (s + 1) n)

turned_on : (xs : List ℤ) (v : ℤ) → reverse (xs ++ v ∷ []) ≡ v ∷ reverse xs
turned_on xs v = reverse-append xs (v ∷ [])

pub counted_more : (n : ℕ) → reverse (counted_from 1 (n + 1)) ≡ pos (n + 1) ∷ reverse (counted_from 1 n)
counted_more n =
    let e : n + 1 ≡ suc n = omega arith in
    let f : 1 + n ≡ n + 1 = omega arith in
    ap (λ k. reverse (counted_from 1 k)) e ∙ ap reverse (counted_on 1 n) ∙ turned_on (counted_from 1 n) (pos (1 + n)) ∙ ap (λ k. pos k ∷ reverse (counted_from 1 n)) f

pub numbers_more : (ns : List ℕ) (i d : ℕ) → i < length ns → reverse (map (λ n. pos n) (take (i + 1) ns)) ≡ pos (get_or ns i d) ∷ reverse (map (λ n. pos n) (take i ns))
numbers_more ns i d h =
    let e : i + 1 ≡ suc i = omega arith in
    ap (λ k. reverse (map (λ n. pos n) (take k ns))) e ∙ ap (λ xs. reverse (map (λ n. pos n) xs)) (take-suc ns i d h)
    ∙ ap reverse (map_push (λ n. pos n) (take i ns) (get_or ns i d)) ∙ turned_on (map (λ n. pos n) (take i ns)) (pos (get_or ns i d))

-- elements, and the numbers of values
pub elements_more : (xs : List ℤ) (i : ℕ) (d : ℤ) → i < length xs → reverse (take (i + 1) xs) ≡ get_or xs i d ∷ reverse (take i xs)
elements_more xs i d h =
    let e : i + 1 ≡ suc i = omega arith in
    ap (λ k. reverse (take k xs)) e ∙ ap reverse (take-suc xs i d h) ∙ turned_on (take i xs) (get_or xs i d)

pub values_more : (vs : List Value) (i : ℕ) (d : Value) → i < length vs → reverse (map number_of (take (i + 1) vs)) ≡ number_of (get_or vs i d) ∷ reverse (map number_of (take i vs))
values_more vs i d h =
    let e : i + 1 ≡ suc i = omega arith in
    ap (λ k. reverse (map number_of (take k vs))) e ∙ ap (λ xs. reverse (map number_of xs)) (take-suc vs i d h)
    ∙ ap reverse (map_push number_of (take i vs) (get_or vs i d)) ∙ turned_on (map number_of (take i vs)) (number_of (get_or vs i d))

pub turned_back : (xs : List ℤ) → reverse (reverse xs) ≡ xs
turned_back xs = reverse-reverse xs

one_behind : (n : ℕ) (v : ℤ) → replicate n v ++ v ∷ [] ≡ v ∷ replicate n v
one_behind zero v = refl
one_behind (suc n) v = ap (λ xs. v ∷ xs) (one_behind n v)

pub zeros_turned : (n : ℕ) → reverse (replicate n (pos 0)) ≡ replicate n (pos 0)
zeros_turned zero = refl
zeros_turned (suc n) = reverse-append (pos 0 ∷ []) (replicate n (pos 0)) ∙ ap (λ xs. xs ++ pos 0 ∷ []) (zeros_turned n) ∙ one_behind n (pos 0)
