-- Numbers beneath others, as they are taken.
use Rattle.std.proofs.Common.{◌≡◌, ℕ, zero, suc, ◌+◌, ◌<◌, ◌≤◌, ℤ, List, [], length, take, drop, refl, ap, sym, ◌∙◌, arith}
use Rattle.std.specs.Prelude.{Option, Some, None, reverse}
use Rattle.std.specs.Option.{option_map}
use Rattle.std.proofs.lemmas.List.{length-reverse, length-take, length-drop}
use Rattle.image_acts.specs.Taking.{taken}
use Rattle.image_state.proofs.Taking.{taken_are, taken_none}

abbrev numbers_of : Option (List ℤ × List ℤ) → Option (List ℤ)
numbers_of o = option_map (λ p. p.0) o

pub none_taken : (depth n : ℕ) (vs : List ℤ) → n ≡ 0 → Some [] ≡ numbers_of (taken n (drop depth vs) [])
none_taken depth n vs e = sym (ap (λ (k : ℕ). numbers_of (taken k (drop depth vs) [])) e)

pub some_enough : (depth n : ℕ) (vs : List ℤ) → depth + n ≤ length vs → n ≤ length (drop depth vs)
some_enough depth n vs h = (let l = length-drop depth vs in omega arith)

pub some_taken : (depth n : ℕ) (vs ns : List ℤ) → depth + n ≤ length vs → ns ≡ reverse (take n (drop depth vs)) → Some ns ≡ numbers_of (taken n (drop depth vs) [])
some_taken depth n vs ns h e = ap Some e ∙ sym (ap numbers_of (taken_are n (drop depth vs) (some_enough depth n vs h)))

pub too_few_taken : (depth n : ℕ) (vs : List ℤ) → (n ≡ 0 → ⊥) → length vs < depth + n → None ≡ numbers_of (taken n (drop depth vs) [])
too_few_taken depth zero vs z h = absurd (z refl)
too_few_taken depth (suc n) vs z h = (let l = length-drop depth vs in sym (ap numbers_of (taken_none (suc n) (drop depth vs) [] (omega arith))))

pub some_long : (depth n : ℕ) (vs ns : List ℤ) → depth + n ≤ length vs → ns ≡ reverse (take n (drop depth vs)) → length ns ≡ n
some_long depth n vs ns h e = (let l = length-reverse (take n (drop depth vs)) in let k = length-take n (drop depth vs) in let d = length-drop depth vs in let i = ap length e in omega arith)
