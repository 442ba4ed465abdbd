-- Numbers that are repeated or brought to the top, and statuses.
use Rattle.std.proofs.Common.{◌≡◌, ℕ, zero, suc, ◌+◌, ◌<◌, ◌≤◌, ℤ, negsuc, true, false, List, [], ◌∷◌, ◌++◌, length, take, drop, refl, ap, sym, ◌∙◌, subst, arith}
use Rattle.std.specs.Prelude.{Option, Some, None}
use Rattle.std.specs.Ordering.{int_eq}
use Rattle.std.proofs.lemmas.List.{length-drop}
use Rattle.walk_theory.specs.Language.{goes_to}
use Rattle.image_acts.specs.Acts as a
use Rattle.image_acts.specs.Core.{with_values}
use Rattle.image_acts.specs.Taking.{given, taken, put_down}
use Rattle.image_acts.specs.Operate.Stack.{stack_effect}
use Rattle.image_state.specs.Kept.{Kept}
use Rattle.image_state.specs.declared.state.Acting.TheVariants as actings
use Rattle.image_state.specs.Acting.{with_core, Acts}
use Rattle.image_state.proofs.Taking.{taken_none}

-- so many numbers, and what they are when they are put down again
taken_down : (n : ℕ) (vs xs : List ℤ) → n ≤ length vs → (ys : List ℤ) × (taken n vs xs ≡ Some (ys, drop n vs)) × ((ws : List ℤ) → put_down ys ws ≡ put_down xs (take n vs ++ ws))
taken_down zero [] xs h = (xs, refl, λ ws. refl)
taken_down zero (v ∷ vs) xs h = (xs, refl, λ ws. refl)
taken_down (suc n) [] xs h = absurd (omega arith)
taken_down (suc n) (v ∷ vs) xs h = taken_down n vs (v ∷ xs) (omega arith)

taken_long : (n : ℕ) (vs xs : List ℤ) (p : List ℤ × List ℤ) → taken n vs xs ≡ Some p → length vs ≡ n + length p.1
taken_long zero vs xs p e = (let f : (xs, vs) ≡ p = cc in ap (λ q. length q.1) f ∙ omega arith)
taken_long (suc n) [] xs p e = absurd (cc)
taken_long (suc n) (v ∷ vs) xs p e = (let r = taken_long n vs (v ∷ xs) p e in omega arith)

drop_twice : (vs : List ℤ) (d n : ℕ) → drop n (drop d vs) ≡ drop (d + n) vs
drop_twice [] zero zero = refl
drop_twice [] zero (suc n) = (let e : 0 + suc n ≡ suc n = omega arith in rw e refl)
drop_twice [] (suc d) zero = (let e : suc d + 0 ≡ suc d = omega arith in rw e refl)
drop_twice [] (suc d) (suc n) = (let e : suc d + suc n ≡ suc (d + suc n) = omega arith in rw e refl)
drop_twice (v ∷ vs) zero n = (let e : 0 + n ≡ n = omega arith in rw e refl)
drop_twice (v ∷ vs) (suc d) n = (let e : suc d + n ≡ suc (d + n) = omega arith in rw e (drop_twice vs d n))

module _ (m : Kept) (d n : ℕ) where
  pub none_repeated : n ≡ 0 → Acts m (stack_effect (a.copy d n) m.core) m actings.Done
  none_repeated h = rw h (refl, refl)

  pub repeated : (e : Kept) → d + n ≤ length m.core.values → e ≡ with_core m (with_values m.core (take n (drop d m.core.values) ++ m.core.values)) → Acts m (stack_effect (a.copy d n) m.core) e actings.Done
  repeated e h g =
      let t = taken_down n (drop d m.core.values) [] (omega (arith, length-drop d m.core.values)) in
      subst (λ o. Acts m (given o (λ p. goes_to (with_values m.core (put_down p.0 m.core.values)))) e actings.Done) (sym t.1)
      (refl, g ∙ ap (λ vs. with_core m (with_values m.core vs)) (sym (t.2 m.core.values)))

  pub not_repeated : 0 < n → length m.core.values < d + n → Acts m (stack_effect (a.copy d n) m.core) m actings.Stuck
  not_repeated l h = subst (λ o. Acts m (given o (λ p. goes_to (with_values m.core (put_down p.0 m.core.values)))) m actings.Stuck) (sym (taken_none n (drop d m.core.values) [] (omega (arith, length-drop d m.core.values)))) (refl, refl)

  pub brought : (e : Kept) → d + n ≤ length m.core.values → e ≡ with_core m (with_values m.core (take n (drop d m.core.values) ++ (take d m.core.values ++ drop (d + n) m.core.values))) → Acts m (stack_effect (a.bring d n) m.core) e actings.Done
  brought e h g =
      let t = taken_down d m.core.values [] (omega arith) in
      let u = taken_down n (drop d m.core.values) [] (omega (arith, length-drop d m.core.values)) in
      let s : put_down u.0 (put_down t.0 (drop n (drop d m.core.values))) ≡ take n (drop d m.core.values) ++ (take d m.core.values ++ drop (d + n) m.core.values)
      = u.2 (put_down t.0 (drop n (drop d m.core.values))) ∙ ap (λ ws. take n (drop d m.core.values) ++ ws) (t.2 (drop n (drop d m.core.values)) ∙ ap (λ ws. take d m.core.values ++ ws) (drop_twice m.core.values d n)) in
      subst (λ o. Acts m (given o (λ p. given (taken n p.1 []) (λ q. goes_to (with_values m.core (put_down q.0 (put_down p.0 q.1)))))) e actings.Done) (sym t.1)
      (subst (λ o. Acts m (given o (λ q. goes_to (with_values m.core (put_down q.0 (put_down t.0 q.1))))) e actings.Done) (sym u.1)
      (refl, g ∙ ap (λ vs. with_core m (with_values m.core vs)) (sym s)))

  missing_of : (o : Option (List ℤ × List ℤ)) → ((p : List ℤ × List ℤ) → o ≡ Some p → taken n p.1 [] ≡ None) → Acts m (given o (λ p. given (taken n p.1 []) (λ q. goes_to (with_values m.core (put_down q.0 (put_down p.0 q.1)))))) m actings.Stuck
  missing_of None f = (refl, refl)
  missing_of (Some p) f = subst (λ o. Acts m (given o (λ q. goes_to (with_values m.core (put_down q.0 (put_down p.0 q.1))))) m actings.Stuck) (sym (f p refl)) (refl, refl)

  pub not_brought : length m.core.values < d + n → Acts m (stack_effect (a.bring d n) m.core) m actings.Stuck
  not_brought h = missing_of (taken d m.core.values []) (λ p e. taken_none n p.1 [] (let l = taken_long d m.core.values [] p e in omega arith))

-- the status of an access
module _ (m : Kept) (v : ℤ) (vs : List ℤ) where
  pub accessed_nothing : m.core.values ≡ v ∷ vs → int_eq v (negsuc 0) ≡ true → Acts m (stack_effect a.accessed m.core) m (actings.Fault 6)
  accessed_nothing h t = rw (h, t) (refl, refl)

  pub accessed_past : m.core.values ≡ v ∷ vs → int_eq v (negsuc 0) ≡ false → int_eq v (negsuc 1) ≡ true → Acts m (stack_effect a.accessed m.core) m (actings.Fault 1)
  accessed_past h f t = rw (h, f, t) (refl, refl)

  pub accessed_well : m.core.values ≡ v ∷ vs → int_eq v (negsuc 0) ≡ false → int_eq v (negsuc 1) ≡ false → Acts m (stack_effect a.accessed m.core) m actings.Done
  accessed_well h f g = rw (h, f, g) (refl, refl)

pub accessed_missing : (m : Kept) → m.core.values ≡ [] → Acts m (stack_effect a.accessed m.core) m actings.Stuck
accessed_missing m h = rw h (refl, refl)
