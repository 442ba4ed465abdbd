-- Less is left after each step and each ask.
use Rattle.std.proofs.Common.{◌≡◌, ℕ, zero, suc, ◌+◌, ◌-◌, ◌*◌, ◌<◌, ◌≤◌, ◌⊎◌, inl, inr, false, nat_lt, List, [], ◌∷◌, length, refl, ap, sym, ◌∙◌, subst, arith}
use Rattle.std.proofs.lemmas.Bool.{cases_Bool}
use Rattle.std.proofs.lemmas.Option.{slice_get_within}
use Rattle.std.specs.Prelude.{Option, Some, None, slice_get}
use Rattle.trace_theory.specs.Machines.{Move, goes, asks, over, Falls}
use Rattle.walk_theory.specs.Language.{Effect, goes_to, faults, asking, ends_with, stuck, Tested, no_value, holds, fails, Language, acted, by_test}
use Rattle.walk_theory.specs.Code.{Instr, does_act, count_one, jump, jump_if, jump_unless, skip, skip_unless, call, go_back, Line, on, State, at_place, does, returned, fetched, code_step}
use Rattle.walk_theory.specs.Good.{counts, IsGood, ways, ahead, power, rest, IsShallow}
use Rattle.std.proofs.Math.Nat.{mul-le-mul_right, mul_comm, mul_assoc, suc-mul, mul-lt-mul_of_pos_right}
use Rattle.walk_theory.proofs.Numbers.{power_pos, on_less, some_left}
use Rattle.walk_theory.proofs.Good.{code_falls}
use Rattle.code_heights.proofs.Heights.{nothing_behind}
use Rattle.code_heights.specs.Left.{unless_over, number, left, LeavesLess}

-- digits are below the base
ahead_below : (size p : ℕ) → ahead size p < size + 2
ahead_below size p = omega arith

digit_below : (b w a p : ℕ) → suc w ≤ p → a < b → w * b + a < p * b
digit_below b w a p h l = let x = mul-le-mul_right b h in let y = suc-mul w b in let wb = w * b in omega arith

ways_below : (size : ℕ) (ps : List ℕ) → ways size ps < power (size + 2) (length ps)
ways_below size [] = omega arith
ways_below size (p ∷ ps) =
    let h = ways_below size ps in
    let d = digit_below (size + 2) (ways size ps) (ahead size p) (power (size + 2) (length ps)) (omega arith) (ahead_below size p) in
    let c : power (size + 2) (length ps) * (size + 2) ≡ (size + 2) * power (size + 2) (length ps) = mul_comm (power (size + 2) (length ps)) (size + 2) in
    omega arith

power_add : (b m n : ℕ) → power b m * power b n ≡ power b (m + n)
power_add b zero n = (let e : n ≡ 0 + n = omega arith in let o : 1 * power b n ≡ power b n = omega arith in o ∙ ap (power b) e)
power_add b (suc m) n =
    let e : suc m + n ≡ suc (m + n) = omega arith in
    mul_assoc b (power b m) (power b n) ∙ ap (λ x. b * x) (power_add b m n) ∙ ap (power b) (sym e)

suc_times : (a b : ℕ) → suc a * b ≡ a * b + b
suc_times a b = suc-mul a b

module _ {A C Q R : Type 0} (L : Language A C Q R) (code : List (Line A)) (limit deepest : ℕ) (frames : (c : C) → L.frames c < deepest) (good : IsGood code) where
  abbrev most : ℕ
  most = power (length code + 2) (suc deepest)

  rest_below : (d : State C) → IsShallow deepest d → rest code deepest d < most
  rest_below d s = elim (cases_Bool (counts (slice_get code d.at))) [
    | inl t ↦ rw t (power_pos (length code + 2) (suc deepest) (omega arith))
    | inr f ↦ rw f (
        let w = ways_below (length code) (d.at ∷ d.returns) in
        let p = power_pos (length code + 2) (deepest - length d.returns) (omega arith) in
        let x = mul-lt-mul_of_pos_right w p in
        let e : suc (length d.returns) + (deepest - length d.returns) ≡ suc deepest = omega arith in
        let y = power_add (length code + 2) (suc (length d.returns)) (deepest - length d.returns) ∙ ap (power (length code + 2)) e in
        omega arith)
  ]

  -- by the counts or by what is left before the next one, the number falls
  number_falls : (d e : State C) → IsShallow deepest e → ((e.count ≡ d.count) × (rest code deepest e < rest code deepest d)) ⊎ ((e.count ≡ d.count + 1) × (d.count < limit)) → number {R = R} L code limit deepest e < number {R = R} L code limit deepest d
  number_falls d e s (inl h) = (let x = h.1 in let y : (limit - e.count) * most ≡ (limit - d.count) * most = ap (λ n. (limit - n) * most) h.0 in omega arith)
  number_falls d e s (inr h) =
      let r = rest_below e s in
      let x = h.0 in
      let y = h.1 in
      let k : limit - d.count ≡ suc (limit - e.count) = omega arith in
      let z : (limit - d.count) * most ≡ suc (limit - e.count) * most = ap (λ n. n * most) k in
      let t : suc (limit - e.count) * most ≡ (limit - e.count) * most + most = suc_times (limit - e.count) most in
      omega arith

  below_of : (m : Move (State C) Q R) (k n : ℕ) → k ≤ n → unless_over m k < suc n
  below_of (goes c) k n h = omega arith
  below_of (asks a l f) k n h = omega arith
  below_of over k n h = omega arith

  left_below : (e : State C) (n : ℕ) → number {R = R} L code limit deepest e < n → left L code limit deepest e < suc n
  left_below e n h = below_of (code_step L code limit e) (suc (number {R = R} L code limit deepest e)) n (omega arith)

  abbrev Less : State C → Move (State C) Q R → Type 0
  Less d m = LeavesLess L code limit deepest (suc (number {R = R} L code limit deepest d)) m

  gone : (d : State C) (c : C) (n : ℕ) → IsShallow deepest (at_place (length code) [] c n) × (left L code limit deepest (at_place (length code) [] c n) < suc (number {R = R} L code limit deepest d))
  gone d c n = (omega arith, rw (nothing_behind code) (omega arith))

  ahead_rest : (p l : ℕ) (i : Instr A) (rs : List ℕ) (c d : C) (n : ℕ) → slice_get code p ≡ Some (on l i) → counts (slice_get code p) ≡ false → rest code deepest (at_place (p + 1) rs d n) < rest code deepest (at_place p rs c n)
  ahead_rest p l i rs c d n here not =
      let w = slice_get_within code p (on l i) here in
      rw not (elim (cases_Bool (counts (slice_get code (p + 1)))) [
        | inl t ↦ rw t (some_left (length code) (deepest - length rs) p rs (omega arith))
        | inr f ↦ rw f (on_less (length code) (deepest - length rs) p (p + 1) rs (omega arith) (omega arith))
      ])

  -- of a step that goes on this is known
  of_falls : (d e : State C) → Falls {A = Q} {R = R} (IsShallow deepest) (λ (x : State C). x.count) (rest code deepest) limit d (goes e) → Less d (goes e)
  of_falls d e f = (f.0, left_below e (number {R = R} L code limit deepest d) (number_falls d e f.0 f.1))

  act_asks : (x : Effect C Q R) (a : A) (p l n : ℕ) (rs : List ℕ) (c : C) → slice_get code p ≡ Some (on l (does_act a)) → length rs ≤ deepest → ((e : State C) → acted L l (λ d. at_place (p + 1) rs d n) (λ d. at_place (length code) [] d n) c x ≡ goes e → Less (at_place p rs c n) (goes e)) → Less (at_place p rs c n) (acted L l (λ d. at_place (p + 1) rs d n) (λ d. at_place (length code) [] d n) c x)
  act_asks (goes_to d) a p l n rs c here s g = g (at_place (p + 1) rs d n) refl
  act_asks (faults k) a p l n rs c here s g = λ r. gone (at_place p rs c n) (L.forget c) n
  act_asks (asking q k) a p l n rs c here s g = λ r. (s, left_below (at_place (p + 1) rs (k r) n) (number {R = R} L code limit deepest (at_place p rs c n)) (number_falls (at_place p rs c n) (at_place (p + 1) rs (k r) n) s (inl (refl, ahead_rest p l (does_act a) rs c (k r) n here (ap counts here)))))
  act_asks (ends_with q) a p l n rs c here s g = λ r. gone (at_place p rs c n) c n
  act_asks stuck a p l n rs c here s g = tt

  test_asks : (x : Tested C) (d : State C) (f g : C → State C) → ((e : State C) → by_test {Q = Q} {R = R} x f g ≡ goes e → Less d (goes e)) → Less d (by_test x f g)
  test_asks no_value d f g h = tt
  test_asks (holds c) d f g h = h (f c) refl
  test_asks (fails c) d f g h = h (g c) refl

  back_asks : (rs : List ℕ) (c : C) (n : ℕ) (d : State C) → ((e : State C) → returned {Q = Q} {R = R} rs c n ≡ goes e → Less d (goes e)) → Less d (returned rs c n)
  back_asks [] c n d h = tt
  back_asks (r ∷ rs) c n d h = h (at_place r rs c n) refl

  step_asks : (i : Instr A) (p l n : ℕ) (rs : List ℕ) (c : C) → slice_get code p ≡ Some (on l i) → length rs ≤ deepest → ((e : State C) → does L code limit i l p rs c n ≡ goes e → Less (at_place p rs c n) (goes e)) → Less (at_place p rs c n) (does L code limit i l p rs c n)
  step_asks (does_act a) p l n rs c here s g = act_asks (L.operate a c) a p l n rs c here s g
  step_asks count_one p l n rs c here s g = elim (cases_Bool (nat_lt n limit)) [
    | inl t ↦ rw t (g (at_place (p + 1) rs c (n + 1)) (rw t refl))
    | inr f ↦ rw f (λ r. gone (at_place p rs c n) c n)
  ]
  step_asks (jump q) p l n rs c here s g = g (at_place q rs c n) refl
  step_asks (jump_if q) p l n rs c here s g = test_asks (L.test c) (at_place p rs c n) _ _ g
  step_asks (jump_unless q) p l n rs c here s g = test_asks (L.test c) (at_place p rs c n) _ _ g
  step_asks (skip k) p l n rs c here s g = g (at_place (p + 1 + k) rs c n) refl
  step_asks (skip_unless k) p l n rs c here s g = test_asks (L.test c) (at_place p rs c n) _ _ g
  step_asks (call q) p l n rs c here s g = elim (cases_Bool (nat_lt (L.frames c) (length rs))) [
    | inl t ↦ rw t tt
    | inr f ↦ rw f (g (at_place q ((p + 1) ∷ rs) c n) (rw f refl))
  ]
  step_asks go_back p l n rs c here s g = back_asks rs c n (at_place p rs c n) g

  fetched_asks : (o : Option (Line A)) (d : State C) → slice_get code d.at ≡ o → IsShallow deepest d → ((e : State C) → fetched L code limit o d ≡ goes e → Less d (goes e)) → Less d (fetched L code limit o d)
  fetched_asks None d e s g = tt
  fetched_asks (Some i) d e s g = step_asks i.instr d.at i.line d.count d.returns d.core e s g

  less_of : (d : State C) → IsShallow deepest d → Less d (code_step L code limit d)
  less_of d s = fetched_asks (slice_get code d.at) d refl s (λ e h. of_falls d e (subst (λ m. Falls {A = Q} {R = R} (IsShallow deepest) (λ (x : State C). x.count) (rest code deepest) limit d m) h (code_falls L code limit deepest frames good d s)))

  to_left : (m : Move (State C) Q R) (n : ℕ) → LeavesLess L code limit deepest n m → LeavesLess L code limit deepest (unless_over m n) m
  to_left (goes e) n h = h
  to_left (asks a l k) n h = h
  to_left over n h = tt

  -- less is left after each step and each ask
  pub leaves_less : (d : State C) → IsShallow deepest d → LeavesLess L code limit deepest (left L code limit deepest d) (code_step L code limit d)
  leaves_less d s = to_left (code_step L code limit d) (suc (number {R = R} L code limit deepest d)) (less_of d s)
