-- Each state of good code comes to an ask or ends.
use Rattle.std.proofs.Common.{◌≡◌, ℕ, suc, ◌+◌, ◌-◌, ◌*◌, ◌<◌, ◌≤◌, ◌⊎◌, inl, inr, true, false, nat_lt, List, [], ◌∷◌, length, refl, sym, ◌∙◌, subst, arith}
use Rattle.std.proofs.lemmas.Bool.{cases_Bool, ltb-true, ltb-false}
use Rattle.std.proofs.lemmas.Option.{slice_get_within}
use Rattle.std.specs.Prelude.{Option, Some, None, slice_get}
use Rattle.trace_theory.specs.Machines.{Move, goes, ComesToRest, Falls}
use Rattle.trace_theory.proofs.Ending.{ends_by_falling}
use Rattle.walk_theory.specs.Language.{Effect, goes_to, faults, asking, ends_with, stuck, Tested, no_value, holds, fails, Language, acted, by_test}
use Rattle.walk_theory.specs.Code.{Instr, does_act, count_one, jump, jump_if, jump_unless, skip, skip_unless, call, go_back, Line, on, State, at_place, does, fetched, code_step}
use Rattle.walk_theory.specs.Good.{is_count, counts, GoesOn, Fine, IsGood, ways, power, rest, IsShallow}
use Rattle.walk_theory.proofs.Numbers.{on_less, call_less, back_less, some_left}

module _ {A C Q R : Type 0} (L : Language A C Q R) (code : List (Line A)) (limit deepest : ℕ) (frames : (c : C) → L.frames c < deepest) (good : IsGood code) where
  abbrev Next : State C → Move (State C) Q R → Type 0
  Next d m = Falls (IsShallow deepest) (λ (e : State C). e.count) (rest code deepest) limit d m

  -- all the ways on, as a number
  abbrev measure : List ℕ → ℕ → ℕ
  measure ps k = ways (length code) ps * power (length code + 2) (deepest - k)

  module _ (p l : ℕ) (i : Instr A) (rs : List ℕ) (n : ℕ) (here : slice_get code p ≡ Some (on l i)) (shallow : length rs ≤ deepest) where
    within : p < length code
    within = slice_get_within code p (on l i) here

    -- a step that isn't a count and goes on, to a count or by less
    goes_less : (q : ℕ) (ss : List ℕ) (c d : C) → is_count i ≡ false → length ss ≤ deepest → (counts (slice_get code q) ≡ true) ⊎ (measure (q ∷ ss) (length ss) < measure (p ∷ rs) (length rs)) → Next (at_place p rs c n) (goes (at_place q ss d n))
    goes_less q ss c d not s h = (
      s,
      inl (
        refl,
        rw (here, not) (elim (cases_Bool (counts (slice_get code q))) [
          | inl t ↦ rw t (let w = within in some_left (length code) (deepest - length rs) p rs (omega arith))
          | inr f ↦ rw f (elim h [ inl t ↦ absurd (let g = sym t ∙ f in cc) | inr m ↦ m ])
        ]),
      ),
    )

    ahead_less : (q : ℕ) (c d : C) → is_count i ≡ false → p < q → Next (at_place p rs c n) (goes (at_place q rs d n))
    ahead_less q c d not h = goes_less q rs c d not shallow (inr (let w = within in on_less (length code) (deepest - length rs) p q rs h (omega arith)))

    jump_less : (q : ℕ) (c d : C) → is_count i ≡ false → GoesOn code p q → Next (at_place p rs c n) (goes (at_place q rs d n))
    jump_less q c d not (inl h) = ahead_less q c d not h
    jump_less q c d not (inr t) = goes_less q rs c d not shallow (inl t)

    act_falls : (c : C) (e : Effect C Q R) (f g : C → State C) → ((d : C) → Next (at_place p rs c n) (goes (f d))) → Next (at_place p rs c n) (acted L l f g c e)
    act_falls c (goes_to d) f g h = h d
    act_falls c (faults k) f g h = tt
    act_falls c (asking q k) f g h = tt
    act_falls c (ends_with q) f g h = tt
    act_falls c stuck f g h = tt

    test_falls : (c : C) (x : Tested C) (f g : C → State C) → ((d : C) → Next (at_place p rs c n) (goes (f d))) → ((d : C) → Next (at_place p rs c n) (goes (g d))) → Next (at_place p rs c n) (by_test x f g)
    test_falls c no_value f g h k = tt
    test_falls c (holds d) f g h k = h d
    test_falls c (fails d) f g h k = k d

  call_falls : (p l q : ℕ) (rs : List ℕ) (c : C) (n : ℕ) → slice_get code p ≡ Some (on l (call q)) → length rs ≤ deepest → Next (at_place p rs c n) (does L code limit (call q) l p rs c n)
  call_falls p l q rs c n here s = elim (cases_Bool (nat_lt (L.frames c) (length rs))) [
    | inl t ↦ rw t tt
    | inr f ↦ rw f (
        let u = ltb-false (L.frames c) (length rs) f in
        let v = frames c in
        let w = within p l (call q) rs n here s in
        let e : deepest - length rs ≡ suc (deepest - suc (length rs)) = omega arith in
        goes_less p l (call q) rs n here s q ((p + 1) ∷ rs) c c refl (omega arith)
        (inr (subst (λ k. measure (q ∷ (p + 1) ∷ rs) (suc (length rs)) < ways (length code) (p ∷ rs) * power (length code + 2) k) (sym e) (call_less (length code) (deepest - suc (length rs)) p q rs (omega arith)))))
  ]

  back_falls : (p l : ℕ) (rs : List ℕ) (c : C) (n : ℕ) → slice_get code p ≡ Some (on l go_back) → length rs ≤ deepest → Next (at_place p rs c n) (does L code limit go_back l p rs c n)
  back_falls p l [] c n here s = tt
  back_falls p l (r ∷ rs) c n here s =
      let w = within p l go_back (r ∷ rs) n here s in
      let e : deepest - length rs ≡ suc (deepest - suc (length rs)) = omega arith in
      goes_less p l go_back (r ∷ rs) n here s r rs c c refl (omega arith)
      (inr (subst (λ k. ways (length code) (r ∷ rs) * power (length code + 2) k < measure (p ∷ r ∷ rs) (suc (length rs))) (sym e) (back_less (length code) (deepest - suc (length rs)) p r rs (omega arith))))

  step_falls : (i : Instr A) (p l : ℕ) (rs : List ℕ) (c : C) (n : ℕ) → slice_get code p ≡ Some (on l i) → length rs ≤ deepest → Fine code p i → Next (at_place p rs c n) (does L code limit i l p rs c n)
  step_falls (does_act a) p l rs c n here s fine = act_falls p l (does_act a) rs n here s c (L.operate a c) (λ d. at_place (p + 1) rs d n) (λ d. at_place (length code) [] d n) (λ d. ahead_less p l (does_act a) rs n here s (p + 1) c d refl (omega arith))
  step_falls count_one p l rs c n here s fine = elim (cases_Bool (nat_lt n limit)) [
    | inl t ↦ rw t (s, inr (refl, ltb-true n limit t))
    | inr f ↦ rw f tt
  ]
  step_falls (jump q) p l rs c n here s fine = jump_less p l (jump q) rs n here s q c c refl fine
  step_falls (jump_if q) p l rs c n here s fine = test_falls p l (jump_if q) rs n here s c (L.test c) _ _ (λ d. jump_less p l (jump_if q) rs n here s q c d refl fine) (λ d. ahead_less p l (jump_if q) rs n here s (p + 1) c d refl (omega arith))
  step_falls (jump_unless q) p l rs c n here s fine = test_falls p l (jump_unless q) rs n here s c (L.test c) _ _ (λ d. ahead_less p l (jump_unless q) rs n here s (p + 1) c d refl (omega arith)) (λ d. jump_less p l (jump_unless q) rs n here s q c d refl fine)
  step_falls (skip k) p l rs c n here s fine = ahead_less p l (skip k) rs n here s (p + 1 + k) c c refl (omega arith)
  step_falls (skip_unless k) p l rs c n here s fine = test_falls p l (skip_unless k) rs n here s c (L.test c) _ _ (λ d. ahead_less p l (skip_unless k) rs n here s (p + 1) c d refl (omega arith)) (λ d. ahead_less p l (skip_unless k) rs n here s (p + 1 + k) c d refl (omega arith))
  step_falls (call q) p l rs c n here s fine = call_falls p l q rs c n here s
  step_falls go_back p l rs c n here s fine = back_falls p l rs c n here s

  fetched_falls : (o : Option (Line A)) (d : State C) → slice_get code d.at ≡ o → IsShallow deepest d → Next d (fetched L code limit o d)
  fetched_falls None d e s = tt
  fetched_falls (Some i) d e s = step_falls i.instr d.at i.line d.returns d.core d.count e s (good d.at i.line i.instr e)

  -- after each step that asks nothing less is left to do before the next count, or one more is counted
  pub code_falls : (d : State C) → IsShallow deepest d → Falls (IsShallow deepest) (λ (e : State C). e.count) (rest code deepest) limit d (code_step L code limit d)
  code_falls d s = fetched_falls (slice_get code d.at) d refl s

  -- each state of good code comes to an ask or ends
  pub good_code_ends : (d : State C) → IsShallow deepest d → ComesToRest (code_step L code limit) d
  good_code_ends d s = ends_by_falling (State C) Q R (code_step L code limit) (IsShallow deepest) (λ e. e.count) (rest code deepest) limit code_falls d s
