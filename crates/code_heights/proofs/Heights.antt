-- Code with a list of heights keeps to it.
use Rattle.std.proofs.Common.{◌≡◌, ℕ, suc, ◌+◌, ◌*◌, ◌≤◌, ◌⊎◌, inl, inr, false, nat_lt, Bool, List, [], ◌∷◌, length, refl, ap, sym, ◌∙◌, arith}
use Rattle.std.proofs.lemmas.Bool.{cases_Bool}
use Rattle.std.proofs.lemmas.Option.{slice_get_within}
use Rattle.std.specs.Prelude.{Option, Some, None, slice_get}
use Rattle.trace_theory.specs.Machines.{Move}
use Rattle.walk_theory.specs.Language.{Effect, goes_to, faults, asking, ends_with, stuck, Tested, no_value, holds, fails, Language, acted, by_test}
use Rattle.walk_theory.specs.Code.{Instr, does_act, count_one, jump, jump_if, jump_unless, skip, skip_unless, call, go_back, Line, on, State, at_place, does, returned, fetched, code_step}
use Rattle.code_heights.specs.Heights.{Moves, TakesTested, IsSized, Level, IsLevel, Under, Piled, Stands, Keeps}

cases : {X : Type 0} (o : Option X) → (o ≡ None) ⊎ ((x : X) × (o ≡ Some x))
cases None = inl refl
cases (Some x) = inr (x, refl)

-- behind the code nothing stands
pub nothing_behind : {X : Type 0} (xs : List X) → slice_get xs (length xs) ≡ None
nothing_behind xs = elim (cases (slice_get xs (length xs))) [ inl e ↦ e | inr e ↦ absurd (let h = slice_get_within xs (length xs) e.0 e.1 in omega arith) ]

module _ {A C Q R : Type 0} (L : Language A C Q R) (height : C → ℕ) (tested : ℕ) (takes leaves : A → ℕ) (ends : A → Bool) (code : List (Line A)) (sized : IsSized L height tested takes leaves ends code) (heights : ℕ → Option ℕ) (level : IsLevel tested takes leaves ends code heights) (limit : ℕ) where
  abbrev Good : State C → Type 0
  Good d = Stands {A = A} height code heights d

  abbrev Next : Move (State C) Q R → Type 0
  Next m = Keeps {A = A} height code heights {Q = Q} {R = R} m

  gone : (c : C) (n : ℕ) → Good (at_place (length code) [] c n)
  gone c n = inl (nothing_behind code)

  act_keeps : (e : Effect C Q R) (b : Bool) (p l n h t v : ℕ) (rs : List ℕ) (c : C) (under : ℕ) → Under {A = A} {C = C} height code heights rs under → height c ≤ h + under → Moves L height tested takes leaves ends (height c) t v b e → t ≤ h → ((b ≡ false) → (k : ℕ) × (heights (p + 1) ≡ Some k) × (k + t ≡ h + v)) → Next (acted L l (λ d. at_place (p + 1) rs d n) (λ d. at_place (length code) [] d n) c e)
  act_keeps (goes_to d) b p l n h t v rs c under u g m i f = (let x = f m.0 in let y = m.1 in let z = x.2 in inr (x.0, x.1, under, u, omega arith))
  act_keeps (faults k) b p l n h t v rs c under u g m i f = λ r. gone (L.forget c) n
  act_keeps (asking q k) b p l n h t v rs c under u g m i f = λ r. (let x = f m.0 in let y = m.1 r in let z = x.2 in inr (x.0, x.1, under, u, omega arith))
  act_keeps (ends_with q) b p l n h t v rs c under u g m i f = λ r. gone c n
  act_keeps stuck b p l n h t v rs c under u g m i f = tt

  test_keeps : (x : Tested C) (p q n h k : ℕ) (rs : List ℕ) (c : C) (under : ℕ) → Under {A = A} {C = C} height code heights rs under → height c ≤ h + under → TakesTested L height tested takes leaves ends (height c) x → k + tested ≡ h → heights p ≡ Some k → heights q ≡ Some k → Next (by_test x (λ d. at_place p rs d n) (λ d. at_place q rs d n))
  test_keeps no_value p q n h k rs c under u g m i a b = tt
  test_keeps (holds d) p q n h k rs c under u g m i a b = inr (k, a, under, u, omega arith)
  test_keeps (fails d) p q n h k rs c under u g m i a b = inr (k, b, under, u, omega arith)

  back_keeps : (rs : List ℕ) (c : C) (n under : ℕ) → Under {A = A} {C = C} height code heights rs under → height c ≤ 0 + under → Next (returned rs c n)
  back_keeps [] c n under u g = tt
  back_keeps (r ∷ rs) c n under u g = (let x = u.4 in inr (u.0, u.1, u.2, u.3, omega arith))

  step_keeps : (i : Instr A) (p l n h : ℕ) (rs : List ℕ) (c : C) (under : ℕ) → slice_get code p ≡ Some (on l i) → Level tested takes leaves ends code heights p h i → Under {A = A} {C = C} height code heights rs under → height c ≤ h + under → Next (does L code limit i l p rs c n)
  step_keeps (does_act a) p l n h rs c under here v u g = act_keeps (L.operate a c) (ends a) p l n h (takes a) (leaves a) rs c under u g (sized.acts p l a here c) v.0 v.1
  step_keeps count_one p l n h rs c under here v u g = elim (cases_Bool (nat_lt n limit)) [
    | inl t ↦ rw t (inr (h, v, under, u, g))
    | inr f ↦ rw f (λ r. gone c n)
  ]
  step_keeps (jump q) p l n h rs c under here v u g = inr (h, v, under, u, g)
  step_keeps (jump_if q) p l n h rs c under here v u g = test_keeps (L.test c) q (p + 1) n h v.0 rs c under u g (sized.tests c) v.1 v.2 v.3
  step_keeps (jump_unless q) p l n h rs c under here v u g = test_keeps (L.test c) (p + 1) q n h v.0 rs c under u g (sized.tests c) v.1 v.3 v.2
  step_keeps (skip k) p l n h rs c under here v u g = inr (h, v, under, u, g)
  step_keeps (skip_unless k) p l n h rs c under here v u g = test_keeps (L.test c) (p + 1) (p + 1 + k) n h v.0 rs c under u g (sized.tests c) v.1 v.3 v.2
  step_keeps (call q) p l n h rs c under here v u g = elim (cases_Bool (nat_lt (L.frames c) (length rs))) [
    | inl t ↦ rw t tt
    | inr f ↦ rw f (inr (0, v.0, h + under, (h, v.1, under, u, refl), omega (arith, g)))
  ]
  step_keeps go_back p l n h rs c under here v u g = back_keeps rs c n under u (let x = v in omega arith)

  fetched_keeps : (o : Option (Line A)) (d : State C) → slice_get code d.at ≡ o → Good d → Next (fetched L code limit o d)
  fetched_keeps None d e s = tt
  fetched_keeps (Some i) d e (inl s) = absurd (let x = sym s ∙ e in cc)
  fetched_keeps (Some i) d e (inr s) = step_keeps i.instr d.at i.line d.count s.0 d.returns d.core s.2 e (level d.at s.0 i.line i.instr e s.1) s.3 s.4

  pub keeps : (d : State C) → Good d → Next (code_step L code limit d)
  keeps d s = fetched_keeps (slice_get code d.at) d refl s

times_suc : (a b : ℕ) → a * suc b ≡ a * b + a
times_suc a b = omega arith

module _ {A C : Type 0} (height : C → ℕ) (code : List (Line A)) (heights : ℕ → Option ℕ) (most : ℕ) (bound : (p h : ℕ) → heights p ≡ Some h → h ≤ most) where
  under_bounded : (rs : List ℕ) (n : ℕ) → Under {A = A} {C = C} height code heights rs n → n ≤ most * length rs
  under_bounded [] n u = omega arith
  under_bounded (r ∷ rs) n u =
      let b = bound r u.0 u.1 in
      let h = under_bounded rs u.2 u.3 in
      let e = u.4 in
      let m : most * suc (length rs) ≡ most * length rs + most = times_suc most (length rs) in
      omega arith

  -- how much room the stack wants
  pub bounded : (d : State C) → Piled {A = A} height code heights d → height d.core ≤ most * (length d.returns + 1)
  bounded d s =
      let b = bound d.at s.0 s.1 in
      let h = under_bounded d.returns s.2 s.3 in
      let e = s.4 in
      let k : length d.returns + 1 ≡ suc (length d.returns) = omega arith in
      let m : most * (length d.returns + 1) ≡ most * length d.returns + most = ap (λ x. most * x) k ∙ times_suc most (length d.returns) in
      omega arith
