-- A lane by its program goes as the program goes, and is at rest and over where the program is.
use Rattle.std.proofs.Common.{◌≡◌, ℕ, zero, suc, ◌+◌, ◌-◌, ◌*◌, ◌<◌, ◌≤◌, Bool, true, false, cond, List, [], ◌∷◌, ◌++◌, length, inl, inr, refl, ap, sym, ◌∙◌, subst, arith, length-append}
use Rattle.std.specs.Prelude.{map, not, filter}
use Rattle.std.proofs.lemmas.Bool.{cases_Bool, leb-false}
use Rattle.caf_events.specs.declared.ask.Ask.{Ask}
use Rattle.caf_events.specs.declared.ask.Ask.TheVariants as asking
use Rattle.caf_events.specs.declared.reply.Reply.{Reply}
use Rattle.caf_events.specs.Events.{counts_words, ask_words, reply_words, words_by}
use Rattle.caf_events.specs.Walkers.{AsksNext, IsOver}
use Rattle.trace_theory.specs.Machines.{Move, goes, asks, over, go, goes_on, Rests}
use Rattle.core_runs.specs.Failures.{LockPlace, same_place, lock_place, without, held_after, release_of, failure_steps}
use Rattle.object_rules.specs.Locks.{has_status, acquires}
use Rattle.image_lanes.specs.Lanes.{by_program, OnLane, is_due, is_full, is_failure, begins_to_fail, comes_to_end, goes_past, lane_start, program_next, failure_next, lane_step, program_left, course_left, lane_left}

-- the lane with its program at c
abbrev pub at_program : {C : Type 0} → OnLane C → C → OnLane C
at_program l c = record l { program = c; course = by_program }

module _ {C : Type 0} (step : C → Move C Ask Reply) where
  same_goes : (x y : C) → ◌≡◌ {A = Move C Ask Reply} (goes x) (goes y) → x ≡ y
  same_goes x y h = cc

  go_by : (n : ℕ) (l : OnLane C) (x y : C) (m : Move C Ask Reply) → step x ≡ m → goes_on m (go step n) ≡ goes y
      → ((c : C) → go step n c ≡ goes y → go (lane_step step) n (at_program l c) ≡ goes (at_program l y)) → goes_on (program_next (at_program l x) m) (go (lane_step step) n) ≡ goes (at_program l y)
  go_by n l x y (goes c) e h next = next c h
  go_by n l x y (asks a line k) e h next = absurd (cc)
  go_by n l x y over e h next = absurd (cc)

  -- the program's steps that ask nothing are the lane's
  pub go_lane : (n : ℕ) (l : OnLane C) (x y : C) → go step n x ≡ goes y → go (lane_step step) n (at_program l x) ≡ goes (at_program l y)
  go_lane zero l x y h = ap (λ c. goes (at_program l c)) (same_goes x y h)
  go_lane (suc n) l x y h = go_by n l x y (step x) refl h (λ c e. go_lane n l c y e)

  -- where its program is at an ask, it is at one
  pub an_ask : (l : OnLane C) (a : Ask) (line : ℕ) (k : Reply → C) → (b : Ask) × (n : ℕ) × (j : Reply → OnLane C) × (program_next l (asks a line k) ≡ asks b n j)
  an_ask l a line k = elim (cases_Bool (is_due l)) [
    | inl t ↦ (asking.Fail, 0, (λ r. begins_to_fail l 0), rw t refl)
    | inr f ↦ elim (cases_Bool (is_failure a)) [
      | inl t ↦ (asking.Fail, line, (λ r. begins_to_fail l line), rw (f, t) refl)
      | inr g ↦ elim (cases_Bool (is_full l)) [
        | inl t ↦ (asking.LimitWords l.words, line, (λ r. comes_to_end l), rw (f, g, t) refl)
        | inr i ↦ elim (cases_Bool (counts_words a)) [
          | inl t ↦ (a, line, (λ r. goes_past l a r (k r)), rw (f, g, i, t) refl)
          | inr s ↦ (a, line, (λ r. comes_to_end l), rw (f, g, i, s) refl)
        ]
      ]
    ]
  ]

  rests_at : (l : OnLane C) (m : Move C Ask Reply) → Rests m → Rests (program_next l m)
  rests_at l (goes c) h = absurd h
  rests_at l (asks a line k) h = (let e = an_ask l a line k in subst Rests (sym e.3) tt)
  rests_at l over h = tt

  -- a lane by a program that is at rest is at rest, and so is one in a failure
  pub rests_lane : (l : OnLane C) → Rests (step l.program) → Rests (program_next l (step l.program))
  rests_lane l h = rests_at l (step l.program) h

  pub rests_failing : (l : OnLane C) (steps : List Ask) (line : ℕ) → Rests (failure_next l steps line)
  rests_failing l [] line = tt
  rests_failing l (a ∷ as_) line = tt

  over_at : (l : OnLane C) (m : Move C Ask Reply) → IsOver (program_next l m) → IsOver m
  over_at l (goes c) h = absurd h
  over_at l (asks a line k) h = (let e = an_ask l a line k in absurd (subst IsOver e.3 h))
  over_at l over h = tt

  -- it is over only where its program is
  pub over_lane : (l : OnLane C) → IsOver (program_next l (step l.program)) → IsOver (step l.program)
  over_lane l h = over_at l (step l.program) h

-- ---- how many asks are still to come
filter_few : {A : Type 0} (p : A → Bool) (xs : List A) → length (filter p xs) ≤ length xs
filter_few p [] = omega arith
filter_few p (x ∷ xs) = elim (cases_Bool (p x)) [
  | inl t ↦ (let r = filter_few p xs in rw t (omega arith))
  | inr f ↦ (let r = filter_few p xs in rw f (omega arith))
]

got_few : (b : Bool) (p : LockPlace) (held : List LockPlace) → length (cond b (without p held ++ p ∷ []) held) ≤ length held + 1
got_few true p held =
    let a = length-append (without p held) (p ∷ []) in
    let b = filter_few (λ q. not (same_place q p)) held in
    omega arith
got_few false p held = omega arith

lost_few : (b : Bool) (p : LockPlace) (held : List LockPlace) → length (cond b (without p held) held) ≤ length held + 1
lost_few true p held = let b = filter_few (λ q. not (same_place q p)) held in omega arith
lost_few false p held = omega arith

-- a step gets at most one lock
pub held_few : (held : List LockPlace) (a : Ask) (r : Reply) → length (held_after held a r) ≤ length held + 1
held_few held (asking.Lock owner span) r = got_few (acquires r) (lock_place owner span) held
held_few held (asking.TryLock owner span) r = got_few (acquires r) (lock_place owner span) held
held_few held (asking.Unlock owner span) r = lost_few (has_status _ r) (lock_place owner span) held
held_few held a r = omega arith

length_map : {A B : Type 0} (f : A → B) (xs : List A) → length (map f xs) ≡ length xs
length_map f [] = refl
length_map f (x ∷ xs) = ap suc (length_map f xs)

failure_length : (i : ℕ) (held : List LockPlace) → length (failure_steps i held) ≡ length held + 2
failure_length i held =
    let a = length-append (map release_of held) (asking.Gone ∷ []) in
    let b = length_map release_of held in
    omega arith

-- a step that counts records words
some_words : (ask : Ask) (reply : Reply) → counts_words ask ≡ true → 4 ≤ words_by ask reply
some_words ask reply e = subst (λ b. 4 ≤ cond b (4 + ask_words ask + reply_words reply) 0) (sym e) (omega arith)

module _ {C : Type 0} (step : C → Move C Ask Reply) (l : OnLane C) (by : l.course ≡ by_program) where
  left_is : lane_left step l ≡ program_left l (step l.program)
  left_is = ap (course_left step l) by

  busy : (m : Move C Ask Reply) (ask : Ask) → AsksNext (program_next l m) ask → program_left l m ≡ 2 * (l.limit - l.words) + length l.held + 4
  busy (goes c) ask a = absurd a
  busy (asks p q k) ask a = refl
  busy over ask a = absurd a

  few : (m : OnLane C) (n : Move C Ask Reply) → program_left m n ≤ 2 * (m.limit - m.words) + length m.held + 4
  few m (goes c) = omega arith
  few m (asks p q k) = omega arith
  few m over = omega arith

  module _ (ask : Ask) (asked : AsksNext (program_next l (step l.program)) ask) where
    now : lane_left step l ≡ 2 * (l.limit - l.words) + length l.held + 4
    now = left_is ∙ busy (step l.program) ask asked

    -- fewer are to come behind a step of the program that records words
    pub fewer_past : (a : Ask) (r : Reply) (c : C) → is_full l ≡ false → counts_words a ≡ true → lane_left step (goes_past l a r c) < lane_left step l
    fewer_past a r c room counts =
        let m : OnLane C = goes_past l a r c in
        let e = now in
        let f : lane_left step m ≡ program_left m (step c) = ap (course_left step m) by in
        let w = some_words a r counts in
        let below : l.words < l.limit = leb-false l.limit l.words room in
        let h = held_few l.held a r in
        let g : program_left m (step c) ≤ 2 * (l.limit - (l.words + words_by a r)) + length (held_after l.held a r) + 4 = few m (step c) in
        omega arith

-- before its first step
pub few_at_first : {C : Type 0} (step : C → Move C Ask Reply) (image fails_at limit : ℕ) (c : C) → lane_left step (lane_start image fails_at limit c) ≤ 2 * limit + 4
few_at_first step image fails_at limit c =
    let a = few step (lane_start image fails_at limit c) refl (lane_start image fails_at limit c) (step c) in
    omega arith
