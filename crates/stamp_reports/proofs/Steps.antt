-- How many steps a lane makes at most: each ask lowers a bound, which is twice the limit of recorded words and four at
-- first.
use Rattle.std.proofs.Common.{◌≡◌, ℕ, zero, suc, ◌+◌, ◌-◌, ◌*◌, ◌<◌, ◌≤◌, Bool, true, false, cond, List, [], ◌∷◌, length, refl, ap, sym, subst, arith, length-append}
use Rattle.std.specs.Prelude.{map}
use Rattle.std.proofs.lemmas.Bool.{leb-false}
use Rattle.caf_events.specs.declared.ask.Ask.{Ask}
use Rattle.caf_events.specs.declared.ask.Ask.TheVariants as asking
use Rattle.caf_events.specs.declared.reply.Reply.{Reply}
use Rattle.caf_events.specs.Events.{counts_words, ask_words, reply_words, words_by}
use Rattle.trace_theory.specs.Machines.{Move, goes, asks, over, go, goes_on, Said, Walk}
use Rattle.core_runs.specs.Failures.{LockPlace, held_after, release_of, failure_steps}
use Rattle.image_lanes.specs.Lanes.{Course, by_program, failing, at_end, OnLane, is_due, is_full, is_failure, begins_to_fail, comes_to_end, goes_past, asked_next, program_next, course_next, lane_step}
use Rattle.image_lanes.proofs.LaneLaws.{held_few}

length_map : {A B : Type 0} (f : A → B) (xs : List A) → length (map f xs) ≡ length xs
length_map f [] = refl
length_map f (x ∷ xs) = ap suc (length_map f xs)

failure_length : (i : ℕ) (held : List LockPlace) → length (failure_steps i held) ≡ length held + 2
failure_length i held =
    let a = length-append (map release_of held) (asking.Gone ∷ []) in
    let b = length_map release_of held in
    omega arith

-- a step that counts records words
some_words : (ask : Ask) (reply : Reply) → counts_words ask ≡ true → 4 ≤ words_by ask reply
some_words ask reply e = subst (λ b. 4 ≤ cond b (4 + ask_words ask + reply_words reply) 0) (sym e) (omega arith)

module _ {C : Type 0} where
  -- at most so many asks are still to come: by the program each records words, of which there is a limit, and may get
  -- one lock, which a failure frees
  abbrev pub at_most : OnLane C → ℕ
  at_most l = 2 * (l.limit - l.words) + length l.held + 4

  abbrev pub most_on : OnLane C → Course → ℕ
  most_on l by_program = at_most l
  most_on l (failing steps line) = length steps
  most_on l at_end = 0

  abbrev pub most : OnLane C → ℕ
  most l = most_on l l.course

  -- a move keeps the bound, and an ask lowers it, whatever its reply is
  abbrev pub Lowers : ℕ → Move (OnLane C) Ask Reply → Type 0
  Lowers n (goes m) = most m ≡ n
  Lowers n (asks a line k) = (r : Reply) → most (k r) < n
  Lowers n over = Unit {0}

  either : (n : ℕ) (b : Bool) (x y : Move (OnLane C) Ask Reply) → (b ≡ true → Lowers n x) → (b ≡ false → Lowers n y) → Lowers n (cond b x y)
  either n true x y f g = f refl
  either n false x y f g = g refl

  module _ (l : OnLane C) (by : l.course ≡ by_program) where
    fails_below : (line : ℕ) (r : Reply) → most (begins_to_fail l line) < at_most l
    fails_below line r = let f = failure_length l.image l.held in omega arith

    ends_below : (r : Reply) → most (comes_to_end l) < at_most l
    ends_below r = omega arith

    past_below : (a : Ask) (c : C) (r : Reply) → is_full l ≡ false → counts_words a ≡ true → most (goes_past l a r c) < at_most l
    past_below a c r room counts =
        let m : OnLane C = goes_past l a r c in
        let e : most m ≡ 2 * (l.limit - (l.words + words_by a r)) + length (held_after l.held a r) + 4 = ap (most_on m) by in
        let w = some_words a r counts in
        let below : l.words < l.limit = leb-false l.limit l.words room in
        let h = held_few l.held a r in
        omega arith

    counted : (a : Ask) (line : ℕ) (k : Reply → C) → is_full l ≡ false
        → Lowers (at_most l) (cond (counts_words a) (asks a line (λ r. goes_past l a r (k r))) (asks a line (λ r. comes_to_end l)))
    counted a line k room = either (at_most l) (counts_words a) (asks a line (λ r. goes_past l a r (k r))) (asks a line (λ r. comes_to_end l)) (λ t r. past_below a (k r) r room t) (λ f. ends_below)

    asked : (a : Ask) (line : ℕ) (k : Reply → C) → Lowers (at_most l) (asked_next l a line k)
    asked a line k =
        let counting = cond (counts_words a) (asks a line (λ r. goes_past l a r (k r))) (asks a line (λ r. comes_to_end l)) in
        let full = asks (asking.LimitWords l.words) line (λ r. comes_to_end l) in
        either (at_most l) (is_failure a) (asks asking.Fail line (λ r. begins_to_fail l line)) (cond (is_full l) full counting) (λ t. fails_below line)
        (λ f. either (at_most l) (is_full l) full counting (λ t. ends_below) (λ room. counted a line k room))

    by_move : (m : Move C Ask Reply) → Lowers (at_most l) (program_next l m)
    by_move (goes c) = ap (most_on (record l { program = c })) by
    by_move (asks a line k) = either (at_most l) (is_due l) (asks asking.Fail 0 (λ r. begins_to_fail l 0)) (asked_next l a line k) (λ t. fails_below 0) (λ f. asked a line k)
    by_move over = tt

  module _ (step : C → Move C Ask Reply) where
    by_course : (l : OnLane C) (k : Course) → l.course ≡ k → Lowers (most_on l k) (course_next step l k)
    by_course l by_program e = by_move l e (step l.program)
    by_course l (failing [] line) e = tt
    by_course l (failing (a ∷ steps) line) e = λ r. omega arith
    by_course l at_end e = tt

    lowers : (l : OnLane C) → Lowers (most l) (lane_step step l)
    lowers l = by_course l l.course refl

    comes_by : (n most_now : ℕ) (m : Move (OnLane C) Ask Reply) (a : Ask) (line : ℕ) (k : Reply → OnLane C) → Lowers most_now m
        → ((d : OnLane C) → most d ≡ most_now → go (lane_step step) n d ≡ asks a line k → (r : Reply) → most (k r) < most_now)
        → goes_on m (go (lane_step step) n) ≡ asks a line k → (r : Reply) → most (k r) < most_now
    comes_by n most_now (goes d) a line k low next h r = next d low h r
    comes_by n most_now (asks b at_line j) a line k low next h r = (let e : j ≡ k = cc in subst (λ q. most (q r) < most_now) e (low r))
    comes_by n most_now over a line k low next h r = absurd (cc)

    -- an ask to which it comes lowers the bound
    comes_lower : (n : ℕ) (l : OnLane C) (a : Ask) (line : ℕ) (k : Reply → OnLane C) → go (lane_step step) n l ≡ asks a line k → (r : Reply) → most (k r) < most l
    comes_lower zero l a line k h r = absurd (cc)
    comes_lower (suc n) l a line k h r =
        comes_by n (most l) (lane_step step l) a line k (lowers l) (λ d e g s. subst (λ x. most (k s) < x) e (comes_lower n d a line k g s)) h r

    -- what a lane says and hears is no more than its bound, and what is left of that is its bound then
    pub walk_few : (es : List (Said Ask Reply)) (l c : OnLane C) → Walk (lane_step step) l es c → length es + most c ≤ most l
    walk_few [] l c h = (let e : most c ≡ most l = ap (λ x. most x) h in omega arith)
    walk_few (e ∷ es) l c (k, (n, comes), rest) =
        let a = comes_lower n l e.ask e.line k comes e.reply in
        let b = walk_few es (k e.reply) c rest in
        omega arith
