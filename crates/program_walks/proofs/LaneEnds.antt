-- A lane is over only behind a step that ended its image, where its program is over only behind such a step or behind
-- FAIL IMAGE.
use Rattle.std.proofs.Common.{◌≡◌, ℕ, zero, suc, ◌+◌, false, List, [], ◌∷◌, ◌++◌, inl, inr, refl, sym, ◌∙◌, subst, ap}
use Rattle.std.specs.Prelude.{◌⊎◌, map, None}
use Rattle.std.proofs.lemmas.Bool.{cases_Bool, false≢true}
use Rattle.caf_events.specs.declared.ask.Ask.{Ask}
use Rattle.caf_events.specs.declared.ask.Ask.TheVariants as asking
use Rattle.caf_events.specs.declared.reply.Reply.{Reply}
use Rattle.caf_events.specs.Answers.{Answers}
use Rattle.caf_events.specs.Events.{EndsImage, counts_words}
use Rattle.caf_events.specs.Walkers.{IsOver}
use Rattle.trace_theory.specs.Machines.{Move, goes, asks, over, Said, go, goes_on, Comes, Walk, WalkTo}
use Rattle.trace_theory.specs.Simulations.{AllAnswer}
use Rattle.trace_theory.proofs.Machines.{go_more}
use Rattle.core_runs.specs.Failures.{LockPlace, release_of, failure_steps}
use Rattle.core_runs.specs.Sequences.{HasEndedBy, IsOrderly}
use Rattle.image_lanes.specs.Lanes.{failing, OnLane, is_due, is_full, is_failure, begins_to_fail, comes_to_end, goes_past, fails_on, program_next, lane_step, lane_start}
use Rattle.image_lanes.proofs.LaneLaws.{at_program, an_ask, over_lane}
use Rattle.program_walks.specs.Dues.{owing, GoesInOrder}
use Rattle.program_walks.specs.Ordered.{EndsInOrder}
use Rattle.program_walks.proofs.SilentSteps.{more_ended, one_ended, EndsSilent, silent_more, silent_ended}
use Rattle.program_walks.proofs.LaneOrder.{lane_joins, lane_nothing_after, lane_no_stamp}

-- a list of asks whose last one is the image's end at the board
abbrev EndsGone : List Ask → Type 0
EndsGone [] = ⊥
EndsGone (a ∷ []) = a ≡ asking.Gone
EndsGone (a ∷ b ∷ as_) = EndsGone (b ∷ as_)

gone_behind : (a : Ask) (as_ : List Ask) → EndsGone as_ → EndsGone (a ∷ as_)
gone_behind a [] h = absurd h
gone_behind a (b ∷ as_) h = h

releases_gone : (held : List LockPlace) → EndsGone (map release_of held ++ asking.Gone ∷ [])
releases_gone [] = refl
releases_gone (p ∷ ps) = gone_behind (release_of p) (map release_of ps ++ asking.Gone ∷ []) (releases_gone ps)

failure_gone : (image : ℕ) (held : List LockPlace) → EndsGone (failure_steps image held)
failure_gone image held = gone_behind (asking.Mark (record { 0 = image })) (map release_of held ++ asking.Gone ∷ []) (releases_gone held)

gone_ends : (a : Ask) (r : Reply) → a ≡ asking.Gone → EndsImage a r
gone_ends a r h = subst (λ b. EndsImage b r) (sym h) tt

module _ {C : Type 0} (step : C → Move C Ask Reply) where
  abbrev Ls : OnLane C → Move (OnLane C) Ask Reply
  Ls = lane_step step

  -- ---- in a failure and at a limit
  pub same_asks : (a b : Ask) (l m : ℕ) (j k : Reply → OnLane C) → ◌≡◌ {A = Move (OnLane C) Ask Reply} (asks a l j) (asks b m k) → (a ≡ b) × (l ≡ m) × (j ≡ k)
  same_asks a b l m j k h = (cc, cc, cc)

  pub no_asks : (n : ℕ) (l : OnLane C) (a : Ask) (m : ℕ) (k : Reply → OnLane C) → Ls l ≡ over → go Ls n l ≡ asks a m k → ⊥
  no_asks zero l a m k e h = absurd (cc)
  no_asks (suc n) l a m k e h = (let x : ◌≡◌ {A = Move (OnLane C) Ask Reply} over (asks a m k) = sym (ap (λ v. goes_on v (go Ls n)) e) ∙ h in absurd (cc))

  pub over_says_nothing : (es : List (Said Ask Reply)) (l m : OnLane C) → Ls l ≡ over → Walk Ls l es m → es ≡ []
  over_says_nothing [] l m e w = refl
  over_says_nothing (x ∷ es) l m e (k, (n, h), w) = absurd (no_asks n l x.ask x.line k e h)

  same_config : (x y : OnLane C) → ◌≡◌ {A = Move (OnLane C) Ask Reply} (goes x) (goes y) → x ≡ y
  same_config x y h = cc

  -- a lane at an ask stays there
  stays_there : (n : ℕ) (l c : OnLane C) (a : Ask) (m : ℕ) (k : Reply → OnLane C) → Ls l ≡ asks a m k → go Ls n l ≡ goes c → l ≡ c
  stays_there zero l c a m k e h = same_config l c h
  stays_there (suc n) l c a m k e h = (let x : ◌≡◌ {A = Move (OnLane C) Ask Reply} (asks a m k) (goes c) = sym (ap (λ v. goes_on v (go Ls n)) e) ∙ h in absurd (cc))

  pub asks_now : (n : ℕ) (l : OnLane C) (a b : Ask) (m q : ℕ) (j k : Reply → OnLane C) → Ls l ≡ asks a m j → go Ls n l ≡ asks b q k → (a ≡ b) × (m ≡ q) × (j ≡ k)
  asks_now zero l a b m q j k e h = absurd (cc)
  asks_now (suc n) l a b m q j k e h = same_asks a b m q j k (sym (ap (λ v. goes_on v (go Ls n)) e) ∙ h)

  not_over : (l : OnLane C) (a : Ask) (m : ℕ) (k : Reply → OnLane C) → Ls l ≡ asks a m k → IsOver (Ls l) → ⊥
  not_over l a m k e h = subst IsOver e h

  failing_ends : (steps : List Ask) (es : List (Said Ask Reply)) (l c : OnLane C) (line : ℕ) → l.course ≡ failing steps line → EndsGone steps → WalkTo Ls l es c → IsOver (Ls c) → HasEndedBy es
  failing_ends [] es l c line e g w o = absurd g
  failing_ends (a ∷ as_) [] l c line e g (m, w, n, h) o =
      let at : Ls l ≡ asks a line (λ r. fails_on l as_ line) = rw e refl in
      let here = stays_there n l c a line (λ r. fails_on l as_ line) at (ap (go Ls n) (sym w) ∙ h) in
      absurd (not_over l a line (λ r. fails_on l as_ line) at (subst (λ x. IsOver (Ls x)) (sym here) o))
  failing_ends (a ∷ []) (x ∷ es) l c line e g (m, (k, (j, comes), w), n, h) o =
      let at : Ls l ≡ asks a line (λ r. fails_on l [] line) = rw e refl in
      let s = asks_now j l a x.ask line x.line (λ r. fails_on l [] line) k at comes in
      one_ended x es (over_says_nothing es (fails_on l [] line) m refl (subst (λ q. Walk Ls (q x.reply) es m) (sym s.2) w)) (gone_ends x.ask x.reply (sym s.0 ∙ g))
  failing_ends (a ∷ b ∷ as_) (x ∷ es) l c line e g (m, (k, (j, comes), w), n, h) o =
      let at : Ls l ≡ asks a line (λ r. fails_on l (b ∷ as_) line) = rw e refl in
      let s = asks_now j l a x.ask line x.line (λ r. fails_on l (b ∷ as_) line) k at comes in
      more_ended x es (failing_ends (b ∷ as_) es (fails_on l (b ∷ as_) line) c line refl g (m, subst (λ q. Walk Ls (q x.reply) es m) (sym s.2) w, n, h) o)

  -- ---- by the program
  asks_stays : (l : OnLane C) (a : Ask) (line : ℕ) (k : Reply → C) (f : OnLane C → Move (OnLane C) Ask Reply) → goes_on (program_next l (asks a line k)) f ≡ program_next l (asks a line k)
  asks_stays l a line k f = (let e = an_ask step l a line k in rw e.3 refl)

  asks_goes : (l c : OnLane C) (a : Ask) (line : ℕ) (k : Reply → C) → program_next l (asks a line k) ≡ goes c → ⊥
  asks_goes l c a line k h = (let e = an_ask step l a line k in let x : ◌≡◌ {A = Move (OnLane C) Ask Reply} (asks e.0 e.1 e.2) (goes c) = sym e.3 ∙ h in absurd (cc))

  -- where it goes without an ask its program goes
  goes_by : (n : ℕ) (l c : OnLane C) (x : C) (v : Move C Ask Reply) → step x ≡ v → goes_on (program_next (at_program l x) v) (go Ls n) ≡ goes c
      → ((d : C) → go Ls n (at_program l d) ≡ goes c → (y : C) × Comes step d (goes y) × (c ≡ at_program l y)) → (y : C) × Comes step x (goes y) × (c ≡ at_program l y)
  goes_by n l c x (goes d) e h next =
      let r = next d h in
      (r.0, (suc r.1.0, ap (λ v. goes_on v (go step r.1.0)) e ∙ r.1.1), r.2)
  goes_by n l c x (asks a line k) e h next = absurd (asks_goes (at_program l x) c a line k (sym (asks_stays (at_program l x) a line k (go Ls n)) ∙ h))
  goes_by n l c x over e h next = absurd (cc)

  lane_goes : (n : ℕ) (l c : OnLane C) (x : C) → go Ls n (at_program l x) ≡ goes c → (y : C) × Comes step x (goes y) × (c ≡ at_program l y)
  lane_goes zero l c x h = (x, (0, refl), sym (same_config (at_program l x) c h))
  lane_goes (suc n) l c x h = goes_by n l c x (step x) refl h (λ d e. lane_goes n l c d e)

  -- where it comes to an ask its program comes to one
  pub record Reached (l : OnLane C) (x : C) (a : Ask) (line : ℕ) (k : Reply → OnLane C) : Type 0 where
    pub there : C
    pub comes : Comes step x (goes there)
    pub asked : program_next (at_program l there) (step there) ≡ asks a line k

  reach_by : (n : ℕ) (l : OnLane C) (x : C) (a : Ask) (line : ℕ) (k : Reply → OnLane C) (v : Move C Ask Reply) → step x ≡ v → goes_on (program_next (at_program l x) v) (go Ls n) ≡ asks a line k
      → ((d : C) → go Ls n (at_program l d) ≡ asks a line k → Reached l d a line k) → Reached l x a line k
  reach_by n l x a line k (goes d) e h next =
      let r = next d h in
      record { there = r.there; comes = (suc r.comes.0, ap (λ m. goes_on m (go step r.comes.0)) e ∙ r.comes.1); asked = r.asked }
  reach_by n l x a line k (asks b m j) e h next = record { there = x; comes = (0, refl); asked = ap (program_next (at_program l x)) e ∙ sym (asks_stays (at_program l x) b m j (go Ls n)) ∙ h }
  reach_by n l x a line k over e h next = absurd (cc)

  pub reach : (n : ℕ) (l : OnLane C) (x : C) (a : Ask) (line : ℕ) (k : Reply → OnLane C) → go Ls n (at_program l x) ≡ asks a line k → Reached l x a line k
  reach zero l x a line k h = absurd (cc)
  reach (suc n) l x a line k h = reach_by n l x a line k (step x) refl h (λ d e. reach n l d a line k e)

  -- none of these is FAIL IMAGE
  abbrev NoneFails : List (Said Ask Reply) → Type 0
  NoneFails [] = Unit {0}
  NoneFails (e ∷ es) = (is_failure e.ask ≡ false) × NoneFails es

  -- the program is over behind these steps, the last one ended the image, or they are the program's and the last one is
  -- without recorded words
  abbrev Ended : C → List (Said Ask Reply) → Type 0
  Ended x es = ((to : C) × WalkTo step x es to × IsOver (step to) × NoneFails es) ⊎ (HasEndedBy es ⊎ ((to : C) × Walk step x es to × EndsSilent es))

  comes_on : (x d : C) (a : Ask) (line : ℕ) (k : Reply → C) → Comes step x (goes d) → step d ≡ asks a line k → Comes step x (asks a line k)
  comes_on x d a line k (p, g) s = (p + 1, go_more C Ask Reply step p 1 x ∙ ap (λ m. goes_on m (go step 1)) g ∙ ap (λ m. goes_on m (go step 0)) s)

  program_more : (e : Said Ask Reply) (es : List (Said Ask Reply)) (x d : C) (j : Reply → C) → Comes step x (goes d) → step d ≡ asks e.ask e.line j → is_failure e.ask ≡ false → Ended (j e.reply) es → Ended x (e ∷ es)
  program_more e es x d j comes at f (inl (to, (m, w, n, h), o, none)) = inl (to, (m, (j, comes_on x d e.ask e.line j comes at, w), n, h), o, (f, none))
  program_more e es x d j comes at f (inr (inl ended)) = inr (inl (more_ended e es ended))
  program_more e es x d j comes at f (inr (inr (to, w, silent))) = inr (inr (to, (j, comes_on x d e.ask e.line j comes at, w), silent_more e es silent))

  -- the program's last step
  program_last : (e : Said Ask Reply) (es : List (Said Ask Reply)) (x d : C) (j : Reply → C) → Comes step x (goes d) → step d ≡ asks e.ask e.line j → es ≡ [] → is_failure e.ask ≡ false → counts_words e.ask ≡ false → Ended x (e ∷ es)
  program_last e es x d j comes at none f silent = subst (λ rest. Ended x (e ∷ rest)) (sym none) (inr (inr (j e.reply, (j, comes_on x d e.ask e.line j comes at, refl), (f, silent))))

  lane_ends : (es : List (Said Ask Reply)) (l c : OnLane C) (x : C) → WalkTo Ls (at_program l x) es c → IsOver (Ls c) → Ended x es
  lane_ends [] l c x (m, w, n, h) o =
      let r = lane_goes n l c x (ap (go Ls n) (sym w) ∙ h) in
      inl (r.0, (x, refl, r.1.0, r.1.1), over_lane step (at_program l r.0) (subst (λ y. IsOver (Ls y)) r.2 o), tt)
  lane_ends (e ∷ es) l c x (m, (k, (i, comes), w), n, h) o =
      let r = reach i l x e.ask e.line k comes in
      by_move (step r.there) r.there refl r.comes r.asked (λ q y v. lane_ends es q c y v o)
    where
      by_ask : (d : C) → Comes step x (goes d) → (a : Ask) (line : ℕ) (j : Reply → C) → step d ≡ asks a line j → program_next (at_program l d) (asks a line j) ≡ asks e.ask e.line k → ((q : OnLane C) (y : C) → WalkTo Ls (at_program q y) es c → Ended y es) → Ended x (e ∷ es)
      by_ask d to a line j at next more = elim (cases_Bool (is_due l)) [
        | inl due ↦ (
            let s = same_asks asking.Fail e.ask 0 e.line (λ r. begins_to_fail (at_program l d) 0) k (sym (rw due refl) ∙ next) in
            inr (inl (more_ended e es (failing_ends (failure_steps l.image l.held) es (begins_to_fail (at_program l d) 0) c 0 refl (failure_gone l.image l.held) (m, subst (λ q. Walk Ls (q e.reply) es m) (sym s.2) w, n, h) o))))
        | inr free ↦ elim (cases_Bool (is_failure a)) [
          | inl fails ↦ (
              let s = same_asks asking.Fail e.ask line e.line (λ r. begins_to_fail (at_program l d) line) k (sym (rw (free, fails) refl) ∙ next) in
              inr (inl (more_ended e es (failing_ends (failure_steps l.image l.held) es (begins_to_fail (at_program l d) line) c line refl (failure_gone l.image l.held) (m, subst (λ q. Walk Ls (q e.reply) es m) (sym s.2) w, n, h) o))))
          | inr other ↦ elim (cases_Bool (is_full l)) [
            | inl full ↦ (
                let s = same_asks (asking.LimitWords l.words) e.ask line e.line (λ r. comes_to_end (at_program l d)) k (sym (rw (free, other, full) refl) ∙ next) in
                inr (inl (one_ended e es (over_says_nothing es (comes_to_end (at_program l d)) m refl (subst (λ q. Walk Ls (q e.reply) es m) (sym s.2) w)) (subst (λ b. EndsImage b e.reply) s.0 tt))))
            | inr room ↦ elim (cases_Bool (counts_words a)) [
              | inl counts ↦ (
                  let s = same_asks a e.ask line e.line (λ r. goes_past (at_program l d) a r (j r)) k (sym (rw (free, other, room, counts) refl) ∙ next) in
                  let later = goes_past (at_program l d) a e.reply (j e.reply) in
                  program_more e es x d j to (own_ask s.0 s.1) (subst (λ b. is_failure b ≡ false) s.0 other)
                  (more later (j e.reply) (m, subst (λ q. Walk Ls (q e.reply) es m) (sym s.2) w, n, h)))
              | inr silent ↦ (
                  let s = same_asks a e.ask line e.line (λ r. comes_to_end (at_program l d)) k (sym (rw (free, other, room, silent) refl) ∙ next) in
                  let none = over_says_nothing es (comes_to_end (at_program l d)) m refl (subst (λ q. Walk Ls (q e.reply) es m) (sym s.2) w) in
                  program_last e es x d j to (own_ask s.0 s.1) none (subst (λ b. is_failure b ≡ false) s.0 other) (subst (λ b. counts_words b ≡ false) s.0 silent))
            ]
          ]
        ]
      ]
        where
          own_ask : a ≡ e.ask → line ≡ e.line → step d ≡ asks e.ask e.line j
          own_ask p q = at ∙ ap (λ b. asks b line j) p ∙ ap (λ z. asks e.ask z j) q

      by_move : (v : Move C Ask Reply) (d : C) → step d ≡ v → Comes step x (goes d) → program_next (at_program l d) v ≡ asks e.ask e.line k → ((q : OnLane C) (y : C) → WalkTo Ls (at_program q y) es c → Ended y es) → Ended x (e ∷ es)
      by_move (goes y) d at to next more = absurd (cc)
      by_move (asks a line j) d at to next more = by_ask d to a line j at next more
      by_move over d at to next more = absurd (cc)

  none_failed : (before : List (Said Ask Reply)) (e : Said Ask Reply) → NoneFails (before ++ e ∷ []) → e.ask ≡ asking.Fail → ⊥
  none_failed [] e h f = absurd (false≢true (sym h.0 ∙ ap is_failure f))
  none_failed (x ∷ before) e h f = none_failed before e h.1 f

  pub lane_over : (image fails_at limit : ℕ) (first : C) → GoesInOrder step first → EndsInOrder step first → (es : List (Said Ask Reply)) (c : OnLane C) → AllAnswer Answers es → WalkTo Ls (lane_start image fails_at limit first) es c → IsOver (Ls c) → HasEndedBy es
  lane_over image fails_at limit first order ends es c answers w o = elim (lane_ends es (lane_start image fails_at limit first) c first w o) [
    | inl (to, walked, over_there, none) ↦ elim (ends es to answers walked over_there) [
      | inl ended ↦ ended
      | inr (before, e, same, f) ↦ absurd (none_failed before e (subst NoneFails same none) f)
    ]
    | inr (inl ended) ↦ ended
    | inr (inr (to, walked, silent)) ↦ silent_ended es (owing None) (order es to answers walked) silent
  ]

  pub lane_orderly : (image fails_at limit : ℕ) (first : C) → GoesInOrder step first → IsOrderly Ls (lane_start image fails_at limit first)
  lane_orderly image fails_at limit first g = record {
    joins = λ es c answers w. lane_joins step first g image fails_at limit es c answers w;
    nothing_after = λ es c answers w. lane_nothing_after step first g image fails_at limit es c answers w;
    no_stamp_limit = λ es c answers w. lane_no_stamp step first g image fails_at limit es c answers w;
  }
