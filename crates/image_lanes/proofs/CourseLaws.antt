-- A walk of a lane has the course that the lists' words say.
use Rattle.std.proofs.Common.{◌≡◌, ℕ, zero, suc, ◌+◌, ◌-◌, true, false, List, [], ◌∷◌, inl, inr, refl, ap, sym, ◌∙◌, subst}
use Rattle.std.specs.Prelude.{◌⊎◌}
use Rattle.std.proofs.lemmas.Bool.{cases_Bool}
use Rattle.caf_events.specs.declared.ask.Ask.{Ask}
use Rattle.caf_events.specs.declared.ask.Ask.TheVariants as asking
use Rattle.caf_events.specs.declared.reply.Reply.{Reply}
use Rattle.trace_theory.specs.Machines.{Move, goes, asks, over, Said, go, goes_on, Comes, Walk, WalkTo}
use Rattle.caf_events.specs.Events.{counts_words, words_by}
use Rattle.image_lanes.specs.Lanes.{failing, at_end, OnLane, is_due, is_full, is_failure, begins_to_fail, comes_to_end, goes_past, fails_on, program_next, lane_step}
use Rattle.core_runs.specs.Failures.{failure_steps, held_after}
use Rattle.image_lanes.specs.Courses.{AreAt, after_step, lane_past, NoneDue, Fails, IsLimited, Course}
use Rattle.trace_theory.proofs.Machines.{go_more}
use Rattle.image_lanes.proofs.LaneLaws.{at_program, an_ask}

module _ {C : Type 0} (step : C → Move C Ask Reply) where
  -- ---- a lane in a failure says the steps that are left
  first_is : (n : ℕ) (l : OnLane C) (a : Ask) (as_ : List Ask) (line : ℕ) (b : Ask) (m : ℕ) (k : Reply → OnLane C) → l.course ≡ failing (a ∷ as_) line → go (lane_step step) n l ≡ asks b m k
      → (b ≡ a) × (m ≡ line) × (k ≡ (λ r. fails_on l as_ line))
  first_is zero l a as_ line b m k c h = absurd (cc)
  first_is (suc n) l a as_ line b m k c h =
      let e : ◌≡◌ {A = Move (OnLane C) Ask Reply} (asks a line (λ r. fails_on l as_ line)) (asks b m k) = sym (rw c refl) ∙ h in
      (cc, cc, cc)

  pub failing_walk : (es : List (Said Ask Reply)) (l m : OnLane C) (steps : List Ask) (line : ℕ) → l.course ≡ failing steps line → Walk (lane_step step) l es m → AreAt line steps es
  failing_walk [] l m steps line c w = tt
  failing_walk (e ∷ es) l m [] line c w = absurd (none w.1.0 w.1.1)
    where
      none : (n : ℕ) → go (lane_step step) n l ≡ asks e.ask e.line w.0 → ⊥
      none zero h = absurd (cc)
      none (suc n) h = let x : ◌≡◌ {A = Move (OnLane C) Ask Reply} over (asks e.ask e.line w.0) = sym (rw c refl) ∙ h in absurd (cc)
  failing_walk (e ∷ es) l m (a ∷ as_) line c w =
      let f = first_is w.1.0 l a as_ line e.ask e.line w.0 c w.1.1 in
      (f.0, f.1, failing_walk es (fails_on l as_ line) m as_ line refl (subst (λ k. Walk (lane_step step) (k e.reply) es m) f.2 w.2))

  -- a lane that is over says nothing
  ended_walk : (es : List (Said Ask Reply)) (l m : OnLane C) → l.course ≡ at_end → Walk (lane_step step) l es m → es ≡ []
  ended_walk [] l m c w = refl
  ended_walk (e ∷ es) l m c w = absurd (none w.1.0 w.1.1)
    where
      none : (n : ℕ) → go (lane_step step) n l ≡ asks e.ask e.line w.0 → ⊥
      none zero h = absurd (cc)
      none (suc n) h = let x : ◌≡◌ {A = Move (OnLane C) Ask Reply} over (asks e.ask e.line w.0) = sym (rw c refl) ∙ h in absurd (cc)

  -- ---- a lane comes to an ask where its program comes to one
  record Reached (l : OnLane C) (c : C) (a : Ask) (line : ℕ) (k : Reply → OnLane C) : Type 0 where
    count : ℕ
    there : C
    walks : go step count c ≡ goes there
    asked : program_next (at_program l there) (step there) ≡ asks a line k

  asks_stays : (l : OnLane C) (a : Ask) (line : ℕ) (k : Reply → C) (f : OnLane C → Move (OnLane C) Ask Reply) → goes_on (program_next l (asks a line k)) f ≡ program_next l (asks a line k)
  asks_stays l a line k f = (let e = an_ask step l a line k in rw e.3 refl)

  reach_by : (n : ℕ) (l : OnLane C) (c : C) (a : Ask) (line : ℕ) (k : Reply → OnLane C) (mv : Move C Ask Reply) → step c ≡ mv → goes_on (program_next (at_program l c) mv) (go (lane_step step) n) ≡ asks a line k
      → ((d : C) → go (lane_step step) n (at_program l d) ≡ asks a line k → Reached l d a line k) → Reached l c a line k
  reach_by n l c a line k (goes d) e h next =
      let r = next d h in
      record { count = suc r.count; there = r.there; walks = ap (λ m. goes_on m (go step r.count)) e ∙ r.walks; asked = r.asked }
  reach_by n l c a line k (asks b m j) e h next = record { count = 0; there = c; walks = refl; asked = ap (program_next (at_program l c)) e ∙ sym (asks_stays (at_program l c) b m j (go (lane_step step) n)) ∙ h }
  reach_by n l c a line k over e h next = absurd (cc)

  reach : (n : ℕ) (l : OnLane C) (c : C) (a : Ask) (line : ℕ) (k : Reply → OnLane C) → go (lane_step step) n (at_program l c) ≡ asks a line k → Reached l c a line k
  reach zero l c a line k h = absurd (cc)
  reach (suc n) l c a line k h = reach_by n l c a line k (step c) refl h (λ d e. reach n l d a line k e)

  same_asks : (a b : Ask) (l m : ℕ) (j k : Reply → OnLane C) → ◌≡◌ {A = Move (OnLane C) Ask Reply} (asks a l j) (asks b m k) → (a ≡ b) × (l ≡ m) × (j ≡ k)
  same_asks a b l m j k h = (cc, cc, cc)

  one_ask : (a b : Ask) (l : ℕ) (j k : Reply → C) → ◌≡◌ {A = Move C Ask Reply} (asks a l j) (asks b l k) → a ≡ b
  one_ask a b l j k h = cc

  said_is : (e : Said Ask Reply) (a : Ask) (line : ℕ) → a ≡ e.ask → line ≡ e.line → ◌≡◌ {A = Said Ask Reply} e (record { ask = a; reply = e.reply; line = line })
  said_is e a line p q = sym (ap (λ (b : Ask). let s : Said Ask Reply = record { ask = b; reply = e.reply; line = line } in s) p ∙ ap (λ (m : ℕ). let s : Said Ask Reply = record { ask = e.ask; reply = e.reply; line = m } in s) q)

  comes_on : (p : ℕ) (c d : C) (a : Ask) (line : ℕ) (k : Reply → C) → go step p c ≡ goes d → step d ≡ asks a line k → Comes step c (asks a line k)
  comes_on p c d a line k g s = (p + 1, go_more C Ask Reply step p 1 c ∙ ap (λ m. goes_on m (go step 1)) g ∙ ap (λ m. goes_on m (go step 0)) s)

  nothing_walked : (p : ℕ) (c d : C) → go step p c ≡ goes d → WalkTo step c [] d
  nothing_walked p c d g = (c, refl, p, g)

  -- ---- the next event and what follows it
  module _ (e : Said Ask Reply) (es : List (Said Ask Reply)) (m : OnLane C) (l : OnLane C) (c d : C) (p : ℕ) (g : go step p c ≡ goes d) where
    failed : (k : Reply → OnLane C) (line : ℕ) → asking.Fail ≡ e.ask → line ≡ e.line → ((λ r. begins_to_fail (at_program l d) line) ≡ k) → Walk (lane_step step) (k e.reply) es m
        → (((is_due l ≡ true) × (line ≡ 0)) ⊎ ((is_due l ≡ false) × (j : Reply → C) × (a : Ask) × (step d ≡ asks a line j) × (is_failure a ≡ true))) → ((n : ℕ) × (j : Reply → C) × (a : Ask) × (step d ≡ asks a n j)) → Course step (at_program l c) (e ∷ es)
    failed k line a b ks w cause place = record {
      walked = [];
      rest = e ∷ es;
      to = d;
      all = refl;
      walks = nothing_walked p c d g;
      none_due = tt;
      recorded = tt;
      ends = inr (inl (record {
        line = line;
        reply = e.reply;
        rest = es;
        all = ap (λ s. s ∷ es) (said_is e asking.Fail line a b);
        place = place;
        cause = cause;
        steps = failing_walk es (begins_to_fail (at_program l d) line) m (failure_steps l.image l.held) line refl (subst (λ q. Walk (lane_step step) (q e.reply) es m) (sym ks) w);
      }));
    }

    by_ask : (k : Reply → OnLane C) (a : Ask) (line : ℕ) (j : Reply → C) → step d ≡ asks a line j → program_next (at_program l d) (asks a line j) ≡ asks e.ask e.line k → Walk (lane_step step) (k e.reply) es m
        → ((q : OnLane C) (x : C) → Walk (lane_step step) (at_program q x) es m → Course step (at_program q x) es) → Course step (at_program l c) (e ∷ es)
    by_ask k a line j s h w next = elim (cases_Bool (is_due l)) [
      | inl due ↦ (
          let i = same_asks asking.Fail e.ask 0 e.line (λ r. begins_to_fail (at_program l d) 0) k (sym (rw due refl) ∙ h) in
          failed k 0 i.0 i.1 i.2 w (inl (due, refl)) (line, j, a, s))
      | inr free ↦ elim (cases_Bool (is_failure a)) [
        | inl fails ↦ (
            let i = same_asks asking.Fail e.ask line e.line (λ r. begins_to_fail (at_program l d) line) k (sym (rw (free, fails) refl) ∙ h) in
            failed k line i.0 i.1 i.2 w (inr (free, j, a, s, fails)) (line, j, a, s))
        | inr goes_on_ ↦ elim (cases_Bool (is_full l)) [
          | inl full ↦ (
              let i = same_asks (asking.LimitWords l.words) e.ask line e.line (λ r. comes_to_end (at_program l d)) k (sym (rw (free, goes_on_, full) refl) ∙ h) in
              let none = ended_walk es (comes_to_end (at_program l d)) m refl (subst (λ q. Walk (lane_step step) (q e.reply) es m) (sym i.2) w) in
              record {
                walked = [];
                rest = e ∷ es;
                to = d;
                all = refl;
                walks = nothing_walked p c d g;
                none_due = tt;
                recorded = tt;
                ends = inr (inr (record {
                  line = line;
                  reply = e.reply;
                  all = ap (λ q. q ∷ es) (said_is e (asking.LimitWords l.words) line i.0 i.1) ∙ ap (λ q. record { ask = asking.LimitWords l.words; reply = e.reply; line = line } ∷ q) none;
                  full = full;
                  not_due = free;
                  place = (j, a, s);
                  no_failure = λ q b t. subst (λ x. is_failure x ≡ false) (one_ask a b line j q (sym s ∙ t)) goes_on_;
                }));
              })
          | inr room ↦ elim (cases_Bool (counts_words a)) [
            | inl counts ↦ (
                let i = same_asks a e.ask line e.line (λ r. goes_past (at_program l d) a r (j r)) k (sym (rw (free, goes_on_, room, counts) refl) ∙ h) in
                let after : OnLane C = record l { fails_in = l.fails_in - 1; words = l.words + words_by e.ask e.reply; held = held_after l.held e.ask e.reply } in
                let here : Walk (lane_step step) (at_program after (j e.reply)) es m = subst (λ b. Walk (lane_step step) (goes_past (at_program l d) b e.reply (j e.reply)) es m) i.0 (subst (λ q. Walk (lane_step step) (q e.reply) es m) (sym i.2) w) in
                let rest = next after (j e.reply) here in
                let w2 = rest.walks in
                record {
                  walked = e ∷ rest.walked;
                  rest = rest.rest;
                  to = rest.to;
                  all = ap (λ q. e ∷ q) rest.all;
                  walks = (w2.0, (j, comes_on p c d e.ask e.line j g (own_ask i.0 i.1), w2.1), w2.2, w2.3);
                  none_due = (free, subst (λ b. is_failure b ≡ false) i.0 goes_on_, room, none_same after (j e.reply) rest.walked rest.none_due);
                  recorded = (inl (subst (λ b. counts_words b ≡ true) i.0 counts), rest.recorded);
                  ends = past_same after (j e.reply) rest.walked rest.to rest.rest rest.ends;
                })
            | inr silent ↦ (
                let i = same_asks a e.ask line e.line (λ r. comes_to_end (at_program l d)) k (sym (rw (free, goes_on_, room, silent) refl) ∙ h) in
                let none = ended_walk es (comes_to_end (at_program l d)) m refl (subst (λ q. Walk (lane_step step) (q e.reply) es m) (sym i.2) w) in
                record {
                  walked = e ∷ [];
                  rest = [];
                  to = j e.reply;
                  all = ap (λ q. e ∷ q) none;
                  walks = (j e.reply, (j, comes_on p c d e.ask e.line j g (own_ask i.0 i.1), refl), 0, refl);
                  none_due = (free, subst (λ b. is_failure b ≡ false) i.0 goes_on_, room, tt);
                  recorded = (inr (refl, refl), tt);
                  ends = inl refl;
                })
          ]
        ]
      ]
    ]
      where
        own_ask : a ≡ e.ask → line ≡ e.line → step d ≡ asks e.ask e.line j
        own_ask x y = s ∙ ap (λ b. asks b line j) x ∙ ap (λ n. asks e.ask n j) y

        no_program : (q : OnLane C) (x y : C) (ws : List (Said Ask Reply)) (to : C) → lane_past (at_program q x) ws to ≡ lane_past (at_program q y) ws to
        no_program q x y [] to = refl
        no_program q x y (w ∷ ws) to = no_program (record q { fails_in = q.fails_in - 1; words = q.words + words_by w.ask w.reply; held = held_after q.held w.ask w.reply }) x y ws to

        none_same : (q : OnLane C) (x : C) (ws : List (Said Ask Reply)) → NoneDue (at_program q x) ws → NoneDue (at_program q c) ws
        none_same q x [] h = tt
        none_same q x (w ∷ ws) h = (h.0, h.1, h.2, none_same (after_step q w) x ws h.3)

        past_same : (q : OnLane C) (x : C) (ws : List (Said Ask Reply)) (to : C) (ts : List (Said Ask Reply)) → ((ts ≡ []) ⊎ (Fails step (lane_past (at_program q x) ws to) ts ⊎ IsLimited step (lane_past (at_program q x) ws to) ts))
            → ((ts ≡ []) ⊎ (Fails step (lane_past (at_program q c) ws to) ts ⊎ IsLimited step (lane_past (at_program q c) ws to) ts))
        past_same q x ws to ts ends = subst (λ z. (ts ≡ []) ⊎ (Fails step z ts ⊎ IsLimited step z ts)) (no_program q x c ws to) ends

    by_move : (k : Reply → OnLane C) (mv : Move C Ask Reply) → step d ≡ mv → program_next (at_program l d) mv ≡ asks e.ask e.line k → Walk (lane_step step) (k e.reply) es m
        → ((q : OnLane C) (x : C) → Walk (lane_step step) (at_program q x) es m → Course step (at_program q x) es) → Course step (at_program l c) (e ∷ es)
    by_move k (goes x) s h w next = absurd (cc)
    by_move k (asks a line j) s h w next = by_ask k a line j s h w next
    by_move k over s h w next = absurd (cc)

  -- a walk of a lane has a course
  pub course_of : (es : List (Said Ask Reply)) (l m : OnLane C) (c : C) → Walk (lane_step step) (at_program l c) es m → Course step (at_program l c) es
  course_of [] l m c w = record { walked = []; rest = []; to = c; all = refl; walks = nothing_walked 0 c c refl; none_due = tt; recorded = tt; ends = inl refl }
  course_of (e ∷ es) l m c w =
      let r = reach w.1.0 l c e.ask e.line w.0 w.1.1 in
      by_move e es m l c r.there r.count r.walks w.0 (step r.there) refl r.asked w.2 (λ q x v. course_of es q m x v)
