-- Lanes over a program whose walks are in order.
use Rattle.std.proofs.Common.{◌≡◌, ℕ, List, [], ◌∷◌, ◌++◌, inl, inr, refl, sym, ◌∙◌, subst, ap}
use Rattle.std.specs.Prelude.{◌⊎◌, Option, None, Some, map, pos}
use Rattle.caf_events.specs.declared.ask.Ask.{Ask}
use Rattle.caf_events.specs.declared.ask.Ask.TheVariants as asks
use Rattle.caf_events.specs.declared.reply.Reply.{Reply}
use Rattle.caf_events.specs.declared.reply.Reply.TheVariants as replies
use Rattle.caf_events.specs.Answers.{Answers}
use Rattle.caf_events.specs.Events.{EndsImage}
use Rattle.trace_theory.specs.Entries.{Each}
use Rattle.trace_theory.specs.Machines.{Move, asks, Said, Walk, WalkTo}
use Rattle.trace_theory.specs.Simulations.{AllAnswer}
use Rattle.trace_theory.proofs.Machines.{walk_to_more}
use Rattle.core_runs.specs.Failures.{LockPlace, release_of, failure_steps, FailsFrom}
use Rattle.core_runs.specs.Sequences.{departure_after, FollowsOn, IsDeparture, CutsShort, IsStampLimit, JoinsBehind, Joins, NothingAfterEnd}
use Rattle.image_lanes.specs.Lanes.{OnLane, lane_step, lane_start}
use Rattle.image_lanes.specs.Courses.{AreAt, after_step, lane_past, Fails, IsLimited, Course}
use Rattle.image_lanes.proofs.CourseLaws.{course_of}
use Rattle.image_lanes.proofs.FailureLaws.{course_fails}
use Rattle.program_walks.specs.Dues.{Due, ended, owing, MayCome, InOrder, GoesInOrder}
use Rattle.program_walks.proofs.Lists.{due_behind, order_rest, JoinsDue, joins_due_none, joins_on, EndsLast, nothing_after, ends_on, no_stamp, no_later}

-- an ask that no reply answers would never be heard; each is answered by one
pub an_answer : (a : Ask) → (r : Reply) × Answers a r
an_answer (asks.Read o s) = (replies.Dead, tt)
an_answer (asks.Write o s vs) = (replies.Done, tt)
an_answer (asks.Create o c n) = (replies.Done, tt)
an_answer (asks.Delete o c) = (replies.Done, tt)
an_answer (asks.Atomic o op s x y) = (replies.Dead, tt)
an_answer (asks.Lock o s) = (replies.Absent, tt)
an_answer (asks.TryLock o s) = (replies.Absent, tt)
an_answer (asks.Unlock o s) = (replies.Absent, tt)
an_answer (asks.Post o s) = (replies.Absent, tt)
an_answer (asks.Wait o s n) = (replies.Number (pos 0), tt)
an_answer (asks.Query o s) = (replies.Count 0, tt)
an_answer (asks.Mark o) = (replies.Done, tt)
an_answer (asks.Free o s) = (replies.Done, tt)
an_answer (asks.Arrive t k) = (replies.Round 0, tt)
an_answer (asks.Leave t n) = (replies.Left (pos 0) [], tt)
an_answer (asks.Gather t op root kind vs) = (replies.Round 0, tt)
an_answer (asks.Take t n) = (replies.Taken (pos 0) [], tt)
an_answer (asks.Pair js) = (replies.Done, tt)
an_answer asks.Unpair = (replies.Number (pos 0), tt)
an_answer (asks.Enter n) = (replies.Number (pos 0), tt)
an_answer (asks.Exit n) = (replies.Done, tt)
an_answer asks.Gone = (replies.Done, tt)
an_answer (asks.Stop code) = (replies.Done, tt)
an_answer (asks.Failed t) = (replies.Indices [], tt)
an_answer (asks.Stopped t) = (replies.Indices [], tt)
an_answer (asks.Status t n) = (replies.Number (pos 0), tt)
an_answer (asks.Print text) = (replies.Done, tt)
an_answer asks.Memory = (replies.Done, tt)
an_answer asks.Fail = (replies.Done, tt)
an_answer (asks.ErrorStop code) = (replies.Done, tt)
an_answer (asks.Fault kind) = (replies.Done, tt)
an_answer (asks.LimitStatements n) = (replies.Done, tt)
an_answer (asks.LimitWords n) = (replies.Done, tt)
an_answer (asks.LimitStamp n) = (replies.Done, tt)

answers_front : (xs ys : List (Said Ask Reply)) → AllAnswer Answers (xs ++ ys) → AllAnswer Answers xs
answers_front [] ys h = tt
answers_front (x ∷ xs) ys h = (h.0, answers_front xs ys h.1)

pub answers_more : (xs : List (Said Ask Reply)) (e : Said Ask Reply) → AllAnswer Answers xs → Answers e.ask e.reply → AllAnswer Answers (xs ++ e ∷ [])
answers_more [] e h k = (k, tt)
answers_more (x ∷ xs) e h k = (h.0, answers_more xs e h.1 k)

each_append : (P : Said Ask Reply → Type 0) (xs ys : List (Said Ask Reply)) → Each P xs → Each P ys → Each P (xs ++ ys)
each_append P [] ys h k = k
each_append P (x ∷ xs) ys h k = (h.0, each_append P xs ys h.1 k)

-- ---- the steps of a failure behind the first one
abbrev IsLater : Ask → Type 0
IsLater (asks.Mark o) = Unit {0}
IsLater (asks.Free o s) = Unit {0}
IsLater asks.Gone = Unit {0}
IsLater a = ⊥

abbrev AreLater : List Ask → Type 0
AreLater [] = Unit {0}
AreLater (a ∷ as_) = IsLater a × ((r : Reply) → EndsImage a r → as_ ≡ []) × AreLater as_

releases : (held : List LockPlace) → AreLater (map release_of held ++ asks.Gone ∷ [])
releases [] = (tt, λ r h. refl, tt)
releases (p ∷ ps) = (tt, λ r h. absurd h, releases ps)

are_later : (image : ℕ) (held : List LockPlace) → AreLater (failure_steps image held)
are_later image held = (tt, λ r h. absurd h, releases held)

later_free : (a : Ask) → IsLater a → IsDeparture a → ⊥
later_free (asks.Mark o) h d = d
later_free (asks.Free o s) h d = d
later_free asks.Gone h d = d
later_free a h d = h

no_departure : (a : Ask) (r : Reply) → IsLater a → departure_after a r ≡ None
no_departure (asks.Mark o) r h = refl
no_departure (asks.Free o s) r h = refl
no_departure asks.Gone r h = refl
no_departure a r h = absurd h

later_join : (line : ℕ) (steps : List Ask) (es : List (Said Ask Reply)) → AreLater steps → AreAt line steps es → JoinsBehind None es
later_join line steps [] l h = tt
later_join line [] (e ∷ es) l h = absurd h
later_join line (a ∷ as_) (e ∷ es) l h =
    let later = subst IsLater (sym h.0) l.0 in
    (later_free e.ask later, subst (λ o. JoinsBehind o es) (sym (no_departure e.ask e.reply later)) (later_join line as_ es l.2 h.2))

none_at : (line : ℕ) (es : List (Said Ask Reply)) → AreAt line [] es → es ≡ []
none_at line [] h = refl
none_at line (e ∷ es) h = absurd h

later_end : (line : ℕ) (steps : List Ask) (es : List (Said Ask Reply)) → AreLater steps → AreAt line steps es → EndsLast es
later_end line steps [] l h = tt
later_end line [] (e ∷ es) l h = absurd h
later_end line (a ∷ as_) (e ∷ es) l h =
    (λ ends. none_at line es (subst (λ ss. AreAt line ss es) (l.1 e.reply (subst (λ b. EndsImage b e.reply) h.0 ends)) h.2), later_end line as_ es l.2 h.2)

later_stamp : (a : Ask) → IsLater a → IsStampLimit a → ⊥
later_stamp (asks.LimitStamp n) h k = h
later_stamp a h k = k

later_no_stamp : (line : ℕ) (steps : List Ask) (es : List (Said Ask Reply)) → AreLater steps → AreAt line steps es → Each (λ e. IsStampLimit e.ask → ⊥) es
later_no_stamp line steps [] l h = tt
later_no_stamp line [] (e ∷ es) l h = absurd h
later_no_stamp line (a ∷ as_) (e ∷ es) l h = (later_stamp e.ask (subst IsLater (sym h.0) l.0), later_no_stamp line as_ es l.2 h.2)

cut_short : (o : Option Ask) (a : Ask) → CutsShort a → (IsDeparture a → ⊥) → FollowsOn o a
cut_short None a h k = k
cut_short (Some d) a h k = inr h

-- what stands behind the program's steps: nothing, a failure or a limit
record Tail (due : Due) (es : List (Said Ask Reply)) : Type 0 where
  joins : JoinsDue due es
  none : due ≡ ended → es ≡ []
  ends : EndsLast es
  no_stamp_limit : Each (λ e. IsStampLimit e.ask → ⊥) es

not_ended : (o : Option Ask) → owing o ≡ ended → ⊥
not_ended o h = absurd (cc)

no_tail : (due : Due) → Tail due []
no_tail due = record { joins = joins_due_none due; none = λ e. refl; ends = tt; no_stamp_limit = tt }

module _ {C : Type 0} (step : C → Move C Ask Reply) where
  failure_tail : (l : OnLane C) (o : Option Ask) (es : List (Said Ask Reply)) → Fails step l es → Tail (owing o) es
  failure_tail l o es f =
      let later = are_later l.image l.held in
      subst (Tail (owing o)) (sym f.all) (record {
        joins = (cut_short o asks.Fail tt (λ x. x), later_join f.line (failure_steps l.image l.held) f.rest later f.steps);
        none = λ e. absurd (not_ended o e);
        ends = (λ h. absurd h, later_end f.line (failure_steps l.image l.held) f.rest later f.steps);
        no_stamp_limit = (λ x. x, later_no_stamp f.line (failure_steps l.image l.held) f.rest later f.steps);
      })

  limit_tail : (l : OnLane C) (o : Option Ask) (es : List (Said Ask Reply)) → IsLimited step l es → Tail (owing o) es
  limit_tail l o es f = subst (Tail (owing o)) (sym f.all) (record {
    joins = (cut_short o (asks.LimitWords l.words) tt (λ x. x), tt);
    none = λ e. absurd (not_ended o e);
    ends = (λ h. refl, tt);
    no_stamp_limit = (λ x. x, tt);
  })

  past_program : (ws : List (Said Ask Reply)) (l : OnLane C) (to : C) → (lane_past l ws to).program ≡ to
  past_program [] l to = refl
  past_program (w ∷ ws) l to = past_program ws (after_step l w) to

  owing_of : (d : Due) (a : Ask) → MayCome d a → (o : Option Ask) × (d ≡ owing o)
  owing_of ended a h = absurd h
  owing_of (owing o) a h = (o, refl)

  module _ (first : C) (g : GoesInOrder step first) where
    -- where the program stands at an ask it hasn't ended
    owes : (ws : List (Said Ask Reply)) (to : C) → AllAnswer Answers ws → WalkTo step first ws to → (line : ℕ) (k : Reply → C) (a : Ask) → step to ≡ asks a line k → (o : Option Ask) × (due_behind (owing None) ws ≡ owing o)
    owes ws to answers w line k a at =
        let r = an_answer a in
        let e : Said Ask Reply = record { ask = a; reply = r.0; line = line } in
        let w' = walk_to_more C Ask Reply step first to (k r.0) ws e k w at 0 refl in
        owing_of (due_behind (owing None) ws) a (order_rest ws (e ∷ []) (owing None) (g (ws ++ e ∷ []) w'.0 (answers_more ws e answers r.1) w'.1)).0

    tail_of : (l : OnLane C) (ws rest : List (Said Ask Reply)) (to : C) → AllAnswer Answers ws → WalkTo step first ws to
        → ((rest ≡ []) ⊎ (Fails step (lane_past l ws to) rest ⊎ IsLimited step (lane_past l ws to) rest)) → Tail (due_behind (owing None) ws) rest
    tail_of l ws rest to answers w (inl none) = subst (Tail (due_behind (owing None) ws)) (sym none) (no_tail (due_behind (owing None) ws))
    tail_of l ws rest to answers w (inr (inl f)) =
        let p = f.place in
        let o = owes ws to answers w p.0 p.1 p.2 (ap step (sym (past_program ws l to)) ∙ p.3) in
        subst (λ d. Tail d rest) (sym o.1) (failure_tail (lane_past l ws to) o.0 rest f)
    tail_of l ws rest to answers w (inr (inr f)) =
        let p = f.place in
        let o = owes ws to answers w f.line p.0 p.1 (ap step (sym (past_program ws l to)) ∙ p.2) in
        subst (λ d. Tail d rest) (sym o.1) (limit_tail (lane_past l ws to) o.0 rest f)

    module _ (image fails_at limit : ℕ) (es : List (Said Ask Reply)) (c : OnLane C) (answers : AllAnswer Answers es) (w : Walk (lane_step step) (lane_start image fails_at limit first) es c) where
      course : Course step (lane_start image fails_at limit first) es
      course = course_of step es (lane_start image fails_at limit first) c first w

      walked_answers : AllAnswer Answers course.walked
      walked_answers = answers_front course.walked course.rest (subst (AllAnswer Answers) course.all answers)

      in_order : InOrder (owing None) course.walked
      in_order = g course.walked course.walks.0 walked_answers course.walks.1

      tail : Tail (due_behind (owing None) course.walked) course.rest
      tail = tail_of (lane_start image fails_at limit first) course.walked course.rest course.to walked_answers course.walks course.ends

      pub lane_joins : Joins es
      lane_joins = subst Joins (sym course.all) (joins_on course.walked course.rest (owing None) in_order tail.joins)

      pub lane_nothing_after : NothingAfterEnd es
      lane_nothing_after = nothing_after es (subst EndsLast (sym course.all) (ends_on course.walked course.rest (owing None) in_order tail.none tail.ends))

      pub lane_no_stamp : Each (λ e. IsStampLimit e.ask → ⊥) es
      lane_no_stamp =
          subst (Each (λ (e : Said Ask Reply). IsStampLimit e.ask → ⊥)) (sym course.all)
          (each_append (λ e. IsStampLimit e.ask → ⊥) course.walked course.rest (no_stamp course.walked (owing None) in_order) tail.no_stamp_limit)

      pub lane_fails : FailsFrom image es []
      lane_fails = course_fails step (lane_start image fails_at limit first) es course (no_later course.walked (owing None) in_order)
