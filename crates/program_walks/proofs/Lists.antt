-- Lists that are in order, in the words of runs.
use Rattle.std.proofs.Common.{◌≡◌, true, false, List, [], ◌∷◌, ◌++◌, inl, inr, refl, sym, ◌∙◌, subst, ap}
use Rattle.std.specs.Prelude.{◌||◌, not, None}
use Rattle.std.proofs.lemmas.Bool.{cases_Bool}
use Rattle.caf_events.specs.declared.ask.Ask.{Ask}
use Rattle.caf_events.specs.declared.ask.Ask.TheVariants as asks
use Rattle.caf_events.specs.declared.reply.Reply.{Reply}
use Rattle.caf_events.specs.declared.reply.Reply.TheVariants as replies
use Rattle.caf_events.specs.Events.{EndsImage}
use Rattle.trace_theory.specs.Entries.{Each}
use Rattle.trace_theory.specs.Machines.{Move, Said}
use Rattle.core_runs.specs.Failures.{is_failure_step}
use Rattle.core_runs.specs.Sequences.{departure_after, IsStampLimit, JoinsBehind, Joins, NothingAfterEnd}
use Rattle.image_lanes.specs.Lanes.{is_failure}
use Rattle.image_lanes.specs.Courses.{NoLaterSteps}
pub use Rattle.program_walks.specs.Dues.{due_behind}
use Rattle.program_walks.specs.Dues.{Due, ended, owing, is_last, due_after, IsOfProgram, MayCome, InOrder, GoesInOrder}
use Rattle.program_walks.specs.Ordered.{IsOrdered}

pub order_front : (xs ys : List (Said Ask Reply)) (d : Due) → InOrder d (xs ++ ys) → InOrder d xs
order_front [] ys d h = tt
order_front (x ∷ xs) ys d h = (h.0, order_front xs ys (due_after x.ask x.reply) h.1)

pub order_rest : (xs ys : List (Said Ask Reply)) (d : Due) → InOrder d (xs ++ ys) → InOrder (due_behind d xs) ys
order_rest [] ys d h = h
order_rest (x ∷ xs) ys d h = order_rest xs ys (due_after x.ask x.reply) h.1

after_last : (a : Ask) (r : Reply) → is_last a r ≡ true → due_after a r ≡ ended
after_last a r h = rw h refl

after_other : (a : Ask) (r : Reply) → is_last a r ≡ false → due_after a r ≡ owing (departure_after a r)
after_other a r h = rw h refl

pub ended_none : (es : List (Said Ask Reply)) → InOrder ended es → es ≡ []
ended_none [] h = refl
ended_none (e ∷ es) h = absurd h.0

-- ---- arrivals and departures
-- from what is due on, arrivals have their departures
abbrev pub JoinsDue : Due → List (Said Ask Reply) → Type 0
JoinsDue ended es = es ≡ []
JoinsDue (owing o) es = JoinsBehind o es

pub joins_due_none : (d : Due) → JoinsDue d []
joins_due_none ended = refl
joins_due_none (owing o) = tt

join_one : (a : Ask) (r : Reply) (es : List (Said Ask Reply)) → JoinsDue (due_after a r) es → JoinsBehind (departure_after a r) es
join_one a r es h = elim (cases_Bool (is_last a r)) [
  | inl t ↦ (let none : es ≡ [] = subst (λ d. JoinsDue d es) (after_last a r t) h in subst (λ xs. JoinsBehind (departure_after a r) xs) (sym none) tt)
  | inr f ↦ subst (λ d. JoinsDue d es) (after_other a r f) h
]

pub joins_on : (xs ys : List (Said Ask Reply)) (d : Due) → InOrder d xs → JoinsDue (due_behind d xs) ys → JoinsDue d (xs ++ ys)
joins_on [] ys d h k = k
joins_on (x ∷ xs) ys ended h k = absurd h.0
joins_on (x ∷ xs) ys (owing o) h k = (h.0.0, join_one x.ask x.reply (xs ++ ys) (joins_on xs ys (due_after x.ask x.reply) h.1 k))

same_append : (xs : List (Said Ask Reply)) → xs ++ [] ≡ xs
same_append [] = refl
same_append (x ∷ xs) = ap (λ ys. x ∷ ys) (same_append xs)

order_joins : (es : List (Said Ask Reply)) → InOrder (owing None) es → Joins es
order_joins es h = subst Joins (same_append es) (joins_on es [] (owing None) h (joins_due_none (due_behind (owing None) es)))

-- ---- nothing behind the last step
pub ends_last : (a : Ask) (r : Reply) → EndsImage a r → is_last a r ≡ true
ends_last (asks.Stop code) r h = refl
ends_last asks.Gone r h = refl
ends_last (asks.ErrorStop code) r h = refl
ends_last (asks.Fault kind) r h = refl
ends_last (asks.LimitStatements n) r h = refl
ends_last (asks.LimitWords n) r h = refl
ends_last (asks.LimitStamp n) r h = refl
ends_last (asks.Arrive team arriving) (replies.Clash i l) h = refl
ends_last (asks.Gather team op root kind values) (replies.Clash i l) h = refl
ends_last a r h = absurd h

fail_last : (a : Ask) (r : Reply) → a ≡ asks.Fail → is_last a r ≡ true
fail_last a r h = rw h refl

pub nothing_behind : (before after : List (Said Ask Reply)) (e : Said Ask Reply) (d : Due) → InOrder d (before ++ e ∷ after) → is_last e.ask e.reply ≡ true → after ≡ []
nothing_behind [] after e d h l = ended_none after (subst (λ x. InOrder x after) (after_last e.ask e.reply l) h.1)
nothing_behind (x ∷ before) after e d h l = nothing_behind before after e (due_after x.ask x.reply) h.1 l

-- each step that ends the image is the list's last one
abbrev pub EndsLast : List (Said Ask Reply) → Type 0
EndsLast [] = Unit {0}
EndsLast (e ∷ es) = (EndsImage e.ask e.reply → es ≡ []) × EndsLast es

ends_at : (before after : List (Said Ask Reply)) (e : Said Ask Reply) → EndsLast (before ++ e ∷ after) → EndsImage e.ask e.reply → after ≡ []
ends_at [] after e h ends = h.0 ends
ends_at (x ∷ before) after e h ends = ends_at before after e h.1 ends

pub nothing_after : (es : List (Said Ask Reply)) → EndsLast es → NothingAfterEnd es
nothing_after es h before after e split ends = ends_at before after e (subst EndsLast split h) ends

pub ends_on : (xs ys : List (Said Ask Reply)) (d : Due) → InOrder d xs → (due_behind d xs ≡ ended → ys ≡ []) → EndsLast ys → EndsLast (xs ++ ys)
ends_on [] ys d h none k = k
ends_on (x ∷ xs) ys d h none k = (
  λ ends. (
      let due = after_last x.ask x.reply (ends_last x.ask x.reply ends) in
      let no_more = ended_none xs (subst (λ z. InOrder z xs) due h.1) in
      let here : due_behind (due_after x.ask x.reply) xs ≡ ended = ap (due_behind (due_after x.ask x.reply)) no_more ∙ due in
      ap (λ z. z ++ ys) no_more ∙ none here),
  ends_on xs ys (due_after x.ask x.reply) h.1 none k,
)

-- ---- the asks of a program
own_ask : (d : Due) (a : Ask) → MayCome d a → IsOfProgram a
own_ask ended a h = absurd h
own_ask (owing o) a h = h.1

pub each_own : (P : Said Ask Reply → Type 0) → ((e : Said Ask Reply) → IsOfProgram e.ask → P e) → (es : List (Said Ask Reply)) (d : Due) → InOrder d es → Each P es
each_own P f [] d h = tt
each_own P f (e ∷ es) d h = (f e (own_ask d e.ask h.0), each_own P f es (due_after e.ask e.reply) h.1)

no_stamp_ask : (a : Ask) → IsOfProgram a → IsStampLimit a → ⊥
no_stamp_ask (asks.LimitStamp n) p q = p
no_stamp_ask a p q = q

pub no_stamp : (es : List (Said Ask Reply)) (d : Due) → InOrder d es → Each (λ e. IsStampLimit e.ask → ⊥) es
no_stamp es d h = each_own (λ e. IsStampLimit e.ask → ⊥) (λ e. no_stamp_ask e.ask) es d h

no_later_ask : (a : Ask) → IsOfProgram a → (is_failure a || not (is_failure_step a)) ≡ true
no_later_ask (asks.Mark o) p = absurd p
no_later_ask (asks.Free o s) p = absurd p
no_later_ask asks.Gone p = absurd p
no_later_ask a p = refl

pub no_later : (es : List (Said Ask Reply)) (d : Due) → InOrder d es → NoLaterSteps es
no_later es d h = each_own (λ e. (is_failure e.ask || not (is_failure_step e.ask)) ≡ true) (λ e. no_later_ask e.ask) es d h

pub ordered : {C : Type 0} (step : C → Move C Ask Reply) (first : C) → GoesInOrder step first → IsOrdered step first
ordered step first g = record {
  joins = λ es c answers w. order_joins es (g es c answers w);
  nothing_after = λ es c answers w before after e split ends. nothing_behind before after e (owing None) (subst (InOrder (owing None)) split (g es c answers w)) (ends_last e.ask e.reply ends);
  fails_last = λ es c answers w before after e split fails. nothing_behind before after e (owing None) (subst (InOrder (owing None)) split (g es c answers w)) (fail_last e.ask e.reply fails);
  no_later_steps = λ es c answers w. no_later es (owing None) (g es c answers w);
  no_stamp_limit = λ es c answers w. no_stamp es (owing None) (g es c answers w);
}
