-- Which images have ended in a run in which no event ends it: those that have stopped or failed. One that waits has
-- done neither.
use Rattle.std.proofs.Common.{◌≡◌, ℕ, pos, Bool, true, false, nat_eq, ◌||◌, List, [], ◌∷◌, ◌++◌, ◌⊎◌, inl, inr, refl, ap, sym, ◌∙◌, subst}
use Rattle.std.specs.List.{list_any}
use Rattle.std.proofs.lemmas.Bool.{cases_Bool, eqb-true, eq-eqb}
use Rattle.caf_events.specs.declared.ask.Ask.{Ask}
use Rattle.caf_events.specs.declared.ask.Ask.TheVariants as asking
use Rattle.caf_events.specs.declared.reply.Reply.{Reply}
use Rattle.caf_events.specs.declared.reply.Reply.TheVariants as replies
use Rattle.caf_events.specs.declared.event.Entry.{Entry}
use Rattle.caf_events.specs.Answers.{Answers}
use Rattle.caf_events.specs.Events.{EndsBy, EndsRun, EndsImage}
use Rattle.caf_events.specs.Walkers.{AsksNext}
use Rattle.trace_theory.specs.Entries.{Each}
use Rattle.trace_theory.specs.Machines.{Move, goes, asks, over, Said}
use Rattle.trace_theory.proofs.Machines.{walk_to_more}
use Rattle.object_rules.specs.Happenings.{control, happened, has_ended, has_stopped, has_failed}
use Rattle.core_runs.specs.Beginnings.{Beginning}
use Rattle.core_runs.specs.CoreRuns.{IsCoreRun, IsFit, at_board, said_by}
use Rattle.core_runs.specs.Lists.{said}
use Rattle.core_runs.specs.Moments.{Rules}
use Rattle.core_runs.specs.Waits.{HasEndedIn, IsWaiting}
use Rattle.core_runs.proofs.Lawfuls.{answered_by}
use Rattle.program_walks.proofs.LaneOrder.{answers_more}
use Rattle.wait_chain.proofs.Ended.{happened_all, stops_by, fails_by, stopped_is, failed_is}

-- an ask has an answer
some_answer : (a : Ask) → (r : Reply) × Answers a r
some_answer (asking.Read o s) = (replies.Dead, tt)
some_answer (asking.Write o s vs) = (replies.Done, tt)
some_answer (asking.Create o c n) = (replies.Done, tt)
some_answer (asking.Delete o c) = (replies.Done, tt)
some_answer (asking.Atomic o op s x y) = (replies.Dead, tt)
some_answer (asking.Lock o s) = (replies.Absent, tt)
some_answer (asking.TryLock o s) = (replies.Absent, tt)
some_answer (asking.Unlock o s) = (replies.Absent, tt)
some_answer (asking.Post o s) = (replies.Absent, tt)
some_answer (asking.Wait o s n) = (replies.Number (pos 0), tt)
some_answer (asking.Query o s) = (replies.Count 0, tt)
some_answer (asking.Arrive t k) = (replies.Round 0, tt)
some_answer (asking.Leave t n) = (replies.Left (pos 0) [], tt)
some_answer (asking.Gather t op root kind vs) = (replies.Round 0, tt)
some_answer (asking.Take t n) = (replies.Taken (pos 0) [], tt)
some_answer asking.Unpair = (replies.Number (pos 0), tt)
some_answer (asking.Enter n) = (replies.Number (pos 0), tt)
some_answer (asking.Failed t) = (replies.Indices [], tt)
some_answer (asking.Stopped t) = (replies.Indices [], tt)
some_answer (asking.Status t n) = (replies.Number (pos 0), tt)
some_answer a = (replies.Done, tt)

-- an entry by which image i stops or fails
abbrev IsEndOf : ℕ → Entry → Type 0
IsEndOf i e = ((stops_by i e.image.0 e.event.ask ≡ true) ⊎ (fails_by i e.image.0 e.event.ask ≡ true))

stops_image : (i k : ℕ) (a : Ask) (r : Reply) → stops_by i k a ≡ true → (k ≡ i) × EndsImage a r
stops_image i k (asking.Stop code) r h = (eqb-true k i h, tt)
stops_image i k a r h = absurd (cc)

fails_image : (i k : ℕ) (a : Ask) (r : Reply) → fails_by i k a ≡ true → (k ≡ i) × EndsImage a r
fails_image i k asking.Gone r h = (eqb-true k i h, tt)
fails_image i k a r h = absurd (cc)

end_image : (i : ℕ) (e : Entry) → IsEndOf i e → (e.image.0 ≡ i) × EndsImage e.event.ask e.event.reply
end_image i e (inl h) = stops_image i e.image.0 e.event.ask e.event.reply h
end_image i e (inr h) = fails_image i e.image.0 e.event.ask e.event.reply h

image_end : (i k : ℕ) (a : Ask) (r : Reply) → k ≡ i → EndsImage a r → (EndsBy a r → ⊥) → (stops_by i k a ≡ true) ⊎ (fails_by i k a ≡ true)
image_end i k (asking.Stop code) r same ends none = inl (eq-eqb k i same)
image_end i k asking.Gone r same ends none = inr (eq-eqb k i same)
image_end i k a r same ends none = absurd (none ends)

-- an entry of the trace, with what its image says before and behind
pub record Stands (i : ℕ) (t : List Entry) : Type 0 where
  pub entry : Entry
  pub before : List (Said Ask Reply)
  pub after : List (Said Ask Reply)
  pub form : said_by i t ≡ before ++ said entry.event ∷ after
  pub end : IsEndOf i entry

stands_more : (i : ℕ) (e : Entry) (es : List Entry) → Stands i es → Stands i (e ∷ es)
stands_more i e es s = elim (cases_Bool (nat_eq e.image.0 i)) [
  | inl y ↦ record { entry = s.entry; before = said e.event ∷ s.before; after = s.after; form = rw y (ap (λ zs. said e.event ∷ zs) s.form); end = s.end }
  | inr f ↦ record { entry = s.entry; before = s.before; after = s.after; form = rw f s.form; end = s.end }
]

stands_here : (i : ℕ) (e : Entry) (es : List Entry) → IsEndOf i e → Stands i (e ∷ es)
stands_here i e es h = let y = eq-eqb e.image.0 i (end_image i e h).0 in record { entry = e; before = []; after = said_by i es; form = rw y refl; end = h }

stands_any : (i : ℕ) (p : Entry → Bool) (es : List Entry) → ((e : Entry) → p e ≡ true → IsEndOf i e) → list_any p es ≡ true → Stands i es
stands_any i p [] is h = absurd (cc)
stands_any i p (e ∷ es) is h = elim (cases_Bool (p e)) [ inl y ↦ stands_here i e es (is e y) | inr f ↦ stands_more i e es (stands_any i p es is (rw f at h)) ]

-- who has stopped or failed has such an entry
either_true : (x y : Bool) → (x || y) ≡ true → (x ≡ true) ⊎ (y ≡ true)
either_true true y h = inl refl
either_true false y h = inr h

pub ended_stands : (i : ℕ) (t : List Entry) → has_ended i (happened control t) ≡ true → Stands i t
ended_stands i t h = elim (either_true (has_stopped i (happened control t)) (has_failed i (happened control t)) h) [
  | inl s ↦ stands_any i (λ (e : Entry). stops_by i e.image.0 e.event.ask) t (λ e p. inl p) (sym (stopped_is i control t) ∙ s)
  | inr f ↦ stands_any i (λ (e : Entry). fails_by i e.image.0 e.event.ask) t (λ e p. inr p) (sym (failed_is i control t) ∙ f)
]

-- and so has who has ended, where no event ends the run
any_of : (p : Entry → Bool) (t : List Entry) (x : Entry) → (xs ys : List Entry) → t ≡ xs ++ x ∷ ys → p x ≡ true → list_any p t ≡ true
any_of p t x xs ys e h = ap (list_any p) e ∙ in_it xs
  where
    in_it : (zs : List Entry) → list_any p (zs ++ x ∷ ys) ≡ true
    in_it [] = rw h refl
    in_it (z ∷ zs) = elim (cases_Bool (p z)) [ inl y ↦ rw y refl | inr f ↦ rw f (in_it zs) ]

or_left : (x y : Bool) → x ≡ true → (x || y) ≡ true
or_left x y h = rw h refl

or_right : (x y : Bool) → y ≡ true → (x || y) ≡ true
or_right true y h = refl
or_right false y h = h

ended_of : (i : ℕ) (t : List Entry) (x : Entry) (xs ys : List Entry) → t ≡ xs ++ x ∷ ys → IsEndOf i x → has_ended i (happened control t) ≡ true
ended_of i t x xs ys e (inl s) = or_left _ (has_failed i (happened control t)) (stopped_is i control t ∙ any_of (λ (z : Entry). stops_by i z.image.0 z.event.ask) t x xs ys e s)
ended_of i t x xs ys e (inr f) = or_right (has_stopped i (happened control t)) _ (failed_is i control t ∙ any_of (λ (z : Entry). fails_by i z.image.0 z.event.ask) t x xs ys e f)

-- the last thing that an image says, as an entry of the trace
pub record IsLast (i : ℕ) (t : List Entry) (s : Said Ask Reply) : Type 0 where
  pub entry : Entry
  pub xs : List Entry
  pub ys : List Entry
  pub form : t ≡ xs ++ entry ∷ ys
  pub same : said entry.event ≡ s
  pub image : entry.image.0 ≡ i

last_more : (i : ℕ) (e : Entry) (es : List Entry) (s : Said Ask Reply) → IsLast i es s → IsLast i (e ∷ es) s
last_more i e es s l = record { entry = l.entry; xs = e ∷ l.xs; ys = l.ys; form = ap (λ zs. e ∷ zs) l.form; same = l.same; image = l.image }

last_here : (i : ℕ) (e : Entry) (es : List Entry) (before : List (Said Ask Reply)) (s : Said Ask Reply) → e.image.0 ≡ i → said e.event ∷ said_by i es ≡ before ++ s ∷ []
    → ((bs : List (Said Ask Reply)) → said_by i es ≡ bs ++ s ∷ [] → IsLast i es s) → IsLast i (e ∷ es) s
last_here i e es [] s is h later = record { entry = e; xs = []; ys = es; form = refl; same = cc; image = is }
last_here i e es (b ∷ before) s is h later = last_more i e es s (later before (cc))

last_of : (i : ℕ) (t : List Entry) (before : List (Said Ask Reply)) (s : Said Ask Reply) → said_by i t ≡ before ++ s ∷ [] → IsLast i t s
last_of i [] [] s h = absurd (cc)
last_of i [] (b ∷ before) s h = absurd (cc)
last_of i (e ∷ es) before s h = elim (cases_Bool (nat_eq e.image.0 i)) [
  | inr f ↦ last_more i e es s (last_of i es before s (rw f at h))
  | inl y ↦ last_here i e es before s (eqb-true e.image.0 i y) (rw y at h) (λ bs k. last_of i es bs s k)
]

each_one : (P : Entry → Type 0) (xs : List Entry) (x : Entry) (ys : List Entry) → Each P (xs ++ x ∷ ys) → P x
each_one P [] x ys h = h.0
each_one P (z ∷ zs) x ys h = each_one P zs x ys h.1

pub has_ended_of : (i : ℕ) (t : List Entry) → Each (λ x. EndsRun x.event → ⊥) t → HasEndedIn i t → has_ended i (happened control (at_board t)) ≡ true
has_ended_of i t none (before, s, form, ends) =
    let l = last_of i t before s form in
    let not_run = each_one (λ x. EndsRun x.event → ⊥) l.xs l.entry l.ys (subst (Each (λ x. EndsRun x.event → ⊥)) l.form none) in
    let by : EndsImage l.entry.event.ask l.entry.event.reply = subst (λ (z : Said Ask Reply). EndsImage z.ask z.reply) (sym l.same) ends in
    ap (has_ended i) (happened_all control t) ∙ ended_of i t l.entry l.xs l.ys l.form (image_end i l.entry.image.0 l.entry.event.ask l.entry.event.reply l.image by not_run)

-- who waits has neither stopped nor failed: it goes on behind all that it has said
nothing_behind : {A : Type 0} (xs : List A) (y : A) → xs ++ y ∷ [] ≡ [] → ⊥
nothing_behind [] y h = cc
nothing_behind (x ∷ xs) y h = cc

more_behind : {A : Type 0} (xs ys : List A) (x y : A) → (xs ++ x ∷ ys) ++ y ∷ [] ≡ xs ++ x ∷ (ys ++ y ∷ [])
more_behind [] ys x y = refl
more_behind (z ∷ zs) ys x y = ap (λ ws. z ∷ ws) (more_behind zs ys x y)

module _ {C M B : Type 0} (r : Rules C M B) (b : Beginning C M B) (t : List Entry) (fit : IsFit r b) (core : IsCoreRun r b t) (i line : ℕ) (ask : Ask) (w : IsWaiting r b t i line ask) where
  goes_behind : (a : Ask) (l : ℕ) (k : Reply → C) → r.step w.config ≡ asks a l k → Stands i t → ⊥
  goes_behind a l k at s =
      let y = some_answer a in
      let x : Said Ask Reply = record { ask = a; reply = y.0; line = l } in
      let more = walk_to_more C Ask Reply r.step (b.first i) w.config (k y.0) (said_by i t) x k w.walks at 0 refl in
      let last = (fit.orderly i w.image).nothing_after (said_by i t ++ x ∷ []) more.0 (answers_more (said_by i t) x (answered_by r b t fit core i) y.1) more.1 in
      nothing_behind s.after x
      (last s.before (s.after ++ x ∷ []) (said s.entry.event) (ap (λ zs. zs ++ x ∷ []) s.form ∙ more_behind s.before s.after (said s.entry.event) x) (end_image i s.entry s.end).1)

  goes_by : (m : Move C Ask Reply) → r.step w.config ≡ m → AsksNext m ask → Stands i t → ⊥
  goes_by (goes c) at next s = next
  goes_by (asks a l k) at next s = goes_behind a l k at s
  goes_by over at next s = next

  pub waits_not_ended : has_ended i (happened control (at_board t)) ≡ false
  waits_not_ended = ap (has_ended i) (happened_all control t) ∙ elim (cases_Bool (has_ended i (happened control t))) [
    | inl y ↦ absurd (goes_by (r.step w.config) refl w.asks (ended_stands i t y))
    | inr f ↦ f
  ]
