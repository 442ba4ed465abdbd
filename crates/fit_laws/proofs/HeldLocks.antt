-- The steps of a failure fit: the mark is at the image's own memory, and each lock that is freed was got there.
use Rattle.std.proofs.Common.{◌≡◌, ℕ, Bool, true, false, cond, ◌&&◌, not, List, [], ◌∷◌, ◌++◌, length, map, slice_get, nat_eq, nat_lt, inl, inr, refl, sym, ap, subst}
use Rattle.std.proofs.lemmas.Bool.{and_parts, and_from}
use Rattle.caf_base.specs.declared.place.ImageNo.{ImageNo}
use Rattle.caf_base.specs.declared.span.Span.{Span}
use Rattle.caf_events.specs.declared.ask.Ask.{Ask}
use Rattle.caf_events.specs.declared.ask.Ask.TheVariants as asks
use Rattle.caf_events.specs.declared.reply.Reply.{Reply}
use Rattle.caf_events.specs.declared.event.Entry.{Entry}
use Rattle.caf_events.specs.Asks.{place_of}
use Rattle.trace_theory.specs.Entries.{Each}
use Rattle.trace_theory.specs.Machines.{Said}
use Rattle.trace_theory.proofs.Filters.{each_filter}
use Rattle.trace_theory.proofs.Snocs.{each_at}
use Rattle.object_rules.specs.Cells.{Declared}
use Rattle.object_rules.specs.Locks.{has_status, acquires}
use Rattle.object_rules.specs.MemoryRules.{is_here, is_one_cell, is_lock, holds, is_cell_of, fits_memory, can_come, cells_there, memory_ready}
use Rattle.core_runs.specs.Beginnings.{IsOneOf, IsThere}
use Rattle.core_runs.specs.Lists.{said}
use Rattle.core_runs.specs.CoreRuns.{of_image, of_memory, said_by}
use Rattle.core_runs.specs.Failures.{LockPlace, lock_place, same_place, without, held_after, release_of, failure_steps, is_failure_step, is_limit, RunsOut, FailsBy, FailsFrom}
use Rattle.core_runs.specs.Lawful.{IsLawfulTrace, made_memory}
use Rattle.team_laws.proofs.Lists.{each_split, each_append}
use Rattle.answer_laws.proofs.Served.{memory_turn}

-- ---- a lock that was got is one of these places
module _ (P : LockPlace → Type 0) where
  abbrev Gets : Ask → Reply → Type 0
  Gets (asks.Lock owner span) reply = acquires reply ≡ true → P (lock_place owner span)
  Gets (asks.TryLock owner span) reply = acquires reply ≡ true → P (lock_place owner span)
  Gets ask reply = Unit {0}

  -- a step of a failure of image i
  abbrev pub StepOf : ℕ → Ask → Type 0
  StepOf i (asks.Mark owner) = owner.0 ≡ i
  StepOf i (asks.Free owner span) = (p : LockPlace) × P p × (asks.Free owner span ≡ release_of p)
  StepOf i ask = Unit {0}

  each_got : (p : LockPlace) (held : List LockPlace) (b : Bool) → Each P held → (b ≡ true → P p) → Each P (cond b (without p held ++ p ∷ []) held)
  each_got p held true h g = each_append P (without p held) (p ∷ []) (each_filter P (λ q. not (same_place q p)) held h) (g refl, tt)
  each_got p held false h g = h

  each_left : (p : LockPlace) (held : List LockPlace) (b : Bool) → Each P held → Each P (cond b (without p held) held)
  each_left p held true h = each_filter P (λ q. not (same_place q p)) held h
  each_left p held false h = h

  held_more : (held : List LockPlace) (a : Ask) (r : Reply) → Each P held → Gets a r → Each P (held_after held a r)
  held_more held (asks.Lock owner span) r h g = each_got (lock_place owner span) held (acquires r) h g
  held_more held (asks.TryLock owner span) r h g = each_got (lock_place owner span) held (acquires r) h g
  held_more held (asks.Unlock owner span) r h g = each_left (lock_place owner span) held (has_status _ r) h
  held_more held a r h g = h

  releases : (i : ℕ) (held : List LockPlace) → Each P held → Each (StepOf i) (map release_of held ++ asks.Gone ∷ [])
  releases i [] h = (tt, tt)
  releases i (p ∷ ps) h = ((p, h.0, refl), releases i ps h.1)

  all_steps : (i : ℕ) (held : List LockPlace) → Each P held → Each (StepOf i) (failure_steps i held)
  all_steps i held h = (refl, releases i held h)

  limit_step : (i : ℕ) (a : Ask) → is_limit a ≡ true → StepOf i a
  limit_step i (asks.Mark owner) h = absurd (cc)
  limit_step i (asks.Free owner span) h = absurd (cc)
  limit_step i a h = tt

  other_step : (i : ℕ) (a : Ask) → is_failure_step a ≡ false → StepOf i a
  other_step i (asks.Mark owner) h = absurd (cc)
  other_step i (asks.Free owner span) h = absurd (cc)
  other_step i a h = tt

  not_empty : (es : List (Said Ask Reply)) (x : Said Ask Reply) → es ++ x ∷ [] ≡ [] → ⊥
  not_empty [] x h = absurd (cc)
  not_empty (e ∷ es) x h = absurd (cc)

  runs_last : (i : ℕ) (steps : List Ask) (es : List (Said Ask Reply)) (x : Said Ask Reply) → Each (StepOf i) steps → RunsOut steps (es ++ x ∷ []) → StepOf i x.ask
  runs_last i [] [] x h r = limit_step i x.ask r.0
  runs_last i [] (e ∷ es) x h r = absurd (not_empty es x r.1)
  runs_last i (s ∷ ss) [] x h (inl r) = subst (StepOf i) (sym r.0) h.0
  runs_last i (s ∷ ss) [] x h (inr r) = limit_step i x.ask r.0
  runs_last i (s ∷ ss) (e ∷ es) x h (inl r) = runs_last i ss es x h.1 r.1
  runs_last i (s ∷ ss) (e ∷ es) x h (inr r) = absurd (not_empty es x r.1)

  by_last : (i : ℕ) (held : List LockPlace) (a : Ask) (r : Reply) (rest : List LockPlace → Type 0) → FailsBy i held a r [] rest → StepOf i a
  by_last i held asks.Fail r rest h = tt
  by_last i held a r rest h = other_step i a h.0

  by_next : (i : ℕ) (held : List LockPlace) (a : Ask) (r : Reply) (es : List (Said Ask Reply)) (rest : List LockPlace → Type 0) (Goal : Type 0) → FailsBy i held a r es rest
      → (RunsOut (failure_steps i held) es → Goal) → (rest (held_after held a r) → Goal) → Goal
  by_next i held asks.Fail r es rest Goal h f g = f h
  by_next i held a r es rest Goal h f g = g h.1

  pub fails_last : (i : ℕ) (es : List (Said Ask Reply)) (x : Said Ask Reply) (held : List LockPlace) → Each P held → Each (λ (e : Said Ask Reply). Gets e.ask e.reply) es → FailsFrom i (es ++ x ∷ []) held → StepOf i x.ask
  fails_last i [] x held h g f = by_last i held x.ask x.reply _ f
  fails_last i (e ∷ es) x held h g f = by_next i held e.ask e.reply (es ++ x ∷ []) (FailsFrom i (es ++ x ∷ [])) (StepOf i x.ask) f
      (λ r. runs_last i (failure_steps i held) es x (all_steps i held h) r) (λ r. fails_last i es x (held_after held e.ask e.reply) (held_more held e.ask e.reply h g.0) g.1 r)

-- ---- in a lawful trace it is a lock's cell
abbrev pub IsLockPlace : List Declared → ℕ → LockPlace → Type 0
IsLockPlace s n p = IsOneOf n p.owner × ((nat_lt p.offset 65536 && holds is_lock (slice_get s p.coarray)) ≡ true)

module _ (s : List Declared) (n : ℕ) where
  cell_there : (owner : ImageNo) (span : Span) (here : Bool) → (here && is_cell_of (made_memory s owner.0) is_lock span) ≡ true → (nat_lt span.start 65536 && holds is_lock (slice_get s span.coarray)) ≡ true
  cell_there owner span here h =
      let p = (and_parts here (is_cell_of (made_memory s owner.0) is_lock span) h).1 in
      let q = and_parts (is_one_cell span) (holds is_lock (slice_get s span.coarray)) p in
      and_from (nat_lt span.start 65536) (holds is_lock (slice_get s span.coarray)) (and_parts (nat_eq (length span.dims) 0) (nat_lt span.start 65536) q.0).1 q.1

  place_got : (before after : List Entry) (x : Entry) → IsLawfulTrace s n (before ++ x ∷ after) → (a : Ask) → x.event.ask ≡ a → (r : Reply) → Gets (IsLockPlace s n) a r
  place_got before after x l (asks.Lock o span) e r = λ got. (
      let m = made_memory s o.0 in
      let h = of_memory o.0 before in
      let ready = subst (λ b. memory_ready m h x.image.0 b ≡ true) e (memory_turn s n before after x l o (ap place_of e)).ready in
      let fit = (and_parts (fits_memory m h x.image.0 (asks.Lock o span)) (can_come h (cells_there m h (asks.Lock o span)) x.image.0 (asks.Lock o span)) ready).0 in
      let there = subst (λ z. IsThere n (place_of z)) e (each_at (λ (y : Entry). IsThere n (place_of y.event.ask)) before after x l.places) in
      (there, cell_there o span (is_here m o) fit))
  place_got before after x l (asks.TryLock o span) e r = λ got. (
      let m = made_memory s o.0 in
      let h = of_memory o.0 before in
      let ready = subst (λ b. memory_ready m h x.image.0 b ≡ true) e (memory_turn s n before after x l o (ap place_of e)).ready in
      let fit = (and_parts (fits_memory m h x.image.0 (asks.TryLock o span)) true ready).0 in
      let there = subst (λ z. IsThere n (place_of z)) e (each_at (λ (y : Entry). IsThere n (place_of y.event.ask)) before after x l.places) in
      (there, cell_there o span (is_here m o) fit))
  place_got before after x l a e r = tt

  each_said : (es : List Entry) → Each (λ (x : Entry). Gets (IsLockPlace s n) x.event.ask x.event.reply) es → Each (λ (e : Said Ask Reply). Gets (IsLockPlace s n) e.ask e.reply) (map (λ (x : Entry). said x.event) es)
  each_said [] h = tt
  each_said (e ∷ es) h = (h.0, each_said es h.1)

  pub locks_got : (t : List Entry) → IsLawfulTrace s n t → (i : ℕ) → Each (λ (e : Said Ask Reply). Gets (IsLockPlace s n) e.ask e.reply) (said_by i t)
  locks_got t l i = each_said (of_image i t) (each_filter (λ (x : Entry). Gets (IsLockPlace s n) x.event.ask x.event.reply) _ t
      (each_split (λ (x : Entry). Gets (IsLockPlace s n) x.event.ask x.event.reply) t (λ before after x e. place_got before after x (subst (IsLawfulTrace s n) e l) x.event.ask refl x.event.reply)))

  pub next_step : (t : List Entry) → IsLawfulTrace s n t → (i : ℕ) (x : Said Ask Reply) → FailsFrom i (said_by i t ++ x ∷ []) [] → StepOf (IsLockPlace s n) i x.ask
  next_step t l i x f = fails_last (IsLockPlace s n) i (said_by i t) x [] tt (locks_got t l i) f
