-- Who holds a lock of a memory whose owner hasn't failed hasn't failed: the steps of a failure release each lock that
-- the image holds.
use Rattle.std.proofs.Common.{◌≡◌, ℕ, suc, pos, Bool, true, false, nat_eq, ◌&&◌, ◌||◌, cond, List, [], ◌∷◌, ◌++◌, map, ◌⊎◌, inl, inr, refl, ap, sym, ◌∙◌, subst, append_assoc}
use Rattle.std.specs.Prelude.{IsTrue}
use Rattle.std.proofs.lemmas.List.{append-nil}
use Rattle.std.proofs.lemmas.List.Folds.{list_any-append}
use Rattle.std.proofs.lemmas.Bool.{cases_Bool, cases_eq, both_ways, and_parts, and_left, and_right, or_left, or_parts, eq-eqb, ne_eqb, eqb-true}
use Rattle.caf_base.specs.declared.place.ImageNo.{ImageNo}
use Rattle.caf_base.specs.declared.span.Span.{Span}
use Rattle.caf_events.specs.declared.ask.Ask.{Ask}
use Rattle.caf_events.specs.declared.ask.Ask.TheVariants as asks
use Rattle.caf_events.specs.declared.reply.Reply.{Reply}
use Rattle.caf_events.specs.declared.reply.Reply.TheVariants as replies
use Rattle.caf_events.specs.declared.event.Entry.{Entry}
use Rattle.caf_events.specs.Asks.{place_of, object_of}
use Rattle.caf_events.specs.Histories.{Served}
use Rattle.trace_theory.specs.Entries.{Each}
use Rattle.trace_theory.specs.Machines.{Said}
use Rattle.trace_theory.proofs.Filters.{of_last, of_other}
use Rattle.object_rules.specs.Cells.{Declared, MadeMemory, size_turn, size_after, first_size, is_offset, is_within, is_mark, is_marked}
use Rattle.object_rules.specs.Happenings.{control, happened, has_failed}
use Rattle.object_rules.specs.Constructs.{Hold, free, held, abandoned}
use Rattle.object_rules.specs.Locks.{is_at, has_status, acquires, is_done, lock_turn, lock_from, lock_after}
use Rattle.object_rules.specs.MemoryRules.{is_lock, memory_ready, memory_reply, is_one_cell}
use Rattle.core_runs.specs.Beginnings.{IsOneOf}
use Rattle.core_runs.specs.Lists.{key_of, said}
use Rattle.core_runs.specs.CoreRuns.{at_board, of_memory, said_by}
use Rattle.core_runs.specs.Failures.{LockPlace, same_place, lock_place, without, held_after, release_of, is_failure_step, is_limit, RunsOut, FailsBy, FailsFrom}
use Rattle.core_runs.specs.Lawful.{IsLawfulTrace, made_memory}
use Rattle.wait_reason.proofs.Counts.{split_of, served_behind}
use Rattle.wait_reason.proofs.Fronts.{each_picked}
use Rattle.wait_reason.proofs.Pairing.{said_at}
use Rattle.wait_reason.proofs.Locks.{lock_append, size_append, within_one, cell_one, unmarked_reply, ready_parts, and_true}
use Rattle.wait_chain.proofs.Inside.{QuietOf, gone_at, left_out}
use Rattle.wait_chain.proofs.LockTurns.{is_locking, cond_held, not_free, held_before}

-- a lock variable is in a list of them
abbrev In : LockPlace → List LockPlace → Type 0
In p [] = ⊥
In p (q ∷ qs) = (p ≡ q) ⊎ In p qs

in_front : (p : LockPlace) (xs ys : List LockPlace) → In p xs → In p (xs ++ ys)
in_front p [] ys h = absurd h
in_front p (x ∷ xs) ys (inl e) = inl e
in_front p (x ∷ xs) ys (inr i) = inr (in_front p xs ys i)

in_back : (p : LockPlace) (xs ys : List LockPlace) → In p ys → In p (xs ++ ys)
in_back p [] ys h = h
in_back p (x ∷ xs) ys h = inr (in_back p xs ys h)

in_without : (p q : LockPlace) (xs : List LockPlace) → same_place p q ≡ false → In p xs → In p (without q xs)
in_without p q [] ne h = absurd h
in_without p q (x ∷ xs) ne (inl e) = rw (ap (λ z. same_place z q) (sym e) ∙ ne) (inl e)
in_without p q (x ∷ xs) ne (inr i) = elim (cases_Bool (same_place x q)) [
  | inl t ↦ rw t (in_without p q xs ne i)
  | inr f ↦ rw f (inr (in_without p q xs ne i))
]

same_either : {A : Type 0} (b : Bool) (x : A) → cond b x x ≡ x
same_either true x = refl
same_either false x = refl

-- a step that isn't made changes nothing
nothing_done : (k x : Bool) (y s : Hold) → cond k (cond (x && false) y s) s ≡ s
nothing_done true true y s = refl
nothing_done true false y s = refl
nothing_done false x y s = refl

locking_loud : (a : Ask) → is_locking a ≡ true → (is_failure_step a || is_limit a) ≡ false
locking_loud (asks.Lock owner span) h = refl
locking_loud (asks.TryLock owner span) h = refl
locking_loud a h = absurd (cc)

limit_quiet : (a : Ask) → is_limit a ≡ true → is_locking a ≡ false
limit_quiet (asks.LimitStatements number) h = refl
limit_quiet (asks.LimitWords number) h = refl
limit_quiet (asks.LimitStamp number) h = refl
limit_quiet a h = absurd (cc)

-- the lock variable at a cell of the memory of image w
module _ (w c o : ℕ) where
  abbrev place : LockPlace
  place = record { owner = w; coarray = c; offset = o }

  -- the lock after a step at any object
  abbrev turned : Hold → ℕ → Ask → Reply → Hold
  turned s i a r = cond (nat_eq (object_of (place_of a)) (suc w)) (lock_turn c o s i a r) s

  -- A span of one cell is at the lock, or a step at the span changes nothing of the lock.
  abbrev IsHere : ImageNo → Span → Type 0
  IsHere owner span = (place ≡ lock_place owner span) × ((b : Bool) (x s : Hold) → cond (nat_eq (suc owner.0) (suc w)) (cond (is_at c o span && b) x s) s ≡ cond b x s)

  abbrev IsAway : ImageNo → Span → Type 0
  IsAway owner span = (same_place place (lock_place owner span) ≡ false) × ((b : Bool) (x s : Hold) → cond (nat_eq (suc owner.0) (suc w)) (cond (is_at c o span && b) x s) s ≡ s)

  suc_apart : (a b : ℕ) → (a ≡ b → ⊥) → suc a ≡ suc b → ⊥
  suc_apart a b ne e = ne (cc)

  away_by : (owner : ImageNo) (span : Span) → is_at c o span ≡ false → (b : Bool) (x s : Hold) → cond (nat_eq (suc owner.0) (suc w)) (cond (is_at c o span && b) x s) s ≡ s
  away_by owner span off b x s = ap (λ z. cond (nat_eq (suc owner.0) (suc w)) (cond (z && b) x s) s) off ∙ same_either (nat_eq (suc owner.0) (suc w)) s

  here_by : (owner : ImageNo) (span : Span) → w ≡ owner.0 → c ≡ span.coarray → o ≡ span.start → IsHere owner span
  here_by owner span p q r = (
    ap (λ (z : ℕ). record { owner = z; coarray = c; offset = o }) p ∙ ap (λ (z : ℕ). record { owner = owner.0; coarray = z; offset = o }) q ∙ ap (λ (z : ℕ). record { owner = owner.0; coarray = span.coarray; offset = z }) r,
    λ b x s. ap (λ z. cond z (cond (is_at c o span && b) x s) s) (eq-eqb (suc owner.0) (suc w) (ap suc (sym p)))
        ∙ ap (λ z. cond (z && nat_eq span.start o && b) x s) (eq-eqb span.coarray c (sym q))
        ∙ ap (λ z. cond (z && b) x s) (eq-eqb span.start o (sym r)),
  )

  here_or_away : (owner : ImageNo) (span : Span) → IsHere owner span ⊎ IsAway owner span
  here_or_away owner span = elim (cases_eq w owner.0) [
    | inr ne ↦ inr (
      and_left (nat_eq w owner.0) (nat_eq c span.coarray && nat_eq o span.start) (ne_eqb w owner.0 ne),
      λ b x s. ap (λ z. cond z (cond (is_at c o span && b) x s) s) (ne_eqb (suc owner.0) (suc w) (suc_apart owner.0 w (λ e. ne (sym e)))),
    )
    | inl p ↦ elim (cases_eq c span.coarray) [
      | inr ne ↦ inr (
        and_right (nat_eq w owner.0) (nat_eq c span.coarray && nat_eq o span.start) (and_left (nat_eq c span.coarray) (nat_eq o span.start) (ne_eqb c span.coarray ne)),
        away_by owner span (and_left (nat_eq span.coarray c) (nat_eq span.start o) (ne_eqb span.coarray c (λ e. ne (sym e)))),
      )
      | inl q ↦ elim (cases_eq o span.start) [
        | inr ne ↦ inr (
          and_right (nat_eq w owner.0) (nat_eq c span.coarray && nat_eq o span.start) (and_right (nat_eq c span.coarray) (nat_eq o span.start) (ne_eqb o span.start ne)),
          away_by owner span (and_right (nat_eq span.coarray c) (nat_eq span.start o) (ne_eqb span.start o (λ e. ne (sym e)))),
        )
        | inl r ↦ inl (here_by owner span p q r)
      ]
    ]
  ]

  turned_before : (s : Hold) (i j : ℕ) (a : Ask) (r : Reply) → turned s i a r ≡ held j → (s ≡ held j) ⊎ ((i ≡ j) × (is_locking a ≡ true))
  turned_before s i j a r h = elim (cond_held (nat_eq (object_of (place_of a)) (suc w)) (lock_turn c o s i a r) s j h) [ inl now ↦ held_before c o s i j a r now | inr was ↦ inl was ]

  stays_held : (s : Hold) (i j : ℕ) (a : Ask) (r : Reply) → is_locking a ≡ false → turned s i a r ≡ held j → s ≡ held j
  stays_held s i j a r quiet h = elim (turned_before s i j a r h) [ inl was ↦ was | inr own ↦ absurd (both_ways (is_locking a) quiet own.1) ]

  others_held : (s : Hold) (i j : ℕ) (a : Ask) (r : Reply) → (i ≡ j → ⊥) → turned s i a r ≡ held j → s ≡ held j
  others_held s i j a r ne h = elim (turned_before s i j a r h) [ inl was ↦ was | inr own ↦ absurd (ne own.0) ]

  -- the list of the locks that an image holds keeps this one as long as it is held
  module _ (s : Hold) (j : ℕ) (hs : List LockPlace) (had : s ≡ held j → In place hs) (r : Reply) where
    locked_in : (owner : ImageNo) (span : Span) → cond (nat_eq (suc owner.0) (suc w)) (cond (is_at c o span && acquires r) (held j) s) s ≡ held j → In place (cond (acquires r) (without (lock_place owner span) hs ++ lock_place owner span ∷ []) hs)
    locked_in owner span h = elim (cases_Bool (acquires r)) [
      | inl t ↦ rw t (elim (here_or_away owner span) [
        | inl here ↦ in_back place (without (lock_place owner span) hs) (lock_place owner span ∷ []) (inl here.0)
        | inr away ↦ in_front place (without (lock_place owner span) hs) (lock_place owner span ∷ []) (in_without place (lock_place owner span) hs away.0 (had (sym (away.1 (acquires r) (held j) s) ∙ h)))
      ])
      | inr f ↦ rw f (had (sym (ap (λ b. cond (nat_eq (suc owner.0) (suc w)) (cond (is_at c o span && b) (held j) s) s) f ∙ nothing_done (nat_eq (suc owner.0) (suc w)) (is_at c o span) (held j) s) ∙ h))
    ]

    unlocked_in : (owner : ImageNo) (span : Span) → cond (nat_eq (suc owner.0) (suc w)) (cond (is_at c o span && has_status (pos 0) r) free s) s ≡ held j → In place (cond (has_status (pos 0) r) (without (lock_place owner span) hs) hs)
    unlocked_in owner span h = elim (cases_Bool (has_status (pos 0) r)) [
      | inl t ↦ rw t (elim (here_or_away owner span) [
        | inl here ↦ absurd (not_free j (sym (here.1 (has_status (pos 0) r) free s ∙ ap (λ b. cond b free s) t) ∙ h))
        | inr away ↦ in_without place (lock_place owner span) hs away.0 (had (sym (away.1 (has_status (pos 0) r) free s) ∙ h))
      ])
      | inr f ↦ rw f (had (sym (ap (λ b. cond (nat_eq (suc owner.0) (suc w)) (cond (is_at c o span && b) free s) s) f ∙ nothing_done (nat_eq (suc owner.0) (suc w)) (is_at c o span) free s) ∙ h))
    ]

    kept_in : (a : Ask) → turned s j a r ≡ held j → In place (held_after hs a r)
    kept_in (asks.Lock owner span) h = locked_in owner span h
    kept_in (asks.TryLock owner span) h = locked_in owner span h
    kept_in (asks.Unlock owner span) h = unlocked_in owner span h
    kept_in a h = had (stays_held s j j a r refl h)

  -- Where an image stands in its failure, by what it has yet to say: it hasn't begun to fail, it has yet to mark its
  -- memory, to release these locks, or it is gone. The lock that it holds is in the list.
  data Phase (j : ℕ) (s : Hold) (marked : Bool) (es : List (Said Ask Reply)) : Type 0 where
    going : (hs : List LockPlace) → FailsFrom j es hs → (s ≡ held j → In place hs) → Phase j s marked es
    marks : (hs : List LockPlace) → RunsOut (asks.Mark (record { 0 = j }) ∷ map release_of hs ++ asks.Gone ∷ []) es → (s ≡ held j → In place hs) → Phase j s marked es
    frees : (hs : List LockPlace) → RunsOut (map release_of hs ++ asks.Gone ∷ []) es → (s ≡ held j → marked ≡ false → In place hs) → Phase j s marked es
    done : RunsOut [] es → Phase j s marked es

  -- a step of another image
  phase_other : (j : ℕ) (s s' : Hold) (m m' : Bool) (es : List (Said Ask Reply)) → (s' ≡ held j → s ≡ held j) → (m' ≡ false → m ≡ false) → Phase j s m es → Phase j s' m' es
  phase_other j s s' m m' es was un (going hs f had) = going hs f (λ h. had (was h))
  phase_other j s s' m m' es was un (marks hs f had) = marks hs f (λ h. had (was h))
  phase_other j s s' m m' es was un (frees hs f had) = frees hs f (λ h u. had (was h) (un u))
  phase_other j s s' m m' es was un (done f) = done f

  -- a step of its own
  module _ (j : ℕ) (s s' : Hold) (m m' : Bool) (es : List (Said Ask Reply)) (un : m' ≡ false → m ≡ false) where
    abbrev Stays : Ask → Type 0
    Stays a = is_locking a ≡ false → s' ≡ held j → s ≡ held j

    abbrev Keeps : Ask → Reply → Type 0
    Keeps a r = (hs : List LockPlace) → (s ≡ held j → In place hs) → s' ≡ held j → In place (held_after hs a r)

    abbrev Frees : Ask → Type 0
    Frees a = (q : LockPlace) → a ≡ release_of q → s' ≡ held j → m' ≡ false → place ≡ q → ⊥

    going_on : (hs : List LockPlace) (a : Ask) (r : Reply) → FailsBy j hs a r es (FailsFrom j es) → (s ≡ held j → In place hs) → Stays a → Keeps a r → Phase j s' m' es
    going_on hs asks.Fail r f had stays keeps = marks hs f (λ h. had (stays refl h))
    going_on hs a r f had stays keeps = going (held_after hs a r) f.1 (keeps hs had)

    phase_own : (y : Said Ask Reply) → Stays y.ask → Keeps y.ask y.reply → Frees y.ask → Phase j s m (y ∷ es) → Phase j s' m' es
    phase_own y stays keeps freed (going hs f had) = going_on hs y.ask y.reply f had stays keeps
    phase_own y stays keeps freed (marks hs (inl g) had) = frees hs g.1 (λ h u. had (stays (ap is_locking g.0) h))
    phase_own y stays keeps freed (marks hs (inr l) had) = marks hs (subst (RunsOut (asks.Mark (record { 0 = j }) ∷ map release_of hs ++ asks.Gone ∷ [])) (sym l.1) tt) (λ h. had (stays (limit_quiet y.ask l.0) h))
    phase_own y stays keeps freed (frees [] (inl g) had) = done g.1
    phase_own y stays keeps freed (frees [] (inr l) had) = frees [] (subst (RunsOut (asks.Gone ∷ [])) (sym l.1) tt) (λ h u. had (stays (limit_quiet y.ask l.0) h) (un u))
    phase_own y stays keeps freed (frees (q ∷ hs) (inl g) had) = frees hs g.1 (λ h u. elim (had (stays (ap is_locking g.0) h) (un u)) [ inl e ↦ absurd (freed q g.0 h u e) | inr i ↦ i ])
    phase_own y stays keeps freed (frees (q ∷ hs) (inr l) had) = frees (q ∷ hs) (subst (RunsOut (release_of q ∷ map release_of hs ++ asks.Gone ∷ [])) (sym l.1) tt) (λ h u. had (stays (limit_quiet y.ask l.0) h) (un u))
    phase_own y stays keeps freed (done f) = done (subst (RunsOut []) (sym f.1) tt)

    -- at its end it holds the lock no more, where the memory isn't marked
    gone_going : (hs : List LockPlace) (a : Ask) (r : Reply) → a ≡ asks.Gone → FailsBy j hs a r es (FailsFrom j es) → ⊥
    gone_going hs a r e f = let g = subst (λ z. FailsBy j hs z r es (FailsFrom j es)) e f in let off = g.0 in cc

    gone_limit : (a : Ask) → a ≡ asks.Gone → is_limit a ≡ true → ⊥
    gone_limit a e l = let off : false ≡ true = sym (ap is_limit e) ∙ l in cc

    at_end : (y : Said Ask Reply) → y.ask ≡ asks.Gone → Phase j s m (y ∷ es) → s ≡ held j → m ≡ false → ⊥
    at_end y e (going hs f had) h u = gone_going hs y.ask y.reply e f
    at_end y e (marks hs (inl g) had) h u = let off = sym e ∙ g.0 in cc
    at_end y e (marks hs (inr l) had) h u = gone_limit y.ask e l.0
    at_end y e (frees [] f had) h u = had h u
    at_end y e (frees (q ∷ hs) (inl g) had) h u = let off = sym e ∙ g.0 in cc
    at_end y e (frees (q ∷ hs) (inr l) had) h u = gone_limit y.ask e l.0
    at_end y e (done f) h u = gone_limit y.ask e f.0

-- a reply that says that a lock was acquired is that of a cell that is there
by_flags : (k x : Bool) (y : Reply) → acquires (cond k (replies.Number (pos 6001)) (cond x y replies.Absent)) ≡ true → x ≡ true
by_flags true x y h = absurd (cc)
by_flags false true y h = refl
by_flags false false y h = absurd (cc)

-- a lock that is held is there
module _ (m : MadeMemory) (c o j : ℕ) where
  abbrev Cell : List Entry → Type 0
  Cell h = lock_after c o h ≡ held j → is_offset (size_after m h c) (pos o) ≡ true

  at_cell : (h : List Entry) (span : Span) → is_one_cell span ≡ true → is_within m h span ≡ true → is_at c o span ≡ true → is_offset (size_after m h c) (pos o) ≡ true
  at_cell h span one within at =
      let p = and_parts (nat_eq span.coarray c) (nat_eq span.start o) at in
      subst (λ z. is_offset (size_after m h c) (pos z) ≡ true) (eqb-true span.start o p.1)
      (subst (λ z. is_offset (size_after m h z) (pos span.start) ≡ true) (eqb-true span.coarray c p.0) (within_one m h span one within))

  module _ (h : List Entry) (cell : Cell h) (i : ℕ) where
    taken_cell : (owner : ImageNo) (span : Span) (r : Reply) → is_one_cell span ≡ true → (acquires r ≡ true → is_within m h span ≡ true) → cond (is_at c o span && acquires r) (held i) (lock_after c o h) ≡ held j → is_offset (size_after m h c) (pos o) ≡ true
    taken_cell owner span r one within now = elim (cases_Bool (is_at c o span && acquires r)) [
      | inl t ↦ (let p = and_parts (is_at c o span) (acquires r) t in at_cell h span one (within p.1) p.0)
      | inr f ↦ cell (sym (ap (λ b. cond b (held i) (lock_after c o h)) f) ∙ now)
    ]

    made_cell : (coarray : ℕ) (size : _) → cond (nat_eq coarray c) free (lock_after c o h) ≡ held j → is_offset (cond (nat_eq coarray c) size (size_after m h c)) (pos o) ≡ true
    made_cell coarray size now = elim (cases_Bool (nat_eq coarray c)) [
      | inl t ↦ absurd (not_free j (sym (ap (λ b. cond b free (lock_after c o h)) t) ∙ now))
      | inr f ↦ rw f (cell (sym (ap (λ b. cond b free (lock_after c o h)) f) ∙ now))
    ]

    still_cell : (a : Ask) (r : Reply) → is_locking a ≡ false → lock_turn c o (lock_after c o h) i a r ≡ held j → is_offset (size_after m h c) (pos o) ≡ true
    still_cell a r quiet now = elim (held_before c o (lock_after c o h) i j a r now) [ inl was ↦ cell was | inr own ↦ absurd (both_ways (is_locking a) quiet own.1) ]

    cell_turn : (a : Ask) (r : Reply) → IsTrue (memory_ready m h i a) → r ≡ memory_reply m h i a → lock_turn c o (lock_after c o h) i a r ≡ held j → is_offset (size_turn c (size_after m h c) a) (pos o) ≡ true
    cell_turn (asks.Lock owner span) r ready is now =
        taken_cell owner span r (cell_one m owner span is_lock (ready_parts m h i (asks.Lock owner span) ready).0) (λ got. by_flags (is_marked h) (is_within m h span) _ (sym (ap acquires is) ∙ got)) now
    cell_turn (asks.TryLock owner span) r ready is now =
        taken_cell owner span r (cell_one m owner span is_lock (ready_parts m h i (asks.TryLock owner span) ready).0) (λ got. by_flags (is_marked h) (is_within m h span) _ (sym (ap acquires is) ∙ got)) now
    cell_turn (asks.Create owner coarray cells) r ready is now = made_cell coarray _ now
    cell_turn (asks.Delete owner coarray) r ready is now = made_cell coarray _ now
    cell_turn a r ready is now = still_cell a r refl now

  cell_more : (h : List Entry) (e : Entry) → Cell h → IsTrue (memory_ready m h e.image.0 e.event.ask) → e.event.reply ≡ memory_reply m h e.image.0 e.event.ask → Cell (h ++ e ∷ [])
  cell_more h e cell ready is now =
      subst (λ z. is_offset z (pos o) ≡ true) (sym (size_append c (first_size _) h (e ∷ [])))
      (cell_turn h cell e.image.0 e.event.ask e.event.reply ready is (sym (lock_append c o free h (e ∷ [])) ∙ now))

-- a lock that an image doesn't hold it doesn't get by steps of a failure
unheld_stays : (c o j : ℕ) (s : Hold) (es : List Entry) → Each (QuietOf j) es → (s ≡ held j → ⊥) → lock_from c o s es ≡ held j → ⊥
unheld_stays c o j s [] quiet out h = out h
unheld_stays c o j s (e ∷ es) quiet out h =
    unheld_stays c o j (lock_turn c o s e.image.0 e.event.ask e.event.reply) es quiet.1
    (λ now. elim (held_before c o s e.image.0 j e.event.ask e.event.reply now) [ inl was ↦ out was | inr own ↦ both_ways (is_failure_step e.event.ask || is_limit e.event.ask) (locking_loud e.event.ask own.1) (quiet.0 own.0) ]) h

said_other : (j : ℕ) (r : List Entry) (x : Entry) → (x.image.0 ≡ j → ⊥) → said_by j (x ∷ r) ≡ said_by j r
said_other j r x ne = rw (ne_eqb x.image.0 j ne) refl

module _ (coarrays : List Declared) (n : ℕ) (t : List Entry) (lawful : IsLawfulTrace coarrays n t) (w : ℕ) (one : IsOneOf n w) (c o j : ℕ) where
  abbrev m : MadeMemory
  m = made_memory coarrays w

  abbrev lock_at : List Entry → Hold
  lock_at p = lock_after c o (of_memory w p)

  abbrev State : List Entry → List Entry → Type 0
  State p r = Cell m c o j (of_memory w p) × Phase w c o j (lock_at p) (is_marked (of_memory w p)) (said_by j r)

  -- what is known of a step at the memory
  served_there : (p r : List Entry) (x : Entry) → t ≡ p ++ x ∷ r → key_of x ≡ suc w → IsTrue (memory_ready m (of_memory w p) x.image.0 x.event.ask) × (x.event.reply ≡ memory_reply m (of_memory w p) x.image.0 x.event.ask)
  served_there p r x e key =
      let there : of_memory w t ≡ of_memory w p ++ x ∷ of_memory w r = ap (of_memory w) e ∙ split_of (suc w) p (x ∷ r) ∙ ap (λ b. of_memory w p ++ cond b (x ∷ of_memory w r) (of_memory w r)) (eq-eqb (key_of x) (suc w) key) in
      let s = served_behind (memory_ready m) (memory_reply m) [] (of_memory w p) (x ∷ of_memory w r) (subst (Served (memory_ready m) (memory_reply m) []) there (lawful.memories w one)) in
      (s.0, s.1)

  lock_more : (p : List Entry) (x : Entry) → lock_at (p ++ x ∷ []) ≡ turned w c o (lock_at p) x.image.0 x.event.ask x.event.reply
  lock_more p x = elim (cases_eq (key_of x) (suc w)) [
    | inl key ↦ ap (lock_after c o) (of_last key_of (suc w) p x key) ∙ lock_append c o free (of_memory w p) (x ∷ []) ∙ sym (ap (λ b. cond b (lock_turn c o (lock_at p) x.image.0 x.event.ask x.event.reply) (lock_at p)) (eq-eqb (key_of x) (suc w) key))
    | inr ne ↦ ap (lock_after c o) (of_other key_of (suc w) p x ne) ∙ sym (ap (λ b. cond b (lock_turn c o (lock_at p) x.image.0 x.event.ask x.event.reply) (lock_at p)) (ne_eqb (key_of x) (suc w) ne))
  ]

  unmarked_front : (p r : List Entry) → is_marked (of_memory w (p ++ r)) ≡ false → is_marked (of_memory w p) ≡ false
  unmarked_front p r h =
      (or_parts (is_marked (of_memory w p)) (is_marked (of_memory w r)) (sym (list_any-append (λ (x : Entry). is_mark x.event.ask) (of_memory w p) (of_memory w r)) ∙ sym (ap is_marked (split_of (suc w) p r)) ∙ h)).0

  cell_step : (p r : List Entry) (x : Entry) → t ≡ p ++ x ∷ r → Cell m c o j (of_memory w p) → Cell m c o j (of_memory w (p ++ x ∷ []))
  cell_step p r x e cell = elim (cases_eq (key_of x) (suc w)) [
    | inl key ↦ (let s = served_there p r x e key in subst (Cell m c o j) (sym (of_last key_of (suc w) p x key)) (cell_more m c o j (of_memory w p) x cell s.0 s.1))
    | inr ne ↦ subst (Cell m c o j) (sym (of_other key_of (suc w) p x ne)) cell
  ]

  -- the release of the lock by its holder's failure frees it
  done_there : (h : List Entry) (owner : ImageNo) (span : Span) (b : Bool) → is_within m h span ≡ b → is_marked h ≡ false → b ≡ true → is_done (memory_reply m h j (asks.Free owner span)) ≡ true
  done_there h owner span b within un sure = ap is_done (unmarked_reply m h j (asks.Free owner span) un ∙ ap (λ z. cond z replies.Done replies.Absent) (within ∙ sure))

  freed_here : (p r : List Entry) (x : Entry) (q : LockPlace) → t ≡ p ++ x ∷ r → Cell m c o j (of_memory w p) → x.image.0 ≡ j → x.event.ask ≡ release_of q
      → lock_at (p ++ x ∷ []) ≡ held j → is_marked (of_memory w (p ++ x ∷ [])) ≡ false → place w c o ≡ q → ⊥
  freed_here p r x q e cell own ask now un here =
      let s = lock_at p in
      let h = of_memory w p in
      let owner : ImageNo = record { 0 = w } in
      let span : Span = record { coarray = c; start = o; dims = [] } in
      let is : x.event.ask ≡ asks.Free owner span = ask ∙ ap release_of (sym here) in
      let key : key_of x ≡ suc w = ap (λ a. object_of (place_of a)) is in
      let turn : turned w c o s j (asks.Free owner span) x.event.reply ≡ held j =
      sym (ap (λ a. turned w c o s x.image.0 a x.event.reply) is ∙ ap (λ i. turned w c o s i (asks.Free owner span) x.event.reply) own) ∙ sym (lock_more p x) ∙ now in
      let was = stays_held w c o s j j (asks.Free owner span) x.event.reply refl turn in
      let there : is_within m h span ≡ true = and_true (is_offset (size_after m h c) (pos o)) ∙ cell was in
      let reply : x.event.reply ≡ memory_reply m h j (asks.Free owner span) = (served_there p r x e key).1 ∙ ap (λ i. memory_reply m h i x.event.ask) own ∙ ap (memory_reply m h j) is in
      let made : is_done x.event.reply ≡ true = ap is_done reply ∙ done_there h owner span true there (unmarked_front p (x ∷ []) un) refl in
      let left : turned w c o s j (asks.Free owner span) x.event.reply ≡ abandoned s j = (here_by w c o owner span refl refl refl).1 (is_done x.event.reply) (abandoned s j) s ∙ ap (λ b. cond b (abandoned s j) s) made in
      left_out s j (sym left ∙ turn)

  phase_step : (p r : List Entry) (x : Entry) → t ≡ p ++ x ∷ r → State p (x ∷ r) → Phase w c o j (lock_at (p ++ x ∷ [])) (is_marked (of_memory w (p ++ x ∷ []))) (said_by j r)
  phase_step p r x e st =
      let s = lock_at p in
      let s' = lock_at (p ++ x ∷ []) in
      let un : is_marked (of_memory w (p ++ x ∷ [])) ≡ false → is_marked (of_memory w p) ≡ false = unmarked_front p (x ∷ []) in
      elim (cases_eq x.image.0 j) [
        | inr ne ↦ phase_other w c o j s s' (is_marked (of_memory w p)) (is_marked (of_memory w (p ++ x ∷ []))) (said_by j r) (λ h. others_held w c o s x.image.0 j x.event.ask x.event.reply ne (sym (lock_more p x) ∙ h)) un
            (subst (Phase w c o j s (is_marked (of_memory w p))) (said_other j r x ne) st.1)
        | inl own ↦ phase_own w c o j s s' (is_marked (of_memory w p)) (is_marked (of_memory w (p ++ x ∷ []))) (said_by j r) un (said x.event)
            (λ quiet h. stays_held w c o s x.image.0 j x.event.ask x.event.reply quiet (sym (lock_more p x) ∙ h))
            (λ hs had h. kept_in w c o s j hs had x.event.reply x.event.ask (sym (ap (λ i. turned w c o s i x.event.ask x.event.reply) own) ∙ sym (lock_more p x) ∙ h))
            (λ q ask h u here. freed_here p r x q e st.0 own ask h u here)
            (subst (Phase w c o j s (is_marked (of_memory w p))) (said_at j [] r x own) st.1)
      ]

  walk : (p b r : List Entry) → t ≡ p ++ (b ++ r) → State p (b ++ r) → State (p ++ b) r
  walk p [] r e st = subst (λ z. State z r) (sym (append-nil p)) st
  walk p (x ∷ b) r e st =
      subst (λ z. State z r) (append_assoc p (x ∷ []) b)
      (walk (p ++ x ∷ []) b r (e ∙ sym (append_assoc p (x ∷ []) (b ++ r))) (cell_step p (b ++ r) x e st.0, phase_step p (b ++ r) x e st))

  at_start : State [] t
  at_start = ((λ h. absurd (not_free j h)), going [] (lawful.fails j) (λ h. absurd (not_free j h)))

  pub lock_left : lock_after c o (of_memory w t) ≡ held j → is_marked (of_memory w t) ≡ false → has_failed j (happened control (at_board t)) ≡ true → ⊥
  lock_left h un failed =
      let g = gone_at coarrays n t lawful j failed in
      let st = walk [] g.before (g.entry ∷ g.after) g.split (subst (State []) g.split at_start) in
      let phase = subst (Phase w c o j (lock_at g.before) (is_marked (of_memory w g.before))) (said_at j [] g.after g.entry g.own) st.1 in
      let out = at_end w c o j (lock_at g.before) (lock_at g.before) (is_marked (of_memory w g.before)) (is_marked (of_memory w g.before)) (said_by j g.after) (λ u. u) (said g.entry.event) g.ask phase in
      let un' = unmarked_front g.before (g.entry ∷ g.after) (sym (ap (λ z. is_marked (of_memory w z)) g.split) ∙ un) in
      let quiet : Each (QuietOf j) (g.entry ∷ g.after) = ((λ own. or_left (is_failure_step g.entry.event.ask) (is_limit g.entry.event.ask) (ap is_failure_step g.ask)), g.quiet) in
      unheld_stays c o j (lock_at g.before) (of_memory w (g.entry ∷ g.after)) (each_picked (QuietOf j) (λ e. nat_eq (key_of e) (suc w)) (g.entry ∷ g.after) quiet) (λ now. out now un')
      (sym (lock_append c o free (of_memory w g.before) (of_memory w (g.entry ∷ g.after))) ∙ sym (ap (lock_after c o) (ap (of_memory w) g.split ∙ split_of (suc w) g.before (g.entry ∷ g.after))) ∙ h)
