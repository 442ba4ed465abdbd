-- The failure of an image (ISO/IEC 1539-1:2018, 5.3.6, 11.5) and the limits of a run, in the list of what the image
-- says and hears.
use Rattle.std.specs.Prelude.{ℕ, ◌≡◌, ◌⊎◌, Bool, true, false, ◌&&◌, not, nat_eq, cond, pos, List, [], ◌∷◌, ◌++◌, map}
use Rattle.std.specs.List.{filter}
use Rattle.caf_base.specs.declared.place.ImageNo.{ImageNo}
use Rattle.caf_base.specs.declared.span.Span.{Span}
use Rattle.caf_events.specs.declared.ask.Ask.{Ask}
use Rattle.caf_events.specs.declared.ask.Ask.TheVariants as asks
use Rattle.caf_events.specs.declared.reply.Reply.{Reply}
use Rattle.object_rules.specs.Locks.{has_status, acquires}
use Rattle.trace_theory.specs.Machines.{Said}

-- a lock variable: whose it is, its coarray and its offset
pub record LockPlace : Type 0 where
  pub owner : ℕ
  pub coarray : ℕ
  pub offset : ℕ

abbrev pub same_place : LockPlace → LockPlace → Bool
same_place a b = nat_eq a.owner b.owner && (nat_eq a.coarray b.coarray && nat_eq a.offset b.offset)

abbrev pub lock_place : ImageNo → Span → LockPlace
lock_place owner span = record { owner = owner.0; coarray = span.coarray; offset = span.start }

-- the locks without this one; the order of the others stays
abbrev pub without : LockPlace → List LockPlace → List LockPlace
without p held = filter (λ q. not (same_place q p)) held

-- the locks that an image holds after a step, in the order in which they were got last (11.6.10): LOCK puts the one
-- that it gets at the end, UNLOCK with status 0 takes it out
abbrev pub held_after : List LockPlace → Ask → Reply → List LockPlace
held_after held (asks.Lock owner span) reply = cond (acquires reply) (without (lock_place owner span) held ++ lock_place owner span ∷ []) held
held_after held (asks.TryLock owner span) reply = cond (acquires reply) (without (lock_place owner span) held ++ lock_place owner span ∷ []) held
held_after held (asks.Unlock owner span) reply = cond (has_status (pos 0) reply) (without (lock_place owner span) held) held
held_after held ask reply = held

-- the release of a lock by its holder's failure
abbrev pub release_of : LockPlace → Ask
release_of p = asks.Free (record { 0 = p.owner }) (record { coarray = p.coarray; start = p.offset; dims = [] })

-- the steps of a failure after the first one: the mark at the image's memory, a release for each lock that it holds,
-- and its end at the board
abbrev pub failure_steps : ℕ → List LockPlace → List Ask
failure_steps image held = asks.Mark (record { 0 = image }) ∷ map release_of held ++ asks.Gone ∷ []

-- a step of a failure
abbrev pub is_failure_step : Ask → Bool
is_failure_step asks.Fail = true
is_failure_step (asks.Mark owner) = true
is_failure_step (asks.Free owner span) = true
is_failure_step asks.Gone = true
is_failure_step ask = false

-- a limit: of statements, of recorded words, of stamps
abbrev pub is_limit : Ask → Bool
is_limit (asks.LimitStatements number) = true
is_limit (asks.LimitWords number) = true
is_limit (asks.LimitStamp number) = true
is_limit ask = false

-- these asks and no others follow, as far as any does, but for one limit at the end
abbrev pub RunsOut : List Ask → List (Said Ask Reply) → Type 0
RunsOut steps [] = Unit {0}
RunsOut [] (e ∷ es) = (is_limit e.ask ≡ true) × (es ≡ [])
RunsOut (s ∷ ss) (e ∷ es) = ((e.ask ≡ s) × RunsOut ss es) ⊎ ((is_limit e.ask ≡ true) × (es ≡ []))

-- behind the first step of a failure stand the others, with a release for each lock that the image holds then; none of
-- them stands elsewhere
abbrev pub FailsBy : ℕ → List LockPlace → Ask → Reply → List (Said Ask Reply) → (List LockPlace → Type 0) → Type 0
FailsBy image held asks.Fail reply es rest = RunsOut (failure_steps image held) es
FailsBy image held ask reply es rest = (is_failure_step ask ≡ false) × rest (held_after held ask reply)

abbrev pub FailsFrom : ℕ → List (Said Ask Reply) → List LockPlace → Type 0
FailsFrom image [] held = Unit {0}
FailsFrom image (e ∷ es) held = FailsBy image held e.ask e.reply es (FailsFrom image es)

-- nothing follows a limit
abbrev pub NothingAfterLimit : List (Said Ask Reply) → Type 0
NothingAfterLimit es = (before after : List (Said Ask Reply)) (e : Said Ask Reply) → es ≡ before ++ e ∷ after → is_limit e.ask ≡ true → after ≡ []
