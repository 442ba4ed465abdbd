-- In a lawful trace a status that speaks of a memory's owner as failed stands behind the mark that the owner's failure
-- left there.
use Rattle.std.proofs.Common.{◌≡◌, ℕ, suc, Bool, true, false, nat_eq, cond, List, [], ◌∷◌, ◌++◌, inl, inr, refl, ap, sym, ◌∙◌, subst, IsTrue, append_assoc}
use Rattle.std.specs.Prelude.{ℤ, pos}
use Rattle.std.specs.List.{list_any}
use Rattle.std.proofs.lemmas.Bool.{cases_Bool, and_parts, both_ways, or_cases, eqb-true, eq-eqb}
use Rattle.std.proofs.lemmas.List.{append-nil}
use Rattle.caf_base.specs.declared.place.ImageNo.{ImageNo}
use Rattle.caf_base.specs.declared.place.Place.TheVariants as places
use Rattle.caf_events.specs.declared.ask.Ask.{Ask}
use Rattle.caf_events.specs.declared.ask.Ask.TheVariants as asks
use Rattle.caf_events.specs.declared.reply.Reply.{Reply}
use Rattle.caf_events.specs.declared.reply.Reply.TheVariants as replies
use Rattle.caf_events.specs.declared.event.Entry.{Entry}
use Rattle.caf_events.specs.Asks.{place_of, object_of}
use Rattle.caf_events.specs.Histories.{Served}
use Rattle.object_rules.specs.Constructs.{Hold, free, held, left_by}
use Rattle.object_rules.specs.Locks.{lock_after, lock_status, unlock_status, is_others}
use Rattle.object_rules.specs.Cells.{Declared, MadeMemory, is_mark, is_marked}
use Rattle.object_rules.specs.MemoryRules.{cells_there, can_come, fits_memory, touch_reply, memory_ready, memory_reply}
use Rattle.trace_theory.specs.Entries.{of, Each}
use Rattle.trace_theory.proofs.Filters.{filter_append}
use Rattle.trace_theory.proofs.Snocs.{each_at}
use Rattle.core_runs.specs.Lists.{key_of}
use Rattle.core_runs.specs.Beginnings.{IsOneOf, IsThere}
use Rattle.core_runs.specs.Failures.{is_failure_step}
use Rattle.core_runs.specs.CoreRuns.{of_memory}
use Rattle.core_runs.specs.Lawful.{IsLawfulTrace, made_memory}
use Rattle.order_axioms.specs.Statuses.{tells_failed}

-- an entry of these by which image i fails
abbrev pub FailsIn : List Entry → ℕ → Type 0
FailsIn g i = (b : List Entry) × (f : Entry) × (r : List Entry) × (g ≡ b ++ f ∷ r) × (f.image.0 ≡ i) × (is_failure_step f.event.ask ≡ true)

-- an entry stands somewhere in a list
abbrev StandsIn : List Entry → Entry → Type 0
StandsIn g e = (b : List Entry) × (r : List Entry) × (g ≡ b ++ e ∷ r)

-- what was served at a place
pub served_at : (ready : List Entry → ℕ → Ask → Bool) (reply : List Entry → ℕ → Ask → Reply) (before a : List Entry) (x : Entry) (b : List Entry) → Served ready reply before (a ++ x ∷ b)
    → IsTrue (ready (before ++ a) x.image.0 x.event.ask) × (x.event.reply ≡ reply (before ++ a) x.image.0 x.event.ask)
served_at ready reply before [] x b h =
    let same = sym (append-nil before) in
    (subst (λ g. IsTrue (ready g x.image.0 x.event.ask)) same h.0, h.1 ∙ ap (λ g. reply g x.image.0 x.event.ask) same)
served_at ready reply before (y ∷ a) x b h =
    subst (λ g. IsTrue (ready g x.image.0 x.event.ask) × (x.event.reply ≡ reply g x.image.0 x.event.ask)) (append_assoc before (y ∷ []) a) (served_at ready reply (before ++ y ∷ []) a x b h.2)

-- an object's entries around one of them
pub of_here : (k : ℕ) (g h : List Entry) (x : Entry) → key_of x ≡ k → of key_of k (g ++ x ∷ h) ≡ of key_of k g ++ x ∷ of key_of k h
of_here k g h x e = filter_append (λ y. nat_eq (key_of y) k) g (x ∷ h) ∙ ap (λ b. of key_of k g ++ cond b (x ∷ of key_of k h) (of key_of k h)) (eq-eqb (key_of x) k e)

-- an object's entry stands in the whole too
front_stands : (x : Entry) (g more u v : List Entry) (e : Entry) → ((w : List Entry) → more ≡ w ++ e ∷ v → StandsIn g e) → x ∷ more ≡ u ++ e ∷ v → StandsIn (x ∷ g) e
front_stands x g more [] v e next same = ([], g, (let y : x ≡ e = cc in ap (λ z. z ∷ g) y))
front_stands x g more (y ∷ u) v e next same = let z = next u (cc) in (x ∷ z.0, z.1, ap (λ w. x ∷ w) z.2)

of_back : (k : ℕ) (g u v : List Entry) (e : Entry) → of key_of k g ≡ u ++ e ∷ v → StandsIn g e
of_back k [] [] v e h = absurd (cc)
of_back k [] (y ∷ u) v e h = absurd (cc)
of_back k (x ∷ g) u v e h = elim (cases_Bool (nat_eq (key_of x) k)) [
  | inl t ↦ front_stands x g (of key_of k g) u v e (λ w q. of_back k g w v e q) (rw t at h)
  | inr f ↦ (let z = of_back k g u v e (rw f at h) in (x ∷ z.0, z.1, ap (λ y. x ∷ y) z.2))
]

-- some entry passes a test
any_stands : (test : Entry → Bool) (h : List Entry) → list_any test h ≡ true → (u : List Entry) × (e : Entry) × (v : List Entry) × (h ≡ u ++ e ∷ v) × (test e ≡ true)
any_stands test [] t = absurd (cc)
any_stands test (x ∷ h) t = elim (or_cases (test x) (list_any test h) t) [
  | inl a ↦ ([], x, h, refl, a)
  | inr b ↦ (let z = any_stands test h b in (x ∷ z.0, z.1, z.2, ap (λ y. x ∷ y) z.3, z.4))
]

-- the owner alone marks its memory, and the mark is a step of its failure
mark_is : (m : MadeMemory) (h : List Entry) (i : ℕ) (a : Ask) → is_mark a ≡ true → IsTrue (memory_ready m h i a) → (i ≡ m.owner.0) × (is_failure_step a ≡ true)
mark_is m h i (asks.Mark owner) is t =
    let fits = (and_parts (fits_memory m h i (asks.Mark owner)) (can_come h (cells_there m h (asks.Mark owner)) i (asks.Mark owner)) t).0 in
    (eqb-true i m.owner.0 (and_parts (nat_eq owner.0 m.owner.0) (nat_eq i m.owner.0) fits).1, refl)
mark_is m h i a is t = absurd (cc)

-- the statuses of LOCK and UNLOCK at a memory that isn't marked
lock_tells : (s : Hold) (i : ℕ) → tells_failed (lock_status s i) ≡ false
lock_tells free i = refl
lock_tells (held j) i = refl
lock_tells (left_by j) i = refl

either : (b : Bool) (x y : ℤ) → tells_failed x ≡ false → tells_failed y ≡ false → tells_failed (cond b x y) ≡ false
either true x y p q = p
either false x y p q = q

unlock_tells : (s : Hold) (i : ℕ) → tells_failed (unlock_status s i) ≡ false
unlock_tells free i = refl
unlock_tells (held j) i = either (nat_eq j i) (pos 0) (pos 6005) refl refl
unlock_tells (left_by j) i = refl

-- the asks whose status may speak of the owner
abbrev pub SpeaksOfOwner : ImageNo → Ask → Type 0
SpeaksOfOwner o (asks.Lock owner span) = owner ≡ o
SpeaksOfOwner o (asks.TryLock owner span) = owner ≡ o
SpeaksOfOwner o (asks.Unlock owner span) = owner ≡ o
SpeaksOfOwner o (asks.Post owner span) = owner ≡ o
SpeaksOfOwner o ask = ⊥

-- the reply doesn't say that a memory's owner has failed
abbrev Silent : Reply → Type 0
Silent (replies.Number status) = tells_failed status ≡ false
Silent reply = Unit {0}

either_silent : (b : Bool) (x y : Reply) → Silent x → Silent y → Silent (cond b x y)
either_silent true x y p q = p
either_silent false x y p q = q

touch_silent : (m : MadeMemory) (h : List Entry) (i : ℕ) (o : ImageNo) (a : Ask) → SpeaksOfOwner o a → Silent (touch_reply m h i a)
touch_silent m h i o (asks.Lock owner span) s = lock_tells (lock_after span.coarray span.start h) i
touch_silent m h i o (asks.TryLock owner span) s =
    either_silent (is_others (lock_after span.coarray span.start h) i) replies.Busy (replies.Number (lock_status (lock_after span.coarray span.start h) i)) tt (lock_tells (lock_after span.coarray span.start h) i)
touch_silent m h i o (asks.Unlock owner span) s = unlock_tells (lock_after span.coarray span.start h) i
touch_silent m h i o (asks.Post owner span) s = refl
touch_silent m h i o a s = absurd s

unmarked_silent : (m : MadeMemory) (h : List Entry) (i : ℕ) (o : ImageNo) (a : Ask) → SpeaksOfOwner o a → is_marked h ≡ false → Silent (memory_reply m h i a)
unmarked_silent m h i o a s f = rw f (either_silent (cells_there m h a) (touch_reply m h i a) replies.Absent (touch_silent m h i o a s) tt)

marked_by : (m : MadeMemory) (h : List Entry) (i : ℕ) (o : ImageNo) (a : Ask) (status : ℤ) → SpeaksOfOwner o a → replies.Number status ≡ memory_reply m h i a → tells_failed status ≡ true → is_marked h ≡ true
marked_by m h i o a status s e f = elim (cases_Bool (is_marked h)) [
  | inl t ↦ t
  | inr n ↦ absurd (both_ways (tells_failed status) (subst Silent (sym e) (unmarked_silent m h i o a s n)) f)
]

owner_place : (o : ImageNo) (a : Ask) → SpeaksOfOwner o a → place_of a ≡ places.Memory o
owner_place o (asks.Lock owner span) s = ap places.Memory s
owner_place o (asks.TryLock owner span) s = ap places.Memory s
owner_place o (asks.Unlock owner span) s = ap places.Memory s
owner_place o (asks.Post owner span) s = ap places.Memory s
owner_place o a s = absurd s

module _ (s : List Declared) (n : ℕ) (t : List Entry) (lawful : IsLawfulTrace s n t) (g h : List Entry) (x : Entry) (split : t ≡ g ++ x ∷ h) where
  module _ (o : ImageNo) (place : place_of x.event.ask ≡ places.Memory o) where
    in_run : IsOneOf n o.0
    in_run = subst (IsThere n) place (each_at (λ e. IsThere n (place_of e.event.ask)) g h x (subst (Each (λ e. IsThere n (place_of e.event.ask))) split lawful.places))

    key : key_of x ≡ suc o.0
    key = subst (λ p. object_of p ≡ suc o.0) (sym place) refl

    memory_split : of_memory o.0 t ≡ of_memory o.0 g ++ x ∷ of_memory o.0 h
    memory_split = ap (of_memory o.0) split ∙ of_here (suc o.0) g h x key

    abbrev ready : List Entry → ℕ → Ask → Bool
    ready = memory_ready (made_memory s o.0)

    abbrev reply : List Entry → ℕ → Ask → Reply
    reply = memory_reply (made_memory s o.0)

    memory_served : Served ready reply [] (of_memory o.0 g ++ x ∷ of_memory o.0 h)
    memory_served = subst (Served ready reply []) memory_split (lawful.memories o.0 in_run)

    pub served_here : IsTrue (ready (of_memory o.0 g) x.image.0 x.event.ask) × (x.event.reply ≡ reply (of_memory o.0 g) x.image.0 x.event.ask)
    served_here = served_at ready reply [] (of_memory o.0 g) x (of_memory o.0 h) memory_served

    -- where the memory is marked its owner has failed
    marked_fails : is_marked (of_memory o.0 g) ≡ true → FailsIn g o.0
    marked_fails m =
        let z = any_stands (λ e. is_mark e.event.ask) (of_memory o.0 g) m in
        let at = of_back (suc o.0) g z.0 z.2 z.1 z.3 in
        let whole : of_memory o.0 g ++ x ∷ of_memory o.0 h ≡ z.0 ++ z.1 ∷ (z.2 ++ x ∷ of_memory o.0 h) = ap (λ y. y ++ x ∷ of_memory o.0 h) z.3 ∙ append_assoc z.0 (z.1 ∷ z.2) (x ∷ of_memory o.0 h) in
        let there = served_at ready reply [] z.0 z.1 (z.2 ++ x ∷ of_memory o.0 h) (subst (Served ready reply []) whole memory_served) in
        let is = mark_is (made_memory s o.0) z.0 z.1.image.0 z.1.event.ask z.4 there.0 in
        (at.0, z.1, at.1, at.2, is.0, is.1)

  -- a status that speaks of the owner of a memory
  pub owner_fails : (o : ImageNo) (status : ℤ) → SpeaksOfOwner o x.event.ask → x.event.reply ≡ replies.Number status → tells_failed status ≡ true → FailsIn g o.0
  owner_fails o status speaks is f =
      let place = owner_place o x.event.ask speaks in
      let r = served_here o place in
      marked_fails o place (marked_by (made_memory s o.0) (of_memory o.0 g) x.image.0 o x.event.ask status speaks (sym is ∙ r.1) f)
