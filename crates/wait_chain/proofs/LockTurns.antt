-- Who holds a lock after a step: who held it before, or who made the step, which was LOCK.
use Rattle.std.proofs.Common.{◌≡◌, ℕ, pos, Bool, true, false, nat_eq, ◌&&◌, cond, List, [], ◌∷◌, ◌⊎◌, inl, inr, refl, subst}
use Rattle.std.proofs.lemmas.Bool.{cases_Bool}
use Rattle.caf_events.specs.declared.ask.Ask.{Ask}
use Rattle.caf_events.specs.declared.ask.Ask.TheVariants as asks
use Rattle.caf_events.specs.declared.reply.Reply.{Reply}
use Rattle.caf_events.specs.declared.event.Entry.{Entry}
use Rattle.trace_theory.specs.Entries.{Each}
use Rattle.object_rules.specs.Constructs.{Hold, free, held, left_by, abandoned}
use Rattle.object_rules.specs.Locks.{is_at, has_status, acquires, is_done, lock_turn, lock_from}
use Rattle.core_runs.specs.Beginnings.{IsOneOf}
use Rattle.core_runs.specs.Lists.{image_of}

-- LOCK, with ACQUIRED_LOCK= or without
abbrev pub is_locking : Ask → Bool
is_locking (asks.Lock owner span) = true
is_locking (asks.TryLock owner span) = true
is_locking a = false

pub cond_held : (b : Bool) (x s : Hold) (j : ℕ) → cond b x s ≡ held j → (x ≡ held j) ⊎ (s ≡ held j)
cond_held true x s j h = inl h
cond_held false x s j h = inr h

pub held_same : (i j : ℕ) → held i ≡ held j → i ≡ j
held_same i j h = cc

pub not_free : (j : ℕ) → free ≡ held j → ⊥
not_free j h = cc

pub abandoned_held : (s : Hold) (i j : ℕ) → abandoned s i ≡ held j → s ≡ held j
abandoned_held (held k) i j h = elim (cases_Bool (nat_eq k i)) [ inl t ↦ absurd (let z : left_by i ≡ held j = rw t at h in cc) | inr f ↦ rw f at h ]
abandoned_held free i j h = h
abandoned_held (left_by k) i j h = h

pub held_before : (c o : ℕ) (s : Hold) (i j : ℕ) (a : Ask) (r : Reply) → lock_turn c o s i a r ≡ held j → (s ≡ held j) ⊎ ((i ≡ j) × (is_locking a ≡ true))
held_before c o s i j (asks.Lock owner span) r h = elim (cond_held (is_at c o span && acquires r) (held i) s j h) [ inl e ↦ inr (held_same i j e, refl) | inr e ↦ inl e ]
held_before c o s i j (asks.TryLock owner span) r h = elim (cond_held (is_at c o span && acquires r) (held i) s j h) [ inl e ↦ inr (held_same i j e, refl) | inr e ↦ inl e ]
held_before c o s i j (asks.Unlock owner span) r h = elim (cond_held (is_at c o span && has_status (pos 0) r) free s j h) [ inl e ↦ absurd (not_free j e) | inr e ↦ inl e ]
held_before c o s i j (asks.Free owner span) r h = elim (cond_held (is_at c o span && is_done r) (abandoned s i) s j h) [ inl e ↦ inl (abandoned_held s i j e) | inr e ↦ inl e ]
held_before c o s i j (asks.Create owner coarray cells) r h = elim (cond_held (nat_eq coarray c) free s j h) [ inl e ↦ absurd (not_free j e) | inr e ↦ inl e ]
held_before c o s i j (asks.Delete owner coarray) r h = elim (cond_held (nat_eq coarray c) free s j h) [ inl e ↦ absurd (not_free j e) | inr e ↦ inl e ]
held_before c o s i j a r h = inl h

-- and so after many: it is an image that made one of them
pub held_image : (n c o : ℕ) (s : Hold) (es : List Entry) (j : ℕ) → Each (λ e. IsOneOf n (image_of e)) es → lock_from c o s es ≡ held j → (s ≡ held j) ⊎ IsOneOf n j
held_image n c o s [] j all h = inl h
held_image n c o s (e ∷ es) j all h = elim (held_image n c o (lock_turn c o s e.image.0 e.event.ask e.event.reply) es j all.1 h) [
  | inr one ↦ inr one
  | inl now ↦ elim (held_before c o s e.image.0 j e.event.ask e.event.reply now) [ inl was ↦ inl was | inr own ↦ inr (subst (IsOneOf n) own.0 all.0) ]
]
