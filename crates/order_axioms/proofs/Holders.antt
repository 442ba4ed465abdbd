-- In a lawful trace the last holder of a lock or construct of which a status speaks has failed.
use Rattle.std.proofs.Common.{◌≡◌, ℕ, suc, Bool, true, false, nat_eq, ◌&&◌, cond, List, [], ◌∷◌, ◌++◌, inl, inr, refl, ap, sym, ◌∙◌, subst, arith, append_assoc}
use Rattle.std.specs.Prelude.{pos}
use Rattle.std.proofs.lemmas.Bool.{cases_Bool, cases_eq, eq-eqb, ne_eqb}
use Rattle.std.proofs.lemmas.Bool.Decides.{eqb_tells}
use Rattle.std.proofs.lemmas.List.{append-nil}
use Rattle.caf_base.specs.declared.place.ImageNo.{ImageNo}
use Rattle.caf_base.specs.declared.span.Span.{Span}
use Rattle.caf_events.specs.declared.ask.Ask.{Ask}
use Rattle.caf_events.specs.declared.ask.Ask.TheVariants as asks
use Rattle.caf_events.specs.declared.reply.Reply.{Reply}
use Rattle.caf_events.specs.declared.reply.Reply.TheVariants as replies
use Rattle.caf_events.specs.declared.event.Entry.{Entry}
use Rattle.caf_events.specs.Asks.{place_of, object_of}
use Rattle.object_rules.specs.Constructs.{Hold, free, held, left_by, released, abandoned, construct_turn, construct_from}
use Rattle.object_rules.specs.Locks.{is_at, acquires, has_status, is_done, lock_turn, lock_from}
use Rattle.trace_theory.specs.Entries.{of}
use Rattle.core_runs.specs.Lists.{key_of}
use Rattle.core_runs.specs.Failures.{is_failure_step}
use Rattle.order_theory.specs.Races.{Cell, same_cell}
use Rattle.order_theory.specs.Acts.{Act, gets, enters, unlocks, posts, finishes}
use Rattle.order_axioms.specs.Statuses.{tells_success, tells_acquired}
use Rattle.order_axioms.specs.Views.{first_cell, arrival, departure, end_of_pair, locking, unlocking, posting, act_by, act_of, got_by, entered_by, last_holder, last_inside}
use Rattle.order_axioms.proofs.Marked.{FailsIn}

-- what the entries so far say of who held it last, and of its failure
abbrev pub Agrees : Hold → List ℕ → List Entry → Type 0
Agrees free js g = Unit {0}
Agrees (held j) js g = js ≡ j ∷ []
Agrees (left_by j) js g = (js ≡ j ∷ []) × FailsIn g j

suc_same : (a b : ℕ) → suc a ≡ suc b → a ≡ b
suc_same a b h = omega arith

fails_more : (g : List Entry) (e : Entry) (i : ℕ) → FailsIn g i → FailsIn (g ++ e ∷ []) i
fails_more g e i (b, f, r, s, is, step) = (b, f, r ++ e ∷ [], ap (λ z. z ++ e ∷ []) s ∙ append_assoc b (f ∷ r) (e ∷ []), is, step)

agrees_more : (s : Hold) (js : List ℕ) (g : List Entry) (e : Entry) → Agrees s js g → Agrees s js (g ++ e ∷ [])
agrees_more free js g e h = tt
agrees_more (held j) js g e h = h
agrees_more (left_by j) js g e h = (h.0, fails_more g e j h.1)

-- it is released
agrees_released : (s : Hold) (js : List ℕ) (g : List Entry) (i : ℕ) → Agrees s js g → Agrees (released s i) js g
agrees_released free js g i h = tt
agrees_released (held j) js g i h = elim (cases_Bool (nat_eq j i)) [ inl t ↦ rw t tt | inr f ↦ rw f h ]
agrees_released (left_by j) js g i h = h

-- the image that has it fails
agrees_left : (s : Hold) (js : List ℕ) (g : List Entry) (e : Entry) → is_failure_step e.event.ask ≡ true → Agrees s js g → Agrees (abandoned s e.image.0) js (g ++ e ∷ [])
agrees_left free js g e step h = tt
agrees_left (held j) js g e step h = elim (cases_eq j e.image.0) [
  | inl q ↦ rw (eq-eqb j e.image.0 q) (h ∙ ap (λ i. i ∷ []) q, (g, e, [], refl, refl, step))
  | inr n ↦ rw (ne_eqb j e.image.0 n) h
]
agrees_left (left_by j) js g e step h = agrees_more (left_by j) js g e h

agrees_either : (b : Bool) (x y : Hold) (js : List ℕ) (g : List Entry) → Agrees x js g → Agrees y js g → Agrees (cond b x y) js g
agrees_either true x y js g p q = p
agrees_either false x y js g p q = q

-- the acts by which an image gets a lock or enters a construct
abbrev takes : Act → Bool
takes (gets c) = true
takes (enters k) = true
takes a = false

got_stays : (c : Cell) (i : ℕ) (a : Act) (js : List ℕ) → takes a ≡ false → got_by c i a js ≡ js
got_stays c i (gets d) js h = absurd (cc)
got_stays c i a js h = refl

entered_stays : (k i : ℕ) (a : Act) (js : List ℕ) → takes a ≡ false → entered_by k i a js ≡ js
entered_stays k i (enters m) js h = absurd (cc)
entered_stays k i a js h = refl

abbrev is_taking : Ask → Bool
is_taking (asks.Lock owner span) = true
is_taking (asks.TryLock owner span) = true
is_taking (asks.Enter construct) = true
is_taking a = false

arrival_takes : (t : ℕ) (r : Reply) → takes (arrival t r) ≡ false
arrival_takes t (replies.Round k) = refl
arrival_takes t r = refl

departure_takes : (t k : ℕ) (r : Reply) → takes (departure t k r) ≡ false
departure_takes t k (replies.Left status teams) = refl
departure_takes t k r = refl

pair_takes : (r : Reply) → takes (end_of_pair r) ≡ false
pair_takes (replies.Number status) = refl
pair_takes r = refl

either_takes : (b : Bool) (x y : Act) → takes x ≡ false → takes y ≡ false → takes (cond b x y) ≡ false
either_takes true x y p q = p
either_takes false x y p q = q

unlock_takes : (c : Cell) (r : Reply) → takes (unlocking c r) ≡ false
unlock_takes c (replies.Number status) = either_takes (tells_success status) (unlocks c) finishes refl refl
unlock_takes c r = refl

post_takes : (c : Cell) (r : Reply) → takes (posting c r) ≡ false
post_takes c (replies.Number status) = either_takes (tells_success status) (posts c) finishes refl refl
post_takes c r = refl

takes_by : (a : Ask) (r : Reply) → is_taking a ≡ false → takes (act_by a r) ≡ false
takes_by (asks.Arrive team arriving) r h = arrival_takes team.0 r
takes_by (asks.Leave team round) r h = departure_takes team.0 round r
takes_by asks.Unpair r h = pair_takes r
takes_by (asks.Unlock owner span) r h = unlock_takes (first_cell owner.0 span) r
takes_by (asks.Post owner span) r h = post_takes (first_cell owner.0 span) r
takes_by (asks.Lock owner span) r h = absurd (cc)
takes_by (asks.TryLock owner span) r h = absurd (cc)
takes_by (asks.Enter construct) r h = absurd (cc)
takes_by a r h = refl

-- only CRITICAL enters a construct
abbrev is_entering : Ask → Bool
is_entering (asks.Enter construct) = true
is_entering a = false

either_entered : (k i : ℕ) (b : Bool) (c : Cell) (js : List ℕ) → entered_by k i (cond b (gets c) finishes) js ≡ js
either_entered k i true c js = refl
either_entered k i false c js = refl

lock_entered : (k i : ℕ) (c : Cell) (r : Reply) (js : List ℕ) → entered_by k i (locking c r) js ≡ js
lock_entered k i c (replies.Number status) js = either_entered k i (tells_acquired status) c js
lock_entered k i c r js = refl

inside_stays : (k i : ℕ) (a : Ask) (r : Reply) (js : List ℕ) → is_entering a ≡ false → entered_by k i (act_by a r) js ≡ js
inside_stays k i (asks.Enter construct) r js h = absurd (cc)
inside_stays k i (asks.Lock owner span) r js h = lock_entered k i (first_cell owner.0 span) r js
inside_stays k i (asks.TryLock owner span) r js h = lock_entered k i (first_cell owner.0 span) r js
inside_stays k i a r js h = entered_stays k i (act_by a r) js (takes_by a r refl)

-- a construct after one more entry
module _ (k : ℕ) (s : Hold) (js : List ℕ) (g : List Entry) (e : Entry) (h : Agrees s js g) where
  inside_same : (a : Ask) (r : Reply) → is_entering a ≡ false → Agrees s (entered_by k e.image.0 (act_by a r) js) (g ++ e ∷ [])
  inside_same a r p = subst (λ l. Agrees s l (g ++ e ∷ [])) (sym (inside_stays k e.image.0 a r js p)) (agrees_more s js g e h)

  construct_step : (a : Ask) (r : Reply) → (is_failure_step a ≡ true → is_failure_step e.event.ask ≡ true) → Agrees (construct_turn k s e.image.0 a) (entered_by k e.image.0 (act_by a r) js) (g ++ e ∷ [])
  construct_step (asks.Enter d) r step = elim (cases_eq d k) [
    | inl q ↦ rw (eq-eqb d k q, eq-eqb k d (sym q)) refl
    | inr n ↦ rw (ne_eqb d k n, ne_eqb k d (λ q. n (sym q))) (agrees_more s js g e h)
  ]
  construct_step (asks.Exit d) r step =
      agrees_either (nat_eq d k) (released s e.image.0) s js (g ++ e ∷ []) (agrees_released s js (g ++ e ∷ []) e.image.0 (agrees_more s js g e h)) (agrees_more s js g e h)
  construct_step asks.Gone r step = agrees_left s js g e (step refl) h
  construct_step a r step = inside_same a r refl

  elsewhere_outside : (a : Ask) (r : Reply) → (object_of (place_of a) ≡ 1 → ⊥) → Agrees s (entered_by k e.image.0 (act_by a r) js) (g ++ e ∷ [])
  elsewhere_outside (asks.Enter d) r n = absurd (n refl)
  elsewhere_outside a r n = inside_same a r refl

-- a construct after more entries
pub construct_agrees : (k : ℕ) (b es : List Entry) (s : Hold) (js : List ℕ) → Agrees s js b → Agrees (construct_from k s (of key_of 1 es)) (last_inside k js es) (b ++ es)
construct_agrees k b [] s js h = subst (Agrees s js) (sym (append-nil b)) h
construct_agrees k b (e ∷ es) s js h = elim (eqb_tells (key_of e) 1) [
  | inl t ↦ rw t.0 (subst (Agrees (construct_from k (construct_turn k s e.image.0 e.event.ask) (of key_of 1 es)) (last_inside k (entered_by k e.image.0 (act_of e) js) es)) (append_assoc b (e ∷ []) es)
      (construct_agrees k (b ++ e ∷ []) es (construct_turn k s e.image.0 e.event.ask) (entered_by k e.image.0 (act_of e) js) (construct_step k s js b e h e.event.ask e.event.reply (λ x. x))))
  | inr f ↦ rw f.0 (subst (Agrees (construct_from k s (of key_of 1 es)) (last_inside k (entered_by k e.image.0 (act_of e) js) es)) (append_assoc b (e ∷ []) es)
      (construct_agrees k (b ++ e ∷ []) es s (entered_by k e.image.0 (act_of e) js) (elsewhere_outside k s js b e h e.event.ask e.event.reply f.1)))
]

same_eq : (a b : ℕ) → nat_eq a b ≡ nat_eq b a
same_eq a b = elim (cases_eq a b) [
  | inl q ↦ eq-eqb a b q ∙ sym (eq-eqb b a (sym q))
  | inr n ↦ ne_eqb a b n ∙ sym (ne_eqb b a (λ q. n (sym q)))
]

-- the cell of a lock, and the test of its place
abbrev pub cell_of : ℕ → ℕ → ℕ → Cell
cell_of o c f = record { owner = o; coarray = c; offset = f }

cell_at : (o c f : ℕ) (owner : ImageNo) (span : Span) → owner.0 ≡ o → same_cell (cell_of o c f) (first_cell owner.0 span) ≡ is_at c f span
cell_at o c f owner span mine =
    ap (λ z. (z && nat_eq c span.coarray) && nat_eq f span.start) (eq-eqb o owner.0 (sym mine))
    ∙ (ap (λ z. z && nat_eq f span.start) (same_eq c span.coarray) ∙ ap (λ z. nat_eq span.coarray c && z) (same_eq f span.start))

cell_elsewhere : (o c f : ℕ) (owner : ImageNo) (span : Span) → (owner.0 ≡ o → ⊥) → same_cell (cell_of o c f) (first_cell owner.0 span) ≡ false
cell_elsewhere o c f owner span n = ap (λ z. (z && nat_eq c span.coarray) && nat_eq f span.start) (ne_eqb o owner.0 (λ q. n (sym q)))

and_false : (b : Bool) → (b && false) ≡ false
and_false true = refl
and_false false = refl

got_elsewhere : (c : Cell) (i : ℕ) (b : Bool) (d : Cell) (js : List ℕ) → same_cell c d ≡ false → got_by c i (cond b (gets d) finishes) js ≡ js
got_elsewhere c i true d js h = ap (λ z. cond z (i ∷ []) js) h
got_elsewhere c i false d js h = refl

locking_elsewhere : (c : Cell) (i : ℕ) (d : Cell) (r : Reply) (js : List ℕ) → same_cell c d ≡ false → got_by c i (locking d r) js ≡ js
locking_elsewhere c i d (replies.Number status) js h = got_elsewhere c i (tells_acquired status) d js h
locking_elsewhere c i d r js h = refl

-- only LOCK gets a lock
abbrev is_locking : Ask → Bool
is_locking (asks.Lock owner span) = true
is_locking (asks.TryLock owner span) = true
is_locking a = false

holder_stays : (c : Cell) (i : ℕ) (a : Ask) (r : Reply) (js : List ℕ) → is_locking a ≡ false → got_by c i (act_by a r) js ≡ js
holder_stays c i (asks.Lock owner span) r js h = absurd (cc)
holder_stays c i (asks.TryLock owner span) r js h = absurd (cc)
holder_stays c i (asks.Enter construct) r js h = refl
holder_stays c i a r js h = got_stays c i (act_by a r) js (takes_by a r refl)

-- a lock variable after one more entry
module _ (o c f : ℕ) (s : Hold) (js : List ℕ) (g : List Entry) (e : Entry) (h : Agrees s js g) where
  holder_same : (a : Ask) (r : Reply) → is_locking a ≡ false → Agrees s js (g ++ e ∷ []) → Agrees s (got_by (cell_of o c f) e.image.0 (act_by a r) js) (g ++ e ∷ [])
  holder_same a r p k = subst (λ l. Agrees s l (g ++ e ∷ [])) (sym (holder_stays (cell_of o c f) e.image.0 a r js p)) k

  -- whichever of the two tests holds
  got_agrees : (at got : Bool) (d : Cell) → same_cell (cell_of o c f) d ≡ at → Agrees (cond (at && got) (held e.image.0) s) (got_by (cell_of o c f) e.image.0 (cond got (gets d) finishes) js) (g ++ e ∷ [])
  got_agrees true true d p = ap (λ z. cond z (e.image.0 ∷ []) js) p
  got_agrees false true d p = subst (λ l. Agrees s l (g ++ e ∷ [])) (sym (ap (λ z. cond z (e.image.0 ∷ []) js) p)) (agrees_more s js g e h)
  got_agrees true false d p = agrees_more s js g e h
  got_agrees false false d p = agrees_more s js g e h

  locked : (owner : ImageNo) (span : Span) (r : Reply) → owner.0 ≡ o → Agrees (cond (is_at c f span && acquires r) (held e.image.0) s) (got_by (cell_of o c f) e.image.0 (locking (first_cell owner.0 span) r) js) (g ++ e ∷ [])
  locked owner span (replies.Number status) mine = got_agrees (is_at c f span) (tells_acquired status) (first_cell owner.0 span) (cell_at o c f owner span mine)
  locked owner span r mine = subst (λ b. Agrees (cond b (held e.image.0) s) js (g ++ e ∷ [])) (sym (and_false (is_at c f span))) (agrees_more s js g e h)

  lock_step : (a : Ask) (r : Reply) → object_of (place_of a) ≡ suc o → (is_failure_step a ≡ true → is_failure_step e.event.ask ≡ true)
      → Agrees (lock_turn c f s e.image.0 a r) (got_by (cell_of o c f) e.image.0 (act_by a r) js) (g ++ e ∷ [])
  lock_step (asks.Lock owner span) r here step = locked owner span r (suc_same owner.0 o here)
  lock_step (asks.TryLock owner span) r here step = locked owner span r (suc_same owner.0 o here)
  lock_step (asks.Unlock owner span) r here step =
      subst (λ l. Agrees (lock_turn c f s e.image.0 (asks.Unlock owner span) r) l (g ++ e ∷ [])) (sym (holder_stays (cell_of o c f) e.image.0 (asks.Unlock owner span) r js refl))
      (agrees_either (is_at c f span && has_status (pos 0) r) free s js (g ++ e ∷ []) tt (agrees_more s js g e h))
  lock_step (asks.Free owner span) r here step = agrees_either (is_at c f span && is_done r) (abandoned s e.image.0) s js (g ++ e ∷ []) (agrees_left s js g e (step refl) h) (agrees_more s js g e h)
  lock_step (asks.Create owner coarray cells) r here step = agrees_either (nat_eq coarray c) free s js (g ++ e ∷ []) tt (agrees_more s js g e h)
  lock_step (asks.Delete owner coarray) r here step = agrees_either (nat_eq coarray c) free s js (g ++ e ∷ []) tt (agrees_more s js g e h)
  lock_step a r here step = holder_same a r refl (agrees_more s js g e h)

  elsewhere_free : (a : Ask) (r : Reply) → (object_of (place_of a) ≡ suc o → ⊥) → Agrees s (got_by (cell_of o c f) e.image.0 (act_by a r) js) (g ++ e ∷ [])
  elsewhere_free (asks.Lock owner span) r n =
      subst (λ l. Agrees s l (g ++ e ∷ [])) (sym (locking_elsewhere (cell_of o c f) e.image.0 (first_cell owner.0 span) r js (cell_elsewhere o c f owner span (λ q. n (ap suc q))))) (agrees_more s js g e h)
  elsewhere_free (asks.TryLock owner span) r n =
      subst (λ l. Agrees s l (g ++ e ∷ [])) (sym (locking_elsewhere (cell_of o c f) e.image.0 (first_cell owner.0 span) r js (cell_elsewhere o c f owner span (λ q. n (ap suc q))))) (agrees_more s js g e h)
  elsewhere_free a r n = holder_same a r refl (agrees_more s js g e h)

-- a lock variable after more entries
pub lock_agrees : (o c f : ℕ) (b es : List Entry) (s : Hold) (js : List ℕ) → Agrees s js b → Agrees (lock_from c f s (of key_of (suc o) es)) (last_holder (cell_of o c f) js es) (b ++ es)
lock_agrees o c f b [] s js h = subst (Agrees s js) (sym (append-nil b)) h
lock_agrees o c f b (e ∷ es) s js h = elim (eqb_tells (key_of e) (suc o)) [
  | inl t ↦ rw t.0 (subst (Agrees (lock_from c f (lock_turn c f s e.image.0 e.event.ask e.event.reply) (of key_of (suc o) es)) (last_holder (cell_of o c f) (got_by (cell_of o c f) e.image.0 (act_of e) js) es)) (append_assoc b (e ∷ []) es)
      (lock_agrees o c f (b ++ e ∷ []) es (lock_turn c f s e.image.0 e.event.ask e.event.reply) (got_by (cell_of o c f) e.image.0 (act_of e) js) (lock_step o c f s js b e h e.event.ask e.event.reply t.1 (λ x. x))))
  | inr n ↦ rw n.0 (subst (Agrees (lock_from c f s (of key_of (suc o) es)) (last_holder (cell_of o c f) (got_by (cell_of o c f) e.image.0 (act_of e) js) es)) (append_assoc b (e ∷ []) es)
      (lock_agrees o c f (b ++ e ∷ []) es s (got_by (cell_of o c f) e.image.0 (act_of e) js) (elsewhere_free o c f s js b e h e.event.ask e.event.reply n.1)))
]
