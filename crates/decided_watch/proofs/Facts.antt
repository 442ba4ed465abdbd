-- What holds of entries of which none has a reason: each event has one poster, and no coarray of events is made.
use Rattle.std.proofs.Common.{◌≡◌, ℕ, Bool, true, false, nat_eq, cond, List, [], ◌∷◌, ◌++◌, refl, ap, sym, ◌∙◌, inl, inr, subst}
use Rattle.std.specs.Prelude.{Option, Some, None}
use Rattle.std.proofs.lemmas.Bool.{and_parts, or_cases, cases_Bool, eqb-true}
use Rattle.trace_theory.specs.Entries.{Each}
use Rattle.trace_theory.proofs.Snocs.{each_last}
use Rattle.caf_events.specs.declared.event.Entry.{Entry}
use Rattle.order_theory.specs.Races.{Cell, same_cell}
use Rattle.order_theory.specs.Acts.{Act, posts, creates, deletes}
use Rattle.order_axioms.specs.Views.{act_of}
use Rattle.every_order.specs.Decided.{is_free}
use Rattle.decided_watch.specs.declared.watch.Reason.{Reason}
use Rattle.decided_watch.specs.declared.watch.Reason.TheVariants as reasons
use Rattle.decided_watch.specs.Undecided.{posted_by, last_poster, posts_in, makes_one, is_posted, is_made, is_other, reason_by, reason_of}
use Rattle.decided_watch.proofs.Tables.{poster_next, posted_next, made_next, same_cell_tells, same_cell_from}

pub record Facts (g : List Entry) : Type 0 where
  pub posters : Each (λ x. (c : Cell) → act_of x ≡ posts c → last_poster c None g ≡ Some x.image.0) g
  pub apart : (o k : ℕ) → is_posted o k g ≡ true → is_made o k g ≡ true → ⊥

pub false_true : false ≡ true → ⊥
false_true h = cc

some_not : {A : Type 0} (x : A) → Some x ≡ None → ⊥
some_not x h = cc

cond_none : (b : Bool) (x : Reason) (o : Option Reason) → cond b (Some x) o ≡ None → (b ≡ false) × (o ≡ None)
cond_none true x o h = absurd (some_not x h)
cond_none false x o h = (refl, h)

not_other : (i j : ℕ) → is_other i (Some j) ≡ false → j ≡ i
not_other i j h = elim (cases_Bool (nat_eq j i)) [ inl t ↦ eqb-true j i t | inr f ↦ absurd (false_true (sym h ∙ ap (λ b. cond b false true) f)) ]

-- an act without a reason leaves the poster of each event
poster_stays : (g : List Entry) (c : Cell) (i j : ℕ) (a : Act) → reason_by g i a ≡ None → last_poster c None g ≡ Some j → posted_by c i a (Some j) ≡ Some j
poster_stays g c i j (posts d) r h = elim (cases_Bool (same_cell c d)) [
  | inl t ↦ (
      let same = same_cell_tells c d t in
      let other = (cond_none (is_other i (last_poster d None g)) reasons.OtherPoster _ r).0 in
      let own = not_other i j (sym (ap (λ z. is_other i z) (sym (ap (λ z. last_poster z None g) same) ∙ h)) ∙ other) in
      ap (λ b. cond b (Some i) (Some j)) t ∙ ap (λ z. Some z) (sym own))
  | inr f ↦ ap (λ b. cond b (Some i) (Some j)) f
]
poster_stays g c i j a r h = refl

-- an act without a reason doesn't post an event of a coarray that was made, nor make one of whose events one was posted
posts_none : (g : List Entry) (o k i : ℕ) (a : Act) → reason_by g i a ≡ None → posts_in o k a ≡ true → (is_made o k g ≡ false) × (makes_one o k a ≡ false)
posts_none g o k i (posts c) r h =
    let both = and_parts (nat_eq c.owner o) (nat_eq c.coarray k) h in
    let none = (cond_none (is_made c.owner c.coarray g) reasons.EventsRemade None (cond_none (is_other i (last_poster c None g)) reasons.OtherPoster _ r).1).0 in
    (subst (λ z. is_made z k g ≡ false) (eqb-true c.owner o both.0) (subst (λ z. is_made c.owner z g ≡ false) (eqb-true c.coarray k both.1) none), refl)
posts_none g o k i a r h = absurd (false_true h)

cond_true : (b c : Bool) → cond b c false ≡ true → (b ≡ true) × (c ≡ true)
cond_true true c h = (refl, h)
cond_true false c h = absurd (false_true h)

makes_none : (g : List Entry) (o k i : ℕ) (a : Act) → reason_by g i a ≡ None → makes_one o k a ≡ true → is_posted o k g ≡ false
makes_none g o k i (creates p l) r h =
    let both = cond_true (nat_eq p o) (nat_eq l k) h in
    let none = (cond_none (is_posted p l g) reasons.EventsRemade None r).0 in
    subst (λ z. is_posted z k g ≡ false) (eqb-true p o both.0) (subst (λ z. is_posted p z g ≡ false) (eqb-true l k both.1) none)
makes_none g o k i (deletes p l) r h =
    let both = cond_true (nat_eq p o) (nat_eq l k) h in
    let none = (cond_none (is_posted p l g) reasons.EventsRemade None r).0 in
    subst (λ z. is_posted z k g ≡ false) (eqb-true p o both.0) (subst (λ z. is_posted p z g ≡ false) (eqb-true l k both.1) none)
makes_none g o k i a r h = absurd (false_true h)

-- an entry without a reason has a reply that no order changes, and an act without one
pub reason_parts : (g : List Entry) (e : Entry) → reason_of g e ≡ None → (is_free e.event.ask e.event.reply ≡ true) × (reason_by g e.image.0 (act_of e) ≡ None)
reason_parts g e h = elim (cases_Bool (is_free e.event.ask e.event.reply)) [
  | inl t ↦ (t, sym (ap (λ b. cond b (reason_by g e.image.0 (act_of e)) (Some reasons.NotFree)) t) ∙ h)
  | inr f ↦ absurd (some_not reasons.NotFree (sym (ap (λ b. cond b (reason_by g e.image.0 (act_of e)) (Some reasons.NotFree)) f) ∙ h))
]

each_map : {E : Type 0} (P Q : E → Type 0) (xs : List E) → ((x : E) → P x → Q x) → Each P xs → Each Q xs
each_map P Q [] f h = tt
each_map P Q (x ∷ xs) f h = (f x h.0, each_map P Q xs f h.1)

module _ (g : List Entry) (e : Entry) (r : reason_by g e.image.0 (act_of e) ≡ None) (facts : Facts g) where
  posters_next : Each (λ x. (c : Cell) → act_of x ≡ posts c → last_poster c None (g ++ e ∷ []) ≡ Some x.image.0) (g ++ e ∷ [])
  posters_next = each_last (λ x. (c : Cell) → act_of x ≡ posts c → last_poster c None (g ++ e ∷ []) ≡ Some x.image.0) g e
      (each_map (λ x. (c : Cell) → act_of x ≡ posts c → last_poster c None g ≡ Some x.image.0) (λ x. (c : Cell) → act_of x ≡ posts c → last_poster c None (g ++ e ∷ []) ≡ Some x.image.0) g
      (λ x old c is. poster_next c None g e ∙ ap (λ z. posted_by c e.image.0 (act_of e) z) (old c is) ∙ poster_stays g c e.image.0 x.image.0 (act_of e) r (old c is)) facts.posters)
      (λ c is. poster_next c None g e ∙ ap (λ z. posted_by c e.image.0 z (last_poster c None g)) is ∙ ap (λ b. cond b (Some e.image.0) (last_poster c None g)) (same_cell_from c c refl))

  apart_next : (o k : ℕ) → is_posted o k (g ++ e ∷ []) ≡ true → is_made o k (g ++ e ∷ []) ≡ true → ⊥
  apart_next o k p m = elim (or_cases (is_posted o k g) (posts_in o k (act_of e)) (sym (posted_next o k g e) ∙ p)) [
    | inl old ↦ elim (or_cases (is_made o k g) (makes_one o k (act_of e)) (sym (made_next o k g e) ∙ m)) [
      | inl made ↦ facts.apart o k old made
      | inr makes ↦ false_true (sym (makes_none g o k e.image.0 (act_of e) r makes) ∙ old)
    ]
    | inr new ↦ (
        let none = posts_none g o k e.image.0 (act_of e) r new in
        elim (or_cases (is_made o k g) (makes_one o k (act_of e)) (sym (made_next o k g e) ∙ m)) [
          | inl made ↦ false_true (sym none.0 ∙ made)
          | inr makes ↦ false_true (sym none.1 ∙ makes)
        ])
  ]

  pub facts_next : Facts (g ++ e ∷ [])
  facts_next = record { posters = posters_next; apart = apart_next }

pub facts_none : Facts []
facts_none = record { posters = tt; apart = λ o k p m. false_true p }
