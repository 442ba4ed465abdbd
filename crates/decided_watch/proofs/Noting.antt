-- The table tells of one more entry.
use Rattle.std.proofs.Common.{◌≡◌, ℕ, Bool, true, false, nat_eq, ◌&&◌, ◌||◌, cond, List, [], ◌∷◌, ◌++◌, refl, ap, sym, ◌∙◌, Result, Ok, Err, IfOk}
use Rattle.std.specs.Prelude.{Option, Some, None}
use Rattle.std.proofs.Math.Bool.{or-false}
use Rattle.caf_events.specs.declared.event.Entry.{Entry}
use Rattle.order_theory.specs.Races.{Cell}
use Rattle.order_theory.specs.Acts.{Act, posts, creates, deletes}
use Rattle.order_axioms.specs.Views.{act_of}
use Rattle.caf_base.specs.declared.place.ImageNo.{ImageNo}
use Rattle.race_watch.specs.declared.act.CellName.{CellName}
use Rattle.race_watch.specs.declared.act.Act as race
use Rattle.race_watch.specs.declared.act.Act.TheVariants as acts
use Rattle.race_watch.specs.ActParts.{as_act}
use Rattle.decided_watch.specs.Undecided.{posted_by, last_poster, posts_in, makes_one, is_posted, is_made}
use Rattle.decided_watch.specs.EventTables.{Events, events_at, poster_at, Tells}
use Rattle.decided_watch.proofs.Tables.{poster_next, posted_next, made_next, or_cond, nat_same}

pub if_ok3 : {T E : Type 0} (A B C D : Type 0) (r : Result T E) → (A → B → C → D) → IfOk r (λ _. A) → IfOk r (λ _. B) → IfOk r (λ _. C) → IfOk r (λ _. D)
if_ok3 A B C D (Ok x) f a b c = f a b c
if_ok3 A B C D (Err x) f a b c = tt

module _ (old new : List (List Events)) (g : List Entry) (e : Entry) (tells : Tells old g) where
  pub note_post : (c : Cell) → act_of e ≡ posts c
      → ((o k m : ℕ) → poster_at new o k m ≡ cond (nat_eq o c.owner && nat_eq k c.coarray && nat_eq m c.offset) (Some e.image.0) (poster_at old o k m))
      → ((o k : ℕ) → (events_at new o k).posted ≡ cond (nat_eq o c.owner && nat_eq k c.coarray) true (events_at old o k).posted)
      → ((o k : ℕ) → (events_at new o k).made ≡ (events_at old o k).made) → Tells new (g ++ e ∷ [])
  note_post c is h p m = record {
    posters = λ o k f. h o k f ∙ ap (λ z. cond (nat_eq o c.owner && nat_eq k c.coarray && nat_eq f c.offset) (Some e.image.0) z) (tells.posters o k f)
        ∙ sym (poster_next (record { owner = o; coarray = k; offset = f }) None g e ∙ ap (λ a. posted_by (record { owner = o; coarray = k; offset = f }) e.image.0 a (last_poster (record { owner = o; coarray = k; offset = f }) None g)) is);
    posted = λ o k. p o k ∙ ap (λ z. cond (nat_eq o c.owner && nat_eq k c.coarray) true z) (tells.posted o k) ∙ or_cond (is_posted o k g) (nat_eq o c.owner && nat_eq k c.coarray)
        ∙ ap (λ z. is_posted o k g || (z && nat_eq k c.coarray)) (nat_same o c.owner) ∙ ap (λ z. is_posted o k g || (nat_eq c.owner o && z)) (nat_same k c.coarray)
        ∙ sym (posted_next o k g e ∙ ap (λ a. is_posted o k g || posts_in o k a) is);
    made = λ o k. m o k ∙ tells.made o k ∙ sym (or-false (is_made o k g)) ∙ sym (made_next o k g e ∙ ap (λ a. is_made o k g || makes_one o k a) is);
  }

  and_cond : (a b : Bool) → (a && b) ≡ cond a b false
  and_cond true b = refl
  and_cond false b = refl

  -- of an act that makes a coarray, and posts nothing
  pub note_making : (p l : ℕ) (a : Act) → act_of e ≡ a → ((c : Cell) (o : Option ℕ) → posted_by c e.image.0 a o ≡ o) → ((o k : ℕ) → posts_in o k a ≡ false) → ((o k : ℕ) → makes_one o k a ≡ cond (nat_eq p o) (nat_eq l k) false)
      → ((o k m : ℕ) → poster_at new o k m ≡ poster_at old o k m)
      → ((o k : ℕ) → (events_at new o k).posted ≡ (events_at old o k).posted)
      → ((o k : ℕ) → (events_at new o k).made ≡ cond (nat_eq o p && nat_eq k l) true (events_at old o k).made) → Tells new (g ++ e ∷ [])
  note_making p l a is leaves none makes h q m = record {
    posters = λ o k f. h o k f ∙ tells.posters o k f
        ∙ sym (poster_next (record { owner = o; coarray = k; offset = f }) None g e ∙ ap (λ z. posted_by (record { owner = o; coarray = k; offset = f }) e.image.0 z (last_poster (record { owner = o; coarray = k; offset = f }) None g)) is ∙ leaves _ _);
    posted = λ o k. q o k ∙ tells.posted o k ∙ sym (or-false (is_posted o k g)) ∙ sym (posted_next o k g e ∙ ap (λ z. is_posted o k g || posts_in o k z) is ∙ ap (λ z. is_posted o k g || z) (none o k));
    made = λ o k. m o k ∙ ap (λ z. cond (nat_eq o p && nat_eq k l) true z) (tells.made o k) ∙ or_cond (is_made o k g) (nat_eq o p && nat_eq k l)
        ∙ ap (λ z. is_made o k g || (z && nat_eq k l)) (nat_same o p) ∙ ap (λ z. is_made o k g || (nat_eq p o && z)) (nat_same k l) ∙ ap (λ z. is_made o k g || z) (and_cond (nat_eq p o) (nat_eq l k))
        ∙ sym (made_next o k g e ∙ ap (λ z. is_made o k g || makes_one o k z) is ∙ ap (λ z. is_made o k g || z) (makes o k));
  }

pub note_creating : (old new : List (List Events)) (g : List Entry) (e : Entry) → Tells old g → (p l : ℕ) → act_of e ≡ creates p l
    → ((o k m : ℕ) → poster_at new o k m ≡ poster_at old o k m)
    → ((o k : ℕ) → (events_at new o k).posted ≡ (events_at old o k).posted)
    → ((o k : ℕ) → (events_at new o k).made ≡ cond (nat_eq o p && nat_eq k l) true (events_at old o k).made) → Tells new (g ++ e ∷ [])
note_creating old new g e tells p l is = note_making old new g e tells p l (creates p l) is (λ c o. refl) (λ o k. refl) (λ o k. refl)

pub note_deleting : (old new : List (List Events)) (g : List Entry) (e : Entry) → Tells old g → (p l : ℕ) → act_of e ≡ deletes p l
    → ((o k m : ℕ) → poster_at new o k m ≡ poster_at old o k m)
    → ((o k : ℕ) → (events_at new o k).posted ≡ (events_at old o k).posted)
    → ((o k : ℕ) → (events_at new o k).made ≡ cond (nat_eq o p && nat_eq k l) true (events_at old o k).made) → Tells new (g ++ e ∷ [])
note_deleting old new g e tells p l is = note_making old new g e tells p l (deletes p l) is (λ c o. refl) (λ o k. refl) (λ o k. refl)

-- an act that neither posts nor makes
pub data Quiet (a : Act) : Type 0 where
  quiet : ((c : Cell) (i : ℕ) (o : Option ℕ) → posted_by c i a o ≡ o) → ((o k : ℕ) → posts_in o k a ≡ false) → ((o k : ℕ) → makes_one o k a ≡ false) → Quiet a

pub note_quiet : (t : List (List Events)) (g : List Entry) (e : Entry) → Tells t g → Quiet (act_of e) → Tells t (g ++ e ∷ [])
note_quiet t g e tells (quiet leaves none makes) = record {
  posters = λ o k f. tells.posters o k f ∙ sym (poster_next (record { owner = o; coarray = k; offset = f }) None g e ∙ leaves _ _ _);
  posted = λ o k. tells.posted o k ∙ sym (or-false (is_posted o k g)) ∙ sym (posted_next o k g e ∙ ap (λ z. is_posted o k g || z) (none o k));
  made = λ o k. tells.made o k ∙ sym (or-false (is_made o k g)) ∙ sym (made_next o k g e ∙ ap (λ z. is_made o k g || z) (makes o k));
}

-- all acts but three are quiet
pub quiet_of : (a : race.Act) → ((c : CellName) → a ≡ acts.Posts c → ⊥) → ((o : ImageNo) (k : ℕ) → a ≡ acts.Creates o k → ⊥) → ((o : ImageNo) (k : ℕ) → a ≡ acts.Deletes o k → ⊥) → Quiet (as_act a)
quiet_of (acts.Posts c) p m d = absurd (p c refl)
quiet_of (acts.Creates o k) p m d = absurd (m o k refl)
quiet_of (acts.Deletes o k) p m d = absurd (d o k refl)
quiet_of a p m d = quiet (λ c i o. refl) (λ o k. refl) (λ o k. refl)
