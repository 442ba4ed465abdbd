-- An inert step at a memory leaves all other images' asks as ready as they were.
use Rattle.std.proofs.Common.{◌≡◌, ℕ, zero, suc, ◌-◌, ◌<◌, ◌⊎◌, inl, inr, List, [], ◌∷◌, ◌++◌, length, refl, ap, sym, ◌∙◌, subst, arith, IsTrue}
use Rattle.std.specs.Prelude.{Option, slice_index_or, slice_get, Some}
use Rattle.caf_base.specs.declared.place.ImageNo.{ImageNo}
use Rattle.caf_base.specs.declared.place.Place.{Place}
use Rattle.caf_base.specs.declared.place.Place.TheVariants as places
use Rattle.caf_events.specs.declared.ask.Ask.{Ask}
use Rattle.caf_events.specs.declared.event.Event.{Event}
use Rattle.caf_events.specs.declared.event.Entry.{Entry}
use Rattle.caf_events.specs.Asks.{place_of}
use Rattle.inert_steps.specs.Inert.{IsInert}
use Rattle.core_runs.specs.Lists.{entry, list_at}
use Rattle.core_runs.specs.Moments.{Rules, Moment, item_at, with_item, ready_there, memory_ready_at, reply_there, memory_reply_at, histories_with, Steps}
use Rattle.core_runs.proofs.Elsewhere.{ready_elsewhere}
use Rattle.core_runs.proofs.Numbered.{index_same}
use Rattle.image_core.specs.Outlooks.{LeavesOthers}
use Rattle.image_core.proofs.Inertness.{last_event, length_with}

list_own : (hs : List (List Entry)) (n : ℕ) (h : List Entry) → 0 < n → n - 1 < length hs → list_at (with_item hs n h) n ≡ h
list_own hs zero h low high = absurd (omega arith)
list_own hs (suc k) h low high = index_same hs k h [] (omega arith)

same_number : (a b : ℕ) → (a ≡ b) ⊎ (a ≡ b → ⊥)
same_number zero zero = inl refl
same_number zero (suc b) = inr (λ e. (cc))
same_number (suc a) zero = inr (λ e. (cc))
same_number (suc a) (suc b) = elim (same_number a b) [ inl e ↦ inl (ap suc e) | inr n ↦ inr (λ e. n (omega arith)) ]

module _ {C M B : Type 0} (r : Rules C M B) (m' : Moment C M B) (i : ℕ) (owner : ImageNo) (made : M) (last : Event) (many : length m'.events ≡ length m'.configs) (low : 0 < i)
    (owner_low : 0 < owner.0) (owner_high : owner.0 - 1 < length m'.histories) (there : item_at m'.memories owner.0 ≡ Some made)
    (at_end : Some last ≡ slice_get (slice_index_or m'.events (i - 1) []) (length (slice_index_or m'.events (i - 1) []) - 1))
    (inert : (h : List Entry) → list_at m'.histories owner.0 ≡ h ++ entry i last ∷ [] → IsTrue (r.memory_ready made h i last.ask) → last.reply ≡ r.memory_reply made h i last.ask → IsInert r.memory_ready made h (entry i last)) where
  module _ (m : Moment C M B) (e : Event) (s : Steps r m i e m') (at_memory : place_of e.ask ≡ places.Memory owner) where
    is_last : last ≡ e
    is_last = last_event r m' i last many low at_end m e s

    histories : m'.histories ≡ with_item m.histories owner.0 (list_at m.histories owner.0 ++ entry i e ∷ [])
    histories = s.histories ∙ ap (λ p. histories_with p m.histories (entry i e)) at_memory

    high_before : owner.0 - 1 < length m.histories
    high_before =
        let n : length m'.histories ≡ length m.histories = ap length histories ∙ length_with m.histories owner.0 (list_at m.histories owner.0 ++ entry i e ∷ []) in
        omega arith

    history : list_at m'.histories owner.0 ≡ list_at m.histories owner.0 ++ entry i e ∷ []
    history = ap (λ hs. list_at hs owner.0) histories ∙ list_own m.histories owner.0 (list_at m.histories owner.0 ++ entry i e ∷ []) owner_low high_before

    there_before : item_at m.memories owner.0 ≡ Some made
    there_before = ap (λ ms. item_at ms owner.0) (sym s.memories) ∙ there

    ready_before : IsTrue (r.memory_ready made (list_at m.histories owner.0) i e.ask)
    ready_before =
        subst (λ (o : Option M). IsTrue (memory_ready_at r (list_at m.histories owner.0) i e.ask o)) there_before
        (subst (λ p. IsTrue (ready_there r m i e.ask p)) at_memory s.due.ready)

    reply_before : e.reply ≡ r.memory_reply made (list_at m.histories owner.0) i e.ask
    reply_before =
        s.due.reply ∙ ap (reply_there r m i e.ask) at_memory
        ∙ ap (memory_reply_at r (list_at m.histories owner.0) i e.ask) there_before

    inert_here : IsInert r.memory_ready made (list_at m.histories owner.0) (entry i e)
    inert_here =
        subst (λ f. IsInert r.memory_ready made (list_at m.histories owner.0) (entry i f)) is_last
        (inert (list_at m.histories owner.0)
        (subst (λ f. list_at m'.histories owner.0 ≡ list_at m.histories owner.0 ++ entry i f ∷ []) (sym is_last) history)
        (subst (λ f. IsTrue (r.memory_ready made (list_at m.histories owner.0) i f.ask)) (sym is_last) ready_before)
        (subst (λ f. f.reply ≡ r.memory_reply made (list_at m.histories owner.0) i f.ask) (sym is_last) reply_before))

    here : (j : ℕ) → (j ≡ i → ⊥) → (a : Ask) → ready_there r m' j a (places.Memory owner) ≡ ready_there r m j a (places.Memory owner)
    here j apart a =
        ap (memory_ready_at r (list_at m'.histories owner.0) j a) there
        ∙ ap (λ h. r.memory_ready made h j a) history
        ∙ inert_here j a apart
        ∙ sym (ap (memory_ready_at r (list_at m.histories owner.0) j a) there_before)

    place_same : (p q : ImageNo) → places.Memory p ≡ places.Memory q → p.0 ≡ q.0
    place_same p q same = cc

    beside : (j : ℕ) → (j ≡ i → ⊥) → (a : Ask) (q : Place) → ready_there r m' j a q ≡ ready_there r m j a q
    beside j apart a places.Own = refl
    beside j apart a places.Board = ready_elsewhere r m m' i e s j a places.Board (λ x. absurd (let z : places.Board ≡ places.Memory owner = x ∙ at_memory in cc))
    beside j apart a (places.Memory other) = elim (same_number owner.0 other.0) [
      | inl is ↦ subst (λ (n : ℕ). ready_there r m' j a (places.Memory (record { 0 = n })) ≡ ready_there r m j a (places.Memory (record { 0 = n }))) is (here j apart a)
      | inr differs ↦ ready_elsewhere r m m' i e s j a (places.Memory other) (λ x. differs (sym (place_same other owner (x ∙ at_memory))))
    ]

  pub leaves_others_there : LeavesOthers r i (places.Memory owner) m'
  leaves_others_there = beside
