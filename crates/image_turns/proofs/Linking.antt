-- One turn of an image at a gate, and one step by itself, keep its events linked with what it has seen.
use Rattle.std.proofs.Common.{◌≡◌, ℕ, suc, ◌+◌, ◌-◌, max, Bool, List, [], ◌∷◌, ◌++◌, inl, inr, length, set, refl, ap, sym, ◌∙◌, subst, arith, length-set}
use Rattle.atomic_table.proofs.Lists.{at_set}
use Rattle.caf_base.specs.declared.place.Place.{Place}
use Rattle.caf_base.specs.declared.place.Place.TheVariants as places
use Rattle.caf_events.specs.declared.ask.Ask.{Ask}
use Rattle.caf_events.specs.declared.reply.Reply.{Reply}
use Rattle.caf_events.specs.declared.event.Entry.{Entry}
use Rattle.caf_events.specs.declared.event.Event.{Event}
use Rattle.caf_events.specs.declared.object.Object as objects
use Rattle.caf_events.specs.Asks.{place_of, object_of}
use Rattle.caf_events.specs.Histories.{last_stamp_of}
use Rattle.trace_theory.specs.Entries.{of, last_or}
use Rattle.core_runs.specs.Lists.{image_of, key_of, stamp_of, entry, last_of}
use Rattle.core_runs.proofs.Weaves.{map_append}
use Rattle.turn_gate.specs.Gates.{At, StartsWith}
use Rattle.turn_gate.specs.Known.{Known}
use Rattle.turn_gate.specs.Passes.{Opened, SamePlace}
use Rattle.turn_gate.specs.Turns.{Tells}
use Rattle.turn_gate.specs.declared.turn.Turn.{Turn}
use Rattle.turn_gate.specs.declared.turn.Turn.TheVariants.{Done, NotYet, Full, NoMemory}
use Rattle.turn_gate.proofs.Lists.{last_same}
use Rattle.image_gate.specs.declared.passes.Passes.{Passes}
use Rattle.image_gate.specs.Fabrics.{IsPlaceOf, TurnsAtMemory, TurnsAt}
use Rattle.image_gate.proofs.Rows.{is_there}
use Rattle.worker_laws.specs.Links.{OfImage, Linked}
use Rattle.worker_laws.proofs.Links.{looks_more, made_here, made_elsewhere, image_more}
use Rattle.image_turns.specs.Turns.{entries, passes_of, AreLinked}

-- the events with one more, where a turn made one
abbrev pub events_by : Turn → List Event → List Event
events_by (Done e) es = es ++ e ∷ []
events_by (NotYet back) es = es
events_by (Full back last) es = es
events_by (NoMemory back) es = es

pub last_entries : (i n : ℕ) (es : List Event) → last_or stamp_of n (entries i es) ≡ last_or (λ (e : Event). e.stamp) n es
last_entries i n [] = refl
last_entries i n (e ∷ es) = last_entries i e.stamp es

entries_more : (i : ℕ) (es : List Event) (e : Event) → entries i (es ++ e ∷ []) ≡ entries i es ++ entry i e ∷ []
entries_more i es e = map_append (entry i) es (e ∷ [])

module _ (count i : ℕ) (es : List Event) (passes : List Known) (k : ℕ) (p p' : Known) (ok : AreLinked count i es passes) (at : At passes k p) (same : SamePlace p p')
    (history : List Entry) (longer : StartsWith history p.seen) (mine : of image_of i history ≡ p.own) where
  here : (p.image ≡ i) × Linked image_of key_of stamp_of i k (entries i es) p.seen p.own
  here = ok.each k p at

  looked : p'.seen ≡ history → p'.own ≡ p.own → AreLinked count i es (set passes k p')
  looked seen_is own_is = record {
    events = ok.events;
    wide = length-set passes k p' ∙ ok.wide;
    each = λ o q a. elim (at_set passes k o p' q a) [
      | inl x ↦ subst (λ (z : Known × ℕ). (z.0.image ≡ i) × Linked image_of key_of stamp_of i z.1 (entries i es) z.0.seen z.0.own) (λ j. (x.1 j, sym x.0 j)) (
        same.image ∙ here.0,
        subst (λ (z : List Entry × List Entry). Linked image_of key_of stamp_of i k (entries i es) z.0 z.1) (λ j. (sym (seen_is ∙ longer.1) j, sym own_is j))
            (looks_more Entry image_of key_of stamp_of i k (entries i es) p.seen p.own longer.0 ok.events.each (subst (λ (s : List Entry). of image_of i s ≡ p.own) longer.1 mine) here.1),
      )
      | inr x ↦ ok.each o q x.1
    ];
  }

  done : (e : Event) → e.stamp ≡ max (last_of es) (last_stamp_of history) + 1 → key_of (entry i e) ≡ suc k → p'.seen ≡ history ++ entry i e ∷ [] → p'.own ≡ p.own ++ entry i e ∷ []
      → AreLinked count i (es ++ e ∷ []) (set passes k p')
  done e stamp_is key_is seen_is own_is =
      let x = entry i e in
      let more = entries_more i es e in
      let h_last = last_same 0 history in
      let e_last = last_entries i 0 es in
      let wide = is_there passes k p at in
      let w = ok.wide in
      let due : stamp_of x ≡ suc (max (last_or stamp_of 0 (entries i es)) (last_or stamp_of 0 (p.seen ++ longer.0))) = subst (λ (s : List Entry). e.stamp ≡ suc (max (last_or stamp_of 0 (entries i es)) (last_or stamp_of 0 s))) longer.1 (omega arith) in
      record {
        events = subst (OfImage image_of key_of stamp_of i count) (sym more) (image_more Entry image_of key_of stamp_of i count (entries i es) x refl (omega arith) (omega arith) (λ z. absurd (omega arith)) ok.events);
        wide = length-set passes k p' ∙ ok.wide;
        each = λ o q a. elim (at_set passes k o p' q a) [
          | inl y ↦ subst (λ (z : Known × ℕ). (z.0.image ≡ i) × Linked image_of key_of stamp_of i z.1 (entries i (es ++ e ∷ [])) z.0.seen z.0.own) (λ j. (y.1 j, sym y.0 j)) (
            same.image ∙ here.0,
            subst (λ (z : List Entry × List Entry × List Entry). Linked image_of key_of stamp_of i k z.0 z.1 z.2) (λ j. (sym more j, sym (seen_is ∙ ap (λ (s : List Entry). s ++ x ∷ []) longer.1) j, sym own_is j))
                (made_here Entry image_of key_of stamp_of i k (entries i es) p.seen p.own longer.0 x ok.events.each ok.events.rises refl key_is (subst (λ (s : List Entry). of image_of i s ≡ p.own) longer.1 mine) due here.1),
          )
          | inr y ↦
              let r = ok.each o q y.1 in
              let ne = y.0 in
              (r.0, subst (λ (s : List Entry). Linked image_of key_of stamp_of i o s q.seen q.own) (sym more) (made_elsewhere Entry image_of key_of stamp_of i o (entries i es) q.seen q.own x refl (λ z. ne (omega arith)) r.1))
        ];
      }

-- one turn, whatever it answers
module _ {M : Type 0} (ready : M → List Entry → ℕ → Ask → Bool) (reply : M → List Entry → ℕ → Ask → Reply) (made : M) (count i : ℕ) (es : List Event) (passes : List Known) (k : ℕ) (p p' : Known)
    (ok : AreLinked count i es passes) (at : At passes k p) (same : SamePlace p p') (ask : Ask) (line : ℕ) where
  turned_by : (turn : Turn) → object_of (place_of ask) ≡ suc k → Tells ready reply made i p.seen p.own p'.seen p'.own ask line (last_of es) turn → AreLinked count i (events_by turn es) (set passes k p')
  turned_by (Done e) place t =
      let ask_is : e.ask ≡ ask = ap (λ (y : Event). y.ask) t.answers.event in
      done count i es passes k p p' ok at same t.history t.longer t.mine e (ap (λ (y : Event). y.stamp) t.answers.event) (ap (λ (a : Ask). object_of (place_of a)) ask_is ∙ place) t.seen_is t.own_is
  turned_by (NotYet back) place t = looked count i es passes k p p' ok at same t.history t.longer t.mine t.seen_is t.own_is
  turned_by (Full back last) place t = looked count i es passes k p p' ok at same t.history t.longer t.mine t.seen_is t.own_is
  turned_by (NoMemory back) place t = looked count i es passes k p p' ok at same t.history t.longer t.mine t.seen_is t.own_is

  turned : (turn : Turn) → object_of (place_of ask) ≡ suc k → Tells ready reply made p.image p.seen p.own p'.seen p'.own ask line (last_of es) turn → AreLinked count i (events_by turn es) (set passes k p')
  turned turn place t = turned_by turn place (subst (λ j. Tells ready reply made j p.seen p.own p'.seen p'.own ask line (last_of es) turn) ((ok.each k p at).0) t)

-- one turn at the gate that the ask names
module _ {O B : Type 0} (memory : objects.Ghosts O) (control : objects.Ghosts B) (board : Opened B) (memories : List (Opened O)) (i : ℕ) (es : List Event) (p p' : Passes)
    (ok : AreLinked (suc (length memories)) i es (passes_of p)) (ask : Ask) (line : ℕ) (turn : Turn) where
  at_memory : (k : ℕ) → object_of (place_of ask) ≡ suc (suc k) → p'.board ≡ p.board → TurnsAtMemory memory memories k p.memories.items p'.memories.items ask line (last_of es) turn → AreLinked (suc (length memories)) i (events_by turn es) (passes_of p')
  at_memory k is same_board t =
      subst (λ (z : Known × List Known). AreLinked (suc (length memories)) i (events_by turn es) (z.0 ∷ z.1)) (λ j. (sym same_board j, sym t.passes_are j))
      (turned memory.ready_after memory.reply_after (memory.made t.gate.start) (suc (length memories)) i es (passes_of p) (suc k) t.pass t.pass' ok t.at_pass t.here.same ask line turn is t.here.tells)

  at_place : (q : Place) → place_of ask ≡ q → IsPlaceOf (length memories) q → TurnsAt memory control board memories q p p' ask line (last_of es) turn → AreLinked (suc (length memories)) i (events_by turn es) (passes_of p')
  at_place places.Board is there t =
      let h = t.1 in
      subst (λ ms. AreLinked (suc (length memories)) i (events_by turn es) (p'.board ∷ ms)) (sym t.0)
      (turned control.ready_after control.reply_after (control.made board.start) (suc (length memories)) i es (passes_of p) 0 p.board p'.board ok refl h.same ask line turn (ap object_of is) h.tells)
  at_place (places.Memory owner) is there t = at_memory (owner.0 - 1) (ap object_of is ∙ (let n = there.0 in omega arith)) t.0 t.1
  at_place places.Own is there t = absurd t

  -- what holds of an image's events and passes after its turn
  pub linked_after : (after : ℕ) → after ≡ last_of es → IsPlaceOf (length memories) (place_of ask) → TurnsAt memory control board memories (place_of ask) p p' ask line after turn → AreLinked (suc (length memories)) i (events_by turn es) (passes_of p')
  linked_after after last there t = at_place (place_of ask) refl there (subst (λ n. TurnsAt memory control board memories (place_of ask) p p' ask line n turn) last t)

-- and after a step that it makes by itself
pub linked_alone : (count i : ℕ) (es : List Event) (passes : List Known) (e : Event) → place_of e.ask ≡ places.Own → e.stamp ≡ last_of es + 1 → AreLinked count i es passes → AreLinked count i (es ++ e ∷ []) passes
linked_alone count i es passes e alone stamp_is ok =
    let x = entry i e in
    let more = entries_more i es e in
    let e_last = last_entries i 0 es in
    let key_is : key_of x ≡ 0 = ap object_of alone in
    record {
      events = subst (OfImage image_of key_of stamp_of i count) (sym more) (image_more Entry image_of key_of stamp_of i count (entries i es) x refl (omega arith) (omega arith) (λ z. omega arith) ok.events);
      wide = ok.wide;
      each = λ o q a. let r = ok.each o q a in
          (r.0, subst (λ (s : List Entry). Linked image_of key_of stamp_of i o s q.seen q.own) (sym more) (made_elsewhere Entry image_of key_of stamp_of i o (entries i es) q.seen q.own x refl (λ z. absurd (omega arith)) r.1));
    }
