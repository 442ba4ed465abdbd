-- Images that are together are at a moment of their run.
use Rattle.std.proofs.Common.{◌≡◌, ℕ, zero, suc, ◌<◌, ◌≤◌, Bool, IsTrue, List, [], ◌∷◌, ◌++◌, ◌⊎◌, inl, inr, length, refl, ap, sym, ◌∙◌, subst, arith, append_assoc}
use Rattle.std.specs.Prelude.{map, slice_get, Some}
use Rattle.std.proofs.lemmas.Bool.{cases_lt}
use Rattle.std.proofs.lemmas.List.{append-nil, get_or_past}
use Rattle.caf_base.specs.declared.place.Place.{Place}
use Rattle.caf_base.specs.declared.place.Place.TheVariants as places
use Rattle.caf_events.specs.declared.ask.Ask.{Ask}
use Rattle.caf_events.specs.declared.reply.Reply.{Reply}
use Rattle.caf_events.specs.declared.reply.Reply.TheVariants as replies
use Rattle.caf_events.specs.declared.event.Event.{Event}
use Rattle.caf_events.specs.declared.event.Entry.{Entry}
use Rattle.caf_events.specs.Answers.{Answers}
use Rattle.caf_events.specs.Asks.{place_of, object_of}
use Rattle.caf_events.specs.Histories.{Served, last_stamp_of, last_stamp_from}
use Rattle.trace_theory.specs.Entries.{of, Each, last_or}
use Rattle.trace_theory.specs.Machines.{Said}
use Rattle.core_runs.specs.Lists.{image_of, key_of, stamp_of, own_stamp, entry, said, list_at, entries_of, history_of, last_of, IsWoven}
use Rattle.core_runs.specs.Moments.{Rules, Moment}
use Rattle.core_runs.specs.Beginnings.{Beginning, IsImage, IsPlace}
use Rattle.core_runs.specs.Sequences.{IsStampLimit}
use Rattle.core_runs.specs.Kept.{IsKept}
use Rattle.core_runs.proofs.CoreRuns.{all_answer}
use Rattle.core_runs.proofs.Lanes.{own_answers, alone_rises}
use Rattle.worker_laws.specs.Counts.{events_of, NoneElse}
use Rattle.worker_laws.proofs.Links.{woven, agree_by}
use Rattle.worker_laws.proofs.Counts.{Inside, each_inside, inside_each, inside_other, stamps_few, object_stamps_few}
use Rattle.worker_laws.specs.Linked.{HasCome, AreTogether}

each_mapped : {A B : Type 0} (P : B → Type 0) (f : A → B) (xs : List A) → Each (λ x. P (f x)) xs → Each P (map f xs)
each_mapped P f [] h = tt
each_mapped P f (x ∷ xs) h = (h.0, each_mapped P f xs h.1)

mapped_each : {A B : Type 0} (P : B → Type 0) (f : A → B) (xs : List A) → Each P (map f xs) → Each (λ x. P (f x)) xs
mapped_each P f [] h = tt
mapped_each P f (x ∷ xs) h = (h.0, mapped_each P f xs h.1)

each_by : {A : Type 0} (P Q : A → Type 0) → ((x : A) → P x → Q x) → (xs : List A) → Each P xs → Each Q xs
each_by P Q f [] h = tt
each_by P Q f (x ∷ xs) h = (f x h.0, each_by P Q f xs h.1)

item_there : {A : Type 0} (xs : List A) (k : ℕ) → k < length xs → (x : A) × (slice_get xs k ≡ Some x)
item_there [] k h = absurd (omega arith)
item_there (x ∷ xs) zero h = (x, refl)
item_there (x ∷ xs) (suc k) h = item_there xs k (omega arith)

-- a last stamp is no greater than all stamps are
last_few : {E : Type 0} (stamp : E → ℕ) (n m : ℕ) (xs : List E) → n ≤ m → Each (λ x. stamp x ≤ m) xs → last_or stamp n xs ≤ m
last_few stamp n m [] le h = le
last_few stamp n m (x ∷ xs) le h = last_few stamp (stamp x) m xs h.0 h.1

last_entries : (i n : ℕ) (es : List Event) → last_or stamp_of n (map (entry i) es) ≡ last_or (λ (e : Event). e.stamp) n es
last_entries i n [] = refl
last_entries i n (e ∷ es) = last_entries i e.stamp es

last_stamps : (n : ℕ) (h : List Entry) → last_stamp_from n h ≡ last_or stamp_of n h
last_stamps n [] = refl
last_stamps n (e ∷ es) = last_stamps e.event.stamp es

module _ (ready : List Entry → ℕ → Ask → Bool) (reply : List Entry → ℕ → Ask → Reply) where
  -- an entry of a served history was ready after those before it, and has the reply that was due there
  served_from : (before g g' : List Entry) (x : Entry) → Served ready reply before (g ++ x ∷ g')
      → Served ready reply before g × IsTrue (ready (before ++ g) x.image.0 x.event.ask) × (x.event.reply ≡ reply (before ++ g) x.image.0 x.event.ask)
  served_from before [] g' x h =
      (tt, subst (λ (l : List Entry). IsTrue (ready l x.image.0 x.event.ask)) (sym (append-nil before)) h.0, h.1 ∙ ap (λ (l : List Entry). reply l x.image.0 x.event.ask) (sym (append-nil before)))
  served_from before (y ∷ g) g' x h =
      let s = served_from (before ++ y ∷ []) g g' x h.2 in
      let q : (before ++ y ∷ []) ++ g ≡ before ++ y ∷ g = append_assoc before (y ∷ []) g in
      ((h.0, h.1, s.0), subst (λ (l : List Entry). IsTrue (ready l x.image.0 x.event.ask)) q s.1, s.2 ∙ ap (λ (l : List Entry). reply l x.image.0 x.event.ask) q)

  -- where what is ready is answered, each entry of a served history has a reply that answers its ask
  served_answers : ((h : List Entry) (i : ℕ) (a : Ask) → Served ready reply [] h → IsTrue (ready h i a) → Answers a (reply h i a))
      → (h : List Entry) (x : Entry) → Served ready reply [] h → Inside h x → Answers x.event.ask x.event.reply
  served_answers answers h x served at =
      let s = served_from [] at.front at.back x (subst (Served ready reply []) at.split served) in
      subst (Answers x.event.ask) (sym s.2) (answers at.front x.image.0 x.event.ask s.0 s.1)

module _ {C M B : Type 0} (r : Rules C M B) (b : Beginning C M B) (m : Moment C M B) (h : AreTogether r b m) where
  abbrev events : ℕ → List Entry
  events = entries_of m.events

  abbrev histories : ℕ → List Entry
  histories = history_of m.board_history m.histories

  agree : (i o : ℕ) → of image_of i (histories (suc o)) ≡ of key_of (suc o) (events i)
  agree = agree_by Entry image_of key_of stamp_of (suc b.images) events histories h.linked

  -- an image's event at an object is an entry of its history
  at_object : (i o : ℕ) (x : Entry) → key_of x ≡ suc o → Inside (events i) x → Inside (histories (suc o)) x
  at_object i o x is at = inside_other image_of key_of i (suc o) (events i) (histories (suc o)) x (agree i o) is at

  answered_there : (i : ℕ) (x : Entry) → Inside (events i) x → (q : Place) → place_of x.event.ask ≡ q → IsPlace b q → (q ≡ places.Own → x.event.reply ≡ replies.Done) → Answers x.event.ask x.event.reply
  answered_there i x at places.Own p there alone = subst (Answers x.event.ask) (sym (alone refl)) (own_answers x.event.ask p)
  answered_there i x at places.Board p there alone =
      served_answers (r.board_ready b.board) (r.board_reply b.board) (h.fit.board_answers b.board) m.board_history x h.board_served (at_object i 0 x (ap object_of p) at)
  answered_there i x at (places.Memory owner) p there alone = of_memory owner.0 refl
    where
      of_memory : (n : ℕ) → n ≡ owner.0 → Answers x.event.ask x.event.reply
      of_memory zero e = absurd (let k = there.0 in omega arith)
      of_memory (suc j) e =
          served_answers (r.memory_ready (b.memory (suc j))) (r.memory_reply (b.memory (suc j))) (h.fit.memory_answers (b.memory (suc j))) (list_at m.histories (suc j)) x
          (h.memories_served (suc j) (subst (IsImage b) (sym e) there)) (at_object i (suc j) x (ap object_of p ∙ ap (λ k. suc k) (sym e)) at)

  answered : (i : ℕ) (c : C) → HasCome r b i (list_at m.events i) c → Each (λ e. Answers e.ask e.reply) (list_at m.events i)
  answered i c come =
      let es = list_at m.events i in
      let there = each_mapped (λ (x : Entry). IsPlace b (place_of x.event.ask)) (entry i) es come.places in
      let alone = each_mapped (λ (x : Entry). place_of x.event.ask ≡ places.Own → x.event.reply ≡ replies.Done) (entry i) es come.alone in
      mapped_each (λ (x : Entry). Answers x.event.ask x.event.reply) (entry i) es
      (each_inside (λ (x : Entry). Answers x.event.ask x.event.reply) (events i) (λ x at.
      answered_there i x at (place_of x.event.ask) refl (inside_each (λ (y : Entry). IsPlace b (place_of y.event.ask)) (events i) x there at)
      (inside_each (λ (y : Entry). place_of y.event.ask ≡ places.Own → y.event.reply ≡ replies.Done) (events i) x alone at)))

  -- a number is that of an image of the run, or has no event
  come_or_none : (i : ℕ) → ((c : C) × IsImage b i × HasCome r b i (list_at m.events i) c) ⊎ (list_at m.events i ≡ [])
  come_or_none zero = inr refl
  come_or_none (suc k) = elim (cases_lt k b.images) [
    | inl l ↦ (
        let n = h.count in
        let t = item_there m.configs k (omega arith) in
        inl (t.0, (omega arith, omega arith), h.come (suc k) t.0 t.1))
    | inr g ↦ inr (let n = h.event_count in get_or_past m.events k [] (omega arith))
  ]

  -- no program asks a limit of stamps, so the stamp that is due to an own step is one more than the last
  plain : (i : ℕ) → Each (λ x. (n : ℕ) → own_stamp x n ≡ suc n) (events i)
  plain i = elim (come_or_none i) [
    | inl t ↦ (
        let es = list_at m.events i in
        let none = (h.fit.orderly i t.1).no_stamp_limit (map said es) t.2.walks.0 (all_answer es (answered i t.0 t.2)) t.2.walks.1 in
        each_mapped (λ (x : Entry). (n : ℕ) → own_stamp x n ≡ suc n) (entry i) es
        (each_by (λ (e : Event). IsStampLimit e.ask → ⊥) (λ (e : Event). (n : ℕ) → own_stamp (entry i e) n ≡ suc n) (λ e no n. alone_rises e.ask n no) es
        (mapped_each (λ (s : Said Ask Reply). IsStampLimit s.ask → ⊥) said es none)))
    | inr e ↦ subst (λ es. Each (λ x. (n : ℕ) → own_stamp x n ≡ suc n) (map (entry i) es)) (sym e) tt
  ]

  all_woven : IsWoven m.events m.board_history m.histories
  all_woven = woven Entry image_of key_of stamp_of own_stamp (suc b.images) events histories h.linked plain

  pub kept : IsKept r b m
  kept = record {
    fit = h.fit;
    count = h.count;
    event_count = h.event_count;
    history_count = h.history_count;
    memories = h.memories;
    board = h.board;
    woven = all_woven;
    memories_served = h.memories_served;
    board_served = h.board_served;
    lanes = λ i c at.
        let w = h.come i c at in
        record { walks = w.walks; rests = w.rests; places = w.places; answered = answered i c w; alone = w.alone };
  }

  none_else : NoneElse events b.images
  none_else zero out = refl
  none_else (suc k) out = elim out [
    | inl z ↦ absurd (omega arith)
    | inr lt ↦ ap (map (entry (suc k))) (let n = h.event_count in get_or_past m.events k [] (omega arith))
  ]

  pub few_images : (i : ℕ) → last_of (list_at m.events i) ≤ events_of events b.images
  few_images i =
      let e = last_entries i 0 (list_at m.events i) in
      let l = last_few stamp_of 0 (events_of events b.images) (events i) (omega arith) (stamps_few Entry image_of key_of stamp_of own_stamp b.images events histories all_woven none_else plain i) in
      omega arith

  pub few_objects : (o : ℕ) → last_stamp_of (histories (suc o)) ≤ events_of events b.images
  few_objects o =
      let e = last_stamps 0 (histories (suc o)) in
      let l = last_few stamp_of 0 (events_of events b.images) (histories (suc o)) (omega arith) (object_stamps_few Entry image_of key_of stamp_of own_stamp b.images events histories all_woven none_else plain o) in
      omega arith
