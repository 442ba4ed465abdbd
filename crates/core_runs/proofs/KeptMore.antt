-- A step keeps all that is kept.
use Rattle.std.proofs.Common.{◌≡◌, ℕ, zero, suc, ◌<◌, ◌≤◌, IsTrue, List, [], ◌∷◌, ◌++◌, inl, inr, length, refl, ap, sym, ◌∙◌, subst, arith}
use Rattle.std.specs.Prelude.{map, slice_get, Some}
use Rattle.std.proofs.lemmas.Bool.{cases_eq}
use Rattle.std.proofs.lemmas.List.FromFn.{length-map-range_with_len}
use Rattle.caf_base.specs.declared.place.Place.{Place}
use Rattle.caf_base.specs.declared.place.Place.TheVariants as places
use Rattle.caf_events.specs.declared.reply.Reply.TheVariants as replies
use Rattle.caf_events.specs.declared.ask.Ask.{Ask}
use Rattle.caf_events.specs.declared.reply.Reply.{Reply}
use Rattle.caf_events.specs.declared.event.Event.{Event}
use Rattle.caf_events.specs.Answers.{Answers}
use Rattle.caf_events.specs.Asks.{place_of}
use Rattle.caf_events.specs.Histories.{Served}
use Rattle.caf_events.proofs.Serving.{served_more}
use Rattle.trace_theory.specs.Entries.{Each}
use Rattle.trace_theory.specs.Machines.{Said, WalkTo}
use Rattle.trace_theory.proofs.Snocs.{each_at, each_last}
use Rattle.core_runs.specs.Lists.{said, entry, list_at, stamp_alone}
use Rattle.core_runs.specs.Moments.{Rules, Moment, item_at, with_item, ready_there, reply_there, memory_ready_at, memory_reply_at, histories_with, board_with, Steps}
use Rattle.core_runs.specs.Beginnings.{Beginning, IsImage, IsPlace}
use Rattle.core_runs.specs.Lanes.{IsLane}
use Rattle.core_runs.specs.Kept.{IsKept}
use Rattle.core_runs.specs.Sequences.{IsStampLimit}
use Rattle.core_runs.proofs.Numbered.{item_within, index_same, get_same, get_other, list_other}
use Rattle.core_runs.proofs.Weaves.{map_append, with_length, histories_length, woven_by}
use Rattle.core_runs.proofs.CoreRuns.{all_answer}
use Rattle.core_runs.proofs.Answered.{answers_there}
use Rattle.core_runs.proofs.Lanes.{is_image, alone_rises, walk_on, memory_of_run, place_of_run}

list_same : {A : Type 0} (ls : List (List A)) (i : ℕ) (x : List A) → 0 < i → i ≤ length ls → list_at (with_item ls i x) i ≡ x
list_same ls zero x low high = absurd (omega arith)
list_same ls (suc k) x low high = index_same ls k x [] (omega arith)

same_some : {A : Type 0} (x y : A) → Some x ≡ Some y → x ≡ y
same_some x y h = cc

module _ {C M B : Type 0} (r : Rules C M B) (b : Beginning C M B) (m m' : Moment C M B) (k : ℕ) (e : Event) (h : IsKept r b m) (s : Steps r m (suc k) e m') where
  memory_count : length m.memories ≡ b.images
  memory_count = ap length h.memories ∙ length-map-range_with_len b.memory 1 b.images

  -- the memory at which the step stands is one of the run, and it served the step as it is due there
  module _ (owner : ℕ) (t : IsTrue (memory_ready_at r (list_at m.histories owner) (suc k) e.ask (item_at m.memories owner))) (y : e.reply ≡ memory_reply_at r (list_at m.histories owner) (suc k) e.ask (item_at m.memories owner)) where
    there : IsImage b owner × (item_at m.memories owner ≡ Some (b.memory owner))
    there = memory_of_run r b m h.fit h.memories (suc k) e.ask owner (list_at m.histories owner) (item_at m.memories owner) refl t

    ready : IsTrue (r.memory_ready (b.memory owner) (list_at m.histories owner) (suc k) e.ask)
    ready = subst (λ v. IsTrue (memory_ready_at r (list_at m.histories owner) (suc k) e.ask v)) there.1 t

    reply : e.reply ≡ r.memory_reply (b.memory owner) (list_at m.histories owner) (suc k) e.ask
    reply = y ∙ ap (memory_reply_at r (list_at m.histories owner) (suc k) e.ask) there.1

    written : m'.histories ≡ with_item m.histories owner (list_at m.histories owner ++ entry (suc k) e ∷ []) → Served (r.memory_ready (b.memory owner)) (r.memory_reply (b.memory owner)) [] (list_at m'.histories owner)
    written n =
        let c = h.history_count in
        let in_run = there.0 in
        subst (Served (r.memory_ready (b.memory owner)) (r.memory_reply (b.memory owner)) [])
        (sym (ap (λ hs. list_at hs owner) n ∙ list_same m.histories owner (list_at m.histories owner ++ entry (suc k) e ∷ []) in_run.0 (omega arith)))
        (served_more (r.memory_ready (b.memory owner)) (r.memory_reply (b.memory owner)) (list_at m.histories owner) (entry (suc k) e) (h.memories_served owner in_run) ready reply)

  memories_at : (q : Place) → m'.histories ≡ histories_with q m.histories (entry (suc k) e) → IsTrue (ready_there r m (suc k) e.ask q) → e.reply ≡ reply_there r m (suc k) e.ask q
      → (i : ℕ) → IsImage b i → Served (r.memory_ready (b.memory i)) (r.memory_reply (b.memory i)) [] (list_at m'.histories i)
  memories_at (places.Memory owner) n t y i in_run = elim (cases_eq owner.0 i) [
    | inl same ↦ subst (λ j. Served (r.memory_ready (b.memory j)) (r.memory_reply (b.memory j)) [] (list_at m'.histories j)) same (written owner.0 t y n)
    | inr other ↦ subst (Served (r.memory_ready (b.memory i)) (r.memory_reply (b.memory i)) []) (sym (ap (λ hs. list_at hs i) n ∙ list_other m.histories owner.0 i (list_at m.histories owner.0 ++ entry (suc k) e ∷ []) other)) (h.memories_served i in_run)
  ]
  memories_at places.Board n t y i in_run = subst (λ hs. Served (r.memory_ready (b.memory i)) (r.memory_reply (b.memory i)) [] (list_at hs i)) (sym n) (h.memories_served i in_run)
  memories_at places.Own n t y i in_run = subst (λ hs. Served (r.memory_ready (b.memory i)) (r.memory_reply (b.memory i)) [] (list_at hs i)) (sym n) (h.memories_served i in_run)

  board_at : (q : Place) → m'.board_history ≡ board_with q m.board_history (entry (suc k) e) → IsTrue (ready_there r m (suc k) e.ask q) → e.reply ≡ reply_there r m (suc k) e.ask q
      → Served (r.board_ready b.board) (r.board_reply b.board) [] m'.board_history
  board_at (places.Memory owner) n t y = subst (Served (r.board_ready b.board) (r.board_reply b.board) []) (sym n) h.board_served
  board_at places.Board n t y =
      subst (Served (r.board_ready b.board) (r.board_reply b.board) []) (sym n)
      (served_more (r.board_ready b.board) (r.board_reply b.board) m.board_history (entry (suc k) e) h.board_served (subst (λ v. IsTrue (r.board_ready v m.board_history (suc k) e.ask)) h.board t) (y ∙ ap (λ v. r.board_reply v m.board_history (suc k) e.ask) h.board))
  board_at places.Own n t y = subst (Served (r.board_ready b.board) (r.board_reply b.board) []) (sym n) h.board_served

  answered_now : Each (λ x. Answers x.ask x.reply) (list_at m.events (suc k) ++ e ∷ [])
  answered_now = each_last (λ x. Answers x.ask x.reply) (list_at m.events (suc k)) e (h.lanes (suc k) s.from s.stands).answered (subst (Answers e.ask) (sym s.due.reply) (answers_there r b m h (suc k) e.ask (place_of e.ask) refl s.due.ready))

  walks_now : WalkTo r.step (b.first (suc k)) (map said (list_at m.events (suc k) ++ e ∷ [])) s.to
  walks_now =
      let es = list_at m.events (suc k) in
      subst (λ l. WalkTo r.step (b.first (suc k)) l s.to) (sym (map_append said es (e ∷ [])))
      (walk_on r.step (b.first (suc k)) s.from s.to (r.step s.from) (map said es) e refl (h.lanes (suc k) s.from s.stands).walks s.due.asked s.due.line s.goes_on)

  -- the program doesn't ask a limit of stamps, so the step's stamp is above the image's last one by the rule of the
  -- others
  rises : (n : ℕ) → stamp_alone e.ask n ≡ suc n
  rises n =
      let in_run = is_image m.configs b.images (suc k) s.from h.count s.stands in
      let none = (h.fit.orderly (suc k) in_run).no_stamp_limit (map said (list_at m.events (suc k) ++ e ∷ [])) walks_now.0 (all_answer (list_at m.events (suc k) ++ e ∷ []) answered_now) walks_now.1 in
      alone_rises e.ask n (each_at (λ (x : Said Ask Reply). IsStampLimit x.ask → ⊥) (map said (list_at m.events (suc k))) [] (said e) (subst (Each (λ (x : Said Ask Reply). IsStampLimit x.ask → ⊥)) (map_append said (list_at m.events (suc k)) (e ∷ [])) none))

  lane_here : IsLane r b (suc k) (list_at m.events (suc k) ++ e ∷ []) s.to
  lane_here =
      let lane = h.lanes (suc k) s.from s.stands in
      let es = list_at m.events (suc k) in
      record {
        walks = walks_now;
        rests = s.rests;
        places = each_last (λ x. IsPlace b (place_of x.ask)) es e lane.places (place_of_run r b m h.fit h.memories (suc k) e.ask (place_of e.ask) s.due.ready);
        answered = answered_now;
        alone = each_last (λ x. place_of x.ask ≡ places.Own → x.reply ≡ replies.Done) es e lane.alone (λ p. s.due.reply ∙ ap (reply_there r m (suc k) e.ask) p);
      }

  lanes_now : (i : ℕ) (c : C) → item_at m'.configs i ≡ Some c → IsLane r b i (list_at m'.events i) c
  lanes_now i c at = elim (cases_eq (suc k) i) [
    | inl same ↦ subst (λ j. item_at m'.configs j ≡ Some c → IsLane r b j (list_at m'.events j) c) same here at
    | inr other ↦ (
        let events_same = ap (λ ls. list_at ls i) s.events ∙ list_other m.events (suc k) i (list_at m.events (suc k) ++ e ∷ []) other in
        subst (λ es. IsLane r b i es c) (sym events_same) (h.lanes i c (sym (stands_other i other) ∙ at)))
  ]
    where
      stands_other : (i : ℕ) → (suc k ≡ i → ⊥) → item_at m'.configs i ≡ item_at m.configs i
      stands_other zero other = refl
      stands_other (suc j) other = ap (λ cs. slice_get cs j) s.configs ∙ get_other m.configs k j s.to (λ p. other (ap suc p))

      here : item_at m'.configs (suc k) ≡ Some c → IsLane r b (suc k) (list_at m'.events (suc k)) c
      here at =
          let within = item_within m.configs k s.from s.stands in
          let events = h.event_count in
          let configs = h.count in
          let stands : item_at m'.configs (suc k) ≡ Some s.to = ap (λ cs. slice_get cs k) s.configs ∙ get_same m.configs k s.to within in
          let events_now : list_at m'.events (suc k) ≡ list_at m.events (suc k) ++ e ∷ [] = ap (λ ls. list_at ls (suc k)) s.events ∙ index_same m.events k (list_at m.events (suc k) ++ e ∷ []) [] (omega arith) in
          subst (λ v. IsLane r b (suc k) (list_at m'.events (suc k)) v) (same_some s.to c (sym stands ∙ at)) (subst (λ es. IsLane r b (suc k) es s.to) (sym events_now) lane_here)

  kept_by_image : IsKept r b m'
  kept_by_image = record {
    fit = h.fit;
    count = ap length s.configs ∙ with_length m.configs (suc k) s.to ∙ h.count;
    event_count = ap length s.events ∙ with_length m.events (suc k) (list_at m.events (suc k) ++ e ∷ []) ∙ h.event_count;
    history_count = ap length s.histories ∙ histories_length (place_of e.ask) m.histories (entry (suc k) e) ∙ h.history_count;
    memories = s.memories ∙ h.memories;
    board = s.board ∙ h.board;
    woven = woven_by r m m' (suc k) e (h.event_count ∙ sym h.count) (h.history_count ∙ sym memory_count) s rises h.woven;
    memories_served = memories_at (place_of e.ask) s.histories s.due.ready s.due.reply;
    board_served = board_at (place_of e.ask) s.board_history s.due.ready s.due.reply;
    lanes = lanes_now;
  }

-- a step keeps all that is kept, whatever its image's number
pub kept_more : {C M B : Type 0} (r : Rules C M B) (b : Beginning C M B) (m m' : Moment C M B) (i : ℕ) (e : Event) → IsKept r b m → Steps r m i e m' → IsKept r b m'
kept_more r b m m' zero e h s = absurd (let x = s.stands in cc)
kept_more r b m m' (suc k) e h s = kept_by_image r b m m' k e h s
