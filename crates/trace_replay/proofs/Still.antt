-- Where no image does anything more behind a trace, no step is made.
use Rattle.std.proofs.Common.{◌≡◌, ℕ, suc, false, IsTrue, List, [], ◌∷◌, ◌++◌, inl, inr, refl, ap, sym, ◌∙◌, subst, append_assoc}
use Rattle.std.specs.Prelude.{map}
use Rattle.caf_base.specs.declared.place.Place.{Place}
use Rattle.caf_base.specs.declared.place.Place.TheVariants as places
use Rattle.caf_events.specs.declared.ask.Ask.{Ask}
use Rattle.caf_events.specs.declared.reply.Reply.{Reply}
use Rattle.caf_events.specs.declared.event.Event.{Event}
use Rattle.caf_events.specs.declared.event.Entry.{Entry}
use Rattle.caf_events.specs.Answers.{Answers}
use Rattle.caf_events.specs.Asks.{place_of}
use Rattle.caf_events.specs.Walkers.{AsksNext}
use Rattle.trace_theory.specs.Machines.{Move, go, goes, asks, over, Said, Walk, WalkTo, Rests}
use Rattle.trace_theory.proofs.Machines.{one_next_ask}
use Rattle.trace_theory.proofs.Rests.{one_place}
use Rattle.trace_theory.proofs.Snocs.{each_last}
use Rattle.core_runs.specs.Beginnings.{Beginning, IsImage}
use Rattle.core_runs.specs.CoreRuns.{of_memory, said_by}
use Rattle.core_runs.specs.Kept.{IsKept}
use Rattle.core_runs.specs.Lanes.{IsLane}
use Rattle.core_runs.specs.Lists.{said, list_at}
use Rattle.core_runs.specs.Moments.{Rules, Moment, memory_ready_at, item_at, ready_there, Steps}
use Rattle.core_runs.specs.Orders.{Chooser, Ordered}
use Rattle.core_runs.specs.Sequences.{HasEndedBy}
use Rattle.core_runs.specs.Traces.{IsTraceOf}
use Rattle.core_runs.specs.Waits.{HasEndedIn, IsUnready, IsWaiting}
use Rattle.core_runs.proofs.Answered.{answers_there}
use Rattle.core_runs.proofs.CoreRuns.{said_is, board_is, memory_is, all_answer}
use Rattle.core_runs.proofs.Lanes.{is_image, memory_of_run, walk_on}
use Rattle.core_runs.proofs.Weaves.{map_append}
use Rattle.trace_replay.specs.Replays.{IsIdle}

-- a walk to a stop comes to one place
one_stop_of : {C : Type 0} (step : C → Move C Ask Reply) (es : List (Said Ask Reply)) (x a b : C) → WalkTo step x es a → WalkTo step x es b → Rests (step a) → Rests (step b) → a ≡ b
one_stop_of {C} step [] x a b (m, w, n, p) (o, v, k, q) s t = one_place C Ask Reply step n k x a b (ap (go step n) (sym w) ∙ p) (ap (go step k) (sym v) ∙ q) s t
one_stop_of {C} step (e ∷ es) x a b (m, (j, comes, w), n, p) (o, (i, comes', v), k, q) s t =
    let same = (one_next_ask C Ask Reply step x e.ask e.ask e.line e.line j i comes comes').2 in
    one_stop_of step es (j e.reply) a b (m, w, n, p) (o, subst (λ (f : Reply → C). Walk step (f e.reply) es o) (sym same) v, k, q) s t

asks_rests : {C : Type 0} (v : Move C Ask Reply) (a : Ask) → AsksNext v a → Rests v
asks_rests (goes c) a h = absurd h
asks_rests (asks b l k) a h = tt
asks_rests over a h = absurd h

one_ask : {C : Type 0} (v : Move C Ask Reply) (a b : Ask) → AsksNext v a → AsksNext v b → a ≡ b
one_ask (goes c) a b h k = absurd h
one_ask (asks x l j) a b h k = h ∙ sym k
one_ask over a b h k = absurd h

none_last : (before : List (Said Ask Reply)) (z e : Said Ask Reply) (after : List (Said Ask Reply)) → after ≡ e ∷ [] → after ≡ [] → ⊥
none_last before z e after one none = let no = sym one ∙ none in cc

module _ {C M B : Type 0} (r : Rules C M B) (b : Beginning C M B) (m next : Moment C M B) (t : List Entry) (kept : IsKept r b m) (trace : IsTraceOf m.events t) (i : ℕ) (e : Event) (step : Steps r m i e next) where
  in_run : IsImage b i
  in_run = is_image m.configs b.images i step.from kept.count step.stands

  lane : IsLane r b i (list_at m.events i) step.from
  lane = kept.lanes i step.from step.stands

  is_ready : (a : Ask) (q : Place) → IsUnready r b t i a q → IsTrue (ready_there r m i a q) → ⊥
  is_ready a (places.Memory owner) u ready =
      let there = memory_of_run r b m kept.fit kept.memories i a owner.0 (list_at m.histories owner.0) (item_at m.memories owner.0) refl ready in
      let yes : IsTrue (r.memory_ready (b.memory owner.0) (list_at m.histories owner.0) i a) = subst (λ v. IsTrue (memory_ready_at r (list_at m.histories owner.0) i a v)) there.1 ready in
      let no : r.memory_ready (b.memory owner.0) (list_at m.histories owner.0) i a ≡ false = ap (λ g. r.memory_ready (b.memory owner.0) g i a) (sym (memory_is r b m t kept trace owner.0 there.0.0)) ∙ u there.0 in
      let false_is : IsTrue false = subst IsTrue no yes in
      cc
  is_ready a places.Board u ready =
      let no : r.board_ready m.board m.board_history i a ≡ false = ap (λ v. r.board_ready v m.board_history i a) kept.board ∙ ap (λ g. r.board_ready b.board g i a) (sym (board_is r b m t kept trace)) ∙ u in
      let false_is : IsTrue false = subst IsTrue no ready in
      cc
  is_ready a places.Own u ready = u

  -- an image that makes a step doesn't wait
  not_waiting : (line : ℕ) (a : Ask) → IsWaiting r b t i line a → ⊥
  not_waiting line a w =
      let walks = subst (λ es. WalkTo r.step (b.first i) es step.from) (sym (said_is r b m t kept trace i)) lane.walks in
      let there = one_stop_of r.step (said_by i t) (b.first i) step.from w.config walks w.walks lane.rests (asks_rests (r.step w.config) a w.asks) in
      let same = one_ask (r.step step.from) a e.ask (subst (λ x. AsksNext (r.step x) a) (sym there) w.asks) step.due.asked in
      is_ready e.ask (place_of e.ask) (subst (λ x. IsUnready r b t i x (place_of x)) same w.unready) step.due.ready

  -- and its last step hasn't ended it
  not_ended : HasEndedIn i t → ⊥
  not_ended (before, z, is, ends) =
      let events = list_at m.events i in
      let answer = subst (Answers e.ask) (sym step.due.reply) (answers_there r b m kept i e.ask (place_of e.ask) refl step.due.ready) in
      let answered = all_answer (events ++ e ∷ []) (each_last (λ (x : Event). Answers x.ask x.reply) events e lane.answered answer) in
      let walks = walk_on r.step (b.first i) step.from step.to (r.step step.from) (map said events) e refl lane.walks step.due.asked step.due.line step.goes_on in
      let orderly = (kept.fit.orderly i in_run).nothing_after (map said (events ++ e ∷ [])) walks.0 answered (subst (λ es. Walk r.step (b.first i) es walks.0) (sym (map_append said events (e ∷ []))) walks.1) in
      let split : map said (events ++ e ∷ []) ≡ before ++ z ∷ said e ∷ [] =
      map_append said events (e ∷ []) ∙ ap (λ es. es ++ said e ∷ []) (sym (said_is r b m t kept trace i) ∙ is) ∙ append_assoc before (z ∷ []) (said e ∷ []) in
      none_last before z (said e) (said e ∷ []) refl (orderly before (said e ∷ []) z split ends)

  not_idle : IsIdle r b t i → ⊥
  not_idle (inl ended) = not_ended ended
  not_idle (inr (line, a, waits)) = not_waiting line a waits

-- where no image does anything more, an ordered run has no step
pub no_steps : {C M B S : Type 0} (r : Rules C M B) (b : Beginning C M B) (ch : Chooser S) (m : Moment C M B) (t : List Entry) → IsKept r b m → IsTraceOf m.events t → ((i : ℕ) → IsImage b i → IsIdle r b t i)
    → (s : S) (xs : List Entry) (s' : S) (m' : Moment C M B) → Ordered r ch s m xs s' m' → xs ≡ []
no_steps r b ch m t kept trace idle s [] s' m' ordered = refl
no_steps r b ch m t kept trace idle s (x ∷ xs) s' m' (chosen, next, step, rest) =
    absurd (not_idle r b m next t kept trace x.image.0 x.event step (idle x.image.0 (in_run r b m next t kept trace x.image.0 x.event step)))
