-- What is kept tells which images have stopped and what the others wait for.
use Rattle.std.proofs.Common.{◌≡◌, ℕ, false, List, ap, sym, ◌∙◌, subst}
use Rattle.std.specs.Prelude.{map, Some}
use Rattle.caf_base.specs.declared.place.Place.{Place}
use Rattle.caf_base.specs.declared.place.Place.TheVariants as places
use Rattle.caf_events.specs.declared.ask.Ask.{Ask}
use Rattle.caf_events.specs.declared.reply.Reply.{Reply}
use Rattle.caf_events.specs.declared.event.Entry.{Entry}
use Rattle.caf_events.specs.Asks.{place_of}
use Rattle.caf_events.specs.Walkers.{AsksNext, IsAtLine, IsOver}
use Rattle.trace_theory.specs.Machines.{Move, goes, asks, over, WalkTo}
use Rattle.core_runs.specs.Lists.{said, list_at}
use Rattle.core_runs.specs.Moments.{Rules, Moment, item_at, ready_there, memory_ready_at, can_move, can_move_from, can_step}
use Rattle.core_runs.specs.Beginnings.{Beginning}
use Rattle.core_runs.specs.Sequences.{HasEndedBy, EndsByItself}
use Rattle.core_runs.specs.Kept.{IsKept}
use Rattle.core_runs.specs.Traces.{IsTraceOf}
use Rattle.core_runs.specs.Waits.{HasEndedIn, IsUnready, IsWaiting}
use Rattle.core_runs.proofs.CoreRuns.{said_is, board_is, memory_is, all_answer}
use Rattle.core_runs.proofs.Lanes.{numbered_item, is_image}

module _ {C M B : Type 0} (r : Rules C M B) (b : Beginning C M B) (m : Moment C M B) (t : List Entry) (h : IsKept r b m) (trace : IsTraceOf m.events t) (i : ℕ) (c : C) (at : item_at m.configs i ≡ Some c) where
  unready_at : (a : Ask) (q : Place) → ready_there r m i a q ≡ false → IsUnready r b t i a q
  unready_at a (places.Memory owner) f =
      λ in_run. (
      let here : item_at m.memories owner.0 ≡ Some (b.memory owner.0) = ap (λ ms. item_at ms owner.0) h.memories ∙ numbered_item b.memory b.images owner.0 in_run.0 in_run.1 in
      ap (λ g. r.memory_ready (b.memory owner.0) g i a) (memory_is r b m t h trace owner.0 in_run.0) ∙ (sym (ap (memory_ready_at r (list_at m.histories owner.0) i a) here) ∙ f))
  unready_at a places.Board f = ap (λ g. r.board_ready b.board g i a) (board_is r b m t h trace) ∙ (ap (λ v. r.board_ready v m.board_history i a) (sym h.board) ∙ f)
  unready_at a places.Own f = absurd (cc)

  unready_next : (move : Move C Ask Reply) (a : Ask) → AsksNext move a → can_move r m i move ≡ false → IsUnready r b t i a (place_of a)
  unready_next (goes d) a n f = absurd n
  unready_next (asks a' l k) a n f = unready_at a (place_of a) (ap (λ v. ready_there r m i v (place_of v)) n ∙ f)
  unready_next over a n f = absurd n

  -- an image that can't step and hasn't ended waits
  pub waiting : can_step r m i ≡ false → (a : Ask) (l : ℕ) → AsksNext (r.step c) a → IsAtLine (r.step c) l → IsWaiting r b t i l a
  waiting f a l n line = record {
    image = is_image m.configs b.images i c h.count at;
    config = c;
    walks = subst (λ es. WalkTo r.step (b.first i) es c) (sym (said_is r b m t h trace i)) (h.lanes i c at).walks;
    asks = n;
    line_is = line;
    unready = unready_next (r.step c) a n (sym (ap (can_move_from r m i) at) ∙ f);
  }

  -- an image that has ended made a step that ended it
  pub stopped : EndsByItself r.step (b.first i) → IsOver (r.step c) → HasEndedIn i t
  stopped ends o =
      let lane = h.lanes i c at in
      subst HasEndedBy (sym (said_is r b m t h trace i)) (ends (map said (list_at m.events i)) c (all_answer (list_at m.events i) lane.answered) lane.walks o)
