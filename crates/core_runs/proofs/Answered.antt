-- The reply that is due answers the ask, and the image can go on with it.
use Rattle.std.proofs.Common.{◌≡◌, ℕ, IsTrue, [], refl, sym, subst}
use Rattle.std.specs.Prelude.{Some}
use Rattle.caf_base.specs.declared.place.Place.{Place}
use Rattle.caf_base.specs.declared.place.Place.TheVariants as places
use Rattle.caf_events.specs.declared.ask.Ask.{Ask}
use Rattle.caf_events.specs.Answers.{Answers}
use Rattle.caf_events.specs.Asks.{place_of}
use Rattle.caf_events.specs.Histories.{Served}
use Rattle.caf_events.specs.Walkers.{AsksNext}
use Rattle.core_runs.specs.Lists.{list_at}
use Rattle.core_runs.specs.Moments.{Rules, Moment, item_at, ready_there, reply_there, memory_ready_at, memory_reply_at}
use Rattle.core_runs.specs.Beginnings.{Beginning}
use Rattle.core_runs.specs.Lanes.{IsMoment}
use Rattle.core_runs.specs.Kept.{IsKept}
use Rattle.core_runs.proofs.Lanes.{own_answers, memory_of_run}

module _ {C M B : Type 0} (r : Rules C M B) (b : Beginning C M B) (m : Moment C M B) (h : IsKept r b m) (i : ℕ) (a : Ask) where
  pub answers_there : (q : Place) → place_of a ≡ q → IsTrue (ready_there r m i a q) → Answers a (reply_there r m i a q)
  answers_there (places.Memory owner) p t =
      let history = list_at m.histories owner.0 in
      let there = memory_of_run r b m h.fit h.memories i a owner.0 history (item_at m.memories owner.0) refl t in
      subst (λ v. Answers a (memory_reply_at r history i a v)) (sym there.1)
      (h.fit.memory_answers (b.memory owner.0) history i a (h.memories_served owner.0 there.0) (subst (λ v. IsTrue (memory_ready_at r history i a v)) there.1 t))
  answers_there places.Board p t =
      h.fit.board_answers m.board m.board_history i a (subst (λ v. Served (r.board_ready v) (r.board_reply v) [] m.board_history) (sym h.board) h.board_served) t
  answers_there places.Own p t = own_answers a p

  -- the moment, whatever the rules and programs are
  moment : IsMoment r b m
  moment = record {
    fit = tt;
    count = h.count;
    event_count = h.event_count;
    history_count = h.history_count;
    memories = h.memories;
    board = h.board;
    woven = h.woven;
    memories_served = h.memories_served;
    board_served = h.board_served;
    lanes = h.lanes;
  }

  pub heard_there : (c : C) → item_at m.configs i ≡ Some c → AsksNext (r.step c) a → (q : Place) → place_of a ≡ q → IsTrue (ready_there r m i a q) → r.hears c (reply_there r m i a q)
  heard_there c at asked q p t = subst (λ z. IsTrue (ready_there r m i a z) → r.hears c (reply_there r m i a z)) p (h.fit.hears m moment i c a at asked) t
