-- A step at one object leaves readiness at the others as it is.
use Rattle.std.proofs.Common.{◌≡◌, ℕ, zero, suc, List, refl, ap, sym, ◌∙◌}
use Rattle.std.specs.Prelude.{Option, Some, None}
use Rattle.caf_base.specs.declared.place.Place.{Place}
use Rattle.caf_base.specs.declared.place.Place.TheVariants as places
use Rattle.caf_events.specs.declared.ask.Ask.{Ask}
use Rattle.caf_events.specs.declared.reply.Reply.{Reply}
use Rattle.caf_events.specs.declared.event.Event.{Event}
use Rattle.caf_events.specs.Asks.{place_of}
use Rattle.caf_events.specs.Walkers.{AsksNext}
use Rattle.trace_theory.specs.Machines.{Move, goes, asks, over}
use Rattle.core_runs.specs.Lists.{entry, list_at}
use Rattle.core_runs.specs.Moments.{Rules, Moment, item_at, with_item, ready_there, memory_ready_at, can_move, can_move_from, can_step, histories_with, board_with, Steps}
use Rattle.core_runs.proofs.Numbered.{get_other, list_other}

item_other : {A : Type 0} (xs : List A) (i j : ℕ) (x : A) → (i ≡ j → ⊥) → item_at (with_item xs i x) j ≡ item_at xs j
item_other xs zero j x n = refl
item_other xs (suc k) zero x n = refl
item_other xs (suc k) (suc j) x n = get_other xs k j x (λ e. n (ap suc e))

module _ {C M B : Type 0} (r : Rules C M B) (m m' : Moment C M B) (i : ℕ) (e : Event) (s : Steps r m i e m') (j : ℕ) where
  -- the step is made at a place
  ready_beside : (p q : Place) → (q ≡ p → ⊥) → m'.histories ≡ histories_with p m.histories (entry i e) → m'.board_history ≡ board_with p m.board_history (entry i e) → (a : Ask) → ready_there r m' j a q ≡ ready_there r m j a q
  ready_beside p places.Own n h t a = refl
  ready_beside places.Own (places.Memory owner) n h t a =
      ap (λ hs. memory_ready_at r (list_at hs owner.0) j a (item_at m'.memories owner.0)) h ∙ ap (λ ms. memory_ready_at r (list_at m.histories owner.0) j a (item_at ms owner.0)) s.memories
  ready_beside places.Board (places.Memory owner) n h t a =
      ap (λ hs. memory_ready_at r (list_at hs owner.0) j a (item_at m'.memories owner.0)) h ∙ ap (λ ms. memory_ready_at r (list_at m.histories owner.0) j a (item_at ms owner.0)) s.memories
  ready_beside (places.Memory other) (places.Memory owner) n h t a =
      let apart : other.0 ≡ owner.0 → ⊥ = λ same. n (ap (λ k. places.Memory (record { 0 = k })) (sym same)) in
      ap (λ hs. memory_ready_at r (list_at hs owner.0) j a (item_at m'.memories owner.0)) h
      ∙ ap (λ l. memory_ready_at r l j a (item_at m'.memories owner.0)) (list_other m.histories other.0 owner.0 _ apart)
      ∙ ap (λ ms. memory_ready_at r (list_at m.histories owner.0) j a (item_at ms owner.0)) s.memories
  ready_beside places.Own places.Board n h t a = ap (λ l. r.board_ready m'.board l j a) t ∙ ap (λ v. r.board_ready v m.board_history j a) s.board
  ready_beside (places.Memory other) places.Board n h t a = ap (λ l. r.board_ready m'.board l j a) t ∙ ap (λ v. r.board_ready v m.board_history j a) s.board
  ready_beside places.Board places.Board n h t a = absurd (n refl)

  pub ready_elsewhere : (a : Ask) (q : Place) → (q ≡ place_of e.ask → ⊥) → ready_there r m' j a q ≡ ready_there r m j a q
  ready_elsewhere a q n = ready_beside (place_of e.ask) q n s.histories s.board_history a

  can_move_elsewhere : (v : Move C Ask Reply) → ((a : Ask) → AsksNext v a → place_of a ≡ place_of e.ask → ⊥) → can_move r m' j v ≡ can_move r m j v
  can_move_elsewhere (goes c) n = refl
  can_move_elsewhere (asks a l k) n = ready_elsewhere a (place_of a) (n a refl)
  can_move_elsewhere over n = refl

  can_from : (o : Option C) → ((c : C) → o ≡ Some c → (a : Ask) → AsksNext (r.step c) a → place_of a ≡ place_of e.ask → ⊥) → can_move_from r m' j o ≡ can_move_from r m j o
  can_from None n = refl
  can_from (Some c) n = can_move_elsewhere (r.step c) (n c refl)

  -- another image, whose next ask isn't at the step's object, can step as before
  pub can_elsewhere : (i ≡ j → ⊥) → ((c : C) → item_at m.configs j ≡ Some c → (a : Ask) → AsksNext (r.step c) a → place_of a ≡ place_of e.ask → ⊥) → can_step r m' j ≡ can_step r m j
  can_elsewhere other n =
      let stands : item_at m'.configs j ≡ item_at m.configs j = ap (λ cs. item_at cs j) s.configs ∙ item_other m.configs i j s.to other in
      ap (can_move_from r m' j) stands ∙ can_from (item_at m.configs j) n
