-- What is known of an entry of a lawful trace: it was ready after those before it at its object, and has the reply that
-- was due there.
use Rattle.std.proofs.Common.{◌≡◌, ℕ, suc, Bool, IsTrue, List, [], ◌∷◌, ◌++◌, ap, sym, ◌∙◌, subst, append_assoc}
use Rattle.std.proofs.lemmas.List.{append-nil}
use Rattle.caf_base.specs.declared.place.ImageNo.{ImageNo}
use Rattle.caf_base.specs.declared.place.Place.TheVariants as places
use Rattle.caf_events.specs.declared.ask.Ask.{Ask}
use Rattle.caf_events.specs.declared.reply.Reply.{Reply}
use Rattle.caf_events.specs.declared.reply.Reply.TheVariants as replies
use Rattle.caf_events.specs.declared.event.Entry.{Entry}
use Rattle.caf_events.specs.Asks.{place_of, object_of}
use Rattle.caf_events.specs.Histories.{Served}
use Rattle.object_rules.specs.BoardRules.{board_ready, board_reply}
use Rattle.object_rules.specs.Cells.{Declared}
use Rattle.object_rules.specs.MemoryRules.{memory_ready, memory_reply}
use Rattle.trace_theory.specs.Entries.{of}
use Rattle.trace_theory.proofs.Filters.{of_inside}
use Rattle.trace_theory.proofs.Snocs.{each_at}
use Rattle.core_runs.specs.Lists.{key_of}
use Rattle.core_runs.specs.Beginnings.{IsThere}
use Rattle.core_runs.specs.CoreRuns.{at_board, of_memory, IsDoneAlone}
use Rattle.core_runs.specs.Lawful.{IsLawfulTrace, made_memory}

-- a turn at an object: after a history that it served, an ask of an image came and had the reply that was due
pub record Turn (can : List Entry → ℕ → Ask → Bool) (due : List Entry → ℕ → Ask → Reply) (h : List Entry) (x : Entry) : Type 0 where
  pub served : Served can due [] h
  pub ready : IsTrue (can h x.image.0 x.event.ask)
  pub reply : x.event.reply ≡ due h x.image.0 x.event.ask

module _ (ready : List Entry → ℕ → Ask → Bool) (reply : List Entry → ℕ → Ask → Reply) where
  served_from : (before g g' : List Entry) (x : Entry) → Served ready reply before (g ++ x ∷ g')
      → Served ready reply before g × IsTrue (ready (before ++ g) x.image.0 x.event.ask) × (x.event.reply ≡ reply (before ++ g) x.image.0 x.event.ask)
  served_from before [] g' x s =
      let q : before ≡ before ++ [] = sym (append-nil before) in
      (tt, subst (λ (l : List Entry). IsTrue (ready l x.image.0 x.event.ask)) q s.0, s.1 ∙ ap (λ (l : List Entry). reply l x.image.0 x.event.ask) q)
  served_from before (y ∷ g) g' x s =
      let r = served_from (before ++ y ∷ []) g g' x s.2 in
      let q : (before ++ y ∷ []) ++ g ≡ before ++ y ∷ g = append_assoc before (y ∷ []) g in
      ((s.0, s.1, r.0), subst (λ (l : List Entry). IsTrue (ready l x.image.0 x.event.ask)) q r.1, r.2 ∙ ap (λ (l : List Entry). reply l x.image.0 x.event.ask) q)

  -- each entry of a served history is one
  pub turn_at : (g g' : List Entry) (x : Entry) → Served ready reply [] (g ++ x ∷ g') → Turn ready reply g x
  turn_at g g' x s = let r = served_from [] g g' x s in record { served = r.0; ready = r.1; reply = r.2 }

-- the entries at the object of an entry inside a trace
key_split : (k : ℕ) (before after : List Entry) (x : Entry) → key_of x ≡ k → of key_of k (before ++ x ∷ after) ≡ of key_of k before ++ x ∷ of key_of k after
key_split k before after x e = subst (λ z. of key_of z (before ++ x ∷ after) ≡ of key_of z before ++ x ∷ of key_of z after) e (of_inside key_of before after x)

pub board_split : (before after : List Entry) (x : Entry) → place_of x.event.ask ≡ places.Board → at_board (before ++ x ∷ after) ≡ at_board before ++ x ∷ at_board after
board_split before after x e = key_split 1 before after x (ap object_of e)

module _ (s : List Declared) (n : ℕ) (before after : List Entry) (x : Entry) (l : IsLawfulTrace s n (before ++ x ∷ after)) where
  pub board_turn : place_of x.event.ask ≡ places.Board → Turn (board_ready n) (board_reply n) (at_board before) x
  board_turn e = turn_at (board_ready n) (board_reply n) (at_board before) (at_board after) x (subst (Served (board_ready n) (board_reply n) []) (board_split before after x e) l.board)

  -- its object is one of the run
  place_there : IsThere n (place_of x.event.ask)
  place_there = each_at (λ (y : Entry). IsThere n (place_of y.event.ask)) before after x l.places

  pub memory_turn : (owner : ImageNo) → place_of x.event.ask ≡ places.Memory owner
      → Turn (memory_ready (made_memory s owner.0)) (memory_reply (made_memory s owner.0)) (of_memory owner.0 before) x
  memory_turn owner e =
      let m = made_memory s owner.0 in
      turn_at (memory_ready m) (memory_reply m) (of_memory owner.0 before) (of_memory owner.0 after) x
      (subst (Served (memory_ready m) (memory_reply m) []) (key_split (suc owner.0) before after x (ap object_of e)) (l.memories owner.0 (subst (IsThere n) e place_there)))

  -- the image's own step is done
  pub own_done : place_of x.event.ask ≡ places.Own → x.event.reply ≡ replies.Done
  own_done e = each_at IsDoneAlone before after x l.alone e
