-- A step of one image at one object as a step of the whole run.
use Rattle.std.proofs.Common.{◌≡◌, ℕ, suc, ◌+◌, ◌-◌, ◌<◌, ◌≤◌, max, List, [], ◌∷◌, ◌++◌, length, refl, ap, sym, ◌∙◌, subst, arith, IsTrue}
use Rattle.std.specs.Prelude.{map, slice_index_or, slice_get, slice_set, Option, Some}
use Rattle.caf_base.specs.declared.place.Place.TheVariants as places
use Rattle.caf_base.specs.declared.place.ImageNo.{ImageNo}
use Rattle.caf_events.specs.declared.object.Object as object
use Rattle.caf_events.specs.declared.walker.Walker as walker
use Rattle.caf_events.specs.declared.ask.Ask.{Ask}
use Rattle.caf_events.specs.declared.reply.Reply.{Reply}
use Rattle.caf_events.specs.declared.reply.Reply.TheVariants as replies
use Rattle.caf_events.specs.declared.event.Event.{Event}
use Rattle.caf_events.specs.declared.event.Entry.{Entry}
use Rattle.caf_events.specs.Asks.{place_of}
use Rattle.caf_events.specs.Histories.{last_stamp_of}
use Rattle.caf_events.specs.Walkers.{IsAtAsk, AsksNext, IsAtLine, Continues}
use Rattle.caf_events.proofs.Walking.{at_ask, same_ask}
use Rattle.trace_theory.specs.Machines.{Move, Rests}
use Rattle.image_core.specs.declared.run.ImageRun.{ImageRun}
use Rattle.image_core.specs.declared.parts.PartsOf.{PartsOf}
use Rattle.core_runs.specs.Lists.{list_at, entry, last_of}
use Rattle.core_runs.specs.Moments.{Rules, Moment, item_at, history_there, ready_there, reply_there, memory_ready_at, memory_reply_at, with_item, histories_with, board_with, Steps}
use Rattle.image_core.specs.declared.prepared.Prepared.{Prepared}
use Rattle.image_core.specs.declared.prepared.Prepared.TheVariants as prepareds
use Rattle.image_core.specs.Prepared.{move_of, StepsAt, IsServedNext, IsOwnNext, place_aside}
use Rattle.core_runs.specs.Moments.{rules}
use Rattle.image_core.specs.Parts.{moment, event_lists, IsSetAside, IsServedThere}
use Rattle.run_outlook.proofs.Slices.{map_set, map_index, map_get, map_same}

module _ {M O B : Type 0} (walks : walker.Ghosts M) (memory : object.Ghosts O) (control : object.Ghosts B)
    (p : PartsOf M O B) (i : ℕ) (move : Move walks.Config Ask Reply) where
  -- the next ask is made where the step is set aside
  pub aside_place : (pr : Prepared) (a : Ask) → IsSetAside walks memory control p i move pr → AsksNext move a → place_of a ≡ place_aside pr
  aside_place prepareds.Nothing a h k = absurd h
  aside_place (prepareds.Own told) a h k = ap place_of (same_ask move a told.ask k h.0) ∙ h.1
  aside_place (prepareds.Served ask told) a h k = ap place_of (same_ask move a ask k h.0)

  pub aside_at_ask : (pr : Prepared) → IsSetAside walks memory control p i move pr → IsAtAsk move
  aside_at_ask prepareds.Nothing h = absurd h
  aside_at_ask (prepareds.Own told) h = at_ask move told.ask h.0
  aside_at_ask (prepareds.Served ask told) h = at_ask move ask h.0

  -- a step that is set aside by the image itself
  pub aside_own : (pr : Prepared) → IsSetAside walks memory control p i move pr → place_aside pr ≡ places.Own → IsOwnNext move pr
  aside_own prepareds.Nothing h e = absurd h
  aside_own (prepareds.Own told) h e = h
  aside_own (prepareds.Served ask told) h e = absurd (subst (IsServedThere walks memory control p i ask told) e h.1)

  -- by the board
  pub aside_board : (pr : Prepared) → IsSetAside walks memory control p i move pr → place_aside pr ≡ places.Board → IsServedNext control move i p.board pr
  aside_board prepareds.Nothing h e = absurd h
  aside_board (prepareds.Own told) h e = absurd (cc)
  aside_board (prepareds.Served ask told) h e = (h.0, subst (IsServedThere walks memory control p i ask told) e h.1)

  -- by a memory, which the run has
  pub aside_within : (pr : Prepared) (owner : ImageNo) → IsSetAside walks memory control p i move pr → place_aside pr ≡ places.Memory owner → (0 < owner.0) × (owner.0 ≤ length p.memories.items)
  aside_within prepareds.Nothing owner h e = absurd h
  aside_within (prepareds.Own told) owner h e = absurd (cc)
  aside_within (prepareds.Served ask told) owner h e =
      let t = subst (IsServedThere walks memory control p i ask told) e h.1 in (t.0, t.1)

  pub aside_memory : (pr : Prepared) (owner : ImageNo) (o : O) → IsSetAside walks memory control p i move pr → place_aside pr ≡ places.Memory owner → o ≡ slice_index_or p.memories.items (owner.0 - 1) o → IsServedNext memory move i o pr
  aside_memory prepareds.Nothing owner o h e m = absurd h
  aside_memory (prepareds.Own told) owner o h e m = absurd (cc)
  aside_memory (prepareds.Served ask told) owner o h e m =
      (h.0, (subst (IsServedThere walks memory control p i ask told) e h.1).2 o m)

module _ {M O B : Type 0} (walks : walker.Ghosts M) (memory : object.Ghosts O) (control : object.Ghosts B)
    (p p' : PartsOf M O B) (k : ℕ) (r r' : ImageRun M) (e : Event)
    (image_in : k < length p.images.items) (run_is : r ≡ slice_index_or p.images.items k r) (number : r.image.0 ≡ suc k)
    (images_now : p'.images.items ≡ slice_set p.images.items k r') (rests : Rests (move_of walks r')) where
  abbrev pub R : Rules walks.Config memory.Made control.Made
  R = rules walks memory control

  abbrev pub now : Moment walks.Config memory.Made control.Made
  now = moment walks memory control p

  abbrev pub then : Moment walks.Config memory.Made control.Made
  then = moment walks memory control p'

  stands_here : item_at (map (λ (x : ImageRun M). walks.config x.machine) p.images.items) (suc k) ≡ Some (walks.config r.machine)
  stands_here = map_get (λ (x : ImageRun M). walks.config x.machine) p.images.items k r image_in run_is

  configs_now : map (λ (x : ImageRun M). walks.config x.machine) p'.images.items ≡ slice_set (map (λ (x : ImageRun M). walks.config x.machine) p.images.items) k (walks.config r'.machine)
  configs_now = ap (map (λ (x : ImageRun M). walks.config x.machine)) images_now ∙ map_set (λ (x : ImageRun M). walks.config x.machine) p.images.items k r'

  events_here : slice_index_or (event_lists p.images.items) k [] ≡ r.events.items
  events_here = map_index (λ (x : ImageRun M). x.events.items) p.images.items k r [] image_in run_is

  events_now : r'.events.items ≡ r.events.items ++ e ∷ [] → event_lists p'.images.items ≡ slice_set (event_lists p.images.items) k (slice_index_or (event_lists p.images.items) k [] ++ e ∷ [])
  events_now h =
      ap event_lists images_now ∙ map_set (λ (x : ImageRun M). x.events.items) p.images.items k r'
      ∙ ap (slice_set (event_lists p.images.items) k) (h ∙ ap (λ es. es ++ e ∷ []) (sym events_here))

  -- the stamp of a step at a place with this history
  stamp_there : (h : List Entry) → e.stamp ≡ max (last_of r.events.items) (last_stamp_of h) + 1 → history_there now (place_of e.ask) ≡ h → e.stamp ≡ max (last_of (list_at now.events (suc k))) (last_stamp_of (history_there now (place_of e.ask))) + 1
  stamp_there h s t =
      s ∙ ap (λ es. max (last_of es) (last_stamp_of h) + 1) (sym events_here)
      ∙ ap (λ xs. max (last_of (list_at now.events (suc k))) (last_stamp_of xs) + 1) (sym t)

  -- a step that the image makes by itself
  module _ (place : place_of e.ask ≡ places.Own) (memories_now : p'.memories.items ≡ p.memories.items) (board_now : p'.board ≡ p.board)
      (asked : AsksNext (move_of walks r) e.ask) (line : IsAtLine (move_of walks r) e.line) (reply : e.reply ≡ replies.Done) (stamp : e.stamp ≡ last_of r.events.items + 1)
      (goes_on : Continues walks.step (move_of walks r) e.reply (walks.config r'.machine)) (events : r'.events.items ≡ r.events.items ++ e ∷ []) where
    pub own_steps : Steps R now (suc k) e then
    own_steps = record {
      from = walks.config r.machine;
      to = walks.config r'.machine;
      stands = stands_here;
      due = record {
        asked = asked;
        line = line;
        ready = subst (λ q. IsTrue (ready_there R now (suc k) e.ask q)) (sym place) refl;
        reply = reply ∙ ap (reply_there R now (suc k) e.ask) (sym place);
        stamp = stamp_there [] (stamp ∙ (omega arith)) (ap (history_there now) place);
      };
      goes_on = goes_on;
      rests = rests;
      configs = configs_now;
      events = events_now events;
      memories = ap (map memory.made) memories_now;
      histories = ap (map memory.history) memories_now ∙ ap (λ q. histories_with q now.histories (entry (suc k) e)) (sym place);
      board = ap control.made board_now;
      board_history = ap control.history board_now ∙ ap (λ q. board_with q now.board_history (entry (suc k) e)) (sym place);
    }

  -- a step at the board
  module _ (place : place_of e.ask ≡ places.Board) (memories_now : p'.memories.items ≡ p.memories.items)
      (s : StepsAt walks control r r' p.board p'.board e) where
    pub board_steps : Steps R now (suc k) e then
    board_steps = record {
      from = walks.config r.machine;
      to = walks.config r'.machine;
      stands = stands_here;
      due = record {
        asked = s.asked;
        line = s.line;
        ready = subst (λ q. IsTrue (ready_there R now (suc k) e.ask q)) (sym place) (subst (λ i. IsTrue (control.ready_after (control.made p.board) (control.history p.board) i e.ask)) number s.ready);
        reply = s.reply ∙ ap (λ i. control.reply_after (control.made p.board) (control.history p.board) i e.ask) number ∙ ap (reply_there R now (suc k) e.ask) (sym place);
        stamp = stamp_there (control.history p.board) s.stamp (ap (history_there now) place);
      };
      goes_on = s.goes_on;
      rests = rests;
      configs = configs_now;
      events = events_now s.events;
      memories = ap (map memory.made) memories_now;
      histories = ap (map memory.history) memories_now ∙ ap (λ q. histories_with q now.histories (entry (suc k) e)) (sym place);
      board = s.made_same;
      board_history = s.history_more ∙ ap (λ i. control.history p.board ++ entry i e ∷ []) number ∙ ap (λ q. board_with q now.board_history (entry (suc k) e)) (sym place);
    }

  -- a step at a memory
  module _ (owner : ImageNo) (j : ℕ) (owner_is : owner.0 ≡ suc j) (place : place_of e.ask ≡ places.Memory owner) (o o' : O)
      (memory_in : j < length p.memories.items) (memory_is : o ≡ slice_index_or p.memories.items j o) (memories_now : p'.memories.items ≡ slice_set p.memories.items j o') (board_now : p'.board ≡ p.board)
      (s : StepsAt walks memory r r' o o' e) where
    history_here : slice_index_or (map memory.history p.memories.items) j [] ≡ memory.history o
    history_here = map_index memory.history p.memories.items j o [] memory_in memory_is

    made_here : slice_get (map memory.made p.memories.items) j ≡ Some (memory.made o)
    made_here = map_get memory.made p.memories.items j o memory_in memory_is

    -- what is said of a memory's history and of what it was made with
    view : {X : Type 0} (f : List Entry → Option memory.Made → X) → f (list_at now.histories owner.0) (item_at now.memories owner.0) ≡ f (memory.history o) (Some (memory.made o))
    view f =
        ap (λ n. f (list_at now.histories n) (item_at now.memories n)) owner_is
        ∙ ap (λ h. f h (slice_get (map memory.made p.memories.items) j)) history_here
        ∙ ap (f (memory.history o)) made_here

    histories_now : map memory.history p'.memories.items ≡ histories_with (places.Memory owner) now.histories (entry (suc k) e)
    histories_now =
        ap (map memory.history) memories_now ∙ map_set memory.history p.memories.items j o'
        ∙ ap (slice_set now.histories j) (s.history_more ∙ ap (λ i. memory.history o ++ entry i e ∷ []) number ∙ ap (λ h. h ++ entry (suc k) e ∷ []) (sym history_here))
        ∙ ap (λ n. with_item now.histories n (list_at now.histories n ++ entry (suc k) e ∷ [])) (sym owner_is)

    pub memory_steps : Steps R now (suc k) e then
    memory_steps = record {
      from = walks.config r.machine;
      to = walks.config r'.machine;
      stands = stands_here;
      due = record {
        asked = s.asked;
        line = s.line;
        ready =
            subst (λ q. IsTrue (ready_there R now (suc k) e.ask q)) (sym place)
            (subst IsTrue (sym (view (λ h m. memory_ready_at R h (suc k) e.ask m)))
            (subst (λ i. IsTrue (memory.ready_after (memory.made o) (memory.history o) i e.ask)) number s.ready));
        reply =
            s.reply ∙ ap (λ i. memory.reply_after (memory.made o) (memory.history o) i e.ask) number
            ∙ sym (view (λ h m. memory_reply_at R h (suc k) e.ask m)) ∙ ap (reply_there R now (suc k) e.ask) (sym place);
        stamp = stamp_there (memory.history o) s.stamp (ap (history_there now) place ∙ view (λ h m. h));
      };
      goes_on = s.goes_on;
      rests = rests;
      configs = configs_now;
      events = events_now s.events;
      memories = ap (map memory.made) memories_now ∙ map_same memory.made p.memories.items j o o' memory_in memory_is s.made_same;
      histories = histories_now ∙ ap (λ q. histories_with q now.histories (entry (suc k) e)) (sym place);
      board = ap control.made board_now;
      board_history = ap control.history board_now ∙ ap (λ q. board_with q now.board_history (entry (suc k) e)) (sym place);
    }
