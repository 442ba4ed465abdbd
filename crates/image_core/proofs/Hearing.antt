-- An image can go on with the reply to the step that is set aside.
use Rattle.std.proofs.Common.{◌≡◌, ℕ, suc, ◌<◌, ◌-◌, [], length, refl, ap, sym, ◌∙◌, subst, IsTrue}
use Rattle.std.specs.Prelude.{slice_index_or, Some}
use Rattle.caf_base.specs.declared.place.Place.{Place}
use Rattle.caf_base.specs.declared.place.Place.TheVariants as places
use Rattle.caf_base.specs.declared.place.ImageNo.{ImageNo}
use Rattle.caf_events.specs.declared.object.Object as object
use Rattle.caf_events.specs.declared.walker.Walker as walker
use Rattle.caf_events.specs.declared.ask.Ask.{Ask}
use Rattle.caf_events.specs.declared.reply.Reply.{Reply}
use Rattle.caf_events.specs.declared.reply.Reply.TheVariants as replies
use Rattle.caf_events.specs.Asks.{place_of}
use Rattle.caf_events.specs.Walkers.{AsksNext}
use Rattle.caf_events.proofs.Walking.{same_ask}
use Rattle.trace_theory.specs.Machines.{Move}
use Rattle.core_runs.specs.Lists.{list_at}
use Rattle.core_runs.specs.Moments.{item_at, ready_there, reply_there, memory_reply_at, rules}
use Rattle.core_runs.proofs.Answered.{heard_there}
use Rattle.image_core.specs.declared.run.ImageRun.{ImageRun}
use Rattle.image_core.specs.declared.parts.PartsOf.{PartsOf}
use Rattle.image_core.specs.declared.prepared.Prepared.{Prepared}
use Rattle.image_core.specs.declared.prepared.Prepared.TheVariants as prepareds
use Rattle.image_core.specs.Prepared.{move_of, IsServedNext, IsOwnNext, place_aside}
use Rattle.image_core.specs.Parts.{moment, AreSound, IsPreparedRun}
use Rattle.run_outlook.proofs.Slices.{map_index, map_get}
use Rattle.image_core.proofs.Readiness.{memory_there}
use Rattle.image_core.proofs.WholeSteps.{aside_place, aside_own, aside_board, aside_memory}

-- the object that set the step aside is ready for the next ask
served_ready : {O C : Type 0} (object : object.Ghosts O) (move : Move C Ask Reply) (i : ℕ) (o : O) (pr : Prepared) → IsServedNext object move i o pr → (a : Ask) → AsksNext move a → IsTrue (object.ready_after (object.made o) (object.history o) i a)
served_ready object move i o prepareds.Nothing h a asked = absurd h
served_ready object move i o (prepareds.Own told) h a asked = absurd h
served_ready object move i o (prepareds.Served ask told) h a asked =
    subst (λ x. IsTrue (object.ready_after (object.made o) (object.history o) i x)) (same_ask move ask a h.0 asked) h.1.ready

module _ {M O B : Type 0} (walks : walker.Ghosts M) (memory : object.Ghosts O) (control : object.Ghosts B)
    (p : PartsOf M O B) (k : ℕ) (r : ImageRun M) (image_in : k < length p.images.items) (run_is : r ≡ slice_index_or p.images.items k r)
    (sound : AreSound walks memory control p) where
  pub heard : (a : Ask) (q : Place) → AsksNext (move_of walks r) a → place_of a ≡ q → IsTrue (ready_there (rules walks memory control) (moment walks memory control p) (suc k) a q)
      → walks.hears (walks.config r.machine) (reply_there (rules walks memory control) (moment walks memory control p) (suc k) a q)
  heard a q asked place ready =
      heard_there (rules walks memory control) sound.kept.0 (moment walks memory control p) sound.kept.1 (suc k) a (walks.config r.machine)
      (map_get (λ (x : ImageRun M). walks.config x.machine) p.images.items k r image_in run_is) asked q place ready

  -- a step at a memory
  module _ (owner : ImageNo) (j : ℕ) (o : O) (owner_is : owner.0 ≡ suc j) (memory_in : j < length p.memories.items) (memory_is : o ≡ slice_index_or p.memories.items j o) where
    pub reply_here : (a : Ask) → memory.reply_after (memory.made o) (memory.history o) (suc k) a ≡ reply_there (rules walks memory control) (moment walks memory control p) (suc k) a (places.Memory owner)
    reply_here a =
        sym (ap (λ m. memory_reply_at (rules walks memory control) (list_at (moment walks memory control p).histories m) (suc k) a (item_at (moment walks memory control p).memories m)) owner_is
        ∙ ap (λ v. memory_reply_at (rules walks memory control) (list_at (moment walks memory control p).histories (suc j)) (suc k) a v) (map_get memory.made p.memories.items j o memory_in memory_is)
        ∙ ap (λ v. memory_reply_at (rules walks memory control) v (suc k) a (Some (memory.made o))) (map_index memory.history p.memories.items j o [] memory_in memory_is))

  module _ (prepared : IsPreparedRun walks memory control p k r) where
    own_done : (pr : Prepared) → IsOwnNext (move_of walks r) pr → walks.hears (walks.config r.machine) replies.Done
    own_done prepareds.Nothing h = absurd h
    own_done (prepareds.Own told) h = heard told.ask places.Own h.0 h.1 refl
    own_done (prepareds.Served ask told) h = absurd h

    -- a step that the image makes by itself
    pub own_heard : place_aside r.prepared ≡ places.Own → walks.hears (walks.config r.machine) replies.Done
    own_heard place = own_done r.prepared (aside_own walks memory control p (suc k) (move_of walks r) r.prepared prepared.next place)

    -- the next ask is at the place of what is set aside
    next_place : (q : Place) → place_aside r.prepared ≡ q → (a : Ask) → AsksNext (move_of walks r) a → place_of a ≡ q
    next_place q place a asked = aside_place walks memory control p (suc k) (move_of walks r) r.prepared a prepared.next asked ∙ place

    -- a step at the board
    pub board_heard : r.image.0 ≡ suc k → place_aside r.prepared ≡ places.Board → (a : Ask) → AsksNext (move_of walks r) a
        → walks.hears (walks.config r.machine) (control.reply_after (control.made p.board) (control.history p.board) r.image.0 a)
    board_heard number place a asked =
        let served = aside_board walks memory control p (suc k) (move_of walks r) r.prepared prepared.next place in
        subst (λ i. walks.hears (walks.config r.machine) (control.reply_after (control.made p.board) (control.history p.board) i a)) (sym number)
        (heard a places.Board asked (next_place places.Board place a asked) (served_ready control (move_of walks r) (suc k) p.board r.prepared served a asked))

    -- a step at a memory
    pub memory_heard : (owner : ImageNo) (j : ℕ) (o : O) → owner.0 ≡ suc j → j < length p.memories.items → o ≡ slice_index_or p.memories.items j o
        → r.image.0 ≡ suc k → place_aside r.prepared ≡ places.Memory owner → o ≡ slice_index_or p.memories.items (owner.0 - 1) o → (a : Ask) → AsksNext (move_of walks r) a
        → walks.hears (walks.config r.machine) (memory.reply_after (memory.made o) (memory.history o) r.image.0 a)
    memory_heard owner j o owner_is memory_in memory_is number place there a asked =
        let served = aside_memory walks memory control p (suc k) (move_of walks r) r.prepared owner o prepared.next place there in
        let ready = served_ready memory (move_of walks r) (suc k) o r.prepared served a asked in
        subst (λ i. walks.hears (walks.config r.machine) (memory.reply_after (memory.made o) (memory.history o) i a)) (sym number)
        (subst (walks.hears (walks.config r.machine)) (sym (reply_here owner j o owner_is memory_in memory_is a))
        (heard a (places.Memory owner) asked (next_place (places.Memory owner) place a asked) (subst IsTrue (memory_there walks memory control p (suc k) a owner j o owner_is memory_in memory_is) ready)))
