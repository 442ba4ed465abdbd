-- The step of an image whose next ask is kept, as a step of the whole run.
use Rattle.std.proofs.Common.{◌≡◌, ℕ, suc, ◌<◌, ◌≤◌, List, inl, inr, length, refl, ap, sym, ◌∙◌, subst, arith, IsTrue, true}
use Rattle.std.specs.Prelude.{map, slice_index_or, slice_set, Option, Some, None, Result, Ok, Err, OnOk, OnErr}
use Rattle.std.proofs.lemmas.Bool.{cases_eq, cases_lt}
use Rattle.caf_base.specs.declared.place.Place.{Place}
use Rattle.caf_base.specs.declared.place.Place.TheVariants as places
use Rattle.caf_base.specs.declared.place.ImageNo.{ImageNo}
use Rattle.caf_events.specs.declared.object.Object as object
use Rattle.caf_events.specs.declared.walker.Walker as walker
use Rattle.caf_events.specs.declared.ask.Ask.{Ask}
use Rattle.caf_events.specs.declared.reply.Reply.{Reply}
use Rattle.caf_events.specs.declared.reply.Reply.TheVariants as replies
use Rattle.caf_events.specs.declared.event.Event.{Event}
use Rattle.caf_events.specs.Asks.{place_of}
use Rattle.caf_events.specs.Walkers.{IsAtAsk, AsksNext}
use Rattle.trace_theory.specs.Machines.{Move, Rests, goes, asks, over}
use Rattle.core_runs.specs.Moments.{can_step, item_at, rules, with_item, Steps}
use Rattle.image_core.specs.declared.run.ImageRun.{ImageRun}
use Rattle.image_core.specs.declared.parts.PartsOf.{PartsOf}
use Rattle.image_core.specs.NextAsks.{AreNextAsks, AsksNextAt, KeepsNext}
use Rattle.image_core.specs.Parts.{moment, AreSound, Spends}
use Rattle.image_core.specs.Prepared.{move_of, AsksAt, StepsAt, StepsAlone}
use Rattle.image_core.proofs.Hearing.{heard, reply_here}
use Rattle.image_core.proofs.Looking.{can_asks}
use Rattle.image_core.proofs.PartSteps.{spends_made}
use Rattle.image_core.proofs.Readiness.{asks_at, board_can, can_is, memory_can, ready_is, same_moment, stranger}
use Rattle.run_outlook.proofs.Slices.{map_get, map_length, map_same}
use Rattle.image_core.proofs.WholeSteps.{own_steps, board_steps, memory_steps}

at_place : {C : Type 0} (q : Place) (move : Move C Ask Reply) → IsAtAsk move → ((a : Ask) → AsksNext move a → place_of a ≡ q) → AsksAt q move
at_place q (goes c) at there = absurd at
at_place q (asks a l k) at there = there a refl
at_place q over at there = absurd at

module _ {M O B : Type 0} (walks : walker.Ghosts M) (memory : object.Ghosts O) (control : object.Ghosts B)
    (p : PartsOf M O B) (k : ℕ) (r : ImageRun M) (image_in : k < length p.images.items) (run_is : r ≡ slice_index_or p.images.items k r) where
  stands : item_at (moment walks memory control p).configs (suc k) ≡ Some (walks.config r.machine)
  stands = map_get (λ (x : ImageRun M). walks.config x.machine) p.images.items k r image_in run_is

  place_here : (q : Place) → AsksNextAt (rules walks memory control) (moment walks memory control p) (suc k) q → (a : Ask) → AsksNext (move_of walks r) a → place_of a ≡ q
  place_here q place a asked = place (walks.config r.machine) stands a asked

  -- the image's next ask is kept
  pub keeps_here : r.image.0 ≡ suc k → (kept : List (Option Ask)) → AreNextAsks (rules walks memory control) (moment walks memory control p) kept → (item_at kept (suc k) ≡ Some None → ⊥)
      → KeepsNext (move_of walks r) r.image.0 kept
  keeps_here number kept asked some =
      let many = map_length (λ (x : ImageRun M). walks.config x.machine) p.images.items in
      let count = asked.count in
      subst (λ i. KeepsNext (move_of walks r) i kept) (sym number) (record {
        low = omega arith;
        high = omega arith;
        there = some;
        asked = λ a at. asked.each (suc k) a at (walks.config r.machine) stands;
      })

  -- what the image makes by itself is done
  pub own_hears : AreSound walks memory control p → AsksNextAt (rules walks memory control) (moment walks memory control p) (suc k) places.Own → (ask : Ask) → AsksNext (move_of walks r) ask
      → walks.hears (walks.config r.machine) replies.Done
  own_hears sound place ask asked = heard walks memory control p k r image_in run_is sound ask places.Own asked (place_here places.Own place ask asked) refl

  -- where the image can step
  module _ (can : can_step (rules walks memory control) (moment walks memory control p) (suc k) ≡ true) where
    -- the run has the memory at which it asks
    pub owner_within : (owner : ImageNo) → AsksNextAt (rules walks memory control) (moment walks memory control p) (suc k) (places.Memory owner) → (0 < owner.0) × (owner.0 ≤ length p.memories.items)
    owner_within owner place = (
      elim (cases_eq owner.0 0) [ inl e ↦ absurd (let none = stranger walks memory control p k r image_in run_is owner (inl e) there in cc) | inr n ↦ omega (arith, n) ],
      elim (cases_lt (length p.memories.items) owner.0) [ inl l ↦ absurd (let none = stranger walks memory control p k r image_in run_is owner (inr l) there in cc) | inr g ↦ omega arith ],
    )
      where
        there : AsksAt (places.Memory owner) (move_of walks r)
        there = at_place (places.Memory owner) (move_of walks r) (can_asks (rules walks memory control) (moment walks memory control p) (suc k) (move_of walks r) (sym (can_is walks memory control p k r image_in run_is) ∙ can)) (place_here (places.Memory owner) place)

    module _ (sound : AreSound walks memory control p) where
      number : r.image.0 ≡ suc k
      number = sound.numbered k r image_in run_is

      module _ (place : AsksNextAt (rules walks memory control) (moment walks memory control p) (suc k) places.Board) (ask : Ask) (asked : AsksNext (move_of walks r) ask) where
        at_board : AsksAt places.Board (move_of walks r)
        at_board = asks_at places.Board (move_of walks r) ask asked (place_here places.Board place ask asked)

        pub board_ready : IsTrue (control.ready_after (control.made p.board) (control.history p.board) r.image.0 ask)
        board_ready = board_can walks memory control p k r image_in run_is ask r.image.0 at_board asked number ∙ can

        pub board_hears : walks.hears (walks.config r.machine) (control.reply_after (control.made p.board) (control.history p.board) r.image.0 ask)
        board_hears =
            subst (λ i. walks.hears (walks.config r.machine) (control.reply_after (control.made p.board) (control.history p.board) i ask)) (sym number)
            (heard walks memory control p k r image_in run_is sound ask places.Board asked (place_here places.Board place ask asked) (sym (ready_is walks memory control p k r image_in run_is places.Board ask at_board asked) ∙ can))

      module _ (owner : ImageNo) (j : ℕ) (o : O) (owner_is : owner.0 ≡ suc j) (memory_in : j < length p.memories.items) (memory_is : o ≡ slice_index_or p.memories.items j o)
          (place : AsksNextAt (rules walks memory control) (moment walks memory control p) (suc k) (places.Memory owner)) (ask : Ask) (asked : AsksNext (move_of walks r) ask) where
        at_memory : AsksAt (places.Memory owner) (move_of walks r)
        at_memory = asks_at (places.Memory owner) (move_of walks r) ask asked (place_here (places.Memory owner) place ask asked)

        pub memory_ready : IsTrue (memory.ready_after (memory.made o) (memory.history o) r.image.0 ask)
        memory_ready = memory_can walks memory control p k r image_in run_is owner j o ask r.image.0 owner_is memory_in memory_is at_memory asked number ∙ can

        pub memory_hears : walks.hears (walks.config r.machine) (memory.reply_after (memory.made o) (memory.history o) r.image.0 ask)
        memory_hears =
            subst (λ i. walks.hears (walks.config r.machine) (memory.reply_after (memory.made o) (memory.history o) i ask)) (sym number)
            (subst (walks.hears (walks.config r.machine)) (sym (reply_here walks memory control p k r image_in run_is sound owner j o owner_is memory_in memory_is ask))
            (heard walks memory control p k r image_in run_is sound ask (places.Memory owner) asked (place_here (places.Memory owner) place ask asked) (sym (ready_is walks memory control p k r image_in run_is (places.Memory owner) ask at_memory asked) ∙ can)))

  -- what comes of the step, which is made unless memory is wanting
  module _ {A E : Type 0} (p' : PartsOf M O B) (r' : ImageRun M) (images_now : p'.images.items ≡ slice_set p.images.items k r') where
    pub spends_now : (v : Result A E) → OnOk v (walks.asks_left (walks.config r'.machine) < walks.asks_left (walks.config r.machine))
        → OnOk v (Spends walks.asks_left (moment walks memory control p) (suc k) (moment walks memory control p'))
    spends_now (Ok u) less = spends_made walks memory control p k r image_in run_is p' r' images_now walks.asks_left less
    spends_now (Err x) less = tt

    module _ (number : r.image.0 ≡ suc k) where
      pub own_now : (v : Result A E) → AsksNextAt (rules walks memory control) (moment walks memory control p) (suc k) places.Own → p'.memories.items ≡ p.memories.items → p'.board ≡ p.board
          → OnOk v ((e : Event) × StepsAlone walks r r' e) → OnOk v (Rests (move_of walks r'))
          → OnOk v ((e : Event) × Steps (rules walks memory control) (moment walks memory control p) (suc k) e (moment walks memory control p'))
      own_now (Ok u) place memories_now board_now (e, s) rests =
          (e, own_steps walks memory control p p' k r r' e image_in run_is number images_now rests (place_here places.Own place e.ask s.asked) memories_now board_now s.asked s.line s.reply s.stamp s.goes_on s.events)
      own_now (Err x) place memories_now board_now step rests = tt

      pub board_now : (v : Result A E) → AsksNextAt (rules walks memory control) (moment walks memory control p) (suc k) places.Board → p'.memories.items ≡ p.memories.items
          → OnOk v ((e : Event) × StepsAt walks control r r' p.board p'.board e) → OnOk v (Rests (move_of walks r'))
          → OnOk v ((e : Event) × Steps (rules walks memory control) (moment walks memory control p) (suc k) e (moment walks memory control p'))
      board_now (Ok u) place memories_now (e, s) rests =
          (e, board_steps walks memory control p p' k r r' e image_in run_is number images_now rests (place_here places.Board place e.ask s.asked) memories_now s)
      board_now (Err x) place memories_now step rests = tt

      pub memory_now : (v : Result A E) (owner : ImageNo) (j : ℕ) (o o' : O) → owner.0 ≡ suc j → AsksNextAt (rules walks memory control) (moment walks memory control p) (suc k) (places.Memory owner) → j < length p.memories.items → o ≡ slice_index_or p.memories.items j o
          → p'.memories.items ≡ slice_set p.memories.items j o' → p'.board ≡ p.board
          → OnOk v ((e : Event) × StepsAt walks memory r r' o o' e) → OnOk v (Rests (move_of walks r'))
          → OnOk v ((e : Event) × Steps (rules walks memory control) (moment walks memory control p) (suc k) e (moment walks memory control p'))
      memory_now (Ok u) owner j o o' owner_is place memory_in memory_is memories_now board_same (e, s) rests =
          (e, memory_steps walks memory control p p' k r r' e image_in run_is number images_now rests owner j owner_is (place_here (places.Memory owner) place e.ask s.asked) o o' memory_in memory_is memories_now board_same s)
      memory_now (Err x) owner j o o' owner_is place memory_in memory_is memories_now board_same step rests = tt

-- the image's ask isn't kept any more
pub taken_at : {A E : Type 0} (v : Result A E) (i j : ℕ) → i ≡ j → (kept after : List (Option Ask)) → OnOk v (after ≡ with_item kept i None) → OnOk v (after ≡ with_item kept j None)
taken_at v i j same kept after taken = subst (λ n. OnOk v (after ≡ with_item kept n None)) same taken

module _ {M O B A E : Type 0} (walks : walker.Ghosts M) (memory : object.Ghosts O) (control : object.Ghosts B)
    (p p' : PartsOf M O B) (k : ℕ) (r r' : ImageRun M) (image_in : k < length p.images.items) (run_is : r ≡ slice_index_or p.images.items k r) (images_now : p'.images.items ≡ slice_set p.images.items k r') where
  -- after want of memory all is as it was
  pub own_not : (v : Result A E) → p'.memories.items ≡ p.memories.items → p'.board ≡ p.board
      → OnErr v ((walks.config r'.machine ≡ walks.config r.machine) × (r'.events.items ≡ r.events.items)) → OnErr v (moment walks memory control p' ≡ moment walks memory control p)
  own_not (Ok u) memories_now board_now run = tt
  own_not (Err x) memories_now board_now run =
      same_moment walks memory control p k r image_in run_is p' r' images_now run.0 run.1 (ap (λ xs. map memory.made xs) memories_now) (ap (λ xs. map memory.history xs) memories_now) (ap control.made board_now) (ap control.history board_now)

  pub board_not : (v : Result A E) → p'.memories.items ≡ p.memories.items
      → OnErr v ((walks.config r'.machine ≡ walks.config r.machine) × (r'.events.items ≡ r.events.items)) → OnErr v ((control.made p'.board ≡ control.made p.board) × (control.history p'.board ≡ control.history p.board))
      → OnErr v (moment walks memory control p' ≡ moment walks memory control p)
  board_not (Ok u) memories_now run board = tt
  board_not (Err x) memories_now run board =
      same_moment walks memory control p k r image_in run_is p' r' images_now run.0 run.1 (ap (λ xs. map memory.made xs) memories_now) (ap (λ xs. map memory.history xs) memories_now) board.0 board.1

  pub memory_not : (v : Result A E) (j : ℕ) (o o' : O) → j < length p.memories.items → o ≡ slice_index_or p.memories.items j o → p'.memories.items ≡ slice_set p.memories.items j o' → p'.board ≡ p.board
      → OnErr v ((walks.config r'.machine ≡ walks.config r.machine) × (r'.events.items ≡ r.events.items)) → OnErr v ((memory.made o' ≡ memory.made o) × (memory.history o' ≡ memory.history o))
      → OnErr v (moment walks memory control p' ≡ moment walks memory control p)
  memory_not (Ok u) j o o' memory_in memory_is memories_now board_now run here = tt
  memory_not (Err x) j o o' memory_in memory_is memories_now board_now run here =
      same_moment walks memory control p k r image_in run_is p' r' images_now run.0 run.1
      (ap (λ xs. map memory.made xs) memories_now ∙ map_same memory.made p.memories.items j o o' memory_in memory_is here.0)
      (ap (λ xs. map memory.history xs) memories_now ∙ map_same memory.history p.memories.items j o o' memory_in memory_is here.1)
      (ap control.made board_now) (ap control.history board_now)
