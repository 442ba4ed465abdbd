-- What `prepare` answers, and that it changes nothing that a run means.
use Rattle.std.proofs.Common.{◌≡◌, ℕ, zero, suc, ◌<◌, ◌≤◌, List, [], ◌∷◌, ◌⊎◌, inl, inr, length, refl, ap, sym, ◌∙◌, subst, arith, true, false}
use Rattle.std.specs.Prelude.{map, slice_index_or, slice_get, slice_set, Some, None, Result, Ok, Err, IfOk, vec_len, vec_capacity}
use Rattle.caf_base.specs.declared.place.Place.{Place}
use Rattle.caf_base.specs.declared.place.Place.TheVariants as places
use Rattle.caf_base.specs.declared.place.ImageNo.{ImageNo}
use Rattle.caf_events.specs.declared.object.Object as object
use Rattle.caf_events.specs.declared.walker.Walker as walker
use Rattle.caf_events.specs.declared.ask.Ask.{Ask}
use Rattle.caf_events.specs.declared.reply.Reply.{Reply}
use Rattle.caf_events.specs.declared.event.Event.{Event}
use Rattle.caf_events.specs.declared.event.Entry.{Entry}
use Rattle.caf_events.specs.declared.walker.Next.TheVariants as nexts
use Rattle.caf_events.specs.Asks.{place_of}
use Rattle.caf_events.specs.Walkers.{AsksNext, IsOver, NextIs}
use Rattle.trace_theory.specs.Machines.{Move, asks, goes, over}
use Rattle.std.specs.declared.vec.Vec.{Vec}
use Rattle.std.specs.declared.alloc.Global.{Global}
use Rattle.image_core.specs.declared.run.ImageRun.{ImageRun}
use Rattle.image_core.specs.declared.parts.PartsOf.{PartsOf}
use Rattle.image_core.specs.declared.prepared.Prepared.{Prepared}
use Rattle.image_core.specs.declared.prepared.Prepared.TheVariants as prepareds
use Rattle.core_runs.specs.Lists.{list_at}
use Rattle.core_runs.specs.Moments.{Rules, Moment, item_at, ready_there, memory_ready_at, can_move, can_move_from, can_step, HasEnded, HasEndedFrom}
use Rattle.image_core.specs.Prepared.{move_of, HasRoom, AsksAt, IsServedNext}
use Rattle.core_runs.specs.Moments.{rules}
use Rattle.image_core.specs.Parts.{moment, event_lists, IsPreparedRun, IsSetAside, IsServedThere}
use Rattle.run_outlook.proofs.Slices.{map_index, map_get, map_length, map_same, index_set}

abbrev build : {C M B : Type 0} → List C → List (List Event) → List M → List (List Entry) → B → List Entry → Moment C M B
build cs es ms hs b h = record { configs = cs; events = es; memories = ms; histories = hs; board = b; board_history = h }

build_same : {C M B : Type 0} (cs cs' : List C) (es es' : List (List Event)) (ms ms' : List M) (hs hs' : List (List Entry)) (b b' : B) (h h' : List Entry) → cs ≡ cs' → es ≡ es' → ms ≡ ms' → hs ≡ hs' → b ≡ b' → h ≡ h' → build cs es ms hs b h ≡ build cs' es' ms' hs' b' h'
build_same cs cs' es es' ms ms' hs hs' b b' h h' p q r s t u =
    ap (λ x. build x es ms hs b h) p ∙ ap (λ x. build cs' x ms hs b h) q ∙ ap (λ x. build cs' es' x hs b h) r
    ∙ ap (λ x. build cs' es' ms' x b h) s ∙ ap (λ x. build cs' es' ms' hs' x h) t ∙ ap (build cs' es' ms' hs' b') u

get_past : {A : Type 0} (xs : List A) (k : ℕ) → length xs ≤ k → slice_get xs k ≡ None
get_past [] k h = refl
get_past (x ∷ xs) zero h = absurd (omega arith)
get_past (x ∷ xs) (suc k) h = get_past xs k (omega arith)

-- the ask that a move makes is at the move's place
pub asked_at : {C : Type 0} (q : Place) (m : Move C Ask Reply) (a : Ask) → AsksAt q m → AsksNext m a → place_of a ≡ q
asked_at q (goes c) a h k = absurd h
asked_at q (asks x l n) a h k = ap place_of k ∙ h
asked_at q over a h k = absurd h

pub asks_at : {C : Type 0} (q : Place) (m : Move C Ask Reply) (a : Ask) → AsksNext m a → place_of a ≡ q → AsksAt q m
asks_at q (goes c) a k h = absurd k
asks_at q (asks x l n) a k h = ap place_of (sym k) ∙ h
asks_at q over a k h = absurd k

-- what a machine tells of its next move
pub at_place : {C : Type 0} (m : Move C Ask Reply) (q : Place) → NextIs m (nexts.Ask q) → AsksAt q m
at_place (goes c) q h = absurd h
at_place (asks a l k) q h = (let e : q ≡ place_of a = cc in sym e)
at_place over q h = absurd (cc)

pub over_now : {C : Type 0} (m : Move C Ask Reply) → NextIs m nexts.Ended → IsOver m
over_now (goes c) h = absurd h
over_now (asks a l k) h = absurd (cc)
over_now over h = tt

over_asks : {C : Type 0} (m : Move C Ask Reply) (a : Ask) → IsOver m → AsksNext m a → ⊥
over_asks (goes c) a h k = h
over_asks (asks x l n) a h k = h
over_asks over a h k = k

not_over : {C : Type 0} (q : Place) (m : Move C Ask Reply) → AsksAt q m → IsOver m → ⊥
not_over q (goes c) a h = a
not_over q (asks x l k) a h = h
not_over q over a h = a

can_asked : {C M B : Type 0} (r : Rules C M B) (m : Moment C M B) (i : ℕ) (mv : Move C Ask Reply) (a : Ask) → AsksNext mv a → can_move r m i mv ≡ ready_there r m i a (place_of a)
can_asked r m i (goes c) a h = absurd h
can_asked r m i (asks x l k) a h = ap (λ y. ready_there r m i y (place_of y)) (sym h)
can_asked r m i over a h = absurd h

-- whether a memory of the parts is ready
module _ {M O B : Type 0} (walks : walker.Ghosts M) (memory : object.Ghosts O) (control : object.Ghosts B) (p : PartsOf M O B) (i : ℕ) (a : Ask) (owner : ImageNo) where
  pub memory_there : (j : ℕ) (o : O) → owner.0 ≡ suc j → j < length p.memories.items → o ≡ slice_index_or p.memories.items j o
      → memory.ready_after (memory.made o) (memory.history o) i a ≡ ready_there (rules walks memory control) (moment walks memory control p) i a (places.Memory owner)
  memory_there j o w l q =
      sym (ap (λ m. memory_ready_at (rules walks memory control) (list_at (moment walks memory control p).histories m) i a (item_at (moment walks memory control p).memories m)) w
      ∙ ap (λ v. memory_ready_at (rules walks memory control) (list_at (moment walks memory control p).histories (suc j)) i a v) (map_get memory.made p.memories.items j o l q)
      ∙ ap (λ v. memory_ready_at (rules walks memory control) v i a (Some (memory.made o))) (map_index memory.history p.memories.items j o [] l q))

  no_item : (n : ℕ) → (n ≡ 0) ⊎ (length p.memories.items < n) → item_at (moment walks memory control p).memories n ≡ None
  no_item zero h = refl
  no_item (suc j) (inl h) = absurd (omega arith)
  no_item (suc j) (inr h) = get_past (moment walks memory control p).memories j (let l = map_length memory.made p.memories.items in omega arith)

  pub no_memory_there : (owner.0 ≡ 0) ⊎ (length p.memories.items < owner.0) → false ≡ ready_there (rules walks memory control) (moment walks memory control p) i a (places.Memory owner)
  no_memory_there h = sym (ap (memory_ready_at (rules walks memory control) (list_at (moment walks memory control p).histories owner.0) i a) (no_item owner.0 h))

module _ {M O B : Type 0} (walks : walker.Ghosts M) (memory : object.Ghosts O) (control : object.Ghosts B)
    (p : PartsOf M O B) (k : ℕ) (r : ImageRun M) (image_in : k < length p.images.items) (run_is : r ≡ slice_index_or p.images.items k r) where
  abbrev pub R : Rules walks.Config memory.Made control.Made
  R = rules walks memory control

  abbrev pub now : Moment walks.Config memory.Made control.Made
  now = moment walks memory control p

  -- an image is written again as it was, and so are the objects
  pub same_moment : (p' : PartsOf M O B) (r' : ImageRun M) → p'.images.items ≡ slice_set p.images.items k r' → walks.config r'.machine ≡ walks.config r.machine → r'.events.items ≡ r.events.items
      → map memory.made p'.memories.items ≡ map memory.made p.memories.items → map memory.history p'.memories.items ≡ map memory.history p.memories.items → control.made p'.board ≡ control.made p.board → control.history p'.board ≡ control.history p.board
      → moment walks memory control p' ≡ now
  same_moment p' r' s c e m h b t =
      build_same _ _ _ _ _ _ _ _ _ _ _ _
      (ap (map (λ (x : ImageRun M). walks.config x.machine)) s ∙ map_same (λ (x : ImageRun M). walks.config x.machine) p.images.items k r r' image_in run_is c)
      (ap event_lists s ∙ map_same (λ (x : ImageRun M). x.events.items) p.images.items k r r' image_in run_is e)
      m h b t

  pub can_is : can_step R now (suc k) ≡ can_move R now (suc k) (move_of walks r)
  can_is = ap (can_move_from R now (suc k)) (map_get (λ (x : ImageRun M). walks.config x.machine) p.images.items k r image_in run_is)

  ended_is : HasEnded R now (suc k) ≡ IsOver (move_of walks r)
  ended_is = ap (HasEndedFrom R) (map_get (λ (x : ImageRun M). walks.config x.machine) p.images.items k r image_in run_is)

  pub ended : IsOver (move_of walks r) → HasEnded R now (suc k)
  ended h = subst (λ (X : Type 0). X) (sym ended_is) h

  pub not_ended : (q : Place) → AsksAt q (move_of walks r) → HasEnded R now (suc k) → ⊥
  not_ended q a h = not_over q (move_of walks r) a (subst (λ (X : Type 0). X) ended_is h)

  pub ready_is : (q : Place) (a : Ask) → AsksAt q (move_of walks r) → AsksNext (move_of walks r) a → can_step R now (suc k) ≡ ready_there R now (suc k) a q
  ready_is q a h n = can_is ∙ can_asked R now (suc k) (move_of walks r) a n ∙ ap (ready_there R now (suc k) a) (asked_at q (move_of walks r) a h n)

  pub stands_at : (c : walks.Config) → item_at now.configs (suc k) ≡ Some c → c ≡ walks.config r.machine
  stands_at c at = let there = map_get (λ (x : ImageRun M). walks.config x.machine) p.images.items k r image_in run_is in cc

  -- where the image asks next
  pub next_at : (q : Place) → AsksAt q (move_of walks r) → (c : walks.Config) → item_at now.configs (suc k) ≡ Some c → (a : Ask) → AsksNext (walks.step c) a → place_of a ≡ q
  next_at q h c at a asked = asked_at q (move_of walks r) a h (subst (λ d. AsksNext (walks.step d) a) (stands_at c at) asked)

  -- an image that has ended asks nothing
  pub never_asks : IsOver (move_of walks r) → (c : walks.Config) → item_at now.configs (suc k) ≡ Some c → (a : Ask) → AsksNext (walks.step c) a → ⊥
  never_asks h c at a asked = over_asks (move_of walks r) a h (subst (λ d. AsksNext (walks.step d) a) (stands_at c at) asked)

  pub own_can : (a : Ask) → AsksAt places.Own (move_of walks r) → AsksNext (move_of walks r) a → true ≡ can_step R now (suc k)
  own_can a h n = sym (ready_is places.Own a h n)

  pub board_can : (a : Ask) (i : ℕ) → AsksAt places.Board (move_of walks r) → AsksNext (move_of walks r) a → i ≡ suc k → control.ready_after (control.made p.board) (control.history p.board) i a ≡ can_step R now (suc k)
  board_can a i h n e = ap (λ m. control.ready_after (control.made p.board) (control.history p.board) m a) e ∙ sym (ready_is places.Board a h n)

  pub memory_can : (owner : ImageNo) (j : ℕ) (o : O) (a : Ask) (i : ℕ) → owner.0 ≡ suc j → j < length p.memories.items → o ≡ slice_index_or p.memories.items j o → AsksAt (places.Memory owner) (move_of walks r) → AsksNext (move_of walks r) a → i ≡ suc k → memory.ready_after (memory.made o) (memory.history o) i a ≡ can_step R now (suc k)
  memory_can owner j o a i w l q h n e =
      ap (λ m. memory.ready_after (memory.made o) (memory.history o) m a) e
      ∙ memory_there walks memory control p (suc k) a owner j o w l q
      ∙ sym (ready_is (places.Memory owner) a h n)

  no_move : (owner : ImageNo) (mv : Move walks.Config Ask Reply) → (owner.0 ≡ 0) ⊎ (length p.memories.items < owner.0) → AsksAt (places.Memory owner) mv → can_move R now (suc k) mv ≡ false
  no_move owner (goes c) d h = refl
  no_move owner (asks a l n) d h = ap (ready_there R now (suc k) a) h ∙ sym (no_memory_there walks memory control p (suc k) a owner d)
  no_move owner over d h = refl

  -- at a memory that the run hasn't no step can be made
  pub stranger : (owner : ImageNo) → (owner.0 ≡ 0) ⊎ (length p.memories.items < owner.0) → AsksAt (places.Memory owner) (move_of walks r) → false ≡ can_step R now (suc k)
  stranger owner d h = sym (can_is ∙ no_move owner (move_of walks r) d h)

  served_aside : (p' : PartsOf M O B) (mv : Move walks.Config Ask Reply) (i : ℕ) → AsksAt places.Board mv → (pr : Prepared) → IsServedNext control mv i p'.board pr
      → IsSetAside walks memory control p' i mv pr
  served_aside p' mv i h prepareds.Nothing s = absurd s
  served_aside p' mv i h (prepareds.Own told) s = absurd s
  served_aside p' mv i h (prepareds.Served ask told) s =
      (s.0, subst (IsServedThere walks memory control p' i ask told) (sym (asked_at places.Board mv ask h s.0)) s.1)

  -- the board set the step aside
  pub board_aside : (p' : PartsOf M O B) (r1 r' : ImageRun M) → p'.images.items ≡ slice_set p.images.items k r' → r1.image.0 ≡ suc k → walks.config r1.machine ≡ walks.config r.machine → r'.machine ≡ r1.machine
      → HasRoom walks r1 → r'.events ≡ r1.events → AsksAt places.Board (move_of walks r)
      → IsServedNext control (move_of walks r1) r1.image.0 p'.board r'.prepared
      → (x : ImageRun M) → x ≡ slice_index_or p'.images.items k x → IsPreparedRun walks memory control p' k x
  board_aside p' r1 r' s e c1 c room es h v x q =
      let w : x ≡ r' = index_set p.images.items k r' x image_in (subst (λ xs. x ≡ slice_index_or xs k x) s q) in
      let n = subst (λ i. IsServedNext control (move_of walks r1) i p'.board r'.prepared) e v in
      let h1 = subst (λ d. AsksAt places.Board (walks.step d)) (sym c1) h in
      subst (IsPreparedRun walks memory control p' k) (sym w) (record {
        room = record {
          events = subst (λ (t : Vec Event Global). vec_len t < vec_capacity t) (sym es) room.events;
          machine = subst walks.has_room (sym c) room.machine;
        };
        next = subst (λ d. IsSetAside walks memory control p' (suc k) (walks.step (walks.config d)) r'.prepared) (sym c) (served_aside p' (move_of walks r1) (suc k) h1 r'.prepared n);
      })

-- a fact of an Ok that follows from another
pub if_ok_map : {A E : Type 0} (v : Result A E) (P Q : A → Type 0) → ((a : A) → P a → Q a) → IfOk v P → IfOk v Q
if_ok_map (Ok a) P Q f h = f a h
if_ok_map (Err e) P Q f h = h

pub an_item : {A : Type 0} (xs : List A) (k : ℕ) → k < length xs → (x : A) × (x ≡ slice_index_or xs k x)
an_item [] k h = absurd (omega arith)
an_item (x ∷ xs) zero h = (x, refl)
an_item (x ∷ xs) (suc k) h = an_item xs k (omega arith)
