-- What is set aside for one image stays so where another one is prepared at another object.
use Rattle.std.proofs.Common.{◌≡◌, ℕ, suc, ◌<◌, ◌≤◌, ◌-◌, length, refl, ap, sym, ◌∙◌, subst, arith, length-set}
use Rattle.std.specs.Prelude.{slice_index_or, slice_set}
use Rattle.caf_base.specs.declared.place.Place.{Place}
use Rattle.caf_base.specs.declared.place.Place.TheVariants as places
use Rattle.caf_base.specs.declared.place.ImageNo.{ImageNo}
use Rattle.caf_events.specs.declared.object.Object as object
use Rattle.caf_events.specs.declared.exchange.Exchange.{Exchange}
use Rattle.caf_events.specs.declared.walker.Walker as walker
use Rattle.caf_events.specs.declared.ask.Ask.{Ask}
use Rattle.caf_events.specs.declared.reply.Reply.{Reply}
use Rattle.caf_events.specs.Asks.{place_of}
use Rattle.caf_events.specs.Walkers.{AsksNext}
use Rattle.trace_theory.specs.Machines.{Move, asks, goes, over}
use Rattle.core_runs.proofs.Numbered.{index_other}
use Rattle.image_core.specs.declared.run.ImageRun.{ImageRun}
use Rattle.image_core.specs.declared.parts.PartsOf.{PartsOf}
use Rattle.image_core.specs.declared.prepared.Prepared.{Prepared}
use Rattle.image_core.specs.declared.prepared.Prepared.TheVariants as prepareds
use Rattle.image_core.specs.Prepared.{move_of, AsksAt, IsServed, place_aside}
use Rattle.image_core.specs.Parts.{IsServedThere, IsSetAside, IsPrepared, KeepsOthers}

-- where the step of one is at the place of the other's next ask, it is at no object
at_one_place : {C : Type 0} (mv : Move C Ask Reply) (p q : Place) → AsksAt q mv → ((a : Ask) → AsksNext mv a → p ≡ place_of a → p ≡ places.Own) → p ≡ q → q ≡ places.Own
at_one_place (goes c) p q h n e = absurd h
at_one_place (asks a l k) p q h n e = sym e ∙ n a refl (e ∙ sym h)
at_one_place over p q h n e = absurd h

module _ {M O B : Type 0} (walks : walker.Ghosts M) (memory : object.Ghosts O) (control : object.Ghosts B)
    (p p' : PartsOf M O B) (k : ℕ) (r' : ImageRun M) (images_now : p'.images.items ≡ slice_set p.images.items k r') where
  run_there : (j : ℕ) → (k ≡ j → ⊥) → (x : ImageRun M) → x ≡ slice_index_or p'.images.items j x → x ≡ slice_index_or p.images.items j x
  run_there j n x q = q ∙ ap (λ xs. slice_index_or xs j x) images_now ∙ index_other p.images.items k j r' x n

  -- the memory of an image is as it was
  abbrev SameMemory : ImageNo → Type 0
  SameMemory owner =
      (length p'.memories.items ≡ length p.memories.items)
      × ((o : O) → o ≡ slice_index_or p'.memories.items (owner.0 - 1) o → o ≡ slice_index_or p.memories.items (owner.0 - 1) o)

  there : (i : ℕ) (ask : Ask) (told : Exchange) (q : Place) → (q ≡ places.Board → p'.board ≡ p.board) → ((owner : ImageNo) → 0 < owner.0 → q ≡ places.Memory owner → SameMemory owner)
      → IsServedThere walks memory control p i ask told q → IsServedThere walks memory control p' i ask told q
  there i ask told places.Own board memories s = absurd s
  there i ask told places.Board board memories s = subst (λ c. IsServed control i c ask told) (sym (board refl)) s
  there i ask told (places.Memory owner) board memories s =
      let same = memories owner s.0 refl in
      (s.0, subst (λ n. owner.0 ≤ n) (sym same.0) s.1, λ o at. s.2 o (same.1 o at))

  aside_still : (i : ℕ) (mv : Move walks.Config Ask Reply) (pr : Prepared) → (place_aside pr ≡ places.Board → p'.board ≡ p.board) → ((owner : ImageNo) → 0 < owner.0 → place_aside pr ≡ places.Memory owner → SameMemory owner)
      → IsSetAside walks memory control p i mv pr → IsSetAside walks memory control p' i mv pr
  aside_still i mv prepareds.Nothing board memories h = absurd h
  aside_still i mv (prepareds.Own told) board memories h = h
  aside_still i mv (prepareds.Served ask told) board memories h = (h.0, there i ask told (place_of ask) board memories h.1)

  others_by : (j : ℕ) → (k ≡ j → ⊥) → ((s : ImageRun M) → s ≡ slice_index_or p.images.items j s → place_aside s.prepared ≡ places.Board → p'.board ≡ p.board)
      → ((s : ImageRun M) → s ≡ slice_index_or p.images.items j s → (owner : ImageNo) → 0 < owner.0 → place_aside s.prepared ≡ places.Memory owner → SameMemory owner)
      → IsPrepared walks memory control p j → IsPrepared walks memory control p' j
  others_by j n board memories h x q =
      let there_before = run_there j n x q in
      let was = h x there_before in
      record { room = was.room; next = aside_still (suc j) (move_of walks x) x.prepared (board x there_before) (memories x there_before) was.next }

  -- no object was touched
  pub others_alone : p'.memories.items ≡ p.memories.items → p'.board ≡ p.board → KeepsOthers walks memory control p k p'
  others_alone memories board j n elsewhere h =
      others_by j n (λ s at e. board) (λ s at owner low e. (ap length memories, λ o there. subst (λ os. o ≡ slice_index_or os (owner.0 - 1) o) memories there)) h

  -- the board was touched, for the next ask of the image at place k
  pub others_board : (r : ImageRun M) → r ≡ slice_index_or p.images.items k r → AsksAt places.Board (move_of walks r) → p'.memories.items ≡ p.memories.items → KeepsOthers walks memory control p k p'
  others_board r run_is asked memories j n elsewhere h =
      others_by j n (λ s at e. absurd (let same = at_one_place (move_of walks r) (place_aside s.prepared) places.Board asked (elsewhere r s run_is at) e in cc))
      (λ s at owner low e. (ap length memories, λ o there. subst (λ os. o ≡ slice_index_or os (owner.0 - 1) o) memories there)) h

  -- a memory was touched
  pub others_memory : (r : ImageRun M) (owner : ImageNo) (o' : O) → r ≡ slice_index_or p.images.items k r → AsksAt (places.Memory owner) (move_of walks r) → 0 < owner.0
      → p'.memories.items ≡ slice_set p.memories.items (owner.0 - 1) o' → p'.board ≡ p.board → KeepsOthers walks memory control p k p'
  others_memory r owner o' run_is asked positive memories board j n elsewhere h =
      others_by j n (λ s at e. board) (λ s at other low e. (ap length memories ∙ length-set p.memories.items (owner.0 - 1) o', λ o there. same_there s at other low e o there)) h
    where
      apart : (s : ImageRun M) → s ≡ slice_index_or p.images.items j s → (other : ImageNo) → place_aside s.prepared ≡ places.Memory other → owner.0 ≡ other.0 → ⊥
      apart s at other e same =
          let one : places.Memory other ≡ places.Memory owner = ap (λ i. places.Memory (record { 0 = i })) (sym same) in
          absurd (let own = at_one_place (move_of walks r) (place_aside s.prepared) (places.Memory owner) asked (elsewhere r s run_is at) (e ∙ one) in cc)

      same_there : (s : ImageRun M) → s ≡ slice_index_or p.images.items j s → (other : ImageNo) → 0 < other.0 → place_aside s.prepared ≡ places.Memory other
          → (o : O) → o ≡ slice_index_or p'.memories.items (other.0 - 1) o → o ≡ slice_index_or p.memories.items (other.0 - 1) o
      same_there s at other low e o there =
          there ∙ ap (λ os. slice_index_or os (other.0 - 1) o) memories
          ∙ index_other p.memories.items (owner.0 - 1) (other.0 - 1) o' o (λ q. apart s at other e (omega (arith, q)))
