-- The images of a crew go on: one by one, round by round, worker by worker.
use Rattle.std.proofs.Common.{◌≡◌, ℕ, zero, suc, ◌<◌, ◌+◌, List, [], ◌∷◌, ◌++◌, inl, inr, length, set, ap, sym, subst, refl, arith, true, false, Bool, IsTrue, ◌↔◌}
use Rattle.std.specs.Prelude.{slice_index_or}
use mathlib.Core.Option.{some-injective, some-ne-none}
use Rattle.atomic_table.proofs.Lists.{at_set}
use Rattle.caf_events.specs.declared.event.Event.{Event}
use Rattle.caf_events.specs.declared.object.Object as objects
use Rattle.caf_events.specs.declared.walker.Walker as walker
use Rattle.caf_events.specs.Events.{EndsRun}
use Rattle.turn_gate.specs.Gates.{At}
use Rattle.turn_gate.specs.Passes.{Opened}
use Rattle.image_turns.specs.Turns.{ArePassesOf, StaysOn}
use Rattle.image_turns.specs.Waits.{Waits}
use Rattle.image_turns.proofs.Staying.{stays_same, stays_both}
use Rattle.crew.specs.declared.member.Member.{Member}
use Rattle.crew.specs.declared.member.Worker.{Worker}
use Rattle.crew.specs.Crews.{LastEnds, HavePasses, AllHavePasses, GoOn, members_of}
use Rattle.crew.proofs.Lists.{at_first, at_second}

-- a list with an item has a last one
has_last : {A : Type 0} (x : A) (xs : List A) → (before : List A) × (last : A) × (x ∷ xs ≡ before ++ last ∷ [])
has_last x [] = ([], x, refl)
has_last x (y ∷ xs) = let r = has_last y xs in (x ∷ r.0, r.1, ap (λ l. x ∷ l) r.2)

-- an image of which it is told that its last event ends the run
pub ended_by : (events : List Event) (told : Bool) → ((es : List Event) (e : Event) → events ≡ es ++ e ∷ [] → (IsTrue told ↔ EndsRun e)) → (events ≡ [] → told ≡ false) → told ≡ true → LastEnds events
ended_by [] told last none is = absurd (let n = none refl in cc)
ended_by (x ∷ xs) told last none is =
    let l = has_last x xs in
    record { before = l.0; last = l.1; form = l.2; ends = (last l.0 l.1 l.2).0 is }

module _ {M O B : Type 0} (walks : walker.Ghosts M) (board : Opened B) (memories : List (Opened O)) where
  pub go_on_same : (ms : List (Member M)) → HavePasses board memories ms → GoOn walks board memories ms ms
  go_on_same [] h = tt
  go_on_same (m ∷ ms) h = (stays_same walks board memories m.run m.passes (h 0 m refl), go_on_same ms (λ j n a. h (suc j) n a))

  pub go_on_both : (ms ns ks : List (Member M)) → GoOn walks board memories ms ns → GoOn walks board memories ns ks → GoOn walks board memories ms ks
  go_on_both [] [] [] h i = tt
  go_on_both [] [] (k ∷ ks) h i = absurd i
  go_on_both [] (n ∷ ns) ks h i = absurd h
  go_on_both (m ∷ ms) [] ks h i = absurd h
  go_on_both (m ∷ ms) (n ∷ ns) [] h i = absurd i
  go_on_both (m ∷ ms) (n ∷ ns) (k ∷ ks) h i = (stays_both walks board memories m.run n.run k.run m.passes n.passes k.passes h.0 i.0, go_on_both ms ns ks h.1 i.1)

  -- one of them goes on
  pub go_on_set : (ms ns : List (Member M)) (j : ℕ) (n n' : Member M) → At ns j n → StaysOn walks board memories n.run n.passes n'.run n'.passes → GoOn walks board memories ms ns → GoOn walks board memories ms (set ns j n')
  go_on_set ms [] j n n' at s h = absurd (some-ne-none n (sym at))
  go_on_set [] (x ∷ ns) j n n' at s h = absurd h
  go_on_set (m ∷ ms) (x ∷ ns) zero n n' at s h =
      let same : x ≡ n = some-injective x n at in
      (stays_both walks board memories m.run n.run n'.run m.passes n.passes n'.passes (subst (λ (z : Member M). StaysOn walks board memories m.run m.passes z.run z.passes) same h.0) s, h.1)
  go_on_set (m ∷ ms) (x ∷ ns) (suc j) n n' at s h = (h.0, go_on_set ms ns j n n' at s h.1)

  -- their passes are still their own
  pub passes_after : (ms ns : List (Member M)) → GoOn walks board memories ms ns → HavePasses board memories ns
  passes_after [] [] h j n at = absurd (some-ne-none n (sym at))
  passes_after [] (x ∷ ns) h j n at = absurd h
  passes_after (m ∷ ms) [] h j n at = absurd h
  passes_after (m ∷ ms) (x ∷ ns) h zero n at = subst (λ (z : Member M). ArePassesOf board memories z.run z.passes) (some-injective x n at) h.0.passes
  passes_after (m ∷ ms) (x ∷ ns) h (suc j) n at = passes_after ms ns h.1 j n at

  go_on_append : (ms ns ms' ns' : List (Member M)) → GoOn walks board memories ms ns → GoOn walks board memories ms' ns' → GoOn walks board memories (ms ++ ms') (ns ++ ns')
  go_on_append [] [] ms' ns' h i = i
  go_on_append [] (n ∷ ns) ms' ns' h i = absurd h
  go_on_append (m ∷ ms) [] ms' ns' h i = absurd h
  go_on_append (m ∷ ms) (n ∷ ns) ms' ns' h i = (h.0, go_on_append ms ns ms' ns' h.1 i)

  pub as_many : (ms ns : List (Member M)) → GoOn walks board memories ms ns → length ns ≡ length ms
  as_many [] [] h = refl
  as_many [] (n ∷ ns) h = absurd h
  as_many (m ∷ ms) [] h = absurd h
  as_many (m ∷ ms) (n ∷ ns) h = ap (λ k. suc k) (as_many ms ns h.1)

  -- all images go on where those of each worker do, by its place
  pub go_on_workers : (ws vs : List (Worker M)) → length vs ≡ length ws → ((i : ℕ) (d : Worker M) → i < length ws → GoOn walks board memories (slice_index_or ws i d).members.items (slice_index_or vs i d).members.items)
      → GoOn walks board memories (members_of ws) (members_of vs)
  go_on_workers [] [] l h = tt
  go_on_workers [] (v ∷ vs) l h = absurd (omega arith)
  go_on_workers (w ∷ ws) [] l h = absurd (omega arith)
  go_on_workers (w ∷ ws) (v ∷ vs) l h = go_on_append w.members.items v.members.items (members_of ws) (members_of vs) (h 0 w (omega arith)) (go_on_workers ws vs (omega arith) (λ i d lt. h (suc i) d (omega arith)))

  -- workers are ready where all images are
  pub ready_workers : (ws : List (Worker M)) → HavePasses board memories (members_of ws) → AllHavePasses board memories ws
  ready_workers [] h = tt
  ready_workers (w ∷ ws) h = (
    λ j m at. h j m (at_first w.members.items (members_of ws) j m at),
    ready_workers ws (λ j m at. (let r = at_second w.members.items (members_of ws) j m at in h r.0 m r.1)),
  )

  module _ (memory : objects.Ghosts O) (control : objects.Ghosts B) where
    -- one image more waits
    pub wait_more : (ms : List (Member M)) (j : ℕ) (m' : Member M) → ((k : ℕ) (m : Member M) → k < j → At ms k m → Waits memory control board memories walks m.run m.passes) → Waits memory control board memories walks m'.run m'.passes
        → (k : ℕ) (m : Member M) → k < j + 1 → At (set ms j m') k m → Waits memory control board memories walks m.run m.passes
    wait_more ms j m' h w k m lt at = elim (at_set ms j k m' m at) [
      | inl x ↦ subst (λ (z : Member M). Waits memory control board memories walks z.run z.passes) x.1 w
      | inr x ↦ (let ne = x.0 in h k m (omega arith) x.1)
    ]
