-- A core run over the memories and the control board of the language is lawful, whatever the images' machines are.
use Rattle.std.proofs.Common.{◌≡◌, ℕ, zero, suc, Bool, true, IsTrue, List, [], ◌∷◌, ◌++◌, inl, inr, refl, ap, sym, subst, arith}
use Rattle.std.specs.Prelude.{map}
use Rattle.std.specs.List.{list_all}
use Rattle.std.proofs.lemmas.Bool.{cases_lt}
use Rattle.std.proofs.lemmas.Bool.Decides.{eqb_tells}
use Rattle.caf_base.specs.declared.place.Place.{Place}
use Rattle.caf_base.specs.declared.place.Place.TheVariants as places
use Rattle.caf_events.specs.declared.ask.Ask.{Ask}
use Rattle.caf_events.specs.declared.ask.Ask.TheVariants as asks
use Rattle.caf_events.specs.declared.reply.Reply.{Reply}
use Rattle.caf_events.specs.declared.event.Entry.{Entry}
use Rattle.caf_events.specs.Answers.{Answers}
use Rattle.caf_events.specs.Asks.{place_of, object_of}
use Rattle.caf_events.specs.Events.{EndsImage}
use Rattle.caf_events.specs.Histories.{Served}
use Rattle.caf_events.proofs.Serving.{served_more}
use Rattle.object_rules.specs.Cells.{Declared, MadeMemory}
use Rattle.object_rules.specs.MemoryRules.{has_first_values}
use Rattle.trace_theory.specs.Entries.{of, Each}
use Rattle.trace_theory.specs.Machines.{Move}
use Rattle.trace_theory.specs.Simulations.{AllAnswer}
use Rattle.core_runs.specs.Lists.{image_of, key_of, said}
use Rattle.core_runs.specs.Moments.{Rules, Moment}
use Rattle.core_runs.specs.Beginnings.{Beginning, IsThere, IsOneOf, IsImage, IsPlace}
use Rattle.core_runs.specs.Failures.{is_limit, FailsFrom}
use Rattle.core_runs.specs.CoreRuns.{IsCoreRun, IsFit, of_image, at_board, of_memory, said_by, IsDoneAlone}
use Rattle.core_runs.specs.Kept.{IsKept}
use Rattle.core_runs.specs.Traces.{IsTraceOf}
use Rattle.core_runs.specs.Lawful.{IsLawfulTrace, full_rules, full_beginning}
use Rattle.core_runs.proofs.CoreRuns.{core_run, each_of_each}
use Rattle.core_runs.proofs.Lanes.{own_answers}

-- a limit ends its image
limit_ends : (a : Ask) (r : Reply) → is_limit a ≡ true → EndsImage a r
limit_ends (asks.LimitStatements number) r h = tt
limit_ends (asks.LimitWords number) r h = tt
limit_ends (asks.LimitStamp number) r h = tt
limit_ends a r h = absurd (cc)

-- what the entries of a key have
each_keyed : {E : Type 0} (P Q : E → Type 0) (key : E → ℕ) (k : ℕ) → ((x : E) → key x ≡ k → P x → Q x) → (xs : List E) → Each P xs → Each Q (of key k xs)
each_keyed P Q key k next [] h = tt
each_keyed P Q key k next (x ∷ xs) h = elim (eqb_tells (key x) k) [
  | inl t ↦ rw t.0 (next x t.1 h.0, each_keyed P Q key k next xs h.1)
  | inr f ↦ rw f.0 (each_keyed P Q key k next xs h.1)
]

none_of : {E : Type 0} (xs : List E) → Each (λ x. ⊥) xs → xs ≡ []
none_of [] h = refl
none_of (x ∷ xs) h = absurd h.0

all_said : (es : List Entry) → Each (λ x. Answers x.event.ask x.event.reply) es → AllAnswer Answers (map (λ (x : Entry). said x.event) es)
all_said [] h = tt
all_said (e ∷ es) h = (h.0, all_said es h.1)

own_place : (p : Place) → object_of p ≡ 0 → p ≡ places.Own
own_place places.Own h = refl
own_place places.Board h = absurd (omega arith)
own_place (places.Memory owner) h = absurd (omega arith)

-- an object of the run of another number than 0 and 1 is the memory of one of its images
memory_place : (n j : ℕ) (p : Place) → object_of p ≡ suc (suc j) → IsThere n p → IsOneOf n (suc j)
memory_place n j places.Own h t = absurd (omega arith)
memory_place n j places.Board h t = absurd (omega arith)
memory_place n j (places.Memory owner) h t = let low = t.0 in let high = t.1 in (omega arith, omega arith)

-- what was served answers
module _ (ready : List Entry → ℕ → Ask → Bool) (reply : List Entry → ℕ → Ask → Reply) (answers : (h : List Entry) (i : ℕ) (a : Ask) → Served ready reply [] h → IsTrue (ready h i a) → Answers a (reply h i a)) where
  served_answers : (before es : List Entry) → Served ready reply [] before → Served ready reply before es → Each (λ x. Answers x.event.ask x.event.reply) es
  served_answers before [] old new = tt
  served_answers before (e ∷ es) old new = (
    subst (Answers e.event.ask) (sym new.1) (answers before e.image.0 e.event.ask old new.0),
    served_answers (before ++ e ∷ []) es (served_more ready reply before e old new.0 new.1) new.2,
  )

module _ {C M B : Type 0} (r : Rules C M B) (b : Beginning C M B) (t : List Entry)
    (memory_answers : (made : M) (h : List Entry) (i : ℕ) (a : Ask) → Served (r.memory_ready made) (r.memory_reply made) [] h → IsTrue (r.memory_ready made h i a) → Answers a (r.memory_reply made h i a))
    (board_answers : (made : B) (h : List Entry) (i : ℕ) (a : Ask) → Served (r.board_ready made) (r.board_reply made) [] h → IsTrue (r.board_ready made h i a) → Answers a (r.board_reply made h i a)) (core : IsCoreRun r b t) where
  -- each reply answers its ask
  answered_at : (k : ℕ) → Each (λ x. Answers x.event.ask x.event.reply) (of key_of k t)
  answered_at zero = each_keyed IsDoneAlone (λ x. Answers x.event.ask x.event.reply) key_of 0 (λ x e done. (
      let own = own_place (place_of x.event.ask) e in
      subst (Answers x.event.ask) (sym (done own)) (own_answers x.event.ask own))) t core.lawful.alone
  answered_at (suc zero) = served_answers (r.board_ready b.board) (r.board_reply b.board) (board_answers b.board) [] (at_board t) tt core.lawful.board
  answered_at (suc (suc j)) = elim (cases_lt j b.images) [
    | inl l ↦ served_answers (r.memory_ready (b.memory (suc j))) (r.memory_reply (b.memory (suc j))) (memory_answers (b.memory (suc j))) [] (of_memory (suc j) t) tt (core.lawful.memories (suc j) (omega arith, omega arith))
    | inr g ↦ each_keyed (λ x. IsPlace b (place_of x.event.ask)) (λ x. Answers x.event.ask x.event.reply) key_of (suc (suc j))
        (λ x e place. (let there = memory_place b.images j (place_of x.event.ask) e place in let high = there.1 in absurd (omega arith))) t core.lawful.places
  ]

  answered : Each (λ x. Answers x.event.ask x.event.reply) t
  answered = each_of_each (λ x. Answers x.event.ask x.event.reply) key_of t answered_at

  pub answered_if : (i : ℕ) → AllAnswer Answers (said_by i t)
  answered_if i = all_said (of_image i t) (each_keyed (λ x. Answers x.event.ask x.event.reply) (λ x. Answers x.event.ask x.event.reply) image_of i (λ x e h. h) t answered)

module _ {C M B : Type 0} (r : Rules C M B) (b : Beginning C M B) (t : List Entry) (fit : IsFit r b) (core : IsCoreRun r b t) where
  pub answered_by : (i : ℕ) → AllAnswer Answers (said_by i t)
  answered_by i = answered_if r b t fit.memory_answers fit.board_answers core i

  -- an image that isn't of the run has no entry
  not_of_run : (i : ℕ) → (IsImage b i → ⊥) → said_by i t ≡ []
  not_of_run i other = ap (map (λ (x : Entry). said x.event)) (none_of (of_image i t) (each_keyed (λ x. IsImage b (image_of x)) (λ x. ⊥) image_of i (λ x e h. other (subst (IsImage b) e h)) t core.lawful.images))

  -- an image that fails makes the steps of its failure
  fails_by_fit : (i : ℕ) → FailsFrom i (said_by i t) []
  fails_by_fit zero = subst (λ es. FailsFrom zero es []) (sym (not_of_run zero (λ h. (let low = h.0 in omega arith)))) tt
  fails_by_fit (suc k) = elim (cases_lt k b.images) [
    | inl l ↦ (
        let here : IsImage b (suc k) = (omega arith, omega arith) in
        let walk = core.walks (suc k) here in
        fit.fails (suc k) here (said_by (suc k) t) walk.0 (answered_by (suc k)) walk.1)
    | inr g ↦ subst (λ es. FailsFrom (suc k) es []) (sym (not_of_run (suc k) (λ h. (let high = h.1 in omega arith)))) tt
  ]

pub core_run_lawful : {C : Type 0} (step : C → Move C Ask Reply) (hears : C → Reply → Type 0) (s : List Declared) (n : ℕ) (first : ℕ → C) (t : List Entry)
    → list_all has_first_values s ≡ true → IsFit (full_rules step hears) (full_beginning s n first) → IsCoreRun (full_rules step hears) (full_beginning s n first) t → IsLawfulTrace s n t
core_run_lawful step hears s n first t declared fit core = record {
  declared = declared;
  ordered = core.lawful.ordered;
  stamped = core.lawful.stamped;
  images = core.lawful.images;
  places = core.lawful.places;
  memories = core.lawful.memories;
  board = core.lawful.board;
  alone = core.lawful.alone;
  joins = core.lawful.joins;
  fails = fails_by_fit (full_rules step hears) (full_beginning s n first) t fit core;
  limits = λ i before after e p l. core.nothing_after i before after e p (limit_ends e.ask e.reply l);
}

-- the trace of what is kept is one
pub lawful_trace : {C : Type 0} (step : C → Move C Ask Reply) (hears : C → Reply → Type 0) (s : List Declared) (n : ℕ) (first : ℕ → C) (m : Moment C MadeMemory ℕ) (t : List Entry)
    → list_all has_first_values s ≡ true → IsKept (full_rules step hears) (full_beginning s n first) m → IsTraceOf m.events t → IsLawfulTrace s n t
lawful_trace step hears s n first m t declared h trace = core_run_lawful step hears s n first t declared h.fit (core_run (full_rules step hears) (full_beginning s n first) m t h trace)
