-- What a crew leaves: bounded stamps, and images that are held back.
use Rattle.std.proofs.Common.{◌≡◌, ℕ, zero, suc, ◌+◌, ◌-◌, ◌<◌, ◌≤◌, ◌^◌, List, [], ◌∷◌, ◌++◌, ◌⊎◌, inl, inr, length, map, ap, sym, ◌∙◌, subst, refl, arith, append_assoc, false, true}
use Rattle.std.specs.Prelude.{slice_get, slice_index_or, Some, None}
use Rattle.std.proofs.lemmas.Bool.{cases_lt}
use Rattle.std.proofs.lemmas.List.{get_or_past, length-map}
use mathlib.Core.Option.{some-injective, some-ne-none}
use Rattle.trace_theory.specs.Entries.{of, Rises, last_or}
use Rattle.trace_theory.proofs.Snocs.{at_most_last}
use Rattle.caf_base.specs.declared.place.Place.{Place}
use Rattle.caf_base.specs.declared.place.Place.TheVariants as places
use Rattle.caf_events.specs.declared.ask.Ask.{Ask}
use Rattle.caf_events.specs.declared.event.Event.{Event}
use Rattle.caf_events.specs.declared.event.Entry.{Entry}
use Rattle.caf_events.specs.declared.object.Object as objects
use Rattle.caf_events.specs.declared.walker.Walker as walker
use Rattle.caf_events.specs.Asks.{place_of}
use Rattle.caf_events.specs.Histories.{last_stamp_of, last_stamp_from}
use Rattle.caf_events.specs.Walkers.{AsksNext}
use Rattle.caf_events.proofs.Serving.{last_stamp_more}
use Rattle.core_runs.specs.Lists.{image_of, stamp_of, list_at, last_of, entries_of, history_of}
use Rattle.core_runs.specs.Moments.{Rules, Moment, rules, item_at, history_there, memory_ready_at}
use Rattle.core_runs.specs.Beginnings.{Beginning}
use Rattle.core_runs.specs.Kept.{IsKept}
use Rattle.image_core.specs.declared.run.ImageRun.{ImageRun}
use Rattle.image_core.specs.declared.parts.PartsOf.{PartsOf}
use Rattle.image_core.specs.Prepared.{move_of}
use Rattle.image_core.specs.Parts.{moment, event_lists, AreNumbered, AreSound, EachAt, total, steps_made, IsBounded}
use Rattle.worker_laws.specs.Counts.{events_of}
use Rattle.worker_laws.specs.Linked.{AreTogether}
use Rattle.worker_laws.proofs.Together.{kept, few_images, few_objects}
use Rattle.turn_gate.specs.Gates.{At, StartsWith}
use Rattle.turn_gate.specs.Known.{Known}
use Rattle.turn_gate.specs.Passes.{Opened, kept_known}
use Rattle.turn_gate.specs.declared.view.Kept.{Kept}
use Rattle.image_gate.specs.declared.passes.Passes.{Passes}
use Rattle.image_gate.specs.Fabrics.{IsNewFabric, images_to}
use Rattle.image_gate.specs.Closings.{closing_of, with_back, board_column, column, EndsWith}
use Rattle.image_gate.proofs.Rows.{found, is_there}
use Rattle.image_turns.specs.Waits.{IsNotNow, IsHeldAt, Waits}
use Rattle.crew.specs.declared.member.Member.{Member}
use Rattle.crew.specs.Crews.{GoOn, LastEnds, SomeEnded, IsThrough, AllWait}
use Rattle.crew.specs.Dealt.{run_of, passes_of}
use Rattle.crew.specs.Left.{HasNoStep, was_ready, IsHeldBack, AreLeft}
use Rattle.crew.proofs.Lists.{at_get, at_is, at_mapped, mapped_at}
use Rattle.crew.proofs.Sums.{events_total}
use Rattle.crew.proofs.Going.{as_many}
use Rattle.crew.proofs.Closing as closing

-- the last stamp of a beginning is no greater
split_last : {A : Type 0} (x : A) (xs : List A) → (before : List A) × (last : A) × (x ∷ xs ≡ before ++ last ∷ [])
split_last x [] = ([], x, refl)
split_last x (y ∷ xs) = let r = split_last y xs in (x ∷ r.0, r.1, ap (λ l. x ∷ l) r.2)

last_stamps : (n : ℕ) (h : List Entry) → last_stamp_from n h ≡ last_or stamp_of n h
last_stamps n [] = refl
last_stamps n (e ∷ es) = last_stamps e.event.stamp es

last_of_front : (seen rest : List Entry) → Rises stamp_of (seen ++ rest) → last_stamp_of seen ≤ last_stamp_of (seen ++ rest)
last_of_front [] rest h = omega arith
last_of_front (x ∷ xs) rest h =
    let l = split_last x xs in
    let form : (x ∷ xs) ++ rest ≡ l.0 ++ l.1 ∷ rest = ap (λ s. s ++ rest) l.2 ∙ append_assoc l.0 (l.1 ∷ []) rest in
    let last : last_stamp_of (x ∷ xs) ≡ stamp_of l.1 = ap last_stamp_of l.2 ∙ last_stamp_more 0 l.0 l.1 in
    let most = at_most_last stamp_of 0 l.0 rest l.1 (subst (Rises stamp_of) form h) in
    let whole : last_stamp_of ((x ∷ xs) ++ rest) ≡ last_or stamp_of 0 (l.0 ++ l.1 ∷ rest) = last_stamps 0 ((x ∷ xs) ++ rest) ∙ ap (last_or stamp_of 0) form in
    omega arith

get_past : {A : Type 0} (xs : List A) (k : ℕ) → length xs ≤ k → slice_get xs k ≡ None
get_past [] k h = refl
get_past (x ∷ xs) zero h = absurd (omega arith)
get_past (x ∷ xs) (suc k) h = get_past xs k (omega arith)

get_at : {A : Type 0} (xs : List A) (k : ℕ) (x : A) → At xs k x → slice_get xs k ≡ Some x
get_at [] k x h = absurd (some-ne-none x (sym h))
get_at (y ∷ ys) zero x h = ap (λ z. Some z) (some-injective y x h)
get_at (y ∷ ys) (suc k) x h = get_at ys k x h

-- what was made and what is still to come is no more than what was to come
sums_few : {M : Type 0} (walks : walker.Ghosts M) (ms ns : List (Member M)) → length ns ≡ length ms
    → ((k : ℕ) (m n : Member M) → At ms k m → At ns k n → length n.run.events.items + walks.asks_left (walks.config n.run.machine) ≤ walks.asks_left (walks.config m.run.machine))
    → total length (event_lists (map run_of ns)) + total walks.asks_left (map (λ (x : ImageRun M). walks.config x.machine) (map run_of ns)) ≤ total walks.asks_left (map (λ (x : ImageRun M). walks.config x.machine) (map run_of ms))
sums_few walks [] [] l h = omega arith
sums_few walks [] (n ∷ ns) l h = absurd (omega arith)
sums_few walks (m ∷ ms) [] l h = absurd (omega arith)
sums_few walks (m ∷ ms) (n ∷ ns) l h = (let a = h 0 m n refl refl in let r = sums_few walks ms ns (omega arith) (λ k x y p q. h (suc k) x y p q) in omega arith)

module _ {M O B : Type 0} (walks : walker.Ghosts M) (memory : objects.Ghosts O) (control : objects.Ghosts B) (p p' : PartsOf M O B) (gate : Opened B) (gates : List (Opened O)) (passes : List Passes)
    (members members' : List (Member M)) (fabric : IsNewFabric p.memories.items p.board gate gates passes) (runs_are : map run_of members ≡ p.images.items) (passes_are : map passes_of members ≡ passes)
    (goes : GoOn walks gate gates members members') (sound : AreSound walks memory control p) (none : HasNoStep (moment walks memory control p))
    (ends_board : EndsWith control (with_back (board_column (map passes_of members')) (closing_of (images_to (length gates)) gate)) p'.board)
    (so_many_memories : length p'.memories.items ≡ length gates)
    (ends : (k : ℕ) (g : Opened O) (o : O) → At gates k g → At p'.memories.items k o → EndsWith memory (with_back (column k (map passes_of members')) (closing_of (images_to (length gates)) g)) o)
    (images_after : p'.images.items ≡ map run_of members') where
  abbrev now : Moment walks.Config memory.Made control.Made
  now = moment walks memory control p'

  abbrev stood : Moment walks.Config memory.Made control.Made
  stood = record {
    configs = map (λ (x : ImageRun M). walks.config x.machine) (map run_of members');
    events = event_lists (map run_of members');
    memories = map memory.made p'.memories.items;
    histories = map memory.history p'.memories.items;
    board = control.made p'.board;
    board_history = control.history p'.board;
  }

  stands : now ≡ stood
  stands = ap (λ (l : List (ImageRun M)). record {
    configs = map (λ (x : ImageRun M). walks.config x.machine) l;
    events = event_lists l;
    memories = map memory.made p'.memories.items;
    histories = map memory.history p'.memories.items;
    board = control.made p'.board;
    board_history = control.history p'.board;
  }) images_after

  -- they are at a moment of the same run
  pub kept_after : (b : Beginning walks.Config memory.Made control.Made) → IsKept (rules walks memory control) b (moment walks memory control p) → IsKept (rules walks memory control) b now
  kept_after b h =
      subst (IsKept (rules walks memory control) b) (sym stands)
      (kept (rules walks memory control) b stood
      (closing.together walks memory control p gate gates passes members members' b fabric runs_are passes_are goes sound.numbered none h p'.memories.items p'.board ends_board so_many_memories ends))

  abbrev b0 : Beginning walks.Config memory.Made control.Made
  b0 = sound.kept.0

  gone : (k : ℕ) (n : Member M) → At members' k n → closing.HasGone walks gate gates b0.first members k n
  gone = closing.has_gone walks memory control p gate gates passes members members' b0 fabric runs_are passes_are goes sound.numbered none sound.kept.1

  so_many_gates : length gates ≡ b0.images
  so_many_gates = closing.so_many_gates walks memory control p gate gates passes members members' b0 fabric runs_are passes_are goes sound.numbered none sound.kept.1

  so_many : length members' ≡ length members
  so_many = as_many walks gate gates members members' goes

  together : AreTogether (rules walks memory control) b0 stood
  together = closing.together walks memory control p gate gates passes members members' b0 fabric runs_are passes_are goes sound.numbered none sound.kept.1 p'.memories.items p'.board ends_board so_many_memories ends

  -- all stamps are at or below the number of steps
  made_is : events_of (entries_of stood.events) b0.images ≡ steps_made stood
  made_is = ap (events_of (entries_of stood.events)) (sym together.event_count) ∙ events_total stood.events

  few_now : steps_made stood + total walks.asks_left stood.configs < 2 ^ 60
  few_now =
      let s = sums_few walks members members' so_many (λ k m n a c. few_at k m n a c) in
      let f = sound.bounded.few in
      let e = ap (λ (l : List (ImageRun M)). total walks.asks_left (map (λ (x : ImageRun M). walks.config x.machine) l)) runs_are in
      omega arith
    where
      few_at : (k : ℕ) (m n : Member M) → At members k m → At members' k n → length n.run.events.items + walks.asks_left (walks.config n.run.machine) ≤ walks.asks_left (walks.config m.run.machine)
      few_at k m n a c =
          let h = gone k n c in
          let same : h.from ≡ m = some-injective h.from m (sym h.at ∙ a) in
          subst (λ (z : Member M). length n.run.events.items + walks.asks_left (walks.config n.run.machine) ≤ walks.asks_left (walks.config z.run.machine)) same h.goes.walked.few

  bounded_now : IsBounded walks.asks_left stood
  bounded_now = record {
    images = λ i. subst (λ n. last_of (list_at stood.events i) ≤ n) made_is (few_images (rules walks memory control) b0 stood together i);
    memories = memories;
    board = subst (λ n. last_stamp_of stood.board_history ≤ n) made_is (few_objects (rules walks memory control) b0 stood together 0);
    few = few_now;
  }
    where
      memories : (i : ℕ) → last_stamp_of (list_at stood.histories i) ≤ steps_made stood
      memories zero = omega arith
      memories (suc k) = subst (λ n. last_stamp_of (list_at stood.histories (suc k)) ≤ n) made_is (few_objects (rules walks memory control) b0 stood together (suc k))

  numbered_now : AreNumbered p'.images.items
  numbered_now = subst (λ (l : List (ImageRun M)). AreNumbered l) (sym images_after) (λ k x lt is.
      (let n = found members' k (subst (λ m. k < m) (length-map members' run_of) lt) in
      let same : x ≡ n.0.run = is ∙ at_is (map run_of members') k n.0.run x (at_mapped run_of members' k n.0 n.1) in
      ap (λ (y : ImageRun M). y.image.0) same ∙ (gone k n.0 n.1).number))

  count_now : length p'.images.items ≡ length p.images.items
  count_now = ap length images_after ∙ length-map members' run_of ∙ so_many ∙ sym (length-map members run_of) ∙ ap length runs_are

  -- what every call keeps of the parts is kept
  pub sound_after : AreSound walks memory control p'
  sound_after = record {
    few = let c = count_now in let f = sound.few in omega arith;
    numbered = numbered_now;
    bounded = subst (IsBounded walks.asks_left) (sym stands) bounded_now;
    kept = (b0, kept_after b0 sound.kept.1);
  }

  pub count_after : length p'.images.items ≡ length p.images.items
  count_after = count_now

  module _ (waits : AllWait memory control gate gates walks members') where
    -- no stamp is the greatest one
    low_image : (k : ℕ) (n : Member M) → At members' k n → 2 ^ 62 ≤ last_of n.run.events.items → ⊥
    low_image k n at h =
        let l = bounded_now.images (suc k) in
        let e = ap last_of (at_is stood.events k n.run.events.items [] (at_mapped (λ (x : ImageRun M). x.events.items) (map run_of members') k n.run (at_mapped run_of members' k n at))) in
        let f = few_now in
        omega arith

    low_seen : (o : ℕ) (seen rest : List Entry) → history_of stood.board_history stood.histories (suc o) ≡ seen ++ rest → 2 ^ 62 ≤ last_stamp_of seen → ⊥
    low_seen o seen rest is h =
        let l = few_objects (rules walks memory control) b0 stood together o in
        let m = made_is in
        let s = last_of_front seen rest (subst (Rises stamp_of) is (together.linked.rises o)) in
        let e = ap last_stamp_of is in
        let f = few_now in
        omega arith

    held_board : (k : ℕ) (n : Member M) (a : Ask) → At members' k n → IsHeldAt memory control gate gates n.passes a (last_of n.run.events.items) places.Board → place_of a ≡ places.Board → IsHeldBack (rules walks memory control) stood (suc k) a
    held_board k n a at held is =
        let h = gone k n at in
        let t = h.goes.linked.each 0 n.passes.board refl in
        let e = closing.back_at (λ (x : Kept). (of image_of x.image (control.history p'.board) ≡ x.own) × StartsWith (control.history p'.board) x.seen) (λ (q : Passes). kept_known q.board) (map passes_of members') k n.passes ends_board.lists (at_mapped passes_of members' k n at) in
        let number : n.passes.board.image ≡ suc k = t.0 ∙ h.number in
        let mine : of image_of (suc k) n.passes.board.seen ≡ of image_of (suc k) (control.history p'.board) = subst (λ i. of image_of i n.passes.board.seen ≡ of image_of i (control.history p'.board)) number
        (subst (λ i. of image_of i n.passes.board.seen ≡ n.passes.board.own) (sym t.0) t.1.mine ∙ sym e.0) in
        record {
          seen = n.passes.board.seen;
          rest = e.1.0;
          front = ap (history_there stood) is ∙ e.1.1;
          mine = subst (λ q. of image_of (suc k) n.passes.board.seen ≡ of image_of (suc k) (history_there stood q)) (sym is) mine;
          refused = subst (λ q. was_ready (rules walks memory control) stood (suc k) a q n.passes.board.seen ≡ false) (sym is) (elim held [
            | inl x ↦ subst (λ (z : control.Made × ℕ). control.ready_after z.0 n.passes.board.seen z.1 a ≡ false) (λ j. (sym ends_board.made j, number j)) x
            | inr y ↦ elim y [
              | inl x ↦ absurd (low_image k n at x)
              | inr x ↦ absurd (low_seen 0 n.passes.board.seen e.1.0 e.1.1 x)
            ]
          ]);
        }

    held_memory : (k o : ℕ) (n : Member M) (a : Ask) → At members' k n → o < length gates
        → ((g : Opened O) (q : Known) → At gates o g → At n.passes.memories.items o q → IsNotNow memory g q a (last_of n.run.events.items))
        → (history_there stood (place_of a) ≡ slice_index_or stood.histories o []) → ((h : List Entry) → was_ready (rules walks memory control) stood (suc k) a (place_of a) h ≡ memory_ready_at (rules walks memory control) h (suc k) a (slice_get stood.memories o))
        → IsHeldBack (rules walks memory control) stood (suc k) a
    held_memory k o n a at lt held there ready =
        let h = gone k n at in
        let w = h.goes.linked.wide in
        let q = found n.passes.memories.items o (omega arith) in
        let t = h.goes.linked.each (suc o) q.0 q.1 in
        let g = found gates o lt in
        let m = found p'.memories.items o (omega arith) in
        let end = ends o g.0 m.0 g.1 m.1 in
        let e = closing.back_at (λ (x : Kept). (of image_of x.image (memory.history m.0) ≡ x.own) × StartsWith (memory.history m.0) x.seen) (λ (x : Passes). kept_known (slice_index_or x.memories.items o x.board)) (map passes_of members') k n.passes
        end.lists (at_mapped passes_of members' k n at) in
        let back = subst (λ (x : Known). (of image_of x.image (memory.history m.0) ≡ x.own) × StartsWith (memory.history m.0) x.seen) (at_is n.passes.memories.items o q.0 n.passes.board q.1) e in
        let number : q.0.image ≡ suc k = t.0 ∙ h.number in
        let history_is : slice_index_or stood.histories o [] ≡ memory.history m.0 = at_is stood.histories o (memory.history m.0) [] (at_mapped memory.history p'.memories.items o m.0 m.1) in
        let made_is : slice_get stood.memories o ≡ Some (memory.made m.0) = get_at stood.memories o (memory.made m.0) (at_mapped memory.made p'.memories.items o m.0 m.1) in
        let mine : of image_of (suc k) q.0.seen ≡ of image_of (suc k) (memory.history m.0) = subst (λ i. of image_of i q.0.seen ≡ of image_of i (memory.history m.0)) number
        (subst (λ i. of image_of i q.0.seen ≡ q.0.own) (sym t.0) t.1.mine ∙ sym back.0) in
        record {
          seen = q.0.seen;
          rest = back.1.0;
          front = there ∙ history_is ∙ back.1.1;
          mine = mine ∙ ap (of image_of (suc k)) (sym (there ∙ history_is));
          refused = ready q.0.seen ∙ ap (memory_ready_at (rules walks memory control) q.0.seen (suc k) a) made_is ∙ elim (held g.0 q.0 g.1 q.1) [
            | inl x ↦ subst (λ (z : memory.Made × ℕ). memory.ready_after z.0 q.0.seen z.1 a ≡ false) (λ j. (sym end.made j, number j)) x
            | inr y ↦ elim y [
              | inl x ↦ absurd (low_image k n at x)
              | inr x ↦ absurd (low_seen (suc o) q.0.seen back.1.0 (history_is ∙ back.1.1) x)
            ]
          ];
        }

    nowhere : (k owner : ℕ) (a : Ask) (q : Place) → place_of a ≡ q → q ≡ places.Memory (record { 0 = owner }) → item_at stood.memories owner ≡ None → IsHeldBack (rules walks memory control) stood (suc k) a
    nowhere k owner a q is memory_is none_there = record {
      seen = [];
      rest = history_there stood (place_of a);
      front = refl;
      mine = subst (λ (z : Place). [] ≡ of image_of (suc k) (history_there stood z)) (sym (is ∙ memory_is)) (ap (of image_of (suc k)) (sym (no_history owner none_there)));
      refused = subst (λ z. was_ready (rules walks memory control) stood (suc k) a z [] ≡ false) (sym (is ∙ memory_is)) (ap (memory_ready_at (rules walks memory control) [] (suc k) a) none_there);
    }
      where
        no_history : (owner : ℕ) → item_at stood.memories owner ≡ None → list_at stood.histories owner ≡ []
        no_history zero h = refl
        no_history (suc j) h = elim (cases_lt j (length p'.memories.items)) [
          | inl l ↦ (
              let m = found p'.memories.items j l in
              absurd (let e = sym (get_at stood.memories j (memory.made m.0) (at_mapped memory.made p'.memories.items j m.0 m.1)) ∙ h in cc))
          | inr l ↦ (let c = length-map p'.memories.items memory.history in get_or_past stood.histories j [] (omega arith))
        ]

    held_at : (k : ℕ) (n : Member M) (a : Ask) (q : Place) → At members' k n → place_of a ≡ q → IsHeldAt memory control gate gates n.passes a (last_of n.run.events.items) q → IsHeldBack (rules walks memory control) stood (suc k) a
    held_at k n a places.Own at is held = absurd (low_image k n at held)
    held_at k n a places.Board at is held = held_board k n a at held is
    held_at k n a (places.Memory owner) at is held = by_owner owner.0 refl
      where
        by_owner : (j : ℕ) → j ≡ owner.0 → IsHeldBack (rules walks memory control) stood (suc k) a
        by_owner zero e = nowhere k owner.0 a (places.Memory owner) is refl (ap (item_at stood.memories) (sym e))
        by_owner (suc o) e = elim (cases_lt o (length gates)) [
          | inl l ↦ held_memory k o n a at l (λ g q b c. (let before : o ≡ owner.0 - 1 = (let e' = e in omega arith) in held g q (subst (λ z. 0 < z) e (omega arith)) (subst (λ z. At gates z g) before b) (subst (λ z. At n.passes.memories.items z q) before c)))
              (ap (history_there stood) is ∙ ap (list_at stood.histories) (sym e))
              (λ h. ap (λ z. was_ready (rules walks memory control) stood (suc k) a z h) is ∙ ap (λ z. memory_ready_at (rules walks memory control) h (suc k) a (item_at stood.memories z)) (sym e))
          | inr l ↦ nowhere k owner.0 a (places.Memory owner) is refl (ap (item_at stood.memories) (sym e) ∙ get_past stood.memories o (let c = length-map p'.memories.items memory.made in omega arith))
        ]

    held_all : (i : ℕ) (c : walks.Config) (a : Ask) → item_at stood.configs i ≡ Some c → AsksNext (walks.step c) a → IsHeldBack (rules walks memory control) stood i a
    held_all zero c a at asked = absurd (cc)
    held_all (suc k) c a at asked =
        let x = mapped_at (λ (y : ImageRun M). walks.config y.machine) (map run_of members') k c (at_get stood.configs k c at) in
        let n = mapped_at run_of members' k x.0 x.1 in
        let is : walks.config n.0.run.machine ≡ c = ap (λ (y : ImageRun M). walks.config y.machine) n.2 ∙ x.2 in
        held_at k n.0 a (place_of a) n.1 refl (waits k n.0 n.1 a (subst (λ z. AsksNext (walks.step z) a) (sym is) asked))

  -- what is left
  pub left_after : IsThrough memory control gate gates walks members' → AreLeft (rules walks memory control) now
  left_after ready = subst (AreLeft (rules walks memory control)) (sym stands) (λ none_ended. elim ready [
    | inl s ↦ absurd (none_ended (suc s.place) (subst LastEnds (sym (at_is stood.events s.place s.member.run.events.items [] (at_mapped (λ (x : ImageRun M). x.events.items) (map run_of members') s.place s.member.run (at_mapped run_of members' s.place s.member s.at)))) s.ends))
    | inr w ↦ held_all w
  ])
