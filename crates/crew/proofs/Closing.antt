-- Where the images of a crew have come when all gates are closed.
use Rattle.std.proofs.Common.{◌≡◌, ℕ, zero, suc, ◌+◌, ◌<◌, ◌≤◌, ◌^◌, List, [], ◌∷◌, ◌++◌, ◌⊎◌, inl, inr, length, map, ap, sym, ◌∙◌, subst, refl, arith}
use Rattle.std.specs.Prelude.{slice_get, slice_index_or, Some, replicate}
use Rattle.std.proofs.lemmas.Bool.{cases_lt}
use Rattle.std.proofs.lemmas.List.{get_or_past, length-map}
use Rattle.std.proofs.lemmas.List.FromFn.{length-map-range_with_len}
use mathlib.Core.Option.{some-injective, some-ne-none}
use Rattle.trace_theory.specs.Entries.{of, Each, Rises}
use Rattle.trace_theory.specs.Machines.{WalkTo, Rests}
use Rattle.caf_events.specs.declared.event.Event.{Event}
use Rattle.caf_events.specs.declared.event.Entry.{Entry}
use Rattle.caf_events.specs.declared.object.Object as objects
use Rattle.caf_events.specs.declared.walker.Walker as walker
use Rattle.caf_events.specs.Asks.{place_of}
use Rattle.caf_events.specs.Histories.{Served, last_stamp_of}
use Rattle.core_runs.specs.Lists.{image_of, key_of, stamp_of, entry, said, list_at, entries_of, history_of, last_of}
use Rattle.core_runs.specs.Moments.{Rules, Moment, rules, item_at}
use Rattle.core_runs.specs.Beginnings.{Beginning, IsImage, IsPlace, IsThere, numbers_to}
use Rattle.core_runs.specs.Kept.{IsKept}
use Rattle.core_runs.proofs.Beginnings.{empty_at}
use Rattle.core_runs.proofs.Lanes.{numbered_item}
use Rattle.image_core.specs.declared.run.ImageRun.{ImageRun}
use Rattle.image_core.specs.declared.parts.PartsOf.{PartsOf}
use Rattle.image_core.specs.Parts.{moment, event_lists, AreNumbered, AreSound, total, steps_made, IsBounded}
use Rattle.worker_laws.specs.Links.{OfImage, Linked, Closed, HasSeen, AllClosed}
use Rattle.worker_laws.specs.Counts.{events_of}
use Rattle.worker_laws.proofs.Links.{linked_none, image_none}
use Rattle.worker_laws.specs.Linked.{HasCome, AreTogether}
use Rattle.worker_laws.proofs.Together.{kept, few_images, few_objects}
use Rattle.turn_gate.specs.Gates.{At, NotIn, StartsWith}
use Rattle.turn_gate.specs.Known.{Known}
use Rattle.turn_gate.specs.Passes.{Opened, IsPassOf, kept_known}
use Rattle.turn_gate.specs.declared.view.Kept.{Kept}
use Rattle.image_gate.specs.declared.passes.Passes.{Passes}
use Rattle.image_gate.specs.Fabrics.{AreOf, IsNewFabric, images_to, fresh_pass}
use Rattle.image_gate.specs.Closings.{closing_of, with_back, board_column, column, EndsWith}
use Rattle.image_gate.proofs.Rows.{found, is_there, at_end}
use Rattle.image_turns.specs.Turns.{HasWalked, AreLinked, GoesOn, StaysOn, ArePassesOf}
use Rattle.image_turns.specs.Turns as turns
use Rattle.crew.specs.declared.member.Member.{Member}
use Rattle.crew.specs.Crews.{GoOn, HavePasses}
use Rattle.crew.specs.Dealt.{run_of, passes_of}
use Rattle.crew.specs.Left.{HasNoStep}
use Rattle.crew.proofs.Lists.{at_get, at_is, at_mapped, mapped_at}
use Rattle.crew.proofs.Going.{as_many}
use Rattle.crew.proofs.Sums.{events_total}

-- two mapped lists are the same where they are at each place
pub same_mapped : {A B D : Type 0} (f : A → D) (g : B → D) (xs : List A) (ys : List B) → length xs ≡ length ys → ((k : ℕ) (x : A) (y : B) → At xs k x → At ys k y → f x ≡ g y) → map f xs ≡ map g ys
same_mapped f g [] [] l h = refl
same_mapped f g [] (y ∷ ys) l h = absurd (omega arith)
same_mapped f g (x ∷ xs) [] l h = absurd (omega arith)
same_mapped f g (x ∷ xs) (y ∷ ys) l h = ap (λ z. z ∷ map f xs) (h 0 x y refl refl) ∙ ap (λ zs. g y ∷ zs) (same_mapped f g xs ys (omega arith) (λ k a b p q. h (suc k) a b p q))

map_twice : {A B D : Type 0} (f : A → B) (g : B → D) (xs : List A) → map g (map f xs) ≡ map (λ x. g (f x)) xs
map_twice f g [] = refl
map_twice f g (x ∷ xs) = ap (λ ys. g (f x) ∷ ys) (map_twice f g xs)

-- what came back from an image's pass
pub back_at : (P : Kept → Type 0) (f : Passes → Kept) (ps : List Passes) (k : ℕ) (p : Passes) → Each P (map f ps ++ []) → At ps k p → P (f p)
back_at P f [] k p h at = absurd (some-ne-none p (sym at))
back_at P f (q ∷ ps) zero p h at = subst (λ (z : Passes). P (f z)) (some-injective q p at) h.0
back_at P f (q ∷ ps) (suc k) p h at = back_at P f ps k p h.1 at

-- no other number is among 1 to n
not_among : (n i : ℕ) → (i ≡ 0) ⊎ (n < i) → NotIn i (images_to n)
not_among zero i out = tt
not_among (suc n) i out = each_two (images_to n) (suc n) (not_among n i (elim out [ inl z ↦ inl z | inr l ↦ inr (omega arith) ])) (λ e. elim out [ inl z ↦ absurd (omega arith) | inr l ↦ absurd (omega arith) ])
  where
    each_two : (xs : List ℕ) (x : ℕ) → NotIn i xs → (x ≡ i → ⊥) → NotIn i (xs ++ x ∷ [])
    each_two [] x h ne = (ne, tt)
    each_two (y ∷ ys) x h ne = (h.0, each_two ys x h.1 ne)

-- the images that went on, one by one
pub record WentOn {M O B : Type 0} (walks : walker.Ghosts M) (board : Opened B) (memories : List (Opened O)) (ms : List (Member M)) (k : ℕ) (n : Member M) : Type 0 where
  pub from : Member M
  pub at : At ms k from
  pub stays : StaysOn walks board memories from.run from.passes n.run n.passes

pub went_on : {M O B : Type 0} (walks : walker.Ghosts M) (board : Opened B) (memories : List (Opened O)) (ms ns : List (Member M)) (k : ℕ) (n : Member M) → GoOn walks board memories ms ns → At ns k n → WentOn walks board memories ms k n
went_on walks board memories ms [] k n h at = absurd (some-ne-none n (sym at))
went_on walks board memories [] (x ∷ ns) k n h at = absurd h
went_on walks board memories (m ∷ ms) (x ∷ ns) zero n h at = record { from = m; at = refl; stays = subst (λ z. StaysOn walks board memories m.run m.passes z.run z.passes) (some-injective x n at) h.0 }
went_on walks board memories (m ∷ ms) (x ∷ ns) (suc k) n h at = (let r = went_on walks board memories ms ns k n h.1 at in record { from = r.from; at = r.at; stays = r.stays })

-- an image after its last step
pub record HasGone {M O B : Type 0} (walks : walker.Ghosts M) (board : Opened B) (memories : List (Opened O)) (first : ℕ → walks.Config) (members : List (Member M)) (k : ℕ) (n : Member M) : Type 0 where
  pub from : Member M
  pub at : At members k from
  pub number : n.run.image.0 ≡ suc k
  pub passes : ArePassesOf board memories n.run n.passes
  pub goes : GoesOn walks (length memories) (first (suc k)) (walks.asks_left (walks.config from.run.machine)) n.run n.passes

module _ {M O B : Type 0} (gate : Opened B) (gates : List (Opened O)) (passes : List Passes) (members : List (Member M)) (images : List (ImageRun M)) (mems : List O) (board : B) (fabric : IsNewFabric mems board gate gates passes)
    (runs_are : map run_of members ≡ images) (passes_are : map passes_of members ≡ passes) (numbered : AreNumbered images) where
  number_first : (k : ℕ) (m : Member M) → At members k m → m.run.image.0 ≡ suc k
  number_first k m at =
      let a : At images k m.run = subst (λ l. At l k m.run) runs_are (at_mapped run_of members k m at) in
      numbered k m.run (is_there images k m.run a) (sym (at_is images k m.run m.run a))

  -- the passes of an image before its first turn
  passes_first : (k : ℕ) (m : Member M) → At members k m → ArePassesOf gate gates m.run m.passes
  passes_first k m at =
      let f = fabric.fresh k m.passes (subst (λ l. At l k m.passes) passes_are (at_mapped passes_of members k m at)) in
      let number = number_first k m at in
      record {
        image = omega arith;
        passes = subst (λ (z : ℕ × Known × List Known). AreOf gate gates z.0 z.1 z.2) (λ j. (sym number j, sym f.0 j, sym f.1 j)) (record {
          board_is = (refl, refl);
          wide = length-map gates (fresh_pass (suc k));
          each = λ o g q at_gate a. (let t = mapped_at (fresh_pass (suc k)) gates o q a in
              let same : t.0 ≡ g = some-injective t.0 g (sym t.1 ∙ at_gate) in
              subst (λ (z : Known). IsPassOf g z × (z.image ≡ suc k)) (ap (fresh_pass (suc k)) (sym same) ∙ t.2) (refl, refl));
        });
      }

  pub all_first : HavePasses gate gates members
  all_first k m at = passes_first k m at

module _ {M O B : Type 0} (walks : walker.Ghosts M) (memory : objects.Ghosts O) (control : objects.Ghosts B) (p : PartsOf M O B) (gate : Opened B) (gates : List (Opened O)) (passes : List Passes)
    (members members' : List (Member M)) (b : Beginning walks.Config memory.Made control.Made)
    (fabric : IsNewFabric p.memories.items p.board gate gates passes) (runs_are : map run_of members ≡ p.images.items) (passes_are : map passes_of members ≡ passes)
    (goes : GoOn walks gate gates members members') (sound : AreNumbered p.images.items) (none : HasNoStep (moment walks memory control p)) (kept_before : IsKept (rules walks memory control) b (moment walks memory control p)) where
  abbrev r : Rules walks.Config memory.Made control.Made
  r = rules walks memory control

  pub so_many_gates : length gates ≡ b.images
  so_many_gates =
      sym (length-map gates (λ (g : Opened O). g.start)) ∙ ap length fabric.gates_are.starts ∙ sym (length-map p.memories.items memory.made) ∙ ap length kept_before.memories ∙ length-map-range_with_len b.memory 1 b.images

  so_many_members : length members ≡ b.images
  so_many_members = sym (length-map members run_of) ∙ ap length runs_are ∙ sym (length-map p.images.items (λ (x : ImageRun M). walks.config x.machine)) ∙ kept_before.count

  pub so_many : length members' ≡ b.images
  so_many = as_many walks gate gates members members' goes ∙ so_many_members

  -- an image before its first step
  run_at : (k : ℕ) (m : Member M) → At members k m → At p.images.items k m.run
  run_at k m at = subst (λ l. At l k m.run) runs_are (at_mapped run_of members k m at)

  number_at : (k : ℕ) (m : Member M) → At members k m → m.run.image.0 ≡ suc k
  number_at k m at = let a = run_at k m at in sound k m.run (is_there p.images.items k m.run a) (sym (at_is p.images.items k m.run m.run a))

  idle_at : (k : ℕ) (m : Member M) → At members k m → m.run.events.items ≡ []
  idle_at k m at =
      sym (at_is (event_lists p.images.items) k m.run.events.items [] (at_mapped (λ (x : ImageRun M). x.events.items) p.images.items k m.run (run_at k m at)))
      ∙ ap (λ ls. slice_index_or ls k []) none.events ∙ empty_at (replicate (length (event_lists p.images.items)) []) (length (event_lists p.images.items)) (suc k) refl

  config_at : (k : ℕ) (m : Member M) → At members k m → item_at (map (λ (x : ImageRun M). walks.config x.machine) p.images.items) (suc k) ≡ Some (walks.config m.run.machine)
  config_at k m at = got (map (λ (x : ImageRun M). walks.config x.machine) p.images.items) k (walks.config m.run.machine) (at_mapped (λ (x : ImageRun M). walks.config x.machine) p.images.items k m.run (run_at k m at))
    where
      got : {A : Type 0} (xs : List A) (k : ℕ) (x : A) → At xs k x → slice_get xs k ≡ Some x
      got [] k x h = absurd (some-ne-none x (sym h))
      got (y ∷ ys) zero x h = ap (λ z. Some z) (some-injective y x h)
      got (y ∷ ys) (suc k) x h = got ys k x h

  fresh_linked : (k : ℕ) (m : Member M) → At members k m → AreLinked (suc (length gates)) (suc k) [] (turns.passes_of m.passes)
  fresh_linked k m at =
      let f = fabric.fresh k m.passes (subst (λ l. At l k m.passes) passes_are (at_mapped passes_of members k m at)) in
      record {
        events = image_none Entry image_of key_of stamp_of (suc k) (suc (length gates));
        wide = ap (λ n. suc n) (ap length f.1 ∙ length-map gates (fresh_pass (suc k)));
        each = λ o q a. each_fresh o q (subst (λ (z : Known × List Known). At (z.0 ∷ z.1) o q) (λ j. (f.0 j, f.1 j)) a);
      }
    where
      each_fresh : (o : ℕ) (q : Known) → At (fresh_pass (suc k) gate ∷ map (fresh_pass (suc k)) gates) o q → (q.image ≡ suc k) × Linked image_of key_of stamp_of (suc k) o [] q.seen q.own
      each_fresh zero q a = subst (λ (z : Known). (z.image ≡ suc k) × Linked image_of key_of stamp_of (suc k) 0 [] z.seen z.own) (some-injective (fresh_pass (suc k) gate) q a) (refl, linked_none Entry image_of key_of stamp_of (suc k) 0)
      each_fresh (suc o) q a =
          let t = mapped_at (fresh_pass (suc k)) gates o q a in
          subst (λ (z : Known). (z.image ≡ suc k) × Linked image_of key_of stamp_of (suc k) (suc o) [] z.seen z.own) t.2 (refl, linked_none Entry image_of key_of stamp_of (suc k) (suc o))

  goes_first : (k : ℕ) (m : Member M) → At members k m → GoesOn walks (length gates) (b.first (suc k)) (walks.asks_left (walks.config m.run.machine)) m.run m.passes
  goes_first k m at =
      let none_made = idle_at k m at in
      let number = number_at k m at in
      let lane = kept_before.lanes (suc k) (walks.config m.run.machine) (config_at k m at) in
      let listed : list_at (event_lists p.images.items) (suc k) ≡ [] = (at_is (event_lists p.images.items) k m.run.events.items [] (at_mapped (λ (x : ImageRun M). x.events.items) p.images.items k m.run (run_at k m at)) ∙ none_made) in
      record {
        walked = subst (λ es. HasWalked walks.step walks.asks_left (length gates) (b.first (suc k)) (walks.asks_left (walks.config m.run.machine)) es (walks.config m.run.machine)) (sym none_made) (record {
          walks = subst (λ (es : List Event). WalkTo walks.step (b.first (suc k)) (map said es) (walks.config m.run.machine)) listed lane.walks;
          rests = lane.rests;
          places = tt;
          alone = tt;
          few = omega arith;
        });
        linked = subst (λ (z : ℕ × List Event). AreLinked (suc (length gates)) z.0 z.1 (turns.passes_of m.passes)) (λ j. (sym number j, sym none_made j)) (fresh_linked k m at);
      }

  pub has_gone : (k : ℕ) (n : Member M) → At members' k n → HasGone walks gate gates b.first members k n
  has_gone k n at =
      let w = went_on walks gate gates members members' k n goes at in
      record {
        from = w.from;
        at = w.at;
        number = ap (λ i. i.0) w.stays.image ∙ number_at k w.from w.at;
        passes = w.stays.passes;
        goes = w.stays.goes_on (b.first (suc k)) (walks.asks_left (walks.config w.from.run.machine)) (goes_first k w.from w.at);
      }

  module _ (memories' : List O) (board' : B) (ends_board : EndsWith control (with_back (board_column (map passes_of members')) (closing_of (images_to (length gates)) gate)) board')
      (so_many_memories : length memories' ≡ length gates)
      (ends : (k : ℕ) (g : Opened O) (o : O) → At gates k g → At memories' k o → EndsWith memory (with_back (column k (map passes_of members')) (closing_of (images_to (length gates)) g)) o) where
    abbrev histories : List (List Entry)
    histories = map memory.history memories'

    abbrev lists : List (List Event)
    lists = event_lists (map run_of members')

    abbrev now : Moment walks.Config memory.Made control.Made
    now = record {
      configs = map (λ (x : ImageRun M). walks.config x.machine) (map run_of members');
      events = lists;
      memories = map memory.made memories';
      histories = histories;
      board = control.made board';
      board_history = control.history board';
    }

    list_is : (k : ℕ) (n : Member M) → At members' k n → list_at lists (suc k) ≡ n.run.events.items
    list_is k n at = at_is lists k n.run.events.items [] (at_mapped (λ (x : ImageRun M). x.events.items) (map run_of members') k n.run (at_mapped run_of members' k n at))

    so_many_lists : length lists ≡ b.images
    so_many_lists = length-map (map run_of members') (λ (x : ImageRun M). x.events.items) ∙ length-map members' run_of ∙ so_many

    history_is : (k : ℕ) (o : O) → At memories' k o → slice_index_or histories k [] ≡ memory.history o
    history_is k o at = at_is histories k (memory.history o) [] (at_mapped memory.history memories' k o at)

    -- what the image has seen of the object, and the object's history
    seen_by : (k o : ℕ) (n : Member M) → At members' k n → o < suc (length gates) → HasSeen image_of key_of stamp_of (suc k) o (entries_of lists (suc k)) (history_of (control.history board') histories (suc o))
    seen_by k zero n at lt =
        let h = has_gone k n at in
        let t = h.goes.linked.each 0 n.passes.board refl in
        let e = back_at (λ (x : Kept). (of image_of x.image (control.history board') ≡ x.own) × StartsWith (control.history board') x.seen) (λ (q : Passes). kept_known q.board) (map passes_of members') k n.passes ends_board.lists (at_mapped passes_of members' k n at) in
        record {
          seen = n.passes.board.seen;
          own = n.passes.board.own;
          linked = subst (λ (z : ℕ × List Event). Linked image_of key_of stamp_of (suc k) 0 (map (entry z.0) z.1) n.passes.board.seen n.passes.board.own) (λ j. (h.number j, sym (list_is k n at) j))
              (subst (λ i. Linked image_of key_of stamp_of i 0 (map (entry n.run.image.0) n.run.events.items) n.passes.board.seen n.passes.board.own) h.number t.1);
          closed = record { longer = e.1; mine = subst (λ i. of image_of i (control.history board') ≡ n.passes.board.own) (t.0 ∙ h.number) e.0 };
        }
    seen_by k (suc o) n at lt =
        let h = has_gone k n at in
        let w = h.goes.linked.wide in
        let q = found n.passes.memories.items o (omega arith) in
        let t = h.goes.linked.each (suc o) q.0 q.1 in
        let g = found gates o (omega arith) in
        let m = found memories' o (omega arith) in
        let e = back_at (λ (x : Kept). (of image_of x.image (memory.history m.0) ≡ x.own) × StartsWith (memory.history m.0) x.seen) (λ (x : Passes). kept_known (slice_index_or x.memories.items o x.board)) (map passes_of members') k n.passes
        (ends o g.0 m.0 g.1 m.1).lists (at_mapped passes_of members' k n at) in
        let here = subst (λ (x : Known). (of image_of x.image (memory.history m.0) ≡ x.own) × StartsWith (memory.history m.0) x.seen) (at_is n.passes.memories.items o q.0 n.passes.board q.1) e in
        record {
          seen = q.0.seen;
          own = q.0.own;
          linked = subst (λ (z : ℕ × List Event). Linked image_of key_of stamp_of (suc k) (suc o) (map (entry z.0) z.1) q.0.seen q.0.own) (λ j. (h.number j, sym (list_is k n at) j))
              (subst (λ i. Linked image_of key_of stamp_of i (suc o) (map (entry n.run.image.0) n.run.events.items) q.0.seen q.0.own) h.number t.1);
          closed = subst (λ l. Closed image_of key_of stamp_of (suc k) l q.0.seen q.0.own) (sym (history_is o m.0 m.1)) (record { longer = here.1; mine = subst (λ i. of image_of i (memory.history m.0) ≡ q.0.own) (t.0 ∙ h.number) here.0 });
        }

    -- no object has an entry of another number
    strange : (i o : ℕ) → (i ≡ 0) ⊎ (length gates < i) → of image_of i (history_of (control.history board') histories (suc o)) ≡ []
    strange i zero out = ends_board.others i (not_among (length gates) i out)
    strange i (suc o) out = elim (cases_lt o (length gates)) [
      | inl l ↦ (
          let g = found gates o l in
          let m = found memories' o (omega arith) in
          subst (λ h. of image_of i h ≡ []) (sym (history_is o m.0 m.1)) ((ends o g.0 m.0 g.1 m.1).others i (not_among (length gates) i out)))
      | inr l ↦ subst (λ h. of image_of i h ≡ []) (sym (past o l)) refl
    ]
      where
        past : (o : ℕ) → length gates ≤ o → slice_index_or histories o [] ≡ []
        past o l = let c = length-map memories' memory.history in get_or_past histories o [] (omega arith)

    nothing_seen : (i o : ℕ) → (i ≡ 0) ⊎ (length gates < i) → HasSeen image_of key_of stamp_of i o [] (history_of (control.history board') histories (suc o))
    nothing_seen i o out = record {
      seen = [];
      own = [];
      linked = linked_none Entry image_of key_of stamp_of i o;
      closed = record { longer = (history_of (control.history board') histories (suc o), refl); mine = strange i o out };
    }

    closed_all : AllClosed image_of key_of stamp_of (suc b.images) (entries_of lists) (history_of (control.history board') histories)
    closed_all = subst (λ n. AllClosed image_of key_of stamp_of (suc n) (entries_of lists) (history_of (control.history board') histories)) so_many_gates (record {
      images = images;
      rises = rises;
      seen = seen;
      none_else = none_else;
    })
      where
        no_list : (k : ℕ) → length gates ≤ k → list_at lists (suc k) ≡ []
        no_list k l = let c = so_many_lists in let g = so_many_gates in get_or_past lists k [] (omega arith)

        images : (i : ℕ) → OfImage image_of key_of stamp_of i (suc (length gates)) (entries_of lists i)
        images zero = image_none Entry image_of key_of stamp_of 0 (suc (length gates))
        images (suc k) = elim (cases_lt k (length gates)) [
          | inl l ↦ (
              let c = so_many in
              let g = so_many_gates in
              let n = found members' k (omega arith) in
              let h = has_gone k n.0 n.1 in
              subst (λ (z : ℕ × List Event). OfImage image_of key_of stamp_of z.0 (suc (length gates)) (map (entry z.0) z.1)) (λ j. (h.number j, sym (list_is k n.0 n.1) j)) h.goes.linked.events)
          | inr l ↦ subst (λ es. OfImage image_of key_of stamp_of (suc k) (suc (length gates)) (map (entry (suc k)) es)) (sym (no_list k l)) (image_none Entry image_of key_of stamp_of (suc k) (suc (length gates)))
        ]

        rises : (o : ℕ) → Rises stamp_of (history_of (control.history board') histories (suc o))
        rises zero = ends_board.rises
        rises (suc o) = elim (cases_lt o (length gates)) [
          | inl l ↦ (
              let g = found gates o l in
              let m = found memories' o (omega arith) in
              subst (Rises stamp_of) (sym (history_is o m.0 m.1)) (ends o g.0 m.0 g.1 m.1).rises)
          | inr l ↦ (let c = length-map memories' memory.history in subst (Rises stamp_of) (sym (get_or_past histories o [] (omega arith))) tt)
        ]

        seen : (i o : ℕ) → o < suc (length gates) → HasSeen image_of key_of stamp_of i o (entries_of lists i) (history_of (control.history board') histories (suc o))
        seen zero o lt = nothing_seen 0 o (inl refl)
        seen (suc k) o lt = elim (cases_lt k (length gates)) [
          | inl l ↦ (
              let c = so_many in
              let g = so_many_gates in
              let n = found members' k (omega arith) in
              seen_by k o n.0 n.1 lt)
          | inr l ↦ subst (λ es. HasSeen image_of key_of stamp_of (suc k) o (map (entry (suc k)) es) (history_of (control.history board') histories (suc o))) (sym (no_list k l)) (nothing_seen (suc k) o (inr (omega arith)))
        ]

        none_else : (o : ℕ) → suc (length gates) ≤ o → history_of (control.history board') histories (suc o) ≡ []
        none_else zero l = absurd (omega arith)
        none_else (suc o) l = (let c = length-map memories' memory.history in get_or_past histories o [] (omega arith))

    memories_are : map memory.made memories' ≡ map b.memory (numbers_to b.images)
    memories_are =
        same_mapped memory.made (λ (g : Opened O). memory.made g.start) memories' gates so_many_memories (λ k o g a c. (ends k g o c a).made)
        ∙ sym (map_twice (λ (g : Opened O). g.start) memory.made gates) ∙ ap (map memory.made) fabric.gates_are.starts ∙ kept_before.memories

    board_is : control.made board' ≡ b.board
    board_is = ends_board.made ∙ ap control.made fabric.board_is ∙ kept_before.board

    memory_is : (k : ℕ) (o : O) → At memories' k o → k < length gates → memory.made o ≡ b.memory (suc k)
    memory_is k o at lt =
        let g = so_many_gates in
        some-injective (memory.made o) (b.memory (suc k)) (sym (subst (λ l. At l k (memory.made o)) memories_are (at_mapped memory.made memories' k o at)) ∙ at_get (map b.memory (numbers_to b.images)) k (b.memory (suc k)) (numbered_item b.memory b.images (suc k) (omega arith) (omega arith)))

    served_at : (i : ℕ) → IsImage b i → Served (memory.ready_after (b.memory i)) (memory.reply_after (b.memory i)) [] (list_at histories i)
    served_at zero h = absurd (let l = h.0 in omega arith)
    served_at (suc k) h =
        let c = so_many_gates in
        let l = h.1 in
        let g = found gates k (omega arith) in
        let m = found memories' k (omega arith) in
        subst (λ (z : memory.Made × List Entry). Served (memory.ready_after z.0) (memory.reply_after z.0) [] z.1) (λ j. (memory_is k m.0 m.1 (omega arith) j, sym (history_is k m.0 m.1) j)) (ends k g.0 m.0 g.1 m.1).served

    come_at : (i : ℕ) (c : walks.Config) → item_at now.configs i ≡ Some c → HasCome r b i (list_at lists i) c
    come_at zero c at = absurd (cc)
    come_at (suc k) c at =
        let x = mapped_at (λ (y : ImageRun M). walks.config y.machine) (map run_of members') k c (at_get now.configs k c at) in
        let n = mapped_at run_of members' k x.0 x.1 in
        let h = has_gone k n.0 n.1 in
        let is : walks.config n.0.run.machine ≡ c = ap (λ (y : ImageRun M). walks.config y.machine) n.2 ∙ x.2 in
        subst (λ (z : List Event × walks.Config). HasCome r b (suc k) z.0 z.1) (λ j. (sym (list_is k n.0 n.1) j, is j)) (record {
          walks = h.goes.walked.walks;
          rests = h.goes.walked.rests;
          places = subst (λ j. Each (λ (e : Event). IsThere j (place_of e.ask)) n.0.run.events.items) so_many_gates h.goes.walked.places;
          alone = h.goes.walked.alone;
        })

    pub together : AreTogether r b now
    together = record {
      fit = kept_before.fit;
      count = length-map (map run_of members') (λ (x : ImageRun M). walks.config x.machine) ∙ length-map members' run_of ∙ so_many;
      event_count = so_many_lists;
      history_count = length-map memories' memory.history ∙ so_many_memories ∙ so_many_gates;
      memories = memories_are;
      board = board_is;
      linked = closed_all;
      memories_served = served_at;
      board_served = subst (λ z. Served (control.ready_after z) (control.reply_after z) [] (control.history board')) board_is ends_board.served;
      come = come_at;
    }
