-- The entry with which a core run goes on is the event that is due.
use Rattle.std.proofs.Common.{◌≡◌, ℕ, zero, suc, ◌+◌, ◌<◌, ◌≤◌, IsTrue, Bool, max, List, [], ◌∷◌, ◌++◌, length, refl, ap, sym, ◌∙◌, subst, arith, append_assoc}
use Rattle.std.specs.Prelude.{map, slice_get, Some}
use Rattle.std.proofs.lemmas.List.{append-nil}
use Rattle.caf_base.specs.declared.place.Place.{Place}
use Rattle.caf_base.specs.declared.place.Place.TheVariants as places
use Rattle.caf_events.specs.declared.ask.Ask.{Ask}
use Rattle.caf_events.specs.declared.reply.Reply.{Reply}
use Rattle.caf_events.specs.declared.event.Event.{Event}
use Rattle.caf_events.specs.declared.event.Entry.{Entry}
use Rattle.caf_events.specs.Asks.{place_of, object_of}
use Rattle.caf_events.specs.Histories.{Served, last_stamp_from, last_stamp_of}
use Rattle.caf_events.specs.Walkers.{AsksNext, IsAtLine}
use Rattle.trace_theory.specs.Entries.{of, Each, last_or, Earlier, AllLater, IsTraceOrder}
use Rattle.trace_theory.specs.Machines.{Move, goes, asks, over, Said, go, goes_on, Comes, Walk, WalkTo, Rests}
use Rattle.trace_theory.specs.Runs.{due, place_last}
use Rattle.trace_theory.proofs.Filters.{of_last}
use Rattle.trace_theory.proofs.Machines.{go_more, one_next_ask, one_stop}
use Rattle.trace_theory.proofs.Snocs.{each_at}
use Rattle.core_runs.specs.Lists.{image_of, key_of, stamp_of, own_stamp, entry, said, list_at, last_of}
use Rattle.core_runs.specs.Moments.{Rules, Moment, item_at, history_there, memory_ready_at, memory_reply_at, ready_there, reply_there}
use Rattle.core_runs.specs.Beginnings.{Beginning, IsImage, IsPlace}
use Rattle.core_runs.specs.Sequences.{IsStampLimit}
use Rattle.core_runs.specs.CoreRuns.{of_image, at_board, of_memory, said_by, IsCoreRun}
use Rattle.core_runs.specs.Kept.{IsKept}
use Rattle.core_runs.specs.Traces.{IsTraceOf}
use Rattle.core_runs.proofs.Weaves.{map_append}
use Rattle.core_runs.proofs.Lanes.{numbered_item, alone_rises}
use Rattle.core_runs.proofs.Lawfuls.{answered_by}
use Rattle.core_runs.proofs.CoreRuns.{said_is, board_is, memory_is}
use Rattle.trace_judge.specs.Verdicts.{IsBehind, IsDueNow}

item_there : {A : Type 0} (xs : List A) (k : ℕ) → k < length xs → (x : A) × (slice_get xs k ≡ Some x)
item_there [] k h = absurd (omega arith)
item_there (x ∷ xs) zero h = (x, refl)
item_there (x ∷ xs) (suc k) h = item_there xs k (omega arith)

image_there : {A : Type 0} (xs : List A) (n i : ℕ) → length xs ≡ n → 0 < i → i ≤ n → (x : A) × (item_at xs i ≡ Some x)
image_there xs n zero l low high = absurd (omega arith)
image_there xs n (suc k) l low high = item_there xs k (omega arith)

module _ {C A R : Type 0} (step : C → Move C A R) where
  -- a walk ends at one place
  walk_one : (es : List (Said A R)) (c d f : C) → Walk step c es d → Walk step c es f → d ≡ f
  walk_one [] c d f v w = v ∙ sym w
  walk_one (e ∷ es) c d f (k, comes, v) (j, comes', w) =
      let same : k ≡ j = (one_next_ask C A R step c e.ask e.ask e.line e.line k j comes comes').2 in
      walk_one es (k e.reply) d f v (subst (λ g. Walk step (g e.reply) es f) (sym same) w)

  -- what comes last in a walk
  pub record Last (c : C) (es : List (Said A R)) (e : Said A R) : Type 0 where
    pub from : C
    pub walk : Walk step c es from
    pub then : R → C
    pub comes : Comes step from (asks e.ask e.line then)

  walk_last : (es : List (Said A R)) (e : Said A R) (c d : C) → Walk step c (es ++ e ∷ []) d → Last c es e
  walk_last [] e c d (k, comes, w) = record { from = c; walk = refl; then = k; comes = comes }
  walk_last (x ∷ es) e c d (k, comes, w) = let r = walk_last es e (k x.reply) d w in record { from = r.from; walk = (k, comes, r.walk); then = r.then; comes = r.comes }

  -- a machine that came to rest where a walk ends stands at the ask that comes next in a longer walk
  stands_at : (es : List (Said A R)) (e : Said A R) (c d f : C) → WalkTo step c es d → Rests (step d) → Walk step c (es ++ e ∷ []) f → (k : R → C) × (step d ≡ asks e.ask e.line k)
  stands_at es e c d f (m, walk, n, g) rests w =
      let l = walk_last es e c f w in
      let same : l.from ≡ m = walk_one es c l.from m l.walk walk in
      let comes = subst (λ x. Comes step x (asks e.ask e.line l.then)) same l.comes in
      let here : Comes step m (step d) = (n + 1, go_more C A R step n 1 m ∙ ap (λ v. goes_on v (go step 1)) g ∙ one_more d) in
      (l.then, one_stop C A R step m (step d) (asks e.ask e.line l.then) rests tt here comes)
    where
      again : (v : Move C A R) → goes_on v (go step zero) ≡ v
      again (goes x) = refl
      again (asks a k j) = refl
      again over = refl

      one_more : (x : C) → go step 1 x ≡ step x
      one_more x = again (step x)

-- the last of what was served
served_last : (ready : List Entry → ℕ → Ask → Bool) (reply : List Entry → ℕ → Ask → Reply) (before xs : List Entry) (e : Entry) → Served ready reply before (xs ++ e ∷ [])
    → IsTrue (ready (before ++ xs) e.image.0 e.event.ask) × (e.event.reply ≡ reply (before ++ xs) e.image.0 e.event.ask)
served_last ready reply before [] e h =
    let k = sym (append-nil before) in
    (subst (λ z. IsTrue (ready z e.image.0 e.event.ask)) k h.0, h.1 ∙ ap (λ z. reply z e.image.0 e.event.ask) k)
served_last ready reply before (x ∷ xs) e h =
    let r = served_last ready reply (before ++ x ∷ []) xs e h.2 in
    let k : (before ++ x ∷ []) ++ xs ≡ before ++ x ∷ xs = append_assoc before (x ∷ []) xs in
    (subst (λ z. IsTrue (ready z e.image.0 e.event.ask)) k r.0, r.1 ∙ ap (λ z. reply z e.image.0 e.event.ask) k)

last_entries : (i n : ℕ) (es : List Event) → last_or stamp_of n (map (entry i) es) ≡ last_or (λ (e : Event). e.stamp) n es
last_entries i n [] = refl
last_entries i n (e ∷ es) = last_entries i e.stamp es

last_same : (n : ℕ) (h : List Entry) → last_or stamp_of n h ≡ last_stamp_from n h
last_same n [] = refl
last_same n (e ∷ es) = last_same e.event.stamp es

one_behind : (xs : List Entry) (e x : Entry) → AllLater image_of stamp_of x (xs ++ e ∷ []) → Earlier image_of stamp_of x e
one_behind [] e x h = h.0
one_behind (y ∷ xs) e x h = one_behind xs e x h.1

-- in the order of a trace the last entry is behind all others
pub all_behind : (t : List Entry) (e : Entry) → IsTraceOrder image_of stamp_of (t ++ e ∷ []) → IsBehind t e
all_behind [] e h = tt
all_behind (x ∷ xs) e h = (one_behind xs e x h.0, all_behind xs e h.1)

pub ordered_more : (t : List Entry) (e : Entry) → IsTraceOrder image_of stamp_of t → IsBehind t e → IsTraceOrder image_of stamp_of (t ++ e ∷ [])
ordered_more [] e o h = (tt, tt)
ordered_more (x ∷ xs) e o h = (later xs o.0, ordered_more xs e o.1 h.1)
  where
    later : (ys : List Entry) → AllLater image_of stamp_of x ys → AllLater image_of stamp_of x (ys ++ e ∷ [])
    later [] g = (h.0, tt)
    later (y ∷ ys) g = (g.0, later ys g.1)

module _ {C M B : Type 0} (r : Rules C M B) (b : Beginning C M B) (m : Moment C M B) (t : List Entry) (e : Entry) (h : IsKept r b m) (trace : IsTraceOf m.events t) (run : IsCoreRun r b (t ++ e ∷ [])) where
  i : ℕ
  i = image_of e

  in_run : IsImage b (image_of e)
  in_run = each_at (λ x. IsImage b (image_of x)) t [] e run.lawful.images

  place_in : IsPlace b (place_of e.event.ask)
  place_in = each_at (λ x. IsPlace b (place_of x.event.ask)) t [] e run.lawful.places

  saying : said_by (image_of e) (t ++ e ∷ []) ≡ map said (list_at m.events (image_of e)) ++ said e.event ∷ []
  saying =
      ap (map (λ (x : Entry). said x.event)) (of_last image_of (image_of e) t e refl)
      ∙ map_append (λ (x : Entry). said x.event) (of_image (image_of e) t) (e ∷ [])
      ∙ ap (λ z. z ++ said e.event ∷ []) (said_is r b m t h trace (image_of e))

  walk : (c : C) × Walk r.step (b.first (image_of e)) (map said (list_at m.events (image_of e)) ++ said e.event ∷ []) c
  walk = let w = run.walks (image_of e) in_run in (w.0, subst (λ z. Walk r.step (b.first (image_of e)) z w.0) saying w.1)

  asked_by : (v : Move C Ask Reply) (k : Reply → C) → v ≡ asks e.event.ask e.event.line k → AsksNext v e.event.ask × IsAtLine v e.event.line
  asked_by v k p = subst (λ z. AsksNext z e.event.ask × IsAtLine z e.event.line) (sym p) (refl, refl)

  no_limit : IsStampLimit e.event.ask → ⊥
  no_limit =
      let w = run.walks (image_of e) in_run in
      let every = (h.fit.orderly (image_of e) in_run).no_stamp_limit (said_by (image_of e) (t ++ e ∷ [])) w.0 (answered_by r b (t ++ e ∷ []) h.fit run (image_of e)) w.1 in
      each_at (λ x. IsStampLimit x.ask → ⊥) (map said (list_at m.events (image_of e))) [] (said e.event) (subst (Each (λ x. IsStampLimit x.ask → ⊥)) saying every)

  mine : last_or stamp_of 0 (of image_of (image_of e) t) ≡ last_of (list_at m.events (image_of e))
  mine = ap (last_or stamp_of 0) (trace.images (image_of e)) ∙ last_entries (image_of e) 0 (list_at m.events (image_of e))

  stamped : stamp_of e ≡ due own_stamp (key_of e) e (last_or stamp_of 0 (of image_of (image_of e) t)) (place_last stamp_of (key_of e) (of key_of (key_of e) t))
  stamped = run.lawful.stamped t [] e refl

  -- what is due by the place
  pub record IsServed (q : Place) : Type 0 where
    pub ready : IsTrue (ready_there r m (image_of e) e.event.ask q)
    pub reply : e.event.reply ≡ reply_there r m (image_of e) e.event.ask q
    pub stamp : e.event.stamp ≡ max (last_of (list_at m.events (image_of e))) (last_stamp_of (history_there m q)) + 1

  stamp_at : (o : ℕ) (hs : List Entry) → key_of e ≡ suc o → of key_of (suc o) t ≡ hs → e.event.stamp ≡ max (last_of (list_at m.events (image_of e))) (last_stamp_of hs) + 1
  stamp_at o hs key same =
      let s = subst (λ k. stamp_of e ≡ due own_stamp k e (last_or stamp_of 0 (of image_of (image_of e) t)) (place_last stamp_of k (of key_of k t))) key stamped in
      let there = ap (last_or stamp_of 0) same ∙ last_same 0 hs in
      s ∙ ap (λ z. suc (max z (last_or stamp_of 0 (of key_of (suc o) t)))) mine ∙ ap (λ z. suc (max (last_of (list_at m.events (image_of e))) z)) there ∙ omega arith

  served : (q : Place) → place_of e.event.ask ≡ q → IsServed q
  served (places.Memory owner) p =
      let key : key_of e ≡ suc owner.0 = ap object_of p in
      let within : IsPlace b (places.Memory owner) = subst (IsPlace b) p place_in in
      let all = subst (Served (r.memory_ready (b.memory owner.0)) (r.memory_reply (b.memory owner.0)) []) (of_last key_of (suc owner.0) t e key) (run.lawful.memories owner.0 within) in
      let last = served_last (r.memory_ready (b.memory owner.0)) (r.memory_reply (b.memory owner.0)) [] (of_memory owner.0 t) e all in
      let same = memory_is r b m t h trace owner.0 within.0 in
      let here : item_at m.memories owner.0 ≡ Some (b.memory owner.0) = ap (λ ms. item_at ms owner.0) h.memories ∙ numbered_item b.memory b.images owner.0 within.0 within.1 in
      record {
        ready = subst (λ v. IsTrue (memory_ready_at r (list_at m.histories owner.0) (image_of e) e.event.ask v)) (sym here) (subst (λ z. IsTrue (r.memory_ready (b.memory owner.0) z (image_of e) e.event.ask)) same last.0);
        reply = last.1 ∙ ap (λ z. r.memory_reply (b.memory owner.0) z (image_of e) e.event.ask) same ∙ ap (memory_reply_at r (list_at m.histories owner.0) (image_of e) e.event.ask) (sym here);
        stamp = stamp_at owner.0 (list_at m.histories owner.0) key same;
      }
  served places.Board p =
      let key : key_of e ≡ 1 = ap object_of p in
      let all = subst (Served (r.board_ready b.board) (r.board_reply b.board) []) (of_last key_of 1 t e key) run.lawful.board in
      let last = served_last (r.board_ready b.board) (r.board_reply b.board) [] (at_board t) e all in
      let same = board_is r b m t h trace in
      record {
        ready = subst (λ v. IsTrue (r.board_ready v m.board_history (image_of e) e.event.ask)) (sym h.board) (subst (λ z. IsTrue (r.board_ready b.board z (image_of e) e.event.ask)) same last.0);
        reply = last.1 ∙ ap (λ z. r.board_reply b.board z (image_of e) e.event.ask) same ∙ ap (λ v. r.board_reply v m.board_history (image_of e) e.event.ask) (sym h.board);
        stamp = stamp_at 0 m.board_history key same;
      }
  served places.Own p =
      let key : key_of e ≡ 0 = ap object_of p in
      let s = subst (λ k. stamp_of e ≡ due own_stamp k e (last_or stamp_of 0 (of image_of (image_of e) t)) (place_last stamp_of k (of key_of k t))) key stamped in
      let rises = alone_rises e.event.ask (last_or stamp_of 0 (of image_of (image_of e) t)) no_limit in
      record {
        ready = refl;
        reply = each_at _ t [] e run.lawful.alone p;
        stamp = s ∙ rises ∙ ap suc mine ∙ omega arith;
      }

  pub due_now : IsDueNow r m e
  due_now =
      let at = image_there m.configs b.images (image_of e) h.count in_run.0 in_run.1 in
      let lane = h.lanes (image_of e) at.0 at.1 in
      let k = stands_at r.step (map said (list_at m.events (image_of e))) (said e.event) (b.first (image_of e)) at.0 walk.0 lane.walks lane.rests walk.1 in
      let asked = asked_by (r.step at.0) k.0 k.1 in
      let s = served (place_of e.event.ask) refl in
      record { config = at.0; stands = at.1; due = record { asked = asked.0; line = asked.1; ready = s.ready; reply = s.reply; stamp = s.stamp } }
