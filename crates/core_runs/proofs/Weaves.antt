-- A step keeps the lists those of one run.
use Rattle.std.proofs.Common.{◌≡◌, ℕ, zero, suc, ◌<◌, max, List, [], ◌∷◌, ◌++◌, length, refl, ap, sym, ◌∙◌, subst, arith, IsTrue, length-set}
use Rattle.std.specs.Prelude.{map, slice_index_or, slice_set, Option, Some, None}
use Rattle.caf_base.specs.declared.place.Place.{Place}
use Rattle.caf_base.specs.declared.place.Place.TheVariants as places
use Rattle.caf_base.specs.declared.place.ImageNo.{ImageNo}
use Rattle.caf_events.specs.declared.ask.Ask.{Ask}
use Rattle.caf_events.specs.declared.event.Event.{Event}
use Rattle.caf_events.specs.declared.event.Entry.{Entry}
use Rattle.caf_events.specs.Asks.{place_of, object_of}
use Rattle.caf_events.specs.Histories.{last_stamp_of, last_stamp_from}
use Rattle.trace_theory.specs.Entries.{last_or}
use Rattle.trace_theory.specs.Runs.{Adds, due, place_last}
use Rattle.trace_theory.proofs.More.{woven_more}
use Rattle.core_runs.specs.Lists.{image_of, key_of, stamp_of, stamp_alone, own_stamp, entry, list_at, entries_of, history_of, last_of, IsWoven}
use Rattle.core_runs.specs.Moments.{Rules, Moment, item_at, with_item, ready_there, memory_ready_at, history_there, histories_with, board_with, Steps}
use Rattle.core_runs.proofs.Numbered.{item_within, index_same, index_other, list_other}

pub map_append : {A B : Type 0} (f : A → B) (xs ys : List A) → map f (xs ++ ys) ≡ map f xs ++ map f ys
map_append f [] ys = refl
map_append f (x ∷ xs) ys = ap (λ zs. f x ∷ zs) (map_append f xs ys)

last_or_map : (i n : ℕ) (es : List Event) → last_or stamp_of n (map (entry i) es) ≡ last_or (λ (e : Event). e.stamp) n es
last_or_map i n [] = refl
last_or_map i n (e ∷ es) = last_or_map i e.stamp es

last_stamp_is : (n : ℕ) (h : List Entry) → last_stamp_from n h ≡ last_or stamp_of n h
last_stamp_is n [] = refl
last_stamp_is n (e ∷ es) = last_stamp_is e.event.stamp es

suc_same : (a b : ℕ) → suc a ≡ suc b → a ≡ b
suc_same a b p = omega arith

-- an item that is there has a number from 1 to their count
pub number_of : {A : Type 0} (xs : List A) (n : ℕ) (x : A) → item_at xs n ≡ Some x → (j : ℕ) × (n ≡ suc j) × (j < length xs)
number_of xs zero x h = absurd (cc)
number_of xs (suc j) x h = (j, refl, item_within xs j x h)

ready_item : {C M B : Type 0} (r : Rules C M B) (h : List Entry) (i : ℕ) (a : Ask) (xs : List M) (n : ℕ) (v : Option M) → item_at xs n ≡ v → IsTrue (memory_ready_at r h i a v) → (j : ℕ) × (n ≡ suc j) × (j < length xs)
ready_item r h i a xs n None e t = absurd (cc)
ready_item r h i a xs n (Some x) e t = number_of xs n x e

-- the place of a step that is ready: the image itself, the board, or a memory that the run has
pub data Where (n : ℕ) : Place → Type 0 where
  own : Where n places.Own
  board : Where n places.Board
  memory : (owner : ImageNo) (j : ℕ) → owner.0 ≡ suc j → j < n → Where n (places.Memory owner)

-- at an object and at an image's own place alike the stamp that is due to a step is one more than the greater of the
-- last ones, unless it is a limit of stamps
due_is : (o mine there : ℕ) (x : Entry) → ((n : ℕ) → own_stamp x n ≡ suc n) → (o ≡ 0 → there ≡ 0) → due own_stamp o x mine there ≡ suc (max mine there)
due_is zero mine there x rises none = let z = none refl in rises mine ∙ omega arith
due_is (suc o) mine there x rises none = refl

module _ {C M B : Type 0} (r : Rules C M B) (m m' : Moment C M B) (k : ℕ) (e : Event) (as_many : length m.events ≡ length m.configs) (as_many_histories : length m.histories ≡ length m.memories) (s : Steps r m (suc k) e m') (rises : (n : ℕ) → stamp_alone e.ask n ≡ suc n) where
  found : (q : Place) → IsTrue (ready_there r m (suc k) e.ask q) → Where (length m.histories) q
  found (places.Memory owner) t =
      let w = ready_item r (list_at m.histories owner.0) (suc k) e.ask m.memories owner.0 (item_at m.memories owner.0) refl t in
      let l = w.2 in
      memory owner w.0 w.1 (omega arith)
  found places.Board t = board
  found places.Own t = own

  within : k < length m.events
  within = let h = item_within m.configs k s.from s.stands in omega arith

  events_here : entries_of m'.events (suc k) ≡ entries_of m.events (suc k) ++ entry (suc k) e ∷ []
  events_here =
      ap (map (entry (suc k))) (ap (λ ls. list_at ls (suc k)) s.events ∙ index_same m.events k (list_at m.events (suc k) ++ e ∷ []) [] within)
      ∙ map_append (entry (suc k)) (list_at m.events (suc k)) (e ∷ [])

  events_there : (i : ℕ) → (suc k ≡ i → ⊥) → entries_of m'.events i ≡ entries_of m.events i
  events_there i n = ap (map (entry i)) (ap (λ ls. list_at ls i) s.events ∙ list_other m.events (suc k) i (list_at m.events (suc k) ++ e ∷ []) n)

  -- a memory's history, and those of the other objects, after an entry at the memory
  memory_here : (j : ℕ) → j < length m.histories → (o : ℕ) → suc (suc j) ≡ suc o
      → history_of m.board_history (with_item m.histories (suc j) (list_at m.histories (suc j) ++ entry (suc k) e ∷ [])) (suc o) ≡ history_of m.board_history m.histories (suc o) ++ entry (suc k) e ∷ []
  memory_here j l zero p = absurd (omega arith)
  memory_here j l (suc o) p =
      let q : j ≡ o = omega arith in
      subst (λ n. slice_index_or (slice_set m.histories j (slice_index_or m.histories j [] ++ entry (suc k) e ∷ [])) n [] ≡ slice_index_or m.histories n [] ++ entry (suc k) e ∷ []) q
      (index_same m.histories j (slice_index_or m.histories j [] ++ entry (suc k) e ∷ []) [] l)

  memory_there : (j o : ℕ) → (suc (suc j) ≡ suc o → ⊥)
      → history_of m.board_history (with_item m.histories (suc j) (list_at m.histories (suc j) ++ entry (suc k) e ∷ [])) (suc o) ≡ history_of m.board_history m.histories (suc o)
  memory_there j zero n = refl
  memory_there j (suc o) n = index_other m.histories j o (slice_index_or m.histories j [] ++ entry (suc k) e ∷ []) [] (λ p. n (ap (λ z. suc (suc z)) p))

  -- the histories after an entry at a place
  histories_here : (q : Place) → Where (length m.histories) q → (o : ℕ) → object_of q ≡ suc o
      → history_of (board_with q m.board_history (entry (suc k) e)) (histories_with q m.histories (entry (suc k) e)) (suc o) ≡ history_of m.board_history m.histories (suc o) ++ entry (suc k) e ∷ []
  histories_here places.Own own o p = absurd (omega arith)
  histories_here places.Board board zero p = refl
  histories_here places.Board board (suc o) p = absurd (omega arith)
  histories_here (places.Memory owner) (memory _ j q l) o p =
      subst (λ n. suc n ≡ suc o → history_of m.board_history (with_item m.histories n (list_at m.histories n ++ entry (suc k) e ∷ [])) (suc o) ≡ history_of m.board_history m.histories (suc o) ++ entry (suc k) e ∷ []) (sym q) (memory_here j l o) p

  histories_there : (q : Place) → Where (length m.histories) q → (o : ℕ) → (object_of q ≡ suc o → ⊥)
      → history_of (board_with q m.board_history (entry (suc k) e)) (histories_with q m.histories (entry (suc k) e)) (suc o) ≡ history_of m.board_history m.histories (suc o)
  histories_there places.Own own o n = refl
  histories_there places.Board board zero n = absurd (n refl)
  histories_there places.Board board (suc o) n = refl
  histories_there (places.Memory owner) (memory _ j q l) o n =
      subst (λ v. (suc v ≡ suc o → ⊥) → history_of m.board_history (with_item m.histories v (list_at m.histories v ++ entry (suc k) e ∷ [])) (suc o) ≡ history_of m.board_history m.histories (suc o)) (sym q) (memory_there j o) n

  history_is : (q : Place) → Where (length m.histories) q → last_stamp_of (history_there m q) ≡ place_last stamp_of (object_of q) (history_of m.board_history m.histories (object_of q))
  history_is places.Own own = refl
  history_is places.Board board = last_stamp_is 0 m.board_history
  history_is (places.Memory owner) (memory _ j q l) =
      subst (λ n. last_stamp_of (list_at m.histories n) ≡ place_last stamp_of (suc n) (history_of m.board_history m.histories (suc n))) (sym q) (last_stamp_is 0 (slice_index_or m.histories j []))

  place : Where (length m.histories) (place_of e.ask)
  place = found (place_of e.ask) s.due.ready

  now_is : (o : ℕ) → history_of m'.board_history m'.histories (suc o) ≡ history_of (board_with (place_of e.ask) m.board_history (entry (suc k) e)) (histories_with (place_of e.ask) m.histories (entry (suc k) e)) (suc o)
  now_is o = ap (λ b. history_of b m'.histories (suc o)) s.board_history ∙ ap (λ hs. history_of (board_with (place_of e.ask) m.board_history (entry (suc k) e)) hs (suc o)) s.histories

  greater : e.stamp ≡ suc (max (last_or stamp_of 0 (entries_of m.events (suc k))) (place_last stamp_of (object_of (place_of e.ask)) (history_of m.board_history m.histories (object_of (place_of e.ask)))))
  greater =
      let t = s.due.stamp in
      let a = last_or_map (suc k) 0 (list_at m.events (suc k)) in
      let b = history_is (place_of e.ask) place in
      let c : e.stamp ≡ suc (max (last_of (list_at m.events (suc k))) (last_stamp_of (history_there m (place_of e.ask)))) = omega arith in
      c ∙ ap (λ n. suc (max n (last_stamp_of (history_there m (place_of e.ask))))) (sym a) ∙ ap (λ n. suc (max (last_or stamp_of 0 (entries_of m.events (suc k))) n)) b

  abbrev key : ℕ
  key = object_of (place_of e.ask)

  abbrev mine : ℕ
  mine = last_or stamp_of 0 (entries_of m.events (suc k))

  abbrev there : ℕ
  there = place_last stamp_of key (history_of m.board_history m.histories key)

  at_own : (o : ℕ) → o ≡ 0 → place_last stamp_of o (history_of m.board_history m.histories o) ≡ 0
  at_own zero z = refl
  at_own (suc o) z = absurd (omega arith)

  adds : Adds image_of key_of stamp_of own_stamp (entries_of m.events) (history_of m.board_history m.histories) (entries_of m'.events) (history_of m'.board_history m'.histories) (entry (suc k) e)
  adds = record {
    image_more = events_here;
    image_same = events_there;
    object_more = λ o p. now_is o ∙ histories_here (place_of e.ask) place o p;
    object_same = λ o n. now_is o ∙ histories_there (place_of e.ask) place o n;
    stamped = greater ∙ sym (due_is key mine there (entry (suc k) e) rises (at_own key));
    above = let g = greater in omega arith;
  }

  pub woven_step : IsWoven m.events m.board_history m.histories → IsWoven m'.events m'.board_history m'.histories
  woven_step w = woven_more Entry image_of key_of stamp_of own_stamp (entries_of m.events) (history_of m.board_history m.histories) (entries_of m'.events) (history_of m'.board_history m'.histories) (entry (suc k) e) w adds

-- the count of items stays
pub with_length : {A : Type 0} (xs : List A) (n : ℕ) (x : A) → length (with_item xs n x) ≡ length xs
with_length xs zero x = refl
with_length xs (suc k) x = length-set xs k x

pub histories_length : (q : Place) (hs : List (List Entry)) (x : Entry) → length (histories_with q hs x) ≡ length hs
histories_length (places.Memory owner) hs x = with_length hs owner.0 (list_at hs owner.0 ++ x ∷ [])
histories_length places.Board hs x = refl
histories_length places.Own hs x = refl

-- a step that is no limit of stamps keeps the lists those of one run, whatever its image's number
pub woven_by : {C M B : Type 0} (r : Rules C M B) (m m' : Moment C M B) (n : ℕ) (e : Event) → length m.events ≡ length m.configs → length m.histories ≡ length m.memories → Steps r m n e m' → ((k : ℕ) → stamp_alone e.ask k ≡ suc k) → IsWoven m.events m.board_history m.histories → IsWoven m'.events m'.board_history m'.histories
woven_by r m m' zero e as_many as_many_histories s rises w = absurd (let h = s.stands in cc)
woven_by r m m' (suc k) e as_many as_many_histories s rises w = woven_step r m m' k e as_many as_many_histories s rises w
