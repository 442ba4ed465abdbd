-- A decided trace without FORM TEAM speaks for every other run: with its events, of which each has one poster, the last
-- steps are told.
use Rattle.std.proofs.Common.{◌≡◌, ◌⊎◌, ◌≤◌, ℕ, suc, Bool, false, true, IsTrue, nat_eq, nat_le, ◌&&◌, cond, List, [], ◌∷◌, inl, inr, refl, ap, sym, ◌∙◌, subst, arith}
use Rattle.std.specs.Prelude.{pos, Option, slice_get}
use Rattle.std.specs.List.{list_all}
use Rattle.std.proofs.lemmas.Bool.{cases_Bool, and_parts, and_from, eqb-true, le-leb}
use Rattle.trace_theory.specs.Entries.{Each}
use Rattle.trace_theory.specs.Machines.{Move, Said, OneNextAsk}
use Rattle.caf_base.specs.declared.place.ImageNo.{ImageNo}
use Rattle.caf_base.specs.declared.place.Place.TheVariants as places
use Rattle.caf_base.specs.declared.span.Span.{Span}
use Rattle.caf_base.specs.Spans.{offsets_of}
use Rattle.caf_events.specs.declared.ask.Ask.{Ask}
use Rattle.caf_events.specs.declared.ask.Ask.TheVariants as asks
use Rattle.caf_events.specs.declared.reply.Reply.{Reply}
use Rattle.caf_events.specs.declared.reply.Reply.TheVariants as replies
use Rattle.caf_events.specs.declared.event.Entry.{Entry}
use Rattle.caf_events.specs.Asks.{place_of, object_of}
use Rattle.object_rules.specs.Locks.{event_after}
use Rattle.object_rules.specs.Cells.{Declared, MadeMemory, size_turn, size_from, first_size, is_offset, is_within, is_marked}
use Rattle.object_rules.specs.MemoryRules.{has_first_values, is_event, is_cell_of, is_own, memory_ready, memory_reply}
use Rattle.core_runs.specs.Lists.{key_of}
use Rattle.core_runs.specs.CoreRuns.{IsCoreRun, IsFit, of_memory, said_by}
use Rattle.core_runs.specs.Lawful.{made_memory, full_rules, full_beginning}
use Rattle.order_theory.specs.Order.{Segment, Within}
use Rattle.order_theory.specs.Races.{Cell, Stands}
use Rattle.order_theory.specs.Acts.{posts, waits, creates, deletes, finishes, released}
use Rattle.order_axioms.specs.Views.{view, act_by, act_of, first_cell}
use Rattle.order_axioms.proofs.Marked.{served_here}
use Rattle.order_cuts.specs.Cuts.{Follows, IsSame}
use Rattle.order_cuts.proofs.OwnParts.{known, same_act, same_marks}
use Rattle.every_order.specs.Decided.{is_free, IsDecided, OnePoster, EventsStay}
use Rattle.every_order.specs.Likes.{likes}
use Rattle.every_order.specs.EveryOrder.{IsAtEnd, SpeaksFor}
use Rattle.free_replies.specs.Subsets.{is_of_cells}
use Rattle.free_replies.proofs.Alike.{IsFree, each_from, each_stands, said_same, unmarked}
use Rattle.free_replies.proofs.OwnSizes.{sizes_own, size_same}
use Rattle.free_replies.proofs.Replies.{front_follows}
use Rattle.round_words.specs.RoundRuns.{IsAhead, IsRoundRun}
use Rattle.round_words.proofs.RoundRuns.{round_front}
use Rattle.round_replies.proofs.RoundSources.{is_taking, follows_front}
use Rattle.round_replies.proofs.AnyRounds.{TellsTakings, any_speak}
use Rattle.decided_runs.proofs.PairCloses.{unpair_stays}
use Rattle.decided_runs.proofs.PairSources.{pair_release}
use Rattle.decided_runs.proofs.PairReplies.{unpair_again}
use Rattle.decided_runs.proofs.EventRuns.{wait_came, post_there, takes_same, count_more}

pub record IsWait (a : Ask) : Type 0 where
  pub owner : ImageNo
  pub span : Span
  pub threshold : ℕ
  pub asked : a ≡ asks.Wait owner span threshold

taking_is : (a : Ask) → is_taking a ≡ true → (a ≡ asks.Unpair) ⊎ IsWait a
taking_is asks.Unpair t = inl refl
taking_is (asks.Wait owner span k) t = inr (record { owner = owner; span = span; threshold = k; asked = refl })
taking_is a t = absurd (cc)

-- the size of a coarray that is neither allocated nor deallocated
turn_stays : (owner c : ℕ) (z : Option ℕ) (a : Ask) (r : Reply) → nat_eq (object_of (place_of a)) (suc owner) ≡ true → (act_by a r ≡ creates owner c → ⊥) × (act_by a r ≡ deletes owner c → ⊥) → size_turn c z a ≡ z
turn_stays owner c z (asks.Create o k cells) r key stay = elim (cases_Bool (nat_eq k c)) [
  | inr n ↦ rw n refl
  | inl u ↦ absurd (let e = eqb-true (suc o.0) (suc owner) key in let i : o.0 ≡ owner = omega arith in stay.0 (ap (λ q. creates q k) i ∙ ap (creates owner) (eqb-true k c u)))
]
turn_stays owner c z (asks.Delete o k) r key stay = elim (cases_Bool (nat_eq k c)) [
  | inr n ↦ rw n refl
  | inl u ↦ absurd (let e = eqb-true (suc o.0) (suc owner) key in let i : o.0 ≡ owner = omega arith in stay.1 (ap (λ q. deletes q k) i ∙ ap (deletes owner) (eqb-true k c u)))
]
turn_stays owner c z a r key stay = refl

sizes_stay : (owner c : ℕ) (z : Option ℕ) (g : List Entry) → Each (λ e. (act_of e ≡ creates owner c → ⊥) × (act_of e ≡ deletes owner c → ⊥)) g → size_from c z (of_memory owner g) ≡ z
sizes_stay owner c z [] h = refl
sizes_stay owner c z (e ∷ g) h = elim (cases_Bool (nat_eq (key_of e) (suc owner))) [
  | inr n ↦ rw n (sizes_stay owner c z g h.1)
  | inl t ↦ rw t (ap (λ q. size_from c q (of_memory owner g)) (turn_stays owner c z e.event.ask e.event.reply t h.0) ∙ sizes_stay owner c z g h.1)
]

either_same : (x y : Bool) (r : Reply) → cond x r r ≡ cond y r r
either_same true true r = refl
either_same true false r = refl
either_same false true r = refl
either_same false false r = refl

post_act : (o : ImageNo) (span : Span) (r : Reply) → is_free (asks.Post o span) r ≡ true → act_by (asks.Post o span) r ≡ posts (first_cell o.0 span)
post_act o span (replies.Number st) f = ap (λ b. cond b (posts (first_cell o.0 span)) finishes) f
post_act o span r f = absurd (cc)

owner_same : (o owner : ImageNo) → places.Memory o ≡ places.Memory owner → o ≡ owner
owner_same o owner e = cc

module _ (s : List Declared) (n : ℕ) (t : List Entry) (run_t : IsRoundRun s n t) (one : OnePoster t) (stay : EventsStay t) where
  -- a post that a run has is one of the trace
  abbrev Posted : Cell → Type 0
  Posted cell = (z : Stands t) × (act_of z.event ≡ posts cell)

  post_of : (cell : Cell) (g : List Entry) → IsRoundRun s n g → Follows (view n) (likes n) t g → 1 ≤ event_after cell.coarray cell.offset (of_memory cell.owner g) → Posted cell
  post_of cell g run fol l =
      let w = post_there cell g run.free l in
      let x = known Entry (Said Ask Reply) (view n) (likes n) t g fol w.0 in
      (x.0, same_act Entry (Said Ask Reply) (view n) (likes n) t g fol x.0 w.0 x.1 ∙ w.1)

  module _ (x : Stands t) (g : List Entry) (run : IsRoundRun s n g) (fol : Follows (view n) (likes n) t g) (y : Stands g) (same : IsSame (view n) (likes n) x y) (w : IsWait x.event.event.ask) where
    abbrev cell : Cell
    cell = first_cell w.owner.0 w.span

    wait_release : (a : Segment) → Within a (released (view n) x.before x.event.image.0 (act_of x.event)) → Within a (released (view n) y.before y.event.image.0 (act_of y.event))
    wait_release a within =
        let m = made_memory s w.owner.0 in
        let asked_y : y.event.event.ask ≡ asks.Wait w.owner w.span w.threshold = sym (ap (λ (q : Said Ask Reply). q.ask) (said_same n t g fol x y same)) ∙ w.asked in
        let act_x : act_of x.event ≡ waits cell w.threshold = ap (λ b. act_by b x.event.event.reply) w.asked in
        let act_y : act_of y.event ≡ waits cell w.threshold = ap (λ b. act_by b y.event.event.reply) asked_y in
        let there_x = served_here s n t run_t.lawful x.before x.rest x.event x.split w.owner (ap place_of w.asked) in
        let there_y = served_here s n g run.lawful y.before y.rest y.event y.split w.owner (ap place_of asked_y) in
        let came_x = wait_came x.event.image.0 w.owner w.span w.threshold m (of_memory w.owner.0 x.before) (subst (λ b. IsTrue (memory_ready m (of_memory w.owner.0 x.before) x.event.image.0 b)) w.asked there_x.0) in
        let came_y = wait_came y.event.image.0 w.owner w.span w.threshold m (of_memory w.owner.0 y.before) (subst (λ b. IsTrue (memory_ready m (of_memory w.owner.0 y.before) y.event.image.0 b)) asked_y there_y.0) in
        let run_x = round_front s n x.before (x.event ∷ x.rest) (subst (IsRoundRun s n) x.split run_t) in
        let run_y = round_front s n y.before (y.event ∷ y.rest) (subst (IsRoundRun s n) y.split run) in
        let fol_y = follows_front n t g y.before (y.event ∷ y.rest) y.split fol in
        let low = came_x.low in
        let can = came_x.can in
        let z = post_of cell x.before run_x (front_follows n t x) (omega arith) in
        let words = subst (λ i. said_by i x.before ≡ said_by i y.before) came_x.image (same_marks Entry (Said Ask Reply) (view n) (likes n) t g fol x y same).0 in
        let takes = takes_same s n t run_t one stay cell z.0 z.1 x.before y.before run_x run_y (front_follows n t x) fol_y words w.threshold came_x.can came_y.can in
        subst (λ q. Within a (released (view n) y.before y.event.image.0 q)) (sym act_y)
        (subst (Within a) takes (subst (λ q. Within a (released (view n) x.before x.event.image.0 q)) act_x within))

  wait_stays : (w u : List Entry) → IsRoundRun s n w → IsRoundRun s n u → Follows (view n) (likes n) t w → Follows (view n) (likes n) t u → IsAhead u w → (i : ℕ) → said_by i w ≡ said_by i u
      → (owner o : ImageNo) (span : Span) (k : ℕ) → IsTrue (memory_ready (made_memory s owner.0) (of_memory owner.0 w) i (asks.Wait o span k))
      → IsTrue (memory_ready (made_memory s owner.0) (of_memory owner.0 u) i (asks.Wait o span k))
  wait_stays w u run_w run_u fol_w fol_u ahead i same owner o span k ready =
      let m = made_memory s owner.0 in
      let p = of_memory owner.0 w in
      let q = of_memory owner.0 u in
      let c = wait_came i o span k m p ready in
      let low = c.low in
      let can = c.can in
      let cell : Cell = record { owner = owner.0; coarray = span.coarray; offset = span.start } in
      let z = post_of cell w run_w fol_w (omega arith) in
      let words = subst (λ j. said_by j w ≡ said_by j u) c.image same in
      let more = count_more s n t run_t one stay cell z.0 z.1 w u run_w run_u fol_w fol_u ahead words in
      let parts = and_parts (is_own m i o && is_cell_of m is_event span && is_within m p span && nat_le 1 k) (nat_le k (event_after span.coarray span.start p)) ready in
      let size = size_same m owner.0 span.coarray w u (sizes_own s n w run_w.lawful) (sizes_own s n u run_u.lawful) words in
      let fits = subst (λ z. (is_own m i o && is_cell_of m is_event span && list_all (is_offset z) (offsets_of span) && nat_le 1 k) ≡ true) size parts.0 in
      and_from (is_own m i o && is_cell_of m is_event span && is_within m q span && nat_le 1 k) (nat_le k (event_after span.coarray span.start q)) fits (le-leb k (event_after span.coarray span.start q) (omega arith))

  -- no entry of a run that follows allocates or deallocates the coarray of an event that is posted
  stays_in : (cell : Cell) → Posted cell → (g : List Entry) → Follows (view n) (likes n) t g → Each (λ e. (act_of e ≡ creates cell.owner cell.coarray → ⊥) × (act_of e ≡ deletes cell.owner cell.coarray → ⊥)) g
  stays_in cell z g fol = each_from (λ e. (act_of e ≡ creates cell.owner cell.coarray → ⊥) × (act_of e ≡ deletes cell.owner cell.coarray → ⊥)) g (λ y. (
      let x = known Entry (Said Ask Reply) (view n) (likes n) t g fol y in
      let act = same_act Entry (Said Ask Reply) (view n) (likes n) t g fol x.0 y x.1 in
      let none = stay z.0 x.0 cell z.1 in
      ((λ e. none.0 (act ∙ e)), (λ e. none.1 (act ∙ e)))))

  module _ (g : List Entry) (run : IsRoundRun s n g) (fol : Follows (view n) (likes n) t g) (y : Stands t) (owner : ImageNo) (place : place_of y.event.event.ask ≡ places.Memory owner) where
    abbrev m : MadeMemory
    m = made_memory s owner.0

    abbrev i : ℕ
    i = y.event.image.0

    run_y : IsRoundRun s n y.before
    run_y = round_front s n y.before (y.event ∷ y.rest) (subst (IsRoundRun s n) y.split run_t)

    due : y.event.event.reply ≡ memory_reply m (of_memory owner.0 y.before) i y.event.event.ask
    due = (served_here s n t run_t.lawful y.before y.rest y.event y.split owner place).1

    post_reply : (span : Span) → y.event.event.ask ≡ asks.Post owner span → memory_reply m (of_memory owner.0 g) i (asks.Post owner span) ≡ memory_reply m (of_memory owner.0 y.before) i (asks.Post owner span)
    post_reply span e =
        let cell = first_cell owner.0 span in
        let free = subst (λ a. is_free a y.event.event.reply ≡ true) e (each_stands IsFree t run_t.free y) in
        let z : Posted cell = (y, ap (λ a. act_by a y.event.event.reply) e ∙ post_act owner span y.event.event.reply free) in
        let first = first_size (slice_get s span.coarray) in
        let a = sizes_stay owner.0 span.coarray first g (stays_in cell z g fol) in
        let b = sizes_stay owner.0 span.coarray first y.before (stays_in cell z y.before (front_follows n t y)) in
        ap (λ q. cond q (replies.Number (pos 6001)) (cond (is_within m (of_memory owner.0 g) span) (replies.Number (pos 0)) replies.Absent)) (unmarked owner.0 g run.free)
        ∙ ap (λ q. cond (list_all (is_offset q) (offsets_of span)) (replies.Number (pos 0)) replies.Absent) (a ∙ sym b)
        ∙ sym (ap (λ q. cond q (replies.Number (pos 6001)) (cond (is_within m (of_memory owner.0 y.before) span) (replies.Number (pos 0)) replies.Absent)) (unmarked owner.0 y.before run_y.free))

    -- the reply to a post and to a wait
    again : (a : Ask) → y.event.event.ask ≡ a → is_free a y.event.event.reply ≡ true → is_of_cells a ≡ false → place_of a ≡ places.Memory owner → memory_reply m (of_memory owner.0 g) i a ≡ y.event.event.reply
    again (asks.Post o span) e h f p = subst (λ q. y.event.event.ask ≡ asks.Post q span → memory_reply m (of_memory owner.0 g) i (asks.Post q span) ≡ y.event.event.reply) (sym (owner_same o owner p))
        (λ e'. post_reply span e' ∙ sym (due ∙ ap (memory_reply m (of_memory owner.0 y.before) i) e')) e
    again (asks.Wait o span k) e h f p = either_same (is_marked (of_memory owner.0 g)) (is_marked (of_memory owner.0 y.before)) (replies.Number (pos 0)) ∙ sym (due ∙ ap (memory_reply m (of_memory owner.0 y.before) i) e)
    again a e h f p = absurd (cc)

  pub event_takings : TellsTakings s n t
  event_takings = record {
    taken = λ g run fol x y a same takes within. elim (taking_is x.event.event.ask takes) [
      | inl u ↦ pair_release s n t run_t g run fol x y same u a within
      | inr w ↦ wait_release x g run fol y same w a within
    ];
    unpaired = λ g run fol y words e ready. unpair_again s n t run_t g run fol y words e ready;
    unpair_more = λ w u run_w run_u fol_w fol_u ahead i same ready. unpair_stays s n w u run_w run_u ahead i same ready;
    wait_more = wait_stays;
    memory_again = λ g run fol y words owner place not_cells. again g run fol y owner place y.event.event.ask refl (each_stands IsFree t run_t.free y) not_cells place;
  }

module _ {C : Type 0} (step : C → Move C Ask Reply) (hears : C → Reply → Type 0) (one : OneNextAsk step) (s : List Declared) (n : ℕ) (first : ℕ → C) (t : List Entry)
    (declared : list_all has_first_values s ≡ true) (fit : IsFit (full_rules step hears) (full_beginning s n first)) (core : IsCoreRun (full_rules step hears) (full_beginning s n first) t)
    (end : IsAtEnd (full_rules step hears) (full_beginning s n first) t) (decided : IsDecided n t) where
  pub events_speak : (u : List Entry) → IsCoreRun (full_rules step hears) (full_beginning s n first) u → SpeaksFor (full_rules step hears) (full_beginning s n first) s n t u
  events_speak u run =
      any_speak step hears one s n first t declared fit core end decided (λ run_t. event_takings s n t run_t decided.one_poster decided.events_stay) u run
