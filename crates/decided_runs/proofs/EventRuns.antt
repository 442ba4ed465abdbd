-- Events of one poster each in the runs that follow a decided trace: what a wait takes, when it can come, and what a
-- post hears.
use Rattle.std.proofs.Common.{◌≡◌, ◌⊎◌, ◌≤◌, ℕ, zero, suc, ◌+◌, ◌-◌, Bool, true, false, IsTrue, nat_eq, nat_le, ◌&&◌, cond, List, [], ◌∷◌, ◌++◌, length, inl, inr, refl, ap, sym, ◌∙◌, subst, arith, append_assoc, length-append}
use Rattle.std.specs.Prelude.{take, drop}
use Rattle.std.proofs.lemmas.List.{append-nil}
use Rattle.std.proofs.lemmas.Bool.{cases_Bool, and_parts, eqb-true, leb-true}
use Rattle.trace_theory.specs.Entries.{Each}
use Rattle.trace_theory.specs.Machines.{Said}
use Rattle.caf_base.specs.declared.place.ImageNo.{ImageNo}
use Rattle.caf_base.specs.declared.span.Span.{Span}
use Rattle.caf_events.specs.declared.ask.Ask.{Ask}
use Rattle.caf_events.specs.declared.ask.Ask.TheVariants as asks
use Rattle.caf_events.specs.declared.reply.Reply.{Reply}
use Rattle.caf_events.specs.declared.reply.Reply.TheVariants as replies
use Rattle.caf_events.specs.declared.event.Entry.{Entry}
use Rattle.caf_events.specs.Asks.{place_of, object_of}
use Rattle.object_rules.specs.Locks.{is_at, event_turn, event_from, event_after}
use Rattle.object_rules.specs.Cells.{Declared, MadeMemory, is_within}
use Rattle.object_rules.specs.MemoryRules.{is_event, is_cell_of, is_here, is_own, memory_ready}
use Rattle.core_runs.specs.Lists.{key_of}
use Rattle.core_runs.specs.CoreRuns.{of_memory, said_by}
use Rattle.core_runs.specs.Lawful.{made_memory}
use Rattle.order_theory.specs.Order.{Segment}
use Rattle.order_theory.specs.Races.{Cell, same_cell, Stands}
use Rattle.order_theory.specs.Acts.{Act, posts, waits, creates, deletes, finishes, event, waiting}
use Rattle.order_axioms.specs.Statuses.{tells_success}
use Rattle.order_axioms.specs.Views.{view, act_by, act_of, end_of_pair, first_cell}
use Rattle.order_axioms.proofs.Marked.{served_here}
use Rattle.order_cuts.specs.Cuts.{Follows, IsSame}
use Rattle.order_cuts.proofs.OwnParts.{known, same_act}
use Rattle.every_order.specs.Decided.{is_free, OnePoster, EventsStay}
use Rattle.every_order.specs.Likes.{likes}
use Rattle.free_replies.proofs.Alike.{IsFree, each_stands}
use Rattle.round_words.specs.RoundRuns.{IsAhead, IsRoundRun}
use Rattle.round_words.proofs.Ahead.{follows_ahead}
use Rattle.decided_runs.proofs.PairSources.{segments_said, segments_append, done_after}
use Rattle.decided_runs.proofs.EventCounts.{posts_at, taken_said, posted, taken, IsCounted, one_more, none_yet}

cell_is : (c d : Cell) → same_cell c d ≡ true → d ≡ c
cell_is c d h =
    let p = and_parts (nat_eq c.owner d.owner && nat_eq c.coarray d.coarray) (nat_eq c.offset d.offset) h in
    let q = and_parts (nat_eq c.owner d.owner) (nat_eq c.coarray d.coarray) p.0 in
    let a = sym (eqb-true c.owner d.owner q.0) in
    let b = sym (eqb-true c.coarray d.coarray q.1) in
    let o = sym (eqb-true c.offset d.offset p.1) in
    λ i. record { owner = a i; coarray = b i; offset = o i }

own_image : (m : MadeMemory) (i : ℕ) (owner : ImageNo) → is_own m i owner ≡ true → (owner.0 ≡ m.owner.0) × (i ≡ m.owner.0)
own_image m i owner h = let p = and_parts (is_here m owner) (nat_eq i m.owner.0) h in (eqb-true owner.0 m.owner.0 p.0, eqb-true i m.owner.0 p.1)

-- an entry that waits for posts
same_wait : (c d : Cell) (j k : ℕ) → waits c j ≡ waits d k → (c ≡ d) × (j ≡ k)
same_wait c d j k e = (cc, cc)

end_waits : (d : Cell) (k : ℕ) (r : Reply) → end_of_pair r ≡ waits d k → ⊥
end_waits d k (replies.Number status) e = cc
end_waits d k r e = cc

post_waits : (d c : Cell) (k : ℕ) (b : Bool) → cond b (posts c) finishes ≡ waits d k → ⊥
post_waits d c k true e = cc
post_waits d c k false e = cc

pub record WaitsAs (d : Cell) (k : ℕ) (a : Ask) : Type 0 where
  pub owner : ImageNo
  pub span : Span
  pub asked : a ≡ asks.Wait owner span k
  pub cell : first_cell owner.0 span ≡ d

act_waits : (d : Cell) (k : ℕ) (a : Ask) (r : Reply) → is_free a r ≡ true → act_by a r ≡ waits d k → WaitsAs d k a
act_waits d k (asks.Wait owner span j) r h e = let p = same_wait (first_cell owner.0 span) d j k e in record { owner = owner; span = span; asked = ap (asks.Wait owner span) p.1; cell = p.0 }
act_waits d k (asks.Arrive t arriving) (replies.Round m) h e = absurd (cc)
act_waits d k (asks.Arrive t arriving) r h e = absurd (cc)
act_waits d k (asks.Leave t m) (replies.Left status teams) h e = absurd (cc)
act_waits d k (asks.Leave t m) r h e = absurd (cc)
act_waits d k (asks.Gather t op root kind values) r h e = absurd (cc)
act_waits d k (asks.Take t m) r h e = absurd (cc)
act_waits d k (asks.Failed t) r h e = absurd (cc)
act_waits d k (asks.Read owner span) r h e = absurd (cc)
act_waits d k (asks.Write owner span vs) r h e = absurd (cc)
act_waits d k (asks.Create owner c cells) r h e = absurd (cc)
act_waits d k (asks.Delete owner c) r h e = absurd (cc)
act_waits d k (asks.Print text) r h e = absurd (cc)
act_waits d k asks.Memory r h e = absurd (cc)
act_waits d k (asks.Stop code) r h e = absurd (cc)
act_waits d k (asks.Pair named) r h e = absurd (cc)
act_waits d k asks.Unpair r h e = absurd (end_waits d k r e)
act_waits d k (asks.Post owner span) (replies.Number status) h e = absurd (post_waits d (first_cell owner.0 span) k (tells_success status) e)
act_waits d k (asks.Post owner span) r h e = absurd (cc)
act_waits d k a r h e = absurd (cc)

-- a wait that came was the owner's own, and its posts were there
pub record WaitCame (i : ℕ) (o : ImageNo) (span : Span) (k : ℕ) (m : MadeMemory) (h : List Entry) : Type 0 where
  pub owner : o.0 ≡ m.owner.0
  pub image : i ≡ m.owner.0
  pub low : 1 ≤ k
  pub can : k ≤ event_after span.coarray span.start h

pub wait_came : (i : ℕ) (o : ImageNo) (span : Span) (k : ℕ) (m : MadeMemory) (h : List Entry) → IsTrue (memory_ready m h i (asks.Wait o span k)) → WaitCame i o span k m h
wait_came i o span k m h ready =
    let fits = is_own m i o && is_cell_of m is_event span && is_within m h span && nat_le 1 k in
    let parts = and_parts fits (nat_le k (event_after span.coarray span.start h)) ready in
    let three = and_parts (is_own m i o && is_cell_of m is_event span && is_within m h span) (nat_le 1 k) parts.0 in
    let two = and_parts (is_own m i o && is_cell_of m is_event span) (is_within m h span) three.0 in
    let own = own_image m i o (and_parts (is_own m i o) (is_cell_of m is_event span) two.0).0 in
    record { owner = own.0; image = own.1; low = leb-true 1 k three.1; can = leb-true k (event_after span.coarray span.start h) parts.1 }

-- where a count isn't 0 there was a post
module _ (cell : Cell) where
  rises : (m : ℕ) (a : Ask) (r : Reply) → is_free a r ≡ true → nat_eq (object_of (place_of a)) (suc cell.owner) ≡ true → 1 ≤ event_turn cell.coarray cell.offset m a r → (1 ≤ m) ⊎ (act_by a r ≡ posts cell)
  rises m (asks.Post owner span) (replies.Number st) f key l = elim (cases_Bool (is_at cell.coarray cell.offset span)) [
    | inr n ↦ inl (rw n at l)
    | inl t ↦ (
        let p = and_parts (nat_eq span.coarray cell.coarray) (nat_eq span.start cell.offset) t in
        let e = eqb-true (suc owner.0) (suc cell.owner) key in
        let a : owner.0 ≡ cell.owner = omega arith in
        let b = eqb-true span.coarray cell.coarray p.0 in
        let o = eqb-true span.start cell.offset p.1 in
        let same : first_cell owner.0 span ≡ cell = (λ i. record { owner = a i; coarray = b i; offset = o i }) in
        inr (ap (λ z. cond z (posts (first_cell owner.0 span)) finishes) f ∙ ap posts same))
  ]
  rises m (asks.Post owner span) r f key l = absurd (cc)
  rises m (asks.Wait owner span k) r f key l = elim (cases_Bool (is_at cell.coarray cell.offset span)) [
    | inr n ↦ inl (rw n at l)
    | inl t ↦ inl (let q : 1 ≤ m - k = rw t at l in omega arith)
  ]
  rises m (asks.Create owner c cells) r f key l = elim (cases_Bool (nat_eq c cell.coarray)) [
    | inr n ↦ inl (rw n at l)
    | inl t ↦ absurd (let q : 1 ≤ 0 = rw t at l in omega arith)
  ]
  rises m (asks.Delete owner c) r f key l = elim (cases_Bool (nat_eq c cell.coarray)) [
    | inr n ↦ inl (rw n at l)
    | inl t ↦ absurd (let q : 1 ≤ 0 = rw t at l in omega arith)
  ]
  rises m a r f key l = inl l

  later_post : (e : Entry) (g : List Entry) → (z : Stands g) × (act_of z.event ≡ posts cell) → (z : Stands (e ∷ g)) × (act_of z.event ≡ posts cell)
  later_post e g (z, a) = (record { before = e ∷ z.before; event = z.event; rest = z.rest; split = ap (λ q. e ∷ q) z.split }, a)

  post_from : (m : ℕ) (g : List Entry) → Each IsFree g → 1 ≤ event_from cell.coarray cell.offset m (of_memory cell.owner g) → (1 ≤ m) ⊎ ((z : Stands g) × (act_of z.event ≡ posts cell))
  post_from m [] f l = inl l
  post_from m (e ∷ g) f l = elim (cases_Bool (nat_eq (key_of e) (suc cell.owner))) [
    | inr n ↦ elim (post_from m g f.1 (rw n at l)) [ inl a ↦ inl a | inr z ↦ inr (later_post e g z) ]
    | inl t ↦ elim (post_from (event_turn cell.coarray cell.offset m e.event.ask e.event.reply) g f.1 (rw t at l)) [
      | inr z ↦ inr (later_post e g z)
      | inl a ↦ elim (rises m e.event.ask e.event.reply f.0 t a) [
        | inl b ↦ inl b
        | inr p ↦ inr (record { before = []; event = e; rest = g; split = refl }, p)
      ]
    ]
  ]

  pub post_there : (g : List Entry) → Each IsFree g → 1 ≤ event_after cell.coarray cell.offset (of_memory cell.owner g) → (z : Stands g) × (act_of z.event ≡ posts cell)
  post_there g f l = elim (post_from 0 g f l) [ inl none ↦ absurd (omega arith) | inr z ↦ z ]

take_front : (k t : ℕ) (xs ys : List Segment) → t + k ≤ length xs → take k (drop t (xs ++ ys)) ≡ take k (drop t xs)
take_front zero zero xs ys l = refl
take_front (suc k) zero [] ys l = absurd (omega arith)
take_front (suc k) zero (x ∷ xs) ys l = ap (λ q. x ∷ q) (take_front k zero xs ys (omega arith))
take_front k (suc t) [] ys l = absurd (omega arith)
take_front k (suc t) (x ∷ xs) ys l = take_front k t xs ys (omega arith)

module _ (s : List Declared) (n : ℕ) (t : List Entry) (run_t : IsRoundRun s n t) (one : OnePoster t) (stay : EventsStay t) where
  module _ (cell : Cell) (z : Stands t) (post : act_of z.event ≡ posts cell) where
    abbrev p : ℕ
    p = z.event.image.0

    module _ (g : List Entry) (run : IsRoundRun s n g) (fol : Follows (view n) (likes n) t g) where
      abbrev as_in : (y : Stands g) → (x : Stands t) × IsSame (view n) (likes n) x y
      as_in y = known Entry (Said Ask Reply) (view n) (likes n) t g fol y

      act_in : (y : Stands g) (a : Act) → act_of y.event ≡ a → act_of (as_in y).0.event ≡ a
      act_in y a e = same_act Entry (Said Ask Reply) (view n) (likes n) t g fol (as_in y).0 y (as_in y).1 ∙ e

      step : (y : Stands g) → IsCounted cell n p y.before → IsCounted cell n p (y.before ++ y.event ∷ [])
      step y old =
          let x = as_in y in
          let no = stay z x.0 cell post in
          let free = each_stands IsFree g run.free y in
          one_more cell n p y.before y.event free ((λ e. no.0 (act_in y (creates cell.owner cell.coarray) e)), (λ e. no.1 (act_in y (deletes cell.owner cell.coarray) e))) old
          (λ d act same. sym x.1.image ∙ one x.0 z cell (act_in y (posts d) act ∙ ap posts (cell_is cell d same)) post)
          (λ d k act same. (
          let w = act_waits d k y.event.event.ask y.event.event.reply free act in
          let there = served_here s n g run.lawful y.before y.rest y.event y.split w.owner (ap place_of w.asked) in
          let ready : IsTrue (memory_ready (made_memory s w.owner.0) (of_memory w.owner.0 y.before) y.event.image.0 (asks.Wait w.owner w.span k)) =
          subst (λ a. IsTrue (memory_ready (made_memory s w.owner.0) (of_memory w.owner.0 y.before) y.event.image.0 a)) w.asked there.0 in
          let c = wait_came y.event.image.0 w.owner w.span k (made_memory s w.owner.0) (of_memory w.owner.0 y.before) ready in
          let is : first_cell w.owner.0 w.span ≡ cell = w.cell ∙ cell_is cell d same in (
            c.image ∙ ap (λ (q : Cell). q.owner) is,
            subst (λ (q : Cell). k ≤ event_after q.coarray q.offset (of_memory q.owner y.before)) is c.can,
          )))

      go : (b h : List Entry) → g ≡ b ++ h → IsCounted cell n p b → IsCounted cell n p g
      go b [] split old = subst (IsCounted cell n p) (sym (split ∙ append-nil b)) old
      go b (e ∷ h) split old = go (b ++ e ∷ []) h (split ∙ sym (append_assoc b (e ∷ []) h)) (step (record { before = b; event = e; rest = h; split = split }) old)

      -- THE EVENT in a run that follows
      pub counted_in : IsCounted cell n p g
      counted_in = go [] g refl (none_yet cell n p)

    posted_more : (u w : List Entry) → IsAhead u w → (more : List Segment) × (posted cell n p u ≡ posted cell n p w ++ more)
    posted_more u w ahead = let a = ahead p in (segments_said (posts_at cell) p (done_after 0 (said_by p w)) a.0, ap (segments_said (posts_at cell) p 0) a.1 ∙ segments_append (posts_at cell) p 0 (said_by p w) a.0)

    -- what a wait takes is the same in two runs in which the owner has said the same and the posts are there
    pub takes_same : (g h : List Entry) → IsRoundRun s n g → IsRoundRun s n h → Follows (view n) (likes n) t g → Follows (view n) (likes n) t h → said_by cell.owner g ≡ said_by cell.owner h → (k : ℕ)
        → k ≤ event_after cell.coarray cell.offset (of_memory cell.owner g) → k ≤ event_after cell.coarray cell.offset (of_memory cell.owner h)
        → take k (waiting (view n) (event cell) g) ≡ take k (waiting (view n) (event cell) h)
    takes_same g h run_g run_h fol_g fol_h words k can_g can_h =
        let a = counted_in g run_g fol_g in
        let b = counted_in h run_h fol_h in
        let more_g = posted_more t g (follows_ahead n t g fol_g) in
        let more_h = posted_more t h (follows_ahead n t h fol_h) in
        let same = ap (taken_said cell) words in
        let low_g = a.enough in
        let low_h = b.enough in
        let count_g = a.count in
        let count_h = b.count in
        ap (take k) a.waits
        ∙ sym (take_front k (taken cell n p g) (posted cell n p g) more_g.0 (omega arith))
        ∙ ap (λ q. take k (drop (taken cell n p g) q)) (sym more_g.1 ∙ more_h.1)
        ∙ ap (λ m. take k (drop m (posted cell n p h ++ more_h.0))) same
        ∙ take_front k (taken cell n p h) (posted cell n p h) more_h.0 (omega arith)
        ∙ sym (ap (take k) b.waits)

    -- and its count grows
    pub count_more : (w u : List Entry) → IsRoundRun s n w → IsRoundRun s n u → Follows (view n) (likes n) t w → Follows (view n) (likes n) t u → IsAhead u w → said_by cell.owner w ≡ said_by cell.owner u
        → event_after cell.coarray cell.offset (of_memory cell.owner w) ≤ event_after cell.coarray cell.offset (of_memory cell.owner u)
    count_more w u run_w run_u fol_w fol_u ahead words =
        let a = counted_in w run_w fol_w in
        let b = counted_in u run_u fol_u in
        let more = posted_more u w ahead in
        let size = ap length more.1 ∙ length-append (posted cell n p w) more.0 in
        let same = ap (taken_said cell) words in
        let count_w = a.count in
        let count_u = b.count in
        omega arith
