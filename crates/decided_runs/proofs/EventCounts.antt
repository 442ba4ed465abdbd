-- The count of an event, and the segments that wait there, by the words of its one poster and of the image that waits.
use Rattle.std.proofs.Common.{◌≡◌, ◌≤◌, ℕ, zero, suc, ◌+◌, ◌-◌, Bool, true, false, nat_eq, ◌&&◌, cond, List, [], ◌∷◌, ◌++◌, length, inl, inr, refl, ap, sym, ◌∙◌, arith, length-append}
use Rattle.std.specs.Prelude.{drop}
use Rattle.std.proofs.lemmas.List.{append-nil}
use Rattle.std.proofs.lemmas.Bool.{cases_Bool, and_parts, and_from, eqb-true, eq-eqb}
use Rattle.trace_theory.specs.Machines.{Said}
use Rattle.trace_theory.proofs.Filters.{filter_append}
use Rattle.caf_base.specs.declared.place.ImageNo.{ImageNo}
use Rattle.caf_base.specs.declared.span.Span.{Span}
use Rattle.caf_events.specs.declared.ask.Ask.{Ask}
use Rattle.caf_events.specs.declared.ask.Ask.TheVariants as asks
use Rattle.caf_events.specs.declared.reply.Reply.{Reply}
use Rattle.caf_events.specs.declared.reply.Reply.TheVariants as replies
use Rattle.caf_events.specs.declared.event.Entry.{Entry}
use Rattle.caf_events.specs.Asks.{place_of, object_of}
use Rattle.object_rules.specs.Locks.{is_at, event_turn, event_after}
use Rattle.object_rules.proofs.MemoryGrowing.{event_more}
use Rattle.core_runs.specs.Lists.{key_of, said}
use Rattle.core_runs.specs.CoreRuns.{of_memory, said_by}
use Rattle.order_theory.specs.Order.{Segment, done, segment_of}
use Rattle.order_theory.specs.Races.{Cell, same_cell, within_coarray}
use Rattle.order_theory.specs.Acts.{Act, posts, waits, creates, deletes, finishes, event, adds, clears, drops, leaves_all, turn, turned, waiting, completing, entries}
use Rattle.order_theory.proofs.Sources.{waiting_more}
use Rattle.order_axioms.specs.Views.{view, act_by, act_of, first_cell}
use Rattle.every_order.specs.Decided.{is_free}
use Rattle.every_order.proofs.Induction.{said_more}
use Rattle.decided_runs.proofs.PairSources.{done_by, done_after, segments_said, segments_append}

bool_ext : (a b : Bool) → (a ≡ true → b ≡ true) → (b ≡ true → a ≡ true) → a ≡ b
bool_ext true b f g = sym (f refl)
bool_ext false true f g = g refl
bool_ext false false f g = refl

both_same : (b : Bool) (m : ℕ) → cond b m m ≡ m
both_same true m = refl
both_same false m = refl

two_tests : (x y : Bool) (u v : ℕ) → cond x (cond y u v) v ≡ cond (x && y) u v
two_tests true y u v = refl
two_tests false y u v = refl

and_yes : (y : Bool) → (y && true) ≡ y
and_yes true = refl
and_yes false = refl

drop_nil : (k : ℕ) → drop {A = Segment} k [] ≡ []
drop_nil zero = refl
drop_nil (suc k) = refl

drop_more : (q : List Segment) (k m : ℕ) → drop k (drop m q) ≡ drop (m + k) q
drop_more q k zero = let e : zero + k ≡ k = omega arith in ap (λ z. drop z q) (sym e)
drop_more [] k (suc m) = drop_nil k ∙ sym (drop_nil (suc m + k))
drop_more (x ∷ q) k (suc m) = let e : suc m + k ≡ suc (m + k) = omega arith in drop_more q k m ∙ ap (λ z. drop z (x ∷ q)) (sym e)

drop_last : (q : List Segment) (a : Segment) (m : ℕ) → m ≤ length q → drop m (q ++ a ∷ []) ≡ drop m q ++ a ∷ []
drop_last q a zero l = refl
drop_last [] a (suc m) l = absurd (omega arith)
drop_last (x ∷ q) a (suc m) l = drop_last q a m (omega arith)

-- how many segments an image has completed, by its words
done_words : (n j : ℕ) (g : List Entry) (d : ℕ) → done (entries (view n)) j g + d ≡ done_after d (said_by j g)
done_words n j [] d = omega arith
done_words n j (e ∷ g) d = elim (cases_Bool (nat_eq e.image.0 j)) [
  | inl t ↦ rw t (let h = done_words n j g (done_by (act_of e) d) in let m = done (entries (view n)) j g in shifted m (completing (act_of e)) d (done_after (done_by (act_of e) d) (said_by j g)) h)
  | inr f ↦ rw f (let h = done_words n j g d in let m = done (entries (view n)) j g in omega arith)
]
  where
    shifted : (m : ℕ) (c : Bool) (d r : ℕ) → m + (cond c 1 0 + d) ≡ r → (cond (true && c) 1 0 + m) + d ≡ r
    shifted m true d r h = omega arith
    shifted m false d r h = omega arith

module _ (cell : Cell) where
  -- the act posts the event, and how many posts it takes there
  abbrev pub posts_at : Act → Bool
  posts_at (posts d) = same_cell cell d
  posts_at a = false

  abbrev pub takes_at : Act → ℕ
  takes_at (waits d k) = cond (same_cell cell d) k 0
  takes_at a = 0

  abbrev pub taken_said : List (Said Ask Reply) → ℕ
  taken_said [] = 0
  taken_said (w ∷ ws) = takes_at (act_by w.ask w.reply) + taken_said ws

  pub taken_append : (xs ys : List (Said Ask Reply)) → taken_said (xs ++ ys) ≡ taken_said xs + taken_said ys
  taken_append [] ys = omega arith
  taken_append (w ∷ xs) ys = let e = taken_append xs ys in omega arith

  -- the coarray of the event isn't allocated or deallocated
  abbrev pub Stays : Act → Type 0
  Stays a = (a ≡ creates cell.owner cell.coarray → ⊥) × (a ≡ deletes cell.owner cell.coarray → ⊥)

  -- what an act makes of the count, and of the segments that wait
  abbrev counted : ℕ → Act → ℕ
  counted m (posts d) = cond (same_cell cell d) (m + 1) m
  counted m (waits d k) = cond (same_cell cell d) (m - k) m
  counted m a = m

  abbrev shifted : Segment → List Segment → Act → List Segment
  shifted seg q (posts d) = cond (same_cell cell d) (q ++ seg ∷ []) q
  shifted seg q (waits d k) = cond (same_cell cell d) (drop k q) q
  shifted seg q a = q

  cell_test : (owner : ImageNo) (span : Span) → (nat_eq (suc owner.0) (suc cell.owner) && is_at cell.coarray cell.offset span) ≡ same_cell cell (first_cell owner.0 span)
  cell_test owner span = bool_ext (nat_eq (suc owner.0) (suc cell.owner) && is_at cell.coarray cell.offset span) (same_cell cell (first_cell owner.0 span)) there back
    where
      there : (nat_eq (suc owner.0) (suc cell.owner) && is_at cell.coarray cell.offset span) ≡ true → same_cell cell (first_cell owner.0 span) ≡ true
      there h =
          let p = and_parts (nat_eq (suc owner.0) (suc cell.owner)) (is_at cell.coarray cell.offset span) h in
          let q = and_parts (nat_eq span.coarray cell.coarray) (nat_eq span.start cell.offset) p.1 in
          let e = eqb-true (suc owner.0) (suc cell.owner) p.0 in
          and_from (nat_eq cell.owner owner.0 && nat_eq cell.coarray span.coarray) (nat_eq cell.offset span.start)
          (and_from (nat_eq cell.owner owner.0) (nat_eq cell.coarray span.coarray) (eq-eqb cell.owner owner.0 (omega arith)) (eq-eqb cell.coarray span.coarray (sym (eqb-true span.coarray cell.coarray q.0))))
          (eq-eqb cell.offset span.start (sym (eqb-true span.start cell.offset q.1)))

      back : same_cell cell (first_cell owner.0 span) ≡ true → (nat_eq (suc owner.0) (suc cell.owner) && is_at cell.coarray cell.offset span) ≡ true
      back h =
          let p = and_parts (nat_eq cell.owner owner.0 && nat_eq cell.coarray span.coarray) (nat_eq cell.offset span.start) h in
          let q = and_parts (nat_eq cell.owner owner.0) (nat_eq cell.coarray span.coarray) p.0 in
          and_from (nat_eq (suc owner.0) (suc cell.owner)) (is_at cell.coarray cell.offset span) (eq-eqb (suc owner.0) (suc cell.owner) (ap suc (sym (eqb-true cell.owner owner.0 q.0))))
          (and_from (nat_eq span.coarray cell.coarray) (nat_eq span.start cell.offset) (eq-eqb span.coarray cell.coarray (sym (eqb-true cell.coarray span.coarray q.1))) (eq-eqb span.start cell.offset (sym (eqb-true cell.offset span.start p.1))))

  -- At the memory of the event the count changes by the act.
  pub turn_act : (m : ℕ) (a : Ask) (r : Reply) → is_free a r ≡ true → Stays (act_by a r)
      → cond (nat_eq (object_of (place_of a)) (suc cell.owner)) (event_turn cell.coarray cell.offset m a r) m ≡ counted m (act_by a r)
  turn_act m (asks.Post owner span) (replies.Number st) f stays =
      ap (λ b. cond (nat_eq (suc owner.0) (suc cell.owner)) (cond (is_at cell.coarray cell.offset span && b) (m + 1) m) m) f
      ∙ ap (λ b. cond (nat_eq (suc owner.0) (suc cell.owner)) (cond b (m + 1) m) m) (and_yes (is_at cell.coarray cell.offset span))
      ∙ two_tests (nat_eq (suc owner.0) (suc cell.owner)) (is_at cell.coarray cell.offset span) (m + 1) m
      ∙ ap (λ b. cond b (m + 1) m) (cell_test owner span)
      ∙ sym (ap (λ b. counted m (cond b (posts (first_cell owner.0 span)) finishes)) f)
  turn_act m (asks.Post owner span) r f stays = absurd (cc)
  turn_act m (asks.Wait owner span k) r f stays =
      two_tests (nat_eq (suc owner.0) (suc cell.owner)) (is_at cell.coarray cell.offset span) (m - k) m ∙ ap (λ b. cond b (m - k) m) (cell_test owner span)
  turn_act m (asks.Create owner k cells) r f stays = elim (cases_Bool (nat_eq (suc owner.0) (suc cell.owner))) [
    | inr n ↦ rw n refl
    | inl t ↦ elim (cases_Bool (nat_eq k cell.coarray)) [
      | inr n ↦ rw (t, n) refl
      | inl u ↦ absurd (let e = eqb-true (suc owner.0) (suc cell.owner) t in let o : owner.0 ≡ cell.owner = omega arith in stays.0 (ap (λ z. creates z k) o ∙ ap (creates cell.owner) (eqb-true k cell.coarray u)))
    ]
  ]
  turn_act m (asks.Delete owner k) r f stays = elim (cases_Bool (nat_eq (suc owner.0) (suc cell.owner))) [
    | inr n ↦ rw n refl
    | inl t ↦ elim (cases_Bool (nat_eq k cell.coarray)) [
      | inr n ↦ rw (t, n) refl
      | inl u ↦ absurd (let e = eqb-true (suc owner.0) (suc cell.owner) t in let o : owner.0 ≡ cell.owner = omega arith in stays.1 (ap (λ z. deletes z k) o ∙ ap (deletes cell.owner) (eqb-true k cell.coarray u)))
    ]
  ]
  turn_act m (asks.Arrive team arriving) (replies.Round k) f stays = both_same (nat_eq 1 (suc cell.owner)) m
  turn_act m (asks.Arrive team arriving) r f stays = absurd (cc)
  turn_act m (asks.Leave team k) (replies.Left status teams) f stays = both_same (nat_eq 1 (suc cell.owner)) m
  turn_act m (asks.Leave team k) r f stays = both_same (nat_eq 1 (suc cell.owner)) m
  turn_act m asks.Unpair (replies.Number status) f stays = both_same (nat_eq 1 (suc cell.owner)) m
  turn_act m asks.Unpair r f stays = both_same (nat_eq 1 (suc cell.owner)) m
  turn_act m (asks.Lock owner span) r f stays = absurd (cc)
  turn_act m (asks.TryLock owner span) r f stays = absurd (cc)
  turn_act m (asks.Unlock owner span) r f stays = absurd (cc)
  turn_act m a r f stays = both_same (nat_eq (object_of (place_of a)) (suc cell.owner)) m

  gone : (b : Bool) (seg : Segment) (q : List Segment) → (b ≡ true → ⊥) → turned (cond b clears leaves_all) seg q ≡ q
  gone true seg q never = absurd (never refl)
  gone false seg q never = refl

  -- And the segments that wait change by it.
  pub turned_act : (i : ℕ) (a : Act) (seg : Segment) (q : List Segment) → Stays a → turned (turn (event cell) i a) seg q ≡ shifted seg q a
  turned_act i (posts d) seg q stays = by (same_cell cell d)
    where
      by : (b : Bool) → turned (cond b adds leaves_all) seg q ≡ cond b (q ++ seg ∷ []) q
      by true = refl
      by false = refl
  turned_act i (waits d k) seg q stays = by (same_cell cell d)
    where
      by : (b : Bool) → turned (cond b (drops k) leaves_all) seg q ≡ cond b (drop k q) q
      by true = refl
      by false = refl
  turned_act i (creates o c) seg q stays = gone (within_coarray o c cell) seg q (λ h. (
      let p = and_parts (nat_eq cell.owner o) (nat_eq cell.coarray c) h in
      stays.0 (ap (λ z. creates z c) (sym (eqb-true cell.owner o p.0)) ∙ ap (creates cell.owner) (sym (eqb-true cell.coarray c p.1)))))
  turned_act i (deletes o c) seg q stays = gone (within_coarray o c cell) seg q (λ h. (
      let p = and_parts (nat_eq cell.owner o) (nat_eq cell.coarray c) h in
      stays.1 (ap (λ z. deletes z c) (sym (eqb-true cell.owner o p.0)) ∙ ap (deletes cell.owner) (sym (eqb-true cell.coarray c p.1)))))
  turned_act i a seg q stays = refl

  -- the count after one more entry
  after_step : (h : List Entry) (e : Entry) → event_after cell.coarray cell.offset (of_memory cell.owner (h ++ e ∷ []))
      ≡ cond (nat_eq (key_of e) (suc cell.owner)) (event_turn cell.coarray cell.offset (event_after cell.coarray cell.offset (of_memory cell.owner h)) e.event.ask e.event.reply) (event_after cell.coarray cell.offset (of_memory cell.owner h))
  after_step h e =
      ap (event_after cell.coarray cell.offset) (filter_append (λ y. nat_eq (key_of y) (suc cell.owner)) h (e ∷ []))
      ∙ elim (cases_Bool (nat_eq (key_of e) (suc cell.owner))) [
        | inl t ↦ rw t (event_more cell.coarray cell.offset (of_memory cell.owner h) e)
        | inr f ↦ rw f (ap (event_after cell.coarray cell.offset) (append-nil (of_memory cell.owner h)))
      ]

  module _ (n p : ℕ) where
    -- the segments of the poster's posts, and how many posts the owner has taken
    abbrev pub posted : List Entry → List Segment
    posted g = segments_said posts_at p 0 (said_by p g)

    abbrev pub taken : List Entry → ℕ
    taken g = taken_said (said_by cell.owner g)

    -- WHAT IS KNOWN OF THE EVENT after g
    pub record IsCounted (g : List Entry) : Type 0 where
      pub waits : waiting (view n) (event cell) g ≡ drop (taken g) (posted g)
      pub enough : taken g ≤ length (posted g)
      pub count : event_after cell.coarray cell.offset (of_memory cell.owner g) ≡ length (posted g) - taken g

    module _ (h : List Entry) (e : Entry) where
      abbrev seg : Segment
      seg = segment_of (entries (view n)) h e

      taken_step : taken (h ++ e ∷ []) ≡ taken h + cond (nat_eq e.image.0 cell.owner) (takes_at (act_of e)) 0
      taken_step =
          ap taken_said (said_more cell.owner h e) ∙ taken_append (said_by cell.owner h) (cond (nat_eq e.image.0 cell.owner) (said e.event ∷ []) [])
          ∙ ap (λ m. taken h + m) (by (nat_eq e.image.0 cell.owner))
        where
          by : (b : Bool) → taken_said (cond b (said e.event ∷ []) []) ≡ cond b (takes_at (act_of e)) 0
          by true = let m = takes_at (act_of e) in omega arith
          by false = refl

      posted_step : posted (h ++ e ∷ []) ≡ posted h ++ cond (nat_eq e.image.0 p) (cond (posts_at (act_of e)) (record { image = p; number = done_after 0 (said_by p h) } ∷ []) []) []
      posted_step =
          ap (segments_said posts_at p 0) (said_more p h e) ∙ segments_append posts_at p 0 (said_by p h) (cond (nat_eq e.image.0 p) (said e.event ∷ []) [])
          ∙ ap (λ q. posted h ++ q) (by (nat_eq e.image.0 p))
        where
          by : (b : Bool) → segments_said posts_at p (done_after 0 (said_by p h)) (cond b (said e.event ∷ []) []) ≡ cond b (cond (posts_at (act_of e)) (record { image = p; number = done_after 0 (said_by p h) } ∷ []) []) []
          by true = refl
          by false = refl

      module _ (free : is_free e.event.ask e.event.reply ≡ true) (stays : Stays (act_of e)) (old : IsCounted h) where
        waits_step : waiting (view n) (event cell) (h ++ e ∷ []) ≡ shifted seg (waiting (view n) (event cell) h) (act_of e)
        waits_step = waiting_more Entry (view n) (event cell) h e ∙ turned_act e.image.0 (act_of e) seg (waiting (view n) (event cell) h) stays

        count_step : event_after cell.coarray cell.offset (of_memory cell.owner (h ++ e ∷ [])) ≡ counted (event_after cell.coarray cell.offset (of_memory cell.owner h)) (act_of e)
        count_step = after_step h e ∙ turn_act (event_after cell.coarray cell.offset (of_memory cell.owner h)) e.event.ask e.event.reply free stays

        -- an act that does nothing at the event
        other : posts_at (act_of e) ≡ false → takes_at (act_of e) ≡ 0 → ((q : List Segment) → shifted seg q (act_of e) ≡ q) → ((m : ℕ) → counted m (act_of e) ≡ m) → IsCounted (h ++ e ∷ [])
        other no_post no_take same_q same_m =
            let t : taken (h ++ e ∷ []) ≡ taken h = taken_step ∙ ap (λ z. taken h + cond (nat_eq e.image.0 cell.owner) z 0) no_take ∙ (let m = taken h in zero_more m (nat_eq e.image.0 cell.owner)) in
            let s : posted (h ++ e ∷ []) ≡ posted h = posted_step ∙ ap (λ b. posted h ++ cond (nat_eq e.image.0 p) (cond b (record { image = p; number = done_after 0 (said_by p h) } ∷ []) []) []) no_post ∙ nil_more (posted h) (nat_eq e.image.0 p) in
            let l = ap length s in
            let low = old.enough in
            record {
              waits = waits_step ∙ same_q (waiting (view n) (event cell) h) ∙ old.waits ∙ ap (λ m. drop m (posted h)) (sym t) ∙ ap (drop (taken (h ++ e ∷ []))) (sym s);
              enough = omega arith;
              count = count_step ∙ same_m (event_after cell.coarray cell.offset (of_memory cell.owner h)) ∙ old.count ∙ ap (λ m. length (posted h) - m) (sym t) ∙ ap (λ q. length q - taken (h ++ e ∷ [])) (sym s);
            }
          where
            zero_more : (m : ℕ) (b : Bool) → m + cond b 0 0 ≡ m
            zero_more m true = omega arith
            zero_more m false = omega arith

            nil_more : (q : List Segment) (b : Bool) → q ++ cond {A = List Segment} b [] [] ≡ q
            nil_more q true = append-nil q
            nil_more q false = append-nil q

        -- a post by the poster
        posts_here : (d : Cell) → act_of e ≡ posts d → same_cell cell d ≡ true → e.image.0 ≡ p → IsCounted (h ++ e ∷ [])
        posts_here d act here image =
            let own = eq-eqb e.image.0 p image in
            let t : taken (h ++ e ∷ []) ≡ taken h = taken_step ∙ ap (λ a. taken h + cond (nat_eq e.image.0 cell.owner) (takes_at a) 0) act ∙ (let m = taken h in zero_more m (nat_eq e.image.0 cell.owner)) in
            let number : done_after 0 (said_by p h) ≡ done (entries (view n)) e.image.0 h = sym (done_words n p h 0) ∙ (let m = done (entries (view n)) p h in plain m) ∙ ap (λ i. done (entries (view n)) i h) (sym image) in
            let is_seg : record { image = p; number = done_after 0 (said_by p h) } ≡ seg = (λ k. record { image = (sym image) k; number = number k }) in
            let s : posted (h ++ e ∷ []) ≡ posted h ++ seg ∷ [] =
            posted_step ∙ ap (λ b. posted h ++ cond b (cond (posts_at (act_of e)) (record { image = p; number = done_after 0 (said_by p h) } ∷ []) []) []) own
            ∙ ap (λ a. posted h ++ cond (posts_at a) (record { image = p; number = done_after 0 (said_by p h) } ∷ []) []) act
            ∙ ap (λ b. posted h ++ cond b (record { image = p; number = done_after 0 (said_by p h) } ∷ []) []) here
            ∙ ap (λ z. posted h ++ z ∷ []) is_seg in
            let l = ap length s ∙ length-append (posted h) (seg ∷ []) in
            let low = old.enough in
            let count = old.count in
            let more : event_after cell.coarray cell.offset (of_memory cell.owner (h ++ e ∷ [])) ≡ event_after cell.coarray cell.offset (of_memory cell.owner h) + 1 =
            count_step ∙ ap (counted (event_after cell.coarray cell.offset (of_memory cell.owner h))) act ∙ ap (λ b. cond b (event_after cell.coarray cell.offset (of_memory cell.owner h) + 1) (event_after cell.coarray cell.offset (of_memory cell.owner h))) here in
            record {
              waits = waits_step ∙ ap (shifted seg (waiting (view n) (event cell) h)) act
                  ∙ ap (λ b. cond b (waiting (view n) (event cell) h ++ seg ∷ []) (waiting (view n) (event cell) h)) here ∙ ap (λ q. q ++ seg ∷ []) old.waits
                  ∙ sym (drop_last (posted h) seg (taken h) low) ∙ ap (λ m. drop m (posted h ++ seg ∷ [])) (sym t) ∙ ap (drop (taken (h ++ e ∷ []))) (sym s);
              enough = omega arith;
              count = omega arith;
            }
          where
            zero_more : (m : ℕ) (b : Bool) → m + cond b 0 0 ≡ m
            zero_more m true = omega arith
            zero_more m false = omega arith

            plain : (m : ℕ) → m + 0 ≡ m
            plain m = omega arith

        -- a wait of the owner that can come
        waits_here : (d : Cell) (k : ℕ) → act_of e ≡ waits d k → same_cell cell d ≡ true → e.image.0 ≡ cell.owner → k ≤ event_after cell.coarray cell.offset (of_memory cell.owner h) → IsCounted (h ++ e ∷ [])
        waits_here d k act here image can =
            let own = eq-eqb e.image.0 cell.owner image in
            let t : taken (h ++ e ∷ []) ≡ taken h + k =
            taken_step ∙ ap (λ b. taken h + cond b (takes_at (act_of e)) 0) own ∙ ap (λ a. taken h + takes_at a) act ∙ ap (λ b. taken h + cond b k 0) here in
            let s : posted (h ++ e ∷ []) ≡ posted h =
            posted_step ∙ ap (λ a. posted h ++ cond (nat_eq e.image.0 p) (cond (posts_at a) (record { image = p; number = done_after 0 (said_by p h) } ∷ []) []) []) act ∙ nil_more (posted h) (nat_eq e.image.0 p) in
            let l = ap length s in
            let low = old.enough in
            let count = old.count in
            let less : event_after cell.coarray cell.offset (of_memory cell.owner (h ++ e ∷ [])) ≡ event_after cell.coarray cell.offset (of_memory cell.owner h) - k =
            count_step ∙ ap (counted (event_after cell.coarray cell.offset (of_memory cell.owner h))) act ∙ ap (λ b. cond b (event_after cell.coarray cell.offset (of_memory cell.owner h) - k) (event_after cell.coarray cell.offset (of_memory cell.owner h))) here in
            record {
              waits = waits_step ∙ ap (shifted seg (waiting (view n) (event cell) h)) act
                  ∙ ap (λ b. cond b (drop k (waiting (view n) (event cell) h)) (waiting (view n) (event cell) h)) here ∙ ap (drop k) old.waits
                  ∙ drop_more (posted h) k (taken h) ∙ ap (λ m. drop m (posted h)) (sym t) ∙ ap (drop (taken (h ++ e ∷ []))) (sym s);
              enough = omega arith;
              count = omega arith;
            }
          where
            nil_more : (q : List Segment) (b : Bool) → q ++ cond {A = List Segment} b [] [] ≡ q
            nil_more q true = append-nil q
            nil_more q false = append-nil q

        -- One more entry, where the event's posts are the poster's and its waits are the owner's and could come.
        pub one_more : ((d : Cell) → act_of e ≡ posts d → same_cell cell d ≡ true → e.image.0 ≡ p)
            → ((d : Cell) (k : ℕ) → act_of e ≡ waits d k → same_cell cell d ≡ true → (e.image.0 ≡ cell.owner) × (k ≤ event_after cell.coarray cell.offset (of_memory cell.owner h)))
            → IsCounted (h ++ e ∷ [])
        one_more poster waiter = by (act_of e) refl
          where
            by : (a : Act) → act_of e ≡ a → IsCounted (h ++ e ∷ [])
            by (posts d) act = elim (cases_Bool (same_cell cell d)) [
              | inl t ↦ posts_here d act t (poster d act t)
              | inr f ↦ other (ap posts_at act ∙ f) (ap takes_at act) (λ q. ap (shifted seg q) act ∙ ap (λ b. cond b (q ++ seg ∷ []) q) f) (λ m. ap (counted m) act ∙ ap (λ b. cond b (m + 1) m) f)
            ]
            by (waits d k) act = elim (cases_Bool (same_cell cell d)) [
              | inl t ↦ (let w = waiter d k act t in waits_here d k act t w.0 w.1)
              | inr f ↦ other (ap posts_at act) (ap takes_at act ∙ ap (λ b. cond b k 0) f) (λ q. ap (shifted seg q) act ∙ ap (λ b. cond b (drop k q) q) f) (λ m. ap (counted m) act ∙ ap (λ b. cond b (m - k) m) f)
            ]
            by a act = other (ap posts_at act) (ap takes_at act) (λ q. ap (shifted seg q) act) (λ m. ap (counted m) act)

    pub none_yet : IsCounted []
    none_yet = record { waits = refl; enough = omega arith; count = refl }
