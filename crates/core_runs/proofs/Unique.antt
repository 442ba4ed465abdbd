-- There is one ordered run from a beginning, and so one trace of it.
use Rattle.std.proofs.Common.{◌≡◌, ℕ, zero, suc, ◌+◌, ◌-◌, ◌<◌, ◌≤◌, Bool, true, false, IsTrue, Some, List, [], ◌∷◌, ◌++◌, ◌⊎◌, inl, inr, length, slice_get, refl, ap, sym, ◌∙◌, subst, arith, max}
use Rattle.std.proofs.lemmas.Option.{slice_get_within}
use Rattle.std.proofs.lemmas.Bool.{cases_Bool, cases_eq, cases_order}
use Rattle.std.specs.List.{filter, range_with_len}
use Rattle.caf_events.specs.declared.ask.Ask.{Ask}
use Rattle.caf_events.specs.declared.reply.Reply.{Reply}
use Rattle.caf_events.specs.declared.event.Event.{Event}
use Rattle.caf_events.specs.declared.event.Entry.{Entry}
use Rattle.caf_events.specs.Asks.{place_of}
use Rattle.caf_events.specs.Walkers.{AsksNext, IsAtLine, Continues}
use Rattle.trace_theory.specs.Machines.{Move, asks, goes, over, go, goes_on, Rests}
use Rattle.trace_theory.proofs.Machines.{go_more, stays}
use Rattle.trace_theory.proofs.Orders.{one_trace}
use Rattle.caf_events.specs.Histories.{last_stamp_of}
use Rattle.caf_events.specs.Events.{EndsRun}
use Rattle.core_runs.specs.Lists.{image_of, stamp_of, list_at, entry, last_of}
use Rattle.core_runs.specs.Moments.{Rules, Moment, IsNextEvent, Steps, item_at, ready_there, reply_there, can_move, can_move_from, can_step, history_there, with_item, histories_with, board_with}
use Rattle.core_runs.specs.Beginnings.{Beginning, IsFirst}
use Rattle.core_runs.specs.CoreRuns.{of_image}
use Rattle.core_runs.specs.Orders.{Chooser, candidates, Ordered, IsWhole, IsOrderTrace}

-- with the same items two lists of one length are equal
same_items : {A : Type 0} (n : ℕ) (xs ys : List A) → length xs ≡ n → length ys ≡ n → ((k : ℕ) (x y : A) → slice_get xs k ≡ Some x → slice_get ys k ≡ Some y → x ≡ y) → xs ≡ ys
same_items n [] [] p q same = refl
same_items n [] (y ∷ ys) p q same = absurd (let h : 0 ≡ suc (length ys) = p ∙ sym q in omega arith)
same_items n (x ∷ xs) [] p q same = absurd (let h : 0 ≡ suc (length xs) = q ∙ sym p in omega arith)
same_items n (x ∷ xs) (y ∷ ys) p q same =
    let heads = same 0 x y refl refl in
    let h : suc (length ys) ≡ suc (length xs) = q ∙ sym p in
    let tails = same_items (length xs) xs ys refl (omega arith) (λ k. same (suc k)) in
    ap (λ z. z ∷ xs) heads ∙ ap (λ zs. y ∷ zs) tails

module _ {C A R : Type 0} (step : C → Move C A R) where
  -- where the steps of a machine rest, there are no further ones
  rests_early : (n k : ℕ) (c d e : C) → go step n c ≡ goes d → go step (n + suc k) c ≡ goes e → Rests (step d) → ⊥
  rests_early n k c d e p q s =
      let h = go_more C A R step n (suc k) c ∙ ap (λ v. goes_on v (go step (suc k))) p ∙ stays (step d) (go step k) s in
      let g : step d ≡ goes e = sym h ∙ q in
      subst Rests g s

  -- a configuration goes on by itself to one place of rest
  pub one_rest : (n k : ℕ) (c d e : C) → go step n c ≡ goes d → go step k c ≡ goes e → Rests (step d) → Rests (step e) → d ≡ e
  one_rest n k c d e p q s t =
      elim (cases_order n k) [
        | inl same ↦ (let h : go step k c ≡ goes d = ap (λ j. go step j c) (sym same) ∙ p in let g = sym h ∙ q in cc)
        | inr (inl less) ↦ absurd (rests_early n (k - suc n) c d e p (let j : n + suc (k - suc n) ≡ k = omega arith in ap (λ i. go step i c) j ∙ q) s)
        | inr (inr less) ↦ absurd (rests_early k (n - suc k) c e d q (let j : k + suc (n - suc k) ≡ n = omega arith in ap (λ i. go step i c) j ∙ p) t)
      ]

module _ (C M B : Type 0) (r : Rules C M B) where
  -- there is one moment before the first step
  pub one_first : (b : Beginning C M B) (m n : Moment C M B) → IsFirst r b m → IsFirst r b n → m ≡ n
  one_first b m n f g =
      let configs = same_items b.images m.configs n.configs f.count g.count (λ k c d p q. (let x = f.starts k c p in let y = g.starts k d q in one_rest r.step x.0 y.0 (b.first (suc k)) c d x.1 y.1 (f.rests k c p) (g.rests k d q))) in
      let events = f.events ∙ sym g.events in
      let memories = f.memories ∙ sym g.memories in
      let histories = f.histories ∙ sym g.histories in
      let board = f.board ∙ sym g.board in
      let board_history = f.board_history ∙ sym g.board_history in
      λ i. record { configs = configs i; events = events i; memories = memories i; histories = histories i; board = board i; board_history = board_history i }

  -- a move asks one thing, at one line
  one_ask : (m : Move C Ask Reply) (a b : Ask) → AsksNext m a → AsksNext m b → a ≡ b
  one_ask (goes c) a b p q = absurd p
  one_ask (asks x l k) a b p q = p ∙ sym q
  one_ask over a b p q = absurd p

  one_line : (m : Move C Ask Reply) (a b : ℕ) → IsAtLine m a → IsAtLine m b → a ≡ b
  one_line (goes c) a b p q = absurd p
  one_line (asks x l k) a b p q = p ∙ sym q
  one_line over a b p q = absurd p

  -- after a reply a move goes on to one place of rest
  one_next : (m : Move C Ask Reply) (a : Reply) (d e : C) → Continues r.step m a d → Continues r.step m a e → Rests (r.step d) → Rests (r.step e) → d ≡ e
  one_next (goes c) a d e p q s t = absurd p
  one_next (asks x l k) a d e (i, p) (j, q) s t = one_rest r.step i j (k a) d e p q s t
  one_next over a d e p q s t = absurd p

  -- of one image from one configuration one event is due
  pub one_due : (m : Moment C M B) (i : ℕ) (c : C) (e f : Event) → IsNextEvent r m i c e → IsNextEvent r m i c f → e ≡ f
  one_due m i c e f p q =
      let ask = one_ask (r.step c) e.ask f.ask p.asked q.asked in
      let line = one_line (r.step c) e.line f.line p.line q.line in
      let reply : e.reply ≡ f.reply = p.reply ∙ ap (λ a. reply_there r m i a (place_of a)) ask ∙ sym q.reply in
      let stamp : e.stamp ≡ f.stamp = p.stamp ∙ ap (λ a. max (last_of (list_at m.events i)) (last_stamp_of (history_there m (place_of a))) + 1) ask ∙ sym q.stamp in
      λ x. record { ask = ask x; reply = reply x; stamp = stamp x; line = line x }

  -- one image makes one step, to one moment
  pub one_step : (m n k : Moment C M B) (i : ℕ) (e f : Event) → Steps r m i e n → Steps r m i f k → (e ≡ f) × (n ≡ k)
  one_step m n k i e f p q =
      let some : Some p.from ≡ Some q.from = sym p.stands ∙ q.stands in
      let from : p.from ≡ q.from = cc in
      let event = one_due m i p.from e f p.due (subst (λ c. IsNextEvent r m i c f) (sym from) q.due) in
      let there = subst (λ c. Continues r.step (r.step c) f.reply q.to) (sym from) q.goes_on in
      let then = subst (λ (x : Event). Continues r.step (r.step p.from) x.reply q.to) (sym event) there in
      let to = one_next (r.step p.from) e.reply p.to q.to p.goes_on then p.rests q.rests in
      let configs = p.configs ∙ ap (with_item m.configs i) to ∙ sym q.configs in
      let events = p.events ∙ ap (λ x. with_item m.events i (list_at m.events i ++ x ∷ [])) event ∙ sym q.events in
      let memories = p.memories ∙ sym q.memories in
      let histories = p.histories ∙ ap (λ (x : Event). histories_with (place_of x.ask) m.histories (entry i x)) event ∙ sym q.histories in
      let board = p.board ∙ sym q.board in
      let board_history = p.board_history ∙ ap (λ (x : Event). board_with (place_of x.ask) m.board_history (entry i x)) event ∙ sym q.board_history in
      (event, λ x. record { configs = configs x; events = events x; memories = memories x; histories = histories x; board = board x; board_history = board_history x })

-- where no number of a range passes a test, it passes at none of them
none_pass : (p : ℕ → Bool) (n a i : ℕ) → filter p (range_with_len a n) ≡ [] → a ≤ i → i < a + n → IsTrue (p i) → ⊥
none_pass p zero a i h l g t = omega arith
none_pass p (suc n) a i h l g t =
    elim (cases_Bool (p a)) [
      | inl y ↦ absurd (let k = rw y at h in cc)
      | inr z ↦ elim (cases_eq a i) [
        | inl same ↦ absurd (let k : false ≡ true = sym (ap p (sym same) ∙ z) ∙ t in cc)
        | inr other ↦ none_pass p n (a + 1) i (rw z at h) (omega arith) (omega arith) t
      ]
    ]

-- a number under which there is an item is from 1 to the length
item_within : {A : Type 0} (xs : List A) (i : ℕ) (x : A) → item_at xs i ≡ Some x → (1 ≤ i) × (i < 1 + length xs)
item_within xs zero x h = absurd (cc)
item_within xs (suc k) x h = let l = slice_get_within xs k x h in (omega arith, omega arith)

-- a list with one more at its end isn't empty
not_empty : {A : Type 0} (xs : List A) (x : A) → [] ≡ xs ++ x ∷ [] → ⊥
not_empty [] x h = cc
not_empty (y ∷ xs) x h = cc

module _ (C M B S : Type 0) (r : Rules C M B) (ch : Chooser S) where
  -- a move whose ask is ready can be made
  ready_moves : (m : Moment C M B) (i : ℕ) (v : Move C Ask Reply) (a : Ask) → AsksNext v a → IsTrue (ready_there r m i a (place_of a)) → IsTrue (can_move r m i v)
  ready_moves m i (goes c) a at t = absurd at
  ready_moves m i (asks b l k) a at t = subst (λ x. IsTrue (ready_there r m i x (place_of x))) at t
  ready_moves m i over a at t = absurd at

  -- where there is no candidate no step is made
  no_step : (m n : Moment C M B) (i : ℕ) (e : Event) → candidates r m ≡ [] → Steps r m i e n → ⊥
  no_step m n i e none p =
      let w = item_within m.configs i p.from p.stands in
      let can = subst (λ o. IsTrue (can_move_from r m i o)) (sym p.stands) (ready_moves m i (r.step p.from) e.ask p.due.asked p.due.ready) in
      none_pass (can_step r m) (length m.configs) 1 i none w.0 w.1 can

  -- a run with no step has no candidate
  whole_at_once : (m : Moment C M B) → IsWhole r [] m → candidates r m ≡ []
  whole_at_once m (inl w) = absurd (not_empty w.0 w.1 w.2)
  whole_at_once m (inr w) = w.1

  -- the first step ends the run and is the last one, or what follows it is whole
  abbrev WholeAfter : Entry → List Entry → Moment C M B → Type 0
  WholeAfter x xs m = (EndsRun x.event × (xs ≡ [])) ⊎ ((EndsRun x.event → ⊥) × IsWhole r xs m)

  whole_after : (x : Entry) (xs : List Entry) (m : Moment C M B) → IsWhole r (x ∷ xs) m → WholeAfter x xs m
  whole_after x xs m (inl ([], last, e, none, ends)) = (let h : last ≡ x = cc in inl (subst (λ (z : Entry). EndsRun z.event) h ends, cc))
  whole_after x xs m (inl (z ∷ before, last, e, none, ends)) =
      let h : z ≡ x = cc in
      let tails : xs ≡ before ++ last ∷ [] = cc in
      inr (subst (λ (y : Entry). EndsRun y.event → ⊥) h none.0, inl (before, last, tails, none.1, ends))
  whole_after x xs m (inr w) = inr (w.0.0, inr (w.0.1, w.1))

  -- from one moment there is one whole run
  one_run : (s : S) (m : Moment C M B) (xs ys : List Entry) (s1 s2 : S) (m1 m2 : Moment C M B) → Ordered r ch s m xs s1 m1 → Ordered r ch s m ys s2 m2 → IsWhole r xs m1 → IsWhole r ys m2 → xs ≡ ys
  one_run s m [] [] s1 s2 m1 m2 p q v w = refl
  one_run s m [] (y ∷ ys) s1 s2 m1 m2 p q v w = absurd (no_step m q.1 y.image.0 y.event (ap (candidates r) (sym p.1) ∙ whole_at_once m1 v) q.2)
  one_run s m (x ∷ xs) [] s1 s2 m1 m2 p q v w = absurd (no_step m p.1 x.image.0 x.event (ap (candidates r) (sym q.1) ∙ whole_at_once m2 w) p.2)
  one_run s m (x ∷ xs) (y ∷ ys) s1 s2 m1 m2 p q v w =
      let image : y.image.0 ≡ x.image.0 = q.0 ∙ sym p.0 in
      let step = one_step C M B r m p.1 q.1 x.image.0 x.event y.event p.2 (subst (λ i. Steps r m i y.event q.1) image q.2) in
      let after = subst (λ n. Ordered r ch (ch.after s (candidates r m)) n ys s2 m2) (sym step.1) q.3 in
      let same_image = sym image in
      let heads : x ≡ y = λ i. record { image = record { 0 = same_image i }; event = step.0 i } in
      let back : y ≡ x = sym heads in
      let tails : xs ≡ ys = elim (whole_after x xs m1 v) [
        | inl a ↦ elim (whole_after y ys m2 w) [
          | inl b ↦ a.1 ∙ sym b.1
          | inr b ↦ absurd (b.0 (subst (λ (z : Entry). EndsRun z.event) heads a.0))
        ]
        | inr a ↦ elim (whole_after y ys m2 w) [
          | inl b ↦ absurd (a.0 (subst (λ (z : Entry). EndsRun z.event) back b.0))
          | inr b ↦ one_run (ch.after s (candidates r m)) p.1 xs ys s1 s2 m1 m2 p.3 after a.1 b.1
        ]
      ] in
      ap (λ z. z ∷ xs) heads ∙ ap (λ zs. y ∷ zs) tails

  -- there is one trace of an ordered run
  pub one_order_trace : (b : Beginning C M B) (s : S) (t u : List Entry) → IsOrderTrace r b ch s t → IsOrderTrace r b ch s u → t ≡ u
  one_order_trace b s t u p q =
      let from = one_first C M B r b p.run.from q.run.from p.run.begins q.run.begins in
      let there = subst (λ m. Ordered r ch s m q.steps q.run.last q.run.to) (sym from) q.run.ordered in
      let steps = one_run s p.run.from p.steps q.steps p.run.last q.run.last p.run.to q.run.to p.run.ordered there p.run.whole q.run.whole in
      one_trace Entry image_of stamp_of t u p.ordered q.ordered (λ i. p.same i ∙ ap (of_image i) steps ∙ sym (q.same i))
