-- LOCK, UNLOCK, EVENT POST and EVENT WAIT.
use Rattle.std.proofs.Common.{◌≡◌, ◌∙◌, ℕ, ◌+◌, ◌<◌, ◌≤◌, true, max, List, [], ◌∷◌, ◌++◌, length, refl, ap, sym, subst, append_assoc, arith, Bool}
use Rattle.std.specs.Prelude.{ℤ, pos, slice_get}
use Rattle.caf_base.specs.Arithmetic.{natural}
use Rattle.caf_events.specs.declared.ask.Ask.TheVariants as asks
use Rattle.walk_theory.specs.Syntax.{Parts}
use Rattle.checked_tree.specs.declared.data.Object.TheVariants as objects
use Rattle.checked_tree.specs.declared.expr.WrittenOrder.{WrittenOrder}
use Rattle.checked_tree.specs.declared.expr.WrittenOrder.TheVariants as orders
use Rattle.checked_tree.specs.Expressions as t
use Rattle.object_rules.specs.Cells.{Declared}
use Rattle.object_rules.specs.MemoryRules.{holds, is_lock, is_event}
use Rattle.core_runs.specs.Beginnings.{IsOneOf}
use Rattle.image_acts.specs.Statuses.{most_cells, unlocked_failed_image}
use Rattle.image_acts.specs.Words.{word}
use Rattle.image_acts.specs.Acts as a
use Rattle.image_acts.specs.Acts.{Act, stack, ask}
use Rattle.image_acts.specs.Core.{Core, with_values}
use Rattle.image_acts.specs.Replies.{status_of, with_status, acquired_in, try_reply}
use Rattle.image_acts.specs.Operate.Asking.{cell_span}
use Rattle.image_acts.specs.Meaning.{effect_of}
use Rattle.image_code.specs.Sizes.{numbers}
use Rattle.tree_meaning.specs.Environment.{Environment}
use Rattle.tree_meaning.specs.Sequences.{◌▸◌, doing, dropping, copying, pushing}
use Rattle.tree_meaning.specs.Settling.{settling, settling_selector}
use Rattle.tree_meaning.specs.Expressions as view
use Rattle.tree_meaning.specs.ImageControl as control
use Rattle.made_code.specs.Ranks as ranks
use Rattle.made_code.proofs.Turns.{Turns, closes, ended, acts, ◌⨾◌, part}
use Rattle.made_code.proofs.Forms.{dropped, copied, pushed as number_pushed, stored}
use Rattle.made_code.proofs.Expressions.{place_turns, result_turns}
use Rattle.made_code.proofs.Assignments.{settled as status_settled, selector_settled}
use Rattle.made_code.proofs.ImageControl.{or_number, put_down_two, there_turns}
use Rattle.stack_laws.specs.Exact.{Stand}
use Rattle.stack_laws.proofs.Standing.{stand_of, parted}
use Rattle.cell_walks.specs.Fitting.{Sizes, IsSound, EffectFits, PartsFit, Leave}
use Rattle.cell_walks.proofs.Images.{word_image}
use Rattle.cell_walks.proofs.Quieting.{Safe, one, both}
use Rattle.cell_statements.proofs.Points.{asked_there, cell_fits, two_copied}
use Rattle.cell_statements.specs.Reading.{OptionalReads, PlaceReads, StatReads}
use Rattle.cell_statements.proofs.Quiet.{quiet_ranked, quiet_place, quiet_result, quiet_dropping, quiet_bringing, quiet_storing}
use Rattle.cell_statements.proofs.QuietStatements.{quiet_there, quiet_settling, quiet_selector_status, quiet_put_down}
use Rattle.cell_statements.proofs.Cells.{one_number, Done, passed, ending, own_celled, celled, IsAsked, asked}

-- numbers that EVENT WAIT puts down
waiting_quiet : (readable : ℕ → Bool) (e : Environment) (until : t.OptionalExpression) (stat : t.OptionalResult) (order : WrittenOrder) → ranks.IsOptionalScalar e.program.procedures until → ranks.IsOptionalResult e.program.procedures stat
    → OptionalReads readable until → StatReads readable stat → Safe readable (control.put_down_as_written order (control.or_number e until (pushing (pos 1))) 1 (view.optional_place e stat) (view.optional_size stat))
waiting_quiet readable e until stat order h g w r = by_order order (threshold until h w)
  where
    threshold : (x : t.OptionalExpression) → ranks.IsOptionalScalar e.program.procedures x → OptionalReads readable x → Safe readable (control.or_number e x (pushing (pos 1)))
    threshold t.missing h' w' = one tt
    threshold (t.given x) h' w' = quiet_ranked readable e x 0 h' w'

    by_order : (o : WrittenOrder) → Safe readable (control.or_number e until (pushing (pos 1))) → Safe readable (control.put_down_as_written o (control.or_number e until (pushing (pos 1))) 1 (view.optional_place e stat) (view.optional_size stat))
    by_order orders.Same q = both q (quiet_place readable e stat g r)
    by_order orders.Reversed q = both (quiet_place readable e stat g r) (both q (quiet_bringing 1 (view.optional_size stat)))

at_least_one : (k : ℕ) → 1 ≤ max k 1
at_least_one k = omega arith

module _ (n me : ℕ) (coarrays : List Declared) (readable : ℕ → Bool) (there : IsOneOf n me) (e : Environment) where
  -- ---- the asks
  lock_asked : (k : ℕ) → holds is_lock (slice_get coarrays k) ≡ true → IsAsked n me coarrays readable (a.lock k) 1
  lock_asked k h y c o s us After one' small i more =
      ((word_image n o one', cell_fits coarrays (word (pos o)) is_lock k s small h), λ r u. more (with_status r (with_values c us)) (status_of r ∷ []) i refl refl)

  try_asked : (k : ℕ) → holds is_lock (slice_get coarrays k) ≡ true → IsAsked n me coarrays readable (a.try_lock k) 2
  try_asked k h y c o s us After one' small i more =
      ((word_image n o one', cell_fits coarrays (word (pos o)) is_lock k s small h), λ r u. more (try_reply (with_values c us) r) (status_of r ∷ acquired_in r ∷ []) i refl refl)

  unlock_asked : (k : ℕ) → holds is_lock (slice_get coarrays k) ≡ true → IsAsked n me coarrays readable (a.unlock k) 1
  unlock_asked k h y c o s us After one' small i more =
      ((word_image n o one', cell_fits coarrays (word (pos o)) is_lock k s small h), λ r u. more (with_status r (with_values c us)) (status_of r ∷ []) i refl refl)

  post_asked : (k : ℕ) → holds is_event (slice_get coarrays k) ≡ true → IsAsked n me coarrays readable (a.post k) 1
  post_asked k h y c o s us After one' small i more =
      ((word_image n o one', cell_fits coarrays (word (pos o)) is_event k s small h), λ r u. more (with_status r (with_values c us)) (status_of r ∷ []) i refl refl)

  -- ---- the cell, with an image selector and without
  pub any_cell : (k : ℕ) (ss : t.Subscripts) (sel : t.Selector) → ranks.IsPart e.program.procedures (t.part (objects.Coarray k) ss sel) 0 → PlaceReads readable (t.part (objects.Coarray k) ss sel) → (vs : List ℤ) (After : Sizes → Core → Type 0) (y : Sizes) (c : Core) → IsSound n me y c → c.values ≡ vs
      → ((u : Sizes) (d : Core) (o s : ℕ) (ps : List ℤ) → IsSound n me u d → IsOneOf n o → s < most_cells → length ps ≡ view.optional_size (view.stat_of sel) → d.values ≡ pos o ∷ pos s ∷ (ps ++ vs) → After u d)
      → PartsFit n me coarrays readable (control.cell e (t.part (objects.Coarray k) ss sel)) After y c
  any_cell k ss t.no_selector h w vs After y c i v more = own_celled n me coarrays readable there e k ss h.0 h.1 w.0 vs After y c i v (λ u d o s j one' p r. more u d o s [] j one' p refl r)
  any_cell k ss (t.selector cs which stat) h w vs After y c i v more = celled n me coarrays readable e k ss cs which stat h w vs After y c i v more

  -- ---- behind the ask
  rest_turns : (d : t.Designator) (stat : t.OptionalResult) (ss : List ℤ) → Turns (numbers (1 + (view.optional_size stat + (view.optional_size (control.cell_stat e d) + 2))) 0)
      (doing (stack a.accessed ∷ []) ▸ settling_selector (control.cell_stat e d) (view.optional_size stat + 4) ▸ settling stat 1 ss ▸ dropping (view.optional_size stat + control.cell_size e d))
  rest_turns d stat ss =
      let o = view.optional_size stat in
      closes (acts ended ⨾ part (selector_settled (control.cell_stat e d) (o + 4) (o + 3) (omega arith) (omega arith)) ⨾ part (status_settled stat 1 o ss (omega arith) (omega arith)) ⨾ part (dropped (o + control.cell_size e d))) (omega arith)

  rest_quiet : (d : t.Designator) (stat : t.OptionalResult) (ss : List ℤ)
      → Safe readable (doing (stack a.accessed ∷ []) ▸ settling_selector (control.cell_stat e d) (view.optional_size stat + 4) ▸ settling stat 1 ss ▸ dropping (view.optional_size stat + control.cell_size e d))
  rest_quiet d stat ss =
      both (one tt) (both (quiet_selector_status (control.cell_stat e d) (view.optional_size stat + 4)) (both (quiet_settling stat 1 ss) (quiet_dropping (view.optional_size stat + control.cell_size e d))))

  -- ---- LOCK without ACQUIRED_LOCK=, UNLOCK, EVENT POST
  acting : (x : a.AskAct) (k : ℕ) (ss : t.Subscripts) (sel : t.Selector) (stat : t.OptionalResult) (accepted : List ℤ) → IsAsked n me coarrays readable x 1 → ranks.IsPart e.program.procedures (t.part (objects.Coarray k) ss sel) 0
      → PlaceReads readable (t.part (objects.Coarray k) ss sel) → ranks.IsOptionalResult e.program.procedures stat → StatReads readable stat → Leave n me coarrays readable 0
      (control.cell e (t.part (objects.Coarray k) ss sel) ▸ view.optional_place e stat ▸ control.cell_there e (t.part (objects.Coarray k) ss sel) ▸ copying (view.optional_size stat) 2 ▸ doing (ask x ∷ stack a.accessed ∷ [])
      ▸ settling_selector (view.stat_of sel) (view.optional_size stat + 4) ▸ settling stat 1 accepted ▸ dropping (view.optional_size stat + control.cell_size e (t.part (objects.Coarray k) ss sel)))
  acting x k ss sel stat accepted asks h p g r vs y c i v =
      let d = t.part (objects.Coarray k) ss sel in
      any_cell k ss sel h p vs _ y c i v
      (λ u f o s ps j one' small lp w. asked n me coarrays readable x 1 asks (stack a.accessed ∷ []) (place_turns e stat g) (quiet_place readable e stat g r) (there_turns e d) (quiet_there readable e d) (rest_turns d stat accepted) (rest_quiet d stat accepted) vs ps u f o s j one' small lp w)

  -- ---- LOCK with ACQUIRED_LOCK=
  tried_turns : (d : t.Designator) (r : t.ResultVariable) (stat : t.OptionalResult) → Turns (numbers (2 + ((view.result_size r + view.optional_size stat) + (view.optional_size (control.cell_stat e d) + 2))) 0)
      (doing (stack a.accessed ∷ []) ▸ settling_selector (control.cell_stat e d) (view.result_size r + (view.optional_size stat + 5)) ▸ copying 1 1 ▸ view.storing (view.optional_size stat + 3) r
      ▸ settling stat 2 (unlocked_failed_image ∷ []) ▸ dropping (1 + (view.result_size r + (view.optional_size stat + control.cell_size e d))))
  tried_turns d r stat =
      let o = view.optional_size stat in
      let m = view.result_size r in
      closes (acts ended ⨾ part (selector_settled (control.cell_stat e d) (m + (o + 5)) (m + (o + 4)) (omega arith) (omega arith)) ⨾ part (copied 1 1)
      ⨾ part (stored (o + 3) (o + 2 + m) r (omega arith) (omega arith)) ⨾ part (status_settled stat 2 (o + 1) (unlocked_failed_image ∷ []) (omega arith) (omega arith))
      ⨾ part (dropped (1 + (m + (o + control.cell_size e d))))) (omega arith)

  tried_quiet : (d : t.Designator) (r : t.ResultVariable) (stat : t.OptionalResult) → Safe readable
      (doing (stack a.accessed ∷ []) ▸ settling_selector (control.cell_stat e d) (view.result_size r + (view.optional_size stat + 5)) ▸ copying 1 1 ▸ view.storing (view.optional_size stat + 3) r
      ▸ settling stat 2 (unlocked_failed_image ∷ []) ▸ dropping (1 + (view.result_size r + (view.optional_size stat + control.cell_size e d))))
  tried_quiet d r stat =
      both (one tt) (both (quiet_selector_status (control.cell_stat e d) (view.result_size r + (view.optional_size stat + 5))) (both (one tt) (both (quiet_storing (view.optional_size stat + 3) r)
      (both (quiet_settling stat 2 (unlocked_failed_image ∷ [])) (quiet_dropping (1 + (view.result_size r + (view.optional_size stat + control.cell_size e d))))))))

  pub lock_fits : (k : ℕ) (ss : t.Subscripts) (sel : t.Selector) (acquired stat : t.OptionalResult) (order : WrittenOrder) → holds is_lock (slice_get coarrays k) ≡ true
      → ranks.IsPart e.program.procedures (t.part (objects.Coarray k) ss sel) 0 → ranks.IsOptionalResult e.program.procedures acquired → ranks.IsOptionalResult e.program.procedures stat
      → PlaceReads readable (t.part (objects.Coarray k) ss sel) → StatReads readable acquired → StatReads readable stat → Leave n me coarrays readable 0 (control.lock e (t.part (objects.Coarray k) ss sel) acquired stat order)
  lock_fits k ss sel t.no_result stat order y h f g p q w vs z c i v = acting (a.lock k) k ss sel stat (unlocked_failed_image ∷ []) (lock_asked k y) h p g w vs z c i v
  lock_fits k ss sel (t.result r) stat order y h f g p q w vs z c i v =
      let d = t.part (objects.Coarray k) ss sel in
      any_cell k ss sel h p vs _ z c i v
      (λ u b o s ps j one' small lp l. asked n me coarrays readable (a.try_lock k) 2 (try_asked k y) (stack a.accessed ∷ [])
      (put_down_two order (view.result_size r) (view.optional_size stat) (result_turns e r f) (place_turns e stat g))
      (quiet_put_down order (view.result_place e r) (view.result_size r) (view.optional_place e stat) (view.optional_size stat) (quiet_result readable e r f q) (quiet_place readable e stat g w)) (there_turns e d) (quiet_there readable e d)
      (tried_turns d r stat) (tried_quiet d r stat) vs ps u b o s j one' small lp l)

  pub unlock_fits : (k : ℕ) (ss : t.Subscripts) (sel : t.Selector) (stat : t.OptionalResult) → holds is_lock (slice_get coarrays k) ≡ true → ranks.IsPart e.program.procedures (t.part (objects.Coarray k) ss sel) 0
      → ranks.IsOptionalResult e.program.procedures stat → PlaceReads readable (t.part (objects.Coarray k) ss sel) → StatReads readable stat → Leave n me coarrays readable 0 (control.unlock e (t.part (objects.Coarray k) ss sel) stat)
  unlock_fits k ss sel stat y h g p w = acting (a.unlock k) k ss sel stat [] (unlock_asked k y) h p g w

  pub post_fits : (k : ℕ) (ss : t.Subscripts) (sel : t.Selector) (stat : t.OptionalResult) → holds is_event (slice_get coarrays k) ≡ true → ranks.IsPart e.program.procedures (t.part (objects.Coarray k) ss sel) 0
      → ranks.IsOptionalResult e.program.procedures stat → PlaceReads readable (t.part (objects.Coarray k) ss sel) → StatReads readable stat → Leave n me coarrays readable 0 (control.event_post e (t.part (objects.Coarray k) ss sel) stat)
  post_fits k ss sel stat y h g p w = acting (a.post k) k ss sel stat [] (post_asked k y) h p g w

  -- ---- EVENT WAIT
  module _ (k : ℕ) (stat : t.OptionalResult) (typed : holds is_event (slice_get coarrays k) ≡ true) (vs : List ℤ) where
    abbrev o : ℕ
    o = view.optional_size stat

    abbrev after_ask : Parts Act
    after_ask = settling stat 1 [] ▸ dropping (view.optional_size stat + 2)

    abbrev asking : Parts Act
    asking = doing (ask (a.wait k) ∷ []) ▸ after_ask

    abbrev On : Parts Act → Sizes → Core → Type 0
    On p y c = PartsFit n me coarrays readable p (Done n me coarrays readable vs) y c

    wait_turns : Turns (numbers (1 + (view.optional_size stat + 2)) 0) after_ask
    wait_turns = closes (part (status_settled stat 1 (view.optional_size stat) [] (omega arith) (omega arith)) ⨾ part (dropped (view.optional_size stat + 2))) (omega arith)

    wait_quiet : Safe readable after_ask
    wait_quiet = both (quiet_settling stat 1 []) (quiet_dropping (view.optional_size stat + 2))

    long : (v : ℤ) (qs : List ℤ) (u w : ℤ) → length qs ≡ view.optional_size stat → length (v ∷ (qs ++ (u ∷ w ∷ []))) ≡ 1 + (view.optional_size stat + 2)
    long v qs u w l = (let f = more qs in omega arith)
      where
        more : (xs : List ℤ) → length (xs ++ (u ∷ w ∷ [])) ≡ length xs + 2
        more [] = refl
        more (x ∷ xs) = (let h = more xs in omega arith)

    -- the threshold stands on the place
    waits : (y : Sizes) (c : Core) (qs : List ℤ) (u : ℤ) (s : ℕ) → IsSound n me y c → length qs ≡ view.optional_size stat → s < most_cells
        → EffectFits n me coarrays readable (effect_of (ask (a.wait k)) (with_values c (u ∷ pos s ∷ (qs ++ (u ∷ pos s ∷ vs))))) (On after_ask) y
    waits y c qs u s i l small =
        let d = with_values c (qs ++ (u ∷ pos s ∷ vs)) in
        let m = 1 + (view.optional_size stat + 2) in
        asked_there n me coarrays readable (a.wait k) k s (asks.Wait (record { 0 = c.me }) (cell_span k (pos s)) (max (natural u) 1)) (λ r. with_status r d) (On after_ask) y c i
        (λ h. (
          (i.own, cell_fits coarrays c.me is_event k s small typed, at_least_one (natural u), h),
          λ r x.
              (let z = status_of r in
              ending n me coarrays readable wait_turns wait_quiet vs y (with_status r d) i
              (subst (λ q. Stand m vs (z ∷ q)) (append_assoc qs (u ∷ pos s ∷ []) vs) (stand_of m (z ∷ (qs ++ (u ∷ pos s ∷ []))) vs (long z qs u (pos s) l)))),
        ))

    copied_and_waits : (y : Sizes) (c : Core) (qs : List ℤ) (u : ℤ) (s : ℕ) → IsSound n me y c → length qs ≡ view.optional_size stat → s < most_cells → c.values ≡ qs ++ (u ∷ pos s ∷ vs)
        → On (copying (view.optional_size stat) 2 ▸ asking) y c
    copied_and_waits y c qs u s i l small v =
        subst (λ z. EffectFits n me coarrays readable (effect_of (stack (a.copy (view.optional_size stat) 2)) (with_values c z)) (On asking) y) (sym v)
        (two_copied n me coarrays readable (view.optional_size stat) y c qs u (pos s) vs l (On asking) (waits y c qs u s i l small))

  pub wait_fits : (k : ℕ) (ss : t.Subscripts) (until : t.OptionalExpression) (stat : t.OptionalResult) (order : WrittenOrder) → holds is_event (slice_get coarrays k) ≡ true
      → ranks.IsPart e.program.procedures (t.part (objects.Coarray k) ss t.no_selector) 0 → ranks.IsOptionalScalar e.program.procedures until → ranks.IsOptionalResult e.program.procedures stat
      → PlaceReads readable (t.part (objects.Coarray k) ss t.no_selector) → OptionalReads readable until → StatReads readable stat → Leave n me coarrays readable 0 (control.event_wait e (t.part (objects.Coarray k) ss t.no_selector) until stat order)
  wait_fits k ss until stat order y h f g r q t' vs z c i v =
      own_celled n me coarrays readable there e k ss h.0 h.1 r.0 vs (On k stat y vs (dropping 1 ▸ first)) z c i v (λ x d o s j one' p w. begun x d o s j p w)
    where
      puts : Parts Act
      puts = control.put_down_as_written order (control.or_number e until (pushing (pos 1))) 1 (view.optional_place e stat) (view.optional_size stat)

      second : Parts Act
      second = copying (view.optional_size stat) 2 ▸ asking k stat y vs

      first : Parts Act
      first = puts ▸ second

      goes : (s : ℕ) → s < most_cells → (x : Sizes) (b : Core) (xs : List ℤ) → IsSound n me x b → length xs ≡ 1 + view.optional_size stat → b.values ≡ xs ++ (pos s ∷ vs) → On k stat y vs second x b
      goes s small x b xs m l w =
          let r = parted (view.optional_size stat) 1 xs (l ∙ omega arith) in
          let q = one_number r.1 r.3 in
          copied_and_waits k stat y vs x b r.0 q.0 s m r.2 small
          (w ∙ (ap (λ u. u ++ (pos s ∷ vs)) r.4 ∙ (append_assoc r.0 r.1 (pos s ∷ vs) ∙ ap (λ u. r.0 ++ (u ++ (pos s ∷ vs))) q.1)))

      begun : (x : Sizes) (d : Core) (o s : ℕ) → IsSound n me x d → s < most_cells → d.values ≡ pos o ∷ pos s ∷ vs → On k stat y vs (dropping 1 ▸ first) x d
      begun x d o s j p w =
          subst (λ u. EffectFits n me coarrays readable (effect_of (stack (a.drop 1)) (with_values d u)) (On k stat y vs first) x) (sym w)
          (passed n me coarrays readable (put_down_two order 1 (view.optional_size stat) (or_number e until f (number_pushed (pos 1))) (place_turns e stat g)) (waiting_quiet readable e until stat order f g q t')
          (pos s ∷ vs) (On k stat y vs second) x (with_values d (pos s ∷ vs)) j refl (λ u b xs m l r. goes s p u b xs m l r))
