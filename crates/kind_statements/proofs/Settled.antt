-- What stands between the operands of statements: statuses, rounds of a team, and evaluation cells.
use Rattle.std.proofs.Common.{◌≡◌, ℕ, suc, ◌*◌, ◌≤◌, List, [], ◌∷◌, ◌++◌, length, refl}
use Rattle.std.specs.Prelude.{ℤ, pos, Option, None, Some}
use Rattle.caf_base.specs.declared.value.Kind.{Kind}
use Rattle.caf_base.specs.declared.value.Kind.TheVariants as kinds
use Rattle.checked_tree.specs.Expressions as t
use Rattle.checked_tree.specs.declared.expr.WrittenOrder.{WrittenOrder}
use Rattle.checked_tree.specs.declared.expr.WrittenOrder.TheVariants as orders
use Rattle.walk_theory.specs.Syntax.{Parts}
use Rattle.image_acts.specs.Acts as a
use Rattle.image_acts.specs.Acts.{Act, constant, stack, operator, selector, ask}
use Rattle.image_acts.specs.Statuses.{failed_image}
use Rattle.tree_meaning.specs.Environment.{Environment, procedure_in}
use Rattle.tree_meaning.specs.Sequences.{◌▸◌, doing, dropping, released, takes, is_one_of, requiring}
use Rattle.tree_meaning.specs.Settling.{settling, settling_selector}
use Rattle.tree_meaning.specs.Expressions as view
use Rattle.tree_meaning.specs.ImageControl.{round, put_down_as_written}
use Rattle.kind_walks.specs.Kinds.{Layout, Typing, with_number}
use Rattle.kind_walks.proofs.Effects.{with_numbers}
use Rattle.kind_walks.proofs.StackActs as acts
use Rattle.kind_expressions.specs.Kinded as kinded
use Rattle.kind_expressions.specs.Kinded.{unit_layout}
use Rattle.kind_expressions.proofs.Goes.{Setting, Goes, idle, ◌⨾◌, by_test, act_then, one_act, fork, Leaves, from_grouped, goes_dropping, goes_copying, goes_bringing}
use Rattle.kind_expressions.proofs.ImageActs as images
use Rattle.kind_expressions.proofs.Expressions.{IsThere, goes_storing}
use Rattle.kind_statements.proofs.ControlActs as control

module _ (w : Setting) where
  abbrev small : Typing → Typing
  small s = with_number (Some kinds.I4) s

  abbrev told : Typing → Typing
  told s = with_number (Some kinds.L4) s

  pub goes_released : {s t : Typing} {p : Parts Act} → Goes w s p t → Goes w s (released p) t
  goes_released {s} {t} {p} h = by_test (takes p) (λ e. h ⨾ one_act w t (stack a.release) t (acts.acts_release w.coarrays w.images t)) (λ e. h)

  pub goes_pushing : (z : ℤ) (s : Typing) → Goes w s (doing (constant z ∷ [])) (with_number None s)
  goes_pushing z s = one_act w s (constant z) (with_number None s) (acts.acts_constant w.coarrays w.images z None tt s)

  -- the status stays, and above it stands whether it is one of these
  goes_one_of : (as' : List ℤ) (s : Typing) → Goes w (told (small s)) (is_one_of as') (told (small s))
  goes_one_of [] s = idle
  goes_one_of (z ∷ as') s =
      let x = small s in
      act_then w (told x) (stack (a.copy 1 1)) (with_number (Some kinds.I4) (told x)) (acts.acts_copy w.coarrays w.images (Some kinds.L4 ∷ []) (Some kinds.I4 ∷ []) 1 1 refl refl s)
      (act_then w (with_number (Some kinds.I4) (told x)) (constant z) (with_number None (with_number (Some kinds.I4) (told x))) (acts.acts_constant w.coarrays w.images z None tt (with_number (Some kinds.I4) (told x)))
      (act_then w (with_number None (with_number (Some kinds.I4) (told x))) (operator a.equal) (told (told x)) (acts.acts_equal w.coarrays w.images (Some kinds.I4) None (told x))
      (one_act w (told (told x)) (operator a.any_of) (told x) (acts.acts_any w.coarrays w.images (Some kinds.L4) (Some kinds.L4) x)))) ⨾ goes_one_of as' s

  goes_requiring : (as' : List ℤ) (s : Typing) → Goes w (small s) (requiring as') s
  goes_requiring as' s =
      let x = small s in
      act_then w x (stack (a.copy 0 1)) (small x) (acts.acts_copy w.coarrays w.images [] (Some kinds.I4 ∷ []) 0 1 refl refl s)
      (act_then w (small x) (constant (pos 0)) (with_number None (small x)) (acts.acts_constant w.coarrays w.images (pos 0) None tt (small x))
      (one_act w (with_number None (small x)) (operator a.equal) (told x) (acts.acts_equal w.coarrays w.images (Some kinds.I4) None x)))
      ⨾ goes_one_of as' s ⨾ fork w (Some kinds.L4) x s (goes_dropping w s (Some kinds.I4 ∷ []) 1 refl) (one_act w x (ask a.error_stop) s (control.acts_error_stop w.coarrays w.images (Some kinds.I4) s s)) idle

  module _ (few : 2 * w.images ≤ 2147483647) (e : Environment) (own main : Layout) (main_is : main ≡ w.layouts 0) (units : (n : ℕ) → w.layouts (suc n) ≡ unit_layout (procedure_in e n).unit) where
    abbrev Here : Typing → Type 0
    Here s = IsThere w few e own main main_is units s

    -- the status goes into its STAT= variable, whose place is beneath others
    pub goes_settling : (r : t.OptionalResult) → kinded.IsOptionalResult e.program w.coarrays own main r (Some kinds.I4) → (us qs : List (Option Kind)) (depth : ℕ) → suc (length us) ≡ depth → length qs ≡ view.optional_size r → (as' : List ℤ)
        → (s : Typing) → Here s → Goes w (small (with_numbers us (with_numbers qs s))) (settling r depth as') (with_numbers us (with_numbers qs s))
    goes_settling t.no_result h us qs depth f g as' s i = goes_requiring as' (with_numbers us (with_numbers qs s))
    goes_settling (t.result r) h us qs depth f g as' s i = goes_storing w few e own main main_is units r (Some kinds.I4) h us qs depth f g s i

    -- directly on its place, which is dropped
    pub goes_settled : (r : t.OptionalResult) → kinded.IsOptionalResult e.program w.coarrays own main r (Some kinds.I4) → (qs : List (Option Kind)) → length qs ≡ view.optional_size r → (as' : List ℤ) → (s : Typing) → Here s
        → Goes w (small (with_numbers qs s)) (settling r 1 as' ▸ dropping (view.optional_size r)) s
    goes_settled r h qs g as' s i = goes_settling r h [] qs 1 refl g as' s i ⨾ goes_dropping w s qs (view.optional_size r) g

    -- with numbers beneath the place that are dropped too
    pub goes_settled_on : (r : t.OptionalResult) → kinded.IsOptionalResult e.program w.coarrays own main r (Some kinds.I4) → (qs vs : List (Option Kind)) (m : ℕ) → length qs ≡ view.optional_size r → length (qs ++ vs) ≡ m → (as' : List ℤ) → (s : Typing)
        → Here s → Goes w (small (with_numbers qs (with_numbers vs s))) (settling r 1 as' ▸ dropping m) s
    goes_settled_on r h qs vs m g f as' s i =
        goes_settling r h [] qs 1 refl g as' (with_numbers vs s) i ⨾ from_two (goes_dropping w s (qs ++ vs) m f)
      where
        from_two : {p : Parts Act} {z : Typing} → Goes w (with_numbers (qs ++ vs) s) p z → Goes w (with_numbers qs (with_numbers vs s)) p z
        from_two {p} {z} x = from_grouped w s vs qs x

    -- the status of an image selector's STAT=, whose place is beneath others; the status stays
    pub goes_settling_selector : (r : t.OptionalResult) → kinded.IsOptionalResult e.program w.coarrays own main r (Some kinds.I4) → (us qs : List (Option Kind)) (depth : ℕ) → suc (suc (length us)) ≡ depth → length qs ≡ view.optional_size r → (s : Typing) → Here s
        → Goes w (small (with_numbers us (with_numbers qs s))) (settling_selector r depth) (small (with_numbers us (with_numbers qs s)))
    goes_settling_selector t.no_result h us qs depth f g s i = idle
    goes_settling_selector (t.result r) h us qs depth f g s i =
        let y = with_numbers us (with_numbers qs s) in
        let x = small y in
        goes_copying w y [] (Some kinds.I4 ∷ []) 0 1 refl refl
        ⨾ act_then w (small x) (constant failed_image) (with_number None (small x)) (acts.acts_constant w.coarrays w.images failed_image None tt (small x))
        (one_act w (with_number None (small x)) (operator a.equal) (told x) (acts.acts_equal w.coarrays w.images (Some kinds.I4) None x))
        ⨾ fork w (Some kinds.L4) x (small x) (one_act w x (constant failed_image) (small x) (acts.acts_constant w.coarrays w.images failed_image (Some kinds.I4) refl x))
        (one_act w x (constant (pos 0)) (small x) (acts.acts_constant w.coarrays w.images (pos 0) (Some kinds.I4) refl x)) idle
        ⨾ goes_storing w few e own main main_is units r (Some kinds.I4) h (Some kinds.I4 ∷ us) qs depth f g s i

    -- a round of the current team
    pub goes_round : {s : Typing} {p : Parts Act} → Goes w (with_number None s) p s → Goes w s (round p) (small s)
    goes_round {s} {p} h =
        one_act w s (selector a.this_team) (with_number None s) (images.acts_this_team w.coarrays w.images few s) ⨾ h
        ⨾ act_then w s (selector a.this_team) (with_number None s) (images.acts_this_team w.coarrays w.images few s)
        (one_act w (with_number None s) (ask a.leave) (small s) (control.acts_leave w.coarrays w.images None s))

    -- two parts, put down in one order and evaluated as they are written
    pub record PutDown (s : Typing) (m k : ℕ) (p : Parts Act) : Type 0 where
      pub lower : List (Option Kind)
      pub upper : List (Option Kind)
      pub low : length lower ≡ m
      pub up : length upper ≡ k
      pub goes : Goes w s p (with_numbers upper (with_numbers lower s))

    pub goes_put_down : (o : WrittenOrder) (m k : ℕ) (s : Typing) {p q : Parts Act} → ((z : Typing) → Here z → Leaves w z m p) → ((z : Typing) → Here z → Leaves w z k q) → Here s → PutDown s m k (put_down_as_written o p m q k)
    goes_put_down orders.Same m k s f g i =
        let x = f s i in
        let y = g (with_numbers x.kinds s) i in
        record { lower = x.kinds; upper = y.kinds; low = x.long; up = y.long; goes = x.goes ⨾ y.goes }
    goes_put_down orders.Reversed m k s f g i =
        let y = g s i in
        let x = f (with_numbers y.kinds s) i in
        record { lower = x.kinds; upper = y.kinds; low = x.long; up = y.long; goes = y.goes ⨾ x.goes ⨾ goes_bringing w s x.kinds y.kinds m k x.long y.long }
