-- What a status does to an image that has no STAT=, and where it goes with STAT=.
use Rattle.std.proofs.Common.{◌≡◌, refl, ap, subst, ◌∙◌, ℕ, ◌+◌, ℤ, pos, Bool, true, false, ◌||◌, List, [], ◌∷◌}
use Rattle.std.specs.Ordering.{int_eq}
use Rattle.trace_theory.specs.Machines.{Move, goes, asks, go, goes_on, Comes}
use Rattle.trace_theory.proofs.Machines.{go_more}
use Rattle.caf_base.specs.Arithmetic.{truth, is_true}
use Rattle.caf_base.specs.declared.value.Kind.{Kind}
use Rattle.caf_events.specs.declared.ask.Ask.{Ask}
use Rattle.caf_events.specs.declared.ask.Ask.TheVariants as asked
use Rattle.caf_events.specs.declared.reply.Reply.{Reply}
use Rattle.checked_tree.specs.declared.data.Local.{Local}
use Rattle.checked_tree.specs.Expressions as t
use Rattle.walk_theory.specs.Syntax.{Parts, Steps}
use Rattle.walk_theory.specs.Walks.{Config, Task, eval, to, at_parts, step}
use Rattle.walk_theory.specs.Evaluation.{leaves, outcome, ComesTo}
use Rattle.walk_theory.proofs.Evaluation.{parts_come}
use Rattle.image_acts.specs.Acts.{Act, constant, stack, copy, operator, equal, ask, error_stop}
use Rattle.image_acts.specs.Core.{Core, pushed}
use Rattle.image_acts.specs.Frames.{with_cell}
use Rattle.image_acts.specs.Meaning.{image_language}
use Rattle.tree_meaning.specs.Environment.{scope_of}
use Rattle.tree_meaning.specs.Sequences.{◌▸◌, doing, dropping, is_one_of, choosing, requiring}
use Rattle.tree_meaning.specs.Settling.{is_among, is_accepted, settling}

-- truth values as numbers
true_number : (b : Bool) → is_true (truth b) ≡ b
true_number true = refl
true_number false = refl

or_later : (b x r : Bool) → ((b || x) || r) ≡ (b || (x || r))
or_later true x r = refl
or_later false x r = refl

or_false : (b : Bool) → b ≡ (b || false)
or_false true = refl
or_false false = refl

-- the test of a status against these, where b says what was found so far
tests_against : (accepted : List ℤ) (b : Bool) (s : ℤ) (c : Core)
    → outcome image_language (is_one_of accepted) (pushed (truth b) (pushed s c)) ≡ leaves (pushed (truth (b || is_among s accepted)) (pushed s c))
tests_against [] b s c = ap (λ x. leaves (pushed (truth x) (pushed s c))) (or_false b)
tests_against (a ∷ as') b s c =
    ap (λ x. outcome image_language (is_one_of as') (pushed (truth x) (pushed s c))) (ap (λ x. x || is_true (truth (int_eq s a))) (true_number b) ∙ ap (λ y. b || y) (true_number (int_eq s a)))
    ∙ (tests_against as' (b || int_eq s a) s c ∙ ap (λ x. leaves (pushed (truth x) (pushed s c))) (or_later b (int_eq s a) (is_among s as')))

module _ (procedures : ℕ → Steps Act) (limit : ℕ) where
  abbrev St : Config Act Core → Move (Config Act Core) Ask Reply
  St = step image_language procedures limit

  then_comes : (a b : Config Act Core) (m : Move (Config Act Core) Ask Reply) → Comes St a (goes b) → Comes St b m → Comes St a m
  then_comes a b m (n, h) (k, q) = (n + k, go_more (Config Act Core) Ask Reply St n k a ∙ (ap (λ v. goes_on v (go St k)) h ∙ q))

  first_step : (a b : Config Act Core) → St a ≡ goes b → Comes St a (goes b)
  first_step a b h = (1, ap (λ v. goes_on v (go St 0)) h)

  -- parts that are evaluated without an ask
  parts_leave : (p : Parts Act) (l : ℕ) (ts : List (Task Act)) (c d : Core) (n : ℕ) → outcome image_language p c ≡ leaves d → Comes St (to (eval l p ∷ ts) c n) (goes (to ts d n))
  parts_leave p l ts c d n h = subst (λ o. ComesTo image_language procedures limit o l ts n (to (eval l p ∷ ts) c n)) h (parts_come image_language procedures limit p l ts c n)

  abbrev Found : List ℤ → ℤ → Core → Core
  Found accepted s c = pushed (truth (is_accepted accepted s)) (pushed s c)

  -- up to the test of the status
  to_test : (accepted : List ℤ) (s : ℤ) (c : Core) (l n : ℕ) (ts : List (Task Act))
      → Comes St (at_parts l (requiring accepted) ts (pushed s c) n) (goes (to (eval l (choosing (dropping 1) (doing (ask error_stop ∷ []))) ∷ ts) (Found accepted s c) n))
  to_test accepted s c l n ts =
      let test = doing (stack (copy 0 1) ∷ constant (pos 0) ∷ operator equal ∷ []) in
      let last = choosing (dropping 1) (doing (ask error_stop ∷ [])) in
      let rest = is_one_of accepted ▸ last in
      let d = pushed (truth (int_eq s (pos 0))) (pushed s c) in
      then_comes (to (eval l (test ▸ rest) ∷ ts) (pushed s c) n) (to (eval l test ∷ eval l rest ∷ ts) (pushed s c) n) (goes (to (eval l last ∷ ts) (Found accepted s c) n)) (first_step (to (eval l (test ▸ rest) ∷ ts) (pushed s c) n) (to (eval l test ∷ eval l rest ∷ ts) (pushed s c) n) refl)
      (then_comes (to (eval l test ∷ eval l rest ∷ ts) (pushed s c) n) (to (eval l rest ∷ ts) d n) (goes (to (eval l last ∷ ts) (Found accepted s c) n)) (parts_leave test l (eval l rest ∷ ts) (pushed s c) d n refl)
      (then_comes (to (eval l rest ∷ ts) d n) (to (eval l (is_one_of accepted) ∷ eval l last ∷ ts) d n) (goes (to (eval l last ∷ ts) (Found accepted s c) n)) (first_step (to (eval l rest ∷ ts) d n) (to (eval l (is_one_of accepted) ∷ eval l last ∷ ts) d n) refl)
      (parts_leave (is_one_of accepted) l (eval l last ∷ ts) d (Found accepted s c) n (tests_against accepted (int_eq s (pos 0)) s c))))

  -- a status that is accepted is dropped, and the image goes on
  pub goes_on_with : (accepted : List ℤ) (s : ℤ) (c : Core) (l n : ℕ) (ts : List (Task Act)) → is_accepted accepted s ≡ true → Comes St (at_parts l (requiring accepted) ts (pushed s c) n) (goes (to ts c n))
  goes_on_with accepted s c l n ts h =
      let last = choosing (dropping 1) (doing (ask error_stop ∷ [])) in
      then_comes (at_parts l (requiring accepted) ts (pushed s c) n) (to (eval l last ∷ ts) (pushed (pos 1) (pushed s c)) n) (goes (to ts c n))
      (subst (λ b. Comes St (at_parts l (requiring accepted) ts (pushed s c) n) (goes (to (eval l last ∷ ts) (pushed (truth b) (pushed s c)) n))) h (to_test accepted s c l n ts))
      (parts_leave last l ts (pushed (pos 1) (pushed s c)) c n refl)

  -- any other ends the image
  pub ends_with_status : (accepted : List ℤ) (s : ℤ) (c : Core) (l n : ℕ) (ts : List (Task Act)) → is_accepted accepted s ≡ false
      → Comes St (at_parts l (requiring accepted) ts (pushed s c) n) (asks (asked.ErrorStop s) l (λ r. to [] (pushed s c) n))
  ends_with_status accepted s c l n ts h =
      let last = choosing (dropping 1) (doing (ask error_stop ∷ [])) in
      then_comes (at_parts l (requiring accepted) ts (pushed s c) n) (to (eval l last ∷ ts) (pushed (pos 0) (pushed s c)) n) (asks (asked.ErrorStop s) l (λ r. to [] (pushed s c) n))
      (subst (λ b. Comes St (at_parts l (requiring accepted) ts (pushed s c) n) (goes (to (eval l last ∷ ts) (pushed (truth b) (pushed s c)) n))) h (to_test accepted s c l n ts))
      (2, refl)

-- with STAT= a scalar variable it goes there
pub status_stored : (v : Local) (k : Kind) (accepted : List ℤ) (s : ℤ) (c : Core) (depth : ℕ)
    → outcome image_language (settling (t.result (t.result_variable v t.no_expressions k)) depth accepted) (pushed s c) ≡ leaves (with_cell (scope_of v.home) v.variable s c)
status_stored v k accepted s c depth = refl
