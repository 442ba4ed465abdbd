-- What becomes of a statement's status (ISO/IEC 1539-1:2018, 11.6.11).
use Rattle.std.proofs.Common.{◌≡◌, refl, ap, sym, subst, ◌∙◌, ℕ, suc, ◌+◌, ℤ, pos, Bool, true, false, ◌||◌, cond, List, [], ◌∷◌, length, drop, arith}
use Rattle.std.specs.Ordering.{int_eq}
use Rattle.caf_base.specs.Arithmetic.{truth, is_true}
use Rattle.caf_events.specs.declared.ask.Ask.TheVariants as asked
use Rattle.walk_theory.specs.Syntax.{Parts, end_parts}
use Rattle.walk_theory.specs.Language.{holds, fails}
use Rattle.checked_tree.specs.Expressions as t
use Rattle.image_acts.specs.Acts as a
use Rattle.image_acts.specs.Acts.{Act, Scope, stack, variable, ask}
use Rattle.image_acts.specs.Core.{Core, pushed, with_values}
use Rattle.image_acts.specs.Places.{Place}
use Rattle.image_acts.specs.Taking.{put_down as put_numbers}
use Rattle.image_acts.specs.Meaning.{settled}
use Rattle.tree_meaning.specs.Environment.{scope_of}
use Rattle.tree_meaning.specs.Sequences.{◌▸◌, doing, dropping, copying, choosing, is_one_of, requiring}
use Rattle.tree_meaning.specs.Expressions.{optional_size, storing}
use Rattle.tree_meaning.specs.Settling.{is_among, is_accepted, settling}
use Rattle.direct_meaning.specs.States.{State, state_of, with_state}
use Rattle.direct_meaning.specs.Outcomes.{Outcome, done, asks, over, and_then, giving}
use Rattle.direct_meaning.specs.Told.{of_effect, of_test, told}
use Rattle.direct_meaning.specs.Values.{set_elements}
use Rattle.direct_meaning.specs.Expressions.{Target, set_target}
use Rattle.direct_meaning.specs.Synchronizing.{ending, settle}
use Rattle.direct_agreement.proofs.Agreement.{Kept, Comes}
use Rattle.direct_agreement.proofs.Scalars.{Keeps}
use Rattle.direct_access.proofs.Owners.{TargetOf, none, whole, part, with_target}
use Rattle.direct_statements.specs.Laws.{put_nothing}
use Rattle.direct_statements.proofs.Defining.{scalar_stored, put_acts, elements_put}
use Rattle.direct_walks.proofs.Cases.{true_back}
use Rattle.direct_control.proofs.Meeting.{comes_end}

-- whether a status is accepted, over it
or_none : (b : Bool) → b ≡ (b || false)
or_none true = refl
or_none false = refl

or_more : (b d f : Bool) → ((b || d) || f) ≡ (b || (d || f))
or_more true d f = refl
or_more false d f = refl

among_told : (xs : List ℤ) (s : ℤ) (b : Bool) (l : ℕ) (d : Core)
    → told (is_one_of xs) l (pushed (truth b) (pushed s d)) ≡ done (pushed (truth (b || is_among s xs)) (pushed s d))
among_told [] s b l d = ap (λ q. done (pushed (truth q) (pushed s d))) (or_none b)
among_told (x ∷ xs) s b l d =
    ap (λ q. told (is_one_of xs) l (pushed (truth (q || is_true (truth (int_eq s x)))) (pushed s d))) (true_back b)
    ∙ ap (λ q. told (is_one_of xs) l (pushed (truth (b || q)) (pushed s d))) (true_back (int_eq s x))
    ∙ among_told xs s (b || int_eq s x) l d
    ∙ ap (λ q. done (pushed (truth q) (pushed s d))) (or_more b (int_eq s x) (is_among s xs))

-- goes on with an accepted status, else error termination
abbrev required : Bool → ℤ → ℕ → Core → Outcome Core
required b s l d = cond b (done d) (asks (asked.ErrorStop s) l (state_of d) (λ r. over (state_of d)))

chosen_told : (b : Bool) (s : ℤ) (l : ℕ) (d : Core)
    → and_then (of_test (cond b (holds (pushed s d)) (fails (pushed s d))) (told (dropping 1) l) (told (doing (ask a.error_stop ∷ [])) l))
    (told end_parts l) ≡ required b s l d
chosen_told true s l d = refl
chosen_told false s l d = refl

required_told : (accepted : List ℤ) (s : ℤ) (l : ℕ) (d : Core) → told (requiring accepted) l (pushed s d) ≡ required
    (is_accepted accepted s) s l d
required_told accepted s l d =
    let K : Core → Outcome Core = told (choosing (dropping 1) (doing (ask a.error_stop ∷ []))) l in
    let q : Bool = is_accepted accepted s in
    ap (λ o. and_then o K) (among_told accepted s (int_eq s (pos 0)) l d)
    ∙ ap (λ b. and_then (of_test (cond b (holds (pushed s d)) (fails (pushed s d))) (told (dropping 1) l)
    (told (doing (ask a.error_stop ∷ [])) l)) (told end_parts l)) (true_back q)
    ∙ chosen_told q s l d

-- numbers that were put down over others
dropped_more : (xs us : List ℤ) (k : ℕ) → drop (length xs + k) (put_numbers xs us) ≡ drop k us
dropped_more [] us k = let e : length {A = ℤ} [] + k ≡ k = omega arith in ap (λ j. drop j us) e
dropped_more (x ∷ xs) us k =
    let e : length (x ∷ xs) + k ≡ length xs + suc k = omega arith in
    ap (λ j. drop j (put_numbers xs (x ∷ us))) e ∙ dropped_more xs (x ∷ us) (suc k)

dropped_back : (xs us : List ℤ) → drop (length xs) (put_numbers xs us) ≡ us
dropped_back xs us = let e : length xs ≡ length xs + 0 = omega arith in ap (λ j. drop j (put_numbers xs us)) e ∙ dropped_more xs us 0

-- a place without dimensions
abbrev point : ℤ → Place
point i = record { start = i; dims = [] }

-- the place of an element is beneath so many numbers
copied : (xs us : List ℤ) (i v : ℤ) (l : ℕ) (d : Core)
    → told (copying (suc (length xs)) 1) l (with_values d (v ∷ put_numbers xs (i ∷ us))) ≡ done (with_values d (i ∷ v ∷ put_numbers xs
    (i ∷ us)))
copied xs us i v l d = rw (dropped_back xs (i ∷ us)) refl

-- a result variable gets the number on top
abbrev over_target : Core → List ℤ → Target → Core
over_target c xs g = with_values c (put_numbers xs (with_target c g).values)

pub stored_comes : (r : t.ResultVariable) (g : Target) → TargetOf (t.result r) g → (xs : List ℤ) (v : ℤ) (l : ℕ) (z : State) (c : Core)
    (n : ℕ)
    → Kept n z
    → Comes (put_nothing (over_target c xs g)) (Keeps n) (set_target g v l z)
    (told (storing (suc (length xs)) r) l (pushed v (with_state z (over_target c xs g))))
stored_comes r g (whole u j) xs v l z c n k = scalar_stored (scope_of u.home) u.variable v l z (over_target c xs g) n k
stored_comes r g (part u x es j i) xs v l z c n k =
    let S : Scope = scope_of u.home in
    let X : Act = variable (a.put S u.variable 0) in
    let us : List ℤ = put_numbers xs (i ∷ c.values) in
    let E : Core = with_values c us in
    let D : Core = with_values (with_state z c) (i ∷ v ∷ us) in
    let M : Outcome (Unit {0} × State) = set_elements S u.variable (point i) (v ∷ []) l z in
    subst (λ o. Comes (put_nothing E) (Keeps n) M (and_then o (told (doing (X ∷ [])) l))) (sym (copied xs c.values i v l (with_state z c)))
    (subst (λ w. Comes (put_nothing E) (Keeps n) M (and_then (of_effect l D (settled X w)) (told end_parts l)))
    (sym (put_acts S u.variable 0 (point i) v us (with_state z c) refl))
    (elements_put S u.variable (point i) (v ∷ []) X l E D n k))

-- The status on top: STAT= gets it, or it has to be one of those that the statement accepts; and what is dropped then.
settled_by : (b : Bool) (p : Parts Act) (s : ℤ) (l : ℕ) (z : State) (C B : Core) (n : ℕ) (o : Outcome Core) → Kept n z
    → told p l (with_state z C) ≡ done (with_state z B) → o ≡ required b s l (with_state z C)
    → Comes (put_nothing B) (Keeps n) (cond b (giving tt) (ending (asked.ErrorStop s)) l z) (and_then o (told p l))
settled_by true p s l z C B n o k e h = (ap (λ u. and_then u (told p l)) h ∙ e, k)
settled_by false p s l z C B n o k e h = ((λ r. over z), ap (λ u. and_then u (told p l)) h, λ r. refl)

pub settle_comes : (stat : t.OptionalResult) (g : Target) → TargetOf stat g → (accepted : List ℤ) (p : Parts Act) (s : ℤ) (l : ℕ)
    (z : State)
    (C B : Core) (n : ℕ) → Kept n z
    → ((y : State) → told p l (with_state y (with_target C g)) ≡ done (with_state y B))
    → Comes (put_nothing B) (Keeps n) (settle stat g accepted s l z) (told (settling stat 1 accepted ▸ p) l
    (pushed s (with_state z (with_target C g))))
settle_comes stat g none accepted p s l z C B n k e =
    settled_by (is_accepted accepted s) p s l z C B n (told (requiring accepted) l (pushed s (with_state z C))) k (e z)
    (required_told accepted s l (with_state z C))
settle_comes stat g (whole u j) accepted p s l z C B n k e =
    let R : t.ResultVariable = t.result_variable u t.no_expressions j in
    comes_end (put_nothing C) (put_nothing B) (Keeps n) (set_target g s l z) (told (storing 1 R) l (pushed s (with_state z C))) (told p l)
    (stored_comes R g (whole u j) [] s l z C n k) (λ x y i. e y)
settle_comes stat g (part u x es j i) accepted p s l z C B n k e =
    let R : t.ResultVariable = t.result_variable u (t.more_expressions x es) j in
    comes_end (put_nothing (with_target C g)) (put_nothing B) (Keeps n) (set_target g s l z)
    (told (storing 1 R) l (pushed s (with_state z (with_target C g)))) (told p l)
    (stored_comes R g (part u x es j i) [] s l z C n k) (λ q y w. e y)

-- what was put down for the variable is dropped
pub target_dropped : (stat : t.OptionalResult) (g : Target) → TargetOf stat g → (l : ℕ) (z : State) (C : Core)
    → told (dropping (optional_size stat)) l (with_state z (with_target C g)) ≡ done (with_state z C)
target_dropped stat g none l z C = refl
target_dropped stat g (whole u j) l z C = refl
target_dropped stat g (part u x es j i) l z C = refl

-- and a number beneath it
pub target_dropped_with_one : (stat : t.OptionalResult) (g : Target) → TargetOf stat g → (l : ℕ) (w : ℤ) (z : State) (C : Core)
    → told (dropping (optional_size stat + 1)) l (with_state z (with_target (pushed w C) g)) ≡ done (with_state z C)
target_dropped_with_one stat g none l w z C = refl
target_dropped_with_one stat g (whole u j) l w z C = refl
target_dropped_with_one stat g (part u x es j i) l w z C = refl

pub target_dropped_with_two : (stat : t.OptionalResult) (g : Target) → TargetOf stat g → (l : ℕ) (v w : ℤ) (z : State) (C : Core)
    → told (dropping (optional_size stat + 2)) l (with_state z (with_target (pushed w (pushed v C)) g)) ≡ done (with_state z C)
target_dropped_with_two stat g none l v w z C = refl
target_dropped_with_two stat g (whole u j) l v w z C = refl
target_dropped_with_two stat g (part u x es j i) l v w z C = refl

-- a number beneath the place of the variable once more, and beneath a status too
pub beneath_copied : (stat : t.OptionalResult) (g : Target) → TargetOf stat g → (l : ℕ) (w : ℤ) (z : State) (C : Core)
    → told (copying (optional_size stat) 1) l (with_state z (with_target (pushed w C) g)) ≡ done
    (pushed w (with_state z (with_target (pushed w C) g)))
beneath_copied stat g none l w z C = refl
beneath_copied stat g (whole u j) l w z C = refl
beneath_copied stat g (part u x es j i) l w z C = refl

pub beneath_copied_over : (stat : t.OptionalResult) (g : Target) → TargetOf stat g → (l : ℕ) (s w : ℤ) (z : State) (C : Core)
    → told (copying (optional_size stat + 1) 1) l (pushed s (with_state z (with_target (pushed w C) g)))
    ≡ done (pushed w (pushed s (with_state z (with_target (pushed w C) g))))
beneath_copied_over stat g none l s w z C = refl
beneath_copied_over stat g (whole u j) l s w z C = refl
beneath_copied_over stat g (part u x es j i) l s w z C = refl
