-- The place of a part of a coarray, and the image that is named for it.
use Rattle.std.proofs.Common.{arith, ◌≡◌, refl, ap, sym, subst, ◌∙◌, ℕ, ◌+◌, ◌≤◌, ◌<◌, ◌==◌, ◌||◌, ℤ, pos, Bool, true, false, not, cond, nat_le, List, [], ◌∷◌, ◌++◌, length, Option, None, Some, length-append, eqb-true}
use Rattle.walk_theory.specs.Syntax.{end_parts}
use Rattle.walk_theory.specs.Language.{goes_to, faults as faulting}
use Rattle.caf_base.specs.declared.value.Kind.{Kind}
use Rattle.checked_tree.specs.declared.data.Local.{Local}
use Rattle.checked_tree.specs.Expressions as t
use Rattle.image_acts.specs.Statuses.{most_access_cells}
use Rattle.image_acts.specs.Faults.{cells_fault, cobounds_fault, not_established}
use Rattle.image_acts.specs.Acts as a
use Rattle.image_acts.specs.Acts.{Act, Scope, bounded, selector, stack}
use Rattle.image_acts.specs.Core.{Core, Own, pushed, with_values}
use Rattle.image_acts.specs.Owning as owning
use Rattle.image_acts.specs.Places.{Place, Subscript, place_within, no_place, place_numbers, place_size, cells_of}
use Rattle.image_acts.specs.Taking.{Acted, found_in, put_down as put_numbers}
use Rattle.image_acts.specs.Teams.{index_of, member_at}
use Rattle.image_acts.specs.Meaning.{operate, settled, effect_of}
use Rattle.tree_meaning.specs.Environment.{scope_of}
use Rattle.tree_meaning.specs.Sequences.{doing, bringing}
use Rattle.tree_meaning.specs.Expressions.{needing_own, optional_size}
use Rattle.direct_meaning.specs.States.{State, state_of, with_state, own_in}
use Rattle.direct_meaning.specs.Outcomes.{Outcome, done, and_then, Does, giving, ◌▹◌, unless}
use Rattle.direct_meaning.specs.Told.{of_effect, told}
use Rattle.direct_meaning.specs.Values.{coarray_part, part_of_own, need_own}
use Rattle.direct_meaning.specs.Images.{members, is_established, selected_image, this_image}
use Rattle.direct_meaning.specs.Expressions.{Target, nowhere, variable, element}
use Rattle.direct_agreement.proofs.Agreement.{Comes, act_first}
use Rattle.direct_agreement.proofs.Arrays.{put_subscripts, put_place, part_comes}
use Rattle.direct_agreement.specs.Stacked.{numbers_of, form_in}
use Rattle.direct_agreement.proofs.Sections.{taken_back, put_more, kept_in, subscripts_back, count_back, kept_back, place_back, place_length, no_place_rank}

-- a test of what comes first
pub test_then : {X Y : Type 0} (lay : X → State → Core) (P : X → State → Type 0) (b : Bool) (m : Does Y) (f : Y → Does X) (k l : ℕ)
    (d : Core) (x : Act) (e : Acted) (q : Core → Outcome Core)
    → Comes lay P ((m ▹ f) l (state_of d)) (and_then (of_effect l d (settled x e)) q)
    → Comes lay P ((unless k b m ▹ f) l (state_of d)) (and_then (of_effect l d (settled x (cond b e (faulting k)))) q)
test_then lay P true m f k l d x e q h = h
test_then lay P false m f k l d x e q h = refl

-- the place of a part of a coarray
co_none : (k : ℕ) (xs : List Subscript) (us : List ℤ) (d : Core) → length xs ≤ 3 → owning.own_in d k ≡ None
    → operate (bounded (a.co_section k (form_in xs))) (with_values d (put_numbers (numbers_of xs) us)) ≡ goes_to
    (with_values d (put_numbers (place_numbers (no_place (kept_in xs))) us))
co_none k xs us d h e = rw (count_back xs h) (rw (taken_back (numbers_of xs) us) (rw e (rw (kept_back xs h) refl)))

co_some : (k : ℕ) (xs : List Subscript) (us : List ℤ) (d : Core) (w : Own) → length xs ≤ 3 → owning.own_in d k ≡ Some w
    → operate (bounded (a.co_section k (form_in xs))) (with_values d (put_numbers (numbers_of xs) us)) ≡ found_in (place_within w.bounds xs)
    (λ p. goes_to (with_values d (put_numbers (place_numbers p) us)))
co_some k xs us d w h e = rw (count_back xs h) (rw (taken_back (numbers_of xs) us) (rw e (rw (subscripts_back xs h) refl)))

co_by : {X : Type 0} (lay : X → State → Core) (P : X → State → Type 0) (k rank : ℕ) (xs : List Subscript) (f : Place → Does X)
    (q : Core → Outcome Core) (l : ℕ) (z : State) (c : Core) (o : Option Own) → own_in k z ≡ o
    → length xs ≤ 3 → kept_in xs ≡ rank → ((p : Place) → length p.dims ≡ rank → Comes lay P (f p l z) (q (put_place c p z)))
    → Comes lay P ((part_of_own o rank xs ▹ f) l z)
    (and_then (of_effect l (put_subscripts c xs z) (effect_of (bounded (a.co_section k (form_in xs))) (put_subscripts c xs z))) q)
co_by lay P k rank xs f q l z c None e h j more =
    subst (λ u. Comes lay P (f (no_place rank) l z)
    (and_then (of_effect l (put_subscripts c xs z) (settled (bounded (a.co_section k (form_in xs))) u)) q))
    (sym (co_none k xs c.values (with_state z c) h e))
    (subst (λ n. Comes lay P (f (no_place n) l z) (q (put_place c (no_place (kept_in xs)) z))) j
    (more (no_place (kept_in xs)) (no_place_rank (kept_in xs) ∙ j)))
co_by lay P k rank xs f q l z c (Some w) e h j more =
    subst (λ u. Comes lay P ((part_of_own (Some w) rank xs ▹ f) l z)
    (and_then (of_effect l (put_subscripts c xs z) (settled (bounded (a.co_section k (form_in xs))) u)) q))
    (sym (co_some k xs c.values (with_state z c) w h e))
    (part_comes lay P w.bounds xs f (λ p. put_place c p z) (bounded (a.co_section k (form_in xs))) q l (put_subscripts c xs z)
    (λ p i. more p (i ∙ j)))

pub co_part_comes : {X : Type 0} (lay : X → State → Core) (P : X → State → Type 0) (k rank : ℕ) (xs : List Subscript) (f : Place → Does X)
    (q : Core → Outcome Core) (l : ℕ) (z : State) (c : Core)
    → length xs ≤ 3 → kept_in xs ≡ rank → ((p : Place) → length p.dims ≡ rank → Comes lay P (f p l z) (q (put_place c p z)))
    → Comes lay P ((coarray_part k rank xs ▹ f) l z)
    (and_then (told (doing (bounded (a.co_section k (form_in xs)) ∷ [])) l (put_subscripts c xs z)) q)
co_part_comes lay P k rank xs f q l z c h j more =
    act_first lay P ((coarray_part k rank xs ▹ f) l z) (bounded (a.co_section k (form_in xs))) l (put_subscripts c xs z) q
    (co_by lay P k rank xs f q l z c (own_in k z) refl h j more)

-- an image, over a place
abbrev pub put_owner : Core → Place → ℕ → State → Core
put_owner c p i z = pushed (pos i) (put_place c p z)

pub rank_size : (rank : ℕ) (p : Place) → length p.dims ≡ rank → place_size rank ≡ length (place_numbers p)
rank_size rank p h = ap place_size (sym h) ∙ sym (place_length p)

own_image_acts : (rank : ℕ) (p : Place) (us : List ℤ) (d : Core) → length p.dims ≡ rank
    → operate (selector (a.own_image rank)) (with_values d (put_numbers (place_numbers p) us)) ≡ cond
    (nat_le (cells_of p) most_access_cells) (goes_to (pushed (pos d.me) (with_values d (put_numbers (place_numbers p) us))))
    (faulting cells_fault)
own_image_acts rank p us d h =
    rw (rank_size rank p h) (rw (taken_back (place_numbers p) us)
    (ap (λ q. cond (nat_le (cells_of q) most_access_cells) (goes_to (pushed (pos d.me) (with_values d (put_numbers (place_numbers p) us))))
    (faulting cells_fault)) (place_back p)))

-- this image
pub own_image_comes : {X : Type 0} (lay : X → State → Core) (P : X → State → Type 0) (rank : ℕ) (p : Place) (f : ℕ → Does X)
    (q : Core → Outcome Core) (l : ℕ) (z : State) (c : Core) → length p.dims ≡ rank
    → Comes lay P (f z.me l z) (q (put_owner c p z.me z))
    → Comes lay P ((this_image p ▹ f) l z) (and_then (told (doing (selector (a.own_image rank) ∷ [])) l (put_place c p z)) q)
own_image_comes lay P rank p f q l z c h k =
    act_first lay P ((this_image p ▹ f) l z) (selector (a.own_image rank)) l (put_place c p z) q
    (subst (λ u. Comes lay P ((this_image p ▹ f) l z)
    (and_then (of_effect l (put_place c p z) (settled (selector (a.own_image rank)) u)) q))
    (sym (own_image_acts rank p c.values (with_state z c) h))
    (test_then lay P (nat_le (cells_of p) most_access_cells) (giving z.me) f cells_fault l (put_place c p z) (selector (a.own_image rank))
    (goes_to (put_owner c p z.me z)) q k))

needed_by : {X : Type 0} (lay : X → State → Core) (P : X → State → Type 0) (k : ℕ) (m : Does X) (q : Core → Outcome Core) (l : ℕ) (d : Core)
    (o : Option Own) → own_in k (state_of d) ≡ o
    → Comes lay P (m l (state_of d)) (q d) → Comes lay P ((need_own false k ▹ (λ u. m)) l (state_of d))
    (and_then (of_effect l d (effect_of (bounded (a.needs_own k)) d)) q)
needed_by lay P k m q l d None e h = rw e refl
needed_by lay P k m q l d (Some w) e h = rw e h

-- a coarray that has to be there on this image
pub needing_comes : {X : Type 0} (lay : X → State → Core) (P : X → State → Type 0) (k : ℕ) (b : Bool) (m : Does X) (q : Core → Outcome Core)
    (l : ℕ) (d : Core)
    → Comes lay P (m l (state_of d)) (q d) → Comes lay P ((need_own b k ▹ (λ u. m)) l (state_of d))
    (and_then (told (needing_own k b t.no_selector) l d) q)
needing_comes lay P k true m q l d h = h
needing_comes lay P k false m q l d h = act_first lay P ((need_own false k ▹ (λ u. m)) l (state_of d)) (bounded (a.needs_own k)) l d q
    (needed_by lay P k m q l d (own_in k (state_of d)) refl h)

pub needing_none : {X : Type 0} (lay : X → State → Core) (P : X → State → Type 0) (k : ℕ) (b : Bool) (cs : t.Expressions)
    (which : t.SelectedTeam) (stat : t.OptionalResult) (m : Outcome (X × State)) (q : Core → Outcome Core) (l : ℕ) (d : Core)
    → Comes lay P m (q d) → Comes lay P m (and_then (told (needing_own k b (t.selector cs which stat)) l d) q)
needing_none lay P k true cs which stat m q l d h = h
needing_none lay P k false cs which stat m q l d h = h

-- the variable of STAT=, and what is put down for it
pub data TargetOf : t.OptionalResult → Target → Type 0 where
  none : TargetOf t.no_result nowhere
  whole : (v : Local) (k : Kind) → TargetOf (t.result (t.result_variable v t.no_expressions k)) (variable (scope_of v.home) v.variable)
  part : (v : Local) (x : t.Expression) (es : t.Expressions) (k : Kind) (i : ℤ)
      → TargetOf (t.result (t.result_variable v (t.more_expressions x es) k))
      (element (scope_of v.home) v.variable (record { start = i; dims = [] }))

abbrev pub target_numbers : Target → List ℤ
target_numbers nowhere = []
target_numbers (variable s x) = []
target_numbers (element s x p) = place_numbers p

abbrev pub with_target : Core → Target → Core
with_target c g = with_values c (put_numbers (target_numbers g) c.values)

-- an image selector: a team over cosubscripts over a place
abbrev pub put_selector : Core → Place → List ℤ → ℕ → State → Core
put_selector c p vs i z = pushed (pos i) (with_values (with_state z c) (put_numbers vs (put_numbers (place_numbers p) c.values)))

-- the place of the variable comes beneath them
abbrev selector_numbers : Place → List ℤ → ℕ → List ℤ
selector_numbers p vs i = place_numbers p ++ (vs ++ (pos i ∷ []))

pub selector_put : (p : Place) (vs us : List ℤ) (i : ℕ)
    → put_numbers (selector_numbers p vs i) us ≡ pos i ∷ put_numbers vs (put_numbers (place_numbers p) us)
selector_put p vs us i = put_more (place_numbers p) (vs ++ (pos i ∷ [])) us ∙ put_more vs (pos i ∷ []) (put_numbers (place_numbers p) us)

selector_size : (rank : ℕ) (p : Place) (vs : List ℤ) (i : ℕ) → length p.dims ≡ rank
    → length (selector_numbers p vs i) ≡ place_size rank + (length vs + 1)
selector_size rank p vs i h = omega (
  arith,
  rank_size rank p h,
  length-append (place_numbers p) (vs ++ (pos i ∷ [])),
  length-append vs
      (pos i ∷ []),
)

bring_acts : (xs us : List ℤ) (v : ℤ) (d : Core)
    → operate (stack (a.bring 1 (length xs))) (with_values d (v ∷ put_numbers xs us)) ≡ goes_to (with_values d (put_numbers xs (v ∷ us)))
bring_acts xs us v d = rw (taken_back xs us) refl

-- more than none
pub some_more : (n : ℕ) (b : Bool) → (n == 0) ≡ b → 0 < n → b ≡ false
some_more n true e h = absurd (omega (arith, eqb-true n 0 e))
some_more n false e h = refl

bring_by : (n l : ℕ) (d : Core) (b : Bool) → (n == 0) ≡ b → b ≡ false
    → told (bringing 1 n) l d ≡ told (doing (stack (a.bring 1 n) ∷ [])) l d
bring_by n l d b e f = rw (e ∙ f) refl

pub bring_one : (n : ℕ) (xs us : List ℤ) (v : ℤ) (l : ℕ) (d : Core) → length xs ≡ n → 0 < n
    → told (bringing 1 n) l (with_values d (v ∷ put_numbers xs us)) ≡ done (with_values d (put_numbers xs (v ∷ us)))
bring_one n xs us v l d e h =
    bring_by n l (with_values d (v ∷ put_numbers xs us)) (n == 0) refl (some_more n (n == 0) refl h)
    ∙ subst (λ m. told (doing (stack (a.bring 1 m) ∷ [])) l (with_values d (v ∷ put_numbers xs us)) ≡ done
    (with_values d (put_numbers xs (v ∷ us)))) e
    (ap (λ u. and_then (of_effect l (with_values d (v ∷ put_numbers xs us)) (settled (stack (a.bring 1 (length xs))) u)) (told end_parts l))
    (bring_acts xs us v d))

-- the place of the variable of STAT= is over the selector, and comes beneath it
abbrev pub put_over : Core → Place → List ℤ → ℕ → Target → State → Core
put_over c p vs i g z = with_values (with_state z c)
    (put_numbers (target_numbers g) (pos i ∷ put_numbers vs (put_numbers (place_numbers p) c.values)))

pub brought : (stat : t.OptionalResult) (g : Target) → TargetOf stat g
    → (rank : ℕ) (p : Place) (vs : List ℤ) (i l : ℕ) (z : State) (c : Core) → length p.dims ≡ rank
    → told (bringing (optional_size stat) (place_size rank + (length vs + 1))) l (put_over c p vs i g z) ≡ done
    (put_selector (with_target c g) p vs i z)
brought stat g none rank p vs i l z c h = refl
brought stat g (whole v k) rank p vs i l z c h = refl
brought stat g (part v x es k j) rank p vs i l z c h =
    ap (λ xs. told (bringing 1 (place_size rank + (length vs + 1))) l (with_values (with_state z c) (j ∷ xs)))
    (sym (selector_put p vs c.values i))
    ∙ bring_one (place_size rank + (length vs + 1)) (selector_numbers p vs i) c.values j l (with_state z c) (selector_size rank p vs i h)
    (omega arith)
    ∙ ap (λ xs. done (with_values (with_state z c) xs)) (selector_put p vs (j ∷ c.values) i)

-- the image of a selector
owner_none : (k rank i : ℕ) (p : Place) (vs us : List ℤ) (d : Core) → length p.dims ≡ rank → owning.own_in d k ≡ None
    → operate (selector (a.owner k rank (length vs))) (pushed (pos i) (with_values d (put_numbers vs (put_numbers (place_numbers p) us)))) ≡
    faulting not_established
owner_none k rank i p vs us d h e = rw (taken_back vs (put_numbers (place_numbers p) us))
    (rw (rank_size rank p h) (rw (taken_back (place_numbers p) us) (rw e refl)))

owner_some : (k rank i : ℕ) (p : Place) (vs us : List ℤ) (z : State) (c : Core) (w : Own) → length p.dims ≡ rank → own_in k z ≡ Some w
    → operate (selector (a.owner k rank (length vs)))
    (pushed (pos i) (with_values (with_state z c) (put_numbers vs (put_numbers (place_numbers p) us))))
    ≡ cond (not (index_of w vs (length (members i z)) == 0) || (cells_of p == 0))
    (cond (is_established w.team i z) (cond (nat_le (cells_of p) most_access_cells)
    (goes_to (pushed (pos (member_at (members i z) (index_of w vs (length (members i z)))))
    (with_values (with_state z c) (put_numbers (place_numbers p) us)))) (faulting cells_fault)) (faulting not_established))
    (faulting cobounds_fault)
owner_some k rank i p vs us z c w h e =
    rw (taken_back vs (put_numbers (place_numbers p) us)) (rw (rank_size rank p h) (rw (taken_back (place_numbers p) us) (rw e
    (ap (λ q. cond (not (index_of w vs (length (members i z)) == 0) || (cells_of q == 0))
    (cond (is_established w.team i z) (cond (nat_le (cells_of q) most_access_cells)
    (goes_to (pushed (pos (member_at (members i z) (index_of w vs (length (members i z)))))
    (with_values (with_state z c) (put_numbers (place_numbers p) us)))) (faulting cells_fault)) (faulting not_established))
    (faulting cobounds_fault))
    (place_back p)))))

owner_by : {X : Type 0} (lay : X → State → Core) (P : X → State → Type 0) (k rank : ℕ) (p : Place) (vs : List ℤ) (i : ℕ) (f : ℕ → Does X)
    (q : Core → Outcome Core) (l : ℕ) (z : State) (c : Core) (o : Option Own) → own_in k z ≡ o
    → length p.dims ≡ rank → ((j : ℕ) → Comes lay P (f j l z) (q (put_owner c p j z)))
    → Comes lay P ((selected_image k vs i p ▹ f) l z)
    (and_then (of_effect l (put_selector c p vs i z) (effect_of (selector (a.owner k rank (length vs))) (put_selector c p vs i z))) q)
owner_by lay P k rank p vs i f q l z c None e h more =
    subst (λ u. Comes lay P ((selected_image k vs i p ▹ f) l z)
    (and_then (of_effect l (put_selector c p vs i z) (settled (selector (a.owner k rank (length vs))) u)) q))
    (sym (owner_none k rank i p vs c.values (with_state z c) h e)) (rw e refl)
owner_by lay P k rank p vs i f q l z c (Some w) e h more =
    let j : ℕ = member_at (members i z) (index_of w vs (length (members i z))) in
    let A : Act = selector (a.owner k rank (length vs)) in
    let D : Core = put_selector c p vs i z in
    let E : Acted = goes_to (put_owner c p j z) in
    subst (λ u. Comes lay P ((selected_image k vs i p ▹ f) l z) (and_then (of_effect l D (settled A u)) q))
    (sym (owner_some k rank i p vs c.values z c w h e))
    (rw e
    (test_then lay P (not (index_of w vs (length (members i z)) == 0) || (cells_of p == 0))
    (unless not_established (is_established w.team i z) (unless cells_fault (nat_le (cells_of p) most_access_cells) (giving j))) f
    cobounds_fault l D A
    (cond (is_established w.team i z) (cond (nat_le (cells_of p) most_access_cells) E (faulting cells_fault)) (faulting not_established)) q
    (test_then lay P (is_established w.team i z) (unless cells_fault (nat_le (cells_of p) most_access_cells) (giving j)) f not_established l
    D A (cond (nat_le (cells_of p) most_access_cells) E (faulting cells_fault)) q
    (test_then lay P (nat_le (cells_of p) most_access_cells) (giving j) f cells_fault l D A E q (more j)))))

pub owner_comes : {X : Type 0} (lay : X → State → Core) (P : X → State → Type 0) (k rank : ℕ) (p : Place) (vs : List ℤ) (i : ℕ)
    (f : ℕ → Does X) (q : Core → Outcome Core) (l : ℕ) (z : State) (c : Core)
    → length p.dims ≡ rank → ((j : ℕ) → Comes lay P (f j l z) (q (put_owner c p j z)))
    → Comes lay P ((selected_image k vs i p ▹ f) l z)
    (and_then (told (doing (selector (a.owner k rank (length vs)) ∷ [])) l (put_selector c p vs i z)) q)
owner_comes lay P k rank p vs i f q l z c h more =
    act_first lay P ((selected_image k vs i p ▹ f) l z) (selector (a.owner k rank (length vs))) l (put_selector c p vs i z) q
    (owner_by lay P k rank p vs i f q l z c (own_in k z) refl h more)
