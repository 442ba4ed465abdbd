-- What stands around expressions in a designator: its subscripts, its image selector, the variable of STAT=, and its
-- bounds.
use Rattle.std.proofs.Common.{arith, ◌≡◌, refl, ap, sym, subst, ◌∙◌, ℕ, suc, ◌+◌, ◌*◌, ◌≤◌, ℤ, pos, Bool, true, false, cond, nat_le, List, [], ◌∷◌, ◌++◌, length, Option, le_refl, leb-true}
use Rattle.std.proofs.lemmas.List.{length-map}
use Rattle.caf_base.specs.declared.value.Kind.{Kind}
use Rattle.walk_theory.specs.Syntax.{Parts, end_parts}
use Rattle.walk_theory.specs.Language.{goes_to, faults as faulting}
use Rattle.checked_tree.specs.declared.data.Local.{Local}
use Rattle.checked_tree.specs.Expressions as t
use Rattle.image_acts.specs.Statuses.{most_elements}
use Rattle.image_acts.specs.Faults.{room}
use Rattle.image_acts.specs.Acts as a
use Rattle.image_acts.specs.Acts.{Act, Scope, bounded, selector}
use Rattle.image_acts.specs.Core.{Core, Array, pushed, with_values, with_array, elements_in, row}
use Rattle.image_acts.specs.Core as cores
use Rattle.image_acts.specs.Frames.{pairs_numbers}
use Rattle.image_acts.specs.Places.{Place, Subscript, single, triplet, place_within, place_numbers, place_size, extents_of}
use Rattle.image_acts.specs.Taking.{Acted, found_in, put_down as put_numbers}
use Rattle.image_acts.specs.Operate.Variables.{allocated as allocated_act}
use Rattle.image_acts.specs.Meaning.{operate, settled}
use Rattle.tree_meaning.specs.Environment.{Environment, scope_of}
use Rattle.tree_meaning.specs.Sequences.{doing, bringing}
use Rattle.tree_meaning.specs.Expressions.{count_of, digit_of, digits_of, form_of, element_form, one_if, optional_size, owner, expressions as parts_of_all, selected_team as parts_of_selected_team, optional_place, subscripts as parts_of_subscripts}
use Rattle.direct_meaning.specs.States.{State, state_of, with_state, array_in}
use Rattle.direct_meaning.specs.Outcomes.{Outcome, done, and_then, Does, giving, ◌▹◌, nothing_said}
use Rattle.direct_meaning.specs.Told.{of_effect, told}
use Rattle.direct_meaning.specs.Values.{Value, allocated, part_of, from_one}
use Rattle.direct_meaning.specs.Images.{selected_image}
use Rattle.direct_meaning.specs.Expressions.{Passed, Target, element, singles, selected, scalars, selected_team, optional_target, subscripts, all_of}
use Rattle.direct_agreement.specs.Agreeing.{HasRoom}
use Rattle.direct_laws.specs.Laws.{HasDimensions, dimensions_in, triplets_in, one_triplet}
use Rattle.direct_agreement.proofs.Agreement.{Kept, Comes, comes_then, comes_as, apart, kept_more, room_beside}
use Rattle.direct_agreement.proofs.Arrays.{section_acts, there_then, part_comes, same_array, put_subscripts, put_place, put_bounds, BoundsKept, bounds_come}
use Rattle.direct_access.proofs.Owners.{TargetOf, part, target_numbers, with_target, put_owner, put_over, brought, owner_comes, rank_size}
use Rattle.direct_agreement.proofs.Scalars.{put_team, Keeps}
use Rattle.direct_agreement.specs.Stacked.{numbers_of_one, numbers_of, part_numbers, present, digit_in, form_in}
use Rattle.direct_agreement.proofs.Sections.{taken_back, put_more, place_back, kept_one, kept_in, whole_numbers, whole_form_in, whole_length, whole_kept}

-- a part of a triplet, a subscript, subscripts and scalars, put down over what was there
abbrev pub put_option : Core → Option ℤ → State → Core
put_option c f z = with_values (with_state z c) (put_numbers (part_numbers f) c.values)

abbrev pub Present : ℕ → t.OptionalExpression → Option ℤ → State → Type 0
Present n o f z = ((m : ℕ) → present m f ≡ one_if m o) × Kept n z

abbrev pub put_one : Core → Subscript → State → Core
put_one c x z = with_values (with_state z c) (put_numbers (numbers_of_one x) c.values)

abbrev pub OneShaped : ℕ → t.Subscript → Subscript → State → Type 0
OneShaped n s x z = (digit_in x ≡ digit_of s) × (kept_one x ≡ one_triplet s) × Kept n z

abbrev pub AllShaped : ℕ → t.Subscripts → List Subscript → State → Type 0
AllShaped n ss xs z = (form_in xs ≡ digits_of ss) × (length xs ≡ dimensions_in ss) × (kept_in xs ≡ triplets_in ss) × Kept n z

abbrev pub put_scalars : Core → List ℤ → State → Core
put_scalars c vs z = with_values (with_state z c) (put_numbers vs c.values)

abbrev pub Counted : ℕ → t.Expressions → List ℤ → State → Type 0
Counted n es vs z = (length vs ≡ count_of es) × Kept n z

pub more_shaped : (c : Core) (s : t.Subscript) (ss : t.Subscripts) (x : Subscript) (xs : List Subscript) (z y : State)
    → OneShaped c.used s x z → AllShaped z.used ss xs y
    → (put_subscripts (put_one c x z) xs y ≡ put_subscripts c (x ∷ xs) y) × AllShaped c.used (t.more_subscripts s ss) (x ∷ xs) y
more_shaped c s ss x xs z y j i = (
  ap (with_values (with_state y c)) (sym (put_more (numbers_of_one x) (numbers_of xs) c.values)),
  (
    ap (λ d. d + (10 * form_in xs)) j.0 ∙ ap (λ m. digit_of s + (10 * m)) i.0,
    ap suc i.1,
    ap (λ d. d + kept_in xs) j.1 ∙ ap (λ m. one_triplet s + m) i.2,
    kept_more c.used z y j.2 i.3,
  ),
)

pub triplet_shaped : (c : Core) (o p q : t.OptionalExpression) (f g s : Option ℤ) (z y w : State) → Present c.used o f z
    → Present z.used p g y → Present y.used q s w
    → (put_option (put_option (put_option c f z) g y) s w ≡ put_one c (triplet f g s) w) × OneShaped c.used (t.triplet o p q)
    (triplet f g s) w
triplet_shaped c o p q f g s z y w i j k = (
  ap (with_values (with_state w c)) (sym (put_more (part_numbers f) (part_numbers g ++ part_numbers s) c.values ∙ put_more (part_numbers g)
      (part_numbers s) (put_numbers (part_numbers f) c.values))),
  (
    ap (λ m. 2 + m + present 2 g + present 4 s) (i.0 1) ∙ ap (λ m. 2 + one_if 1 o + m + present 4 s) (j.0 2) ∙ ap
        (λ m. 2 + one_if 1 o + one_if 2 p + m) (k.0 4),
    refl,
    kept_more c.used y w (kept_more c.used z y i.1 j.1) k.1,
  ),
)

-- the subscripts of a part of this rank, of a whole array too
abbrev pub Shaped : ℕ → t.Subscripts → ℕ → List Subscript → State → Type 0
Shaped n ss rank xs z = (form_in xs ≡ form_of ss rank) × (length xs ≤ 3) × (kept_in xs ≡ rank) × Kept n z

kept_few : (xs : List Subscript) → kept_in xs ≤ length xs
kept_few [] = omega arith
kept_few (single v ∷ xs) = omega (arith, kept_few xs)
kept_few (triplet f l s ∷ xs) = omega (arith, kept_few xs)

pub few : (xs : List Subscript) (rank : ℕ) → length xs ≤ 3 → kept_in xs ≡ rank → rank ≤ 3
few xs rank h i = omega (arith, kept_few xs)

module _ (e : Environment) (calls : ℕ → List Passed → Does Value) where
  pub all_comes : (ss : t.Subscripts) (rank l : ℕ) (c : Core) → HasDimensions ss rank → c.used ≤ 65536
      → Comes (put_subscripts c) (AllShaped c.used ss) (subscripts e calls ss l (state_of c)) (told (parts_of_subscripts e ss) l c)
      → Comes (put_subscripts c) (Shaped c.used ss rank) (all_of e calls ss rank l (state_of c)) (told (parts_of_subscripts e ss) l c)
  all_comes t.no_subscripts rank l c d k h = (
    ap (λ xs. done (with_values c (put_numbers xs c.values))) (sym (whole_numbers rank)),
    (whole_form_in rank, omega (arith, whole_length rank), whole_kept rank, (le_refl c.used, k)),
  )
  all_comes (t.more_subscripts s ss) rank l c d k h =
      comes_as (put_subscripts c) (AllShaped c.used (t.more_subscripts s ss)) (put_subscripts c)
      (Shaped c.used (t.more_subscripts s ss) rank) (subscripts e calls (t.more_subscripts s ss) l (state_of c))
      (told (parts_of_subscripts e (t.more_subscripts s ss)) l c) h
      (λ xs z j. (refl, (j.0, subst (λ n. n ≤ 3) (sym j.1) d.0, j.2 ∙ d.1, j.3)))

-- single subscripts
singles_numbers : (vs : List ℤ) → numbers_of (singles vs) ≡ vs
singles_numbers [] = refl
singles_numbers (v ∷ vs) = ap (λ us. v ∷ us) (singles_numbers vs)

singles_length : (vs : List ℤ) → length (singles vs) ≡ length vs
singles_length [] = refl
singles_length (v ∷ vs) = ap suc (singles_length vs)

singles_kept : (vs : List ℤ) → kept_in (singles vs) ≡ 0
singles_kept [] = refl
singles_kept (v ∷ vs) = ap (λ n. 0 + n) (singles_kept vs)

singles_form : (vs : List ℤ) (es : t.Expressions) → length vs ≡ count_of es → form_in (singles vs) ≡ element_form es
singles_form [] t.no_expressions h = refl
singles_form [] (t.more_expressions x es) h = absurd (omega (arith, h))
singles_form (v ∷ vs) t.no_expressions h = absurd (omega (arith, h))
singles_form (v ∷ vs) (t.more_expressions x es) h = ap (λ n. 1 + (10 * n)) (singles_form vs es (omega (arith, h)))

-- the variable of STAT=, put down over what was there
abbrev pub put_target : Core → Target → State → Core
put_target c g z = with_values (with_state z c) (put_numbers (target_numbers g) c.values)

abbrev pub Targeted : ℕ → t.OptionalResult → Target → State → Type 0
Targeted n stat g z = TargetOf stat g × Kept n z

abbrev element_of : Local → t.Expression → t.Expressions → Kind → t.OptionalResult
element_of v x es k = t.result (t.result_variable v (t.more_expressions x es) k)

no_more : (p : Place) → length p.dims ≡ 0 → (q : List (ℕ × ℤ)) → p.dims ≡ q → q ≡ []
no_more p h [] e = refl
no_more p h (d ∷ q) e = absurd (omega (arith, h, ap length e))

is_element : (v : Local) (x : t.Expression) (es : t.Expressions) (k : Kind) (p : Place) → length p.dims ≡ 0
    → TargetOf (element_of v x es k) (element (scope_of v.home) v.variable p)
is_element v x es k p h = subst (λ ds. TargetOf (element_of v x es k)
    (element (scope_of v.home) v.variable (record { start = p.start; dims = ds }))) (sym (no_more p h p.dims refl)) (part v x es k p.start)

pub element_comes : (v : Local) (x : t.Expression) (es : t.Expressions) (k : Kind) (vs : List ℤ) (l : ℕ) (z : State) (c : Core) (n : ℕ)
    → Kept n z → length vs ≡ count_of (t.more_expressions x es) → count_of (t.more_expressions x es) ≤ 3
    → Comes (put_target c) (Targeted n (element_of v x es k))
    ((allocated (scope_of v.home) v.variable ▹
    (λ w. part_of w.bounds (singles vs) ▹ (λ p. giving (element (scope_of v.home) v.variable p)))) l z)
    (told (doing (bounded (a.section (scope_of v.home) v.variable (element_form (t.more_expressions x es))) ∷ [])) l (put_scalars c vs z))
element_comes v x es k vs l z c n b h s =
    let S : Scope = scope_of v.home in
    let P : Target → State → Type 0 = Targeted n (element_of v x es k) in
    let F : cores.Local → Does Target = λ w. part_of w.bounds (singles vs) ▹ (λ p. giving (element S v.variable p)) in
    let L : Outcome (Target × State) = (allocated S v.variable ▹ F) l z in
    let X : ℕ → Act = λ form. bounded (a.section S v.variable form) in
    let D : Core = put_subscripts c (singles vs) z in
    let G : cores.Local → Acted = λ w. found_in (place_within w.bounds (singles vs)) (λ p. goes_to (put_place c p z)) in
    subst (λ m. Comes (put_target c) P L (told (doing (X m ∷ [])) l (put_scalars c vs z))) (singles_form vs (t.more_expressions x es) h)
    (subst (λ us. Comes (put_target c) P L (told (doing (X (form_in (singles vs)) ∷ [])) l (put_scalars c us z))) (singles_numbers vs)
    (subst (λ u. Comes (put_target c) P L (and_then (of_effect l D (settled (X (form_in (singles vs))) u)) (told end_parts l)))
    (sym (section_acts S v.variable (singles vs) c.values (with_state z c) (omega (arith, singles_length vs))))
    (subst (λ o. Comes (put_target c) P L (and_then (of_effect l D (settled (X (form_in (singles vs))) (allocated_act o G)))
    (told end_parts l))) (sym (same_array S v.variable z c))
    (there_then (put_target c) P (array_in S v.variable z) F G (X (form_in (singles vs))) (told end_parts l) l D
    (λ w i. part_comes (put_target c) P w.bounds (singles vs) (λ p. giving (element S v.variable p)) (λ p. put_place c p z)
    (X (form_in (singles vs))) (told end_parts l) l D
    (λ p j. (refl, (is_element v x es k p (j ∙ singles_kept vs), b))))))))

module _ (e : Environment) (calls : ℕ → List Passed → Does Value) {Y : Type 0} (lay : Y → State → Core) (P : Y → State → Type 0)
    (n k rank : ℕ) (cs : t.Expressions) (which : t.SelectedTeam) (stat : t.OptionalResult) where
  -- the image of a selector, for what is made of it
  pub selector_comes : (p : Place) (F : ℕ → Target → Does Y) (Q : Core → Outcome Core) (l : ℕ) (z : State) (c : Core) → HasRoom n c
      → Kept c.used z → length p.dims ≡ rank
      → ((d : Core) → HasRoom n d → Comes (put_scalars d) (Counted d.used cs) (scalars e calls cs l (state_of d))
      (told (parts_of_all e cs) l d))
      → ((d : Core) → HasRoom n d → Comes (put_team d) (Keeps d.used) (selected_team e calls which l (state_of d))
      (told (parts_of_selected_team e which) l d))
      → ((d : Core) → HasRoom n d → Comes (put_target d) (Targeted d.used stat) (optional_target e calls stat l (state_of d))
      (told (optional_place e stat) l d))
      → ((i : ℕ) (g : Target) (y : State) → TargetOf stat g → Kept c.used y
      → Comes lay P (F i g l y) (Q (put_owner (with_target c g) p i y)))
      → Comes lay P (selected (scalars e calls cs) (selected_team e calls which) (optional_target e calls stat) k p F l z)
      (and_then (told (owner e k rank (t.selector cs which stat)) l (put_place c p z)) Q)
  selector_comes p F Q l z c r b h hs ht hg more =
      let C : Core = put_place c p z in
      let R4 : ℕ → Core → Outcome Core = λ m. told (doing (selector (a.owner k rank m) ∷ [])) l in
      let B : ℕ → Parts Act = λ m. bringing (optional_size stat) (place_size rank + (m + 1)) in
      let R3 : Core → Outcome Core = λ d. and_then (told (B (count_of cs)) l d) (R4 (count_of cs)) in
      let R2 : Core → Outcome Core = λ d. and_then (told (optional_place e stat) l d) R3 in
      let R1 : Core → Outcome Core = λ d. and_then (told (parts_of_selected_team e which) l d) R2 in
      let f3 : List ℤ → ℕ → Target → Does Y = λ vs m g. selected_image k vs m p ▹ (λ i. F i g) in
      let f2 : List ℤ → ℕ → Does Y = λ vs m. optional_target e calls stat ▹ (λ g. f3 vs m g) in
      let f1 : List ℤ → Does Y = λ vs. selected_team e calls which ▹ (λ m. f2 vs m) in
      apart lay P ((scalars e calls cs ▹ f1) l z) (told (parts_of_all e cs) l C) R1 Q
      (comes_then (put_scalars C) (Counted z.used cs) lay P (scalars e calls cs l z) (told (parts_of_all e cs) l C) (λ q. f1 q.0 l q.1)
      (λ d. and_then (R1 d) Q) (hs C (room_beside n c z r b))
      (λ vs y j. apart lay P (f1 vs l y) (told (parts_of_selected_team e which) l (put_scalars C vs y)) R2 Q
      (comes_then (put_team (put_scalars C vs y)) (Keeps y.used) lay P (selected_team e calls which l y)
      (told (parts_of_selected_team e which) l (put_scalars C vs y)) (λ q. f2 vs q.0 l q.1) (λ d. and_then (R2 d) Q)
      (ht (put_scalars C vs y) (room_beside n c y r (kept_more c.used z y b j.1)))
      (λ m x i. apart lay P (f2 vs m l x) (told (optional_place e stat) l (put_team (put_scalars C vs y) m x)) R3 Q
      (comes_then (put_target (put_team (put_scalars C vs y) m x)) (Targeted x.used stat) lay P (optional_target e calls stat l x)
      (told (optional_place e stat) l (put_team (put_scalars C vs y) m x)) (λ q. f3 vs m q.0 l q.1) (λ d. and_then (R3 d) Q)
      (hg (put_team (put_scalars C vs y) m x) (room_beside n c x r (kept_more c.used y x (kept_more c.used z y b j.1) i)))
      (λ g w t. apart lay P (f3 vs m g l w) (told (B (count_of cs)) l (put_over c p vs m g w)) (R4 (count_of cs)) Q
      (subst (λ N. Comes lay P (f3 vs m g l w) (and_then (told (B N) l (put_over c p vs m g w)) (λ d. and_then (R4 N d) Q))) j.0
      (subst (λ o. Comes lay P (f3 vs m g l w) (and_then o (λ d. and_then (R4 (length vs) d) Q)))
      (sym (brought stat g t.0 rank p vs m l w c h))
      (owner_comes lay P k rank p vs m (λ i. F i g) Q l w (with_target c g) h
      (λ q. more q g w t.0 (kept_more c.used x w (kept_more c.used y x (kept_more c.used z y b j.1) i) t.1)))))))))))

-- bounds of a whole array, of a part, and of a value
pub whole_come : (bs : List (ℤ × ℤ)) (x : Act) (l : ℕ) (c d : Core) (n : ℕ) (b : Bool) → HasRoom (suc n) c → Kept c.used (state_of d)
    → nat_le (length bs) 3 ≡ b
    → Comes (put_bounds c) (BoundsKept c.used) (cond b (giving bs) nothing_said l (state_of d))
    (and_then (of_effect l d (settled x (cond (nat_le (elements_in c.arrays + length (pairs_numbers bs)) most_elements)
    (goes_to (with_array (row (pairs_numbers bs) (length (pairs_numbers bs))) (with_state (state_of d) c))) (faulting room))))
    (told end_parts l))
whole_come bs x l c d n true r k e = bounds_come bs x l c d n r k (leb-true (length bs) 3 e)
whole_come bs x l c d n false r k e = tt

section_bounds_acts : (rank : ℕ) (p : Place) (us : List ℤ) (d : Core) → length p.dims ≡ rank
    → operate (bounded (a.section_bounds rank)) (with_values d (put_numbers (place_numbers p) us))
    ≡ cond (nat_le (elements_in d.arrays + length (pairs_numbers (from_one (extents_of p)))) most_elements)
    (goes_to (with_array (row (pairs_numbers (from_one (extents_of p))) (length (pairs_numbers (from_one (extents_of p)))))
    (with_values d us))) (faulting room)
section_bounds_acts rank p us d h =
    rw (rank_size rank p h) (rw (taken_back (place_numbers p) us)
    (ap (λ q. cond (nat_le (elements_in d.arrays + length (pairs_numbers (from_one (extents_of q)))) most_elements)
    (goes_to (with_array (row (pairs_numbers (from_one (extents_of q))) (length (pairs_numbers (from_one (extents_of q)))))
    (with_values d us))) (faulting room)) (place_back p)))

pub section_bounds_come : (rank : ℕ) (p : Place) (l : ℕ) (z : State) (c : Core) (n : ℕ) → HasRoom (suc n) c → Kept c.used z
    → length p.dims ≡ rank → rank ≤ 3
    → Comes (put_bounds c) (BoundsKept c.used) (giving (from_one (extents_of p)) l z)
    (told (doing (bounded (a.section_bounds rank) ∷ [])) l (put_place c p z))
section_bounds_come rank p l z c n r k h s =
    subst (λ u. Comes (put_bounds c) (BoundsKept c.used) (giving (from_one (extents_of p)) l z)
    (and_then (of_effect l (put_place c p z) (settled (bounded (a.section_bounds rank)) u)) (told end_parts l)))
    (sym (section_bounds_acts rank p c.values (with_state z c) h))
    (bounds_come (from_one (extents_of p)) (bounded (a.section_bounds rank)) l c (put_place c p z) n r k
    (omega (arith, length-map {B = ℤ × ℤ} (extents_of p) (λ m. (pos 1, pos m)), length-map p.dims (λ d. d.0))))

pub value_bounds_come : (w : Array) (l : ℕ) (z : State) (c : Core) (n : ℕ) → HasRoom (suc n) c → Kept c.used z → length w.extents ≤ 3
    → Comes (put_bounds c) (BoundsKept c.used) (giving (from_one w.extents) l z)
    (told (doing (bounded a.value_bounds ∷ [])) l (with_array w (with_state z c)))
value_bounds_come w l z c n r k s = bounds_come (from_one w.extents) (bounded a.value_bounds) l c (with_array w (with_state z c)) n r k
    (omega (arith, length-map {B = ℤ × ℤ} w.extents (λ m. (pos 1, pos m))))
