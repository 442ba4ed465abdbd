-- The bounds of variables and of their parts.
use Rattle.std.proofs.Common.{◌≡◌, refl, sym, subst, ◌∙◌, ℕ, suc, ◌≤◌, ℤ, List, [], ◌∷◌, length, nat_le, le_refl}
use Rattle.walk_theory.specs.Syntax.{Parts, end_parts}
use Rattle.checked_tree.specs.declared.data.Object.TheVariants as objects
use Rattle.checked_tree.specs.Expressions as t
use Rattle.image_acts.specs.Acts as a
use Rattle.image_acts.specs.Acts.{Act, Scope, here, host, bounded, stack}
use Rattle.image_acts.specs.Core.{Core, Local}
use Rattle.image_acts.specs.Places.{Place, Subscript, extents_of, place_within}
use Rattle.image_acts.specs.Taking.{Acted, found_in}
use Rattle.walk_theory.specs.Language.{goes_to}
use Rattle.image_acts.specs.Operate.Bounds.{bounds_on_top}
use Rattle.image_acts.specs.Operate.Variables.{allocated as allocated_act}
use Rattle.image_acts.specs.Meaning.{settled, effect_of}
use Rattle.tree_meaning.specs.Environment.{Environment}
use Rattle.tree_meaning.specs.Sequences.{◌▸◌, doing, dropping}
use Rattle.tree_meaning.specs.Expressions as parts
use Rattle.tree_meaning.specs.Expressions.{digits_of, optional_size}
use Rattle.direct_meaning.specs.States.{State, state_of, with_state, array_in, own_in}
use Rattle.direct_meaning.specs.Outcomes.{Outcome, done, and_then, Does, giving, ◌▹◌}
use Rattle.direct_meaning.specs.Told.{of_effect, told}
use Rattle.direct_meaning.specs.Values.{Value, allocated, owned, part_of, coarray_part, from_one, whole_bounds}
use Rattle.direct_meaning.specs.Expressions.{Passed, Target, scalars, selected, selected_team, optional_target, subscripts, all_of, bounds_of_part}
use Rattle.direct_agreement.specs.Agreeing.{HasRoom}
use Rattle.direct_laws.specs.Laws.{HasDimensions}
use Rattle.direct_agreement.proofs.Agreement.{and_then_assoc, Kept, Comes, comes_then}
use Rattle.direct_agreement.proofs.Arrays.{section_acts, there_then, part_comes, same_array, put_subscripts, put_place, put_bounds, BoundsKept}
use Rattle.direct_agreement.proofs.Inquiries.{owned_then}
use Rattle.direct_access.proofs.Owners.{TargetOf, none, whole, part, with_target, put_owner, co_part_comes}
use Rattle.direct_agreement.proofs.Scalars.{put_team, Keeps}
use Rattle.direct_agreement.specs.Stacked.{form_in}
use Rattle.direct_agreement.proofs.Sections.{kept_in}
use Rattle.direct_laws.proofs.Subscripts.{AllShaped, put_scalars, Counted, Shaped, few, all_comes, put_target, Targeted, selector_comes, whole_come, section_bounds_come}

-- those of a whole array
pub there_bounds : (s : Scope) (x l : ℕ) (c : Core) (n : ℕ) → HasRoom (suc n) c
    → Comes (put_bounds c) (BoundsKept c.used) ((allocated s x ▹ (λ w. whole_bounds w.bounds)) l (state_of c))
    (told (doing (bounded (a.bounds s x) ∷ [])) l c)
there_bounds here x l c n r =
    there_then (put_bounds c) (BoundsKept c.used) (array_in here x (state_of c)) (λ w. whole_bounds w.bounds)
    (λ w. bounds_on_top w.bounds c) (bounded (a.bounds here x)) (told end_parts l) l c
    (λ w e. whole_come w.bounds (bounded (a.bounds here x)) l c c n (nat_le (length w.bounds) 3) r (le_refl c.used, r.0) refl)
there_bounds host x l c n r =
    there_then (put_bounds c) (BoundsKept c.used) (array_in host x (state_of c)) (λ w. whole_bounds w.bounds)
    (λ w. bounds_on_top w.bounds c) (bounded (a.bounds host x)) (told end_parts l) l c
    (λ w e. whole_come w.bounds (bounded (a.bounds host x)) l c c n (nat_le (length w.bounds) 3) r (le_refl c.used, r.0) refl)

pub own_bounds : (k l : ℕ) (c : Core) (n : ℕ) → HasRoom (suc n) c
    → Comes (put_bounds c) (BoundsKept c.used) ((owned k ▹ (λ w. whole_bounds w.bounds)) l (state_of c))
    (told (doing (bounded (a.co_bounds k) ∷ [])) l c)
own_bounds k l c n r =
    owned_then (put_bounds c) (BoundsKept c.used) (own_in k (state_of c)) (λ w. whole_bounds w.bounds) (λ w. bounds_on_top w.bounds c)
    (bounded (a.co_bounds k)) (told end_parts l) l c
    (λ w e. whole_come w.bounds (bounded (a.co_bounds k)) l c c n (nat_le (length w.bounds) 3) r (le_refl c.used, r.0) refl)

-- those of a part of a local array, which has to be there
local_bounds : (s : Scope) (x rank : ℕ) (xs : List Subscript) (l : ℕ) (z : State) (c : Core) (n : ℕ) → HasRoom (suc n) c → Kept c.used z
    → length xs ≤ 3 → kept_in xs ≡ rank → rank ≤ 3
    → Comes (put_bounds c) (BoundsKept c.used) ((allocated s x ▹ (λ w. part_of w.bounds xs ▹ (λ p. giving (from_one (extents_of p))))) l z)
    (told (doing (bounded (a.section s x (form_in xs)) ∷ bounded (a.section_bounds rank) ∷ [])) l (put_subscripts c xs z))
local_bounds s x rank xs l z c n r k h i t =
    let F : Local → Does (List (ℤ × ℤ)) = λ w. part_of w.bounds xs ▹ (λ p. giving (from_one (extents_of p))) in
    let L : Outcome (List (ℤ × ℤ) × State) = (allocated s x ▹ F) l z in
    let X : Act = bounded (a.section s x (form_in xs)) in
    let K : Core → Outcome Core = told (doing (bounded (a.section_bounds rank) ∷ [])) l in
    let D : Core = put_subscripts c xs z in
    let G : Local → Acted = λ w. found_in (place_within w.bounds xs) (λ p. goes_to (put_place c p z)) in
    subst (λ u. Comes (put_bounds c) (BoundsKept c.used) L (and_then (of_effect l D (settled X u)) K))
    (sym (section_acts s x xs c.values (with_state z c) h))
    (subst (λ o. Comes (put_bounds c) (BoundsKept c.used) L (and_then (of_effect l D (settled X (allocated_act o G))) K))
    (sym (same_array s x z c))
    (there_then (put_bounds c) (BoundsKept c.used) (array_in s x z) F G X K l D
    (λ w e. part_comes (put_bounds c) (BoundsKept c.used) w.bounds xs (λ p. giving (from_one (extents_of p))) (λ p. put_place c p z) X K l D
    (λ p j. section_bounds_come rank p l z c n r k (j ∙ i) t))))

-- two parts on the walk's side, seen as one
together : {X : Type 0} (lay : X → State → Core) (P : X → State → Type 0) (m : Outcome (X × State)) (o : Outcome Core)
    (f g : Core → Outcome Core)
    → Comes lay P m (and_then (and_then o f) g) → Comes lay P m (and_then o (λ d. and_then (f d) g))
together lay P m o f g h = subst (Comes lay P m) (and_then_assoc o f g) h

-- what was put down for the variable of STAT= goes
dropped : (stat : t.OptionalResult) (g : Target) → TargetOf stat g → (bs : List (ℤ × ℤ)) (l : ℕ) (z : State) (c : Core)
    → told (dropping (optional_size stat)) l (put_bounds (with_target c g) bs z) ≡ done (put_bounds c bs z)
dropped stat g none bs l z c = refl
dropped stat g (whole v k) bs l z c = refl
dropped stat g (part v x es k i) bs l z c = refl

-- those of a part of a coarray: of this image, which has to be there, and of a selected one, of which nothing is read
own_part_bounds : (k rank : ℕ) (p : Place) (l : ℕ) (z : State) (c : Core) (n : ℕ) → HasRoom (suc n) c → Kept c.used z → length p.dims ≡ rank
    → rank ≤ 3
    → Comes (put_bounds c) (BoundsKept c.used) ((owned k ▹ (λ o. giving (from_one (extents_of p)))) l z)
    (told (doing (bounded (a.needs_own k) ∷ bounded (a.section_bounds rank) ∷ [])) l (put_place c p z))
own_part_bounds k rank p l z c n r b h s =
    owned_then (put_bounds c) (BoundsKept c.used) (own_in k z) (λ o. giving (from_one (extents_of p))) (λ o. goes_to (put_place c p z))
    (bounded (a.needs_own k)) (told (doing (bounded (a.section_bounds rank) ∷ [])) l) l (put_place c p z)
    (λ o e. section_bounds_come rank p l z c n r b h s)

selected_bounds : (stat : t.OptionalResult) (g : Target) → TargetOf stat g → (i rank : ℕ) (p : Place) (l : ℕ) (z : State) (c : Core) (n : ℕ)
    → HasRoom (suc n) c → Kept c.used z → length p.dims ≡ rank → rank ≤ 3
    → Comes (put_bounds c) (BoundsKept c.used) (giving (from_one (extents_of p)) l z)
    (told (dropping 1 ▸ doing (bounded (a.section_bounds rank) ∷ []) ▸ dropping (optional_size stat)) l (put_owner (with_target c g) p i z))
selected_bounds stat g t i rank p l z c n r b h s =
    let L : Outcome (List (ℤ × ℤ) × State) = giving (from_one (extents_of p)) l z in
    comes_then (put_bounds (with_target c g)) (BoundsKept c.used) (put_bounds c) (BoundsKept c.used) L
    (told (doing (bounded (a.section_bounds rank) ∷ [])) l (put_place (with_target c g) p z)) (λ q. done q)
    (told (dropping (optional_size stat)) l) (section_bounds_come rank p l z (with_target c g) n r b h s)
    (λ bs y j. (dropped stat g t bs l y c, j))

module _ (e : Environment) (calls : ℕ → List Passed → Does Value) where
  -- subscripts, and bounds of the part
  part_bounds : (f : ℕ → List Subscript → Does (List (ℤ × ℤ))) (K : ℕ → ℕ → Parts Act) (s : t.Subscript) (ss : t.Subscripts) (rank l : ℕ)
      (c : Core) (n : ℕ) → HasRoom (suc n) c → HasDimensions (t.more_subscripts s ss) rank
      → Comes (put_subscripts c) (AllShaped c.used (t.more_subscripts s ss)) (subscripts e calls (t.more_subscripts s ss) l (state_of c))
      (told (parts.subscripts e (t.more_subscripts s ss)) l c)
      → ((xs : List Subscript) (z : State) → length xs ≤ 3 → kept_in xs ≡ rank → rank ≤ 3 → Kept c.used z
      → Comes (put_bounds c) (BoundsKept c.used) (f rank xs l z) (told (K (form_in xs) rank) l (put_subscripts c xs z)))
      → Comes (put_bounds c) (BoundsKept c.used) ((all_of e calls (t.more_subscripts s ss) rank ▹ (λ xs. f rank xs)) l (state_of c))
      (told (parts.subscript e s ▸ parts.subscripts e ss ▸ K (digits_of (t.more_subscripts s ss)) rank) l c)
  part_bounds f K s ss rank l c n r d h more =
      let L : Outcome (List (ℤ × ℤ) × State) = (all_of e calls (t.more_subscripts s ss) rank ▹ (λ xs. f rank xs)) l (state_of c) in
      together (put_bounds c) (BoundsKept c.used) L (told (parts.subscript e s) l c) (told (parts.subscripts e ss) l)
      (told (K (digits_of (t.more_subscripts s ss)) rank) l)
      (comes_then (put_subscripts c) (Shaped c.used (t.more_subscripts s ss) rank) (put_bounds c) (BoundsKept c.used)
      (all_of e calls (t.more_subscripts s ss) rank l (state_of c)) (told (parts.subscripts e (t.more_subscripts s ss)) l c)
      (λ p. f rank p.0 l p.1) (told (K (digits_of (t.more_subscripts s ss)) rank) l)
      (all_comes e calls (t.more_subscripts s ss) rank l c d r.0 h)
      (λ xs z j. subst (λ m. Comes (put_bounds c) (BoundsKept c.used) (f rank xs l z) (told (K m rank) l (put_subscripts c xs z))) j.0
      (more xs z j.1 j.2 (few xs rank j.1 j.2) j.3)))

  pub local_part_bounds : (x : Scope) (v : ℕ) (s : t.Subscript) (ss : t.Subscripts) (rank l : ℕ) (c : Core) (n : ℕ) → HasRoom (suc n) c
      → HasDimensions (t.more_subscripts s ss) rank
      → Comes (put_subscripts c) (AllShaped c.used (t.more_subscripts s ss)) (subscripts e calls (t.more_subscripts s ss) l (state_of c))
      (told (parts.subscripts e (t.more_subscripts s ss)) l c)
      → Comes (put_bounds c) (BoundsKept c.used)
      ((all_of e calls (t.more_subscripts s ss) rank ▹
      (λ xs. allocated x v ▹ (λ w. part_of w.bounds xs ▹ (λ p. giving (from_one (extents_of p)))))) l (state_of c))
      (told (parts.subscript e s ▸ parts.subscripts e ss ▸ doing
      (bounded (a.section x v (digits_of (t.more_subscripts s ss))) ∷ bounded (a.section_bounds rank) ∷ [])) l c)
  local_part_bounds x v s ss rank l c n r d h =
      part_bounds (λ m xs. allocated x v ▹ (λ w. part_of w.bounds xs ▹ (λ p. giving (from_one (extents_of p)))))
      (λ form m. doing (bounded (a.section x v form) ∷ bounded (a.section_bounds m) ∷ [])) s ss rank l c n r d h
      (λ xs z i j t k. local_bounds x v rank xs l z c n r k i j t)

  pub own_coarray_bounds : (k : ℕ) (s : t.Subscript) (ss : t.Subscripts) (rank l : ℕ) (c : Core) (n : ℕ) → HasRoom (suc n) c
      → HasDimensions (t.more_subscripts s ss) rank
      → Comes (put_subscripts c) (AllShaped c.used (t.more_subscripts s ss)) (subscripts e calls (t.more_subscripts s ss) l (state_of c))
      (told (parts.subscripts e (t.more_subscripts s ss)) l c)
      → Comes (put_bounds c) (BoundsKept c.used)
      (bounds_of_part e calls (t.part (objects.Coarray k) (t.more_subscripts s ss) t.no_selector) rank l (state_of c))
      (told (parts.bounds_of_part e (t.part (objects.Coarray k) (t.more_subscripts s ss) t.no_selector) rank) l c)
  own_coarray_bounds k s ss rank l c n r d h =
      part_bounds (λ m xs. coarray_part k m xs ▹ (λ p. owned k ▹ (λ o. giving (from_one (extents_of p)))))
      (λ form m. doing (bounded (a.co_section k form) ∷ bounded (a.needs_own k) ∷ bounded (a.section_bounds m) ∷ [])) s ss rank l c n r
      d h
      (λ xs z i j t b. together (put_bounds c) (BoundsKept c.used)
      ((coarray_part k rank xs ▹ (λ p. owned k ▹ (λ o. giving (from_one (extents_of p))))) l z)
      (of_effect l (put_subscripts c xs z) (effect_of (bounded (a.co_section k (form_in xs))) (put_subscripts c xs z))) (told end_parts l)
      (told (doing (bounded (a.needs_own k) ∷ bounded (a.section_bounds rank) ∷ [])) l)
      (co_part_comes (put_bounds c) (BoundsKept c.used) k rank xs (λ p. owned k ▹ (λ o. giving (from_one (extents_of p))))
      (told (doing (bounded (a.needs_own k) ∷ bounded (a.section_bounds rank) ∷ [])) l) l z c i j
      (λ p w. own_part_bounds k rank p l z c n r b w t)))

  pub selected_coarray_bounds : (k : ℕ) (s : t.Subscript) (ss : t.Subscripts) (cs : t.Expressions) (which : t.SelectedTeam)
      (stat : t.OptionalResult) (rank l : ℕ) (c : Core) (n : ℕ) → HasRoom n c → HasRoom (suc n) c
      → HasDimensions (t.more_subscripts s ss) rank
      → Comes (put_subscripts c) (AllShaped c.used (t.more_subscripts s ss)) (subscripts e calls (t.more_subscripts s ss) l (state_of c))
      (told (parts.subscripts e (t.more_subscripts s ss)) l c)
      → ((d : Core) → HasRoom n d → Comes (put_scalars d) (Counted d.used cs) (scalars e calls cs l (state_of d))
      (told (parts.expressions e cs) l d))
      → ((d : Core) → HasRoom n d → Comes (put_team d) (Keeps d.used) (selected_team e calls which l (state_of d))
      (told (parts.selected_team e which) l d))
      → ((d : Core) → HasRoom n d → Comes (put_target d) (Targeted d.used stat) (optional_target e calls stat l (state_of d))
      (told (parts.optional_place e stat) l d))
      → Comes (put_bounds c) (BoundsKept c.used)
      (bounds_of_part e calls (t.part (objects.Coarray k) (t.more_subscripts s ss) (t.selector cs which stat)) rank l (state_of c))
      (told (parts.bounds_of_part e (t.part (objects.Coarray k) (t.more_subscripts s ss) (t.selector cs which stat)) rank) l c)
  selected_coarray_bounds k s ss cs which stat rank l c n r' r d h hs ht hg =
      let F : Place → Does (List (ℤ × ℤ)) = λ p. selected (scalars e calls cs) (selected_team e calls which) (optional_target e calls stat)
      k p (λ i g. giving (from_one (extents_of p))) in
      let R : ℕ → Parts Act = λ m. dropping 1 ▸ doing (bounded (a.section_bounds m) ∷ []) ▸ dropping (optional_size stat) in
      let Q : Core → Outcome Core = told (parts.owner e k rank (t.selector cs which stat) ▸ R rank) l in
      part_bounds (λ m xs. coarray_part k m xs ▹ F)
      (λ form m. doing (bounded (a.co_section k form) ∷ []) ▸ parts.owner e k m (t.selector cs which stat) ▸ R m) s ss rank l c n r d h
      (λ xs z i j t b. co_part_comes (put_bounds c) (BoundsKept c.used) k rank xs F Q l z c i j
      (λ p w. selector_comes e calls (put_bounds c) (BoundsKept c.used) n k rank cs which stat p (λ m g. giving (from_one (extents_of p)))
      (told (R rank) l) l z c r' b w hs ht hg
      (λ m g y u f. selected_bounds stat g u m rank p l y c n r f w t)))
