-- Parts of local arrays, array values with their evaluation cells, and bounds.
use Rattle.std.proofs.Common.{arith, ◌≡◌, refl, ap, sym, subst, ◌∙◌, ℕ, zero, suc, ◌+◌, ◌≤◌, ◌<◌, ℤ, Bool, true, false, cond, nat_le, nat_lt, List, [], ◌∷◌, length, Option, None, Some, leb-true, leb-false}
use Rattle.std.proofs.lemmas.List.{length-map}
use Rattle.caf_base.specs.declared.value.Kind.TheVariants as kinds
use Rattle.caf_base.specs.Arithmetic.{fits_kind}
use Rattle.walk_theory.specs.Syntax.{end_parts}
use Rattle.walk_theory.specs.Terms.{Found, found, at_fault}
use Rattle.walk_theory.specs.Language.{goes_to, faults as faulting}
use Rattle.image_acts.specs.Statuses.{most_cells, most_elements}
use Rattle.image_acts.specs.Faults.{overflow, shape_fault, not_allocated, room}
use Rattle.image_acts.specs.Acts as a
use Rattle.image_acts.specs.Acts.{Act, Scope, here, host, variable, stack, bounded}
use Rattle.image_acts.specs.Core.{Core, Local, with_values, with_array, elements_in, row}
use Rattle.image_acts.specs.Frames.{pairs_in, pairs_numbers}
use Rattle.image_acts.specs.Frames as frames
use Rattle.image_acts.specs.Places.{Place, Subscript, digits, subscripts_in, place_of, empty_place, place_within, spread_of, is_empty, place_numbers, place_in, place_size, extents_of}
use Rattle.image_acts.specs.Taking.{Acted, given, taken, found_in, put_down as put_numbers, giving as giving_act}
use Rattle.image_acts.specs.Operate.Variables.{allocated as allocated_act, elements_there, value_at}
use Rattle.image_acts.specs.Operate.Bounds.{of_default_kind}
use Rattle.image_acts.specs.Meaning.{operate, settled, effect_of}
use Rattle.tree_meaning.specs.Environment.{Environment}
use Rattle.tree_meaning.specs.Sequences.{doing}
use Rattle.tree_meaning.specs.Expressions.{local_value, taking_cells}
use Rattle.direct_meaning.specs.States.{State, state_of, with_state, array_in}
use Rattle.direct_meaning.specs.Outcomes.{Outcome, and_then, Does, giving, ◌▹◌, of_some, of_found, or_fault, nothing_said}
use Rattle.direct_meaning.specs.Told.{of_effect, told}
use Rattle.direct_meaning.specs.Values.{Value, number, array, using, value_of_rank, part_of, local_part, default_kind}
use Rattle.direct_agreement.specs.Agreeing.{put_down, HasRoom}
use Rattle.direct_agreement.proofs.Agreement.{Kept, Leaves, Comes, apart, act_first}
use Rattle.direct_agreement.proofs.Scalars.{test_comes}
use Rattle.direct_agreement.specs.Stacked.{numbers_of, form_in}
use Rattle.direct_agreement.proofs.Sections.{taken_back, kept_in, subscripts_back, count_back, place_back, place_length, HasRank, place_rank, empty_rank, pairs_length}

-- Elements that are put down take their evaluation cells: there is room for them where there are cells.
pub cells_come : (ns : List ℕ) (vs us : List ℤ) (x : Act) (l : ℕ) (z : State) (c : Core) (b d : Bool) → HasRoom 0 c → Kept c.used z
    → length ns ≤ 3
    → nat_le (elements_in c.arrays + length vs) most_elements ≡ b → nat_le (z.used + length vs) most_cells ≡ d
    → Comes (put_down c) (Leaves c.used) ((using (length vs) ▹ (λ u. giving (array (record { extents = ns; elements = vs })))) l z)
    (and_then (of_effect l (with_values (with_state z c) us)
    (settled x (cond (nat_le (elements_in c.arrays + length vs) most_elements)
    (goes_to (with_array (record { extents = ns; elements = vs }) (with_state z c))) (faulting room))))
    (told (doing (stack a.take_cells ∷ [])) l))
cells_come ns vs us x l z c true true r k s e f = rw (e, f) (refl, ((omega arith, leb-true (z.used + length vs) most_cells f), s))
cells_come ns vs us x l z c true false r k s e f = rw (e, f) refl
cells_come ns vs us x l z c false true r k s e f =
    let p : most_elements < elements_in c.arrays + length vs = leb-false (elements_in c.arrays + length vs) most_elements e in
    let q : z.used + length vs ≤ most_cells = leb-true (z.used + length vs) most_cells f in
    absurd (omega (arith, p, q, r.1))
cells_come ns vs us x l z c false false r k s e f = rw (e, f) refl

-- the value of a part with these elements
load_comes : (rank : ℕ) (p : Place) (vs us : List ℤ) (x : Act) (l : ℕ) (z : State) (c : Core) → HasRoom 0 c → Kept c.used z
    → length p.dims ≡ rank → rank ≤ 3
    → Comes (put_down c) (Leaves c.used) (value_of_rank rank (extents_of p) vs l z)
    (and_then (of_effect l (with_values (with_state z c) us) (settled x (value_at rank p vs (with_state z c))))
    (told (taking_cells rank) l))
load_comes zero p [] us x l z c r k e s = tt
load_comes zero p (v ∷ vs) us x l z c r k e s = (refl, k)
load_comes (suc n) p vs us x l z c r k e s =
    let h : length (extents_of p) ≤ 3 = omega (arith, length-map p.dims (λ d. d.0)) in
    cells_come (extents_of p) vs us x l z c (nat_le (elements_in c.arrays + length vs) most_elements)
    (nat_le (z.used + length vs) most_cells) r k h refl refl

-- a section finds its place by its subscripts
pub section_acts : (s : Scope) (x : ℕ) (xs : List Subscript) (us : List ℤ) (d : Core) → length xs ≤ 3
    → operate (bounded (a.section s x (form_in xs))) (with_values d (put_numbers (numbers_of xs) us)) ≡ allocated_act
    (frames.array_in s x d) (λ w. found_in (place_within w.bounds xs) (λ p. goes_to (with_values d (put_numbers (place_numbers p) us))))
section_acts here x xs us d h =
    let G : List ℤ × List ℤ → Acted = λ q. allocated_act (frames.array_in here x d)
    (λ w. found_in (place_within w.bounds (subscripts_in (digits (form_in xs)) q.0))
    (λ p. goes_to (with_values d (put_numbers (place_numbers p) q.1)))) in
    ap (λ n. given (taken n (put_numbers (numbers_of xs) us) []) G) (count_back xs h) ∙ ap (λ o. given o G) (taken_back (numbers_of xs) us)
    ∙ ap (λ ys. allocated_act (frames.array_in here x d)
    (λ w. found_in (place_within w.bounds ys) (λ p. goes_to (with_values d (put_numbers (place_numbers p) us))))) (subscripts_back xs h)
section_acts host x xs us d h =
    let G : List ℤ × List ℤ → Acted = λ q. allocated_act (frames.array_in host x d)
    (λ w. found_in (place_within w.bounds (subscripts_in (digits (form_in xs)) q.0))
    (λ p. goes_to (with_values d (put_numbers (place_numbers p) q.1)))) in
    ap (λ n. given (taken n (put_numbers (numbers_of xs) us) []) G) (count_back xs h) ∙ ap (λ o. given o G) (taken_back (numbers_of xs) us)
    ∙ ap (λ ys. allocated_act (frames.array_in host x d)
    (λ w. found_in (place_within w.bounds ys) (λ p. goes_to (with_values d (put_numbers (place_numbers p) us))))) (subscripts_back xs h)

abbrev loaded : Scope → ℕ → ℕ → Place → Core → Acted
loaded s x rank p d = allocated_act (frames.array_in s x d)
    (λ w. elim (elements_there p w) [ None ↦ faulting shape_fault | Some vs ↦ value_at rank p vs d ])

load_acts : (s : Scope) (x rank : ℕ) (p : Place) (us : List ℤ) (d : Core) → length p.dims ≡ rank
    → operate (variable (a.load s x rank)) (with_values d (put_numbers (place_numbers p) us)) ≡ loaded s x rank p (with_values d us)
load_acts s x rank p us d h =
    let G : List ℤ × List ℤ → Acted = λ q. loaded s x rank (place_in q.0) (with_values d q.1) in
    ap (λ n. given (taken (place_size n) (put_numbers (place_numbers p) us) []) G) (sym h) ∙ ap
    (λ n. given (taken n (put_numbers (place_numbers p) us) []) G) (sym (place_length p))
    ∙ ap (λ o. given o G) (taken_back (place_numbers p) us) ∙ ap (λ q. loaded s x rank q (with_values d us)) (place_back p)

-- the same array on both sides
pub same_array : (s : Scope) (x : ℕ) (z : State) (c : Core) → frames.array_in s x (with_state z c) ≡ array_in s x z
same_array here x z c = refl
same_array host x z c = refl

-- an array that has to be there, and a place that is found in it or not
pub there_then : {X : Type 0} (lay : X → State → Core) (P : X → State → Type 0) (o : Option Local) (f : Local → Does X) (g : Local → Acted)
    (x : Act) (k : Core → Outcome Core) (l : ℕ) (d : Core)
    → ((w : Local) → o ≡ Some w → Comes lay P (f w l (state_of d)) (and_then (of_effect l d (settled x (g w))) k))
    → Comes lay P ((or_fault not_allocated o ▹ f) l (state_of d)) (and_then (of_effect l d (settled x (allocated_act o g))) k)
there_then lay P None f g x k l d more = refl
there_then lay P (Some w) f g x k l d more = more w refl

one_found : {X : Type 0} (lay : X → State → Core) (P : X → State → Type 0) (n : ℕ) (f1 f2 : Found Place) (b1 b2 : Bool) (f : Place → Does X)
    (g : Place → Core) (x : Act) (k : Core → Outcome Core) (l : ℕ) (d : Core)
    → HasRank n f1 → HasRank n f2 → ((p : Place) → length p.dims ≡ n → Comes lay P (f p l (state_of d)) (k (g p)))
    → Comes lay P ((cond b1 (of_found f1) (cond b2 (of_found f2) nothing_said) ▹ f) l (state_of d))
    (and_then (of_effect l d (settled x (found_in (cond b1 f1 (cond b2 f2 (at_fault room))) (λ p. goes_to (g p))))) k)
one_found lay P n (found p) f2 true b2 f g x k l d h i more = more p h
one_found lay P n (at_fault j) f2 true b2 f g x k l d h i more = refl
one_found lay P n f1 (found p) false true f g x k l d h i more = more p i
one_found lay P n f1 (at_fault j) false true f g x k l d h i more = refl
one_found lay P n f1 f2 false false f g x k l d h i more = tt

pub part_comes : {X : Type 0} (lay : X → State → Core) (P : X → State → Type 0) (bs : List (ℤ × ℤ)) (xs : List Subscript)
    (f : Place → Does X) (g : Place → Core) (x : Act) (k : Core → Outcome Core) (l : ℕ) (d : Core)
    → ((p : Place) → length p.dims ≡ kept_in xs → Comes lay P (f p l (state_of d)) (k (g p)))
    → Comes lay P ((part_of bs xs ▹ f) l (state_of d))
    (and_then (of_effect l d (settled x (found_in (place_within bs xs) (λ p. goes_to (g p))))) k)
part_comes lay P bs xs f g x k l d more =
    one_found lay P (kept_in xs) (place_of bs xs) (empty_place bs xs) (nat_lt (spread_of bs) 9223372036854775808) (is_empty bs) f g x k l d
    (place_rank bs xs) (empty_rank bs xs) more

-- subscripts, and a place, put down over what was there
abbrev pub put_subscripts : Core → List Subscript → State → Core
put_subscripts c xs z = with_values (with_state z c) (put_numbers (numbers_of xs) c.values)

abbrev pub put_place : Core → Place → State → Core
put_place c p z = with_values (with_state z c) (put_numbers (place_numbers p) c.values)

elements_come : (rank : ℕ) (p : Place) (q : Option (List ℤ)) (us : List ℤ) (x : Act) (l : ℕ) (z : State) (c : Core) → HasRoom 0 c
    → Kept c.used z → length p.dims ≡ rank → rank ≤ 3
    → Comes (put_down c) (Leaves c.used) ((of_some q ▹ (λ vs. value_of_rank rank (extents_of p) vs)) l z)
    (and_then (of_effect l (with_values (with_state z c) us)
    (settled x (elim q [ None ↦ faulting shape_fault | Some vs ↦ value_at rank p vs (with_state z c) ]))) (told (taking_cells rank) l))
elements_come rank p None us x l z c r k h s = tt
elements_come rank p (Some vs) us x l z c r k h s = load_comes rank p vs us x l z c r k h s

-- the value of a part of a local array whose subscripts are on top
part_is_loaded : (s : Scope) (x rank : ℕ) (w : Local) (p : Place) (l : ℕ) (z : State) (c : Core) → array_in s x z ≡ Some w → HasRoom 0 c
    → Kept c.used z → length p.dims ≡ rank → rank ≤ 3
    → Comes (put_down c) (Leaves c.used) ((of_some (elements_there p w) ▹ (λ vs. value_of_rank rank (extents_of p) vs)) l z)
    (and_then (told (doing (variable (a.load s x rank) ∷ [])) l (put_place c p z)) (told (taking_cells rank) l))
part_is_loaded s x rank w p l z c i r k h t =
    let L : Outcome (Value × State) = (of_some (elements_there p w) ▹ (λ vs. value_of_rank rank (extents_of p) vs)) l z in
    let K : Acted → Outcome Core = λ u. and_then (of_effect l (put_place c p z) (settled (variable (a.load s x rank)) u))
    (told (taking_cells rank) l) in
    act_first (put_down c) (Leaves c.used) L (variable (a.load s x rank)) l (put_place c p z) (told (taking_cells rank) l)
    (subst (λ u. Comes (put_down c) (Leaves c.used) L (K u)) (sym (load_acts s x rank p c.values (with_state z c) h))
    (subst (λ o. Comes (put_down c) (Leaves c.used) L
    (K (allocated_act o (λ v. elim (elements_there p v)
    [ None ↦ faulting shape_fault | Some vs ↦ value_at rank p vs (with_state z c) ])))) (sym (same_array s x z c ∙ i))
    (elements_come rank p (elements_there p w) (put_numbers (place_numbers p) c.values) (variable (a.load s x rank)) l z c r k h t)))

pub local_comes : (e : Environment) (s : Scope) (x rank : ℕ) (xs : List Subscript) (l : ℕ) (z : State) (c : Core) → length xs ≤ 3
    → kept_in xs ≡ rank → rank ≤ 3 → HasRoom 0 c → Kept c.used z
    → Comes (put_down c) (Leaves c.used) (local_part s x rank xs l z) (told (local_value e s x (form_in xs) rank) l (put_subscripts c xs z))
local_comes e s x rank xs l z c h i t r k =
    let L : Outcome (Value × State) = local_part s x rank xs l z in
    let T : Core → Outcome Core = told (taking_cells rank) l in
    let W : Core → Outcome Core = λ d. and_then (told (doing (variable (a.load s x rank) ∷ [])) l d) T in
    let K : Acted → Outcome Core = λ u. and_then (of_effect l (put_subscripts c xs z) (settled (bounded (a.section s x (form_in xs))) u)) W
    in
    apart (put_down c) (Leaves c.used) L (of_effect l (put_subscripts c xs z)
    (effect_of (bounded (a.section s x (form_in xs))) (put_subscripts c xs z))) (told (doing (variable (a.load s x rank) ∷ [])) l) T
    (subst (λ u. Comes (put_down c) (Leaves c.used) L (K u)) (sym (section_acts s x xs c.values (with_state z c) h))
    (subst (λ o. Comes (put_down c) (Leaves c.used) L
    (K (allocated_act o (λ w. found_in (place_within w.bounds xs) (λ p. goes_to (put_place c p z)))))) (sym (same_array s x z c))
    (there_then (put_down c) (Leaves c.used) (array_in s x z)
    (λ w. part_of w.bounds xs ▹ (λ p. of_some (elements_there p w) ▹ (λ vs. value_of_rank rank (extents_of p) vs)))
    (λ w. found_in (place_within w.bounds xs) (λ p. goes_to (put_place c p z))) (bounded (a.section s x (form_in xs))) W l
    (put_subscripts c xs z)
    (λ w e. part_comes (put_down c) (Leaves c.used) w.bounds xs
    (λ p. of_some (elements_there p w) ▹ (λ vs. value_of_rank rank (extents_of p) vs)) (λ p. put_place c p z)
    (bounded (a.section s x (form_in xs))) W l (put_subscripts c xs z)
    (λ p j. part_is_loaded s x rank w p l z c e r k (j ∙ i) t)))))

-- bounds, put down over what was there as an array of them
abbrev pub put_bounds : Core → List (ℤ × ℤ) → State → Core
put_bounds c bs z = with_array (row (pairs_numbers bs) (length (pairs_numbers bs))) (with_state z c)

abbrev pub BoundsKept : ℕ → List (ℤ × ℤ) → State → Type 0
BoundsKept n bs z = Kept n z × (length bs ≤ 3)

-- there is room for them
top_comes : (bs : List (ℤ × ℤ)) (x : Act) (l : ℕ) (c d : Core) (n : ℕ) (b : Bool) → HasRoom (suc n) c → Kept c.used (state_of d)
    → length bs ≤ 3 → nat_le (elements_in c.arrays + length (pairs_numbers bs)) most_elements ≡ b
    → Comes (put_bounds c) (BoundsKept c.used) (giving bs l (state_of d))
    (and_then (of_effect l d (settled x (cond b
    (goes_to (with_array (row (pairs_numbers bs) (length (pairs_numbers bs))) (with_state (state_of d) c))) (faulting room))))
    (told end_parts l))
top_comes bs x l c d n true r k s e = (refl, (k, s))
top_comes bs x l c d n false r k s e =
    let p : most_elements < elements_in c.arrays + length (pairs_numbers bs) = leb-false (elements_in c.arrays + length (pairs_numbers bs))
    most_elements e in
    absurd (omega (arith, p, pairs_length bs, r.0, r.1))

pub bounds_come : (bs : List (ℤ × ℤ)) (x : Act) (l : ℕ) (c d : Core) (n : ℕ) → HasRoom (suc n) c → Kept c.used (state_of d) → length bs ≤ 3
    → Comes (put_bounds c) (BoundsKept c.used) (giving bs l (state_of d))
    (and_then (of_effect l d (settled x (cond (nat_le (elements_in c.arrays + length (pairs_numbers bs)) most_elements)
    (goes_to (with_array (row (pairs_numbers bs) (length (pairs_numbers bs))) (with_state (state_of d) c))) (faulting room))))
    (told end_parts l))
bounds_come bs x l c d n r k s = top_comes bs x l c d n (nat_le (elements_in c.arrays + length (pairs_numbers bs)) most_elements) r k s refl

-- a result of default kind
pub default_comes : (v : ℤ) (x : Act) (l : ℕ) (c d : Core) (n : ℕ) → Kept n (state_of d)
    → Comes (put_down c) (Leaves n) (default_kind v l (state_of d))
    (and_then (of_effect l d (settled x (of_default_kind v (with_state (state_of d) c)))) (told end_parts l))
default_comes v x l c d n k = test_comes (put_down c) (Leaves n) (fits_kind kinds.I4 v) (giving (number v)) overflow l d x
    (giving_act v (with_state (state_of d) c)) (told end_parts l) (refl, k)
