-- SIZE, LBOUND and UBOUND of bounds; IMAGE_INDEX; the lists of failed and stopped images.
use Rattle.std.proofs.Common.{arith, ◌≡◌, refl, ap, sym, subst, ℕ, zero, suc, ◌+◌, ◌≤◌, ◌<◌, ◌==◌, ℤ, pos, negsuc, Bool, true, false, nat_le, List, [], ◌∷◌, length, map, take, Option, None, Some, slice_get, leb-true, leb-false, length-take, take_all, min, ◌⊎◌, inl, inr}
use Rattle.coarray_types.specs.Places.{extent_of, size_of}
use Rattle.caf_base.specs.Arithmetic.{natural}
use Rattle.caf_events.specs.declared.reply.Reply.{Reply}
use Rattle.caf_events.specs.declared.reply.Reply.TheVariants as replies
use Rattle.walk_theory.specs.Syntax.{Parts, end_parts}
use Rattle.walk_theory.specs.Language.{faults as faulting}
use Rattle.checked_tree.specs.declared.expr.WrittenOrder.{WrittenOrder}
use Rattle.checked_tree.specs.declared.expr.WrittenOrder.TheVariants as orders
use Rattle.image_acts.specs.Statuses.{most_cells}
use Rattle.image_acts.specs.Faults.{bounds_fault, shape_fault, not_allocated}
use Rattle.image_acts.specs.Acts as a
use Rattle.image_acts.specs.Acts.{Act, stack, bounded, selector, ask}
use Rattle.image_acts.specs.Core.{Core, Array, Own, pushed, with_array, row}
use Rattle.image_acts.specs.Replies.{spare, indices_reply}
use Rattle.image_acts.specs.Taking.{Acted, giving as giving_act}
use Rattle.image_acts.specs.Teams.{index_of}
use Rattle.image_acts.specs.Operate.Bounds.{numbered, of_default_kind, owned as owned_act}
use Rattle.image_acts.specs.Meaning.{settled}
use Rattle.tree_meaning.specs.Sequences.{◌▸◌, doing}
use Rattle.tree_meaning.specs.Expressions.{beside_as_written}
use Rattle.direct_meaning.specs.States.{State, state_of, with_state, own_in}
use Rattle.direct_meaning.specs.Outcomes.{Outcome, and_then, Does, giving, ◌▹◌, or_fault, unless}
use Rattle.direct_meaning.specs.Told.{of_effect, told}
use Rattle.direct_meaning.specs.Values.{Value, number, array, as_number, as_array, using, default_kind, dimension, owned, lower_bound, upper_bound}
use Rattle.direct_meaning.specs.Images.{the, members, indices}
use Rattle.direct_meaning.specs.Expressions.{as_written, array_of}
use Rattle.direct_agreement.specs.Agreeing.{put_down, HasRoom}
use Rattle.direct_agreement.proofs.Agreement.{Kept, Leaves, Comes, comes_then, apart, kept_more}
use Rattle.direct_agreement.proofs.Arrays.{put_bounds, BoundsKept, default_comes}
use Rattle.direct_agreement.proofs.Scalars.{put_team, Keeps, test_comes}
use Rattle.direct_agreement.proofs.Sections.{pairs_back}

-- the size of bounds
pub size_comes : (bs : List (ℤ × ℤ)) (l : ℕ) (z : State) (c : Core) → Kept c.used z
    → Comes (put_down c) (Leaves c.used) (default_kind (pos (size_of bs)) l z) (told (doing (bounded a.size ∷ [])) l (put_bounds c bs z))
size_comes bs l z c k =
    subst (λ cs. Comes (put_down c) (Leaves c.used) (default_kind (pos (size_of bs)) l z)
    (and_then (of_effect l (put_bounds c bs z) (settled (bounded a.size) (of_default_kind (pos (size_of cs)) (with_state z c))))
    (told end_parts l))) (sym (pairs_back bs))
    (default_comes (pos (size_of bs)) (bounded a.size) l c (put_bounds c bs z) c.used k)

-- what is made of the bounds of one dimension
at_dimension : (o : Option (ℤ × ℤ)) (f : ℤ × ℤ → ℤ) (x : Act) (l : ℕ) (c d : Core) (n : ℕ) → Kept n (state_of d)
    → Comes (put_down c) (Leaves n) ((or_fault bounds_fault o ▹ (λ b. default_kind (f b))) l (state_of d))
    (and_then (of_effect l d (settled x (elim o
    [ None ↦ faulting bounds_fault | Some b ↦ of_default_kind (f b) (with_state (state_of d) c) ]))) (told end_parts l))
at_dimension None f x l c d n k = refl
at_dimension (Some b) f x l c d n k = default_comes (f b) x l c d n k

dimension_comes : (bs : List (ℤ × ℤ)) (v : ℤ) (f : ℤ × ℤ → ℤ) (x : Act) (l : ℕ) (c d : Core) (n : ℕ) → Kept n (state_of d)
    → Comes (put_down c) (Leaves n) ((dimension v bs ▹ (λ b. default_kind (f b))) l (state_of d))
    (and_then (of_effect l d (settled x (numbered bs (natural v) (λ b. of_default_kind (f b) (with_state (state_of d) c)))))
    (told end_parts l))
dimension_comes bs (pos zero) f x l c d n k = refl
dimension_comes bs (pos (suc i)) f x l c d n k = at_dimension (slice_get bs i) f x l c d n k
dimension_comes bs (negsuc i) f x l c d n k = refl

-- the three that take a dimension
pub data Takes : (ℤ × ℤ → ℤ) → a.BoundsAct → Type 0 where
  extents : Takes (λ b. pos (extent_of b)) a.extent
  lowers : Takes lower_bound a.lower_bound
  uppers : Takes upper_bound a.upper_bound

abbrev dimension_act : Core → List (ℤ × ℤ) → ℤ → State → Core
dimension_act c bs v z = pushed v (put_bounds c bs z)

taken_comes : (f : ℤ × ℤ → ℤ) (x : a.BoundsAct) → Takes f x → (bs : List (ℤ × ℤ)) (v : ℤ) (l : ℕ) (z : State) (c : Core) (n : ℕ) → Kept n z
    → Comes (put_down c) (Leaves n) ((dimension v bs ▹ (λ b. default_kind (f b))) l z)
    (told (doing (bounded x ∷ [])) l (dimension_act c bs v z))
taken_comes f x extents bs v l z c n k =
    subst (λ cs. Comes (put_down c) (Leaves n) ((dimension v bs ▹ (λ b. default_kind (pos (extent_of b)))) l z)
    (and_then (of_effect l (dimension_act c bs v z)
    (settled (bounded a.extent) (numbered cs (natural v) (λ b. of_default_kind (pos (extent_of b)) (with_state z c)))))
    (told end_parts l))) (sym (pairs_back bs))
    (dimension_comes bs v (λ b. pos (extent_of b)) (bounded a.extent) l c (dimension_act c bs v z) n k)
taken_comes f x lowers bs v l z c n k =
    subst (λ cs. Comes (put_down c) (Leaves n) ((dimension v bs ▹ (λ b. default_kind (lower_bound b))) l z)
    (and_then (of_effect l (dimension_act c bs v z)
    (settled (bounded a.lower_bound) (numbered cs (natural v) (λ b. of_default_kind (lower_bound b) (with_state z c)))))
    (told end_parts l))) (sym (pairs_back bs))
    (dimension_comes bs v lower_bound (bounded a.lower_bound) l c (dimension_act c bs v z) n k)
taken_comes f x uppers bs v l z c n k =
    subst (λ cs. Comes (put_down c) (Leaves n) ((dimension v bs ▹ (λ b. default_kind (upper_bound b))) l z)
    (and_then (of_effect l (dimension_act c bs v z)
    (settled (bounded a.upper_bound) (numbered cs (natural v) (λ b. of_default_kind (upper_bound b) (with_state z c)))))
    (told end_parts l))) (sym (pairs_back bs))
    (dimension_comes bs v upper_bound (bounded a.upper_bound) l c (dimension_act c bs v z) n k)

-- bounds and a dimension as they are written
abbrev inquired : (ℤ × ℤ → ℤ) → List (ℤ × ℤ) → Value → Does Value
inquired f bs y = as_number y ▹ (λ v. dimension v bs ▹ (λ b. default_kind (f b)))

behind_bounds : (f : ℤ × ℤ → ℤ) (x : a.BoundsAct) → Takes f x → (bs : List (ℤ × ℤ)) (y : Value) (l : ℕ) (z s : State) (c : Core)
    → Kept c.used z → Leaves z.used y s
    → Comes (put_down c) (Leaves c.used) (inquired f bs y l s) (told (doing (bounded x ∷ [])) l (put_down (put_bounds c bs z) y s))
behind_bounds f x t bs (number v) l z s c k j = taken_comes f x t bs v l s c c.used (kept_more c.used z s k j)
behind_bounds f x t bs (array w) l z s c k j = tt

-- a value whose dimension stands before the bounds
abbrev AfterDimension : (ℤ × ℤ → ℤ) → a.BoundsAct → Does (List (ℤ × ℤ)) → Parts Act → ℕ → Core → Value → State → Type 0
AfterDimension f x m p l c y z = Comes (put_down c) (Leaves c.used) ((m ▹ (λ bs. inquired f bs y)) l z)
    (and_then (told p l (put_down c y z)) (told (doing (bounded x ∷ [])) l))

behind_dimension : (f : ℤ × ℤ → ℤ) (x : a.BoundsAct) → Takes f x → (m : Does (List (ℤ × ℤ))) (p : Parts Act) (l : ℕ) (c : Core)
    → ((v : ℤ) (z : State) → Kept c.used z → Comes (put_bounds (pushed v (with_state z c))) (BoundsKept z.used) (m l z)
    (told p l (pushed v (with_state z c))))
    → ((w : Array) (z : State) → Leaves c.used (array w) z
    → Comes (put_bounds (with_array w (with_state z c))) (BoundsKept z.used) (m l z) (told p l (with_array w (with_state z c))))
    → (y : Value) (z : State) → Leaves c.used y z → AfterDimension f x m p l c y z
behind_dimension f x t m p l c h h' (number v) z k =
    comes_then (put_bounds (pushed v (with_state z c))) (BoundsKept z.used) (put_down c) (Leaves c.used) (m l z)
    (told p l (pushed v (with_state z c))) (λ q. inquired f q.0 (number v) l q.1) (told (doing (bounded x ∷ [])) l) (h v z k)
    (λ bs s b. taken_comes f x t bs v l s c c.used (kept_more c.used z s k b.0))
behind_dimension f x t m p l c h h' (array w) z k =
    comes_then (put_bounds (with_array w (with_state z c))) (BoundsKept z.used) (put_down c) (Leaves c.used) (m l z)
    (told p l (with_array w (with_state z c))) (λ q. inquired f q.0 (array w) l q.1) (told (doing (bounded x ∷ [])) l) (h' w z k)
    (λ bs s b. tt)

pub inquiry_comes : (o : WrittenOrder) (f : ℤ × ℤ → ℤ) (x : a.BoundsAct) → Takes f x
    → (m : Does (List (ℤ × ℤ))) (n : Does Value) (p q : Parts Act) (l : ℕ) (c : Core)
    → Comes (put_bounds c) (BoundsKept c.used) (m l (state_of c)) (told p l c)
    → ((bs : List (ℤ × ℤ)) (z : State) → BoundsKept c.used bs z
    → Comes (put_down (put_bounds c bs z)) (Leaves z.used) (n l z) (told q l (put_bounds c bs z)))
    → Comes (put_down c) (Leaves c.used) (n l (state_of c)) (told q l c)
    → ((v : ℤ) (z : State) → Kept c.used z → Comes (put_bounds (pushed v (with_state z c))) (BoundsKept z.used) (m l z)
    (told p l (pushed v (with_state z c))))
    → ((w : Array) (z : State) → Leaves c.used (array w) z
    → Comes (put_bounds (with_array w (with_state z c))) (BoundsKept z.used) (m l z) (told p l (with_array w (with_state z c))))
    → Comes (put_down c) (Leaves c.used) (as_written o m n (inquired f) l (state_of c))
    (told (beside_as_written o p q ▸ doing (bounded x ∷ [])) l c)
inquiry_comes orders.Same f x t m n p q l c h k k' h' h'' =
    apart (put_down c) (Leaves c.used) (as_written orders.Same m n (inquired f) l (state_of c)) (told p l c) (told q l)
    (told (doing (bounded x ∷ [])) l)
    (comes_then (put_bounds c) (BoundsKept c.used) (put_down c) (Leaves c.used) (m l (state_of c)) (told p l c)
    (λ r. (n ▹ (λ y. inquired f r.0 y)) l r.1) (λ d. and_then (told q l d) (told (doing (bounded x ∷ [])) l)) h
    (λ bs z b. comes_then (put_down (put_bounds c bs z)) (Leaves z.used) (put_down c) (Leaves c.used) (n l z) (told q l (put_bounds c bs z))
    (λ r. inquired f bs r.0 l r.1) (told (doing (bounded x ∷ [])) l) (k bs z b)
    (λ y s j. behind_bounds f x t bs y l z s c b.0 j)))
inquiry_comes orders.Reversed f x t m n p q l c h k k' h' h'' =
    apart (put_down c) (Leaves c.used) (as_written orders.Reversed m n (inquired f) l (state_of c)) (told q l c) (told p l)
    (told (doing (bounded x ∷ [])) l)
    (comes_then (put_down c) (Leaves c.used) (put_down c) (Leaves c.used) (n l (state_of c)) (told q l c)
    (λ r. (m ▹ (λ bs. inquired f bs r.0)) l r.1) (λ d. and_then (told p l d) (told (doing (bounded x ∷ [])) l)) k'
    (λ y z j. behind_dimension f x t m p l c h' h'' y z j))

-- fewer cells than those
pub fewer : (n m : ℕ) (z : State) → Kept (n + m) z → Kept n z
fewer n m z k = (omega arith, k.1)

-- a coarray that has to be there
pub owned_then : {X : Type 0} (lay : X → State → Core) (P : X → State → Type 0) (o : Option Own) (f : Own → Does X) (g : Own → Acted)
    (x : Act) (q : Core → Outcome Core) (l : ℕ) (d : Core)
    → ((w : Own) → o ≡ Some w → Comes lay P (f w l (state_of d)) (and_then (of_effect l d (settled x (g w))) q))
    → Comes lay P ((or_fault not_allocated o ▹ f) l (state_of d)) (and_then (of_effect l d (settled x (owned_act o g))) q)
owned_then lay P None f g x q l d more = refl
owned_then lay P (Some w) f g x q l d more = more w refl

-- IMAGE_INDEX
pub index_comes : (k corank : ℕ) (w : Array) (m l : ℕ) (z : State) (c : Core) (n : ℕ) → Kept n z
    → Comes (put_down c) (Leaves n) ((unless shape_fault (length w.elements == corank)
    (owned k ▹ (λ o. the (λ s. number (pos (index_of o w.elements (length (members m s)))))))) l z)
    (told (doing (selector (a.image_index k corank) ∷ [])) l (pushed (pos m) (with_array w (with_state z c))))
index_comes k corank w m l z c n h =
    let F : Own → Does Value = λ o. the (λ s. number (pos (index_of o w.elements (length (members m s))))) in
    let G : Own → Acted = λ o. giving_act (pos (index_of o w.elements (length (members m z)))) (with_state z c) in
    let D : Core = pushed (pos m) (with_array w (with_state z c)) in
    test_comes (put_down c) (Leaves n) (length w.elements == corank) (owned k ▹ F) shape_fault l D (selector (a.image_index k corank))
    (owned_act (own_in k z) G) (told end_parts l)
    (owned_then (put_down c) (Leaves n) (own_in k z) F G (selector (a.image_index k corank)) (told end_parts l) l D (λ o e. (refl, h)))

-- an array and a team as they are written, and what is made of them
abbrev of_array : (Array → ℕ → Does Value) → Value → ℕ → Does Value
of_array f y t = as_array y ▹ (λ w. f w t)

abbrev AfterArray : Does ℕ → (Array → ℕ → Does Value) → Parts Act → Parts Act → ℕ → Core → Value → State → Type 0
AfterArray n f q r l c y z = Comes (put_down c) (Leaves c.used) ((n ▹ (λ t. of_array f y t)) l z)
    (and_then (told q l (put_down c y z)) (told r l))

team_behind : (n : Does ℕ) (f : Array → ℕ → Does Value) (q r : Parts Act) (l : ℕ) (c : Core)
    → ((v : ℤ) (z : State) → Kept c.used z → Comes (put_team (pushed v (with_state z c))) (Keeps z.used) (n l z)
    (told q l (pushed v (with_state z c))))
    → ((w : Array) (z : State) → Leaves c.used (array w) z
    → Comes (put_team (with_array w (with_state z c))) (Keeps z.used) (n l z) (told q l (with_array w (with_state z c))))
    → ((w : Array) (t : ℕ) (z : State) → Kept c.used z
    → Comes (put_down c) (Leaves c.used) (f w t l z) (told r l (pushed (pos t) (with_array w (with_state z c)))))
    → (y : Value) (z : State) → Leaves c.used y z → AfterArray n f q r l c y z
team_behind n f q r l c h h' last (number v) z k =
    comes_then (put_team (pushed v (with_state z c))) (Keeps z.used) (put_down c) (Leaves c.used) (n l z)
    (told q l (pushed v (with_state z c))) (λ p. of_array f (number v) p.0 l p.1) (told r l) (h v z k) (λ t s b. tt)
team_behind n f q r l c h h' last (array w) z k =
    comes_then (put_team (with_array w (with_state z c))) (Keeps z.used) (put_down c) (Leaves c.used) (n l z)
    (told q l (with_array w (with_state z c))) (λ p. of_array f (array w) p.0 l p.1) (told r l) (h' w z k)
    (λ t s b. last w t s (kept_more c.used z s (fewer c.used (length w.elements) z k.0) b))

array_behind : (f : Array → ℕ → Does Value) (r : Parts Act) (l : ℕ) (c : Core) (t : ℕ) (z : State) → Kept c.used z
    → ((w : Array) (s : State) → Kept c.used s
    → Comes (put_down c) (Leaves c.used) (f w t l s) (told r l (pushed (pos t) (with_array w (with_state s c)))))
    → (y : Value) (s : State) → Leaves z.used y s
    → Comes (put_down c) (Leaves c.used) (of_array f y t l s) (told r l (put_down (put_team c t z) y s))
array_behind f r l c t z b last (number v) s k = tt
array_behind f r l c t z b last (array w) s k = last w s (kept_more c.used z s b (fewer z.used (length w.elements) s k.0))

pub beside_team : (o : WrittenOrder) (m : Does Value) (n : Does ℕ) (f : Array → ℕ → Does Value) (p q r : Parts Act) (l : ℕ) (c : Core)
    → Comes (put_down c) (Leaves c.used) (m l (state_of c)) (told p l c)
    → ((v : ℤ) (z : State) → Kept c.used z → Comes (put_down (pushed v (with_state z c))) (Leaves z.used) (m l z)
    (told p l (pushed v (with_state z c))))
    → Comes (put_team c) (Keeps c.used) (n l (state_of c)) (told q l c)
    → ((v : ℤ) (z : State) → Kept c.used z → Comes (put_team (pushed v (with_state z c))) (Keeps z.used) (n l z)
    (told q l (pushed v (with_state z c))))
    → ((w : Array) (z : State) → Leaves c.used (array w) z
    → Comes (put_team (with_array w (with_state z c))) (Keeps z.used) (n l z) (told q l (with_array w (with_state z c))))
    → ((w : Array) (t : ℕ) (z : State) → Kept c.used z
    → Comes (put_down c) (Leaves c.used) (f w t l z) (told r l (pushed (pos t) (with_array w (with_state z c)))))
    → Comes (put_down c) (Leaves c.used) (as_written o m n (of_array f) l (state_of c)) (told (beside_as_written o p q ▸ r) l c)
beside_team orders.Same m n f p q r l c h h' k k' k'' last =
    apart (put_down c) (Leaves c.used) (as_written orders.Same m n (of_array f) l (state_of c)) (told p l c) (told q l) (told r l)
    (comes_then (put_down c) (Leaves c.used) (put_down c) (Leaves c.used) (m l (state_of c)) (told p l c)
    (λ y. (n ▹ (λ t. of_array f y.0 t)) l y.1) (λ d. and_then (told q l d) (told r l)) h
    (λ y z j. team_behind n f q r l c k' k'' last y z j))
beside_team orders.Reversed m n f p q r l c h h' k k' k'' last =
    apart (put_down c) (Leaves c.used) (as_written orders.Reversed m n (of_array f) l (state_of c)) (told q l c) (told p l) (told r l)
    (comes_then (put_team c) (Keeps c.used) (put_down c) (Leaves c.used) (n l (state_of c)) (told q l c)
    (λ t. (m ▹ (λ y. of_array f y t.0)) l t.1) (λ d. and_then (told p l d) (told r l)) k
    (λ t z b. comes_then (put_down (put_team c t z)) (Leaves z.used) (put_down c) (Leaves c.used) (m l z) (told p l (put_team c t z))
    (λ y. of_array f y.0 t l y.1) (told r l) (h' (pos t) z b)
    (λ y s j. array_behind f r l c t z b (λ w u g. last w t u g) y s j)))

-- a test of numbers that fails
not_le_is : (n m : ℕ) (b : Bool) → nat_le n m ≡ b → m < n → b ≡ false
not_le_is n m true e h = absurd (omega (arith, leb-true n m e))
not_le_is n m false e h = refl

not_le : (n m : ℕ) → m < n → nat_le n m ≡ false
not_le n m h = not_le_is n m (nat_le n m) refl h

-- So many elements more have room, or evaluation cells for them are lacking, for those that have room, too.
abbrev pub Fits : ℕ → State → Core → Type 0
Fits n z c = (n ≤ spare c) ⊎ ((most_cells < z.used + n) × (most_cells < z.used + spare c))

fits_by : (n : ℕ) (z : State) (c : Core) (b : Bool) → nat_le n (spare c) ≡ b → HasRoom 0 c → Kept c.used z → Fits n z c
fits_by n z c true e r k = inl (leb-true n (spare c) e)
fits_by n z c false e r k = let p : spare c < n = leb-false n (spare c) e in inr (omega (arith, p, r.1, k.0), omega (arith, r.1, k.0))

pub room_or_none : (n : ℕ) (z : State) (c : Core) → HasRoom 0 c → Kept c.used z → Fits n z c
room_or_none n z c r k = fits_by n z c (nat_le n (spare c)) refl r k

-- an array value takes its cells
pub takes_cells : (w : Array) (l : ℕ) (z : State) (c : Core) (b : Bool) → Kept c.used z → length w.extents ≤ 3
    → nat_le (z.used + length w.elements) most_cells ≡ b
    → Comes (put_down c) (Leaves c.used) ((using (length w.elements) ▹ (λ u. giving (array w))) l z)
    (told (doing (stack a.take_cells ∷ [])) l (with_array w (with_state z c)))
takes_cells w l z c true k s e = rw e (refl, ((omega arith, leb-true (z.used + length w.elements) most_cells e), s))
takes_cells w l z c false k s e = rw e refl

-- for two numbers of cells that are lacking it is the same fault
both_lack : (w v : Array) (l : ℕ) (z : State) (c : Core) → nat_le (z.used + length w.elements) most_cells ≡ false
    → nat_le (z.used + length v.elements) most_cells ≡ false
    → Comes (put_down c) (Leaves c.used) ((using (length w.elements) ▹ (λ u. giving (array w))) l z)
    (told (doing (stack a.take_cells ∷ [])) l (with_array v (with_state z c)))
both_lack w v l z c e f = rw (e, f) refl

cut_lacks : (vs : List ℤ) (z : State) (c : Core) → (most_cells < z.used + length vs) × (most_cells < z.used + spare c)
    → most_cells < z.used + length (take (spare c) vs)
cut_lacks vs z c h = let i : length (take (spare c) vs) ≡ min (spare c) (length vs) = length-take (spare c) vs in omega (arith, i, h.0, h.1)

-- an array that was cut where there is no room for all of its elements: then cells for them are lacking, too
pub cut_comes : (w v : Array) (l : ℕ) (z : State) (c : Core) → Kept c.used z → length w.extents ≤ 3 → v.elements ≡ take (spare c) w.elements
    → (length w.elements ≤ spare c → v ≡ w) → Fits (length w.elements) z c
    → Comes (put_down c) (Leaves c.used) ((using (length w.elements) ▹ (λ u. giving (array w))) l z)
    (told (doing (stack a.take_cells ∷ [])) l (with_array v (with_state z c)))
cut_comes w v l z c k s e f (inl h) =
    subst (λ u. Comes (put_down c) (Leaves c.used) ((using (length w.elements) ▹ (λ t. giving (array w))) l z)
    (told (doing (stack a.take_cells ∷ [])) l (with_array u (with_state z c)))) (sym (f h))
    (takes_cells w l z c (nat_le (z.used + length w.elements) most_cells) k s refl)
cut_comes w v l z c k s e f (inr h) =
    both_lack w v l z c (not_le (z.used + length w.elements) most_cells h.0)
    (not_le (z.used + length v.elements) most_cells (subst (λ us. most_cells < z.used + length us) (sym e) (cut_lacks w.elements z c h)))

-- image indices of a reply
row_comes : (vs : List ℤ) (l : ℕ) (z : State) (c : Core) → HasRoom 0 c → Kept c.used z
    → Comes (put_down c) (Leaves c.used) ((using (length vs) ▹ (λ u. giving (array_of vs))) l z)
    (told (doing (stack a.take_cells ∷ [])) l (with_array (row (take (spare c) vs) (length (take (spare c) vs))) (with_state z c)))
row_comes vs l z c r k =
    cut_comes (row vs (length vs)) (row (take (spare c) vs) (length (take (spare c) vs))) l z c k (omega arith) refl
    (λ h. ap (λ us. row us (length us)) (take_all (spare c) vs h)) (room_or_none (length vs) z c r k)

pub list_comes : (r : Reply) (l : ℕ) (z : State) (c : Core) → HasRoom 0 c → Kept c.used z
    → Comes (put_down c) (Leaves c.used) ((indices r ▹ (λ vs. using (length vs) ▹ (λ u. giving (array_of vs)))) l z)
    (told (doing (stack a.take_cells ∷ [])) l (indices_reply (with_state z c) r))
list_comes (replies.Indices ns) l z c r k = row_comes (map (λ n. pos n) ns) l z c r k
list_comes reply l z c r k = tt
