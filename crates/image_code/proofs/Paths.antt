-- Heights of paths: what one more of them does, and that heights without a bad place are all that paths have.
use Rattle.std.proofs.Common.{◌≡◌, ◌≢◌, ℕ, zero, suc, ◌+◌, ◌<◌, ◌≤◌, ◌⊎◌, inl, inr, Bool, true, false, List, [], ◌∷◌, length, refl, ap, sym, ◌∙◌, subst, arith}
use Rattle.std.specs.Prelude.{Option, Some, None, slice_get, slice_set, replicate}
use Rattle.std.proofs.lemmas.Option.{slice_get_within}
use Rattle.std.proofs.lemmas.Bool.Decides.{eqb_tells}
use Rattle.std.proofs.lemmas.List.{length-set, length-replicate}
use Rattle.image_code.specs.Code.{first_heights}
use Rattle.image_code.specs.declared.shape.Flow.{Flow}
use Rattle.image_code.specs.declared.shape.Flow.TheVariants as flows
use Rattle.image_code.specs.declared.shape.Height.{Height}
use Rattle.image_code.specs.declared.shape.Shape.{Shape}
use Rattle.image_code.specs.declared.step.Step.{Step}
use Rattle.image_code.specs.declared.finish.Lead.{Lead}
use Rattle.image_code.specs.Table.{instr_of}
use Rattle.image_code.specs.Sizes.{shape_of}
use Rattle.image_code.specs.Draft as d
use Rattle.image_code.specs.Draft.{shapes, nothing, Within, after, lead, leads, Stays, Reaches, at_start, IsBad, leaves, takes_more, uneven, unlike, Known, Sound, IsWay, Closed, KnowsMore, unknowns, AreHeights, IsFaulty, strays, wants, keeps, Meets, FindsBad, ClosedAt, IsEndOrBad, Lowest, IsFirstBad}

pub get_shapes : (ss : List Step) (p : ℕ) (x : Step) → slice_get ss p ≡ Some x → slice_get (shapes ss) p ≡ Some (shape_of (instr_of [] x))
get_shapes [] p x e = absurd (cc)
get_shapes (y ∷ ys) zero x e = let f : y ≡ x = cc in rw f refl
get_shapes (y ∷ ys) (suc p) x e = get_shapes ys p x e

pub shape_is : (ss : List Step) (p : ℕ) (x : Step) (r : Shape) → slice_get ss p ≡ Some x → r ≡ shape_of (instr_of [] x) → slice_get (shapes ss) p ≡ Some r
shape_is ss p x r e f = get_shapes ss p x e ∙ ap Some (sym f)

pub same_height : (heights : List (Option Height)) (p : ℕ) (h k : Height) → Known heights p h → Known heights p k → h ≡ k
same_height heights p h k a b = let e = sym a ∙ b in cc

pub same_shape : (code : List Shape) (p : ℕ) (s t : Shape) → slice_get code p ≡ Some s → slice_get code p ≡ Some t → s ≡ t
same_shape code p s t a b = let e = sym a ∙ b in cc

get_set_same : {X : Type 0} (xs : List X) (q : ℕ) (v : X) → q < length xs → slice_get (slice_set xs q v) q ≡ Some v
get_set_same [] q v l = absurd (omega arith)
get_set_same (x ∷ xs) zero v l = refl
get_set_same (x ∷ xs) (suc q) v l = get_set_same xs q v (omega arith)

get_set_other : {X : Type 0} (xs : List X) (q p : ℕ) (v : X) → p ≢ q → slice_get (slice_set xs q v) p ≡ slice_get xs p
get_set_other [] q p v n = refl
get_set_other (x ∷ xs) zero zero v n = absurd (n refl)
get_set_other (x ∷ xs) zero (suc p) v n = refl
get_set_other (x ∷ xs) (suc q) zero v n = refl
get_set_other (x ∷ xs) (suc q) (suc p) v n = get_set_other xs q p v (λ e. n (ap suc e))

-- one more height is known
pub sound_more : (code : List Shape) (heights : List (Option Height)) (q : ℕ) (k : Height) → Sound code heights → Reaches code q k → slice_get heights q ≡ Some None → Sound code (slice_set heights q (Some k))
sound_more code heights q k s r n p h o = elim (eqb_tells p q) [
  | inl t ↦ (let l = slice_get_within heights q None n in
      let v : h ≡ k = (let u = sym (subst (λ x. Known (slice_set heights q (Some k)) x h) t.1 o) ∙ get_set_same heights q (Some k) l in cc) in
      subst (λ x. Reaches code x h) (sym t.1) (subst (Reaches code q) (sym v) r))
  | inr f ↦ s p h (sym (get_set_other heights q p (Some k) f.1) ∙ o)
]

pub known_more : (heights : List (Option Height)) (q : ℕ) (k : Height) (p : ℕ) (h : Height) → slice_get heights q ≡ Some None → Known heights p h → Known (slice_set heights q (Some k)) p h
known_more heights q k p h n o = elim (eqb_tells p q) [
  | inl t ↦ absurd (let u = sym n ∙ subst (λ x. Known heights x h) t.1 o in cc)
  | inr f ↦ get_set_other heights q p (Some k) f.1 ∙ o
]

pub fewer_unknown : (heights : List (Option Height)) (q : ℕ) (k : Height) → slice_get heights q ≡ Some None → unknowns (slice_set heights q (Some k)) < unknowns heights
fewer_unknown [] q k n = absurd (cc)
fewer_unknown (None ∷ hs) zero k n = omega arith
fewer_unknown (Some h ∷ hs) zero k n = absurd (cc)
fewer_unknown (None ∷ hs) (suc q) k n = let r = fewer_unknown hs q k n in omega arith
fewer_unknown (Some h ∷ hs) (suc q) k n = fewer_unknown hs q k n

-- the place is in the list
pub new_within : (heights : List (Option Height)) (q : ℕ) → slice_get heights q ≡ Some None → q < length heights
new_within heights q n = slice_get_within heights q None n

-- a way from a height of a path is a path
pub way_reaches : (code : List Shape) (heights : List (Option Height)) (p : ℕ) (aside : Bool) (l : Lead) → Sound code heights → IsWay code heights p aside l → Reaches code l.place l.height
way_reaches code heights p aside l sound w = d.onward p w.height aside l.place l.height w.shape (sound p w.height w.known) w.here w.takes w.goes

pub knows_same : (code : List Shape) (hs : List (Option Height)) → KnowsMore code hs hs
knows_same code hs = record { long = refl; sound = λ s. s; known = λ p h s k. k; fewer = λ s. omega arith }

pub knows_one : (code : List Shape) (hs new : List (Option Height)) (p : ℕ) (aside : Bool) (l : Lead) → IsWay code hs p aside l → slice_get hs l.place ≡ Some None → new ≡ slice_set hs l.place (Some l.height) → KnowsMore code hs new
knows_one code hs new p aside l w n e = record {
  long = ap length e ∙ length-set hs l.place (Some l.height);
  sound = λ s. subst (Sound code) (sym e) (sound_more code hs l.place l.height s (way_reaches code hs p aside l s w) n);
  known = λ q h s k. subst (λ x. Known x q h) (sym e) (known_more hs l.place l.height q h n k);
  fewer = λ s. subst (λ x. unknowns x ≤ unknowns hs) (sym e) (let u = fewer_unknown hs l.place l.height n in omega arith);
}

pub knows_then : (code : List Shape) (a b c : List (Option Height)) → KnowsMore code a b → KnowsMore code b c → KnowsMore code a c
knows_then code a b c x y = record {
  long = y.long ∙ x.long;
  sound = λ s. y.sound (x.sound s);
  known = λ p h s n. y.known p h (x.sound s) (x.known p h s n);
  fewer = λ s. (let u = x.fewer s in let v = y.fewer (x.sound s) in omega arith);
}

-- a place that isn't there leads nowhere
pub closed_all : (code : List Shape) (heights : List (Option Height)) → Closed code heights → (p : ℕ) (aside : Bool) (l : Lead) → IsWay code heights p aside l → l.place < length code → (j : Height) × Known heights l.place j
closed_all code heights c p aside l w t = c p (slice_get_within code p w.shape w.here) aside l w t

-- a way on stays in the code where the instruction does
lead_place : (a b : Lead) → Some a ≡ Some b → a.place ≡ b.place
lead_place a b e = let f : a ≡ b = cc in ap (λ x. x.place) f

stays_within : (code : List Shape) (p : ℕ) (f : Flow) (h : Height) (aside : Bool) (l : Lead) → Stays code p f → leads aside p f h ≡ Some l → l.place < length code
stays_within code p flows.On h false l s e = subst (λ x. x < length code) (lead_place (lead (p + 1) h) l e) s
stays_within code p flows.On h true l s e = absurd (cc)
stays_within code p (flows.Jump q) h false l s e = subst (λ x. x < length code) (lead_place (lead q h) l e) s.0
stays_within code p (flows.Jump q) h true l s e = absurd (cc)
stays_within code p (flows.Branch q) h false l s e = subst (λ x. x < length code) (lead_place (lead (p + 1) h) l e) s.0
stays_within code p (flows.Branch q) h true l s e = subst (λ x. x < length code) (lead_place (lead q h) l e) s.1.0
stays_within code p (flows.Skip n) h false l s e = subst (λ x. x < length code) (lead_place (lead (p + 1 + n) h) l e) s
stays_within code p (flows.Skip n) h true l s e = absurd (cc)
stays_within code p (flows.SkipIf n) h false l s e = subst (λ x. x < length code) (lead_place (lead (p + 1) h) l e) s.0
stays_within code p (flows.SkipIf n) h true l s e = subst (λ x. x < length code) (lead_place (lead (p + 1 + n) h) l e) s.1
stays_within code p (flows.Call q) h false l s e = subst (λ x. x < length code) (lead_place (lead (p + 1) h) l e) s.0
stays_within code p (flows.Call q) h true l s e = subst (λ x. x < length code) (lead_place (lead q nothing) l e) s.1
stays_within code p flows.Back h false l s e = absurd (cc)
stays_within code p flows.Back h true l s e = absurd (cc)
stays_within code p flows.End h false l s e = absurd (cc)
stays_within code p flows.End h true l s e = absurd (cc)

abbrev height_of : ℕ → ℕ → ℕ → Height
height_of n a t = record { numbers = n; arrays = a; texts = t }

same_parts : (h k : Height) → h.numbers ≡ k.numbers → h.arrays ≡ k.arrays → h.texts ≡ k.texts → h ≡ k
same_parts h k a b c = ap (λ x. height_of x h.arrays h.texts) a ∙ ap (λ x. height_of k.numbers x h.texts) b ∙ ap (λ x. height_of k.numbers k.arrays x) c

pub alike : (h k : Height) → (h ≡ k) ⊎ (h ≢ k)
alike h k = elim (eqb_tells h.numbers k.numbers) [
  | inr n ↦ inr (λ e. n.1 (ap (λ x. x.numbers) e))
  | inl a ↦ elim (eqb_tells h.arrays k.arrays) [
    | inr n ↦ inr (λ e. n.1 (ap (λ x. x.arrays) e))
    | inl b ↦ elim (eqb_tells h.texts k.texts) [
      | inr n ↦ inr (λ e. n.1 (ap (λ x. x.texts) e))
      | inl c ↦ inl (same_parts h k a.1 b.1 c.1)
    ]
  ]
]

pub decide_less : (p q : ℕ) → (p < q) ⊎ (p < q → ⊥)
decide_less zero zero = inr (λ l. absurd (omega arith))
decide_less zero (suc q) = inl (omega arith)
decide_less (suc p) zero = inr (λ l. absurd (omega arith))
decide_less (suc p) (suc q) = elim (decide_less p q) [ inl l ↦ inl (omega arith) | inr n ↦ inr (λ l. n (omega arith)) ]

bad_itself : (code : List Shape) (heights : List (Option Height)) → Sound code heights → (p : ℕ) → IsFaulty code heights p → IsBad code p
bad_itself code heights sound p (strays s e n) = leaves s e n
bad_itself code heights sound p (wants s h e k n) = takes_more s h e (sound p h k) n
bad_itself code heights sound p (keeps s h e k b n) = uneven s h e (sound p h k) b n

module _ (code : List Shape) (heights : List (Option Height)) (are : AreHeights code heights) (fine : (p q : ℕ) → FindsBad code heights p q → ⊥) where
  -- each path reaches a place with the height that is known there
  pub all_known : (p : ℕ) (h : Height) → Reaches code p h → Known heights p h
  all_known _ _ at_start = are.first
  all_known _ _ (d.onward p h aside q k s r e t g) =
      let known = all_known p h r in
      let way : IsWay code heights p aside (lead q k) = record { shape = s; height = h; here = e; known = known; takes = t; goes = g } in
      elim (decide_less q (length code)) [
        | inr n ↦ absurd (fine p p (inl (strays s e (λ stays. n (stays_within code p s.flow (after s h) aside (lead q k) stays g)), refl)))
        | inl l ↦ (let there = closed_all code heights are.closed p aside (lead q k) way l in
            elim (alike there.0 k) [
              | inl same ↦ subst (Known heights q) same there.1
              | inr n ↦ absurd (fine p q (inr (aside, record { height = k; way = way; other = there.0; known = there.1; unlike = n })))
            ])
      ]

  pub none_bad : (p : ℕ) → IsBad code p → ⊥
  none_bad p (leaves s e n) = fine p p (inl (strays s e n, refl))
  none_bad p (takes_more s h e r n) = fine p p (inl (wants s h e (all_known p h r) n, refl))
  none_bad p (uneven s h e r b n) = fine p p (inl (keeps s h e (all_known p h r) b n, refl))
  none_bad p (unlike h k a b n) = n (same_height heights p h k (all_known p h a) (all_known p k b))

-- what a look finds bad is bad
pub found_bad : (code : List Shape) (heights : List (Option Height)) → Sound code heights → (p q : ℕ) → FindsBad code heights p q → IsBad code q
found_bad code heights sound p q (inl f) = subst (IsBad code) (sym f.1) (bad_itself code heights sound p f.0)
found_bad code heights sound p q (inr m) = unlike m.1.other m.1.height (sound q m.1.other m.1.known) (way_reaches code heights p m.0 (lead q m.1.height) sound m.1.way) m.1.unlike

-- a way is the only one
pub same_way : (code : List Shape) (heights : List (Option Height)) (p : ℕ) (aside : Bool) (l m : Lead) → IsWay code heights p aside l → IsWay code heights p aside m → l ≡ m
same_way code heights p aside l m a b =
    let s = same_shape code p a.shape b.shape a.here b.here in
    let h = same_height heights p a.height b.height a.known b.known in
    let e : leads aside p b.shape.flow (after b.shape b.height) ≡ Some l = subst (λ x. leads aside p b.shape.flow (after b.shape x) ≡ Some l) h (subst (λ x. leads aside p x.flow (after x a.height) ≡ Some l) s a.goes) in
    let f = sym e ∙ b.goes in cc

pub meets_there : (code : List Shape) (heights : List (Option Height)) (p : ℕ) (aside : Bool) (l : Lead) → IsWay code heights p aside l → (r : ℕ) → Meets code heights p aside r → (l.place ≡ r) × (k : Height) × Known heights l.place k × (k ≢ l.height)
meets_there code heights p aside l w r m =
    let e = same_way code heights p aside l (lead r m.height) w m.way in
    (ap (λ x. x.place) e, m.other, subst (λ x. Known heights x.place m.other) (sym e) m.known, λ f. m.unlike (f ∙ ap (λ x. x.height) e))

-- where a way leads nowhere nothing is met
pub meets_nowhere : (code : List Shape) (heights : List (Option Height)) (p : ℕ) (aside : Bool) → length heights ≡ length code → ((l : Lead) → IsWay code heights p aside l → length code ≤ l.place) → (r : ℕ) → Meets code heights p aside r → ⊥
meets_nowhere code heights p aside e f r m = (let a = f (lead r m.height) m.way in let b = slice_get_within heights r (Some m.other) m.known in absurd (omega arith))

-- what looks find is in the code
faulty_within : (code : List Shape) (heights : List (Option Height)) (p : ℕ) → IsFaulty code heights p → p < length code
faulty_within code heights p (strays s e n) = slice_get_within code p s e
faulty_within code heights p (wants s h e k n) = slice_get_within code p s e
faulty_within code heights p (keeps s h e k b n) = slice_get_within code p s e

pub finder_within : (code : List Shape) (heights : List (Option Height)) (p q : ℕ) → FindsBad code heights p q → p < length code
finder_within code heights p q (inl f) = faulty_within code heights p f.0
finder_within code heights p q (inr m) = slice_get_within code p m.1.way.shape m.1.way.here

pub found_within : (code : List Shape) (heights : List (Option Height)) (p q : ℕ) → length heights ≡ length code → FindsBad code heights p q → q < length code
found_within code heights p q e (inl f) = subst (λ x. x < length code) (sym f.1) (faulty_within code heights p f.0)
found_within code heights p q e (inr m) = (let b = slice_get_within heights q (Some m.1.other) m.1.known in omega arith)

pub lowest_of : (code : List Shape) (heights : List (Option Height)) (p a b q : ℕ) → (IsFaulty code heights p → a ≤ p) → b ≤ a → ((r : ℕ) → Meets code heights p false r → b ≤ r) → q ≤ b → ((r : ℕ) → Meets code heights p true r → q ≤ r) → (r : ℕ) → FindsBad code heights p r → q ≤ r
lowest_of code heights p a b q f l g m h r (inl x) = (let u = f x.0 in let v = x.1 in omega arith)
lowest_of code heights p a b q f l g m h r (inr (false, y)) = (let u = g r y in omega arith)
lowest_of code heights p a b q f l g m h r (inr (true, y)) = h r y

pub both_closed : (code : List Shape) (heights : List (Option Height)) (p : ℕ) → ClosedAt code heights p false → ClosedAt code heights p true → (aside : Bool) → ClosedAt code heights p aside
both_closed code heights p a b false = a
both_closed code heights p a b true = b

-- the first bad place
pub first_found : (code : List Shape) (heights : List (Option Height)) (least : ℕ) → IsEndOrBad code heights least → least < length code → ((p : ℕ) → p < length code → Lowest code heights p least) → IsFirstBad code heights least
first_found code heights least (inl e) l f = absurd (omega arith)
first_found code heights least (inr b) l f = record { within = l; finder = b.0; bad = b.1; first = λ p r g. f p (finder_within code heights p r g) r g }

-- the first heights
none_known : (n p : ℕ) (h : Height) → slice_get (replicate n None) p ≡ Some (Some h) → ⊥
none_known zero p h e = cc
none_known (suc n) zero h e = cc
none_known (suc n) (suc p) h e = none_known n p h e

pub first_sound : (code : List Shape) (n : ℕ) → 0 < n → Sound code (first_heights n)
first_sound code n l p h k = elim (eqb_tells p 0) [
  | inl t ↦ (let e : h ≡ nothing = (let u = sym (subst (λ x. Known (first_heights n) x h) t.1 k) ∙ get_set_same (replicate n None) 0 (Some nothing) (subst (λ x. 0 < x) (sym (length-replicate n None)) l) in cc) in
      subst (λ x. Reaches code x h) (sym t.1) (subst (Reaches code 0) (sym e) at_start))
  | inr f ↦ absurd (none_known n p h (sym (get_set_other (replicate n None) 0 p (Some nothing) f.1) ∙ k))
]

pub first_known : (n : ℕ) → 0 < n → Known (first_heights n) 0 nothing
first_known n l = get_set_same (replicate n None) 0 (Some nothing) (subst (λ x. 0 < x) (sym (length-replicate n None)) l)

pub first_long : (n : ℕ) → length (first_heights n) ≡ n
first_long n = length-set (replicate n None) 0 (Some nothing) ∙ length-replicate n None
