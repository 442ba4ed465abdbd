-- What an act comes to, step by step, where it leads from what is known of an image's values to what is known then.
use Rattle.std.proofs.Common.{◌≡◌, ◌∙◌, ℕ, zero, suc, ◌+◌, Bool, true, false, cond, List, [], ◌∷◌, ◌++◌, length, refl, ap, sym, subst, arith}
use Rattle.std.specs.Prelude.{ℤ, Option, None, Some}
use Rattle.caf_base.specs.declared.value.Kind.{Kind}
use Rattle.walk_theory.specs.Language as language
use Rattle.walk_theory.specs.Language.{goes_to, faults, stuck}
use Rattle.walk_theory.specs.Terms.{Found, found, at_fault}
use Rattle.object_rules.specs.Cells.{Declared}
use Rattle.image_acts.specs.Acts as a
use Rattle.image_acts.specs.Acts.{Act, ask}
use Rattle.image_acts.specs.Core.{Core, Array, Local, Own, Team, with_values, pushed}
use Rattle.image_acts.specs.Taking.{Acted, given, found_in, unless, taken, put_down}
use Rattle.image_acts.specs.Operate.Variables.{allocated}
use Rattle.image_acts.specs.Operate.Bounds.{owned}
use Rattle.image_acts.specs.Operate.Selecting.{teamed}
use Rattle.image_acts.specs.Meaning.{missed, settled}
use Rattle.kind_walks.specs.Kinds.{Typing, IsSo, IsOf, IsArrayOf, Are, with_number, with_array}
use Rattle.kind_walks.specs.Suiting.{Joined, EffectSuits}

-- numbers of these kinds on top of others; numbers of which nothing is known
abbrev pub with_numbers : List (Option Kind) → Typing → Typing
with_numbers ks s = record s { numbers = ks ++ s.numbers }

abbrev pub unknown : ℕ → List (Option Kind)
unknown zero = []
unknown (suc m) = None ∷ unknown m

pub any_numbers : (vs : List ℤ) (m : ℕ) → length vs ≡ m → Are IsOf (unknown m) vs
any_numbers [] zero e = tt
any_numbers [] (suc m) e = absurd (cc)
any_numbers (v ∷ vs) zero e = absurd (cc)
any_numbers (v ∷ vs) (suc m) e = (tt, any_numbers vs m (let f : suc (length vs) ≡ suc m = e in cc))

pub unknown_long : (m : ℕ) → length (unknown m) ≡ m
unknown_long zero = refl
unknown_long (suc m) = ap suc (unknown_long m)

-- ---- numbers that are put down and taken
pub put_down_on : (xs ys vs : List ℤ) → put_down xs (ys ++ vs) ≡ put_down xs ys ++ vs
put_down_on [] ys vs = refl
put_down_on (x ∷ xs) ys vs = put_down_on xs (x ∷ ys) vs

pub put_down_long : (xs vs : List ℤ) → length (put_down xs vs) ≡ length xs + length vs
put_down_long [] vs = omega arith
put_down_long (x ∷ xs) vs = (let r = put_down_long xs (x ∷ vs) in omega arith)

-- what was put down once more is as it was
pub put_twice : (xs us vs : List ℤ) → put_down (put_down xs us) vs ≡ put_down us (xs ++ vs)
put_twice [] us vs = refl
put_twice (x ∷ xs) us vs = put_twice xs (x ∷ us) vs

taken_all : (xs ys vs : List ℤ) → taken (length xs) (xs ++ vs) ys ≡ Some (put_down xs ys, vs)
taken_all [] ys vs = refl
taken_all (x ∷ xs) ys vs = taken_all xs (x ∷ ys) vs

taken_of : (m : ℕ) (xs vs : List ℤ) → length xs ≡ m → taken m (xs ++ vs) [] ≡ Some (put_down xs [], vs)
taken_of m xs vs e = subst (λ k. taken k (xs ++ vs) [] ≡ Some (put_down xs [], vs)) e (taken_all xs [] vs)

-- ---- lists of kinds
pub are_on : {A : Type 0} (P : Option Kind → A → Type 0) (ks ls : List (Option Kind)) (xs ys : List A) → Are P ks xs → Are P ls ys → Are P (ks ++ ls) (xs ++ ys)
are_on P [] ls [] ys g h = h
are_on P [] ls (x ∷ xs) ys g h = absurd g
are_on P (k ∷ ks) ls [] ys g h = absurd g
are_on P (k ∷ ks) ls (x ∷ xs) ys g h = (g.0, are_on P ks ls xs ys g.1 h)

pub record Apart (ks ls : List (Option Kind)) (vs : List ℤ) : Type 0 where
  pub upper : List ℤ
  pub lower : List ℤ
  pub whole : vs ≡ upper ++ lower
  pub long : length upper ≡ length ks
  pub above : Are IsOf ks upper
  pub below : Are IsOf ls lower

pub apart : (ks ls : List (Option Kind)) (vs : List ℤ) → Are IsOf (ks ++ ls) vs → Apart ks ls vs
apart [] ls vs h = record { upper = []; lower = vs; whole = refl; long = refl; above = tt; below = h }
apart (k ∷ ks) ls [] h = absurd h
apart (k ∷ ks) ls (v ∷ vs) h = (
    let r = apart ks ls vs h.1 in record { upper = v ∷ r.upper; lower = r.lower; whole = ap (λ z. v ∷ z) r.whole; long = ap suc r.long; above = (h.0, r.above); below = r.below })

module _ (n : ℕ) where
  -- ---- what is put down
  pub push : (k : Option Kind) (s : Typing) (d : Core) (v : ℤ) → IsOf k v → IsSo n s d → IsSo n (with_number k s) (pushed v d)
  push k s d v g h = record { numbers = (g, h.numbers); arrays = h.arrays; running = h.running; callers = h.callers; images = h.images; known = h.known; formed = h.formed }

  pub push_array : (k : Option Kind) (s : Typing) (d : Core) (x : Array) → IsArrayOf k x → IsSo n s d → IsSo n (with_array k s) (record d { arrays = x ∷ d.arrays })
  push_array k s d x g h = record { numbers = h.numbers; arrays = (g, h.arrays); running = h.running; callers = h.callers; images = h.images; known = h.known; formed = h.formed }

  pub push_many : (ks : List (Option Kind)) (s : Typing) (d : Core) (xs : List ℤ) → Are IsOf ks xs → IsSo n s d → IsSo n (with_numbers ks s) (with_values d (xs ++ d.values))
  push_many ks s d xs g h =
      record { numbers = are_on IsOf ks s.numbers xs d.values g h.numbers; arrays = h.arrays; running = h.running; callers = h.callers; images = h.images; known = h.known; formed = h.formed }

  -- numbers that are put down one after another, of which nothing is known
  pub push_down : (m : ℕ) (s : Typing) (d : Core) (xs : List ℤ) → length xs ≡ m → IsSo n s d → IsSo n (with_numbers (unknown m) s) (with_values d (put_down xs d.values))
  push_down m s d xs e h =
      subst (λ z. IsSo n (with_numbers (unknown m) s) (with_values d z)) (sym (put_down_on xs [] d.values))
      (push_many (unknown m) s d (put_down xs []) (any_numbers (put_down xs []) m (put_down_long xs [] ∙ plain (length xs) m e)) h)
    where
      plain : (a b : ℕ) → a ≡ b → a + 0 ≡ b
      plain a b e = omega arith

  -- with other values in their place
  pub with_rest : (s : Typing) (ls : List (Option Kind)) (d : Core) (vs : List ℤ) → Are IsOf ls vs → IsSo n s d → IsSo n (record s { numbers = ls }) (with_values d vs)
  with_rest s ls d vs g h = record { numbers = g; arrays = h.arrays; running = h.running; callers = h.callers; images = h.images; known = h.known; formed = h.formed }

  module _ (coarrays : List Declared) (t : Typing) (j : Joined) where
    -- it leads to this
    abbrev pub Comes : Acted → Type 0
    Comes e = EffectSuits coarrays e (λ i d. IsSo n t d) j

    pub there : {X : Type 0} (o : Option X) (f : X → Acted) → ((x : X) → Comes (f x)) → Comes (given o f)
    there None f h = tt
    there (Some x) f h = h x

    pub there_as : {X : Type 0} (o : Option X) (f : X → Acted) → ((x : X) → o ≡ Some x → Comes (f x)) → Comes (given o f)
    there_as None f h = tt
    there_as (Some x) f h = h x refl

    pub there_or : {X : Type 0} (m : ℕ) (o : Option X) (f : X → Acted) → ((x : X) → Comes (f x)) → Comes (elim o [ None ↦ faults m | Some x ↦ f x ])
    there_or m None f h = tt
    there_or m (Some x) f h = h x

    pub find_as : {X : Type 0} (o : Found X) (f : X → Acted) → ((x : X) → o ≡ found x → Comes (f x)) → Comes (found_in o f)
    find_as (found x) f h = h x refl
    find_as (at_fault m) f h = tt

    pub so_as : (m : ℕ) (b : Bool) (e : Acted) → (b ≡ true → Comes e) → Comes (unless m b e)
    so_as m true e h = h refl
    so_as m false e h = tt

    pub so : (m : ℕ) (b : Bool) (e : Acted) → Comes e → Comes (unless m b e)
    so m true e h = h
    so m false e h = tt

    pub either_way : (b : Bool) (d e : Acted) → Comes d → Comes e → Comes (cond b d e)
    either_way true d e h g = h
    either_way false d e h g = g

    pub allocates : (o : Option Local) (f : Local → Acted) → ((x : Local) → o ≡ Some x → Comes (f x)) → Comes (allocated o f)
    allocates None f h = tt
    allocates (Some x) f h = h x refl

    pub owns : (o : Option Own) (f : Own → Acted) → ((x : Own) → Comes (f x)) → Comes (owned o f)
    owns None f h = tt
    owns (Some x) f h = h x

    pub teams : (o : Option Team) (f : Team → Acted) → ((x : Team) → o ≡ Some x → Comes (f x)) → Comes (teamed o f)
    teams None f h = tt
    teams (Some x) f h = h x refl

    -- what is left where an operand isn't there goes nowhere
    misses : (x : Act) → Comes (missed x)
    misses (ask a.leave) = tt
    misses (ask a.take) = tt
    misses x = tt

    pub settles : (x : Act) (e : Acted) → Comes e → Comes (settled x e)
    settles x (goes_to d) h = h
    settles x (faults m) h = h
    settles x (language.asking q f) h = h
    settles x (language.ends_with q) h = h
    settles x stuck h = misses x

    -- ---- what stands on top
    pub one : (k : Option Kind) (s : Typing) (c : Core) → IsSo n (with_number k s) c → (g : Core → Acted) → ((v : ℤ) (d : Core) → IsOf k v → IsSo n s d → Comes (g (pushed v d))) → Comes (g c)
    one k s c h g f = by_values c.values h.numbers
      where
        by_values : (vs : List ℤ) → Are IsOf (k ∷ s.numbers) vs → Comes (g (with_values c vs))
        by_values [] x = absurd x
        by_values (v ∷ vs) x =
            f v (with_values c vs) x.0 (record { numbers = x.1; arrays = h.arrays; running = h.running; callers = h.callers; images = h.images; known = h.known; formed = h.formed })

    pub top : (k : Option Kind) (s : Typing) (c : Core) → IsSo n (with_array k s) c → (g : Core → Acted) → ((x : Array) (d : Core) → IsArrayOf k x → IsSo n s d → Comes (g (record d { arrays = x ∷ d.arrays }))) → Comes (g c)
    top k s c h g f = by_arrays c.arrays h.arrays
      where
        by_arrays : (xs : List Array) → Are IsArrayOf (k ∷ s.arrays) xs → Comes (g (record c { arrays = xs }))
        by_arrays [] x = absurd x
        by_arrays (y ∷ ys) x =
            f y (record c { arrays = ys }) x.0 (record { numbers = h.numbers; arrays = x.1; running = h.running; callers = h.callers; images = h.images; known = h.known; formed = h.formed })

    pub many : (ks : List (Option Kind)) (s : Typing) (c : Core) → IsSo n (with_numbers ks s) c → (g : Core → Acted)
        → ((xs : List ℤ) (d : Core) → length xs ≡ length ks → Are IsOf ks xs → IsSo n s d → Comes (g (with_values d (xs ++ d.values)))) → Comes (g c)
    many ks s c h g f = (
        let r = apart ks s.numbers c.values h.numbers in
        subst (λ z. Comes (g (with_values c z))) (sym r.whole) (f r.upper (with_values c r.lower) r.long r.above (with_rest (record s { numbers = ks ++ s.numbers }) s.numbers c r.lower r.below h)))

    -- numbers that are taken
    pub takes : (m : ℕ) (xs us : List ℤ) (f : List ℤ × List ℤ → Acted) → length xs ≡ m → Comes (f (put_down xs [], us)) → Comes (given (taken m (xs ++ us) []) f)
    takes m xs us f e h = subst (λ o. Comes (given o f)) (sym (taken_of m xs us e)) h
