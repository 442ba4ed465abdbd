-- Numbers that stand on others, and what an act comes to that leaves some.
use Rattle.std.proofs.Common.{◌≡◌, ℕ, zero, suc, ◌+◌, Bool, true, false, cond, List, [], ◌∷◌, ◌++◌, length, refl, ap, sym, ◌∙◌, subst, arith}
use Rattle.std.specs.Prelude.{ℤ, drop, nat_le, Option, None, Some}
use Rattle.walk_theory.specs.Language.{goes_to, faults, stuck}
use Rattle.walk_theory.specs.Terms.{Found, found, at_fault}
use Rattle.caf_events.specs.declared.ask.Ask.{Ask}
use Rattle.image_acts.specs.Statuses.{most_cells}
use Rattle.image_acts.specs.Faults.{room, not_allocated, no_team}
use Rattle.image_acts.specs.Acts as a
use Rattle.image_acts.specs.Core.{Core, Array, Frame, Local, Own, Team, with_values}
use Rattle.image_acts.specs.Frames.{with_frame, with_last}
use Rattle.image_acts.specs.Taking.{Acted, given, found_in, unless, taken, taking, seeing, taking_array, seeing_array, using, put_down}
use Rattle.image_acts.specs.Operate.Variables.{allocated}
use Rattle.image_acts.specs.Operate.Bounds.{owned}
use Rattle.image_acts.specs.Operate.Selecting.{teamed}
use Rattle.stack_laws.specs.Exact.{Stand, Kept, kept_of, Exactly}

-- ---- numbers
pub stand_on : (xs vs : List ℤ) → Stand (length xs) vs (xs ++ vs)
stand_on [] vs = refl
stand_on (x ∷ xs) vs = stand_on xs vs

pub stand_of : (m : ℕ) (xs vs : List ℤ) → length xs ≡ m → Stand m vs (xs ++ vs)
stand_of m xs vs e = subst (λ n. Stand n vs (xs ++ vs)) e (stand_on xs vs)

pub stand_apart : (m : ℕ) (vs ws : List ℤ) → Stand m vs ws → (xs : List ℤ) × (length xs ≡ m) × (ws ≡ xs ++ vs)
stand_apart zero vs ws h = ([], refl, h)
stand_apart (suc m) vs [] h = absurd h
stand_apart (suc m) vs (w ∷ ws) h = (let r = stand_apart m vs ws h in (w ∷ r.0, ap suc r.1, ap (λ z. w ∷ z) r.2))

pub put_down_on : (xs ys vs : List ℤ) → put_down xs (ys ++ vs) ≡ put_down xs ys ++ vs
put_down_on [] ys vs = refl
put_down_on (x ∷ xs) ys vs = put_down_on xs (x ∷ ys) vs

pub put_down_long : (xs vs : List ℤ) → length (put_down xs vs) ≡ length xs + length vs
put_down_long [] vs = omega arith
put_down_long (x ∷ xs) vs = (let r = put_down_long xs (x ∷ vs) in omega arith)

-- numbers that are put down stand on what was there
pub stand_down : (m : ℕ) (xs ys vs : List ℤ) → length xs + length ys ≡ m → Stand m vs (put_down xs (ys ++ vs))
stand_down m xs ys vs e = subst (Stand m vs) (sym (put_down_on xs ys vs)) (stand_of m (put_down xs ys) vs (put_down_long xs ys ∙ e))

pub taken_all : (xs ys vs : List ℤ) → taken (length xs) (xs ++ vs) ys ≡ Some (put_down xs ys, vs)
taken_all [] ys vs = refl
taken_all (x ∷ xs) ys vs = taken_all xs (x ∷ ys) vs

pub taken_of : (n : ℕ) (xs vs : List ℤ) → length xs ≡ n → taken n (xs ++ vs) [] ≡ Some (put_down xs [], vs)
taken_of n xs vs e = subst (λ m. taken m (xs ++ vs) [] ≡ Some (put_down xs [], vs)) e (taken_all xs [] vs)

pub taken_many : (n : ℕ) (vs xs : List ℤ) (p : List ℤ × List ℤ) → taken n vs xs ≡ Some p → length p.0 ≡ n + length xs
taken_many zero vs xs p e = (let f : (xs, vs) ≡ p = cc in sym (ap (λ q. length q.0) f) ∙ omega arith)
taken_many (suc n) [] xs p e = absurd (cc)
taken_many (suc n) (v ∷ vs) xs p e = (let r = taken_many n vs (v ∷ xs) p e in omega arith)

-- a list in two parts
pub parted : (m n : ℕ) (xs : List ℤ) → length xs ≡ m + n → (ys : List ℤ) × (zs : List ℤ) × (length ys ≡ m) × (length zs ≡ n) × (xs ≡ ys ++ zs)
parted zero n xs e = ([], xs, refl, e ∙ omega arith, refl)
parted (suc m) n [] e = absurd (let f : 0 ≡ suc m + n = e in omega arith)
parted (suc m) n (x ∷ xs) e = (let r = parted m n xs (let f : suc (length xs) ≡ suc m + n = e in omega arith) in (x ∷ r.0, r.1, ap suc r.2, r.3, ap (λ z. x ∷ z) r.4))

-- ---- what an act comes to
pub record Fine (Q : Ask → Type 0) (k : Kept) (m : ℕ) (vs : List ℤ) (e : Acted) : Type 0 where
  pub exact : Exactly Q (λ d. kept_of d ≡ k) m vs e

module _ (Q : Ask → Type 0) (k : Kept) (m : ℕ) (vs : List ℤ) where
  pub goes : (d : Core) → Stand m vs d.values → kept_of d ≡ k → Fine Q k m vs (goes_to d)
  goes d s e = record { exact = (s, e) }

  pub fault : (n : ℕ) → Fine Q k m vs (faults n)
  fault n = record { exact = tt }

  pub no_operand : Fine Q k m vs stuck
  no_operand = record { exact = tt }

  pub there : {X : Type 0} (o : Option X) (f : X → Acted) → ((x : X) → Fine Q k m vs (f x)) → Fine Q k m vs (given o f)
  there None f h = no_operand
  there (Some x) f h = h x

  pub there_as : {X : Type 0} (o : Option X) (f : X → Acted) → ((x : X) → o ≡ Some x → Fine Q k m vs (f x)) → Fine Q k m vs (given o f)
  there_as None f h = no_operand
  there_as (Some x) f h = h x refl

  pub there_or : {X : Type 0} (n : ℕ) (o : Option X) (f : X → Acted) → ((x : X) → Fine Q k m vs (f x)) → Fine Q k m vs (elim o [ None ↦ faults n | Some x ↦ f x ])
  there_or n None f h = fault n
  there_or n (Some x) f h = h x

  pub find : {X : Type 0} (o : Found X) (f : X → Acted) → ((x : X) → Fine Q k m vs (f x)) → Fine Q k m vs (found_in o f)
  find (found x) f h = h x
  find (at_fault n) f h = fault n

  pub find_as : {X : Type 0} (o : Found X) (f : X → Acted) → ((x : X) → o ≡ found x → Fine Q k m vs (f x)) → Fine Q k m vs (found_in o f)
  find_as (found x) f h = h x refl
  find_as (at_fault n) f h = fault n

  pub so : (n : ℕ) (b : Bool) (e : Acted) → Fine Q k m vs e → Fine Q k m vs (unless n b e)
  so n true e h = h
  so n false e h = fault n

  pub either_way : (b : Bool) (d e : Acted) → Fine Q k m vs d → Fine Q k m vs e → Fine Q k m vs (cond b d e)
  either_way true d e h g = h
  either_way false d e h g = g

  pub top_array : (c : Core) (f : Array → Core → Acted) → ((x : Array) (xs : List Array) → Fine Q k m vs (f x (record c { arrays = xs }))) → Fine Q k m vs (taking_array c f)
  top_array c f h = by_arrays c.arrays
    where
      by_arrays : (xs : List Array) → Fine Q k m vs (elim xs [ [] ↦ stuck | y ∷ ys ↦ f y (record c { arrays = ys }) ])
      by_arrays [] = no_operand
      by_arrays (x ∷ xs) = h x xs

  pub seen_array : (c : Core) (f : Array → Acted) → ((x : Array) → Fine Q k m vs (f x)) → Fine Q k m vs (seeing_array c f)
  seen_array c f h = by_arrays c.arrays
    where
      by_arrays : (xs : List Array) → Fine Q k m vs (elim xs [ [] ↦ stuck | y ∷ ys ↦ f y ])
      by_arrays [] = no_operand
      by_arrays (x ∷ xs) = h x

  pub room_for : (n : ℕ) (c : Core) (f : Core → Acted) → Fine Q k m vs (f (record c { used = c.used + n })) → Fine Q k m vs (using n c f)
  room_for n c f h = so room (nat_le (c.used + n) most_cells) (f (record c { used = c.used + n })) h

  pub allocates : (o : Option Local) (f : Local → Acted) → ((x : Local) → Fine Q k m vs (f x)) → Fine Q k m vs (allocated o f)
  allocates None f h = fault not_allocated
  allocates (Some x) f h = h x

  pub owns : (o : Option Own) (f : Own → Acted) → ((x : Own) → Fine Q k m vs (f x)) → Fine Q k m vs (owned o f)
  owns None f h = fault not_allocated
  owns (Some x) f h = h x

  pub teams : (o : Option Team) (f : Team → Acted) → ((x : Team) → Fine Q k m vs (f x)) → Fine Q k m vs (teamed o f)
  teams None f h = fault no_team
  teams (Some x) f h = h x

  -- ---- numbers that are taken
  pub takes : (n : ℕ) (c : Core) (xs : List ℤ) (us : List ℤ) (f : List ℤ → Core → Acted) → length xs ≡ n → ((ys : List ℤ) → length ys ≡ n → Fine Q k m vs (f ys (with_values c us)))
      → Fine Q k m vs (taking n (with_values c (xs ++ us)) f)
  takes n c xs us f e h =
      subst (λ o. Fine Q k m vs (given o (λ p. f p.0 (with_values c p.1)))) (sym (taken_of n xs us e)) (h (put_down xs []) (put_down_long xs [] ∙ (let z = e in omega arith)))

  pub sees : (depth n : ℕ) (c : Core) (f : List ℤ → Acted) → ((ys : List ℤ) → length ys ≡ n → Fine Q k m vs (f ys)) → Fine Q k m vs (seeing depth n c f)
  sees depth n c f h = there_as (taken n (drop depth c.values) []) (λ p. f p.0) (λ p e. h p.0 (taken_many n (drop depth c.values) [] p e ∙ omega arith))

  -- ---- few numbers
  pub of_none : (c : Core) (f : Core → Acted) (xs us : List ℤ) → length xs ≡ 0 → Fine Q k m vs (f (with_values c us)) → Fine Q k m vs (f (with_values c (xs ++ us)))
  of_none c f [] us e h = h
  of_none c f (x ∷ xs) us e h = absurd (let z : suc (length xs) ≡ 0 = e in omega arith)

  pub of_one : (c : Core) (f : Core → Acted) (xs us : List ℤ) → length xs ≡ 1 → ((v : ℤ) → Fine Q k m vs (f (with_values c (v ∷ us)))) → Fine Q k m vs (f (with_values c (xs ++ us)))
  of_one c f [] us e h = absurd (let z : 0 ≡ 1 = e in omega arith)
  of_one c f (x ∷ []) us e h = h x
  of_one c f (x ∷ y ∷ xs) us e h = absurd (let z : suc (suc (length xs)) ≡ 1 = e in omega arith)

  pub of_two : (c : Core) (f : Core → Acted) (xs us : List ℤ) → length xs ≡ 2 → ((w v : ℤ) → Fine Q k m vs (f (with_values c (w ∷ v ∷ us)))) → Fine Q k m vs (f (with_values c (xs ++ us)))
  of_two c f [] us e h = absurd (let z : 0 ≡ 2 = e in omega arith)
  of_two c f (x ∷ []) us e h = absurd (let z : 1 ≡ 2 = e in omega arith)
  of_two c f (x ∷ y ∷ []) us e h = h x y
  of_two c f (x ∷ y ∷ z ∷ xs) us e h = absurd (let q : suc (suc (suc (length xs))) ≡ 2 = e in omega arith)

-- a frame in the place of another one
abbrev with_main : Frame → Core → List Frame → Core
with_main f c [] = record c { frame = f }
with_main f c (g ∷ gs) = record c { callers = with_last f c.callers }

main_kept : (f : Frame) (c : Core) (gs : List Frame) → kept_of (with_main f c gs) ≡ kept_of c
main_kept f c [] = refl
main_kept f c (g ∷ gs) = refl

main_values : (f : Frame) (c : Core) (gs : List Frame) → (with_main f c gs).values ≡ c.values
main_values f c [] = refl
main_values f c (g ∷ gs) = refl

pub framed : (s : a.Scope) (f : Frame) (c : Core) → kept_of (with_frame s f c) ≡ kept_of c
framed a.here f c = refl
framed a.host f c = main_kept f c c.callers

pub same_values : (s : a.Scope) (f : Frame) (c : Core) → (with_frame s f c).values ≡ c.values
same_values a.here f c = refl
same_values a.host f c = main_values f c c.callers

pub ruleset fine = (goes, framed, same_values, fault, no_operand, there, find, so, either_way, top_array, seen_array, room_for, allocates, owns, teams)
