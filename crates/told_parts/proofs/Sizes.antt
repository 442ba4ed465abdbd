-- The sizes of an image's own coarrays, as it was told, and numbers that stand beneath others.
use Rattle.std.proofs.Common.{◌≡◌, ℕ, zero, suc, ◌+◌, ◌≤◌, true, List, [], ◌∷◌, ◌++◌, map, take, drop, length, slice_get, slice_set, refl, sym, subst, ap, ◌∙◌, min, arith}
use Rattle.std.specs.Prelude.{ℤ, pos, negsuc, int_le, Option, None, Some}
use Rattle.std.proofs.lemmas.List.{map-set}
use Rattle.std.proofs.lemmas.Bool.{leb-true}
use Rattle.caf_events.specs.declared.reply.Reply.{Reply}
use Rattle.caf_base.specs.Arithmetic.{natural}
use Rattle.coarray_types.specs.Places.{size_of}
use Rattle.image_acts.specs.Core.{Core, Own}
use Rattle.image_acts.specs.Frames.{joined}
use Rattle.image_acts.specs.Taking.{taken}
use Rattle.told_walks.specs.Asked.{Told, IsShort, Knows, IsKnown, and_by, own_cells, cells_in}
use Rattle.told_walks.proofs.Acts.{goes_known}

-- ---- one coarray among all
pub cells_more : (ss : List (Option ℕ)) (k n : ℕ) → joined (slice_get ss k) ≡ None → cells_in (slice_set ss k (Some n)) ≤ cells_in ss + n
cells_more [] k n e = omega arith
cells_more (None ∷ ss) zero n e = omega arith
cells_more (Some m ∷ ss) zero n e = absurd (cc)
cells_more (x ∷ ss) (suc k) n e = let r = cells_more ss k n e in omega arith

pub cells_less : (ss : List (Option ℕ)) (k n : ℕ) → joined (slice_get ss k) ≡ Some n → cells_in (slice_set ss k None) + n ≡ cells_in ss
cells_less [] k n e = absurd (cc)
cells_less (None ∷ ss) zero n e = absurd (cc)
cells_less (Some m ∷ ss) zero n e = let q : m ≡ n = cc in omega arith
cells_less (x ∷ ss) (suc k) n e = let r = cells_less ss k n e in omega arith

own_sizes_at : (os : List (Option Own)) (k : ℕ) → joined (slice_get (map own_cells os) k) ≡ own_cells (joined (slice_get os k))
own_sizes_at [] k = refl
own_sizes_at (None ∷ os) zero = refl
own_sizes_at (Some o ∷ os) zero = refl
own_sizes_at (o ∷ os) (suc k) = own_sizes_at os k

-- what the image knows of a coarray's size is what it has
pub size_told : (k : Told) (c : Core) (n : ℕ) (o : Option Own) → IsKnown k c → joined (slice_get c.coarrays n) ≡ o → joined (slice_get k.sizes n) ≡ own_cells o
size_told k c n o i e = ap (λ ss. joined (slice_get ss n)) (sym i.sizes) ∙ own_sizes_at c.coarrays n ∙ ap own_cells e

-- the invariant with other coarrays
with_sizes : (k : Told) (r : Reply) (c : Core) (ss : List (Option ℕ)) (os : List (Option Own)) (cells : ℕ) → IsShort r → IsKnown k c → map own_cells os ≡ ss → cells_in ss ≤ cells
    → Knows (and_by (record k { sizes = ss }) r) c.me c.teams c.known c.formed os cells
with_sizes k r c ss os cells s i e u =
    let g = goes_known k r c s i in
    record {
      me = g.me;
      first = g.first;
      short = g.short;
      teams = g.teams;
      known = g.known;
      formed = g.formed;
      listed = g.listed;
      listed_formed = g.listed_formed;
      sizes = e;
      in_use = u;
    }

-- a coarray more, which wasn't there, and one less, which was
pub made_known : (k : Told) (r : Reply) (c : Core) (n cells : ℕ) (o : Own) → IsShort r → IsKnown k c → joined (slice_get c.coarrays n) ≡ None → cells ≡ size_of o.bounds
    → Knows (and_by (record k { sizes = slice_set k.sizes n (Some cells) }) r) c.me c.teams c.known c.formed (slice_set c.coarrays n (Some o)) (c.coarray_cells + size_of o.bounds)
made_known k r c n cells o s i none e =
    let more = cells_more k.sizes n cells (size_told k c n None i none) in
    let u = i.in_use in
    with_sizes k r c (slice_set k.sizes n (Some cells)) (slice_set c.coarrays n (Some o)) (c.coarray_cells + size_of o.bounds) s i
    (map-set own_cells c.coarrays n (Some o) ∙ ap (λ ss. slice_set ss n (Some (size_of o.bounds))) i.sizes ∙ ap (λ m. slice_set k.sizes n (Some m)) (sym e)) (omega arith)

pub freed_known : (k : Told) (r : Reply) (c : Core) (n cells : ℕ) (o : Own) → IsShort r → IsKnown k c → joined (slice_get c.coarrays n) ≡ Some o → cells + size_of o.bounds ≡ c.coarray_cells
    → Knows (and_by (record k { sizes = slice_set k.sizes n None }) r) c.me c.teams c.known c.formed (slice_set c.coarrays n None) cells
freed_known k r c n cells o s i there e =
    let less = cells_less k.sizes n (size_of o.bounds) (size_told k c n (Some o) i there) in
    let u = i.in_use in
    with_sizes k r c (slice_set k.sizes n None) (slice_set c.coarrays n None) cells s i (map-set own_cells c.coarrays n None ∙ ap (λ ss. slice_set ss n None) i.sizes) (omega arith)

-- another coarray is as before
pub set_other : {X : Type 0} (xs : List X) (i j : ℕ) (w : X) → (i ≡ j → ⊥) → slice_get (slice_set xs i w) j ≡ slice_get xs j
set_other [] i j w h = refl
set_other (x ∷ xs) zero zero w h = absurd (h refl)
set_other (x ∷ xs) zero (suc j) w h = refl
set_other (x ∷ xs) (suc i) zero w h = refl
set_other (x ∷ xs) (suc i) (suc j) w h = set_other xs i j w (λ e. h (ap suc e))

-- ---- numbers that stand beneath others
take_front : (zs xs : List ℤ) → take (length zs) (zs ++ xs) ≡ zs
take_front [] xs = refl
take_front (z ∷ zs) xs = ap (λ us. z ∷ us) (take_front zs xs)

pair_is : (p q : List ℤ × List ℤ) → Some p ≡ Some q → (p.0 ≡ q.0) × (p.1 ≡ q.1)
pair_is p q h = let e : p ≡ q = cc in (ap (λ (z : List ℤ × List ℤ). z.0) e, ap (λ (z : List ℤ × List ℤ). z.1) e)

-- what is taken goes in front of what was there
taken_onto : (b : ℕ) (us ys xs : List ℤ) (p : List ℤ × List ℤ) → taken b us (ys ++ xs) ≡ Some p → (zs : List ℤ) × (p.0 ≡ zs ++ xs) × (taken b us ys ≡ Some (zs, p.1)) × (length zs ≡ b + length ys)
taken_onto zero us ys xs p h = let e = pair_is (ys ++ xs, us) p h in (ys, sym e.0, ap (λ (r : List ℤ). Some (ys, r)) e.1, omega arith)
taken_onto (suc b) [] ys xs p h = absurd (cc)
taken_onto (suc b) (u ∷ us) ys xs p h = let r = taken_onto b us (u ∷ ys) xs p h in (r.0, r.1, r.2, (let l = r.3 in omega arith))

taken_first : (b : ℕ) (us xs : List ℤ) (p : List ℤ × List ℤ) → taken b us xs ≡ Some p → taken b us [] ≡ Some (take b p.0, p.1)
taken_first b us xs p h =
    let r = taken_onto b us [] xs p h in
    let n : length r.0 ≡ b = (let l = r.3 in omega arith) in
    let front : take b p.0 ≡ r.0 = ap (take b) r.1 ∙ subst (λ m. take m (r.0 ++ xs) ≡ r.0) n (take_front r.0 xs) in
    r.2 ∙ ap (λ (zs : List ℤ). Some (zs, p.1)) (sym front)

taken_behind : (m b s : ℕ) (us xs : List ℤ) (p : List ℤ × List ℤ) → s ≡ m + b → taken s us xs ≡ Some p → taken b (drop m us) [] ≡ Some (take b p.0, p.1)
taken_behind zero b s us xs p e h = taken_first b us xs p (subst (λ z. taken z us xs ≡ Some p) (let w = e in omega arith) h)
taken_behind (suc m) b s [] xs p e h =
    absurd (let w : s ≡ suc (m + b) = (let v = e in omega arith) in let z : taken (suc (m + b)) [] xs ≡ Some p = subst (λ n. taken n [] xs ≡ Some p) w h in cc)
taken_behind (suc m) b s (u ∷ us) xs p e h = taken_behind m b (m + b) us (u ∷ xs) p refl (subst (λ n. taken n (u ∷ us) xs ≡ Some p) (let w : s ≡ suc (m + b) = (let v = e in omega arith) in w) h)

drop_none : (n : ℕ) → drop {A = ℤ} n [] ≡ []
drop_none zero = refl
drop_none (suc n) = refl

drop_behind : (d m s : ℕ) (us : List ℤ) → s ≡ d + m → drop s us ≡ drop m (drop d us)
drop_behind zero m s us e = ap (λ z. drop z us) (let w = e in omega arith)
drop_behind (suc d) m s [] e = drop_none s ∙ sym (drop_none m)
drop_behind (suc d) m s (u ∷ us) e = ap (λ z. drop z (u ∷ us)) (let w : s ≡ suc (d + m) = (let v = e in omega arith) in w) ∙ drop_behind d m (d + m) us refl

-- bounds stand beneath the cobounds that were put down after them
pub bounds_beneath : (depth b m : ℕ) (us : List ℤ) (p : List ℤ × List ℤ) → taken (b + m) (drop depth us) [] ≡ Some p → taken b (drop (depth + m) us) [] ≡ Some (take b p.0, p.1)
bounds_beneath depth b m us p h =
    subst (λ vs. taken b vs [] ≡ Some (take b p.0, p.1)) (sym (drop_behind depth m (depth + m) us refl)) (taken_behind m b (b + m) (drop depth us) [] p (omega arith) h)

-- ---- numbers of cells
pub small_sum : (a most : ℕ) → min a (most + 1) ≤ most → min a (most + 1) ≡ a
small_sum a most h = omega arith

pub natural_most : (m : ℤ) (n : ℕ) → int_le m (pos n) ≡ true → natural m ≤ n
natural_most (pos a) n h = leb-true a n h
natural_most (negsuc a) n h = omega arith
