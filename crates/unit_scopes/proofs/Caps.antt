-- Numbers that are counted no further than a limit.
use Rattle.std.proofs.Common.{◌≡◌, ◌∙◌, ℕ, zero, suc, ◌+◌, ◌*◌, ◌<◌, ◌≤◌, Bool, true, false, not, ◌&&◌, List, [], ◌∷◌, ◌++◌, drop, map, refl, sym, ap, arith, ℤ}
use Rattle.std.specs.Prelude.{cond, nat_eq, nat_le, nat_lt, Option, Some, None}
use Rattle.std.proofs.lemmas.Bool.{le-leb, lt-leb, leb-true, leb-false, lt-ltb}
use Rattle.std.proofs.Math.Nat.{add_comm, mul-suc, mul-zero, mul_comm, mul_assoc, zero-mul}
use Rattle.caf_base.specs.declared.place.Pos.{Pos}
use Rattle.coarray_types.specs.Places.{extent_of, size_of}
use Rattle.rule_definitions.specs.declared.broken.Broken.{Broken}
use Rattle.rule_definitions.specs.Judgements.{first_of, unless}
use Rattle.rule_definitions.specs.Names.{KnownBounds, Named, Symbol, variables_of}
use Rattle.rule_definitions.specs.Constants.{all_bounds, with_first}
use Rattle.rule_definitions.specs.Declarations.{cells_breaks, cells_of, coarrays_among, limit_breaks, locals_among, passing_breaks}
use Rattle.scope_table.proofs.First.{first_of_both}
use Rattle.scope_table.specs.Symbols.{entry, symbol}
use Rattle.scope_table.specs.declared.symbol.Entry.{Entry}
use Rattle.scope_table.specs.declared.symbol.Entry.TheVariants as entries
use Rattle.unit_scopes.specs.Limits.{capped, cells_from, chosen, is_chosen, next_breaks, next_sum, with_extent}

small : (n : ℕ) → n ≤ 65536 → capped n ≡ n
small n h = ap (λ b. cond b n 65537) (le-leb n 65536 h)

large : (n : ℕ) → 65536 < n → capped n ≡ 65537
large n h = ap (λ b. cond b n 65537) (lt-leb n 65536 h)

large_times : (n k : ℕ) → 65536 < n → 65536 < n * suc k
large_times n k h = let e : n * suc k ≡ n * k + n = mul-suc n k in omega (arith, e, h)

large_both : (n k : ℕ) → 65536 < n → capped (65537 * k) ≡ capped (n * k)
large_both n zero h = ap capped (mul-zero 65537 ∙ sym (mul-zero n))
large_both n (suc k) h = let l : 65536 < 65537 = omega arith in large (65537 * suc k) (large_times 65537 k l) ∙ sym (large (n * suc k) (large_times n k h))

times_cases : (n k : ℕ) (b : Bool) → nat_le n 65536 ≡ b → capped (capped n * k) ≡ capped (n * k)
times_cases n k true e = ap (λ z. capped (z * k)) (small n (leb-true n 65536 e))
times_cases n k false e = ap (λ z. capped (z * k)) (large n (leb-false n 65536 e)) ∙ large_both n k (leb-false n 65536 e)

pub capped_times : (n k : ℕ) → capped (capped n * k) ≡ capped (n * k)
capped_times n k = times_cases n k (nat_le n 65536) refl

-- one dimension more
pub cells_more : (k m : ℕ) (d : ℤ × ℤ) (o : Option (List (ℤ × ℤ))) → m ≡ capped (k * capped (extent_of d)) → cells_from m o ≡ cells_from k (with_first d o)
cells_more k m d None h = refl
cells_more k m d (Some ds) h =
    ap (λ z. capped (z * size_of ds)) h ∙ capped_times (k * capped (extent_of d)) (size_of ds)
    ∙ ap capped (ap (λ z. z * size_of ds) (mul_comm k (capped (extent_of d))) ∙ mul_assoc (capped (extent_of d)) k (size_of ds))
    ∙ capped_times (extent_of d) (k * size_of ds)
    ∙ ap capped (sym (mul_assoc (extent_of d) k (size_of ds)) ∙ ap (λ z. z * size_of ds) (mul_comm (extent_of d) k) ∙ mul_assoc k (extent_of d) (size_of ds))

no_cells : (o : Option (List (ℤ × ℤ))) → cells_from 0 o ≡ 0
no_cells None = refl
no_cells (Some ds) = ap capped (zero-mul (size_of ds))

between_more : (k : ℕ) (x : KnownBounds) (ds : List KnownBounds) → cells_from (with_extent k x) (all_bounds ds) ≡ cells_from k (all_bounds (x ∷ ds))
between_more k None ds = no_cells (all_bounds ds)
between_more k (Some b) ds = cells_more k (capped (k * capped (extent_of b))) b (all_bounds ds) refl

pub turn_between : (ds : List KnownBounds) (i : ℕ) (x : KnownBounds) (k m end : ℕ) → drop i ds ≡ x ∷ drop (i + 1) ds → m ≡ with_extent k x
    → cells_from k (all_bounds (drop i ds)) ≡ end → cells_from m (all_bounds (drop (i + 1) ds)) ≡ end
turn_between ds i x k m end d e h =
    ap (λ z. cells_from z (all_bounds (drop (i + 1) ds))) e ∙ between_more k x (drop (i + 1) ds) ∙ ap (λ z. cells_from k (all_bounds z)) (sym d) ∙ h

sum_cases : (n k : ℕ) (b : Bool) → nat_le n 65536 ≡ b → capped (capped n + k) ≡ capped (n + k)
sum_cases n k true e = ap (λ z. capped (z + k)) (small n (leb-true n 65536 e))
sum_cases n k false e =
    let h : 65536 < n = leb-false n 65536 e in
    ap (λ z. capped (z + k)) (large n h) ∙ large (65537 + k) (omega arith) ∙ sym (large (n + k) (omega (arith, h)))

capped_plus : (n k : ℕ) → capped (capped n + k) ≡ capped (n + k)
capped_plus n k = sum_cases n k (nat_le n 65536) refl

-- a sum behind a number of cells that is counted no further than the limit
pub sum_capped : (s m r : ℕ) (k : ℕ) → m ≡ capped k → r ≡ capped (s + m) → r ≡ capped (s + k)
sum_capped s m r k e h =
    h ∙ ap (λ z. capped (s + z)) e ∙ ap capped (add_comm s (capped k)) ∙ capped_plus k s ∙ ap capped (add_comm k s)

passes : ℕ → ℕ → Bool
passes s m = nat_le s 65536 && nat_lt 65536 (s + m)

more_cases : (s k : ℕ) (b : Bool) → nat_le k 65536 ≡ b → nat_lt 65536 (s + capped k) ≡ nat_lt 65536 (s + k)
more_cases s k true e = ap (λ z. nat_lt 65536 (s + z)) (small k (leb-true k 65536 e))
more_cases s k false e =
    let h : 65536 < k = leb-false k 65536 e in
    ap (λ z. nat_lt 65536 (s + z)) (large k h) ∙ lt-ltb 65536 (s + 65537) (omega arith) ∙ sym (lt-ltb 65536 (s + k) (omega (arith, h)))

pub passing_capped : (s m k : ℕ) (p : Pos) (o o' : Option Broken) → m ≡ capped k → o' ≡ first_of o (passing_breaks s m p) → o' ≡ first_of o (passing_breaks s k p)
passing_capped s m k p o o' e h =
    h ∙ ap (λ z. first_of o (passing_breaks s z p)) e ∙ ap (λ z. first_of o (unless (not (nat_le s 65536 && z)) 30 p)) (more_cases s k (nat_le k 65536) refl)

passed_cases : (n m : ℕ) (p : Pos) (b : Bool) → nat_le n 65536 ≡ b → passing_breaks (capped n) m p ≡ passing_breaks n m p
passed_cases n m p true e = ap (λ z. passing_breaks z m p) (small n (leb-true n 65536 e))
passed_cases n m p false e = ap (λ z. passing_breaks z m p) (large n (leb-false n 65536 e)) ∙ sym (ap (λ z. unless (not (z && nat_lt 65536 (n + m))) 30 p) e)

cells_capped : (n : ℕ) (xs : List Symbol) → cells_breaks (capped n) xs ≡ cells_breaks n xs
cells_capped n [] = refl
cells_capped n (x ∷ xs) =
    ap (λ z. z ++ cells_breaks (capped n + cells_of x) xs) (passed_cases n (cells_of x) x.at (nat_le n 65536) refl)
    ∙ ap (λ z. passing_breaks n (cells_of x) x.at ++ z)
    (sym (cells_capped (capped n + cells_of x) xs) ∙ ap (λ z. cells_breaks z xs) (capped_plus n (cells_of x)) ∙ cells_capped (n + cells_of x) xs)

-- one entry and the others
entry_cases : (b z : Bool) (s : ℕ) (x : Symbol) (xs : List Symbol) → nat_eq x.corank 0 ≡ z
    → cells_breaks s (chosen b (x ∷ xs)) ≡ cond (is_chosen b x) (passing_breaks s (cells_of x) x.at) [] ++ cells_breaks (cond (is_chosen b x) (capped (s + cells_of x)) s) (chosen b xs)
entry_cases true true s x xs e = rw e refl
entry_cases true false s x xs e = rw e (ap (λ k. passing_breaks s (cells_of x) x.at ++ k) (sym (cells_capped (s + cells_of x) (coarrays_among xs))))
entry_cases false true s x xs e = rw e (ap (λ k. passing_breaks s (cells_of x) x.at ++ k) (sym (cells_capped (s + cells_of x) (locals_among xs))))
entry_cases false false s x xs e = rw e refl

pub entry_more : (b : Bool) (s : ℕ) (e : Entry) (es : List Entry)
    → cells_breaks s (chosen b (variables_of (map entry (e ∷ es)))) ≡ next_breaks b s e ++ cells_breaks (next_sum b s e) (chosen b (variables_of (map entry es)))
entry_more b s (entries.Variable x) es = entry_cases b (nat_eq x.corank 0) s (symbol x) (variables_of (map entry es)) refl
entry_more b s (entries.Constant x) es = refl

-- a turn of the loop over entries
pub turn_cells : (b : Bool) (s s' : ℕ) (x : Entry) (es all : List Entry) (f g end : Option Broken) → all ≡ x ∷ es → s' ≡ next_sum b s x → g ≡ first_of f (next_breaks b s x)
    → first_of f (cells_breaks s (chosen b (variables_of (map entry all)))) ≡ end → first_of g (cells_breaks s' (chosen b (variables_of (map entry es)))) ≡ end
turn_cells b s s' x es all f g end d e h i =
    let rest : ℕ → List Broken = λ z. cells_breaks z (chosen b (variables_of (map entry es))) in
    ap (λ z. first_of g (rest z)) e ∙ ap (λ z. first_of z (rest (next_sum b s x))) h ∙ sym (first_of_both f (next_breaks b s x) (rest (next_sum b s x)))
    ∙ ap (first_of f) (sym (entry_more b s x es)) ∙ ap (λ z. first_of f (cells_breaks s (chosen b (variables_of (map entry z))))) (sym d) ∙ i

pub limits_noted : (es : List Entry) (own : List Named) (o o' o'' : Option Broken) → map entry es ≡ own → o' ≡ first_of o (cells_breaks 0 (chosen true (variables_of (map entry es))))
    → o'' ≡ first_of o' (cells_breaks 0 (chosen false (variables_of (map entry es)))) → o'' ≡ first_of o (limit_breaks (variables_of own))
limits_noted es own o o' o'' e f g =
    let vs = variables_of (map entry es) in
    g ∙ ap (λ z. first_of z (cells_breaks 0 (locals_among vs))) f ∙ sym (first_of_both o (cells_breaks 0 (coarrays_among vs)) (cells_breaks 0 (locals_among vs)))
    ∙ ap (λ z. first_of o (limit_breaks (variables_of z))) e
