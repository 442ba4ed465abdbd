-- What tables that are fit have.
use Rattle.std.proofs.Common.{◌≡◌, ◌∙◌, ℕ, ◌+◌, ◌≤◌, ℤ, pos, ◌+ℤ◌, ◌-ℤ◌, ◌≤ℤ◌, Bool, true, false, ◌&&◌, ◌||◌, List, [], ◌∷◌, map, length, refl, sym, arith}
use Rattle.std.specs.Prelude.{FitsSigned, int_le, nat_le, sum_by}
use Rattle.std.specs.Int.{w32}
use Rattle.std.proofs.lemmas.Bool.Decides.{nat_tests}
use Rattle.std.proofs.lemmas.Int.{ints}
use Rattle.std.proofs.lemmas.List.Sums.{sum_by-cons}
use Rattle.caf_base.specs.declared.value.Kind.TheVariants as kinds
use Rattle.caf_base.specs.Arithmetic.{fits_kind}
use Rattle.coarray_types.specs.Coplaces.{HasCobounds}
use Rattle.image_acts.specs.Statuses.{most_cells}
use Rattle.image_acts.specs.Teams.{has_none}
use Rattle.image_code.specs.declared.tables.Coarray.{Coarray}
use Rattle.coarray_tables.specs.Start.{AreFew, IsFew, first_own, own_size}
use Rattle.coarray_tables.specs.Fits.{are_first_cobounds, are_fit, is_fit}

both : (a b : Bool) → (a && b) ≡ true → (a ≡ true) × (b ≡ true)
both true b h = (refl, h)
both false b h = absurd (cc)

none : (ls : List ℤ) → has_none ls ≡ true → ls ≡ []
none [] h = refl
none (l ∷ ls) h = absurd (cc)

at_least : (e : ℤ) → int_le (pos 1) e ≡ true → pos 1 ≤ℤ e
at_least e h = grind (arith, ints)

of_32 : (v : ℤ) → fits_kind kinds.I4 v ≡ true → FitsSigned w32 v
of_32 v h = grind (arith, ints)

pub cobounds_of : (ls es : List ℤ) → are_first_cobounds ls es ≡ true → HasCobounds ls es
cobounds_of [] es h = absurd (cc)
cobounds_of (l ∷ ls) [] h = let b = both (fits_kind kinds.I4 l) (has_none ls) h in (of_32 l b.0, none ls b.1)
cobounds_of (l ∷ ls) (e ∷ es) h =
    let b = both (fits_kind kinds.I4 l) (int_le (pos 1) e && (fits_kind kinds.I4 ((l +ℤ e) -ℤ pos 1) && are_first_cobounds ls es)) h in
    let d = both (int_le (pos 1) e) (fits_kind kinds.I4 ((l +ℤ e) -ℤ pos 1) && are_first_cobounds ls es) b.1 in
    let f = both (fits_kind kinds.I4 ((l +ℤ e) -ℤ pos 1)) (are_first_cobounds ls es) d.1 in
    (of_32 l b.0, at_least e d.0, of_32 ((l +ℤ e) -ℤ pos 1) f.0, cobounds_of ls es f.1)

few_by : (x : Bool) (c : Coarray) → c.is_allocatable ≡ x → (x || (nat_le (length c.bounds) 3 && (nat_le (length c.lower_cobounds) 3 && are_first_cobounds c.lower_cobounds c.coextents))) ≡ true → IsFew c
few_by true c a h = λ f. absurd (cc)
few_by false c a h = λ f.
    let b = both (nat_le (length c.bounds) 3) (nat_le (length c.lower_cobounds) 3 && are_first_cobounds c.lower_cobounds c.coextents) h in
    let d = both (nat_le (length c.lower_cobounds) 3) (are_first_cobounds c.lower_cobounds c.coextents) b.1 in
    let m = b.0 in
    let n = d.0 in
    record { rank = grind (arith, nat_tests); corank = grind (arith, nat_tests); cobounds = cobounds_of c.lower_cobounds c.coextents d.1 }

pub few_of : (c : Coarray) → is_fit c ≡ true → IsFew c
few_of c h = few_by c.is_allocatable c refl h

pub are_few : (n : ℕ) (cs : List Coarray) → are_fit n cs ≡ true → AreFew cs
are_few n [] h = tt
are_few n (c ∷ cs) h =
    let b = both (is_fit c) (nat_le (n + own_size (first_own c)) most_cells && are_fit (n + own_size (first_own c)) cs) h in
    let d = both (nat_le (n + own_size (first_own c)) most_cells) (are_fit (n + own_size (first_own c)) cs) b.1 in
    (few_of c b.0, are_few (n + own_size (first_own c)) cs d.1)

pub few_cells : (n : ℕ) (cs : List Coarray) → n ≤ most_cells → are_fit n cs ≡ true → n + sum_by own_size (map first_own cs) ≤ most_cells
few_cells n [] g h = omega arith
few_cells n (c ∷ cs) g h =
    let b = both (is_fit c) (nat_le (n + own_size (first_own c)) most_cells && are_fit (n + own_size (first_own c)) cs) h in
    let d = both (nat_le (n + own_size (first_own c)) most_cells) (are_fit (n + own_size (first_own c)) cs) b.1 in
    let m = d.0 in
    let l : n + own_size (first_own c) ≤ most_cells = grind (arith, nat_tests) in
    let r = few_cells (n + own_size (first_own c)) cs l d.1 in
    let e : sum_by own_size (map first_own (c ∷ cs)) ≡ own_size (first_own c) + sum_by own_size (map first_own cs) = sum_by-cons own_size (first_own c) (map first_own cs) in
    omega arith

pub few_where_fit : (cs : List Coarray) (b : Bool) → b ≡ are_fit 0 cs → b ≡ true → AreFew cs
few_where_fit cs b e h = are_few 0 cs (sym e ∙ h)

pub cells_where_fit : (cs : List Coarray) (b : Bool) → b ≡ are_fit 0 cs → b ≡ true → sum_by own_size (map first_own cs) ≤ 65536
cells_where_fit cs b e h =
    let g : 0 ≤ most_cells = omega arith in
    let n : 0 + sum_by own_size (map first_own cs) ≤ most_cells = few_cells 0 cs g (sym e ∙ h) in
    omega arith
