-- The variables of a made program are few enough.
use Rattle.std.proofs.Common.{◌≡◌, ℕ, zero, suc, ◌+◌, ◌*◌, ◌≤◌, false, not, ◌&&◌, nat_lt, pos, List, [], ◌∷◌, ◌++◌, refl, ap, ◌∙◌, arith}
use Rattle.std.proofs.lemmas.Bool.{le-leb}
use Rattle.std.proofs.lemmas.Bool.Decides.{nat_tests}
use Rattle.std.proofs.lemmas.Int.{ints}
use Rattle.coarray_types.specs.Places.{extent_of}
use Rattle.rule_definitions.specs.Judgements.{unless}
use Rattle.rule_definitions.specs.Names.{Symbol, variables_of}
use Rattle.rule_definitions.specs.Declarations.{cells_of, passing_breaks, cells_breaks, locals_among, limit_breaks}
use Rattle.made_tree.proofs.Scopes.{own_names}

-- the cells of some variables
abbrev cells : List Symbol → ℕ
cells [] = 0
cells (x ∷ xs) = cells_of x + cells xs

not_above : (n : ℕ) → n ≤ 65536 → nat_lt 65536 n ≡ false
not_above n h = grind (arith, nat_tests)

passing : (sum : ℕ) (x : Symbol) → sum + cells_of x ≤ 65536 → passing_breaks sum (cells_of x) x.at ≡ []
passing sum x h =
    ap (λ a. unless (not (a && nat_lt 65536 (sum + cells_of x))) 30 x.at) (le-leb sum 65536 (omega arith)) ∙ ap (λ b. unless (not b) 30 x.at) (not_above (sum + cells_of x) h)

few : (sum : ℕ) (xs : List Symbol) → sum + cells xs ≤ 65536 → cells_breaks sum xs ≡ []
few sum [] h = refl
few sum (x ∷ xs) h = ap (λ b. b ++ cells_breaks (sum + cells_of x) xs) (passing sum x (omega arith)) ∙ few (sum + cells_of x) xs (omega arith)

-- the array has as many elements as the size says
extent_is : (size : ℕ) → 1 ≤ size → extent_of (pos 1, pos size) ≡ size
extent_is zero h = absurd (omega arith)
extent_is (suc n) h = grind (arith, nat_tests, ints)

-- with the six scalars
within : (c e size : ℕ) → c ≡ e * 1 + 6 → e ≡ size → size ≤ 4096 → 0 + c ≤ 65536
within c e size a b h = omega arith

pub limits_kept : (size : ℕ) → 1 ≤ size → size ≤ 4096 → limit_breaks (variables_of (own_names size)) ≡ []
limits_kept size h k =
    let xs = locals_among (variables_of (own_names size)) in
    few 0 xs (within (cells xs) (extent_of (pos 1, pos size)) size refl (extent_is size h) k)
