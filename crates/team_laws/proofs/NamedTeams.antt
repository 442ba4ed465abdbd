-- A departure names the teams that its round made, each as it is at the board.
use Rattle.std.proofs.Common.{◌≡◌, ℕ, suc, ◌+◌, true, false, ◌&&◌, cond, List, [], ◌∷◌, ◌++◌, refl, ap, arith}
use Rattle.std.specs.Prelude.{nat_eq, map, Some, slice_get}
use Rattle.trace_theory.specs.Entries.{Each}
use Rattle.object_rules.specs.Happenings.{numbers_of}
use Rattle.object_rules.specs.BoardTeams.{Team, told_team, made_teams}
use Rattle.team_laws.specs.Named.{IsNamed}

-- the numbers of images that a reply names
pub numbers_back : (ms : List ℕ) → numbers_of (map (λ i. record { 0 = i }) ms) ≡ ms
numbers_back [] = refl
numbers_back (m ∷ ms) = ap (λ z. m ∷ z) (numbers_back ms)

-- those of a list that stands in the whole one from some place on, where t is the number of its first
made_named : (ts : List Team) (team round t : ℕ) (xs : List Team) → ((k : ℕ) (x : Team) → slice_get xs k ≡ Some x → (j : ℕ) × (t + k ≡ suc j) × (slice_get ts j ≡ Some x)) → Each (IsNamed ts) (made_teams team round t xs)
made_named ts team round t [] at = tt
made_named ts team round t (x ∷ xs) at =
    let rest = made_named ts team round (suc t) xs (λ k y h. (let r = at (suc k) y h in let e = r.1 in (r.0, omega arith, r.2))) in
    let here = at 0 x refl in
    let e = here.1 in
    let first : IsNamed ts (told_team t x) = record { place = here.0; own_number = omega arith; team = x; there = here.2; team_number = refl; members = numbers_back x.members } in
    elim (nat_eq x.parent team && nat_eq x.round round) as (λ b. Each (IsNamed ts) (cond b (told_team t x ∷ []) [] ++ made_teams team round (suc t) xs)) [ true ↦ (first, rest) | false ↦ rest ]

pub all_named : (ts : List Team) (team round : ℕ) → Each (IsNamed ts) (made_teams team round 1 ts)
all_named ts team round = made_named ts team round 1 ts (λ k x h. (k, omega arith, h))
