-- The places of the bytes of a line.
use Rattle.std.proofs.Common.{◌≡◌, ℕ, zero, suc, ◌+◌, ◌<◌, List, [], ◌∷◌, length, Some, refl, ap, ◌∙◌, arith}
use Rattle.std.specs.Prelude.{slice_get}
use Rattle.caf_base.specs.declared.place.Pos.{Pos}
use Rattle.fortran_lines.specs.declared.stmt.Stmt.{Stmt}
use Rattle.fortran_lines.specs.PlacedBytes.{placed_from}
use Rattle.fortran_lines.specs.Statements.{with_places, placed_bytes}

abbrev pub here : ℕ → ℕ → Pos
here l c = record { line = l; col = c }

-- one for each byte
abbrev pub places : ℕ → ℕ → List ℕ → List Pos
places l c [] = []
places l c (b ∷ t) = here l c ∷ places l (c + 1) t

pub length-places : (l c : ℕ) (t : List ℕ) → length t ≡ length (places l c t)
length-places l c [] = refl
length-places l c (b ∷ t) = omega (arith, length-places l (c + 1) t)

-- a line as a statement
abbrev pub stmt_of : ℕ → List ℕ → Stmt
stmt_of l t = record { text = t; at = places l 1 t; placed = length-places l 1 t }

with_places-places : (l c : ℕ) (t : List ℕ) → with_places t (places l c t) ≡ placed_from l c t
with_places-places l c [] = refl
with_places-places l c (b ∷ t) = ap (λ r. record { code = b; at = here l c } ∷ r) (with_places-places l (c + 1) t)

pub bytes-stmt : (l : ℕ) (t : List ℕ) → placed_bytes (stmt_of l t) ≡ placed_from l 1 t
bytes-stmt l t = with_places-places l 1 t

-- the place of a byte
pub place_at : (l c : ℕ) (t : List ℕ) (i : ℕ) → i < length t → slice_get (places l c t) i ≡ Some (here l (c + i))
place_at l c [] i h = absurd (omega arith)
place_at l c (b ∷ t) zero h = let e : c ≡ c + 0 = omega arith in ap (λ k. Some (here l k)) e
place_at l c (b ∷ t) (suc i) h = let e : (c + 1) + i ≡ c + suc i = omega arith in place_at l (c + 1) t i (omega arith) ∙ ap (λ k. Some (here l k)) e
