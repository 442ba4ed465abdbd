-- Offsets of cells.
use Rattle.std.specs.Prelude.{ℤ, pos, ◌≤ℤ◌, ◌<ℤ◌, List, All}

-- an offset is within a coarray's greatest size
abbrev pub IsCell : ℤ → Type 0
IsCell o = (pos 0 ≤ℤ o) × (o <ℤ pos 65536)

-- each of them is
abbrev pub AreCells : List ℤ → Type 0
AreCells offsets = All IsCell offsets
