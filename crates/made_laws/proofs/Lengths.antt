-- How long texts of lines are, and those of a made source.
use Rattle.std.proofs.Common.{ℕ, zero, suc, ◌+◌, ◌*◌, ◌%◌, ◌≡◌, ◌<◌, ◌≤◌, refl, List, [], ◌∷◌, ◌++◌, codes, length, map, length-append, arith}
use Rattle.std.proofs.lemmas.Fmt.{length-decimal-le}
use Rattle.std.specs.List.{range_with_len}
use Rattle.work_maker.specs.MadeSource.{line, lines_text, opening, setting, settings, turns, closing, made_source, number_text, number_of}

-- the bytes of some lines with their ends
abbrev lines_size : List (List ℕ) → ℕ
lines_size [] = 0
lines_size (x ∷ xs) = (length x + 1) + lines_size xs

length-lines : (xs : List (List ℕ)) → length (lines_text xs) ≡ lines_size xs
unfolding lines_text
length-lines [] = refl
length-lines (x ∷ xs) = omega (arith, length-append (line x) (lines_text xs), length-append x (codes "\n"), length-lines xs)

lines_size-append : (xs ys : List (List ℕ)) → lines_size (xs ++ ys) ≡ lines_size xs + lines_size ys
lines_size-append [] ys = omega arith
lines_size-append (x ∷ xs) ys = omega (arith, lines_size-append xs ys)

-- a size has four digits at most, a value three
length-number : (n : ℕ) → n ≤ 4096 → length (number_text n) ≤ 4
length-number n h = length-decimal-le 4 n (omega arith) (omega arith) (omega arith)

length-value : (n : ℕ) → n < 1000 → length (number_text n) ≤ 3
length-value n h = length-decimal-le 3 n (omega arith) (omega arith) (omega arith)

length-setting : (seed j : ℕ) → j ≤ 4096 → length (setting seed j) ≤ 13
length-setting seed j h =
    let v = number_of seed j % 1000 in
    omega (
      arith,
      length-append (codes "u(" ++ number_text j ++ codes ") = ") (number_text v),
      length-append (codes "u(" ++ number_text j) (codes ") = "),
      length-append (codes "u(") (number_text j),
      length-number j h,
      length-value v (omega arith),
    )

settings_size : (seed a n : ℕ) → a + n ≤ 4097 → lines_size (map (setting seed) (range_with_len a n)) ≤ 14 * n
settings_size seed a zero h = omega arith
settings_size seed a (suc n) h = omega (arith, length-setting seed a (omega arith), settings_size seed (a + 1) n (omega arith))

opening_size : (size : ℕ) → size ≤ 4096 → lines_size (opening size) ≤ 200
opening_size size h =
    omega (arith, length-append (codes "integer :: u(" ++ number_text size) (codes "), edge[*], me, left, k, i, s, t"), length-append (codes "integer :: u(") (number_text size), length-number size h)

turns_size : (size : ℕ) → size ≤ 4096 → lines_size (turns size) ≤ 200
turns_size size h =
    omega (
      arith,
      length-append (codes "edge = u(" ++ number_text size) (codes ")"),
      length-append (codes "edge = u(") (number_text size),
      length-append (codes "do i = " ++ number_text size) (codes ", 2, -1"),
      length-append (codes "do i = ") (number_text size),
      length-number size h,
    )

closing_size : (size : ℕ) → size ≤ 4096 → lines_size (closing size) ≤ 200
closing_size size h = omega (arith, length-append (codes "do i = 1, ") (number_text size), length-number size h)

-- the whole source
pub made_is_short : (seed size : ℕ) → size ≤ 4096 → length (made_source seed size) ≤ 1048576
made_is_short seed size h =
    let x = opening size in
    let y = settings seed size in
    let z = turns size in
    let w = closing size in
    omega (
      arith,
      length-lines (x ++ y ++ z ++ w),
      lines_size-append (x ++ y ++ z) w,
      lines_size-append (x ++ y) z,
      lines_size-append x y,
      opening_size size h,
      settings_size seed 1 size (omega arith),
      turns_size size h,
      closing_size size h,
    )
