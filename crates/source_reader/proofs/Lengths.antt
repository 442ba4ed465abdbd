-- The statements of a file are no longer than the file.
use Rattle.std.proofs.Common.{◌≡◌, ℕ, zero, suc, ◌+◌, ◌-◌, ◌<◌, ◌≤◌, Bool, true, false, cond, List, [], ◌∷◌, inl, inr, length, take, get_or, map, refl, ap, arith}
use Rattle.std.proofs.lemmas.List.{length-append}
use Rattle.std.specs.Prelude.{All, slice_index, ◌==◌, if◌then◌else◌}
use Rattle.std.specs.List.{slice_split, onto_first}
use Rattle.std.specs.Str.Lines.{lines, lines_of_parts, strip_carriage_return}
use Rattle.caf_base.specs.declared.place.Pos.{Pos}
use Rattle.fortran_lines.specs.declared.placed_byte.PlacedByte.{PlacedByte}
use Rattle.fortran_lines.specs.declared.stmt.Stmt.{Stmt}
use Rattle.fortran_lines.specs.PlacedBytes.{placed_from, numbered, physical_lines}
use Rattle.fortran_lines.specs.Lines.{statements_of}
use Rattle.fortran_lines.specs.Faults.{faults_of}
use Rattle.fortran_lines.specs.Statements.{with_places, placed_bytes}
use Rattle.fortran_lines.specs.Taken.{AreTaken, IsFront, AreFronts, in_a_row}
use Rattle.fortran_lines.proofs.Keeping.{all_kept}
use Rattle.fortran_lines.proofs.Feeds.{feed}

total : {A : Type 0} → List (List A) → ℕ
total [] = 0
total (l ∷ ls) = length l + total ls

total_first : (x : ℕ) (ps : List (List ℕ)) → total (onto_first x ps) ≡ suc (total ps)
unfolding total
total_first x [] = refl
total_first x (p ∷ ps) = omega arith

total_split : (bytes : List ℕ) → total (slice_split feed bytes) ≤ length bytes
unfolding total
total_split [] = omega arith
total_split (x ∷ xs) = by_feed (feed x) (total_split xs) (total_first x (slice_split feed xs))
  where
    by_feed : (b : Bool) → total (slice_split feed xs) ≤ length xs → total (onto_first x (slice_split feed xs)) ≡ suc (total (slice_split feed xs)) → total (cond b ([] ∷ slice_split feed xs) (onto_first x (slice_split feed xs))) ≤ suc (length xs)
    by_feed true h e = omega arith
    by_feed false h e = omega arith

taken : (n : ℕ) (l : List ℕ) → length (take n l) ≤ length l
taken zero l = omega arith
taken (suc n) [] = omega arith
taken (suc n) (x ∷ l) = let h = taken n l in omega arith

length_strip : (l : List ℕ) → length (strip_carriage_return l) ≤ length l
length_strip l = by_test (slice_index l (length l - 1) == 13)
  where
    by_test : (b : Bool) → length (if b then take (length l - 1) l else l) ≤ length l
    by_test true = taken (length l - 1) l
    by_test false = omega arith

total_lines : (ps : List (List ℕ)) → total (lines_of_parts ps) ≤ total ps
unfolding total
total_lines [] = omega arith
total_lines (x ∷ []) = grind arith
total_lines (x ∷ y ∷ more) = let h = total_lines (y ∷ more) in let k = length_strip x in omega arith

length_placed : (n col : ℕ) (l : List ℕ) → length (placed_from n col l) ≡ length l
length_placed n col [] = refl
length_placed n col (b ∷ bs) = ap suc (length_placed n (col + 1) bs)

total_numbered : (n : ℕ) (ls : List (List ℕ)) → total (numbered n ls) ≡ total ls
unfolding total
total_numbered n [] = refl
total_numbered n (l ∷ ls) = let h = total_numbered (n + 1) ls in let k = length_placed n 1 l in omega arith

total_physical : (bytes : List ℕ) → total (physical_lines bytes) ≤ length bytes
total_physical bytes = let a = total_numbered 1 (lines bytes) in let b = total_lines (slice_split feed bytes) in let c = total_split bytes in omega arith

length_front : (line front : List PlacedByte) → IsFront line front → length front ≤ length line
length_front line front (inl e) = let h = ap length e in omega arith
length_front line front (inr (m, rest, e, code)) = let h = ap length e in let k = length-append front (m ∷ rest) in omega arith

total_fronts : (ls fs : List (List PlacedByte)) → AreFronts ls fs → total fs ≤ total ls
unfolding total
total_fronts [] [] h = omega arith
total_fronts [] (f ∷ fs) h = absurd h
total_fronts (l ∷ ls) [] h = absurd h
total_fronts (l ∷ ls) (f ∷ fs) h = let a = length_front l f h.0 in let b = total_fronts ls fs h.1 in omega arith

length_taken : (bs ms : List PlacedByte) → AreTaken bs ms → length bs ≤ length ms
length_taken [] ms h = omega arith
length_taken (b ∷ bs) [] h = absurd h
length_taken (b ∷ bs) (m ∷ ms) (inl h) = let k = length_taken bs ms h.1 in omega arith
length_taken (b ∷ bs) (m ∷ ms) (inr h) = let k = length_taken (b ∷ bs) ms h.1 in omega arith

length_row : (ls : List (List PlacedByte)) → length (in_a_row ls) ≡ total ls
unfolding total
length_row [] = refl
length_row (l ∷ ls) = let h = length_row ls in let k = length-append l (in_a_row ls) in omega arith

-- all together
statements_short : (bytes : List ℕ) → faults_of bytes ≡ [] → total (statements_of bytes) ≤ length bytes
statements_short bytes e =
    let kept = all_kept bytes e in
    let a = length_taken (in_a_row (statements_of bytes)) (in_a_row kept.fronts) kept.taken in
    let b = length_row (statements_of bytes) in
    let c = length_row kept.fronts in
    let d = total_fronts (physical_lines bytes) kept.fronts kept.are in
    let f = total_physical bytes in
    omega arith

length_places : (bs : List ℕ) (ps : List Pos) → length bs ≡ length ps → length (with_places bs ps) ≡ length bs
length_places [] ps e = refl
length_places (b ∷ bs) [] e = absurd (omega arith)
length_places (b ∷ bs) (p ∷ ps) e = ap suc (length_places bs ps (omega arith))

each_short : (ss : List Stmt) (n : ℕ) → total (map placed_bytes ss) < n → All (λ s. length s.text < n) ss
unfolding total
each_short ss n less = λ k d within. at ss k d within less
  where
    at : (xs : List Stmt) (k : ℕ) (d : Stmt) → k < length xs → total (map placed_bytes xs) < n → length (get_or xs k d).text < n
    at [] k d within less = absurd (omega arith)
    at (x ∷ xs) zero d within less = let h = length_places x.text x.at x.placed in omega arith
    at (x ∷ xs) (suc k) d within less = at xs k d (omega arith) (omega arith)

pub all_short : (bytes : List ℕ) (ss : List Stmt) → length bytes < 4294967295 → faults_of bytes ≡ [] → map placed_bytes ss ≡ statements_of bytes → All (λ s. length s.text < 4294967295) ss
all_short bytes ss few e is = each_short ss 4294967295 (let h = statements_short bytes e in let k = ap total is in omega arith)
