-- The first line of a file, by its line feed.
use Rattle.std.proofs.Common.{◌≡◌, ℕ, suc, ◌+◌, ◌<◌, ◌≤◌, Bool, true, false, cond, not, nat_eq, List, [], ◌∷◌, length, take, drop, refl, ap, sym, ◌∙◌, arith, subst}
use Rattle.std.specs.List.{slice_split, position_or_len, before_first, after_first, onto_first}
use Rattle.std.specs.Str.Lines.{lines, lines_of_parts, strip_carriage_return}
use Rattle.std.proofs.lemmas.List.Splits.{slice_split_first, length-slice_split}
use Rattle.std.proofs.lemmas.Bool.{ne_eqb}

abbrev pub feed : ℕ → Bool
feed b = nat_eq b 10

-- a part that isn't the last ends with a line feed
ended_part : (x : List ℕ) (parts : List (List ℕ)) → 0 < length parts → lines_of_parts (x ∷ parts) ≡ strip_carriage_return x ∷ lines_of_parts parts
ended_part x [] h = absurd (omega arith)
ended_part x (y ∷ parts) h = refl

-- a line that a line feed ends
pub line_ended : (bytes : List ℕ) (end : ℕ) → end ≡ position_or_len feed bytes → end < length bytes → lines bytes ≡ strip_carriage_return (take end bytes) ∷ lines (drop (end + 1) bytes)
line_ended bytes end e within =
    let cuts = slice_split_first feed bytes 0 (subst (λ n. n < length bytes) e within) in
    let some = length-slice_split feed (after_first feed bytes) in
    ap lines_of_parts cuts ∙ (ended_part (before_first feed bytes) (slice_split feed (after_first feed bytes)) (omega arith)
    ∙ ap (λ n. strip_carriage_return (take n bytes) ∷ lines (drop (n + 1) bytes)) (sym e))

no_feed_here : (x : ℕ) (xs : List ℕ) → (length xs ≤ position_or_len feed xs → slice_split feed xs ≡ xs ∷ []) → (b : Bool) → suc (length xs) ≤ cond (not b) (1 + position_or_len feed xs) 0
    → cond b ([] ∷ slice_split feed xs) (onto_first x (slice_split feed xs)) ≡ (x ∷ xs) ∷ []
no_feed_here x xs next true h = absurd (omega arith)
no_feed_here x xs next false h = ap (onto_first x) (next (omega arith))

-- with no line feed there is one part
no_feed : (bytes : List ℕ) → length bytes ≤ position_or_len feed bytes → slice_split feed bytes ≡ bytes ∷ []
no_feed [] h = refl
no_feed (x ∷ xs) h = no_feed_here x xs (no_feed xs) (feed x) h

-- a line that the end of the file ends
pub line_last : (bytes : List ℕ) → length bytes ≤ position_or_len feed bytes → 0 < length bytes → lines bytes ≡ bytes ∷ []
line_last [] none some = absurd (omega arith)
line_last (x ∷ xs) none some = ap lines_of_parts (no_feed (x ∷ xs) none) ∙ ap (λ b. cond b [] ((x ∷ xs) ∷ [])) (ne_eqb (suc (length xs)) 0 (λ e. omega arith))
