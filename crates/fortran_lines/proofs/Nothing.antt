-- A blank line or a comment line that is put in.
use Rattle.std.proofs.Common.{◌≡◌, ℕ, ◌+◌, true, cond, List, [], ◌∷◌, ◌++◌, map, refl, ap, sym, ◌∙◌}
use Rattle.std.specs.List.{flat_map}
use Rattle.std.specs.Str.Lines.{lines}
use Rattle.caf_base.specs.declared.place.Pos.{Pos}
use Rattle.fortran_lines.specs.declared.placed_byte.PlacedByte.{PlacedByte}
use Rattle.fortran_lines.specs.declared.context.Before.{Before}
use Rattle.fortran_lines.specs.declared.context.Before.TheVariants.{Start, Continued}
use Rattle.fortran_lines.specs.PlacedBytes.{placed_from, numbered}
use Rattle.fortran_lines.specs.Lines.{is_nothing, part_of, by_next, joined, pieces, statements_of}
use Rattle.fortran_lines.specs.Texts.{codes_of, texts_of, plain}
use Rattle.fortran_lines.proofs.Places.{all_moved, texts_moved, joined_moved, pieces_moved, nothing_all}

by_next_same : (one two : Before → List PlacedByte → List (List PlacedByte)) → ((b : Before) (t : List PlacedByte) → one b t ≡ two b t) → (t : List PlacedByte) (b : Before) → by_next one t b ≡ by_next two t b
by_next_same one two same t Start = ap (λ ls. t ∷ ls) (same Start [])
by_next_same one two same t (Continued a k) = same (Continued a k) t

-- a line that is nothing changes nothing, wherever it stands
put_in : (front : List (List PlacedByte)) (line : List PlacedByte) (back : List (List PlacedByte)) → is_nothing line ≡ true → (b : Before) (t : List PlacedByte) → joined (front ++ line ∷ back) b t ≡ joined (front ++ back) b t
put_in [] line back e b t = ap (λ c. cond c (joined back b t) (by_next (joined back) (t ++ (part_of b line).text) (part_of b line).next)) e
put_in (l ∷ front) line back e b t =
    ap (λ u. cond (is_nothing l) u (by_next (joined (front ++ line ∷ back)) (t ++ (part_of b l).text) (part_of b l).next)) (put_in front line back e b t)
    ∙ ap (λ u. cond (is_nothing l) (joined (front ++ back) b t) u) (by_next_same (joined (front ++ line ∷ back)) (joined (front ++ back)) (put_in front line back e) (t ++ (part_of b l).text) (part_of b l).next)

-- one place for all bytes
origin : Pos → Pos
origin p = record { line = 0; col = 0 }

abbrev pub all_plain : List (List ℕ) → List (List PlacedByte)
all_plain ls = map plain ls

plain_marks : (line col : ℕ) (bs : List ℕ) → all_moved origin (placed_from line col bs) ≡ plain bs
unfolding origin
plain_marks line col [] = refl
plain_marks line col (b ∷ bs) = ap (λ l. record { code = b; at = record { line = 0; col = 0 } } ∷ l) (plain_marks line (col + 1) bs)

plain_lines : (n : ℕ) (ls : List (List ℕ)) → texts_moved origin (numbered n ls) ≡ all_plain ls
plain_lines n [] = refl
plain_lines n (l ∷ ls) = ap (λ m. m ∷ texts_moved origin (numbered (n + 1) ls)) (plain_marks n 1 l) ∙ ap (λ ms. plain l ∷ ms) (plain_lines (n + 1) ls)

codes_moved : (l : List PlacedByte) → map (λ m. m.code) (all_moved origin l) ≡ map (λ m. m.code) l
codes_moved [] = refl
codes_moved (m ∷ l) = ap (λ cs. m.code ∷ cs) (codes_moved l)

codes_texts : (ls : List (List PlacedByte)) → codes_of (texts_moved origin ls) ≡ codes_of ls
codes_texts [] = refl
codes_texts (l ∷ ls) = ap (λ c. c ∷ codes_of (texts_moved origin ls)) (codes_moved l) ∙ ap (λ cs. map (λ m. m.code) l ∷ cs) (codes_texts ls)

-- the texts of a file's statements depend on the bytes of its lines alone
pub plain_texts : (bytes : List ℕ) → texts_of bytes ≡ codes_of (flat_map pieces (joined (all_plain (lines bytes)) Start []))
plain_texts bytes =
    sym (ap codes_of (ap (flat_map pieces) (ap (λ ls. joined ls Start []) (sym (plain_lines 1 (lines bytes))) ∙ joined_moved origin (numbered 1 (lines bytes)) Start []) ∙ pieces_moved origin (joined (numbered 1 (lines bytes)) Start [])) ∙ codes_texts (statements_of bytes))

pub plain_append : (xs ys : List (List ℕ)) → all_plain (xs ++ ys) ≡ all_plain xs ++ all_plain ys
plain_append [] ys = refl
plain_append (x ∷ xs) ys = ap (λ l. plain x ∷ l) (plain_append xs ys)

pub nothing_in : (bytes bytes' : List ℕ) (front back : List (List ℕ)) (line : List ℕ) → lines bytes ≡ front ++ back → lines bytes' ≡ front ++ line ∷ back → is_nothing (placed_from 1 1 line) ≡ true
    → texts_of bytes' ≡ texts_of bytes
nothing_in bytes bytes' front back line e e' h =
    let blank : is_nothing (plain line) ≡ true = sym (ap is_nothing (plain_marks 1 1 line)) ∙ (nothing_all origin (placed_from 1 1 line) ∙ h) in
    let here = ap all_plain e ∙ plain_append front back in
    let there = ap all_plain e' ∙ plain_append front (line ∷ back) in
    plain_texts bytes' ∙ (ap (λ ls. codes_of (flat_map pieces (joined ls Start []))) there
    ∙ (ap (λ ls. codes_of (flat_map pieces ls)) (put_in (all_plain front) (plain line) (all_plain back) blank Start [])
    ∙ (ap (λ ls. codes_of (flat_map pieces (joined ls Start []))) (sym here) ∙ sym (plain_texts bytes))))
