-- Plain lines are statements as they stand.
use Rattle.std.proofs.Common.{◌≡◌, ℕ, ◌+◌, true, false, cond, not, ◌&&◌, nat_eq, List, [], ◌∷◌, ◌++◌, Some, None, refl, ap, ◌∙◌}
use Rattle.std.specs.List.{AllByRecursion, list_all, flat_map, onto_first}
use Rattle.fortran_lines.specs.declared.placed_byte.PlacedByte.{PlacedByte}
use Rattle.fortran_lines.specs.declared.context.Context.TheVariants.{Outside, Inside}
use Rattle.fortran_lines.specs.declared.context.Before.TheVariants.{Start}
use Rattle.fortran_lines.specs.Characters as characters
use Rattle.fortran_lines.specs.PlacedBytes.{all_blank, placed_from, numbered}
use Rattle.fortran_lines.specs.Contexts.{behind, context_behind}
use Rattle.fortran_lines.specs.Lines.{is_nothing, code_part, put_before, before_amp, open_quote, part_by, part_of, by_next, joined, cut, kept, pieces, statements_of}
use Rattle.plain_lines.specs.PlainLines.{is_plain, IsPlainLine, ended}
use Rattle.plain_lines.proofs.PlainBytes.{no_mark, no_amp, no_semicolon, no_quote, from_not, first_plain, rest_plain}
use Rattle.plain_lines.proofs.Feeds.{lines-ended}

-- a byte at a place
abbrev placed : ℕ → ℕ → ℕ → PlacedByte
placed n c b = record { code = b; at = record { line = n; col = c } }

-- behind it no literal is open
outside : (n c b : ℕ) → is_plain b ≡ true → behind Outside (placed n c b) ≡ Outside
outside n c b h = ap (λ q. cond q (Inside (placed n c b)) Outside) (no_quote b h)

-- a plain line has no comment, opens no literal and doesn't go on
code_plain : (n c : ℕ) (l : List ℕ) → list_all is_plain l ≡ true → code_part Outside (placed_from n c l) ≡ placed_from n c l
code_plain n c [] e = refl
code_plain n c (b ∷ l) e =
    let m = placed n c b in
    let rest = placed_from n (c + 1) l in
    ap (λ x. cond (x && true) [] (m ∷ code_part (behind Outside m) rest)) (no_mark b (first_plain b l e))
    ∙ ap (λ k. m ∷ code_part k rest) (outside n c b (first_plain b l e))
    ∙ ap (λ r. m ∷ r) (code_plain n (c + 1) l (rest_plain b l e))

context_plain : (n c : ℕ) (l : List ℕ) → list_all is_plain l ≡ true → context_behind Outside (placed_from n c l) ≡ Outside
context_plain n c [] e = refl
context_plain n c (b ∷ l) e =
    ap (λ k. context_behind k (placed_from n (c + 1) l)) (outside n c b (first_plain b l e)) ∙ context_plain n (c + 1) l (rest_plain b l e)

amp_plain : (n c : ℕ) (l : List ℕ) → list_all is_plain l ≡ true → before_amp (placed_from n c l) ≡ None
amp_plain n c [] e = refl
amp_plain n c (b ∷ l) e =
    let m = placed n c b in
    let rest = placed_from n (c + 1) l in
    ap (λ x. cond (x && all_blank rest) (Some ([], m)) (put_before m (before_amp rest))) (no_amp b (first_plain b l e))
    ∙ ap (put_before m) (amp_plain n (c + 1) l (rest_plain b l e))

part_plain : (n : ℕ) (l : List ℕ) → list_all is_plain l ≡ true
    → part_of Start (placed_from n 1 l) ≡ record { code = placed_from n 1 l; text = placed_from n 1 l; next = Start; left_open = None }
part_plain n l e =
    let line = placed_from n 1 l in
    ap (λ c. part_by Outside c (before_amp c)) (code_plain n 1 l e)
    ∙ ap (part_by Outside line) (amp_plain n 1 l e)
    ∙ ap (λ k. record { code = line; text = line; next = Start; left_open = open_quote k }) (context_plain n 1 l e)

-- it isn't blank
pub inked_line : (n : ℕ) (l : List ℕ) → IsPlainLine l → all_blank (placed_from n 1 l) ≡ false
inked_line n [] h = absurd (let k = h.inked in cc)
inked_line n (b ∷ l) h = ap (λ x. x && all_blank (placed_from n (1 + 1) l)) (from_not (characters.is_blank b) h.inked)

pub something : (n : ℕ) (l : List ℕ) → IsPlainLine l → is_nothing (placed_from n 1 l) ≡ false
something n [] h = absurd (let k = h.inked in cc)
something n (b ∷ l) h =
    ap (λ x. cond x (is_nothing (placed_from n (1 + 1) l)) (nat_eq b 33)) (from_not (characters.is_blank b) h.inked) ∙ no_mark b (first_plain b l h.plain)

pub line_part : (n : ℕ) (l : List ℕ) → IsPlainLine l → part_of Start (placed_from n 1 l) ≡ record { code = placed_from n 1 l; text = placed_from n 1 l; next = Start; left_open = None }
line_part n l h = part_plain n l h.plain

joined_plain : (n : ℕ) (ls : List (List ℕ)) → AllByRecursion IsPlainLine ls → joined (numbered n ls) Start [] ≡ numbered n ls
joined_plain n [] h = refl
joined_plain n (l ∷ ls) h =
    let line = placed_from n 1 l in
    let rest = numbered (n + 1) ls in
    ap (λ b. cond b (joined rest Start []) (by_next (joined rest) (part_of Start line).text (part_of Start line).next)) (something n l h.0)
    ∙ ap (λ p. by_next (joined rest) p.text p.next) (line_part n l h.0)
    ∙ ap (λ r. line ∷ r) (joined_plain (n + 1) ls h.1)

-- nothing ends it before its end
cut_plain : (n c : ℕ) (l : List ℕ) → list_all is_plain l ≡ true → cut Outside (placed_from n c l) ≡ placed_from n c l ∷ []
cut_plain n c [] e = refl
cut_plain n c (b ∷ l) e =
    let m = placed n c b in
    let rest = placed_from n (c + 1) l in
    ap (λ x. cond (x && true) ([] ∷ cut (behind Outside m) rest) (onto_first m (cut (behind Outside m) rest))) (no_semicolon b (first_plain b l e))
    ∙ ap (λ k. onto_first m (cut k rest)) (outside n c b (first_plain b l e))
    ∙ ap (onto_first m) (cut_plain n (c + 1) l (rest_plain b l e))

pieces_plain : (n : ℕ) (l : List ℕ) → IsPlainLine l → pieces (placed_from n 1 l) ≡ placed_from n 1 l ∷ []
pieces_plain n l h =
    let line = placed_from n 1 l in
    ap kept (cut_plain n 1 l h.plain) ∙ ap (λ b. cond (not b) (line ∷ []) []) (inked_line n l h)

all_pieces : (n : ℕ) (ls : List (List ℕ)) → AllByRecursion IsPlainLine ls → flat_map pieces (numbered n ls) ≡ numbered n ls
all_pieces n [] h = refl
all_pieces n (l ∷ ls) h =
    ap (λ p. p ++ flat_map pieces (numbered (n + 1) ls)) (pieces_plain n l h.0) ∙ ap (λ r. placed_from n 1 l ∷ r) (all_pieces (n + 1) ls h.1)

pub statements_plain : (ls : List (List ℕ)) → AllByRecursion IsPlainLine ls → statements_of (ended ls) ≡ numbered 1 ls
statements_plain ls h =
    ap (λ x. flat_map pieces (joined (numbered 1 x) Start [])) (lines-ended ls h)
    ∙ ap (flat_map pieces) (joined_plain 1 ls h)
    ∙ all_pieces 1 ls h
