-- The words of a text of laid tokens.
use Rattle.std.proofs.Common.{◌≡◌, ℕ, suc, ◌-◌, ◌<◌, ◌≤◌, true, false, ◌&&◌, List, [], ◌∷◌, ◌++◌, length, take, drop, map, get_or, Some, refl, ap, sym, ◌∙◌, subst, arith, append_assoc}
use Rattle.std.specs.Prelude.{slice_get}
use Rattle.std.specs.List.{AllByRecursion}
use Rattle.std.proofs.lemmas.Bool.{and_parts}
use Rattle.std.proofs.lemmas.List.{map-append}
use Rattle.std.proofs.lemmas.List.Elements.{All-from_recursion}
use Rattle.std.proofs.lemmas.Option.{slice_get-get_or}
use Rattle.caf_base.specs.declared.place.Pos.{Pos}
use Rattle.fortran_lines.specs.declared.placed_byte.PlacedByte.{PlacedByte}
use Rattle.fortran_lines.specs.declared.stmt.Stmt.{Stmt}
use Rattle.fortran_lines.specs.Lines.{statements_of}
use Rattle.fortran_lines.specs.Statements.{placed_bytes, with_places}
use Rattle.fortran_tokens.specs.declared.cut.Piece.{Piece}
use Rattle.fortran_tokens.specs.declared.token.Token.{Token as Cut}
use Rattle.fortran_tokens.specs.Cuts.{LiesWithin}
use Rattle.fortran_tokens.specs.Tokens.{AreTokens, piece_of, is_colons}
use Rattle.fortran_tokens.specs.Words.{words_of}
use Rattle.fortran_tokens.proofs.Cutting.{cut_within}
use Rattle.fortran_grammar.specs.Tokens.{Tok, Token, over}
use Rattle.fortran_grammar.specs.Laws.{tok_of}
use Rattle.fortran_layout.specs.Layout.{laid_text}
use Rattle.expr_reader.specs.Plain as plain
use Rattle.expr_reader.specs.Plain.{seen}
use Rattle.token_words.specs.Words.{AreSeen, AreWords, just_past, last_end}
use Rattle.token_words.proofs.Sources.{words_once}
use Rattle.print_again.specs.Spelled.{is_plain, may_stand, depth_past, are_statements}
use Rattle.print_again.specs.Laws.{LaidIsCut, LaidIsCutOnce}
use Rattle.print_again.specs.Unplaced.{nowhere}
use Rattle.print_again.proofs.Bytes.{codes_of}
use Rattle.print_again.proofs.Standing.{are_plain, Spread, Stand, laid_statements}
use Rattle.print_again.proofs.TokensAgain.{again}
use Rattle.print_again.proofs.CutAgain.{word_is, cut_statement, whole_pieces}

-- a token of a statement, at the place of its first byte
abbrev token_at : Stmt → Piece → Cut
token_at s p = record { kind = p.kind; from = p.from; to = p.to; at = get_or s.at p.from nowhere }

pieces_same : (s : Stmt) (ps : List Piece) → map piece_of (map (token_at s) ps) ≡ ps
pieces_same s [] = refl
pieces_same s (p ∷ ps) = ap (λ z. p ∷ z) (pieces_same s ps)

abbrev Within : ℕ → Piece → Type 0
Within n p = LiesWithin n p (is_colons p.kind)

places_same : (s : Stmt) (ps : List Piece) → AllByRecursion (Within (length s.text)) ps → AllByRecursion (λ t. slice_get s.at t.from ≡ Some t.at) (map (token_at s) ps)
places_same s [] h = tt
places_same s (p ∷ ps) h =
    let k = h.0 in
    let a = k.some in
    let b = k.within in
    let c = s.placed in
    (slice_get-get_or s.at p.from nowhere (omega arith), places_same s ps h.1)

end_within : (s : Stmt) (n : ℕ) (p : Piece) (ps : List Piece) → AllByRecursion (Within n) (p ∷ ps) → (0 < last_end (token_at s p) (map (token_at s) ps)) × (last_end (token_at s p) (map (token_at s) ps) ≤ n)
end_within s n p [] h = let k = h.0 in let a = k.some in let b = k.within in (omega arith, b)
end_within s n p (q ∷ ps) h = end_within s n q ps h.1

-- what the tokens of a text stand for
seen_toks : (s : Stmt) (end : Pos) (ps : List Piece) → map tok_of (seen s.text end (map (token_at s) ps)) ≡ map (λ w. plain.tok_of w.0 w.1) (words_of s.text ps) ++ over ∷ []
seen_toks s end [] = refl
seen_toks s end (p ∷ ps) = ap (λ z. plain.tok_of p.kind (take (p.to - p.from) (drop p.from s.text)) ∷ z) (seen_toks s end ps)

toks_again : (d : ℕ) (xs : List Tok) → are_plain d xs ≡ true → map (λ w. plain.tok_of w.0 w.1) (map word_is xs) ≡ xs
toks_again d [] h = refl
toks_again d (x ∷ xs) h =
    let k = and_parts (is_plain x && may_stand d x) (are_plain (depth_past d x) xs) h in
    let a = again x (and_parts (is_plain x) (may_stand d x) k.0).0 in
    λ i. a.stands i ∷ toks_again (depth_past d x) xs k.1 i

-- the words of one statement
record OneStatement (s : Stmt) (xs : List Tok) : Type 0 where
  cuts : List Cut
  words : List Token
  tokens : AreTokens s cuts
  are : AreSeen s cuts words
  same : map tok_of words ≡ xs ++ over ∷ []

seen_by : (s : Stmt) (xs : List Tok) (ps : List Piece) → AreTokens s (map (token_at s) ps) → AllByRecursion (Within (length s.text)) ps → words_of s.text ps ≡ map word_is xs → Spread s.text xs → OneStatement s xs
seen_by s xs [] t h e f = absurd (let g : [] ≡ map word_is (f.first ∷ _) = e ∙ ap (map word_is) f.same in cc)
seen_by s xs (p ∷ ps) t h e f =
    let n = end_within s (length s.text) p ps h in
    let c = s.placed in
    let index = last_end (token_at s p) (map (token_at s) ps) - 1 in
    let low = n.0 in
    let high = n.1 in
    let place = get_or s.at index nowhere in
    record {
      cuts = map (token_at s) (p ∷ ps);
      words = seen s.text (just_past place) (map (token_at s) (p ∷ ps));
      tokens = t;
      are = (place, slice_get-get_or s.at index nowhere (omega arith), refl);
      same = seen_toks s (just_past place) (p ∷ ps) ∙ ap (λ z. z ++ over ∷ []) (ap (map (λ w. plain.tok_of w.0 w.1)) e ∙ toks_again 0 xs f.plain);
    }

one_statement : (s : Stmt) (xs : List Tok) → Spread s.text xs → OneStatement s xs
one_statement s xs f =
    let c = cut_statement s.text xs f in
    let w = cut_within s.text 0 c.pieces (length s.text) c.cut in
    let t : AreTokens s (map (token_at s) c.pieces) = record {
      cut = (c.pieces, c.cut, pieces_same s c.pieces ∙ sym (whole_pieces s.text 0 c.pieces xs c.same f.plain));
      places = All-from_recursion (λ t. slice_get s.at t.from ≡ Some t.at) (map (token_at s) c.pieces) (places_same s c.pieces w);
    } in
    seen_by s xs c.pieces t w c.same f

all_statements : (ss : List Stmt) (ps : List (List ℕ)) (ts : List Tok) → map (λ s. s.text) ss ≡ ps → Stand ps ts → (us : List Token) × AreWords ss us × (map tok_of us ≡ ts)
all_statements [] [] ts e h = ([], refl, sym h)
all_statements [] (p ∷ ps) ts e h = absurd (cc)
all_statements (s ∷ ss) [] ts e h = absurd (cc)
all_statements (s ∷ ss) (p ∷ ps) ts e (xs, ys, f, g, rest) =
    let first : s.text ≡ p = cc in
    let others : map (λ z. z.text) ss ≡ ps = cc in
    let o = one_statement s xs (subst (λ z. Spread z xs) (sym first) f) in
    let r = all_statements ss ps ys others rest in (
      o.words ++ r.0,
      (o.cuts, o.words, r.0, o.tokens, o.are, r.1, refl),
      map-append tok_of o.words r.0 ∙ ((λ i. o.same i ++ r.2 i) ∙ (append_assoc xs (over ∷ []) ys ∙ sym g)),
    )

-- bytes with places, as a statement
codes_with : (x : List ℕ) (at : List Pos) → length x ≡ length at → codes_of (with_places x at) ≡ x
codes_with [] at h = refl
codes_with (b ∷ x) [] h = absurd (omega arith)
codes_with (b ∷ x) (p ∷ at) h = ap (λ z. b ∷ z) (codes_with x at (omega arith))

texts_placed : (ss : List Stmt) → map codes_of (map placed_bytes ss) ≡ map (λ s. s.text) ss
texts_placed [] = refl
texts_placed (s ∷ ss) = λ i. codes_with s.text s.at s.placed i ∷ texts_placed ss i

same_size : (l : List PlacedByte) → length (map (λ m. m.code) l) ≡ length (map (λ m. m.at) l)
same_size [] = refl
same_size (m ∷ l) = ap suc (same_size l)

abbrev statement_of : List PlacedByte → Stmt
statement_of l = record { text = map (λ m. m.code) l; at = map (λ m. m.at) l; placed = same_size l }

placed_again : (l : List PlacedByte) → with_places (map (λ m. m.code) l) (map (λ m. m.at) l) ≡ l
placed_again [] = refl
placed_again (m ∷ l) = ap (λ z. m ∷ z) (placed_again l)

all_placed : (ls : List (List PlacedByte)) → map placed_bytes (map statement_of ls) ≡ ls
all_placed [] = refl
all_placed (l ∷ ls) = λ i. placed_again l i ∷ all_placed ls i

-- whatever statements the lines join to
words_of_laid : (ts : List Tok) (ss : List Stmt) → are_statements false 0 ts ≡ true → map placed_bytes ss ≡ statements_of (laid_text ts) → (us : List Token) × AreWords ss us × (map tok_of us ≡ ts)
words_of_laid ts ss h e =
    let r = laid_statements ts h in
    all_statements ss r.parts ts (sym (texts_placed ss) ∙ (ap (map codes_of) e ∙ r.texts)) r.stand

pub laid_is_cut : LaidIsCut
laid_is_cut ts h =
    let ss = map statement_of (statements_of (laid_text ts)) in
    let e = all_placed (statements_of (laid_text ts)) in
    let r = words_of_laid ts ss h e in
    (r.0, record { statements = ss; are = record { joined = e; unbroken = (laid_statements ts h).unbroken }; cut = r.1 }, r.2)

pub laid_is_cut_once : LaidIsCutOnce
laid_is_cut_once ts us h w =
    let r = words_of_laid ts w.statements h w.are.joined in
    ap (map tok_of) (words_once w.statements us r.0 w.cut r.1) ∙ r.2
