-- The text of a statement is cut into its tokens.
use Rattle.std.proofs.Common.{◌≡◌, ℕ, ◌+◌, ◌-◌, Bool, true, false, cond, not, ◌&&◌, nat_lt, List, [], ◌∷◌, ◌++◌, length, take, drop, map, get_or, refl, ap, sym, ◌∙◌, subst, arith, append_assoc, append-nil}
use Rattle.std.specs.Prelude.{slice_index}
use Rattle.std.proofs.Math.Seq.{take-length}
use Rattle.std.proofs.lemmas.Bool.{and_parts}
use Rattle.std.proofs.lemmas.List.{length-append, take_at, drop_at, get_or_at}
use Rattle.fortran_tokens.specs.declared.token.TokenKind.{TokenKind}
use Rattle.fortran_tokens.specs.declared.token.TokenKind.TheVariants.{Fixed}
use Rattle.fortran_tokens.specs.declared.cut.Piece.{Piece}
use Rattle.fortran_tokens.specs.Bytes.{is_blank}
use Rattle.fortran_tokens.specs.Cuts.{IsToken, IsCut, AreBlanks}
use Rattle.fortran_tokens.specs.Tokens.{depth_behind, is_colons, halves, halved, with_halves}
use Rattle.fortran_tokens.specs.Words.{word_of, words_of}
use Rattle.fortran_tokens.proofs.Cutting.{blanks_none, blanks_earlier}
use Rattle.fortran_tokens.proofs.Again.{token_again}
use Rattle.fortran_grammar.specs.Tokens.{Tok, word, integer, literal, sign, over}
use Rattle.print_again.specs.Spelled.{is_plain, may_stand, depth_past}
use Rattle.print_again.proofs.Spellings.{spelling}
use Rattle.print_again.proofs.Pages.{gap}
use Rattle.print_again.proofs.Standing.{spread, toks, are_plain, Spread}
use Rattle.print_again.proofs.TokensAgain.{kind_of, again, token_alone}

-- the kind and the text of a token
abbrev pub word_is : Tok → TokenKind × List ℕ
word_is t = (kind_of t, spelling t)

-- the text is cut from this place on into these tokens
pub record CutAs (text : List ℕ) (from : ℕ) (ts : List Tok) : Type 0 where
  pub pieces : List Piece
  pub cut : IsCut text from pieces (length text)
  pub same : words_of text pieces ≡ map word_is ts

-- a token before blanks, or before nothing
before_blank : (k : TokenKind) (w : List ℕ) (gs : List (Bool × Tok)) → IsToken w k (length w) → IsToken (w ++ spread gs) k (length w)
before_blank k w [] t = subst (λ z. IsToken z k (length w)) (sym (append-nil w)) t
before_blank k w (g ∷ gs) t = blanks_by g.0
  where
    with_rest : (r : List ℕ) → IsToken (w ++ 32 ∷ r) k (length w)
    with_rest r = subst (λ z. IsToken (z ++ 32 ∷ r) k (length w)) (take-length w) (token_again w k (length w) r t)

    blanks_by : (b : Bool) → IsToken (w ++ (gap b ++ (spelling g.1 ++ spread gs))) k (length w)
    blanks_by false = with_rest (spelling g.1 ++ spread gs)
    blanks_by true = with_rest (32 ∷ (spelling g.1 ++ spread gs))

-- blanks behind some text
blank_at : (text done r : List ℕ) → text ≡ done ++ 32 ∷ r → is_blank (slice_index text (length done)) ≡ true
blank_at text done r e = ap (λ z. is_blank (get_or z (length done) 0)) e ∙ ap is_blank (get_or_at done 32 r 0 (length done) refl)

gap_blanks : (text done r : List ℕ) (b : Bool) → text ≡ done ++ (gap b ++ r) → AreBlanks text (length done) (length (done ++ gap b))
gap_blanks text done r false e =
    let size : length (done ++ 32 ∷ []) ≡ length done + 1 = length-append done (32 ∷ []) in
    subst (AreBlanks text (length done)) (sym size) (blanks_earlier text (length done) (length done + 1) (blank_at text done r e) (blanks_none text (length done + 1)))
gap_blanks text done r true e =
    let size = length-append done (32 ∷ 32 ∷ []) in
    let whole : length (done ++ 32 ∷ 32 ∷ []) ≡ (length done + 1) + 1 = omega arith in
    let one : length (done ++ 32 ∷ []) ≡ length done + 1 = length-append done (32 ∷ []) in
    let next : text ≡ (done ++ 32 ∷ []) ++ 32 ∷ r = e ∙ sym (append_assoc done (32 ∷ []) (32 ∷ r)) in
    let second : is_blank (slice_index text (length done + 1)) ≡ true = ap (λ i. is_blank (slice_index text i)) (sym one) ∙ blank_at text (done ++ 32 ∷ []) r next in
    subst (AreBlanks text (length done)) (sym whole)
    (blanks_earlier text (length done) ((length done + 1) + 1) (blank_at text done (32 ∷ r) e)
    (blanks_earlier text (length done + 1) ((length done + 1) + 1) second (blanks_none text ((length done + 1) + 1))))

-- a token behind blanks, and the rest
cut_here : (text front : List ℕ) (from : ℕ) (t : Tok) (ts : List Tok) (gs : List (Bool × Tok)) → text ≡ front ++ (spelling t ++ spread gs) → is_plain t ≡ true → AreBlanks text from (length front) → CutAs text (length (front ++ spelling t)) ts
    → CutAs text from (t ∷ ts)
cut_here text front from t ts gs e p b next =
    let w = spelling t in
    let n = length w in
    let at = length front in
    let a = again t p in
    let behind : drop at text ≡ w ++ spread gs = ap (drop at) e ∙ drop_at front (w ++ spread gs) at refl in
    let token = subst (λ z. IsToken z (kind_of t) n) (sym behind) (before_blank (kind_of t) w gs (token_alone (kind_of t) w a.form a.allowed)) in
    let size : length (front ++ w) ≡ at + n = length-append front w in
    let width : (at + n) - at ≡ n = omega arith in
    let here : take ((at + n) - at) (drop at text) ≡ w = (λ i. take (width i) (behind i)) ∙ take_at w (spread gs) n refl in
    record {
      pieces = record { kind = kind_of t; from = at; to = at + n } ∷ next.pieces;
      cut = (b, n, refl, token, subst (λ i. IsCut text i next.pieces (length text)) size next.cut);
      same = λ i. (kind_of t, here i) ∷ next.same i;
    }

cut_rest : (gs : List (Bool × Tok)) (text done : List ℕ) (d : ℕ) → text ≡ done ++ spread gs → are_plain d (toks gs) ≡ true → CutAs text (length done) (toks gs)
cut_rest [] text done d e h =
    let whole : length text ≡ length done = ap length (e ∙ append-nil done) in
    record { pieces = []; cut = subst (λ i. AreBlanks text (length done) i) (sym whole) (blanks_none text (length done)); same = refl }
cut_rest (g ∷ gs) text done d e h =
    let p = and_parts (is_plain g.1 && may_stand d g.1) (are_plain (depth_past d g.1) (toks gs)) h in
    let q = and_parts (is_plain g.1) (may_stand d g.1) p.0 in
    let front = done ++ gap g.0 in
    let two : text ≡ front ++ (spelling g.1 ++ spread gs) = e ∙ sym (append_assoc done (gap g.0) (spelling g.1 ++ spread gs)) in
    let three : text ≡ (front ++ spelling g.1) ++ spread gs = two ∙ sym (append_assoc front (spelling g.1) (spread gs)) in
    cut_here text front (length done) g.1 (toks gs) gs two q.0 (gap_blanks text done (spelling g.1 ++ spread gs) g.0 e) (cut_rest gs text (front ++ spelling g.1) (depth_past d g.1) three p.1)

pub cut_statement : (text : List ℕ) (xs : List Tok) → Spread text xs → CutAs text 0 xs
cut_statement text xs s =
    let t = s.first in
    let gs = s.rest in
    let h : are_plain 0 (t ∷ toks gs) ≡ true = ap (are_plain 0) (sym s.same) ∙ s.plain in
    let p = and_parts (is_plain t && may_stand 0 t) (are_plain (depth_past 0 t) (toks gs)) h in
    let q = and_parts (is_plain t) (may_stand 0 t) p.0 in
    subst (CutAs text 0) (sym s.same) (cut_here text [] 0 t (toks gs) gs s.text q.0 (blanks_none text 0) (cut_rest gs text (spelling t) (depth_past 0 t) s.text p.1))

-- no `::` stands in brackets, and so none is two tokens
colons_by : (c o : Bool) → not (c && o) ≡ true → (c && o) ≡ false
colons_by true true h = absurd (cc)
colons_by true false h = refl
colons_by false o h = refl

no_halves : (d : ℕ) (t : Tok) → is_plain t ≡ true → may_stand d t ≡ true → ((is_colons (kind_of t) && nat_lt 0 d) ≡ false) × (depth_behind d (kind_of t) ≡ depth_past d t)
no_halves d (word x) h m = (refl, refl)
no_halves d (integer n k) h m = (refl, refl)
no_halves d (literal x) h m = (refl, refl)
no_halves d (sign s) h m = (colons_by (is_colons (Fixed s)) (nat_lt 0 d) m, refl)
no_halves d over h m = absurd (cc)

pub whole_pieces : (text : List ℕ) (d : ℕ) (ps : List Piece) (ts : List Tok) → words_of text ps ≡ map word_is ts → are_plain d ts ≡ true → with_halves d ps ≡ ps
whole_pieces text d [] ts e h = refl
whole_pieces text d (p ∷ ps) [] e h = absurd (cc)
whole_pieces text d (p ∷ ps) (t ∷ ts) e h =
    let k = and_parts (is_plain t && may_stand d t) (are_plain (depth_past d t) ts) h in
    let q = and_parts (is_plain t) (may_stand d t) k.0 in
    let first : word_of text p ≡ word_is t = cc in
    let rest : words_of text ps ≡ map word_is ts = cc in
    let kind : p.kind ≡ kind_of t = ap (λ z. z.0) first in
    let n = no_halves d t q.0 q.1 in
    let one : halved d p ≡ p ∷ [] = ap (λ z. cond (is_colons z && nat_lt 0 d) (halves p) (p ∷ [])) kind ∙ ap (λ z. cond z (halves p) (p ∷ [])) n.0 in
    let depth : depth_behind d p.kind ≡ depth_past d t = ap (depth_behind d) kind ∙ n.1 in
    (λ i. one i ++ with_halves (depth i) ps) ∙ ap (λ z. p ∷ z) (whole_pieces text (depth_past d t) ps ts rest k.1)
