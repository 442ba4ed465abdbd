-- A statement has one answer.
use Rattle.std.proofs.Common.{◌≡◌, ℕ, ◌+◌, ◌<◌, ◌≤◌, false, List, [], ◌∷◌, length, take, drop, map, Some, None, inl, inr, refl, ap, sym, ◌∙◌, subst, arith}
use Rattle.std.specs.Prelude.{slice_get, slice_index}
use Rattle.std.specs.List.{AllByRecursion}
use Rattle.std.proofs.lemmas.Bool.{cases_lt}
use Rattle.std.proofs.lemmas.List.Elements.{recursion_from_All}
use Rattle.caf_base.specs.declared.place.Pos.{Pos}
use Rattle.fortran_lines.specs.declared.stmt.Stmt.{Stmt}
use Rattle.fortran_tokens.specs.declared.token.Token.{Token}
use Rattle.fortran_tokens.specs.declared.token.TokenKind.{TokenKind}
use Rattle.fortran_tokens.specs.declared.fault.Excess.{Excess}
use Rattle.fortran_tokens.specs.declared.fault.TokenFault.{TokenFault}
use Rattle.fortran_tokens.specs.declared.cut.Piece.{Piece}
use Rattle.fortran_tokens.specs.declared.cut.Wrong.{Wrong}
use Rattle.fortran_tokens.specs.Bytes.{is_blank}
use Rattle.fortran_tokens.specs.Cuts.{IsLongest, IsToken, IsWrong, IsCut, AreBlanks, IsStopped, excess_of, distance_of}
use Rattle.fortran_tokens.specs.Tokens.{AreTokens, IsRefused, fault_at, piece_of, with_halves}
use Rattle.fortran_tokens.proofs.Same.{same_length, same_kind, begins_within, not_later, same_start, blanks_alone, one_cut}

-- at one place one thing is wrong
same_wrong : (text : List ℕ) (e f : Excess) → IsWrong text e → IsWrong text f → e ≡ f
same_wrong text e f (inl (n, s)) (inl (m, t)) = s ∙ sym t
same_wrong text e f (inl (n, s)) (inr (k, len, l, t)) = absurd (n k len l.within l.form)
same_wrong text e f (inr (k, len, l, t)) (inl (n, s)) = absurd (n k len l.within l.form)
same_wrong text e f (inr (k, m, h, s)) (inr (j, n, l, t)) =
    let size = same_length text k j m n h l in
    let kind = same_kind text k j m n h l in
    let both : Some e ≡ Some f = sym s ∙ (ap (λ i. excess_of k (take i text)) size ∙ (ap (λ z. excess_of z (take n text)) kind ∙ t)) in
    cc

-- where a token begins nothing is wrong
token_not_wrong : (text : List ℕ) (k : TokenKind) (n : ℕ) (e : Excess) → IsToken text k n → IsWrong text e → ⊥
token_not_wrong text k n e t (inl (none, s)) = none k n t.longest.within t.longest.form
token_not_wrong text k n e t (inr (j, m, l, s)) =
    let size = same_length text k j n m t.longest l in
    let kind = same_kind text k j n m t.longest l in
    let both : None ≡ Some e = sym t.allowed ∙ (ap (λ i. excess_of k (take i text)) size ∙ (ap (λ z. excess_of z (take m text)) kind ∙ s)) in
    cc

-- where no blank stands, blanks end
blanks_end : (text : List ℕ) (from i j : ℕ) → from ≤ i → is_blank (slice_index text i) ≡ false → AreBlanks text from j → j ≤ i
blanks_end text from i j h ink b = elim (cases_lt i j) [
  | inl less ↦ absurd (let blank = b.blanks i h less in let e = sym ink ∙ blank in cc)
  | inr le ↦ le
]

-- a text is cut as far as something is wrong
pub record IsStuck (text : List ℕ) (at : ℕ) (e : Excess) : Type 0 where
  pub within : at < length text
  pub ink : is_blank (slice_index text at) ≡ false
  pub wrong : IsWrong (drop at text) e

ordered : (text : List ℕ) (from to : ℕ) → AreBlanks text from to → from ≤ to
ordered text from to b = b.ordered

stuck_no_token : (text : List ℕ) (from a : ℕ) (e : Excess) (q : Piece) (n : ℕ) → AreBlanks text from a → IsStuck text a e → AreBlanks text from q.from → IsToken (drop q.from text) q.kind n → ⊥
stuck_no_token text from a e q n h w c t =
    let fits = begins_within text from q n t in
    let ho = h.ordered in
    let co = c.ordered in
    let one = not_later text from q.from a q.kind n co (omega arith) t.longest h in
    let two = blanks_end text from a q.from ho w.ink c in
    let same : q.from ≡ a = omega arith in
    token_not_wrong (drop a text) q.kind n e (subst (λ i. IsToken (drop i text) q.kind n) same t) w.wrong

-- two tokens that begin behind the same blanks end at one place
same_end : (text : List ℕ) (from : ℕ) (p q : Piece) (m n : ℕ) → AreBlanks text from p.from → p.to ≡ p.from + m → IsToken (drop p.from text) p.kind m → AreBlanks text from q.from → q.to ≡ q.from + n → IsToken (drop q.from text) q.kind n → p.to ≡ q.to
same_end text from p q m n b e t c f u =
    let start = same_start text from p q m n b c t u in
    let moved = subst (λ i. IsLongest (drop i text) q.kind n) (sym start) u.longest in
    let size = same_length (drop p.from text) p.kind q.kind m n t.longest moved in
    omega arith

one_stop : (text : List ℕ) (from : ℕ) (ps qs : List Piece) (a b : ℕ) (e f : Excess) → IsCut text from ps a → IsCut text from qs b → IsStuck text a e → IsStuck text b f → (a ≡ b) × (e ≡ f)
one_stop text from [] [] a b e f h k w v =
    let one = blanks_end text from a b (ordered text from a h) w.ink k in
    let two = blanks_end text from b a (ordered text from b k) v.ink h in
    let same : a ≡ b = omega arith in
    (same, same_wrong (drop b text) e f (subst (λ i. IsWrong (drop i text) e) same w.wrong) v.wrong)
one_stop text from [] (q ∷ qs) a b e f h (c, n, g, u, s) w v = absurd (stuck_no_token text from a e q n h w c u)
one_stop text from (p ∷ ps) [] a b e f (c, n, g, u, s) k w v = absurd (stuck_no_token text from b f p n k v c u)
one_stop text from (p ∷ ps) (q ∷ qs) a b e f (c, m, g, t, r) (d, n, i, u, s) w v =
    let end = same_end text from p q m n c g t d i u in
    one_stop text p.to ps qs a b e f r (subst (λ z. IsCut text z qs b) (sym end) s) w v

-- a text that is cut to its end is stuck nowhere
never_both : (text : List ℕ) (from : ℕ) (ps qs : List Piece) (a : ℕ) (e : Excess) → IsCut text from ps (length text) → IsCut text from qs a → IsStuck text a e → ⊥
never_both text from [] [] a e h k w =
    let fits = w.within in
    let one = blanks_end text from a (length text) (ordered text from a k) w.ink h in
    absurd (omega arith)
never_both text from [] (q ∷ qs) a e h k w = blanks_alone text from a q qs h k
never_both text from (p ∷ ps) [] a e (c, n, g, u, s) k w = stuck_no_token text from a e p n k w c u
never_both text from (p ∷ ps) (q ∷ qs) a e (c, m, g, t, r) (d, n, i, u, s) w =
    let end = same_end text from p q m n c g t d i u in
    never_both text p.to ps qs a e r (subst (λ z. IsCut text z qs a) (sym end) s) w

stuck : (text : List ℕ) (w : Wrong) → IsStopped text w → IsStuck text w.end w.excess
stuck text w h = record { within = h.within; ink = h.ink; wrong = h.wrong }

pub one_refusal : (s : Stmt) (f g : TokenFault) → IsRefused s f → IsRefused s g → f ≡ g
one_refusal s f g h k =
    let same = one_stop s.text 0 h.stopped.pieces k.stopped.pieces h.wrong.end k.wrong.end h.wrong.excess k.wrong.excess h.stopped.cut k.stopped.cut (stuck s.text h.wrong h.stopped) (stuck s.text k.wrong k.stopped) in
    let far : h.wrong.end + distance_of h.wrong.excess ≡ k.wrong.end + distance_of k.wrong.excess = ap (λ i. i + distance_of h.wrong.excess) same.0 ∙ ap (λ e. k.wrong.end + distance_of e) same.1 in
    let found : Some h.fault.place ≡ Some k.fault.place = sym h.fault.stands ∙ (ap (slice_get s.at) far ∙ k.fault.stands) in
    let place : h.fault.place ≡ k.fault.place = cc in
    h.fault.is ∙ (ap (λ e. fault_at e h.fault.place) same.1 ∙ (ap (fault_at k.wrong.excess) place ∙ sym k.fault.is))

same_token : (t u : Token) → t.kind ≡ u.kind → t.from ≡ u.from → t.to ≡ u.to → t.at ≡ u.at → t ≡ u
same_token t u a b c d =
    ap (λ k. let r : Token = record { kind = k; from = t.from; to = t.to; at = t.at } in r) a
    ∙ (ap (λ i. let r : Token = record { kind = u.kind; from = i; to = t.to; at = t.at } in r) b
    ∙ (ap (λ i. let r : Token = record { kind = u.kind; from = u.from; to = i; at = t.at } in r) c ∙ ap (λ p. let r : Token = record { kind = u.kind; from = u.from; to = u.to; at = p } in r) d))

-- tokens are known by their pieces and the places of the bytes
same_tokens : (at : List Pos) (ts us : List Token) → map piece_of ts ≡ map piece_of us → AllByRecursion (λ t. slice_get at t.from ≡ Some t.at) ts → AllByRecursion (λ t. slice_get at t.from ≡ Some t.at) us → ts ≡ us
same_tokens at [] [] e h k = refl
same_tokens at [] (u ∷ us) e h k = absurd (cc)
same_tokens at (t ∷ ts) [] e h k = absurd (cc)
same_tokens at (t ∷ ts) (u ∷ us) e (p, h) (q, k) =
    let first : piece_of t ≡ piece_of u = cc in
    let others : map piece_of ts ≡ map piece_of us = cc in
    let from : t.from ≡ u.from = ap (λ x. x.from) first in
    let found : Some t.at ≡ Some u.at = sym p ∙ (ap (slice_get at) from ∙ q) in
    let place : t.at ≡ u.at = cc in
    ap (λ x. x ∷ ts) (same_token t u (ap (λ x. x.kind) first) from (ap (λ x. x.to) first) place) ∙ ap (λ xs. u ∷ xs) (same_tokens at ts us others h k)

pub one_tokens : (s : Stmt) (ts us : List Token) → AreTokens s ts → AreTokens s us → ts ≡ us
one_tokens s ts us h k =
    let same = one_cut s.text 0 h.cut.0 k.cut.0 h.cut.1 k.cut.1 in
    let pieces = h.cut.2 ∙ (ap (with_halves 0) same ∙ sym k.cut.2) in
    same_tokens s.at ts us pieces (recursion_from_All (λ t. slice_get s.at t.from ≡ Some t.at) ts h.places) (recursion_from_All (λ t. slice_get s.at t.from ≡ Some t.at) us k.places)

pub tokens_or_refusal : (s : Stmt) (ts : List Token) (f : TokenFault) → AreTokens s ts → IsRefused s f → ⊥
tokens_or_refusal s ts f h k = never_both s.text 0 h.cut.0 k.stopped.pieces k.wrong.end k.wrong.excess h.cut.1 k.stopped.cut (stuck s.text k.wrong k.stopped)
