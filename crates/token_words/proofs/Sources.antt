-- Statements one behind the other.
use Rattle.std.proofs.Common.{◌≡◌, ℕ, zero, suc, ◌+◌, ◌<◌, List, [], ◌∷◌, ◌++◌, take, drop, length, get_or, Some, refl, ap, sym, ◌∙◌, subst, append_assoc, append-nil, arith}
use Rattle.std.specs.Prelude.{slice_get}
use Rattle.caf_base.specs.declared.refusal.Refusal.{Refusal}
use Rattle.caf_base.specs.declared.refusal.Refusal.TheVariants as refusals
use Rattle.fortran_lines.specs.Causes.{IfCause}
use Rattle.fortran_lines.specs.declared.stmt.Stmt.{Stmt}
use Rattle.fortran_tokens.specs.declared.fault.TokenFault.{TokenFault}
use Rattle.fortran_tokens.specs.declared.token.Token.{Token as Cut}
use Rattle.fortran_tokens.specs.Tokens.{AreTokens, IsRefused}
use Rattle.fortran_tokens.proofs.OneAnswer.{one_tokens, tokens_or_refusal}
use Rattle.fortran_grammar.specs.Tokens.{Token}
use Rattle.expr_reader.specs.Plain.{seen}
use Rattle.token_words.specs.Words.{AreSeen, AreWords, IsFirstRefused, just_past, last_end}

-- one statement more
pub one_more : (ss : List Stmt) (s : Stmt) (ts : List Cut) (ys us : List Token) → AreWords ss ys → AreTokens s ts → AreSeen s ts us → AreWords (ss ++ s ∷ []) (ys ++ us)
one_more [] s ts ys us e h k = (ts, us, [], h, k, refl, ap (λ z. z ++ us) e ∙ sym (append-nil us))
one_more (z ∷ zs) s ts ys us (xs, vs, ws, a, b, c, d) h k = (xs, vs, ws ++ us, a, b, one_more zs s ts ws us c h k, ap (λ w. w ++ us) d ∙ append_assoc vs ws us)

-- one answer
seen_once : (s : Stmt) (ts : List Cut) (us vs : List Token) → AreSeen s ts us → AreSeen s ts vs → us ≡ vs
seen_once s [] us vs e f = e ∙ sym f
seen_once s (t ∷ ts) us vs (p, a, b) (q, c, d) =
    let found : Some p ≡ Some q = sym a ∙ c in
    let place : p ≡ q = cc in
    b ∙ (ap (λ z. seen s.text (just_past z) (t ∷ ts)) place ∙ sym d)

pub words_once : (ss : List Stmt) (xs ys : List Token) → AreWords ss xs → AreWords ss ys → xs ≡ ys
words_once [] xs ys e f = e ∙ sym f
words_once (s ∷ ss) xs ys (ts, us, vs, a, b, c, d) (rs, ms, ns, h, k, l, m) =
    let same = one_tokens s ts rs a h in
    let first = seen_once s rs us ms (subst (λ z. AreSeen s z us) same b) k in
    d ∙ (ap (λ z. z ++ vs) first ∙ (ap (λ z. ms ++ z) (words_once ss vs ns c l) ∙ sym m))

pub never_both : (ss : List Stmt) (xs : List Token) (f : TokenFault) → AreWords ss xs → IsFirstRefused ss f → ⊥
never_both ss xs f h r = at_split r.before xs (subst (λ z. AreWords z xs) r.split h)
  where
    at_split : (front : List Stmt) (ys : List Token) → AreWords (front ++ r.stmt ∷ r.behind) ys → ⊥
    at_split [] ys (ts, us, vs, a, b, c, d) = tokens_or_refusal r.stmt ts f a r.refused
    at_split (s ∷ ss) ys (ts, us, vs, a, b, c, d) = at_split ss vs c

-- the first statement that can't be cut
pub refused_here : (ss : List Stmt) (i : ℕ) (s : Stmt) (ys : List Token) (r : Refusal TokenFault) → ss ≡ take i ss ++ s ∷ drop (i + 1) ss → AreWords (take i ss) ys → IfCause r (λ f. IsRefused s f) → IfCause r (λ f. IsFirstRefused ss f)
refused_here ss i s ys refusals.NoMemory e h k = tt
refused_here ss i s ys (refusals.Cause f) e h k = record { before = take i ss; stmt = s; behind = drop (i + 1) ss; split = e; words = ys; cut = h; refused = k }

-- the statement at a place, and those up to it
pub item_here : (ss : List Stmt) (i : ℕ) (s : Stmt) → i < length ss → s ≡ get_or ss i s → ss ≡ take i ss ++ s ∷ drop (i + 1) ss
item_here [] i s h e = absurd (omega arith)
item_here (x ∷ ss) zero s h e = ap (λ z. z ∷ ss) (sym e)
item_here (x ∷ ss) (suc i) s h e =
    let next : suc i + 1 ≡ suc (i + 1) = omega arith in
    ap (λ z. x ∷ z) (item_here ss i s (omega arith) e) ∙ ap (λ n. x ∷ (take i ss ++ s ∷ drop n (x ∷ ss))) (sym next)

pub taken_more : (ss : List Stmt) (i : ℕ) (s : Stmt) → i < length ss → s ≡ get_or ss i s → take (i + 1) ss ≡ take i ss ++ s ∷ []
taken_more [] i s h e = absurd (omega arith)
taken_more (x ∷ ss) zero s h e = ap (λ z. z ∷ []) (sym e)
taken_more (x ∷ ss) (suc i) s h e =
    let next : suc i + 1 ≡ suc (i + 1) = omega arith in
    ap (λ n. take n (x ∷ ss)) next ∙ ap (λ z. x ∷ z) (taken_more ss i s (omega arith) e)
