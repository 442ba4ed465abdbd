-- A reader that reaches the end behind one token has a word that begins with it, at every level.
use Rattle.std.proofs.Common.{◌≡◌, ℕ, Bool, true, false, cond, List, [], ◌∷◌, ◌++◌, refl, ap, sym, ◌∙◌, subst, append-nil}
use Rattle.std.proofs.lemmas.Bool.{false≢true}
use Rattle.reader_theory.specs.Words.{Mark, bare, expected, Verdict, fault}
use Rattle.reader_theory.specs.Exactness.{Tells, Exact}
use Rattle.reader_theory.proofs.Marks.{bare_append}
use Rattle.fortran_grammar.specs.Tokens as t
use Rattle.fortran_grammar.specs.Tokens.{Tok, Token}
use Rattle.fortran_grammar.specs.Phrases.{Phrase, Words}
use Rattle.expr_reader.specs.Tests.{is_key}
use Rattle.statement_reader.specs.Families.{is_one_of}
use Rattle.statement_reader.proofs.Families.{key_tok}
use Rattle.expr_reader.proofs.Phrases.{Of}
use Rattle.expr_reader.proofs.Moving.{elsewhere}

-- a word that begins with this token
abbrev pub BeginsWith : {A : Type 0} → (A → Phrase) → ℕ → ℕ → Token → Type 0
BeginsWith {A} X l d y = (b : A) × (m : Mark Token) × (v : List (Mark Token)) × (m.token ≡ y) × Words (X b) l d (m ∷ v)

module _ {A : Type 0} (X : A → Phrase) (l d k e : ℕ) (more : Token → Bool) (r : List Token → Verdict Token A) (x : Exact (Of X k e) more r) (y : Token) where
  by_word : (b : A) (moved : List (Mark Token)) (rest : List Token) → Words (X b) l d moved → bare moved ≡ y ∷ rest → BeginsWith X l d y
  by_word b [] rest o same = absurd (cc)
  by_word b (m ∷ v) rest o same = (b, m, v, (let first : m.token ≡ y = cc in first), o)

  by_front : (b : A) (front back : List (Mark Token)) → Words (X b) k e (front ++ back) → y ∷ [] ≡ bare front ++ [] → BeginsWith X l d y
  by_front b front back o split =
      let q = elsewhere (X b) k e l d (front ++ back) o in
      by_word b q.moved (bare back) q.is_word (q.same ∙ (bare_append front back ∙ ap (λ z. z ++ bare back) (sym (split ∙ append-nil (bare front)))))

  pub eaten : r (y ∷ []) ≡ fault expected [] → BeginsWith X l d y
  eaten is = let q = subst (Tells (Of X k e) r (y ∷ [])) is (x.tells (y ∷ [])) in by_front q.tree q.front q.back q.is_word q.split

-- what holds of some keywords holds of a token that is one of them
abbrev pub OfEach : (Tok → Type 0) → List (List ℕ) → Type 0
OfEach Q [] = Unit {0}
OfEach Q (k ∷ ks) = Q (t.word k) × OfEach Q ks

pub by_keys : (ks : List (List ℕ)) (Q : Tok → Type 0) → OfEach Q ks → (y : Token) → is_one_of ks y ≡ true → Q y.tok
by_keys [] Q o y e = absurd (false≢true e)
by_keys (k ∷ ks) Q o y e = by_test (is_key k y) refl e (λ i. by_keys ks Q o.1 y i)
  where
    by_test : (b : Bool) → is_key k y ≡ b → cond b true (is_one_of ks y) ≡ true → (is_one_of ks y ≡ true → Q y.tok) → Q y.tok
    by_test true i e later = subst Q (sym (key_tok k y.tok i)) o.0
    by_test false i e later = later e
