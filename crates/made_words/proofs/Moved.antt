-- Words that are spelled elsewhere and with other numbers: where the places of a phrase are moved and its numbers
-- changed, so are those of its words.
use Rattle.std.proofs.Common.{◌≡◌, ℕ, suc, true, List, [], ◌∷◌, ◌++◌, map, inl, inr, refl, ap, sym, ◌∙◌, subst, append_assoc}
use Rattle.caf_base.specs.declared.place.Pos.{Pos}
use Rattle.reader_theory.specs.Words.{Mark, bare, Shallow}
use Rattle.reader_theory.proofs.Marks.{bare_append, shallow_append}
use Rattle.fortran_tree.specs.Statements as s
use Rattle.fortran_tree.specs.Statements.{Statements}
use Rattle.fortran_grammar.specs.Tokens as t
use Rattle.fortran_grammar.specs.Tokens.{Tok, Token}
use Rattle.fortran_grammar.specs.Phrases as p
use Rattle.fortran_grammar.specs.Phrases.{Phrase, ◌▸◌, ◌∪◌, Words, FirstAt}
use Rattle.fortran_grammar.specs.StatementGrammar.{statements}
use Rattle.fortran_grammar.specs.Acceptance.{spelled}
use Rattle.fortran_grammar.proofs.Deciding.{exact}
use Rattle.made_tree.specs.MadeTree.{followed_by}

-- a token with another number
abbrev pub changed : (ℕ → ℕ) → Tok → Tok
changed h (t.word x) = t.word x
changed h (t.integer n k) = t.integer (h n) k
changed h (t.literal x) = t.literal x
changed h (t.sign x) = t.sign x
changed h t.over = t.over

-- and at another place
abbrev pub moved : (Pos → Pos) → (ℕ → ℕ) → Token → Token
moved g h y = record { tok = changed h y.tok; at = g y.at }

abbrev pub all_moved : (Pos → Pos) → (ℕ → ℕ) → List Token → List Token
all_moved g h ts = map (moved g h) ts

abbrev marks_moved : (Pos → Pos) → (ℕ → ℕ) → List (Mark Token) → List (Mark Token)
marks_moved g h [] = []
marks_moved g h (m ∷ w) = record { token = moved g h m.token; deep = m.deep } ∷ marks_moved g h w

abbrev pub phrase_moved : (Pos → Pos) → (ℕ → ℕ) → Phrase → Phrase
phrase_moved g h p.nothing = p.nothing
phrase_moved g h (p.token x) = p.token (changed h x)
phrase_moved g h (p.token_at at x) = p.token_at (g at) (changed h x)
phrase_moved g h (P ▸ Q) = phrase_moved g h P ▸ phrase_moved g h Q
phrase_moved g h (P ∪ Q) = phrase_moved g h P ∪ phrase_moved g h Q
phrase_moved g h (p.only b P) = p.only b (phrase_moved g h P)
phrase_moved g h (p.deeper P) = p.deeper (phrase_moved g h P)
phrase_moved g h (p.from at P) = p.from (g at) (phrase_moved g h P)

marks_append : (g : Pos → Pos) (h : ℕ → ℕ) (u v : List (Mark Token)) → marks_moved g h (u ++ v) ≡ marks_moved g h u ++ marks_moved g h v
marks_append g h [] v = refl
marks_append g h (m ∷ u) v = ap (λ w. record { token = moved g h m.token; deep = m.deep } ∷ w) (marks_append g h u v)

first_moved : (g : Pos → Pos) (h : ℕ → ℕ) (at : Pos) (w : List (Mark Token)) → FirstAt at w → FirstAt (g at) (marks_moved g h w)
first_moved g h at [] f = f
first_moved g h at (m ∷ w) f = ap g f

words_moved : (g : Pos → Pos) (h : ℕ → ℕ) (P : Phrase) (limit level : ℕ) (w : List (Mark Token)) → Words P limit level w → Words (phrase_moved g h P) limit level (marks_moved g h w)
words_moved g h p.nothing limit level w e = ap (marks_moved g h) e
words_moved g h (p.token x) limit level w (at, e) = (g at, ap (marks_moved g h) e)
words_moved g h (p.token_at at x) limit level w e = ap (marks_moved g h) e
words_moved g h (P ▸ Q) limit level w (u, v, a, b, e) =
    (marks_moved g h u, marks_moved g h v, words_moved g h P limit level u a, words_moved g h Q limit level v b, ap (marks_moved g h) e ∙ marks_append g h u v)
words_moved g h (P ∪ Q) limit level w (inl a) = inl (words_moved g h P limit level w a)
words_moved g h (P ∪ Q) limit level w (inr b) = inr (words_moved g h Q limit level w b)
words_moved g h (p.only c P) limit level w (e, a) = (e, words_moved g h P limit level w a)
words_moved g h (p.deeper P) limit level w a = words_moved g h P limit (suc level) w a
words_moved g h (p.from at P) limit level w (f, a) = (first_moved g h at w f, words_moved g h P limit level w a)

bare_moved : (g : Pos → Pos) (h : ℕ → ℕ) (w : List (Mark Token)) → all_moved g h (bare w) ≡ bare (marks_moved g h w)
bare_moved g h [] = refl
bare_moved g h (m ∷ w) = ap (λ ts. moved g h m.token ∷ ts) (bare_moved g h w)

shallow_moved : (g : Pos → Pos) (h : ℕ → ℕ) (w : List (Mark Token)) → Shallow w → Shallow (marks_moved g h w)
shallow_moved g h [] d = tt
shallow_moved g h (m ∷ w) d = (d.0, shallow_moved g h w d.1)

-- some tokens are a word of a phrase, where 64 levels may be open and none is
pub record Spells (P : Phrase) (ts : List Token) : Type 0 where
  pub word : List (Mark Token)
  pub is_word : Words P 64 0 word
  pub shallow : Shallow word
  pub same : ts ≡ bare word

pub by_test : (P : Phrase) (ts : List Token) → spelled P 64 ts ≡ true → Spells P ts
by_test P ts e = let (w, a, b, c) = (exact P 64 ts).0 e in record { word = w; is_word = a; shallow = b; same = c }

pub spells_moved : (g : Pos → Pos) (h : ℕ → ℕ) (P : Phrase) (ts : List Token) → Spells P ts → Spells (phrase_moved g h P) (all_moved g h ts)
spells_moved g h P ts x = record {
  word = marks_moved g h x.word;
  is_word = words_moved g h P 64 0 x.word x.is_word;
  shallow = shallow_moved g h x.word x.shallow;
  same = ap (all_moved g h) x.same ∙ bare_moved g h x.word;
}

pub spells_both : (P Q : Phrase) (ts us : List Token) → Spells P ts → Spells Q us → Spells (P ▸ Q) (ts ++ us)
spells_both P Q ts us x y = record {
  word = x.word ++ y.word;
  is_word = (x.word, y.word, x.is_word, y.is_word, refl);
  shallow = shallow_append x.word y.word x.shallow y.shallow;
  same = ap (λ z. z ++ us) x.same ∙ ap (λ z. bare x.word ++ z) y.same ∙ sym (bare_append x.word y.word);
}

pub spells_nothing : Spells p.nothing []
spells_nothing = record { word = []; is_word = refl; shallow = tt; same = refl }

-- statements behind statements
words_followed : (xs ys : Statements) (limit level : ℕ) (u v : List (Mark Token)) → Words (statements xs) limit level u → Words (statements ys) limit level v
    → Words (statements (followed_by xs ys)) limit level (u ++ v)
words_followed s.no_statements ys limit level u v e k = subst (λ z. Words (statements ys) limit level (z ++ v)) (sym e) k
words_followed (s.more_statements x xs) ys limit level u v (a, b, hx, hxs, e) k =
    (a, b ++ v, hx, words_followed xs ys limit level b v hxs k, ap (λ z. z ++ v) e ∙ append_assoc a b v)

pub spells_followed : (xs ys : Statements) (ts us : List Token) → Spells (statements xs) ts → Spells (statements ys) us → Spells (statements (followed_by xs ys)) (ts ++ us)
spells_followed xs ys ts us x y = record {
  word = x.word ++ y.word;
  is_word = words_followed xs ys 64 0 x.word y.word x.is_word y.is_word;
  shallow = shallow_append x.word y.word x.shallow y.shallow;
  same = ap (λ z. z ++ us) x.same ∙ ap (λ z. bare x.word ++ z) y.same ∙ sym (bare_append x.word y.word);
}
