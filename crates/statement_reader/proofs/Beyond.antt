-- Where more levels are open than may be, each token is too deep, and so a language is read exactly by refusing its
-- first token.
use Rattle.std.proofs.Common.{◌≡◌, ℕ, suc, ◌<◌, Bool, true, List, [], ◌∷◌, ◌++◌, inl, inr, ap, sym, subst, arith}
use Rattle.std.proofs.lemmas.Bool.{lt-ltb}
use Rattle.reader_theory.specs.Words.{Mark}
use Rattle.reader_theory.specs.Levels.{mark}
use Rattle.reader_theory.specs.Readers.{sunk}
use Rattle.reader_theory.specs.Exactness.{Heads, Sunken, Exact}
use Rattle.reader_theory.proofs.Deep.{exact_sunk}
use Rattle.fortran_grammar.specs.Tokens.{Token}
use Rattle.fortran_grammar.specs.Phrases as p
use Rattle.fortran_grammar.specs.Phrases.{Phrase, Words, ◌▸◌, ◌∪◌}

-- every token is too deep
abbrev pub AllDeep : List (Mark Token) → Type 0
AllDeep [] = Unit {0}
AllDeep (m ∷ w) = (m.deep ≡ true) × AllDeep w

both_deep : (u v : List (Mark Token)) → AllDeep u → AllDeep v → AllDeep (u ++ v)
both_deep [] v h k = k
both_deep (m ∷ u) v h k = (h.0, both_deep u v h.1 k)

pub deep_words : (P : Phrase) (l d : ℕ) (w : List (Mark Token)) → l < d → Words P l d w → AllDeep w
deep_words p.nothing l d w le h = subst AllDeep (sym h) tt
deep_words (p.token x) l d w le (at, h) = subst AllDeep (sym h) (lt-ltb l d le, tt)
deep_words (p.token_at at x) l d w le h = subst AllDeep (sym h) (lt-ltb l d le, tt)
deep_words (P ▸ Q) l d w le (u, v, h, k, split) = subst AllDeep (sym split) (both_deep u v (deep_words P l d u le h) (deep_words Q l d v le k))
deep_words (P ∪ Q) l d w le (inl h) = deep_words P l d w le h
deep_words (P ∪ Q) l d w le (inr h) = deep_words Q l d w le h
deep_words (p.only b P) l d w le h = deep_words P l d w le h.1
deep_words (p.deeper P) l d w le h = deep_words P l (suc d) w (omega arith) h
deep_words (p.from at P) l d w le h = deep_words P l d w le h.1

-- each word begins with a token that passes, and each such token begins a word
module _ {A : Type 0} (L : A → List (Mark Token) → Type 0) (test : Token → Bool) (l d : ℕ) (le : l < d) (deep : (b : A) (w : List (Mark Token)) → L b w → AllDeep w) (heads : (b : A) (w : List (Mark Token)) → L b w → Heads test w) (begins : (y : Token) → test y ≡ true → (b : A) × (v : List (Mark Token)) × L b (mark l d y ∷ v)) (some : A) (some_word : List (Mark Token)) (is_some : L some some_word) where
  pub exact_beyond : (more : Token → Bool) → Exact L more (sunk test)
  exact_beyond = exact_sunk L test some some_word is_some starts
      (λ y i. let q = begins y i in (q.0, q.1, subst (λ m. L q.0 (m ∷ q.1)) (ap (λ b. record { token = y; deep = b }) (lt-ltb l d le)) q.2))
    where
      both : (w : List (Mark Token)) → AllDeep w → Heads test w → Sunken test w
      both [] h k = k
      both (m ∷ w) h k = (k, h.0)

      starts : (b : A) (w : List (Mark Token)) → L b w → Sunken test w
      starts b w h = both w (deep b w h) (heads b w h)
