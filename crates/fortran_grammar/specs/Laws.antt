-- What is proved of the grammar.
use Rattle.std.specs.Prelude.{ℕ, ◌≡◌, ◌↔◌, true, List, map}
use Rattle.reader_theory.specs.Words.{Mark, bare, Shallow}
use Rattle.reader_theory.specs.Refusals.{Reads}
use Rattle.fortran_tree.specs.Units.{Program}
use Rattle.fortran_grammar.specs.Tokens.{Tok, Token}
use Rattle.fortran_grammar.specs.Phrases as p
use Rattle.fortran_grammar.specs.Phrases.{Phrase, ◌▸◌, ◌∪◌, Words, canonical}
use Rattle.fortran_grammar.specs.Acceptance.{spelled}
use Rattle.fortran_grammar.specs.ProgramGrammar.{program, Programs}

-- a phrase without its places
abbrev pub placeless : Phrase → Phrase
placeless p.nothing = p.nothing
placeless (p.token x) = p.token x
placeless (p.token_at at x) = p.token x
placeless (P ▸ Q) = placeless P ▸ placeless Q
placeless (P ∪ Q) = placeless P ∪ placeless Q
placeless (p.only b P) = p.only b (placeless P)
placeless (p.deeper P) = p.deeper (placeless P)
placeless (p.from at P) = placeless P

-- the tokens without their places
abbrev pub tok_of : Token → Tok
tok_of y = y.tok

-- the test says exactly which tokens are a word of the phrase, in which no token stands too deep
abbrev pub TestIsExact : Type 0
TestIsExact = (P : Phrase) (limit : ℕ) (ts : List Token)
    → (spelled P limit ts ≡ true) ↔ ((w : List (Mark Token)) × Words P limit 0 w × Shallow w × (ts ≡ bare w))

-- where some tokens are read as a program, its canonical tokens are read as it too, but for places
abbrev pub CanonicalIsAllowed : Type 0
CanonicalIsAllowed = (limit : ℕ) (x : Program) (ts : List Token) → Reads (Programs limit) ts x
    → (w : List (Mark Token)) × Words (placeless (program x)) limit 0 w × Shallow w × (map tok_of (bare w) ≡ canonical (program x))
