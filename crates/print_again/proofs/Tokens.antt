-- Words of other tokens that are the same but for places.
use Rattle.std.proofs.Common.{◌≡◌, ℕ, suc, List, [], ◌∷◌, ◌++◌, map, inl, inr, refl, ap, sym, ◌∙◌, subst}
use Rattle.reader_theory.specs.Words.{Mark, bare, Shallow}
use Rattle.reader_theory.specs.Levels.{mark}
use Rattle.reader_theory.specs.Refusals.{Reads}
use Rattle.fortran_tree.specs.Units.{Program}
use Rattle.fortran_grammar.specs.Tokens.{Tok, Token}
use Rattle.fortran_grammar.specs.Phrases as p
use Rattle.fortran_grammar.specs.Phrases.{Phrase, ◌▸◌, ◌∪◌, Words, canonical}
use Rattle.fortran_grammar.specs.ProgramGrammar as g
use Rattle.fortran_grammar.specs.ProgramGrammar.{Programs}
use Rattle.fortran_grammar.specs.Laws.{placeless, tok_of}
use Rattle.fortran_grammar.proofs.Canonical.{canon}
use Rattle.fortran_grammar.proofs.FairPrograms.{fair_program}
use Rattle.program_reader.proofs.Programs.{one_program}
use Rattle.print_again.specs.Unplaced as u
use Rattle.print_again.specs.Laws.{PlacesDontMatter, PlacesMayChange, CanonicalIsRead}
use Rattle.print_again.proofs.PlacedPrograms.{placed_program}

-- the one is the other but for places
abbrev Alike : List (Mark Token) → List (Mark Token) → Type 0
Alike [] [] = Unit {0}
Alike (m ∷ w) (n ∷ v) = (n.token.tok ≡ m.token.tok) × (n.deep ≡ m.deep) × Alike w v
Alike w v = ⊥

-- other tokens in the place of a word's
abbrev with_tokens : List (Mark Token) → List Token → List (Mark Token)
with_tokens (m ∷ w) (t ∷ ts) = record { token = t; deep = m.deep } ∷ with_tokens w ts
with_tokens w ts = []

alike_tokens : (w : List (Mark Token)) (ts : List Token) → map tok_of ts ≡ map tok_of (bare w) → Alike w (with_tokens w ts)
alike_tokens [] [] e = tt
alike_tokens [] (t ∷ ts) e = absurd (cc)
alike_tokens (m ∷ w) [] e = absurd (cc)
alike_tokens (m ∷ w) (t ∷ ts) e = let first : t.tok ≡ m.token.tok = cc in let rest : map tok_of ts ≡ map tok_of (bare w) = cc in (first, refl, alike_tokens w ts rest)

bare_tokens : (w : List (Mark Token)) (ts : List Token) → map tok_of ts ≡ map tok_of (bare w) → ts ≡ bare (with_tokens w ts)
bare_tokens [] [] e = refl
bare_tokens [] (t ∷ ts) e = absurd (cc)
bare_tokens (m ∷ w) [] e = absurd (cc)
bare_tokens (m ∷ w) (t ∷ ts) e = let rest : map tok_of ts ≡ map tok_of (bare w) = cc in ap (λ z. t ∷ z) (bare_tokens w ts rest)

shallow_tokens : (w : List (Mark Token)) (ts : List Token) → Shallow w → Shallow (with_tokens w ts)
shallow_tokens [] ts s = tt
shallow_tokens (m ∷ w) [] s = tt
shallow_tokens (m ∷ w) (t ∷ ts) s = (s.0, shallow_tokens w ts s.1)

record Parted (x y v : List (Mark Token)) : Type 0 where
  first : List (Mark Token)
  last : List (Mark Token)
  split : v ≡ first ++ last
  like_first : Alike x first
  like_last : Alike y last

parted : (x y v : List (Mark Token)) → Alike (x ++ y) v → Parted x y v
parted [] y v a = record { first = []; last = v; split = refl; like_first = tt; like_last = a }
parted (m ∷ x) y [] a = absurd a
parted (m ∷ x) y (n ∷ v) a =
    let r = parted x y v a.2 in
    record { first = n ∷ r.first; last = r.last; split = ap (λ z. n ∷ z) r.split; like_first = (a.0, a.1, r.like_first); like_last = r.like_last }

alone : (x : Tok) (l d : ℕ) (w v : List (Mark Token)) → Words (p.token x) l d w → Alike w v → Words (p.token x) l d v
alone x l d w v (at, e) a = one v (subst (λ z. Alike z v) e a)
  where
    one : (v : List (Mark Token)) → Alike (mark l d (record { tok = x; at = at }) ∷ []) v → Words (p.token x) l d v
    one [] b = absurd b
    one (n ∷ []) (f, k, r) = (n.token.at, λ i. record { token = record { tok = f i; at = n.token.at }; deep = k i } ∷ [])
    one (n ∷ m ∷ v) (f, k, r) = absurd r

like_words : (P : Phrase) (l d : ℕ) (w v : List (Mark Token)) → Words (placeless P) l d w → Alike w v → Words (placeless P) l d v
like_words p.nothing l d w v e a = none v (subst (λ z. Alike z v) e a)
  where
    none : (v : List (Mark Token)) → Alike [] v → v ≡ []
    none [] b = refl
    none (n ∷ v) b = absurd b
like_words (p.token x) l d w v e a = alone x l d w v e a
like_words (p.token_at at x) l d w v e a = alone x l d w v e a
like_words (P ▸ Q) l d w v (x, y, hx, hy, e) a =
    let r = parted x y v (subst (λ z. Alike z v) e a) in
    (r.first, r.last, like_words P l d x r.first hx r.like_first, like_words Q l d y r.last hy r.like_last, r.split)
like_words (P ∪ Q) l d w v (inl h) a = inl (like_words P l d w v h a)
like_words (P ∪ Q) l d w v (inr h) a = inr (like_words Q l d w v h a)
like_words (p.only b P) l d w v h a = (h.0, like_words P l d w v h.1 a)
like_words (p.deeper P) l d w v h a = like_words P l (suc d) w v h a
like_words (p.from at P) l d w v h a = like_words P l d w v h a

-- a word without its places
placeless_word : (P : Phrase) (l d : ℕ) (w : List (Mark Token)) → Words P l d w → Words (placeless P) l d w
placeless_word p.nothing l d w h = h
placeless_word (p.token x) l d w h = h
placeless_word (p.token_at at x) l d w h = (at, h)
placeless_word (P ▸ Q) l d w (x, y, hx, hy, e) = (x, y, placeless_word P l d x hx, placeless_word Q l d y hy, e)
placeless_word (P ∪ Q) l d w (inl h) = inl (placeless_word P l d w h)
placeless_word (P ∪ Q) l d w (inr h) = inr (placeless_word Q l d w h)
placeless_word (p.only b P) l d w h = (h.0, placeless_word P l d w h.1)
placeless_word (p.deeper P) l d w h = placeless_word P l (suc d) w h
placeless_word (p.from at P) l d w h = placeless_word P l d w h.1

-- tokens that are those of a word but for places
read_by : (limit : ℕ) (x : Program) (w : List (Mark Token)) (us : List Token) → Words (placeless (g.program x)) limit 0 w → Shallow w → map tok_of us ≡ map tok_of (bare w)
    → (y : Program) × Reads (Programs limit) us y × (u.program y ≡ u.program x)
read_by limit x w us h s e =
    let r = placed_program x limit 0 (with_tokens w us) (like_words (g.program x) limit 0 w (with_tokens w us) h (alike_tokens w us e)) in
    (r.0, (with_tokens w us, r.2, shallow_tokens w us s, bare_tokens w us e), r.1)

pub places_may_change : PlacesMayChange
places_may_change limit x ts us (w, h, s, e) k = read_by limit x w us (placeless_word (g.program x) limit 0 w h) s (k ∙ ap (map tok_of) e)

pub places_dont_matter : PlacesDontMatter
places_dont_matter limit x y ts us h k e =
    let r = places_may_change limit x ts us h (sym e) in
    sym (ap u.program (one_program limit us y r.0 k r.1) ∙ r.2)

pub canonical_is_read : CanonicalIsRead
canonical_is_read limit x ts us (w, h, s, e) k = let c = canon (g.program x) limit 0 w (fair_program limit x) h s in read_by limit x c.word us c.is_word c.shallow (k ∙ sym c.same)
