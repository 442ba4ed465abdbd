-- The canonical tokens of a phrase that has a word are a word of it, where each of its alternatives allows that.
use Rattle.std.proofs.Common.{◌≡◌, ℕ, suc, false, nat_lt, List, [], ◌∷◌, ◌++◌, Option, Some, None, map, inl, inr, refl, ap, ◌∙◌, subst}
use Rattle.std.proofs.lemmas.List.{map-append}
use Rattle.caf_base.specs.declared.place.Pos.{Pos}
use Rattle.reader_theory.specs.Words.{Mark, bare, Shallow}
use Rattle.reader_theory.specs.Levels.{mark}
use Rattle.fortran_tokens.specs.declared.token.Sign.TheVariants.{OpenSquare, CloseSquare, OpenArray, CloseArray}
use Rattle.fortran_grammar.specs.Tokens.{Tok, Token, word}
use Rattle.fortran_grammar.specs.Phrases as p
use Rattle.fortran_grammar.specs.Phrases.{Phrase, ◌▸◌, ◌∪◌, Words, FirstAt, canonical, key, sign, joined, square, optional, followed, listed, maybe_listed, repeated}
use Rattle.fortran_grammar.specs.Laws.{placeless, tok_of}
use Rattle.reader_theory.proofs.Marks.{bare_append, shallow_append, shallow_front, shallow_back}

pub record Canon (P : Phrase) (l d : ℕ) : Type 0 where
  pub word : List (Mark Token)
  pub is_word : Words (placeless P) l d word
  pub shallow : Shallow word
  pub same : map tok_of (bare word) ≡ canonical P

-- where a second alternative has a word, the canonical tokens of the first are one of the first
abbrev pub Fair : Phrase → ℕ → ℕ → Type 0
Fair p.nothing l d = Unit {0}
Fair (p.token x) l d = Unit {0}
Fair (p.token_at at x) l d = Unit {0}
Fair (P ▸ Q) l d = Fair P l d × Fair Q l d
Fair (P ∪ Q) l d = Fair P l d × ((w : List (Mark Token)) → Words Q l d w → Shallow w → Canon P l d)
Fair (p.only b P) l d = Fair P l d
Fair (p.deeper P) l d = Fair P l (suc d)
Fair (p.from at P) l d = Fair P l d

nowhere : Pos
nowhere = record { line = 0; col = 0 }

pub canon_nothing : (l d : ℕ) → Canon p.nothing l d
canon_nothing l d = record { word = []; is_word = refl; shallow = tt; same = refl }

pub canon_token : (x : Tok) (l d : ℕ) → nat_lt l d ≡ false → Canon (p.token x) l d
canon_token x l d o = record { word = mark l d (record { tok = x; at = nowhere }) ∷ []; is_word = (nowhere, refl); shallow = (o, tt); same = refl }

pub canon_at : (at : Pos) (x : Tok) (l d : ℕ) → nat_lt l d ≡ false → Canon (p.token_at at x) l d
canon_at at x l d o = record { word = mark l d (record { tok = x; at = nowhere }) ∷ []; is_word = (nowhere, refl); shallow = (o, tt); same = refl }

pub canon_both : (P Q : Phrase) (l d : ℕ) → Canon P l d → Canon Q l d → Canon (P ▸ Q) l d
canon_both P Q l d a b = record {
  word = a.word ++ b.word;
  is_word = (a.word, b.word, a.is_word, b.is_word, refl);
  shallow = shallow_append a.word b.word a.shallow b.shallow;
  same = ap (map tok_of) (bare_append a.word b.word) ∙ map-append tok_of (bare a.word) (bare b.word) ∙ ap (λ x. x ++ map tok_of (bare b.word)) a.same ∙ ap (λ x. canonical P ++ x) b.same;
}

-- a token that isn't too deep stands in no level too deep
pub opened : (x : Tok) (l d : ℕ) (w : List (Mark Token)) → Words (p.token x) l d w → Shallow w → nat_lt l d ≡ false
opened x l d w h s = (subst Shallow h.1 s).0

opened_at : (at : Pos) (x : Tok) (l d : ℕ) (w : List (Mark Token)) → Words (p.token_at at x) l d w → Shallow w → nat_lt l d ≡ false
opened_at at x l d w h s = (subst Shallow h s).0

pub canon : (P : Phrase) (l d : ℕ) (w : List (Mark Token)) → Fair P l d → Words P l d w → Shallow w → Canon P l d
canon p.nothing l d w f h s = canon_nothing l d
canon (p.token x) l d w f h s = canon_token x l d (opened x l d w h s)
canon (p.token_at at x) l d w f h s = canon_at at x l d (opened_at at x l d w h s)
canon (P ▸ Q) l d w f (u, v, hu, hv, e) s =
    let c : Shallow (u ++ v) = subst Shallow e s in
    canon_both P Q l d (canon P l d u f.0 hu (shallow_front u v c)) (canon Q l d v f.1 hv (shallow_back u v c))
canon (P ∪ Q) l d w f (inl h) s =
    let c = canon P l d w f.0 h s in
    record { word = c.word; is_word = inl c.is_word; shallow = c.shallow; same = c.same }
canon (P ∪ Q) l d w f (inr h) s =
    let c = f.1 w h s in
    record { word = c.word; is_word = inl c.is_word; shallow = c.shallow; same = c.same }
canon (p.only b P) l d w f h s =
    let c = canon P l d w f h.1 s in
    record { word = c.word; is_word = (h.0, c.is_word); shallow = c.shallow; same = c.same }
canon (p.deeper P) l d w f h s =
    let c = canon P l (suc d) w f h s in
    record { word = c.word; is_word = c.is_word; shallow = c.shallow; same = c.same }
canon (p.from at P) l d w f h s =
    let c = canon P l d w f h.1 s in
    record { word = c.word; is_word = c.is_word; shallow = c.shallow; same = c.same }

-- The alternatives that the grammar has.

pub fair_joined : (j k : List ℕ) (l d : ℕ) → Fair (joined j k) l d
fair_joined j k l d = (
  (tt, tt),
  λ w h s.
      let o = opened (word (j ++ k)) l d w h s in canon_both (key j) (key k) l d (canon_token (word j) l d o) (canon_token (word k) l d o),
)

canon_square : (P : Phrase) (l d : ℕ) (w : List (Mark Token)) → Fair P l d → Words (sign OpenArray ▸ P ▸ sign CloseArray) l d w → Shallow w
    → Canon (sign OpenSquare ▸ P ▸ sign CloseSquare) l d
canon_square P l d w f (u, v, hu, (x, y, hx, hy, k), e) s =
    let c : Shallow (u ++ v) = subst Shallow e s in
    let b : Shallow (x ++ y) = subst Shallow k (shallow_back u v c) in
    let o = opened _ l d u hu (shallow_front u v c) in
    canon_both (sign OpenSquare) (P ▸ sign CloseSquare) l d (canon_token _ l d o)
    (canon_both P (sign CloseSquare) l d (canon P l d x f hx (shallow_front x y b)) (canon_token _ l d o))

pub fair_square : (P : Phrase) (l d : ℕ) → Fair P l (suc d) → Fair (square P) l d
fair_square P l d f = ((tt, (f, tt)), λ w h s. canon_square P l (suc d) w f h s)

pub fair_optional : {A : Type 0} (P : A → Phrase) (l d : ℕ) → ((a : A) → Fair (P a) l d) → (o : Option A) → Fair (optional P o) l d
fair_optional P l d f None = tt
fair_optional P l d f (Some a) = f a

pub fair_followed : {A : Type 0} (P : A → Phrase) (l d : ℕ) → ((a : A) → Fair (P a) l d) → (xs : List A) → Fair (followed P xs) l d
fair_followed P l d f [] = tt
fair_followed P l d f (a ∷ more) = (tt, (f a, fair_followed P l d f more))

pub fair_listed : {A : Type 0} (P : A → Phrase) (l d : ℕ) → ((a : A) → Fair (P a) l d) → (xs : List A) → Fair (listed P xs) l d
fair_listed P l d f [] = tt
fair_listed P l d f (a ∷ more) = (f a, fair_followed P l d f more)

pub fair_maybe_listed : {A : Type 0} (P : A → Phrase) (l d : ℕ) → ((a : A) → Fair (P a) l d) → (xs : List A) → Fair (maybe_listed P xs) l d
fair_maybe_listed P l d f [] = tt
fair_maybe_listed P l d f (a ∷ more) = (f a, fair_followed P l d f more)

pub fair_repeated : {A : Type 0} (P : A → Phrase) (l d : ℕ) → ((a : A) → Fair (P a) l d) → (xs : List A) → Fair (repeated P xs) l d
fair_repeated P l d f [] = tt
fair_repeated P l d f (a ∷ more) = (f a, fair_repeated P l d f more)
