-- A reader that keeps the place of the first token is exact where the reader is.
use Rattle.std.proofs.Common.{◌≡◌, Bool, true, false, cond, List, [], ◌∷◌, ◌++◌, refl, ap, sym, ◌∙◌, subst}
use Rattle.caf_base.specs.declared.place.Pos.{Pos}
use Rattle.reader_theory.specs.Words.{Mark, bare, Cause, expected, too_deep, Verdict, found, fault}
use Rattle.reader_theory.specs.Readers.{turned}
use Rattle.reader_theory.specs.Exactness.{judge, Local, Tells, Heads, Exact}
use Rattle.fortran_grammar.specs.Tokens.{Token}
use Rattle.fortran_grammar.specs.Phrases.{FirstAt}
use Rattle.expr_reader.specs.Reading.{Reader}
use Rattle.expr_reader.specs.Tests.{nowhere, Placed, placed}

-- the place of the first token
abbrev pub place_in : List Token → Pos
place_in [] = nowhere
place_in (x ∷ ts) = x.at

abbrev placed_by : {A B : Type 0} → (Pos → A → B) → Reader A → List Token → Verdict Token B
placed_by f r ts = turned (f (place_in ts)) (r ts)

placed_is : {A B : Type 0} (f : Pos → A → B) (r : Reader A) (ts : List Token) → placed f r ts ≡ placed_by f r ts
placed_is f r [] = refl
placed_is f r (x ∷ ts) = refl

module _ {A B : Type 0} (f : Pos → A → B) (L : A → List (Mark Token) → Type 0) (test : Token → Bool) (heads : (a : A) (w : List (Mark Token)) → L a w → Heads test w) (more : Token → Bool) (r : Reader A) (x : Exact L more r) where
  -- a word has a first token, and what begins with a word begins at its place
  first_at : (w v : List (Mark Token)) → Heads test w → FirstAt (place_in (bare w)) (w ++ v)
  first_at [] v h = absurd h
  first_at (m ∷ w) v h = refl

  same_place : (p : Pos) (w : List (Mark Token)) (rest : List Token) → FirstAt p w → place_in (bare w ++ rest) ≡ p
  same_place p [] rest h = absurd h
  same_place p (m ∷ w) rest h = h

  made : (a : A) (w : List (Mark Token)) → L a w → Placed f L (f (place_in (bare w)) a) w
  made a w h = (place_in (bare w), a, refl, whole w (heads a w h), h)
    where
      whole : (w : List (Mark Token)) → Heads test w → FirstAt (place_in (bare w)) w
      whole [] h = absurd h
      whole (m ∷ w) h = refl

  in_front : (w : List (Mark Token)) (rest : List Token) → Heads test w → place_in (bare w ++ rest) ≡ place_in (bare w)
  in_front [] rest h = absurd h
  in_front (m ∷ w) rest h = refl

  place_of_front : (front : List Token) (y : Token) (u v : List Token) → place_in (front ++ y ∷ u) ≡ place_in (front ++ y ∷ v)
  place_of_front [] y u v = refl
  place_of_front (z ∷ front) y u v = refl

  found_alone : (ts front : List Token) (a : A) (rest : List Token) → ts ≡ front ++ rest → Local r front (found a rest) → Local (placed f r) front (found (f (place_in ts) a) rest)
  found_alone ts front a [] e h = tt
  found_alone ts front a (y ∷ rest) e h = λ v.
      placed_is f r (front ++ y ∷ v) ∙ (ap (turned (f (place_in (front ++ y ∷ v)))) (h v) ∙ ap (λ p. found (f p a) (y ∷ v)) (place_of_front front y v rest ∙ ap place_in (sym e)))

  fault_alone : (front : List Token) (c : Cause) (rest : List Token) → Local r front (fault c rest) → Local (placed f r) front (fault c rest)
  fault_alone front c [] h = tt
  fault_alone front c (y ∷ rest) h = λ v. placed_is f r (front ++ y ∷ v) ∙ ap (turned (f (place_in (front ++ y ∷ v)))) (h v)

  tells_so : (ts : List Token) (v : Verdict Token A) → Tells L r ts v → Tells (Placed f L) (placed f r) ts (turned (f (place_in ts)) v)
  tells_so ts (found a rest) s = record {
    word = s.word;
    is_word = subst (λ p. Placed f L (f p a) s.word) (sym (ap place_in s.split ∙ in_front s.word rest (heads a s.word s.is_word))) (made a s.word s.is_word);
    shallow = s.shallow;
    split = s.split;
    alone = found_alone ts (bare s.word) a rest s.split s.alone;
  }
  tells_so ts (fault expected rest) s = record {
    tree = f (place_in (bare (s.front ++ s.back))) s.tree;
    front = s.front;
    back = s.back;
    is_word = made s.tree (s.front ++ s.back) s.is_word;
    shallow = s.shallow;
    split = s.split;
    alone = fault_alone (bare s.front) expected rest s.alone;
  }
  tells_so ts (fault too_deep rest) s = record {
    tree = f (place_in (bare (s.front ++ s.at ∷ s.back))) s.tree;
    front = s.front;
    at = s.at;
    back = s.back;
    behind = s.behind;
    is_word = made s.tree (s.front ++ s.at ∷ s.back) s.is_word;
    shallow = s.shallow;
    deep = s.deep;
    is_rest = s.is_rest;
    split = s.split;
    alone = fault_alone (bare s.front) too_deep rest s.alone;
  }

  turned_judge : (p : Pos) (a : A) (w : List (Mark Token)) (rest : List Token) → turned (f p) (judge w a rest) ≡ judge w (f p a) rest
  turned_judge p a [] rest = refl
  turned_judge p a (m ∷ w) rest = elim m.deep as (λ d. turned (f p) (cond d (fault too_deep (m.token ∷ bare w ++ rest)) (judge w a rest)) ≡ cond d (fault too_deep (m.token ∷ bare w ++ rest)) (judge w (f p a) rest)) [ true ↦ refl | false ↦ turned_judge p a w rest ]

  pub exact_placed : Exact (Placed f L) more (placed f r)
  exact_placed = record {
    tells = λ ts. subst (Tells (Placed f L) (placed f r) ts) (sym (placed_is f r ts)) (tells_so ts (r ts) (x.tells ts));
    given = λ b w rest (p, a, e, there, h) stops.
        placed_is f r (bare w ++ rest) ∙ (ap (λ q. turned (f q) (r (bare w ++ rest))) (same_place p w rest there) ∙ (ap (turned (f p)) (x.given a w rest h stops) ∙ (turned_judge p a w rest ∙ ap (λ z. judge w z rest) (sym e))));
    some = f (place_in (bare x.some_word)) x.some;
    some_word = x.some_word;
    is_some = made x.some x.some_word x.is_some;
  }
