-- How the words of an expression begin: with a token that may begin it, at its place, and at its level or further in.
use Rattle.std.proofs.Common.{◌≡◌, ℕ, suc, ◌≤◌, ◌<◌, true, List, [], ◌∷◌, ◌++◌, inl, inr, refl, ap, sym, ◌∙◌, subst, arith, append-nil}
use Rattle.std.proofs.lemmas.Bool.{le-leb, leb-true, lt-ltb, and_parts}
use Rattle.caf_base.specs.declared.place.Pos.{Pos}
use Rattle.reader_theory.specs.Words.{Mark}
use Rattle.reader_theory.specs.Levels.{mark}
use Rattle.reader_theory.specs.Exactness.{Heads, Sunken}
use Rattle.fortran_tree.specs.Expressions as s
use Rattle.fortran_tree.specs.Expressions.{Expression}
use Rattle.fortran_grammar.specs.Tokens.{Token}
use Rattle.fortran_grammar.specs.Phrases.{Words, FirstAt}
use Rattle.fortran_grammar.specs.ExpressionGrammar.{expr, rank, left_rank}
use Rattle.expr_reader.specs.Openings.{opening, opens}
use Rattle.expr_reader.specs.Reading.{place_of}
use Rattle.expr_reader.proofs.Facts.{at_least, opening_back}

-- the words of expressions that bind at least so tightly
abbrev pub At : ℕ → ℕ → ℕ → Expression → List (Mark Token) → Type 0
At k limit level e w = (k ≤ rank e) × Words (expr e) limit level w

abbrev pub Begun : ℕ → ℕ → ℕ → Pos → List (Mark Token) → Type 0
Begun k limit level at [] = ⊥
Begun k limit level at (m ∷ w) = (opens k m.token ≡ true) × (m.token.at ≡ at) × (limit < level → m.deep ≡ true)

module _ (k limit level : ℕ) where
  by_token : (d : ℕ) (x : Token) (u v w : List (Mark Token)) → u ≡ mark limit d x ∷ [] → w ≡ u ++ v → level ≤ d → k ≤ opening x.tok → Begun k limit level x.at w
  by_token d x u v w p split l o = subst (Begun k limit level x.at) (sym (split ∙ ap (λ z. z ++ v) p)) (le-leb k (opening x.tok) o, refl, λ h. lt-ltb limit d (omega arith))

  -- the place is that of the first token
  moved : (p q : Pos) (w : List (Mark Token)) → Begun k limit level p w → FirstAt q w → Begun k limit level q w
  moved p q [] h f = h
  moved p q (m ∷ w) h f = (h.0, f, h.2)

  longer : (p : Pos) (u v w : List (Mark Token)) → Begun k limit level p u → w ≡ u ++ v → Begun k limit level p w
  longer p [] v w h e = absurd h
  longer p (m ∷ u) v w h e = subst (Begun k limit level p) (sym e) h

  pub begun : (e : Expression) (w : List (Mark Token)) → At k limit level e w → Begun k limit level (place_of e) w
  begun (s.number n kind at) w h = by_token level _ w [] w h.1 (sym (append-nil w)) (omega arith) (let i = h.0 in i)
  begun (s.logical true at) w h = by_token level _ w [] w h.1 (sym (append-nil w)) (omega arith) (let i = h.0 in i)
  begun (s.logical b at) w h = by_token level _ w [] w h.1 (sym (append-nil w)) (omega arith) (let i = h.0 in i)
  begun (s.designator (s.part_ref n subs c)) w (r, (u, v, h, q, split)) = by_token level _ u v w h split (omega arith) r
  begun (s.function_reference f args) w (r, (b, (u, v, h, q, split))) = by_token level _ u v w h split (omega arith) r
  begun (s.parenthesized e at) w (r, (f, (u, v, (p, h), q, split))) = moved p at w (by_token (suc level) _ u v w h split (omega arith) r) f
  begun (s.array_constructor es at) w (r, (f, inl (u, v, (p, h), q, split))) = moved p at w (by_token (suc level) _ u v w h split (omega arith) r) f
  begun (s.array_constructor es at) w (r, (f, inr (u, v, (p, h), q, split))) = moved p at w (by_token (suc level) _ u v w h split (omega arith) r) f
  begun (s.prefix o e at) w (r, (b, (u, v, h, q, split))) = by_token level _ u v w h split (omega arith) (subst (λ z. k ≤ z) (sym (opening_back o)) r)
  begun (s.binary o a b at) w (r, (c, (f, (u, v, h, q, split)))) =
      let i = at_least o in
      let j = leb-true (left_rank o) (rank a) (and_parts _ _ c).0 in
      moved (place_of a) at w (longer (place_of a) u v w (begun a u (omega arith, h)) split) f

  first_of : (p : Pos) (w : List (Mark Token)) → Begun k limit level p w → FirstAt p w
  first_of p [] h = h
  first_of p (m ∷ w) h = h.1

  pub begins_there : (e : Expression) (w : List (Mark Token)) → At k limit level e w → FirstAt (place_of e) w
  begins_there e w h = first_of (place_of e) w (begun e w h)

  heads : (p : Pos) (w : List (Mark Token)) → Begun k limit level p w → Heads (opens k) w
  heads p [] h = h
  heads p (m ∷ w) h = h.0

  pub headed : (e : Expression) (w : List (Mark Token)) → At k limit level e w → Heads (opens k) w
  headed e w h = heads (place_of e) w (begun e w h)

  sinks : limit < level → (p : Pos) (w : List (Mark Token)) → Begun k limit level p w → Sunken (opens k) w
  sinks l p [] h = h
  sinks l p (m ∷ w) h = (h.0, h.2 l)

  pub sunken : limit < level → (e : Expression) (w : List (Mark Token)) → At k limit level e w → Sunken (opens k) w
  sunken l e w h = sinks l (place_of e) w (begun e w h)
