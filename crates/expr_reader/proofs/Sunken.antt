-- Where no level is left for an expression: each token that may begin one is too deep.
use Rattle.std.proofs.Common.{◌≡◌, ℕ, suc, ◌≤◌, ◌<◌, true, false, List, [], ◌∷◌, inl, inr, refl, ap, subst, arith}
use Rattle.std.proofs.lemmas.Bool.{leb-true, lt-ltb}
use Rattle.caf_base.specs.declared.place.Pos.{Pos}
use Rattle.reader_theory.specs.Words.{Mark}
use Rattle.reader_theory.specs.Levels.{mark}
use Rattle.reader_theory.specs.Readers.{sunk}
use Rattle.reader_theory.specs.Exactness.{Exact}
use Rattle.reader_theory.proofs.Deep.{exact_sunk}
use Rattle.fortran_tokens.specs.declared.token.Sign.TheVariants as sign
use Rattle.fortran_tree.specs.declared.expr.NumberKind.TheVariants as kinds
use Rattle.fortran_tree.specs.declared.expr.PrefixOperator.TheVariants as prefixes
use Rattle.fortran_tree.specs.Expressions as s
use Rattle.fortran_tree.specs.Expressions.{Expression}
use Rattle.fortran_grammar.specs.Tokens as t
use Rattle.fortran_grammar.specs.Tokens.{Tok, Token}
use Rattle.expr_reader.specs.Openings.{opens, opening}
use Rattle.expr_reader.proofs.Beginnings.{At, sunken}

module _ (k limit : ℕ) (some : 1 ≤ k) where
  deep_mark : (d : ℕ) (x : Token) → limit < d → mark limit d x ≡ record { token = x; deep = true }
  deep_mark d x l = ap (λ b. record { token = x; deep = b }) (lt-ltb limit d l)

  abbrev zero_at : Pos → Expression
  zero_at p = s.number 0 kinds.Unstated p

  abbrev zero_token : Pos → Token
  zero_token p = record { tok = t.integer 0 kinds.Unstated; at = p }

  pub record Begins (x : Token) : Type 0 where
    pub tree : Expression
    pub rest : List (Mark Token)
    pub is_word : At k limit (suc limit) tree (record { token = x; deep = true } ∷ rest)

  -- a word that begins with this token at this level or further in
  made : (e : Expression) (x : Token) (d : ℕ) (rest : List (Mark Token)) → limit < d → At k limit (suc limit) e (mark limit d x ∷ rest) → Begins x
  made e x d rest l h = record { tree = e; rest = rest; is_word = subst (λ m. At k limit (suc limit) e (m ∷ rest)) (deep_mark d x l) h }

  begins : (x : Tok) (p : Pos) → k ≤ opening x → Begins (record { tok = x; at = p })
  begins (t.word n) p l = made (s.designator (s.part_ref (record { text = n; at = p }) s.no_section_subscripts s.no_image_selector)) _ (suc limit) [] (omega arith) (l, (_, [], refl, ([], [], refl, refl, refl), refl))
  begins (t.integer n kind) p l = made (s.number n kind p) _ (suc limit) [] (omega arith) (l, refl)
  begins (t.literal x) p l = absurd (omega arith)
  begins (t.sign sign.True) p l = made (s.logical true p) _ (suc limit) [] (omega arith) (l, refl)
  begins (t.sign sign.False) p l = made (s.logical false p) _ (suc limit) [] (omega arith) (l, refl)
  begins (t.sign sign.OpenRound) p l =
      let d = suc (suc limit) in
      made (s.parenthesized (zero_at p) p) _ d (mark limit d (zero_token p) ∷ mark limit d (record { tok = t.sign sign.CloseRound; at = p }) ∷ []) (omega arith)
      (l, (refl, (_ ∷ [], _, (p, refl), (_ ∷ [], _ ∷ [], refl, (p, refl), refl), refl)))
  begins (t.sign sign.OpenSquare) p l =
      let d = suc (suc limit) in
      made (s.array_constructor (s.more_expressions (zero_at p) s.no_expressions) p) _ d (mark limit d (zero_token p) ∷ mark limit d (record { tok = t.sign sign.CloseSquare; at = p }) ∷ []) (omega arith)
      (l, (refl, inl (_ ∷ [], _, (p, refl), (_ ∷ [], _ ∷ [], (_ ∷ [], [], refl, refl, refl), (p, refl), refl), refl)))
  begins (t.sign sign.OpenArray) p l =
      let d = suc (suc limit) in
      made (s.array_constructor (s.more_expressions (zero_at p) s.no_expressions) p) _ d (mark limit d (zero_token p) ∷ mark limit d (record { tok = t.sign sign.CloseArray; at = p }) ∷ []) (omega arith)
      (l, (refl, inr (_ ∷ [], _, (p, refl), (_ ∷ [], _ ∷ [], (_ ∷ [], [], refl, refl, refl), (p, refl), refl), refl)))
  begins (t.sign sign.Plus) p l = made (s.prefix prefixes.Plus (zero_at p) p) _ (suc limit) (mark limit (suc (suc limit)) (zero_token p) ∷ []) (omega arith) (l, (refl, (_ ∷ [], _ ∷ [], refl, refl, refl)))
  begins (t.sign sign.Minus) p l = made (s.prefix prefixes.Minus (zero_at p) p) _ (suc limit) (mark limit (suc (suc limit)) (zero_token p) ∷ []) (omega arith) (l, (refl, (_ ∷ [], _ ∷ [], refl, refl, refl)))
  begins (t.sign sign.Not) p l = made (s.prefix prefixes.Not (zero_at p) p) _ (suc limit) (mark limit (suc (suc limit)) (zero_token p) ∷ []) (omega arith) (l, (refl, (_ ∷ [], _ ∷ [], refl, refl, refl)))
  begins (t.sign s) p l = absurd (omega arith)
  begins t.over p l = absurd (omega arith)

  module _ (here : Pos) (small : k ≤ 9) where
    pub exact_sunken : (more : Token → _) → Exact (At k limit (suc limit)) more (sunk (opens k))
    exact_sunken more = exact_sunk (At k limit (suc limit)) (opens k) (zero_at here) (mark limit (suc limit) (zero_token here) ∷ []) ((omega arith), refl)
        (λ e w h. sunken k limit (suc limit) (omega arith) e w h)
        (λ x o. let b = begins x.tok x.at (leb-true k (opening x.tok) o) in (b.tree, b.rest, b.is_word))
        more
