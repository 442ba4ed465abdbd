-- Words of phrases one behind the other, grouped otherwise.
use Rattle.std.proofs.Common.{◌≡◌, ℕ, suc, ◌≤◌, true, List, [], ◌∷◌, ◌++◌, length, refl, ap, sym, ◌∙◌, subst, arith, append_assoc}
use Rattle.caf_base.specs.declared.place.Pos.{Pos}
use Rattle.reader_theory.specs.Words.{Mark}
use Rattle.fortran_grammar.specs.Tokens.{Token}
use Rattle.fortran_grammar.specs.Phrases as p
use Rattle.fortran_grammar.specs.Phrases.{Phrase, Words, FirstAt, ◌▸◌}
use Rattle.expr_reader.specs.Slack.{solid}
use Rattle.expr_reader.proofs.Moving.{some_token}

abbrev pub chain : List Phrase → Phrase → Phrase
chain [] X = X
chain (P ∷ Ps) X = P ▸ chain Ps X

pub group : (Ps : List Phrase) (X Z : Phrase) (l d : ℕ) (w : List (Mark Token)) → Words (chain Ps (X ▸ Z)) l d w → Words (chain Ps X ▸ Z) l d w
group [] X Z l d w h = h
group (P ∷ Ps) X Z l d w (u, v, h, k, e) = let (i, j, a, b, e2) = group Ps X Z l d v k in (u ++ i, j, (u, i, h, a, refl), b, e ∙ (ap (λ z. u ++ z) e2 ∙ sym (append_assoc u i j)))

pub ungroup : (Ps : List Phrase) (X Z : Phrase) (l d : ℕ) (w : List (Mark Token)) → Words (chain Ps X ▸ Z) l d w → Words (chain Ps (X ▸ Z)) l d w
ungroup [] X Z l d w h = h
ungroup (P ∷ Ps) X Z l d w (i, j, (u, v, h, a, e2), b, e) = (u, v ++ j, h, ungroup Ps X Z l d (v ++ j) (v, j, a, b, refl), e ∙ (ap (λ z. z ++ j) e2 ∙ append_assoc u v j))

first_kept : (at : Pos) (u v : List (Mark Token)) → 1 ≤ length u → FirstAt at (u ++ v) → FirstAt at u
first_kept at [] v l h = absurd (omega arith)
first_kept at (m ∷ u) v l h = h

first_more : (at : Pos) (u v : List (Mark Token)) → FirstAt at u → FirstAt at (u ++ v)
first_more at [] v h = absurd h
first_more at (m ∷ u) v h = h

-- a construct: its first statement, and what stands behind that
module _ (at : Pos) (Ps : List Phrase) (X Z : Phrase) (l d : ℕ) (w : List (Mark Token)) where
  pub head_out : solid (chain Ps X) ≡ true → Words (p.from at (p.deeper (chain Ps (X ▸ Z)))) l d w → Words (p.from at (p.deeper (chain Ps X)) ▸ p.deeper Z) l d w
  head_out s (there, h) = let (u, v, k, r, e) = group Ps X Z l (suc d) w h in
      (u, v, (first_kept at u v (some_token (chain Ps X) l (suc d) u s k) (subst (FirstAt at) e there), k), r, e)

  pub head_in : Words (p.from at (p.deeper (chain Ps X)) ▸ p.deeper Z) l d w → Words (p.from at (p.deeper (chain Ps (X ▸ Z)))) l d w
  head_in (u, v, (there, k), r, e) = (subst (FirstAt at) (sym e) (first_more at u v there), ungroup Ps X Z l (suc d) w (u, v, k, r, e))
