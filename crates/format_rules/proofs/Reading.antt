-- One byte more of a text.
use Rattle.std.proofs.Common.{◌≡◌, ◌∙◌, ℕ, Bool, true, false, List, [], ◌∷◌, ◌++◌, map, refl, sym, ap, arith, append_assoc}
use Rattle.std.proofs.lemmas.Bool.Decides.{nat_tests}
use Rattle.std.proofs.lemmas.List.{map-append}
use Rattle.std.specs.Prelude.{cond, Option, Some, None}
use Rattle.std.specs.Option.{option_map}
use Rattle.rule_definitions.specs.Formats.{is_blank, is_quote, lower, pieces, outside, inside, with_piece, sign}
use Rattle.rule_definitions.specs.Formats as rules
use Rattle.format_rules.specs.declared.piece.Piece.{Piece}
use Rattle.format_rules.specs.declared.piece.Piece.TheVariants.{Sign, Quoted}
use Rattle.format_rules.specs.Views.{seen, with_literal}

no_blank : (b : ℕ) → is_quote b ≡ true → is_blank b ≡ false
no_blank b h = grind (arith, nat_tests)

-- the pieces so far, and these
abbrev pub read : List Piece → Option (List rules.Piece) → Option (List rules.Piece)
read ps o = option_map (λ qs. map seen ps ++ qs) o

one_more : (ps : List Piece) (x : Piece) (o : Option (List rules.Piece)) → read (ps ++ x ∷ []) o ≡ read ps (with_piece (seen x) o)
one_more ps x None = refl
one_more ps x (Some qs) =
    ap (λ (l : List rules.Piece). Some (l ++ qs)) (map-append seen ps (x ∷ [])) ∙ ap Some (append_assoc (map seen ps) (seen x ∷ []) qs)

at_quote : (b : ℕ) (bs : List ℕ) → is_quote b ≡ true → pieces outside (b ∷ bs) ≡ pieces (inside b []) bs
at_quote b bs h =
    ap (λ (t : Bool). cond t (pieces outside bs) (cond (is_quote b) (pieces (inside b []) bs) (with_piece (sign (lower b)) (pieces outside bs)))) (no_blank b h)
    ∙ ap (λ (t : Bool). cond t (pieces (inside b []) bs) (with_piece (sign (lower b)) (pieces outside bs))) h

at_sign : (b : ℕ) (bs : List ℕ) → is_blank b ≡ false → is_quote b ≡ false → pieces outside (b ∷ bs) ≡ with_piece (sign (lower b)) (pieces outside bs)
at_sign b bs h g =
    ap (λ (t : Bool). cond t (pieces outside bs) (cond (is_quote b) (pieces (inside b []) bs) (with_piece (sign (lower b)) (pieces outside bs)))) h
    ∙ ap (λ (t : Bool). cond t (pieces (inside b []) bs) (with_piece (sign (lower b)) (pieces outside bs))) g

at_blank : (b : ℕ) (bs : List ℕ) → is_blank b ≡ true → pieces outside (b ∷ bs) ≡ pieces outside bs
at_blank b bs h =
    ap (λ (t : Bool). cond t (pieces outside bs) (cond (is_quote b) (pieces (inside b []) bs) (with_piece (sign (lower b)) (pieces outside bs)))) h

-- turns of the loop over a text
module _ (left bs : List ℕ) (b : ℕ) (ps qs : List Piece) (end : Option (List rules.Piece)) where
  pub quote_turn : (w behind : List ℕ) → left ≡ b ∷ bs → is_quote b ≡ true → with_literal (Some (w, behind)) ≡ pieces (inside b []) bs → qs ≡ ps ++ Quoted w ∷ []
      → read ps (pieces outside left) ≡ end → read qs (pieces outside behind) ≡ end
  quote_turn w behind l h g e i =
      ap (λ (xs : List Piece). read xs (pieces outside behind)) e
      ∙ one_more ps (Quoted w) (pieces outside behind)
      ∙ ap (read ps) (g ∙ sym (at_quote b bs h))
      ∙ ap (λ (xs : List ℕ). read ps (pieces outside xs)) (sym l)
      ∙ i

  pub sign_turn : left ≡ b ∷ bs → is_quote b ≡ false → is_blank b ≡ false → qs ≡ ps ++ Sign (lower b) ∷ [] → read ps (pieces outside left) ≡ end
      → read qs (pieces outside bs) ≡ end
  sign_turn l h g e i =
      ap (λ (xs : List Piece). read xs (pieces outside bs)) e
      ∙ one_more ps (Sign (lower b)) (pieces outside bs)
      ∙ ap (read ps) (sym (at_sign b bs g h))
      ∙ ap (λ (xs : List ℕ). read ps (pieces outside xs)) (sym l)
      ∙ i

  pub blank_turn : left ≡ b ∷ bs → is_blank b ≡ true → read ps (pieces outside left) ≡ end → read ps (pieces outside bs) ≡ end
  blank_turn l h i =
      ap (read ps) (sym (at_blank b bs h))
      ∙ ap (λ (xs : List ℕ). read ps (pieces outside xs)) (sym l)
      ∙ i
