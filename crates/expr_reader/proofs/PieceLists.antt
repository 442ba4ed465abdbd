-- Lists of pieces, grown at their end.
use Rattle.std.proofs.Common.{◌≡◌, List, [], ◌∷◌, ◌++◌, Option, Some, None, refl, ap, sym, ◌∙◌}
use Rattle.fortran_tree.specs.declared.expr.Subscript.{Subscript}
use Rattle.fortran_tree.specs.declared.expr.Argument.{Argument}
use Rattle.fortran_tree.specs.declared.expr.Expr.{Expr}
use Rattle.fortran_tree.specs.declared.expr.Specifier.{Specifier}
use Rattle.fortran_tree.specs.Expressions as s
use Rattle.fortran_tree.specs.Expressions.{SectionSubscripts, Arguments, Expression, Expressions, Specifiers}
use Rattle.fortran_tree.specs.ExpressionViews.{expression, section_subscript, section_subscripts, arguments, expressions, specifiers}
use Rattle.expr_reader.specs.declared.piece.Piece.{Piece as Held}
use Rattle.expr_reader.specs.PieceViews.{piece_of, pieces_of, option_items, expression_list}
use Rattle.expr_reader.specs.Pieces.{Piece, value, range, named, subscript_of, subscripts_of, arguments_of}
use Rattle.expr_reader.specs.Selectors.{values_of, specifiers_of}

pub pieces_append : (ps qs : List Held) → pieces_of (ps ++ qs) ≡ pieces_of ps ++ pieces_of qs
pieces_append [] qs = refl
pieces_append (p ∷ ps) qs = ap (λ z. piece_of p ∷ z) (pieces_append ps qs)

-- one list of subscripts behind another
then_subscripts : SectionSubscripts → SectionSubscripts → SectionSubscripts
then_subscripts s.no_section_subscripts b = b
then_subscripts (s.more_section_subscripts x a) b = s.more_section_subscripts x (then_subscripts a b)

held_subscripts : (v u : List Subscript) → section_subscripts (v ++ u) ≡ then_subscripts (section_subscripts v) (section_subscripts u)
unfolding then_subscripts
held_subscripts [] u = refl
held_subscripts (x ∷ v) u = ap (s.more_section_subscripts (section_subscript x)) (held_subscripts v u)

plain_subscripts : (v u : List Piece) → subscripts_of (v ++ u) ≡ then_subscripts (subscripts_of v) (subscripts_of u)
unfolding then_subscripts
plain_subscripts [] u = refl
plain_subscripts (x ∷ v) u = ap (s.more_section_subscripts (subscript_of x)) (plain_subscripts v u)

pub subscripts_pushed : (v : List Subscript) (ps : List Held) (x : Subscript) (p : Held) → section_subscripts v ≡ subscripts_of (pieces_of ps) → section_subscript x ≡ subscript_of (piece_of p) → section_subscripts (v ++ x ∷ []) ≡ subscripts_of (pieces_of (ps ++ p ∷ []))
subscripts_pushed v ps x p e f =
    held_subscripts v (x ∷ [])
    ∙ (ap (λ z. then_subscripts z (section_subscripts (x ∷ []))) e
    ∙ (ap (λ z. then_subscripts (subscripts_of (pieces_of ps)) (s.more_section_subscripts z s.no_section_subscripts)) f
    ∙ (sym (plain_subscripts (pieces_of ps) (piece_of p ∷ []))
    ∙ ap subscripts_of (sym (pieces_append ps (p ∷ []))))))

-- and of arguments
then_arguments : Arguments → Arguments → Arguments
then_arguments s.no_arguments b = b
then_arguments (s.more_arguments k x a) b = s.more_arguments k x (then_arguments a b)

held_arguments : (v u : List Argument) → arguments (v ++ u) ≡ then_arguments (arguments v) (arguments u)
unfolding then_arguments
held_arguments [] u = refl
held_arguments (x ∷ v) u = ap (s.more_arguments x.keyword (expression x.value)) (held_arguments v u)

plain_arguments : (v u : List Piece) → arguments_of (v ++ u) ≡ then_arguments (arguments_of v) (arguments_of u)
unfolding then_arguments
plain_arguments [] u = refl
plain_arguments (value e ∷ v) u = ap (s.more_arguments None e) (plain_arguments v u)
plain_arguments (range a b c at ∷ v) u = plain_arguments v u
plain_arguments (named n e ∷ v) u = ap (s.more_arguments (Some n) e) (plain_arguments v u)

pub arguments_pushed : (v : List Argument) (ps : List Held) (o : Option Argument) (p : Held) → arguments v ≡ arguments_of (pieces_of ps) → arguments (option_items o) ≡ arguments_of (piece_of p ∷ []) → arguments (v ++ option_items o) ≡ arguments_of (pieces_of (ps ++ p ∷ []))
arguments_pushed v ps o p e f =
    held_arguments v (option_items o)
    ∙ (ap (λ z. then_arguments z (arguments (option_items o))) e
    ∙ (ap (then_arguments (arguments_of (pieces_of ps))) f
    ∙ (sym (plain_arguments (pieces_of ps) (piece_of p ∷ []))
    ∙ ap arguments_of (sym (pieces_append ps (p ∷ []))))))

-- and of cosubscripts and specifiers
then_expressions : Expressions → Expressions → Expressions
then_expressions s.no_expressions b = b
then_expressions (s.more_expressions x a) b = s.more_expressions x (then_expressions a b)

held_expressions : (v u : List Expr) → expressions (v ++ u) ≡ then_expressions (expressions v) (expressions u)
unfolding then_expressions
held_expressions [] u = refl
held_expressions (x ∷ v) u = ap (s.more_expressions (expression x)) (held_expressions v u)

plain_values : (v u : List Piece) → values_of (v ++ u) ≡ then_expressions (values_of v) (values_of u)
unfolding then_expressions
plain_values [] u = refl
plain_values (value e ∷ v) u = ap (s.more_expressions e) (plain_values v u)
plain_values (range a b c at ∷ v) u = plain_values v u
plain_values (named n e ∷ v) u = plain_values v u

pub values_pushed : (v : List Expr) (e : Expression) (ps : List Held) (o : Option Expr) (p : Held) → expressions v ≡ s.more_expressions e (values_of (pieces_of ps)) → expressions (option_items o) ≡ values_of (piece_of p ∷ []) → expressions (v ++ option_items o) ≡ s.more_expressions e (values_of (pieces_of (ps ++ p ∷ [])))
unfolding then_expressions
values_pushed v e ps o p h f =
    held_expressions v (option_items o)
    ∙ (ap (λ z. then_expressions z (expressions (option_items o))) h
    ∙ (ap (then_expressions (s.more_expressions e (values_of (pieces_of ps)))) f
    ∙ ap (s.more_expressions e) (sym (plain_values (pieces_of ps) (piece_of p ∷ [])) ∙ ap values_of (sym (pieces_append ps (p ∷ []))))))

then_specifiers : Specifiers → Specifiers → Specifiers
then_specifiers s.no_specifiers b = b
then_specifiers (s.more_specifiers n x a) b = s.more_specifiers n x (then_specifiers a b)

held_specifiers : (v u : List Specifier) → specifiers (v ++ u) ≡ then_specifiers (specifiers v) (specifiers u)
unfolding then_specifiers
held_specifiers [] u = refl
held_specifiers (x ∷ v) u = ap (s.more_specifiers x.name (expression x.value)) (held_specifiers v u)

plain_specifiers : (v u : List Piece) → specifiers_of (v ++ u) ≡ then_specifiers (specifiers_of v) (specifiers_of u)
unfolding then_specifiers
plain_specifiers [] u = refl
plain_specifiers (value e ∷ v) u = plain_specifiers v u
plain_specifiers (range a b c at ∷ v) u = plain_specifiers v u
plain_specifiers (named n e ∷ v) u = ap (s.more_specifiers n e) (plain_specifiers v u)

pub specifiers_pushed : (v : List Specifier) (ps : List Held) (o : Option Specifier) (p : Held) → specifiers v ≡ specifiers_of (pieces_of ps) → specifiers (option_items o) ≡ specifiers_of (piece_of p ∷ []) → specifiers (v ++ option_items o) ≡ specifiers_of (pieces_of (ps ++ p ∷ []))
specifiers_pushed v ps o p h f =
    held_specifiers v (option_items o)
    ∙ (ap (λ z. then_specifiers z (specifiers (option_items o))) h
    ∙ (ap (then_specifiers (specifiers_of (pieces_of ps))) f
    ∙ (sym (plain_specifiers (pieces_of ps) (piece_of p ∷ []))
    ∙ ap specifiers_of (sym (pieces_append ps (p ∷ []))))))

pub list_append : (es fs : List Expr) → expression_list (es ++ fs) ≡ expression_list es ++ expression_list fs
list_append [] fs = refl
list_append (e ∷ es) fs = ap (λ z. expression e ∷ z) (list_append es fs)
