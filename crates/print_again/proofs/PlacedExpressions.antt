-- A word of an expression's phrase without its places is one of an expression that is the same but for places.
use Rattle.std.proofs.Common.{◌≡◌, suc, ◌&&◌, nat_le, Option, Some, None, inl, inr, refl, ap, sym, ◌∙◌}
use Rattle.std.specs.Option.{option_map}
use Rattle.fortran_tokens.specs.declared.token.Sign.TheVariants as sign
use Rattle.fortran_tree.specs.declared.expr.Operator.{Operator}
use Rattle.fortran_tree.specs.declared.expr.Operator.TheVariants as operators
use Rattle.fortran_tree.specs.declared.name.Name.{Name}
use Rattle.fortran_tree.specs.Expressions as s
use Rattle.fortran_tree.specs.Expressions.{Expression, Designator, Expressions, SectionSubscript, SectionSubscripts, OptionalExpression, ImageSelector, Specifiers, Arguments}
use Rattle.fortran_grammar.specs.Phrases as p
use Rattle.fortran_grammar.specs.Phrases.{Phrase, ◌▸◌}
use Rattle.fortran_grammar.specs.ExpressionGrammar as g
use Rattle.print_again.specs.Unplaced as u
use Rattle.print_again.proofs.Placing.{Placed, starts, some_token, has_token, last_has, placed_name}

-- how tightly an expression binds has nothing to do with places
pub rank_unplaced : (e : Expression) → g.rank (u.expression e) ≡ g.rank e
rank_unplaced (s.number n k at) = refl
rank_unplaced (s.logical b at) = refl
rank_unplaced (s.designator x) = refl
rank_unplaced (s.function_reference f args) = refl
rank_unplaced (s.parenthesized e at) = refl
rank_unplaced (s.array_constructor es at) = refl
rank_unplaced (s.prefix o e at) = refl
rank_unplaced (s.binary o a b at) = refl

same_rank : (a b : Expression) → u.expression a ≡ u.expression b → g.rank a ≡ g.rank b
same_rank a b e = sym (rank_unplaced a) ∙ (ap g.rank e ∙ rank_unplaced b)

keyword_unplaced : (x : Arguments) → g.has_keyword (u.arguments x) ≡ g.has_keyword x
keyword_unplaced s.no_arguments = refl
keyword_unplaced (s.more_arguments None e more) = keyword_unplaced more
keyword_unplaced (s.more_arguments (Some n) e more) = refl

pub none_unplaced : (x : Arguments) → g.none_or_keyword (u.arguments x) ≡ g.none_or_keyword x
none_unplaced s.no_arguments = refl
none_unplaced (s.more_arguments k e more) = keyword_unplaced (s.more_arguments k e more)

placed_right : (o : Operator) (b : Expression) → Placed g.expr u.expression b → Placed (λ z. g.right_of o (g.expr z)) u.expression b
placed_right operators.Power b m l d w h = m l (suc d) w h
placed_right o b m l d w h = m l d w h

placed_keyword : (k : Option Name) → Placed g.keyword (option_map u.name) k
placed_keyword None l d w h = (None, refl, h)
placed_keyword (Some n) l d w (x, v, hx, hv, e) = let r = placed_name n l d x hx in (Some r.0, λ i. Some (r.1 i), (x, v, r.2, hv, e))

mutual
  pub placed_expr : (e : Expression) → Placed g.expr u.expression e
  placed_expr (s.number n k at) l d w (q, h) = (s.number n k q, refl, h)
  placed_expr (s.logical b at) l d w (q, h) = (s.logical b q, refl, h)
  placed_expr (s.designator x) l d w h = let r = placed_designator x l d w h in (s.designator r.0, λ i. s.designator (r.1 i), r.2)
  placed_expr (s.function_reference f args) l d w (c, (x, v, hx, (y, z, hy, (a, b, ha, hb, k1), k), e)) =
      let n = placed_name f l d x hx in
      let r = placed_arguments args l (suc d) a ha in
      let same : g.none_or_keyword r.0 ≡ g.none_or_keyword args = sym (none_unplaced r.0) ∙ (ap g.none_or_keyword r.1 ∙ none_unplaced args) in
      (s.function_reference n.0 r.0, λ i. s.function_reference (n.1 i) (r.1 i), (same ∙ c, (x, v, n.2, (y, z, hy, (a, b, r.2, hb, k1), k), e)))
  placed_expr (s.parenthesized e at) l d w (x, v, hx, (y, z, hy, hz, k), h) =
      let r = placed_expr e l (suc d) y hy in
      let f = starts x v w hx.1 h in
      (s.parenthesized r.0 f.0, λ i. s.parenthesized (r.1 i) u.nowhere, (f.1, (x, v, hx, (y, z, r.2, hz, k), h)))
  placed_expr (s.array_constructor es at) l d w (inl (x, v, hx, (y, z, hy, hz, k), h)) =
      let r = placed_exprs es l (suc d) y hy in
      let f = starts x v w hx.1 h in
      (s.array_constructor r.0 f.0, λ i. s.array_constructor (r.1 i) u.nowhere, (f.1, inl (x, v, hx, (y, z, r.2, hz, k), h)))
  placed_expr (s.array_constructor es at) l d w (inr (x, v, hx, (y, z, hy, hz, k), h)) =
      let r = placed_exprs es l (suc d) y hy in
      let f = starts x v w hx.1 h in
      (s.array_constructor r.0 f.0, λ i. s.array_constructor (r.1 i) u.nowhere, (f.1, inr (x, v, hx, (y, z, r.2, hz, k), h)))
  placed_expr (s.prefix o e at) l d w (c, (x, v, (q, hx), hv, h)) =
      let r = placed_expr e l (suc d) v hv in
      let same = same_rank r.0 e r.1 in
      (s.prefix o r.0 q, λ i. s.prefix o (r.1 i) u.nowhere, (ap (λ n. nat_le (suc (g.prefix_strength o)) n) same ∙ c, (x, v, hx, r.2, h)))
  placed_expr (s.binary o a b at) l d w (c, (x, v, hx, (y, z, hy, hz, k), h)) =
      let r = placed_expr a l d x hx in
      let q = placed_right o b (placed_expr b) l d z hz in
      let f = some_token (g.expr a ▸ p.sign (g.operator_sign o) ▸ g.right_of o (g.expr b)) l d w (last_has (has_token (g.expr a))) (x, v, hx, (y, z, hy, hz, k), h) in
      let left = same_rank r.0 a r.1 in
      let right = same_rank q.0 b q.1 in (
        s.binary o r.0 q.0 f.0,
        λ i. s.binary o (r.1 i) (q.1 i) u.nowhere,
        ((λ i. nat_le (g.left_rank o) (left i) && nat_le (g.right_rank o) (right i)) ∙ c, (f.1, (x, v, r.2, (y, z, hy, q.2, k), h))),
      )

  placed_exprs : (es : Expressions) → Placed g.exprs u.expressions es
  placed_exprs s.no_expressions l d w h = (s.no_expressions, refl, h)
  placed_exprs (s.more_expressions e es) l d w (x, v, hx, hv, h) =
      let r = placed_expr e l d x hx in
      let q = placed_more_exprs es l d v hv in
      (s.more_expressions r.0 q.0, λ i. s.more_expressions (r.1 i) (q.1 i), (x, v, r.2, q.2, h))

  placed_more_exprs : (es : Expressions) → Placed g.more_exprs u.expressions es
  placed_more_exprs s.no_expressions l d w h = (s.no_expressions, refl, h)
  placed_more_exprs (s.more_expressions e es) l d w (x, v, hx, (y, z, hy, hz, k), h) =
      let r = placed_expr e l d y hy in
      let q = placed_more_exprs es l d z hz in
      (s.more_expressions r.0 q.0, λ i. s.more_expressions (r.1 i) (q.1 i), (x, v, hx, (y, z, r.2, q.2, k), h))

  pub placed_designator : (x : Designator) → Placed g.designator u.designator x
  placed_designator (s.part_ref n subs c) l d w (x, v, hx, (y, z, hy, hz, k), h) =
      let a = placed_name n l d x hx in
      let r = placed_section_subscripts subs l d y hy in
      let q = placed_image_selector c l d z hz in
      (s.part_ref a.0 r.0 q.0, λ i. s.part_ref (a.1 i) (r.1 i) (q.1 i), (x, v, a.2, (y, z, r.2, q.2, k), h))

  placed_section_subscripts : (xs : SectionSubscripts) → Placed g.section_subscripts u.section_subscripts xs
  placed_section_subscripts s.no_section_subscripts l d w h = (s.no_section_subscripts, refl, h)
  placed_section_subscripts (s.more_section_subscripts a more) l d w (x, v, hx, (y, z, (y1, y2, h1, h2, k1), hz, k), h) =
      let r = placed_section_subscript a l (suc d) y1 h1 in
      let q = placed_more_section_subscripts more l (suc d) y2 h2 in
      (s.more_section_subscripts r.0 q.0, λ i. s.more_section_subscripts (r.1 i) (q.1 i), (x, v, hx, (y, z, (y1, y2, r.2, q.2, k1), hz, k), h))

  placed_more_section_subscripts : (xs : SectionSubscripts) → Placed g.more_section_subscripts u.section_subscripts xs
  placed_more_section_subscripts s.no_section_subscripts l d w h = (s.no_section_subscripts, refl, h)
  placed_more_section_subscripts (s.more_section_subscripts a more) l d w (x, v, hx, (y, z, hy, hz, k), h) =
      let r = placed_section_subscript a l d y hy in
      let q = placed_more_section_subscripts more l d z hz in
      (s.more_section_subscripts r.0 q.0, λ i. s.more_section_subscripts (r.1 i) (q.1 i), (x, v, hx, (y, z, r.2, q.2, k), h))

  placed_section_subscript : (x : SectionSubscript) → Placed g.section_subscript u.section_subscript x
  placed_section_subscript (s.subscript e) l d w h = let r = placed_expr e l d w h in (s.subscript r.0, λ i. s.subscript (r.1 i), r.2)
  placed_section_subscript (s.triplet a b c at) l d w (x, v, hx, (y, z, hy, (z1, z2, h1, h2, k1), k), h) =
      let r = placed_optional_expression a l d x hx in
      let q = placed_optional_expression b l d z1 h1 in
      let m = placed_stride c l d z2 h2 in
      let f = some_token (g.optional_expression a ▸ p.sign sign.Colon ▸ g.optional_expression b ▸ g.stride c) l d w (last_has (has_token (g.optional_expression a))) (x, v, hx, (y, z, hy, (z1, z2, h1, h2, k1), k), h) in
      (s.triplet r.0 q.0 m.0 f.0, λ i. s.triplet (r.1 i) (q.1 i) (m.1 i) u.nowhere, (f.1, (x, v, r.2, (y, z, hy, (z1, z2, q.2, m.2, k1), k), h)))

  placed_optional_expression : (x : OptionalExpression) → Placed g.optional_expression u.optional_expression x
  placed_optional_expression s.missing l d w h = (s.missing, refl, h)
  placed_optional_expression (s.given e) l d w h = let r = placed_expr e l d w h in (s.given r.0, λ i. s.given (r.1 i), r.2)

  placed_stride : (x : OptionalExpression) → Placed g.stride u.optional_expression x
  placed_stride s.missing l d w h = (s.missing, refl, h)
  placed_stride (s.given e) l d w (x, v, hx, hv, h) = let r = placed_expr e l d v hv in (s.given r.0, λ i. s.given (r.1 i), (x, v, hx, r.2, h))

  placed_image_selector : (x : ImageSelector) → Placed g.image_selector u.image_selector x
  placed_image_selector s.no_image_selector l d w h = (s.no_image_selector, refl, h)
  placed_image_selector (s.image_selector es ps) l d w (inl (x, v, hx, (y, z, (y1, y2, h1, h2, k1), hz, k), h)) =
      let r = placed_exprs es l (suc d) y1 h1 in
      let q = placed_more_specifiers ps l (suc d) y2 h2 in
      (s.image_selector r.0 q.0, λ i. s.image_selector (r.1 i) (q.1 i), inl (x, v, hx, (y, z, (y1, y2, r.2, q.2, k1), hz, k), h))
  placed_image_selector (s.image_selector es ps) l d w (inr (x, v, hx, (y, z, (y1, y2, h1, h2, k1), hz, k), h)) =
      let r = placed_exprs es l (suc d) y1 h1 in
      let q = placed_more_specifiers ps l (suc d) y2 h2 in
      (s.image_selector r.0 q.0, λ i. s.image_selector (r.1 i) (q.1 i), inr (x, v, hx, (y, z, (y1, y2, r.2, q.2, k1), hz, k), h))

  pub placed_more_specifiers : (ps : Specifiers) → Placed g.more_specifiers u.specifiers ps
  placed_more_specifiers s.no_specifiers l d w h = (s.no_specifiers, refl, h)
  placed_more_specifiers (s.more_specifiers n e ps) l d w (x, v, hx, (y, z, hy, (x1, v1, hx1, (y1, z1, hy1, hz1, k1), h1), k), h) =
      let a = placed_name n l d y hy in
      let r = placed_expr e l d y1 hy1 in
      let q = placed_more_specifiers ps l d z1 hz1 in
      (s.more_specifiers a.0 r.0 q.0, λ i. s.more_specifiers (a.1 i) (r.1 i) (q.1 i), (x, v, hx, (y, z, a.2, (x1, v1, hx1, (y1, z1, r.2, q.2, k1), h1), k), h))

  pub placed_arguments : (xs : Arguments) → Placed g.arguments u.arguments xs
  placed_arguments s.no_arguments l d w h = (s.no_arguments, refl, h)
  placed_arguments (s.more_arguments n e more) l d w (x, v, hx, (y, z, hy, hz, k), h) =
      let a = placed_keyword n l d x hx in
      let r = placed_expr e l d y hy in
      let q = placed_more_arguments more l d z hz in
      (s.more_arguments a.0 r.0 q.0, λ i. s.more_arguments (a.1 i) (r.1 i) (q.1 i), (x, v, a.2, (y, z, r.2, q.2, k), h))

  placed_more_arguments : (xs : Arguments) → Placed g.more_arguments u.arguments xs
  placed_more_arguments s.no_arguments l d w h = (s.no_arguments, refl, h)
  placed_more_arguments (s.more_arguments n e more) l d w (x1, v1, hx1, (x, v, hx, (y, z, hy, hz, k), h), h1) =
      let a = placed_keyword n l d x hx in
      let r = placed_expr e l d y hy in
      let q = placed_more_arguments more l d z hz in
      (s.more_arguments a.0 r.0 q.0, λ i. s.more_arguments (a.1 i) (r.1 i) (q.1 i), (x1, v1, hx1, (x, v, a.2, (y, z, r.2, q.2, k), h), h1))
