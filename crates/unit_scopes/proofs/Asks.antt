-- What was asked of expressions, under the rules.
use Rattle.std.proofs.Common.{◌≡◌, ◌∙◌, List, [], ◌∷◌, refl, sym, ap, map}
use Rattle.std.specs.Prelude.{Option, Some, None}
use Rattle.caf_base.specs.declared.value.Kind.{Kind}
use Rattle.checked_tree.specs.declared.data.DataType.{DataType}
use Rattle.checked_tree.specs.declared.data.DataType.TheVariants.{Intrinsic}
use Rattle.fortran_tree.specs.Expressions as f
use Rattle.fortran_tree.specs.Statements as d
use Rattle.rule_definitions.specs.declared.broken.Broken.{Broken}
use Rattle.rule_definitions.specs.Judgements.{Judgement, first_of, made}
use Rattle.rule_definitions.specs.Names.{Scope}
use Rattle.rule_definitions.specs.Declarations.{raw_coshape_breaks, raw_dimensions_breaks}
use Rattle.declaration_rules.specs.Asked.{Asked, asked_of}
use Rattle.declaration_rules.specs.Bounds.{kind_asked}
use Rattle.declaration_rules.specs.Shapes.{AskedDimension, dimension_asked_of, raw_dimensions_asked}
use Rattle.declaration_rules.specs.declared.kind.KindOf.{KindOf}
use Rattle.declaration_rules.proofs.Definitions.{kind_is, raw_dimensions_are}
use Rattle.unit_scopes.specs.Coshapes.{AskedCoshape, coshape_asked_of, raw_coshape_asked}
use Rattle.unit_scopes.specs.Telling.{kind_judged}
use Rattle.unit_scopes.specs.declared.grown.Grown.{Grown}
use Rattle.unit_scopes.specs.Telling.{grown_scope}
use Rattle.unit_scopes.proofs.Laws.{raw_coshape_are}

pub map_twice : {X Y Z : Type 0} (f : Y → Z) (g : X → Y) (xs : List X) → map (λ x. f (g x)) xs ≡ map f (map g xs)
map_twice f g [] = refl
map_twice f g (x ∷ xs) = ap (λ k. f (g x) ∷ k) (map_twice f g xs)

pub kind_first : (s : Scope) (k : KindOf) (e : f.Expression) (a : Asked) (o o' : Option Broken) → a ≡ asked_of s e → o' ≡ first_of o (kind_asked k a).breaks → o' ≡ first_of o (kind_judged s k e).breaks
kind_first s k e a o o' p h = h ∙ ap (λ z. first_of o (kind_asked k z).breaks) p ∙ ap (λ (z : Judgement Kind). first_of o z.breaks) (kind_is s k e)

pub kind_some : (s : Scope) (k : KindOf) (e : f.Expression) (a : Asked) (y : Kind) → a ≡ asked_of s e → Some y ≡ (kind_asked k a).meaning → Some (Intrinsic y) ≡ (kind_judged s k e).meaning
kind_some s k e a y p h = ap (made Intrinsic) (h ∙ ap (λ z. (kind_asked k z).meaning) p ∙ ap (λ (z : Judgement Kind). z.meaning) (kind_is s k e))

pub kind_none : (s : Scope) (k : KindOf) (e : f.Expression) (a : Asked) → a ≡ asked_of s e → None ≡ (kind_asked k a).meaning → None ≡ (kind_judged s k e).meaning
kind_none s k e a p h = ap (made Intrinsic) (h ∙ ap (λ z. (kind_asked k z).meaning) p ∙ ap (λ (z : Judgement Kind). z.meaning) (kind_is s k e))

pub coshape_first : (s : Scope) (c : d.CoarraySpec) (q : AskedCoshape) (o o' : Option Broken) → q ≡ coshape_asked_of s c → o' ≡ first_of o (raw_coshape_asked (Some q)) → o' ≡ first_of o (raw_coshape_breaks s (Some c))
coshape_first s c q o o' p h = h ∙ ap (λ z. first_of o (raw_coshape_asked (Some z))) p ∙ ap (first_of o) (raw_coshape_are s (Some c))

pub dimensions_first : (s : Scope) (ds : List d.Dimension) (qs : List AskedDimension) (o o' : Option Broken) → qs ≡ map (dimension_asked_of s) ds → o' ≡ first_of o (raw_dimensions_asked qs) → o' ≡ first_of o (raw_dimensions_breaks s ds)
dimensions_first s ds qs o o' p h = h ∙ ap (λ z. first_of o (raw_dimensions_asked z)) p ∙ ap (first_of o) (raw_dimensions_are s ds)

pub grown_is : (s : Scope) (g : Grown) → record s { own = g.own; constants = g.constants.items } ≡ grown_scope s g
unfolding grown_scope
grown_is s g = refl
