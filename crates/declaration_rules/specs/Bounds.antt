-- Bounds and kinds, by what is asked of their expressions: the words of the definitions of declarations (8.5.8.2,
-- 8.5.6.3, 7.4.3.1), without the scope.
use Rattle.std.specs.Prelude.{ℤ, pos, int_lt, not, Option, Some, None}
use Rattle.std.specs.Option.{option_map}
use Rattle.caf_base.specs.declared.place.Pos.{Pos}
use Rattle.caf_base.specs.declared.value.Kind.{Kind}
use Rattle.fortran_tree.specs.Expressions as f
use Rattle.fortran_tree.specs.Statements as d
use Rattle.rule_definitions.specs.Names.{Scope}
use Rattle.rule_definitions.specs.Judgements.{Judgement, fine, made, ruled, then, under, unless, made_of_both}
use Rattle.rule_definitions.specs.Parts.{integer_kind, logical_kind, kind_of_value, logical_array_breaks}
use Rattle.rule_definitions.specs.Declarations.{bound_of_value}
use Rattle.declaration_rules.specs.Asked.{Asked, Worth, asked, asked_of, constant_worth}
use Rattle.declaration_rules.specs.declared.asked.Asked.{Asked as AskedInMemory}
use Rattle.declaration_rules.specs.declared.bound.AskedBounds.{AskedBounds as BoundsInMemory}
use Rattle.declaration_rules.specs.declared.kind.KindOf.{KindOf}
use Rattle.declaration_rules.specs.declared.kind.KindOf.TheVariants.{Integer, Logical}

abbrev pub kinds_of : KindOf → ℤ → Option Kind
kinds_of Integer n = integer_kind n
kinds_of Logical n = logical_kind n

abbrev pub kind_of_worth : KindOf → Pos → Worth → Judgement Kind
kind_of_worth k p w = ruled (kind_of_value (kinds_of k) w.constancy p) (logical_array_breaks 23 w.of_type w.constancy p)

abbrev pub kind_asked : KindOf → Asked → Judgement Kind
kind_asked k a = then (constant_worth 22 a) (kind_of_worth k a.at)

abbrev pub bound_of_worth : Pos → Worth → Judgement ℤ
bound_of_worth p w = ruled (bound_of_value p w.constancy) (logical_array_breaks 25 w.of_type w.constancy p)

abbrev pub bound_asked : Asked → Judgement ℤ
bound_asked a = then (constant_worth 25 a) (bound_of_worth a.at)

abbrev pub lower_asked : Option Asked → Judgement ℤ
lower_asked None = fine (pos 1)
lower_asked (Some a) = bound_asked a

pub record AskedBounds : Type 0 where
  pub lower : Option Asked
  pub upper : Asked

abbrev pub maybe_asked : Option AskedInMemory → Option Asked
maybe_asked o = option_map asked o

abbrev pub asked_bounds : BoundsInMemory → AskedBounds
asked_bounds b = record { lower = maybe_asked b.lower; upper = asked b.upper }

abbrev pub bounds_asked : AskedBounds → Judgement (ℤ × ℤ)
bounds_asked b = made_of_both (λ m n. (m, n)) (lower_asked b.lower) (bound_asked b.upper)

abbrev pub cobounds_asked : AskedBounds → Judgement (ℤ × ℤ)
cobounds_asked b = under (bounds_asked b) (λ m. unless (not (int_lt m.1 m.0)) 25 b.upper.at)

-- what is asked of bounds in a scope
abbrev pub maybe_asked_of : Scope → Option f.Expression → Option Asked
maybe_asked_of s o = made (asked_of s) o

abbrev pub bounds_asked_of : Scope → d.Bounds → AskedBounds
bounds_asked_of s b = record { lower = maybe_asked_of s b.lower; upper = asked_of s b.upper }
