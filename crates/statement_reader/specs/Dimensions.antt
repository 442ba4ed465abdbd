-- Readers of bounds, dimensions and codimensions (ISO/IEC 1539-1:2018, 8.5.8 and 8.5.6), and of the objects of
-- ALLOCATE.
use Rattle.std.specs.Prelude.{Bool, true, false, List, [], ◌∷◌, length, Option, Some, None}
use Rattle.reader_theory.specs.Readers.{token, both, many_by, mapped, pick, optional, behind, pair}
use Rattle.fortran_tokens.specs.declared.token.Sign.{Sign}
use Rattle.fortran_tokens.specs.declared.token.Sign.TheVariants as sign
use Rattle.fortran_tree.specs.declared.name.Name.{Name}
use Rattle.fortran_tree.specs.Expressions.{Expression}
use Rattle.fortran_tree.specs.Statements as s
use Rattle.fortran_tree.specs.Statements.{Bounds, Dimension, CoarraySpec, Allocation}
use Rattle.fortran_grammar.specs.Phrases as p
use Rattle.fortran_grammar.specs.Phrases.{Phrase, ◌▸◌}
use Rattle.fortran_grammar.specs.ExpressionGrammar as g
use Rattle.fortran_grammar.specs.Tokens.{Token}
use Rattle.expr_reader.specs.Openings.{opens}
use Rattle.expr_reader.specs.Tests.{is_sign, a_name, list_of}
use Rattle.expr_reader.specs.Full.{is_square}
use Rattle.statement_reader.specs.Families.{Family, rounded, squared, an_expression}

abbrev pub a_sign : Sign → Family (Unit {0})
a_sign g left = mapped (λ z. tt) (token (is_sign g))

-- [ expr ":" ] expr
abbrev pub bounds_of : Expression → Option Expression → Bounds
bounds_of e None = record { lower = None; upper = e }
bounds_of e (Some f) = record { lower = Some e; upper = f }

abbrev pub some_bounds : Family Bounds
some_bounds left = both bounds_of (an_expression left) (optional (is_sign sign.Colon) (behind (is_sign sign.Colon) (an_expression left)))

-- [ expr ":" ] expr | ":"
abbrev pub deferred_at : Token → Dimension
deferred_at x = s.deferred x.at

abbrev pub a_dimension : Family Dimension
a_dimension left = pick (is_sign sign.Colon) (mapped deferred_at (token (is_sign sign.Colon))) (mapped s.explicit (some_bounds left))

-- in brackets, or none
abbrev pub dimensions_of : Option (List Dimension) → List Dimension
dimensions_of None = []
dimensions_of (Some ds) = ds

abbrev pub maybe_dimensions : Family (List Dimension)
maybe_dimensions left = mapped dimensions_of (optional (is_sign sign.OpenRound) (rounded (λ l. list_of (a_dimension l)) left))

-- Cobounds that are written: expressions, of which each ends with a comma or, as a lower cobound, with a colon; behind
-- them the asterisk.
abbrev pub Bound : Type 0
Bound = Expression × Bool

abbrev pub end_of_bound : Bool → Sign
end_of_bound false = sign.Comma
end_of_bound true = sign.Colon

-- an upper cobound is no lower one
abbrev pub not_both : Bool → Bool → Bool
not_both true true = false
not_both a b = true

abbrev pub bound : Bool → Bound → Phrase
bound is_upper q = p.only (not_both is_upper q.1) (g.expr q.0 ▸ p.sign (end_of_bound q.1))

abbrev pub bound_list : Bool → List Bound → Phrase
bound_list is_upper [] = p.nothing
bound_list is_upper (q ∷ qs) = bound is_upper q ▸ bound_list q.1 qs

abbrev pub lower_or_last : Family Bool
lower_or_last left = pick (is_sign sign.Comma) (mapped (λ z. false) (a_sign sign.Comma left)) (mapped (λ z. true) (a_sign sign.Colon left))

abbrev pub upper_bound : Expression × Unit {0} → Bound
upper_bound q = (q.0, false)

abbrev pub a_bound : Bool → Family Bound
a_bound false left = both pair (an_expression left) (lower_or_last left)
a_bound true left = mapped upper_bound (both pair (an_expression left) (a_sign sign.Comma left))

abbrev pub ends_lower : Bool → Bound → Bool
ends_lower is_upper q = q.1

abbrev pub some_cobounds : Family (List Bound)
some_cobounds left = many_by (opens 1) (λ is_upper. a_bound is_upper left) ends_lower false

abbrev pub cobounds_of : List Bound → List Bounds
cobounds_of [] = []
cobounds_of ((e, false) ∷ qs) = record { lower = None; upper = e } ∷ cobounds_of qs
cobounds_of ((e, true) ∷ []) = []
cobounds_of ((e, true) ∷ (f, c) ∷ qs) = record { lower = Some e; upper = f } ∷ cobounds_of qs

abbrev pub last_lower : List Bound → Option Expression
last_lower [] = None
last_lower ((e, false) ∷ qs) = last_lower qs
last_lower ((e, true) ∷ []) = Some e
last_lower ((e, true) ∷ (f, c) ∷ qs) = last_lower qs

abbrev pub explicit_of : List Bound × Unit {0} → CoarraySpec
explicit_of q = s.explicit_coshape (cobounds_of q.0) (last_lower q.0)

abbrev pub deferred_of : List (Unit {0}) → CoarraySpec
deferred_of zs = s.deferred_coshape (length zs)

-- a coarray-spec (R809)
abbrev pub a_coarray_spec : Family CoarraySpec
a_coarray_spec left = pick (is_sign sign.Colon) (mapped deferred_of (list_of (a_sign sign.Colon left))) (mapped explicit_of (both pair (some_cobounds left) (a_sign sign.Star left)))

abbrev pub maybe_coarray_spec : Family (Option CoarraySpec)
maybe_coarray_spec left = optional is_square (squared a_coarray_spec left)

-- an object of ALLOCATE
abbrev pub allocation_of : Name × (List Dimension × Option CoarraySpec) → Allocation
allocation_of q = record { name = q.0; bounds = q.1.0; cobounds = q.1.1 }

abbrev pub an_allocation : Family Allocation
an_allocation left = mapped allocation_of (both pair a_name (both pair (maybe_dimensions left) (maybe_coarray_spec left)))
