-- Readers of expressions, as functions on lists of tokens, from readers of primaries and of what stands one level
-- further in.
use Rattle.std.specs.Prelude.{ℕ, zero, suc, cond, nat_eq, List, [], ◌∷◌, Option, Some, None}
use Rattle.caf_base.specs.declared.place.Pos.{Pos}
use Rattle.reader_theory.specs.Words.{Verdict}
use Rattle.reader_theory.specs.Readers.{token, mapped, both, pick, many, optional, sunk, pair}
use Rattle.fortran_tree.specs.Expressions as s
use Rattle.fortran_tree.specs.Expressions.{Expression, Designator}
use Rattle.fortran_grammar.specs.Tokens.{Token}
use Rattle.expr_reader.specs.Openings.{operator_of, prefix_of, binds, opens, prefixed}

abbrev pub Reader : Type 0 → Type 0
Reader A = List Token → Verdict Token A

-- where an expression begins
abbrev pub designator_place : Designator → Pos
designator_place (s.part_ref n subs c) = n.at

abbrev pub place_of : Expression → Pos
place_of (s.number n k at) = at
place_of (s.logical b at) = at
place_of (s.designator d) = designator_place d
place_of (s.function_reference f args) = f.at
place_of (s.parenthesized e at) = at
place_of (s.array_constructor es at) = at
place_of (s.prefix o e at) = at
place_of (s.binary o a b at) = at

-- an operator and its right operand behind a left one
abbrev pub with_operator : Expression → Token × Expression → Expression
with_operator h e = s.binary (operator_of e.0) h e.1 (place_of h)

-- several, from the left
abbrev pub folded : Expression → List (Token × Expression) → Expression
folded h [] = h
folded h (e ∷ es) = folded (with_operator h e) es

-- one, where it stands
abbrev pub related : Expression → Option (Token × Expression) → Expression
related h None = h
related h (Some e) = with_operator h e

-- an operator before its operand
abbrev pub signed : Token × Expression → Expression
signed e = s.prefix (prefix_of e.0) e.1 e.0.at

-- an operator that binds so, and an operand
abbrev pub item : ℕ → Reader Expression → Reader (Token × Expression)
item k r = both pair (token (binds k)) r

-- operators that bind so, from the left: the first operand may have a reader of its own
abbrev pub chain : ℕ → Reader Expression → Reader Expression → Reader Expression
chain k first r = both folded first (many (binds k) (item k r))

-- at most one operator that binds so
abbrev pub single : ℕ → Reader Expression → Reader Expression → Reader Expression
single k first r = both related first (optional (binds k) (item k r))

-- an operator before one operand, or none
abbrev pub maybe_signed : ℕ → Reader Expression → Reader Expression → Reader Expression
maybe_signed k operand other = pick (prefixed k) (mapped signed (both pair (token (prefixed k)) operand)) other

-- The readers of one level: of what binds so tightly, and of primaries.
pub record Tier : Type 0 where
  pub expression : Reader Expression
  pub disjunction : Reader Expression
  pub conjunction : Reader Expression
  pub negation : Reader Expression
  pub relation : Reader Expression
  pub sum : Reader Expression
  pub term : Reader Expression
  pub power : Reader Expression
  pub primary : Reader Expression

-- Those of a level, from its reader of primaries; `power`, `term` and `relation` are those of one level further in.
abbrev pub powers : Reader Expression → Reader Expression → Reader Expression
powers primary power = single 8 primary power

abbrev pub terms : Reader Expression → Reader Expression → Reader Expression
terms primary power = chain 7 (powers primary power) (powers primary power)

abbrev pub sums : Reader Expression → Reader Expression → Reader Expression → Reader Expression
sums primary power term = chain 6 (maybe_signed 6 term (terms primary power)) (terms primary power)

abbrev pub relations : Reader Expression → Reader Expression → Reader Expression → Reader Expression
relations primary power term = single 5 (sums primary power term) (sums primary power term)

abbrev pub negations : Reader Expression → Reader Expression → Reader Expression → Reader Expression → Reader Expression
negations primary power term relation = maybe_signed 4 relation (relations primary power term)

abbrev pub conjunctions : Reader Expression → Reader Expression → Reader Expression → Reader Expression → Reader Expression
conjunctions primary power term relation = chain 3 (negations primary power term relation) (negations primary power term relation)

abbrev pub disjunctions : Reader Expression → Reader Expression → Reader Expression → Reader Expression → Reader Expression
disjunctions primary power term relation = chain 2 (conjunctions primary power term relation) (conjunctions primary power term relation)

abbrev pub expressions : Reader Expression → Reader Expression → Reader Expression → Reader Expression → Reader Expression
expressions primary power term relation = chain 1 (disjunctions primary power term relation) (disjunctions primary power term relation)

abbrev pub tier_from : Reader Expression → Reader Expression → Reader Expression → Reader Expression → Tier
tier_from primary power term relation = record {
  expression = expressions primary power term relation;
  disjunction = disjunctions primary power term relation;
  conjunction = conjunctions primary power term relation;
  negation = negations primary power term relation;
  relation = relations primary power term;
  sum = sums primary power term;
  term = terms primary power;
  power = powers primary power;
  primary = primary;
}

-- The readers where so many levels are left, from those of primaries: where none is left, and where expressions are
-- read one level further in.
unfoldable pub tier : Reader Expression → (Reader Expression → Reader Expression) → ℕ → Tier
tier bottom primaries zero = tier_from bottom (sunk (opens 8)) (sunk (opens 7)) (sunk (opens 5))
tier bottom primaries (suc left) =
    let inner = tier bottom primaries left in
    tier_from (primaries inner.expression) inner.power inner.term inner.relation

-- the operand of an operator that binds so, in a chain
abbrev pub operand_of : ℕ → Tier → Reader Expression
operand_of k t = cond (nat_eq k 1) t.disjunction (cond (nat_eq k 2) t.conjunction (cond (nat_eq k 3) t.negation (cond (nat_eq k 6) t.term t.power)))
