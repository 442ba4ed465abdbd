-- The names that a program knows without declaring them.
use Rattle.std.specs.Prelude.{ℕ, List, ◌≡◌, map}
use Rattle.std.specs.Borrow.{Bor}
use Rattle.fortran_tree.specs.Units as u
use Rattle.rule_definitions.specs.Judgements.{or_else}
use Rattle.rule_definitions.specs.Names.{Named, named, denoted_in, intrinsic_procedures}
use Rattle.rule_definitions.specs.Units.{Headed, headed, meaning_of_heading, procedure_names, accessible_of}
use Rattle.scope_table.specs.Known.{known_meaning}
use Rattle.scope_table.specs.declared.known.Known.{Known}

-- the names of the procedures, and those that USE made accessible
pub record Outer : Type 0 where
  pub procedures : List Named
  pub accessible : List Named

abbrev pub headings : List u.Procedure → List Headed
headings ps = map (λ x. headed x.heading) ps

abbrev pub outer : List u.Use → List u.Procedure → Outer
outer us ps = record { procedures = procedure_names 0 (headings ps); accessible = accessible_of us }

-- names that stand for what they stood for before, and else for what they stand for in a list
abbrev pub Follows : List Named → List Named → List Named → Type 0
Follows new old xs = (n : List ℕ) → denoted_in new n ≡ or_else (denoted_in old n) (denoted_in xs n)

abbrev pub Holds : List Named → Outer → Type 0
Holds names o = (n : List ℕ) → denoted_in names n ≡ or_else (denoted_in o.procedures n) (or_else (denoted_in o.accessible n) (denoted_in intrinsic_procedures n))

-- a line of a table of names
abbrev pub row : Bor (List ℕ) × Known → Named
row p = named p.0.now (known_meaning p.1)

-- a procedure with this number
abbrev pub named_heading : ℕ → Headed → Named
named_heading k h = named h.name.text (meaning_of_heading k h)
