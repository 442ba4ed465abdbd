-- Output, part by part.
use Rattle.std.specs.Prelude.{ℕ, Bool, ◌+◌}
use Rattle.checked_tree.specs.Expressions as t
use Rattle.checked_tree.specs.Statements as ts
use Rattle.fortran_tree.specs.Statements as fs
use Rattle.fortran_tree.specs.declared.name.Literal.{Literal}
use Rattle.rule_definitions.specs.Actions.{format_of, item_breaks, printed}
use Rattle.rule_definitions.specs.Expressions.{placed}
use Rattle.rule_definitions.specs.Formats.{descriptors, format_breaks}
use Rattle.rule_definitions.specs.Judgements.{Judgement, fine, ruled, under}
use Rattle.rule_definitions.specs.Names.{Scope}
use Rattle.rule_definitions.specs.Parts.{Placed, plain}

-- a format that is a literal with this number, where there are items or none
abbrev pub written_format : ℕ → Literal → Bool → Judgement ts.Format
written_format n l has_values = ruled (format_of n (descriptors l.text)) (format_breaks (descriptors l.text) has_values l.at)

-- the expression of an item
abbrev pub printed_value : Placed → Judgement t.Expression
printed_value e = under (plain e) (item_breaks e.at)

-- one item, where the next literal has this number
abbrev pub printed_item : Scope → ℕ → fs.Item → Judgement ts.Item
printed_item s n (fs.quoted l) = fine (ts.literal n)
printed_item s n (fs.value e) = printed (placed s e)

-- the number of the next literal behind an item
abbrev pub number_behind : ℕ → fs.Item → ℕ
number_behind n (fs.quoted l) = n + 1
number_behind n (fs.value e) = n
