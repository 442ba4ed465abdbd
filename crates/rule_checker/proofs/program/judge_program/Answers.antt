use Rattle.std.proofs.Common.{◌∙◌, [], ap, map, refl}
use Rattle.fortran_tree.specs.UnitViews.{procedure, program, use_statement}
use Rattle.scope_table.specs.Outside.{outer}
use Rattle.scope_table.specs.Symbols.{interface}
use Rattle.unit_scopes.specs.Openings.{closing}
use Rattle.unit_scopes.specs.Scopes.{main_behind, main_scope}
use Rattle.rule_checker.specs.Whole.{seen}
use Rattle.rule_checker.proofs.Whole.{first_found, interfaces_length, meaning_found, tables_length}
use Rattle.rule_checker.proofs.program.judge_program.Goals as goal

pub judge_scoped-requires-clause-tables : goal.judge_scoped-requires-clause-tables
judge_scoped-requires-clause-tables c =
    tables_length (program c.args.program.now) (main_behind (program c.args.program.now) (map interface c.as_slice-2.result.now)) (closing (main_scope c.in_ok-outside.outside (map interface c.as_slice-2.result.now) []) c.in_ok-scopes.scopes.own) c.in_ok-scopes.scopes.procedures
    c.in_ok-scopes.ensures.procedures

pub judge_scoped-requires-clause-interfaces : goal.judge_scoped-requires-clause-interfaces
judge_scoped-requires-clause-interfaces c =
    interfaces_length (program c.args.program.now) (main_behind (program c.args.program.now) (map interface c.as_slice-2.result.now)) (closing (main_scope c.in_ok-outside.outside (map interface c.as_slice-2.result.now) []) c.in_ok-scopes.scopes.own) c.in_ok-scopes.scopes.procedures
    c.in_ok-scopes.ensures.procedures

pub returns-clause-first : goal.returns-clause-first
returns-clause-first c =
    first_found (program c.args.program.now) c.in_ok-outside.outside (map interface c.as_slice-2.result.now) c.in_ok-scopes.scopes (seen c.in_ok-judged.judged) c.in_ok-found.found.first
    (ap (map interface) c.as_slice-2.ensures.value ∙ c.in_ok-interfaces.ensures) c.in_ok-scopes.ensures.first c.in_ok-scopes.ensures.own c.in_ok-scopes.ensures.scope c.in_ok-scopes.ensures.procedures
    c.in_ok-judged.ensures c.in_ok-found.ensures.first

pub returns-clause-checked : goal.returns-clause-checked
returns-clause-checked c =
    meaning_found (program c.args.program.now) c.in_ok-outside.outside (map interface c.as_slice-2.result.now) c.in_ok-scopes.scopes (seen c.in_ok-judged.judged) c.in_ok-found.found.first _
    (ap (map interface) c.as_slice-2.ensures.value ∙ c.in_ok-interfaces.ensures) c.in_ok-scopes.ensures.first c.in_ok-scopes.ensures.own c.in_ok-scopes.ensures.scope c.in_ok-scopes.ensures.procedures
    c.in_ok-judged.ensures c.in_ok-found.ensures.first c.in_ok-found.ensures.checked
