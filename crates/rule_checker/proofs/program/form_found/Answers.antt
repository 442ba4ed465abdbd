use Rattle.fortran_tree.specs.UnitViews.{program}
use Rattle.rule_definitions.specs.Names.{variables_of}
use Rattle.rule_definitions.specs.Units.{coarray_numbers}
use Rattle.rule_checker.proofs.Whole.{formed_seen, seen_first}
use Rattle.rule_checker.proofs.program.form_found.Goals as goal

pub returns-clause-first : goal.returns-clause-first
returns-clause-first c = seen_first c.args.judged

pub returns-clause-checked : goal.returns-clause-checked
returns-clause-checked c =
    formed_seen (program c.args.program.now) c.in_ok-coarrays.coarrays (coarray_numbers 0 (variables_of c.args.scopes.own)) c.args.scopes.procedures.grown.constants.items c.args.judged _
    c.in_ok-coarrays.ensures c.form_maybe-checked.ensures
