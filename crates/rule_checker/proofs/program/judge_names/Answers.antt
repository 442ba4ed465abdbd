use Rattle.std.proofs.Common.{◌∙◌, ap, map}
use Rattle.fortran_tree.specs.UnitViews.{program}
use Rattle.rule_definitions.specs.Judgements.{first_of}
use Rattle.rule_definitions.specs.Names.{is_among}
use Rattle.rule_definitions.specs.Units.{headings_of, name_of, twice_breaks}
use Rattle.scope_table.specs.Outside.{headings}
use Rattle.rule_checker.proofs.Whole.{same_twice}
use Rattle.rule_checker.proofs.program.judge_names.Goals as goal

pub returns : goal.returns
returns c =
    c.in_ok-judge_procedure_names.ensures ∙ ap (λ ps. first_of c.args.first.now (twice_breaks c.in_ok-names.names (headings ps))) c.procedures_in.ensures
    ∙ ap (first_of c.args.first.now) (same_twice c.in_ok-names.names (map name_of c.args.own.now) (headings_of (program c.args.program.now)) (λ n. c.in_ok-names.ensures n ∙ ap (λ z. is_among (map name_of z) n) c.entries.ensures))
