use Rattle.std.specs.Prelude.{map}
use Rattle.rule_definitions.specs.Arguments.{given_to}
use Rattle.rule_definitions.specs.IntrinsicFunctions.{a_coarray, an_integer}
use Rattle.rule_definitions.specs.Parts.{team}
use Rattle.call_rules.specs.Bindings.{binding_seen}
use Rattle.function_rules.proofs.Three.{three_noted}
use Rattle.function_rules.proofs.image.this_cosubscript.Goals as goal

pub returns-clause-breaks : goal.returns-clause-breaks
returns-clause-breaks c =
    let bs = map binding_seen c.args.bindings.items in
    let cs = map binding_seen c.coarray_at.new.bindings.items in
    let ds = map binding_seen c.integer_at.new.bindings.items in
    three_noted (given_to bs 0 a_coarray).breaks an_integer team bs cs ds c.new-breaks.result.items c.coarray_at.new.breaks.items c.integer_at.new.breaks.items c.maybe_team_at.new.breaks.items
    c.new-breaks.ensures.items c.in_ok-coarray.ensures.breaks c.in_ok-dim.ensures.breaks c.in_ok-team.ensures.breaks c.in_ok-coarray.ensures.others c.in_ok-dim.ensures.others
