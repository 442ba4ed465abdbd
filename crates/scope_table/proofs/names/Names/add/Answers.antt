use Rattle.std.proofs.Common.{ap, ◌∙◌, not}
use Rattle.std.specs.Prelude.{map}
use Rattle.rule_definitions.specs.Names.{is_among}
use Rattle.scope_table.proofs.Places.{found_among}
use Rattle.scope_table.proofs.names.Names.add.Goals as goal

pub returns-clause-there : goal.returns-clause-there
returns-clause-there c =
    c.in_ok-new.ensures.added
    ∙ ap not (found_among c.into_vec.result.items c.self.inside.set.keys)
    ∙ ap (λ n. not (is_among (map (λ v. v.items) c.self.inside.set.keys) n)) c.into_vec.ensures
    ∙ ap (λ ns. not (is_among ns c.args.name)) c.self.view_is
