use Rattle.std.proofs.Common.{◌≡◌, ◌∙◌, true, arith}
use Rattle.std.proofs.lemmas.Grind.{common_steps}
use Rattle.rule_definitions.specs.Names.{is_home}
use Rattle.scope_table.proofs.Numbers.{found_as}
use Rattle.scope_table.proofs.numbered.symbol_found.Goals as goal

pub returns : goal.returns
returns c = λ p.
    let t : c.args.are_numbered ≡ true = grind (arith, common_steps) in
    let h : is_home c.in-Local.local.home c.args.home ≡ true = grind (arith, common_steps) in
    c.numbered.ensures c.args.home
    ∙ found_as c.args.home c.args.object c.in-Local.local c.args.entries.now c.args.places.now c.args.are_numbered p t c.in-Local.is h
