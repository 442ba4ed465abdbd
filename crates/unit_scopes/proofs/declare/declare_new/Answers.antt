use Rattle.fortran_tree.specs.DeclarationViews.{entity}
use Rattle.declaration_rules.specs.Entities.{attributes, unit}
use Rattle.unit_scopes.specs.EntitiesAsked.{asked_entity}
use Rattle.unit_scopes.specs.Founds.{found}
use Rattle.unit_scopes.proofs.Folds.{new_scope}
use Rattle.unit_scopes.proofs.declare.declare_new.Goals as goal

pub returns-clause-scope : goal.returns-clause-scope
returns-clause-scope c = λ s.
    new_scope s (unit c.args.of.now) (attributes c.args.all) c.args.of_type (entity c.args.entity.now) (asked_entity c.args.asked.now) c.args.grown.now
    (record { first = c.judge_new.new.first; own = c.add_entity.new.own; constants = c.add_entity.new.constants })
    c.in_ok-facts.facts.bounds c.in_ok-facts.facts.coshape (found c.in_ok-facts.facts.initial) c.in_ok-facts.ensures.bounds c.in_ok-facts.ensures.coshape c.in_ok-facts.ensures.initial c.in_ok-add_entity.ensures
