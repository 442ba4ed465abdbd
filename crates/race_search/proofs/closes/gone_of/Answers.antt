use Rattle.std.proofs.Common.{rules, ◌∙◌}
use Rattle.std.proofs.lemmas.Fn.{filter_same}
use Rattle.object_rules.specs.ImagePairs.{names}
use Rattle.order_axioms.specs.Closes.{gone_by}
use Rattle.race_search.specs.Steps.{closed_by}
use Rattle.race_search.proofs.Missed.{filter_agree}
use Rattle.race_search.proofs.closes.gone_of.Goals as goal

pub returns : goal.returns
returns c =
    filter_same _ (λ j. names j c.in_ok-gone.gone.items) _ (λ x b f' k. search rules) _ _ c.retain.ensures.filtered
    ∙ filter_agree (λ j. names j c.in_ok-gone.gone.items) (gone_by (closed_by c.args.n c.args.before.now c.args.close) c.args.before.now) c.in_ok-gone.ensures c.args.images.items
