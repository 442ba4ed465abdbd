use Rattle.std.proofs.Common.{rules, ◌∙◌, ap, filter}
use Rattle.std.specs.List.{list_any}
use Rattle.std.proofs.lemmas.Fn.{filter_same}
use Rattle.order_axioms.specs.Closes.{round_closed, gone_by}
use Rattle.race_search.specs.Failures.{is_missing}
use Rattle.race_search.proofs.Missed.{filter_agree}
use Rattle.race_search.proofs.failures.gone_members.Goals as goal

pub returns : goal.returns
returns c =
    filter_same _ (λ j. list_any (is_missing c.args.round j) c.args.failures.now) _ (λ x b f' k. search rules) _ _ c.retain.ensures.filtered
    ∙ filter_agree (λ j. list_any (is_missing c.args.round j) c.args.failures.now) (gone_by (round_closed c.args.n 1 c.args.round) c.args.before.now) (λ j. c.requires.failures c.args.round j c.requires.round) c.in_ok-images.images.items
    ∙ ap (filter (gone_by (round_closed c.args.n 1 c.args.round) c.args.before.now)) c.in_ok-images.ensures
