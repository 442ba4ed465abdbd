use Rattle.std.proofs.lemmas.Result.{on_ok_weaker}
use Rattle.work_maker.proofs.Joining.{whole}
use Rattle.work_maker.proofs.source.push_source.Goals as goal

pub returns : goal.returns
returns c =
    on_ok_weaker c.push_closing.result (λ h. whole c.args.seed c.args.size c.args.out.now.items c.push_opening.new.out.items c.push_settings.new.out.items c.push_turns.new.out.items c.push_closing.new.out.items
    c.in_ok-push_opening.ensures c.in_ok-push_settings.ensures c.in_ok-push_turns.ensures h) c.push_closing.ensures
