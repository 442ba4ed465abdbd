use Rattle.checked_tree.specs.StatementViews as view
use Rattle.code_maker.proofs.Refused.{only_unranked}
use Rattle.code_maker.proofs.maker.whole.Goals as goal

pub returns-clause-refused : goal.returns-clause-refused
returns-clause-refused c = only_unranked c.finish.result c.args.draft (view.program c.args.checked.now) c.requires.made c.finish.ensures.refused
