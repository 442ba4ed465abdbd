use Rattle.open_constructs.proofs.Opened.{open_told, open_once}
use Rattle.open_constructs.proofs.law.innermost_open.Goals as goal

pub returns-clause-told : goal.returns-clause-told
returns-clause-told c = open_told

pub returns-clause-once : goal.returns-clause-once
returns-clause-once c = open_once
