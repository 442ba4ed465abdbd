use Rattle.image_acts.proofs.Portions.{literal_printed, values_printed}
use Rattle.image_acts.proofs.laws.law_items_are_printed_in_order.Goals as goal

pub returns-clause-literals : goal.returns-clause-literals
returns-clause-literals c = literal_printed

pub returns-clause-values : goal.returns-clause-values
returns-clause-values c = values_printed
