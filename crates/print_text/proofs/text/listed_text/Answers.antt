use Rattle.std.proofs.Common.{rules, ◌≡◌, [], ◌++◌}
use Rattle.image_acts.specs.Formats.{listed}
use Rattle.print_text.specs.Items.{items_of, items_left}
use Rattle.print_text.proofs.Judging.{listed_found}
use Rattle.print_text.proofs.text.listed_text.Goals as goal

pub returns : goal.returns
returns c =
    let text : c.from_vec.result ≡ [] ++ listed (items_of c.args.texts.now (items_left c.new.result)) = search rules in
    listed_found c.args.texts.now c.args.portions.now (items_left c.new.result) c.from_vec.result c.new.ensures text
