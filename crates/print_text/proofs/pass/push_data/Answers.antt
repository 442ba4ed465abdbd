use Rattle.std.proofs.Common.{rules, ◌≡◌, ◌∙◌, ◌<◌, length}
use Rattle.print_text.proofs.Passing.{data_none, data_blanks, if_ok}
use Rattle.print_text.proofs.pass.push_data.Goals as goal
use Rattle.print_text.specs.Items.{items_left}

pub returns-then-is_empty : goal.returns-then-is_empty
returns-then-is_empty c =
    let empty : length (items_left c.args.items) ≡ 0 = search rules in
    λ n w s ds h e o v g. data_none c.args.texts.now c.args.out.now.items (items_left c.args.items) n c.args.fields.kind w s ds h empty

pub returns : goal.returns
returns c =
    let some : 0 < length (items_left c.args.items) = search rules in
    if_ok _ _ c.push_fields.result
    (λ a f n w s ds h e o v g. data_blanks c.args.texts.now c.args.out.now.items c.push_blanks.new.out.items (items_left c.args.items) n c.args.fields.kind w s ds h some (c.in_ok-push_blanks.ensures s g) ∙ f n w ds e o v)
    c.push_fields.ensures
