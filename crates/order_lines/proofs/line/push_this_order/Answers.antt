use Rattle.std.proofs.lemmas.Result.{IfOk-equal}
use Rattle.std.specs.Prelude.{pos, codes}
use Rattle.caf_text.specs.Numbers.{decimal_text}
use Rattle.order_lines.proofs.Pieces.{pieces}
use Rattle.order_lines.proofs.line.push_this_order.Goals as goal

pub returns : goal.returns
returns c =
    IfOk-equal c.push_text.result _ _ _ c.push_text.ensures
    (pieces c.args.out.now.items (codes "this order: line ") (decimal_text (pos c.args.line)) (codes ", ") c.args.cause.now (codes "\n") c.push_numbered.new.out.items c.push_texts.new.out.items
    c.in_ok-push_numbered.ensures c.in_ok-push_texts.ensures)
