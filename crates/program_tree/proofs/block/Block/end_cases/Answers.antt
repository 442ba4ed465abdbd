use Rattle.std.proofs.Common.{◌∷◌, refl, ap, sym, ◌∙◌}
use Rattle.fortran_tree.specs.StatementViews.{statement_list, statement_select}
use Rattle.statement_reader.specs.Parts as f
use Rattle.statement_reader.specs.Parts.{Part}
use Rattle.program_reader.specs.Nesting.{statement_parts, statements_parts}
use Rattle.program_tree.specs.Blocks.{construct_front}
use Rattle.program_tree.proofs.Places.{some_open}
use Rattle.program_tree.proofs.Moves.{on_ok, ended}
use Rattle.program_tree.proofs.block.Block.end_cases.Goals as goal

pub leave-construct-requires : goal.leave-construct-requires
leave-construct-requires c = some_open c.args.self.now (f.end_select_part c.args.end) refl c.requires.clear c.requires.may

pub returns : goal.returns
returns c =
    let part = f.end_select_part c.args.end in
    let at = c.leave-construct in
    let before = c.in_ok-before.before in
    on_ok c.push.result c.push.ensures.statements (λ pushed.
    ended c.args.self.now at.new.self c.push.new.self part at.result.0 c.requires.clear at.ensures.front at.ensures.opens at.ensures.begun c.push.ensures.begun
    (_)
    (λ es. ap (λ v. construct_front at.result.0 (statements_parts (statement_list v.items) (part ∷ es))) (sym at.ensures.body) ∙ (c.in_ok-before.ensures (part ∷ es) ∙ ap (λ z. statement_parts z es) (sym (statement_select before.expression before.cases before.at c.args.end))))
    pushed c.push.ensures.frames (λ s. refl))
