use Rattle.std.proofs.Common.{[], ◌∷◌, refl, ap, sym, ◌∙◌}
use Rattle.fortran_tree.specs.StatementViews.{statement_list, case_selector}
use Rattle.statement_reader.specs.Parts as f
use Rattle.statement_reader.specs.Parts.{Part}
use Rattle.program_reader.specs.Sequence.{to_case}
use Rattle.program_reader.specs.Nesting.{statements_parts}
use Rattle.program_tree.specs.declared.construct.Construct.TheVariants as k
use Rattle.program_tree.specs.Blocks.{construct_front, opens, open_of}
use Rattle.program_tree.proofs.Places.{some_open, fits}
use Rattle.program_tree.proofs.Moves.{on_three, divided, then_case}
use Rattle.program_tree.proofs.block.Block.next_case.Goals as goal

pub leave-construct-requires : goal.leave-construct-requires
leave-construct-requires c = let part = f.case_part (case_selector c.args.selector) c.args.at in some_open c.args.self.now part refl (c.requires.clear) c.requires.may

pub returns : goal.returns
returns c =
    let part = f.case_part (case_selector c.args.selector) c.args.at in
    let at = c.leave-construct in
    let clear = c.requires.clear in
    let may = fits c.args.self.now part (open_of at.result.0) (opens at.new.self.frames.items []) clear c.requires.may at.ensures.opens in
    on_three c.enter.result c.enter.ensures.front c.enter.ensures.opens c.enter.ensures.statements (λ entered now none.
    divided c.args.self.now at.new.self c.enter.new.self part at.result.0 clear at.ensures.front at.ensures.opens at.ensures.begun c.enter.ensures.begun
    (k.Case c.in_ok-before.before.expression c.in_ok-before.before.at c.in_ok-before.before.cases c.args.selector c.args.at) (to_case) (λ es. ap (λ v. construct_front at.result.0 (statements_parts (statement_list v.items) (part ∷ es))) (sym at.ensures.body) ∙ c.in_ok-before.ensures (part ∷ es)) entered now none (ap to_case (then_case at.result.0 c.in_ok-before.before (case_selector c.args.selector) c.args.at _ _ (c.in_ok-before.ensures []) may)) (λ s. refl))
