use Rattle.std.proofs.Common.{[], ◌∷◌, refl, ap, sym, ◌∙◌}
use Rattle.fortran_tree.specs.ExpressionViews.{expression}
use Rattle.fortran_tree.specs.StatementViews.{statement_list}
use Rattle.statement_reader.specs.Parts as f
use Rattle.statement_reader.specs.Parts.{Part}
use Rattle.program_reader.specs.Nesting.{statements_parts}
use Rattle.program_tree.specs.declared.construct.Construct.TheVariants as k
use Rattle.program_tree.specs.Blocks.{construct_front, opens, open_of}
use Rattle.program_tree.proofs.Places.{clear_close, some_open, fits}
use Rattle.program_tree.proofs.Moves.{on_three, divided, then_else_if}
use Rattle.program_tree.proofs.block.Block.else_if.Goals as goal

pub leave-construct-requires : goal.leave-construct-requires
leave-construct-requires c = let part = f.else_if_part (expression c.args.condition) c.args.at in some_open c.args.self.now part refl (clear_close c.args.self.now part refl refl c.requires) c.requires

pub returns : goal.returns
returns c =
    let part = f.else_if_part (expression c.args.condition) c.args.at in
    let at = c.leave-construct in
    let clear = clear_close c.args.self.now part refl refl c.requires in
    let may = fits c.args.self.now part (open_of at.result.0) (opens at.new.self.frames.items []) clear c.requires at.ensures.opens in
    on_three c.enter.result c.enter.ensures.front c.enter.ensures.opens c.enter.ensures.statements (λ entered now none.
    divided c.args.self.now at.new.self c.enter.new.self part at.result.0 clear at.ensures.front at.ensures.opens at.ensures.begun c.enter.ensures.begun
    (k.ElseIf c.in_ok-first.first c.args.condition c.args.at) (λ o. o) (λ es. ap (λ v. construct_front at.result.0 (statements_parts (statement_list v.items) (part ∷ es))) (sym at.ensures.body) ∙ c.in_ok-first.ensures (part ∷ es)) entered now none (then_else_if at.result.0 c.in_ok-first.first (expression c.args.condition) c.args.at _ _ (c.in_ok-first.ensures []) may) (λ s. refl))
