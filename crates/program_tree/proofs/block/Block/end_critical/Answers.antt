use Rattle.std.proofs.Common.{◌∷◌, refl, ap, sym, ◌∙◌}
use Rattle.fortran_tree.specs.StatementViews.{statement_list}
use Rattle.statement_reader.specs.Parts as f
use Rattle.statement_reader.specs.Parts.{Part}
use Rattle.program_reader.specs.Nesting.{statements_parts}
use Rattle.program_tree.specs.Blocks.{construct_front}
use Rattle.program_tree.proofs.Places.{clear_close, some_open}
use Rattle.program_tree.proofs.Moves.{on_ok, ended}
use Rattle.program_tree.proofs.block.Block.end_critical.Goals as goal

pub leave-construct-requires : goal.leave-construct-requires
leave-construct-requires c = let part = f.end_critical_part c.args.end in some_open c.args.self.now part refl (clear_close c.args.self.now part refl refl c.requires) c.requires

pub returns : goal.returns
returns c =
    let part = f.end_critical_part c.args.end in
    let at = c.leave-construct in
    on_ok c.push.result c.push.ensures.statements (λ pushed.
    ended c.args.self.now at.new.self c.push.new.self part at.result.0 (clear_close c.args.self.now part refl refl c.requires) at.ensures.front at.ensures.opens at.ensures.begun c.push.ensures.begun
    c.whole_critical.result (λ es. ap (λ v. construct_front at.result.0 (statements_parts (statement_list v.items) (part ∷ es))) (sym at.ensures.body) ∙ c.whole_critical.ensures es)
    pushed c.push.ensures.frames (λ s. refl))
