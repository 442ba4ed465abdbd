use Rattle.run_outlook.proofs.Bits.{clear_here, clear_other}
use Rattle.run_outlook.proofs.image_set.ImageSet.remove.Goals as goal

pub returns-clause-here : goal.returns-clause-here
returns-clause-here c = clear_here c.args.self.now.words.items c.args.image c.index_mut.result.now c.requires c.index_mut.ensures.value

pub returns-clause-others : goal.returns-clause-others
returns-clause-others c = clear_other c.args.self.now.words.items c.args.image c.index_mut.result.now c.requires c.index_mut.ensures.value
