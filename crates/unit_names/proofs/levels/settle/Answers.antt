use Rattle.std.proofs.Common.{ap, ◌∙◌, drop, take, ◌++◌, ◌∷◌, [], length}
use Rattle.std.proofs.lemmas.List.{take_rest}
use Rattle.unit_names.specs.Found.{joined, under}
use Rattle.unit_names.specs.Levels.{reached}
use Rattle.unit_names.proofs.Reached.{settled, settled_within}
use Rattle.unit_names.proofs.levels.settle.Goals as goal

pub returns-clause-within : goal.returns-clause-within
returns-clause-within c =
    settled_within c.args.blocks.now.items c.push-2.new.self.items c.add_levels.new.into c.args.levels.now.items c.push.new.self.items c.staying-count.result c.requires c.in_ok-push-2.ensures.items
    (c.in_ok-push.ensures.items ∙ (ap (λ t. t ++ length c.as_slice-here.result.now ∷ []) c.truncate.ensures.items ∙ ap (λ k. take c.staying-count.result c.args.levels.now.items ++ k ∷ []) (ap length c.as_slice-here.ensures.value)))

pub returns-clause-reached : goal.returns-clause-reached
returns-clause-reached c = λ n.
    ap (λ z. reached z c.push.new.self.items n) c.in_ok-push-2.ensures.items
    ∙ (ap (λ z. reached (c.args.blocks.now.items ++ c.add_levels.new.into ∷ []) z n)
    (c.in_ok-push.ensures.items ∙ (ap (λ t. t ++ length c.as_slice-here.result.now ∷ []) c.truncate.ensures.items ∙ ap (λ k. take c.staying-count.result c.args.levels.now.items ++ k ∷ []) (ap length c.as_slice-here.ensures.value)))
    ∙ settled c.args.blocks.now.items c.args.levels.now.items c.staying-count.result c.args.block c.add_levels.new.into n c.requires
    (c.in_ok-add_levels.ensures n
    ∙ (ap (λ z. joined (under c.args.block n) (reached c.as_slice-here.result.now z n)) (take_rest c.as_slice-3.result.now c.staying-count.result)
    ∙ (ap (λ z. joined (under c.args.block n) (reached z (drop c.staying-count.result c.as_slice-3.result.now) n)) c.as_slice-here.ensures.value
    ∙ ap (λ z. joined (under c.args.block n) (reached c.args.blocks.now.items (drop c.staying-count.result z) n)) c.as_slice-3.ensures.value))))
