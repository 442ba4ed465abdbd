use Rattle.std.proofs.Common.{◌≡◌, ◌++◌, ◌∷◌, [], ◌+ℤ◌, ap, sym, ◌∙◌, arith, to_z, of_z, w64}
use Rattle.std.specs.Int.{w128}
use Rattle.std.proofs.lemmas.Int.{to_z-of_z}
use Rattle.std.proofs.lemmas.Grind.{common_steps}
use Rattle.rule_definitions.specs.Constants as rules
use Rattle.constant_values.proofs.Selections.{row_turn, row_left, inside_none}
use Rattle.constant_values.proofs.chosen.row.Goals as goal

pub returns-in_default : goal.returns-in_default
returns-in_default c =
    let d = c.args.bounds.now in
    let s = to_z-of_z w64 c.args.stride c.ranges.stride in
    let f = to_z-of_z w64 c.args.first c.ranges.first in
    let at = to_z w128 c.loop-i.at-bits in
    sym (row_left d c.loop-i.subscripts.items (rules.row c.args.count (to_z w64 (of_z w64 c.args.stride)) (to_z w64 (of_z w64 c.args.first))) c.args.count c.loop-i.i (to_z w64 (of_z w64 c.args.stride)) at c.loop-i-test.true c.loop-i.invariant.0
    (inside_none (rules.is_inside d at) at (sym c.in_default.is ∙ c.inside.ensures)))
    ∙ ap (rules.row_chosen d) (ap (λ z. rules.row c.args.count z (to_z w64 (of_z w64 c.args.first))) s ∙ ap (rules.row c.args.count c.args.stride) f)

pub loop-i-preserved : goal.loop-i-preserved
loop-i-preserved c =
    let d = c.args.bounds.now in
    let at = to_z w128 c.loop-i.at-bits in
    let xs = c.loop-i.subscripts.items in
    let ys = c.push.new.self.items in
    let m = c.in-Some.subscript in
    let e : ys ≡ xs ++ m ∷ [] = grind (arith, common_steps) in
    let q : to_z w128 (of_z w128 c.after-at.result) ≡ m +ℤ to_z w64 (of_z w64 c.args.stride) = grind (arith, common_steps) in
    row_turn d xs ys (rules.row c.args.count (to_z w64 (of_z w64 c.args.stride)) (to_z w64 (of_z w64 c.args.first))) c.args.count c.loop-i.i (to_z w64 (of_z w64 c.args.stride)) at m (to_z w128 (of_z w128 c.after-at.result))
    c.loop-i-test.true (sym c.in-Some.is ∙ c.inside.ensures) e q c.loop-i.invariant
