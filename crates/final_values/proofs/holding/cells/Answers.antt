use Rattle.std.proofs.Common.{rules, ◌≡◌, ◌++◌, [], ◌∷◌}
use Rattle.std.specs.Prelude.{Some}
use Rattle.object_rules.specs.MemoryRules.{value_there}
use Rattle.final_values.specs.Finals.{cells_from}
use Rattle.final_values.proofs.Cells.{cells_more}
use Rattle.final_values.proofs.holding.cells.Goals as goal

pub loop-place-preserved : goal.loop-place-preserved
loop-place-preserved c =
    let m = c.args.memory.now.made in
    let h = c.args.memory.now.history in
    let there : value_there m h c.args.coarray c.loop-place.place ≡ Some c.in-Some.value = search rules in
    let more : c.push.new.self ≡ c.loop-place.values ++ c.in-Some.value ∷ [] = search rules in
    cells_more m h c.args.coarray c.loop-place.place c.args.size c.in-Some.value c.loop-place.values c.push.new.self (cells_from m h c.args.coarray 0 c.args.size) c.loop-place-test.true there more c.loop-place.invariant
