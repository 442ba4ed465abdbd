use Rattle.std.proofs.Common.{◌≡◌, rules, to_z, of_z, w64}
use Rattle.array_steps.proofs.extents.agree.Goals as goal

pub returns-in-Three : goal.returns-in-Three
returns-in-Three c =
    let k : to_z w64 (of_z w64 c.in-Three.k) ≡ c.in-Three.k = search rules in
    let m : to_z w64 (of_z w64 c.in-Three.m) ≡ c.in-Three.m = search rules in
    let n : to_z w64 (of_z w64 c.in-Three.n) ≡ c.in-Three.n = search rules in
    rw c.in-Three.is (simp (k, m, n) at c.has_three.ensures)
