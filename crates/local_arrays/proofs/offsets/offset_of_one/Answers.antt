use Rattle.std.proofs.Common.{rules, ◌≡◌, ◌-ℤ◌, true, w64, to_z, of_z}
use Rattle.caf_base.specs.Arithmetic.{is_within}
use Rattle.local_arrays.proofs.OffsetLaws.{one_offset}
use Rattle.local_arrays.proofs.offsets.offset_of_one.Goals as goal

pub returns-then-is_within : goal.returns-then-is_within
returns-then-is_within c =
    let within : is_within c.args.lower c.args.upper c.args.subscript ≡ true = search rules in
    let exact : to_z w64 (of_z w64 c.distance.result) ≡ c.args.subscript -ℤ c.args.lower = search rules in
    one_offset c.args.lower c.args.upper c.args.subscript within c.requires (to_z w64 (of_z w64 c.distance.result)) exact
