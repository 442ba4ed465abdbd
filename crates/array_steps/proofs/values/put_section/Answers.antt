use Rattle.std.proofs.Common.{◌∙◌, arith}
use Rattle.image_code.specs.Table.{scope_of}
use Rattle.array_steps.proofs.PutLaws.{put_faults}
use Rattle.array_steps.proofs.values.put_section.Goals as goal

pub returns-in-Err : goal.returns-in-Err
returns-in-Err c =
    put_faults c.args.image.now (scope_of c.args.scope) c.args.x c.args.rank c.as_slice.result.now c.in-Some.value (omega (arith, c.in-Some.ensures.there)) (c.as_slice.ensures.is ∙ c.in-Some.ensures.place) c.in-Some.ensures.number c.in-Err.k c.in-Err.ensures.err
