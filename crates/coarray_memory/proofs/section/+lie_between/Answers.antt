use Rattle.std.proofs.Common.{rules, ◌≡◌, ◌+◌, ◌-◌, ◌*◌, min, length, get_or, pos, FitsSigned, w32, to_z, of_z, ap, ◌∙◌, arith}
use Rattle.std.proofs.lemmas.Int.{to_z-of_z}
use Rattle.coarray_memory.proofs.Bounding.{lie_down, lie_up}
use Rattle.coarray_memory.proofs.section.+lie_between.Goals as goal

pub returns-then-step-lt0 : goal.returns-then-step-lt0
returns-then-step-lt0 t c =
    let d = get_or c.args.dims.now 0 (0, pos 0) in
    let fits : FitsSigned w32 d.1 = search rules in
    c.lie_between.ensures
    ∙ lie_down (pos c.args.start) c.args.dims.now (omega arith) c.requires.wide c.args.low c.args.high (to_z w32 (of_z w32 d.1)) (to_z-of_z w32 d.1 fits) c.if-step-lt0.true c.requires.high c.min.result
    (c.min.ensures ∙ ap (λ n. min (c.args.low + n) 65536) (ap (λ k. k * c.from-3.result) c.from-2.ensures ∙ ap (λ k. (d.0 - 1) * k) (c.from-3.ensures ∙ c.unsigned_abs.ensures.value)))

pub returns-else-step-lt0 : goal.returns-else-step-lt0
returns-else-step-lt0 t c =
    let d = get_or c.args.dims.now 0 (0, pos 0) in
    let fits : FitsSigned w32 d.1 = search rules in
    c.lie_between-else-step-lt0.ensures
    ∙ lie_up (pos c.args.start) c.args.dims.now (omega arith) c.requires.wide c.args.low c.args.high (to_z w32 (of_z w32 d.1)) (to_z-of_z w32 d.1 fits) c.if-step-lt0.false c.saturating_sub.result
    (c.saturating_sub.ensures ∙ ap (λ n. c.args.high - n) (ap (λ k. k * c.from-3.result) c.from-2.ensures ∙ ap (λ k. (d.0 - 1) * k) (c.from-3.ensures ∙ c.unsigned_abs.ensures.value)))
