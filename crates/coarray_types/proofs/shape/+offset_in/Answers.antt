use Rattle.std.proofs.Common.{◌<◌, ◌+◌, ◌*◌, ◌∙◌, arith, ap₂, sym, subst}
use Rattle.coarray_types.specs.Places.{size_of}
use Rattle.coarray_types.proofs.PlaceLemmas.{offset_step}
use Rattle.coarray_types.proofs.shape.+offset_in.Goals as goal

pub joined-requires-clause-extent : goal.joined-requires-clause-extent
joined-requires-clause-extent t c =
    let within = c.is_within.ensures.0 c.if-not-is_within.false in
    let step = offset_step c.args.dims.now c.args.subs.now c.in_ok-rest.rest (omega arith) (omega arith) within.0 within.1 c.in_ok-rest.ensures.offset.0 c.in_ok-rest.ensures.offset.1 c.requires.cells in
    let same = c.apart-extent.ensures in
    omega (arith, step.small, same)

pub overflow_cast-result : goal.overflow_cast-result
overflow_cast-result t c =
    let within = c.is_within.ensures.0 c.if-not-is_within.false in
    let step = offset_step c.args.dims.now c.args.subs.now c.in_ok-rest.rest (omega arith) (omega arith) within.0 within.1 c.in_ok-rest.ensures.offset.0 c.in_ok-rest.ensures.offset.1 c.requires.cells in
    let is = c.joined.ensures ∙ ap₂ (λ a b. a + (b + 1) * c.in_ok-rest.rest) c.apart.ensures c.apart-extent.ensures in
    let below : c.joined.result < size_of c.args.dims.now = subst (λ n. n < size_of c.args.dims.now) (sym is) step.below in
    let few = c.requires.cells in
    omega (arith, below, few)

pub returns-clause-below : goal.returns-clause-below
returns-clause-below t c =
    let within = c.is_within.ensures.0 c.if-not-is_within.false in
    let step = offset_step c.args.dims.now c.args.subs.now c.in_ok-rest.rest (omega arith) (omega arith) within.0 within.1 c.in_ok-rest.ensures.offset.0 c.in_ok-rest.ensures.offset.1 c.requires.cells in
    let is = c.joined.ensures ∙ ap₂ (λ a b. a + (b + 1) * c.in_ok-rest.rest) c.apart.ensures c.apart-extent.ensures in
    subst (λ n. n < size_of c.args.dims.now) (sym is) step.below
