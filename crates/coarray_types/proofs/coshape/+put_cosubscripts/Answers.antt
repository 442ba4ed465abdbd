use Rattle.std.proofs.Common.{rules, ◌≤◌, ◌∙◌, ◌+◌, ◌%◌, ◌/◌, ◌+ℤ◌, arith, length, get_or, pos, ap₂, FitsSigned, w64}
use Rattle.std.proofs.lemmas.Int.{to_z-of_z}
use Rattle.std.proofs.lemmas.Grind.{common_steps}
use Rattle.coarray_types.proofs.CoplaceLemmas.{cosubscripts_step}
use Rattle.coarray_types.proofs.coshape.+put_cosubscripts.Goals as goal

pub returns-clause-within : goal.returns-clause-within
returns-clause-within t c =
    let fits : FitsSigned w64 c.above-2.result = search rules in
    let at = to_z-of_z w64 c.above-2.result fits ∙ (c.above-2.ensures ∙ ap₂ (λ p e. get_or c.args.lowers.now 0 (pos 0) +ℤ pos (p % e)) c.from-place.ensures c.coextent-extent.ensures.value) in
    let back = c.put_cosubscripts.ensures.place ∙ ap₂ (λ p e. p / e) c.from-place.ensures c.coextent-extent.ensures.value in
    let enough : length c.args.lowers.now ≤ length c.put_cosubscripts.new.subs + 1 = grind (arith, common_steps) in
    (cosubscripts_step c.args.lowers.now c.args.extents.now c.args.subs.now c.put_cosubscripts.new.subs _ c.args.place _ (omega arith) (omega arith) c.requires.corank enough c.requires.cobounds at c.put_cosubscripts.ensures.within back).0

pub returns-clause-place : goal.returns-clause-place
returns-clause-place t c =
    let fits : FitsSigned w64 c.above-2.result = search rules in
    let at = to_z-of_z w64 c.above-2.result fits ∙ (c.above-2.ensures ∙ ap₂ (λ p e. get_or c.args.lowers.now 0 (pos 0) +ℤ pos (p % e)) c.from-place.ensures c.coextent-extent.ensures.value) in
    let back = c.put_cosubscripts.ensures.place ∙ ap₂ (λ p e. p / e) c.from-place.ensures c.coextent-extent.ensures.value in
    let enough : length c.args.lowers.now ≤ length c.put_cosubscripts.new.subs + 1 = grind (arith, common_steps) in
    (cosubscripts_step c.args.lowers.now c.args.extents.now c.args.subs.now c.put_cosubscripts.new.subs _ c.args.place _ (omega arith) (omega arith) c.requires.corank enough c.requires.cobounds at c.put_cosubscripts.ensures.within back).1
