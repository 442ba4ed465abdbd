use Rattle.std.proofs.Common.{ap, arith, sym, length, ◌∙◌, ◌≤◌, ◌<◌}
use Rattle.std.specs.Prelude.{Some, map}
use Rattle.part_rules.specs.Brackets.{actual_seen}
use Rattle.call_rules.specs.Bindings.{binding_seen, place_from}
use Rattle.call_rules.proofs.Bindings.{absent_at, found_at, kept_at, removed_at}
use Rattle.call_rules.proofs.binding.take_actual.Goals as goal

pub returns-then-len-place-clause-found : goal.returns-then-len-place-clause-found
returns-then-len-place-clause-found c =
    let bs = c.args.bindings.now.items in
    let long = ap length c.as_slice.ensures.value in
    let e = c.place_of-place.ensures ∙ ap (λ xs. place_from 0 (map binding_seen xs) c.args.number) c.as_slice.ensures.value in
    let f : length bs ≤ c.place_of-place.result = omega arith in
    sym (absent_at bs c.args.number c.place_of-place.result e f)

pub returns-then-len-place-clause-others : goal.returns-then-len-place-clause-others
returns-then-len-place-clause-others c =
    let bs = c.args.bindings.now.items in
    let long = ap length c.as_slice.ensures.value in
    let e = c.place_of-place.ensures ∙ ap (λ xs. place_from 0 (map binding_seen xs) c.args.number) c.as_slice.ensures.value in
    let f : length bs ≤ c.place_of-place.result = omega arith in
    kept_at bs c.args.number c.place_of-place.result e f

pub returns-clause-found : goal.returns-clause-found
returns-clause-found c =
    let bs = c.args.bindings.now.items in
    let long = ap length c.as_slice.ensures.value in
    let e = c.place_of-place.ensures ∙ ap (λ xs. place_from 0 (map binding_seen xs) c.args.number) c.as_slice.ensures.value in
    let f : c.place_of-place.result < length bs = omega arith in
    ap (λ b. Some (actual_seen b.actual)) c.remove-actual.ensures.value ∙ sym (found_at bs c.args.number c.place_of-place.result c.remove-actual.result e f)

pub returns-clause-others : goal.returns-clause-others
returns-clause-others c =
    let bs = c.args.bindings.now.items in
    let e = c.place_of-place.ensures ∙ ap (λ xs. place_from 0 (map binding_seen xs) c.args.number) c.as_slice.ensures.value in
    ap (map binding_seen) c.remove-actual.ensures.items ∙ removed_at bs c.args.number c.place_of-place.result e
