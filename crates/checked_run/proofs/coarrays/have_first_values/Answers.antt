use Rattle.std.proofs.Common.{◌≡◌, false, get_or, sym, subst, ◌∙◌, rules}
use Rattle.std.proofs.lemmas.List.Folds.{list_all-map, list_all_at}
use Rattle.coarray_memory.specs.Memories.{declared_of}
use Rattle.object_rules.specs.MemoryRules.{has_first_values}
use Rattle.checked_run.proofs.coarrays.have_first_values.Goals as goal

pub returns-then-not-has_first_values : goal.returns-then-not-has_first_values
returns-then-not-has_first_values c =
    let cs = c.args.coarrays.now in
    let item = c.coarray-item.result in
    let no : has_first_values (declared_of item) ≡ false = search rules in
    let there : has_first_values (declared_of (get_or cs c.loop-coarray.coarray-index item)) ≡ false = subst (λ x. has_first_values (declared_of x) ≡ false) c.coarray-item.is no in
    sym (list_all-map has_first_values declared_of cs ∙ list_all_at (λ x. has_first_values (declared_of x)) cs c.loop-coarray.coarray-index item c.loop-coarray-test.true there)
