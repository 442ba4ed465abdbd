use Rattle.std.proofs.Common.{◌≡◌, ◌∙◌, ap, sym, arith, ◌++◌, ◌∷◌, [], map, ◌+◌, length, subst}
use Rattle.std.proofs.lemmas.Grind.{common_steps}
use Rattle.scope_table.specs.Numbered.{ArePlaced}
use Rattle.scope_table.specs.Symbols.{entry_name}
use Rattle.scope_table.specs.Counts.{variables_in, coarrays_in, variable_count, coarray_count}
use Rattle.scope_table.proofs.Tables.{one_more_entry}
use Rattle.scope_table.proofs.Counts.{variables_more, coarrays_more}
use Rattle.scope_table.proofs.table.Table.add.Goals as goal

pub invariant_of-self-2 : goal.invariant_of-self-2
invariant_of-self-2 c =
    let p : c.push.new.self.items ≡ c.self.inside.entries.items ++ c.args.next ∷ [] = grind (arith, common_steps) in
    let l : length c.self.inside.entries.items ≡ c.len-place.result = grind (arith, common_steps) in
    let r : c.reserve.new.self.items ≡ c.self.inside.places.items = grind (arith, common_steps) in
    record {
      names = one_more_entry c.self.inside.entries.items c.args.next c.self.inside.names c.add_name.new.names c.name_of.result.now c.args.self.now
          c.self.invariant.names c.self.view_is c.name_of.ensures c.in_ok-add_name.ensures.names c.requires
          ∙ ap (map entry_name) (sym p);
      variables = c.in_ok-variables.ensures.variables ∙ ap (λ k. k + variable_count c.args.next) c.self.invariant.variables
          ∙ sym (variables_more c.self.inside.entries.items c.args.next) ∙ ap variables_in (sym p);
      coarrays = c.in_ok-variables.ensures.coarrays ∙ ap (λ k. k + coarray_count c.args.next) c.self.invariant.coarrays
          ∙ sym (coarrays_more c.self.inside.entries.items c.args.next) ∙ ap coarrays_in (sym p);
      placed = subst (λ z. ArePlaced c.place_variable-self-inside.result c.place_variable-self-inside.new.places.items z) (sym p)
          (c.place_variable-self-inside.ensures c.self.inside.entries.items l (subst (λ z. ArePlaced c.self.inside.are_numbered z c.self.inside.entries.items) (sym r) c.self.invariant.placed));
    }
