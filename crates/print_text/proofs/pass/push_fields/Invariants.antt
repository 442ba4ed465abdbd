use Rattle.std.proofs.Common.{◌≡◌, ◌+◌, ◌-◌, ◌≤◌, ℕ, List, ◌++◌, length, replicate}
use Rattle.image_acts.specs.Formats.{Descriptor, pass}
use Rattle.print_text.specs.Items.{items_of, items_left}
use Rattle.print_text.specs.Passes.{behind, values_ahead}
use Rattle.print_text.specs.Pieces.{IsNumeric, edit, kept}
use Rattle.print_text.proofs.pass.push_fields.Given as goal

-- so many descriptors and items are gone
abbrev pub invariant-loop-taken : goal.invariant-loop-taken
invariant-loop-taken l = record {
  within : l.taken ≤ l.fields.times;
  gone : IsNumeric l.fields.kind → l.taken + values_ahead (items_left l.left) ≡ values_ahead (items_left l.items);
  same : (n w : ℕ) (ds : List Descriptor) → l.taken ≤ n → l.fields.width ≡ kept w
      → behind l.out.items (pass (replicate (n - l.taken) (edit l.fields.kind w) ++ ds) (items_of l.texts (items_left l.left)) 0)
      ≡ behind l.initial.out.items (pass (replicate n (edit l.fields.kind w) ++ ds) (items_of l.texts (items_left l.items)) 0);
}

abbrev pub decreases-loop-taken : goal.decreases-loop-taken
decreases-loop-taken l = length (items_left l.left)
