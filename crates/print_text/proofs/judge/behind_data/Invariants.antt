use Rattle.std.proofs.Common.{◌≡◌, ◌+◌, ◌-◌, ◌≤◌, ℕ, List, ◌++◌, length, replicate}
use Rattle.image_acts.specs.Formats.{Descriptor, pass}
use Rattle.print_text.specs.Items.{items_of, items_left}
use Rattle.print_text.specs.Passes.{bare, values_ahead}
use Rattle.print_text.specs.Pieces.{IsNumeric, edit}
use Rattle.print_text.proofs.judge.behind_data.Given as goal

-- so many descriptors and items are gone
abbrev pub invariant-loop-taken : goal.invariant-loop-taken
invariant-loop-taken l = record {
  within : l.taken ≤ l.times;
  gone : IsNumeric l.kind → l.taken + values_ahead (items_left l.left) ≡ values_ahead (items_left l.items);
  same : (texts : List (List ℕ)) (n w s : ℕ) (ds : List Descriptor) → l.taken ≤ n
      → bare (pass (replicate (n - l.taken) (edit l.kind w) ++ ds) (items_of texts (items_left l.left)) 0) ≡ bare (pass (replicate n (edit l.kind w) ++ ds) (items_of texts (items_left l.items)) s);
}

abbrev pub decreases-loop-taken : goal.decreases-loop-taken
decreases-loop-taken l = length (items_left l.left)
