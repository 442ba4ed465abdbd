-- A made program breaks no rule.
use Rattle.std.proofs.Common.{◌≡◌, ℕ, ◌+◌, ◌≤◌, [], ◌++◌, ap, ◌∙◌, arith}
use Rattle.rule_definitions.specs.Names.{variables_of}
use Rattle.rule_definitions.specs.Declarations.{limit_breaks}
use Rattle.rule_definitions.specs.Units.{program_declared, program_judged}
use Rattle.made_tree.specs.MadeTree.{here, line_at, line_behind, width, made_tree}
use Rattle.made_tree.proofs.Scopes.{own_names, names_declared}
use Rattle.made_tree.proofs.Limits.{limits_kept}
use Rattle.made_tree.proofs.Judged.{statements_fine}

pub unbroken : (value : ℕ → ℕ) (size : ℕ) → ((j : ℕ) → value j ≤ 2147483647) → 1 ≤ size → size ≤ 4096 → (program_judged (made_tree value size)).breaks ≡ []
unbroken value size h low high =
    let k = line_behind size in
    ap (λ d. (program_declared (made_tree value size) d).breaks) (names_declared value size (omega arith))
    ∙ ap (λ b. ((b ++ []) ++ (limit_breaks (variables_of (own_names size)) ++ [])) ++ [])
    (statements_fine value size (λ i c. here (1 + i) c) (λ i c. here (line_at k i) c) (λ i c. here (line_at k i) (width size + c)) h high)
    ∙ ap (λ l. (l ++ []) ++ []) (limits_kept size low high)
