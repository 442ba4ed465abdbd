-- The statements of a made program break no rule.
use Rattle.std.proofs.Common.{◌≡◌, ℕ, zero, suc, ◌+◌, ◌≤◌, [], ◌++◌, refl, ap, ◌∙◌, arith}
use Rattle.caf_base.specs.declared.place.Pos.{Pos}
use Rattle.fortran_tree.specs.Statements.{Statements}
use Rattle.rule_definitions.specs.Statements.{Position, judged_statement, judged_statements}
use Rattle.made_tree.specs.MadeTree.{here, width, setting, settings, closing, followed_by, opening}
use Rattle.made_tree.proofs.Scopes.{held, own_names, scope_with}

-- where the statements stand
abbrev pub position : ℕ → Position
position size = record { scope = scope_with (own_names size) []; around = []; criticals = 0; literals = 0 }

-- u(J) = V
setting_fine : (size j v : ℕ) (p q : ℕ → Pos) → j ≤ 2147483647 → v ≤ 2147483647 → (judged_statement (position size) (setting p q j v)).breaks ≡ []
unfolding judged_statement
setting_fine size j v p q h k = rw (held j h, held v k) refl

settings_fine : (value : ℕ → ℕ) (size l j n : ℕ) (ys : Statements) → ((i : ℕ) → value i ≤ 2147483647) → j + n ≤ 4097
    → (judged_statements (position size) (followed_by (settings value l j n) ys)).breaks ≡ (judged_statements (position size) ys).breaks
unfolding judged_statements
settings_fine value size l j zero ys h k = refl
settings_fine value size l j (suc n) ys h k =
    ap (λ b. b ++ (judged_statements (position size) (followed_by (settings value (l + 1) (j + 1) n) ys)).breaks)
    (setting_fine size j (value j) (here l) (λ c. here l (width j + c)) (omega arith) (h j))
    ∙ settings_fine value size (l + 1) (j + 1) n ys h (omega arith)

closing_fine : (size : ℕ) (p q : ℕ → ℕ → Pos) → size ≤ 2147483647 → (judged_statements (position size) (closing p q size)).breaks ≡ []
unfolding judged_statements
closing_fine size p q h = rw (held size h) refl

opening_fine : (size : ℕ) (p : ℕ → ℕ → Pos) (ys : Statements) → (judged_statements (position size) (followed_by (opening p) ys)).breaks ≡ (judged_statements (position size) ys).breaks
unfolding judged_statements
opening_fine size p ys = refl

pub statements_fine : (value : ℕ → ℕ) (size : ℕ) (p q r : ℕ → ℕ → Pos) → ((i : ℕ) → value i ≤ 2147483647) → size ≤ 4096
    → (judged_statements (position size) (followed_by (opening p) (followed_by (settings value 6 1 size) (closing q r size)))).breaks ≡ []
statements_fine value size p q r h k =
    opening_fine size p (followed_by (settings value 6 1 size) (closing q r size))
    ∙ settings_fine value size 6 1 size (closing q r size) h (omega arith)
    ∙ closing_fine size q r (omega arith)
