-- The code of a simple statement.
use Rattle.std.specs.Prelude.{ℕ, ◌≡◌}
use Rattle.walk_theory.specs.Syntax.{Form, simple}
use Rattle.image_acts.specs.Acts.{Act}
use Rattle.expr_code.specs.Drafts.{Drafted, written}

-- the draft behind a simple statement has its parts' code, at its line; of other statements nothing is said
abbrev pub SimplyWritten : Form Act → (line : ℕ) → (before after : Drafted) → Type 0
SimplyWritten (simple p) l d e = e ≡ written l p d
SimplyWritten f l d e = Unit {0}
