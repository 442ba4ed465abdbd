-- Sizes of statements.
use Rattle.std.specs.Prelude.{ℕ, ◌≡◌}
use Rattle.walk_theory.specs.Syntax.{Form, simple, choose, loop, around, exit, cycle, return}
use Rattle.walk_theory.specs.Made.{parts_size}
use Rattle.image_acts.specs.Acts.{Act}

-- how many steps a simple statement makes; of another form nothing is said
abbrev pub SimpleSize : Form Act → ℕ → Type 0
SimpleSize (simple p) n = n ≡ parts_size p
SimpleSize (choose p bs) n = Unit {0}
SimpleSize (loop s k t b) n = Unit {0}
SimpleSize (around p b m q) n = Unit {0}
SimpleSize (exit k) n = Unit {0}
SimpleSize (cycle k) n = Unit {0}
SimpleSize return n = Unit {0}
