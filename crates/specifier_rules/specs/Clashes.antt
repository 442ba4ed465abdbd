-- Names of specifiers that stand twice.
use Rattle.std.specs.Prelude.{ℕ, Bool, false, bytes_eq, ◌||◌, ◌&&◌, List, [], ◌∷◌}
use Rattle.rule_definitions.specs.Specifiers.{Written, is_team_name}

-- a specifier of this name, or one that names a team as this name does
abbrev pub clash : List ℕ → List ℕ → Bool
clash n m = bytes_eq m n || (is_team_name n && is_team_name m)

abbrev pub any_clash : List ℕ → List Written → Bool
any_clash n [] = false
any_clash n (w ∷ ws) = clash n w.name.text || any_clash n ws
