-- Names that stand twice, whatever the order in which they are looked for.
use Rattle.std.proofs.Common.{◌≡◌, refl, ap, ◌∙◌}
use Rattle.std.specs.Prelude.{ℕ, Bool, true, false, ◌||◌, ◌&&◌, bytes_eq, List, [], ◌∷◌, ◌++◌}
use Rattle.rule_definitions.specs.Names.{is_among}
use Rattle.rule_definitions.specs.Specifiers.{Written, is_team_name, has_team, is_repeated}
use Rattle.specifier_rules.specs.Clashes.{clash, any_clash}
use Rattle.specifier_rules.specs.Values.{seen_behind}

turned : (a s t u h : Bool) → (a || s) || (t && (u || h)) ≡ (s || (t && h)) || (a || (t && u))
turned true true t u h = refl
turned true false true u true = refl
turned true false true u false = refl
turned true false false u h = refl
turned false true t u h = refl
turned false false true true true = refl
turned false false true true false = refl
turned false false true false true = refl
turned false false true false false = refl
turned false false false u h = refl

one_seen : (n m : List ℕ) (seen : List (List ℕ)) → is_repeated (m ∷ seen) n ≡ (is_repeated seen n || clash n m)
one_seen n m seen = turned (bytes_eq m n) (is_among seen n) (is_team_name n) (is_team_name m) (has_team seen)

or_assoc : (a b c : Bool) → (a || b) || c ≡ a || (b || c)
or_assoc true b c = refl
or_assoc false b c = refl

or_false : (a : Bool) → a ≡ a || false
or_false true = refl
or_false false = refl

repeated_behind : (n : List ℕ) (seen : List (List ℕ)) (ws : List Written) → is_repeated (seen_behind seen ws) n ≡ (is_repeated seen n || any_clash n ws)
repeated_behind n seen [] = or_false (is_repeated seen n)
repeated_behind n seen (w ∷ ws) =
    repeated_behind n (w.name.text ∷ seen) ws
    ∙ ap (λ b. b || any_clash n ws) (one_seen n w.name.text seen)
    ∙ or_assoc (is_repeated seen n) (clash n w.name.text) (any_clash n ws)

and_false : (a : Bool) → (a && false) ≡ false
and_false true = refl
and_false false = refl

-- a name behind others
pub repeated_by_clash : (n : List ℕ) (ws : List Written) → is_repeated (seen_behind [] ws) n ≡ any_clash n ws
repeated_by_clash n ws = repeated_behind n [] ws ∙ ap (λ b. b || any_clash n ws) (and_false (is_team_name n))

-- one specifier more
pub seen_more : (seen : List (List ℕ)) (ws : List Written) (w : Written) → seen_behind seen (ws ++ w ∷ []) ≡ w.name.text ∷ seen_behind seen ws
seen_more seen [] w = refl
seen_more seen (x ∷ ws) w = seen_more (x.name.text ∷ seen) ws w
