-- The names of specifiers, one after another.
use Rattle.std.proofs.Common.{◌≡◌, ap, sym, ◌∙◌, ℕ, ◌+◌, ◌<◌, length, take, drop, get_or, map}
use Rattle.std.specs.Prelude.{List, [], ◌∷◌, ◌++◌}
use Rattle.std.proofs.lemmas.List.{append_assoc, take_more, drop_more}
use Rattle.part_rules.proofs.Gathering.{mapped_behind}
use Rattle.rule_definitions.specs.declared.broken.Broken.{Broken}
use Rattle.rule_definitions.specs.Specifiers.{name_breaks, specifier_breaks}
use Rattle.specifier_rules.specs.Values.{seen_behind}
use Rattle.specifier_rules.specs.Views.{written}
use Rattle.specifier_rules.specs.declared.specifier.Specified.{Specified}
use Rattle.specifier_rules.proofs.Clashes.{seen_more}

-- the names before a place
abbrev pub seen_at : ℕ → List Specified → List (List ℕ)
seen_at i xs = seen_behind [] (map written (take i xs))

pub names_turn : (names : List (List ℕ)) (xs : List Specified) (i : ℕ) (x : Specified) → i < length xs → x ≡ get_or xs i x → (old new total : List Broken)
    → new ≡ old ++ name_breaks names (seen_at i xs) (written x)
    → old ++ specifier_breaks names (seen_at i xs) (map written (drop i xs)) ≡ total
    → new ++ specifier_breaks names (seen_at (i + 1) xs) (map written (drop (i + 1) xs)) ≡ total
names_turn names xs i x h is old new total e f =
    let left = map written (drop (i + 1) xs) in
    let front = ap (map written) (drop_more xs i x h ∙ ap (λ y. y ∷ drop (i + 1) xs) (sym is)) in
    let behind = ap (λ ys. seen_behind [] (map written ys)) (take_more xs i x h ∙ ap (λ y. take i xs ++ y ∷ []) (sym is)) ∙ ap (seen_behind []) (mapped_behind written (take i xs) x) ∙ seen_more [] (map written (take i xs)) (written x) in
    ap (λ ns. new ++ specifier_breaks names ns left) behind
    ∙ ap (λ bs. bs ++ specifier_breaks names ((written x).name.text ∷ seen_at i xs) left) e
    ∙ append_assoc old (name_breaks names (seen_at i xs) (written x)) (specifier_breaks names ((written x).name.text ∷ seen_at i xs) left)
    ∙ ap (λ ys. old ++ specifier_breaks names (seen_at i xs) ys) (sym front)
    ∙ f
