-- What keeps its name, level by level and name by name.
use Rattle.std.proofs.Common.{◌≡◌, ℕ, Bool, true, false, List, ◌∷◌, ◌||◌, Bor, refl, sym, ap, ◌∙◌}
use Rattle.std.specs.Prelude.{cond, bytes_eq}
use Rattle.rule_definitions.specs.Names.{is_among}
use Rattle.module_units.specs.Visible.{Denoted, nothing}
use Rattle.unit_tree.specs.Files.{Rename}
use Rattle.unit_names.specs.Accessible.{is_renamed, under_own}
use Rattle.unit_names.specs.Found.{Row, under, joined, texts}
use Rattle.unit_names.specs.Levels.{block_at, reached, under_listed}
use Rattle.unit_names.proofs.Joins.{joined_three}
use Rattle.unit_names.proofs.Reached.{listed_cond}
use Rattle.unit_names.proofs.Renames.{not_cond_joined}

-- one level more
pub kept_level : (bs : List (List Row)) (ls rest : List ℕ) (l : ℕ) (rs : List Rename) (old new g : Denoted) (n : List ℕ) → ls ≡ l ∷ rest → new ≡ joined old (under_own (under (block_at bs l)) rs n)
    → joined old (under_own (reached bs ls) rs n) ≡ g → joined new (under_own (reached bs rest) rs n) ≡ g
kept_level bs ls rest l rs old new g n e s h =
    ap (λ d. joined d (under_own (reached bs rest) rs n)) s
    ∙ (joined_three old (under_own (under (block_at bs l)) rs n) (under_own (reached bs rest) rs n)
    ∙ (ap (joined old) (sym (not_cond_joined (is_renamed rs n) (under (block_at bs l) n) (reached bs rest n)))
    ∙ (ap (λ z. joined old (under_own (reached bs z) rs n)) (sym e) ∙ h)))

name_cond : (k b a : Bool) (i f : Denoted) → joined (cond b (joined i (cond k nothing f)) i) (cond k nothing (cond a f nothing)) ≡ joined i (cond k nothing (cond (b || a) f nothing))
name_cond true true a i f = refl
name_cond true false a i f = refl
name_cond false b a i f = listed_cond b a i f

-- one name more
pub kept_name : (xs rest : List (Bor (List ℕ))) (x : Bor (List ℕ)) (rs : List Rename) (from old new : List Row) (g : Denoted) (n : List ℕ) → xs ≡ x ∷ rest
    → ((m : List ℕ) → under new m ≡ cond (bytes_eq x.now m) (joined (under old m) (under_own (under from) rs m)) (under old m))
    → joined (under old n) (under_own (under_listed xs from) rs n) ≡ g → joined (under new n) (under_own (under_listed rest from) rs n) ≡ g
kept_name xs rest x rs from old new g n e s h =
    ap (λ d. joined d (under_own (under_listed rest from) rs n)) (s n)
    ∙ (name_cond (is_renamed rs n) (bytes_eq x.now n) (is_among (texts rest) n) (under old n) (under from n)
    ∙ (ap (λ z. joined (under old n) (under_own (under_listed z from) rs n)) (sym e) ∙ h))
