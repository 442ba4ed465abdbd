-- The rules of headings, one behind the other.
use Rattle.std.proofs.Common.{◌≡◌, ◌∙◌, ℕ, Bool, true, false, not, List, [], ◌∷◌, ◌++◌, refl, sym, ap}
use Rattle.std.specs.Prelude.{Option}
use Rattle.std.proofs.lemmas.List.{append_assoc}
use Rattle.caf_base.specs.declared.place.Pos.{Pos}
use Rattle.fortran_tree.specs.Statements as d
use Rattle.fortran_tree.specs.Units as u
use Rattle.rule_definitions.specs.declared.broken.Broken.{Broken}
use Rattle.rule_definitions.specs.Judgements.{first_of, said_of, unless}
use Rattle.rule_definitions.specs.Names.{Scope}
use Rattle.rule_definitions.specs.Declarations.{type_judged}
use Rattle.rule_definitions.specs.Units.{Headed, answer_breaks, dummy_breaks, heading_breaks, own_name, place_of_answer, second_type_breaks, type_breaks, types_of}
use Rattle.scope_table.proofs.First.{first_of_both}
use Rattle.unit_scopes.specs.Headings.{is_second, name_rules, prefix_breaks, type_rules}

pub second_is : (ts : List d.DeclarationTypeSpec) (p : Pos) → unless (not (is_second false ts)) 21 p ≡ second_type_breaks ts p
second_is [] p = refl
second_is (a ∷ []) p = refl
second_is (a ∷ b ∷ ts) p = refl

pub prefix_more : (s : Scope) (x : u.PrefixSpec) (xs : List u.PrefixSpec) → type_breaks s (types_of (x ∷ xs)) ≡ prefix_breaks s x ++ type_breaks s (types_of xs)
prefix_more s u.recursive xs = refl
prefix_more s (u.result_type x) xs = refl

pub heading_noted : (s : Scope) (h : Headed) (ts : List d.DeclarationTypeSpec) (p : Pos) (o o' o'' : Option Broken) → o' ≡ first_of o (name_rules h) → o'' ≡ first_of o' (type_rules s ts p) → ts ≡ h.types → p ≡ place_of_answer h
    → o'' ≡ first_of o (heading_breaks s h)
heading_noted s h ts p o o' o'' e f g q =
    f ∙ ap (λ k. first_of k (type_rules s ts p)) e ∙ ap (λ k. first_of (first_of o (name_rules h)) (type_rules s k p)) g
    ∙ ap (λ k. first_of (first_of o (name_rules h)) (type_rules s h.types k)) q
    ∙ sym (first_of_both o (name_rules h) (type_rules s h.types (place_of_answer h)))
    ∙ ap (first_of o) (append_assoc (dummy_breaks (own_name h) h.dummies) (said_of (answer_breaks h) h.answer) (type_rules s h.types (place_of_answer h)))
