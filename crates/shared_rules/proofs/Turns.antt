-- Turns of loops over lists of parts.
use Rattle.std.proofs.Common.{◌≡◌, ◌∙◌, List, [], ◌∷◌, ◌++◌, refl, sym, ap}
use Rattle.std.specs.Prelude.{Option, Some, None}
use Rattle.std.proofs.lemmas.List.{append_assoc}
use Rattle.rule_definitions.specs.declared.broken.Broken.{Broken}
use Rattle.rule_definitions.specs.Judgements.{both}
use Rattle.part_rules.specs.Views.{one_more}

-- one list behind another, where both are there
abbrev pub behind : {T : Type 0} → Option (List T) → Option (List T) → Option (List T)
behind o p = both (λ xs ys. xs ++ ys) o p

module _ {T : Type 0} where
  pub behind_nothing : (o : Option (List T)) → behind (Some []) o ≡ o
  behind_nothing None = refl
  behind_nothing (Some xs) = refl

  nil_behind : (xs : List T) → xs ++ [] ≡ xs
  nil_behind [] = refl
  nil_behind (x ∷ xs) = ap (λ ys. x ∷ ys) (nil_behind xs)

  pub nothing_behind : (o : Option (List T)) → behind o (Some []) ≡ o
  nothing_behind None = refl
  nothing_behind (Some xs) = ap Some (nil_behind xs)

  one_behind : (o : Option (List T)) (x : Option T) (rest : Option (List T)) → behind (both one_more o x) rest ≡ behind o (both (λ y ys. y ∷ ys) x rest)
  one_behind None x rest = refl
  one_behind (Some xs) None rest = refl
  one_behind (Some xs) (Some x) None = refl
  one_behind (Some xs) (Some x) (Some ys) = ap Some (append_assoc xs (x ∷ []) ys)

  -- a turn of a loop that gathers a list: what is made of the items to come
  pub turn_meaning : (o p : Option (List T)) (x : Option T) (all rest end : Option (List T)) → p ≡ both one_more o x → all ≡ both (λ y ys. y ∷ ys) x rest → behind o all ≡ end → behind p rest ≡ end
  turn_meaning o p x all rest end e f h = ap (λ q. behind q rest) e ∙ one_behind o x rest ∙ ap (behind o) (sym f) ∙ h

-- a turn of a loop that gathers a list, of which `rest` is to come
pub turn_breaks : (bs cs ds es rest end : List Broken) → ds ≡ bs ++ cs → es ≡ cs ++ rest → bs ++ es ≡ end → ds ++ rest ≡ end
turn_breaks bs cs ds es rest end e f h = ap (λ xs. xs ++ rest) e ∙ append_assoc bs cs rest ∙ ap (λ xs. bs ++ xs) (sym f) ∙ h

pub ruleset turn_laws = (behind_nothing, nothing_behind)
