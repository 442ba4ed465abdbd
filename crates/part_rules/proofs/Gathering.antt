-- A list of parts that is gathered from the front: what breaks in each, and what all of them stand for.
use Rattle.std.proofs.Common.{◌≡◌, refl, ap, sym, ◌∙◌}
use Rattle.std.specs.Prelude.{List, [], ◌∷◌, ◌++◌, Option, Some, None, map}
use Rattle.std.specs.Option.{option_map}
use Rattle.std.proofs.lemmas.List.{append-nil, append_assoc, map-append}
use Rattle.rule_definitions.specs.declared.broken.Broken.{Broken}
use Rattle.rule_definitions.specs.Judgements.{Judgement, both, all_made}
use Rattle.part_rules.specs.Views.{one_more}

module _ {T : Type 0} where
  pub all_breaks : (js : List (Judgement T)) (j : Judgement T) → (all_made (js ++ j ∷ [])).breaks ≡ (all_made js).breaks ++ j.breaks
  all_breaks [] j = append-nil j.breaks
  all_breaks (k ∷ js) j = ap (λ bs. k.breaks ++ bs) (all_breaks js j) ∙ sym (append_assoc k.breaks (all_made js).breaks j.breaks)

  all_one_more : (x : Option T) (o : Option (List T)) (y : Option T) → both (λ z zs. z ∷ zs) x (both one_more o y) ≡ both one_more (both (λ z zs. z ∷ zs) x o) y
  all_one_more None o y = refl
  all_one_more (Some x) None y = refl
  all_one_more (Some x) (Some xs) None = refl
  all_one_more (Some x) (Some xs) (Some y) = refl

  alone : (x : Option T) → both (λ z zs. z ∷ zs) x (Some []) ≡ both one_more (Some []) x
  alone None = refl
  alone (Some x) = refl

  pub all_meaning : (js : List (Judgement T)) (j : Judgement T) → (all_made (js ++ j ∷ [])).meaning ≡ both one_more (all_made js).meaning j.meaning
  all_meaning [] j = alone j.meaning
  all_meaning (k ∷ js) j = ap (both (λ z zs. z ∷ zs) k.meaning) (all_meaning js j) ∙ all_one_more k.meaning (all_made js).meaning j.meaning

module _ {S T : Type 0} (see : S → T) where
  seen_one_more : (o : Option (List S)) (x : Option S) → option_map (map see) (both one_more o x) ≡ both one_more (option_map (map see) o) (option_map see x)
  seen_one_more None x = refl
  seen_one_more (Some xs) None = refl
  seen_one_more (Some xs) (Some x) = ap Some (map-append see xs (x ∷ []))

  -- a turn of a loop that gathers
  pub breaks_gathered : (js : List (Judgement T)) (j : Judgement T) (bs cs ds : List Broken)
      → ds ≡ bs ++ cs → bs ≡ (all_made js).breaks → cs ≡ j.breaks → ds ≡ (all_made (js ++ j ∷ [])).breaks
  breaks_gathered js j bs cs ds e f g =
      e ∙ ap (λ x. x ++ cs) f ∙ ap (λ x. (all_made js).breaks ++ x) g ∙ sym (all_breaks js j)

  pub meaning_gathered : (js : List (Judgement T)) (j : Judgement T) (o p : Option (List S)) (x : Option S)
      → p ≡ both one_more o x → option_map (map see) o ≡ (all_made js).meaning → option_map see x ≡ j.meaning
      → option_map (map see) p ≡ (all_made (js ++ j ∷ [])).meaning
  meaning_gathered js j o p x e f g =
      ap (option_map (map see)) e
      ∙ seen_one_more o x
      ∙ ap (λ y. both one_more y (option_map see x)) f
      ∙ ap (both one_more (all_made js).meaning) g
      ∙ sym (all_meaning js j)

-- a list that is made of its items
module _ {T L : Type 0} (nil : L) (more : T → L → L) where
  abbrev pub folded : List T → L
  folded [] = nil
  folded (x ∷ xs) = more x (folded xs)

  pub folded_both : (x : Option T) (o : Option (List T)) → option_map folded (both (λ z zs. z ∷ zs) x o) ≡ both more x (option_map folded o)
  folded_both None o = refl
  folded_both (Some x) None = refl
  folded_both (Some x) (Some xs) = refl

-- one item more of a list that is seen through a view
pub mapped_behind : {A B : Type 0} (f : A → B) (xs : List A) (x : A) → map f (xs ++ x ∷ []) ≡ map f xs ++ f x ∷ []
mapped_behind f xs x = map-append f xs (x ∷ [])
