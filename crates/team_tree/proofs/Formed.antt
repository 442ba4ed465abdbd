-- The members of the teams that are formed are images of the arguments.
use Rattle.std.proofs.Common.{◌≡◌, ℕ, Bool, true, false, ◌&&◌, ◌||◌, not, cond, List, [], ◌∷◌, ◌++◌, inl, inr, map, refl, ap, sym, ◌∙◌}
use Rattle.std.specs.Prelude.{ℤ, pos, int_lt, int_le, filter}
use Rattle.std.specs.List.{list_all}
use Rattle.std.specs.Ordering.{int_eq}
use Rattle.std.proofs.lemmas.Bool.{cases_Bool, and_parts}
use Rattle.object_rules.specs.FormedTeams.{FormArg, Members, put_by, sorted_by, numbers_given, group_of, members_of, teams_of, is_bad_form, formed}

both : (a b : Bool) → a ≡ true → b ≡ true → (a && b) ≡ true
both true b e f = f
both false b e f = absurd (cc)

module _ (P : ℕ → Bool) where
  -- each argument is of an image with the property
  abbrev pub are : List FormArg → Bool
  are as_ = list_all (λ a. P a.image) as_

  put_are : (a : FormArg) (xs : List FormArg) → P a.image ≡ true → are xs ≡ true → are (put_by (λ x. x.new_index) a xs) ≡ true
  put_are a [] p q = both (P a.image) true p refl
  put_are a (x ∷ xs) p q =
      let r = and_parts (P x.image) (are xs) q in
      elim (cases_Bool (int_lt a.new_index x.new_index)) [
        | inl t ↦ rw t (both (P a.image) (are (x ∷ xs)) p q)
        | inr f ↦ rw f (both (P x.image) (are (put_by (λ y. y.new_index) a xs)) r.0 (put_are a xs p r.1))
      ]

  sorted_are : (done xs : List FormArg) → are done ≡ true → are xs ≡ true → are (sorted_by (λ x. x.new_index) done xs) ≡ true
  sorted_are done [] p q = p
  sorted_are done (x ∷ xs) p q = let r = and_parts (P x.image) (are xs) q in sorted_are (put_by (λ y. y.new_index) x done) xs (put_are x done r.0 p) r.1

  group_are : (n : ℤ) (xs : List FormArg) → are xs ≡ true → are (group_of n xs) ≡ true
  group_are n [] q = refl
  group_are n (x ∷ xs) q =
      let r = and_parts (P x.image) (are xs) q in
      elim (cases_Bool (int_eq x.number n)) [
        | inl t ↦ rw t (both (P x.image) (are (group_of n xs)) r.0 (group_are n xs r.1))
        | inr f ↦ rw f (group_are n xs r.1)
      ]

  images_are : (xs : List FormArg) → are xs ≡ true → list_all P (map (λ (a : FormArg). a.image) xs) ≡ true
  images_are [] q = refl
  images_are (x ∷ xs) q = let r = and_parts (P x.image) (are xs) q in both (P x.image) (list_all P (map (λ (a : FormArg). a.image) xs)) r.0 (images_are xs r.1)

  abbrev pub all_are : List Members → Bool
  all_are ts = list_all (λ t. list_all P t.images) ts

  teams_are : (ns : List ℤ) (args : List FormArg) → are args ≡ true → all_are (teams_of ns args) ≡ true
  teams_are [] args q = refl
  teams_are (n ∷ ns) args q = elim (cases_Bool (int_le (pos 1) n)) [
    | inl t ↦ rw t (both (list_all P (members_of (group_of n args))) (all_are (teams_of ns args)) (images_are (sorted_by (λ a. a.new_index) [] (group_of n args)) (sorted_are [] (group_of n args) refl (group_are n args q))) (teams_are ns args q))
    | inr f ↦ rw f (teams_are ns args q)
  ]

  pub formed_are : (stopped failed : Bool) (args : List FormArg) → are args ≡ true → all_are (formed stopped failed args) ≡ true
  formed_are stopped failed args q = elim (cases_Bool (stopped || (not failed && is_bad_form args))) [
    | inl t ↦ rw t refl
    | inr f ↦ rw f (teams_are (numbers_given args) args q)
  ]
