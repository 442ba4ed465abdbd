-- The teams that a FORM TEAM makes: each has a member, and nobody stands in them oftener than among those who gave a
-- number.
use Rattle.std.proofs.Common.{◌≡◌, ℕ, suc, ◌+◌, ◌≤◌, Bool, true, false, ◌||◌, cond, List, [], ◌∷◌, ◌++◌, length, inl, inr, refl, sym, subst, arith}
use Rattle.std.specs.Prelude.{ℤ, pos, int_lt, int_le, nat_eq, nat_le, map}
use Rattle.std.specs.List.{list_any, list_all, filter}
use Rattle.std.specs.Ordering.{int_eq}
use Rattle.std.proofs.lemmas.List.{length-map}
use Rattle.std.proofs.lemmas.Bool.{cases_Bool, and_from, le-leb}
use Rattle.std.proofs.lemmas.Bool.Decides.{Decides-int_eq}
use Rattle.object_rules.specs.FormedTeams.{FormArg, Members, put_by, sorted_by, numbers_given, group_of, members_of, teams_of}
use Rattle.team_laws.proofs.Times.{times, times_append}
use Rattle.team_laws.proofs.Given.{Distinct, AllGiven, given_distinct, all_given}

-- the images of these arguments, and of these teams
abbrev pub givers : List FormArg → List ℕ
givers args = map (λ a. a.image) args

abbrev pub images_of : List Members → List ℕ
images_of [] = []
images_of (x ∷ xs) = x.images ++ images_of xs

module _ (m : ℕ) where
  put_times : (key : FormArg → ℤ) (a : FormArg) (xs : List FormArg) → times m (givers (put_by key a xs)) ≡ cond (nat_eq m a.image) 1 0 + times m (givers xs)
  put_times key a [] = refl
  put_times key a (x ∷ xs) = elim (cases_Bool (int_lt (key a) (key x))) [
    | inl t ↦ rw t refl
    | inr f ↦ (let r = put_times key a xs in rw f (omega arith))
  ]

  sorted_times : (key : FormArg → ℤ) (done xs : List FormArg) → times m (givers (sorted_by key done xs)) ≡ times m (givers done) + times m (givers xs)
  sorted_times key done [] = omega arith
  sorted_times key done (x ∷ xs) =
      let r = sorted_times key (put_by key x done) xs in
      let p = put_times key x done in
      omega arith

  members_times : (group : List FormArg) → times m (members_of group) ≡ times m (givers group)
  members_times group = let r = sorted_times (λ a. a.new_index) [] group in omega arith

  -- those of one number, and those of the others
  group_times : (n : ℤ) (ns : List ℤ) (args : List FormArg) → list_any (int_eq n) ns ≡ false
      → times m (givers (group_of n args)) + times m (givers (filter (λ (a : FormArg). list_any (int_eq a.number) ns) args)) ≤ times m (givers (filter (λ (a : FormArg). int_eq a.number n || list_any (int_eq a.number) ns) args))
  group_times n ns [] out = omega arith
  group_times n ns (a ∷ args) out =
      let r = group_times n ns args out in
      elim (cases_Bool (int_eq a.number n)) [
        | inl t ↦ (
            let e = (Decides-int_eq a.number n).0 t in
            let f : list_any (int_eq a.number) ns ≡ false = subst (λ z. list_any (int_eq z) ns ≡ false) (sym e) out in
            rw (t, f) (omega arith))
        | inr f ↦ elim (cases_Bool (list_any (int_eq a.number) ns)) [
          | inl t ↦ rw (f, t) (omega arith)
          | inr g ↦ rw (f, g) r
        ]
      ]

  filter_times : (p : FormArg → Bool) (args : List FormArg) → times m (givers (filter p args)) ≤ times m (givers args)
  filter_times p [] = omega arith
  filter_times p (a ∷ args) =
      let r = filter_times p args in
      elim (cases_Bool (p a)) [ inl t ↦ rw t (omega arith) | inr f ↦ rw f (omega arith) ]

  teams_times : (ns : List ℤ) (args : List FormArg) → Distinct ns → times m (images_of (teams_of ns args)) ≤ times m (givers (filter (λ (a : FormArg). list_any (int_eq a.number) ns) args))
  teams_times [] args d = omega arith
  teams_times (n ∷ ns) args d =
      let rest = teams_times ns args d.1 in
      let group = group_times n ns args d.0 in
      let own = members_times (group_of n args) in
      elim (cases_Bool (int_le (pos 1) n)) [
        | inl t ↦ (let both = times_append m (members_of (group_of n args)) (images_of (teams_of ns args)) in rw t (omega arith))
        | inr f ↦ rw f (omega arith)
      ]

  pub formed_times : (args : List FormArg) → times m (images_of (teams_of (numbers_given args) args)) ≤ times m (givers args)
  formed_times args =
      let r = teams_times (numbers_given args) args (given_distinct args) in
      let f = filter_times (λ (a : FormArg). list_any (int_eq a.number) (numbers_given args)) args in
      omega arith

-- a team has as many members as gave its number
put_length : (key : FormArg → ℤ) (a : FormArg) (xs : List FormArg) → length (put_by key a xs) ≡ suc (length xs)
put_length key a [] = refl
put_length key a (x ∷ xs) = elim (cases_Bool (int_lt (key a) (key x))) [
  | inl t ↦ rw t refl
  | inr f ↦ (let r = put_length key a xs in rw f (omega arith))
]

sorted_length : (key : FormArg → ℤ) (done xs : List FormArg) → length (sorted_by key done xs) ≡ length done + length xs
sorted_length key done [] = omega arith
sorted_length key done (x ∷ xs) = let r = sorted_length key (put_by key x done) xs in let p = put_length key x done in omega arith

group_there : (n : ℤ) (args : List FormArg) → list_any (λ (a : FormArg). int_eq a.number n) args ≡ true → 1 ≤ length (group_of n args)
group_there n [] h = absurd (cc)
group_there n (a ∷ args) h = elim (cases_Bool (int_eq a.number n)) [
  | inl t ↦ rw t (omega arith)
  | inr f ↦ rw f (group_there n args (rw f at h))
]

members_there : (n : ℤ) (args : List FormArg) → list_any (λ (a : FormArg). int_eq a.number n) args ≡ true → 1 ≤ length (members_of (group_of n args))
members_there n args h =
    let g = group_there n args h in
    let s = sorted_length (λ a. a.new_index) [] (group_of n args) in
    let l = length-map (sorted_by (λ (a : FormArg). a.new_index) [] (group_of n args)) (λ (a : FormArg). a.image) in
    omega arith

abbrev pub has_members : Members → Bool
has_members x = nat_le 1 (length x.images)

teams_there : (ns : List ℤ) (args : List FormArg) → AllGiven args ns → list_all has_members (teams_of ns args) ≡ true
teams_there [] args h = refl
teams_there (n ∷ ns) args h = elim (cases_Bool (int_le (pos 1) n)) [
  | inl t ↦ rw t (and_from (nat_le 1 (length (members_of (group_of n args)))) (list_all has_members (teams_of ns args)) (le-leb 1 (length (members_of (group_of n args))) (members_there n args h.0)) (teams_there ns args h.1))
  | inr f ↦ rw f (teams_there ns args h.1)
]

pub formed_there : (args : List FormArg) → list_all has_members (teams_of (numbers_given args) args) ≡ true
formed_there args = teams_there (numbers_given args) args (all_given args)
