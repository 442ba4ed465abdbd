-- The plan of a FORM TEAM, step by step.
use Rattle.std.proofs.Common.{◌≡◌, ℕ, zero, suc, ◌+◌, ◌^◌, ◌<◌, ◌≤◌, Bool, true, false, ◌&&◌, ◌||◌, not, cond, List, [], ◌∷◌, ◌++◌, length, map, filter, take, get_or, append_assoc, inl, inr, refl, ap, sym, ◌∙◌, subst, arith}
use Rattle.std.specs.Prelude.{ℤ, pos, int_lt, int_le, Option, Some, None}
use Rattle.std.specs.List.{list_any, list_all, range_with_len}
use Rattle.std.specs.Ordering.{int_eq}
use Rattle.std.proofs.lemmas.Bool.{cases_Bool}
use Rattle.std.proofs.lemmas.List.{take_more}
use Rattle.caf_base.specs.declared.place.ImageNo.{ImageNo}
use Rattle.object_rules.specs.FormedTeams.{Members as PlainMembers, FormArg as PlainArg, group_of, members_of, teams_of, numbers_given, is_indexed, is_bad_form, formed, sorted_by}
use Rattle.team_tree.specs.declared.arg.FormArg.{FormArg}
use Rattle.team_tree.specs.declared.arg.Members.{Members}
use Rattle.team_tree.specs.Args.{plain_arg, plain_args, plain_members, plain_teams, image_numbers, numbers_of_args}
use Rattle.team_tree.specs.KnownTeams.{AreFew}
use Rattle.team_tree.specs.Orders.{given_by, in_order}
use Rattle.team_tree.proofs.Placing.{sorted_length}

-- ---- lists with one more
and_true : (b : Bool) → (b && true) ≡ b
and_true true = refl
and_true false = refl

and_assoc : (a b c : Bool) → (a && (b && c)) ≡ ((a && b) && c)
and_assoc true b c = refl
and_assoc false b c = refl

all_append : {A : Type 0} (p : A → Bool) (xs : List A) (x : A) → list_all p (xs ++ x ∷ []) ≡ (list_all p xs && p x)
all_append p [] x = and_true (p x)
all_append p (y ∷ ys) x = ap (λ b. p y && b) (all_append p ys x) ∙ and_assoc (p y) (list_all p ys) (p x)

map_append : {A B : Type 0} (f : A → B) (xs : List A) (x : A) → map f (xs ++ x ∷ []) ≡ map f xs ++ f x ∷ []
map_append f [] x = refl
map_append f (y ∷ ys) x = ap (λ l. f y ∷ l) (map_append f ys x)

range_more : (a n : ℕ) → range_with_len a (suc n) ≡ range_with_len a n ++ (a + n) ∷ []
range_more a zero = let e : a ≡ a + 0 = omega arith in ap (λ k. k ∷ []) e
range_more a (suc n) = let e : a + 1 + n ≡ a + suc n = omega arith in ap (λ l. a ∷ l) (range_more (a + 1) n ∙ ap (λ k. range_with_len (a + 1) n ++ k ∷ []) e)

flag : (m w : Bool) → cond m w false ≡ (w && m)
flag true true = refl
flag true false = refl
flag false true = refl
flag false false = refl

-- a flag that falls at a number of which a test doesn't hold
pub all_range_next : (p : ℕ → Bool) (k : ℕ) (was now test : Bool) → was ≡ list_all p (range_with_len 1 k) → test ≡ p (k + 1) → now ≡ cond test was false → now ≡ list_all p (range_with_len 1 (k + 1))
all_range_next p k was now test w t n =
    let e : suc k ≡ k + 1 = omega arith in
    let f : k + 1 ≡ 1 + k = omega arith in
    n ∙ flag test was ∙ ap (λ b. b && test) w ∙ ap (λ b. list_all p (range_with_len 1 k) && b) (t ∙ ap p f)
    ∙ sym (all_append p (range_with_len 1 k) (1 + k)) ∙ ap (list_all p) (sym (range_more 1 k)) ∙ ap (λ j. list_all p (range_with_len 1 j)) e

-- ---- the same of given arguments and of plain ones
all_plain : (q : ℤ → Bool) (xs : List FormArg) → list_all (λ a. q a.new_index) (plain_args xs) ≡ list_all (λ (a : FormArg). q a.new_index) xs
all_plain q [] = refl
all_plain q (x ∷ xs) = ap (λ b. q x.new_index && b) (all_plain q xs)

any_plain : (q : ℤ → Bool) (xs : List FormArg) → list_any (λ a. q a.new_index) (plain_args xs) ≡ list_any (λ (a : FormArg). q a.new_index) xs
any_plain q [] = refl
any_plain q (x ∷ xs) = ap (λ b. q x.new_index || b) (any_plain q xs)

low_plain : (xs : List FormArg) → list_any (λ a. int_lt a.number (pos 1)) (plain_args xs) ≡ list_any (λ (a : FormArg). int_lt a.number (pos 1)) xs
low_plain [] = refl
low_plain (x ∷ xs) = ap (λ b. int_lt x.number (pos 1) || b) (low_plain xs)

count_plain : (xs : List FormArg) → length (plain_args xs) ≡ length xs
count_plain [] = refl
count_plain (x ∷ xs) = ap suc (count_plain xs)

given_plain : (xs : List FormArg) (ks : List ℕ) → list_all (λ k. list_any (λ a. int_eq a.new_index (pos k)) (plain_args xs)) ks ≡ list_all (λ k. list_any (λ (a : FormArg). int_eq a.new_index (pos k)) xs) ks
given_plain xs [] = refl
given_plain xs (k ∷ ks) = ap (λ b. b && list_all (λ j. list_any (λ a. int_eq a.new_index (pos j)) (plain_args xs)) ks) (any_plain (λ z. int_eq z (pos k)) xs) ∙ ap (λ b. list_any (λ (a : FormArg). int_eq a.new_index (pos k)) xs && b) (given_plain xs ks)

indexed_plain : (xs : List FormArg) → is_indexed (plain_args xs) ≡ (list_all (λ (a : FormArg). int_eq a.new_index (pos 0)) xs || list_all (λ k. list_any (λ (a : FormArg). int_eq a.new_index (pos k)) xs) (range_with_len 1 (length xs)))
indexed_plain xs =
    ap (λ b. b || list_all (λ k. list_any (λ a. int_eq a.new_index (pos k)) (plain_args xs)) (range_with_len 1 (length (plain_args xs)))) (all_plain (λ z. int_eq z (pos 0)) xs)
    ∙ ap (λ n. list_all (λ (a : FormArg). int_eq a.new_index (pos 0)) xs || list_all (λ k. list_any (λ a. int_eq a.new_index (pos k)) (plain_args xs)) (range_with_len 1 n)) (count_plain xs)
    ∙ ap (λ b. list_all (λ (a : FormArg). int_eq a.new_index (pos 0)) xs || b) (given_plain xs (range_with_len 1 (length xs)))

pub indexed_none : (xs : List FormArg) (w : Bool) → w ≡ list_all (λ (a : FormArg). int_eq a.new_index (pos 0)) xs → w ≡ true → w ≡ is_indexed (plain_args xs)
indexed_none xs w e t = t ∙ sym (indexed_plain xs ∙ ap (λ b. b || list_all (λ k. list_any (λ (a : FormArg). int_eq a.new_index (pos k)) xs) (range_with_len 1 (length xs))) (sym e ∙ t))

pub indexed_all : (xs : List FormArg) (w p : Bool) → w ≡ list_all (λ (a : FormArg). int_eq a.new_index (pos 0)) xs → w ≡ false → p ≡ list_all (λ k. list_any (λ (a : FormArg). int_eq a.new_index (pos k)) xs) (range_with_len 1 (length xs)) → p ≡ is_indexed (plain_args xs)
indexed_all xs w p e t q = q ∙ sym (indexed_plain xs ∙ ap (λ b. b || list_all (λ k. list_any (λ (a : FormArg). int_eq a.new_index (pos k)) xs) (range_with_len 1 (length xs))) (sym e ∙ t))

pub plain_group : (n : ℤ) (xs : List FormArg) → plain_args (filter (λ (a : FormArg). int_eq a.number n) xs) ≡ group_of n (plain_args xs)
plain_group n [] = refl
plain_group n (x ∷ xs) = elim (cases_Bool (int_eq x.number n)) [
  | inl t ↦ rw t (ap (λ l. plain_arg x ∷ l) (plain_group n xs))
  | inr f ↦ rw f (plain_group n xs)
]

-- ---- a step over the givers
pub fine_next : (args givers : List FormArg) (at : ℕ) (d : FormArg) (group : List FormArg) (was now test : Bool) → at < length givers → was ≡ list_all (λ n. is_indexed (group_of n (plain_args args))) (numbers_of_args (take at givers))
    → group ≡ filter (λ (a : FormArg). int_eq a.number (get_or givers at d).number) args → test ≡ is_indexed (plain_args group) → now ≡ cond test was false
    → now ≡ list_all (λ n. is_indexed (group_of n (plain_args args))) (numbers_of_args (take (at + 1) givers))
fine_next args givers at d group was now test h w g t n =
    n ∙ flag test was ∙ ap (λ b. b && test) w
    ∙ ap (λ b. list_all (λ m. is_indexed (group_of m (plain_args args))) (numbers_of_args (take at givers)) && b) (t ∙ ap is_indexed (ap plain_args g ∙ plain_group (get_or givers at d).number args))
    ∙ sym (ap (list_all (λ m. is_indexed (group_of m (plain_args args)))) (ap numbers_of_args (take_more givers at d h) ∙ map_append (λ (a : FormArg). a.number) (take at givers) (get_or givers at d)) ∙ all_append (λ m. is_indexed (group_of m (plain_args args))) (numbers_of_args (take at givers)) (get_or givers at d).number)

-- ---- arguments in order
abbrev pub listed : Option FormArg → List FormArg
listed None = []
listed (Some a) = a ∷ []

order_more : (args : List FormArg) (ms : List ImageNo) (m : ImageNo) → in_order (ms ++ m ∷ []) args ≡ in_order ms args ++ listed (given_by args m.0)
order_more args [] m = one (given_by args m.0) refl
  where
    one : (o : Option FormArg) → given_by args m.0 ≡ o → in_order (m ∷ []) args ≡ listed (given_by args m.0)
    one None e = rw e refl
    one (Some a) e = rw e refl
order_more args (x ∷ xs) m = more (given_by args x.0) refl (order_more args xs m)
  where
    more : (o : Option FormArg) → given_by args x.0 ≡ o → in_order (xs ++ m ∷ []) args ≡ in_order xs args ++ listed (given_by args m.0) → in_order (x ∷ xs ++ m ∷ []) args ≡ in_order (x ∷ xs) args ++ listed (given_by args m.0)
    more None e rest = rw e rest
    more (Some a) e rest = rw e (ap (λ l. a ∷ l) rest)

pub order_next : (args : List FormArg) (ms : List ImageNo) (at : ℕ) (d : ImageNo) (was now : List FormArg) (o : Option FormArg) → at < length ms → was ≡ in_order (take at ms) args → o ≡ given_by args (get_or ms at d).0
    → now ≡ was ++ listed o → now ≡ in_order (take (at + 1) ms) args
order_next args ms at d was now o h w g n =
    n ∙ ap (λ l. l ++ listed o) w ∙ ap (λ q. in_order (take at ms) args ++ listed q) g ∙ sym (ap (λ l. in_order l args) (take_more ms at d h) ∙ order_more args (take at ms) (get_or ms at d))

-- ---- one team
images_plain : (xs : List FormArg) → image_numbers (map (λ (a : FormArg). a.image) xs) ≡ map (λ (a : PlainArg). a.image) (plain_args xs)
images_plain [] = refl
images_plain (x ∷ xs) = ap (λ l. x.image.0 ∷ l) (images_plain xs)

pub members_are : (n : ℤ) (args group sorted : List FormArg) (images : List ImageNo) → group ≡ filter (λ (a : FormArg). int_eq a.number n) args → plain_args sorted ≡ sorted_by (λ a. a.new_index) [] (plain_args group) → images ≡ map (λ (a : FormArg). a.image) sorted
    → image_numbers images ≡ members_of (group_of n (plain_args args))
members_are n args group sorted images g s i =
    ap image_numbers i ∙ images_plain sorted ∙ ap (map (λ (a : PlainArg). a.image)) (s ∙ ap (sorted_by (λ a. a.new_index) []) (ap plain_args g ∙ plain_group n args))

-- ---- teams
teams_append : (ns : List ℤ) (n : ℤ) (args : List PlainArg) → teams_of (ns ++ n ∷ []) args ≡ teams_of ns args ++ cond (int_le (pos 1) n) (record { number = n; images = members_of (group_of n args) } ∷ []) []
teams_append [] n args = append_none (cond (int_le (pos 1) n) (record { number = n; images = members_of (group_of n args) } ∷ []) [])
  where
    append_none : (xs : List PlainMembers) → xs ++ [] ≡ xs
    append_none [] = refl
    append_none (x ∷ xs) = ap (λ l. x ∷ l) (append_none xs)
teams_append (k ∷ ks) n args =
    ap (λ l. cond (int_le (pos 1) k) (record { number = k; images = members_of (group_of k args) } ∷ []) [] ++ l) (teams_append ks n args)
    ∙ sym (append_assoc (cond (int_le (pos 1) k) (record { number = k; images = members_of (group_of k args) } ∷ []) []) (teams_of ks args) (cond (int_le (pos 1) n) (record { number = n; images = members_of (group_of n args) } ∷ []) []))

teams_next : (args givers : List FormArg) (at : ℕ) (d : FormArg) (was now : List PlainMembers) (b : Bool) → at < length givers → was ≡ teams_of (numbers_of_args (take at givers)) (plain_args args) → b ≡ int_le (pos 1) (get_or givers at d).number
    → now ≡ was ++ cond b (record { number = (get_or givers at d).number; images = members_of (group_of (get_or givers at d).number (plain_args args)) } ∷ []) [] → now ≡ teams_of (numbers_of_args (take (at + 1) givers)) (plain_args args)
teams_next args givers at d was now b h w p n =
    let g = get_or givers at d in
    n ∙ ap (λ l. l ++ cond b (record { number = g.number; images = members_of (group_of g.number (plain_args args)) } ∷ []) []) w
    ∙ ap (λ c. teams_of (numbers_of_args (take at givers)) (plain_args args) ++ cond c (record { number = g.number; images = members_of (group_of g.number (plain_args args)) } ∷ []) []) p
    ∙ sym (ap (λ l. teams_of l (plain_args args)) (ap numbers_of_args (take_more givers at d h) ∙ map_append (λ (a : FormArg). a.number) (take at givers) g) ∙ teams_append (numbers_of_args (take at givers)) g.number (plain_args args))

some_same : (m x : Members) → Some m ≡ Some x → m ≡ x
some_same m x e = cc

none_some : (x : Members) → None ≡ Some x → ⊥
none_some x e = absurd (cc)

none_behind : (xs : List PlainMembers) → xs ≡ xs ++ []
none_behind [] = refl
none_behind (x ∷ xs) = ap (λ l. x ∷ l) (none_behind xs)

few_more : (ms : List Members) (m : Members) → AreFew ms → length m.images.items < 2 ^ 32 → AreFew (ms ++ m ∷ [])
few_more [] m a b zero x e = subst (λ (y : Members). length y.images.items < 2 ^ 32) (some_same m x e) b
few_more [] m a b (suc k) x e = absurd (none_some x e)
few_more (y ∷ ys) m a b zero x e = a zero x e
few_more (y ∷ ys) m a b (suc k) x e = few_more ys m (λ j z f. a (suc j) z f) b k x e

pub team_added : (args givers : List FormArg) (at : ℕ) (d : FormArg) (was now : List Members) (m : Members) (b : Bool) → at < length givers → plain_teams was ≡ teams_of (numbers_of_args (take at givers)) (plain_args args) → AreFew was
    → b ≡ int_le (pos 1) (get_or givers at d).number → b ≡ true → plain_members m ≡ record { number = (get_or givers at d).number; images = members_of (group_of (get_or givers at d).number (plain_args args)) } → length m.images.items < 2 ^ 32 → now ≡ was ++ m ∷ []
    → (plain_teams now ≡ teams_of (numbers_of_args (take (at + 1) givers)) (plain_args args)) × AreFew now
team_added args givers at d was now m b h w few p t is small n =
    let g = get_or givers at d in (
      teams_next args givers at d (plain_teams was) (plain_teams now) b h w p
          (ap plain_teams n ∙ map_append plain_members was m ∙ ap (λ x. plain_teams was ++ x ∷ []) is ∙ ap (λ c. plain_teams was ++ cond c (record { number = g.number; images = members_of (group_of g.number (plain_args args)) } ∷ []) []) (sym t)),
      subst AreFew (sym n) (few_more was m few small),
    )

pub team_left_out : (args givers : List FormArg) (at : ℕ) (d : FormArg) (was now : List Members) (b : Bool) → at < length givers → plain_teams was ≡ teams_of (numbers_of_args (take at givers)) (plain_args args) → AreFew was
    → b ≡ int_le (pos 1) (get_or givers at d).number → b ≡ false → now ≡ was → (plain_teams now ≡ teams_of (numbers_of_args (take (at + 1) givers)) (plain_args args)) × AreFew now
team_left_out args givers at d was now b h w few p t n =
    let g = get_or givers at d in (
      teams_next args givers at d (plain_teams was) (plain_teams now) b h w p
          (ap plain_teams n ∙ none_behind (plain_teams was) ∙ ap (λ c. plain_teams was ++ cond c (record { number = g.number; images = members_of (group_of g.number (plain_args args)) } ∷ []) []) (sym t)),
      subst AreFew (sym n) few,
    )

-- ---- the plan
pub bad_is : (failed low indexed bad : Bool) (args : List FormArg) (numbers : List ℤ) → low ≡ list_any (λ (a : FormArg). int_lt a.number (pos 1)) args → indexed ≡ list_all (λ n. is_indexed (group_of n (plain_args args))) numbers
    → numbers ≡ numbers_given (plain_args args) → bad ≡ (not failed && (low || not indexed)) → bad ≡ (not failed && is_bad_form (plain_args args))
bad_is failed low indexed bad args numbers l i n b =
    b ∙ ap (λ c. not failed && (c || not indexed)) (l ∙ sym (low_plain args))
    ∙ ap (λ c. not failed && (list_any (λ a. int_lt a.number (pos 1)) (plain_args args) || not c)) (i ∙ ap (list_all (λ m. is_indexed (group_of m (plain_args args)))) n)

pub teams_are : (failed bad : Bool) (args : List FormArg) (numbers : List ℤ) (teams : List PlainMembers) → bad ≡ (not failed && is_bad_form (plain_args args)) → numbers ≡ numbers_given (plain_args args) → teams ≡ cond bad [] (teams_of numbers (plain_args args))
    → teams ≡ formed false failed (plain_args args)
teams_are failed bad args numbers teams b n t = t ∙ ap (λ c. cond c [] (teams_of numbers (plain_args args))) b ∙ ap (λ l. cond (not failed && is_bad_form (plain_args args)) [] (teams_of l (plain_args args))) n

pub fewer : (args group sorted : List FormArg) (images : List ImageNo) → length args < 2 ^ 32 → length group ≤ length args → plain_args sorted ≡ sorted_by (λ a. a.new_index) [] (plain_args group) → images ≡ map (λ (a : FormArg). a.image) sorted → length images < 2 ^ 32
fewer args group sorted images a g s i =
    let k : length images ≡ length sorted = ap length i ∙ images_count sorted in
    let l : length sorted ≡ length (sorted_by (λ a. a.new_index) [] (plain_args group)) = sym (count_plain sorted) ∙ ap length s in
    let m : length (sorted_by (λ a. a.new_index) [] (plain_args group)) ≡ 0 + length (plain_args group) = sorted_length [] (plain_args group) in
    let n = count_plain group in
    omega arith
  where
    images_count : (xs : List FormArg) → length (map (λ (a : FormArg). a.image) xs) ≡ length xs
    images_count [] = refl
    images_count (x ∷ xs) = ap suc (images_count xs)

pub none_after : (xs ys : List FormArg) → ys ≡ xs → ys ≡ xs ++ []
none_after xs ys e = e ∙ behind xs
  where
    behind : (xs : List FormArg) → xs ≡ xs ++ []
    behind [] = refl
    behind (x ∷ xs) = ap (λ l. x ∷ l) (behind xs)

pub one_longer : (xs ys : List FormArg) (x : FormArg) (n : ℕ) → ys ≡ xs ++ x ∷ [] → length xs ≤ n → length ys ≤ n + 1
one_longer xs ys x n e h = let l : length ys ≡ suc (length xs) = ap length e ∙ count xs x in omega arith
  where
    count : (xs : List FormArg) (x : FormArg) → length (xs ++ x ∷ []) ≡ suc (length xs)
    count [] x = refl
    count (y ∷ ys) x = ap suc (count ys x)

pub no_longer : (xs ys : List FormArg) (n : ℕ) → ys ≡ xs → length xs ≤ n → length ys ≤ n + 1
no_longer xs ys n e h = let l : length ys ≡ length xs = ap length e in omega arith
