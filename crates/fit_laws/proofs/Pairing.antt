-- Members of a team of the run by indices that differ are images of the run, none twice.
use Rattle.std.proofs.Common.{◌≡◌, ℕ, zero, suc, ◌+◌, ◌-◌, ◌≤◌, ◌<◌, Bool, true, false, ◌&&◌, not, List, [], ◌∷◌, length, map, slice_get, slice_index_or, inl, inr, refl, sym, ap, ◌∙◌, subst, nat_eq, nat_le, arith}
use Rattle.std.specs.Prelude.{ℤ, pos, negsuc, int_lt, int_le, Option, Some, None}
use Rattle.std.specs.List.{list_all, range_with_len}
use Rattle.std.specs.Ordering.{int_eq}
use Rattle.std.proofs.lemmas.Bool.{cases_Bool, and_parts, and_from, or_left, or_right, eq-eqb, eqb-true, ne_eqb, leb-true, le-leb}
use Rattle.std.proofs.lemmas.Int.{ints}
use Rattle.caf_base.specs.Arithmetic.{natural}
use Rattle.caf_events.specs.declared.event.Entry.{Entry}
use Rattle.image_acts.specs.Teams.{is_index_of, differs_from, are_indices_of, member_at}
use Rattle.image_acts.specs.Operate.Asking.{named}
use Rattle.object_rules.specs.Happenings.{numbers_of}
use Rattle.object_rules.specs.ImagePairs.{names}
use Rattle.object_rules.specs.BoardTeams.{Team, teams_after, members_there, members_at}
use Rattle.object_rules.specs.BoardRules.{is_image, all_differ}
use Rattle.team_laws.proofs.OnceMembers.{members_once}
use Rattle.team_laws.proofs.Times.{all_differ_by}
use Rattle.team_laws.proofs.Parents.{parent_before, members_of_parent}
use Rattle.walk_laws.proofs.Members.{first_members}

-- ---- members of the run's teams
in_range : (j a n : ℕ) → names j (range_with_len a n) ≡ true → (a ≤ j) × (j < a + n)
in_range j a zero h = absurd (cc)
in_range j a (suc n) h = elim (cases_Bool (nat_eq j a)) [
  | inl t ↦ (let e = eqb-true j a t in (omega arith, omega arith))
  | inr f ↦ (let r = in_range j (a + 1) n (rw f at h) in let x = r.0 in let y = r.1 in (omega arith, omega arith))
]

passes : (p : ℕ → Bool) (j : ℕ) (ms : List ℕ) → list_all p ms ≡ true → names j ms ≡ true → p j ≡ true
passes p j [] h k = absurd (cc)
passes p j (m ∷ ms) h k =
    let q = and_parts (p m) (list_all p ms) h in
    elim (cases_Bool (nat_eq j m)) [
      | inl e ↦ subst (λ z. p z ≡ true) (sym (eqb-true j m e)) q.0
      | inr e ↦ passes p j ms q.1 (rw e at k)
    ]

members_is : (ts : List Team) (k : ℕ) → members_at ts (suc k) ≡ members_there (slice_get ts k)
members_is ts k =
    let away : nat_eq (suc k) 0 ≡ false = ne_eqb (suc k) 0 (λ e. absurd (omega arith)) in
    let at : suc k - 1 ≡ k = omega arith in
    rw (away, at) refl

some_team : (j : ℕ) (o : Option Team) → names j (members_there o) ≡ true → (x : Team) × (o ≡ Some x) × (names j x.members ≡ true)
some_team j None h = absurd (cc)
some_team j (Some x) h = (x, refl, h)

image_member : (fuel n : ℕ) (h : List Entry) (t j : ℕ) → t ≤ fuel → names j (members_at (teams_after n h) t) ≡ true → is_image n j ≡ true
image_member zero n h zero j le w = absurd (cc)
image_member zero n h (suc t) j le w = absurd (omega arith)
image_member (suc fuel) n h zero j le w = absurd (cc)
image_member (suc fuel) n h (suc zero) j le w =
    let r = in_range j 1 n (subst (λ ms. names j ms ≡ true) (first_members n h) w) in
    let a = r.0 in
    let b = r.1 in
    and_from (nat_le 1 j) (nat_le j n) (le-leb 1 j a) (le-leb j n (omega arith))
image_member (suc fuel) n h (suc (suc k)) j le w =
    let x = some_team j (slice_get (teams_after n h) (suc k)) (subst (λ z. names j z ≡ true) (members_is (teams_after n h) (suc k)) w) in
    let lt = (parent_before n h k x.0 x.1).1 in
    image_member fuel n h x.0.parent j (omega arith) (passes (λ m. names m (members_at (teams_after n h) x.0.parent)) j x.0.members (members_of_parent n h k x.0 x.1) x.2)

members_differ : (n : ℕ) (h : List Entry) (t : ℕ) → all_differ (members_at (teams_after n h) t) ≡ true
members_differ n h zero = refl
members_differ n h (suc k) = subst (λ ms. all_differ ms ≡ true) (sym (members_is (teams_after n h) k)) (by (slice_get (teams_after n h) k) refl)
  where
    by : (o : Option Team) → slice_get (teams_after n h) k ≡ o → all_differ (members_there o) ≡ true
    by None e = refl
    by (Some x) e = all_differ_by x.members (λ m. members_once m n h k x e)

-- ---- by an index
index_place : (n : ℕ) (v : ℤ) → is_index_of n v ≡ true → (i : ℕ) × (v ≡ pos (suc i)) × (i < n)
index_place n (pos zero) h = absurd (let p = (and_parts (int_lt (pos 0) (pos 0)) (int_le (pos 0) (pos n)) h).0 in cc)
index_place n (pos (suc i)) h =
    let p = (and_parts (int_lt (pos 0) (pos (suc i))) (int_le (pos (suc i)) (pos n)) h).1 in
    let q = leb-true (suc i) n p in
    (i, refl, omega arith)
index_place n (negsuc i) h = absurd (let p = (and_parts (int_lt (pos 0) (negsuc i)) (int_le (negsuc i) (pos n)) h).0 in cc)

get_there : (ms : List ℕ) (i : ℕ) → i < length ms → slice_get ms i ≡ Some (slice_index_or ms i 0)
get_there [] i h = absurd (omega arith)
get_there (m ∷ ms) zero h = refl
get_there (m ∷ ms) (suc i) h = get_there ms i (omega arith)

named_there : (ms : List ℕ) (i x : ℕ) → slice_get ms i ≡ Some x → names x ms ≡ true
named_there [] i x h = absurd (cc)
named_there (m ∷ ms) zero x h = let e : m ≡ x = cc in or_left (nat_eq x m) (names x ms) (eq-eqb x m (sym e))
named_there (m ∷ ms) (suc i) x h = or_right (nat_eq x m) (names x ms) (named_there ms i x h)

twice : (m : ℕ) (ms : List ℕ) → all_differ (m ∷ ms) ≡ true → names m ms ≡ true → ⊥
twice m ms d h = let p = (and_parts (not (names m ms)) (all_differ ms) d).0 in absurd (let z : false ≡ true = rw h at p in cc)

same_place : (ms : List ℕ) → all_differ ms ≡ true → (a b x : ℕ) → slice_get ms a ≡ Some x → slice_get ms b ≡ Some x → a ≡ b
same_place [] d a b x e f = absurd (cc)
same_place (m ∷ ms) d zero zero x e f = refl
same_place (m ∷ ms) d zero (suc b) x e f = let q : x ≡ m = cc in absurd (twice m ms d (subst (λ z. names z ms ≡ true) q (named_there ms b x f)))
same_place (m ∷ ms) d (suc a) zero x e f = let q : x ≡ m = cc in absurd (twice m ms d (subst (λ z. names z ms ≡ true) q (named_there ms a x e)))
same_place (m ∷ ms) d (suc a) (suc b) x e f = ap suc (same_place ms (and_parts (not (names m ms)) (all_differ ms) d).1 a b x e f)

-- ---- members by indices that differ
abbrev chosen : List ℕ → List ℤ → List ℕ
chosen ms vs = map (λ v. member_at ms (natural v)) vs

numbers_chosen : (ms : List ℕ) (vs : List ℤ) → numbers_of (named ms vs) ≡ chosen ms vs
numbers_chosen ms [] = refl
numbers_chosen ms (v ∷ vs) = ap (λ js. member_at ms (natural v) ∷ js) (numbers_chosen ms vs)

int_same : (v : ℤ) → int_eq v v ≡ true
int_same v = grind (arith, ints)

module _ (ms : List ℕ) (differ : all_differ ms ≡ true) where
  member_there : (v : ℤ) (i : ℕ) → v ≡ pos (suc i) → i < length ms → slice_get ms i ≡ Some (member_at ms (natural v))
  member_there v i e lt = subst (λ u. slice_get ms i ≡ Some (member_at ms (natural u))) (sym e) (get_there ms i lt)

  not_again : (v : ℤ) (i : ℕ) → v ≡ pos (suc i) → i < length ms → (vs : List ℤ) → are_indices_of (length ms) vs ≡ true → differs_from v vs ≡ true → names (member_at ms (natural v)) (chosen ms vs) ≡ false
  not_again v i e lt [] a d = refl
  not_again v i e lt (w ∷ ws) a d =
      let p = and_parts (is_index_of (length ms) w) (differs_from w ws && are_indices_of (length ms) ws) a in
      let q = and_parts (differs_from w ws) (are_indices_of (length ms) ws) p.1 in
      let j = index_place (length ms) w p.0 in
      elim (cases_Bool (int_eq v w)) [
        | inl t ↦ absurd (let z : false ≡ true = rw t at d in cc)
        | inr f ↦ elim (cases_Bool (nat_eq (member_at ms (natural v)) (member_at ms (natural w)))) [
          | inl s ↦ absurd (
              let m = eqb-true (member_at ms (natural v)) (member_at ms (natural w)) s in
              let same = same_place ms differ i j.0 (member_at ms (natural w)) (member_there v i e lt ∙ ap Some m) (member_there w j.0 j.1 j.2) in
              let one : v ≡ w = e ∙ ap (λ z. pos (suc z)) same ∙ sym j.1 in
              let y = subst (λ u. int_eq v u ≡ true) one (int_same v) in
              let z : true ≡ false = sym y ∙ f in
              cc)
          | inr o ↦ rw o (not_again v i e lt ws q.1 (rw f at d))
        ]
      ]

  chosen_differ : (vs : List ℤ) → are_indices_of (length ms) vs ≡ true → all_differ (chosen ms vs) ≡ true
  chosen_differ [] a = refl
  chosen_differ (v ∷ vs) a =
      let p = and_parts (is_index_of (length ms) v) (differs_from v vs && are_indices_of (length ms) vs) a in
      let q = and_parts (differs_from v vs) (are_indices_of (length ms) vs) p.1 in
      let i = index_place (length ms) v p.0 in
      let none = not_again v i.0 i.1 i.2 vs q.1 q.0 in
      and_from (not (names (member_at ms (natural v)) (chosen ms vs))) (all_differ (chosen ms vs)) (rw none refl) (chosen_differ vs q.1)

  chosen_images : (n : ℕ) → ((j : ℕ) → names j ms ≡ true → is_image n j ≡ true) → (vs : List ℤ) → are_indices_of (length ms) vs ≡ true → list_all (is_image n) (chosen ms vs) ≡ true
  chosen_images n all [] a = refl
  chosen_images n all (v ∷ vs) a =
      let p = and_parts (is_index_of (length ms) v) (differs_from v vs && are_indices_of (length ms) vs) a in
      let q = and_parts (differs_from v vs) (are_indices_of (length ms) vs) p.1 in
      let i = index_place (length ms) v p.0 in
      and_from (is_image n (member_at ms (natural v))) (list_all (is_image n) (chosen ms vs)) (all (member_at ms (natural v)) (named_there ms i.0 (member_at ms (natural v)) (member_there v i.0 i.1 i.2)))
      (chosen_images n all vs q.1)

-- so do those of a team of the run
pub team_paired : (n : ℕ) (h : List Entry) (t : ℕ) (ms : List ℕ) (vs : List ℤ) → members_at (teams_after n h) t ≡ ms → are_indices_of (length ms) vs ≡ true
    → (list_all (is_image n) (numbers_of (named ms vs)) && all_differ (numbers_of (named ms vs))) ≡ true
team_paired n h t ms vs e a =
    let differ = subst (λ us. all_differ us ≡ true) e (members_differ n h t) in
    let all : (j : ℕ) → names j ms ≡ true → is_image n j ≡ true = (λ j w. image_member t n h t j (omega arith) (subst (λ us. names j us ≡ true) (sym e) w)) in
    subst (λ js. (list_all (is_image n) js && all_differ js) ≡ true) (sym (numbers_chosen ms vs))
    (and_from (list_all (is_image n) (chosen ms vs)) (all_differ (chosen ms vs)) (chosen_images ms differ n all vs a) (chosen_differ ms differ vs a))

-- of no members there is no index
pub none_paired : (n : ℕ) (vs : List ℤ) → are_indices_of 0 vs ≡ true → (list_all (is_image n) (numbers_of (named [] vs)) && all_differ (numbers_of (named [] vs))) ≡ true
none_paired n [] a = refl
none_paired n (v ∷ vs) a =
    let p = (and_parts (is_index_of 0 v) (differs_from v vs && are_indices_of 0 vs) a).0 in
    let i = index_place 0 v p in
    let lt = i.2 in
    absurd (omega arith)
