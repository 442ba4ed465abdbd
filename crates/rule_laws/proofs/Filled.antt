-- Scopes that are filled with known names: what they denote is known.
use Rattle.std.proofs.Common.{◌≡◌, ◌∙◌, ℕ, Bool, true, false, List, [], ◌∷◌, ◌++◌, refl, sym, ap}
use Rattle.std.specs.Prelude.{cond, not, bytes_eq, nat_eq, ◌&&◌, ◌||◌, Option, Some, None, length}
use Rattle.checked_tree.specs.declared.data.Constant.{Constant}
use Rattle.rule_definitions.specs.Judgements.{or_else, is_there, item_at}
use Rattle.rule_definitions.specs.Names
use Rattle.rule_definitions.specs.Names.{Scope, Symbol, Named, Interface, Meaning, denoted_in, is_among, intrinsic_procedures, denoted_outside, denotes}
use Rattle.rule_definitions.specs.Constants.{all_bounds}
use Rattle.rule_laws.proofs.Sound.{none_some, some_same}
use Rattle.rule_laws.proofs.Known.{has_typed_result, is_known_symbol, is_known_value, is_known, and_left, and_right, no}
use Rattle.rule_laws.proofs.ArgumentsSound.{and_both}
use Rattle.rule_laws.proofs.AssignmentsSound.{IsSettled}
use Rattle.rule_laws.proofs.Known.{IsKnownScope}

-- the bounds of a variable are known, or it is an allocatable array
abbrev pub is_bounded : Symbol → Bool
is_bounded x = (x.is_allocatable && not (nat_eq (length x.bounds) 0)) || is_there (all_bounds x.bounds)

-- a variable or a constant, of which all is known
abbrev pub is_data : Meaning → Bool
is_data (Names.variable x) = is_known_symbol x && is_bounded x
is_data (Names.constant c) = is_there c.of_type && is_known_value c.bounds c.value
is_data m = false

-- what a library gives
abbrev pub is_library : Meaning → Bool
is_library (Names.module_constant n) = true
is_library (Names.module_type y) = true
is_library (Names.intrinsic_function n) = true
is_library (Names.intrinsic_subroutine n) = true
is_library m = false

abbrev pub is_typed : List Interface → Meaning → Bool
is_typed is (Names.function n) = has_typed_result (item_at is n)
is_typed is m = true

abbrev pub all_meant : (Meaning → Bool) → List Named → Bool
all_meant q [] = true
all_meant q (x ∷ xs) = q x.meaning && all_meant q xs

pub record IsFilled (s : Scope) : Type 0 where
  pub own : all_meant is_data s.own ≡ true
  pub host : all_meant is_data s.host ≡ true
  pub procedures : all_meant (is_known s.interfaces) s.procedures ≡ true
  pub accessible : all_meant is_library s.accessible ≡ true

data_known : (is : List Interface) (m : Meaning) → is_data m ≡ true → is_known is m ≡ true
data_known is (Names.variable x) h = and_left (is_known_symbol x) (is_bounded x) h
data_known is (Names.constant c) h = h
data_known is m h = no h

library_known : (is : List Interface) (m : Meaning) → is_library m ≡ true → is_known is m ≡ true
library_known is (Names.module_constant n) h = refl
library_known is (Names.module_type y) h = refl
library_known is (Names.intrinsic_function n) h = refl
library_known is (Names.intrinsic_subroutine n) h = refl
library_known is m h = no h

data_typed : (is : List Interface) (m : Meaning) → is_data m ≡ true → is_typed is m ≡ true
data_typed is (Names.function n) h = no h
data_typed is m h = refl

library_typed : (is : List Interface) (m : Meaning) → is_library m ≡ true → is_typed is m ≡ true
library_typed is (Names.function n) h = no h
library_typed is m h = refl

pub intrinsics_library : all_meant is_library intrinsic_procedures ≡ true
intrinsics_library = refl

meant_pick : (q : Meaning → Bool) (b : Bool) (x m : Meaning) (o : Option Meaning) → q x ≡ true → (o ≡ Some m → q m ≡ true) → cond b (Some x) o ≡ Some m → q m ≡ true
meant_pick q true x m o h k e = sym (ap q (some_same x m e)) ∙ h
meant_pick q false x m o h k e = k e

pub meant_in : (q : Meaning → Bool) (xs : List Named) (n : List ℕ) (m : Meaning) → all_meant q xs ≡ true → denoted_in xs n ≡ Some m → q m ≡ true
meant_in q [] n m h e = none_some m e
meant_in q (x ∷ xs) n m h e = meant_pick q (bytes_eq x.name n) x.meaning m (denoted_in xs n) (and_left (q x.meaning) (all_meant q xs) h) (meant_in q xs n m (and_right (q x.meaning) (all_meant q xs) h)) e

pub meant_both : (q : Meaning → Bool) (xs ys : List Named) → all_meant q xs ≡ true → all_meant q ys ≡ true → all_meant q (xs ++ ys) ≡ true
meant_both q [] ys h k = k
meant_both q (x ∷ xs) ys h k = and_both (q x.meaning) (all_meant q (xs ++ ys)) (and_left (q x.meaning) (all_meant q xs) h) (meant_both q xs ys (and_right (q x.meaning) (all_meant q xs) h) k)

else_cases : {T A : Type 0} (a b : Option T) (m : T) → or_else a b ≡ Some m → (a ≡ Some m → A) → (b ≡ Some m → A) → A
else_cases None b m e f g = g e
else_cases (Some x) b m e f g = f e

unless_pending : {T : Type 0} (b : Bool) (o : Option T) (m : T) → cond b None o ≡ Some m → o ≡ Some m
unless_pending true o m e = none_some m e
unless_pending false o m e = e

denoted_by : (q : Meaning → Bool) (s : Scope) → ((m : Meaning) → is_data m ≡ true → q m ≡ true) → ((m : Meaning) → is_library m ≡ true → q m ≡ true) → IsFilled s → all_meant q s.procedures ≡ true → (n : List ℕ) (m : Meaning) → denotes s n ≡ Some m → q m ≡ true
denoted_by q s f g h p n m e =
    else_cases (denoted_in s.own n) (cond (is_among s.pending n) None (denoted_outside s n)) m e
    (λ k. f m (meant_in is_data s.own n m h.own k))
    (λ k. else_cases (denoted_in s.host n) (or_else (denoted_in s.procedures n) (or_else (denoted_in s.accessible n) (denoted_in intrinsic_procedures n))) m (unless_pending (is_among s.pending n) (denoted_outside s n) m k)
    (λ i. f m (meant_in is_data s.host n m h.host i))
    (λ i. else_cases (denoted_in s.procedures n) (or_else (denoted_in s.accessible n) (denoted_in intrinsic_procedures n)) m i
    (λ j. meant_in q s.procedures n m p j)
    (λ j. else_cases (denoted_in s.accessible n) (denoted_in intrinsic_procedures n) m j
    (λ l. g m (meant_in is_library s.accessible n m h.accessible l))
    (λ l. g m (meant_in is_library intrinsic_procedures n m intrinsics_library l)))))

pub filled_known : (s : Scope) → IsFilled s → IsKnownScope s
filled_known s h = record { known = λ n. record { known = λ m e. denoted_by (is_known s.interfaces) s (data_known s.interfaces) (library_known s.interfaces) h h.procedures n m e } }

pub filled_settled : (s : Scope) → IsFilled s → all_meant (is_typed s.interfaces) s.procedures ≡ true → IsSettled s
filled_settled s h p = (filled_known s h, record { typed = λ n k e. denoted_by (is_typed s.interfaces) s (data_typed s.interfaces) (library_typed s.interfaces) h p n (Names.function k) e })

-- one name more, and further constants
pub filled_more : (s : Scope) (x : Named) (cs : List Constant) → IsFilled s → is_data x.meaning ≡ true → IsFilled (record s { own = s.own ++ x ∷ []; constants = cs })
filled_more s x cs h k = record { own = meant_both is_data s.own (x ∷ []) h.own (and_both (is_data x.meaning) true k refl); host = h.host; procedures = h.procedures; accessible = h.accessible }
