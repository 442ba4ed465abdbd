-- Rules that are broken, with their places, and what is found of a part of the source.
use Rattle.std.specs.Prelude.{ℕ, zero, suc, Bool, true, false, cond, nat_eq, nat_lt, List, [], ◌∷◌, ◌++◌, Option, Some, None}
use Rattle.caf_base.specs.declared.place.Pos.{Pos}
use Rattle.rule_definitions.specs.declared.broken.Broken.{Broken}

-- this rule is broken at this place
abbrev pub breaks : ℕ → Pos → List Broken
breaks r p = record { rule = r; at = p } ∷ []

-- this rule is broken at this place unless the test holds
abbrev pub unless : Bool → ℕ → Pos → List Broken
unless b r p = cond b [] (breaks r p)

-- earlier in the source, or at the same place with a lower number
abbrev pub comes_first : Broken → Broken → Bool
comes_first a b =
    cond (nat_eq a.at.line b.at.line)
    (cond (nat_eq a.at.col b.at.col) (nat_lt a.rule b.rule) (nat_lt a.at.col b.at.col))
    (nat_lt a.at.line b.at.line)

-- the first of these, where there is one before
abbrev pub first_of : Option Broken → List Broken → Option Broken
first_of o [] = o
first_of None (b ∷ bs) = first_of (Some b) bs
first_of (Some a) (b ∷ bs) = first_of (Some (cond (comes_first b a) b a)) bs

abbrev pub is_nothing : List Broken → Bool
is_nothing [] = true
is_nothing (b ∷ bs) = false

-- the rules that are broken in a part, and what it stands for: nothing where one is broken
pub record Judgement (T : Type 0) : Type 0 where
  pub breaks : List Broken
  pub meaning : Option T

-- nothing is broken
abbrev pub fine : {T : Type 0} → T → Judgement T
fine x = record { breaks = []; meaning = Some x }

-- this rule is broken
abbrev pub refused : {T : Type 0} → ℕ → Pos → Judgement T
refused r p = record { breaks = breaks r p; meaning = None }

-- what stands for nothing, since something broke where it was declared
abbrev pub unknown : {T : Type 0} → Judgement T
unknown = record { breaks = []; meaning = None }

-- a part of which these rules are broken besides
abbrev pub ruled : {T : Type 0} → Judgement T → List Broken → Judgement T
ruled j bs = record { breaks = j.breaks ++ bs; meaning = cond (is_nothing bs) j.meaning None }

-- a form around parts: nothing is said of it after a break in one of them
abbrev pub formed : {T : Type 0} → Judgement T → List Broken → Judgement T
formed j bs = ruled j (cond (is_nothing j.breaks) bs [])

-- a form that breaks this rule, around parts of which these are broken
abbrev pub refused_around : {T : Type 0} → List Broken → ℕ → Pos → Judgement T
refused_around bs r p = formed (record { breaks = bs; meaning = None }) (breaks r p)

-- what a rule says of a part that has a meaning
abbrev pub said_of : {T : Type 0} → (T → List Broken) → Option T → List Broken
said_of f None = []
said_of f (Some x) = f x

-- a part under a rule
abbrev pub under : {T : Type 0} → Judgement T → (T → List Broken) → Judgement T
under j f = ruled j (said_of f j.meaning)

abbrev pub both : {A B C : Type 0} → (A → B → C) → Option A → Option B → Option C
both f None y = None
both f (Some x) None = None
both f (Some x) (Some y) = Some (f x y)

abbrev pub three : {A B C D : Type 0} → (A → B → C → D) → Option A → Option B → Option C → Option D
three f (Some x) (Some y) (Some z) = Some (f x y z)
three f x y z = None

abbrev pub made : {A B : Type 0} → (A → B) → Option A → Option B
made f None = None
made f (Some x) = Some (f x)

-- what is made of one part, of two, of three
abbrev pub made_of : {A B : Type 0} → (A → B) → Judgement A → Judgement B
made_of f a = record { breaks = a.breaks; meaning = made f a.meaning }

abbrev pub made_of_both : {A B C : Type 0} → (A → B → C) → Judgement A → Judgement B → Judgement C
made_of_both f a b = record { breaks = a.breaks ++ b.breaks; meaning = both f a.meaning b.meaning }

abbrev pub made_of_three : {A B C D : Type 0} → (A → B → C → D) → Judgement A → Judgement B → Judgement C → Judgement D
made_of_three f a b c = record { breaks = a.breaks ++ (b.breaks ++ c.breaks); meaning = three f a.meaning b.meaning c.meaning }

-- what a part that has a meaning becomes
abbrev pub then_made : {A B : Type 0} → (A → Judgement B) → Option A → Judgement B
then_made f None = unknown
then_made f (Some x) = f x

abbrev pub behind_breaks : {T : Type 0} → List Broken → Judgement T → Judgement T
behind_breaks bs j = record { breaks = bs ++ j.breaks; meaning = j.meaning }

abbrev pub then : {A B : Type 0} → Judgement A → (A → Judgement B) → Judgement B
then a f = behind_breaks a.breaks (then_made f a.meaning)

-- a list of parts
abbrev pub all_made : {T : Type 0} → List (Judgement T) → Judgement (List T)
all_made [] = fine []
all_made (j ∷ js) = made_of_both (λ x xs. x ∷ xs) j (all_made js)

-- the rules that are broken in each of these
abbrev pub breaks_of : {T : Type 0} → List (Judgement T) → List Broken
breaks_of [] = []
breaks_of (j ∷ js) = j.breaks ++ breaks_of js

abbrev pub or_else : {T : Type 0} → Option T → Option T → Option T
or_else None o = o
or_else (Some x) o = Some x

abbrev pub is_there : {T : Type 0} → Option T → Bool
is_there None = false
is_there (Some x) = true

-- the item with this number, from 0
abbrev pub item_at : {T : Type 0} → List T → ℕ → Option T
item_at [] n = None
item_at (x ∷ xs) zero = Some x
item_at (x ∷ xs) (suc n) = item_at xs n
