-- Which objects the statements of a program allocate and deallocate (ISO/IEC 1539-1:2018, 9.7, 11.1.5).
use Rattle.std.specs.Prelude.{ℕ, zero, suc, ◌≡◌, Bool, true, false, List, [], ◌∷◌}
use Rattle.checked_tree.specs.declared.data.Object.{Object}
use Rattle.checked_tree.specs.declared.data.Object.TheVariants as objects
use Rattle.checked_tree.specs.declared.data.Variable.{Variable}
use Rattle.checked_tree.specs.Statements as s

-- each ALLOCATE of these statements, and each DEALLOCATE, has objects that are allowed
module _ (made : List s.Allocation → Type 0) (freed : List Object → Type 0) where
  abbrev mutual
    pub IsAllowed : s.StatementForm → Type 0
    IsAllowed (s.allocate xs stat) = made xs
    IsAllowed (s.deallocate xs stat) = freed xs
    IsAllowed (s.if x body others none) = AreAllowed body × AreAllowedElseIfs others × AreAllowed none
    IsAllowed (s.do_counted v k first last step n body) = AreAllowed body
    IsAllowed (s.do_while x body) = AreAllowed body
    IsAllowed (s.do_forever body) = AreAllowed body
    IsAllowed (s.select x n cs none) = AreAllowedCases cs × AreAllowed none
    IsAllowed (s.critical n stat body m) = AreAllowed body
    IsAllowed (s.change_team x stat body end_stat m) = AreAllowed body
    IsAllowed f = Unit {0}

    pub AreAllowed : s.Statements → Type 0
    AreAllowed s.no_statements = Unit {0}
    AreAllowed (s.more_statements (s.on_line f l) ss) = IsAllowed f × AreAllowed ss

    pub AreAllowedElseIfs : s.ElseIfs → Type 0
    AreAllowedElseIfs s.no_else_ifs = Unit {0}
    AreAllowedElseIfs (s.more_else_ifs x body l others) = AreAllowed body × AreAllowedElseIfs others

    pub AreAllowedCases : s.Cases → Type 0
    AreAllowedCases s.no_cases = Unit {0}
    AreAllowedCases (s.more_cases rs body l others) = AreAllowed body × AreAllowedCases others

  abbrev pub AreAllowedProcedures : List s.Procedure → Type 0
  AreAllowedProcedures [] = Unit {0}
  AreAllowedProcedures (q ∷ qs) = AreAllowed q.unit.statements × AreAllowedProcedures qs

-- the variable with this number is ALLOCATABLE
abbrev pub is_allocatable_variable : List Variable → ℕ → Bool
is_allocatable_variable [] n = false
is_allocatable_variable (v ∷ vs) zero = v.is_allocatable
is_allocatable_variable (v ∷ vs) (suc n) = is_allocatable_variable vs n

-- coarrays, counted from c, with the numbers of their variables: what END TEAM may deallocate is allowed
abbrev pub AreEnded : (ℕ → Type 0) → List Variable → List ℕ → ℕ → Type 0
AreEnded ended vs [] c = Unit {0}
AreEnded ended vs (n ∷ ns) c = (is_allocatable_variable vs n ≡ true → ended c) × AreEnded ended vs ns (suc c)

-- all of a program
abbrev pub IsAllowedProgram : (List s.Allocation → Type 0) → (List Object → Type 0) → (ℕ → Type 0) → s.Program → Type 0
IsAllowedProgram made freed ended p = AreAllowed made freed p.main.statements × AreAllowedProcedures made freed p.procedures × AreEnded ended p.main.variables p.coarrays 0

-- ---- of a set of coarrays alone
abbrev pub MakesOf : (ℕ → Bool) → List s.Allocation → Type 0
MakesOf f [] = Unit {0}
MakesOf f (s.allocate_local v type bs ∷ xs) = MakesOf f xs
MakesOf f (s.allocate_coarray c bs cs l ∷ xs) = (f c ≡ true) × MakesOf f xs

abbrev pub FreesOf : (ℕ → Bool) → List Object → Type 0
FreesOf f [] = Unit {0}
FreesOf f (objects.Local v ∷ xs) = FreesOf f xs
FreesOf f (objects.Constant n ∷ xs) = FreesOf f xs
FreesOf f (objects.Coarray c ∷ xs) = (f c ≡ true) × FreesOf f xs

abbrev pub AllocatesOf : (ℕ → Bool) → s.Program → Type 0
AllocatesOf f p = IsAllowedProgram (MakesOf f) (FreesOf f) (λ c. f c ≡ true) p
