-- Which coarrays LOCK, UNLOCK, EVENT POST, EVENT WAIT, EVENT_QUERY and the atomic subroutines name (ISO/IEC
-- 1539-1:2018, 11.6.7, 11.6.8, 11.6.10, 16.5, 16.9.72, 16.10.2).
use Rattle.std.specs.Prelude.{◌≡◌, Bool, true, false, List, [], ◌∷◌, slice_get}
use Rattle.caf_base.specs.declared.value.Kind.{Kind}
use Rattle.caf_base.specs.declared.value.Kind.TheVariants as kinds
use Rattle.checked_tree.specs.declared.data.Object.TheVariants as objects
use Rattle.checked_tree.specs.Expressions as t
use Rattle.checked_tree.specs.Statements as s
use Rattle.object_rules.specs.Cells.{Content, of_kind, Declared}
use Rattle.object_rules.specs.Kinds.{same_value_kind}
use Rattle.object_rules.specs.MemoryRules.{holds, is_lock, is_event}

-- values of this kind
abbrev pub is_of : Kind → Content → Bool
is_of k (of_kind j) = same_value_kind k j
is_of k content = false

-- the kinds of an atom: kind 4, ATOMIC_INT_KIND and ATOMIC_LOGICAL_KIND (16.10.2)
abbrev pub IsAtomic : Kind → Type 0
IsAtomic kinds.I4 = Unit {0}
IsAtomic kinds.L4 = Unit {0}
IsAtomic kinds.I8 = ⊥

module _ (coarrays : List Declared) where
  -- a cell of a declared coarray of this content
  abbrev pub IsCellOf : (Content → Bool) → t.Designator → Type 0
  IsCellOf test (t.part (objects.Coarray c) ss sel) = holds test (slice_get coarrays c) ≡ true
  IsCellOf test (t.part (objects.Local v) ss sel) = ⊥
  IsCellOf test (t.part (objects.Constant k) ss sel) = ⊥

  abbrev pub IsAtom : Kind → t.Designator → Type 0
  IsAtom k d = IsAtomic k × IsCellOf (is_of k) d

  abbrev pub IsTypedCall : s.IntrinsicSubroutine → Type 0
  IsTypedCall (s.event_query d count stat) = IsCellOf is_event d
  IsTypedCall (s.atomic_define d k x stat) = IsAtom k d
  IsTypedCall (s.atomic_ref r d k stat) = IsAtom k d
  IsTypedCall (s.atomic_change c d x stat) = IsAtom kinds.I4 d
  IsTypedCall (s.atomic_fetch c d x old stat) = IsAtom kinds.I4 d
  IsTypedCall (s.atomic_cas d k old x z stat) = IsAtom k d
  IsTypedCall i = Unit {0}

  -- each statement on a lock names a lock, each one on an event an event, and each atomic one an atom of its kind
  abbrev mutual
    pub IsTyped : s.StatementForm → Type 0
    IsTyped (s.lock d acquired stat order) = IsCellOf is_lock d
    IsTyped (s.unlock d stat) = IsCellOf is_lock d
    IsTyped (s.event_post d stat) = IsCellOf is_event d
    IsTyped (s.event_wait d until stat order) = IsCellOf is_event d
    IsTyped (s.call_intrinsic i w) = IsTypedCall i
    IsTyped (s.if x body others none) = AreTyped body × AreTypedElseIfs others × AreTyped none
    IsTyped (s.do_counted v k first last step n body) = AreTyped body
    IsTyped (s.do_while x body) = AreTyped body
    IsTyped (s.do_forever body) = AreTyped body
    IsTyped (s.select x n cs none) = AreTypedCases cs × AreTyped none
    IsTyped (s.critical n stat body m) = AreTyped body
    IsTyped (s.change_team x stat body end_stat m) = AreTyped body
    IsTyped f = Unit {0}

    pub AreTyped : s.Statements → Type 0
    AreTyped s.no_statements = Unit {0}
    AreTyped (s.more_statements (s.on_line f l) ss) = IsTyped f × AreTyped ss

    pub AreTypedElseIfs : s.ElseIfs → Type 0
    AreTypedElseIfs s.no_else_ifs = Unit {0}
    AreTypedElseIfs (s.more_else_ifs x body l others) = AreTyped body × AreTypedElseIfs others

    pub AreTypedCases : s.Cases → Type 0
    AreTypedCases s.no_cases = Unit {0}
    AreTypedCases (s.more_cases rs body l others) = AreTyped body × AreTypedCases others

  abbrev pub AreTypedProcedures : List s.Procedure → Type 0
  AreTypedProcedures [] = Unit {0}
  AreTypedProcedures (q ∷ qs) = AreTyped q.unit.statements × AreTypedProcedures qs

  abbrev pub IsTypedProgram : s.Program → Type 0
  IsTypedProgram p = AreTyped p.main.statements × AreTypedProcedures p.procedures
