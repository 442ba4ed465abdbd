-- Words: two that are the same stand for one operator, kind or fault.
use Rattle.std.proofs.Common.{◌≡◌, ℕ, true, cond, List, refl, ap, sym, ◌∙◌, codes, bytes_eq}
use Rattle.std.specs.List.{list_all}
use Rattle.caf_base.specs.declared.value.AtomicOp.{AtomicOp}
use Rattle.caf_base.specs.declared.value.AtomicOp.TheVariants as operations
use Rattle.caf_events.specs.declared.round.GatherOp.{GatherOp}
use Rattle.caf_events.specs.declared.round.GatherOp.TheVariants as gathers
use Rattle.caf_base.specs.declared.value.Kind.{Kind}
use Rattle.caf_base.specs.declared.value.Kind.TheVariants as kinds
use Rattle.caf_events.specs.declared.fault.FaultKind.{FaultKind}
use Rattle.caf_events.specs.declared.fault.FaultKind.TheVariants as faults
use Rattle.trace_text.specs.TraceText.{atomic_word, gather_word, kind_word}
use Rattle.trace_text.specs.Words.{fault_word}
use Rattle.trace_forms.proofs.Fields.{Field, is_field}

-- nothing is wanted of it
abbrev pub Any : {A : Type 0} → A → Type 0
Any x = Unit {0}

op_by : List ℕ → AtomicOp
op_by w =
    cond (bytes_eq w (codes "define")) operations.Define
    (cond (bytes_eq w (codes "ref")) operations.Ref
    (cond (bytes_eq w (codes "add")) operations.Add
    (cond (bytes_eq w (codes "and")) operations.And
    (cond (bytes_eq w (codes "or")) operations.Or
    (cond (bytes_eq w (codes "xor")) operations.Xor operations.Cas)))))

op_back : (x : AtomicOp) → op_by (atomic_word x) ≡ x
unfolding op_by
op_back operations.Define = refl
op_back operations.Ref = refl
op_back operations.Add = refl
op_back operations.And = refl
op_back operations.Or = refl
op_back operations.Xor = refl
op_back operations.Cas = refl

op_inside : (x : AtomicOp) → Any x → list_all is_field (atomic_word x) ≡ true
op_inside operations.Define h = refl
op_inside operations.Ref h = refl
op_inside operations.Add h = refl
op_inside operations.And h = refl
op_inside operations.Or h = refl
op_inside operations.Xor h = refl
op_inside operations.Cas h = refl

pub op_field : Field Any atomic_word
op_field = record { inside = op_inside; same = λ x y p q e. sym (op_back x) ∙ ap op_by e ∙ op_back y }

gather_by : List ℕ → GatherOp
gather_by w =
    cond (bytes_eq w (codes "sum")) gathers.Sum
    (cond (bytes_eq w (codes "min")) gathers.Min
    (cond (bytes_eq w (codes "max")) gathers.Max gathers.Broadcast))

gather_back : (x : GatherOp) → gather_by (gather_word x) ≡ x
unfolding gather_by
gather_back gathers.Sum = refl
gather_back gathers.Min = refl
gather_back gathers.Max = refl
gather_back gathers.Broadcast = refl

gather_inside : (x : GatherOp) → Any x → list_all is_field (gather_word x) ≡ true
gather_inside gathers.Sum h = refl
gather_inside gathers.Min h = refl
gather_inside gathers.Max h = refl
gather_inside gathers.Broadcast h = refl

pub gather_field : Field Any gather_word
gather_field = record {
  inside = gather_inside;
  same = λ x y p q e. sym (gather_back x) ∙ ap gather_by e
      ∙ gather_back y;
}

kind_by : List ℕ → Kind
kind_by w =
    cond (bytes_eq w (codes "I4")) kinds.I4
    (cond (bytes_eq w (codes "I8")) kinds.I8 kinds.L4)

kind_back : (x : Kind) → kind_by (kind_word x) ≡ x
unfolding kind_by
kind_back kinds.I4 = refl
kind_back kinds.I8 = refl
kind_back kinds.L4 = refl

kind_inside : (x : Kind) → Any x → list_all is_field (kind_word x) ≡ true
kind_inside kinds.I4 h = refl
kind_inside kinds.I8 h = refl
kind_inside kinds.L4 h = refl

pub kind_field : Field Any kind_word
kind_field = record { inside = kind_inside; same = λ x y p q e. sym (kind_back x) ∙ ap kind_by e ∙ kind_back y }

fault_by : List ℕ → FaultKind
fault_by w =
    cond (bytes_eq w (codes "Overflow")) faults.Overflow
    (cond (bytes_eq w (codes "DivideByZero")) faults.DivideByZero
    (cond (bytes_eq w (codes "Bounds")) faults.Bounds
    (cond (bytes_eq w (codes "ZeroStep")) faults.ZeroStep
    (cond (bytes_eq w (codes "CoBounds")) faults.CoBounds
    (cond (bytes_eq w (codes "NotAllocated")) faults.NotAllocated
    (cond (bytes_eq w (codes "NotEstablished")) faults.NotEstablished
    (cond (bytes_eq w (codes "NoTeam")) faults.NoTeam
    (cond (bytes_eq w (codes "Cells")) faults.Cells
    (cond (bytes_eq w (codes "Depth")) faults.Depth
    (cond (bytes_eq w (codes "Room")) faults.Room
    (cond (bytes_eq w (codes "Shape")) faults.Shape faults.Format)))))))))))

fault_back : (x : FaultKind) → fault_by (fault_word x) ≡ x
unfolding fault_by
fault_back faults.Overflow = refl
fault_back faults.DivideByZero = refl
fault_back faults.Bounds = refl
fault_back faults.ZeroStep = refl
fault_back faults.CoBounds = refl
fault_back faults.NotAllocated = refl
fault_back faults.NotEstablished = refl
fault_back faults.NoTeam = refl
fault_back faults.Cells = refl
fault_back faults.Depth = refl
fault_back faults.Room = refl
fault_back faults.Shape = refl
fault_back faults.Format = refl

fault_inside : (x : FaultKind) → Any x → list_all is_field (fault_word x) ≡ true
fault_inside faults.Overflow h = refl
fault_inside faults.DivideByZero h = refl
fault_inside faults.Bounds h = refl
fault_inside faults.ZeroStep h = refl
fault_inside faults.CoBounds h = refl
fault_inside faults.NotAllocated h = refl
fault_inside faults.NotEstablished h = refl
fault_inside faults.NoTeam h = refl
fault_inside faults.Cells h = refl
fault_inside faults.Depth h = refl
fault_inside faults.Room h = refl
fault_inside faults.Shape h = refl
fault_inside faults.Format h = refl

pub fault_field : Field Any fault_word
fault_field = record { inside = fault_inside; same = λ x y p q e. sym (fault_back x) ∙ ap fault_by e ∙ fault_back y }
