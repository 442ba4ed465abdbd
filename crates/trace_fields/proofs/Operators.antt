-- The words of operators, kinds and faults stand for what they name, and have no blank.
use Rattle.std.proofs.Common.{◌≡◌, true, List, refl}
use Rattle.std.specs.List.{list_all}
use Rattle.caf_base.specs.declared.value.AtomicOp.{AtomicOp}
use Rattle.caf_base.specs.declared.value.AtomicOp.TheVariants as operations
use Rattle.caf_base.specs.declared.value.Kind.{Kind}
use Rattle.caf_base.specs.declared.value.Kind.TheVariants as kinds
use Rattle.caf_events.specs.declared.round.GatherOp.{GatherOp}
use Rattle.caf_events.specs.declared.round.GatherOp.TheVariants as gathers
use Rattle.trace_text.specs.TraceText.{atomic_word, gather_word, kind_word}
use Rattle.trace_fields.specs.Cutting.{other}
use Rattle.trace_fields.specs.Words.{operator_by, gather_by, kind_by}

pub operator_back : (op : AtomicOp) → operator_by (atomic_word op) ≡ op
operator_back operations.Define = refl
operator_back operations.Ref = refl
operator_back operations.Add = refl
operator_back operations.And = refl
operator_back operations.Or = refl
operator_back operations.Xor = refl
operator_back operations.Cas = refl

pub operator_clean : (op : AtomicOp) → list_all (other 32) (atomic_word op) ≡ true
operator_clean operations.Define = refl
operator_clean operations.Ref = refl
operator_clean operations.Add = refl
operator_clean operations.And = refl
operator_clean operations.Or = refl
operator_clean operations.Xor = refl
operator_clean operations.Cas = refl

pub gather_back : (op : GatherOp) → gather_by (gather_word op) ≡ op
gather_back gathers.Sum = refl
gather_back gathers.Min = refl
gather_back gathers.Max = refl
gather_back gathers.Broadcast = refl

pub gather_clean : (op : GatherOp) → list_all (other 32) (gather_word op) ≡ true
gather_clean gathers.Sum = refl
gather_clean gathers.Min = refl
gather_clean gathers.Max = refl
gather_clean gathers.Broadcast = refl

pub kind_back : (kind : Kind) → kind_by (kind_word kind) ≡ kind
kind_back kinds.I4 = refl
kind_back kinds.I8 = refl
kind_back kinds.L4 = refl

pub kind_clean : (kind : Kind) → list_all (other 32) (kind_word kind) ≡ true
kind_clean kinds.I4 = refl
kind_clean kinds.I8 = refl
kind_clean kinds.L4 = refl
