-- The words of asks, operators, kinds and faults, and for what each stands.
use Rattle.std.specs.Prelude.{ℕ, cond, List, codes, bytes_eq}
use Rattle.caf_base.specs.declared.value.AtomicOp.{AtomicOp}
use Rattle.caf_base.specs.declared.value.AtomicOp.TheVariants as operations
use Rattle.caf_base.specs.declared.value.Kind.{Kind}
use Rattle.caf_base.specs.declared.value.Kind.TheVariants as kinds
use Rattle.caf_events.specs.declared.round.GatherOp.{GatherOp}
use Rattle.caf_events.specs.declared.round.GatherOp.TheVariants as gathers
use Rattle.caf_events.specs.declared.fault.FaultKind.{FaultKind}
use Rattle.caf_events.specs.declared.fault.FaultKind.TheVariants as faults
use Rattle.trace_fields.specs.declared.words.MemoryWord.{MemoryWord}
use Rattle.trace_fields.specs.declared.words.MemoryWord.TheVariants as memory
use Rattle.trace_fields.specs.declared.words.BoardWord.{BoardWord}
use Rattle.trace_fields.specs.declared.words.BoardWord.TheVariants as board
use Rattle.trace_fields.specs.declared.words.OwnWord.{OwnWord}
use Rattle.trace_fields.specs.declared.words.OwnWord.TheVariants as own
use Rattle.trace_fields.specs.declared.words.RoundWord.{RoundWord}
use Rattle.trace_fields.specs.declared.words.RoundWord.TheVariants as rounds
use Rattle.trace_fields.specs.declared.words.LimitWord.{LimitWord}
use Rattle.trace_fields.specs.declared.words.LimitWord.TheVariants as limits

-- the rest of the words of asks at a memory
abbrev pub event_by : List ℕ → MemoryWord
event_by word =
    cond (bytes_eq word (codes "trylock")) memory.TryLock (
    cond (bytes_eq word (codes "unlock")) memory.Unlock (
    cond (bytes_eq word (codes "post")) memory.Post (
    cond (bytes_eq word (codes "wait")) memory.Wait (
    cond (bytes_eq word (codes "query")) memory.Query (
    cond (bytes_eq word (codes "free")) memory.Free (memory.Mark))))))

-- the ask at a memory that a word begins
abbrev pub memory_by : List ℕ → MemoryWord
memory_by word =
    cond (bytes_eq word (codes "read")) memory.Read (
    cond (bytes_eq word (codes "write")) memory.Write (
    cond (bytes_eq word (codes "create")) memory.Create (
    cond (bytes_eq word (codes "delete")) memory.Delete (
    cond (bytes_eq word (codes "atomic")) memory.Atomic (
    cond (bytes_eq word (codes "lock")) memory.Lock (event_by word))))))

-- the rest of the words of asks at the control board
abbrev pub control_by : List ℕ → BoardWord
control_by word =
    cond (bytes_eq word (codes "enter")) board.Enter (
    cond (bytes_eq word (codes "exit")) board.Exit (
    cond (bytes_eq word (codes "gone")) board.Gone (
    cond (bytes_eq word (codes "stop")) board.Stop (
    cond (bytes_eq word (codes "failed")) board.Failed (
    cond (bytes_eq word (codes "stopped")) board.Stopped (board.Status))))))

-- the ask at the control board that a word begins
abbrev pub board_by : List ℕ → BoardWord
board_by word =
    cond (bytes_eq word (codes "arrive")) board.Arrive (
    cond (bytes_eq word (codes "leave")) board.Leave (
    cond (bytes_eq word (codes "gather")) board.Gather (
    cond (bytes_eq word (codes "take")) board.Take (
    cond (bytes_eq word (codes "pair")) board.Pair (
    cond (bytes_eq word (codes "unpair")) board.Unpair (control_by word))))))

-- the step of an image alone that a word begins
abbrev pub own_by : List ℕ → OwnWord
own_by word =
    cond (bytes_eq word (codes "print")) own.Print (
    cond (bytes_eq word (codes "memory")) own.Memory (
    cond (bytes_eq word (codes "fail")) own.Fail (
    cond (bytes_eq word (codes "errorstop")) own.ErrorStop (
    cond (bytes_eq word (codes "fault")) own.Fault (own.Limit)))))

-- what is brought to a round
abbrev pub round_by : List ℕ → RoundWord
round_by word =
    cond (bytes_eq word (codes "sync")) rounds.Sync (
    cond (bytes_eq word (codes "form")) rounds.Form (
    cond (bytes_eq word (codes "change")) rounds.Change (
    cond (bytes_eq word (codes "end")) rounds.End (
    cond (bytes_eq word (codes "allocate")) rounds.Allocate (rounds.Deallocate)))))

-- what a limit is of
abbrev pub limit_by : List ℕ → LimitWord
limit_by word =
    cond (bytes_eq word (codes "statements")) limits.Statements (
    cond (bytes_eq word (codes "words")) limits.Words (limits.Stamp))

-- an atomic action
abbrev pub operator_by : List ℕ → AtomicOp
operator_by word =
    cond (bytes_eq word (codes "define")) operations.Define (
    cond (bytes_eq word (codes "ref")) operations.Ref (
    cond (bytes_eq word (codes "add")) operations.Add (
    cond (bytes_eq word (codes "and")) operations.And (
    cond (bytes_eq word (codes "or")) operations.Or (
    cond (bytes_eq word (codes "xor")) operations.Xor (operations.Cas))))))

-- a collective operation
abbrev pub gather_by : List ℕ → GatherOp
gather_by word =
    cond (bytes_eq word (codes "sum")) gathers.Sum (
    cond (bytes_eq word (codes "min")) gathers.Min (
    cond (bytes_eq word (codes "max")) gathers.Max (gathers.Broadcast)))

-- a kind
abbrev pub kind_by : List ℕ → Kind
kind_by word =
    cond (bytes_eq word (codes "I4")) kinds.I4 (
    cond (bytes_eq word (codes "I8")) kinds.I8 (kinds.L4))

-- the rest of the names of run faults
abbrev pub further_fault_by : List ℕ → FaultKind
further_fault_by word =
    cond (bytes_eq word (codes "NotEstablished")) faults.NotEstablished (
    cond (bytes_eq word (codes "NoTeam")) faults.NoTeam (
    cond (bytes_eq word (codes "Cells")) faults.Cells (
    cond (bytes_eq word (codes "Depth")) faults.Depth (
    cond (bytes_eq word (codes "Room")) faults.Room (
    cond (bytes_eq word (codes "Shape")) faults.Shape (faults.Format))))))

-- a run fault
abbrev pub fault_by : List ℕ → FaultKind
fault_by word =
    cond (bytes_eq word (codes "Overflow")) faults.Overflow (
    cond (bytes_eq word (codes "DivideByZero")) faults.DivideByZero (
    cond (bytes_eq word (codes "Bounds")) faults.Bounds (
    cond (bytes_eq word (codes "ZeroStep")) faults.ZeroStep (
    cond (bytes_eq word (codes "CoBounds")) faults.CoBounds (
    cond (bytes_eq word (codes "NotAllocated")) faults.NotAllocated (further_fault_by word))))))
