-- The sinks in memory, and what each write does.
use Rattle.std.specs.Prelude.{ℕ, ◌-◌, ◌&&◌, ◌||◌, ◌++◌, min, cond, nat_le, nat_lt, Bool, List, length, take}
use Rattle.caf_io.specs.Calls.{CallCount, one_more, fails_next, called, faulted}

-- a sink's bytes, its calls, the most bytes that a call takes, and how many bytes there is room for
pub record MemSinkState : Type 0 where
  pub written : List ℕ
  pub calls : CallCount
  pub piece : ℕ
  pub room : ℕ

-- whether there is something to write and no room left for it
abbrev pub finds_full : ℕ → List ℕ → List ℕ → Bool
finds_full room written bytes = nat_lt 0 (length bytes) && nat_le room (length written)

-- whether a write fails: it is one of the calls that do, or finds the sink full
abbrev pub write_fails : MemSinkState → List ℕ → Bool
write_fails s bytes = fails_next s.calls || finds_full s.room s.written bytes

-- how many bytes a write takes, where it doesn't fail
abbrev pub taken : MemSinkState → List ℕ → ℕ
taken s bytes = min (length bytes) (min s.piece (s.room - length s.written))

-- the sink after a write: a call that fails writes nothing
abbrev pub after_write : MemSinkState → List ℕ → MemSinkState
after_write s bytes =
    cond (write_fails s bytes)
    (record s { calls = faulted (called s.calls) })
    (record s { calls = called s.calls; written = s.written ++ take (taken s bytes) bytes })

-- the bytes of a sink of fixed size, and its faults
pub record ConstSinkState : Type 0 where
  pub written : List ℕ
  pub faults : ℕ

-- such a sink, which has room for so many bytes, after a write
abbrev pub after_const_write : ℕ → ConstSinkState → List ℕ → ConstSinkState
after_const_write room s bytes =
    cond (finds_full room s.written bytes)
    (record s { faults = one_more s.faults })
    (record s { written = s.written ++ take (room - length s.written) bytes })
