-- Counting calls, and those that fail.
use Rattle.std.specs.Prelude.{ℕ, ◌+◌, ◌-◌, ◌^◌, ◌==◌, min, Bool, List}
use Rattle.std.specs.List.{list_any}

-- the numbers of the calls that fail, how many calls were made, and how many faults there were
pub record CallCount : Type 0 where
  pub fail : List ℕ
  pub made : ℕ
  pub faults : ℕ

-- one more, but no more than 64 bits hold
abbrev pub one_more : ℕ → ℕ
one_more n = min (n + 1) (2 ^ 64 - 1)

-- whether the next call is one of those that fail
abbrev pub fails_next : CallCount → Bool
fails_next c = list_any (λ n. n == c.made + 1) c.fail

-- one call more
abbrev pub called : CallCount → CallCount
called c = record c { made = one_more c.made }

-- one fault more
abbrev pub faulted : CallCount → CallCount
faulted c = record c { faults = one_more c.faults }
