-- What an image has brought to collective subroutines (ISO/IEC 1539-1:2018, 16.6).
use Rattle.std.specs.Prelude.{ℕ, List, []}
use Rattle.caf_base.specs.declared.value.Value.{Value}

-- the values of each of its calls, the first one first, and room for more
pub record BroughtState : Type 0 where
  pub values : List (List Value)
  pub room : ℕ

abbrev pub no_values : BroughtState
no_values = record { values = []; room = 0 }
