use Rattle.std.proofs.Common.{◌≡◌, drop}
use Rattle.std.specs.Str.Parse.{digits_value_after}
use Rattle.fortran_tokens.specs.Cuts.{value_of}
use Rattle.token_words.proofs.kind.value.Given as goal

-- the value so far, with the digits that are left
abbrev pub invariant-loop-digit : goal.invariant-loop-digit
invariant-loop-digit l = digits_value_after 10 l.value (drop l.digit-index l.digits) ≡ value_of l.digits
