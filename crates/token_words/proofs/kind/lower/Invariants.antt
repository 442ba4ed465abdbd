use Rattle.std.proofs.Common.{◌≡◌, ◌++◌, drop}
use Rattle.std.specs.Str.{str_to_ascii_lowercase}
use Rattle.token_words.proofs.kind.lower.Given as goal

-- what is done, and what is left
abbrev pub invariant-loop-byte : goal.invariant-loop-byte
invariant-loop-byte l = l.text ++ str_to_ascii_lowercase (drop l.byte-index l.bytes) ≡ str_to_ascii_lowercase l.bytes
