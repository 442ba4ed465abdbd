-- A read of a named file, piece by piece.
use Rattle.std.proofs.Common.{◌≡◌, List, ◌++◌, Option, None, Some, ℕ}
use Rattle.std.specs.Prelude.{⊤}
use Rattle.caf_base.specs.Outside.{Files, file_of}

-- where the files are told, the file is what was read and then what is left
abbrev pub HasRead : Option Files → List ℕ → Option (List ℕ) → List ℕ → Type 0
HasRead None name left bytes = ⊤
HasRead (Some files) name None bytes = ⊥
HasRead (Some files) name (Some rest) bytes = file_of name files ≡ Some (bytes ++ rest)
