-- What a file read whole is, where the files of a source are told; and the bytes that a task is of.
use Rattle.std.specs.Prelude.{ℕ, ◌≡◌, ◌<◌, List, [], length, Option, None, Some, ⊤}
use Rattle.caf_base.specs.Outside.{Files, file_of}
use Rattle.caf_words.specs.Words.{Origin}
use Rattle.caf_words.specs.Words.Origin.{from_file, from_made}
use Rattle.work_maker.specs.MadeSource.{made_source}

-- where the files are told, these are the bytes of the first one of that name
abbrev pub HasBytesIfTold : Option Files → List ℕ → List ℕ → Type 0
HasBytesIfTold None name bytes = ⊤
HasBytesIfTold (Some files) name bytes = file_of name files ≡ Some bytes

-- the files are told, and these are the bytes of the first one of that name
abbrev pub HasBytes : Option Files → List ℕ → List ℕ → Type 0
HasBytes None name bytes = ⊥
HasBytes (Some files) name bytes = file_of name files ≡ Some bytes

-- where the files are told, no byte is still to come
abbrev pub HasNothingLeft : Option Files → Option (List ℕ) → Type 0
HasNothingLeft None left = ⊤
HasNothingLeft (Some files) left = left ≡ Some []

-- where the files are told, the first one of that name has more bytes than the limit
abbrev pub IsLonger : Option Files → List ℕ → ℕ → Type 0
IsLonger None name limit = ⊤
IsLonger (Some files) name limit = (bytes : List ℕ) × (file_of name files ≡ Some bytes) × (limit < length bytes)

-- the files are told, and the first one of that name has more bytes than the limit
abbrev pub IsLongTold : Option Files → List ℕ → ℕ → Type 0
IsLongTold None name limit = ⊥
IsLongTold (Some files) name limit = (bytes : List ℕ) × (file_of name files ≡ Some bytes) × (limit < length bytes)

-- where the files are told, these are the bytes of the source: of the file, or those that the seed and the size make
abbrev pub IsSourceIfTold : Option Files → Origin → List ℕ → Type 0
IsSourceIfTold files (from_file file) bytes = HasBytesIfTold files file bytes
IsSourceIfTold files (from_made seed size) bytes = bytes ≡ made_source seed size

-- the same, and a file is told
abbrev pub IsSource : Option Files → Origin → List ℕ → Type 0
IsSource files (from_file file) bytes = HasBytes files file bytes
IsSource files (from_made seed size) bytes = bytes ≡ made_source seed size

-- the source has more bytes than the limit, of a file where the files are told
abbrev pub IsLongSource : Option Files → Origin → ℕ → Type 0
IsLongSource files (from_file file) limit = IsLonger files file limit
IsLongSource files (from_made seed size) limit = limit < length (made_source seed size)
