-- What stands on a sink where bytes were not written whole.
use Rattle.std.specs.Prelude.{ℕ, ◌<◌, List, length, Option}
use Rattle.std.specs.Io.{StartsWith}
use Rattle.std.specs.Io.KnownBytes.{Appends}

-- what is written grew by a front of these bytes that isn't all of them
pub record GrewByProperPrefix (old new : Option (List ℕ)) (bytes : List ℕ) : Type 0 where
  pub front : List ℕ
  pub begins : StartsWith bytes front
  pub shorter : length front < length bytes
  pub grew : Appends old new front
