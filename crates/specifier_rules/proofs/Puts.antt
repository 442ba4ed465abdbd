-- Values of specifiers as they are seen.
use Rattle.std.proofs.Common.{◌≡◌, refl}
use Rattle.std.specs.Prelude.{Option, Some, None}
use Rattle.std.specs.Option.{option_map}
use Rattle.specifier_rules.specs.Values.{Slot, put}

module _ {A B : Type 0} where
  pub put_seen : (see : A → B) (s : Slot A) (m : Option A) → option_map (option_map see) (put s m) ≡ put (option_map (option_map see) s) (option_map see m)
  put_seen see None m = refl
  put_seen see (Some None) None = refl
  put_seen see (Some None) (Some x) = refl
  put_seen see (Some (Some y)) m = refl
