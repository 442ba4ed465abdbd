use Rattle.accepted_asks.proofs.Sound.{accepted_sound}
use Rattle.accepted_asks.proofs.laws.law_accepted_is_sound.Goals as goal

pub returns : goal.returns
returns c x p accepts coarrays held declared fit valued allocates = accepted_sound x p accepts coarrays held declared fit valued allocates
