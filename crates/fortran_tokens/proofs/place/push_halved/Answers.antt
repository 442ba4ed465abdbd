use Rattle.std.specs.Prelude.{Result, Ok, Err, OnOk}
use Rattle.fortran_tokens.proofs.place.push_halved.Goals as goal

-- what one step keeps and the next one too is kept by both
on_ok_after : {A E : Type 0} (P Q R : Type 0) (r : Result A E) → (P → Q) → OnOk r (Q → R) → OnOk r (P → R)
on_ok_after P Q R (Ok x) f g = λ p. g (f p)
on_ok_after P Q R (Err e) f g = tt

pub returns-in_ok-push_token-clause-places : goal.returns-in_ok-push_token-clause-places
returns-in_ok-push_token-clause-places c = on_ok_after _ _ _ c.push_token-then-depth-gt0.result c.in_ok-push_token.ensures.places c.push_token-then-depth-gt0.ensures.places
