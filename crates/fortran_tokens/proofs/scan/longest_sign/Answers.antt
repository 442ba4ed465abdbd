use Rattle.std.proofs.Common.{rules, arith}
use Rattle.std.proofs.lemmas.Grind.{common_steps}
use Rattle.fortran_tokens.specs.Scans.{sign_found}
use Rattle.fortran_tokens.proofs.scan.longest_sign.Goals as goal

pub returns : goal.returns
unfolding sign_found
returns c = first_of (search rules, grind (arith, common_steps))
