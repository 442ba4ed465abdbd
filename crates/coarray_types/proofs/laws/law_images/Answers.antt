use Rattle.coarray_types.proofs.CoplaceLemmas.{named-once, named-each}
use Rattle.coarray_types.proofs.laws.law_images.Goals as goal

pub returns-clause-once : goal.returns-clause-once
returns-clause-once c = named-once

pub returns-clause-each : goal.returns-clause-each
returns-clause-each c = named-each
