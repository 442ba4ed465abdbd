use Rattle.coarray_types.proofs.PlaceLemmas.{subscript_order-below, subscript_order-once, subscript_order-each}
use Rattle.coarray_types.proofs.laws.law_places.Goals as goal

pub returns-clause-below : goal.returns-clause-below
returns-clause-below c = subscript_order-below

pub returns-clause-once : goal.returns-clause-once
returns-clause-once c = subscript_order-once

pub returns-clause-each : goal.returns-clause-each
returns-clause-each c = subscript_order-each
