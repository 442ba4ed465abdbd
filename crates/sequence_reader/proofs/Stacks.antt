-- Stacks of open constructs: in memory the innermost stands last, in the theory first.
use Rattle.std.proofs.Common.{◌≡◌, List, [], ◌∷◌, ◌++◌, map, length, refl, ap, arith}
use Rattle.std.proofs.lemmas.List.{reverse-append}
use Rattle.sequence_reader.specs.declared.state.Construct.{Construct}
use Rattle.sequence_reader.specs.Views.{construct, blocks}

pub blocks_pushed : (os : List Construct) (o : Construct) → blocks (os ++ o ∷ []) ≡ construct o ∷ blocks os
blocks_pushed os o = ap (map construct) (reverse-append os (o ∷ []))

-- no construct, and one taken off
pub blocks_none : (os : List Construct) → length os ≡ 0 → blocks os ≡ []
blocks_none [] h = refl
blocks_none (o ∷ os) h = absurd (omega arith)

pub ruleset stack_laws = (blocks_pushed, blocks_none)
