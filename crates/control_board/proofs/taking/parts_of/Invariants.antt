use Rattle.std.proofs.Common.{◌≡◌, map, take}
use Rattle.caf_base.specs.declared.place.ImageNo.{ImageNo}
use Rattle.control_board.specs.Boards.{value_at, table_of}
use Rattle.control_board.proofs.taking.parts_of.Given as goal

abbrev pub invariant-loop-member : goal.invariant-loop-member
invariant-loop-member l = map (λ x. x.items) l.parts.items ≡ map (λ (m : ImageNo). value_at (table_of l.tables.items l.team.0) l.call m.0) (take l.member-index l.members)
