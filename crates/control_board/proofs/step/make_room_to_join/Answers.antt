use Rattle.std.proofs.Common.{refl, arith}
use Rattle.control_board.proofs.Enacting.{none_fits}
use Rattle.control_board.proofs.Growing.{on_two}
use Rattle.control_board.proofs.Keeping.{both}
use Rattle.control_board.proofs.step.make_room_to_join.Goals as goal

pub returns-clause-kept : goal.returns-clause-kept
returns-clause-kept c = record {
  images = refl;
  teams = refl;
  births = refl;
  runs = both _ refl c.reserve-3.ensures.images;
  members = both _ refl c.reserve-3.ensures.members;
  rounds = both _ (λ m hs t. t) c.reserve-3.ensures.told;
  tables = refl;
  forms = c.reserve.ensures.items;
  bad = c.reserve-2.ensures.items;
  pairs = refl;
  criticals = refl;
}

pub returns-clause-room : goal.returns-clause-room
returns-clause-room c =
    on_two c.reserve-3.result (λ round room. record {
      rounds = round;
      forms = (let f = c.in_ok-reserve.ensures.ok in omega arith);
      bad = (let f = c.in_ok-reserve-2.ensures.ok in omega arith);
      plan = none_fits _ _ c.clear.ensures c.requires.few;
    })
    c.reserve-3.ensures.round c.reserve-3.ensures.room
