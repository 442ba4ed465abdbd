use Rattle.std.proofs.Common.{refl, ap, map}
use Rattle.control_board.specs.Boards.{values_in}
use Rattle.control_board.proofs.Keeping.{both}
use Rattle.control_board.proofs.planning.make_room_for_teams.Goals as goal

pub returns-in_err-reserve-clause-grown : goal.returns-in_err-reserve-clause-grown
returns-in_err-reserve-clause-grown c = record {
  images = refl;
  teams = refl;
  births = refl;
  runs = both _ refl c.reserve.ensures.images;
  members = both _ refl c.reserve.ensures.members;
  rounds = both _ (λ m hs t. t) c.reserve.ensures.told;
  tables = refl;
  forms = refl;
  bad = refl;
  pairs = refl;
  criticals = refl;
}

pub returns-in_err-reserve-2-clause-grown : goal.returns-in_err-reserve-2-clause-grown
returns-in_err-reserve-2-clause-grown c = record {
  images = refl;
  teams = refl;
  births = refl;
  runs = both _ c.reserve-2.ensures.images c.reserve.ensures.images;
  members = both _ c.reserve-2.ensures.members c.reserve.ensures.members;
  rounds = both _ c.reserve-2.ensures.told c.reserve.ensures.told;
  tables = refl;
  forms = refl;
  bad = refl;
  pairs = refl;
  criticals = refl;
}

pub returns-in_err-reserve-3-clause-grown : goal.returns-in_err-reserve-3-clause-grown
returns-in_err-reserve-3-clause-grown c = record {
  images = refl;
  teams = c.reserve-3.ensures.same;
  births = refl;
  runs = both _ c.reserve-2.ensures.images c.reserve.ensures.images;
  members = both _ c.reserve-2.ensures.members c.reserve.ensures.members;
  rounds = both _ c.reserve-2.ensures.told c.reserve.ensures.told;
  tables = refl;
  forms = refl;
  bad = refl;
  pairs = refl;
  criticals = refl;
}

pub returns-in_err-reserve-4-clause-grown : goal.returns-in_err-reserve-4-clause-grown
returns-in_err-reserve-4-clause-grown c = record {
  images = refl;
  teams = c.reserve-3.ensures.same;
  births = c.reserve-4.ensures.items;
  runs = both _ c.reserve-2.ensures.images c.reserve.ensures.images;
  members = both _ c.reserve-2.ensures.members c.reserve.ensures.members;
  rounds = both _ c.reserve-2.ensures.told c.reserve.ensures.told;
  tables = refl;
  forms = refl;
  bad = refl;
  pairs = refl;
  criticals = refl;
}

pub returns-in_err-reserve-5-clause-grown : goal.returns-in_err-reserve-5-clause-grown
returns-in_err-reserve-5-clause-grown c = record {
  images = refl;
  teams = c.reserve-3.ensures.same;
  births = c.reserve-4.ensures.items;
  runs = both _ c.reserve-2.ensures.images c.reserve.ensures.images;
  members = both _ c.reserve-2.ensures.members c.reserve.ensures.members;
  rounds = both _ c.reserve-2.ensures.told c.reserve.ensures.told;
  tables = ap (map values_in) c.reserve-5.ensures.items;
  forms = refl;
  bad = refl;
  pairs = refl;
  criticals = refl;
}

pub returns-clause-grown : goal.returns-clause-grown
returns-clause-grown c = record {
  images = refl;
  teams = c.reserve-3.ensures.same;
  births = c.reserve-4.ensures.items;
  runs = both _ c.reserve-2.ensures.images c.reserve.ensures.images;
  members = both _ c.reserve-2.ensures.members c.reserve.ensures.members;
  rounds = both _ c.reserve-2.ensures.told c.reserve.ensures.told;
  tables = ap (map values_in) c.reserve-5.ensures.items;
  forms = refl;
  bad = refl;
  pairs = refl;
  criticals = refl;
}
