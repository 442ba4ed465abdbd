use Rattle.std.proofs.Common.{refl}
use Rattle.control_board.proofs.Keeping.{both}
use Rattle.control_board.proofs.step.make_room_to_gather.Goals as goal

pub returns-in_err-reserve-clause-kept : goal.returns-in_err-reserve-clause-kept
returns-in_err-reserve-clause-kept c = record {
  images = refl;
  teams = refl;
  births = refl;
  runs = both _ c.reserve.ensures.images refl;
  members = both _ c.reserve.ensures.members refl;
  rounds = both _ c.reserve.ensures.told (λ m hs t. t);
  tables = refl;
  forms = refl;
  bad = refl;
  pairs = refl;
  criticals = refl;
}

pub returns-clause-kept : goal.returns-clause-kept
returns-clause-kept c = record {
  images = refl;
  teams = refl;
  births = refl;
  runs = both _ c.reserve.ensures.images refl;
  members = both _ c.reserve.ensures.members refl;
  rounds = both _ c.reserve.ensures.told (λ m hs t. t);
  tables = c.make_room_for.ensures.values;
  forms = refl;
  bad = refl;
  pairs = refl;
  criticals = refl;
}
