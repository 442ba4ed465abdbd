-- What the checker holds of the arguments of a call, as the rules see it.
use Rattle.std.specs.Option.{option_map}
use Rattle.part_rules.specs.Views.{placed}
use Rattle.subroutine_rules.specs.Parts as p
use Rattle.subroutine_rules.specs.declared.arguments.Parts.{Parts}
use Rattle.subroutine_rules.specs.declared.arguments.Found.{Found}
use Rattle.subroutine_rules.specs.declared.arguments.Found.TheVariants as founds

abbrev pub parts_seen : Parts → p.Parts
parts_seen x = record {
  first = option_map placed x.first;
  second = option_map placed x.second;
  third = option_map placed x.third;
  fourth = option_map placed x.fourth;
  fifth = option_map placed x.fifth;
  order = x.order;
}

abbrev pub found_seen : Found → p.Found
found_seen (founds.Refused bs) = p.refused bs.items
found_seen (founds.Bound x) = p.found (parts_seen x)
