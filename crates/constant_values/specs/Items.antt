-- What is known of the items of an array constructor.
use Rattle.rule_definitions.specs.Constants as k
use Rattle.constant_values.specs.declared.items.KnownItems.{KnownItems}

abbrev pub items : KnownItems → k.KnownItems
items x = record { items = x.values; count = x.count }
