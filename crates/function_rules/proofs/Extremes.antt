-- The arguments of MIN and MAX, one by one.
use Rattle.std.proofs.Common.{◌≡◌, ◌∙◌, refl, ap, sym, List, [], ◌∷◌}
use Rattle.std.specs.Prelude.{Bool, true, false, not, cond, nat_le, ◌||◌, ◌++◌, length, map}
use Rattle.std.specs.Option.{option_map}
use Rattle.caf_base.specs.declared.place.Pos.{Pos}
use Rattle.checked_tree.specs.Expressions as t
use Rattle.rule_definitions.specs.Arguments.{Actual, breaks_in_all}
use Rattle.rule_definitions.specs.IntrinsicFunctions.{are_unnamed, several_breaks, unnamed_integer, unnamed_integers}
use Rattle.rule_definitions.specs.Judgements.{all_made, both, is_nothing, unless}
use Rattle.part_rules.proofs.Gathering.{folded_both}
use Rattle.part_rules.proofs.Lists.{expression_list}

pub unnamed_breaks : (as' : List Actual) → (unnamed_integers as').breaks ≡ (all_made (map unnamed_integer as')).breaks
unnamed_breaks [] = refl
unnamed_breaks (a ∷ rest) = ap (λ bs. (unnamed_integer a).breaks ++ bs) (unnamed_breaks rest)

pub unnamed_meaning : (as' : List Actual) → (unnamed_integers as').meaning ≡ option_map expression_list (all_made (map unnamed_integer as')).meaning
unnamed_meaning [] = refl
unnamed_meaning (a ∷ rest) =
    ap (both t.more_expressions (unnamed_integer a).meaning) (unnamed_meaning rest)
    ∙ sym (folded_both t.no_expressions t.more_expressions (unnamed_integer a).meaning (all_made (map unnamed_integer rest)).meaning)

said_if : (b c : Bool) (p : Pos) → cond b (unless c 59 p) [] ≡ unless (not b || c) 59 p
said_if true c p = refl
said_if false c p = refl

pub several_said : (as' : List Actual) (p : Pos) → several_breaks as' p ≡ unless (not (is_nothing (breaks_in_all as')) || (nat_le 2 (length as') || not (are_unnamed as'))) 59 p
several_said as' p = said_if (is_nothing (breaks_in_all as')) (nat_le 2 (length as') || not (are_unnamed as')) p

pub nothing_unless : (b : Bool) (p : Pos) → is_nothing (unless b 59 p) ≡ b
nothing_unless true p = refl
nothing_unless false p = refl
