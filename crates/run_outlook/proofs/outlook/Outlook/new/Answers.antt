use Rattle.std.proofs.Common.{ap, sym, length, arith}
use Rattle.run_outlook.specs.ImageSets.{has}
use Rattle.run_outlook.proofs.Counting.{none_in}
use Rattle.run_outlook.proofs.outlook.Outlook.new.Goals as goal

pub returns-clause-well : goal.returns-clause-well
returns-clause-well c = record {
  few = c.requires.few;
  can = c.in_ok-new.ensures.room;
  stale = c.in_ok-all_images.ensures.room;
  filed = λ k h. c.in_ok-empty_sets.ensures.room k (let n = c.in_ok-empty_sets.ensures.count in omega arith);
  can_within = λ i at. absurd (let none = c.in_ok-new.ensures.none i in cc);
  stale_within = c.in_ok-all_images.ensures.no_others;
  filed_within = λ k i at. absurd (let none = c.in_ok-empty_sets.ensures.none k i in cc);
  counted = sym (ap length (none_in (has c.in_ok-new.field-0.words.items) 1 c.args.images (λ j low high. c.in_ok-new.ensures.none j)));
}
