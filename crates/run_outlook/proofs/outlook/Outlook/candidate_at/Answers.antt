use Rattle.std.proofs.Common.{◌≡◌, ◌-◌, inl, inr, length, false, ap, arith}
use Rattle.std.proofs.lemmas.Bool.{cases_Bool}
use Rattle.std.specs.List.{filter, range_with_len}
use Rattle.run_outlook.specs.ImageSets.{has}
use Rattle.run_outlook.proofs.Bytes.{without_zero}
use Rattle.run_outlook.proofs.Counting.{counted_next, none_from, stands_next}
use Rattle.run_outlook.proofs.outlook.Outlook.candidate_at.Goals as goal

pub loop-image-init : goal.loop-image-init
loop-image-init c =
    let well = c.requires.well in
    let none : has c.args.self.now.can.words.items 0 ≡ false = elim (cases_Bool (has c.args.self.now.can.words.items 0)) [ inl t ↦ absurd (let low = (well.can_within 0 t).0 in omega arith) | inr f ↦ f ] in
    let same = ap length (without_zero (has c.args.self.now.can.words.items) c.byte_of-first.result.0 none) in
    let there = ap (λ k. length (filter (has c.args.self.now.can.words.items) (range_with_len 1 (k - 1)))) c.max-from.ensures in
    let counted = c.byte_of-first.ensures in
    record { low = omega arith; counted = omega arith }

pub returns-then-left-eq0-clause-it : goal.returns-then-left-eq0-clause-it
returns-then-left-eq0-clause-it c =
    let counted = c.loop-image.invariant.counted in
    let found = c.in-Some.ensures in
    stands_next (has c.args.self.now.can.words.items) c.args.self.now.images c.loop-image.from c.in-Some.image c.args.place c.loop-image.invariant.low found.0 (c.requires.well.can_within c.in-Some.image found.1).1 found.1 found.2 (omega arith)

pub loop-image-preserved : goal.loop-image-preserved
loop-image-preserved c =
    let found = c.in-Some.ensures in
    let more = counted_next (has c.args.self.now.can.words.items) c.loop-image.from c.in-Some.image c.loop-image.invariant.low found.0 found.1 found.2 in
    let counted = c.loop-image.invariant.counted in
    let some = c.if-left-eq0.false in
    record { low = omega arith; counted = omega arith }

pub unreachable-requires : goal.unreachable-requires
unreachable-requires c =
    let none = none_from (has c.args.self.now.can.words.items) c.args.self.now.images c.loop-image.from c.loop-image.invariant.low c.in_default.ensures in
    let counted = c.loop-image.invariant.counted in
    let all = c.requires.well.counted in
    let place = c.requires.place in
    omega arith
