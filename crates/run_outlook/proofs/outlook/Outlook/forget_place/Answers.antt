use Rattle.std.proofs.Common.{◌≡◌, inl, inr, subst, sym, ap, ◌∙◌, length, true, arith}
use Rattle.run_outlook.specs.ImageSets.{has}
use Rattle.run_outlook.specs.Outlooks.{filed_at}
use Rattle.run_outlook.proofs.Files.{filed_is, or_cases, or_right, same_file}
use Rattle.run_outlook.proofs.outlook.Outlook.forget_place.Goals as goal

pub insert_all-requires : goal.insert_all-requires
insert_all-requires c =
    let l = ap length (filed_is c.args.self.now.filed.items c.in-Some.file c.index.result.now c.index.result.now c.in-Some.ensures.1 c.index.ensures) in
    let w = c.requires.filed c.in-Some.file c.in-Some.ensures.1 in
    let s = c.requires.stale in
    omega arith

pub returns-in-Some-clause-well : goal.returns-in-Some-clause-well
returns-in-Some-clause-well c =
    let files = c.args.self.now.filed.items in
    let k = c.in-Some.file in
    let x = c.index.result.now in
    let well = c.requires in
    record {
      few = well.few;
      can = well.can;
      can_within = well.can_within;
      stale = c.insert_all.ensures.room ∙ well.stale;
      filed = well.filed;
      stale_within = λ i at. elim (or_cases (has c.args.self.now.stale.words.items i) (has x.words.items i) (sym (c.insert_all.ensures.both i) ∙ at)) [
        | inl one ↦ well.stale_within i one
        | inr more ↦ well.filed_within k i (subst (λ ws. has ws i ≡ true) (sym (filed_is files k x x c.in-Some.ensures.1 c.index.ensures)) more)
      ];
      filed_within = well.filed_within;
      counted = well.counted;
    }

pub returns-in-Some-clause-forgotten : goal.returns-in-Some-clause-forgotten
returns-in-Some-clause-forgotten c j file i at =
    let files = c.args.self.now.filed.items in
    let k = c.in-Some.file in
    let x = c.index.result.now in
    let same : j ≡ k = same_file (length files) c.args.place j k file c.in-Some.ensures.0 in
    let there : has (filed_at files k) i ≡ true = subst (λ n. has (filed_at files n) i ≡ true) same at in
    c.insert_all.ensures.both i ∙ or_right (has c.args.self.now.stale.words.items i) (has x.words.items i) (subst (λ ws. has ws i ≡ true) (filed_is files k x x c.in-Some.ensures.1 c.index.ensures) there)
