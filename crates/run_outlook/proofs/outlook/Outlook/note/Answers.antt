use Rattle.std.proofs.Common.{◌<◌, ◌≤◌, inl, inr, subst, sym, ◌∙◌, arith}
use Rattle.std.proofs.lemmas.Bool.{cases_eq}
use Rattle.run_outlook.specs.ImageSets.{has}
use Rattle.run_outlook.proofs.Counting.{few_pass, one_in}
use Rattle.run_outlook.proofs.outlook.Outlook.note.Goals as goal

pub overflow_add-self : goal.overflow_add-self
overflow_add-self c =
    let few = few_pass (has c.args.self.now.can.words.items) 1 c.args.self.now.images in
    let n = c.requires.well.few in
    let counted = c.requires.well.counted in
    omega arith

pub overflow_sub-self : goal.overflow_sub-self
overflow_sub-self c =
    let less = one_in (has c.remove.new.self.words.items) (has c.args.self.now.can.words.items) 1 c.args.self.now.images c.args.image (omega arith) (omega arith) c.remove.ensures.here (sym c.has-could.ensures ∙ c.if-could.true) (λ j n. sym (c.remove.ensures.others j n)) in
    let counted = c.requires.well.counted in
    omega arith

pub returns-then-not-could-clause-well : goal.returns-then-not-could-clause-well
returns-then-not-could-clause-well c = record {
  few = c.requires.well.few;
  can = c.insert.ensures.room ∙ c.requires.well.can;
  can_within = λ i at. elim (cases_eq i c.args.image) [
    | inl e ↦ subst (λ n. (0 < n) × (n ≤ c.args.self.now.images)) (sym e) c.requires.image
    | inr n ↦ c.requires.well.can_within i (sym (c.insert.ensures.others i n) ∙ at)
  ];
  stale = c.requires.well.stale;
  filed = c.requires.well.filed;
  stale_within = c.requires.well.stale_within;
  filed_within = c.requires.well.filed_within;
  counted =
      let more = one_in (has c.args.self.now.can.words.items) (has c.insert.new.self.words.items) 1 c.args.self.now.images c.args.image (omega arith) (omega arith) (sym c.has-could.ensures ∙ c.if-not-could.true) c.insert.ensures.here c.insert.ensures.others in
      let counted = c.requires.well.counted in
      omega arith;
}

pub returns-then-not-can-clause-well : goal.returns-then-not-can-clause-well
returns-then-not-can-clause-well c = record {
  few = c.requires.well.few;
  can = c.remove.ensures.room ∙ c.requires.well.can;
  can_within = λ i at. elim (cases_eq i c.args.image) [
    | inl e ↦ subst (λ n. (0 < n) × (n ≤ c.args.self.now.images)) (sym e) c.requires.image
    | inr n ↦ c.requires.well.can_within i (sym (c.remove.ensures.others i n) ∙ at)
  ];
  stale = c.requires.well.stale;
  filed = c.requires.well.filed;
  stale_within = c.requires.well.stale_within;
  filed_within = c.requires.well.filed_within;
  counted =
      let less = one_in (has c.remove.new.self.words.items) (has c.args.self.now.can.words.items) 1 c.args.self.now.images c.args.image (omega arith) (omega arith) c.remove.ensures.here (sym c.has-could.ensures ∙ c.if-could.true) (λ j n. sym (c.remove.ensures.others j n)) in
      let counted = c.requires.well.counted in
      omega arith;
}
