use Rattle.std.proofs.Common.{◌≡◌, ◌+◌, ◌/◌, ◌<◌, ◌≤◌, inl, inr, subst, sym, ap, ◌∙◌, length, true, arith}
use Rattle.std.proofs.lemmas.Bool.{cases_eq}
use Rattle.run_outlook.specs.ImageSets.{has}
use Rattle.run_outlook.proofs.Files.{as_many, each_file, filed_is, filed_now, still_filed}
use Rattle.run_outlook.proofs.outlook.Outlook.file.Goals as goal

pub insert-requires : goal.insert-requires
insert-requires c =
    let l = ap length (filed_is c.args.self.now.filed.items c.in-Some.file c.index_mut.result.now c.index_mut.result.now c.in-Some.ensures.1 c.index_mut.ensures.value) in
    let w = c.requires.well.filed c.in-Some.file c.in-Some.ensures.1 in
    let i = c.requires.image.1 in
    omega arith

pub returns-in-Some-clause-well : goal.returns-in-Some-clause-well
returns-in-Some-clause-well c =
    let files = c.args.self.now.filed.items in
    let k = c.in-Some.file in
    let x = c.index_mut.result.now in
    let y = c.insert.new.self in
    let within = c.in-Some.ensures.1 in
    let is = c.index_mut.ensures.value in
    let well = c.requires.well in
    record {
      few = well.few;
      can = well.can;
      can_within = well.can_within;
      stale = well.stale;
      filed = λ j h. each_file files k x y within is (λ n ws. n < length files → length ws ≡ c.args.self.now.images / 64 + 1) well.filed
          (λ w. c.insert.ensures.room ∙ ap length (sym (filed_is files k x y within is)) ∙ well.filed k w) j (subst (λ n. j < n) (as_many files k x y within is) h);
      stale_within = well.stale_within;
      filed_within = λ j i at. each_file files k x y within is (λ n ws. has ws i ≡ true → (0 < i) × (i ≤ c.args.self.now.images)) (λ n. well.filed_within n i)
          (λ h. elim (cases_eq i c.args.image) [
            | inl e ↦ subst (λ n. (0 < n) × (n ≤ c.args.self.now.images)) (sym e) c.requires.image
            | inr n ↦ well.filed_within k i (subst (λ ws. has ws i ≡ true) (sym (filed_is files k x y within is)) (sym (c.insert.ensures.others i n) ∙ h))
          ]) j at;
      counted = well.counted;
    }

pub returns-in-Some-clause-here : goal.returns-in-Some-clause-here
returns-in-Some-clause-here c = filed_now c.args.self.now.filed.items c.in-Some.file c.index_mut.result.now c.insert.new.self c.in-Some.ensures.1 c.index_mut.ensures.value c.args.image c.args.place c.in-Some.ensures.0 c.insert.ensures.here

pub returns-in-Some-clause-filed : goal.returns-in-Some-clause-filed
returns-in-Some-clause-filed c j =
    still_filed c.args.self.now.filed.items c.in-Some.file c.index_mut.result.now c.insert.new.self c.in-Some.ensures.1 c.index_mut.ensures.value j
    (λ was. elim (cases_eq j c.args.image) [
      | inl e ↦ subst (λ n. has c.insert.new.self.words.items n ≡ true) (sym e) c.insert.ensures.here
      | inr n ↦ c.insert.ensures.others j n ∙ was
    ])
