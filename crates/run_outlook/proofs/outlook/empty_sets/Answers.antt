use Rattle.std.proofs.Common.{◌≡◌, ◌+◌, ◌/◌, ◌∷◌, [], inl, inr, ap, ◌∙◌, sym, subst, length, length-append, false, arith}
use Rattle.std.proofs.lemmas.Bool.{cases_lt}
use Rattle.run_outlook.specs.ImageSets.{has}
use Rattle.run_outlook.specs.Outlooks.{filed_at}
use Rattle.run_outlook.proofs.Files.{each_more, none_past_files}
use Rattle.run_outlook.proofs.outlook.empty_sets.Goals as goal

pub loop-preserved : goal.loop-preserved
loop-preserved c =
    let sets = c.loop.sets.items in
    let set = c.in_ok-new.field-0 in
    let count = c.loop.invariant.count in
    let more = c.in_ok-push.ensures.items in
    record {
      count = (let l = ap length more ∙ length-append sets (set ∷ []) in omega arith);
      room = λ k h. subst (λ s. length (filed_at s k) ≡ c.args.images / 64 + 1) (sym more)
          (each_more (λ n ws. length ws ≡ c.args.images / 64 + 1) sets set (λ j l. c.loop.invariant.room j (omega arith)) c.in_ok-new.ensures.room k (omega arith));
      none = λ k h i. subst (λ s. has (filed_at s k) i ≡ false) (sym more)
          (each_more (λ n ws. has ws i ≡ false) sets set (λ j l. c.loop.invariant.none j (omega arith) i) (c.in_ok-new.ensures.none i) k (omega arith));
    }

pub returns-clause-none : goal.returns-clause-none
returns-clause-none c k i = elim (cases_lt k c.args.count) [
  | inl l ↦ c.loop.invariant.none k (omega arith) i
  | inr g ↦ none_past_files c.loop.sets.items k i (let n = c.loop.invariant.count in omega arith)
]
