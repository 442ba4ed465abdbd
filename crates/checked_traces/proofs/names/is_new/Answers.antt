use Rattle.std.proofs.Common.{◌≡◌, ℕ, ◌+◌, ◌<◌, ◌≤◌, length, inl, inr, refl, ap, sym, ◌∙◌, subst, arith, true, false, true≢false, Some, slice_get}
use Rattle.std.proofs.lemmas.Bool.{cases_lt}
use Rattle.std.proofs.lemmas.Option.{slice_get_read, slice_get_within}
use Rattle.checked_traces.proofs.names.is_new.Goals as goal

pub returns-then-are_alike : goal.returns-then-are_alike
returns-then-are_alike c =
    let there = slice_get_read c.args.texts.now _ c.loop-text.text-index c.text-item.result refl c.loop-text-test.true c.text-item.is in
    let same = c.are_alike.ensures.0 c.if-are_alike.true in (
      λ no. absurd (true≢false (sym no)),
      λ none. absurd (none c.loop-text.text-index (there ∙ ap Some (sym c.as_slice.ensures ∙ same))),
    )

pub loop-text-preserved : goal.loop-text-preserved
loop-text-preserved c k low here = elim (cases_lt k c.loop-text.text-index) [
  | inl l ↦ c.loop-text.invariant k l here
  | inr g ↦ (
      let e : k ≡ c.loop-text.text-index = omega arith in
      let there = slice_get_read c.args.texts.now _ c.loop-text.text-index c.text-item.result refl c.loop-text-test.true c.text-item.is in
      let both : Some c.text-item.result ≡ Some c.args.name.now = sym there ∙ subst (λ j. slice_get c.args.texts.now j ≡ Some c.args.name.now) e here in
      let same : c.text-item.result ≡ c.args.name.now = cc in
      true≢false (sym (c.are_alike.ensures.1 (c.as_slice.ensures ∙ same)) ∙ c.if-are_alike.false))
]

pub returns : goal.returns
returns c = (
  λ yes k here. c.loop-text.invariant k (let w = slice_get_within c.args.texts.now k c.args.name.now here in omega arith) here,
  λ none. refl,
)
