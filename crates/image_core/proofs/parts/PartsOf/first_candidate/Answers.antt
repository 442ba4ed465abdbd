use Rattle.std.proofs.Common.{◌≡◌, ◌∙◌, sym, subst, inl, inr, false, arith}
use Rattle.std.proofs.lemmas.Bool.{cases_lt}
use Rattle.core_runs.specs.Moments.{can_step, rules}
use Rattle.image_core.specs.Parts.{moment}
use Rattle.image_core.proofs.Knowing.{not_open}
use Rattle.image_core.proofs.parts.PartsOf.first_candidate.Goals as goal

pub loop-image-preserved : goal.loop-image-preserved
loop-image-preserved g c = record {
  knows = c.is_candidate.ensures.knows;
  low = (let l = c.loop-image.invariant.low in let f = c.in-Some.ensures.0 in omega arith);
  none = λ j low high. elim (cases_lt j c.loop-image.from) [
    | inl l ↦ c.loop-image.invariant.none j low l
    | inr g' ↦ elim (cases_lt j c.in-Some.image) [
      | inl under ↦ not_open (rules g.M.Walker g.O.Object g.B.Object) (moment g.M.Walker g.O.Object g.B.Object c.args.self.now) c.loop-image.outlook c.loop-image.invariant.knows j (c.in-Some.ensures.2 j (omega arith) under)
      | inr over ↦ (
          let e : c.in-Some.image ≡ j = omega arith in
          subst (λ n. can_step (rules g.M.Walker g.O.Object g.B.Object) (moment g.M.Walker g.O.Object g.B.Object c.args.self.now) n ≡ false) e (sym c.in_ok-is_candidate.ensures.can ∙ c.if-branch.false))
    ]
  ];
}

pub returns-clause-first : goal.returns-clause-first
returns-clause-first g c j low = elim (cases_lt j c.loop-image.from) [
  | inl l ↦ c.loop-image.invariant.none j low l
  | inr g' ↦ not_open (rules g.M.Walker g.O.Object g.B.Object) (moment g.M.Walker g.O.Object g.B.Object c.args.self.now) c.loop-image.outlook c.loop-image.invariant.knows j (c.in_default.ensures j (omega arith))
]
