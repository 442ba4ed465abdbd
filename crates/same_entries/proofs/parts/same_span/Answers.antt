use Rattle.same_entries.proofs.Deciding.{span_decides}
use Rattle.std.proofs.Common.{◌≡◌, subst, sym, Decides}
use Rattle.same_entries.proofs.parts.same_span.Goals as goal

pub returns : goal.returns
returns c = subst (λ t. Decides t (c.args.a.now ≡ c.args.b.now)) (sym c.eq.ensures)
    (span_decides c.args.a.now c.args.b.now)
