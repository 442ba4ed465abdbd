use Rattle.std.proofs.Common.{◌≡◌, sym, subst, Decides}
use Rattle.std.proofs.lemmas.Slice.Eq.{bytes_eq-Decides}
use Rattle.checked_traces.proofs.names.are_alike.Goals as goal

pub returns : goal.returns
returns c = subst (λ t. Decides t (c.args.a.now ≡ c.args.b.now)) (sym c.eq.ensures) (bytes_eq-Decides c.args.a.now c.args.b.now)
