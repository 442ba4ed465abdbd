use Rattle.order_cuts.proofs.Inside.{inside_if_before, before_if_inside}
use Rattle.order_cuts.proofs.laws.law_cut.Goals as goal

pub returns : goal.returns
returns g c t f cut w a aw aa wa awc n = (
  λ i. before_if_inside g.T.Compared.Entry g.T.Compared.Mark g.T.Compared.view g.T.Compared.likeness t f cut.follows _ cut.quiet cut.silent cut.keeps g.T.Compared.touching cut.clean w a aw aa awc n i,
  λ l. inside_if_before g.T.Compared.Entry g.T.Compared.Mark g.T.Compared.view g.T.Compared.likeness t f cut.follows _ cut.quiet cut.silent cut.keeps g.T.Compared.touching cut.clean w a aw aa wa n l,
)
