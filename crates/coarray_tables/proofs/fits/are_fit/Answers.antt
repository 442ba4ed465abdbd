use Rattle.coarray_tables.proofs.Fitting.{cells_where_fit, few_where_fit}
use Rattle.coarray_tables.proofs.fits.are_fit.Goals as goal

pub returns-clause-few : goal.returns-clause-few
returns-clause-few c = few_where_fit c.args.tables.now c.fit_together.result c.fit_together.ensures

pub returns-clause-cells : goal.returns-clause-cells
returns-clause-cells c = cells_where_fit c.args.tables.now c.fit_together.result c.fit_together.ensures
