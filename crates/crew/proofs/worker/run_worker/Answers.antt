use Rattle.crew.proofs.worker.run_worker.Goals as goal

pub returns : goal.returns
returns g c = c.run_members.ensures
