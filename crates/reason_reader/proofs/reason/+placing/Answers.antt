use Rattle.std.proofs.Common.{rules, arith, ◌<◌, length}
use Rattle.expr_reader.specs.Words.{tokens_of}
use Rattle.reason_reader.proofs.Ends.{as_many, leaves_fits, action_place_by}
use Rattle.reason_reader.proofs.reason.+placing.Goals as goal

pub action_place-returns : goal.action_place-returns
action_place-returns g t c =
    let some : 0 < c.args.left = search rules in
    action_place_by c.args.left (tokens_of c.args.words.now) _ _ _ _ _ _ _ _ some c.assignment.ensures c.keyword.ensures c.condition.ensures c.in_ok-assignment.ensures c.in_ok-keyword.ensures c.in_ok-condition.ensures c.earlier.ensures c.earlier-2.ensures

-- What a part leaves is no more than there was.
pub form_place-action_place-requires : goal.form_place-action_place-requires
form_place-action_place-requires g t c κs within =
    let k = leaves_fits c.in_ok-rest.field-0 c.in-Ok.rest (λ r. tokens_of r.now) c.args.left (g.R.ReadsForms.form c.args.name) (tokens_of c.args.words.now) c.in-Ok.is c.in_ok-rest.ensures in
    let m = as_many c.args.words.now in
    let n = as_many c.in-Ok.rest.now in
    let fewer : length c.in-Ok.rest.now < 4294967296 = (let r = c.requires in omega arith) in
    (search rules, (search rules, (search rules, fewer)))
