use Rattle.std.proofs.Common.{rules, ap, cond, sym, ◌∙◌, is_eq, Some}
use Rattle.std.specs.BTreeMap.{get}
use Rattle.std.specs.Int.RustNames.{FitsSigned}
use Rattle.std.specs.Ordering.{nat_cmp}
use Rattle.std.proofs.lemmas.Int.{to_z-of_z}
use Rattle.trace_text.proofs.Tables.{kept, put_in}
use Rattle.trace_text.proofs.numbers.note_team.Goals as goal
use mir.Syntax.{w64}

pub returns-then-contains_key : goal.returns-then-contains_key
returns-then-contains_key c =
    kept c.args.numbers.now c.args.team.now.team.0 c.args.team.now.number
    (sym c.contains_key.ensures ∙ c.if-contains_key.true)

pub returns : goal.returns
returns c =
    let m = c.args.numbers.now in
    let k = c.args.team.now.team.0 in
    let n = c.args.team.now.number in
    let f : FitsSigned w64 n = search rules in
    put_in m c.insert.new.self k n (sym c.contains_key.ensures ∙ c.if-contains_key.false)
    (λ q. c.in_ok-insert.ensures.updates.0 q
    ∙ ap (λ z. cond (is_eq (nat_cmp k q)) (Some z) (get nat_cmp m q)) (to_z-of_z w64 n f))
