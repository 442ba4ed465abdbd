use Rattle.std.proofs.Common.{ap, sym, ◌∙◌, map, bytes_eq, cond}
use Rattle.rule_definitions.specs.Names.{is_among}
use Rattle.unit_names.specs.Found.{found, joined, row, texts, under}
use Rattle.unit_names.proofs.Tables.{at_name, front_listed, inserted, still_listed}
use Rattle.unit_names.proofs.block.Block.add.Goals as goal

pub invariant_of-self-in_err-insert : goal.invariant_of-self-in_err-insert
invariant_of-self-in_err-insert c = λ n e.
    ap (λ z. under (map row z) n) c.in_err-insert.ensures.err
    ∙ c.self.invariant n (front_listed c.self.inside.names.items c.args.name n (sym (ap (λ xs. is_among (texts xs) n) c.in_ok-push.ensures.items) ∙ e))

pub invariant_of-self-2 : goal.invariant_of-self-2
invariant_of-self-2 c = λ n e.
    still_listed c.self.inside.names.items c.args.name (map row c.self.inside.table.entries) (map row c.insert.new.self.entries) (found c.joined-all.result) c.self.invariant
    (λ m. ap (λ z. under (map row z) m) c.in_ok-insert.ensures.entries
    ∙ (inserted c.in_ok-key.key c.joined-all.result m c.self.inside.table.entries
    ∙ ap (λ k. cond (bytes_eq k m) (found c.joined-all.result) (under (map row c.self.inside.table.entries) m)) c.in_ok-key.ensures.items))
    n (sym (ap (λ xs. is_among (texts xs) n) c.in_ok-push.ensures.items) ∙ e)

pub returns : goal.returns
returns c = λ n.
    ap (λ z. under (map row z) n) c.in_ok-insert.ensures.entries
    ∙ (inserted c.in_ok-key.key c.joined-all.result n c.self.inside.table.entries
    ∙ (ap (λ k. cond (bytes_eq k n) (found c.joined-all.result) (under (map row c.self.inside.table.entries) n)) c.in_ok-key.ensures.items
    ∙ (ap (λ d. cond (bytes_eq c.args.name.now n) d (under (map row c.self.inside.table.entries) n)) (c.joined-all.ensures ∙ ap (λ x. joined x (found c.args.more)) c.find.ensures)
    ∙ (ap (λ rs. cond (bytes_eq c.args.name.now n) (joined (under c.args.self.now c.args.name.now) (found c.args.more)) (under rs n)) c.self.view_is
    ∙ at_name c.args.name.now n c.args.self.now (found c.args.more) (under c.args.self.now n)))))
