use Rattle.std.proofs.Common.{◌∙◌, length, drop, replicate, pos, sym, ap}
use Rattle.std.proofs.lemmas.List.{drop-replicate}
use Rattle.coarray_types.proofs.coshape.cosubscripts_of.Goals as goal

pub returns-clause-past : goal.returns-clause-past
returns-clause-past c =
    ap (λ xs. drop (length xs) c.put_cosubscripts.new.subs) (sym c.as_slice.ensures)
    ∙ (c.put_cosubscripts.ensures.past
    ∙ (ap (λ xs. drop (length xs) (replicate 3 (pos 0))) c.as_slice.ensures ∙ drop-replicate (length c.args.co.now.lower) 3 (pos 0)))
