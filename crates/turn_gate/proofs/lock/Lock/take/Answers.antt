use Rattle.std.proofs.Common.{◌∙◌, sym, ap, ◌∷◌, Some}
use Rattle.atomic_table.specs.Table.{rest}
use Rattle.turn_gate.proofs.lock.Lock.take.Goals as goal

pub exchange-requires : goal.exchange-requires
exchange-requires g c =
    let h = c.requires.holds in (
      c.requires.seat,
      (Some h.0, h.1 ∙ ap (λ l. (0, Some h.0) ∷ l) (sym (ap rest h.1))),
    )
