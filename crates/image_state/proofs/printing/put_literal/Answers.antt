use Rattle.std.proofs.Common.{◌≡◌, ◌∙◌, ap, sym}
use Rattle.std.specs.Prelude.{Some}
use Rattle.image_stores.specs.Piles.{last_of}
use Rattle.image_state.specs.Texts.{with_next}
use Rattle.image_state.proofs.PrintLaws.{put_joined}
use Rattle.image_state.proofs.printing.put_literal.Goals as goal

pub returns-in-Some-clause-put : goal.returns-in-Some-clause-put
returns-in-Some-clause-put c =
    let next : with_next (last_of c.args.prints.now.piles) c.args.text ≡ Some c.in-Some.longer = ap (λ o. with_next o c.args.text) (sym c.last.ensures.is) ∙ sym c.with_next.ensures ∙ c.in-Some.is in
    λ t. put_joined c.args.text c.args.prints.now c.requires.size c.in-Some.longer c.set_last.new.self next c.last.ensures.within c.set_last.ensures
