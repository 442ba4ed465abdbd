use Rattle.std.proofs.Common.{[], ◌∷◌, ◌++◌, refl, ◌∙◌, arith}
use Rattle.caf_text.specs.Numbers.{decimal_text}
use Rattle.trace_text.specs.TraceText.{joined, number_text, image_text}
use Rattle.trace_fields.proofs.Cut.{found}
use Rattle.trace_fields.proofs.Parts.{digits_clean, signed_clean, passed}
use Rattle.trace_reader.proofs.Replies.{formed_is}
use Rattle.trace_reader.proofs.reply.formed_team.Goals as goal

pub returns : goal.returns
returns c team h is =
    let small = h.team in
    let members = joined (46 ∷ []) image_text team.members in
    let at = found 47 _ _ _ (number_text team.team.0) (decimal_text team.number ++ (58 ∷ members)) c.cut_at.ensures
    (digits_clean 47 team.team.0 refl (omega arith)) (is ∙ formed_is team) in
    let b = found 58 _ _ _ (decimal_text team.number) members c.cut_at-2.ensures
    (signed_clean 58 team.number refl h.number) at.1 in
    let k = c.half_of.ensures team.team.0 h.team at.0 in
    let n = passed team.number _ h.number (c.signed_of.ensures team.number h.number b.0) in
    let m = c.in_ok-members.ensures team.members h.members b.1 in
    (λ i. record { team = record { 0 = k i }; number = n i; members = m i })
