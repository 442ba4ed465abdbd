use Rattle.std.proofs.Common.{◌∷◌, ◌++◌, refl, ap, sym, ◌∙◌, arith, codes, true≢false}
use Rattle.std.specs.Prelude.{nat_eq, not}
use Rattle.std.proofs.lemmas.Slice.Eq.{bytes_eq-Decides}
use Rattle.caf_events.specs.declared.reply.Reply.TheVariants as replies
use Rattle.trace_text.specs.TraceText.{number_text, image_text}
use Rattle.trace_forms.proofs.Cuts.{differ_by}
use Rattle.trace_fields.proofs.Cut.{found}
use Rattle.trace_fields.proofs.Parts.{digits_clean}
use Rattle.trace_reader.proofs.reply.round_reply.Goals as goal

pub returns-then-eq : goal.returns-then-eq
returns-then-eq c (replies.Round n) has kind is =
    let at = found 32 _ _ _ (codes "round") (number_text n) c.cut_at.ensures refl is in
    ap replies.Round (c.long_of.ensures n has at.1)
returns-then-eq c (replies.Clash image line) has kind is =
    let at = found 32 _ _ _ (codes "clash") (image_text image ++ (32 ∷ number_text line)) c.cut_at.ensures refl is in
    let told = (bytes_eq-Decides c.cut_at.result.0.now _).0 (sym c.eq.ensures ∙ c.if-eq.true) ∙ c.as_slice.ensures in
    absurd (differ_by (λ b. not (nat_eq b 110)) (codes "clash") (codes "round") refl refl (sym at.0 ∙ told))
returns-then-eq c r has kind is = absurd (true≢false (sym kind))

pub returns : goal.returns
returns c (replies.Round n) has kind is =
    let at = found 32 _ _ _ (codes "round") (number_text n) c.cut_at.ensures refl is in
    absurd (true≢false (sym ((bytes_eq-Decides c.cut_at.result.0.now _).1 (at.0 ∙ sym c.as_slice.ensures))
    ∙ sym c.eq.ensures ∙ c.if-eq.false))
returns c (replies.Clash image line) has kind is =
    let small = has.0 in
    let at = found 32 _ _ _ (codes "clash") (image_text image ++ (32 ∷ number_text line)) c.cut_at.ensures refl is in
    let b = found 32 _ _ _ (image_text image) (number_text line) c.cut_at-2.ensures
    (digits_clean 32 image.0 refl (omega arith)) at.1 in
    let k = c.half_of.ensures image.0 has.0 b.0 in
    let m = c.half_of-2.ensures line has.1 b.1 in
    (λ i. replies.Clash (record { 0 = k i }) (m i))
returns c r has kind is = absurd (true≢false (sym kind))
