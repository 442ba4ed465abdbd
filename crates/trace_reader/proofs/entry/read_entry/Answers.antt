use Rattle.std.proofs.Common.{◌∷◌, ◌++◌, ◌∙◌}
use Rattle.caf_events.specs.Asks.{place_of}
use Rattle.trace_text.specs.TraceText.{number_text, image_text, place_word, ask_text, reply_text}
use Rattle.trace_forms.proofs.Lines.{line_is}
use Rattle.trace_reader.specs.Reading.{reply_part}
use Rattle.trace_reader.proofs.entry.read_entry.Goals as goal

pub returns : goal.returns
returns c of_team e shows has is =
    let ask = e.event.ask in
    let reply = e.event.reply in
    let exchange = place_word (place_of ask) ++ (32 ∷ (ask_text of_team c.args.names.now ask
    ++ (32 ∷ reply_part reply))) in
    let third = number_text e.event.line ++ (32 ∷ exchange) in
    let second = image_text e.image ++ (32 ∷ third) in
    let whole = is ∙ line_is (number_text e.event.stamp) (image_text e.image) (number_text e.event.line)
    (place_word (place_of ask)) (ask_text of_team c.args.names.now ask) (reply_text reply) in
    let a = c.next_long-stamp.ensures e.event.stamp second has.stamp whole in
    let b = c.next_half-image.ensures e.image.0 third has.image a.1 in
    let d = c.next_half-at.ensures e.event.line exchange has.line b.1 in
    let f = c.in_ok-told.ensures of_team ask reply shows has.ask has.reply has.form d.1 in
    let event = c.new.ensures in
    (λ i. record {
      image = record { 0 = b.0 i };
      event = (event ∙ (λ j. record {
        ask = (f j).ask;
        reply = (f j).reply;
        stamp = a.0 j;
        line = d.0 j;
      })) i;
    })
