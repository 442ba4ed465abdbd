use Rattle.std.proofs.Common.{◌∷◌, ◌++◌, drop, ap, sym, ◌∙◌, subst, append_assoc}
use Rattle.std.proofs.lemmas.Result.{IfOk-weaker}
use Rattle.caf_events.specs.declared.ask.Ask.TheVariants as asks
use Rattle.trace_text.specs.TraceText.{number_text, values_text, gather_word, kind_word}
use Rattle.trace_text.specs.TraceText.{arriving_text, operands_text}
use Rattle.trace_forms.specs.Ranges.{AskHasText}
use Rattle.trace_fields.specs.declared.words.BoardWord.TheVariants as board
use Rattle.trace_fields.proofs.Parts.{passed}
use Rattle.trace_reader.proofs.Boards.{on_board}
use Rattle.trace_reader.proofs.Owners.{two, five}
use Rattle.trace_reader.proofs.board.board_ask.Goals as goal

pub returns-in-Arrive : goal.returns-in-Arrive
returns-in-Arrive c = IfOk-weaker c.arrive_ask.result _ _ (λ r is of_team ask more shows place has at e.
    let m = on_board board.Arrive _ _ ask c.board_word.ensures c.in-Arrive.is at place in
    let h = subst (AskHasText c.args.names.now) m.2 has in
    let rest = ap (drop 1) (e ∙ ap (λ a. operands_text of_team c.args.names.now a ++ (32 ∷ (62 ∷ more))) m.2
    ∙ append_assoc (32 ∷ of_team m.0.0) (arriving_text c.args.names.now m.1) (32 ∷ (62 ∷ more))) in
    let t = is of_team m.0 m.1 more shows h.0 h.1 rest in
    (t.0 ∙ sym m.2, t.1)) c.arrive_ask.ensures

pub returns-in-Leave : goal.returns-in-Leave
returns-in-Leave c of_team ask more shows place has at e =
    let m = on_board board.Leave _ _ ask c.board_word.ensures c.in-Leave.is at place in
    let h = subst (AskHasText c.args.names.now) m.2 has in
    let rest = ap (drop 1) (e ∙ ap (λ a. operands_text of_team c.args.names.now a ++ (32 ∷ (62 ∷ more))) m.2
    ∙ two (of_team m.0.0) (number_text m.1) (62 ∷ more)) in
    let t = c.leave_ask.ensures of_team m.0 m.1 (62 ∷ more) shows h.0 h.1 rest in
    (t.0 ∙ sym m.2, t.1)

pub returns-in-Take : goal.returns-in-Take
returns-in-Take c of_team ask more shows place has at e =
    let m = on_board board.Take _ _ ask c.board_word.ensures c.in-Take.is at place in
    let h = subst (AskHasText c.args.names.now) m.2 has in
    let rest = ap (drop 1) (e ∙ ap (λ a. operands_text of_team c.args.names.now a ++ (32 ∷ (62 ∷ more))) m.2
    ∙ two (of_team m.0.0) (number_text m.1) (62 ∷ more)) in
    let t = c.take_ask.ensures of_team m.0 m.1 (62 ∷ more) shows h.0 h.1 rest in
    (t.0 ∙ sym m.2, t.1)

pub returns-in-Status : goal.returns-in-Status
returns-in-Status c of_team ask more shows place has at e =
    let m = on_board board.Status _ _ ask c.board_word.ensures c.in-Status.is at place in
    let h = subst (AskHasText c.args.names.now) m.2 has in
    let rest = ap (drop 1) (e ∙ ap (λ a. operands_text of_team c.args.names.now a ++ (32 ∷ (62 ∷ more))) m.2
    ∙ two (of_team m.0.0) (number_text m.1) (62 ∷ more)) in
    let t = c.status_ask.ensures of_team m.0 m.1 (62 ∷ more) shows h.0 h.1 rest in
    (t.0 ∙ sym m.2, t.1)

pub returns-in-Gather : goal.returns-in-Gather
returns-in-Gather c = IfOk-weaker c.gather_ask.result _ _ (λ r is of_team ask more shows place has at e.
    let m = on_board board.Gather _ _ ask c.board_word.ensures c.in-Gather.is at place in
    let h = subst (AskHasText c.args.names.now) m.5 has in
    let rest = ap (drop 1) (e ∙ ap (λ a. operands_text of_team c.args.names.now a ++ (32 ∷ (62 ∷ more))) m.5
    ∙ five (of_team m.0.0) (gather_word m.1) (number_text m.2) (kind_word m.3) (values_text m.4) (62 ∷ more)) in
    let t = is of_team m.0 m.1 m.2 m.3 m.4 (62 ∷ more) shows h.0 h.1 h.2 rest in
    (t.0 ∙ sym m.5, t.1)) c.gather_ask.ensures

pub returns-in-Pair : goal.returns-in-Pair
returns-in-Pair c = IfOk-weaker c.pair_ask.result _ _ (λ r is of_team ask more shows place has at e.
    let m = on_board board.Pair _ _ ask c.board_word.ensures c.in-Pair.is at place in
    let h = subst (AskHasText c.args.names.now) m.1 has in
    let rest = ap (drop 1) (e ∙ ap (λ a. operands_text of_team c.args.names.now a ++ (32 ∷ (62 ∷ more))) m.1) in
    let t = is m.0 (62 ∷ more) h rest in
    (t.0 ∙ sym m.1, t.1)) c.pair_ask.ensures

pub returns-in-Unpair : goal.returns-in-Unpair
returns-in-Unpair c of_team ask more shows place has at e =
    let m = on_board board.Unpair _ _ ask c.board_word.ensures c.in-Unpair.is at place in
    (sym m, ap (drop 1) (e ∙ ap (λ a. operands_text of_team c.args.names.now a ++ (32 ∷ (62 ∷ more))) m))

pub returns-in-Gone : goal.returns-in-Gone
returns-in-Gone c of_team ask more shows place has at e =
    let m = on_board board.Gone _ _ ask c.board_word.ensures c.in-Gone.is at place in
    (sym m, ap (drop 1) (e ∙ ap (λ a. operands_text of_team c.args.names.now a ++ (32 ∷ (62 ∷ more))) m))

pub returns-in-Enter : goal.returns-in-Enter
returns-in-Enter c of_team ask more shows place has at e =
    let m = on_board board.Enter _ _ ask c.board_word.ensures c.in-Enter.is at place in
    let h = subst (AskHasText c.args.names.now) m.1 has in
    let t = c.next_half.ensures m.0 (62 ∷ more) h (ap (drop 1) (e ∙
    ap (λ a. operands_text of_team c.args.names.now a ++ (32 ∷ (62 ∷ more))) m.1)) in
    (ap asks.Enter t.0 ∙ sym m.1, t.1)

pub returns-in-Exit : goal.returns-in-Exit
returns-in-Exit c of_team ask more shows place has at e =
    let m = on_board board.Exit _ _ ask c.board_word.ensures c.in-Exit.is at place in
    let h = subst (AskHasText c.args.names.now) m.1 has in
    let t = c.next_half-in-Exit.ensures m.0 (62 ∷ more) h (ap (drop 1) (e ∙
    ap (λ a. operands_text of_team c.args.names.now a ++ (32 ∷ (62 ∷ more))) m.1)) in
    (ap asks.Exit t.0 ∙ sym m.1, t.1)

pub returns-in-Stop : goal.returns-in-Stop
returns-in-Stop c of_team ask more shows place has at e =
    let m = on_board board.Stop _ _ ask c.board_word.ensures c.in-Stop.is at place in
    let h = subst (AskHasText c.args.names.now) m.1 has in
    let t = c.next_signed.ensures m.0 (62 ∷ more) h (ap (drop 1) (e ∙
    ap (λ a. operands_text of_team c.args.names.now a ++ (32 ∷ (62 ∷ more))) m.1)) in
    (ap asks.Stop (passed m.0 _ h t.0) ∙ sym m.1, t.1)

pub returns-in-Failed : goal.returns-in-Failed
returns-in-Failed c of_team ask more shows place has at e =
    let m = on_board board.Failed _ _ ask c.board_word.ensures c.in-Failed.is at place in
    let h = subst (AskHasText c.args.names.now) m.1 has in
    let t = c.next_team.ensures of_team m.0 (62 ∷ more) shows h (ap (drop 1) (e ∙
    ap (λ a. operands_text of_team c.args.names.now a ++ (32 ∷ (62 ∷ more))) m.1)) in
    (ap asks.Failed t.0 ∙ sym m.1, t.1)

pub returns-in-Stopped : goal.returns-in-Stopped
returns-in-Stopped c of_team ask more shows place has at e =
    let m = on_board board.Stopped _ _ ask c.board_word.ensures c.in-Stopped.is at place in
    let h = subst (AskHasText c.args.names.now) m.1 has in
    let t = c.next_team-in-Stopped.ensures of_team m.0 (62 ∷ more) shows h (ap (drop 1) (e ∙
    ap (λ a. operands_text of_team c.args.names.now a ++ (32 ∷ (62 ∷ more))) m.1)) in
    (ap asks.Stopped t.0 ∙ sym m.1, t.1)
