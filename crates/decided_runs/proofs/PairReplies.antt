-- An end of SYNC IMAGES hears in every run what it hears in the trace.
use Rattle.std.proofs.Common.{◌≡◌, ℕ, IsTrue, cond, List, [], ◌∷◌, ap, sym, ◌∙◌, subst}
use Rattle.std.specs.Prelude.{pos, nat_lt}
use Rattle.std.specs.List.{list_any}
use Rattle.caf_events.specs.declared.ask.Ask.TheVariants as asks
use Rattle.caf_events.specs.declared.reply.Reply.TheVariants as replies
use Rattle.caf_events.specs.declared.event.Entry.{Entry}
use Rattle.caf_events.specs.Asks.{place_of}
use Rattle.object_rules.specs.Cells.{Declared}
use Rattle.object_rules.specs.BoardRules.{board_ready, board_reply}
use Rattle.core_runs.specs.CoreRuns.{at_board, said_by}
use Rattle.order_theory.specs.Races.{Stands}
use Rattle.order_axioms.specs.Views.{view}
use Rattle.order_cuts.specs.Cuts.{Follows}
use Rattle.every_order.specs.Likes.{likes}
use Rattle.free_replies.proofs.Replies.{board_here, front_follows}
use Rattle.round_words.specs.RoundRuns.{IsRoundRun}
use Rattle.round_words.proofs.Ahead.{follows_ahead}
use Rattle.round_words.proofs.RoundRuns.{round_front}
use Rattle.decided_runs.proofs.PairWords.{sets_said, count_in, last_set}
use Rattle.decided_runs.proofs.PairCloses.{unpair_is}

-- an end of SYNC IMAGES has the same status
pub unpair_again : (s : List Declared) (n : ℕ) (t : List Entry) → IsRoundRun s n t → (g : List Entry) → IsRoundRun s n g → Follows (view n) (likes n) t g → (y : Stands t) → said_by y.event.image.0 y.before ≡ said_by y.event.image.0 g → y.event.event.ask ≡ asks.Unpair
    → IsTrue (board_ready n (at_board g) y.event.image.0 asks.Unpair) → board_reply n (at_board g) y.event.image.0 asks.Unpair ≡ y.event.event.reply
unpair_again s n t run_t g run fol y words e ready =
    let i = y.event.image.0 in
    let here = board_here s n t run_t.lawful y (ap place_of e) in
    let mine = subst (λ a. IsTrue (board_ready n (at_board y.before) i a)) e here.0 in
    let run_y = round_front s n y.before (y.event ∷ y.rest) (subst (IsRoundRun s n) y.split run_t) in
    unpair_is s n t g run_t run (follows_ahead n t g fol) i ready
    ∙ ap (λ ws. replies.Number (cond (list_any (λ j. nat_lt (count_in i (sets_said (said_by j t))) (count_in j (sets_said ws))) (last_set [] (sets_said ws))) (pos 6000) (pos 0))) (sym words)
    ∙ sym (unpair_is s n t y.before run_t run_y (follows_ahead n t y.before (front_follows n t y)) i mine)
    ∙ sym (here.1 ∙ ap (board_reply n (at_board y.before) i) e)
