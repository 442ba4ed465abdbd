use Rattle.std.proofs.Common.{◌≡◌, ℕ, List, ◌∷◌, ◌++◌, drop, ap, sym, ◌∙◌, append_assoc}
use Rattle.std.proofs.lemmas.Result.{IfOk-weaker}
use Rattle.caf_events.specs.Asks.{place_of}
use Rattle.caf_events.specs.declared.ask.Ask.{Ask}
use Rattle.trace_text.specs.TraceText.{place_word, ask_text, operands_text}
use Rattle.trace_text.specs.Words.{ask_word}
use Rattle.trace_forms.specs.Ranges.{AskHasText}
use Rattle.trace_forms.proofs.Variants.{word_inside}
use Rattle.trace_fields.specs.Cutting.{IsCutAt}
use Rattle.trace_fields.proofs.Cut.{found}
use Rattle.trace_fields.proofs.Parts.{no_blank}
use Rattle.trace_reader.specs.Reading.{reply_part}
use Rattle.trace_reader.proofs.Boards.{led, place_clean, place_fits}
use Rattle.trace_reader.proofs.ask.read_ask.Goals as goal

-- the object's field, the word's, and what stands behind them
parts : (of_team : ℕ → List ℕ) (names : List (List ℕ)) (ask : Ask) (tail : List ℕ) → AskHasText names ask
    → (text object behind word rest : List ℕ) → IsCutAt 32 text object behind → IsCutAt 32 behind word rest
    → text ≡ place_word (place_of ask) ++ (32 ∷ (ask_text of_team names ask ++ (32 ∷ tail)))
    → (object ≡ place_word (place_of ask)) × (word ≡ ask_word ask)
    × (32 ∷ rest ≡ operands_text of_team names ask ++ (32 ∷ tail))
parts of_team names ask tail has text object behind word rest one two e =
    let o = operands_text of_team names ask ++ (32 ∷ tail) in
    let at = found 32 text object behind (place_word (place_of ask)) (ask_text of_team names ask ++ (32 ∷ tail)) one
    (place_clean (place_of ask) (place_fits names ask has)) e in
    let b = found 32 behind word rest (ask_word ask) (drop 1 o) two (no_blank (ask_word ask) (word_inside ask)) (at.1
    ∙ append_assoc (ask_word ask) (operands_text of_team names ask) (32 ∷ tail)
    ∙ ap (λ z. ask_word ask ++ z) (led of_team names ask tail)) in
    (at.0, b.0, ap (λ z. 32 ∷ z) b.1 ∙ sym (led of_team names ask tail))

pub returns-in-Memory : goal.returns-in-Memory
returns-in-Memory c = IfOk-weaker c.memory_ask.result _ _ (λ r is of_team ask reply shows has form e.
    let p = parts of_team c.args.names.now ask (reply_part reply) has _ _ _ _ _ c.next_field.ensures
    c.next_field-word.ensures e in
    let at = c.place_named-place.ensures (place_of ask) (place_fits c.args.names.now ask has) p.0 in
    is of_team ask (reply_part reply) (sym at ∙ c.in-Memory.is) has p.1 p.2) c.memory_ask.ensures

pub returns-in-Board : goal.returns-in-Board
returns-in-Board c = IfOk-weaker c.board_ask.result _ _ (λ r is of_team ask reply shows has form e.
    let p = parts of_team c.args.names.now ask (reply_part reply) has _ _ _ _ _ c.next_field.ensures
    c.next_field-word.ensures e in
    let at = c.place_named-place.ensures (place_of ask) (place_fits c.args.names.now ask has) p.0 in
    is of_team ask (drop 1 (reply_part reply)) shows (sym at ∙ c.in-Board.is) has p.1 p.2) c.board_ask.ensures

pub returns-in-Own : goal.returns-in-Own
returns-in-Own c = IfOk-weaker c.own_ask.result _ _ (λ r is of_team ask reply shows has form e.
    let p = parts of_team c.args.names.now ask (reply_part reply) has _ _ _ _ _ c.next_field.ensures
    c.next_field-word.ensures e in
    let at = c.place_named-place.ensures (place_of ask) (place_fits c.args.names.now ask has) p.0 in
    is of_team c.args.names.now ask reply (sym at ∙ c.in-Own.is) has form p.1 p.2) c.own_ask.ensures
