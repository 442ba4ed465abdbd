-- The steps that are told to be inert are so.
use Rattle.std.proofs.Common.{◌≡◌, ℕ, Bool, true, false, List, [], ◌∷◌, ◌++◌, inl, inr, refl}
use Rattle.std.specs.Prelude.{not}
use Rattle.std.proofs.lemmas.Bool.{or_cases}
use Rattle.caf_events.specs.declared.ask.Ask.{Ask}
use Rattle.caf_events.specs.declared.ask.Ask.TheVariants as asks
use Rattle.caf_events.specs.declared.reply.Reply.{Reply}
use Rattle.caf_events.specs.declared.reply.Reply.TheVariants as replies
use Rattle.caf_events.specs.declared.event.Entry.{Entry}
use Rattle.object_rules.specs.BoardRules.{board_ready, board_reply}
use Rattle.inert_steps.specs.Inert.{IsInert}
use Rattle.inert_laws.specs.Silent.{is_silent}
use Rattle.inert_laws.specs.InertSteps.{waits, leaves_open, is_inert_step}
use Rattle.inert_laws.proofs.Quiet.{IsQuiet, inert_by}
use Rattle.inert_laws.proofs.Silence.{silent_quiet}
use Rattle.inert_laws.proofs.Joining.{arrival_quiet, collective_quiet}

no_from : (b : Bool) → not b ≡ true → b ≡ false
no_from true e = absurd (cc)
no_from false e = refl

module _ (n : ℕ) (h : List Entry) (e : Entry) (ready : board_ready n h e.image.0 e.event.ask ≡ true) (due : e.event.reply ≡ board_reply n h e.image.0 e.event.ask) where
  by_ask : (ask : Ask) → e.event.ask ≡ ask → (r : ℕ) → e.event.reply ≡ replies.Round r → waits n (h ++ e ∷ []) e.image.0 r ask ≡ true → IsQuiet n h e
  by_ask (asks.Arrive team arriving) asked r told unclosed = arrival_quiet n h e team arriving r asked told due ready (no_from (board_ready n (h ++ e ∷ []) e.image.0 (asks.Leave team r)) unclosed)
  by_ask (asks.Gather team op root kind values) asked r told unclosed =
      collective_quiet n h e team op root kind values r asked told due ready (no_from (board_ready n (h ++ e ∷ []) e.image.0 (asks.Take team r)) unclosed)
  by_ask ask asked r told unclosed = absurd (cc)

  by_reply : (reply : Reply) → e.event.reply ≡ reply → leaves_open n (h ++ e ∷ []) e.image.0 e.event.ask reply ≡ true → IsQuiet n h e
  by_reply (replies.Round r) told unclosed = by_ask e.event.ask refl r told unclosed
  by_reply reply told unclosed = absurd (cc)

  pub inert_step : is_inert_step n (h ++ e ∷ []) e.image.0 e.event.ask e.event.reply ≡ true → IsInert board_ready n h e
  inert_step is = inert_by n h e (elim (or_cases (is_silent e.event.ask) (leaves_open n (h ++ e ∷ []) e.image.0 e.event.ask e.event.reply) is) [
    | inl silent ↦ silent_quiet n h e silent
    | inr unclosed ↦ by_reply e.event.reply refl unclosed
  ])
