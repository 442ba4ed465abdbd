use Rattle.std.proofs.Common.{◌≡◌, ℕ, true, false, List, ◌++◌, refl, ap, sym, ◌∙◌, true≢false}
use Rattle.std.proofs.lemmas.Result.{IfOk-equal}
use Rattle.caf_events.specs.declared.ask.Ask.{Ask}
use Rattle.caf_events.specs.declared.ask.Ask.TheVariants as asks
use Rattle.trace_text.specs.TraceText.{number_text, names_team, ask_text}
use Rattle.trace_text.proofs.first.push_first_ask.Goals as goal

-- the text of an ask that names no team is the same, however teams are written
same_text : (f g : ℕ → List ℕ) (names : List (List ℕ)) (ask : Ask) → names_team ask ≡ false → ask_text f names ask ≡ ask_text g names ask
same_text f g names (asks.Read owner span) none = refl
same_text f g names (asks.Write owner span vs) none = refl
same_text f g names (asks.Create owner coarray cells) none = refl
same_text f g names (asks.Delete owner coarray) none = refl
same_text f g names (asks.Atomic owner op span x y) none = refl
same_text f g names (asks.Lock owner span) none = refl
same_text f g names (asks.TryLock owner span) none = refl
same_text f g names (asks.Unlock owner span) none = refl
same_text f g names (asks.Post owner span) none = refl
same_text f g names (asks.Wait owner span threshold) none = refl
same_text f g names (asks.Query owner span) none = refl
same_text f g names (asks.Mark owner) none = refl
same_text f g names (asks.Free owner span) none = refl
same_text f g names (asks.Arrive team arriving) none = absurd (true≢false none)
same_text f g names (asks.Leave team round) none = absurd (true≢false none)
same_text f g names (asks.Gather team op root kind vs) none = absurd (true≢false none)
same_text f g names (asks.Take team round) none = absurd (true≢false none)
same_text f g names (asks.Pair images) none = refl
same_text f g names asks.Unpair none = refl
same_text f g names (asks.Enter construct) none = refl
same_text f g names (asks.Exit construct) none = refl
same_text f g names asks.Gone none = refl
same_text f g names (asks.Stop code) none = refl
same_text f g names (asks.Failed team) none = absurd (true≢false none)
same_text f g names (asks.Stopped team) none = absurd (true≢false none)
same_text f g names (asks.Status team index) none = absurd (true≢false none)
same_text f g names (asks.Print text) none = refl
same_text f g names asks.Memory none = refl
same_text f g names asks.Fail none = refl
same_text f g names (asks.ErrorStop code) none = refl
same_text f g names (asks.Fault kind) none = refl
same_text f g names (asks.LimitStatements number) none = refl
same_text f g names (asks.LimitWords number) none = refl
same_text f g names (asks.LimitStamp number) none = refl

pub returns-else-has_team : goal.returns-else-has_team
returns-else-has_team c =
    IfOk-equal c.push_ask.result _ _ _ c.push_ask.ensures (ap (λ t. c.args.out.now.items ++ t) (same_text _ number_text c.args.names.now c.args.ask.now (sym c.has_team.ensures ∙ c.if-has_team.false)))
