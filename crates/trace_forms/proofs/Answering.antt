-- A reply that answers an ask, after what its image said and heard, has one of the forms that a line can show.
use Rattle.std.proofs.Common.{◌≡◌, ℕ, zero, suc, ℤ, pos, negsuc, Bool, true, false, cond, nat_eq, IsTrue, List, []}
use Rattle.std.proofs.Common.{◌∷◌, length, refl, sym, true≢false, eqb-true, arith}
use Rattle.std.specs.Cmp.{signed_Decides}
use Rattle.std.specs.Ordering.{int_eq}
use Rattle.caf_base.specs.declared.value.Value.{Value}
use Rattle.caf_events.specs.declared.ask.Ask.{Ask}
use Rattle.caf_events.specs.declared.ask.Ask.TheVariants as asks
use Rattle.caf_events.specs.declared.reply.Reply.{Reply}
use Rattle.caf_events.specs.declared.reply.Reply.TheVariants as replies
use Rattle.caf_events.specs.Answers.{Answers}
use Rattle.trace_theory.specs.Machines.{Said}
use Rattle.object_rules.specs.Answering.{answers}
use Rattle.object_rules.specs.Cells.{Declared}
use Rattle.trace_forms.specs.Replies.{ComeWith, HasStatusOf, HasForm}
use Rattle.trace_forms.proofs.Cuts.{and_first, and_second}

never : false ≡ true → ⊥
never h = true≢false (sym h)

empty : (vs : List Value) → nat_eq (length vs) 0 ≡ true → vs ≡ []
empty [] h = refl
empty (v ∷ vs) h = absurd (let e : suc (length vs) ≡ 0 = eqb-true (suc (length vs)) 0 h in omega arith)

empty_else : (t b : Bool) (vs : List Value) → (t ≡ true → ⊥) → cond t b (nat_eq (length vs) 0) ≡ true → vs ≡ []
empty_else true b vs f h = absurd (f refl)
empty_else false b vs f h = empty vs h

-- with another status than 0 a departure from a collective brings no value
come_with : (z : ℤ) (b : Bool) (vs : List Value) → cond (int_eq z (pos 0)) b (nat_eq (length vs) 0) ≡ true
    → ComeWith z vs
come_with (pos zero) b vs h = tt
come_with (pos (suc k)) b vs h =
    empty_else (int_eq (pos (suc k)) (pos 0)) b vs
    (λ t. (let e = (signed_Decides (pos (suc k)) (pos 0)).0 t in absurd (cc))) h
come_with (negsuc k) b vs h =
    empty_else (int_eq (negsuc k) (pos 0)) b vs
    (λ t. (let e = (signed_Decides (negsuc k) (pos 0)).0 t in absurd (cc))) h

module _ (s : List Declared) (n : ℕ) (es : List (Said Ask Reply)) where
  form_of_answer : (a : Ask) (r : Reply) → IsTrue (answers s n es a r) → Answers a r
  form_of_answer (asks.Read owner span) (replies.Values vs) h = tt
  form_of_answer (asks.Read owner span) replies.Dead h = tt
  form_of_answer (asks.Read owner span) replies.Absent h = tt
  form_of_answer (asks.Read owner span) r h = absurd (never h)
  form_of_answer (asks.Write owner span values) replies.Done h = tt
  form_of_answer (asks.Write owner span values) replies.Dead h = tt
  form_of_answer (asks.Write owner span values) replies.Absent h = tt
  form_of_answer (asks.Write owner span values) r h = absurd (never h)
  form_of_answer (asks.Create owner coarray cells) replies.Done h = tt
  form_of_answer (asks.Create owner coarray cells) r h = absurd (never h)
  form_of_answer (asks.Delete owner coarray) replies.Done h = tt
  form_of_answer (asks.Delete owner coarray) r h = absurd (never h)
  form_of_answer (asks.Atomic owner op span x y) (replies.Old v) h = tt
  form_of_answer (asks.Atomic owner op span x y) replies.Dead h = tt
  form_of_answer (asks.Atomic owner op span x y) replies.Absent h = tt
  form_of_answer (asks.Atomic owner op span x y) replies.Overflow h = tt
  form_of_answer (asks.Atomic owner op span x y) r h = absurd (never h)
  form_of_answer (asks.Lock owner span) (replies.Number status) h = tt
  form_of_answer (asks.Lock owner span) replies.Absent h = tt
  form_of_answer (asks.Lock owner span) r h = absurd (never h)
  form_of_answer (asks.TryLock owner span) (replies.Number status) h = tt
  form_of_answer (asks.TryLock owner span) replies.Absent h = tt
  form_of_answer (asks.TryLock owner span) replies.Busy h = tt
  form_of_answer (asks.TryLock owner span) r h = absurd (never h)
  form_of_answer (asks.Unlock owner span) (replies.Number status) h = tt
  form_of_answer (asks.Unlock owner span) replies.Absent h = tt
  form_of_answer (asks.Unlock owner span) r h = absurd (never h)
  form_of_answer (asks.Post owner span) (replies.Number status) h = tt
  form_of_answer (asks.Post owner span) replies.Absent h = tt
  form_of_answer (asks.Post owner span) r h = absurd (never h)
  form_of_answer (asks.Wait owner span threshold) (replies.Number status) h = tt
  form_of_answer (asks.Wait owner span threshold) r h = absurd (never h)
  form_of_answer (asks.Query owner span) (replies.Count count) h = tt
  form_of_answer (asks.Query owner span) r h = absurd (never h)
  form_of_answer (asks.Mark owner) replies.Done h = tt
  form_of_answer (asks.Mark owner) r h = absurd (never h)
  form_of_answer (asks.Free owner span) replies.Done h = tt
  form_of_answer (asks.Free owner span) replies.Dead h = tt
  form_of_answer (asks.Free owner span) replies.Absent h = tt
  form_of_answer (asks.Free owner span) r h = absurd (never h)
  form_of_answer (asks.Arrive team arriving) (replies.Round round) h = tt
  form_of_answer (asks.Arrive team arriving) (replies.Clash image line) h = tt
  form_of_answer (asks.Arrive team arriving) r h = absurd (never h)
  form_of_answer (asks.Leave team round) (replies.Left status teams) h = tt
  form_of_answer (asks.Leave team round) r h = absurd (never h)
  form_of_answer (asks.Gather team op root kind values) (replies.Round round) h = tt
  form_of_answer (asks.Gather team op root kind values) (replies.Clash image line) h = tt
  form_of_answer (asks.Gather team op root kind values) r h = absurd (never h)
  form_of_answer (asks.Take team round) (replies.Taken status vs) h = tt
  form_of_answer (asks.Take team round) r h = absurd (never h)
  form_of_answer (asks.Pair images) replies.Done h = tt
  form_of_answer (asks.Pair images) r h = absurd (never h)
  form_of_answer asks.Unpair (replies.Number status) h = tt
  form_of_answer asks.Unpair r h = absurd (never h)
  form_of_answer (asks.Enter construct) (replies.Number status) h = tt
  form_of_answer (asks.Enter construct) r h = absurd (never h)
  form_of_answer (asks.Exit construct) replies.Done h = tt
  form_of_answer (asks.Exit construct) r h = absurd (never h)
  form_of_answer asks.Gone replies.Done h = tt
  form_of_answer asks.Gone r h = absurd (never h)
  form_of_answer (asks.Stop code) replies.Done h = tt
  form_of_answer (asks.Stop code) r h = absurd (never h)
  form_of_answer (asks.Failed team) (replies.Indices ks) h = tt
  form_of_answer (asks.Failed team) r h = absurd (never h)
  form_of_answer (asks.Stopped team) (replies.Indices ks) h = tt
  form_of_answer (asks.Stopped team) r h = absurd (never h)
  form_of_answer (asks.Status team index) (replies.Number status) h = tt
  form_of_answer (asks.Status team index) r h = absurd (never h)
  form_of_answer (asks.Print text) replies.Done h = tt
  form_of_answer (asks.Print text) r h = absurd (never h)
  form_of_answer asks.Memory replies.Done h = tt
  form_of_answer asks.Memory r h = absurd (never h)
  form_of_answer asks.Fail replies.Done h = tt
  form_of_answer asks.Fail r h = absurd (never h)
  form_of_answer (asks.ErrorStop code) replies.Done h = tt
  form_of_answer (asks.ErrorStop code) r h = absurd (never h)
  form_of_answer (asks.Fault kind) replies.Done h = tt
  form_of_answer (asks.Fault kind) r h = absurd (never h)
  form_of_answer (asks.LimitStatements number) replies.Done h = tt
  form_of_answer (asks.LimitStatements number) r h = absurd (never h)
  form_of_answer (asks.LimitWords number) replies.Done h = tt
  form_of_answer (asks.LimitWords number) r h = absurd (never h)
  form_of_answer (asks.LimitStamp number) replies.Done h = tt
  form_of_answer (asks.LimitStamp number) r h = absurd (never h)

  number_of_answer : (a : Ask) (z : ℤ) → IsTrue (answers s n es a (replies.Number z))
      → HasStatusOf a (replies.Number z)
  number_of_answer (asks.Lock owner span) z h = h
  number_of_answer (asks.TryLock owner span) z h = h
  number_of_answer (asks.Unlock owner span) z h = h
  number_of_answer (asks.Post owner span) z h = h
  number_of_answer (asks.Wait owner span threshold) z h = h
  number_of_answer asks.Unpair z h = h
  number_of_answer (asks.Enter construct) z h = h
  number_of_answer (asks.Status team index) z h = h
  number_of_answer a z h = absurd (never h)

  status_of_answer : (a : Ask) (r : Reply) → IsTrue (answers s n es a r) → HasStatusOf a r
  status_of_answer a (replies.Number z) h = number_of_answer a z h
  status_of_answer (asks.Leave team round) (replies.Left z teams) h = and_first _ _ h
  status_of_answer a (replies.Left z teams) h = absurd (never h)
  status_of_answer (asks.Take team round) (replies.Taken z vs) h =
      (and_first _ _ h, come_with z _ vs (and_second _ _ h))
  status_of_answer a (replies.Taken z vs) h = absurd (never h)
  status_of_answer a r h = tt

  pub has_form : (a : Ask) (r : Reply) → IsTrue (answers s n es a r) → HasForm a r
  has_form a r h = record { answers = form_of_answer a r h; status = status_of_answer a r h }
