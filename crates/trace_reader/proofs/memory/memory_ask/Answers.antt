use Rattle.std.proofs.Common.{◌≡◌, ℕ, List, ◌∷◌, ◌++◌, drop, ap, sym, ◌∙◌, subst}
use Rattle.std.proofs.lemmas.Result.{IfOk-weaker}
use Rattle.caf_base.specs.declared.place.ImageNo.{ImageNo}
use Rattle.caf_base.specs.declared.place.Place.TheVariants.{Memory}
use Rattle.caf_events.specs.declared.ask.Ask.{Ask}
use Rattle.caf_events.specs.declared.ask.Ask.TheVariants as asks
use Rattle.caf_events.specs.Asks.{place_of}
use Rattle.trace_text.specs.Words.{ask_word}
use Rattle.trace_text.specs.TraceText.{name_text, number_text, span_text, value_text, values_text, atomic_word}
use Rattle.trace_text.specs.TraceText.{operands_text}
use Rattle.trace_forms.specs.Ranges.{AskHasText}
use Rattle.trace_fields.specs.Words.{memory_by}
use Rattle.trace_fields.specs.declared.words.MemoryWord.{MemoryWord}
use Rattle.trace_fields.specs.declared.words.MemoryWord.TheVariants as memory
use Rattle.trace_reader.proofs.Owners.{MemoryOf, memory_of, two, four}
use Rattle.trace_reader.proofs.memory.memory_ask.Goals as goal

-- the ask by its word
named : (which : MemoryWord) (word : List ℕ) (owner : ImageNo) (ask : Ask) (told : MemoryWord) → told
    ≡ memory_by word → told ≡ which → word ≡ ask_word ask → place_of ask ≡ Memory owner → MemoryOf which owner ask
named which word owner ask told by is at place = subst (λ w. MemoryOf w owner ask) (sym (ap memory_by at)
    ∙ sym by ∙ is) (memory_of ask owner place)

pub returns-in-Mark : goal.returns-in-Mark
returns-in-Mark c of_team ask behind place has at e =
    let m = named memory.Mark _ c.args.owner ask _ c.memory_word.ensures c.in-Mark.is at place in
    (sym m, ap (drop 1) (e ∙ ap (λ a. operands_text of_team c.args.names.now a ++ (32 ∷ behind)) m))

pub returns-in-Create : goal.returns-in-Create
returns-in-Create c of_team ask behind place has at e =
    let m = named memory.Create _ c.args.owner ask _ c.memory_word.ensures c.in-Create.is at place in
    let h = subst (AskHasText c.args.names.now) m.2 has in
    let rest = ap (drop 1) (e ∙ ap (λ a. operands_text of_team c.args.names.now a ++ (32 ∷ behind)) m.2 ∙ two
    (name_text c.args.names.now m.0) (number_text m.1) behind) in
    let r = c.create_ask.ensures m.0 m.1 behind h.1 h.2 rest in
    (r.0 ∙ sym m.2, r.1)

pub returns-in-Delete : goal.returns-in-Delete
returns-in-Delete c of_team ask behind place has at e =
    let m = named memory.Delete _ c.args.owner ask _ c.memory_word.ensures c.in-Delete.is at place in
    let h = subst (AskHasText c.args.names.now) m.1 has in
    let rest = ap (drop 1) (e ∙ ap (λ a. operands_text of_team c.args.names.now a ++ (32 ∷ behind)) m.1) in
    let r = c.next_coarray.ensures m.0 behind h.1 rest in
    (ap (asks.Delete c.args.owner) r.0 ∙ sym m.1, r.1)

pub returns-in-Write : goal.returns-in-Write
returns-in-Write c = IfOk-weaker c.write_ask.result _ _ (λ r is of_team ask behind place has at e.
    let m = named memory.Write _ c.args.owner ask _ c.memory_word.ensures c.in-Write.is at place in
    let h = subst (AskHasText c.args.names.now) m.2 has in
    let rest = ap (drop 1) (e ∙ ap (λ a. operands_text of_team c.args.names.now a ++ (32 ∷ behind)) m.2 ∙ two
    (span_text c.args.names.now m.0) (values_text m.1) behind) in
    let t = is m.0 m.1 behind h.1 h.2 rest in
    (t.0 ∙ sym m.2, t.1)) c.write_ask.ensures

pub returns-in-Wait : goal.returns-in-Wait
returns-in-Wait c = IfOk-weaker c.wait_ask.result _ _ (λ r is of_team ask behind place has at e.
    let m = named memory.Wait _ c.args.owner ask _ c.memory_word.ensures c.in-Wait.is at place in
    let h = subst (AskHasText c.args.names.now) m.2 has in
    let rest = ap (drop 1) (e ∙ ap (λ a. operands_text of_team c.args.names.now a ++ (32 ∷ behind)) m.2 ∙ two
    (span_text c.args.names.now m.0) (number_text m.1) behind) in
    let t = is m.0 m.1 behind h.1 h.2 rest in
    (t.0 ∙ sym m.2, t.1)) c.wait_ask.ensures

pub returns-in-Atomic : goal.returns-in-Atomic
returns-in-Atomic c = IfOk-weaker c.atomic_ask.result _ _ (λ r is of_team ask behind place has at e.
    let m = named memory.Atomic _ c.args.owner ask _ c.memory_word.ensures c.in-Atomic.is at place in
    let h = subst (AskHasText c.args.names.now) m.4 has in
    let rest = ap (drop 1) (e ∙ ap (λ a. operands_text of_team c.args.names.now a ++ (32 ∷ behind)) m.4 ∙ four
    (atomic_word m.0) (span_text c.args.names.now m.1) (value_text m.2) (value_text m.3) behind) in
    let t = is m.0 m.1 m.2 m.3 behind h.1 h.2 h.3 rest in
    (t.0 ∙ sym m.4, t.1)) c.atomic_ask.ensures

pub returns-in-Read : goal.returns-in-Read
returns-in-Read c = IfOk-weaker c.cells_ask.result _ _ (λ r is of_team ask behind place has at e.
    let m = named memory.Read _ c.args.owner ask _ c.memory_word.ensures c.in-Read.is at place in
    let h = subst (AskHasText c.args.names.now) m.1 has in
    let rest = ap (drop 1) (e ∙ ap (λ a. operands_text of_team c.args.names.now a ++ (32 ∷ behind)) m.1) in
    let t = is m.0 behind h.1 rest in
    (t.0 ∙ sym m.1, t.1)) c.cells_ask.ensures

pub returns-in-Lock : goal.returns-in-Lock
returns-in-Lock c = IfOk-weaker c.cells_ask-in-Lock.result _ _ (λ r is of_team ask behind place has at e.
    let m = named memory.Lock _ c.args.owner ask _ c.memory_word.ensures c.in-Lock.is at place in
    let h = subst (AskHasText c.args.names.now) m.1 has in
    let rest = ap (drop 1) (e ∙ ap (λ a. operands_text of_team c.args.names.now a ++ (32 ∷ behind)) m.1) in
    let t = is m.0 behind h.1 rest in
    (t.0 ∙ sym m.1, t.1)) c.cells_ask-in-Lock.ensures

pub returns-in-TryLock : goal.returns-in-TryLock
returns-in-TryLock c = IfOk-weaker c.cells_ask-in-TryLock.result _ _ (λ r is of_team ask behind place has at e.
    let m = named memory.TryLock _ c.args.owner ask _ c.memory_word.ensures c.in-TryLock.is at place in
    let h = subst (AskHasText c.args.names.now) m.1 has in
    let rest = ap (drop 1) (e ∙ ap (λ a. operands_text of_team c.args.names.now a ++ (32 ∷ behind)) m.1) in
    let t = is m.0 behind h.1 rest in
    (t.0 ∙ sym m.1, t.1)) c.cells_ask-in-TryLock.ensures

pub returns-in-Unlock : goal.returns-in-Unlock
returns-in-Unlock c = IfOk-weaker c.cells_ask-in-Unlock.result _ _ (λ r is of_team ask behind place has at e.
    let m = named memory.Unlock _ c.args.owner ask _ c.memory_word.ensures c.in-Unlock.is at place in
    let h = subst (AskHasText c.args.names.now) m.1 has in
    let rest = ap (drop 1) (e ∙ ap (λ a. operands_text of_team c.args.names.now a ++ (32 ∷ behind)) m.1) in
    let t = is m.0 behind h.1 rest in
    (t.0 ∙ sym m.1, t.1)) c.cells_ask-in-Unlock.ensures

pub returns-in-Post : goal.returns-in-Post
returns-in-Post c = IfOk-weaker c.cells_ask-in-Post.result _ _ (λ r is of_team ask behind place has at e.
    let m = named memory.Post _ c.args.owner ask _ c.memory_word.ensures c.in-Post.is at place in
    let h = subst (AskHasText c.args.names.now) m.1 has in
    let rest = ap (drop 1) (e ∙ ap (λ a. operands_text of_team c.args.names.now a ++ (32 ∷ behind)) m.1) in
    let t = is m.0 behind h.1 rest in
    (t.0 ∙ sym m.1, t.1)) c.cells_ask-in-Post.ensures

pub returns-in-Query : goal.returns-in-Query
returns-in-Query c = IfOk-weaker c.cells_ask-in-Query.result _ _ (λ r is of_team ask behind place has at e.
    let m = named memory.Query _ c.args.owner ask _ c.memory_word.ensures c.in-Query.is at place in
    let h = subst (AskHasText c.args.names.now) m.1 has in
    let rest = ap (drop 1) (e ∙ ap (λ a. operands_text of_team c.args.names.now a ++ (32 ∷ behind)) m.1) in
    let t = is m.0 behind h.1 rest in
    (t.0 ∙ sym m.1, t.1)) c.cells_ask-in-Query.ensures

pub returns-in-Free : goal.returns-in-Free
returns-in-Free c = IfOk-weaker c.cells_ask-in-Free.result _ _ (λ r is of_team ask behind place has at e.
    let m = named memory.Free _ c.args.owner ask _ c.memory_word.ensures c.in-Free.is at place in
    let h = subst (AskHasText c.args.names.now) m.1 has in
    let rest = ap (drop 1) (e ∙ ap (λ a. operands_text of_team c.args.names.now a ++ (32 ∷ behind)) m.1) in
    let t = is m.0 behind h.1 rest in
    (t.0 ∙ sym m.1, t.1)) c.cells_ask-in-Free.ensures
