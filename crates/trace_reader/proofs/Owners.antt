-- Asks at a memory, by their words.
use Rattle.std.proofs.Common.{◌≡◌, ℕ, true, false, Bool, List, ◌∷◌, ◌++◌, refl, ap, sym, ◌∙◌, subst, true≢false}
use Rattle.std.proofs.Common.{append_assoc}
use Rattle.caf_base.specs.declared.place.ImageNo.{ImageNo}
use Rattle.caf_base.specs.declared.place.Place.{Place}
use Rattle.caf_base.specs.declared.place.Place.TheVariants.{Memory}
use Rattle.caf_base.specs.declared.span.Span.{Span}
use Rattle.caf_base.specs.declared.value.AtomicOp.{AtomicOp}
use Rattle.caf_base.specs.declared.value.Value.{Value}
use Rattle.caf_events.specs.declared.ask.Ask.{Ask}
use Rattle.caf_events.specs.declared.ask.Ask.TheVariants as asks
use Rattle.caf_events.specs.Asks.{place_of}
use Rattle.trace_text.specs.Words.{ask_word}
use Rattle.trace_fields.specs.Words.{memory_by}
use Rattle.trace_reader.specs.Reading.{span_ask}
use Rattle.trace_fields.specs.declared.words.MemoryWord.{MemoryWord}
use Rattle.trace_fields.specs.declared.words.MemoryWord.TheVariants as memory

-- the asks that a word begins
abbrev pub MemoryOf : MemoryWord → ImageNo → Ask → Type 0
MemoryOf memory.Write owner ask = (span : Span) × (vs : List Value) × (ask ≡ asks.Write owner span vs)
MemoryOf memory.Create owner ask = (coarray : ℕ) × (cells : ℕ) × (ask ≡ asks.Create owner coarray cells)
MemoryOf memory.Delete owner ask = (coarray : ℕ) × (ask ≡ asks.Delete owner coarray)
MemoryOf memory.Atomic owner ask = (op : AtomicOp) × (span : Span) × (x : Value) × (y : Value) × (ask
    ≡ asks.Atomic owner op span x y)
MemoryOf memory.Wait owner ask = (span : Span) × (threshold : ℕ) × (ask ≡ asks.Wait owner span threshold)
MemoryOf memory.Mark owner ask = ask ≡ asks.Mark owner
MemoryOf word owner ask = (span : Span) × (ask ≡ span_ask word owner span)

abbrev owner_in : Place → ImageNo → ImageNo
owner_in (Memory owner) other = owner
owner_in place other = other

owner_is : {p o : ImageNo} → Memory p ≡ Memory o → p ≡ o
owner_is {p} {o} e = ap (λ z. owner_in z p) e

abbrev is_memory : Place → Bool
is_memory (Memory owner) = true
is_memory place = false

pub memory_of : (ask : Ask) (o : ImageNo) → place_of ask ≡ Memory o → MemoryOf (memory_by (ask_word ask)) o ask
memory_of (asks.Read owner span) o at = subst (λ w. MemoryOf (memory_by (ask_word (asks.Read owner span))) w
    (asks.Read owner span)) (owner_is at) (span, refl)
memory_of (asks.Write owner span vs) o at = subst (λ w. MemoryOf (memory_by (ask_word
    (asks.Write owner span vs))) w (asks.Write owner span vs)) (owner_is at) (span, vs, refl)
memory_of (asks.Create owner coarray cells) o at = subst (λ w. MemoryOf (memory_by (ask_word
    (asks.Create owner coarray cells))) w (asks.Create owner coarray cells)) (owner_is at) (coarray, cells, refl)
memory_of (asks.Delete owner coarray) o at = subst (λ w. MemoryOf (memory_by (ask_word
    (asks.Delete owner coarray))) w (asks.Delete owner coarray)) (owner_is at) (coarray, refl)
memory_of (asks.Atomic owner op span x y) o at = subst (λ w. MemoryOf (memory_by (ask_word
    (asks.Atomic owner op span x y))) w (asks.Atomic owner op span x y)) (owner_is at) (op, span, x, y, refl)
memory_of (asks.Lock owner span) o at = subst (λ w. MemoryOf (memory_by (ask_word (asks.Lock owner span))) w
    (asks.Lock owner span)) (owner_is at) (span, refl)
memory_of (asks.TryLock owner span) o at = subst (λ w. MemoryOf (memory_by (ask_word (asks.TryLock owner span))) w
    (asks.TryLock owner span)) (owner_is at) (span, refl)
memory_of (asks.Unlock owner span) o at = subst (λ w. MemoryOf (memory_by (ask_word (asks.Unlock owner span))) w
    (asks.Unlock owner span)) (owner_is at) (span, refl)
memory_of (asks.Post owner span) o at = subst (λ w. MemoryOf (memory_by (ask_word (asks.Post owner span))) w
    (asks.Post owner span)) (owner_is at) (span, refl)
memory_of (asks.Wait owner span threshold) o at = subst (λ w. MemoryOf (memory_by (ask_word
    (asks.Wait owner span threshold))) w (asks.Wait owner span threshold)) (owner_is at) (span, threshold, refl)
memory_of (asks.Query owner span) o at = subst (λ w. MemoryOf (memory_by (ask_word (asks.Query owner span))) w
    (asks.Query owner span)) (owner_is at) (span, refl)
memory_of (asks.Mark owner) o at = subst (λ w. MemoryOf (memory_by (ask_word (asks.Mark owner))) w
    (asks.Mark owner)) (owner_is at) refl
memory_of (asks.Free owner span) o at = subst (λ w. MemoryOf (memory_by (ask_word (asks.Free owner span))) w
    (asks.Free owner span)) (owner_is at) (span, refl)
memory_of a o at = absurd (true≢false (sym (ap is_memory at)))

-- ---- what stands behind the word, the first part first
pub two : (a b tail : List ℕ) → ((32 ∷ a) ++ (32 ∷ b)) ++ (32 ∷ tail) ≡ 32 ∷ (a ++ (32 ∷ (b ++ (32 ∷ tail))))
two a b tail = append_assoc (32 ∷ a) (32 ∷ b) (32 ∷ tail)

pub four : (a b c d tail : List ℕ) → ((((32 ∷ a) ++ (32 ∷ b)) ++ (32 ∷ c)) ++ (32 ∷ d)) ++ (32 ∷ tail)
    ≡ 32 ∷ (a ++ (32 ∷ (b ++ (32 ∷ (c ++ (32 ∷ (d ++ (32 ∷ tail))))))))
four a b c d tail =
    append_assoc (((32 ∷ a) ++ (32 ∷ b)) ++ (32 ∷ c)) (32 ∷ d) (32 ∷ tail)
    ∙ append_assoc ((32 ∷ a) ++ (32 ∷ b)) (32 ∷ c) ((32 ∷ d) ++ (32 ∷ tail))
    ∙ append_assoc (32 ∷ a) (32 ∷ b) ((32 ∷ c) ++ ((32 ∷ d) ++ (32 ∷ tail)))

pub five : (a b c d f tail : List ℕ) → (((((32 ∷ a) ++ (32 ∷ b)) ++ (32 ∷ c)) ++ (32 ∷ d)) ++ (32 ∷ f)) ++ (32 ∷ tail)
    ≡ 32 ∷ (a ++ (32 ∷ (b ++ (32 ∷ (c ++ (32 ∷ (d ++ (32 ∷ (f ++ (32 ∷ tail))))))))))
five a b c d f tail =
    append_assoc ((((32 ∷ a) ++ (32 ∷ b)) ++ (32 ∷ c)) ++ (32 ∷ d)) (32 ∷ f) (32 ∷ tail) ∙ four a b c d
    (f ++ (32 ∷ tail))
