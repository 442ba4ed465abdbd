-- What holds of a refusal's cause.
use Rattle.caf_base.specs.declared.refusal.Refusal.{Refusal}
use Rattle.caf_base.specs.declared.refusal.Refusal.TheVariants as refusals

-- A fact of the cause; nothing is said of want of memory.
abbrev pub IfCause : {E : Type 0} → Refusal E → (E → Type 0) → Type 0
IfCause refusals.NoMemory P = Unit {0}
IfCause (refusals.Cause e) P = P e
