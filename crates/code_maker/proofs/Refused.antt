-- The code of a program is refused only where the program's ranks aren't right.
use Rattle.std.proofs.Common.{◌≡◌}
use Rattle.std.proofs.lemmas.Result.{IfErr-weaker}
use Rattle.std.specs.Prelude.{Result, IfErr}
use Rattle.caf_base.specs.declared.refusal.Refusal.{Refusal}
use Rattle.caf_base.specs.declared.refusal.Refusal.TheVariants as refusals
use Rattle.walk_theory.specs.Made.{program_code}
use Rattle.checked_tree.specs.Statements as s
use Rattle.image_acts.specs.Acts.{ask, end_program}
use Rattle.image_code.specs.Code.{Program, Whole, IsRefused, IfCause, code_of}
use Rattle.image_code.specs.declared.code.BadCode.{BadCode}
use Rattle.tree_meaning.specs.Forms.{bodies}
use Rattle.made_code.specs.Ranks.{IsRankedProgram}
use Rattle.made_code.proofs.Made.{never_refused}

cause_weaker : {X : Type 0} (r : Refusal X) (P Q : X → Type 0) → ((x : X) → P x → Q x) → IfCause r P → IfCause r Q
cause_weaker refusals.NoMemory P Q f h = tt
cause_weaker (refusals.Cause x) P Q f h = f x h

pub only_unranked : {T : Type 0} (r : Result T (Refusal BadCode)) (made : Program) (p : s.Program) → code_of made ≡ program_code (ask end_program) p.end_line (bodies p)
    → IfErr r (λ x. IfCause x (λ b. IsRefused made.steps b.at)) → IfErr r (λ x. IfCause x (λ b. IsRankedProgram p → ⊥))
only_unranked r made p e h =
    IfErr-weaker r (λ x. IfCause x (λ b. IsRefused made.steps b.at)) (λ x. IfCause x (λ b. IsRankedProgram p → ⊥))
    (λ x k. cause_weaker x (λ b. IsRefused made.steps b.at) (λ b. IsRankedProgram p → ⊥) (λ b g ranked. never_refused p made ranked e b.at g) k) h
