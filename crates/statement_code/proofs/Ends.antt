-- The end of a statement.
use Rattle.std.proofs.Common.{◌≡◌, ℕ, ap, ◌∙◌}
use Rattle.std.specs.Prelude.{Bool}
use Rattle.walk_theory.specs.Syntax.{Parts}
use Rattle.image_acts.specs.Acts.{Act}
use Rattle.tree_meaning.specs.Sequences.{released}
use Rattle.expr_code.specs.Drafts.{Drafted, written, looked, ended}
use Rattle.expr_code.proofs.Lines.{released_written}

-- what was written since the draft was looked at, and its end, are a released statement
pub released_by : (l : ℕ) (p : Parts Act) (d c e f : Drafted) (b : Bool) → b ≡ d.took → c ≡ looked d → e ≡ written l p c → f ≡ ended l b e → f ≡ written l (released p) d
released_by l p d c e f b took first inside last =
    last ∙ ap (λ x. ended l x e) took ∙ ap (λ x. ended l d.took x) (inside ∙ ap (λ x. written l p x) first) ∙ released_written l p d
