-- Behind whole statements stands no condition of a one-line IF, and no more levels are open there than may be.
use Rattle.std.proofs.Common.{◌≡◌, ℕ, ◌<◌, ◌≤◌, true, false, ◌⊎◌, List, [], ◌∷◌, ◌++◌, length, inl, inr, refl, ap, ◌∙◌, subst, arith, append-nil}
use Rattle.std.proofs.lemmas.Bool.{cases_Bool, true≢false}
use Rattle.reader_theory.specs.Words.{Mark, bare, Shallow}
use Rattle.reader_theory.specs.Texts.{AnyOf}
use Rattle.reader_theory.proofs.Marks.{bare_append, bare_length, shallow_front, shallow_back}
use Rattle.fortran_grammar.specs.Tokens.{Token}
use Rattle.statement_reader.specs.Parts as f
use Rattle.statement_reader.specs.Parts.{Part, is_of}
use Rattle.statement_reader.specs.Laws.{Part_at}
use Rattle.program_reader.specs.Sequence.{State, allowed, forms, next}
use Rattle.program_reader.specs.Unfinished.{Parts_from, behind}
use Rattle.program_reader.proofs.Files.{part_longer}
use Rattle.program_reader.proofs.Steps.{which}
use Rattle.program_reader.proofs.Classes.{finds}
use Rattle.sequence_reader.specs.Answers.{placed, depth}
use Rattle.sequence_reader.specs.Statements.{whole_statements}
use Rattle.sequence_reader.proofs.Closed.{condition_open}
use Rattle.sequence_reader.proofs.Depths.{depth_kept}
use Rattle.sequence_reader.proofs.Late.{whole_rest}

behind_whole : (s : State) (b : Part) → is_of f.condition_form b ≡ false → (next s b).conditions ≡ 0
behind_whole s (f.condition_part x at) e = absurd (true≢false e)
behind_whole s b e = refl

module _ (limit : ℕ) where
  pub some_token : (s : State) (b : Part) (u : List (Mark Token)) → AnyOf (Part_at limit) (forms s) b u → 0 < length u
  some_token s b u h =
      let (i, m, o) = which limit (allowed s) (length s.blocks) s.conditions b u h in
      subst (λ n. 1 ≤ n) (bare_length u) (part_longer limit (placed s i) b u o)

  pub no_conditions : (bs : List Part) (s : State) (w : List (Mark Token)) → Parts_from limit s bs w → whole_statements (bare w) ≡ true → (s.conditions ≡ 0) ⊎ (0 < length w) → (behind s bs).conditions ≡ 0
  no_conditions [] s w h whole (inl z) = z
  no_conditions [] s w h whole (inr l) = absurd (let none : length w ≡ 0 = ap length h in omega arith)
  no_conditions (b ∷ es) s w (u, v, k, o, split) whole c =
      no_conditions es (next s b) v o (whole_rest (bare u) (bare v) (subst (λ z. whole_statements z ≡ true) (ap bare split ∙ bare_append u v) whole)) (by_rest v split)
    where
      by_rest : (v : List (Mark Token)) → w ≡ u ++ v → ((next s b).conditions ≡ 0) ⊎ (0 < length v)
      by_rest (m ∷ v) e = inr (omega arith)
      by_rest [] e = elim (cases_Bool (is_of f.condition_form b)) [
        | inl t ↦ (let (i, m, o) = which limit (allowed s) (length s.blocks) s.conditions b u k in
            absurd (condition_open i s.conditions limit (length s.blocks) b u t o (subst (λ z. whole_statements (bare z) ≡ true) (e ∙ append-nil u) whole) (some_token s b u k)))
        | inr n ↦ inl (behind_whole s b n)
      ]

  pub levels_fit : (bs : List Part) (s : State) (w : List (Mark Token)) → Parts_from limit s bs w → Shallow w → depth s ≤ limit → depth (behind s bs) ≤ limit
  levels_fit [] s w h sh l = l
  levels_fit (b ∷ bs) s w (u, v, k, o, split) sh l =
      let (i, m, word) = which limit (allowed s) (length s.blocks) s.conditions b u k in
      let flat = subst Shallow split sh in
      levels_fit bs (next s b) v o (shallow_back u v flat) (depth_kept limit s i (bare u ++ bare v) b (bare v) l (finds limit (placed s i) b u (bare v) word (shallow_front u v flat)))
