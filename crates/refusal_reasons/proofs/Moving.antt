-- The rest of a file under another limit: the same tokens, none of the first ones too deep where the limit is out of
-- their reach.
use Rattle.std.proofs.Common.{◌≡◌, ℕ, zero, suc, ◌+◌, ◌-◌, ◌≤◌, max, List, [], ◌∷◌, ◌++◌, length, inl, inr, refl, subst, arith}
use Rattle.reader_theory.specs.Words.{Mark}
use Rattle.reader_theory.specs.Levels.{Moved}
use Rattle.reader_theory.specs.Readers.{more_of}
use Rattle.reader_theory.specs.Languages.{By}
use Rattle.reader_theory.specs.Texts.{AnyOf}
use Rattle.reader_theory.proofs.Marks.{bare_length}
use Rattle.reader_theory.proofs.Moved.{moved_none, moved_parts}
use Rattle.fortran_grammar.specs.Tokens.{Token}
use Rattle.fortran_grammar.specs.Phrases.{Words}
use Rattle.expr_reader.proofs.Moving.{elsewhere, moved_phrase}
use Rattle.statement_reader.specs.Parts as f
use Rattle.statement_reader.specs.Parts.{Part, Form, formed}
use Rattle.statement_reader.specs.Forms.{Place}
use Rattle.statement_reader.specs.Laws.{Part_at}
use Rattle.program_reader.specs.Sequence as q
use Rattle.program_reader.specs.Sequence.{Open, State, placed_at, forms, next, without_first, first_changed, Rest_of_file}
use Rattle.program_reader.proofs.Files.{part_longer}
use Rattle.refusal_reasons.specs.Reasons.{levels_at, levels_before}
use Rattle.refusal_reasons.proofs.Flat.{flat_form}

-- a part opens one level at most
fewer : (os : List Open) → length (without_first os) ≤ length os
fewer [] = omega arith
fewer (o ∷ os) = omega arith

as_many : (g : Open → Open) (os : List Open) → length (first_changed g os) ≡ length os
as_many g [] = refl
as_many g (o ∷ os) = refl

pub opens_one : (s : State) (b : Part) → levels_at (next s b) ≤ suc (levels_at s)
opens_one s (f.else_if_part e at) = let k = as_many (λ o. o) s.blocks in omega arith
opens_one s (f.else_part at) = let k = as_many q.to_else s.blocks in omega arith
opens_one s (f.case_part x at) = let k = as_many q.to_case s.blocks in omega arith
opens_one s (f.end_if_part at) = let k = fewer s.blocks in omega arith
opens_one s (f.end_do_part n at) = let k = fewer s.blocks in omega arith
opens_one s (f.end_select_part at) = let k = fewer s.blocks in omega arith
opens_one s (f.end_critical_part at) = let k = fewer s.blocks in omega arith
opens_one s (f.end_team_part x at) = let k = fewer s.blocks in omega arith
opens_one s b = omega arith

pub any_longer : (limit : ℕ) (is : List Place) (b : Part) (u : List (Mark Token)) → AnyOf (Part_at limit) is b u → 1 ≤ length u
any_longer limit [] b u h = absurd h
any_longer limit (i ∷ is) b u (inl h) = subst (λ n. 1 ≤ n) (bare_length u) (part_longer limit i b u h)
any_longer limit (i ∷ is) b u (inr h) = any_longer limit is b u h

module _ (limit also : ℕ) where
  pub part_moved : (i : Form) (c d n : ℕ) (b : Part) (w : List (Mark Token)) → Words (formed i c b) limit d w → (1 ≤ n → (c + d) + n ≤ also) → Moved (Words (formed i c b) also d) n w
  part_moved i c d zero b w h far = let x = elsewhere (formed i c b) limit d also d w h in record { moved = x.moved; is_word = x.is_word; same = x.same; shallow = tt }
  part_moved i c d (suc n) b w h far = moved_phrase (formed i c b) limit d also d (suc n) w h (let k = flat_form i c b in let l = far (omega arith) in omega arith)

  pub any_moved : (is : List Form) (d c n : ℕ) (b : Part) (u : List (Mark Token)) → AnyOf (Part_at limit) (placed_at d c is) b u → (1 ≤ n → (c + d) + n ≤ also) → Moved (AnyOf (Part_at also) (placed_at d c is) b) n u
  any_moved [] d c n b u h far = absurd h
  any_moved (i ∷ is) d c n b u (inl h) far = let x = part_moved i c d n b u h far in record { moved = x.moved; is_word = inl x.is_word; same = x.same; shallow = x.shallow }
  any_moved (i ∷ is) d c n b u (inr h) far = let x = any_moved is d c n b u h far in record { moved = x.moved; is_word = inr x.is_word; same = x.same; shallow = x.shallow }

  pub rest_moved : (es : List Part) (s : State) (n : ℕ) (w : List (Mark Token)) → Rest_of_file limit s es w → (1 ≤ n → levels_at s + n ≤ also) → Moved (Rest_of_file also s es) n w
  rest_moved [] s n w h far = let x = moved_none n w h.1 in record { moved = x.moved; is_word = (h.0, x.is_word); same = x.same; shallow = x.shallow }
  rest_moved (b ∷ es) s n w (u, v, h, r, split) far =
      moved_parts (AnyOf (Part_at also) (forms s) b) (Rest_of_file also (next s b) es) n (n - length u) w u v split (any_moved (q.allowed s) (length s.blocks) s.conditions n b u h far)
      (rest_moved es (next s b) (n - length u) v r (λ k. let i = any_longer limit (forms s) b u h in let j = opens_one s b in let l = far (omega arith) in omega arith)) (omega arith)

  -- a part of a form, and what may stand behind it
  pub way_moved : (s : State) (i : Place) (n : ℕ) (es : List Part) (w : List (Mark Token)) → By more_of (Part_at limit i) (λ b. λ fs v. Rest_of_file limit (next s b) fs v) es w → (1 ≤ n → max (levels_before i) (levels_at s) + n ≤ also)
      → Moved (By more_of (Part_at also i) (λ b. λ fs v. Rest_of_file also (next s b) fs v) es) n w
  way_moved s i n es w (b, fs, e, (u, v, h, r, split)) far = wrap
      (moved_parts (Part_at also i b) (Rest_of_file also (next s b) fs) n (n - length u) w u v split (part_moved i.form i.conditions i.level n b u h (λ k. let l = far k in omega arith))
      (rest_moved fs (next s b) (n - length u) v r (λ k. let m = any_longer limit (i ∷ []) b u (inl h) in let j = opens_one s b in let l = far (omega arith) in omega arith)) (omega arith))
    where
      wrap : Moved (λ v. (u w : List (Mark Token)) × Part_at also i b u × Rest_of_file also (next s b) fs w × (v ≡ u ++ w)) n w → Moved (By more_of (Part_at also i) (λ b. λ fs v. Rest_of_file also (next s b) fs v) es) n w
      wrap x = record { moved = x.moved; is_word = (b, fs, e, x.is_word); same = x.same; shallow = x.shallow }
