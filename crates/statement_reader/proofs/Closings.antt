-- The END statements of procedures and of the program are read exactly.
use Rattle.std.proofs.Common.{◌≡◌, ℕ, false, codes, List, [], ◌∷◌, ◌++◌, Option, Some, None, inl, inr, refl, ap, sym, ◌∙◌, subst, append_assoc, append-nil, bytes_eq}
use Rattle.reader_theory.specs.Words.{Mark, bare}
use Rattle.reader_theory.specs.Readers.{mapped, optional, behind}
use Rattle.reader_theory.specs.Exactness.{Stops, never}
use Rattle.reader_theory.specs.Languages.{Or}
use Rattle.reader_theory.proofs.Single.{relabel}
use Rattle.reader_theory.proofs.Choice.{exact_pick}
use Rattle.fortran_tree.specs.declared.name.Name.{Name}
use Rattle.fortran_grammar.specs.Tokens.{Token}
use Rattle.fortran_grammar.specs.Phrases as p
use Rattle.fortran_grammar.specs.Phrases.{Phrase, Words, ◌▸◌, ◌∪◌}
use Rattle.fortran_grammar.specs.ProgramGrammar as h
use Rattle.expr_reader.specs.Tests.{is_key, is_word}
use Rattle.statement_reader.specs.Actions.{maybe_name}
use Rattle.statement_reader.specs.Heads.{an_end, with}
use Rattle.statement_reader.specs.Lines.{name_if_any, end_with}
use Rattle.expr_reader.proofs.Phrases.{Of, key_itself}
use Rattle.statement_reader.proofs.Families.{Everywhere, Made, each_behind_key, each_maybe, each_made, key_heads}
use Rattle.statement_reader.proofs.Actions.{each_maybe_name}
use Rattle.statement_reader.proofs.Declarations.{not_key}
use Rattle.statement_reader.proofs.Heads.{each_ended}

module _ (k : List ℕ) (longer : bytes_eq (codes "end" ++ k) (codes "end") ≡ false) where
  abbrev one_word : Option Name → Phrase
  one_word n = p.key (codes "end" ++ k) ▸ p.optional p.name n

  abbrev behind_end : Option Name → Phrase
  behind_end n = p.key k ▸ p.optional p.name n

  abbrev two_words : Option (Option Name) → Phrase
  two_words o = p.key (codes "end") ▸ p.optional behind_end o

  abbrev Parted : ℕ → ℕ → Option Name → List (Mark Token) → Type 0
  Parted = Made name_if_any two_words

  no_key : (rest : List Token) → Stops is_word rest → Stops (is_key k) rest
  no_key [] st = tt
  no_key (y ∷ rest) st = not_key k y st

  each_one_word : Everywhere (Of one_word) is_word (λ left. behind (is_key (codes "end" ++ k)) (maybe_name left))
  each_one_word = each_behind_key (p.optional p.name) is_word maybe_name each_maybe_name (codes "end" ++ k)

  each_parted : Everywhere Parted is_word (λ left. mapped name_if_any (behind (is_key (codes "end")) (optional (is_key k) (behind (is_key k) (maybe_name left)))))
  each_parted = each_made name_if_any two_words is_word (λ left. behind (is_key (codes "end")) (optional (is_key k) (behind (is_key k) (maybe_name left))))
      (each_behind_key (p.optional behind_end) is_word (λ left. optional (is_key k) (behind (is_key k) (maybe_name left)))
      (each_maybe behind_end is_word (λ left. behind (is_key k) (maybe_name left)) (each_behind_key (p.optional p.name) is_word maybe_name each_maybe_name k) (is_key k) is_word
      (λ l d n w o. key_heads k (p.optional p.name n) l d w (is_key k) (λ at. key_itself k) o) (λ rest st. st) no_key) (codes "end"))

  module _ (l d : ℕ) where
    into : (n : Option Name) (w : List (Mark Token)) → Or (Of one_word l d) (Parted l d) n w → Words (h.end_of_procedure k n) l d w
    into None w (inl (u, v, e, o, split)) = inl (inr (subst (λ z. Words (p.key (codes "end" ++ k)) l d z) (sym (split ∙ (ap (λ z. u ++ z) o ∙ append-nil u))) e))
    into (Some n) w (inl (u, v, e, o, split)) = (u, v, inr e, o, split)
    into n w (inr (None, is, (u, v, e, o, split))) = subst (λ z. Words (h.end_of_procedure k z) l d w) (sym is) (inr (subst (λ z. Words (p.key (codes "end")) l d z) (sym (split ∙ (ap (λ z. u ++ z) o ∙ append-nil u))) e))
    into n w (inr (Some None, is, (u, v, e, (i, j, q, o, split2), split))) = subst (λ z. Words (h.end_of_procedure k z) l d w) (sym is) (inl (inl (u, v, e, subst (λ z. Words (p.key k) l d z) (sym (split2 ∙ (ap (λ z. i ++ z) o ∙ append-nil i))) q, split)))
    into n w (inr (Some (Some m), is, (u, v, e, (i, j, q, o, split2), split))) = subst (λ z. Words (h.end_of_procedure k z) l d w) (sym is) (u ++ i, j, inl (u, i, e, q, refl), o, split ∙ (ap (λ z. u ++ z) split2 ∙ sym (append_assoc u i j)))

    from : (n : Option Name) (w : List (Mark Token)) → Words (h.end_of_procedure k n) l d w → Or (Of one_word l d) (Parted l d) n w
    from None w (inl (inl (u, v, e, q, split))) = inr (Some None, refl, (u, v, e, (v, [], q, refl, sym (append-nil v)), split))
    from None w (inl (inr e)) = inl (w, [], e, refl, sym (append-nil w))
    from None w (inr e) = inr (None, refl, (w, [], e, refl, sym (append-nil w)))
    from (Some n) w (u, v, inl (i, j, e, q, split2), o, split) = inr (Some (Some n), refl, (i, j ++ v, e, (j, v, q, o, refl), split ∙ (ap (λ z. z ++ v) split2 ∙ append_assoc i j v)))
    from (Some n) w (u, v, inr e, o, split) = inl (u, v, e, o, split)

  pub each_end_with : Everywhere (Of (h.end_of_procedure k)) is_word (end_with k)
  each_end_with limit left level o = relabel (Or (Of one_word limit level) (Parted limit level)) (Of (h.end_of_procedure k) limit level) (end_with k left) is_word is_word
      (exact_pick (is_key (codes "end" ++ k)) (Of one_word limit level) (Parted limit level) (behind (is_key (codes "end" ++ k)) (maybe_name left)) (mapped name_if_any (behind (is_key (codes "end")) (optional (is_key k) (behind (is_key k) (maybe_name left))))) is_word is_word
      (each_one_word limit left level o) (each_parted limit left level o) is_word
      (λ n w i. key_heads (codes "end" ++ k) (p.optional p.name n) limit level w (is_key (codes "end" ++ k)) (λ at. key_itself (codes "end" ++ k)) i)
      (λ n w rest (q, is, (u, v, (at, e), i, split)) st. subst (λ z. Stops (is_key (codes "end" ++ k)) (bare z ++ rest)) (sym (split ∙ ap (λ z. z ++ v) e)) longer)
      (λ rest st. st) (λ rest st. st))
      (into limit level) (from limit level) (λ rest st. st)

  -- the statement
  pub each_end_line : Everywhere (Of (λ n. h.end_of_procedure k n ▸ p.over)) never (with (end_with k) an_end)
  each_end_line = each_ended (h.end_of_procedure k) is_word (end_with k) each_end_with (λ at. refl)

pub each_end_subroutine : Everywhere (Of (λ n. h.end_of_procedure (codes "subroutine") n ▸ p.over)) never (with (end_with (codes "subroutine")) an_end)
each_end_subroutine = each_end_line (codes "subroutine") refl

pub each_end_function : Everywhere (Of (λ n. h.end_of_procedure (codes "function") n ▸ p.over)) never (with (end_with (codes "function")) an_end)
each_end_function = each_end_line (codes "function") refl

-- the program's END has the same words
pub each_end_program : Everywhere (Of h.end_of_program) is_word (end_with (codes "program"))
each_end_program limit left level o = relabel (Of (h.end_of_procedure (codes "program")) limit level) (Of h.end_of_program limit level) (end_with (codes "program") left) is_word is_word (each_end_with (codes "program") refl limit left level o) into2 from2 (λ rest st. st)
  where
    into2 : (n : Option Name) (w : List (Mark Token)) → Words (h.end_of_procedure (codes "program") n) limit level w → Words (h.end_of_program n) limit level w
    into2 None w (inl i) = inr i
    into2 None w (inr i) = inl i
    into2 (Some n) w i = i

    from2 : (n : Option Name) (w : List (Mark Token)) → Words (h.end_of_program n) limit level w → Words (h.end_of_procedure (codes "program") n) limit level w
    from2 None w (inl i) = inr i
    from2 None w (inr i) = inl i
    from2 (Some n) w i = i

pub each_end_program_line : Everywhere (Of (λ n. h.end_of_program n ▸ p.over)) never (with (end_with (codes "program")) an_end)
each_end_program_line = each_ended h.end_of_program is_word (end_with (codes "program")) each_end_program (λ at. refl)
