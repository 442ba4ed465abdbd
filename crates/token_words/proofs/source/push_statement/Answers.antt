use Rattle.std.proofs.Common.{◌≡◌, ◌-◌, ◌++◌, [], ◌∷◌, length, map, ap, sym, ◌∙◌, subst, arith, append_assoc, refl, Some}
use Rattle.std.specs.Prelude.{slice_get}
use Rattle.std.specs.List.{AllByRecursion}
use Rattle.caf_base.specs.declared.place.Pos.{Pos}
use Rattle.fortran_grammar.specs.Tokens as t
use Rattle.fortran_grammar.specs.Tokens.{Token}
use Rattle.expr_reader.specs.Plain.{plain}
use Rattle.expr_reader.specs.Words.{tokens_of}
use Rattle.token_words.specs.Words.{Fits, just_past}
use Rattle.token_words.proofs.Ends.{last_fits, seen_from, tokens_append}
use Rattle.token_words.proofs.Fitting.{statement_fits}
use Rattle.token_words.proofs.source.push_statement.Goals as goal

pub overflow_sub-index : goal.overflow_sub-index
overflow_sub-index c =
    let fits = last_fits c.args.stmt.now.text c.args.tokens.now c.in-Some.last.now (statement_fits c.args.stmt.now c.args.tokens.now c.requires) (sym c.in-Some.ensures.value) in
    let some = fits.some in
    omega arith

pub place_at-end-requires : goal.place_at-end-requires
place_at-end-requires c =
    let fits = last_fits c.args.stmt.now.text c.args.tokens.now c.in-Some.last.now (statement_fits c.args.stmt.now c.args.tokens.now c.requires) (sym c.in-Some.ensures.value) in
    let some = fits.some in
    let within = fits.within in
    let size = ap length c.as_slice.ensures in
    let placed = c.args.stmt.now.placed in
    omega arith

pub push_tokens-requires : goal.push_tokens-requires
push_tokens-requires c = subst (λ text. AllByRecursion (Fits text) c.args.tokens.now) (sym c.as_slice-2.ensures) (statement_fits c.args.stmt.now c.args.tokens.now c.requires)

abbrev over : Pos → Token
over p = record { tok = t.over; at = p }

pub returns : goal.returns
returns c =
    let stmt = c.args.stmt.now in
    let tokens = c.args.tokens.now in
    let seen = map (plain stmt.text) tokens in
    let place : slice_get stmt.at (c.in-Some.last.now.to - 1) ≡ Some c.place_at-end.result = ap (λ z. slice_get z (c.in-Some.last.now.to - 1)) (sym c.as_slice.ensures) ∙ c.place_at-end.ensures in
    let pushed = c.in_ok-push_tokens.ensures ∙ ap (λ z. tokens_of c.args.words.now.items ++ map (plain z) tokens) c.as_slice-2.ensures in
    let past = c.just_past.ensures in
    let end = over (just_past c.place_at-end.result) in (
      seen ++ end ∷ [],
      seen_from stmt tokens c.in-Some.last.now c.place_at-end.result (seen ++ end ∷ []) (sym c.in-Some.ensures.value) place refl,
      ap tokens_of c.in_ok-push.ensures.items
          ∙ (tokens_append c.push_tokens.new.words.items _
          ∙ (ap (λ z. z ++ over c.just_past.result ∷ []) pushed
          ∙ (ap (λ z. (tokens_of c.args.words.now.items ++ seen) ++ over z ∷ []) past
          ∙ append_assoc (tokens_of c.args.words.now.items) seen (end ∷ [])))),
    )
