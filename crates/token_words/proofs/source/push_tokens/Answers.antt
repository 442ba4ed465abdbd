use Rattle.std.proofs.Common.{rules, ◌≡◌, ◌++◌, [], ◌∷◌, map, ap, sym, ◌∙◌, subst, append_assoc}
use Rattle.std.specs.List.{AllByRecursion}
use Rattle.expr_reader.specs.Plain.{plain}
use Rattle.expr_reader.specs.Words.{token_of, tokens_of}
use Rattle.token_words.specs.Words.{Fits}
use Rattle.token_words.proofs.Ends.{tokens_append}
use Rattle.token_words.proofs.source.push_tokens.Goals as goal

pub word-requires : goal.word-requires
word-requires c =
    let split : c.loop-token.left.now ≡ c.in-Some.token.now ∷ c.in-Some.rest.now = search rules in
    (subst (AllByRecursion (Fits c.args.text.now)) split c.loop-token.invariant.fit).0

pub loop-token-preserved : goal.loop-token-preserved
loop-token-preserved c =
    let split : c.loop-token.left.now ≡ c.in-Some.token.now ∷ c.in-Some.rest.now = search rules in
    let plain_rest = map (plain c.args.text.now) c.in-Some.rest.now in
    let done = tokens_of c.loop-token.words.items in
    record {
      same = ap (λ z. z ++ plain_rest) (ap tokens_of c.in_ok-push.ensures.items ∙ tokens_append c.loop-token.words.items (c.in_ok-word.field-0 ∷ []))
          ∙ (append_assoc done (token_of c.in_ok-word.field-0 ∷ []) plain_rest
          ∙ (ap (λ z. done ++ z ∷ plain_rest) c.in_ok-word.ensures
          ∙ (ap (λ z. done ++ map (plain c.args.text.now) z) (sym split) ∙ c.loop-token.invariant.same)));
      fit = (subst (AllByRecursion (Fits c.args.text.now)) split c.loop-token.invariant.fit).1;
    }
