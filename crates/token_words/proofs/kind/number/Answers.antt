use Rattle.token_words.proofs.Values.{digits_front}
use Rattle.token_words.proofs.kind.number.Goals as goal

pub value-value-requires-clause-digits : goal.value-value-requires-clause-digits
value-value-requires-clause-digits c = λ i h. digits_front c.args.text.now c.digits_len-end.result i c.digits_len-end.ensures.value h
