use Rattle.fortran_tokens.proofs.OneAnswer.{one_tokens, one_refusal, tokens_or_refusal}
use Rattle.fortran_tokens.proofs.law.one_answer.Goals as goal

pub returns-clause-tokens : goal.returns-clause-tokens
returns-clause-tokens c = one_tokens

pub returns-clause-refused : goal.returns-clause-refused
returns-clause-refused c = one_refusal

pub returns-clause-either : goal.returns-clause-either
returns-clause-either c = tokens_or_refusal
