use Rattle.reader_theory.proofs.Limits.{refused_for, refused_at_end, not_read, one_refusal}
use Rattle.reader_theory.proofs.limit_laws.reason_of_refusal.Goals as goal

pub returns-clause-inside : goal.returns-clause-inside
returns-clause-inside g c = refused_for g.L.Language.words

pub returns-clause-at_end : goal.returns-clause-at_end
returns-clause-at_end g c = refused_at_end g.L.Language.words

pub returns-clause-not_read : goal.returns-clause-not_read
returns-clause-not_read g c = not_read g.L.Language.words

pub returns-clause-one : goal.returns-clause-one
returns-clause-one g c = one_refusal g.L.Language.words
