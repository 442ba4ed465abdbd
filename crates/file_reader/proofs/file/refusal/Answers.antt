use Rattle.std.proofs.Common.{◌<◌, sym, subst}
use Rattle.expr_reader.specs.Words.{tokens_of}
use Rattle.sequence_reader.specs.Halts as halts
use Rattle.file_reader.proofs.Refusing.{tokens_length, open_there}
use Rattle.file_reader.proofs.file.refusal.Goals as goal

pub returns-in-Unfinished : goal.returns-in-Unfinished
returns-in-Unfinished c =
    let h = subst (λ z. halts.Halts z (tokens_of c.args.words.now)) c.in-Unfinished.is c.requires.halts in
    open_there c.args.words.now c.in-Unfinished.stop h.0 c.in-Unfinished.at h.1 c.requires.some c.requires.whole h.2

pub sunk_word-requires-clause-some : goal.sunk_word-requires-clause-some
sunk_word-requires-clause-some c =
    let h = subst (λ z. halts.Halts z (tokens_of c.args.words.now)) c.in-Stopped.is c.requires.halts in
    h.1 c.requires.whole (subst (λ n. 0 < n) (sym (tokens_length c.args.words.now)) c.requires.some)
