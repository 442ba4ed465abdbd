use Rattle.std.proofs.Common.{◌<◌, length, sym, subst}
use Rattle.std.specs.Prelude.{All}
use Rattle.source_reader.proofs.Lengths.{all_short}
use Rattle.source_reader.proofs.source.source_words.Goals as goal

pub words-requires : goal.words-requires
words-requires c =
    let are = c.in_ok-stmts.ensures.statements in
    subst (λ z. All (λ s. length s.text < 4294967295) z) (sym c.as_slice.ensures.value) (all_short c.args.bytes.now c.in_ok-stmts.stmts.items c.requires are.unbroken are.joined)
