use Rattle.std.proofs.Common.{rules, ◌-◌, ◌+◌, length}
use Rattle.expr_reader.specs.Words.{tokens_of}
use Rattle.file_reader.proofs.Telling.{place_told}
use Rattle.file_reader.proofs.reason.too_deep_from.Goals as goal

pub returns : goal.returns
returns c = place_told c.args.state.now (tokens_of c.args.statement.now) (64 - (c.args.state.now.conditions + length c.args.state.now.blocks.items)) c.in_ok-names.names.items c.in_ok-place.place c.requires.depth (search rules) c.requires.one c.in_ok-names.ensures (search rules)
