use Rattle.checked_tree.specs.StatementViews as view
use Rattle.image_acts.specs.Acts.{ask, end_program}
use Rattle.tree_meaning.specs.Forms.{bodies}
use Rattle.code_maker.proofs.Programs.{code_drafted, code_is, tables_are}
use Rattle.code_maker.proofs.maker.coded.Goals as goal

pub returns-clause-code : goal.returns-clause-code
returns-clause-code c =
    code_is c.whole.result c.into_code.result (ask end_program) c.args.checked.now.end_line (bodies (view.program c.args.checked.now))
    (code_drafted c.into_code.result c.keeping-draft.result c.push_program.new.draft (ask end_program) c.args.checked.now.end_line (bodies (view.program c.args.checked.now)) c.args.starts.places.items c.args.starts.end c.args.code.tables
    c.keeping-draft.ensures c.requires.places c.requires.end c.in_ok-push_program.ensures c.into_code.ensures.code) c.whole.ensures.whole

pub returns-clause-tables : goal.returns-clause-tables
returns-clause-tables c =
    tables_are c.whole.result c.into_code.result c.keeping-draft.result c.push_program.new.draft (ask end_program) c.args.checked.now.end_line (bodies (view.program c.args.checked.now)) c.args.starts.places.items c.args.starts.end c.args.code.tables
    c.keeping-draft.ensures c.in_ok-push_program.ensures c.into_code.ensures.tables c.whole.ensures.whole

pub whole-requires : goal.whole-requires
whole-requires c = record {
  made = code_drafted c.into_code.result c.keeping-draft.result c.push_program.new.draft (ask end_program) c.args.checked.now.end_line (bodies (view.program c.args.checked.now)) c.args.starts.places.items c.args.starts.end c.args.code.tables
      c.keeping-draft.ensures c.requires.places c.requires.end c.in_ok-push_program.ensures c.into_code.ensures.code;
}
