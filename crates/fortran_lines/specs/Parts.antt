-- What the code's answers about one line stand for.
use Rattle.std.specs.Prelude.{◌++◌}
use Rattle.std.specs.Option.{option_to_list}
use Rattle.fortran_lines.specs.declared.line.Part as code
use Rattle.fortran_lines.specs.Lines.{Part}

-- a part of a line: the blank of a continuation, where there is one, and the text
abbrev pub part_seen : code.Part → Part
part_seen p = record { code = p.code.now; text = option_to_list p.blank ++ p.text.now; next = p.next; left_open = p.left_open }
