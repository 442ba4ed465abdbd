use Rattle.std.proofs.Common.{◌≡◌, ◌++◌, drop, codes}
use Rattle.std.specs.Prelude.{flat_map}
use Rattle.fortran_layout.specs.Spelling.{rep_char}
use Rattle.fortran_layout.proofs.page.literal_text.Given as goal

abbrev pub invariant-loop-character : goal.invariant-loop-character
invariant-loop-character l = l.out.items ++ flat_map rep_char (drop l.character-index l.characters) ≡ codes "'" ++ flat_map rep_char l.characters
