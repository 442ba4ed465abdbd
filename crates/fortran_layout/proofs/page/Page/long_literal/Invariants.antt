use Rattle.std.proofs.Common.{◌≡◌, ◌≤◌, drop, map}
use Rattle.std.specs.Prelude.{fold}
use Rattle.fortran_layout.specs.Spelling.{rep_char}
use Rattle.fortran_layout.specs.Layout.{poured}
use Rattle.fortran_layout.proofs.page.Page.long_literal.Given as goal

abbrev pub invariant-loop-character : goal.invariant-loop-character
invariant-loop-character l = record {
  small : l.used ≤ 990;
  same : fold poured (record { text = l.self.text; used = l.used }) (map rep_char (drop l.character-index l.characters))
      ≡ fold poured (record { text = l.initial.self.text; used = l.initial.used }) (map rep_char l.characters);
}
