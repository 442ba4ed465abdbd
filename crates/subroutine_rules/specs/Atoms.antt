-- What the checker holds of atoms, as the rules see it.
use Rattle.std.specs.Prelude.{[], Option}
use Rattle.checked_tree.specs.ExpressionViews.{designator}
use Rattle.rule_definitions.specs.Judgements.{Judgement}
use Rattle.rule_definitions.specs.IntrinsicSubroutines as r
use Rattle.subroutine_rules.specs.declared.atom.Atom.{Atom}

abbrev pub atom_seen : Atom → r.Atom
atom_seen a = record { variable = designator a.variable; kind = a.kind }

-- what is known of an atom, whatever breaks in it
abbrev pub known : Option r.Atom → Judgement r.Atom
known o = record { breaks = []; meaning = o }
