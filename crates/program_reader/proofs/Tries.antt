-- Some files, with their answers worked out by hand; `;` ends a statement.
use Rattle.std.proofs.Common.{◌≡◌, [], refl, codes}
use Rattle.reader_theory.specs.Words.{expected, fault}
use Rattle.expr_reader.specs.Reading.{tier}
use Rattle.fortran_grammar.proofs.Trying.{cut}
use Rattle.program_reader.specs.Sequence.{start, rest_reader}

-- an END with another word
other_end : rest_reader 2 9 start (cut (codes "do ; end if ;")) ≡ fault expected (cut (codes "         if ;"))
unfolding tier
other_end = refl

-- nothing may stand behind the main program's END
behind_end : rest_reader 2 9 start (cut (codes "end ; return ;")) ≡ fault expected (cut (codes "      return ;"))
unfolding tier
behind_end = refl

-- a DO construct that isn't ended
no_end : rest_reader 2 9 start (cut (codes "do ; return ;")) ≡ fault expected []
unfolding tier
no_end = refl
