-- What words ask of a made source: it is no longer than a file may be, and it is good.
use Rattle.std.proofs.Common.{ℕ, ◌≤◌, ◌<◌, List, [], length, inl, inr, arith}
use Rattle.std.specs.Prelude.{Option}
use Rattle.caf_base.specs.Outside.{Files}
use Rattle.caf_words.specs.Usages.{Word}
use Rattle.caf_words.specs.Words.{Origin}
use Rattle.caf_words.specs.Words.Origin.{from_file, from_made}
use Rattle.work_maker.specs.MadeSource.{made_source}
use Rattle.made_laws.proofs.Lengths.{made_is_short}
use Rattle.made_program.proofs.Good.{made_is_good}
use Rattle.caf_run.specs.declared.task.Task.{Task}
use Rattle.caf_run.specs.declared.task.Task.TheVariants.{Check, Run, Traced}
use Rattle.caf_run.specs.Reading.{IsLonger, IsLongSource}
use Rattle.caf_run.specs.Sources.{IsGood}
use Rattle.caf_run.specs.Tasks.{Asks, NamesFile, NamesInput, IsTrace}
use Rattle.caf_run.proofs.Tasks.{one_task, made_within}

pub made_short : (words : List Word) (task : Task) (seed size : ℕ) → Asks words task (from_made seed size) → length (made_source seed size) ≤ 1048576
made_short words task seed size asked = let within = (made_within words task seed size asked).1 in made_is_short seed size within.most_size

pub made_good : (words : List Word) (task : Task) (seed size : ℕ) → Asks words task (from_made seed size) → IsGood (made_source seed size)
made_good words task seed size asked =
    let within = (made_within words task seed size asked).1 in
    let (x, read, unbroken) = made_is_good seed size within.least_size within.most_size in
    record { tree = x; read = read; unbroken = unbroken }

-- words that ask for one name no file
pub made_no_file : (words : List Word) (task : Task) (seed size : ℕ) (file : Word) → Asks words task (from_made seed size) → NamesFile words file → ⊥
made_no_file words task seed size file asked (other, named) = let same = (one_task words task other (from_made seed size) (from_file file) asked named).of_origin in cc

pub made_no_input : (words : List Word) (task : Task) (seed size : ℕ) (file : Word) → Asks words task (from_made seed size) → NamesInput words file → ⊥
made_no_input words task seed size file asked (inl named) = made_no_file words task seed size file asked named
made_no_input words task seed size file asked (inr (goal, o, fails, other, named)) = made_no_file words task seed size other asked (Traced goal o fails, (file, named))

-- such a task is of no trace, so that a short source is all that is asked
pub made_trace : (words : List Word) (files : Option Files) (task : Task) (seed size : ℕ) → Asks words task (from_made seed size) → IsTrace words files task []
made_trace words files Check seed size asked = tt
made_trace words files (Run o fails) seed size asked = tt
made_trace words files (Traced goal o fails) seed size asked = absurd asked

not_longer : (n : ℕ) → n ≤ 1048576 → 1048576 < n → ⊥
not_longer n h k = omega arith

-- so only a file is too long
pub long_file : (words : List Word) (task : Task) (origin : Origin) (files : Option Files) → Asks words task origin → IsLongSource files origin 1048576 → (file : Word) × NamesFile words file × IsLonger files file 1048576
long_file words task (from_file file) files asked long = (file, (task, asked), long)
long_file words task (from_made seed size) files asked long = absurd (not_longer (length (made_source seed size)) (made_short words task seed size asked) long)
