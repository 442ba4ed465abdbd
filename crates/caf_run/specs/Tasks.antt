-- What the words ask of a source: to check it, to run it, or to judge or replay a trace as one of its run; and which
-- source and which trace they name.
use Rattle.std.specs.Prelude.{ℕ, ◌≤◌, ◌/◌, ◌⊎◌, List, length, min, Option, ⊤}
use Rattle.std.specs.List.{AllByRecursion}
use Rattle.caf_base.specs.Outside.{Files}
use Rattle.caf_words.specs.Usages.{Word}
use Rattle.caf_words.specs.Words.{Origin, IsRun, IsCheck, IsTraced, IsInput, ArePlaces}
use Rattle.caf_words.specs.Words.Origin.{from_file, from_made}
use Rattle.caf_words.specs.declared.command.FailAt.{FailAt}
use Rattle.caf_words.specs.declared.command.Goal.{Goal}
use Rattle.caf_words.specs.declared.command.Input.{Input}
use Rattle.caf_words.specs.declared.command.Options.{Options}
use Rattle.caf_words.specs.declared.command.Places.{Places}
use Rattle.caf_words.specs.declared.command.Way as words
use Rattle.caf_words.specs.declared.command.Way.TheVariants as told
use Rattle.full_report.specs.declared.way.Way.{Way}
use Rattle.full_report.specs.declared.way.Way.TheVariants.{Order, Workers}
use Rattle.checked_run.specs.declared.running.Told.{Told}
use Rattle.caf_run.specs.declared.task.Task.{Task}
use Rattle.caf_run.specs.declared.task.Task.TheVariants.{Check, Run, Traced}
use Rattle.caf_run.specs.Failures.{IsOfImage}
use Rattle.caf_run.specs.Reading.{HasBytes, HasBytesIfTold}

-- the words ask for the task, of this source
abbrev pub Asks : List Word → Task → Origin → Type 0
Asks words Check (from_file file) = IsCheck words file
Asks words Check (from_made seed size) = ⊥
Asks words (Run o fails) origin = IsRun words o fails origin
Asks words (Traced goal o fails) (from_file file) = (trace : Word) × IsTraced goal words o fails trace file
Asks words (Traced goal o fails) (from_made seed size) = ⊥

-- the source that valid words name
abbrev pub NamesSource : List Word → Origin → Type 0
NamesSource words origin = (task : Task) × Asks words task origin

-- the name of the source's file that they name, if they name one
abbrev pub NamesFile : List Word → Word → Type 0
NamesFile words file = NamesSource words (from_file file)

-- the name of the trace's file that they name, if they name one
abbrev pub NamesTrace : List Word → Word → Type 0
NamesTrace words trace = (goal : Goal) × (o : Options) × (fails : List FailAt) × (file : Word) × IsTraced goal words o fails trace file

-- the name of a file that they name, of either kind
abbrev pub NamesInput : List Word → Word → Type 0
NamesInput words name = NamesFile words name ⊎ NamesTrace words name

abbrev pub NamesNoFile : List Word → Type 0
NamesNoFile words = (file : Word) → NamesFile words file → ⊥

-- where the task is of a trace, these are the bytes of the trace's file, where the files are told
abbrev pub IsTraceIfTold : List Word → Option Files → Task → List ℕ → Type 0
IsTraceIfTold words files (Traced goal o fails) bytes = (trace : Word) × NamesTrace words trace × HasBytesIfTold files trace bytes
IsTraceIfTold words files task bytes = ⊤

-- the same, and the file is told
abbrev pub IsTrace : List Word → Option Files → Task → List ℕ → Type 0
IsTrace words files (Traced goal o fails) bytes = (trace : Word) × NamesTrace words trace × HasBytes files trace bytes
IsTrace words files task bytes = ⊤

-- a run is on 1 to 256 images, of 100,000,000 statements at most, and its failures are of such images
pub record IsRunTask (o : Options) (fails : List FailAt) : Type 0 where
  pub least : 1 ≤ o.images
  pub most : o.images ≤ 256
  pub steps : o.steps ≤ 100000000
  pub failures : AllByRecursion IsOfImage fails

abbrev pub IsTask : Task → Type 0
IsTask Check = ⊤
IsTask (Run o fails) = IsRunTask o fails
IsTask (Traced goal o fails) = IsRunTask o fails

-- the task is of a source alone
abbrev pub IsOfSource : Task → Type 0
IsOfSource (Traced goal o fails) = ⊥
IsOfSource task = ⊤

-- how so many images take turns: in the order of the SEED, or on the lesser of the workers and the images
abbrev pub way_of : words.Way → ℕ → Way
way_of (told.Order seed) images = Order seed
way_of (told.Workers workers) images = Workers (min workers images)

-- what a run is told: the images, the limit and the way of the options; the limit of an image's recorded words is its
-- share of the 16,777,216 of the run
abbrev pub told_of : Options → Told
told_of o = record { images = o.images; limit = o.steps; words = 16777216 / o.images; way = way_of o.way o.images }

-- the words ask for the task, of the source that the input tells
abbrev pub AsksOf : List Word → Task → Input → Type 0
AsksOf words task input = (origin : Origin) × Asks words task origin × IsInput origin (length words) input

-- the words ask for the task, which is of a trace, and TRACE and FILE stand at these places
abbrev pub AsksTraced : List Word → Task → Places → Type 0
AsksTraced words (Traced goal o fails) places = (trace : Word) × (file : Word) × IsTraced goal words o fails trace file × ArePlaces (length words) places
AsksTraced words task places = ⊥
