-- The words of the command line: which lists of them are valid, what a valid list means, and the usage number of the
-- others.
use Rattle.std.specs.Prelude.{ℕ, ◌≡◌, ◌≢◌, ◌≤◌, ◌+◌, ◌-◌, ◌^◌, ◌⊎◌, List, [], ◌∷◌, ◌++◌, length, map, codes, Option, None, Some, Bool, false, true, string_bytes, ⊤}
use Rattle.std.specs.Fmt.{decimal}
use Rattle.std.specs.declared.alloc.Global.{Global}
use Rattle.std.specs.declared.string.String.{String}
use Rattle.caf_base.specs.declared.refusal.Refusal.{Refusal}
use Rattle.caf_base.specs.declared.refusal.Refusal.TheVariants.{NoMemory, Cause}
use Rattle.caf_words.specs.Usages.{Word, UsageOf}
use Rattle.caf_words.specs.declared.words.Usage.{Usage}
use Rattle.caf_words.specs.declared.options.Given.{Given}
use Rattle.caf_words.specs.declared.command.FailAt.{FailAt}
use Rattle.caf_words.specs.declared.command.Options.{Options}
use Rattle.caf_words.specs.declared.command.Command.{Command}
use Rattle.caf_words.specs.declared.command.Command.TheVariants.{Run, Traced, Check, Make}
use Rattle.caf_words.specs.declared.command.Goal.{Goal}
use Rattle.caf_words.specs.declared.command.Goal.TheVariants.{Judge, Replay}
use Rattle.caf_words.specs.declared.command.Input.{Input}
use Rattle.caf_words.specs.declared.command.Input.TheVariants.{File, Made}
use Rattle.caf_words.specs.declared.command.Places.{Places}
use Rattle.caf_words.specs.declared.command.Verb.{Verb}
use Rattle.caf_words.specs.declared.command.Verb.TheVariants as verbs
use Rattle.caf_words.specs.declared.command.Way.{Way}
use Rattle.caf_words.specs.declared.command.Way.TheVariants.{Order, Workers}

-- the words of the program's texts
abbrev pub words_in : List (String Global) → List Word
words_in texts = map string_bytes texts

-- the name of a file isn't empty and doesn't begin with `-`
abbrev pub IsFileName : Word → Type 0
IsFileName [] = ⊥
IsFileName (c ∷ cs) = c ≢ 45

-- a failure is said as I@K: image I, from 1 to 256, fails at its event number K, from 1 to 1000000
pub record IsFailure (word : Word) (f : FailAt) : Type 0 where
  pub form : word ≡ decimal f.image ++ 64 ∷ decimal f.step
  pub least_image : 1 ≤ f.image
  pub most_image : f.image ≤ 256
  pub least_step : 1 ≤ f.step
  pub most_step : f.step ≤ 1000000

-- where a run has its source from: a file, by its name, or a seed and a size, which make it
pub data Origin : Type 0 where
  from_file : Word → Origin
  from_made : ℕ → ℕ → Origin

-- a seed and a size make it
abbrev pub is_made : Origin → Bool
is_made (from_file file) = false
is_made (from_made seed size) = true

-- what stands behind the options: of a run, where its source comes from; of a judgement or a replay, the names of the
-- files TRACE and FILE
pub data Operands : Type 0 where
  of_source : Origin → Operands
  of_trace : Word → Word → Operands

-- a seed and a size make the source, so that the run is summed up
abbrev pub is_summed : Operands → Bool
is_summed (of_source origin) = is_made origin
is_summed (of_trace trace file) = false

-- the word that a command with options begins with
abbrev pub verb_word : Verb → Word
verb_word verbs.Run = codes "run"
verb_word (verbs.Traced Judge) = codes "judge"
verb_word (verbs.Traced Replay) = codes "replay"

-- the options may say how the images run: those of a run alone, since a trace has its own order
abbrev pub MayOrder : Verb → Type 0
MayOrder verbs.Run = ⊤
MayOrder (verbs.Traced goal) = ⊥

-- the options may say what is shown of a run: not those of a judgement, which shows none
abbrev pub MayShow : Verb → Type 0
MayShow verbs.Run = ⊤
MayShow (verbs.Traced Judge) = ⊥
MayShow (verbs.Traced Replay) = ⊤

-- no options yet
abbrev pub nothing : Given
nothing = record { images = None; workers = None; order = None; steps = None; trace = false; vars = false; why = false; every = false }

-- One option that may come next behind a verb, as its words; what is given with it, and the failures that it names.
-- Each stands once at most, but --fail, and -w and --order exclude each other. A judgement and a replay have neither of
-- these, and a judgement none of --trace, --vars, --why and --every. Numbers are in decimal: without a sign, and without
-- a leading zero other than `0` itself.
pub data IsOption (v : Verb) (g : Given) : List Word → Given → List FailAt → Type 0 where
  images : (n : ℕ) → g.images ≡ None → 1 ≤ n → n ≤ 256 → IsOption v g (codes "-n" ∷ decimal n ∷ []) (record g { images = Some n }) []
  workers : (n : ℕ) → MayOrder v → g.workers ≡ None → g.order ≡ None → 1 ≤ n → n ≤ 64 → IsOption v g (codes "-w" ∷ decimal n ∷ []) (record g { workers = Some n }) []
  order : (s : ℕ) → MayOrder v → g.order ≡ None → g.workers ≡ None → s ≤ 2147483647 → IsOption v g (codes "--order" ∷ decimal s ∷ []) (record g { order = Some s }) []
  steps : (n : ℕ) → g.steps ≡ None → 1 ≤ n → n ≤ 100000000 → IsOption v g (codes "--steps" ∷ decimal n ∷ []) (record g { steps = Some n }) []
  fail : (word : Word) (f : FailAt) → IsFailure word f → IsOption v g (codes "--fail" ∷ word ∷ []) g (f ∷ [])
  show_trace : MayShow v → g.trace ≡ false → IsOption v g (codes "--trace" ∷ []) (record g { trace = true }) []
  show_vars : MayShow v → g.vars ≡ false → IsOption v g (codes "--vars" ∷ []) (record g { vars = true }) []
  show_why : MayShow v → g.why ≡ false → IsOption v g (codes "--why" ∷ []) (record g { why = true }) []
  show_every : MayShow v → g.every ≡ false → IsOption v g (codes "--every" ∷ []) (record g { every = true }) []

-- the number that is given, or else the default
abbrev pub given_or : ℕ → Option ℕ → ℕ
given_or default None = default
given_or default (Some n) = n

-- how the images run: in the order that is given, or else on the workers, 4 where the words don't say it
abbrev pub way_of : Given → Way
way_of g = elim g.order [ Some seed ↦ Order seed | None ↦ Workers (given_or 4 g.workers) ]

-- what a run is told by its options: 4 images and 1000000 statements where the words don't say it; and whether it is
-- summed up
abbrev pub told : Given → Bool → Options
told g summary = record { images = given_or 4 g.images; way = way_of g; steps = given_or 1000000 g.steps; trace = g.trace; vars = g.vars; why = g.why; every = g.every; summary = summary }

-- the words are SEED and SIZE, in decimal: 0 to 2147483647 and 1 to 4096
pub record AreSeedAndSize (words : List Word) (seed size : ℕ) : Type 0 where
  pub form : words ≡ decimal seed ∷ decimal size ∷ []
  pub most_seed : seed ≤ 2147483647
  pub least_size : 1 ≤ size
  pub most_size : size ≤ 4096

-- the words say where a run has its source from: they are FILE, or `--made SEED SIZE`
abbrev pub IsOrigin : List Word → Origin → Type 0
IsOrigin words (from_file file) = (words ≡ file ∷ []) × IsFileName file
IsOrigin words (from_made seed size) = (numbers : List Word) × (words ≡ codes "--made" ∷ numbers) × AreSeedAndSize numbers seed size

-- the words are TRACE and FILE
pub record AreTraceAndFile (words : List Word) (trace file : Word) : Type 0 where
  pub form : words ≡ trace ∷ file ∷ []
  pub trace_name : IsFileName trace
  pub file_name : IsFileName file

-- the words are the operands of the verb
abbrev pub AreOperands : Verb → List Word → Operands → Type 0
AreOperands verbs.Run words (of_source origin) = IsOrigin words origin
AreOperands verbs.Run words (of_trace trace file) = ⊥
AreOperands (verbs.Traced goal) words (of_source origin) = ⊥
AreOperands (verbs.Traced goal) words (of_trace trace file) = AreTraceAndFile words trace file

-- The words behind a verb and the options that are given so far: further options in any order, then its operands. The
-- failures are those that these words name, in order. A run of a made source is summed up.
pub data IsRest (v : Verb) : Given → List Word → Options → List FailAt → Operands → Type 0 where
  operands_last : (g : Given) (words : List Word) (x : Operands) → AreOperands v words x → IsRest v g words (told g (is_summed x)) [] x
  option_next : (g h : Given) (option : List Word) (named : List FailAt) (rest : List Word) (o : Options) (fails : List FailAt) (x : Operands) → IsOption v g option h named → IsRest v h rest o fails x
      → IsRest v g (option ++ rest) o (named ++ fails) x

-- the words are the verb, its options and its operands. The options of a run: -n N (1 to 256; 4 where it isn't given),
-- -w W (1 to 64; 4 where it isn't given) or --order SEED (0 to 2147483647) or neither, --steps N (1 to 100000000;
-- 1000000 where it isn't given), --fail I@K, which may stand more than once, --trace, --vars, --why and --every; of a
-- replay: those but -w and --order; of a judgement: -n, --steps and --fail
pub record IsCommand (v : Verb) (words : List Word) (o : Options) (fails : List FailAt) (x : Operands) : Type 0 where
  pub rest : List Word
  pub form : words ≡ verb_word v ∷ rest
  pub options : IsRest v nothing rest o fails x

-- the words are `run OPTIONS FILE` or `run OPTIONS --made SEED SIZE`
abbrev pub IsRun : List Word → Options → List FailAt → Origin → Type 0
IsRun words o fails origin = IsCommand verbs.Run words o fails (of_source origin)

-- the words are `judge OPTIONS TRACE FILE` or `replay OPTIONS TRACE FILE`, by the goal
abbrev pub IsTraced : Goal → List Word → Options → List FailAt → Word → Word → Type 0
IsTraced goal words o fails trace file = IsCommand (verbs.Traced goal) words o fails (of_trace trace file)

-- the words are `check FILE`
pub record IsCheck (words : List Word) (file : Word) : Type 0 where
  pub form : words ≡ codes "check" ∷ file ∷ []
  pub name : IsFileName file

-- the words are `make SEED SIZE`
pub record IsMake (words : List Word) (seed size : ℕ) : Type 0 where
  pub numbers : List Word
  pub form : words ≡ codes "make" ∷ numbers
  pub are : AreSeedAndSize numbers seed size

-- some command with options has these words; some check has them; they make some source
abbrev pub CommandsSome : List Word → Type 0
CommandsSome words = (v : Verb) × (o : Options) × (fails : List FailAt) × (x : Operands) × IsCommand v words o fails x

abbrev pub ChecksSome : List Word → Type 0
ChecksSome words = (file : Word) × IsCheck words file

abbrev pub MakesSome : List Word → Type 0
MakesSome words = (seed : ℕ) × (size : ℕ) × IsMake words seed size

-- a list of words is valid
abbrev pub IsValid : List Word → Type 0
IsValid words = CommandsSome words ⊎ ChecksSome words ⊎ MakesSome words

-- the input tells where the source comes from; of so many words FILE is the last
abbrev pub IsInput : Origin → ℕ → Input → Type 0
IsInput (from_file file) last (File word) = word ≡ last
IsInput (from_file file) last (Made seed size) = ⊥
IsInput (from_made seed size) last (File word) = ⊥
IsInput (from_made seed size) last (Made seed' size') = (seed' ≡ seed) × (size' ≡ size)

-- of so many words TRACE is the last but one, and FILE the last
pub record ArePlaces (last : ℕ) (places : Places) : Type 0 where
  pub trace : places.trace + 1 ≡ last
  pub file : places.file ≡ last

-- the command that valid words mean; FILE is the last of them
abbrev pub Means : List Word → Command → Type 0
Means words (Run input fails o) = (origin : Origin) × IsRun words o fails origin × IsInput origin (length words) input
Means words (Traced goal places fails o) = (trace : Word) × (file : Word) × IsTraced goal words o fails trace file × ArePlaces (length words) places
Means words (Check word) = (file : Word) × IsCheck words file × (word ≡ length words)
Means words (Make seed size) = IsMake words seed size

-- the usage number of words that aren't valid
abbrev pub UsageIs : List Word → ℕ → Type 0
UsageIs words k = UsageOf IsValid words k

-- the words are those of a command in which a failure is named
abbrev pub CommandsWithFailure : List Word → Type 0
CommandsWithFailure words = (v : Verb) × (o : Options) × (fails : List FailAt) × (x : Operands) × IsCommand v words o fails x × (fails ≢ [])

-- what a refusal says of the words: their usage number; or that they are too many to be numbered, or valid with
-- failures for whose list there was no memory
abbrev pub IsRefusalOf : List Word → Refusal Usage → Type 0
IsRefusalOf words NoMemory = (2 ^ 32 - 1 ≤ length words) ⊎ CommandsWithFailure words
IsRefusalOf words (Cause usage) = UsageIs words usage.word
