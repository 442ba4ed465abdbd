-- Words ask for one task of one source, and of one trace where the task is of one.
use Rattle.std.proofs.Common.{◌≡◌, ℕ, ◌<◌, ◌≤◌, ◌-◌, inl, inr, List, length, Some, String, Global, refl, sym, ap, ◌∙◌, subst, arith}
use Rattle.std.specs.Prelude.{slice_get}
use Rattle.std.proofs.lemmas.List.{length-map}
use Rattle.std.proofs.lemmas.Option.{slice_get_within}
use Rattle.caf_words.specs.Usages.{Word}
use Rattle.caf_words.specs.Words.{Origin, Operands, words_in, AreSeedAndSize, ArePlaces, IsCommand, IsMake, IsTraced, IsValid, Means}
use Rattle.caf_words.specs.Words.Origin.{from_file, from_made}
use Rattle.caf_words.specs.Words.Operands.{of_source, of_trace}
use Rattle.caf_words.specs.declared.command.FailAt.{FailAt}
use Rattle.caf_words.specs.declared.command.Goal.{Goal}
use Rattle.caf_words.specs.declared.command.Options.{Options}
use Rattle.caf_words.specs.declared.command.Command.TheVariants as commands
use Rattle.caf_words.specs.declared.command.Input.{Input}
use Rattle.caf_words.specs.declared.command.Input.TheVariants.{File, Made}
use Rattle.caf_words.specs.declared.command.Places.{Places}
use Rattle.caf_words.specs.declared.command.Verb.{Verb}
use Rattle.caf_words.specs.declared.command.Verb.TheVariants as verbs
use Rattle.caf_words.proofs.Meanings.{one_command, not_command_and_check, not_command_and_make, not_check_and_make, command_within, command_images, run_last, run_made, traced_last, check_last}
use Rattle.caf_run.specs.declared.task.Task.{Task}
use Rattle.caf_run.specs.declared.task.Task.TheVariants.{Check, Run, Traced}
use Rattle.caf_run.specs.Tasks.{Asks, IsOfSource, IsRunTask, IsTask, NamesNoFile, NamesTrace, AsksOf, AsksTraced}

pub asks_valid : (words : List Word) (task : Task) (origin : Origin) → Asks words task origin → IsValid words
asks_valid words Check (from_file file) asked = inr (inl (file, asked))
asks_valid words Check (from_made seed size) asked = absurd asked
asks_valid words (Run o fails) origin asked = inl (verbs.Run, o, fails, of_source origin, asked)
asks_valid words (Traced goal o fails) (from_file file) (trace, asked) = inl (verbs.Traced goal, o, fails, of_trace trace file, asked)
asks_valid words (Traced goal o fails) (from_made seed size) asked = absurd asked

-- they make none then
pub asks_no_make : (words : List Word) (task : Task) (origin : Origin) (seed size : ℕ) → Asks words task origin → IsMake words seed size → ⊥
asks_no_make words Check (from_file file) seed size asked make = not_check_and_make words file seed size asked make
asks_no_make words Check (from_made s z) seed size asked make = asked
asks_no_make words (Run o fails) origin seed size asked make = not_command_and_make verbs.Run words o fails (of_source origin) seed size asked make
asks_no_make words (Traced goal o fails) (from_file file) seed size (trace, asked) make = not_command_and_make (verbs.Traced goal) words o fails (of_trace trace file) seed size asked make
asks_no_make words (Traced goal o fails) (from_made s z) seed size asked make = asked

-- the same task of the same source
pub record Same (task : Task) (origin : Origin) (task' : Task) (origin' : Origin) : Type 0 where
  pub of_task : task ≡ task'
  pub of_origin : origin ≡ origin'

-- a run isn't of a trace, and words judge or replay one trace of one source
not_run_and_traced : (words : List Word) (o : Options) (fails : List FailAt) (origin : Origin) (goal : Goal) (o' : Options) (fails' : List FailAt) (trace file : Word) → Asks words (Run o fails) origin
    → IsTraced goal words o' fails' trace file → ⊥
not_run_and_traced words o fails origin goal o' fails' trace file run traced =
    let same = (one_command verbs.Run (verbs.Traced goal) words o fails (of_source origin) o' fails' (of_trace trace file) run traced).verb in
    cc same

pub record SameTraced (goal : Goal) (o : Options) (fails : List FailAt) (trace file : Word) (goal' : Goal) (o' : Options) (fails' : List FailAt) (trace' file' : Word) : Type 0 where
  pub task : Traced goal o fails ≡ Traced goal' o' fails'
  pub trace_name : trace ≡ trace'
  pub file_name : file ≡ file'

pub one_traced : (words : List Word) (goal : Goal) (o : Options) (fails : List FailAt) (trace file : Word) (goal' : Goal) (o' : Options) (fails' : List FailAt) (trace' file' : Word) → IsTraced goal words o fails trace file
    → IsTraced goal' words o' fails' trace' file' → SameTraced goal o fails trace file goal' o' fails' trace' file'
one_traced words goal o fails trace file goal' o' fails' trace' file' first second =
    let same = one_command (verbs.Traced goal) (verbs.Traced goal') words o fails (of_trace trace file) o' fails' (of_trace trace' file') first second in
    let goals : goal ≡ goal' = cc (same.verb) in
    let traces : trace ≡ trace' = cc (same.operands) in
    let files : file ≡ file' = cc (same.operands) in
    record { task = cc (goals, same.options, same.failures); trace_name = traces; file_name = files }

pub one_task : (words : List Word) (task task' : Task) (origin origin' : Origin) → Asks words task origin → Asks words task' origin' → Same task origin task' origin'
one_task words Check Check (from_file file) (from_file file') first second = let e : file ≡ file' = cc (first.form, second.form) in record { of_task = refl; of_origin = ap from_file e }
one_task words Check task' (from_made seed size) origin' first second = absurd first
one_task words task Check origin (from_made seed size) first second = absurd second
one_task words Check (Run o fails) (from_file file) origin' first second = absurd (not_command_and_check verbs.Run words o fails (of_source origin') file second first)
one_task words (Run o fails) Check origin (from_file file) first second = absurd (not_command_and_check verbs.Run words o fails (of_source origin) file first second)
one_task words (Run o fails) (Run o' fails') origin origin' first second =
    let same = one_command verbs.Run verbs.Run words o fails (of_source origin) o' fails' (of_source origin') first second in
    let sources : origin ≡ origin' = cc (same.operands) in
    record { of_task = ap (λ x. Run x fails) same.options ∙ ap (λ x. Run o' x) same.failures; of_origin = sources }
one_task words (Traced goal o fails) task' (from_made seed size) origin' first second = absurd first
one_task words task (Traced goal o fails) origin (from_made seed size) first second = absurd second
one_task words Check (Traced goal o fails) (from_file file) (from_file file') first (trace, second) = absurd (not_command_and_check (verbs.Traced goal) words o fails (of_trace trace file') file second first)
one_task words (Traced goal o fails) Check (from_file file) (from_file file') (trace, first) second = absurd (not_command_and_check (verbs.Traced goal) words o fails (of_trace trace file) file' first second)
one_task words (Run o fails) (Traced goal o' fails') origin (from_file file) first (trace, second) = absurd (not_run_and_traced words o fails origin goal o' fails' trace file first second)
one_task words (Traced goal o fails) (Run o' fails') (from_file file) origin (trace, first) second = absurd (not_run_and_traced words o' fails' origin goal o fails trace file second first)
one_task words (Traced goal o fails) (Traced goal' o' fails') (from_file file) (from_file file') (trace, first) (trace', second) =
    let same = one_traced words goal o fails trace file goal' o' fails' trace' file' first second in
    record { of_task = same.task; of_origin = ap from_file same.file_name }

-- words that judge or replay a trace name it alone
pub one_trace : (words : List Word) (goal : Goal) (o : Options) (fails : List FailAt) (trace file name : Word) → IsTraced goal words o fails trace file → NamesTrace words name → trace ≡ name
one_trace words goal o fails trace file name asked (goal', o', fails', file', named) = (one_traced words goal o fails trace file goal' o' fails' name file' asked named).trace_name

-- words that check or run name no trace
pub no_trace_named : (words : List Word) (task : Task) (origin : Origin) (name : Word) → Asks words task origin → IsOfSource task → NamesTrace words name → ⊥
no_trace_named words Check (from_file file) name asked of (goal, o, fails, other, named) = not_command_and_check (verbs.Traced goal) words o fails (of_trace name other) file named asked
no_trace_named words Check (from_made seed size) name asked of named = asked
no_trace_named words (Run o fails) origin name asked of (goal, o', fails', file, named) = not_run_and_traced words o fails origin goal o' fails' name file asked named
no_trace_named words (Traced goal o fails) origin name asked of named = of

-- a command that the words mean is for the task that they ask for, and tells its source
pub run_asked : (words : List Word) (input : Input) (fails : List FailAt) (o : Options) → Means words (commands.Run input fails o) → AsksOf words (Run o fails) input
run_asked words input fails o means = means

pub check_asked : (words : List Word) (word : ℕ) → Means words (commands.Check word) → AsksOf words Check (File word)
check_asked words word (file, check, last) = (from_file file, check, last)

pub traced_asked : (words : List Word) (goal : Goal) (places : Places) (fails : List FailAt) (o : Options) → Means words (commands.Traced goal places fails o) → AsksTraced words (Traced goal o fails) places
traced_asked words goal places fails o means = means

-- so is one that judges or replays a trace, whose name stands last but one
pub record NamesTraced (words : List Word) (task : Task) (places : Places) : Type 0 where
  pub goal : Goal
  pub options : Options
  pub failures : List FailAt
  pub trace : Word
  pub file : Word
  pub is : task ≡ Traced goal options failures
  pub asked : IsTraced goal words options failures trace file
  pub are : ArePlaces (length words) places

pub names_traced : (words : List Word) (task : Task) (places : Places) → AsksTraced words task places → NamesTraced words task places
names_traced words Check places asked = absurd asked
names_traced words (Run o fails) places asked = absurd asked
names_traced words (Traced goal o fails) places (trace, file, asked, are) = record { goal = goal; options = o; failures = fails; trace = trace; file = file; is = refl; asked = asked; are = are }

pub traced_input : (words : List Word) (task : Task) (places : Places) → AsksTraced words task places → AsksOf words task (File places.file)
traced_input words Check places asked = absurd asked
traced_input words (Run o fails) places asked = absurd asked
traced_input words (Traced goal o fails) places (trace, file, asked, are) = (from_file file, (trace, asked), are.file)

pub trace_place : (texts : List (String Global)) (task : Task) (places : Places) → AsksTraced (words_in texts) task places → (0 < places.trace) × (places.trace ≤ length texts)
trace_place texts task places asked =
    let r = names_traced (words_in texts) task places asked in
    let many : length (words_in texts) ≡ length texts = length-map texts _ in
    let last = traced_last (verbs.Traced r.goal) (words_in texts) r.options r.failures r.trace r.file r.asked in
    (omega (arith, many, last.0, r.are.trace), omega (arith, many, last.0, r.are.trace))

pub trace_word : (words : List Word) (task : Task) (places : Places) (name : Word) (r : NamesTraced words task places) → slice_get words (places.trace - 1) ≡ Some name → name ≡ r.trace
trace_word words task places name r here =
    let last = traced_last (verbs.Traced r.goal) words r.options r.failures r.trace r.file r.asked in
    let at : places.trace - 1 ≡ length words - 2 = omega (arith, last.0, r.are.trace) in
    let there = subst (λ k. slice_get words k ≡ Some name) at here in
    cc (there, last.1)

pub traced_named : (words : List Word) (task : Task) (places : Places) → AsksTraced words task places → NamesNoFile words → ⊥
traced_named words task places asked none =
    let r = names_traced words task places asked in
    none r.file (Traced r.goal r.options r.failures, (r.trace, r.asked))

-- an input by its place is a file's, and that is the last of the words
pub record AsksFile (words : List Word) (task : Task) (number : ℕ) : Type 0 where
  pub file : Word
  pub asked : Asks words task (from_file file)
  pub last : number ≡ length words

pub asks_file : (words : List Word) (task : Task) (number : ℕ) → AsksOf words task (File number) → AsksFile words task number
asks_file words task number (from_file file, asked, last) = record { file = file; asked = asked; last = last }
asks_file words task number (from_made seed size, asked, last) = absurd last

pub asks_last : (words : List Word) (task : Task) (file : Word) → Asks words task (from_file file) → slice_get words (length words - 1) ≡ Some file
asks_last words Check file asked = check_last words file asked
asks_last words (Run o fails) file asked = run_last words o fails file asked
asks_last words (Traced goal o fails) file (trace, asked) = (traced_last (verbs.Traced goal) words o fails trace file asked).2

pub last_word : (words : List Word) (task : Task) (number : ℕ) (name : Word) (r : AsksFile words task number) → slice_get words (number - 1) ≡ Some name → name ≡ r.file
last_word words task number name r h =
    let there = asks_last words task r.file r.asked in
    let here = subst (λ m. slice_get words (m - 1) ≡ Some name) r.last h in
    cc

-- it has a place among them
pub place_within : (texts : List (String Global)) (task : Task) (number : ℕ) → AsksFile (words_in texts) task number → (0 < number) × (number ≤ length texts)
place_within texts task number r =
    let last = r.last in
    let within = slice_get_within (words_in texts) (length (words_in texts) - 1) r.file (asks_last (words_in texts) task r.file r.asked) in
    let many : length (words_in texts) ≡ length texts = length-map texts _ in
    (omega arith, omega arith)

-- words that name no file ask for none
pub no_file : (words : List Word) (task : Task) (number : ℕ) → AsksFile words task number → NamesNoFile words → ⊥
no_file words task number r none = none r.file (task, r.asked)

-- an input by numbers is a made source
pub asks_made : (words : List Word) (task : Task) (seed size : ℕ) → AsksOf words task (Made seed size) → Asks words task (from_made seed size)
asks_made words task seed size (from_file file, asked, is) = absurd is
asks_made words task seed size (from_made s z, asked, (seeds, sizes)) = subst (λ n. Asks words task (from_made n size)) (sym seeds) (subst (λ n. Asks words task (from_made s n)) (sym sizes) asked)

pub made_within : (words : List Word) (task : Task) (seed size : ℕ) → Asks words task (from_made seed size) → (numbers : List Word) × AreSeedAndSize numbers seed size
made_within words Check seed size asked = absurd asked
made_within words (Run o fails) seed size asked = run_made words o fails seed size asked
made_within words (Traced goal o fails) seed size asked = absurd asked

command_task : (v : Verb) (words : List Word) (o : Options) (fails : List FailAt) (x : Operands) → IsCommand v words o fails x → IsRunTask o fails
command_task v words o fails x asked =
    let within = command_within v words o fails x asked in
    record { least = within.least_images; most = within.most_images; steps = within.most_steps; failures = command_images v words o fails x asked }

pub task_within : (words : List Word) (task : Task) (input : Input) → AsksOf words task input → IsTask task
task_within words Check input asked = tt
task_within words (Run o fails) input (origin, asked, is) = command_task verbs.Run words o fails (of_source origin) asked
task_within words (Traced goal o fails) input (from_file file, (trace, asked), is) = command_task (verbs.Traced goal) words o fails (of_trace trace file) asked
task_within words (Traced goal o fails) input (from_made seed size, asked, is) = absurd asked
