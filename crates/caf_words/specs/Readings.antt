-- What is read of words from a place on.
use Rattle.std.specs.Prelude.{ℕ, ◌≡◌, ◌≢◌, ◌≤◌, ◌+◌, ◌⊎◌, List, [], ◌∷◌, codes, length, take, Option, None, Some, false, true, ⊤}
use Rattle.std.specs.Fmt.{decimal}
use Rattle.caf_base.specs.declared.refusal.Refusal.{Refusal}
use Rattle.caf_base.specs.declared.refusal.Refusal.TheVariants.{NoMemory, Cause}
use Rattle.caf_words.specs.Usages.{Word, UsageOf}
use Rattle.caf_words.specs.Words.{Origin, Operands, MayOrder, MayShow, IsFileName, IsFailure, IsOption, AreSeedAndSize, IsOrigin, AreTraceAndFile, AreOperands, IsRest, IsInput, ArePlaces, nothing}
use Rattle.caf_words.specs.Words.Operands.{of_source, of_trace}
use Rattle.caf_words.specs.declared.words.Usage.{Usage}
use Rattle.caf_words.specs.declared.options.Given.{Given}
use Rattle.caf_words.specs.declared.options.Key.{Key}
use Rattle.caf_words.specs.declared.options.Key.TheVariants as keys
use Rattle.caf_words.specs.declared.options.Next.{Next}
use Rattle.caf_words.specs.declared.options.Next.TheVariants as nexts
use Rattle.caf_words.specs.declared.command.FailAt.{FailAt}
use Rattle.caf_words.specs.declared.command.Options.{Options}
use Rattle.caf_words.specs.declared.command.Command.{Command}
use Rattle.caf_words.specs.declared.command.Command.TheVariants.{Run, Traced, Check, Make}
use Rattle.caf_words.specs.declared.command.Input.{Input}
use Rattle.caf_words.specs.declared.command.Places.{Places}
use Rattle.caf_words.specs.declared.command.Verb.{Verb}
use Rattle.caf_words.specs.declared.command.Verb.TheVariants as verbs

-- words behind a verb and the options that are given so far
abbrev pub Rests : Verb → Given → List Word → Type 0
Rests v g words = (o : Options) × (fails : List FailAt) × (x : Operands) × IsRest v g words o fails x

-- words of a file's name alone
abbrev pub FileAlone : List Word → Type 0
FileAlone words = (file : Word) × (words ≡ file ∷ []) × IsFileName file

-- words of a SIZE alone; of a SEED and a SIZE; of what says where a run has its source from; of a TRACE and a FILE; of
-- a verb's operands
abbrev pub IsSize : List Word → ℕ → Type 0
IsSize words size = (words ≡ decimal size ∷ []) × (1 ≤ size) × (size ≤ 4096)

abbrev pub SizeAlone : List Word → Type 0
SizeAlone words = (size : ℕ) × IsSize words size

abbrev pub MadeAlone : List Word → Type 0
MadeAlone words = (seed : ℕ) × (size : ℕ) × AreSeedAndSize words seed size

abbrev pub OriginAlone : List Word → Type 0
OriginAlone words = (origin : Origin) × IsOrigin words origin

abbrev pub TraceAlone : List Word → Type 0
TraceAlone words = (trace : Word) × (file : Word) × AreTraceAndFile words trace file

abbrev pub OperandsAlone : Verb → List Word → Type 0
OperandsAlone v words = (x : Operands) × AreOperands v words x

-- the word of an option with a value
abbrev pub key_word : Key → Word
key_word keys.Images = codes "-n"
key_word keys.Workers = codes "-w"
key_word keys.Order = codes "--order"
key_word keys.Steps = codes "--steps"
key_word keys.Fail = codes "--fail"

-- the option may be given now
abbrev pub IsFree : Verb → Given → Key → Type 0
IsFree v g keys.Images = g.images ≡ None
IsFree v g keys.Workers = MayOrder v × (g.workers ≡ None) × (g.order ≡ None)
IsFree v g keys.Order = MayOrder v × (g.order ≡ None) × (g.workers ≡ None)
IsFree v g keys.Steps = g.steps ≡ None
IsFree v g keys.Fail = ⊤

-- a word is the key of an option with a value that may come next
abbrev pub IsNextKey : Verb → Given → Word → Key → Type 0
IsNextKey v g word k = (word ≡ key_word k) × IsFree v g k

-- a word is an option without a value that may come next, and these options are given then
abbrev pub Flags : Verb → Given → Word → Given → Type 0
Flags v g word h =
    ((word ≡ codes "--trace") × MayShow v × (g.trace ≡ false) × (h ≡ record g { trace = true }))
    ⊎ ((word ≡ codes "--vars") × MayShow v × (g.vars ≡ false) × (h ≡ record g { vars = true }))
    ⊎ ((word ≡ codes "--why") × MayShow v × (g.why ≡ false) × (h ≡ record g { why = true }))
    ⊎ ((word ≡ codes "--every") × MayShow v × (g.every ≡ false) × (h ≡ record g { every = true }))

-- a word is no option that may come next
pub record IsNoOption (v : Verb) (g : Given) (word : Word) : Type 0 where
  pub no_key : (k : Key) → ¬ IsNextKey v g word k
  pub no_flag : (h : Given) → ¬ Flags v g word h

-- a word gives an option its value; these options are given then, and these failures are named
abbrev pub Gives : Given → Key → Word → Given → List FailAt → Type 0
Gives g keys.Images word h named = (n : ℕ) × (word ≡ decimal n) × (1 ≤ n) × (n ≤ 256) × (h ≡ record g { images = Some n }) × (named ≡ [])
Gives g keys.Workers word h named = (n : ℕ) × (word ≡ decimal n) × (1 ≤ n) × (n ≤ 64) × (h ≡ record g { workers = Some n }) × (named ≡ [])
Gives g keys.Order word h named = (s : ℕ) × (word ≡ decimal s) × (s ≤ 2147483647) × (h ≡ record g { order = Some s }) × (named ≡ [])
Gives g keys.Steps word h named = (n : ℕ) × (word ≡ decimal n) × (1 ≤ n) × (n ≤ 100000000) × (h ≡ record g { steps = Some n }) × (named ≡ [])
Gives g keys.Fail word h named = (f : FailAt) × IsFailure word f × (h ≡ g) × (named ≡ f ∷ [])

-- the words behind the key of an option
abbrev pub BehindKey : Verb → Given → Key → List Word → Type 0
BehindKey v g k words = (word : Word) × (rest : List Word) × (h : Given) × (named : List FailAt) × (words ≡ word ∷ rest) × Gives g k word h named × Rests v h rest

-- the failure, where there is one, as a list
abbrev pub listed : Option FailAt → List FailAt
listed None = []
listed (Some f) = f ∷ []

-- the first word, where there is one, is no option that may come next
abbrev pub BeginsNoOption : Verb → Given → List Word → Type 0
BeginsNoOption v g [] = ⊤
BeginsNoOption v g (word ∷ words) = IsNoOption v g word

-- what stands next: an option of some of the words; no option; or a key without its value, with which the second word
-- goes wrong
abbrev pub IsNext : Verb → Given → List Word → Next → Type 0
IsNext v g words (nexts.Option t) = (1 ≤ t.words) × (t.words ≤ length words) × IsOption v g (take t.words words) t.given (listed t.fail)
IsNext v g words nexts.Operands = BeginsNoOption v g words
IsNext v g words nexts.WrongValue = (1 ≤ length words) × UsageOf (Rests v g) words 2

-- the failures that were named are kept, or there was no memory for the list of some
abbrev pub AreKept : Option (List FailAt) → List FailAt → Type 0
AreKept None named = named ≢ []
AreKept (Some fails) named = fails ≡ named

-- the input of a run that the words say, of so many words
abbrev pub IsInputOf : List Word → ℕ → Input → Type 0
IsInputOf words last input = (origin : Origin) × IsOrigin words origin × IsInput origin last input

-- the words say TRACE and FILE, which stand at these places, of so many words
abbrev pub ArePlacesOf : List Word → ℕ → Places → Type 0
ArePlacesOf words last places = TraceAlone words × ArePlaces last places

-- the words end a command of the verb, with what is given and the failures that are kept; FILE is the last of so many
-- words
abbrev pub EndsCommand : Verb → Given → List Word → ℕ → Option (List FailAt) → Command → Type 0
EndsCommand v g words last kept (Run input fails o) = (v ≡ verbs.Run) × (origin : Origin) × IsRest v g words o [] (of_source origin) × IsInput origin last input × (kept ≡ Some fails)
EndsCommand v g words last kept (Traced goal places fails o) =
    (v ≡ verbs.Traced goal) × (trace : Word) × (file : Word) × IsRest v g words o [] (of_trace trace file) × ArePlaces last places × (kept ≡ Some fails)
EndsCommand v g words last kept other = ⊥

-- the words behind a verb mean the command; FILE is the last of so many words
abbrev pub CommandFrom : Verb → List Word → ℕ → Command → Type 0
CommandFrom v words last (Run input fails o) = (v ≡ verbs.Run) × (origin : Origin) × IsRest v nothing words o fails (of_source origin) × IsInput origin last input
CommandFrom v words last (Traced goal places fails o) =
    (v ≡ verbs.Traced goal) × (trace : Word) × (file : Word) × IsRest v nothing words o fails (of_trace trace file) × ArePlaces last places
CommandFrom v words last other = ⊥

abbrev pub ChecksFrom : List Word → ℕ → Command → Type 0
ChecksFrom words last (Check word) = FileAlone words × (word ≡ last)
ChecksFrom words last other = ⊥

abbrev pub MakesFrom : List Word → Command → Type 0
MakesFrom words (Make seed size) = AreSeedAndSize words seed size
MakesFrom words other = ⊥

-- the refusal tells the usage number of words from a place on
abbrev pub IsRefusedFrom : (List Word → Type 0) → List Word → ℕ → Refusal Usage → Type 0
IsRefusedFrom Valid words place refusal = (k : ℕ) × UsageOf Valid words k × (refusal ≡ Cause (record { word = place + k }))

-- words behind a verb in which a failure is named
abbrev pub RestsWithFailure : Verb → List Word → Type 0
RestsWithFailure v words = (o : Options) × (fails : List FailAt) × (x : Operands) × IsRest v nothing words o fails x × (fails ≢ [])

-- the refusal tells the usage number of words from a place on, or there was no memory where failures are named
abbrev pub IsMisread : (List Word → Type 0) → (List Word → Type 0) → List Word → ℕ → Refusal Usage → Type 0
IsMisread Valid NamesFailure words place refusal = IsRefusedFrom Valid words place refusal ⊎ ((refusal ≡ NoMemory) × NamesFailure words)
