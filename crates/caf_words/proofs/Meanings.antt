-- Words mean one command.
use Rattle.std.proofs.Common.{◌≡◌, ℕ, ◌≤◌, List, [], ◌∷◌, ◌++◌, length, refl, sym, ap, ◌∙◌, subst, arith, ◌-◌, suc}
use Rattle.std.specs.Prelude.{slice_get, Some, ⊤}
use Rattle.std.specs.List.{AllByRecursion}
use Rattle.caf_words.specs.Usages.{Word}
use Rattle.caf_words.specs.Words.{Origin, Operands, IsOption, AreSeedAndSize, IsOrigin, AreOperands, IsRest, IsCommand, IsRun, IsCheck, IsMake, IsInput, ArePlaces, Means, verb_word, nothing, told, is_summed, given_or}
use Rattle.caf_words.specs.Words.Origin.{from_file, from_made}
use Rattle.caf_words.specs.Words.IsOption.{images, workers, order, steps, fail, show_trace, show_vars, show_why, show_every}
use Rattle.caf_words.specs.Words.IsRest.{operands_last, option_next}
use Rattle.caf_words.specs.Words.Operands.{of_source, of_trace}
use Rattle.caf_words.specs.declared.options.Given.{Given}
use Rattle.caf_words.specs.declared.command.FailAt.{FailAt}
use Rattle.caf_words.specs.declared.command.Options.{Options}
use Rattle.caf_words.specs.declared.command.Command.{Command}
use Rattle.caf_words.specs.declared.command.Command.TheVariants.{Run, Traced, Check, Make}
use Rattle.caf_words.specs.declared.command.Places.{Places}
use Rattle.caf_words.specs.declared.command.Verb.{Verb}
use Rattle.caf_words.specs.declared.command.Verb.TheVariants as verbs
use Rattle.caf_words.specs.declared.command.Input.{Input}
use Rattle.caf_words.specs.declared.command.Input.TheVariants.{File, Made}
use Rattle.caf_words.proofs.Firsts.{verb_once, verb_no_check, verb_no_make}
use Rattle.caf_words.proofs.Forms.{keyed, flagged, form_of, by_operands, by_key, by_flag, first_is, no_operands, no_flag_operands, flag_once, operands_first, operands_named, one_operands, one_seed_and_size, key_same, key_or_flag, gives_once}

-- what a run is told, which failures are named, and where its source comes from
pub record Same (o : Options) (fails : List FailAt) (origin : Origin) (o' : Options) (fails' : List FailAt) (origin' : Origin) : Type 0 where
  pub options : o ≡ o'
  pub failures : fails ≡ fails'
  pub source : origin ≡ origin'

-- a command's verb, what it is told, which failures are named, and its operands
pub record SameCommand (v : Verb) (o : Options) (fails : List FailAt) (x : Operands) (w : Verb) (o' : Options) (fails' : List FailAt) (y : Operands) : Type 0 where
  pub verb : v ≡ w
  pub options : o ≡ o'
  pub failures : fails ≡ fails'
  pub operands : x ≡ y

-- the rest of a command means one thing
one_rest : (v : Verb) (g : Given) (words : List Word) (o : Options) (fails : List FailAt) (x : Operands) → IsRest v g words o fails x → (o' : Options) (fails' : List FailAt) (y : Operands)
    → IsRest v g words o' fails' y → SameCommand v o fails x v o' fails' y
one_rest v _ _ _ _ _ (operands_last g words x is) o' fails' y other =
    let f = operands_first v words x is in
    elim (first_is v g words o' fails' y other f.first f.behind f.form) [
      | by_operands i none is' ↦
          let same : x ≡ y = one_operands v words x y is (subst (λ w. AreOperands v w y) (sym f.form) is') in
          record { verb = refl; options = ap (λ x. told g (is_summed x)) same ∙ sym i; failures = sym none; operands = same }
      | by_key k value behind h some more key e gives next all ↦ absurd (no_operands v g f.first k key f.begins)
      | by_flag h flag next ↦ absurd (no_flag_operands v g h f.first flag f.begins)
    ]
one_rest v _ _ _ _ _ (option_next g h option some behind o more x is next) o' fails' y other = elim (form_of v g h option some is) [
  | keyed k key value form is_key gives ↦ elim (first_is v g (option ++ behind) o' fails' y other key (value ∷ behind) (rw form refl)) [
    | by_operands i none named ↦ absurd (no_operands v g key k is_key (operands_named v key (value ∷ behind) y named))
    | by_key l value' behind' h' some' more' is_key' e gives' next' all ↦
        let same : k ≡ l = key_same v g key k l is_key is_key' in
        let same_value : value ≡ value' = cc e in
        let same_rest : behind ≡ behind' = cc e in
        let gift = gives_once g k value h h' some some' gives (rw (same, same_value) gives') in
        let tail = one_rest v h behind o more x next o' more' y (rw (gift.given, same_rest) next') in
        record { verb = refl; options = tail.options; failures = rw (gift.failures, tail.failures) (sym all); operands = tail.operands }
    | by_flag h' flag next' ↦ absurd (key_or_flag v g h' key k is_key flag)
  ]
  | flagged key form flag none ↦ elim (first_is v g (option ++ behind) o' fails' y other key behind (rw form refl)) [
    | by_operands i no_fails named ↦ absurd (no_flag_operands v g h key flag (operands_named v key behind y named))
    | by_key l value' behind' h' some' more' is_key' e gives' next' all ↦ absurd (key_or_flag v g h key l is_key' flag)
    | by_flag h' flag' next' ↦
        let same : h ≡ h' = flag_once v g h h' key flag flag' in
        let tail = one_rest v h behind o more x next o' fails' y (rw same next') in
        record { verb = refl; options = tail.options; failures = rw none tail.failures; operands = tail.operands }
  ]
]

-- a command has one meaning
pub one_command : (v w : Verb) (words : List Word) (o : Options) (fails : List FailAt) (x : Operands) (o' : Options) (fails' : List FailAt) (y : Operands) → IsCommand v words o fails x → IsCommand w words o' fails' y
    → SameCommand v o fails x w o' fails' y
one_command v w words o fails x o' fails' y first second =
    let verbs : v ≡ w = verb_once v w (cc (first.form, second.form)) in
    let same : first.rest ≡ second.rest = cc (first.form, second.form) in
    let rest = one_rest v nothing first.rest o fails x first.options o' fails' y (rw (verbs, same) second.options) in
    record { verb = verbs; options = rest.options; failures = rest.failures; operands = rest.operands }

-- a run has one meaning
pub one_run : (words : List Word) (o : Options) (fails : List FailAt) (origin : Origin) (o' : Options) (fails' : List FailAt) (origin' : Origin) → IsRun words o fails origin → IsRun words o' fails' origin'
    → Same o fails origin o' fails' origin'
one_run words o fails origin o' fails' origin' first second =
    let same = one_command verbs.Run verbs.Run words o fails (of_source origin) o' fails' (of_source origin') first second in
    record { options = same.options; failures = same.failures; source = cc (same.operands) }

-- no words are a command with options and a check, such a command and a make, or a check and a make; nor a run and a
-- command with a trace
pub not_command_and_check : (v : Verb) (words : List Word) (o : Options) (fails : List FailAt) (x : Operands) (file : Word) → IsCommand v words o fails x → IsCheck words file → ⊥
not_command_and_check v words o fails x file command check = verb_no_check v (cc (command.form, check.form))

pub not_command_and_make : (v : Verb) (words : List Word) (o : Options) (fails : List FailAt) (x : Operands) (seed size : ℕ) → IsCommand v words o fails x → IsMake words seed size → ⊥
not_command_and_make v words o fails x seed size command make = verb_no_make v (cc (command.form, make.form))

pub not_run_and_trace : (v : Verb) (words : List Word) (o : Options) (fails : List FailAt) (origin : Origin) (o' : Options) (fails' : List FailAt) (trace file : Word) → IsRun words o fails origin
    → IsCommand v words o' fails' (of_trace trace file) → ⊥
not_run_and_trace v words o fails origin o' fails' trace file run command =
    let same = one_command verbs.Run v words o fails (of_source origin) o' fails' (of_trace trace file) run command in cc (same.operands)

pub not_both : (words : List Word) (o : Options) (fails : List FailAt) (origin : Origin) (file : Word) → IsRun words o fails origin → IsCheck words file → ⊥
not_both words o fails origin file run check = not_command_and_check verbs.Run words o fails (of_source origin) file run check

pub not_run_and_make : (words : List Word) (o : Options) (fails : List FailAt) (origin : Origin) (seed size : ℕ) → IsRun words o fails origin → IsMake words seed size → ⊥
not_run_and_make words o fails origin seed size run make = not_command_and_make verbs.Run words o fails (of_source origin) seed size run make

pub not_check_and_make : (words : List Word) (file : Word) (seed size : ℕ) → IsCheck words file → IsMake words seed size → ⊥
not_check_and_make words file seed size check make = cc (check.form, make.form)

-- words make one source
pub one_make : (words : List Word) (seed size seed' size' : ℕ) → IsMake words seed size → IsMake words seed' size' → (seed ≡ seed') × (size ≡ size')
one_make words seed size seed' size' first second =
    let same : first.numbers ≡ second.numbers = cc (first.form, second.form) in
    one_seed_and_size first.numbers seed size seed' size' first.are (rw same second.are)

one_input : (origin : Origin) (last : ℕ) (a b : Input) → IsInput origin last a → IsInput origin last b → a ≡ b
one_input (from_file file) last (File word) (File word') first second = ap File (first ∙ sym second)
one_input (from_file file) last (File word) (Made seed size) first second = absurd second
one_input (from_file file) last (Made seed size) b first second = absurd first
one_input (from_made seed size) last (File word) b first second = absurd first
one_input (from_made seed size) last (Made s z) (File word) first second = absurd second
one_input (from_made seed size) last (Made s z) (Made s' z') first second =
    let seeds : s ≡ s' = first.0 ∙ sym second.0 in
    let sizes : z ≡ z' = first.1 ∙ sym second.1 in
    cc (seeds, sizes)

one_places : (last : ℕ) (a b : Places) → ArePlaces last a → ArePlaces last b → a ≡ b
one_places last a b first second =
    let traces : a.trace ≡ b.trace = omega (arith, first.trace, second.trace) in
    let files : a.file ≡ b.file = first.file ∙ sym second.file in
    ap (λ t. places t a.file) traces ∙ ap (λ f. places b.trace f) files
  where
    places : ℕ → ℕ → Places
    places t f = record { trace = t; file = f }

pub one_meaning : (words : List Word) (a b : Command) → Means words a → Means words b → a ≡ b
one_meaning words (Run input fails o) (Run input' fails' o') (origin, run, of) (origin', run', of') =
    let same = one_run words o fails origin o' fails' origin' run run' in
    let inputs : input ≡ input' = one_input origin (length words) input input' of (subst (λ s. IsInput s (length words) input') (sym same.source) of') in
    cc (same.options, same.failures, inputs)
one_meaning words (Run input fails o) (Traced goal places fails' o') (origin, run, of) (trace, file, traced, are) = absurd (not_run_and_trace (verbs.Traced goal) words o fails origin o' fails' trace file run traced)
one_meaning words (Run input fails o) (Check word) first second = absurd (not_both words o fails first.0 second.0 first.1 second.1)
one_meaning words (Run input fails o) (Make seed size) first second = absurd (not_run_and_make words o fails first.0 seed size first.1 second)
one_meaning words (Traced goal places fails o) (Run input fails' o') (trace, file, traced, are) (origin, run, of) = absurd (not_run_and_trace (verbs.Traced goal) words o' fails' origin o fails trace file run traced)
one_meaning words (Traced goal places fails o) (Traced goal' places' fails' o') (trace, file, traced, are) (trace', file', traced', are') =
    let same = one_command (verbs.Traced goal) (verbs.Traced goal') words o fails (of_trace trace file) o' fails' (of_trace trace' file') traced traced' in
    let goals : goal ≡ goal' = cc (same.verb) in
    let there : places ≡ places' = one_places (length words) places places' are are' in
    cc (goals, same.options, same.failures, there)
one_meaning words (Traced goal places fails o) (Check word) (trace, file, traced, are) (other, check, last) =
    absurd (not_command_and_check (verbs.Traced goal) words o fails (of_trace trace file) other traced check)
one_meaning words (Traced goal places fails o) (Make seed size) (trace, file, traced, are) make =
    absurd (not_command_and_make (verbs.Traced goal) words o fails (of_trace trace file) seed size traced make)
one_meaning words (Check word) (Run input fails o) first second = absurd (not_both words o fails second.0 first.0 second.1 first.1)
one_meaning words (Check word) (Traced goal places fails o) (other, check, last) (trace, file, traced, are) =
    absurd (not_command_and_check (verbs.Traced goal) words o fails (of_trace trace file) other traced check)
one_meaning words (Check word) (Check word') first second =
    let place : word ≡ word' = first.2 ∙ sym second.2 in
    cc place
one_meaning words (Check word) (Make seed size) first second = absurd (not_check_and_make words first.0 seed size first.1 second)
one_meaning words (Make seed size) (Run input fails o) first second = absurd (not_run_and_make words o fails second.0 seed size second.1 first)
one_meaning words (Make seed size) (Traced goal places fails o) make (trace, file, traced, are) =
    absurd (not_command_and_make (verbs.Traced goal) words o fails (of_trace trace file) seed size traced make)
one_meaning words (Make seed size) (Check word) first second = absurd (not_check_and_make words second.0 seed size second.1 first)
one_meaning words (Make seed size) (Make seed' size') first second =
    let same = one_make words seed size seed' size' first second in
    cc (same.0, same.1)

-- a run is on 1 to 256 images of 1 to 100000000 statements
pub record IsWithin (n s : ℕ) : Type 0 where
  pub least_images : 1 ≤ n
  pub most_images : n ≤ 256
  pub least_steps : 1 ≤ s
  pub most_steps : s ≤ 100000000

abbrev AreWithin : Given → Type 0
AreWithin g = IsWithin (given_or 4 g.images) (given_or 1000000 g.steps)

option_within : (v : Verb) (g h : Given) (words : List Word) (some : List FailAt) → IsOption v g words h some → AreWithin g → AreWithin h
option_within v g _ _ _ (images n free low high) w = record { least_images = low; most_images = high; least_steps = w.least_steps; most_steps = w.most_steps }
option_within v g _ _ _ (workers n may free unordered low high) w = w
option_within v g _ _ _ (order s may free no_workers high) w = w
option_within v g _ _ _ (steps n free low high) w = record { least_images = w.least_images; most_images = w.most_images; least_steps = low; most_steps = high }
option_within v g _ _ _ (fail word f is) w = w
option_within v g _ _ _ (show_trace may free) w = w
option_within v g _ _ _ (show_vars may free) w = w
option_within v g _ _ _ (show_why may free) w = w
option_within v g _ _ _ (show_every may free) w = w

rest_within : (v : Verb) (g : Given) (words : List Word) (o : Options) (fails : List FailAt) (x : Operands) → IsRest v g words o fails x → AreWithin g → IsWithin o.images o.steps
rest_within v _ _ _ _ _ (operands_last g words x is) w = w
rest_within v _ _ _ _ _ (option_next g h option some behind o more x is next) w = rest_within v h behind o more x next (option_within v g h option some is w)

pub command_within : (v : Verb) (words : List Word) (o : Options) (fails : List FailAt) (x : Operands) → IsCommand v words o fails x → IsWithin o.images o.steps
command_within v words o fails x command =
    rest_within v nothing command.rest o fails x command.options (record { least_images = omega arith; most_images = omega arith; least_steps = omega arith; most_steps = omega arith })

pub run_within : (words : List Word) (o : Options) (fails : List FailAt) (origin : Origin) → IsRun words o fails origin → IsWithin o.images o.steps
run_within words o fails origin run = command_within verbs.Run words o fails (of_source origin) run

-- its failures are of images from 1 to 256
abbrev pub IsOfImage : FailAt → Type 0
IsOfImage f = (1 ≤ f.image) × (f.image ≤ 256)

option_images : (v : Verb) (g h : Given) (words : List Word) (some more : List FailAt) → IsOption v g words h some → AllByRecursion IsOfImage more → AllByRecursion IsOfImage (some ++ more)
option_images v g _ _ _ more (images n free low high) all = all
option_images v g _ _ _ more (workers n may free unordered low high) all = all
option_images v g _ _ _ more (order s may free no_workers high) all = all
option_images v g _ _ _ more (steps n free low high) all = all
option_images v g _ _ _ more (fail word f is) all = ((is.least_image, is.most_image), all)
option_images v g _ _ _ more (show_trace may free) all = all
option_images v g _ _ _ more (show_vars may free) all = all
option_images v g _ _ _ more (show_why may free) all = all
option_images v g _ _ _ more (show_every may free) all = all

rest_images : (v : Verb) (g : Given) (words : List Word) (o : Options) (fails : List FailAt) (x : Operands) → IsRest v g words o fails x → AllByRecursion IsOfImage fails
rest_images v _ _ _ _ _ (operands_last g words x is) = tt
rest_images v _ _ _ _ _ (option_next g h option some behind o more x is next) = option_images v g h option some more is (rest_images v h behind o more x next)

pub command_images : (v : Verb) (words : List Word) (o : Options) (fails : List FailAt) (x : Operands) → IsCommand v words o fails x → AllByRecursion IsOfImage fails
command_images v words o fails x command = rest_images v nothing command.rest o fails x command.options

pub run_images : (words : List Word) (o : Options) (fails : List FailAt) (origin : Origin) → IsRun words o fails origin → AllByRecursion IsOfImage fails
run_images words o fails origin run = command_images verbs.Run words o fails (of_source origin) run

-- FILE is the last word, and TRACE the last but one
later : (a : Word) (rest : List Word) (i : ℕ) (file : Word) → 1 ≤ i → i ≤ length rest → slice_get rest (length rest - i) ≡ Some file → slice_get (a ∷ rest) (length (a ∷ rest) - i) ≡ Some file
later a rest i file some few last =
    let e : length (a ∷ rest) - i ≡ suc (length rest - i) = omega arith in
    rw e last

-- the word stands at this place from the end, where 1 is the last
record IsFromEnd (i : ℕ) (words : List Word) (word : Word) : Type 0 where
  pub some : 1 ≤ i
  pub few : i ≤ length words
  pub there : slice_get words (length words - i) ≡ Some word

from_end_more : (i : ℕ) (front words : List Word) (word : Word) → IsFromEnd i words word → IsFromEnd i (front ++ words) word
from_end_more i [] words word is = is
from_end_more i (a ∷ front) words word is =
    let l = from_end_more i front words word is in
    record { some = l.some; few = omega (arith, l.few); there = later a (front ++ words) i word l.some l.few l.there }

-- what the operands say stands at the end of the words
abbrev AreAtEnd : Operands → List Word → Type 0
AreAtEnd (of_source (from_file file)) words = IsFromEnd 1 words file
AreAtEnd (of_source (from_made seed size)) words = ⊤
AreAtEnd (of_trace trace file) words = IsFromEnd 2 words trace × IsFromEnd 1 words file

end_more : (x : Operands) (front words : List Word) → AreAtEnd x words → AreAtEnd x (front ++ words)
end_more (of_source (from_file file)) front words is = from_end_more 1 front words file is
end_more (of_source (from_made seed size)) front words is = tt
end_more (of_trace trace file) front words (first, second) = (from_end_more 2 front words trace first, from_end_more 1 front words file second)

operands_at_end : (v : Verb) (words : List Word) (x : Operands) → AreOperands v words x → AreAtEnd x words
operands_at_end verbs.Run words (of_source (from_file file)) (form, name) = rw form (record { some = omega arith; few = omega arith; there = refl })
operands_at_end verbs.Run words (of_source (from_made seed size)) is = tt
operands_at_end verbs.Run words (of_trace trace file) is = absurd is
operands_at_end (verbs.Traced goal) words (of_source origin) is = absurd is
operands_at_end (verbs.Traced goal) words (of_trace trace file) is =
    rw is.form (record { some = omega arith; few = omega arith; there = refl }, record { some = omega arith; few = omega arith; there = refl })

rest_at_end : (v : Verb) (g : Given) (words : List Word) (o : Options) (fails : List FailAt) (x : Operands) → IsRest v g words o fails x → AreAtEnd x words
rest_at_end v _ _ _ _ _ (operands_last g words x is) = operands_at_end v words x is
rest_at_end v _ _ _ _ _ (option_next g h option some behind o more x is next) = end_more x option behind (rest_at_end v h behind o more x next)

command_at_end : (v : Verb) (words : List Word) (o : Options) (fails : List FailAt) (x : Operands) → IsCommand v words o fails x → AreAtEnd x words
command_at_end v words o fails x command = rw command.form (end_more x (verb_word v ∷ []) command.rest (rest_at_end v nothing command.rest o fails x command.options))

pub run_last : (words : List Word) (o : Options) (fails : List FailAt) (file : Word) → IsRun words o fails (from_file file) → slice_get words (length words - 1) ≡ Some file
run_last words o fails file run = let l = command_at_end verbs.Run words o fails (of_source (from_file file)) run in l.there

pub traced_last : (v : Verb) (words : List Word) (o : Options) (fails : List FailAt) (trace file : Word) → IsCommand v words o fails (of_trace trace file)
    → (2 ≤ length words) × (slice_get words (length words - 2) ≡ Some trace) × (slice_get words (length words - 1) ≡ Some file)
traced_last v words o fails trace file traced = let l = command_at_end v words o fails (of_trace trace file) traced in (l.0.few, l.0.there, l.1.there)

pub check_last : (words : List Word) (file : Word) → IsCheck words file → slice_get words (length words - 1) ≡ Some file
check_last words file check = rw check.form refl

-- the numbers of a made source are within their bounds
operands_within : (words : List Word) (x : Operands) → AreOperands verbs.Run words x → (seed size : ℕ) → x ≡ of_source (from_made seed size) → (numbers : List Word) × AreSeedAndSize numbers seed size
operands_within words x is seed size e = let made : IsOrigin words (from_made seed size) = subst (λ s. AreOperands verbs.Run words s) e is in (made.0, made.2)

rest_made : (g : Given) (words : List Word) (o : Options) (fails : List FailAt) (x : Operands) → IsRest verbs.Run g words o fails x → (seed size : ℕ) → x ≡ of_source (from_made seed size)
    → (numbers : List Word) × AreSeedAndSize numbers seed size
rest_made _ _ _ _ _ (operands_last g words x is) s z e = operands_within words x is s z e
rest_made _ _ _ _ _ (option_next g h option some behind o more x is next) s z e = rest_made h behind o more x next s z e

pub run_made : (words : List Word) (o : Options) (fails : List FailAt) (seed size : ℕ) → IsRun words o fails (from_made seed size) → (numbers : List Word) × AreSeedAndSize numbers seed size
run_made words o fails seed size run = rest_made nothing run.rest o fails (of_source (from_made seed size)) run.options seed size refl
