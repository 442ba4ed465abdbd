-- The first word.
use Rattle.std.proofs.Common.{◌≡◌, ℕ, suc, ◌+◌, ◌<◌, List, [], ◌∷◌, length, get_or, cond, eqb, refl, sym, ap, ◌∙◌, inl, inr, arith, zero-add, Result, Ok, Err, IfOk, IfErr, String, Global}
use Rattle.std.specs.Prelude.{codes, string_bytes}
use Rattle.std.proofs.lemmas.List.{length-map}
use Rattle.caf_base.specs.declared.refusal.Refusal.{Refusal}
use Rattle.caf_base.specs.declared.refusal.Refusal.TheVariants.{NoMemory, Cause}
use Rattle.caf_words.specs.Usages.{Word, Begins, UsageOf}
use Rattle.caf_words.specs.Words.{words_in, nothing, verb_word, IsValid, UsageIs, Means, CommandsWithFailure}
use Rattle.caf_words.specs.Readings.{Rests, CommandFrom, FileAlone, MadeAlone, IsRefusedFrom, RestsWithFailure, IsMisread}
use Rattle.caf_words.specs.declared.words.Usage.{Usage}
use Rattle.caf_words.specs.declared.command.Command.{Command}
use Rattle.caf_words.specs.declared.command.Command.TheVariants.{Run, Traced, Check, Make}
use Rattle.caf_words.specs.declared.command.Goal.TheVariants.{Judge, Replay}
use Rattle.caf_words.specs.declared.command.Verb.{Verb}
use Rattle.caf_words.specs.declared.command.Verb.TheVariants as verbs
use Rattle.caf_words.specs.Words.Operands.{of_source, of_trace}
use Rattle.caf_words.proofs.Usages.{usage_none, usage_first, usage_behind, usage_once, usage_invalid}
use Rattle.caf_words.proofs.Forms.{alone_begins}

valid_begins : Begins IsValid []
valid_begins = let (rest, alone) = alone_begins in (codes "check" ∷ rest, inr (inl (alone.0, record { form = ap (λ l. codes "check" ∷ l) alone.1; name = alone.2 })))

valid_none : IsValid [] → ⊥
valid_none (inl (v, o, fails, x, command)) = cc command.form
valid_none (inr (inl (file, check))) = cc check.form
valid_none (inr (inr (seed, size, make))) = cc make.form

-- verbs are told apart by their first letters, and from `check` and `make`
abbrev letters : Word → ℕ
letters word = get_or word 0 0 + get_or word 1 0

abbrev verb_told : ℕ → Verb
verb_told n = cond (eqb n 231) verbs.Run (cond (eqb n 223) (verbs.Traced Judge) (verbs.Traced Replay))

told_verb : (v : Verb) → verb_told (letters (verb_word v)) ≡ v
told_verb verbs.Run = refl
told_verb (verbs.Traced Judge) = refl
told_verb (verbs.Traced Replay) = refl

pub verb_once : (v w : Verb) → verb_word v ≡ verb_word w → v ≡ w
verb_once v w e = sym (told_verb v) ∙ ap (λ word. verb_told (letters word)) e ∙ told_verb w

verb_other : (v : Verb) (n : ℕ) → letters (verb_word v) ≡ n → n < 215 → ⊥
verb_other verbs.Run n e low = omega (arith, e, low)
verb_other (verbs.Traced Judge) n e low = omega (arith, e, low)
verb_other (verbs.Traced Replay) n e low = omega (arith, e, low)

pub verb_no_check : (v : Verb) → verb_word v ≡ codes "check" → ⊥
verb_no_check v e = verb_other v 203 (ap letters e) (omega arith)

pub verb_no_make : (v : Verb) → verb_word v ≡ codes "make" → ⊥
verb_no_make v e = verb_other v 206 (ap letters e) (omega arith)

command_onward : (v : Verb) (rest : List Word) → Rests v nothing rest → IsValid (verb_word v ∷ rest)
command_onward v rest (o, fails, x, options) = inl (v, o, fails, x, record { rest = rest; form = refl; options = options })

command_back : (v : Verb) (rest : List Word) → IsValid (verb_word v ∷ rest) → Rests v nothing rest
command_back v rest (inl (w, o, fails, x, command)) =
    let word : verb_word v ≡ verb_word w = cc command.form in
    let e : rest ≡ command.rest = cc command.form in
    (o, fails, x, rw (verb_once v w word, e) command.options)
command_back v rest (inr (inl (file, check))) = absurd (verb_no_check v (cc check.form))
command_back v rest (inr (inr (seed, size, make))) = absurd (verb_no_make v (cc make.form))

check_onward : (rest : List Word) → FileAlone rest → IsValid (codes "check" ∷ rest)
check_onward rest (file, form, name) = inr (inl (file, record { form = ap (λ l. codes "check" ∷ l) form; name = name }))

check_back : (rest : List Word) → IsValid (codes "check" ∷ rest) → FileAlone rest
check_back rest (inl (v, o, fails, x, command)) = let e : codes "check" ≡ verb_word v = cc command.form in absurd (verb_no_check v (sym e))
check_back rest (inr (inl (file, check))) = (file, cc check.form, check.name)
check_back rest (inr (inr (seed, size, make))) = cc make.form

make_onward : (rest : List Word) → MadeAlone rest → IsValid (codes "make" ∷ rest)
make_onward rest (seed, size, are) = inr (inr (seed, size, record { numbers = rest; form = refl; are = are }))

make_back : (rest : List Word) → IsValid (codes "make" ∷ rest) → MadeAlone rest
make_back rest (inl (v, o, fails, x, command)) = let e : codes "make" ≡ verb_word v = cc command.form in absurd (verb_no_make v (sym e))
make_back rest (inr (inl (file, check))) = cc check.form
make_back rest (inr (inr (seed, size, make))) = let e : rest ≡ make.numbers = cc make.form in (seed, size, rw e make.are)

other_first : (word : Word) → ((v : Verb) → word ≡ verb_word v → ⊥) → (word ≡ codes "check" → ⊥) → (word ≡ codes "make" → ⊥) → (rest : List Word) → IsValid (word ∷ rest) → ⊥
other_first word no_verb no_check no_make rest (inl (v, o, fails, x, command)) = no_verb v (cc command.form)
other_first word no_verb no_check no_make rest (inr (inl (file, check))) = no_check (cc check.form)
other_first word no_verb no_check no_make rest (inr (inr (seed, size, make))) = no_make (cc make.form)

pub usage_nothing : UsageOf IsValid [] 1
usage_nothing = usage_none IsValid valid_begins valid_none

pub usage_other : (word : Word) (words : List Word) → ((v : Verb) → word ≡ verb_word v → ⊥) → (word ≡ codes "check" → ⊥) → (word ≡ codes "make" → ⊥) → UsageOf IsValid (word ∷ words) 1
usage_other word words no_verb no_check no_make = usage_first IsValid word words valid_begins (λ rest v. other_first word no_verb no_check no_make rest v)

-- what goes wrong behind the first word
refused_behind : (V : List Word → Type 0) (word : Word) (words : List Word) (r : Refusal Usage) → ((rest : List Word) → V rest → IsValid (word ∷ rest)) → ((rest : List Word) → IsValid (word ∷ rest) → V rest)
    → IsRefusedFrom V words 1 r → IsRefusedFrom IsValid (word ∷ words) 0 r
refused_behind V word words r onward back (k, usage, told) =
    let far : 1 + k ≡ 0 + suc k = omega arith in
    (suc k, usage_behind IsValid V word words k valid_begins onward back usage, told ∙ ap (λ m. Cause (record { word = m })) far)

misread_command : (v : Verb) (words : List Word) (r : Refusal Usage) → IsMisread (Rests v nothing) (RestsWithFailure v) words 1 r → IsMisread IsValid CommandsWithFailure (verb_word v ∷ words) 0 r
misread_command v words r (inl refused) = inl (refused_behind (Rests v nothing) (verb_word v) words r (command_onward v) (command_back v) refused)
misread_command v words r (inr (short, (o, fails, x, is, some))) = inr (short, (v, o, fails, x, record { rest = words; form = refl; options = is }, some))

pub misread_behind_verb : (v : Verb) (words behind : List (String Global)) (first : String Global) (r : Result Command (Refusal Usage)) → words ≡ first ∷ behind → string_bytes first ≡ verb_word v
    → IfErr r (IsMisread (Rests v nothing) (RestsWithFailure v) (words_in behind) 1) → IfErr r (IsMisread IsValid CommandsWithFailure (words_in words) 0)
misread_behind_verb v words behind first (Ok c) e is misread = misread
misread_behind_verb v words behind first (Err x) e is misread = rw (e, is) (misread_command v (words_in behind) x misread)

-- what words behind a verb mean, they mean with it
means_command : (v : Verb) (words : List Word) (last : ℕ) (c : Command) → last ≡ length (verb_word v ∷ words) → CommandFrom v words last c → Means (verb_word v ∷ words) c
means_command v words last (Run input fails o) at_last (is_run, origin, is, tells) =
    rw is_run (origin, record { rest = words; form = refl; options = rw is_run at is }, rw at_last at tells)
means_command v words last (Traced goal places fails o) at_last (is_traced, trace, file, is, are) =
    rw is_traced (trace, file, record { rest = words; form = refl; options = rw is_traced at is }, rw at_last at are)
means_command v words last (Check word) at_last from = absurd from
means_command v words last (Make seed size) at_last from = absurd from

pub means_behind_verb : (v : Verb) (words behind : List (String Global)) (first : String Global) (r : Result Command (Refusal Usage)) → words ≡ first ∷ behind → string_bytes first ≡ verb_word v
    → IfOk r (CommandFrom v (words_in behind) (1 + length behind)) → IfOk r (Means (words_in words))
means_behind_verb v words behind first (Ok c) e is from =
    let long : 1 + length behind ≡ length (verb_word v ∷ words_in behind) = omega (arith, length-map behind string_bytes) in
    rw (e, is) (means_command v (words_in behind) (1 + length behind) c long from)
means_behind_verb v words behind first (Err x) e is from = from

pub misread_behind_check : (words behind : List (String Global)) (first : String Global) (r : Result Command (Refusal Usage)) → words ≡ first ∷ behind → string_bytes first ≡ codes "check"
    → IfErr r (IsRefusedFrom FileAlone (words_in behind) 1) → IfErr r (IsMisread IsValid CommandsWithFailure (words_in words) 0)
misread_behind_check words behind first (Ok c) e is refused = refused
misread_behind_check words behind first (Err x) e is refused = inl (rw (e, is) (refused_behind FileAlone (codes "check") (words_in behind) x check_onward check_back refused))

pub misread_behind_make : (words behind : List (String Global)) (first : String Global) (r : Result Command (Refusal Usage)) → words ≡ first ∷ behind → string_bytes first ≡ codes "make"
    → IfErr r (IsRefusedFrom MadeAlone (words_in behind) 1) → IfErr r (IsMisread IsValid CommandsWithFailure (words_in words) 0)
misread_behind_make words behind first (Ok c) e is refused = refused
misread_behind_make words behind first (Err x) e is refused = inl (rw (e, is) (refused_behind MadeAlone (codes "make") (words_in behind) x make_onward make_back refused))

-- words that mean a command are valid
means_valid : (words : List Word) (c : Command) → Means words c → IsValid words
means_valid words (Run input fails o) (origin, run, last) = inl (verbs.Run, o, fails, of_source origin, run)
means_valid words (Traced goal places fails o) (trace, file, traced, are) = inl (verbs.Traced goal, o, fails, of_trace trace file, traced)
means_valid words (Check word) (file, check, last) = inr (inl (file, check))
means_valid words (Make seed size) make = inr (inr (seed, size, make))

-- valid words mean a command, or there was no memory
pub valid_short : (words : List Word) (r : Result Command (Refusal Usage)) → IfErr r (IsMisread IsValid CommandsWithFailure words 0) → IsValid words → IfErr r (λ refusal. refusal ≡ NoMemory)
valid_short words (Ok c) misread valid = tt
valid_short words (Err x) (inl (k, usage, told)) valid = absurd (usage_invalid IsValid words k usage valid)
valid_short words (Err x) (inr short) valid = short.0

-- the usage number is told
pub usage_told : (words : List Word) (r : Result Command (Refusal Usage)) → IfOk r (Means words) → IfErr r (IsMisread IsValid CommandsWithFailure words 0) → (k : ℕ) → UsageIs words k → r ≡ Err (Cause (record { word = k }))
usage_told words (Ok c) means misread k usage = absurd (usage_invalid IsValid words k usage (means_valid words c means))
usage_told words (Err x) means (inl (n, other, told)) k usage =
    let same : 0 + n ≡ k = zero-add n ∙ usage_once IsValid words n k other usage in
    ap (λ e. Err e) (told ∙ ap (λ m. Cause (record { word = m })) same)
usage_told words (Err x) means (inr (short, (v, o, fails, y, command, some))) k usage = absurd (usage_invalid IsValid words k usage (inl (v, o, fails, y, command)))
