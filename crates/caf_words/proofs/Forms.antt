-- The words of a command, one by one.
use Rattle.std.proofs.Common.{◌≡◌, ◌≢◌, ◌⊎◌, ℕ, suc, ◌+◌, ◌≤◌, List, [], ◌∷◌, ◌++◌, length, get_or, refl, sym, ap, ◌∙◌, subst, inl, inr, arith, cond, eqb, String, Global}
use Rattle.std.specs.Prelude.{Some, codes, string_bytes}
use Rattle.std.specs.Fmt.{decimal}
use Rattle.std.proofs.lemmas.Fmt.{decimal_injective}
use Rattle.std.proofs.lemmas.List.{length-map}
use Rattle.caf_words.specs.Usages.{Word, Begins, UsageOf}
use Rattle.caf_words.specs.Words.{words_in, Origin, Operands, IsFileName, IsFailure, IsOption, AreSeedAndSize, IsOrigin, AreTraceAndFile, AreOperands, IsRest, told, is_summed}
use Rattle.caf_words.specs.Words.Origin.{from_file, from_made}
use Rattle.caf_words.specs.Words.Operands.{of_source, of_trace}
use Rattle.caf_words.specs.Words.IsOption.{images, workers, order, steps, fail, show_trace, show_vars, show_why, show_every}
use Rattle.caf_words.specs.Words.IsRest.{operands_last, option_next}
use Rattle.caf_words.specs.Readings.{Rests, FileAlone, IsSize, SizeAlone, MadeAlone, OriginAlone, TraceAlone, OperandsAlone, IsInputOf, ArePlacesOf, key_word, IsNextKey, Flags, IsNoOption, BeginsNoOption, Gives, BehindKey}
use Rattle.caf_words.specs.declared.options.Given.{Given}
use Rattle.caf_words.specs.declared.options.Key.{Key}
use Rattle.caf_words.specs.declared.options.Key.TheVariants as keys
use Rattle.caf_words.specs.declared.command.FailAt.{FailAt}
use Rattle.caf_words.specs.declared.command.Options.{Options}
use Rattle.caf_words.specs.declared.command.Goal.{Goal}
use Rattle.caf_words.specs.declared.command.Input.TheVariants.{Made}
use Rattle.caf_words.specs.declared.command.Verb.{Verb}
use Rattle.caf_words.specs.declared.command.Verb.TheVariants as verbs
use Rattle.caf_words.proofs.Failures.{one_failure}
use Rattle.caf_words.proofs.Usages.{usage_none, usage_first, usage_behind, usage_alike_none, usage_alike, usage_same}

a_is_name : IsFileName (codes "a")
a_is_name = λ (e : 97 ≡ 45). omega arith

-- options are told apart by their words
abbrev letters : Word → ℕ
letters word = get_or word 1 0 + get_or word 2 0

abbrev key_told : Word → Key
key_told word = cond (eqb (letters word) 110) keys.Images (cond (eqb (letters word) 119) keys.Workers (cond (eqb (letters word) 156) keys.Order (cond (eqb (letters word) 160) keys.Steps keys.Fail)))

told_key : (k : Key) → key_told (key_word k) ≡ k
told_key keys.Images = refl
told_key keys.Workers = refl
told_key keys.Order = refl
told_key keys.Steps = refl
told_key keys.Fail = refl

key_once : (k l : Key) → key_word k ≡ key_word l → k ≡ l
key_once k l e = sym (told_key k) ∙ ap key_told e ∙ told_key l

key_other : (k : Key) → ((n : ℕ) → letters (key_word k) ≡ n → (n ≡ 154) ⊎ (n ≡ 161) ⊎ (n ≡ 163) ⊎ (n ≡ 164) ⊎ (n ≡ 146) → ⊥)
key_other keys.Images n e odd = elim odd [ inl a ↦ omega arith | inr other ↦ elim other [ inl b ↦ omega arith | inr rest ↦ elim rest [ inl c ↦ omega arith | inr last ↦ elim last [ inl d ↦ omega arith | inr f ↦ omega arith ] ] ] ]
key_other keys.Workers n e odd = elim odd [ inl a ↦ omega arith | inr other ↦ elim other [ inl b ↦ omega arith | inr rest ↦ elim rest [ inl c ↦ omega arith | inr last ↦ elim last [ inl d ↦ omega arith | inr f ↦ omega arith ] ] ] ]
key_other keys.Order n e odd = elim odd [ inl a ↦ omega arith | inr other ↦ elim other [ inl b ↦ omega arith | inr rest ↦ elim rest [ inl c ↦ omega arith | inr last ↦ elim last [ inl d ↦ omega arith | inr f ↦ omega arith ] ] ] ]
key_other keys.Steps n e odd = elim odd [ inl a ↦ omega arith | inr other ↦ elim other [ inl b ↦ omega arith | inr rest ↦ elim rest [ inl c ↦ omega arith | inr last ↦ elim last [ inl d ↦ omega arith | inr f ↦ omega arith ] ] ] ]
key_other keys.Fail n e odd = elim odd [ inl a ↦ omega arith | inr other ↦ elim other [ inl b ↦ omega arith | inr rest ↦ elim rest [ inl c ↦ omega arith | inr last ↦ elim last [ inl d ↦ omega arith | inr f ↦ omega arith ] ] ] ]

-- what an option without a value is called
abbrev IsFlag : Word → Type 0
IsFlag word = (word ≡ codes "--trace") ⊎ (word ≡ codes "--vars") ⊎ (word ≡ codes "--why") ⊎ (word ≡ codes "--every")

flag_word : (v : Verb) (g h : Given) (word : Word) → Flags v g word h → IsFlag word
flag_word v g h word (inl is) = inl is.0
flag_word v g h word (inr (inl is)) = inr (inl is.0)
flag_word v g h word (inr (inr (inl is))) = inr (inr (inl is.0))
flag_word v g h word (inr (inr (inr is))) = inr (inr (inr is.0))

key_no_flag : (k : Key) (word : Word) → word ≡ key_word k → IsFlag word → ⊥
key_no_flag k word e (inl is) = key_other k 161 (ap letters (sym e ∙ is)) (inr (inl refl))
key_no_flag k word e (inr (inl is)) = key_other k 163 (ap letters (sym e ∙ is)) (inr (inr (inl refl)))
key_no_flag k word e (inr (inr (inl is))) = key_other k 164 (ap letters (sym e ∙ is)) (inr (inr (inr (inl refl))))
key_no_flag k word e (inr (inr (inr is))) = key_other k 146 (ap letters (sym e ∙ is)) (inr (inr (inr (inr refl))))

-- operands begin with a file's name or with `--made`
abbrev pub BeginsOperands : Word → Type 0
BeginsOperands word = IsFileName word ⊎ (word ≡ codes "--made")

-- options begin with `-`, and are no file's name
key_odd : (k : Key) → ¬ IsFileName (key_word k)
key_odd keys.Images name = name refl
key_odd keys.Workers name = name refl
key_odd keys.Order name = name refl
key_odd keys.Steps name = name refl
key_odd keys.Fail name = name refl

pub no_operands : (v : Verb) (g : Given) (word : Word) (k : Key) → IsNextKey v g word k → ¬ BeginsOperands word
no_operands v g word k is (inl name) = key_odd k (subst IsFileName is.0 name)
no_operands v g word k is (inr made) = key_other k 154 (ap letters (sym is.0 ∙ made)) (inl refl)

flag_odd : (word : Word) → IsFlag word → ¬ BeginsOperands word
flag_odd word (inl is) (inl name) = (subst IsFileName is name) refl
flag_odd word (inr (inl is)) (inl name) = (subst IsFileName is name) refl
flag_odd word (inr (inr (inl is))) (inl name) = (subst IsFileName is name) refl
flag_odd word (inr (inr (inr is))) (inl name) = (subst IsFileName is name) refl
flag_odd word (inl is) (inr made) = let l : ◌≡◌ {A = ℕ} 161 154 = ap letters (sym is ∙ made) in omega arith
flag_odd word (inr (inl is)) (inr made) = let l : ◌≡◌ {A = ℕ} 163 154 = ap letters (sym is ∙ made) in omega arith
flag_odd word (inr (inr (inl is))) (inr made) = let l : ◌≡◌ {A = ℕ} 164 154 = ap letters (sym is ∙ made) in omega arith
flag_odd word (inr (inr (inr is))) (inr made) = let l : ◌≡◌ {A = ℕ} 146 154 = ap letters (sym is ∙ made) in omega arith

pub no_flag_operands : (v : Verb) (g h : Given) (word : Word) → Flags v g word h → ¬ BeginsOperands word
no_flag_operands v g h word is begins = flag_odd word (flag_word v g h word is) begins

-- an option without a value gives one thing
pub flag_once : (v : Verb) (g h i : Given) (word : Word) → Flags v g word h → Flags v g word i → h ≡ i
flag_once v g h i word (inl first) (inl second) = first.3 ∙ sym second.3
flag_once v g h i word (inl first) (inr (inl second)) = let l : ◌≡◌ {A = ℕ} 161 163 = ap letters (sym first.0 ∙ second.0) in absurd (omega arith)
flag_once v g h i word (inl first) (inr (inr (inl second))) = let l : ◌≡◌ {A = ℕ} 161 164 = ap letters (sym first.0 ∙ second.0) in absurd (omega arith)
flag_once v g h i word (inl first) (inr (inr (inr second))) = let l : ◌≡◌ {A = ℕ} 161 146 = ap letters (sym first.0 ∙ second.0) in absurd (omega arith)
flag_once v g h i word (inr (inl first)) (inl second) = let l : ◌≡◌ {A = ℕ} 163 161 = ap letters (sym first.0 ∙ second.0) in absurd (omega arith)
flag_once v g h i word (inr (inl first)) (inr (inl second)) = first.3 ∙ sym second.3
flag_once v g h i word (inr (inl first)) (inr (inr (inl second))) = let l : ◌≡◌ {A = ℕ} 163 164 = ap letters (sym first.0 ∙ second.0) in absurd (omega arith)
flag_once v g h i word (inr (inl first)) (inr (inr (inr second))) = let l : ◌≡◌ {A = ℕ} 163 146 = ap letters (sym first.0 ∙ second.0) in absurd (omega arith)
flag_once v g h i word (inr (inr (inl first))) (inl second) = let l : ◌≡◌ {A = ℕ} 164 161 = ap letters (sym first.0 ∙ second.0) in absurd (omega arith)
flag_once v g h i word (inr (inr (inl first))) (inr (inl second)) = let l : ◌≡◌ {A = ℕ} 164 163 = ap letters (sym first.0 ∙ second.0) in absurd (omega arith)
flag_once v g h i word (inr (inr (inl first))) (inr (inr (inl second))) = first.3 ∙ sym second.3
flag_once v g h i word (inr (inr (inl first))) (inr (inr (inr second))) = let l : ◌≡◌ {A = ℕ} 164 146 = ap letters (sym first.0 ∙ second.0) in absurd (omega arith)
flag_once v g h i word (inr (inr (inr first))) (inl second) = let l : ◌≡◌ {A = ℕ} 146 161 = ap letters (sym first.0 ∙ second.0) in absurd (omega arith)
flag_once v g h i word (inr (inr (inr first))) (inr (inl second)) = let l : ◌≡◌ {A = ℕ} 146 163 = ap letters (sym first.0 ∙ second.0) in absurd (omega arith)
flag_once v g h i word (inr (inr (inr first))) (inr (inr (inl second))) = let l : ◌≡◌ {A = ℕ} 146 164 = ap letters (sym first.0 ∙ second.0) in absurd (omega arith)
flag_once v g h i word (inr (inr (inr first))) (inr (inr (inr second))) = first.3 ∙ sym second.3

-- a file's name alone

pub alone_begins : Begins FileAlone []
alone_begins = (codes "a" ∷ [], (codes "a", refl, a_is_name))

alone_none : FileAlone [] → ⊥
alone_none alone = cc (alone.1)

pub alone_named : (word : Word) (rest : List Word) → FileAlone (word ∷ rest) → IsFileName word
alone_named word rest alone = let e : word ≡ alone.0 = cc (alone.1) in subst IsFileName (sym e) alone.2

pub usage_alone_none : UsageOf FileAlone [] 1
usage_alone_none = usage_none FileAlone alone_begins alone_none

pub usage_alone_named : (word : Word) (words : List Word) → ¬ IsFileName word → UsageOf FileAlone (word ∷ words) 1
usage_alone_named word words odd = usage_first FileAlone word words alone_begins (λ rest alone. odd (alone_named word rest alone))

-- nothing follows
abbrev Nothing : List Word → Type 0
Nothing words = words ≡ []

usage_alone_more : (word more : Word) (words : List Word) → IsFileName word → UsageOf FileAlone (word ∷ more ∷ words) 2
usage_alone_more word more words name =
    usage_behind FileAlone Nothing word (more ∷ words) 1 alone_begins (λ rest none. (word, ap (λ l. word ∷ l) none, name)) (λ rest alone. cc (alone.1))
    (usage_first Nothing more words ([], refl) (λ rest none. cc))

-- words behind a file's name
pub usage_alone_longer : (word : Word) (behind : List (String Global)) → ¬ (length behind ≡ 0) → IsFileName word → UsageOf FileAlone (word ∷ words_in behind) 2
usage_alone_longer word [] some name = absurd (some refl)
usage_alone_longer word (more ∷ behind) some name = usage_alone_more word (string_bytes more) (words_in behind) name

-- a SIZE alone, and a SEED and a SIZE

size_begins : Begins SizeAlone []
size_begins = (decimal 1 ∷ [], (1, (refl, omega arith, omega arith)))

size_none : SizeAlone [] → ⊥
size_none size = cc (size.1.0)

pub usage_size_none : UsageOf SizeAlone [] 1
usage_size_none = usage_none SizeAlone size_begins size_none

pub usage_size_odd : (word : Word) (words : List Word) → ((n : ℕ) → 1 ≤ n → n ≤ 4096 → word ≢ decimal n) → UsageOf SizeAlone (word ∷ words) 1
usage_size_odd word words odd = usage_first SizeAlone word words size_begins (λ rest size. odd size.0 size.1.1 size.1.2 (cc (size.1.0)))

usage_size_more : (n : ℕ) (word more : Word) (words : List Word) → word ≡ decimal n → 1 ≤ n → n ≤ 4096 → UsageOf SizeAlone (word ∷ more ∷ words) 2
usage_size_more n word more words is low high =
    usage_behind SizeAlone Nothing word (more ∷ words) 1 size_begins (λ rest none. (n, (rw (none, is) refl, low, high))) (λ rest size. cc (size.1.0))
    (usage_first Nothing more words ([], refl) (λ rest none. cc))

-- words behind a SIZE
pub usage_size_longer : (n : ℕ) (word : Word) (behind : List (String Global)) → ¬ (length behind ≡ 0) → word ≡ decimal n → 1 ≤ n → n ≤ 4096 → UsageOf SizeAlone (word ∷ words_in behind) 2
usage_size_longer n word [] some is low high = absurd (some refl)
usage_size_longer n word (more ∷ behind) some is low high = usage_size_more n word (string_bytes more) (words_in behind) is low high

made_begins : Begins MadeAlone []
made_begins = (decimal 0 ∷ decimal 1 ∷ [], (0, 1, record { form = refl; most_seed = omega arith; least_size = omega arith; most_size = omega arith }))

made_none : MadeAlone [] → ⊥
made_none (seed, size, are) = cc are.form

pub usage_made_none : UsageOf MadeAlone [] 1
usage_made_none = usage_none MadeAlone made_begins made_none

pub usage_made_odd : (word : Word) (words : List Word) → ((n : ℕ) → 0 ≤ n → n ≤ 2147483647 → word ≢ decimal n) → UsageOf MadeAlone (word ∷ words) 1
usage_made_odd word words odd = usage_first MadeAlone word words made_begins (λ rest (seed, size, are). odd seed (omega arith) are.most_seed (cc are.form))

pub made_of : (seed size : ℕ) (word : Word) (words : List Word) → word ≡ decimal seed → seed ≤ 2147483647 → IsSize words size → AreSeedAndSize (word ∷ words) seed size
made_of seed size word words is high (form, low, most) = record { form = rw (is, form) refl; most_seed = high; least_size = low; most_size = most }

-- words that go wrong behind a SEED
pub usage_made : (seed : ℕ) (word : Word) (words : List Word) (k : ℕ) → word ≡ decimal seed → seed ≤ 2147483647 → UsageOf SizeAlone words k → UsageOf MadeAlone (word ∷ words) (suc k)
usage_made seed word words k is high usage =
    usage_behind MadeAlone SizeAlone word words k made_begins (λ rest size. (seed, size.0, made_of seed size.0 word rest is high size.1)) (λ rest made. (made.1, (cc (made.2.form), made.2.least_size, made.2.most_size))) usage

-- what says where a run has its source from

origin_begins : Begins OriginAlone []
origin_begins = (codes "a" ∷ [], (from_file (codes "a"), (refl, a_is_name)))

-- its first word
pub record HasFirst (words : List Word) : Type 0 where
  pub first : Word
  pub behind : List Word
  pub form : words ≡ first ∷ behind
  pub begins : BeginsOperands first

pub origin_first : (words : List Word) (origin : Origin) → IsOrigin words origin → HasFirst words
origin_first words (from_file file) (form, name) = record { first = file; behind = []; form = form; begins = inl name }
origin_first words (from_made seed size) (numbers, form, are) = record { first = codes "--made"; behind = numbers; form = form; begins = inr refl }

origin_none : OriginAlone [] → ⊥
origin_none (origin, is) = let f = origin_first [] origin is in cc (f.form)

pub usage_origin_none : UsageOf OriginAlone [] 1
usage_origin_none = usage_none OriginAlone origin_begins origin_none

file_origin : (words : List Word) → FileAlone words → OriginAlone words
file_origin words (file, form, name) = (from_file file, (form, name))

origin_file : (word : Word) (words : List Word) → (word ≡ codes "--made" → ⊥) → OriginAlone (word ∷ words) → FileAlone (word ∷ words)
origin_file word words odd (from_file file, (form, name)) = (file, form, name)
origin_file word words odd (from_made seed size, (numbers, form, are)) = absurd (odd (cc form))

-- a file's name that goes wrong
pub usage_origin_file : (word : Word) (words : List Word) (k : ℕ) → (word ≡ codes "--made" → ⊥) → UsageOf FileAlone (word ∷ words) k → UsageOf OriginAlone (word ∷ words) k
usage_origin_file word words k odd usage =
    usage_alike FileAlone OriginAlone word words k alone_begins origin_begins (λ rest file. file_origin (word ∷ rest) file) (λ rest origin. origin_file word rest odd origin) usage

made_origin : (words : List Word) → MadeAlone words → OriginAlone (codes "--made" ∷ words)
made_origin words (seed, size, are) = (from_made seed size, (words, refl, are))

origin_made : (words : List Word) → OriginAlone (codes "--made" ∷ words) → MadeAlone words
origin_made words (from_file file, (form, name)) = let e : codes "--made" ≡ file = cc form in absurd ((subst IsFileName (sym e) name) refl)
origin_made words (from_made seed size, (numbers, form, are)) = let e : words ≡ numbers = cc form in (seed, size, rw e are)

-- words that go wrong behind `--made`
pub usage_origin_made : (word : Word) (words : List Word) (k : ℕ) → word ≡ codes "--made" → UsageOf MadeAlone words k → UsageOf OriginAlone (word ∷ words) (suc k)
usage_origin_made word words k is usage = rw is (usage_behind OriginAlone MadeAlone (codes "--made") words k origin_begins made_origin origin_made usage)

-- the input of a made source
pub input_made : (words behind : List (String Global)) (first : String Global) (last seed size : ℕ) → words ≡ first ∷ behind → string_bytes first ≡ codes "--made" → AreSeedAndSize (words_in behind) seed size
    → IsInputOf (words_in words) last (Made seed size)
input_made words behind first last seed size e is are = (from_made seed size, (words_in behind, rw (e, is) refl, are), (refl, refl))

-- one source is named
pub one_seed_and_size : (words : List Word) (seed size seed' size' : ℕ) → AreSeedAndSize words seed size → AreSeedAndSize words seed' size' → (seed ≡ seed') × (size ≡ size')
one_seed_and_size words seed size seed' size' first second =
    let seeds : decimal seed ≡ decimal seed' = cc (first.form, second.form) in
    let sizes : decimal size ≡ decimal size' = cc (first.form, second.form) in
    (decimal_injective seed seed' (omega (arith, first.most_seed)) (omega (arith, second.most_seed)) seeds, decimal_injective size size' (omega (arith, first.most_size)) (omega (arith, second.most_size)) sizes)

pub one_origin : (words : List Word) (a b : Origin) → IsOrigin words a → IsOrigin words b → a ≡ b
one_origin words (from_file file) (from_file file') (form, name) (form', name') = let e : file ≡ file' = cc (form, form') in ap from_file e
one_origin words (from_file file) (from_made seed size) (form, name) (numbers, form', are) =
    let e : file ≡ codes "--made" = cc (form, form') in absurd ((subst IsFileName e name) refl)
one_origin words (from_made seed size) (from_file file) (numbers, form, are) (form', name) =
    let e : file ≡ codes "--made" = cc (form, form') in absurd ((subst IsFileName e name) refl)
one_origin words (from_made seed size) (from_made seed' size') (numbers, form, are) (numbers', form', are') =
    let e : numbers ≡ numbers' = cc (form, form') in
    let same = one_seed_and_size numbers seed size seed' size' are (rw e are') in
    ap (λ n. from_made n size) same.0 ∙ ap (λ n. from_made seed' n) same.1

-- a TRACE and a FILE

trace_begins : Begins TraceAlone []
trace_begins = (codes "a" ∷ codes "a" ∷ [], (codes "a", codes "a", record { form = refl; trace_name = a_is_name; file_name = a_is_name }))

trace_none : TraceAlone [] → ⊥
trace_none (trace, file, are) = cc are.form

pub usage_trace_none : UsageOf TraceAlone [] 1
usage_trace_none = usage_none TraceAlone trace_begins trace_none

trace_named : (word : Word) (rest : List Word) → TraceAlone (word ∷ rest) → IsFileName word
trace_named word rest (trace, file, are) = let e : trace ≡ word = cc are.form in subst IsFileName e are.trace_name

pub usage_trace_named : (word : Word) (words : List Word) → ¬ IsFileName word → UsageOf TraceAlone (word ∷ words) 1
usage_trace_named word words odd = usage_first TraceAlone word words trace_begins (λ rest are. odd (trace_named word rest are))

pub trace_onward : (word : Word) (rest : List Word) → IsFileName word → FileAlone rest → TraceAlone (word ∷ rest)
trace_onward word rest name (file, form, is) = (word, file, record { form = ap (λ l. word ∷ l) form; trace_name = name; file_name = is })

trace_back : (word : Word) (rest : List Word) → TraceAlone (word ∷ rest) → FileAlone rest
trace_back word rest (trace, file, are) = (file, cc are.form, are.file_name)

-- words that go wrong behind a TRACE
pub usage_trace : (word : Word) (words : List Word) (k : ℕ) → IsFileName word → UsageOf FileAlone words k → UsageOf TraceAlone (word ∷ words) (suc k)
usage_trace word words k name usage = usage_behind TraceAlone FileAlone word words k trace_begins (λ rest file. trace_onward word rest name file) (λ rest are. trace_back word rest are) usage

-- the places of a TRACE and a FILE
pub places_named : (words behind : List (String Global)) (first : String Global) (place at : ℕ) → words ≡ first ∷ behind → IsFileName (string_bytes first) → FileAlone (words_in behind) → at ≡ place + 1 + length behind
    → ArePlacesOf (words_in words) (place + length words) (record { trace = place + 1; file = at })
places_named words behind first place at e name alone is =
    let one : length (words_in behind) ≡ 1 = ap length alone.1 in
    let long : length behind ≡ 1 = omega (arith, one, length-map behind string_bytes) in
    rw e (trace_onward (string_bytes first) (words_in behind) name alone, record { trace = omega (arith, long); file = omega (arith, is) })

one_trace : (words : List Word) (trace file trace' file' : Word) → AreTraceAndFile words trace file → AreTraceAndFile words trace' file' → of_trace trace file ≡ of_trace trace' file'
one_trace words trace file trace' file' first second =
    let traces : trace ≡ trace' = cc (first.form, second.form) in
    let files : file ≡ file' = cc (first.form, second.form) in
    cc (traces, files)

-- the operands of a verb

operands_begin : (v : Verb) → Begins (OperandsAlone v) []
operands_begin verbs.Run = (codes "a" ∷ [], (of_source (from_file (codes "a")), (refl, a_is_name)))
operands_begin (verbs.Traced goal) = (codes "a" ∷ codes "a" ∷ [], (of_trace (codes "a") (codes "a"), record { form = refl; trace_name = a_is_name; file_name = a_is_name }))

pub operands_first : (v : Verb) (words : List Word) (x : Operands) → AreOperands v words x → HasFirst words
operands_first verbs.Run words (of_source origin) is = origin_first words origin is
operands_first verbs.Run words (of_trace trace file) is = absurd is
operands_first (verbs.Traced goal) words (of_source origin) is = absurd is
operands_first (verbs.Traced goal) words (of_trace trace file) is = record { first = trace; behind = file ∷ []; form = is.form; begins = inl is.trace_name }

pub operands_named : (v : Verb) (word : Word) (words : List Word) (x : Operands) → AreOperands v (word ∷ words) x → BeginsOperands word
operands_named v word words x is = let f = operands_first v (word ∷ words) x is in let e : f.first ≡ word = cc (f.form) in subst BeginsOperands e f.begins

operands_none : (v : Verb) (x : Operands) → AreOperands v [] x → ⊥
operands_none v x is = let f = operands_first v [] x is in cc (f.form)

pub one_operands : (v : Verb) (words : List Word) (x y : Operands) → AreOperands v words x → AreOperands v words y → x ≡ y
one_operands verbs.Run words (of_source a) (of_source b) first second = ap of_source (one_origin words a b first second)
one_operands verbs.Run words (of_source a) (of_trace trace file) first second = absurd second
one_operands verbs.Run words (of_trace trace file) y first second = absurd first
one_operands (verbs.Traced goal) words (of_source a) y first second = absurd first
one_operands (verbs.Traced goal) words (of_trace trace file) (of_source b) first second = absurd second
one_operands (verbs.Traced goal) words (of_trace trace file) (of_trace trace' file') first second = one_trace words trace file trace' file' first second

run_onward : (words : List Word) → OriginAlone words → OperandsAlone verbs.Run words
run_onward words (origin, is) = (of_source origin, is)

run_back : (words : List Word) → OperandsAlone verbs.Run words → OriginAlone words
run_back words (of_source origin, is) = (origin, is)
run_back words (of_trace trace file, is) = absurd is

traced_onward : (goal : Goal) (words : List Word) → TraceAlone words → OperandsAlone (verbs.Traced goal) words
traced_onward goal words (trace, file, are) = (of_trace trace file, are)

traced_back : (goal : Goal) (words : List Word) → OperandsAlone (verbs.Traced goal) words → TraceAlone words
traced_back goal words (of_source origin, is) = absurd is
traced_back goal words (of_trace trace file, is) = (trace, file, is)

pub usage_run : (words : List Word) (k : ℕ) → UsageOf OriginAlone words k → UsageOf (OperandsAlone verbs.Run) words k
usage_run words k usage = usage_same OriginAlone (OperandsAlone verbs.Run) words k run_onward run_back usage

pub usage_traced : (goal : Goal) (words : List Word) (k : ℕ) → UsageOf TraceAlone words k → UsageOf (OperandsAlone (verbs.Traced goal)) words k
usage_traced goal words k usage = usage_same TraceAlone (OperandsAlone (verbs.Traced goal)) words k (traced_onward goal) (traced_back goal) usage

-- an option is a key with its value, or a flag

pub data Form (v : Verb) (g : Given) (words : List Word) (h : Given) (named : List FailAt) : Type 0 where
  keyed : (k : Key) (word value : Word) → words ≡ word ∷ value ∷ [] → IsNextKey v g word k → Gives g k value h named → Form v g words h named
  flagged : (word : Word) → words ≡ word ∷ [] → Flags v g word h → named ≡ [] → Form v g words h named

pub form_of : (v : Verb) (g h : Given) (words : List Word) (named : List FailAt) → IsOption v g words h named → Form v g words h named
form_of v g _ _ _ (images n free low high) = keyed keys.Images (codes "-n") (decimal n) refl (refl, free) (n, refl, low, high, refl, refl)
form_of v g _ _ _ (workers n may free unordered low high) = keyed keys.Workers (codes "-w") (decimal n) refl (refl, (may, free, unordered)) (n, refl, low, high, refl, refl)
form_of v g _ _ _ (order s may free no_workers high) = keyed keys.Order (codes "--order") (decimal s) refl (refl, (may, free, no_workers)) (s, refl, high, refl, refl)
form_of v g _ _ _ (steps n free low high) = keyed keys.Steps (codes "--steps") (decimal n) refl (refl, free) (n, refl, low, high, refl, refl)
form_of v g _ _ _ (fail word f is) = keyed keys.Fail (codes "--fail") word refl (refl, tt) (f, is, refl, refl)
form_of v g _ _ _ (show_trace may free) = flagged (codes "--trace") refl (inl (refl, may, free, refl)) refl
form_of v g _ _ _ (show_vars may free) = flagged (codes "--vars") refl (inr (inl (refl, may, free, refl))) refl
form_of v g _ _ _ (show_why may free) = flagged (codes "--why") refl (inr (inr (inl (refl, may, free, refl)))) refl
form_of v g _ _ _ (show_every may free) = flagged (codes "--every") refl (inr (inr (inr ((refl, may, free, refl))))) refl

pub keyed_option : (v : Verb) (g h : Given) (k : Key) (word value : Word) (named : List FailAt) → IsNextKey v g word k → Gives g k value h named → IsOption v g (word ∷ value ∷ []) h named
keyed_option v g h keys.Images word value named is (n, said, low, high, given, none) = rw (is.0, said, given, none) (images n is.1 low high)
keyed_option v g h keys.Workers word value named is (n, said, low, high, given, none) = rw (is.0, said, given, none) (workers n is.1.0 is.1.1 is.1.2 low high)
keyed_option v g h keys.Order word value named is (s, said, high, given, none) = rw (is.0, said, given, none) (order s is.1.0 is.1.1 is.1.2 high)
keyed_option v g h keys.Steps word value named is (n, said, low, high, given, none) = rw (is.0, said, given, none) (steps n is.1 low high)
keyed_option v g h keys.Fail word value named is (f, said, given, one) = rw (is.0, given, one) (fail value f said)

pub flag_option : (v : Verb) (g h : Given) (word : Word) → Flags v g word h → IsOption v g (word ∷ []) h []
flag_option v g h word (inl (is, may, free, given)) = rw (is, given) (show_trace may free)
flag_option v g h word (inr (inl (is, may, free, given))) = rw (is, given) (show_vars may free)
flag_option v g h word (inr (inr (inl (is, may, free, given)))) = rw (is, given) (show_why may free)
flag_option v g h word (inr (inr (inr ((is, may, free, given))))) = rw (is, given) (show_every may free)

-- a value gives one thing
pub record SameGift (h : Given) (named : List FailAt) (h' : Given) (named' : List FailAt) : Type 0 where
  pub given : h ≡ h'
  pub failures : named ≡ named'

pub gives_once : (g : Given) (k : Key) (word : Word) (h i : Given) (named named' : List FailAt) → Gives g k word h named → Gives g k word i named' → SameGift h named i named'
gives_once g keys.Images word h i named named' (m, first, low, high, is, none) (n, second, low', high', is', none') =
    let same : m ≡ n = decimal_injective m n (omega arith) (omega arith) (sym first ∙ second) in
    record { given = is ∙ ap (λ x. record g { images = Some x }) same ∙ sym is'; failures = none ∙ sym none' }
gives_once g keys.Workers word h i named named' (m, first, low, high, is, none) (n, second, low', high', is', none') =
    let same : m ≡ n = decimal_injective m n (omega arith) (omega arith) (sym first ∙ second) in
    record { given = is ∙ ap (λ x. record g { workers = Some x }) same ∙ sym is'; failures = none ∙ sym none' }
gives_once g keys.Order word h i named named' (m, first, high, is, none) (n, second, high', is', none') =
    let same : m ≡ n = decimal_injective m n (omega arith) (omega arith) (sym first ∙ second) in
    record { given = is ∙ ap (λ x. record g { order = Some x }) same ∙ sym is'; failures = none ∙ sym none' }
gives_once g keys.Steps word h i named named' (m, first, low, high, is, none) (n, second, low', high', is', none') =
    let same : m ≡ n = decimal_injective m n (omega arith) (omega arith) (sym first ∙ second) in
    record { given = is ∙ ap (λ x. record g { steps = Some x }) same ∙ sym is'; failures = none ∙ sym none' }
gives_once g keys.Fail word h i named named' (f, first, is, one) (f', second, is', one') =
    record { given = is ∙ sym is'; failures = one ∙ ap (λ x. x ∷ []) (one_failure word f f' first second) ∙ sym one' }

pub key_same : (v : Verb) (g : Given) (word : Word) (k l : Key) → IsNextKey v g word k → IsNextKey v g word l → k ≡ l
key_same v g word k l is other = key_once k l (sym is.0 ∙ other.0)

pub key_or_flag : (v : Verb) (g h : Given) (word : Word) (k : Key) → IsNextKey v g word k → Flags v g word h → ⊥
key_or_flag v g h word k is flag = key_no_flag k word is.0 (flag_word v g h word flag)

-- the rest of a command

pub rests_from_operands : (v : Verb) (g : Given) (words : List Word) → OperandsAlone v words → Rests v g words
rests_from_operands v g words (x, is) = (told g (is_summed x), [], x, operands_last g words x is)

pub rests_begin : (v : Verb) (g : Given) → Begins (Rests v g) []
rests_begin v g = let b = operands_begin v in (b.0, rests_from_operands v g b.0 b.1)

-- the first word of the rest of a command is the key of an option that may come next, an option without a value, or
-- begins the operands
pub data First (v : Verb) (g : Given) (word : Word) (rest : List Word) (o : Options) (fails : List FailAt) (x : Operands) : Type 0 where
  by_operands : o ≡ told g (is_summed x) → fails ≡ [] → AreOperands v (word ∷ rest) x → First v g word rest o fails x
  by_key : (k : Key) (value : Word) (behind : List Word) (h : Given) (some more : List FailAt) → IsNextKey v g word k → rest ≡ value ∷ behind → Gives g k value h some → IsRest v h behind o more x
      → fails ≡ some ++ more → First v g word rest o fails x
  by_flag : (h : Given) → Flags v g word h → IsRest v h rest o fails x → First v g word rest o fails x

pub first_is : (v : Verb) (g : Given) (words : List Word) (o : Options) (fails : List FailAt) (x : Operands) → IsRest v g words o fails x → (word : Word) (rest : List Word) → words ≡ word ∷ rest
    → First v g word rest o fails x
first_is v _ _ _ _ _ (operands_last g words x is) word rest e = by_operands refl refl (subst (λ w. AreOperands v w x) e is)
first_is v _ _ _ _ _ (option_next g h option some behind o more x is next) word rest e = by_form (form_of v g h option some is)
  where
    by_form : Form v g option h some → First v g word rest o (some ++ more) x
    by_form (keyed k key value form is_key gives) =
        let whole : key ∷ value ∷ behind ≡ word ∷ rest = rw form at e in
        by_key k value behind h some more (let same : key ≡ word = cc whole in rw (← same) is_key) (let same : value ∷ behind ≡ rest = cc whole in sym same) gives next refl
    by_form (flagged key form flag none) =
        let whole : key ∷ behind ≡ word ∷ rest = rw form at e in
        let same : key ≡ word = cc whole in
        let last : behind ≡ rest = cc whole in
        by_flag h (rw (← same) flag) (rw (none, ← last) next)

rests_none : (v : Verb) (g : Given) (words : List Word) (o : Options) (fails : List FailAt) (x : Operands) → IsRest v g words o fails x → words ≡ [] → ⊥
rests_none v _ _ _ _ _ (operands_last g words x is) e = operands_none v x (subst (λ w. AreOperands v w x) e is)
rests_none v _ _ _ _ _ (option_next g h option some behind o more x is next) e = by_form (form_of v g h option some is)
  where
    by_form : Form v g option h some → ⊥
    by_form (keyed k key value form is_key gives) = let whole : key ∷ value ∷ behind ≡ [] = rw form at e in cc whole
    by_form (flagged key form flag none) = let whole : key ∷ behind ≡ [] = rw form at e in cc whole

rests_not_none : (v : Verb) (g : Given) → Rests v g [] → ⊥
rests_not_none v g r = rests_none v g [] r.0 r.1 r.2 r.3 refl

-- where no option stands, the words are the operands
rests_operands : (v : Verb) (g : Given) (word : Word) (rest : List Word) → IsNoOption v g word → Rests v g (word ∷ rest) → OperandsAlone v (word ∷ rest)
rests_operands v g word rest odd r = elim (first_is v g (word ∷ rest) r.0 r.1 r.2 r.3 word rest refl) [
  | by_operands i none is ↦ (r.2, is)
  | by_key k value behind h some more is e gives next all ↦ absurd (odd.no_key k is)
  | by_flag h flag next ↦ absurd (odd.no_flag h flag)
]

-- what goes wrong where the operands have to stand, behind the options of a command
pub usage_operands : (v : Verb) (g : Given) (words : List Word) (k : ℕ) → BeginsNoOption v g words → UsageOf (OperandsAlone v) words k → UsageOf (Rests v g) words k
usage_operands v g [] k odd usage = usage_alike_none (OperandsAlone v) (Rests v g) k (operands_begin v) (rests_begin v g) (rests_not_none v g) usage
usage_operands v g (word ∷ words) k odd usage =
    usage_alike (OperandsAlone v) (Rests v g) word words k (operands_begin v) (rests_begin v g) (λ rest are. rests_from_operands v g (word ∷ rest) are) (λ rest r. rests_operands v g word rest odd r) usage

-- an option without a value
flag_rests : (v : Verb) (g h : Given) (word : Word) (rest : List Word) → Flags v g word h → Rests v h rest → Rests v g (word ∷ rest)
flag_rests v g h word rest is (o, fails, x, next) = (o, fails, x, option_next g h (word ∷ []) [] rest o fails x (flag_option v g h word is) next)

rests_flag : (v : Verb) (g h : Given) (word : Word) (rest : List Word) → Flags v g word h → Rests v g (word ∷ rest) → Rests v h rest
rests_flag v g h word rest is r = elim (first_is v g (word ∷ rest) r.0 r.1 r.2 r.3 word rest refl) [
  | by_operands i none named ↦ absurd (no_flag_operands v g h word is (operands_named v word rest r.2 named))
  | by_key k value behind i some more key e gives next all ↦ absurd (key_or_flag v g h word k key is)
  | by_flag i flag next ↦ let same : h ≡ i = flag_once v g h i word is flag in (r.0, r.1, r.2, rw same next)
]

usage_flag : (v : Verb) (g h : Given) (word : Word) (words : List Word) (n : ℕ) → Flags v g word h → UsageOf (Rests v h) words n → UsageOf (Rests v g) (word ∷ words) (suc n)
usage_flag v g h word words n is usage = usage_behind (Rests v g) (Rests v h) word words n (rests_begin v g) (λ rest r. flag_rests v g h word rest is r) (λ rest r. rests_flag v g h word rest is r) usage

-- the key of an option with its value
rests_behind : (v : Verb) (g : Given) (k : Key) (word : Word) (rest : List Word) → IsNextKey v g word k → BehindKey v g k rest → Rests v g (word ∷ rest)
rests_behind v g k word rest is (value, behind, h, some, form, gives, (o, fails, x, next)) =
    (o, some ++ fails, x, rw form (option_next g h (word ∷ value ∷ []) some behind o fails x (keyed_option v g h k word value some is gives) next))

behind_rests : (v : Verb) (g : Given) (k : Key) (word : Word) (rest : List Word) → IsNextKey v g word k → Rests v g (word ∷ rest) → BehindKey v g k rest
behind_rests v g k word rest is r = elim (first_is v g (word ∷ rest) r.0 r.1 r.2 r.3 word rest refl) [
  | by_operands i none named ↦ absurd (no_operands v g word k is (operands_named v word rest r.2 named))
  | by_key l value behind h some more key e gives next all ↦
      let same : k ≡ l = key_same v g word k l is key in
      (value, behind, h, some, e, rw same gives, (r.0, more, r.2, next))
  | by_flag h flag next ↦ absurd (key_or_flag v g h word k is flag)
]

behind_begins : (v : Verb) (g : Given) (k : Key) → Begins (BehindKey v g k) []
behind_begins v g keys.Images = let h : Given = record g { images = Some 1 } in let b = rests_begin v h in (decimal 1 ∷ b.0, (decimal 1, b.0, h, [], refl, (1, refl, omega arith, omega arith, refl, refl), b.1))
behind_begins v g keys.Workers = let h : Given = record g { workers = Some 1 } in let b = rests_begin v h in (decimal 1 ∷ b.0, (decimal 1, b.0, h, [], refl, (1, refl, omega arith, omega arith, refl, refl), b.1))
behind_begins v g keys.Order = let h : Given = record g { order = Some 0 } in let b = rests_begin v h in (decimal 0 ∷ b.0, (decimal 0, b.0, h, [], refl, (0, refl, omega arith, refl, refl), b.1))
behind_begins v g keys.Steps = let h : Given = record g { steps = Some 1 } in let b = rests_begin v h in (decimal 1 ∷ b.0, (decimal 1, b.0, h, [], refl, (1, refl, omega arith, omega arith, refl, refl), b.1))
behind_begins v g keys.Fail =
    let f : FailAt = record { image = 1; step = 1 } in
    let word : Word = decimal 1 ++ 64 ∷ decimal 1 in
    let is : IsFailure word f = record { form = refl; least_image = omega arith; most_image = omega arith; least_step = omega arith; most_step = omega arith } in
    let b = rests_begin v g in
    (word ∷ b.0, (word, b.0, g, f ∷ [], refl, (f, is, refl, refl), b.1))

behind_none : (v : Verb) (g : Given) (k : Key) → BehindKey v g k [] → ⊥
behind_none v g k (value, behind, h, some, form, gives, more) = cc form

-- a key without its value
pub usage_key : (v : Verb) (g : Given) (k : Key) (word : Word) → IsNextKey v g word k → UsageOf (Rests v g) (word ∷ []) 2
usage_key v g k word is = usage_behind (Rests v g) (BehindKey v g k) word [] 1 (rests_begin v g) (λ rest b. rests_behind v g k word rest is b) (λ rest r. behind_rests v g k word rest is r)
    (usage_none (BehindKey v g k) (behind_begins v g k) (behind_none v g k))

-- a key with what gives no value to it
pub usage_value : (v : Verb) (g : Given) (k : Key) (word value : Word) (words : List Word) → IsNextKey v g word k → ((h : Given) (named : List FailAt) → ¬ Gives g k value h named) → UsageOf (Rests v g) (word ∷ value ∷ words) 2
usage_value v g k word value words is odd = usage_behind (Rests v g) (BehindKey v g k) word (value ∷ words) 1 (rests_begin v g) (λ rest b. rests_behind v g k word rest is b) (λ rest r. behind_rests v g k word rest is r)
    (usage_first (BehindKey v g k) value words (behind_begins v g k) (λ rest b. odd b.2 b.3 (let e : value ≡ b.0 = cc (b.4) in rw e b.5)))

-- an option with its value, and words that go wrong behind it
usage_keyed : (v : Verb) (g h : Given) (k : Key) (word value : Word) (some : List FailAt) (words : List Word) (n : ℕ) → IsNextKey v g word k → Gives g k value h some → UsageOf (Rests v h) words n
    → UsageOf (Rests v g) (word ∷ value ∷ words) (suc (suc n))
usage_keyed v g h k word value some words n is gives usage = usage_behind (Rests v g) (BehindKey v g k) word (value ∷ words) (suc n) (rests_begin v g) (λ rest b. rests_behind v g k word rest is b) (λ rest r. behind_rests v g k word rest is r)
    (usage_behind (BehindKey v g k) (Rests v h) value words n (behind_begins v g k) (λ rest r. (value, rest, h, some, refl, gives, r)) back usage)
  where
    back : (rest : List Word) → BehindKey v g k (value ∷ rest) → Rests v h rest
    back rest (value', rest', i, some', form, gives', more) =
        let e : value ≡ value' = cc form in
        let f : rest ≡ rest' = cc form in
        let same = gives_once g k value h i some some' gives (rw e gives') in
        rw (f, same.given) more

-- words that go wrong behind an option
pub usage_option : (v : Verb) (g h : Given) (option : List Word) (some : List FailAt) (words : List Word) (n : ℕ) → IsOption v g option h some → UsageOf (Rests v h) words n → UsageOf (Rests v g) (option ++ words) (length option + n)
usage_option v g h option some words n is usage = by_form (form_of v g h option some is)
  where
    by_form : Form v g option h some → UsageOf (Rests v g) (option ++ words) (length option + n)
    by_form (keyed k key value form is_key gives) = let two : 2 + n ≡ suc (suc n) = omega arith in rw (form, two) (usage_keyed v g h k key value some words n is_key gives usage)
    by_form (flagged key form flag none) = let one : 1 + n ≡ suc n = omega arith in rw (form, one) (usage_flag v g h key words n flag usage)
