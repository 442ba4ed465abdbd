-- What is due where the words judge or replay a trace.
use Rattle.std.proofs.Common.{◌≡◌, ℕ, ◌≤◌, ◌<◌, length, List, ◌⊎◌, inl, inr, sym, subst, arith}
use Rattle.std.specs.Prelude.{Option, None, Some, ◌-◌, codes, slice_get}
use Rattle.checked_tree.specs.Statements as typed
use Rattle.caf_base.specs.Outside.{Files, Rose, MayNotBegin}
use Rattle.caf_report.specs.declared.report.Report.{Report}
use Rattle.caf_words.specs.Usages.{Word}
use Rattle.caf_words.specs.Words.{Origin, IsTraced}
use Rattle.caf_words.specs.Words.Origin.{from_file}
use Rattle.caf_words.specs.Words.Operands.{of_trace}
use Rattle.caf_words.specs.declared.command.FailAt.{FailAt}
use Rattle.caf_words.specs.declared.command.Goal.{Goal}
use Rattle.caf_words.specs.declared.command.Options.{Options}
use Rattle.caf_words.specs.declared.command.Places.{Places}
use Rattle.caf_words.specs.declared.command.Verb.TheVariants as verbs
use Rattle.caf_words.proofs.Meanings.{not_command_and_make}
use Rattle.caf_run.specs.declared.task.Task.{Task}
use Rattle.caf_run.specs.declared.task.Task.TheVariants.{Check, Run, Traced}
use Rattle.caf_run.specs.Reading.{HasBytesIfTold, HasBytes, IsLonger, IsLongTold}
use Rattle.caf_run.specs.Tasks.{Asks, AsksTraced, NamesTrace, IsTrace, IsTraceIfTold}
use Rattle.caf_run.specs.Dues.{IsProgramOf, Settle, IsDue, TracedAs, ReportClause, RunClause, TraceClause}
use Rattle.caf_run.proofs.Settled.{not_good, same_bytes, longer_has, fault_settles, many_settle}
use Rattle.caf_run.proofs.Tasks.{names_traced, trace_word, one_task, one_trace, no_trace_named}

-- where the source isn't good, nothing is answered of a trace
pub no_trace_answered : (task : Task) (K : typed.Program → Type 0) (traced : List ℕ) (status : ℕ) (text : List ℕ) (report : Option Report) → (status ≡ 2) ⊎ (status ≡ 3) ⊎ (status ≡ 10) ⊎ (status ≡ 13)
    → TracedAs task K traced status text report
no_trace_answered Check K traced status text report other = tt
no_trace_answered (Run o fails) K traced status text report other = tt
no_trace_answered (Traced goal o fails) K traced status text report other = λ good. absurd (not_good status good other)

-- the bytes of the trace's file, by its name
pub trace_there : (words : List Word) (files : Option Files) (task : Task) (origin : Origin) (traced : List ℕ) (name : Word) → Asks words task origin → IsTraceIfTold words files task traced → NamesTrace words name
    → HasBytesIfTold files name traced
trace_there words files Check origin traced name asked given named = absurd (no_trace_named words Check origin name asked tt named)
trace_there words files (Run o fails) origin traced name asked given named = absurd (no_trace_named words (Run o fails) origin name asked tt named)
trace_there words files (Traced goal o fails) origin traced name asked (other, (g, p, f, file, is), has) named = subst (λ v. HasBytesIfTold files v traced) (one_trace words g p f other file name is named) has

-- a trace that was read isn't too long
pub not_long_told : (files : Option Files) (name : Word) (traced : List ℕ) → length traced ≤ 67108864 → HasBytesIfTold files name traced → IsLongTold files name 67108864 → ⊥
not_long_told None name traced few has long = long
not_long_told (Some fs) name traced few has (other, is, long) =
    let same : other ≡ traced = cc (is, has) in
    let many : 67108864 < length traced = subst (λ v. 67108864 < length v) same long in
    omega (arith, few, many)

-- the bytes that settle the status are those that were read
pub traced_settle : (words : List Word) (files : Option Files) (task : Task) (traced told bytes : List ℕ) (status : ℕ) → IsTraceIfTold words files task traced → IsTrace words files task told → Settle task traced bytes status
    → Settle task told bytes status
traced_settle words files Check traced told bytes status given is s = record { too_long = s.too_long; refused = s.refused; done = s.done }
traced_settle words files (Run o fails) traced told bytes status given is s = record { too_long = s.too_long; refused = s.refused; done = s.done }
traced_settle words files (Traced goal o fails) traced told bytes status (name, (g, p, f, file, named), has) (name', named', has') s =
    let names = one_trace words g p f name file name' named named' in
    let same : traced ≡ told = same_bytes files name' traced told (subst (λ v. HasBytesIfTold files v traced) names has) has' in
    subst (λ v. Settle (Traced goal o fails) v bytes status) same s

-- what is answered of a task's trace is what is answered of the words'
pub traced_words : (words : List Word) (files : Option Files) (task : Task) (origin : Origin) (traced : List ℕ) (status : ℕ) (text : List ℕ) (report : Option Report) → Asks words task origin → IsTraceIfTold words files task traced
    → TracedAs task (IsProgramOf files origin) traced status text report → TraceClause words files status text report
traced_words words files task origin traced status text report asked given answered = λ goal o fails trace file named good.
    let same = one_task words task (Traced goal o fails) origin (from_file file) asked (trace, named) in
    let of_task = subst (λ t. TracedAs t (IsProgramOf files origin) traced status text report) same.of_task answered in
    let of_file = subst (λ v. TracedAs (Traced goal o fails) (IsProgramOf files v) traced status text report) same.of_origin of_task in
    let (p, (bytes, whole, stands), answers) = of_file good in
    (traced, bytes, p, trace_there words files task origin traced trace asked given (goal, o, fails, file, named), whole, stands, answers)

-- a count of faults that rose in a later part of the call rose in it
pub rose_later : (before mid now : ℕ) → before ≤ mid → Rose mid now → Rose before now
rose_later before mid now later rose = grind (arith, later, rose)

may_later : (files : Option Files) (name : Word) (before mid now : ℕ) → before ≤ mid → MayNotBegin files name mid now → MayNotBegin files name before now
may_later files name before mid now later (inl rose) = inl (rose_later before mid now later rose)
may_later files name before mid now later (inr none) = inr none

or_later : (P : Type 0) (status before mid now : ℕ) → before ≤ mid → P ⊎ ((status ≡ 10) × Rose mid now) → P ⊎ ((status ≡ 10) × Rose before now)
or_later P status before mid now later (inl p) = inl p
or_later P status before mid now later (inr (s, rose)) = inr (s, rose_later before mid now later rose)

pub due_later : (words : List Word) (files : Option Files) (left' : Option (List ℕ)) (before mid now status : ℕ) (text : List ℕ) (report : Option Report) → before ≤ mid → IsDue words files left' mid now status text report
    → IsDue words files left' before now status text report
due_later words files left' before mid now status text report later d = record {
  usage = d.usage;
  refusal = d.refusal;
  acceptance = d.acceptance;
  input = d.input;
  causes = record {
    read_fault = λ s. (let (file, named, may, said) = d.causes.read_fault s in (file, named, may_later files file before mid now later may, said));
    too_long = d.causes.too_long;
  };
  exact = record {
    no_trace = d.exact.no_trace;
    long_trace = λ trace named long. or_later _ status before mid now later (d.exact.long_trace trace named long);
    absent = d.exact.absent;
    settled = λ task origin traced bytes asked given has. or_later _ status before mid now later (d.exact.settled task origin traced bytes asked given has);
  };
  made = d.made;
  reported = d.reported;
  ran = d.ran;
  traced = d.traced;
}

-- a trace that can't be begun is there only after a rise
fault_long : (files : Option Files) (trace : Word) (faults faults' : ℕ) → MayNotBegin files trace faults faults' → IsLongTold files trace 67108864 → Rose faults faults'
fault_long files trace faults faults' (inl rose) long = rose
fault_long None trace faults faults' (inr none) long = absurd long
fault_long (Some fs) trace faults faults' (inr none) (bytes, is, long) = absurd (let e = none in cc (is, e))

-- the trace's bytes, where the words' task has them
trace_has : (words : List Word) (files : Option Files) (goal : Goal) (o : Options) (fails : List FailAt) (trace file : Word) (task : Task) (origin : Origin) (traced : List ℕ) → IsTraced goal words o fails trace file
    → Asks words task origin → IsTrace words files task traced → (Traced goal o fails ≡ task) × HasBytes files trace traced
trace_has words files goal o fails trace file task origin traced named asked given =
    let same = (one_task words (Traced goal o fails) task (from_file file) origin (trace, named) asked).of_task in
    let (name, names, has) = subst (λ t. IsTrace words files t traced) (sym same) given in
    (same, subst (λ v. HasBytes files v traced) (sym (one_trace words goal o fails trace file name named names)) has)

-- a trace that isn't read
pub fault_trace : (words : List Word) (goal : Goal) (o : Options) (fails : List FailAt) (trace file : Word) (files : Option Files) (left' : Option (List ℕ)) (faults faults' status : ℕ) (text : List ℕ) (report : Option Report)
    → IsTraced goal words o fails trace file → MayNotBegin files trace faults faults' → status ≡ 10 → text ≡ codes "read fault\n" → report ≡ None → IsDue words files left' faults faults' status text report
fault_trace words goal o fails trace file files left' faults faults' status text report named may s t r = record {
  usage = record { wrong = λ h. absurd (omega arith); valid = λ _. inl (verbs.Traced goal, o, fails, of_trace trace file, named) };
  refusal = record { refused = λ h. absurd (omega arith) };
  acceptance = record { accepted = λ good. absurd (not_good status good ten) };
  input = λ other is done. absurd (elim done [ inl good ↦ not_good status good ten | inr h ↦ omega arith ]);
  causes = record { read_fault = λ _. (trace, inr here, may, t); too_long = λ h. absurd (omega arith) };
  exact = record {
    no_trace = λ name is none. s;
    long_trace = λ name is long. inr (s, fault_long files trace faults faults' may (subst (λ v. IsLongTold files v 67108864) (sym (one_trace words goal o fails trace file name named is)) long));
    absent = λ other is none. inl s;
    settled = λ task origin traced bytes asked given has. inr (s, fault_settles files trace traced faults faults' may (trace_has words files goal o fails trace file task origin traced named asked given).1);
  };
  made = λ seed size make. absurd (not_command_and_make (verbs.Traced goal) words o fails (of_trace trace file) seed size named make);
  reported = subst (λ v. ReportClause words v status text) (sym r) (inr (inr (inl s)));
  ran = subst (RunClause words files) (sym r) tt;
  traced = λ _ _ _ _ _ _ good. absurd (not_good status good ten);
}
  where
    ten : (status ≡ 2) ⊎ (status ≡ 3) ⊎ (status ≡ 10) ⊎ (status ≡ 13)
    ten = inr (inr (inl s))

    here : NamesTrace words trace
    here = (goal, o, fails, file, named)

-- a told trace that is too long
long_bytes : (files : Option Files) (trace : Word) (traced : List ℕ) → IsLonger files trace 67108864 → HasBytes files trace traced → 67108864 < length traced
long_bytes None trace traced longer has = absurd has
long_bytes (Some fs) trace traced (other, is, long) has = let same : other ≡ traced = cc (is, has) in subst (λ v. 67108864 < length v) same long

pub long_trace : (words : List Word) (goal : Goal) (o : Options) (fails : List FailAt) (trace file : Word) (files : Option Files) (left' : Option (List ℕ)) (faults faults' status : ℕ) (text : List ℕ) (report : Option Report)
    → IsTraced goal words o fails trace file → IsLonger files trace 67108864 → status ≡ 13 → text ≡ codes "too long\n" → report ≡ None → IsDue words files left' faults faults' status text report
long_trace words goal o fails trace file files left' faults faults' status text report named longer s t r = record {
  usage = record { wrong = λ h. absurd (omega arith); valid = λ _. inl (verbs.Traced goal, o, fails, of_trace trace file, named) };
  refusal = record { refused = λ h. absurd (omega arith) };
  acceptance = record { accepted = λ good. absurd (not_good status good thirteen) };
  input = λ other is done. absurd (elim done [ inl good ↦ not_good status good thirteen | inr h ↦ omega arith ]);
  causes = record { read_fault = λ h. absurd (omega arith); too_long = λ _. (inr (trace, here, longer), t) };
  exact = record {
    no_trace = λ name is none. absurd (longer_has files name 67108864 (subst (λ v. IsLonger files v 67108864) (one_trace words goal o fails trace file name named is) longer) none);
    long_trace = λ name is long. inl s;
    absent = λ other is none. inr (s, (trace, here, longer));
    settled = λ task origin traced bytes asked given has. (let (same, there) = trace_has words files goal o fails trace file task origin traced named asked given in
        inl (subst (λ v. Settle v traced bytes status) same (many_settle (Traced goal o fails) traced bytes status (inl (long_bytes files trace traced longer there)) s)));
  };
  made = λ seed size make. absurd (not_command_and_make (verbs.Traced goal) words o fails (of_trace trace file) seed size named make);
  reported = subst (λ v. ReportClause words v status text) (sym r) (inr (inr (inr (inl s))));
  ran = subst (RunClause words files) (sym r) tt;
  traced = λ _ _ _ _ _ _ good. absurd (not_good status good thirteen);
}
  where
    thirteen : (status ≡ 2) ⊎ (status ≡ 3) ⊎ (status ≡ 10) ⊎ (status ≡ 13)
    thirteen = inr (inr (inr s))

    here : NamesTrace words trace
    here = (goal, o, fails, file, named)

-- what is due by the place of the trace's name
pub trace_given : (words : List Word) (files : Option Files) (task : Task) (places : Places) (name : Word) (traced : List ℕ) → AsksTraced words task places → slice_get words (places.trace - 1) ≡ Some name
    → HasBytesIfTold files name traced → IsTraceIfTold words files task traced
trace_given words files task places name traced asked here has =
    let r = names_traced words task places asked in
    let same = trace_word words task places name r here in
    let given : IsTraceIfTold words files (Traced r.goal r.options r.failures) traced =
    (r.trace, (r.goal, r.options, r.failures, r.file, r.asked), subst (λ v. HasBytesIfTold files v traced) same has) in
    subst (λ t. IsTraceIfTold words files t traced) (sym r.is) given

pub fault_named : (words : List Word) (task : Task) (places : Places) (name : Word) (files : Option Files) (left' : Option (List ℕ)) (faults faults' status : ℕ) (text : List ℕ) (report : Option Report) → AsksTraced words task places
    → slice_get words (places.trace - 1) ≡ Some name → MayNotBegin files name faults faults' → status ≡ 10 → text ≡ codes "read fault\n" → report ≡ None → IsDue words files left' faults faults' status text report
fault_named words task places name files left' faults faults' status text report asked here may s t none =
    let r = names_traced words task places asked in
    let same = trace_word words task places name r here in
    fault_trace words r.goal r.options r.failures r.trace r.file files left' faults faults' status text report r.asked (subst (λ v. MayNotBegin files v faults faults') same may) s t none

pub long_named : (words : List Word) (task : Task) (places : Places) (name : Word) (files : Option Files) (left' : Option (List ℕ)) (faults faults' status : ℕ) (text : List ℕ) (report : Option Report) → AsksTraced words task places
    → slice_get words (places.trace - 1) ≡ Some name → IsLonger files name 67108864 → status ≡ 13 → text ≡ codes "too long\n" → report ≡ None → IsDue words files left' faults faults' status text report
long_named words task places name files left' faults faults' status text report asked here longer s t none =
    let r = names_traced words task places asked in
    let same = trace_word words task places name r here in
    long_trace words r.goal r.options r.failures r.trace r.file files left' faults faults' status text report r.asked (subst (λ v. IsLonger files v 67108864) same longer) s t none
