-- What is due, case by case.
use Rattle.std.proofs.Common.{◌≡◌, ℕ, ◌≤◌, length, List, ◌⊎◌, inl, inr, refl, sym, ap, ◌∙◌, subst, arith}
use Rattle.std.specs.Prelude.{Option, None, Some, Result, Ok, Err, IfOk, codes}
use Rattle.caf_base.specs.declared.place.Pos.{Pos}
use Rattle.checked_tree.specs.Statements as typed
use Rattle.caf_base.specs.Outside.{Files, Rose, MayNotBegin}
use Rattle.caf_report.specs.declared.report.Report.{Report}
use Rattle.fortran_tree.specs.Units.{Program}
use Rattle.source_reader.specs.Sources.{IsRead}
use Rattle.source_reader.specs.Refusals.{IsRefused, number, place}
use Rattle.source_reader.specs.declared.fault.ReadFault.{ReadFault}
use Rattle.source_reader.proofs.OneAnswer.{read_once, read_not_refused}
use Rattle.caf_words.specs.Usages.{Word}
use Rattle.caf_words.specs.Words.{Origin, IsMake, IsValid, UsageIs}
use Rattle.caf_words.specs.Words.Origin.{from_file, from_made}
use Rattle.caf_words.specs.Words.Operands.{of_source, of_trace}
use Rattle.caf_words.specs.declared.command.Goal.TheVariants.{Judge, Replay}
use Rattle.caf_words.specs.declared.command.Verb.TheVariants as verbs
use Rattle.caf_words.proofs.Meanings.{one_make}
use Rattle.work_maker.specs.MadeSource.{made_source}
use Rattle.caf_words.proofs.Usages.{usage_invalid}
use Rattle.caf_run.specs.declared.task.Task.{Task}
use Rattle.caf_run.specs.declared.task.Task.TheVariants.{Check, Run, Traced}
use Rattle.caf_run.specs.Reading.{IsSourceIfTold, IsSource, IsLongSource, HasNothingLeft}
use Rattle.caf_run.specs.Tasks.{Asks, NamesTrace, IsTrace, IsTraceIfTold}
use Rattle.caf_run.specs.Dues.{usage_text, IsDoneStatus, IsBad, IsProgramOf, Settle, IsDue, IsTold, RanAs, TracedAs, TreeDue, BytesDue, SourceDue, ReportClause, RunClause}
use Rattle.caf_run.specs.Sources.{BreaksFirst, StandsFor, IsRefusedAs, IsRefusal, refusal_text}
use Rattle.caf_run.proofs.Settled.{not_good, not_done, good_done, fault_settles, whole_has, whole_settles, long_settles, source_has, long_has}
use Rattle.caf_run.proofs.Tasks.{Same, asks_valid, asks_no_make, one_task}
use Rattle.caf_run.proofs.TraceDue.{no_trace_answered, trace_there, not_long_told, traced_settle, traced_words}
use Rattle.caf_run.proofs.Made.{long_file}
use Rattle.caf_run.proofs.Trees.{none_first}

-- bytes that are refused aren't good
refused_none : (bytes : List ℕ) (r : ℕ) (at : Pos) → IsRefusedAs bytes r at → IsBad bytes
refused_none bytes r at (inl m) good = read_not_refused bytes good.tree m.fault good.read m.refused
refused_none bytes r at (inr b) good =
    let same = read_once bytes b.tree good.tree b.read good.read in
    none_first good.tree r at good.unbroken (subst (λ x. BreaksFirst x r at) same b.first)

-- the bytes are refused
refused_bytes : (bytes : List ℕ) (task : Task) (traced : List ℕ) (status : ℕ) (text : List ℕ) (report : Option Report) → IsRefusal bytes text → status ≡ 3 → report ≡ None → BytesDue bytes task traced status text report
refused_bytes bytes task traced status text report is s e = record {
  known = inr s;
  refused = λ _. (refused_none bytes is.number is.at is.refused, is);
  done = λ d. absurd (not_done task status d (inr (inl s)));
  told = subst (λ v. IsTold task v status text) (sym e) (inr (inl s));
  ran = subst (RanAs task (StandsFor bytes)) (sym e) tt;
  answered = no_trace_answered task (StandsFor bytes) traced status text report (inr (inl s));
}

-- a source that the reader refuses
pub misread_bytes : (bytes : List ℕ) (f : ReadFault) (r : ℕ) (task : Task) (traced : List ℕ) (status : ℕ) (at : Pos) (text : List ℕ) (report : Option Report) → IsRefused bytes f → r ≡ number f → at ≡ place f → status ≡ 3
    → text ≡ refusal_text r at → report ≡ None → BytesDue bytes task traced status text report
misread_bytes bytes f r task traced status at text report is nr pl s t e =
    refused_bytes bytes task traced status text report (record { number = r; at = at; refused = inl (record { fault = f; refused = is; number = nr; place = pl }); said = t }) s e

-- what holds of each report of one kind of program holds of a wider kind
ran_map : (task : Task) (K L : typed.Program → Type 0) (report : Option Report) → ((p : typed.Program) → K p → L p) → RanAs task K report → RanAs task L report
ran_map task K L None wider ran = tt
ran_map Check K L (Some r) wider ran = ran
ran_map (Run o fails) K L (Some r) wider (p, is, of) = (p, wider p is, of)
ran_map (Traced goal o fails) K L (Some r) wider ran = tt

traced_map : (task : Task) (K L : typed.Program → Type 0) (traced : List ℕ) (status : ℕ) (text : List ℕ) (report : Option Report) → ((p : typed.Program) → K p → L p) → TracedAs task K traced status text report
    → TracedAs task L traced status text report
traced_map Check K L traced status text report wider answered = tt
traced_map (Run o fails) K L traced status text report wider answered = tt
traced_map (Traced goal o fails) K L traced status text report wider answered = λ good. (let (p, is, answers) = answered good in (p, wider p is, answers))

-- a source that is read
pub read_bytes : (bytes : List ℕ) (x : Program) (task : Task) (traced : List ℕ) (status : ℕ) (text : List ℕ) (report : Option Report) → IsRead bytes x → TreeDue x task traced status text report → BytesDue bytes task traced status text report
read_bytes bytes x task traced status text report read t = record {
  known = t.known;
  refused = λ s. (let is = refused s in (refused_none bytes is.number is.at is.refused, is));
  done = λ d. (let (checked, accepts) = t.done d in
      (record { tree = x; read = read; unbroken = accepts.unbroken }, (checked, record { tree = x; read = read; accepts = accepts })));
  told = t.told;
  ran = ran_map task _ (StandsFor bytes) report (λ p accepts. record { tree = x; read = read; accepts = accepts }) t.ran;
  answered = traced_map task _ (StandsFor bytes) traced status text report (λ p accepts. record { tree = x; read = read; accepts = accepts }) t.answered;
}
  where
    refused : status ≡ 3 → IsRefusal bytes text
    refused s =
        let h = t.refused s in
        record {
          number = h.number;
          at = h.at;
          refused = inr (record { tree = x; read = read; first = h.refused });
          said = h.said;
        }

-- the bytes of a source, of a file read to its end
pub whole_source : (files : Option Files) (origin : Origin) (task : Task) (traced : List ℕ) (left' : Option (List ℕ)) (faults faults' : ℕ) (bytes : List ℕ) (status : ℕ) (text : List ℕ) (report : Option Report)
    → IsSourceIfTold files origin bytes → length traced ≤ 67108864 → length bytes ≤ 1048576 → ((file : Word) → origin ≡ from_file file → HasNothingLeft files left') → BytesDue bytes task traced status text report
    → SourceDue files origin task traced left' faults faults' status text report
whole_source files origin task traced left' faults faults' bytes status text report whole few short nothing b = record {
  usage = λ s. other (inl s);
  refused = λ s. (bytes, whole, (b.refused s).0, (b.refused s).1);
  accepted = λ r. (bytes, whole, (b.done (good_done task status b.known r)).1);
  input = λ file e _. nothing file e;
  read_fault = λ s. absurd (other (inr (inl s)));
  too_long = λ s. absurd (other (inr (inr s)));
  absent = λ file e none. absurd (source_has files origin file bytes whole e none);
  settled = λ told has. inl (whole_settles files origin bytes told task traced status text report whole has few short b);
  told = b.told;
  ran = ran_map task (StandsFor bytes) _ report (λ p stands. (bytes, whole, stands)) b.ran;
  answered = traced_map task (StandsFor bytes) _ traced status text report (λ p stands. (bytes, whole, stands)) b.answered;
}
  where
    other : (status ≡ 2) ⊎ (status ≡ 10) ⊎ (status ≡ 13) → ⊥
    other h = by_known b.known h
      where
        by_known : IsDoneStatus task status ⊎ (status ≡ 3) → (status ≡ 2) ⊎ (status ≡ 10) ⊎ (status ≡ 13) → ⊥
        by_known (inl d) (inl k) = not_done task status d (inl k)
        by_known (inl d) (inr (inl k)) = not_done task status d (inr (inr (inl k)))
        by_known (inl d) (inr (inr k)) = not_done task status d (inr (inr (inr k)))
        by_known (inr s) (inl k) = omega arith
        by_known (inr s) (inr (inl k)) = omega arith
        by_known (inr s) (inr (inr k)) = omega arith

-- a file that isn't read
pub fault_file : (files : Option Files) (file : Word) (task : Task) (traced : List ℕ) (left' : Option (List ℕ)) (faults faults' status : ℕ) (text : List ℕ) (report : Option Report) → MayNotBegin files file faults faults' → status ≡ 10
    → text ≡ codes "read fault\n" → report ≡ None → SourceDue files (from_file file) task traced left' faults faults' status text report
fault_file files file task traced left' faults faults' status text report may s t e = record {
  usage = λ h. omega arith;
  refused = λ h. absurd (omega arith);
  accepted = λ r. absurd (not_good status r (inr (inr (inl s))));
  input = λ other same done. absurd (elim done [ inl r ↦ not_good status r (inr (inr (inl s))) | inr h ↦ omega arith ]);
  read_fault = λ _. (file, refl, may, t);
  too_long = λ h. absurd (omega arith);
  absent = λ _ _ _. s;
  settled = λ bytes has. inr (s, fault_settles files file bytes faults faults' may has);
  told = subst (λ v. IsTold task v status text) (sym e) (inr (inr (inl s)));
  ran = subst (RanAs task (IsProgramOf files (from_file file))) (sym e) tt;
  answered = no_trace_answered task (IsProgramOf files (from_file file)) traced status text report (inr (inr (inl s)));
}

-- a source that is too long
pub long_source : (files : Option Files) (origin : Origin) (task : Task) (traced : List ℕ) (left' : Option (List ℕ)) (faults faults' status : ℕ) (text : List ℕ) (report : Option Report) → IsLongSource files origin 1048576 → status ≡ 13
    → text ≡ codes "too long\n" → report ≡ None → SourceDue files origin task traced left' faults faults' status text report
long_source files origin task traced left' faults faults' status text report longer s t e = record {
  usage = λ h. omega arith;
  refused = λ h. absurd (omega arith);
  accepted = λ r. absurd (not_good status r (inr (inr (inr s))));
  input = λ other same done. absurd (elim done [ inl r ↦ not_good status r (inr (inr (inr s))) | inr h ↦ omega arith ]);
  read_fault = λ h. absurd (omega arith);
  too_long = λ _. (longer, t);
  absent = λ file same none. absurd (long_has files origin file longer same none);
  settled = λ bytes has. inl (long_settles files origin bytes task traced status longer has s);
  told = subst (λ v. IsTold task v status text) (sym e) (inr (inr (inr (inl s))));
  ran = subst (RanAs task (IsProgramOf files origin)) (sym e) tt;
  answered = no_trace_answered task (IsProgramOf files origin) traced status text report (inr (inr (inr s)));
}

-- what is told of a task is told of the words, and so is its report
told_words : (words : List Word) (task : Task) (origin : Origin) (report : Option Report) (status : ℕ) (text : List ℕ) → Asks words task origin → IsTold task report status text → ReportClause words report status text
told_words words Check (from_file file) None status text asked (inr (inr (inr (inr (s, t))))) = inr (inr (inr (inr (inl (s, inl ((file, asked), t))))))
told_words words Check (from_made seed size) report status text asked told = absurd asked
told_words words (Run o fails) origin None status text asked (inr (inr (inr (inr h)))) = absurd h
told_words words (Traced goal o fails) (from_file file) None status text (trace, asked) (inr (inr (inr (inr h)))) = inr (inr (inr (inr (inr (goal, o, fails, trace, file, asked, h)))))
told_words words (Traced goal o fails) (from_made seed size) report status text asked told = absurd asked
told_words words task origin None status text asked (inl s) = inl s
told_words words task origin None status text asked (inr (inl s)) = inr (inl s)
told_words words task origin None status text asked (inr (inr (inl s))) = inr (inr (inl s))
told_words words task origin None status text asked (inr (inr (inr (inl s)))) = inr (inr (inr (inl s)))
told_words words Check origin (Some r) status text asked (run, of, text_is) = absurd text_is
told_words words (Run o fails) origin (Some r) status text asked (run, of, text_is) = (run, of, (verbs.Run, o, fails, of_source origin, tt, asked, text_is))
told_words words (Traced Judge o fails) origin (Some r) status text asked (run, of, text_is) = absurd text_is
told_words words (Traced Replay o fails) (from_file file) (Some r) status text (trace, asked) (run, of, text_is) = (run, of, (verbs.Traced Replay, o, fails, of_trace trace file, tt, asked, text_is))

ran_words : (words : List Word) (files : Option Files) (task : Task) (origin : Origin) (report : Option Report) (status : ℕ) (text : List ℕ) → Asks words task origin → IsTold task report status text
    → RanAs task (IsProgramOf files origin) report → RunClause words files report
ran_words words files task origin None status text asked told ran = tt
ran_words words files Check origin (Some r) status text asked told ran = absurd ran
ran_words words files (Run o fails) origin (Some r) status text asked told (p, (bytes, whole, stands), of) = inl (o, fails, origin, bytes, p, asked, whole, stands, of)
ran_words words files (Traced Judge o fails) origin (Some r) status text asked (run, of, text_is) ran = absurd text_is
ran_words words files (Traced Replay o fails) (from_file file) (Some r) status text (trace, asked) told ran = inr (o, fails, trace, file, asked)
ran_words words files (Traced Replay o fails) (from_made seed size) (Some r) status text asked told ran = absurd asked

-- words that ask for a task of a source, and of these bytes of a trace where the task is of one
pub source_named : (words : List Word) (task : Task) (origin : Origin) (traced : List ℕ) (files : Option Files) (left' : Option (List ℕ)) (faults faults' status : ℕ) (text : List ℕ) (report : Option Report) → Asks words task origin
    → IsTraceIfTold words files task traced → length traced ≤ 67108864 → SourceDue files origin task traced left' faults faults' status text report → IsDue words files left' faults faults' status text report
source_named words task origin traced files left' faults faults' status text report asked given few f = record {
  usage = record { wrong = λ s. absurd (f.usage s); valid = λ _. asks_valid words task origin asked };
  refusal = record { refused = λ s. (let h = f.refused s in (h.0, (origin, (task, asked), h.1), h.2, h.3)) };
  acceptance = record { accepted = λ r. (let h = f.accepted r in inl (h.0, (origin, (task, asked), h.1), h.2)) };
  input = λ file named. f.input file (one_task words task named.0 origin (from_file file) asked named.1).of_origin;
  causes = record {
    read_fault = λ s. (let h = f.read_fault s in (h.0, inl (task, subst (Asks words task) h.1 asked), h.2, h.3));
    too_long = λ s. (let h = f.too_long s in (inl (long_file words task origin files asked h.0), h.1));
  };
  exact = record {
    no_trace = λ name named none. absurd (whole_has files name traced (trace_there words files task origin traced name asked given named) none);
    long_trace = λ name named long. absurd (not_long_told files name traced few (trace_there words files task origin traced name asked given named) long);
    absent = λ file named none. inl (f.absent file (one_task words task named.0 origin (from_file file) asked named.1).of_origin none);
    settled = λ task' other told bytes asked' is has. settled task' other told bytes (one_task words task' task other origin asked' asked) is has;
  };
  made = λ seed size make. absurd (asks_no_make words task origin seed size asked make);
  reported = told_words words task origin report status text asked f.told;
  ran = ran_words words files task origin report status text asked f.told f.ran;
  traced = traced_words words files task origin traced status text report asked given f.answered;
}
  where
    settled : (task' : Task) (other : Origin) (told bytes : List ℕ) → Same task' other task origin → IsTrace words files task' told → IsSource files other bytes
        → Settle task' told bytes status ⊎ ((status ≡ 10) × Rose faults faults')
    settled task' other told bytes same is has = elim (f.settled bytes (subst (λ v. IsSource files v bytes) same.of_origin has)) [
      | inl s ↦ inl (subst (λ v. Settle v told bytes status) (sym same.of_task) (traced_settle words files task traced told bytes status given (subst (λ v. IsTrace words files v told) same.of_task is) s))
      | inr rose ↦ inr rose
    ]

-- words that make a source judge and replay none
traced_no_make : (words : List Word) (seed size : ℕ) {trace : Word} → IsMake words seed size → NamesTrace words trace → ⊥
traced_no_make words seed size {trace} make (goal, o, fails, file, named) = asks_no_make words (Traced goal o fails) (from_file file) seed size (trace, named) make

-- words that make a source
pub make_named : (words : List Word) (seed size : ℕ) (files : Option Files) (left' : Option (List ℕ)) (faults faults' status : ℕ) (text : List ℕ) (report : Option Report) → IsMake words seed size → status ≡ 0
    → text ≡ made_source seed size → report ≡ None → IsDue words files left' faults faults' status text report
make_named words seed size files left' faults faults' status text report make s t r = record {
  usage = record { wrong = λ h. absurd (omega arith); valid = λ _. inr (inr (seed, size, make)) };
  refusal = record { refused = λ h. absurd (omega arith) };
  acceptance = record { accepted = λ _. inr (seed, size, make) };
  input = λ file named. absurd (asks_no_make words named.0 (from_file file) seed size named.1 make);
  causes = record { read_fault = λ h. absurd (omega arith); too_long = λ h. absurd (omega arith) };
  exact = record {
    no_trace = λ name named none. absurd (traced_no_make words seed size make named);
    long_trace = λ name named long. absurd (traced_no_make words seed size make named);
    absent = λ file named none. absurd (asks_no_make words named.0 (from_file file) seed size named.1 make);
    settled = λ task origin traced bytes asked given has. absurd (asks_no_make words task origin seed size asked make);
  };
  made = λ seed' size' make'. (let same = one_make words seed size seed' size' make make' in
      (s, t ∙ ap (λ n. made_source n size) same.0 ∙ ap (λ n. made_source seed' n) same.1));
  reported = subst (λ v. ReportClause words v status text) (sym r) (inr (inr (inr (inr (inl (s, inr (seed, size, make)))))));
  ran = subst (RunClause words files) (sym r) tt;
  traced = λ goal o fails trace file named _. absurd (traced_no_make words seed size make (goal, o, fails, file, named));
}

-- words that are no valid list
pub usage_wrong : (words : List Word) (k : ℕ) (files : Option Files) (left' : Option (List ℕ)) (faults faults' status : ℕ) (text : List ℕ) (report : Option Report) → UsageIs words k → status ≡ 2 → text ≡ usage_text k → report ≡ None → IsDue words files left' faults faults' status text report
usage_wrong words k files left' faults faults' status text report usage s t r = record {
  usage = record { wrong = λ _. (k, usage, t); valid = λ h. absurd (h s) };
  refusal = record { refused = λ h. absurd (omega arith) };
  acceptance = record { accepted = λ h. absurd (not_good status h (inl s)) };
  input = λ file named. absurd (invalid named.0 (from_file file) named.1);
  causes = record { read_fault = λ h. absurd (omega arith); too_long = λ h. absurd (omega arith) };
  exact = record {
    no_trace = λ name named none. absurd (untraced name named);
    long_trace = λ name named long. absurd (untraced name named);
    absent = λ file named none. absurd (invalid named.0 (from_file file) named.1);
    settled = λ task origin traced bytes asked given has. absurd (invalid task origin asked);
  };
  made = λ seed size make. absurd (usage_invalid IsValid words k usage (inr (inr (seed, size, make))));
  reported = subst (λ v. ReportClause words v status text) (sym r) (inl s);
  ran = subst (RunClause words files) (sym r) tt;
  traced = λ _ _ _ _ _ _ good. absurd (not_good status good (inl s));
}
  where
    invalid : (task : Task) (origin : Origin) → Asks words task origin → ⊥
    invalid task origin asked = usage_invalid IsValid words k usage (asks_valid words task origin asked)

    untraced : (name : Word) → NamesTrace words name → ⊥
    untraced name (goal, o, fails, file, named) = invalid (Traced goal o fails) (from_file file) (name, named)

pub if_ok_map : {A E : Type 0} (v : Result A E) (P Q : A → Type 0) → ((a : A) → P a → Q a) → IfOk v P → IfOk v Q
if_ok_map (Ok a) P Q f h = f a h
if_ok_map (Err e) P Q f h = h
