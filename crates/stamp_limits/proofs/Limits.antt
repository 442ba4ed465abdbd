-- Where no limit of stamps is due, and which runs have none.
use Rattle.std.proofs.Common.{◌≡◌, ℕ, suc, ◌+◌, ◌<◌, ◌≤◌, max, true, List, [], ◌∷◌, ◌++◌, length, refl, ap, sym, ◌∙◌, subst, arith}
use Rattle.std.specs.Prelude.{map, not}
use Rattle.std.specs.List.{filter}
use Rattle.std.proofs.lemmas.List.{append-nil, length-append}
use Rattle.caf_events.specs.declared.ask.Ask.{Ask}
use Rattle.caf_events.specs.declared.ask.Ask.TheVariants as forms
use Rattle.caf_events.specs.declared.reply.Reply.{Reply}
use Rattle.caf_events.specs.declared.event.Entry.{Entry}
use Rattle.caf_events.specs.Asks.{place_of, object_of}
use Rattle.trace_theory.specs.Entries.{of, Each, last_or}
use Rattle.trace_theory.specs.Machines.{Said, Walk}
use Rattle.trace_theory.specs.Runs.{place_last, due}
use Rattle.trace_theory.proofs.Filters.{of_inside, each_filter}
use Rattle.trace_theory.proofs.Snocs.{each_at}
use Rattle.core_runs.specs.Lists.{image_of, key_of, stamp_of, own_stamp, stamp_alone, said}
use Rattle.core_runs.specs.Moments.{Rules}
use Rattle.core_runs.specs.Beginnings.{Beginning, IsImage}
use Rattle.core_runs.specs.CoreRuns.{of_image, said_by, IsLawful, IsCoreRun, IsFit}
use Rattle.core_runs.specs.Sequences.{IsStampLimit}
use Rattle.core_runs.proofs.Lanes.{alone_rises}
use Rattle.core_runs.proofs.Lawfuls.{answered_by}
use Rattle.stamp_limits.specs.StampLimits.{most_stamp, last_stamp, IsStampLimitDue, HasNoStampLimit, MayStand, is_stamp_limit, said_by_program, IsStampLimitedRun}
use Rattle.stamp_limits.proofs.Few.{Few, each_split, due_is, key_few, place_few, few_before, numbered}

-- the last stamp before any ask is no greater than all stamps are
last_stamp_few : (before : List Entry) (m i : ℕ) (a : Ask) → Each (λ y. stamp_of y ≤ m) before → last_stamp before i a ≤ m
last_stamp_few before m i a h =
    let o = object_of (place_of a) in
    let mine = key_few image_of stamp_of i m before h in
    let there = place_few key_of stamp_of o m before h in
    max_few (last_or stamp_of 0 (of_image i before)) (place_last stamp_of o (of key_of o before)) m mine there
  where
    max_few : (a b m : ℕ) → a ≤ m → b ≤ m → max a b ≤ m
    max_few a b m x y = omega arith

-- fewer entries than the bound have no stamp that reaches it
none_due : (before : List Entry) (i : ℕ) (a : Ask) → Few stamp_of before → length before < most_stamp → IsStampLimitDue before i a → ⊥
none_due before i a few short due = let l = last_stamp_few before (length before) i a few in omega arith

-- a front with a further entry is shorter than the whole
front_short : (t before after : List Entry) (x : Entry) (n : ℕ) → t ≡ before ++ x ∷ after → length t ≤ n → length before < n
front_short t before after x n e le =
    let l : length t ≡ length before + length (x ∷ after) = ap length e ∙ length-append before (x ∷ after) in
    omega arith

may_stand : {C M B : Type 0} (r : Rules C M B) (b : Beginning C M B) (before : List Entry) (i line : ℕ) (a : Ask) → (IsStampLimit a → ⊥) → (IsStampLimitDue before i a → ⊥) → MayStand r b before i line a
may_stand r b before i line (forms.LimitStamp number) none low = absurd (none tt)
may_stand r b before i line (forms.LimitWords number) none low = tt
may_stand r b before i line a none low = low

not_limit : (a : Ask) → (IsStampLimit a → ⊥) → not (is_stamp_limit a) ≡ true
not_limit (forms.LimitStamp number) none = absurd (none tt)
not_limit a none = refl

all_by_program : (es : List (Said Ask Reply)) → Each (λ e. IsStampLimit e.ask → ⊥) es → filter (λ e. not (is_stamp_limit e.ask)) es ≡ es
all_by_program [] h = refl
all_by_program (e ∷ es) h = rw (not_limit e.ask h.0) (ap (λ l. e ∷ l) (all_by_program es h.1))

said_each : (xs : List Entry) → Each (λ x. IsStampLimit x.event.ask → ⊥) xs → Each (λ e. IsStampLimit e.ask → ⊥) (map (λ (x : Entry). said x.event) xs)
said_each [] h = tt
said_each (x ∷ xs) h = (h.0, said_each xs h.1)

said_map : (xs : List Entry) → Each (λ e. IsStampLimit e.ask → ⊥) (map (λ (x : Entry). said x.event) xs) → Each (λ x. IsStampLimit x.event.ask → ⊥) xs
said_map [] h = tt
said_map (x ∷ xs) h = (h.0, said_map xs h.1)

-- an image of a trace without limits of stamps says and hears all by its program
by_program : (t : List Entry) (i : ℕ) → HasNoStampLimit t → said_by_program i t ≡ said_by i t
by_program t i none = all_by_program (said_by i t) (said_each (of_image i t) (each_filter (λ x. IsStampLimit x.event.ask → ⊥) _ t none))

-- the stamp of a limit of stamps, which is its image's own step
pub limit_stamp : (x : Entry) (mine there : ℕ) (a : Ask) → x.event.ask ≡ a → IsStampLimit a → due own_stamp (key_of x) x mine there ≡ stamp_alone a 0
limit_stamp x mine there (forms.LimitStamp number) e is =
    ap (λ a. due own_stamp (object_of (place_of a)) x mine there) e ∙ ap (λ a. stamp_alone a mine) e
limit_stamp x mine there a e is = absurd is

module _ {C M B : Type 0} (r : Rules C M B) (b : Beginning C M B) (t : List Entry) where
  plain_at : HasNoStampLimit t → (before after : List Entry) (x : Entry) → t ≡ before ++ x ∷ after → Few stamp_of before → (n : ℕ) → own_stamp x n ≡ suc n
  plain_at none before after x e few n = alone_rises x.event.ask n (each_at (λ y. IsStampLimit y.event.ask → ⊥) before after x (subst (Each (λ y. IsStampLimit y.event.ask → ⊥)) e none))

  -- the stamp of another step than a limit of stamps is one more than the last one before it
  pub plain_stamp : IsLawful r b t → (before after : List Entry) (x : Entry) → t ≡ before ++ x ∷ after → (IsStampLimit x.event.ask → ⊥) → stamp_of x ≡ suc (last_stamp before (image_of x) x.event.ask)
  plain_stamp lawful before after x e other =
      lawful.stamped before after x e
      ∙ due_is own_stamp stamp_of (key_of x) x (last_or stamp_of 0 (of_image (image_of x) before)) (of key_of (key_of x) before) (λ n. alone_rises x.event.ask n other)

  -- without a limit of stamps each stamp is at most its entry's number
  pub stamps_few : (before after : List Entry) (x : Entry) → IsLawful r b t → HasNoStampLimit t → t ≡ before ++ x ∷ after → stamp_of x ≤ suc (length before)
  stamps_few before after x lawful none e = numbered image_of key_of stamp_of own_stamp t lawful.stamped (plain_at none) before after x e

  few_of : IsLawful r b t → HasNoStampLimit t → (before after : List Entry) → t ≡ before ++ after → Few stamp_of before
  few_of lawful none before after e = few_before image_of key_of stamp_of own_stamp t lawful.stamped (plain_at none) before after e

  -- fit programs ask none
  no_limit_at : IsFit r b → IsCoreRun r b t → (before after : List Entry) (x : Entry) → t ≡ before ++ x ∷ after → IsStampLimit x.event.ask → ⊥
  no_limit_at fit core before after x e =
      let i = image_of x in
      let here : IsImage b i = each_at (λ y. IsImage b (image_of y)) before after x (subst (Each (λ y. IsImage b (image_of y))) e core.lawful.images) in
      let walk = core.walks i here in
      let none = (fit.orderly i here).no_stamp_limit (said_by i t) walk.0 (answered_by r b t fit core i) walk.1 in
      let split : of_image i t ≡ of_image i before ++ x ∷ of_image i after = ap (of_image i) e ∙ of_inside image_of before after x in
      each_at (λ y. IsStampLimit y.event.ask → ⊥) (of_image i before) (of_image i after) x
      (subst (Each (λ y. IsStampLimit y.event.ask → ⊥)) split (said_map (of_image i t) none))

  no_limit : IsFit r b → IsCoreRun r b t → HasNoStampLimit t
  no_limit fit core = each_split (λ y. IsStampLimit y.event.ask → ⊥) t (no_limit_at fit core)

  pub none_due_at : IsFit r b → IsCoreRun r b t → length t ≤ most_stamp → (before after : List Entry) (x : Entry) → t ≡ before ++ x ∷ after → IsStampLimitDue before (image_of x) x.event.ask → ⊥
  none_due_at fit core short before after x e =
      none_due before (image_of x) x.event.ask (few_of core.lawful (no_limit fit core) before (x ∷ after) e) (front_short t before after x most_stamp e short)

  pub none_due_next : IsFit r b → IsCoreRun r b t → length t < most_stamp → (i : ℕ) (a : Ask) → IsStampLimitDue t i a → ⊥
  none_due_next fit core short i a = none_due t i a (few_of core.lawful (no_limit fit core) t [] (sym (append-nil t))) short

  limited_by : IsFit r b → IsCoreRun r b t → ((before after : List Entry) (x : Entry) → t ≡ before ++ x ∷ after → IsStampLimitDue before (image_of x) x.event.ask → ⊥) → IsStampLimitedRun r b t
  limited_by fit core not_due = record {
    lawful = core.lawful;
    walks = λ i here. subst (λ es. (c : C) × Walk r.step (b.first i) es c) (sym (by_program t i (no_limit fit core))) (core.walks i here);
    nothing_after = core.nothing_after;
    limits = λ before after x e. may_stand r b before (image_of x) x.event.line x.event.ask (no_limit_at fit core before after x e) (not_due before after x e);
  }

  -- a short core run ends at limits of stamps
  pub limited : IsFit r b → IsCoreRun r b t → length t ≤ most_stamp → IsStampLimitedRun r b t
  limited fit core short = limited_by fit core (none_due_at fit core short)

  -- so does one without a stamp above the bound
  pub limited_low : IsFit r b → IsCoreRun r b t → Each (λ x. stamp_of x ≤ most_stamp) t → IsStampLimitedRun r b t
  limited_low fit core low = limited_by fit core (λ before after x e due. (
      let s = plain_stamp core.lawful before after x e (no_limit_at fit core before after x e) in
      let l = each_at (λ y. stamp_of y ≤ most_stamp) before after x (subst (Each (λ y. stamp_of y ≤ most_stamp)) e low) in
      omega arith))

  -- a run that has no limit of stamps is a core run
  pub core_without : IsStampLimitedRun r b t → HasNoStampLimit t → IsCoreRun r b t
  core_without run none = record {
    lawful = run.lawful;
    walks = λ i here. subst (λ es. (c : C) × Walk r.step (b.first i) es c) (by_program t i none) (run.walks i here);
    nothing_after = run.nothing_after;
  }

  -- a limit of stamps stands where a stamp has reached the bound
  stands : (before : List Entry) (i line : ℕ) (a : Ask) → MayStand r b before i line a → IsStampLimit a → (ask : Ask) × IsStampLimitDue before i ask × (stamp_alone a 0 ≡ suc (last_stamp before i ask))
  stands before i line (forms.LimitStamp number) may is = (may.ask, may.due, ap (λ n. suc n) may.number_is)
  stands before i line a may is = absurd is

  few_at : IsStampLimitedRun r b t → length t ≤ most_stamp → (before after : List Entry) (x : Entry) → t ≡ before ++ x ∷ after → Few stamp_of before → IsStampLimit x.event.ask → ⊥
  few_at run short before after x e few is =
      let s = stands before (image_of x) x.event.line x.event.ask (run.limits before after x e) is in
      none_due before (image_of x) s.0 few (front_short t before after x most_stamp e short) s.1

  -- a short one has none
  pub core_few : IsStampLimitedRun r b t → length t ≤ most_stamp → IsCoreRun r b t
  core_few run short = core_without run (each_split (λ y. IsStampLimit y.event.ask → ⊥) t (λ before after x e. (
      let plain = λ (before after : List Entry) (x : Entry) (e : t ≡ before ++ x ∷ after) (few : Few stamp_of before) (n : ℕ). alone_rises x.event.ask n (few_at run short before after x e few) in
      few_at run short before after x e (few_before image_of key_of stamp_of own_stamp t run.lawful.stamped plain before (x ∷ after) e))))

  low_at : IsStampLimitedRun r b t → Each (λ x. stamp_of x ≤ most_stamp) t → (before after : List Entry) (x : Entry) → t ≡ before ++ x ∷ after → IsStampLimit x.event.ask → ⊥
  low_at run low before after x e is =
      let s = stands before (image_of x) x.event.line x.event.ask (run.limits before after x e) is in
      let d = run.lawful.stamped before after x e in
      let k = limit_stamp x (last_or stamp_of 0 (of image_of (image_of x) before)) (place_last stamp_of (key_of x) (of key_of (key_of x) before)) x.event.ask refl is in
      let l = each_at (λ y. stamp_of y ≤ most_stamp) before after x (subst (Each (λ y. stamp_of y ≤ most_stamp)) e low) in
      let high = s.1 in
      let same : stamp_of x ≡ suc (last_stamp before (image_of x) s.0) = d ∙ k ∙ s.2 in
      omega arith

  -- nor has one without a stamp above the bound
  pub core_low : IsStampLimitedRun r b t → Each (λ x. stamp_of x ≤ most_stamp) t → IsCoreRun r b t
  core_low run low = core_without run (each_split (λ y. IsStampLimit y.event.ask → ⊥) t (low_at run low))
