-- An option is read, and then the rest.
use Rattle.std.proofs.Common.{◌≡◌, ◌≢◌, ℕ, ◌+◌, ◌-◌, List, [], ◌∷◌, ◌++◌, length, take, drop, refl, sym, ap, ◌∙◌, subst, inl, inr, arith, append_assoc, take-append-drop, Result, Ok, Err, IfErr, String, Global}
use Rattle.std.specs.Prelude.{Option, None, Some, string_bytes}
use Rattle.std.proofs.lemmas.List.{append-nil, drop-map}
use Rattle.std.proofs.lemmas.Grind.{common_steps}
use Rattle.caf_base.specs.declared.refusal.Refusal.{Refusal}
use Rattle.caf_base.specs.declared.refusal.Refusal.TheVariants.{Cause}
use Rattle.caf_words.specs.Usages.{Word, UsageOf}
use Rattle.caf_words.specs.Words.{words_in, Operands, IsRest, IsInput, ArePlaces, nothing}
use Rattle.caf_words.specs.Words.Operands.{of_source, of_trace}
use Rattle.caf_words.specs.Words.IsRest.{option_next}
use Rattle.caf_words.specs.Readings.{Rests, IsNextKey, Flags, Gives, IsNext, listed, AreKept, EndsCommand, CommandFrom, IsRefusedFrom, RestsWithFailure, IsMisread}
use Rattle.caf_words.specs.declared.words.Usage.{Usage}
use Rattle.caf_words.specs.declared.options.Given.{Given}
use Rattle.caf_words.specs.declared.options.Key.{Key}
use Rattle.caf_words.specs.declared.options.Taken.{Taken}
use Rattle.caf_words.specs.declared.options.Next.TheVariants as nexts
use Rattle.caf_words.specs.declared.command.FailAt.{FailAt}
use Rattle.caf_words.specs.declared.command.Options.{Options}
use Rattle.caf_words.specs.declared.command.Command.{Command}
use Rattle.caf_words.specs.declared.command.Command.TheVariants.{Run, Traced, Check, Make}
use Rattle.caf_words.specs.declared.command.Verb.{Verb}
use Rattle.caf_words.proofs.Forms.{flag_option, keyed_option, usage_option}

-- what stands next
pub flag_next : (v : Verb) (g h : Given) (words behind : List (String Global)) (first : String Global) → words ≡ first ∷ behind → Flags v g (string_bytes first) h
    → IsNext v g (words_in words) (nexts.Option (record { given = h; fail = None; words = 1 }))
flag_next v g h words behind first e flags = rw e (omega arith, omega arith, flag_option v g h (string_bytes first) flags)

pub keyed_next : (v : Verb) (g : Given) (t : Taken) (k : Key) (words behind rest : List (String Global)) (first second : String Global) → words ≡ first ∷ behind → behind ≡ second ∷ rest
    → IsNextKey v g (string_bytes first) k → t.words ≡ 2 → Gives g k (string_bytes second) t.given (listed t.fail) → IsNext v g (words_in words) (nexts.Option t)
keyed_next v g t k words behind rest first second e f is two gives =
    rw (e, f, two) (omega arith, omega arith, keyed_option v g t.given k (string_bytes first) (string_bytes second) (listed t.fail) is gives)

-- The words so far are options: what is given by them, and what holds of the rest holds of the whole. They name
-- failures, which are kept.
pub record HasTaken (v : Verb) (words rest : List Word) (g : Given) (place : ℕ) (kept : Option (List FailAt)) : Type 0 where
  pub some : List FailAt
  pub onward : (o : Options) (fails : List FailAt) (x : Operands) → IsRest v g rest o fails x → IsRest v nothing words o (some ++ fails) x
  pub usage : (k : ℕ) → UsageOf (Rests v g) rest k → (n : ℕ) × UsageOf (Rests v nothing) words n × (place + k ≡ 1 + n)
  pub are_kept : AreKept kept some
  pub long : place + length rest ≡ 1 + length words

pub taken_none : (v : Verb) (words : List Word) → HasTaken v words words nothing 1 (Some [])
taken_none v words = record {
  some = [];
  onward = λ o fails x is. is;
  usage = λ k usage. (k, usage, refl);
  are_kept = refl;
  long = refl;
}

pub taken_more : (v : Verb) (words rest : List Word) (g : Given) (place : ℕ) (kept kept' : Option (List FailAt)) (t : Taken) → HasTaken v words rest g place kept → IsNext v g rest (nexts.Option t)
    → ((some : List FailAt) → AreKept kept some → AreKept kept' (some ++ listed t.fail)) → HasTaken v words (drop t.words rest) t.given (place + t.words) kept'
taken_more v words rest g place kept kept' t h (least, most, is) more =
    let whole : take t.words rest ++ drop t.words rest ≡ rest = take-append-drop t.words rest in
    let front : length (take t.words rest) ≡ t.words = grind (arith, common_steps) in
    let back : length (drop t.words rest) + t.words ≡ length rest = grind (arith, common_steps) in
    record {
      some = h.some ++ listed t.fail;
      onward = λ o fails x next.
          (let on = h.onward o (listed t.fail ++ fails) x (rw whole at (option_next g t.given (take t.words rest) (listed t.fail) (drop t.words rest) o fails x is next)) in
          rw append_assoc on);
      usage = λ k usage.
          (let (n, of, e) = h.usage (length (take t.words rest) + k) (rw whole at (usage_option v g t.given (take t.words rest) (listed t.fail) (drop t.words rest) k is usage)) in
          (n, of, omega (arith, front, e)));
      are_kept = more h.some h.are_kept;
      long = omega (arith, h.long, back);
    }

-- the rest, as code takes it
pub rest_texts : (texts : List (String Global)) (n : ℕ) → words_in (take (length texts - n) (drop n texts)) ≡ drop n (words_in texts)
rest_texts texts n =
    let whole : take (length texts - n) (drop n texts) ≡ drop n texts = grind (arith, common_steps) in
    rw whole (sym (drop-map string_bytes n texts))

-- a command is read to its end
pub command_taken : (v : Verb) (words rest : List Word) (g : Given) (place : ℕ) (kept : Option (List FailAt)) (last last' : ℕ) (c : Command) → HasTaken v words rest g place kept → last ≡ last'
    → EndsCommand v g rest last kept c → CommandFrom v words last' c
command_taken v words rest g place kept last last' (Run input fails o) h same (is_run, origin, is, at_last, all) =
    let named : fails ≡ h.some = subst (λ x. AreKept x h.some) all h.are_kept in
    (is_run, origin, rw named (rw append-nil at (h.onward o [] (of_source origin) is)), subst (λ n. IsInput origin n input) same at_last)
command_taken v words rest g place kept last last' (Traced goal places fails o) h same (is_traced, trace, file, is, at_last, all) =
    let named : fails ≡ h.some = subst (λ x. AreKept x h.some) all h.are_kept in
    (is_traced, trace, file, rw named (rw append-nil at (h.onward o [] (of_trace trace file) is)), subst (λ n. ArePlaces n places) same at_last)
command_taken v words rest g place kept last last' (Check i) h same ends = absurd ends
command_taken v words rest g place kept last last' (Make seed size) h same ends = absurd ends

some_more : (fails more : List FailAt) → fails ≢ [] → fails ++ more ≢ []
some_more [] more odd e = odd refl
some_more (f ∷ fails) more odd e = cc e

-- or misread
pub refused_taken : (v : Verb) (words rest : List Word) (g : Given) (place : ℕ) (kept : Option (List FailAt)) (r : Refusal Usage) → HasTaken v words rest g place kept → IsRefusedFrom (Rests v g) rest place r → IsRefusedFrom (Rests v nothing) words 1 r
refused_taken v words rest g place kept r h (k, usage, told) =
    let (n, of, e) = h.usage k usage in
    (n, of, told ∙ ap (λ m. Cause (record { word = m })) e)

misread_taken : (v : Verb) (words rest : List Word) (g : Given) (place : ℕ) (kept : Option (List FailAt)) (r : Refusal Usage) → HasTaken v words rest g place kept → IsMisread (Rests v g) (λ rest. (kept ≡ None) × Rests v g rest) rest place r
    → IsMisread (Rests v nothing) (RestsWithFailure v) words 1 r
misread_taken v words rest g place kept r h (inl refused) = inl (refused_taken v words rest g place kept r h refused)
misread_taken v words rest g place kept r h (inr (short, (none, (o, fails, x, is)))) =
    let odd : h.some ≢ [] = subst (λ x. AreKept x h.some) none h.are_kept in
    inr (short, (o, h.some ++ fails, x, h.onward o fails x is, some_more h.some fails odd))

pub misread_all : (v : Verb) (words rest : List Word) (g : Given) (place : ℕ) (kept : Option (List FailAt)) (r : Result Command (Refusal Usage)) → HasTaken v words rest g place kept
    → IfErr r (IsMisread (Rests v g) (λ rest. (kept ≡ None) × Rests v g rest) rest place) → IfErr r (IsMisread (Rests v nothing) (RestsWithFailure v) words 1)
misread_all v words rest g place kept (Ok c) h misread = misread
misread_all v words rest g place kept (Err r) h misread = misread_taken v words rest g place kept r h misread
