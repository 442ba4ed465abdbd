-- The entries of a lawful trace, whose images name no team but those that they were told, can be shown by lines.
use Rattle.std.proofs.Common.{◌≡◌, ◌∙◌, ℕ, Bool, true, false, cond, IsTrue, List, [], ◌∷◌, ◌++◌, ◌||◌, length, refl, ap, sym, subst, append_assoc}
use Rattle.std.specs.Prelude.{negsuc, map, nat_eq, Option, Some, None, is_some}
use Rattle.std.specs.List.{list_any}
use Rattle.std.specs.Option.{option_or}
use Rattle.std.proofs.lemmas.List.{append-nil, map-append}
use Rattle.caf_events.specs.declared.ask.Ask.{Ask}
use Rattle.caf_events.specs.declared.ask.Ask.TheVariants as asks
use Rattle.caf_events.specs.declared.event.Entry.{Entry}
use Rattle.caf_events.specs.declared.reply.Reply.{Reply}
use Rattle.caf_events.specs.declared.reply.Reply.TheVariants as replies
use Rattle.caf_events.specs.declared.reply.FormedTeam.{FormedTeam}
use Rattle.trace_theory.specs.Entries.{Each}
use Rattle.trace_theory.specs.Machines.{Said}
use Rattle.trace_theory.proofs.Filters.{of_inside}
use Rattle.trace_theory.proofs.Snocs.{each_at}
use Rattle.object_rules.specs.Answering.{answers}
use Rattle.object_rules.specs.Cells.{Declared}
use Rattle.core_runs.specs.Beginnings.{IsOneOf}
use Rattle.core_runs.specs.CoreRuns.{of_image, of_memory, said_by}
use Rattle.core_runs.specs.Lawful.{IsLawfulTrace}
use Rattle.core_runs.specs.Lists.{image_of, said}
use Rattle.answer_laws.specs.Told.{names_team, knows_team, IsTold, AllTold}
use Rattle.answer_laws.proofs.RepliesAnswer.{replies_answer}
use Rattle.answer_laws.proofs.Served.{memory_turn}
use Rattle.trace_text.specs.Forms.{Second, number_among, number_in_reply, given_number}
use Rattle.trace_forms.specs.Ranges.{HasText}
use Rattle.trace_forms.specs.Shown.{HasNumber, TeamHasNumber, HaveTexts}
use Rattle.trace_forms.proofs.Answering.{has_form}
use Rattle.lawful_texts.specs.Ranges.{IsInRange, IsThreefold}
use Rattle.lawful_texts.proofs.Fitting.{ask_shown}

-- ---- team numbers: a reply that named a team gave it one
among_some : (t : ℕ) (ts : List FormedTeam) → list_any (λ (x : FormedTeam). nat_eq x.team.0 t) ts ≡ true
    → is_some (number_among t ts) ≡ true
among_some t [] h = absurd (cc)
among_some t (x ∷ xs) h = by_first (nat_eq x.team.0 t) (among_some t xs) h
  where
    by_first : (b : Bool) → (list_any (λ (y : FormedTeam). nat_eq y.team.0 t) xs ≡ true → is_some (number_among t xs) ≡ true)
        → (b || list_any (λ (y : FormedTeam). nat_eq y.team.0 t) xs) ≡ true → is_some (cond b (Some x.number) (number_among t xs)) ≡ true
    by_first true more e = refl
    by_first false more e = more e

reply_some : (t : ℕ) (r : Reply) → names_team t r ≡ true → is_some (number_in_reply t r) ≡ true
reply_some t (replies.Left status teams) h = among_some t teams h
reply_some t r h = absurd (cc)

first_some : {A : Type 0} (a b : Option A) → is_some a ≡ true → is_some (option_or a b) ≡ true
first_some None b h = absurd (cc)
first_some (Some x) b h = refl

second_some : {A : Type 0} (a b : Option A) → is_some b ≡ true → is_some (option_or a b) ≡ true
second_some None b h = h
second_some (Some x) b h = refl

abbrev named_by : ℕ → List (Said Ask Reply) → Bool
named_by t es = list_any (λ (e : Said Ask Reply). names_team t e.reply) es

-- what the entries behind one give, and what the one does
more_given : (t : ℕ) (x : Entry) (xs : List Entry) → is_some (given_number t xs) ≡ true → is_some (given_number t (x ∷ xs)) ≡ true
more_given t x xs h = second_some (number_in_reply t x.event.reply) (given_number t xs) h

either_given : (t : ℕ) (x : Entry) (xs : List Entry) (rest : Bool) → (rest ≡ true → is_some (given_number t xs) ≡ true)
    → (names_team t x.event.reply || rest) ≡ true → is_some (given_number t (x ∷ xs)) ≡ true
either_given t x xs rest more h = by_reply (names_team t x.event.reply) refl h
  where
    by_reply : (b : Bool) → names_team t x.event.reply ≡ b → (b || rest) ≡ true → is_some (given_number t (x ∷ xs)) ≡ true
    by_reply true e k = first_some (number_in_reply t x.event.reply) (given_number t xs) (reply_some t x.event.reply e)
    by_reply false e k = more_given t x xs (more k)

given_some : (t i : ℕ) (es : List Entry) → named_by t (said_by i es) ≡ true → is_some (given_number t es) ≡ true
given_some t i [] h = absurd (cc)
given_some t i (x ∷ xs) h = by_image (nat_eq (image_of x) i) (given_some t i xs) h
  where
    by_image : (b : Bool) → (named_by t (said_by i xs) ≡ true → is_some (given_number t xs) ≡ true)
        → named_by t (map (λ (y : Entry). said y.event) (cond b (x ∷ of_image i xs) (of_image i xs))) ≡ true
        → is_some (given_number t (x ∷ xs)) ≡ true
    by_image true more k = either_given t x xs (named_by t (said_by i xs)) more k
    by_image false more k = more_given t x xs (more k)

known_number : (i : ℕ) (before : List Entry) (t : ℕ) → knows_team (said_by i before) t ≡ true → HasNumber before t
known_number i before t h = by_first (nat_eq t 1) h
  where
    by_first : (b : Bool) → (b || named_by t (said_by i before)) ≡ true → is_some (cond b (Some (negsuc 0)) (given_number t before)) ≡ true
    by_first true e = refl
    by_first false e = given_some t i before e

told_number : (i : ℕ) (before : List Entry) (a : Ask) → IsTold (said_by i before) a → TeamHasNumber Second before a
told_number i before (asks.Arrive team arriving) h = known_number i before team.0 h
told_number i before (asks.Leave team round) h = known_number i before team.0 h
told_number i before (asks.Gather team op root kind vs) h = known_number i before team.0 h
told_number i before (asks.Take team round) h = known_number i before team.0 h
told_number i before (asks.Failed team) h = known_number i before team.0 h
told_number i before (asks.Stopped team) h = known_number i before team.0 h
told_number i before (asks.Status team index) h = known_number i before team.0 h
told_number i before a h = tt

-- ---- where an entry stands
told_from : (before g g' : List (Said Ask Reply)) (e : Said Ask Reply) → AllTold before (g ++ e ∷ g') → IsTold (before ++ g) e.ask
told_from before [] g' e h = subst (λ z. IsTold z e.ask) (sym (append-nil before)) h.0
told_from before (x ∷ g) g' e h = subst (λ z. IsTold z e.ask) (append_assoc before (x ∷ []) g) (told_from (before ++ x ∷ []) g g' e h.1)

pub said_split : (before after : List Entry) (x : Entry) → said_by (image_of x) (before ++ x ∷ after) ≡ said_by (image_of x) before ++ said x.event ∷ said_by (image_of x) after
said_split before after x =
    let i = image_of x in
    ap (map (λ (y : Entry). said y.event)) (of_inside image_of before after x)
    ∙ map-append (λ (y : Entry). said y.event) (of_image i before) (x ∷ of_image i after)

module _ (names : List (List ℕ)) (s : List Declared) (n : ℕ) (many : length names ≡ length s) where
  module _ (before after : List Entry) (x : Entry) (l : IsLawfulTrace s n (before ++ x ∷ after)) (told : AllTold [] (said_by (image_of x) (before ++ x ∷ after))) where
    is_told : IsTold (said_by (image_of x) before) x.event.ask
    is_told =
        let i = image_of x in
        told_from [] (said_by i before) (said_by i after) (said x.event) (subst (AllTold []) (said_split before after x) told)

    is_answered : IsTrue (answers s n (said_by (image_of x) before) x.event.ask x.event.reply)
    is_answered =
        let i = image_of x in
        replies_answer s n i (before ++ x ∷ after) l (said_by i before) (said_by i after) (said x.event) (said_split before after x) is_told

    entry_shown : IsInRange names x → IsThreefold x.event.ask → HasText names x
    entry_shown r short = record {
      stamp = r.stamp;
      image = r.image;
      line = r.line;
      ask = ask_shown names s many x.event.ask x.image.0 (λ o. of_memory o before) (λ o e. (memory_turn s n before after x l o e).ready) r.ask short;
      reply = r.reply;
      form = has_form s n (said_by (image_of x) before) x.event.ask x.event.reply is_answered;
    }

  pub entries_shown : (before es : List Entry) → IsLawfulTrace s n (before ++ es)
      → ((i : ℕ) → IsOneOf n i → AllTold [] (said_by i (before ++ es))) → Each (IsInRange names) es
      → Each (λ (e : Entry). IsThreefold e.event.ask) es → HaveTexts Second names before es
  entries_shown before [] l told r short = tt
  entries_shown before (x ∷ es) l told r short =
      let i = image_of x in
      let here = told i (each_at (λ (y : Entry). IsOneOf n (image_of y)) before es x l.images) in
      let next = append_assoc before (x ∷ []) es in (
        entry_shown before es x l here r.0 short.0,
        told_number i before x.event.ask (is_told before es x l here),
        entries_shown (before ++ x ∷ []) es (subst (IsLawfulTrace s n) (sym next) l)
            (λ j one. subst (λ z. AllTold [] (said_by j z)) (sym next) (told j one)) r.1 short.1,
      )
