-- The first arrival of a round is of the round's kind, which is the same in every run: so an arrival clashes in none.
use Rattle.std.proofs.Common.{◌≡◌, ℕ, suc, true, nat_eq, ◌&&◌, cond, List, [], ◌∷◌, ◌++◌, inl, inr, refl, ap, sym, ◌∙◌, append_assoc}
use Rattle.std.specs.Prelude.{Option, Some, None}
use Rattle.std.specs.List.{cons_option}
use Rattle.std.proofs.lemmas.List.{append-nil}
use Rattle.std.proofs.lemmas.Bool.{cases_Bool, and_parts, and_from, eqb-true, eq-eqb}
use Rattle.trace_theory.specs.Machines.{Said}
use Rattle.caf_events.specs.declared.ask.Ask.{Ask}
use Rattle.caf_events.specs.declared.reply.Reply.{Reply}
use Rattle.caf_events.specs.declared.reply.Reply.TheVariants as replies
use Rattle.caf_events.specs.declared.round.RoundKind.{RoundKind}
use Rattle.caf_events.specs.declared.event.Entry.{Entry}
use Rattle.object_rules.specs.Cells.{Declared}
use Rattle.object_rules.specs.Scans.{or_else}
use Rattle.object_rules.specs.Happenings.{Happening, arrives, Class, happens, happened}
use Rattle.object_rules.specs.TeamRounds.{arrivals, Opening, joins_round, opening_of}
use Rattle.object_rules.specs.BoardTeams.{arrives_there}
use Rattle.object_rules.specs.BoardRules.{joined_or_clash, board_reply}
use Rattle.object_rules.specs.Kinds.{same_kind}
use Rattle.object_rules.proofs.Growing.{opening_more}
use Rattle.team_laws.proofs.Arrivals.{joined_image}
use Rattle.team_laws.proofs.Lists.{grown}
use Rattle.team_laws.proofs.Rounds.{happened_append}
use Rattle.core_runs.specs.Lists.{said}
use Rattle.core_runs.specs.CoreRuns.{at_board, said_by}
use Rattle.order_theory.specs.Races.{Stands}
use Rattle.order_axioms.specs.Views.{view}
use Rattle.order_cuts.proofs.OwnParts.{marks_at}
use Rattle.answer_laws.proofs.Splits.{heard_at}
use Rattle.every_order.specs.Likes.{likes}
use Rattle.round_words.proofs.BoardWords.{happened_board, own_arrivals}
use Rattle.round_words.proofs.RoundRuns.{IsArrival, is_arrival, number_at, kind_at}
use Rattle.round_words.proofs.SameKinds.{kind_self}
use Rattle.round_words.specs.RoundRuns.{IsAhead, IsRoundRun, arrivals_said}

same_arrives : (t i u j l q : ℕ) (k m : RoundKind) → Some (arrives t i k l) ≡ Some (arrives u j m q) → k ≡ m
same_arrives t i u j l q k m e = cc

same_number : (a b : ℕ) → replies.Round a ≡ replies.Round b → a ≡ b
same_number a b e = cc

pub same_opening : (o p : Opening) → Some o ≡ Some p → o ≡ p
same_opening o p e = cc

module _ (class : Class) (team k : ℕ) where
  -- the entry that is the first arrival
  pub record OpensAt (g : List Entry) (o : Opening) : Type 0 where
    pub entry : Stands g
    pub arrival : IsArrival class team entry.event.image.0 entry.event.event.line entry.event.event.ask entry.event.event.reply
    pub kind : arrival.kind ≡ o.kind
    pub count : suc (arrivals team entry.event.image.0 (happened class entry.before)) ≡ k

  abbrev pub Opens : List Entry → Type 0
  Opens g = (o : Opening) → opening_of team k (happened class g) ≡ Some o → OpensAt g o

  longer : (g : List Entry) (e : Entry) (o : Opening) → OpensAt g o → OpensAt (g ++ e ∷ []) o
  longer g e o a = record {
    entry = record { before = a.entry.before; event = a.entry.event; rest = a.entry.rest ++ e ∷ []; split = ap (λ z. z ++ e ∷ []) a.entry.split ∙ append_assoc a.entry.before (a.entry.event ∷ a.entry.rest) (e ∷ []) };
    arrival = a.arrival;
    kind = a.kind;
    count = a.count;
  }

  module _ (g : List Entry) (e : Entry) where
    abbrev hs : List Happening
    hs = happened class g

    -- the last entry is the first arrival
    opens_last : (x : Happening) (o : Opening) → happens class e.image.0 e.event.line e.event.ask e.event.reply ≡ Some x → joins_round team k hs x ≡ Some o → OpensAt (g ++ e ∷ []) o
    opens_last (arrives u i kd l) o what h = elim (cases_Bool (nat_eq u team && nat_eq (suc (arrivals team i hs)) k)) [
      | inr f ↦ absurd (let q : None ≡ Some o = rw f at h in cc)
      | inl t ↦ (
          let q : Some (record { kind = kd; image = i; line = l }) ≡ Some o = rw t at h in
          let p = and_parts (nat_eq u team) (nat_eq (suc (arrivals team i hs)) k) t in
          let is_o = same_opening (record { kind = kd; image = i; line = l }) o q in
          let there : arrives_there u i (happens class e.image.0 e.event.line e.event.ask e.event.reply) ≡ true =
          ap (arrives_there u i) what ∙ and_from (nat_eq u u) (nat_eq i i) (eq-eqb u u refl) (eq-eqb i i refl) in
          let image = joined_image class u i e.image.0 e.event.line e.event.ask e.event.reply there in
          let joins : arrives_there team e.image.0 (happens class e.image.0 e.event.line e.event.ask e.event.reply) ≡ true =
          ap (arrives_there team e.image.0) what ∙ and_from (nat_eq u team) (nat_eq i e.image.0) p.0 (eq-eqb i e.image.0 (sym image)) in
          let is = is_arrival class team e.image.0 e.event.line e.event.ask e.event.reply joins in
          let kinds = same_arrives team e.image.0 u i e.event.line l is.kind kd (sym is.what ∙ what) in
          record {
            entry = record { before = g; event = e; rest = []; split = refl };
            arrival = is;
            kind = kinds ∙ ap (λ (z : Opening). z.kind) is_o;
            count = ap (λ j. suc (arrivals team j hs)) image ∙ eqb-true (suc (arrivals team i hs)) k p.1;
          })
    ]
    opens_last x o what h = absurd (cc)

    opens_more : Opens g → Opens (g ++ e ∷ [])
    opens_more old o h = by (happens class e.image.0 e.event.line e.event.ask e.event.reply) refl
      where
        by : (x : Option Happening) → happens class e.image.0 e.event.line e.event.ask e.event.reply ≡ x → OpensAt (g ++ e ∷ []) o
        by None what = longer g e o (old o (sym (ap (opening_of team k) (happened_append class g (e ∷ []) ∙ ap (λ z. hs ++ cons_option z []) what ∙ append-nil hs)) ∙ h))
        by (Some x) what = split (opening_of team k hs) refl
          where
            same : or_else (opening_of team k hs) (joins_round team k hs x) ≡ Some o
            same = sym (ap (opening_of team k) (happened_append class g (e ∷ []) ∙ ap (λ z. hs ++ cons_option z []) what) ∙ opening_more team k hs x) ∙ h

            split : (p : Option Opening) → opening_of team k hs ≡ p → OpensAt (g ++ e ∷ []) o
            split None q = opens_last x o what (sym (ap (λ z. or_else z (joins_round team k hs x)) q) ∙ same)
            split (Some p) q = longer g e o (old o (q ∙ (sym (ap (λ z. or_else z (joins_round team k hs x)) q) ∙ same)))

  pub opens_at : (g : List Entry) → Opens g
  opens_at g = grown Opens opens_more [] g (λ o h. absurd (cc))

module _ (s : List Declared) (n : ℕ) (class : Class) (team : ℕ) (t g : List Entry) (run_t : IsRoundRun s n t) (run_g : IsRoundRun s n g) (ahead : IsAhead t g) where
  -- THE KIND OF A ROUND is the same in both.
  pub opening_kind : (k : ℕ) (o : Opening) → opening_of team k (happened class g) ≡ Some o → (p : Opening) × (opening_of team k (happened class t) ≡ Some p) × (o.kind ≡ p.kind)
  opening_kind k o h =
      let a = opens_at class team k g o h in
      let z = a.entry in
      let i = z.event.image.0 in
      let more = ahead i in
      let words : said_by i t ≡ said_by i z.before ++ said z.event.event ∷ (said_by i z.rest ++ more.0) =
      more.1 ∙ ap (λ w. w ++ more.0) (marks_at Entry (Said Ask Reply) (view n) (likes n) g z) ∙ append_assoc (said_by i z.before) (said z.event.event ∷ said_by i z.rest) more.0 in
      let y = heard_at i t (said_by i z.before) (said_by i z.rest ++ more.0) (said z.event.event) words in
      let there : Stands t = record { before = y.earlier; event = y.entry; rest = y.later; split = y.split } in
      let same : happens class y.entry.image.0 y.entry.event.line y.entry.event.ask y.entry.event.reply ≡ happens class i z.event.event.line z.event.event.ask z.event.event.reply =
      ap (λ j. happens class j y.entry.event.line y.entry.event.ask y.entry.event.reply) y.image ∙ ap (λ (w : Said Ask Reply). happens class i w.line w.ask w.reply) y.is in
      let joins : arrives_there team y.entry.image.0 (happens class y.entry.image.0 y.entry.event.line y.entry.event.ask y.entry.event.reply) ≡ true =
      ap (arrives_there team y.entry.image.0) (same ∙ a.arrival.what)
      ∙ and_from (nat_eq team team) (nat_eq i y.entry.image.0) (eq-eqb team team refl) (eq-eqb i y.entry.image.0 (sym y.image)) in
      let is = is_arrival class team y.entry.image.0 y.entry.event.line y.entry.event.ask y.entry.event.reply joins in
      let kinds = same_arrives team y.entry.image.0 team i y.entry.event.line z.event.event.line is.kind a.arrival.kind (sym is.what ∙ same ∙ a.arrival.what) in
      let number = same_number is.round a.arrival.round (sym is.heard ∙ ap (λ (w : Said Ask Reply). w.reply) y.is ∙ a.arrival.heard) in
      let is_k : is.round ≡ k = number ∙ number_at s n g run_g class team z a.arrival ∙ ap suc (sym (own_arrivals class i team z.before)) ∙ a.count in
      let r = kind_at s n t run_t class team there is in
      (r.0, ap (λ q. opening_of team q (happened class t)) (sym is_k) ∙ r.1, sym a.kind ∙ sym kinds ∙ r.2)

  -- An arrival joins there the round that it joins in the trace.
  module _ (y : Stands t) (arrival : IsArrival class team y.event.image.0 y.event.event.line y.event.event.ask y.event.event.reply) (words : said_by y.event.image.0 y.before ≡ said_by y.event.image.0 g) where
    joins_again : (o : Option Opening) → opening_of team arrival.round (happened class g) ≡ o → joined_or_clash arrival.kind arrival.round o ≡ replies.Round arrival.round
    joins_again None e = refl
    joins_again (Some o) e =
        let r = opening_kind arrival.round o e in
        let own = kind_at s n t run_t class team y arrival in
        let openings = same_opening own.0 r.0 (sym own.1 ∙ r.1) in
        let same : arrival.kind ≡ o.kind = own.2 ∙ ap (λ (z : Opening). z.kind) openings ∙ sym r.2 in
        ap (λ b. cond b (replies.Round arrival.round) (replies.Clash (record { 0 = o.image }) o.line)) (ap (same_kind arrival.kind) (sym same) ∙ kind_self arrival.kind)

    pub arrives_again : board_reply n (at_board g) y.event.image.0 y.event.event.ask ≡ y.event.event.reply
    arrives_again =
        let i = y.event.image.0 in
        let number : suc (arrivals team i (happened class (at_board g))) ≡ arrival.round =
        ap suc (ap (arrivals team i) (happened_board class g) ∙ own_arrivals class i team g ∙ ap (arrivals_said class team i) (sym words)) ∙ sym (number_at s n t run_t class team y arrival) in
        arrival.due n (at_board g) i
        ∙ ap (λ q. joined_or_clash arrival.kind q (opening_of team q (happened class (at_board g)))) number
        ∙ ap (λ hs. joined_or_clash arrival.kind arrival.round (opening_of team arrival.round hs)) (happened_board class g)
        ∙ joins_again (opening_of team arrival.round (happened class g)) refl
        ∙ sym arrival.heard
