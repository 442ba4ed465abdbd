-- The replies of the memories, and those of the image's own steps, answer their asks.
use Rattle.std.proofs.Common.{◌≡◌, ℕ, true, List, ◌∷◌, ◌++◌, refl, sym, subst}
use Rattle.caf_base.specs.declared.place.ImageNo.{ImageNo}
use Rattle.caf_base.specs.declared.place.Place.TheVariants as places
use Rattle.caf_events.specs.declared.ask.Ask.{Ask}
use Rattle.caf_events.specs.declared.ask.Ask.TheVariants as asks
use Rattle.caf_events.specs.declared.reply.Reply.{Reply}
use Rattle.caf_events.specs.declared.reply.Reply.TheVariants as replies
use Rattle.caf_events.specs.declared.event.Entry.{Entry}
use Rattle.caf_events.specs.Asks.{place_of}
use Rattle.object_rules.specs.Cells.{Declared}
use Rattle.object_rules.specs.Answering.{answers}
use Rattle.object_rules.proofs.MemoryAnswers.{memory_answers}
use Rattle.trace_theory.specs.Machines.{Said}
use Rattle.core_runs.specs.CoreRuns.{of_memory}
use Rattle.core_runs.specs.Lawful.{IsLawfulTrace, made_memory}
use Rattle.answer_laws.proofs.Served.{memory_turn, own_done}

-- that it is done answers each own step
own_answers : (s : List Declared) (n : ℕ) (es : List (Said Ask Reply)) (a : Ask) → place_of a ≡ places.Own → answers s n es a replies.Done ≡ true
own_answers s n es (asks.Print text) e = refl
own_answers s n es asks.Memory e = refl
own_answers s n es asks.Fail e = refl
own_answers s n es (asks.ErrorStop code) e = refl
own_answers s n es (asks.Fault kind) e = refl
own_answers s n es (asks.LimitStatements number) e = refl
own_answers s n es (asks.LimitWords number) e = refl
own_answers s n es (asks.LimitStamp number) e = refl
own_answers s n es a e = absurd (cc)

module _ (s : List Declared) (n : ℕ) (before after : List Entry) (x : Entry) (l : IsLawfulTrace s n (before ++ x ∷ after)) (es : List (Said Ask Reply)) where
  pub memory_answered : (owner : ImageNo) → place_of x.event.ask ≡ places.Memory owner → answers s n es x.event.ask x.event.reply ≡ true
  memory_answered owner e =
      let t = memory_turn s n before after x l owner e in
      subst (λ r. answers s n es x.event.ask r ≡ true) (sym t.reply)
      (memory_answers (made_memory s owner.0) l.declared (of_memory owner.0 before) t.served n es x.image.0 x.event.ask t.ready)

  pub own_answered : place_of x.event.ask ≡ places.Own → answers s n es x.event.ask x.event.reply ≡ true
  own_answered e = subst (λ r. answers s n es x.event.ask r ≡ true) (sym (own_done s n before after x l e)) (own_answers s n es x.event.ask e)
