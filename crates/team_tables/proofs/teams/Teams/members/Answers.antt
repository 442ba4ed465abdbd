use Rattle.std.proofs.Common.{ap, sym, subst, length, ℕ}
use Rattle.std.proofs.Common.{List}
use Rattle.team_tables.specs.Entries.{AreWithin, IsWithin}
use Rattle.team_tables.specs.declared.entries.Entry.{Entry}
use Rattle.team_tables.proofs.KeptLaws.{known_within}
use Rattle.team_tables.proofs.teams.Teams.members.Goals as goal

pub members_of-requires : goal.members_of-requires
members_of-requires c =
    let P : ℕ → Type 0 = λ n. IsWithin n c.in-Some.entry in
    let Q : List Entry → Type 0 = λ es. AreWithin (length c.self.inside.members.items) es in
    let all : AreWithin (length c.self.inside.members.items) c.deref.result.now = subst Q (sym c.deref.ensures.value) (known_within _ _ _ _ _ _ _ _ _ c.self.invariant) in
    subst P (sym (ap length c.deref-in-Some.ensures.value)) (c.in-Some.ensures.within (length c.self.inside.members.items) all)
