use Rattle.std.proofs.Common.{rules, ◌≡◌, ◌++◌, ℕ, List, length, ap, sym, subst, ◌∙◌, refl, arith}
use Rattle.std.specs.Prelude.{map, reverse, vec_len}
use Rattle.std.specs.Option.{option_map}
use Rattle.std.proofs.lemmas.List.{length-append, length-map}
use Rattle.image_acts.specs.Core.{Team}
use Rattle.team_tables.specs.Entries.{ArePacked, AreWithin, formed_by, formed_in, known_in}
use Rattle.team_tables.specs.Tables.{Table, first_of, known_as, newly_known, team_with, with_noted}
use Rattle.team_tables.specs.declared.entries.Entry.{Entry}
use Rattle.team_tables.proofs.KeptLaws.{formed_within, noted_view, own_same, packed_formed, packed_joined, same_table}
use Rattle.team_tables.proofs.teams.Teams.note_teams.Goals as goal

pub newest_with-own-requires : goal.newest_with-own-requires
newest_with-own-requires c =
    let P : List Entry → Type 0 = λ es. AreWithin (length c.deref-3.result.now) es in
    let Q : ℕ → Type 0 = λ n. AreWithin n c.self.inside.formed.items in
    subst P (sym c.deref-2.ensures.value) (subst Q (sym (ap length c.deref-3.ensures.value)) (formed_within _ _ _ _ _ _ _ _ _ c.self.invariant))

pub invariant_of-self : goal.invariant_of-self
invariant_of-self c =
    let i = c.self.invariant in
    let items : c.note.new.known.items ≡ c.self.inside.known.items ++ map (formed_by c.newest_of-parent.result c.args.round) c.self.inside.formed.items =
    c.note.ensures.items ∙ ap (λ es. c.self.inside.known.items ++ map (formed_by c.newest_of-parent.result c.args.round) es) c.deref-4.ensures.value in
    let long = ap length items ∙ length-append c.self.inside.known.items (map (formed_by c.newest_of-parent.result c.args.round) c.self.inside.formed.items) in
    let many = length-map c.self.inside.formed.items (formed_by c.newest_of-parent.result c.args.round) in
    let all : c.len-self-inside.result ≡ length c.self.inside.members.items = c.len-self-inside.ensures ∙ (let v : vec_len c.self.inside.members ≡ length c.self.inside.members.items = search rules in v) in
    let packed : ArePacked 0 (length c.self.inside.members.items) (c.self.inside.known.items ++ map (formed_by c.newest_of-parent.result c.args.round) c.self.inside.formed.items) =
    packed_joined _ _ _ _ _ i.known_packed (packed_formed _ _ _ _ _ i.formed_packed) in
    record {
      small = i.small;
      deep = i.deep;
      known_packed = rw (all, items) packed;
      formed_packed = rw (all, c.clear.ensures.items) refl;
      known_roomy = (let a = i.known_roomy in let b = c.note.ensures.capacity in let d = c.clear.ensures.len in omega arith);
      formed_roomy = (let a = i.formed_roomy in let b = c.clear.ensures.capacity in omega arith);
      few = i.few;
    }

pub returns-clause-own : goal.returns-clause-own
returns-clause-own c =
    c.newest_with-own.ensures
    ∙ ap (λ ms. option_map (λ (k : Team). k.team) (team_with c.self.inside.me (known_in ms c.deref-2.result.now))) c.deref-3.ensures.value
    ∙ ap (λ es. option_map (λ (k : Team). k.team) (team_with c.self.inside.me (known_in c.self.inside.members.items es))) c.deref-2.ensures.value
    ∙ own_same c.self.inside.members.items c.self.inside.me _ c.args.round c.self.inside.formed.items
    ∙ ap (λ (t : Table). option_map (λ (k : Team). k.team) (team_with t.me (newly_known c.args.round t))) c.self.view_is

pub returns-clause-noted : goal.returns-clause-noted
returns-clause-noted c =
    let items : c.note.new.known.items ≡ c.self.inside.known.items ++ map (formed_by c.newest_of-parent.result c.args.round) c.self.inside.formed.items =
    c.note.ensures.items ∙ ap (λ es. c.self.inside.known.items ++ map (formed_by c.newest_of-parent.result c.args.round) es) c.deref-4.ensures.value in
    let parent = c.newest_of-parent.ensures.value ∙ ap (λ ts. first_of (reverse ts)) c.deref.ensures.value in
    let ms = c.self.inside.members.items in
    let known = ap (known_in ms) items ∙ noted_view ms c.newest_of-parent.result c.args.round c.self.inside.known.items c.self.inside.formed.items
    ∙ ap (λ (p : ℕ). map (known_as p c.args.round) (formed_in ms c.self.inside.formed.items) ++ known_in ms c.self.inside.known.items) parent in
    same_table _ _ _ _ _ _ _ _ _ _ _ known (ap (formed_in ms) c.clear.ensures.items) c.note.ensures.capacity refl
    ∙ ap (λ (t : Table). with_noted c.args.round t) c.self.view_is
