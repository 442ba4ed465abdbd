-- Teams that are put down behind others.
use Rattle.std.proofs.Common.{◌≡◌, ℕ, zero, suc, ◌+◌, ◌-◌, ◌^◌, ◌<◌, ◌≤◌, cond, true, false, List, [], ◌∷◌, ◌++◌, length, take, drop, refl, ap, sym, ◌∙◌, append_assoc, arith}
use Rattle.std.specs.Prelude.{map, reverse, nat_lt}
use Rattle.std.proofs.lemmas.Bool.Decides.{nat_tests}
use Rattle.std.proofs.lemmas.List.{reverse-append, map-append, length-append, take-append-le}
use Rattle.std.proofs.lemmas.List.Sums.{sum_by-cons}
use Rattle.std.proofs.Math.Seq.{drop-append_seam, take-length}
use Rattle.caf_base.specs.declared.place.ImageNo.{ImageNo}
use Rattle.caf_events.specs.declared.reply.FormedTeam.{FormedTeam}
use Rattle.image_acts.specs.Core.{Team}
use Rattle.image_acts.specs.Replies.{fitting}
use Rattle.team_tables.specs.Entries.{AreWithin, ArePacked, IsWithin, entry_of, formed_at, formed_in, known_in, members_at, team_at, weight_of}
use Rattle.team_tables.specs.declared.entries.Entry.{Entry}

-- one team more that fits
pub fits_more : (n : ℕ) (t : FormedTeam) (ts : List FormedTeam) → length t.members < n → fitting n (t ∷ ts) ≡ t ∷ fitting (n - suc (length t.members)) ts
fits_more n t ts h = (let e : nat_lt (length t.members) n ≡ true = grind (arith, nat_tests) in rw e refl)

take_turn : (k : ℕ) (ts : List FormedTeam) (t : FormedTeam) (rest : List FormedTeam) → drop k ts ≡ t ∷ rest → take (suc k) ts ≡ take k ts ++ t ∷ []
take_turn zero [] t rest h = absurd (cc)
take_turn zero (x ∷ ts) t rest h = (let e : x ≡ t = cc in ap (λ (y : FormedTeam). y ∷ []) e)
take_turn (suc k) [] t rest h = absurd (cc)
take_turn (suc k) (x ∷ ts) t rest h = ap (λ ys. x ∷ ys) (take_turn k ts t rest h)

pub drop_turn : (k : ℕ) (ts : List FormedTeam) (t : FormedTeam) (rest : List FormedTeam) → drop k ts ≡ t ∷ rest → rest ≡ drop (suc k) ts
drop_turn zero [] t rest h = absurd (cc)
drop_turn zero (x ∷ ts) t rest h = cc
drop_turn (suc k) [] t rest h = absurd (cc)
drop_turn (suc k) (x ∷ ts) t rest h = drop_turn k ts t rest h

pub fit_turn : (k n : ℕ) (ts : List FormedTeam) (t : FormedTeam) (rest o : List FormedTeam) → drop k ts ≡ t ∷ rest → length t.members < n → take k ts ++ fitting n (t ∷ rest) ≡ o → take (suc k) ts ++ fitting (n - suc (length t.members)) rest ≡ o
fit_turn k n ts t rest o h l f =
    ap (λ xs. xs ++ fitting (n - suc (length t.members)) rest) (take_turn k ts t rest h)
    ∙ append_assoc (take k ts) (t ∷ []) (fitting (n - suc (length t.members)) rest)
    ∙ ap (λ xs. take k ts ++ xs) (sym (fits_more n t rest l)) ∙ f

-- teams that fit into room for so many weigh no more
pub weight_within : (n : ℕ) (ts : List FormedTeam) → weight_of (fitting n ts) ≤ n
weight_within n [] = omega arith
weight_within n (t ∷ ts) = elim (nat_lt (length t.members) n) as (λ b. nat_lt (length t.members) n ≡ b → weight_of (cond b (t ∷ fitting (n - suc (length t.members)) ts) []) ≤ n) [
  | true ↦ λ e. (let r = weight_within (n - suc (length t.members)) ts in let l : length t.members < n = grind (arith, nat_tests) in let g : (1 + length t.members) + weight_of (fitting (n - suc (length t.members)) ts) ≤ n = omega arith in rw (sum_by-cons (λ (u : FormedTeam). 1 + length u.members) t (fitting (n - suc (length t.members)) ts)) g)
  | false ↦ λ e. (let g : 0 ≤ n = omega arith in g)
] refl

-- rows that are packed
pub packed_le : (s n : ℕ) (es : List Entry) → ArePacked s n es → s ≤ n
packed_le s n [] h = omega arith
packed_le s n (e ∷ es) h = (let r = packed_le e.end n es h.3 in let m = h.1 in omega arith)

pub within_packed : (s n : ℕ) (es : List Entry) → ArePacked s n es → AreWithin n es
within_packed s n [] h = tt
within_packed s n (e ∷ es) h = (let r = packed_le e.end n es h.3 in let a = h.0 in let b = h.1 in let d = h.2 in ((omega arith, r, omega arith), within_packed e.end n es h.3))

pub packed_more : (s n m : ℕ) (es : List Entry) (e : Entry) → ArePacked s n es → e.start ≡ n → e.end ≡ m → n ≤ m → m < n + 2 ^ 33 → ArePacked s m (es ++ e ∷ [])
packed_more s n m [] e h a b l f = (a ∙ sym h, omega arith, omega arith, b)
packed_more s n m (x ∷ es) e h a b l f = (h.0, h.1, h.2, packed_more x.end n m es e h.3 a b l f)

-- a part of a row that stands before an end
take_part : (j n : ℕ) (xs : List ℕ) → j ≤ n → take j xs ≡ take j (take n xs)
take_part zero n xs h = refl
take_part (suc j) zero xs h = absurd (omega arith)
take_part (suc j) (suc n) [] h = refl
take_part (suc j) (suc n) (x ∷ xs) h = ap (λ ys. x ∷ ys) (take_part j n xs (omega arith))

part : (i j n : ℕ) (xs : List ℕ) → i + j ≤ n → take j (drop i xs) ≡ take j (drop i (take n xs))
part zero j n xs h = take_part j n xs (omega arith)
part (suc i) j zero xs h = absurd (omega arith)
part (suc i) j (suc n) [] h = refl
part (suc i) j (suc n) (x ∷ xs) h = part i j n xs (omega arith)

module _ (n : ℕ) (xs ys : List ℕ) (same : take n xs ≡ take n ys) where
  members_same : (e : Entry) → IsWithin n e → members_at xs e ≡ members_at ys e
  members_same e h =
      let l : e.start + (e.end - e.start) ≤ n = (let a = h.0 in let b = h.1 in omega arith) in
      part e.start (e.end - e.start) n xs l ∙ ap (λ zs. take (e.end - e.start) (drop e.start zs)) same ∙ sym (part e.start (e.end - e.start) n ys l)

  formed_alike : (e : Entry) → IsWithin n e → formed_at xs e ≡ formed_at ys e
  formed_alike e h = (let f : List ℕ → FormedTeam = λ ms. record { team = record { 0 = e.team }; number = e.number; members = map (λ k. record { 0 = k }) ms } in ap f (members_same e h))

  team_alike : (e : Entry) → IsWithin n e → team_at xs e ≡ team_at ys e
  team_alike e h = (let f : List ℕ → Team = λ ms. record { team = e.team; parent = e.parent; round = e.round; number = e.number; members = ms } in ap f (members_same e h))

  pub formed_same : (es : List Entry) → AreWithin n es → formed_in xs es ≡ formed_in ys es
  formed_same [] h = refl
  formed_same (e ∷ es) h =
      let a : (zs : List ℕ) → formed_in zs (e ∷ es) ≡ formed_in zs es ++ formed_at zs e ∷ [] = λ zs. ap (map (formed_at zs)) (reverse-append (e ∷ []) es) ∙ map-append (formed_at zs) (reverse es) (e ∷ []) in
      a xs ∙ ap (λ ts. ts ++ formed_at xs e ∷ []) (formed_same es h.1) ∙ ap (λ (t : FormedTeam). formed_in ys es ++ t ∷ []) (formed_alike e h.0) ∙ sym (a ys)

  pub known_same : (es : List Entry) → AreWithin n es → known_in xs es ≡ known_in ys es
  known_same [] h = refl
  known_same (e ∷ es) h =
      let a : (zs : List ℕ) → known_in zs (e ∷ es) ≡ known_in zs es ++ team_at zs e ∷ [] = λ zs. ap (map (team_at zs)) (reverse-append (e ∷ []) es) ∙ map-append (team_at zs) (reverse es) (e ∷ []) in
      a xs ∙ ap (λ ts. ts ++ team_at xs e ∷ []) (known_same es h.1) ∙ ap (λ (t : Team). known_in ys es ++ t ∷ []) (team_alike e h.0) ∙ sym (a ys)

-- numbers of images, and images
pub named_back : (is : List ImageNo) → map (λ n. record { 0 = n }) (map (λ (i : ImageNo). i.0) is) ≡ is
named_back [] = refl
named_back (i ∷ is) = ap (λ js. i ∷ js) (named_back is)

pub numbers_long : (is : List ImageNo) → length (map (λ (i : ImageNo). i.0) is) ≡ length is
numbers_long [] = refl
numbers_long (i ∷ is) = ap suc (numbers_long is)

-- A team that is put down behind others, with its members behind theirs.
module _ (ms : List ℕ) (es : List Entry) (t : FormedTeam) where
  abbrev members_put : List ℕ
  members_put = ms ++ map (λ (i : ImageNo). i.0) t.members

  abbrev entry_put : Entry
  entry_put = entry_of t (length ms)

  long : length members_put ≡ length ms + length t.members
  long = length-append ms (map (λ (i : ImageNo). i.0) t.members) ∙ ap (λ k. length ms + k) (numbers_long t.members)

  same_front : take (length ms) members_put ≡ take (length ms) ms
  same_front = take-append-le (length ms) ms (map (λ (i : ImageNo). i.0) t.members) (omega arith)

  members_there : members_at members_put entry_put ≡ map (λ (i : ImageNo). i.0) t.members
  members_there =
      let l : entry_put.end - entry_put.start ≡ length (map (λ (i : ImageNo). i.0) t.members) = omega (arith, numbers_long t.members) in
      ap (take (entry_put.end - entry_put.start)) (drop-append_seam ms (map (λ (i : ImageNo). i.0) t.members)) ∙ ap (λ k. take k (map (λ (i : ImageNo). i.0) t.members)) l ∙ take-length (map (λ (i : ImageNo). i.0) t.members)

  formed_there : formed_at members_put entry_put ≡ t
  formed_there = (let f : List ImageNo → FormedTeam = λ is. record { team = t.team; number = t.number; members = is } in ap f (ap (map (λ n. record { 0 = n })) members_there ∙ named_back t.members))

  pub formed_more : AreWithin (length ms) es → formed_in members_put (es ++ entry_put ∷ []) ≡ t ∷ formed_in ms es
  formed_more h =
      ap (map (formed_at members_put)) (reverse-append es (entry_put ∷ []))
      ∙ ap (λ (u : FormedTeam). u ∷ formed_in members_put es) formed_there ∙ ap (λ ts. t ∷ ts) (formed_same (length ms) members_put ms same_front es h)

  pub packed_put : (s : ℕ) → ArePacked s (length ms) es → length t.members < 2 ^ 33 → ArePacked s (length members_put) (es ++ entry_put ∷ [])
  packed_put s h f = packed_more s (length ms) (length members_put) es entry_put h refl (sym long) (omega (arith, long)) (omega (arith, long))

  pub kept_put : (s : ℕ) (old : List ℕ) → s ≤ length ms → take s ms ≡ old → take s members_put ≡ old
  kept_put s old h e = take-append-le s ms (map (λ (i : ImageNo). i.0) t.members) h ∙ e
