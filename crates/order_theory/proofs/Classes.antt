-- Which classes of accesses meet, and which may take the place of which.
use Rattle.std.proofs.Common.{◌≡◌, true, ◌⊎◌, inl, inr, refl}
use Rattle.order_theory.specs.Races.{Class, reads, writes, looks, changes, makes, signals, is_access, is_atomic, defines, meets}
use Rattle.order_theory.specs.Marks.{outranks}

-- what defines a cell is an access
pub defines_access : (k : Class) → defines k ≡ true → is_access k ≡ true
defines_access reads h = refl
defines_access writes h = refl
defines_access looks h = refl
defines_access changes h = refl
defines_access makes h = refl
defines_access signals h = absurd (cc)

-- and meets each read
pub meets_read : (k : Class) → defines k ≡ true → meets k reads ≡ true
meets_read reads h = absurd (cc)
meets_read writes h = refl
meets_read looks h = absurd (cc)
meets_read changes h = refl
meets_read makes h = refl
meets_read signals h = absurd (cc)

-- two that define are met, or both are atomic
pub meets_writes : (k m : Class) → defines k ≡ true → defines m ≡ true → (meets k m ≡ true) ⊎ ((is_atomic k ≡ true) × (is_atomic m ≡ true))
meets_writes reads m h g = absurd (cc)
meets_writes looks m h g = absurd (cc)
meets_writes signals m h g = absurd (cc)
meets_writes writes reads h g = inl refl
meets_writes writes writes h g = inl refl
meets_writes writes looks h g = inl refl
meets_writes writes changes h g = inl refl
meets_writes writes makes h g = inl refl
meets_writes writes signals h g = absurd (cc)
meets_writes changes reads h g = inl refl
meets_writes changes writes h g = inl refl
meets_writes changes looks h g = inr (refl, refl)
meets_writes changes changes h g = inr (refl, refl)
meets_writes changes makes h g = inl refl
meets_writes changes signals h g = absurd (cc)
meets_writes makes reads h g = inl refl
meets_writes makes writes h g = inl refl
meets_writes makes looks h g = inl refl
meets_writes makes changes h g = inl refl
meets_writes makes makes h g = inl refl
meets_writes makes signals h g = absurd (cc)

-- an allocation meets every class
made_meets : (x : Class) → meets makes x ≡ true
made_meets reads = refl
made_meets writes = refl
made_meets looks = refl
made_meets changes = refl
made_meets makes = refl
made_meets signals = refl

-- what a write outranks meets no class that it doesn't meet
written_meets : (m x : Class) → outranks writes m ≡ true → meets m x ≡ true → meets writes x ≡ true
written_meets m reads h p = refl
written_meets m writes h p = refl
written_meets m looks h p = refl
written_meets m changes h p = refl
written_meets m makes h p = refl
written_meets reads signals h p = absurd (cc)
written_meets writes signals h p = absurd (cc)
written_meets looks signals h p = absurd (cc)
written_meets changes signals h p = absurd (cc)
written_meets makes signals h p = absurd (cc)
written_meets signals signals h p = absurd (cc)

-- what outranks a class meets each class that it meets
pub outranks_tells : (k m x : Class) → outranks k m ≡ true → meets m x ≡ true → meets k x ≡ true
outranks_tells makes m x h p = made_meets x
outranks_tells writes m x h p = written_meets m x h p
outranks_tells reads reads x h p = p
outranks_tells reads writes x h p = absurd (cc)
outranks_tells reads looks x h p = absurd (cc)
outranks_tells reads changes x h p = absurd (cc)
outranks_tells reads makes x h p = absurd (cc)
outranks_tells reads signals x h p = absurd (cc)
outranks_tells looks reads x h p = absurd (cc)
outranks_tells looks writes x h p = absurd (cc)
outranks_tells looks looks x h p = p
outranks_tells looks changes x h p = absurd (cc)
outranks_tells looks makes x h p = absurd (cc)
outranks_tells looks signals x h p = absurd (cc)
outranks_tells changes reads x h p = absurd (cc)
outranks_tells changes writes x h p = absurd (cc)
outranks_tells changes looks x h p = absurd (cc)
outranks_tells changes changes x h p = p
outranks_tells changes makes x h p = absurd (cc)
outranks_tells changes signals x h p = absurd (cc)
outranks_tells signals reads x h p = absurd (cc)
outranks_tells signals writes x h p = absurd (cc)
outranks_tells signals looks x h p = absurd (cc)
outranks_tells signals changes x h p = absurd (cc)
outranks_tells signals makes x h p = absurd (cc)
outranks_tells signals signals x h p = p

-- an action on a lock or event outranks no class that meets its own
pub signal_meets : (k : Class) → outranks signals k ≡ true → meets k signals ≡ true → ⊥
signal_meets reads h p = cc
signal_meets writes h p = cc
signal_meets looks h p = cc
signal_meets changes h p = cc
signal_meets makes h p = cc
signal_meets signals h p = cc
