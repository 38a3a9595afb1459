-- The table of locks after a change, and who is free by it.
use Rattle.std.proofs.Common.{◌≡◌, ◌≢◌, ℕ, Bool, true, false, cond, not, eqb, ◌&&◌, ◌||◌, List, [], ◌∷◌, ◌++◌, map, filter, refl, sym, ◌∙◌, ap, arith, Some, inl, inr, None}
use Rattle.std.specs.Prelude.{is_some}
use Rattle.std.specs.List.{list_any}
use Rattle.std.proofs.lemmas.List.{map-append}
use Rattle.std.proofs.lemmas.List.Folds.{list_any-append}
use Rattle.std.proofs.lemmas.Bool.{or_cases, or_left, or_right, or_parts, or_from, and_parts, and_from, eqb-true, eq-eqb, eqb-false, ne_eqb, not-true, not-false, not_from_false, false≢true}
use Rattle.asset_names.specs.declared.names.Ob.{Ob}
use Rattle.asset_names.specs.declared.operations.Op.{Op}
use Rattle.asset_names.specs.declared.operations.Op.TheVariants as Op'
use Rattle.asset_names.specs.Operations.{conflict, same_op}
use Rattle.asset_names.specs.OpSets.{has_op, OpSet, only_op, with_op}
use Rattle.asset_names.proofs.ListLemmas.{any_alike, any_map, any_of_two, any_and}
use Rattle.asset_lock_store.specs.declared.lock.Lock.{Lock}
use Rattle.asset_locks.specs.LockTable.{Enrolled, LockTable, carries, is_free_in, lock_in, granted_row, grant_in, waiting_row, wait_in, enrol_in, release_in, enrolled_in, names_in}
use Rattle.asset_lock_store.specs.LockRules.{is_on, carries_on, one_conflicts, both_conflict, conflicts_on, blocks, ops_with, taken, new_lock, granted_own, suspended}
use Rattle.asset_locks.specs.Blocking.{is_blocker_in}
use Rattle.asset_locks.proofs.HandLaws.{any_named, names_changed}

-- one more operation
has_with_op : (o op : Op) (ops : OpSet) → has_op (with_op o ops) op ≡ (same_op o op || has_op ops op)
unfolding with_op same_op
has_with_op Op'.Read Op'.Read ops = refl
has_with_op Op'.Read Op'.Write ops = refl
has_with_op Op'.Write Op'.Read ops = refl
has_with_op Op'.Write Op'.Write ops = refl
has_with_op Op'.Read Op'.Add ops = refl
has_with_op Op'.Write Op'.Add ops = refl
has_with_op Op'.Add Op'.Read ops = refl
has_with_op Op'.Add Op'.Write ops = refl
has_with_op Op'.Add Op'.Add ops = refl

has_only : (o op : Op) → has_op (only_op o) op ≡ same_op o op
unfolding only_op same_op
has_only Op'.Read Op'.Read = refl
has_only Op'.Read Op'.Write = refl
has_only Op'.Write Op'.Read = refl
has_only Op'.Write Op'.Write = refl
has_only Op'.Read Op'.Add = refl
has_only Op'.Write Op'.Add = refl
has_only Op'.Add Op'.Read = refl
has_only Op'.Add Op'.Write = refl
has_only Op'.Add Op'.Add = refl

-- ---- the locks of one transaction after a grant
taken_carries : (y : ℕ) (o : Op) (x : ℕ) (op : Op) (lock : Lock) → carries_on x op (taken y o lock) ≡ ((is_on y lock && (eqb y x && same_op o op)) || carries_on x op lock)
unfolding carries_on taken is_on
taken_carries y o x op lock = go (eqb lock.object.0 y) refl where
  go : (here : Bool) → eqb lock.object.0 y ≡ here → carries_on x op (cond here (record lock { ops = with_op o lock.ops; granted = true }) lock) ≡ ((here && (eqb y x && same_op o op)) || (eqb lock.object.0 x && has_op lock.ops op))
  go false e = refl
  go true e = rw (has_with_op o op lock.ops, eqb-true lock.object.0 y e) (grind arith)

new_carries : (y : Ob) (o : Op) (x : ℕ) (op : Op) → carries_on x op (new_lock y o) ≡ (eqb y.0 x && same_op o op)
unfolding carries_on new_lock is_on
new_carries y o x op = ap (λ b. eqb y.0 x && b) (has_only o op)

own_carries : (y : Ob) (o : Op) (x : ℕ) (op : Op) (locks : List Lock) → list_any (carries_on x op) (granted_own y o locks) ≡ ((eqb y.0 x && same_op o op) || list_any (carries_on x op) locks)
unfolding granted_own
own_carries y o x op locks = go (list_any (is_on y.0) locks) refl where
  new : carries_on x op (new_lock y o) ≡ (eqb y.0 x && same_op o op)
  new = new_carries y o x op

  go : (there : Bool) → list_any (is_on y.0) locks ≡ there → list_any (carries_on x op) (cond there (map (taken y.0 o) locks) (locks ++ new_lock y o ∷ [])) ≡ ((eqb y.0 x && same_op o op) || list_any (carries_on x op) locks)
  go true e =
      any_map (carries_on x op) (taken y.0 o) locks
      ∙ any_of_two (λ lock. carries_on x op (taken y.0 o lock)) (λ lock. is_on y.0 lock && (eqb y.0 x && same_op o op)) (carries_on x op) locks (taken_carries y.0 o x op)
      ∙ ap (λ b. b || list_any (carries_on x op) locks) (any_and (is_on y.0) (eqb y.0 x && same_op o op) locks ∙ ap (λ b. b && (eqb y.0 x && same_op o op)) e)
  go false e = list_any-append (carries_on x op) locks (new_lock y o ∷ []) ∙ rw new (grind arith)

others_carry : (y : ℕ) (ops : OpSet) (x : ℕ) (op : Op) (locks : List Lock) → list_any (carries_on x op) (map (suspended y ops) locks) ≡ list_any (carries_on x op) locks
unfolding suspended carries_on is_on
others_carry y ops x op locks = any_map (carries_on x op) (suspended y ops) locks ∙ any_alike _ (carries_on x op) locks (λ lock. go lock (is_on y lock && both_conflict lock.ops ops)) where
  go : (lock : Lock) (b : Bool) → carries_on x op (cond b (record lock { granted = false }) lock) ≡ carries_on x op lock
  go lock true = refl
  go lock false = refl

-- whether a row is t's, with a lock on x that carries op
abbrev pub row_carries : ℕ → ℕ → Op → Enrolled → Bool
row_carries t x op who = eqb who.name t && list_any (carries_on x op) who.locks

granted_row_carries : (u : ℕ) (y : Ob) (o : Op) (ops : OpSet) (t x : ℕ) (op : Op) (who : Enrolled)
    → row_carries t x op (granted_row u y o ops who) ≡ ((eqb who.name u && (eqb who.name t && (eqb y.0 x && same_op o op))) || row_carries t x op who)
unfolding granted_row
granted_row_carries u y o ops t x op who = go (eqb who.name u) where
  go : (own : Bool) → row_carries t x op (cond own (record who { pending = None; locks = granted_own y o who.locks }) (record who { locks = map (suspended y.0 ops) who.locks }))
      ≡ ((own && (eqb who.name t && (eqb y.0 x && same_op o op))) || row_carries t x op who)
  go true = rw (own_carries y o x op who.locks) (grind arith)
  go false = rw (others_carry y.0 ops x op who.locks) refl

-- who carries what after a grant
pub carries_granted : (u : ℕ) (y : Ob) (o : Op) (table : LockTable) (t x : ℕ) (op : Op) → is_some (enrolled_in table u) ≡ true
    → carries (grant_in u y o table) t x op ≡ ((eqb u t && eqb y.0 x && same_op o op) || carries table t x op)
unfolding carries grant_in enrolled_in
carries_granted u y o table t x op enrolled =
    let ops = ops_with o (lock_in table u y.0) in
    any_map (row_carries t x op) (granted_row u y o ops) table
    ∙ any_of_two (λ who. row_carries t x op (granted_row u y o ops who)) (λ (who : Enrolled). eqb who.name u && (eqb who.name t && (eqb y.0 x && same_op o op))) (row_carries t x op) table (granted_row_carries u y o ops t x op)
    ∙ ap (λ b. b || list_any (row_carries t x op) table) (any_named u (λ n. eqb n t && (eqb y.0 x && same_op o op)) table ∙ ap (λ b. b && (eqb u t && (eqb y.0 x && same_op o op))) enrolled ∙ grind arith)

-- who carries what after a release
released_carries : (test : ℕ → Bool) (t x : ℕ) (op : Op) (table : LockTable) → list_any (row_carries t x op) (filter (λ (who : Enrolled). not (test who.name)) table) ≡ (not (test t) && list_any (row_carries t x op) table)
released_carries test t x op [] = grind arith
released_carries test t x op (who ∷ table) = go (test who.name) refl (eqb who.name t) refl (released_carries test t x op table) where
  go : (gone : Bool) → test who.name ≡ gone → (own : Bool) → eqb who.name t ≡ own
      → list_any (row_carries t x op) (filter (λ (h : Enrolled). not (test h.name)) table) ≡ (not (test t) && list_any (row_carries t x op) table)
      → list_any (row_carries t x op) (cond (not gone) (who ∷ filter (λ (h : Enrolled). not (test h.name)) table) (filter (λ (h : Enrolled). not (test h.name)) table))
      ≡ (not (test t) && ((own && list_any (carries_on x op) who.locks) || list_any (row_carries t x op) table))
  go true e false w ih = ih
  go true e true w ih = rw (ih, sym (ap test (eqb-true who.name t w)) ∙ e) refl
  go false e false w ih = rw (w, ih) refl
  go false e true w ih = rw (w, ih, sym (ap test (eqb-true who.name t w)) ∙ e) refl

pub carries_released : (test : ℕ → Bool) (table : LockTable) (t x : ℕ) (op : Op) → carries (release_in test table) t x op ≡ (not (test t) && carries table t x op)
unfolding carries release_in
carries_released test table t x op = released_carries test t x op table

pub carries_enrolled : (u : ℕ) (table : LockTable) (t x : ℕ) (op : Op) → carries (enrol_in u table) t x op ≡ carries table t x op
unfolding carries enrol_in
carries_enrolled u table t x op = list_any-append (row_carries t x op) table (record { name = u; pending = None; locks = [] } ∷ []) ∙ grind arith

pub carries_waiting : (u : ℕ) (y : Ob) (o : Op) (table : LockTable) (t x : ℕ) (op : Op) → carries (wait_in u y o table) t x op ≡ carries table t x op
unfolding carries wait_in waiting_row
carries_waiting u y o table t x op = any_map (row_carries t x op) (waiting_row u y o) table ∙ any_alike _ (row_carries t x op) table (λ who. go who (eqb who.name u)) where
  go : (who : Enrolled) (own : Bool) → row_carries t x op (cond own (record who { pending = Some (y, o) }) who) ≡ row_carries t x op who
  go who true = refl
  go who false = refl

-- ---- the enrolled names after a change

pub names_granted : (u : ℕ) (y : Ob) (o : Op) (table : LockTable) → names_in (grant_in u y o table) ≡ names_in table
unfolding names_in grant_in granted_row
names_granted u y o table = names_changed _ table (λ who. go who (eqb who.name u)) where
  go : (who : Enrolled) (own : Bool) → (cond own (record who { pending = None; locks = granted_own y o who.locks }) (record who { locks = map (suspended y.0 (ops_with o (lock_in table u y.0))) who.locks })).name ≡ who.name
  go who true = refl
  go who false = refl

pub names_waiting : (u : ℕ) (y : Ob) (o : Op) (table : LockTable) → names_in (wait_in u y o table) ≡ names_in table
unfolding names_in wait_in waiting_row
names_waiting u y o table = names_changed _ table (λ who. go who (eqb who.name u)) where
  go : (who : Enrolled) (own : Bool) → (cond own (record who { pending = Some (y, o) }) who).name ≡ who.name
  go who true = refl
  go who false = refl

pub names_enrolled : (u : ℕ) (table : LockTable) → names_in (enrol_in u table) ≡ names_in table ++ u ∷ []
unfolding names_in enrol_in
names_enrolled u table = map-append (λ (who : Enrolled). who.name) table _

pub names_released : (test : ℕ → Bool) (table : LockTable) → names_in (release_in test table) ≡ filter (λ n. not (test n)) (names_in table)
unfolding names_in release_in
names_released test table = go table where
  go : (everyone : List Enrolled) → map (λ (who : Enrolled). who.name) (filter (λ (who : Enrolled). not (test who.name)) everyone) ≡ filter (λ n. not (test n)) (map (λ (who : Enrolled). who.name) everyone)
  go [] = refl
  go (who ∷ everyone) = by_name (test who.name) (go everyone) where
    by_name : (gone : Bool) → map (λ (h : Enrolled). h.name) (filter (λ (h : Enrolled). not (test h.name)) everyone) ≡ filter (λ n. not (test n)) (map (λ (h : Enrolled). h.name) everyone)
        → map (λ (h : Enrolled). h.name) (cond (not gone) (who ∷ filter (λ (h : Enrolled). not (test h.name)) everyone) (filter (λ (h : Enrolled). not (test h.name)) everyone))
        ≡ cond (not gone) (who.name ∷ filter (λ n. not (test n)) (map (λ (h : Enrolled). h.name) everyone)) (filter (λ n. not (test n)) (map (λ (h : Enrolled). h.name) everyone))
    by_name true ih = ih
    by_name false ih = ap (λ ns. who.name ∷ ns) ih

-- ---- who is free
-- one of the operations conflicts with op
conflicts_by : (ops : OpSet) (other op : Op) → has_op ops other ≡ true → conflict other op ≡ true → one_conflicts ops op ≡ true
unfolding one_conflicts
conflicts_by ops Op'.Read op has conflicts = or_left _ _ (or_left _ _ (and_from _ _ has conflicts))
conflicts_by ops Op'.Write op has conflicts = or_left _ _ (or_right _ _ (and_from _ _ has conflicts))
conflicts_by ops Op'.Add op has conflicts = or_right _ _ (and_from _ _ has conflicts)

-- an operation of the lock that conflicts
conflicting_op : (ops : OpSet) (op : Op) → one_conflicts ops op ≡ true → (other : Op) × (has_op ops other ≡ true) × (conflict other op ≡ true)
unfolding one_conflicts
conflicting_op ops op h = elim (or_cases _ _ h) [
  | inl other ↦ elim (or_cases _ _ other) [
    | inl reading ↦ let both = and_parts _ _ reading in (Op'.Read, both.0, both.1)
    | inr writing ↦ let both = and_parts _ _ writing in (Op'.Write, both.0, both.1)
  ]
  | inr adding ↦ let both = and_parts _ _ adding in (Op'.Add, both.0, both.1)
]

-- locks that carry an operation in conflict conflict
locks_conflict : (x : ℕ) (other op : Op) (locks : List Lock) → list_any (carries_on x other) locks ≡ true → conflict other op ≡ true → list_any (conflicts_on x op) locks ≡ true
unfolding carries_on conflicts_on
locks_conflict x other op [] held conflicts = absurd (false≢true held)
locks_conflict x other op (lock ∷ locks) held conflicts = elim (or_cases (carries_on x other lock) _ held) [
  | inl here ↦ let parts = and_parts (is_on x lock) (has_op lock.ops other) here in or_left _ _ (and_from _ _ parts.0 (conflicts_by lock.ops other op parts.1 conflicts))
  | inr later ↦ or_right (conflicts_on x op lock) _ (locks_conflict x other op locks later conflicts)
]

-- locks that conflict carry an operation in conflict
conflict_carried : (x : ℕ) (op : Op) (locks : List Lock) → list_any (conflicts_on x op) locks ≡ true → (other : Op) × (list_any (carries_on x other) locks ≡ true) × (conflict other op ≡ true)
unfolding carries_on conflicts_on
conflict_carried x op [] h = absurd (false≢true h)
conflict_carried x op (lock ∷ locks) h = elim (or_cases (conflicts_on x op lock) _ h) [
  | inl here ↦
      let parts = and_parts (is_on x lock) (one_conflicts lock.ops op) here in
      let found = conflicting_op lock.ops op parts.1 in
      (found.0, or_left _ _ (and_from _ _ parts.0 found.1), found.2)
  | inr later ↦ let found = conflict_carried x op locks later in (found.0, or_right (carries_on x found.0 lock) _ found.1, found.2)
]

one_allows : (allows : ℕ → Bool) (t x : ℕ) (op : Op) (u : ℕ) (other : Op) (who : Enrolled) → blocks allows t x op who.name who.locks ≡ false → row_carries u x other who ≡ true
    → conflict other op ≡ true → u ≢ t → allows u ≡ true
unfolding blocks
one_allows allows t x op u other who none held conflicts apart =
    let parts = and_parts (eqb who.name u) (list_any (carries_on x other) who.locks) held in
    let name = eqb-true who.name u parts.0 in
    let is : blocks allows t x op who.name who.locks ≡ not (allows u) = rw (locks_conflict x other op who.locks parts.1 conflicts, name, ne_eqb u t apart) (grind arith) in
    not-false _ (sym is ∙ none)

-- who is not blocked by a row is allowed by it
blocked_none : (allows : ℕ → Bool) (t x : ℕ) (op : Op) (u : ℕ) (other : Op) (table : LockTable) → list_any (λ (who : Enrolled). blocks allows t x op who.name who.locks) table ≡ false → list_any (row_carries u x other) table ≡ true
    → conflict other op ≡ true → u ≢ t → allows u ≡ true
blocked_none allows t x op u other [] none held conflicts apart = absurd (false≢true held)
blocked_none allows t x op u other (who ∷ table) none held conflicts apart =
    let parts = or_parts (blocks allows t x op who.name who.locks) _ none in
    elim (or_cases (row_carries u x other who) _ held) [
      | inl here ↦ one_allows allows t x op u other who parts.0 here conflicts apart
      | inr later ↦ blocked_none allows t x op u other table parts.1 later conflicts apart
    ]

-- a row that blocks t is another's, who does not allow it and carries an operation in conflict
blocks_parts : (allows : ℕ → Bool) (t x : ℕ) (op : Op) (name : ℕ) (locks : List Lock) → blocks allows t x op name locks ≡ true
    → (eqb name t ≡ false) × (allows name ≡ false) × (list_any (conflicts_on x op) locks ≡ true)
unfolding blocks
blocks_parts allows t x op name locks h =
    let last = and_parts _ (list_any (conflicts_on x op) locks) h in
    let first = and_parts (not (eqb name t)) (not (allows name)) last.0 in
    (not-true _ first.0, not-true _ first.1, last.1)

-- where each that carries an operation in conflict allows t, no row blocks it
none_blocks : (allows : ℕ → Bool) (t x : ℕ) (op : Op) (table : LockTable) → ((u : ℕ) (other : Op) → list_any (row_carries u x other) table ≡ true → conflict other op ≡ true → u ≢ t → allows u ≡ true)
    → list_any (λ (who : Enrolled). blocks allows t x op who.name who.locks) table ≡ false
none_blocks allows t x op [] allowed = refl
none_blocks allows t x op (who ∷ table) allowed = or_from _ _ (go (blocks allows t x op who.name who.locks) refl)
    (none_blocks allows t x op table (λ u other held conflicts apart. allowed u other (or_right _ _ held) conflicts apart)) where
      go : (b : Bool) → blocks allows t x op who.name who.locks ≡ b → b ≡ false
      go false e = refl
      go true e =
          let parts = blocks_parts allows t x op who.name who.locks e in
          let by = conflict_carried x op who.locks parts.2 in
          let allowing = allowed who.name by.0 (or_left _ _ (and_from _ _ (eq-eqb who.name who.name refl) by.1)) by.2 (eqb-false who.name t parts.0) in
          absurd (false≢true (sym parts.1 ∙ allowing))

-- who is free by the locks, by who holds
pub free_by_locks : (table : LockTable) (allows : ℕ → Bool) (t x : ℕ) (op : Op) → is_free_in table allows t x op ≡ true → (u : ℕ) (other : Op) → carries table u x other ≡ true → conflict other op ≡ true → u ≢ t → allows u ≡ true
unfolding is_free_in carries
free_by_locks table allows t x op is_free u other held conflicts apart = blocked_none allows t x op u other table (not-true _ is_free) held conflicts apart

pub locks_by_free : (table : LockTable) (allows : ℕ → Bool) (t x : ℕ) (op : Op) → ((u : ℕ) (other : Op) → carries table u x other ≡ true → conflict other op ≡ true → u ≢ t → allows u ≡ true) → is_free_in table allows t x op ≡ true
unfolding is_free_in carries
locks_by_free table allows t x op allowed = not_from_false _ (none_blocks allows t x op table allowed)

-- ---- who blocks
-- who blocks is another, who does not allow t and carries an operation in conflict
pub blocker_carries : (allows : ℕ → Bool) (t x : ℕ) (op : Op) (u : ℕ) (table : LockTable) → is_blocker_in table allows t x op u ≡ true
    → (eqb u t ≡ false) × (allows u ≡ false) × ((other : Op) × (carries table u x other ≡ true) × (conflict other op ≡ true))
unfolding is_blocker_in carries
blocker_carries allows t x op u [] h = absurd (false≢true h)
blocker_carries allows t x op u (who ∷ table) h = elim (or_cases (eqb who.name u && blocks allows t x op who.name who.locks) _ h) [
  | inl here ↦
      let both = and_parts (eqb who.name u) _ here in
      let name = eqb-true who.name u both.0 in
      let parts = blocks_parts allows t x op who.name who.locks both.1 in
      let by = conflict_carried x op who.locks parts.2 in
      (sym (ap (λ n. eqb n t) name) ∙ parts.0, sym (ap allows name) ∙ parts.1, (by.0, or_left (row_carries u x by.0 who) _ (and_from _ _ both.0 by.1), by.2))
  | inr later ↦
      let found = blocker_carries allows t x op u table later in
      (found.0, found.1, (found.2.0, or_right (row_carries u x found.2.0 who) _ found.2.1, found.2.2))
]

-- and each such one blocks
pub carrier_blocks : (allows : ℕ → Bool) (t x : ℕ) (op : Op) (u : ℕ) (other : Op) (table : LockTable) → eqb u t ≡ false → allows u ≡ false → carries table u x other ≡ true → conflict other op ≡ true
    → is_blocker_in table allows t x op u ≡ true
unfolding is_blocker_in carries blocks
carrier_blocks allows t x op u other [] apart refused held conflicts = absurd (false≢true held)
carrier_blocks allows t x op u other (who ∷ table) apart refused held conflicts = elim (or_cases (row_carries u x other who) _ held) [
  | inl here ↦
      let both = and_parts (eqb who.name u) (list_any (carries_on x other) who.locks) here in
      let name = eqb-true who.name u both.0 in
      or_left _ _ (and_from _ _ both.0 (and_from _ _ (and_from _ _ (ap not (ap (λ n. eqb n t) name ∙ apart)) (ap not (ap allows name ∙ refused))) (locks_conflict x other op who.locks both.1 conflicts)))
  | inr later ↦ or_right (eqb who.name u && (not (eqb who.name t) && not (allows who.name) && list_any (conflicts_on x op) who.locks)) _ (carrier_blocks allows t x op u other table apart refused later conflicts)
]
