-- Which sets of operations conflict.
use Rattle.std.proofs.Common.{◌≡◌, Bool, true, false, cond, ◌&&◌, ◌||◌, refl, sym, ap, ◌∙◌, arith}
use Rattle.std.proofs.lemmas.Bool.{true≢false}
use Rattle.asset_lists.specs.declared.part.Section.TheVariants.{Front, Middle, Back}
use Rattle.asset_names.specs.declared.operations.Op.{Op}
use Rattle.asset_names.specs.declared.operations.Op.TheVariants as Op'
use Rattle.asset_names.specs.Operations.{conflict}
use Rattle.asset_names.specs.OpSets.{has_op, OpSet, only_op, with_op}
use Rattle.asset_names.proofs.Common.{or_false}
use Rattle.asset_lock_store.specs.LockRules.{one_conflicts, both_conflict, is_some_op, excludes, both_ops}
use Rattle.asset_lock_store.specs.Stored.{class_of, meets}

-- whether two sets conflict, by what is in them
abbrev pub flags : Bool → Bool → Bool → Bool → Bool → Bool → Bool
flags r w a read write add = (read && (w || a) || write && ((r || w) || a)) || add && (r || w)

pub conflict_flags : (a b : OpSet) → both_conflict a b ≡ flags a.read a.write a.add b.read b.write b.add
unfolding both_conflict one_conflicts conflict
conflict_flags a b = grind arith

pub conflict_swapped : (a b : OpSet) → both_conflict a b ≡ both_conflict b a
conflict_swapped a b = conflict_flags a b ∙ swapped a.read a.write a.add b.read b.write b.add ∙ sym (conflict_flags b a) where
  swapped : (r w a read write add : Bool) → flags r w a read write add ≡ flags read write add r w a
  swapped r w a read write add = grind arith

-- ---- the three classes
-- a lock that is not in the front part only adds, or only reads
middle_flags : (r w a : Bool) → cond (w || r && a) Front (cond a Middle Back) ≡ Middle → (w ≡ false) × (r ≡ false)
middle_flags true true a e = cc
middle_flags false true a e = cc
middle_flags true false true e = cc
middle_flags true false false e = cc
middle_flags false false a e = (refl, refl)

back_flags : (r w a : Bool) → cond (w || r && a) Front (cond a Middle Back) ≡ Back → (w ≡ false) × (a ≡ false)
back_flags true true a e = cc
back_flags false true a e = cc
back_flags true false true e = cc
back_flags true false false e = (refl, refl)
back_flags false false true e = cc
back_flags false false false e = (refl, refl)

pub in_middle : (ops : OpSet) → class_of ops ≡ Middle → (ops.write ≡ false) × (ops.read ≡ false)
unfolding class_of excludes
in_middle ops is = middle_flags ops.read ops.write ops.add is

pub in_back : (ops : OpSet) → class_of ops ≡ Back → (ops.write ≡ false) × (ops.add ≡ false)
unfolding class_of excludes
in_back ops is = back_flags ops.read ops.write ops.add is

-- one that only adds conflicts with those that read or write, and one that only reads with those that write or add
pub adder_conflicts : (a b : OpSet) → class_of a ≡ Middle → is_some_op a ≡ true → both_conflict a b ≡ meets Middle b
unfolding is_some_op meets
adder_conflicts a b is some = let none = in_middle a is in conflict_flags a b ∙ go a.read a.write a.add b.read b.write b.add none.0 none.1 some where
  go : (r w a read write add : Bool) → w ≡ false → r ≡ false → ((r || w) || a) ≡ true → flags r w a read write add ≡ (read || write)
  go r w a read write add quiet still some = grind arith

pub reader_conflicts : (a b : OpSet) → class_of a ≡ Back → is_some_op a ≡ true → both_conflict a b ≡ meets Back b
unfolding is_some_op meets
reader_conflicts a b is some = let none = in_back a is in conflict_flags a b ∙ go a.read a.write a.add b.read b.write b.add none.0 none.1 some where
  go : (r w a read write add : Bool) → w ≡ false → a ≡ false → ((r || w) || a) ≡ true → flags r w a read write add ≡ (write || add)
  go r w a read write add quiet still some = grind arith

-- a set that excludes all is in the front part
pub excluder_class : (ops : OpSet) → excludes ops ≡ true → class_of ops ≡ Front
unfolding class_of
excluder_class ops all = ap (λ (b : Bool). cond b Front (cond ops.add Middle Back)) all

-- a set that grows and does not exclude all stays in its part
kept_flags : (r w a x z : Bool) → ((r || w) || a) ≡ true → (w || (r || x) && (a || z)) ≡ false → cond (w || (r || x) && (a || z)) Front (cond (a || z) Middle Back) ≡ cond (w || r && a) Front (cond a Middle Back)
kept_flags r true a x z some none = absurd (true≢false none)
kept_flags true false true x z some none = absurd (true≢false none)
kept_flags true false false x true some none = absurd (true≢false none)
kept_flags true false false x false some none = refl
kept_flags false false false x z some none = absurd (true≢false (sym some))
kept_flags false false true true z some none = absurd (true≢false none)
kept_flags false false true false z some none = refl

pub class_with : (op : Op) (ops : OpSet) → is_some_op ops ≡ true → excludes (with_op op ops) ≡ false → class_of (with_op op ops) ≡ class_of ops
unfolding class_of excludes with_op is_some_op
class_with Op'.Read ops some none = go ops.read ops.write ops.add some none where
  go : (r w a : Bool) → ((r || w) || a) ≡ true → (w || a) ≡ false → cond (w || a) Front (cond a Middle Back) ≡ cond (w || r && a) Front (cond a Middle Back)
  go r true a some none = refl
  go r false true some none = absurd (true≢false none)
  go true false false some none = refl
  go false false false some none = refl
class_with Op'.Write ops some none = absurd (true≢false none)
class_with Op'.Add ops some none = go ops.read ops.write ops.add some none where
  go : (r w a : Bool) → ((r || w) || a) ≡ true → (w || r && true) ≡ false → cond (w || r && true) Front Middle ≡ cond (w || r && a) Front (cond a Middle Back)
  go r true a some none = absurd (true≢false none)
  go true false a some none = absurd (true≢false none)
  go false false true some none = refl
  go false false false some none = absurd (true≢false (sym some))

-- a set that excludes all stays in the front part
pub excluder_with : (op : Op) (ops : OpSet) → excludes ops ≡ true → class_of (with_op op ops) ≡ class_of ops
unfolding excludes with_op
excluder_with op ops all = excluder_class (with_op op ops) (go op ops.read ops.write ops.add all) ∙ sym (excluder_class ops all) where
  go : (op : Op) (r w a : Bool) → (w || r && a) ≡ true → excludes (with_op op (record { read = r; write = w; add = a })) ≡ true
  go Op'.Read r w a all = reads r w a all where
    reads : (r w a : Bool) → (w || r && a) ≡ true → (w || a) ≡ true
    reads r true a all = refl
    reads true false a all = all
    reads false false a all = absurd (true≢false (sym all))
  go Op'.Write r w a all = refl
  go Op'.Add r w a all = adds r w a all where
    adds : (r w a : Bool) → (w || r && a) ≡ true → (w || r && true) ≡ true
    adds r true a all = refl
    adds true false a all = refl
    adds false false a all = absurd (true≢false (sym all))

pub class_both : (own ops : OpSet) → is_some_op own ≡ true → excludes (both_ops own ops) ≡ false → class_of (both_ops own ops) ≡ class_of own
unfolding class_of excludes both_ops is_some_op
class_both own ops some none = go own.read own.write own.add ops.read ops.write ops.add some none where
  go : (r w a x y z : Bool) → ((r || w) || a) ≡ true → ((w || y) || (r || x) && (a || z)) ≡ false → cond ((w || y) || (r || x) && (a || z)) Front (cond (a || z) Middle Back) ≡ cond (w || r && a) Front (cond a Middle Back)
  go r true a x y z some none = absurd (true≢false none)
  go r false a x true z some none = absurd (true≢false none)
  go r false a x false z some none = kept_flags r false a x z some none

-- a set with one more operation
pub some_with : (op : Op) (ops : OpSet) → is_some_op (with_op op ops) ≡ true
unfolding is_some_op with_op
some_with Op'.Read ops = refl
some_with Op'.Write ops = go ops.read ops.add where
  go : (r a : Bool) → ((r || true) || a) ≡ true
  go r a = grind arith
some_with Op'.Add ops = go (ops.read || ops.write) where
  go : (b : Bool) → (b || true) ≡ true
  go b = grind arith

pub some_only : (op : Op) → is_some_op (only_op op) ≡ true
unfolding is_some_op only_op
some_only Op'.Read = refl
some_only Op'.Write = refl
some_only Op'.Add = refl

-- an operation that is there already
pub with_same : (op : Op) (ops : OpSet) → has_op ops op ≡ true → with_op op ops ≡ ops
unfolding with_op
with_same Op'.Read ops has = ap (λ (b : Bool). record ops { read = b }) (sym has)
with_same Op'.Write ops has = ap (λ (b : Bool). record ops { write = b }) (sym has)
with_same Op'.Add ops has = ap (λ (b : Bool). record ops { add = b }) (sym has)

pub with_only : (op : Op) → with_op op (only_op op) ≡ only_op op
unfolding with_op only_op
with_only Op'.Read = refl
with_only Op'.Write = refl
with_only Op'.Add = refl

-- what conflicts with a set with one more operation, but not with that operation, conflicts with the set
pub conflict_before : (op : Op) (a b : OpSet) → both_conflict a (with_op op b) ≡ true → one_conflicts a op ≡ false → both_conflict a b ≡ true
unfolding both_conflict with_op
conflict_before Op'.Read a b h none = go (one_conflicts a Op'.Read) b.read (b.write && one_conflicts a Op'.Write) (b.add && one_conflicts a Op'.Add) h none where
  go : (x b p q : Bool) → ((true && x || p) || q) ≡ true → x ≡ false → ((b && x || p) || q) ≡ true
  go x b p q h none = grind arith
conflict_before Op'.Write a b h none = go (one_conflicts a Op'.Write) b.write (b.read && one_conflicts a Op'.Read) (b.add && one_conflicts a Op'.Add) h none where
  go : (x b p q : Bool) → ((p || true && x) || q) ≡ true → x ≡ false → ((p || b && x) || q) ≡ true
  go x b p q h none = grind arith
conflict_before Op'.Add a b h none = go (one_conflicts a Op'.Add) b.add (b.read && one_conflicts a Op'.Read || b.write && one_conflicts a Op'.Write) h none where
  go : (x b p : Bool) → (p || true && x) ≡ true → x ≡ false → (p || b && x) ≡ true
  go x b p h none = grind arith

-- a set of one operation
pub conflict_only : (op : Op) (a : OpSet) → both_conflict a (only_op op) ≡ one_conflicts a op
unfolding both_conflict only_op
conflict_only Op'.Read a = or_false (one_conflicts a Op'.Read || false) ∙ or_false (one_conflicts a Op'.Read)
conflict_only Op'.Write a = or_false (one_conflicts a Op'.Write)
conflict_only Op'.Add a = refl
