-- The entries of the last transaction to commit, after those of the others.
use Rattle.std.proofs.Common.{◌≡◌, ℕ, ℤ, Bool, true, false, cond, not, eqb, ◌&&◌, List, [], ◌∷◌, ◌++◌, refl, sym, ◌∙◌, ap, subst, None, Some}
use Rattle.std.specs.Prelude.{Option}
use Rattle.std.specs.Option.{option_or}
use Rattle.std.specs.List.{list_any}
use Rattle.std.proofs.lemmas.Bool.{or_left, or_from, eqb-true, eq-eqb, false≢true, not_from_false}
use Rattle.std.proofs.lemmas.List.{append_assoc}
use Rattle.asset_names.specs.declared.names.Txn.{Txn}
use Rattle.asset_names.specs.declared.names.Ob.{Ob}
use Rattle.asset_names.specs.declared.operations.Op.{Op}
use Rattle.asset_names.specs.declared.operations.Op.TheVariants as Op'
use Rattle.asset_names.specs.declared.statuses.End.{End}
use Rattle.asset_names.specs.declared.steps.Step.{Step}
use Rattle.asset_names.specs.declared.steps.Step.TheVariants.{Initiate, Begin, Read, Write, Add, Complete, Permit, PermitAny, Delegate, Depend, Commit, Abort, WaitFor}
use Rattle.asset_names.specs.declared.replies.Outcome.TheVariants.{Answer}
use Rattle.asset_names.specs.Steps.{Opening, Entry, takes_effect, applied}
use Rattle.asset_names.specs.Endings.{end_of, live}
use Rattle.asset_names.specs.Groups.{actor, partner}
use Rattle.asset_names.specs.Operations.{Operation, op_of, conflict, operated, operations, allows, blocks, free, was_aborted, opening_value, value_after, value}
use Rattle.asset_names.specs.Answers.{answer, IsLegal}
use Rattle.asset_names.specs.Sources.{is_add}
use Rattle.asset_names.proofs.Common.{eqb-flip}
use Rattle.asset_laws.specs.Serial.{entries_of}
use Rattle.asset_laws.proofs.GroupLemmas.{legal_rest}
use Rattle.asset_laws.proofs.SerialPlain.{plain, AllPlain, AllSingle, IsOwn, own_refl, own_trans, own_live, own_step, other_step, answer_own, effect_plain, legal_plain}
use Rattle.asset_laws.proofs.SerialValues.{always, own_of, others_of, claims, value_append, NobodyAborted, value_always, OwnLast, own_last, ComesLast, comes_rest, Left, others_stay}

-- ---- operations of a block

own_operated : (t : ℕ) (step : Step) (os : List Operation) → plain step ≡ true → (actor step).0 ≡ t → own_of t (operated step os) ≡ operated step (own_of t os)
unfolding plain operated own_of actor
own_operated n (Initiate t parent) os fine is = refl
own_operated n (Begin t) os fine is = refl
own_operated n (Read t x) os fine is = rw (eq-eqb t.0 n is) refl
own_operated n (Write t x v) os fine is = rw (eq-eqb t.0 n is) refl
own_operated n (Add t x d) os fine is = rw (eq-eqb t.0 n is) refl
own_operated n (Complete t) os fine is = refl
own_operated n (Permit giver taker obs ops) os fine is = absurd (false≢true fine)
own_operated n (Delegate giver taker obs) os fine is = absurd (false≢true fine)
own_operated n (Depend k a b) os fine is = absurd (false≢true fine)
own_operated n (Commit t) os fine is = refl
own_operated n (Abort t) os fine is = refl
own_operated n (WaitFor t) os fine is = refl
own_operated n (PermitAny giver obs ops) os fine is = refl

other_operated : (t : ℕ) (step : Step) (os : List Operation) → plain step ≡ true → eqb (actor step).0 t ≡ false → own_of t (operated step os) ≡ own_of t os
unfolding plain operated own_of actor
other_operated n (Initiate t parent) os fine other = refl
other_operated n (Begin t) os fine other = refl
other_operated n (Read t x) os fine other = rw (other) refl
other_operated n (Write t x v) os fine other = rw (other) refl
other_operated n (Add t x d) os fine other = rw (other) refl
other_operated n (Complete t) os fine other = refl
other_operated n (Permit giver taker obs ops) os fine other = absurd (false≢true fine)
other_operated n (Delegate giver taker obs) os fine other = absurd (false≢true fine)
other_operated n (Depend k a b) os fine other = absurd (false≢true fine)
other_operated n (Commit t) os fine other = refl
other_operated n (Abort t) os fine other = refl
other_operated n (WaitFor t) os fine other = refl
other_operated n (PermitAny giver obs ops) os fine other = refl

appended_operated : (step : Step) (newer older : List Operation) → plain step ≡ true → operated step (newer ++ older) ≡ operated step newer ++ older
unfolding plain operated
appended_operated (Initiate t parent) newer older fine = refl
appended_operated (Begin t) newer older fine = refl
appended_operated (Read t x) newer older fine = refl
appended_operated (Write t x v) newer older fine = refl
appended_operated (Add t x d) newer older fine = refl
appended_operated (Complete t) newer older fine = refl
appended_operated (Permit giver taker obs ops) newer older fine = refl
appended_operated (Delegate giver taker obs) newer older fine = absurd (false≢true fine)
appended_operated (Depend k a b) newer older fine = refl
appended_operated (Commit t) newer older fine = refl
appended_operated (Abort t) newer older fine = refl
appended_operated (WaitFor t) newer older fine = refl
appended_operated (PermitAny giver obs ops) newer older fine = refl

-- the operations of t's entries after others
pub block_operations : (opening : Opening) (t : ℕ) (entries others : List Entry) → IsLegal opening entries → AllSingle entries
    → operations (applied (entries_of entries t ++ others)) ≡ own_of t (operations (applied entries)) ++ operations (applied others)
unfolding IsLegal AllSingle applied entries_of operations own_of
block_operations opening t [] others legal single = refl
block_operations opening t (entry ∷ older) others legal single = go (eqb (actor entry.0).0 t) refl (takes_effect entry.0 entry.1) refl (block_operations opening t older others legal.1 single.1) where
  Rest : Type 0
  Rest = operations (applied (entries_of older t ++ others)) ≡ own_of t (operations (applied older)) ++ operations (applied others)

  fine : takes_effect entry.0 entry.1 ≡ true → plain entry.0 ≡ true
  fine e = effect_plain opening (applied older) entry.0 entry.1 legal.0 e single.0

  go : (own : Bool) → eqb (actor entry.0).0 t ≡ own → (effect : Bool) → takes_effect entry.0 entry.1 ≡ effect → Rest
      → operations (applied (cond own (entry ∷ entries_of older t) (entries_of older t) ++ others)) ≡ own_of t (operations (cond effect (entry.0 ∷ applied older) (applied older))) ++ operations (applied others)
  go true e true f rest =
      rw (f) (ap (operated entry.0) rest ∙ appended_operated entry.0 (own_of t (operations (applied older))) (operations (applied others)) (fine f)
      ∙ ap (λ os. os ++ operations (applied others)) (sym (own_operated t entry.0 (operations (applied older)) (fine f) (eqb-true (actor entry.0).0 t e))))
  go true e false f rest = rw (f) rest
  go false e true f rest = rest ∙ ap (λ os. os ++ operations (applied others)) (sym (other_operated t entry.0 (operations (applied older)) (fine f) e))
  go false e false f rest = rest

-- ---- the others are out of the way

any_never : {A : Type 0} (test : A → Bool) (xs : List A) → ((x : A) → test x ≡ false) → list_any test xs ≡ false
any_never test [] never = refl
any_never test (x ∷ xs) never = or_from _ _ (never x) (any_never test xs never)

-- where nobody else is live every object is free
never_blocks : (steps : List Step) (t : ℕ) → ((u : ℕ) → eqb u t ≡ false → live steps u ≡ false) → (x : ℕ) (op : Op) (o : Operation) → blocks steps t x op o ≡ false
unfolding blocks
never_blocks steps t alone x op o = go (eqb o.owner t) refl (eqb o.object x && conflict (op_of o.use_of) op) where
  none : (b : Bool) → (b && false) ≡ false
  none true = refl
  none false = refl

  go : (own : Bool) → eqb o.owner t ≡ own → (on : Bool) → (((on && not own) && live steps o.owner) && not (allows steps o.owner t x op)) ≡ false
  go true e on = rw (none on) refl
  go false e on = rw (alone o.owner e, none (on && true)) refl

alone_free : (steps : List Step) (t : ℕ) → ((u : ℕ) → eqb u t ≡ false → live steps u ≡ false) → (x : ℕ) (op : Op) → free steps t x op ≡ true
unfolding free
alone_free steps t alone x op = not_from_false _ (any_never (blocks steps t x op) (operations steps) (never_blocks steps t alone x op))

-- who reads x claims it, and leaves what others left
read_left : (t : ℕ) (u : Txn) (x : Ob) (entry : Entry) (older : List Entry) (first : ℤ) → entry.0 ≡ Read u x → u.0 ≡ t → takes_effect entry.0 entry.1 ≡ true
    → Left t x.0 first (value_after always x.0 first (others_of t (operations (applied older)))) (operations (applied (entry ∷ older)))
unfolding applied operations operated Left claims is_add others_of
read_left t u x entry older first is own effect = rw (effect, is, eq-eqb u.0 t own) (or_left (eqb x.0 x.0 && true) _ (rw (eq-eqb x.0 x.0 refl) refl), refl)

-- ---- the block

-- who had aborted has
aborted_before : (step : Step) (steps : List Step) → NobodyAborted (step ∷ steps) → NobodyAborted steps
unfolding end_of was_aborted
aborted_before step steps none n = go (end_of steps n) _ (none n) where
  go : (end later : Option End) → was_aborted (option_or end later) ≡ false → was_aborted end ≡ false
  go None later h = refl
  go (Some end) later h = h

pub unaborted_rest : (newer older : List Entry) → NobodyAborted (applied (newer ++ older)) → NobodyAborted (applied older)
unfolding applied
unaborted_rest [] older none = none
unaborted_rest (entry ∷ newer) older none = unaborted_rest newer older (go (takes_effect entry.0 entry.1) none) where
  go : (effect : Bool) → NobodyAborted (cond effect (entry.0 ∷ applied (newer ++ older)) (applied (newer ++ older))) → NobodyAborted (applied (newer ++ older))
  go true h = aborted_before entry.0 (applied (newer ++ older)) h
  go false h = h

pub single_rest : (newer older : List Entry) → AllSingle (newer ++ older) → AllSingle older
unfolding AllSingle
single_rest [] older single = single
single_rest (entry ∷ newer) older single = single_rest newer older single.1

-- the others: a legal history in which nobody is live, nobody has aborted, t does not occur, and each object has what the
-- others leave in all entries
pub record AreOthers (opening : Opening) (t : ℕ) (all others : List Entry) : Type 0 where
  pub legal : IsLegal opening others
  pub single : AllSingle others
  pub absent : IsOwn t (applied others) []
  pub idle : (n : ℕ) → live (applied others) n ≡ false
  pub unaborted : NobodyAborted (applied others)
  pub values : (x : ℕ) → value opening (applied others) x ≡ value_after always x (opening_value opening x) (others_of t (operations (applied all)))

-- t's entries after the others: they are legal, and say of t what its entries among all do, and of others what the others do
pub record IsBlock (opening : Opening) (t : ℕ) (entries others : List Entry) : Type 0 where
  pub legal : IsLegal opening (entries_of entries t ++ others)
  pub single : AllSingle (entries_of entries t ++ others)
  pub itself : IsOwn t (applied (entries_of entries t ++ others)) (applied entries)
  pub rest : (u : ℕ) → eqb u t ≡ false → IsOwn u (applied (entries_of entries t ++ others)) (applied others)

-- nobody has aborted after a part of the block
block_unaborted : (opening : Opening) (t : ℕ) (entries others : List Entry) → IsBlock opening t entries others → NobodyAborted (applied entries) → NobodyAborted (applied others) → NobodyAborted (applied (entries_of entries t ++ others))
block_unaborted opening t entries others block one other n = go (eqb n t) refl where
  go : (own : Bool) → eqb n t ≡ own → was_aborted (end_of (applied (entries_of entries t ++ others)) n) ≡ false
  go true e = subst (λ m. was_aborted (end_of (applied (entries_of entries t ++ others)) m) ≡ false) (sym (eqb-true n t e)) (ap was_aborted block.itself.end_own ∙ one t)
  go false e = ap was_aborted (block.rest n e).end_own ∙ other n

-- what t reads after the others is what it read among all
block_reads : (opening : Opening) (t : ℕ) (newer : List Entry) (entry : Entry) (older others : List Entry) → IsLegal opening (newer ++ entry ∷ older) → AllSingle (newer ++ entry ∷ older) → ComesLast t (newer ++ entry ∷ older)
    → NobodyAborted (applied (newer ++ entry ∷ older)) → AreOthers opening t (newer ++ entry ∷ older) others → IsBlock opening t older others → (u : Txn) (x : Ob) → entry.0 ≡ Read u x → u.0 ≡ t → takes_effect entry.0 entry.1 ≡ true
    → value opening (applied (entries_of older t ++ others)) x.0 ≡ value opening (applied older) x.0
unfolding IsLegal AllSingle Left OwnLast
block_reads opening t newer entry older others legal single last unaborted are block u x is own effect =
    value_always opening (applied (entries_of older t ++ others)) x.0 (block_unaborted opening t older others block (unaborted_rest (newer ++ entry ∷ []) older (subst (λ l. NobodyAborted (applied l)) (sym (append_assoc newer (entry ∷ []) older)) unaborted)) are.unaborted)
    ∙ ap (value_after always x.0 first) (block_operations opening t older others here.1 alone.1)
    ∙ value_append x.0 first (own_of t (operations (applied older))) (operations (applied others))
    ∙ ap (λ v. value_after always x.0 v (own_of t (operations (applied older)))) (sym (value_always opening (applied others) x.0 are.unaborted) ∙ are.values x.0 ∙ left.1)
    ∙ sym (own_last opening t older here.1 alone.1 (comes_rest t (newer ++ entry ∷ []) older (subst (ComesLast t) (sym (append_assoc newer (entry ∷ []) older)) last)) x.0 first)
    ∙ sym (value_always opening (applied older) x.0 (unaborted_rest (newer ++ entry ∷ []) older (subst (λ l. NobodyAborted (applied l)) (sym (append_assoc newer (entry ∷ []) older)) unaborted))) where
      first : ℤ
      first = opening_value opening x.0

      here : IsLegal opening (entry ∷ older)
      here = legal_rest opening newer (entry ∷ older) legal

      alone : AllSingle (entry ∷ older)
      alone = single_rest newer (entry ∷ older) single

      used : Left t x.0 first (value_after always x.0 first (others_of t (operations (applied older)))) (operations (applied (entry ∷ older)))
      used = read_left t u x entry older first is own effect

      left : Left t x.0 first (value_after always x.0 first (others_of t (operations (applied older)))) (operations (applied (newer ++ entry ∷ older)))
      left = others_stay opening t x.0 first (value_after always x.0 first (others_of t (operations (applied older)))) newer (entry ∷ older) legal single last used

-- one more entry
both : (opening : Opening) (entry : Entry) (older : List Entry) → answer opening (applied older) entry.0 ≡ Answer entry.1 → IsLegal opening older → IsLegal opening (entry ∷ older)
unfolding IsLegal
both opening entry older is legal = (is, legal)

both_single : (entry : Entry) (older : List Entry) → (actor entry.0).0 ≡ (partner entry.0).0 → AllSingle older → AllSingle (entry ∷ older)
unfolding AllSingle
both_single entry older alone single = (alone, single)

pub own_sym : (n : ℕ) (some all : List Step) → IsOwn n some all → IsOwn n all some
own_sym n some all own = record { initiated_own = sym own.initiated_own; begun_own = sym own.begun_own; completed_own = sym own.completed_own; end_own = sym own.end_own }

-- the newest entry
legal_head : (opening : Opening) (entry : Entry) (older : List Entry) → IsLegal opening (entry ∷ older) → answer opening (applied older) entry.0 ≡ Answer entry.1
unfolding IsLegal
legal_head opening entry older legal = legal.0

single_head : (entry : Entry) (older : List Entry) → AllSingle (entry ∷ older) → (actor entry.0).0 ≡ (partner entry.0).0
unfolding AllSingle
single_head entry older single = single.0

-- a part of all entries, from the oldest on
abbrev pub IsPart : List Entry → List Entry → Type 0
IsPart all entries = (newer : List Entry) × (newer ++ entries ≡ all)

pub part_rest : (all : List Entry) (entry : Entry) (older : List Entry) → IsPart all (entry ∷ older) → IsPart all older
part_rest all entry older part = (part.0 ++ entry ∷ [], append_assoc part.0 (entry ∷ []) older ∙ part.1)

pub block : (opening : Opening) (t : ℕ) (all others : List Entry) → IsLegal opening all → AllSingle all → ComesLast t all → NobodyAborted (applied all) → AreOthers opening t all others
    → (entries : List Entry) → IsPart all entries → IsBlock opening t entries others
unfolding applied entries_of actor
block opening t all others legal single last unaborted are [] part = record { legal = are.legal; single = are.single; itself = are.absent; rest = λ u apart. own_refl u (applied others) }
block opening t all others legal single last unaborted are (entry ∷ older) part =
    go (eqb (actor entry.0).0 t) refl (takes_effect entry.0 entry.1) refl (block opening t all others legal single last unaborted are older (part_rest all entry older part)) where
      whole : IsLegal opening (part.0 ++ entry ∷ older)
      whole = subst (IsLegal opening) (sym part.1) legal

      singles : AllSingle (part.0 ++ entry ∷ older)
      singles = subst AllSingle (sym part.1) single

      answered : answer opening (applied older) entry.0 ≡ Answer entry.1
      answered = legal_head opening entry older (legal_rest opening part.0 (entry ∷ older) whole)

      rests : IsLegal opening older
      rests = legal_rest opening (entry ∷ []) older (legal_rest opening part.0 (entry ∷ older) whole)

      alone : (actor entry.0).0 ≡ (partner entry.0).0
      alone = single_head entry older (single_rest part.0 (entry ∷ older) singles)

      all_plain : AllPlain (applied older)
      all_plain = legal_plain opening older rests (single_rest (entry ∷ []) older (single_rest part.0 (entry ∷ older) singles))

      fine : takes_effect entry.0 entry.1 ≡ true → plain entry.0 ≡ true
      fine e = effect_plain opening (applied older) entry.0 entry.1 answered e alone

      reads_alike : IsBlock opening t older others → (actor entry.0).0 ≡ t → (u : Txn) (x : Ob) → entry.0 ≡ Read u x → free (applied older) u.0 x.0 Op'.Read ≡ true → takes_effect entry.0 entry.1 ≡ true
          → value opening (applied (entries_of older t ++ others)) x.0 ≡ value opening (applied older) x.0
      reads_alike before own u x is is_free effect =
          block_reads opening t part.0 entry older others whole singles (subst (ComesLast t) (sym part.1) last) (subst (λ l. NobodyAborted (applied l)) (sym part.1) unaborted)
          (subst (λ l. AreOthers opening t l others) (sym part.1) are) before u x is (sym (ap (λ s. (actor s).0) is) ∙ own) effect

      ready : IsBlock opening t older others → AllPlain (applied (entries_of older t ++ others))
      ready before = legal_plain opening (entries_of older t ++ others) before.legal before.single

      idle : IsBlock opening t older others → (u : ℕ) → eqb u t ≡ false → live (applied (entries_of older t ++ others)) u ≡ false
      idle before u apart = own_live u (applied (entries_of older t ++ others)) (applied others) (before.rest u apart) ∙ are.idle u

      again : IsBlock opening t older others → (actor entry.0).0 ≡ t → answer opening (applied (entries_of older t ++ others)) entry.0 ≡ Answer entry.1
      again before own =
          answer_own opening (applied (entries_of older t ++ others)) (applied older) (ready before) all_plain entry.0
          (subst (λ n. IsOwn n (applied (entries_of older t ++ others)) (applied older)) (sym own) before.itself) alone
          (subst (λ n. (x : ℕ) (op : Op) → free (applied (entries_of older t ++ others)) n x op ≡ true) (sym own) (alone_free (applied (entries_of older t ++ others)) t (idle before)))
          entry.1 (reads_alike before own) answered

      apart_of : (u : ℕ) → eqb u t ≡ false → (actor entry.0).0 ≡ t → eqb (actor entry.0).0 u ≡ false
      apart_of u apart own = ap (λ n. eqb n u) own ∙ eqb-flip t u ∙ apart

      go : (own : Bool) → eqb (actor entry.0).0 t ≡ own → (effect : Bool) → takes_effect entry.0 entry.1 ≡ effect → IsBlock opening t older others → IsBlock opening t (entry ∷ older) others
      go true e true f before =
          let own = eqb-true (actor entry.0).0 t e in record {
            legal = rw (e) (both opening entry (entries_of older t ++ others) (again before own) before.legal);
            single = rw (e) (both_single entry (entries_of older t ++ others) alone before.single);
            itself = rw (e, f) (own_step t (applied (entries_of older t ++ others)) (applied older) before.itself (ready before) all_plain entry.0 own);
            rest = λ u apart. rw (e, f) (own_trans u _ (applied (entries_of older t ++ others)) (applied others) (other_step u (applied (entries_of older t ++ others)) (ready before) entry.0 (apart_of u apart own)) (before.rest u apart));
          }
      go true e false f before =
          let own = eqb-true (actor entry.0).0 t e in record {
            legal = rw (e) (both opening entry (entries_of older t ++ others) (again before own) before.legal);
            single = rw (e) (both_single entry (entries_of older t ++ others) alone before.single);
            itself = rw (e, f) before.itself;
            rest = λ u apart. rw (e, f) (before.rest u apart);
          }
      go false e true f before = record {
        legal = rw (e) before.legal;
        single = rw (e) before.single;
        itself = rw (e, f) (own_trans t (applied (entries_of older t ++ others)) (applied older) _ before.itself (own_sym t _ (applied older) (other_step t (applied older) all_plain entry.0 e)));
        rest = λ u apart. rw (e) (before.rest u apart);
      }
      go false e false f before = record { legal = rw (e) before.legal; single = rw (e) before.single; itself = rw (e, f) before.itself; rest = λ u apart. rw (e) (before.rest u apart) }
