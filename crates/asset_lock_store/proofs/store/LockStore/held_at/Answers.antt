use Rattle.std.proofs.Common.{ℕ, Option, Some, List, map, sym, ap, ◌∙◌}
use Rattle.asset_chains.specs.Chained.{chain_of, behind}
use Rattle.asset_lock_store.specs.Stored.{Stored, lock_at}
use Rattle.asset_lock_store.proofs.WalkLemmas.{begins, all_left, stays, fewer, left_split, get_later, get_first, objects_at}
use Rattle.asset_chains.proofs.Walks.{from_key}
use Rattle.std.specs.Prelude.{slice_get}
use Rattle.asset_names.specs.declared.names.Ob.{Ob}
use Rattle.asset_lock_store.specs.declared.lock.Lock.{Lock}
use Rattle.asset_lock_store.proofs.store.LockStore.held_at.Goals as goal

pub keys-init : goal.keys-init
keys-init c = record {
  home = begins c.self.inside.by_owner c.args.self.now.by_owner (ap (λ (s : Stored). s.by_owner) c.self.view_is) c.laws.ensures.sound c.args.c c.first-next.result c.first-next.ensures;
  left = ap (λ (l : List ℕ). slice_get (map (λ (k : ℕ). (lock_at c.args.self.now.locks k).object) l) c.args.index) (all_left c.self.inside.by_owner c.args.self.now.by_owner (ap (λ (s : Stored). s.by_owner) c.self.view_is) c.laws.ensures.sound c.args.c c.first-next.result c.first-next.ensures);
}

pub keys-smaller : goal.keys-smaller
keys-smaller c = fewer c.self.inside.by_owner c.args.self.now.by_owner (ap (λ (s : Stored). s.by_owner) c.self.view_is) c.laws.ensures.sound c.args.c c.in-Some.key c.next-next.result c.keys.next (c.keys.invariant.home c.in-Some.key c.in-Some.is) c.next-next.ensures.next c.in-Some.is

pub keys-preserved : goal.keys-preserved
keys-preserved c =
    let home = c.keys.invariant.home c.in-Some.key c.in-Some.is in
    record {
      home = stays c.self.inside.by_owner c.args.self.now.by_owner (ap (λ (s : Stored). s.by_owner) c.self.view_is) c.laws.ensures.sound c.args.c c.in-Some.key c.next-next.result c.keys.next home c.next-next.ensures.next c.in-Some.is;
      left =
          get_later ((λ (k : ℕ). (lock_at c.args.self.now.locks k).object) c.in-Some.key) (map (λ (k : ℕ). (lock_at c.args.self.now.locks k).object) (from_key c.next-next.result (chain_of c.args.self.now.by_owner c.args.c))) c.keys.before c.if-before-eq0.false
          ∙ sym (ap (λ (l : List ℕ). slice_get (map (λ (k : ℕ). (lock_at c.args.self.now.locks k).object) l) c.keys.before) (left_split c.self.inside.by_owner c.args.self.now.by_owner (ap (λ (s : Stored). s.by_owner) c.self.view_is) c.laws.ensures.sound c.args.c c.in-Some.key c.next-next.result c.keys.next home c.next-next.ensures.next c.in-Some.is))
          ∙ c.keys.invariant.left;
    }

pub returns-then-before-eq0 : goal.returns-then-before-eq0
returns-then-before-eq0 c =
    let home = c.keys.invariant.home c.in-Some.key c.in-Some.is in
    ap (λ (l : Lock). Some l.object) c.lock.ensures
    ∙ get_first ((λ (k : ℕ). (lock_at c.args.self.now.locks k).object) c.in-Some.key) (map (λ (k : ℕ). (lock_at c.args.self.now.locks k).object) (behind c.in-Some.key (chain_of c.args.self.now.by_owner c.args.c))) c.keys.before c.if-before-eq0.true
    ∙ sym (ap (λ (o : Option ℕ). slice_get (map (λ (k : ℕ). (lock_at c.args.self.now.locks k).object) (from_key o (chain_of c.args.self.now.by_owner c.args.c))) c.keys.before) c.in-Some.is)
    ∙ c.keys.invariant.left
    ∙ sym (ap (λ (l : List Ob). slice_get l c.args.index) (objects_at c.args.self.now c.args.c))

pub returns : goal.returns
returns c =
    sym (ap (λ (o : Option ℕ). slice_get (map (λ (k : ℕ). (lock_at c.args.self.now.locks k).object) (from_key o (chain_of c.args.self.now.by_owner c.args.c))) c.keys.before) c.in_default.is)
    ∙ c.keys.invariant.left
    ∙ sym (ap (λ (l : List Ob). slice_get l c.args.index) (objects_at c.args.self.now c.args.c))
