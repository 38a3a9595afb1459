use Rattle.std.proofs.Common.{◌≡◌, ℕ, Bool, true, false, cond, List, [], ◌∷◌, ◌++◌, map, filter, Option, sym, ap, ◌∙◌, append_assoc}
use Rattle.std.proofs.lemmas.List.{append-nil}
use Rattle.asset_names.specs.InSet.{in_set}
use Rattle.asset_names.specs.declared.names.Ob.{Ob}
use Rattle.asset_chains.specs.Chained.{chain_of}
use Rattle.asset_chains.proofs.Walks.{from_key}
use Rattle.asset_lock_store.specs.declared.lock.Lock.{Lock}
use Rattle.asset_lock_store.specs.Stored.{Stored, lock_at}
use Rattle.asset_lock_store.proofs.WalkLemmas.{begins, all_left, stays, fewer, left_split, objects_at}
use Rattle.asset_lock_store.proofs.store.LockStore.add_held.Goals.{then-has+in-Ok, else-has}
use Rattle.asset_lock_store.proofs.store.LockStore.add_held.Goals as goal

-- an object that passes the test is added
one_added : (test : Ob → Bool) (held now : List Ob) (x : Ob) (rest : List Ob) → test x ≡ true → now ≡ held ++ x ∷ [] → now ++ filter test rest ≡ held ++ filter test (x ∷ rest)
one_added test held now x rest passes is =
    ap (λ (l : List Ob). l ++ filter test rest) is ∙ append_assoc held (x ∷ []) (filter test rest) ∙ ap (λ (b : Bool). held ++ cond b (x ∷ filter test rest) (filter test rest)) (sym passes)

none_added : (test : Ob → Bool) (held now : List Ob) (x : Ob) (rest : List Ob) → test x ≡ false → now ≡ held → now ++ filter test rest ≡ held ++ filter test (x ∷ rest)
none_added test held now x rest fails is = ap (λ (l : List Ob). l ++ filter test rest) is ∙ ap (λ (b : Bool). held ++ cond b (x ∷ filter test rest) (filter test rest)) (sym fails)

pub keys-init : goal.keys-init
keys-init c = record {
  home = begins c.self.inside.by_owner c.args.self.now.by_owner (ap (λ (s : Stored). s.by_owner) c.self.view_is) c.laws.ensures.sound c.args.c c.first-next.result c.first-next.ensures;
  added = ap (λ (l : List ℕ). c.args.held.now.items ++ filter (λ (x : Ob). in_set c.args.objects.now x.0) (map (λ (k : ℕ). (lock_at c.args.self.now.locks k).object) l))
      (all_left c.self.inside.by_owner c.args.self.now.by_owner (ap (λ (s : Stored). s.by_owner) c.self.view_is) c.laws.ensures.sound c.args.c c.first-next.result c.first-next.ensures);
}

pub keys-smaller : goal.keys-smaller
keys-smaller c = fewer c.self.inside.by_owner c.args.self.now.by_owner (ap (λ (s : Stored). s.by_owner) c.self.view_is) c.laws.ensures.sound c.args.c c.in-Some.key c.next-next.result c.keys.next (c.keys.invariant.home c.in-Some.key c.in-Some.is) c.next-next.ensures.next c.in-Some.is

pub keys-preserved : goal.keys-preserved
keys-preserved c =
    let home = c.keys.invariant.home c.in-Some.key c.in-Some.is in
    let rest = map (λ (k : ℕ). (lock_at c.args.self.now.locks k).object) (from_key c.next-next.result (chain_of c.args.self.now.by_owner c.args.c)) in
    record {
      home = stays c.self.inside.by_owner c.args.self.now.by_owner (ap (λ (s : Stored). s.by_owner) c.self.view_is) c.laws.ensures.sound c.args.c c.in-Some.key c.next-next.result c.keys.next home c.next-next.ensures.next c.in-Some.is;
      added =
          elim c.if-has.branch [
            | then-has+in-Ok w ↦ one_added (λ (x : Ob). in_set c.args.objects.now x.0) c.keys.held.items c.if-has.held.items c.lock.result.object rest (sym c.has.ensures ∙ w.if-has.true) (ap (λ v. v.items) w.held-is ∙ w.in-Ok.ensures.ok)
            | else-has w ↦ none_added (λ (x : Ob). in_set c.args.objects.now x.0) c.keys.held.items c.if-has.held.items c.lock.result.object rest (sym c.has.ensures ∙ w.if-has.false) (ap (λ v. v.items) w.held-is)
          ]
          ∙ ap (λ (l : Lock). c.keys.held.items ++ filter (λ (x : Ob). in_set c.args.objects.now x.0) (l.object ∷ rest)) c.lock.ensures
          ∙ sym (ap (λ (l : List ℕ). c.keys.held.items ++ filter (λ (x : Ob). in_set c.args.objects.now x.0) (map (λ (k : ℕ). (lock_at c.args.self.now.locks k).object) l))
          (left_split c.self.inside.by_owner c.args.self.now.by_owner (ap (λ (s : Stored). s.by_owner) c.self.view_is) c.laws.ensures.sound c.args.c c.in-Some.key c.next-next.result c.keys.next home c.next-next.ensures.next c.in-Some.is))
          ∙ c.keys.invariant.added;
    }

pub returns : goal.returns
returns c =
    sym (append-nil c.keys.held.items)
    ∙ sym (ap (λ (o : Option ℕ). c.keys.held.items ++ filter (λ (x : Ob). in_set c.args.objects.now x.0) (map (λ (k : ℕ). (lock_at c.args.self.now.locks k).object) (from_key o (chain_of c.args.self.now.by_owner c.args.c)))) c.in_default.is)
    ∙ c.keys.invariant.added
    ∙ sym (ap (λ (l : List Ob). c.args.held.now.items ++ filter (λ (x : Ob). in_set c.args.objects.now x.0) l) (objects_at c.args.self.now c.args.c))
