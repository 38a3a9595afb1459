-- Each move keeps the rule of the queue.
use Rattle.std.proofs.Common.{◌≡◌, ◌≢◌, ℕ, zero, suc, ◌+◌, ◌-◌, ◌/◌, ◌<◌, ◌≤◌, List, [], ◌∷◌, ◌++◌, map, set, sym, refl, ap, ◌∙◌, subst, ⊎_elim, arith}
use Rattle.std.proofs.lemmas.List.{map-append}
use mathlib.Core.Option.{some, some-injective, some-ne-none}
use lib.ListN.{get_elem?}
use Rattle.crossbeam_queue.specs.Fifo.{Pushes, Pops, Forks, Merges, Learns}
use Rattle.crossbeam_queue.proofs.Lists.{at_set, at_snoc}
use Rattle.asset_queue.specs.declared.rule.Hand.{Hand}
use Rattle.asset_queue.specs.Once.{Ticket, hand, weigh, total, IdleIsEmpty, Balanced, Accounts, Within, Holds}
use Rattle.asset_queue.proofs.Eaches.{each_more}

pub weigh-append : (h : Ticket → ℕ) (xs ys : List Ticket) → weigh h (xs ++ ys) ≡ weigh h xs + weigh h ys
weigh-append h [] ys = omega arith
weigh-append h (x ∷ xs) ys = omega (arith, weigh-append h xs ys)

-- the total after a change of one pass
total_set : (f : Hand → ℕ) (views : List Hand) (port : ℕ) (v w : Hand) → get_elem? views port ≡ some v → total f (set views port w) + f v ≡ total f views + f w
total_set f [] port v w e = absurd (some-ne-none v (sym e))
total_set f (x ∷ xs) zero v w e = let p : f x ≡ f v = ap f (some-injective x v e) in omega (arith, p)
total_set f (x ∷ xs) (suc port) v w e = omega (arith, total_set f xs port v w e)

total_snoc : (f : Hand → ℕ) (views : List Hand) (v : Hand) → total f (views ++ v ∷ []) ≡ total f views + f v
total_snoc f [] v = omega arith
total_snoc f (x ∷ xs) v = omega (arith, total_snoc f xs v)

-- a pass has no more than all
at_least : (f : Hand → ℕ) (views : List Hand) (port : ℕ) (v : Hand) → get_elem? views port ≡ some v → f v ≤ total f views
at_least f [] port v e = absurd (some-ne-none v (sym e))
at_least f (x ∷ xs) zero v e = let p : f x ≡ f v = ap f (some-injective x v e) in omega (arith, p)
at_least f (x ∷ xs) (suc port) v e = omega (arith, at_least f xs port v e)

abbrev parts : Hand → ℕ
parts v = v.parts

-- what is zero for each pass without a part
abbrev IsIdle : (Hand → ℕ) → List Hand → Type 0
IsIdle f views = (port : ℕ) (v : Hand) → get_elem? views port ≡ some v → v.parts ≡ 0 → f v ≡ 0

nobody : (f : Hand → ℕ) (views : List Hand) → total parts views ≡ 0 → IsIdle f views → total f views ≡ 0
nobody f [] none idle = refl
nobody f (x ∷ xs) none idle =
    let first : f x ≡ 0 = idle 0 x refl (omega (arith, none)) in
    omega (arith, first, nobody f xs (omega (arith, none)) (λ port v e p. idle (suc port) v e p))

-- if one pass has all parts, it has all
alone : (f : Hand → ℕ) (views : List Hand) (port : ℕ) (v : Hand) → get_elem? views port ≡ some v → total parts views ≡ v.parts → IsIdle f views → total f views ≡ f v
alone f [] port v e all idle = absurd (some-ne-none v (sym e))
alone f (x ∷ xs) zero v e all idle =
    let same : x ≡ v = some-injective x v e in
    let p : x.parts ≡ v.parts = ap parts same in
    let q : f x ≡ f v = ap f same in
    omega (arith, q, nobody f xs (omega (arith, all, p)) (λ port v e p. idle (suc port) v e p))
alone f (x ∷ xs) (suc port) v e all idle =
    let least : v.parts ≤ total parts xs = at_least parts xs port v e in
    let first : f x ≡ 0 = idle 0 x refl (omega (arith, all, least)) in
    omega (arith, first, alone f xs port v e (omega (arith, all, least)) (λ port v e p. idle (suc port) v e p))

-- a pass without a part weighs nothing
idle_put : (views : List Hand) (h : Ticket → ℕ) → IdleIsEmpty views → IsIdle (λ v. weigh h v.put) views
idle_put views h idle port v e none = ap (weigh h) (idle port v e none).0

idle_taken : (views : List Hand) (h : Ticket → ℕ) → IdleIsEmpty views → IsIdle (λ v. weigh h v.taken) views
idle_taken views h idle port v e none = ap (weigh h) (idle port v e none).1

idle_set : (views : List Hand) (port : ℕ) (w : Hand) → (w.parts ≡ 0 → (w.put ≡ []) × (w.taken ≡ [])) → IdleIsEmpty views → IdleIsEmpty (set views port w)
idle_set views port w mine idle j u e none = ⊎_elim
    (λ (x : (j ≡ port) × (w ≡ u)). subst (λ (y : Hand). (y.put ≡ []) × (y.taken ≡ [])) x.1 (mine (ap parts x.1 ∙ none)))
    (λ (x : (j ≢ port) × (get_elem? views j ≡ some u)). idle j u x.1 none)
    (at_set views port j w u e)

-- what a pass knows that has all parts
accounts : (items : List Ticket) (views : List Hand) (port : ℕ) (v : Hand) → Balanced items views → get_elem? views port ≡ some v → Accounts v items
accounts items views port v b at all h =
    let whole : total parts views ≡ v.parts = b.parts ∙ sym all in
    let put : total (λ u. weigh h u.put) views ≡ weigh h v.put = alone (λ u. weigh h u.put) views port v at whole (idle_put views h b.idle) in
    let taken : total (λ u. weigh h u.taken) views ≡ weigh h v.taken = alone (λ u. weigh h u.taken) views port v at whole (idle_taken views h b.idle) in
    omega (arith, put, taken, b.even h)

-- the view that was written stands there
at_here : (views : List Hand) (port : ℕ) (v w : Hand) → get_elem? views port ≡ some v → get_elem? (set views port w) port ≡ some w
at_here [] port v w e = absurd (some-ne-none v (sym e))
at_here (x ∷ xs) zero v w e = refl
at_here (x ∷ xs) (suc port) v w e = at_here xs port v w e

module _ {J : Type 0} (ticket : J → Ticket) (from : J → Type 0) where
  pub begins : Holds ticket from [] (hand 128 [] [] ∷ [])
  begins = (record { parts = refl; even = λ h. refl; idle = only }, tt)
    where
      only : IdleIsEmpty (hand 128 [] [] ∷ [])
      only zero v e none = let p : 128 ≡ v.parts = ap parts (some-injective (hand 128 [] []) v e) in absurd (omega (arith, p, none))
      only (suc port) v e none = absurd (some-ne-none v (sym e))

  pub puts : (n port : ℕ) (v : Hand) (x : J) → 0 < v.parts → from x → Pushes (Holds ticket from) n port v x (λ w. w ≡ hand v.parts (v.put ++ ticket x ∷ []) v.taken)
  puts n port v x some_part one items views room holds at =
      let b = holds.0 in
      let w : Hand = hand v.parts (v.put ++ ticket x ∷ []) v.taken in
      let more : map ticket (items ++ x ∷ []) ≡ map ticket items ++ ticket x ∷ [] = map-append ticket items (x ∷ []) in (
        w,
        (
          record {
            parts = let s = total_set parts views port v w at in let p = b.parts in omega (arith, s, p);
            even = λ h.
                let s = total_set (λ u. weigh h u.put) views port v w at in
                let t = total_set (λ u. weigh h u.taken) views port v w at in
                let p = b.even h in
                let m : weigh h (map ticket (items ++ x ∷ [])) ≡ weigh h (map ticket items ++ ticket x ∷ []) = ap (weigh h) more in
                omega (arith, s, t, p, m, weigh-append h v.put (ticket x ∷ []), weigh-append h (map ticket items) (ticket x ∷ []));
            idle = idle_set views port w (λ none. absurd (omega (arith, some_part, none))) b.idle;
          },
          each_more from items x holds.1 one,
        ),
        refl,
      )

  pub takes : (port : ℕ) (v : Hand) → 0 < v.parts → Pops (Holds ticket from) port v (λ x w. (w ≡ hand v.parts v.put (v.taken ++ ticket x ∷ [])) × Within w × from x)
  takes port v some_part x items views holds at =
      let b = holds.0 in
      let w : Hand = hand v.parts v.put (v.taken ++ ticket x ∷ []) in
      let now : Balanced (map ticket items) (set views port w) = record {
        parts = let s = total_set parts views port v w at in let p = b.parts in omega (arith, s, p);
        even = λ h.
            let s = total_set (λ u. weigh h u.put) views port v w at in
            let t = total_set (λ u. weigh h u.taken) views port v w at in
            let p = b.even h in
            omega (arith, s, t, p, weigh-append h v.taken (ticket x ∷ []));
        idle = idle_set views port w (λ none. absurd (omega (arith, some_part, none))) b.idle;
      } in
      let known = accounts (map ticket items) (set views port w) port w now (at_here views port v w at) in
      (w, (now, holds.1.1), (refl, (λ all h. omega (arith, known all h)), holds.1.0))

  pub forks : (port : ℕ) (v : Hand) → Forks (Holds ticket from) port v (hand (v.parts - v.parts / 2) v.put v.taken) (hand (v.parts / 2) [] [])
  forks port v items views holds at =
      let b = holds.0 in
      let l : Hand = hand (v.parts - v.parts / 2) v.put v.taken in
      let r : Hand = hand (v.parts / 2) [] [] in
      let vs : List Hand = set views port l in
      let kept : IdleIsEmpty vs = idle_set views port l (λ none. b.idle port v at (omega (arith, none))) b.idle in (
        record {
          parts = let s = total_set parts views port v l at in let t = total_snoc parts vs r in let p = b.parts in omega (arith, s, t, p);
          even = λ h.
              let s = total_set (λ u. weigh h u.put) views port v l at in
              let t = total_set (λ u. weigh h u.taken) views port v l at in
              let s' = total_snoc (λ u. weigh h u.put) vs r in
              let t' = total_snoc (λ u. weigh h u.taken) vs r in
              let p = b.even h in
              omega (arith, s, t, s', t', p);
          idle = λ j u e none. ⊎_elim
              (λ (x : get_elem? vs j ≡ some u). kept j u x none)
              (λ (is : r ≡ u). (ap (λ (y : Hand). y.put) (sym is), ap (λ (y : Hand). y.taken) (sym is)))
              (at_snoc vs r u j e);
        },
        holds.1,
      )

  pub merges : (port : ℕ) (v : Hand) (other : ℕ) (u : Hand) → Merges (Holds ticket from) port v other u (hand (v.parts + u.parts) (v.put ++ u.put) (v.taken ++ u.taken)) (hand 0 [] [])
  merges port v other u items views holds at two at' =
      let b = holds.0 in
      let both : Hand = hand (v.parts + u.parts) (v.put ++ u.put) (v.taken ++ u.taken) in
      let spent : Hand = hand 0 [] [] in
      let vs : List Hand = set views port both in
      let was : get_elem? views other ≡ some u = ⊎_elim (λ (x : (other ≡ port) × (both ≡ u)). absurd (two x.0)) (λ (x : (other ≢ port) × (get_elem? views other ≡ some u)). x.1) (at_set views port other both u at') in
      let empty : both.parts ≡ 0 → (both.put ≡ []) × (both.taken ≡ []) = λ none.
      let mine = b.idle port v at (omega (arith, none)) in
      let theirs = b.idle other u was (omega (arith, none)) in
      ((λ i. mine.0 i ++ theirs.0 i), λ i. mine.1 i ++ theirs.1 i) in (
        record {
          parts = let s = total_set parts views port v both at in let t = total_set parts vs other u spent at' in let p = b.parts in omega (arith, s, t, p);
          even = λ h.
              let s = total_set (λ y. weigh h y.put) views port v both at in
              let t = total_set (λ y. weigh h y.taken) views port v both at in
              let s' = total_set (λ y. weigh h y.put) vs other u spent at' in
              let t' = total_set (λ y. weigh h y.taken) vs other u spent at' in
              let p = b.even h in
              omega (arith, s, t, s', t', p, weigh-append h v.put u.put, weigh-append h v.taken u.taken);
          idle = idle_set vs other spent (λ none. (refl, refl)) (idle_set views port both empty b.idle);
        },
        holds.1,
      )

  pub learns : (port : ℕ) (v : Hand) → Learns (Holds ticket from) port v (λ items. Accounts v (map ticket items))
  learns port v items views holds at = accounts (map ticket items) views port v holds.0 at
