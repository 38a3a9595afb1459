-- What passes have put and taken, as numbers of tickets and as rows.
use Rattle.std.proofs.Common.{◌≡◌, ℕ, ◌+◌, ◌≤◌, List, [], ◌∷◌, ◌++◌, length, map, Vec, sym, refl, ap, ◌∙◌, append_assoc, arith}
use Rattle.asset_queue.specs.declared.rule.Hand.{Hand}
use Rattle.asset_queue.specs.Once.{Ticket, hand, weigh, Accounts, Within, SharedOut}
use Rattle.asset_queue.specs.Rows.{tickets_of}
use Rattle.asset_queue.proofs.Moves.{weigh-append}

abbrev one : Ticket → ℕ
one x = 1

-- if each ticket weighs one, the weight is their number
many : (xs : List Ticket) → weigh one xs ≡ length xs
many [] = refl
many (x ∷ xs) = omega (arith, many xs)

weightless : (h : Ticket → ℕ) (xs : List Ticket) → length xs ≡ 0 → weigh h xs ≡ 0
weightless h [] none = refl
weightless h (x ∷ xs) none = absurd (omega (arith, none))

-- a pass with all parts that took nothing put as many as the queue holds
pub all_held : (v : Hand) (items put : List Ticket) → v ≡ hand 128 put [] → Accounts v items → length items ≡ length put
all_held v items put is known =
    let even = known (ap (λ (u : Hand). u.parts) is) one in
    let p : weigh one v.put ≡ weigh one put = ap (λ (u : Hand). weigh one u.put) is in
    let t : weigh one v.taken ≡ 0 = ap (λ (u : Hand). weigh one u.taken) is in
    omega (arith, even, p, t, many items, many put)

-- one more was taken, and so no more were left before than were put
pub few_left : (v w : Hand) (put taken left : List Ticket) (x : Ticket) → v ≡ hand 128 put (taken ++ left) → w ≡ hand v.parts v.put (v.taken ++ x ∷ []) → Within w → length left + 1 ≤ length put
few_left v w put taken left x is then within =
    let parts : w.parts ≡ 128 = ap (λ (u : Hand). u.parts) then ∙ ap (λ (u : Hand). u.parts) is in
    let most = within parts one in
    let p : weigh one w.put ≡ weigh one put = ap (λ (u : Hand). weigh one u.put) then ∙ ap (λ (u : Hand). weigh one u.put) is in
    let t : weigh one w.taken ≡ weigh one (v.taken ++ x ∷ []) = ap (λ (u : Hand). weigh one u.taken) then in
    let s : weigh one v.taken ≡ weigh one (taken ++ left) = ap (λ (u : Hand). weigh one u.taken) is in
    omega (arith, most, p, t, s, weigh-append one v.taken (x ∷ []), weigh-append one taken left, many left, many put)

-- if the queue holds nothing, what was taken and what was left are what was put
pub nothing_held : (v : Hand) (items put taken left : List Ticket) → v ≡ hand 128 put (taken ++ left) → length items ≡ 0 → Accounts v items → SharedOut put taken left
nothing_held v items put taken left is none known h =
    let even = known (ap (λ (u : Hand). u.parts) is) h in
    let p : weigh h v.put ≡ weigh h put = ap (λ (u : Hand). weigh h u.put) is in
    let t : weigh h v.taken ≡ weigh h (taken ++ left) = ap (λ (u : Hand). weigh h u.taken) is in
    omega (arith, even, p, t, weigh-append h taken left, weightless h items none)

module _ {E A : Type 0} (ticket : E → Ticket) where
  tickets_of-append : (rows more : List (Vec E A)) → tickets_of ticket (rows ++ more) ≡ tickets_of ticket rows ++ tickets_of ticket more
  tickets_of-append [] more = refl
  tickets_of-append (row ∷ rows) more = ap (λ l. map ticket row.items ++ l) (tickets_of-append rows more) ∙ sym (append_assoc (map ticket row.items) (tickets_of ticket rows) (tickets_of ticket more))

  -- a pass that takes in another has what both took
  pub both_took : (l r both : Hand) (n a b : ℕ) (rows more all : List (Vec E A)) → l ≡ hand a [] (tickets_of ticket rows) → r ≡ hand b [] (tickets_of ticket more)
      → all ≡ rows ++ more → both ≡ hand (l.parts + r.parts) (l.put ++ r.put) (l.taken ++ r.taken) → a + b ≡ n → both ≡ hand n [] (tickets_of ticket all)
  both_took l r both n a b rows more all left right is then sum =
      let parts : l.parts + r.parts ≡ n = (λ i. (left i).parts + (right i).parts) ∙ sum in
      let put : l.put ++ r.put ≡ [] = λ i. (left i).put ++ (right i).put in
      let taken : l.taken ++ r.taken ≡ tickets_of ticket all = (λ i. (left i).taken ++ (right i).taken) ∙ (sym (tickets_of-append rows more) ∙ ap (tickets_of ticket) (sym is)) in
      then ∙ (λ i. hand (parts i) (put i) (taken i))
