-- Going along arrows that are added, or without them.
use Rattle.std.proofs.Common.{◌≡◌, ℕ, ◌+◌, ◌-◌, ◌<◌, ◌≤◌, Bool, true, false, cond, eqb, ◌&&◌, ◌||◌, List, [], ◌∷◌, ◌++◌, map, filter, length, get_or, take, reverse, refl, ◌∙◌, ap, arith}
use Rattle.std.specs.List.{list_any}
use Rattle.std.proofs.lemmas.List.Elements.{filter-append}
use Rattle.std.proofs.lemmas.List.Folds.{list_any-append}
use Rattle.asset_names.specs.declared.operations.Op.{Op}
use Rattle.asset_names.specs.declared.steps.Step.{Step}
use Rattle.asset_names.specs.Arrows.{Arrow, lists, linked, among}
use Rattle.asset_names.specs.Steps.{Entry, applied}
use Rattle.asset_names.specs.Endings.{live}
use Rattle.asset_names.specs.Operations.{permits, openers, permits_along, copied}
use Rattle.asset_names.proofs.ListLemmas.{any_map, any_filter, all_and}
use Rattle.asset_reference.specs.declared.allowing.Added.{Added}
use Rattle.asset_reference.specs.declared.allowing.Added.TheVariants.{Nothing, One, Copies}
use Rattle.asset_reference.specs.declared.openers.Opened.{Opened}
use Rattle.asset_reference.specs.Openers.{opened_names, reached}
use Rattle.asset_reference.specs.Allowing.{added_arrows, goes_along, leads_on, leads_by}
use Rattle.asset_reference.proofs.AppliedLemmas.{reverse_take_item}
use Rattle.asset_reference.proofs.WayLemmas.{or_none}

-- the arrows of the first entries of a number: those that the newest of them adds, and those of the others
pub arrows_more : (entries : List Entry) (count : ℕ) (item : Entry) (added : Added) (x : ℕ) (op : Op) → 0 < count → count ≤ length entries → item ≡ get_or entries (count - 1) item
    → permits (applied (item ∷ reverse (take (count - 1) entries))) x op
    ≡ added_arrows added (permits (applied (reverse (take (count - 1) entries))) x op) ++ permits (applied (reverse (take (count - 1) entries))) x op
    → permits (applied (reverse (take count entries))) x op
    ≡ added_arrows added (permits (applied (reverse (take (count - 1) entries))) x op) ++ permits (applied (reverse (take (count - 1) entries))) x op
arrows_more entries count item added x op some within is adds =
    let one_more : count ≡ count - 1 + 1 = omega (arith, some) in
    ap (λ n. permits (applied (reverse (take n entries))) x op) one_more
    ∙ ap (λ list. permits (applied list) x op) (reverse_take_item entries (count - 1) item (omega (arith, some, within)) is)
    ∙ adds

-- what is false adds nothing, and the order of two ways does not matter

swapped : (p q : Bool) → (p || q) ≡ (q || p)
swapped true true = refl
swapped true false = refl
swapped false true = refl
swapped false false = refl

-- one more arrow
one_link : (test : ℕ → Bool) (g t : ℕ) (arrows : List Arrow) (a b : ℕ) → linked (among test ((g, t) ∷ arrows)) a b
    ≡ (linked (among test arrows) a b || (test g && (test t && (linked (among test arrows) a g && linked (among test arrows) t b))))
unfolding linked among
one_link test g t arrows a b = go (test g) (test t) where
  go : (gives takes : Bool) → linked (cond (gives && takes) ((g, t) ∷ among test arrows) (among test arrows)) a b
      ≡ (linked (among test arrows) a b || (gives && (takes && (linked (among test arrows) a g && linked (among test arrows) t b))))
  go true true = refl
  go true false = or_none (linked (among test arrows) a b)
  go false takes = or_none (linked (among test arrows) a b)

-- All copies lead from one name, so a way needs at most one of them. Without copies, `ab` says whether a way leads from
-- a to b, and `at` whether one leads from a to that name; `vb` and `vt` say the same of ways from the end of one copy, and
-- `any_b` and `any_t` whether another copy leads on to b or to that name.
one_copy : (ab at any_b any_t vb vt : Bool) → ((ab || (at && any_b)) || ((at || (at && any_t)) && (vb || (vt && any_b)))) ≡ (ab || (at && (vb || any_b)))
one_copy true at any_b any_t vb vt = refl
one_copy false false any_b any_t vb vt = refl
one_copy false true true any_t vb vt = grind arith
one_copy false true false any_t vb vt = grind arith

-- the copies of the giver's arrows
copies_link : (test : ℕ → Bool) (others : List Arrow) (g t : ℕ) (arrows : List Arrow) (a b : ℕ) → linked (among test (copied g t arrows) ++ others) a b
    ≡ (linked others a b || (test t && (linked others a t && list_any (λ (arrow : Arrow). eqb arrow.0 g && (test arrow.1 && linked others arrow.1 b)) arrows)))
unfolding linked among copied
copies_link test others g t [] a b = grind arith
copies_link test others g t (arrow ∷ arrows) a b = given (eqb arrow.0 g) (copies_link test others g t arrows) where
  any_to : ℕ → Bool
  any_to n = list_any (λ (other : Arrow). eqb other.0 g && (test other.1 && linked others other.1 n)) arrows

  Before : Type 0
  Before = (m n : ℕ) → linked (among test (copied g t arrows) ++ others) m n ≡ (linked others m n || (test t && (linked others m t && any_to n)))

  given : (its : Bool) → Before → linked (among test (map (λ (other : Arrow). (t, other.1)) (cond its (arrow ∷ filter (λ (other : Arrow). eqb other.0 g) arrows) (filter (λ (other : Arrow). eqb other.0 g) arrows))) ++ others) a b
      ≡ (linked others a b || (test t && (linked others a t && ((its && (test arrow.1 && linked others arrow.1 b)) || any_to b))))
  given false ih = ih a b
  given true ih = kept (test t) refl (test arrow.1) where
    kept : (takes : Bool) → test t ≡ takes → (leads : Bool)
        → linked (cond (takes && leads) ((t, arrow.1) ∷ among test (copied g t arrows)) (among test (copied g t arrows)) ++ others) a b
        ≡ (linked others a b || (takes && (linked others a t && ((leads && linked others arrow.1 b) || any_to b))))
    kept true e true = (λ i. ih a b i || (ih a t i && ih arrow.1 b i)) ∙ rw e (one_copy (linked others a b) (linked others a t) (any_to b) (any_to t) (linked others arrow.1 b) (linked others arrow.1 t))
    kept true e false = ih a b ∙ rw e refl
    kept false e leads = ih a b ∙ rw e refl

-- with arrows added, a way goes along one of them once or without them
pub links_added : (test : ℕ → Bool) (added : Added) (arrows : List Arrow) (a b : ℕ) → linked (among test (added_arrows added arrows ++ arrows)) a b
    ≡ (linked (among test arrows) a b || goes_along test added arrows a b)
unfolding added_arrows goes_along leads_on among
links_added test Nothing arrows a b = or_none (linked (among test arrows) a b)
links_added test (One giver taker) arrows a b = one_link test giver.0 taker.0 arrows a b
links_added test (Copies giver taker) arrows a b =
    ap (λ list. linked list a b) (split (copied giver.0 taker.0 arrows))
    ∙ copies_link test (among test arrows) giver.0 taker.0 arrows a b where
      split : (ones : List Arrow) → among test (ones ++ arrows) ≡ among test ones ++ among test arrows
      split ones = filter-append (λ (arrow : Arrow). test arrow.0 && test arrow.1) ones arrows

-- the same of the arrows that lead on from a name
pub leads_added : (test : ℕ → Bool) (others : List Arrow) (added : Added) (arrows : List Arrow) (a b : ℕ) → leads_on test others (added_arrows added arrows ++ arrows) a b
    ≡ (leads_on test others arrows a b || leads_by test others added arrows a b)
unfolding added_arrows leads_on leads_by copied
leads_added test others Nothing arrows a b = or_none (leads_on test others arrows a b)
leads_added test others (One giver taker) arrows a b = swapped _ (leads_on test others arrows a b)
leads_added test others (Copies giver taker) arrows a b =
    list_any-append leads (copied giver.0 taker.0 arrows) arrows
    ∙ ap (λ any. any || list_any leads arrows) (any_map leads (λ (arrow : Arrow). (taker.0, arrow.1)) (filter (λ (arrow : Arrow). eqb arrow.0 giver.0) arrows)
    ∙ all_and (eqb taker.0 a) on (filter (λ (arrow : Arrow). eqb arrow.0 giver.0) arrows)
    ∙ ap (λ any. eqb taker.0 a && any) (any_filter on (λ (arrow : Arrow). eqb arrow.0 giver.0) arrows))
    ∙ swapped (eqb taker.0 a && list_any (λ (arrow : Arrow). eqb arrow.0 giver.0 && on arrow) arrows) (list_any leads arrows) where
      on : Arrow → Bool
      on arrow = test arrow.1 && linked (among test others) arrow.1 b

      leads : Arrow → Bool
      leads arrow = eqb arrow.0 a && on arrow

-- those who permit to anybody by the first entries of a number: whom the newest of them adds, and the others
pub openers_more : (entries : List Entry) (i : ℕ) (item : Entry) (opened : Opened) (x : ℕ) (op : Op) → i < length entries → item ≡ get_or entries i item
    → openers (applied (item ∷ reverse (take i entries))) x op
    ≡ opened_names opened (openers (applied (reverse (take i entries))) x op) ++ openers (applied (reverse (take i entries))) x op
    → openers (applied (reverse (take (i + 1) entries))) x op
    ≡ opened_names opened (openers (applied (reverse (take i entries))) x op) ++ openers (applied (reverse (take i entries))) x op
openers_more entries i item opened x op below is adds = ap (λ list. openers (applied list) x op) (reverse_take_item entries i item below is) ∙ adds

-- whether one of them is reached
pub reached_more : (steps : List Step) (u : ℕ) (entries : List Entry) (i : ℕ) (item : Entry) (opened : Opened) (x : ℕ) (op : Op) → i < length entries → item ≡ get_or entries i item
    → openers (applied (item ∷ reverse (take i entries))) x op
    ≡ opened_names opened (openers (applied (reverse (take i entries))) x op) ++ openers (applied (reverse (take i entries))) x op
    → reached steps u x op (openers (applied (reverse (take (i + 1) entries))) x op)
    ≡ (reached steps u x op (opened_names opened (openers (applied (reverse (take i entries))) x op)) || reached steps u x op (openers (applied (reverse (take i entries))) x op))
unfolding reached
reached_more steps u entries i item opened x op below is adds =
    ap (list_any leads) (openers_more entries i item opened x op below is adds)
    ∙ list_any-append leads (opened_names opened (openers (applied (reverse (take i entries))) x op)) (openers (applied (reverse (take i entries))) x op) where
      leads : ℕ → Bool
      leads a = live steps a && permits_along steps u a x op

-- whether a name is one of them
pub opens_last : (entries : List Entry) (count : ℕ) (item : Entry) (opened : Opened) (n x : ℕ) (op : Op) → 0 < count → count ≤ length entries → item ≡ get_or entries (count - 1) item
    → openers (applied (item ∷ reverse (take (count - 1) entries))) x op
    ≡ opened_names opened (openers (applied (reverse (take (count - 1) entries))) x op) ++ openers (applied (reverse (take (count - 1) entries))) x op
    → lists (openers (applied (reverse (take count entries))) x op) n
    ≡ (lists (opened_names opened (openers (applied (reverse (take (count - 1) entries))) x op)) n || lists (openers (applied (reverse (take (count - 1) entries))) x op) n)
unfolding lists
opens_last entries count item opened n x op some within is adds =
    let one_more : count ≡ count - 1 + 1 = omega (arith, some) in
    ap (λ number. lists (openers (applied (reverse (take number entries))) x op) n) one_more
    ∙ ap (λ list. lists list n) (openers_more entries (count - 1) item opened x op (omega (arith, some, within)) is adds)
    ∙ list_any-append (λ m. eqb m n) (opened_names opened (openers (applied (reverse (take (count - 1) entries))) x op)) (openers (applied (reverse (take (count - 1) entries))) x op)
