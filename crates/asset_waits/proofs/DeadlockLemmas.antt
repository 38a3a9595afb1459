-- The lines of cycles name those whom chains of waits join.
use Rattle.std.proofs.Common.{◌≡◌, ℕ, ◌<◌, true, List, length, get_or, refl, sym, subst, ap, ◌∙◌}
use Rattle.std.specs.Prelude.{Option, Some, None}
use Rattle.std.specs.List.{Contains}
use Rattle.std.proofs.lemmas.Option.{slice_get_within, get_or_from_slice_get, slice_get-get_or}
use Rattle.asset_names.specs.declared.steps.Step.{Step}
use Rattle.asset_names.specs.Arrows.{Arrow, Chain, stay, along, lists, has_arrow}
use Rattle.asset_names.specs.Endings.{live}
use Rattle.asset_names.proofs.PermitLemmas.{has_listed}
use Rattle.asset_core.specs.Pending.{Pending}
use Rattle.asset_cycles.specs.Cyclic.{label_below}
use Rattle.asset_cycles.specs.Textbook.{Reaches}
use Rattle.asset_cycles.proofs.LeavingLemmas.{contains_arrow}
use Rattle.asset_cycles.proofs.CycleLemmas.{label_at, label_own}
use Rattle.asset_cycles.proofs.LawLemmas.{cycle_by_chains, chains_cycle, same_label, one_label}
use Rattle.asset_cycles.proofs.MemberLemmas.{member_has, has_member, has_own}
use Rattle.asset_waits.specs.Waiting.{live_names, waits_for}
use Rattle.asset_waits.specs.Deadlocks.{place_of, wait_arrows, deadlock_labels}
use Rattle.asset_waits.specs.Chains.{WaitChain, waits, through, OneLineNames}
use Rattle.asset_waits.proofs.ChainLemmas.{waited_lives, chain_lives, live_place, arrow_waits, waits_arrow}

module _ (steps : List Step) (pending : List Pending) where
  abbrev names : List ℕ
  names = live_names steps

  abbrev arrows : List Arrow
  arrows = wait_arrows steps pending

  abbrev name_at : ℕ → ℕ
  name_at k = get_or names k 0

  -- ---- chains of arrows are chains of waits
  one_wait : (a c : ℕ) → has_arrow arrows a c ≡ true → lists (waits_for steps pending (name_at a)) (name_at c) ≡ true
  unfolding wait_arrows
  one_wait a c h =
      let wait = arrow_waits steps pending names (length names) a c h in
      let place = live_place steps wait.0 (waited_lives steps pending (name_at a) wait.0 wait.1) in
      let is : name_at c ≡ wait.0 = ap name_at (sym wait.2) ∙ place.1 in
      subst (λ (n : ℕ). lists (waits_for steps pending (name_at a)) n ≡ true) (sym is) wait.1

  waits_along : (a c b : ℕ) → lists (waits_for steps pending (name_at a)) (name_at c) ≡ true → Chain arrows c b → WaitChain steps pending (name_at a) (name_at b)
  waits_along a c b first (stay n) = waits (name_at a) (name_at c) first
  waits_along a c b first (along m d n next rest) = through (name_at a) (name_at c) (name_at b) first (waits_along c d b (one_wait c d (has_listed arrows c d next)) rest)

  reaches_waits : (a b : ℕ) → Reaches arrows a b → WaitChain steps pending (name_at a) (name_at b)
  reaches_waits a b h = waits_along a h.0 b (one_wait a h.0 (has_listed arrows a h.0 h.1)) h.2

  -- ---- and back
  wait_leads : (t u : ℕ) → live steps t ≡ true → lists (waits_for steps pending t) u ≡ true → Contains arrows (place_of names t, place_of names u)
  unfolding wait_arrows
  wait_leads t u alive h =
      let place = live_place steps t alive in
      contains_arrow arrows (place_of names t) (place_of names u)
      (waits_arrow steps pending names (length names) (place_of names t) u place.0 (subst (λ (n : ℕ). lists (waits_for steps pending n) u ≡ true) (sym place.1) h))

  waits_reach : (t v : ℕ) → live steps t ≡ true → WaitChain steps pending t v → Reaches arrows (place_of names t) (place_of names v)
  waits_reach t u alive (waits a b first) = (place_of names u, wait_leads t u alive first, stay (place_of names u))
  waits_reach t v alive (through a u b first rest) =
      let on = waits_reach u v (waited_lives steps pending t u first) rest in
      (place_of names u, wait_leads t u alive first, along (place_of names u) on.0 (place_of names v) on.1 on.2)

  -- ---- who is named in one line
  pub named_waits : (t u : ℕ) → OneLineNames steps pending t u → WaitChain steps pending t u × WaitChain steps pending u t
  named_waits t u (label, own, first, second) =
      let k = first.0 in
      let l = second.0 in
      let count = length names in
      let below_k = slice_get_within names k t first.2 in
      let below_l = slice_get_within names l u second.2 in
      let at_k = sym (label_at arrows count k below_k) ∙ member_has (deadlock_labels steps pending) label k first.1 in
      let at_l = sym (label_at arrows count l below_l) ∙ member_has (deadlock_labels steps pending) label l second.1 in
      let cycle = cycle_by_chains arrows k l (same_label arrows count k l (at_k ∙ sym at_l) (λ none. cc (at_k, none))) in
      let is_t : name_at k ≡ t = get_or_from_slice_get names k t 0 first.2 in
      let is_u : name_at l ≡ u = get_or_from_slice_get names l u 0 second.2 in
      rw (← is_t, ← is_u) (reaches_waits k l cycle.0, reaches_waits l k cycle.1)

  pub waits_named : (t u : ℕ) → WaitChain steps pending t u → WaitChain steps pending u t → OneLineNames steps pending t u
  waits_named t u there back = go (label_below arrows count a) refl where
    count : ℕ
    count = length names

    a : ℕ
    a = place_of names t

    b : ℕ
    b = place_of names u

    alive_t : live steps t ≡ true
    alive_t = chain_lives steps pending u t back

    alive_u : live steps u ≡ true
    alive_u = chain_lives steps pending t u there

    place_t : (a < count) × (name_at a ≡ t)
    place_t = live_place steps t alive_t

    place_u : (b < count) × (name_at b ≡ u)
    place_u = live_place steps u alive_u

    one : (label_below arrows count a ≡ label_below arrows count b) × (label_below arrows count a ≡ None → ⊥)
    one = one_label arrows count a b place_u.0 (chains_cycle arrows a b (waits_reach t u alive_t there, waits_reach u t alive_u back))

    go : (label : Option ℕ) → label_below arrows count a ≡ label → OneLineNames steps pending t u
    go None is = absurd (one.1 is)
    go (Some l) is =
        let labels = deadlock_labels steps pending in
        let at_a = label_at arrows count a place_t.0 ∙ is in
        let at_b = label_at arrows count b place_u.0 ∙ sym one.0 ∙ is in (
          l,
          has_own labels l (label_own arrows count a l at_a),
          (a, has_member labels l a at_a, slice_get-get_or names a 0 place_t.0 ∙ ap Some place_t.1),
          (b, has_member labels l b at_b, slice_get-get_or names b 0 place_u.0 ∙ ap Some place_u.1),
        )
