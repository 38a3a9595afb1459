-- Links and heads store chains, before a call and after it.
use Rattle.std.proofs.Common.{◌≡◌, ℕ, ◌+◌, ◌-◌, ◌^◌, ◌<◌, ◌≤◌, true, false, eqb, List, [], ◌∷◌, ◌++◌, length, get_or, set, map, Option, Some, None, unwrap_or, refl, sym, ap, subst, ◌∙◌, arith, zero, suc, inl, inr}
use Rattle.std.specs.List.{IsDistinct}
use Rattle.std.proofs.lemmas.Bool.{or_parts, or_left, or_right, eqb-false, eq-eqb, false_from_ne_true, both_ways, cases_eq, cond-false}
use Rattle.std.proofs.lemmas.List.{get_or_read, length-set, length-map, get_or-set_same, get_or-set_other, ext_get_or, length-append}
use Rattle.std.proofs.Math.ListN.{get_or-map}
use Rattle.asset_chains.specs.Chained.{Chained, chain_of, home_of, last_of, behind, ahead, without, lists, pushed, unlinked, one_key_more, one_chain_more}
use Rattle.asset_chains.specs.declared.links.Link.{Link}
use Rattle.asset_chains.specs.declared.heads.Head.{Head}
use Rattle.asset_chains.specs.Linked.{decoded, no_link, no_head, link_at, head_at, with_after, with_before, first_code, last_code, head_of, IsRow, walk, seen, Stores, IsValid}
use Rattle.asset_chains.proofs.KeyLemmas.{lists-append, distinct_head, distinct_tail, distinct_parts, listed_apart, split_at_key, without_key, last_listed}
use Rattle.asset_chains.proofs.RowLemmas.{last_code-cons, row_split, row_join, row_frame, row_after, row_before, walk_row, beside, not_last, not_first}
use Rattle.asset_chains.proofs.Laws.{is_pushed, is_unlinked, read_more, key_more-chain, key_more-home, key_more-keys, key_more-chains, chain_more-chain, chain_more-home, chain_more-chains, chain_more-keys, chain_within, home_within, key_within, chain_bound}
use Rattle.asset_chains.proofs.SoundLemmas.{unlisted, listed_once, homes_apart, sound_pushed, sound_unlinked, sound_same, sound_nothing, no_chain_of}

-- ---- what is stored is what is seen
-- the link of a key in chain c
pub link_of : (links : List Link) (heads : List Head) (table : Chained) → Stores links heads table → (k c : ℕ) → home_of table k ≡ Some c
    → link_at links k ≡ record { home = suc c; before = last_code 0 (ahead k (chain_of table c)); after = first_code (behind k (chain_of table c)) 0 }
link_of links heads table stores k c home = beside (link_at links) c (chain_of table c) k (stores.sound.listed c k home) (stores.rows c)

pub stored_home : (links : List Link) (heads : List Head) (table : Chained) → Stores links heads table → (k : ℕ) → decoded (link_at links k).home ≡ home_of table k
stored_home links heads table stores k = by (home_of table k) refl where
  by : (o : Option ℕ) → home_of table k ≡ o → decoded (link_at links k).home ≡ home_of table k
  by None home = ap (λ (l : Link). decoded l.home) (stores.free k home) ∙ sym home
  by (Some c) home = ap (λ (l : Link). decoded l.home) (link_of links heads table stores k c home) ∙ sym home

pub stored_chain : (links : List Link) (heads : List Head) (table : Chained) → Stores links heads table → (c : ℕ) → walk (link_at links) (head_at heads c).first (head_at heads c).count ≡ chain_of table c
stored_chain links heads table stores c =
    ap (λ (h : Head). walk (link_at links) h.first h.count) (stores.ends c) ∙ walk_row (link_at links) c 0 (chain_of table c) (stores.rows c)

same_chained : (a b : Chained) → a.chains ≡ b.chains → a.homes ≡ b.homes → a ≡ b
same_chained a b chains homes = ap (λ (l : List (List ℕ)). record a { chains = l }) chains ∙ ap (λ (l : List (Option ℕ)). record b { homes = l }) homes

-- what is seen are the chains that are stored
pub seen_is : (links : List Link) (heads : List Head) (table : Chained) → Stores links heads table → seen links heads ≡ table
unfolding chain_of home_of
seen_is links heads table stores =
    let to_keys = λ (h : Head). walk (link_at links) h.first h.count in
    let to_home = λ (l : Link). decoded l.home in
    same_chained (seen links heads) table
    (ext_get_or [] (map to_keys heads) table.chains (length-map heads to_keys ∙ sym stores.chains) (λ c below. get_or-map to_keys heads c no_head ∙ stored_chain links heads table stores c))
    (ext_get_or None (map to_home links) table.homes (length-map links to_home ∙ sym stores.keys) (λ k below. get_or-map to_home links k no_link ∙ stored_home links heads table stores k))

-- links and heads that store chains are valid
pub valid_from : (links : List Link) (heads : List Head) (table : Chained) → Stores links heads table → length links < 2 ^ 32 → length heads < 2 ^ 32 → IsValid links heads
valid_from links heads table stores few_keys few_chains = record {
  stored = subst (Stores links heads) (sym (seen_is links heads table stores)) stores;
  few_keys = few_keys;
  few_chains = few_chains;
}

-- ---- after a push
pushed_other : (links between : List Link) (keys : List ℕ) (k j : ℕ) (link : Link) → ((i : ℕ) → link_at between i ≡ with_after (last_code 0 keys) (suc k) (link_at links) i) → (j ≡ k → ⊥)
    → lists keys j ≡ false → link_at (set between k link) j ≡ link_at links j
pushed_other links between keys k j link linked apart absent =
    get_or-set_other between k j link no_link apart ∙ linked j ∙ cond-false (eqb (suc j) (last_code 0 keys)) _ _ (not_last keys j absent)

pushed_row : (links between : List Link) (c : ℕ) (keys : List ℕ) (k : ℕ) → ((i : ℕ) → link_at between i ≡ with_after (last_code 0 keys) (suc k) (link_at links) i) → k < length between
    → IsDistinct eqb keys → lists keys k ≡ false → IsRow (link_at links) c 0 keys 0
    → IsRow (link_at (set between k (record { home = suc c; before = last_code 0 keys; after = 0 }))) c 0 (keys ++ k ∷ []) 0
pushed_row links between c keys k linked below distinct absent row =
    let link : Link = record { home = suc c; before = last_code 0 keys; after = 0 } in
    row_join (link_at (set between k link)) c 0 keys (k ∷ []) 0
    (row_after (link_at links) (link_at (set between k link)) c 0 keys 0 (suc k) distinct (λ j there. get_or-set_other between k j link no_link (listed_apart keys j k there absent) ∙ linked j) row)
    (get_or-set_same between k link no_link below, tt)

pub stores_pushed : (links between : List Link) (heads : List Head) (table : Chained) (c k : ℕ) (head : Head) → Stores links heads table → c < length table.chains → k < length table.homes → home_of table k ≡ None
    → length between ≡ length links → ((i : ℕ) → link_at between i ≡ with_after (last_code 0 (chain_of table c)) (suc k) (link_at links) i) → head ≡ head_of (chain_of table c ++ k ∷ [])
    → Stores (set between k (record { home = suc c; before = last_code 0 (chain_of table c); after = 0 })) (set heads c head) (pushed c k table)
stores_pushed links between heads table c k head stores chain key free size linked is_head =
    let link : Link = record { home = suc c; before = last_code 0 (chain_of table c); after = 0 } in
    let new = pushed c k table in
    let change = is_pushed c k table chain key in
    let sound = stores.sound in
    record {
      sound = sound_pushed c k table sound chain key free;
      keys = change.same_keys ∙ stores.keys ∙ sym (length-set between k link ∙ size);
      chains = change.same_chains ∙ stores.chains ∙ sym (length-set heads c head);
      rows = λ d. elim (cases_eq d c) [
        | inl same ↦ subst (λ (e : ℕ). IsRow (link_at (set between k link)) e 0 (chain_of new e) 0) (sym same)
            (subst (λ (keys : List ℕ). IsRow (link_at (set between k link)) c 0 keys 0) (sym change.chain)
            (pushed_row links between c (chain_of table c) k linked (omega (arith, key, stores.keys, size)) (sound.once c) (unlisted table sound k c free) (stores.rows c)))
        | inr apart ↦ subst (λ (keys : List ℕ). IsRow (link_at (set between k link)) d 0 keys 0) (sym (change.chains d apart))
            (row_frame (link_at links) (link_at (set between k link)) d 0 (chain_of table d) 0
            (λ j there.
            let home = sound.at_home d j there in
            pushed_other links between (chain_of table c) k j link linked (listed_apart (chain_of table d) j k there (unlisted table sound k d free))
            (listed_once table sound j d c home (λ same. apart (sym same))))
            (stores.rows d))
      ];
      ends = λ d. elim (cases_eq d c) [
        | inl same ↦ rw same (get_or-set_same heads c head no_head (omega (arith, chain, stores.chains)) ∙ is_head ∙ ap head_of (sym change.chain))
        | inr apart ↦ get_or-set_other heads c d head no_head apart ∙ stores.ends d ∙ ap head_of (sym (change.chains d apart))
      ];
      free = λ j none.
          let apart : j ≡ k → ⊥ = homes_apart new j k None (Some c) none change.home (λ same. cc) in
          let still : home_of table j ≡ None = sym (change.homes j apart) ∙ none in
          pushed_other links between (chain_of table c) k j link linked apart (unlisted table sound j c still) ∙ stores.free j still;
    }

-- ---- after an unlinking
-- the links of the other keys are as they were, but for the neighbours
unlinked_link : (links first second : List Link) (front back : List ℕ) (k j : ℕ) → ((i : ℕ) → link_at first i ≡ with_after (last_code 0 front) (first_code back 0) (link_at links) i)
    → ((i : ℕ) → link_at second i ≡ with_before (first_code back 0) (last_code 0 front) (link_at first) i) → (j ≡ k → ⊥)
    → lists back j ≡ false → link_at (set second k no_link) j ≡ with_after (last_code 0 front) (first_code back 0) (link_at links) j
unlinked_link links first second front back k j after before apart absent =
    get_or-set_other second k j no_link no_link apart ∙ before j ∙ cond-false (eqb (suc j) (first_code back 0)) _ _ (not_first back j absent) ∙ after j

unlinked_other : (links first second : List Link) (front back : List ℕ) (k j : ℕ) → ((i : ℕ) → link_at first i ≡ with_after (last_code 0 front) (first_code back 0) (link_at links) i)
    → ((i : ℕ) → link_at second i ≡ with_before (first_code back 0) (last_code 0 front) (link_at first) i)
    → lists (front ++ k ∷ back) j ≡ false → link_at (set second k no_link) j ≡ link_at links j
unlinked_other links first second front back k j after before absent =
    let parts = or_parts (lists front j) (lists (k ∷ back) j) (sym (lists-append front (k ∷ back) j) ∙ absent) in
    let rest = or_parts (eqb j k) (lists back j) parts.1 in
    unlinked_link links first second front back k j after before (eqb-false j k rest.0) rest.1 ∙ cond-false (eqb (suc j) (last_code 0 front)) _ _ (not_last front j parts.0)

unlinked_row : (links first second : List Link) (c : ℕ) (front back : List ℕ) (k : ℕ) → ((i : ℕ) → link_at first i ≡ with_after (last_code 0 front) (first_code back 0) (link_at links) i)
    → ((i : ℕ) → link_at second i ≡ with_before (first_code back 0) (last_code 0 front) (link_at first) i)
    → IsDistinct eqb (front ++ k ∷ back) → IsRow (link_at links) c 0 (front ++ k ∷ back) 0
    → IsRow (link_at (set second k no_link)) c 0 (front ++ back) 0
unlinked_row links first second c front back k after before distinct row =
    let new = link_at (set second k no_link) in
    let parts = distinct_parts front (k ∷ back) distinct in
    let halves = row_split (link_at links) c 0 front (k ∷ back) 0 row in
    let no_key_back = distinct_head k back parts.1 in
    row_join new c 0 front back 0
    (row_after (link_at links) new c 0 front (suc k) (first_code back 0) parts.0
    (λ j there.
    let rest = or_parts (eqb j k) (lists back j) (parts.2 j there) in
    unlinked_link links first second front back k j after before (eqb-false j k rest.0) rest.1)
    halves.0)
    (row_before (link_at links) new c (suc k) back 0 (last_code 0 front) (distinct_tail k back parts.1)
    (λ j there.
    let not_front : lists front j ≡ false = false_from_ne_true (lists front j) (λ ahead. both_ways (lists back j) (or_parts (eqb j k) (lists back j) (parts.2 j ahead)).1 there) in
    let apart : j ≡ k → ⊥ = listed_apart back j k there no_key_back in
    let was : link_at first j ≡ link_at links j = after j ∙ cond-false (eqb (suc j) (last_code 0 front)) _ _ (not_last front j not_front) in
    get_or-set_other second k j no_link no_link apart ∙ before j ∙ ap (λ (l : Link). with_before (first_code back 0) (last_code 0 front) (λ _. l) j) was)
    halves.1.1)

pub stores_unlinked : (links first second : List Link) (heads : List Head) (table : Chained) (c k : ℕ) (head : Head) → Stores links heads table → home_of table k ≡ Some c
    → length second ≡ length links
    → ((i : ℕ) → link_at first i ≡ with_after (last_code 0 (ahead k (chain_of table c))) (first_code (behind k (chain_of table c)) 0) (link_at links) i)
    → ((i : ℕ) → link_at second i ≡ with_before (first_code (behind k (chain_of table c)) 0) (last_code 0 (ahead k (chain_of table c))) (link_at first) i)
    → head ≡ head_of (ahead k (chain_of table c) ++ behind k (chain_of table c))
    → Stores (set second k no_link) (set heads c head) (unlinked k table)
stores_unlinked links first second heads table c k head stores home size after before is_head =
    let keys = chain_of table c in
    let front = ahead k keys in
    let back = behind k keys in
    let new = unlinked k table in
    let change = is_unlinked c k table home in
    let sound = stores.sound in
    let there = sound.listed c k home in
    let cut = split_at_key k keys there in
    let left : chain_of new c ≡ front ++ back = change.chain ∙ without_key k keys (sound.once c) there in
    let key = key_within k c table home in
    let chain = chain_within c k table there in
    let other = λ (j : ℕ) (absent : lists keys j ≡ false). unlinked_other links first second front back k j after before (sym (ap (λ (l : List ℕ). lists l j) cut) ∙ absent) in
    record {
      sound = sound_unlinked c k table sound home;
      keys = change.same_keys ∙ stores.keys ∙ sym (length-set second k no_link ∙ size);
      chains = change.same_chains ∙ stores.chains ∙ sym (length-set heads c head);
      rows = λ d. elim (cases_eq d c) [
        | inl same ↦ subst (λ (e : ℕ). IsRow (link_at (set second k no_link)) e 0 (chain_of new e) 0) (sym same)
            (subst (λ (keys : List ℕ). IsRow (link_at (set second k no_link)) c 0 keys 0) (sym left)
            (unlinked_row links first second c front back k after before (subst (λ (l : List ℕ). IsDistinct eqb l) cut (sound.once c)) (subst (λ (l : List ℕ). IsRow (link_at links) c 0 l 0) cut (stores.rows c))))
        | inr apart ↦ subst (λ (keys : List ℕ). IsRow (link_at (set second k no_link)) d 0 keys 0) (sym (change.chains d apart))
            (row_frame (link_at links) (link_at (set second k no_link)) d 0 (chain_of table d) 0
            (λ j listed. other j (listed_once table sound j d c (sound.at_home d j listed) (λ same. apart (sym same))))
            (stores.rows d))
      ];
      ends = λ d. elim (cases_eq d c) [
        | inl same ↦ rw same (get_or-set_same heads c head no_head (omega (arith, chain, stores.chains)) ∙ is_head ∙ ap head_of (sym left))
        | inr apart ↦ get_or-set_other heads c d head no_head apart ∙ stores.ends d ∙ ap head_of (sym (change.chains d apart))
      ];
      free = λ j none. elim (cases_eq j k) [
        | inl same ↦ rw same (get_or-set_same second k no_link no_link (omega (arith, key, stores.keys, size)))
        | inr apart ↦
            let still : home_of table j ≡ None = sym (change.homes j apart) ∙ none in
            other j (unlisted table sound j c still) ∙ stores.free j still
      ];
    }

-- ---- after growing
pub stores_key_more : (links : List Link) (heads : List Head) (table : Chained) → Stores links heads table → Stores (links ++ no_link ∷ []) heads (one_key_more table)
stores_key_more links heads table stores =
    let new = one_key_more table in
    let same = read_more links no_link in
    record {
      sound = sound_same table new (key_more-chain table) (key_more-home table) stores.sound;
      keys = key_more-keys table ∙ ap (λ (n : ℕ). n + 1) stores.keys ∙ sym (length-append links (no_link ∷ []));
      chains = ap (λ (l : List (List ℕ)). length l) (key_more-chains table) ∙ stores.chains;
      rows = λ c. subst (λ (keys : List ℕ). IsRow (link_at (links ++ no_link ∷ [])) c 0 keys 0) (sym (key_more-chain table c))
          (row_frame (link_at links) (link_at (links ++ no_link ∷ [])) c 0 (chain_of table c) 0 (λ j there. same j) (stores.rows c));
      ends = λ c. stores.ends c ∙ ap head_of (sym (key_more-chain table c));
      free = λ k none. same k ∙ stores.free k (sym (key_more-home table k) ∙ none);
    }

pub stores_chain_more : (links : List Link) (heads : List Head) (table : Chained) → Stores links heads table → Stores links (heads ++ no_head ∷ []) (one_chain_more table)
stores_chain_more links heads table stores =
    let new = one_chain_more table in
    record {
      sound = sound_same table new (chain_more-chain table) (chain_more-home table) stores.sound;
      keys = ap (λ (l : List (Option ℕ)). length l) (chain_more-keys table) ∙ stores.keys;
      chains = chain_more-chains table ∙ ap (λ (n : ℕ). n + 1) stores.chains ∙ sym (length-append heads (no_head ∷ []));
      rows = λ c. subst (λ (keys : List ℕ). IsRow (link_at links) c 0 keys 0) (sym (chain_more-chain table c)) (stores.rows c);
      ends = λ c. read_more heads no_head c ∙ stores.ends c ∙ ap head_of (sym (chain_more-chain table c));
      free = λ k none. stores.free k (sym (chain_more-home table k) ∙ none);
    }

-- no links and no heads store no chains
pub stores_nothing : (table : Chained) → table.chains ≡ [] → table.homes ≡ [] → Stores [] [] table
stores_nothing table chains homes =
    let no_chain = no_chain_of table chains in
    record {
      sound = sound_nothing table chains homes;
      keys = ap (λ (l : List (Option ℕ)). length l) homes;
      chains = ap (λ (l : List (List ℕ)). length l) chains;
      rows = λ c. subst (λ (keys : List ℕ). IsRow (link_at []) c 0 keys 0) (sym (no_chain c)) tt;
      ends = λ c. ap head_of (sym (no_chain c));
      free = λ k none. refl;
    }

-- ---- what the calls find
pub decoded_some : (n : ℕ) → 0 < n → decoded n ≡ Some (n - 1)
decoded_some zero some = absurd (omega (arith, some))
decoded_some (suc n) some = ap Some (omega arith)

-- the key that is stored as an end is one of the keys
pub last_within : (keys : List ℕ) (n : ℕ) → ((k : ℕ) → lists keys k ≡ true → k < n) → last_code 0 keys ≤ n
last_within [] n below = omega arith
last_within (x ∷ xs) n below =
    let last : ℕ = unwrap_or (last_of xs) x in
    omega (arith, last_code-cons 0 x xs, below last (last_listed last (x ∷ xs) refl))

pub first_within : (keys : List ℕ) (n : ℕ) → ((k : ℕ) → lists keys k ≡ true → k < n) → first_code keys 0 ≤ n
first_within [] n below = omega arith
first_within (x ∷ xs) n below = omega (arith, below x (or_left (eqb x x) (lists xs x) (eq-eqb x x refl)))

-- the keys of a chain have links
pub listed_within : (links : List Link) (heads : List Head) (table : Chained) → Stores links heads table → (c k : ℕ) → lists (chain_of table c) k ≡ true → k < length links
listed_within links heads table stores c k there = omega (arith, key_within k c table (stores.sound.at_home c k there), stores.keys)

-- there is room in the count for one more key
pub count_fits : (links : List Link) (heads : List Head) (table : Chained) → Stores links heads table → (c k : ℕ) → c < length table.chains → k < length table.homes → home_of table k ≡ None
    → length (chain_of table c) < length links
count_fits links heads table stores c k chain key free =
    let change = is_pushed c k table chain key in
    let bound = chain_bound c (pushed c k table) (sound_pushed c k table stores.sound chain key free) in
    omega (arith, bound, ap (λ (l : List ℕ). length l) change.chain, length-append (chain_of table c) (k ∷ []), change.same_keys, stores.keys)

-- ---- what the calls leave
pub push_leaves : (links between : List Link) (heads : List Head) (table : Chained) (c k stored : ℕ) (link : Link) (was head : Head) → Stores links heads table
    → c < length table.chains → k < length table.homes → home_of table k ≡ None → was ≡ head_at heads c → stored ≡ suc k → link ≡ record { home = suc c; before = was.last; after = 0 }
    → length between ≡ length links → ((i : ℕ) → link_at between i ≡ with_after was.last stored (link_at links) i)
    → ((keys : List ℕ) (key : ℕ) → was ≡ head_of keys → stored ≡ suc key → head ≡ head_of (keys ++ key ∷ []))
    → Stores (set between k link) (set heads c head) (pushed c k table)
push_leaves links between heads table c k stored link was head stores chain key free read is_stored is_link size linked with_last =
    let is : was ≡ head_of (chain_of table c) = read ∙ stores.ends c in
    let last : was.last ≡ last_code 0 (chain_of table c) = ap (λ (h : Head). h.last) is in
    let left = stores_pushed links between heads table c k head stores chain key free size
    (λ i. linked i ∙ ap (λ (n : ℕ). with_after n stored (link_at links) i) last ∙ ap (λ (n : ℕ). with_after (last_code 0 (chain_of table c)) n (link_at links) i) is_stored)
    (with_last (chain_of table c) k is is_stored) in
    subst (λ (l : Link). Stores (set between k l) (set heads c head) (pushed c k table))
    (sym (is_link ∙ ap (λ (n : ℕ). record { home = suc c; before = n; after = 0 }) last)) left

-- the home of a key whose link has one
pub stored_home_is : (links : List Link) (heads : List Head) (table : Chained) → Stores links heads table → (k : ℕ) (link : Link) → link ≡ link_at links k → 0 < link.home → home_of table k ≡ Some (link.home - 1)
stored_home_is links heads table stores k link read some = sym (stored_home links heads table stores k) ∙ sym (ap (λ (l : Link). decoded l.home) read) ∙ decoded_some link.home some

-- ... and of one whose link has none
pub stored_home_none : (links : List Link) (heads : List Head) (table : Chained) → Stores links heads table → (k : ℕ) (link : Link) → link ≡ link_at links k → link.home ≡ 0 → home_of table k ≡ None
stored_home_none links heads table stores k link read none = sym (stored_home links heads table stores k) ∙ sym (ap (λ (l : Link). decoded l.home) read) ∙ ap decoded none

-- the neighbours of a key are keys
pub before_within : (links : List Link) (heads : List Head) (table : Chained) → Stores links heads table → (k c : ℕ) (link : Link) → link ≡ link_at links k → home_of table k ≡ Some c → link.before ≤ length links
before_within links heads table stores k c link read home =
    let keys = chain_of table c in
    let cut = split_at_key k keys (stores.sound.listed c k home) in
    let is : link.before ≡ last_code 0 (ahead k keys) = ap (λ (l : Link). l.before) (read ∙ link_of links heads table stores k c home) in
    let bound = last_within (ahead k keys) (length links) (λ j there. listed_within links heads table stores c j
    (ap (λ (l : List ℕ). lists l j) cut ∙ lists-append (ahead k keys) (k ∷ behind k keys) j ∙ or_left (lists (ahead k keys) j) (lists (k ∷ behind k keys) j) there)) in
    omega (arith, is, bound)

pub after_within : (links : List Link) (heads : List Head) (table : Chained) → Stores links heads table → (k c : ℕ) (link : Link) → link ≡ link_at links k → home_of table k ≡ Some c → link.after ≤ length links
after_within links heads table stores k c link read home =
    let keys = chain_of table c in
    let cut = split_at_key k keys (stores.sound.listed c k home) in
    let is : link.after ≡ first_code (behind k keys) 0 = ap (λ (l : Link). l.after) (read ∙ link_of links heads table stores k c home) in
    let bound = first_within (behind k keys) (length links) (λ j there. listed_within links heads table stores c j
    (ap (λ (l : List ℕ). lists l j) cut ∙ lists-append (ahead k keys) (k ∷ behind k keys) j
    ∙ or_right (lists (ahead k keys) j) (lists (k ∷ behind k keys) j) (or_right (eqb j k) (lists (behind k keys) j) there))) in
    omega (arith, is, bound)

-- a chain with a key has a count
pub count_some : (links : List Link) (heads : List Head) (table : Chained) → Stores links heads table → (k c : ℕ) (head : Head) → head ≡ head_at heads c → home_of table k ≡ Some c → 0 < head.count
count_some links heads table stores k c head read home =
    let keys = chain_of table c in
    let count : head.count ≡ length keys = ap (λ (h : Head). h.count) (read ∙ stores.ends c) in
    omega (arith, count, ap (λ (l : List ℕ). length l) (split_at_key k keys (stores.sound.listed c k home)), length-append (ahead k keys) (k ∷ behind k keys))

pub unlink_leaves : (links first second : List Link) (heads : List Head) (table : Chained) (c k : ℕ) (link : Link) (was head : Head) → Stores links heads table → home_of table k ≡ Some c
    → link ≡ link_at links k → was ≡ head_at heads c → length second ≡ length links
    → ((i : ℕ) → link_at first i ≡ with_after link.before link.after (link_at links) i) → ((i : ℕ) → link_at second i ≡ with_before link.after link.before (link_at first) i)
    → ((front back : List ℕ) (key : ℕ) → was ≡ head_of (front ++ key ∷ back) → link.before ≡ last_code 0 front → link.after ≡ first_code back 0 → head ≡ head_of (front ++ back))
    → Stores (set second k no_link) (set heads c head) (unlinked k table)
unlink_leaves links first second heads table c k link was head stores home is_link read size linked_after linked_before without =
    let keys = chain_of table c in
    let is = is_link ∙ link_of links heads table stores k c home in
    let before : link.before ≡ last_code 0 (ahead k keys) = ap (λ (l : Link). l.before) is in
    let after : link.after ≡ first_code (behind k keys) 0 = ap (λ (l : Link). l.after) is in
    let cut = split_at_key k keys (stores.sound.listed c k home) in
    stores_unlinked links first second heads table c k head stores home size
    (λ i. linked_after i ∙ ap (λ (n : ℕ). with_after n link.after (link_at links) i) before ∙ ap (λ (n : ℕ). with_after (last_code 0 (ahead k keys)) n (link_at links) i) after)
    (λ i. linked_before i ∙ ap (λ (n : ℕ). with_before n link.before (link_at first) i) after ∙ ap (λ (n : ℕ). with_before (first_code (behind k keys) 0) n (link_at first) i) before)
    (without (ahead k keys) (behind k keys) k (read ∙ stores.ends c ∙ ap head_of cut) before after)

-- ---- what is read
pub read_head : (links : List Link) (heads : List Head) (table : Chained) → Stores links heads table → (c : ℕ) (head : Head) → c < length table.chains → head ≡ get_or heads c head → head ≡ head_at heads c
read_head links heads table stores c head chain read = get_or_read heads c head (omega (arith, chain, stores.chains)) read no_head

-- the link of a key with a home, and where its home is
pub read_link : (links : List Link) (heads : List Head) (table : Chained) → Stores links heads table → (k : ℕ) (link : Link) → k < length table.homes → link ≡ get_or links k link → 0 < link.home
    → (link ≡ link_at links k) × (home_of table k ≡ Some (link.home - 1)) × (link.home - 1 < length table.chains)
read_link links heads table stores k link key read some =
    let is = get_or_read links k link (omega (arith, key, stores.keys)) read no_link in
    let home = stored_home_is links heads table stores k link is some in
    (is, home, (home_within k (link.home - 1) table stores.sound home).1)
