-- The part of a list that a position is in.
use Rattle.std.proofs.Common.{◌≡◌, ℕ, ◌+◌, ◌-◌, ◌<◌, ◌≤◌, Bool, true, cond, refl, sym, ap, ◌∙◌, arith, inl, inr}
use Rattle.std.specs.Prelude.{nat_lt}
use Rattle.std.proofs.lemmas.Bool.{cases_eq, cases_Bool, lt-ltb, le-ltb, ltb-true, ltb-false, true≢false}
use Rattle.asset_lists.specs.declared.part.Section.{Section}
use Rattle.asset_lists.specs.declared.part.Section.TheVariants.{Front, Middle, Back}
use Rattle.asset_lists.specs.Parted.{is_up_to}
use Rattle.asset_lists.specs.Placed.{section_in, swapped}
use Rattle.asset_lists.proofs.AtLemmas.{swapped_second, swapped_other}

-- ---- by the borders
pub front_in : (f b p : ℕ) → p < f → section_in f b p ≡ Front
unfolding section_in
front_in f b p before = ap (λ (c : Bool). cond c Front (cond (nat_lt p b) Middle Back)) (lt-ltb p f before)

pub middle_in : (f b p : ℕ) → f ≤ p → p < b → section_in f b p ≡ Middle
unfolding section_in
middle_in f b p past before = λ i. cond (le-ltb p f past i) Front (cond (lt-ltb p b before i) Middle Back)

pub back_in : (f b p : ℕ) → f ≤ p → b ≤ p → section_in f b p ≡ Back
unfolding section_in
back_in f b p first second = λ i. cond (le-ltb p f first i) Front (cond (le-ltb p b second i) Middle Back)

pub in_front : (f b p : ℕ) → section_in f b p ≡ Front → p < f
unfolding section_in
in_front f b p is = elim (cases_Bool (nat_lt p f)) [
  | inl before ↦ ltb-true p f before
  | inr past ↦ elim (cases_Bool (nat_lt p b)) [
    | inl before ↦ middle (sym (λ i. cond (past i) Front (cond (before i) Middle Back)) ∙ is)
    | inr last ↦ back (sym (λ i. cond (past i) Front (cond (last i) Middle Back)) ∙ is)
  ]
] where
  middle : Middle ≡ Front → p < f
  middle e = cc

  back : Back ≡ Front → p < f
  back e = cc

pub in_middle : (f b p : ℕ) → section_in f b p ≡ Middle → (f ≤ p) × (p < b)
unfolding section_in
in_middle f b p is = elim (cases_Bool (nat_lt p f)) [
  | inl before ↦ front (sym (ap (λ (c : Bool). cond c Front (cond (nat_lt p b) Middle Back)) before) ∙ is)
  | inr past ↦ elim (cases_Bool (nat_lt p b)) [
    | inl before ↦ (ltb-false p f past, ltb-true p b before)
    | inr last ↦ back (sym (λ i. cond (past i) Front (cond (last i) Middle Back)) ∙ is)
  ]
] where
  front : Front ≡ Middle → (f ≤ p) × (p < b)
  front e = cc

  back : Back ≡ Middle → (f ≤ p) × (p < b)
  back e = cc

pub in_back : (f b p : ℕ) → section_in f b p ≡ Back → (f ≤ p) × (b ≤ p)
unfolding section_in
in_back f b p is = elim (cases_Bool (nat_lt p f)) [
  | inl before ↦ front (sym (ap (λ (c : Bool). cond c Front (cond (nat_lt p b) Middle Back)) before) ∙ is)
  | inr past ↦ elim (cases_Bool (nat_lt p b)) [
    | inl before ↦ middle (sym (λ i. cond (past i) Front (cond (before i) Middle Back)) ∙ is)
    | inr last ↦ (ltb-false p f past, ltb-false p b last)
  ]
] where
  front : Front ≡ Back → (f ≤ p) × (b ≤ p)
  front e = cc

  middle : Middle ≡ Back → (f ≤ p) × (b ≤ p)
  middle e = cc

-- ---- on which side of a border a key is after a swap
same_below : (i f g : ℕ) → (i < f → i < g) → (i < g → i < f) → nat_lt i f ≡ nat_lt i g
same_below i f g up down = elim (cases_Bool (nat_lt i f)) [
  | inl below ↦ below ∙ sym (lt-ltb i g (up (ltb-true i f below)))
  | inr past ↦ elim (cases_Bool (nat_lt i g)) [
    | inl below ↦ absurd (omega (arith, down (ltb-true i g below), ltb-false i f past))
    | inr also ↦ past ∙ sym also
  ]
]

-- the first key past the border is swapped with one past it, and is before it then
raised_border : (p f i : ℕ) → f ≤ p → (i ≡ p → ⊥) → nat_lt (swapped p f i) (f + 1) ≡ nat_lt i f
raised_border p f i past apart = elim (cases_eq i f) [
  | inl same ↦
      ap (λ n. nat_lt (swapped p f n) (f + 1)) same ∙ ap (λ n. nat_lt n (f + 1)) (swapped_second p f) ∙ le-ltb p (f + 1) (omega (arith, past, apart, same)) ∙ sym (le-ltb i f (omega (arith, same)))
  | inr other ↦ ap (λ n. nat_lt n (f + 1)) (swapped_other p f i apart other) ∙ same_below i (f + 1) f (λ h. omega (arith, h, other)) (λ h. omega (arith, h))
]

-- the last key before the border is swapped with one before it, and is past it then
lowered_border : (p f i : ℕ) → p < f → (i ≡ p → ⊥) → nat_lt (swapped p (f - 1) i) (f - 1) ≡ nat_lt i f
lowered_border p f i within apart = elim (cases_eq i (f - 1)) [
  | inl same ↦
      ap (λ n. nat_lt (swapped p (f - 1) n) (f - 1)) same ∙ ap (λ n. nat_lt n (f - 1)) (swapped_second p (f - 1)) ∙ lt-ltb p (f - 1) (omega (arith, within, apart, same)) ∙ sym (lt-ltb i f (omega (arith, same, within)))
  | inr other ↦ ap (λ n. nat_lt n (f - 1)) (swapped_other p (f - 1) i apart other) ∙ same_below i (f - 1) f (λ h. omega (arith, h)) (λ h. omega (arith, h, other))
]

-- two keys past the border are swapped
past_border : (p q f i : ℕ) → f ≤ p → f ≤ q → (i ≡ p → ⊥) → nat_lt (swapped p q i) f ≡ nat_lt i f
past_border p q f i first second apart = elim (cases_eq i q) [
  | inl same ↦ ap (λ n. nat_lt (swapped p q n) f) same ∙ ap (λ n. nat_lt n f) (swapped_second p q) ∙ le-ltb p f first ∙ sym (le-ltb i f (omega (arith, same, second)))
  | inr other ↦ ap (λ n. nat_lt n f) (swapped_other p q i apart other)
]

-- or two before it
before_border : (p q f i : ℕ) → p < f → q < f → (i ≡ p → ⊥) → nat_lt (swapped p q i) f ≡ nat_lt i f
before_border p q f i first second apart = elim (cases_eq i q) [
  | inl same ↦ ap (λ n. nat_lt (swapped p q n) f) same ∙ ap (λ n. nat_lt n f) (swapped_second p q) ∙ lt-ltb p f first ∙ sym (lt-ltb i f (omega (arith, same, second)))
  | inr other ↦ ap (λ n. nat_lt n f) (swapped_other p q i apart other)
]

-- ---- in which part a key is after a swap
sections : (f b g c i j : ℕ) → nat_lt j g ≡ nat_lt i f → nat_lt j c ≡ nat_lt i b → section_in g c j ≡ section_in f b i
unfolding section_in
sections f b g c i j first second = λ t. cond (first t) Front (cond (second t) Middle Back)

-- the part of a list of this many keys that a position is in
pub record IsIn (f b p size : ℕ) (section : Section) : Type 0 where
  pub fits : f ≤ b
  pub end : b ≤ size
  pub within : p < size
  pub here : section_in f b p ≡ section

-- the keys at two positions are swapped, and the borders are these then: the first key is in this part, and the others are
-- where they were
pub record Moves (f b p size front_now back_now q : ℕ) (section_now : Section) : Type 0 where
  pub within : q < size
  pub fits : front_now ≤ back_now
  pub end : back_now ≤ size
  pub others : (i : ℕ) → (i ≡ p → ⊥) → section_in front_now back_now (swapped p q i) ≡ section_in f b i
  pub here : section_in front_now back_now q ≡ section_now

-- a key comes from the back part to the middle part, or from there to the front part
pub raised : {f b p size : ℕ} → IsIn f b p size Back → Moves f b p size f (b + 1) b Middle
raised {f} {b} {p} {size} at =
    let past = in_back f b p at.here in
    record {
      within = omega (arith, at.within, past.1);
      fits = omega (arith, at.fits);
      end = omega (arith, at.within, past.1);
      others = λ i apart. sections f b f (b + 1) i (swapped p b i) (past_border p b f i past.0 at.fits apart) (raised_border p b i past.1 apart);
      here = middle_in f (b + 1) b at.fits (omega arith);
    }

pub raised_again : {f b p size : ℕ} → IsIn f b p size Middle → Moves f b p size (f + 1) b f Front
raised_again {f} {b} {p} {size} at =
    let inside = in_middle f b p at.here in
    record {
      within = omega (arith, inside.0, at.within);
      fits = omega (arith, inside.0, inside.1);
      end = at.end;
      others = λ i apart. sections f b (f + 1) b i (swapped p f i) (raised_border p f i inside.0 apart) (before_border p f b i inside.1 (omega (arith, inside.0, inside.1)) apart);
      here = front_in (f + 1) b f (omega arith);
    }

-- a key comes from the front part to the middle part, or from there to the back part
pub lowered : {f b p size : ℕ} → IsIn f b p size Front → Moves f b p size (f - 1) b (f - 1) Middle
lowered {f} {b} {p} {size} at =
    let before = in_front f b p at.here in
    record {
      within = omega (arith, before, at.fits, at.end);
      fits = omega (arith, at.fits);
      end = at.end;
      others = λ i apart. sections f b (f - 1) b i (swapped p (f - 1) i) (lowered_border p f i before apart) (before_border p (f - 1) b i (omega (arith, before, at.fits)) (omega (arith, before, at.fits)) apart);
      here = middle_in (f - 1) b (f - 1) (omega arith) (omega (arith, at.fits, before));
    }

pub lowered_again : {f b p size : ℕ} → IsIn f b p size Middle → Moves f b p size f (b - 1) (b - 1) Back
lowered_again {f} {b} {p} {size} at =
    let inside = in_middle f b p at.here in
    record {
      within = omega (arith, at.end, inside.1);
      fits = omega (arith, inside.0, inside.1);
      end = omega (arith, at.end);
      others = λ i apart. sections f b f (b - 1) i (swapped p (b - 1) i) (past_border p (b - 1) f i inside.0 (omega (arith, inside.0, inside.1)) apart) (lowered_border p b i inside.1 apart);
      here = back_in f (b - 1) (b - 1) (omega (arith, inside.0, inside.1)) (omega arith);
    }

-- two keys of the back part are swapped
pub kept_back : {f b p size : ℕ} → IsIn f b p size Back → (q : ℕ) → b ≤ q → q < size → Moves f b p size f b q Back
kept_back {f} {b} {p} {size} at q last within =
    let past = in_back f b p at.here in
    record {
      within = within;
      fits = at.fits;
      end = at.end;
      others = λ i apart. sections f b f b i (swapped p q i) (past_border p q f i past.0 (omega (arith, at.fits, last)) apart) (past_border p q b i past.1 last apart);
      here = back_in f b q (omega (arith, at.fits, last)) last;
    }

-- ---- parts up to a last one
-- the positions of the front part
pub up_to_front : (f b p : ℕ) → p < f → is_up_to Front (section_in f b p) ≡ true
unfolding is_up_to
up_to_front f b p before = ap (is_up_to Front) (front_in f b p before)

pub front_up_to : (f b p : ℕ) → is_up_to Front (section_in f b p) ≡ true → p < f
unfolding is_up_to
front_up_to f b p within = go (section_in f b p) refl within where
  go : (w : Section) → section_in f b p ≡ w → is_up_to Front w ≡ true → p < f
  go Front is here = in_front f b p is
  go Middle is here = absurd (true≢false (sym here))
  go Back is here = absurd (true≢false (sym here))

-- those of the front and the middle part
pub up_to_middle : (f b p : ℕ) → p < b → is_up_to Middle (section_in f b p) ≡ true
unfolding is_up_to
up_to_middle f b p before = go (section_in f b p) refl where
  go : (w : Section) → section_in f b p ≡ w → is_up_to Middle w ≡ true
  go Front is = refl
  go Middle is = refl
  go Back is = let past = in_back f b p is in absurd (omega (arith, past.1, before))

pub middle_up_to : (f b p : ℕ) → f ≤ b → is_up_to Middle (section_in f b p) ≡ true → p < b
unfolding is_up_to
middle_up_to f b p fits within = go (section_in f b p) refl within where
  go : (w : Section) → section_in f b p ≡ w → is_up_to Middle w ≡ true → p < b
  go Front is here = let front = in_front f b p is in omega (arith, front, fits)
  go Middle is here = (in_middle f b p is).1
  go Back is here = absurd (true≢false (sym here))

-- and all
pub up_to_back : (w : Section) → is_up_to Back w ≡ true
unfolding is_up_to
up_to_back w = refl
