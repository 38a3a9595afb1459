-- What is heard and said line by line.
use Rattle.std.proofs.Common.{◌≡◌, ℕ, zero, suc, ◌+◌, ◌==◌, ◌≤◌, Bool, true, false, cond, List, [], ◌∷◌, ◌++◌, ◌-◌, min, length, take, refl, sym, ap, ◌∙◌, append_assoc, append-nil, arith}
use Rattle.std.proofs.Math.Seq.{take-append-add}
use Rattle.std.proofs.lemmas.List.{length-take, take_all, take_min}
use Rattle.std.proofs.lemmas.List.Elements.{All-head, All-tail}
use Rattle.asset_grammar.specs.Lines.{Lacks}
use Rattle.asset_shell.specs.Sessions.{Session}
use Rattle.asset_shell.specs.Talking.{Talk, after, ended, heard, kept, said, said_now}

pub take_again : (n : ℕ) (xs ys : List ℕ) → take n (take n xs ++ ys) ≡ take n (xs ++ ys)
take_again zero xs ys = refl
take_again (suc n) [] ys = refl
take_again (suc n) (x ∷ xs) ys = ap (λ (l : List ℕ). x ∷ l) (take_again n xs ys)

-- what is kept of a line
pub kept_none : (talk : Talk) → length talk.begun ≤ 4097 → kept talk [] ≡ talk
unfolding kept
kept_none talk few = ap (λ (begun : List ℕ). record talk { begun = begun }) (ap (take 4097) (append-nil talk.begun) ∙ take_all 4097 talk.begun few)

pub kept_kept : (talk : Talk) (a b : List ℕ) → kept (kept talk a) b ≡ kept talk (a ++ b)
unfolding kept
kept_kept talk a b = ap (λ (begun : List ℕ). record talk { begun = begun }) (take_again 4097 (talk.begun ++ a) b ∙ ap (take 4097) (append_assoc talk.begun a b))

kept_few : (talk : Talk) (a : List ℕ) → length (kept talk a).begun ≤ 4097
unfolding kept
kept_few talk a = omega (arith, length-take 4097 (talk.begun ++ a))

-- a byte that is no line feed
heard_other : (talk : Talk) (b : ℕ) → (b == 10) ≡ false → heard talk b ≡ kept talk (b ∷ [])
unfolding heard
heard_other talk b other = rw other refl

pub after_append : (talk : Talk) (a b : List ℕ) → after talk (a ++ b) ≡ after (after talk a) b
unfolding after
after_append talk [] b = refl
after_append talk (x ∷ a) b = after_append (heard talk x) a b

pub said_append : (say : Session → ℕ → List ℕ → List ℕ) (talk : Talk) (a b : List ℕ) → said say talk (a ++ b) ≡ said say talk a ++ said say (after talk a) b
unfolding said after
said_append say talk [] b = refl
said_append say talk (x ∷ a) b = rw (said_append say (heard talk x) a b) (sym (append_assoc (cond (x == 10) (said_now say talk) []) (said say (heard talk x) a) _))

-- bytes of one line
pub after_rest : (talk : Talk) (rest : List ℕ) → Lacks 10 rest → length talk.begun ≤ 4097 → after talk rest ≡ kept talk rest
unfolding after Lacks
after_rest talk [] lacks few = sym (kept_none talk few)
after_rest talk (b ∷ rest) lacks few =
    rw (heard_other talk b (All-head (λ x. (x == 10) ≡ false) b rest lacks)) (after_rest (kept talk (b ∷ [])) rest (All-tail (λ x. (x == 10) ≡ false) b rest lacks) (kept_few talk (b ∷ [])) ∙ kept_kept talk (b ∷ []) rest)

pub said_rest : (say : Session → ℕ → List ℕ → List ℕ) (talk : Talk) (rest : List ℕ) → Lacks 10 rest → said say talk rest ≡ []
unfolding said Lacks
said_rest say talk [] lacks = refl
said_rest say talk (b ∷ rest) lacks = rw (All-head (λ x. (x == 10) ≡ false) b rest lacks) (said_rest say (heard talk b) rest (All-tail (λ x. (x == 10) ≡ false) b rest lacks))

-- a line feed
heard_feed : (talk : Talk) → heard talk 10 ≡ ended talk
unfolding heard
heard_feed talk = refl

after_fed : (talk : Talk) (more : List ℕ) → after talk (10 ∷ more) ≡ after (ended talk) more
unfolding after
after_fed talk more = rw (heard_feed talk) refl

said_fed : (say : Session → ℕ → List ℕ → List ℕ) (talk : Talk) (more : List ℕ) → said say talk (10 ∷ more) ≡ said_now say talk ++ said say (ended talk) more
unfolding said
said_fed say talk more = rw (heard_feed talk) refl

-- a line that ends
pub after_line : (talk : Talk) (line more : List ℕ) → Lacks 10 line → length talk.begun ≤ 4097 → after talk (line ++ 10 ∷ more) ≡ after (ended (kept talk line)) more
after_line talk line more lacks few = after_append talk line (10 ∷ more) ∙ rw (after_rest talk line lacks few) (after_fed (kept talk line) more)

pub said_line : (say : Session → ℕ → List ℕ → List ℕ) (talk : Talk) (line more : List ℕ) → Lacks 10 line → length talk.begun ≤ 4097
    → said say talk (line ++ 10 ∷ more) ≡ said_now say (kept talk line) ++ said say (ended (kept talk line)) more
said_line say talk line more lacks few =
    said_append say talk line (10 ∷ more) ∙ rw (said_rest say talk line lacks, after_rest talk line lacks few) (said_fed say (kept talk line) more)

-- what is appended of bytes is what is kept of them
pub kept_part : (n count : ℕ) (xs bytes : List ℕ) → length xs ≤ n → count ≡ min (n - length xs) (length bytes) → xs ++ take count bytes ≡ take n (xs ++ bytes)
kept_part n count xs bytes few is =
    let same : length xs + (n - length xs) ≡ n = omega arith in
    rw is (ap (λ (l : List ℕ). xs ++ l) (take_min (n - length xs) bytes) ∙ sym (take-append-add xs bytes (n - length xs)) ∙ ap (λ k. take k (xs ++ bytes)) same)

-- after one more line of those that are heard
pub hear_step : (say : Session → ℕ → List ℕ → List ℕ) (text text' all : List ℕ) (talk talk' : Talk) (rest line more : List ℕ) → text ++ said say talk rest ≡ all → rest ≡ line ++ 10 ∷ more → Lacks 10 line → length talk.begun ≤ 4097
    → text' ≡ text ++ said_now say (kept talk line) → talk' ≡ ended (kept talk line) → text' ++ said say talk' more ≡ all
hear_step say text text' all talk talk' rest line more so_far cut lacks few grown later =
    rw (grown, later) (append_assoc text (said_now say (kept talk line)) (said say (ended (kept talk line)) more) ∙ ap (λ (l : List ℕ). text ++ l) (sym (said_line say talk line more lacks few)) ∙ rw cut at so_far)

pub heard_step : (all talk talk' : Talk) (rest line more : List ℕ) → after talk rest ≡ all → rest ≡ line ++ 10 ∷ more → Lacks 10 line → length talk.begun ≤ 4097 → talk' ≡ ended (kept talk line) → after talk' more ≡ all
heard_step all talk talk' rest line more so_far cut lacks few later = rw later (sym (after_line talk line more lacks few) ∙ rw cut at so_far)

pub few_after : (talk talk' : Talk) (line : List ℕ) → talk' ≡ ended (kept talk line) → (length talk'.begun ≤ 4097) × (talk'.number ≡ talk.number + 1)
unfolding ended kept
few_after talk talk' line is = (rw is (omega arith), rw is refl)

-- and after those that are left
pub hear_end_step : (say : Session → ℕ → List ℕ → List ℕ) (text all : List ℕ) (talk : Talk) (rest : List ℕ) → text ++ said say talk rest ≡ all → Lacks 10 rest → text ≡ all
hear_end_step say text all talk rest so_far lacks = sym (append-nil text) ∙ rw (said_rest say talk rest lacks) at so_far

pub heard_end_step : (all talk talk' : Talk) (rest : List ℕ) → after talk rest ≡ all → Lacks 10 rest → length talk.begun ≤ 4097 → talk' ≡ kept talk rest → talk' ≡ all
heard_end_step all talk talk' rest so_far lacks few is = is ∙ sym (after_rest talk rest lacks few) ∙ so_far

-- a line feed makes at most one line more
number_heard : (talk : Talk) (b : ℕ) → (heard talk b).number ≤ talk.number + 1
unfolding heard ended kept
number_heard talk b = go (b == 10) where
  go : (feed : Bool) → (cond feed (ended talk) (kept talk (b ∷ []))).number ≤ talk.number + 1
  go true = omega arith
  go false = omega arith

pub number_after : (talk : Talk) (bytes : List ℕ) → (after talk bytes).number ≤ talk.number + length bytes
unfolding after
number_after talk [] = omega arith
number_after talk (b ∷ bytes) = omega (arith, number_heard talk b, number_after (heard talk b) bytes)
