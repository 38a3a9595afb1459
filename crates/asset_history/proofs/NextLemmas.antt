-- What is kept of the users of objects, an entry further.
use Rattle.std.proofs.Common.{◌≡◌, ℕ, ◌+◌, ◌<◌, true, false, eqb, ◌&&◌, ◌||◌, List, ◌∷◌, length, reverse, sym, ap, subst, ◌∙◌, Some, None}
use Rattle.std.specs.Prelude.{Option, slice_get}
use Rattle.asset_names.specs.declared.names.Txn.{Txn}
use Rattle.asset_names.specs.declared.names.Ob.{Ob}
use Rattle.asset_names.specs.Steps.{Entry, applied}
use Rattle.asset_name_groups.specs.NamesInGroups.{NamesInGroups}
use Rattle.asset_entries.specs.Operating.{operator_at, opener_at}
use Rattle.asset_history.specs.declared.users.Users.{Users}
use Rattle.asset_history.specs.declared.links.Link.{Link}
use Rattle.asset_history.specs.Kept.{before, SayUsers}
use Rattle.asset_history.specs.Uses.{opens, operates, has_object}
use Rattle.asset_history.specs.Users.{also, SayAll}
use Rattle.asset_history.proofs.EntryLemmas.{before_next}
use Rattle.asset_history.proofs.NoteLemmas.{Operates, Opens, operator_opens, operator_operates, opener_opens, opener_operates, idle_opens, idle_operates, found_idle}
use Rattle.asset_history.proofs.SaidLemmas.{say_alike}

-- what is said of an entry and those before it is said of the entries before the next one
said_next : (g : NamesInGroups) (links : List Link) (all : List Entry) (i : ℕ) (entry : Entry) (found : ℕ → Option Users) → slice_get (reverse all) i ≡ Some entry
    → SayAll g links all (opens (applied (entry ∷ before all i))) (operates (applied (entry ∷ before all i))) found → SayUsers g links all (i + 1) found
said_next g links all i entry found at say = subst (λ (seen : List Entry). SayAll g links all (opens (applied seen)) (operates (applied seen)) found) (sym (before_next all i entry at)) say

pub operator_said : (g : NamesInGroups) (links : List Link) (all : List Entry) (i : ℕ) (entry : Entry) (t : Txn) (x n : ℕ) (found : ℕ → Option Users) → slice_get (reverse all) i ≡ Some entry → Operates entry.0 entry.1 t x → n ≡ t.0
    → SayAll g links all (λ a y. also (false && eqb x y) n (λ u. opens (applied (before all i)) u y) a) (λ s y. also (true && eqb x y) n (λ u. operates (applied (before all i)) u y) s) found → SayUsers g links all (i + 1) found
unfolding also
operator_said g links all i entry t x n found at parts is say =
    let older = before all i in
    said_next g links all i entry found at
    (say_alike g links all (λ a y. also (false && eqb x y) n (λ u. opens (applied older) u y) a) (λ s y. also (true && eqb x y) n (λ u. operates (applied older) u y) s) (opens (applied (entry ∷ older))) (operates (applied (entry ∷ older))) found
    (λ u y. operator_opens entry older t x u y parts) (λ u y. ap (λ m. (eqb x y && eqb m u) || operates (applied older) u y) is ∙ operator_operates entry older t x u y parts) say)

pub opener_said : (g : NamesInGroups) (links : List Link) (all : List Entry) (i : ℕ) (entry : Entry) (t : Txn) (obs : List Ob) (n : ℕ) (found : ℕ → Option Users) → slice_get (reverse all) i ≡ Some entry → Opens entry.0 entry.1 t obs → n ≡ t.0
    → SayAll g links all (λ a y. also (has_object obs y) n (λ u. opens (applied (before all i)) u y) a) (operates (applied (before all i))) found → SayUsers g links all (i + 1) found
unfolding also
opener_said g links all i entry t obs n found at parts is say =
    let older = before all i in
    said_next g links all i entry found at
    (say_alike g links all (λ a y. also (has_object obs y) n (λ u. opens (applied older) u y) a) (operates (applied older)) (opens (applied (entry ∷ older))) (operates (applied (entry ∷ older))) found
    (λ u y. ap (λ m. (has_object obs y && eqb m u) || opens (applied older) u y) is ∙ opener_opens entry older t obs u y parts) (λ u y. opener_operates entry older t obs u y parts) say)

pub idle_said : (g : NamesInGroups) (links : List Link) (all : List Entry) (i : ℕ) (found : ℕ → Option Users) → i < length all → operator_at (slice_get (reverse all) i) ≡ None → opener_at (slice_get (reverse all) i) ≡ None
    → SayUsers g links all i found → SayUsers g links all (i + 1) found
idle_said g links all i found below no_operator no_opener say =
    let idle = found_idle all i below no_operator no_opener in
    let older = before all i in
    said_next g links all i idle.0 found idle.1
    (say_alike g links all (opens (applied older)) (operates (applied older)) (opens (applied (idle.0 ∷ older))) (operates (applied (idle.0 ∷ older))) found
    (λ u y. idle_opens idle.0 older u y idle.2 idle.3) (λ u y. idle_operates idle.0 older u y idle.2 idle.3) say)
