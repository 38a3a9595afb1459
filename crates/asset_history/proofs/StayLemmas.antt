-- An entry that leaves groups leaves all that is kept as it is.
use Rattle.std.proofs.Common.{◌≡◌, ℕ, ◌+◌, true, false, not, List, ◌∷◌, length, reverse, refl, sym, ap, subst, ◌∙◌, arith, Some, None}
use Rattle.std.specs.Prelude.{Option, slice_get, is_some}
use Rattle.std.proofs.lemmas.Bool.{and_parts, false≢true}
use Rattle.asset_names.specs.declared.names.Txn.{Txn}
use Rattle.asset_names.specs.declared.steps.Step.{Step}
use Rattle.asset_names.specs.declared.steps.Step.TheVariants.{PermitAny}
use Rattle.asset_names.specs.declared.replies.Reply.{Reply}
use Rattle.asset_names.specs.Answers.{IsLegal}
use Rattle.asset_names.specs.Groups.{actor}
use Rattle.asset_names.specs.Steps.{Opening, Entry}
use Rattle.asset_entries.specs.Committing.{committer}
use Rattle.asset_entries.specs.Knowing.{is_of_one, is_of_known}
use Rattle.asset_entries.specs.Operating.{opener_of, opener_at}
use Rattle.asset_name_groups.specs.NamesInGroups.{IsConsistent}
use Rattle.asset_history.specs.declared.labelling.KeptGroups.{KeptGroups}
use Rattle.asset_history.specs.Kept.{before, leaves_groups_at, pair_at, AreLabels, AreNamed, AreKept}
use Rattle.asset_history.specs.Together.{AreFlagged}
use Rattle.asset_history.proofs.EntryLemmas.{split_newest, legal_at}
use Rattle.asset_history.proofs.FlagLemmas.{flagged_none}
use Rattle.asset_history.proofs.HistoryLemmas.{closed_next, labels_next}
use Rattle.asset_history.proofs.KnownLemmas.{known_acts}
use Rattle.asset_history.proofs.LabelLemmas.{joined_none}
use Rattle.asset_history.proofs.NameLemmas.{all_acted}
use Rattle.asset_history.proofs.StepLemmas.{named_known, named_at}

no_some : (found : Option Txn) → not (is_some found) ≡ true → found ≡ None
no_some None h = refl
no_some (Some t) h = absurd (false≢true h)

-- an entry of one transaction opens nothing
known_opens_none : (step : Step) (reply : Reply) → is_of_known step reply ≡ true → opener_of step reply ≡ None
unfolding is_of_known is_of_one opener_of
known_opens_none (PermitAny giver obs ops) reply h = absurd (false≢true h)
known_opens_none step reply h = refl

module _ (opening : Opening) (all : List Entry) (n : ℕ) (size : length all ≡ n + 1) (legal : IsLegal opening all) (stays : leaves_groups_at (slice_get (reverse all) n) ≡ true) where
  abbrev pub older : List Entry
  older = before all n

  abbrev split : (entry : Entry) × (slice_get (reverse all) n ≡ Some entry) × (all ≡ entry ∷ older)
  split = split_newest all n size

  abbrev entry : Entry
  entry = split.0

  parts : (is_of_known entry.0 entry.1 ≡ true) × (not (is_some (committer entry.0 entry.1)) ≡ true)
  parts = and_parts (is_of_known entry.0 entry.1) (not (is_some (committer entry.0 entry.1))) (ap leaves_groups_at (sym split.1) ∙ stays)

  opens_none : opener_at (slice_get (reverse all) n) ≡ None
  opens_none = ap opener_at split.1 ∙ known_opens_none entry.0 entry.1 parts.0

  module _ (groups : KeptGroups) (closed : groups.is_opened ≡ false) (kept : AreKept opening older older groups) where
    pub stay_kept : AreKept opening all all groups
    stay_kept = record {
      closed = λ is_closed. closed_next all n size opens_none (kept.closed is_closed);
      room = kept.room;
      empty = kept.empty;
      unlinked = kept.unlinked;
      few = omega (arith, kept.few, size, ap length split.2);
      there = kept.there;
      say = λ opened. absurd (false≢true (sym closed ∙ opened));
    }

    pub stay_labels : IsConsistent groups.groups → AreLabels older groups.groups → AreLabels all groups.groups
    stay_labels sound labels =
        let g = groups.groups in
        let known = known_acts opening older entry.0 entry.1 (legal_at opening all n entry legal split.1).0 parts.0 in
        let named : AreNamed all older (pair_at all n) g = named_at all n entry g split.1 split.2 (named_known entry older g sound labels (all_acted older (actor entry.0).0 ∙ known.0) known.1) in
        let flagged : AreFlagged all g = subst (λ (l : List Entry). AreFlagged l g) (sym split.2) (flagged_none entry older g (no_some (committer entry.0 entry.1) parts.1) named.flagged) in
        labels_next opening all n g g groups size named refl refl flagged (joined_none all g) sound stay_kept
