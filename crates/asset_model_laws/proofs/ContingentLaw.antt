-- All parts that `contingent` initiated have aborted, but perhaps the last.
use Rattle.std.proofs.Common.{◌≡◌, ◌⊎◌, ℕ, Bool, true, List, [], ◌∷◌, ◌++◌, refl, ap, inl, inr}
use Rattle.std.specs.Prelude.{Result}
use Rattle.asset_names.specs.declared.statuses.End.TheVariants as End'
use Rattle.asset_names.specs.declared.replies.Fault.{Fault}
use Rattle.asset_names.specs.Arrows.{lists}
use Rattle.asset_names.specs.Steps.{Opening, Entry, applied, initiated}
use Rattle.asset_names.specs.Answers.{IsLegal}
use Rattle.asset_models.specs.declared.parts.Part.{Part}
use Rattle.asset_models.specs.declared.parts.ModelEnd.{ModelEnd}
use Rattle.asset_models.specs.declared.parts.ModelEnd.TheVariants as ModelEnd'
use Rattle.asset_models.specs.Courses.{IsRun, contingent_course}
use Rattle.asset_models.specs.Courses.Course.{ends}
use Rattle.asset_model_laws.specs.Amid.{IsAmid}
use Rattle.asset_model_laws.proofs.RunAmid.{IsRunAmid, whole}
use Rattle.asset_model_laws.specs.Ended.{AllEnded}
use Rattle.asset_model_laws.specs.Contingent.{IsOneOfParts, IsFirstPart, OneAtMost}
use Rattle.asset_model_laws.proofs.AmidLemmas.{OnlyOf, Settles, part_amid, ends_amid, only_same, only_on}
use Rattle.asset_model_laws.proofs.AmidLemmas.Settles.{unsettled, commits, falls}

-- the same over calls that were made before
record Tried (parts : List Part) (made calls entries : List Entry) : Type 0 where
  pub gone : List Part
  pub left : List Part
  pub split : parts ≡ gone ++ left
  pub fell : AllEnded End'.Aborted entries gone
  pub tried : (t : ℕ) → lists (initiated (applied calls)) t ≡ true → (IsOneOfParts gone t ⊎ IsFirstPart left t) ⊎ (lists (initiated (applied made)) t ≡ true)

tried_first : (p : Part) (parts : List Part) (made calls entries : List Entry) → OnlyOf p.name.0 made calls → Tried (p ∷ parts) made calls entries
unfolding AllEnded IsFirstPart
tried_first p parts made calls entries only = record {
  gone = [];
  left = p ∷ parts;
  split = refl;
  fell = tt;
  tried = λ t here. elim (only t here) [ inl is ↦ inl (inr is) | inr before ↦ inr before ];
}

tried_more : (p : Part) (parts : List Part) (made made' calls entries : List Entry) → OnlyOf p.name.0 made made' → AllEnded End'.Aborted entries (p ∷ []) → Tried parts made' calls entries → Tried (p ∷ parts) made calls entries
unfolding AllEnded IsOneOfParts
tried_more p parts made made' calls entries only fell later = record {
  gone = p ∷ later.gone;
  left = later.left;
  split = ap (λ (rest : List Part). p ∷ rest) later.split;
  fell = (fell.0, later.fell);
  tried = λ t here. elim (later.tried t here) [
    | inl in_later ↦ elim in_later [ inl of ↦ inl (inl (inr of)) | inr first ↦ inl (inr first) ]
    | inr before ↦ elim (only t before) [ inl is ↦ inl (inl (inl is)) | inr earlier ↦ inr earlier ]
  ];
}

contingent_tried : (opening : Opening) (test : Entry → Bool) (parts : List Part) (made old calls new : List Entry) (result : Result ModelEnd Fault) → IsLegal opening new
    → IsRunAmid test (contingent_course parts) made old calls new result → Tried parts made calls new
unfolding contingent_course AllEnded
contingent_tried opening test [] made old calls new result legal run = record {
  gone = [];
  left = [];
  split = refl;
  fell = tt;
  tried = λ t here. inr (rw (ends_amid test ModelEnd'.Aborted made old calls new result run) at here);
}
contingent_tried opening test (p ∷ parts) made old calls new result legal run =
    go (part_amid opening test p (ends ModelEnd'.Committed) (λ step. contingent_course parts) made old calls new result legal run)
    (λ made' old' r. contingent_tried opening test parts made' old' calls new result legal r) where
      go : Settles test p.name.0 made (ends ModelEnd'.Committed) (λ step. contingent_course parts) calls new result
          → ((made' old' : List Entry) → IsRunAmid test (contingent_course parts) made' old' calls new result → Tried parts made' calls new) → Tried (p ∷ parts) made calls new
      go (unsettled only) deeper = tried_first p parts made calls new only
      go (commits made' old' only run) deeper = tried_first p parts made calls new (only_on p.name.0 made made' calls only (only_same p.name.0 made' calls (ends_amid test ModelEnd'.Committed made' old' calls new result run)))
      go (falls step made' old' only fell run) deeper = tried_more p parts made made' calls new only (fell, tt) (deeper made' old' run)

none_before : (t : ℕ) → lists (initiated (applied [])) t ≡ true → ⊥
unfolding lists initiated applied
none_before t here = cc

pub contingent_one : (opening : Opening) (test : Entry → Bool) (parts : List Part) (old calls new : List Entry) (result : Result ModelEnd Fault) → IsLegal opening new
    → IsRun (contingent_course parts) [] calls result → IsAmid test old calls new → OneAtMost parts calls new
contingent_one opening test parts old calls new result legal run amid =
    let all = contingent_tried opening test parts [] old calls new result legal (whole test (contingent_course parts) calls old new result run amid) in
    record {
      gone = all.gone;
      left = all.left;
      split = all.split;
      fell = all.fell;
      tried = λ t here. elim (all.tried t here) [ inl is ↦ is | inr before ↦ absurd (none_before t before) ];
    }
