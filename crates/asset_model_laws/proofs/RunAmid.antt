-- Runs of a course in a history, with the calls and the history side by side.
use Rattle.std.proofs.Common.{◌≡◌, ◌⊎◌, Bool, List, [], ◌∷◌, ◌++◌, append_assoc, refl, sym, ◌∙◌, ap, subst, inl, inr}
use Rattle.std.specs.Prelude.{Result, Ok}
use Rattle.std.proofs.lemmas.List.{append-nil, append_cancel_right}
use Rattle.asset_names.specs.declared.replies.Reply.{Reply}
use Rattle.asset_names.specs.declared.replies.Fault.{Fault}
use Rattle.asset_names.specs.Steps.{Entry}
use Rattle.asset_models.specs.declared.parts.ModelEnd.{ModelEnd}
use Rattle.asset_models.specs.Courses.{Course, IsCut, IsRun}
use Rattle.asset_models.specs.Courses.Course.{ends, asks}
use Rattle.asset_model_laws.specs.Amid.{OnlyOthers, IsAmid}

-- The calls, newest first, that a run of the course adds to those made, as the history grows from the old entries to the new
-- ones: others, which pass the test, may stand between the calls.
unfoldable pub IsRunAmid : (Entry → Bool) → Course → List Entry → List Entry → List Entry → List Entry → Result ModelEnd Fault → Type 0
IsRunAmid test (ends end) made old calls new result = (calls ≡ made) × OnlyOthers test old new × (result ≡ Ok end)
IsRunAmid test (asks step next) made old calls new result =
    ((calls ≡ made) × OnlyOthers test old new × IsCut step result)
    ⊎ ((between : List Entry) × OnlyOthers test old between × (reply : Reply) × IsRunAmid test (next reply) ((step, reply) ∷ made) ((step, reply) ∷ between) calls new result)

-- a run only adds to the calls
pub calls_grow : (course : Course) (made calls : List Entry) (result : Result ModelEnd Fault) → IsRun course made calls result → (newer : List Entry) × (calls ≡ newer ++ made)
unfolding IsRun
calls_grow (ends end) made calls result run = ([], run.0)
calls_grow (asks step next) made calls result (inl cut) = ([], cut.0)
calls_grow (asks step next) made calls result (inr more) =
    let deeper = calls_grow (next more.0) ((step, more.0) ∷ made) calls result more.1 in
    (deeper.0 ++ (step, more.0) ∷ [], deeper.1 ∙ sym (append_assoc deeper.0 ((step, more.0) ∷ []) made))

nothing_more : (newer made : List Entry) → newer ++ made ≡ made → newer ≡ []
nothing_more newer made same = append_cancel_right newer [] made same

-- a run does not depend on what was called before
pub run_shifts : (course : Course) (made made' newer : List Entry) (result : Result ModelEnd Fault) → IsRun course made (newer ++ made) result → IsRun course made' (newer ++ made') result
unfolding IsRun
run_shifts (ends end) made made' newer result run = (ap (λ (some : List Entry). some ++ made') (nothing_more newer made run.0), run.1)
run_shifts (asks step next) made made' newer result (inl cut) = inl (ap (λ (some : List Entry). some ++ made') (nothing_more newer made cut.0), cut.1)
run_shifts (asks step next) made made' newer result (inr more) = inr (more.0, go (calls_grow (next more.0) ((step, more.0) ∷ made) (newer ++ made) result more.1) (λ newer' run. run_shifts (next more.0) ((step, more.0) ∷ made) ((step, more.0) ∷ made') newer' result run)) where
  go : ((newer' : List Entry) × (newer ++ made ≡ newer' ++ (step, more.0) ∷ made))
      → ((newer' : List Entry) → IsRun (next more.0) ((step, more.0) ∷ made) (newer' ++ (step, more.0) ∷ made) result → IsRun (next more.0) ((step, more.0) ∷ made') (newer' ++ (step, more.0) ∷ made') result)
      → IsRun (next more.0) ((step, more.0) ∷ made') (newer ++ made') result
  go (newer', is) deeper =
      let last : newer ≡ newer' ++ (step, more.0) ∷ [] = append_cancel_right newer (newer' ++ (step, more.0) ∷ []) made (is ∙ sym (append_assoc newer' ((step, more.0) ∷ []) made)) in
      let grown : newer' ++ (step, more.0) ∷ made' ≡ newer ++ made' = sym (ap (λ (some : List Entry). some ++ made') last ∙ append_assoc newer' ((step, more.0) ∷ []) made') in
      rw grown at (deeper newer' (rw is at more.1))

-- the first call
first_amid : (test : Entry → Bool) (old : List Entry) (first : Entry) (newer new : List Entry) → IsAmid test old (newer ++ first ∷ []) new
    → (before : List Entry) × OnlyOthers test old before × IsAmid test (first ∷ before) newer new
unfolding IsAmid
first_amid test old first [] new amid = (amid.0, amid.2, amid.1)
first_amid test old first (call ∷ newer) new amid =
    let deeper = first_amid test old first newer amid.0 amid.2 in
    (deeper.0, deeper.1, (amid.0, amid.1, deeper.2))

-- a run whose calls stand in a history is one with others between
pub run_amid : (test : Entry → Bool) (course : Course) (made newer old new : List Entry) (result : Result ModelEnd Fault) → IsRun course made (newer ++ made) result → IsAmid test old newer new
    → IsRunAmid test course made old (newer ++ made) new result
unfolding IsRun IsRunAmid IsAmid
run_amid test (ends end) made newer old new result run amid = (run.0, none_amid newer (nothing_more newer made run.0) amid, run.1) where
  none_amid : (newer : List Entry) → newer ≡ [] → IsAmid test old newer new → OnlyOthers test old new
  none_amid newer none amid = rw none at amid
run_amid test (asks step next) made newer old new result (inl cut) amid = inl (cut.0, none_amid newer (nothing_more newer made cut.0) amid, cut.1) where
  none_amid : (newer : List Entry) → newer ≡ [] → IsAmid test old newer new → OnlyOthers test old new
  none_amid newer none amid = rw none at amid
run_amid test (asks step next) made newer old new result (inr more) amid =
    go (calls_grow (next more.0) ((step, more.0) ∷ made) (newer ++ made) result more.1) (λ newer' before run deeper. run_amid test (next more.0) ((step, more.0) ∷ made) newer' ((step, more.0) ∷ before) new result run deeper) where
      go : ((newer' : List Entry) × (newer ++ made ≡ newer' ++ (step, more.0) ∷ made))
          → ((newer' before : List Entry) → IsRun (next more.0) ((step, more.0) ∷ made) (newer' ++ (step, more.0) ∷ made) result → IsAmid test ((step, more.0) ∷ before) newer' new
          → IsRunAmid test (next more.0) ((step, more.0) ∷ made) ((step, more.0) ∷ before) (newer' ++ (step, more.0) ∷ made) new result)
          → ((newer ++ made ≡ made) × OnlyOthers test old new × IsCut step result)
          ⊎ ((between : List Entry) × OnlyOthers test old between × (reply : Reply) × IsRunAmid test (next reply) ((step, reply) ∷ made) ((step, reply) ∷ between) (newer ++ made) new result)
      go (newer', is) deeper =
          let last : newer ≡ newer' ++ (step, more.0) ∷ [] = append_cancel_right newer (newer' ++ (step, more.0) ∷ []) made (is ∙ sym (append_assoc newer' ((step, more.0) ∷ []) made)) in
          let parts = first_amid test old (step, more.0) newer' new (rw last at amid) in
          inr (
            parts.0,
            parts.1,
            more.0,
            subst (λ (some : List Entry). IsRunAmid test (next more.0) ((step, more.0) ∷ made) ((step, more.0) ∷ parts.0) some new result) (sym is)
                (deeper newer' parts.0 (subst (λ (some : List Entry). IsRun (next more.0) ((step, more.0) ∷ made) some result) is more.1) parts.2),
          )

-- the same over no calls
pub whole : (test : Entry → Bool) (course : Course) (calls old new : List Entry) (result : Result ModelEnd Fault) → IsRun course [] calls result → IsAmid test old calls new → IsRunAmid test course [] old calls new result
whole test course calls old new result run amid =
    subst (λ (some : List Entry). IsRunAmid test course [] old some new result) (append-nil calls)
    (run_amid test course [] calls old new result (subst (λ (some : List Entry). IsRun course [] some result) (sym (append-nil calls)) run) amid)

-- calls with nobody else's between
no_others : (test : Entry → Bool) (old calls : List Entry) → IsAmid test old calls (calls ++ old)
unfolding IsAmid
no_others test old [] = ([], refl, refl)
no_others test old (call ∷ calls) = (calls ++ old, ([], refl, refl), no_others test old calls)

-- a run over a facility that nobody else asked meanwhile
pub stands_in_facility : (course : Course) (old new : List Entry) (result : Result ModelEnd Fault) → IsRun course old new result
    → (calls : List Entry) × (new ≡ calls ++ old) × IsRun course [] calls result × ((others : Entry → Bool) → IsAmid others old calls new)
stands_in_facility course old new result run =
    let grown = calls_grow course old new result run in
    let shifted = run_shifts course old [] grown.0 result (subst (λ (some : List Entry). IsRun course old some result) grown.1 run) in (
      grown.0,
      grown.1,
      subst (λ (some : List Entry). IsRun course [] some result) (append-nil grown.0) shifted,
      λ others. subst (λ (some : List Entry). IsAmid others old grown.0 some) (sym grown.1) (no_others others old grown.0),
    )
