-- A saga that was undone has committed the second parts of all pairs before, in reverse order.
use Rattle.std.proofs.Common.{◌≡◌, Bool, true, List, [], ◌∷◌, ◌++◌, map, reverse, append_assoc, refl, sym, ◌∙◌, ap, inl, inr}
use Rattle.std.specs.Prelude.{Ok}
use Rattle.std.proofs.lemmas.List.{reverse-append}
use Rattle.asset_names.specs.declared.names.Txn.{Txn}
use Rattle.asset_names.specs.declared.statuses.End.TheVariants as End'
use Rattle.asset_names.specs.Steps.{Opening, Entry}
use Rattle.asset_names.specs.Answers.{IsLegal}
use Rattle.asset_models.specs.declared.parts.ModelEnd.{ModelEnd}
use Rattle.asset_models.specs.declared.parts.ModelEnd.TheVariants as ModelEnd'
use Rattle.asset_models.specs.Courses.{Course, IsRun, undo_course, saga_from, saga_course}
use Rattle.asset_models.specs.Courses.Course.{ends}
use Rattle.asset_model_laws.specs.Amid.{IsAmid}
use Rattle.asset_model_laws.specs.Ended.{AllEnded}
use Rattle.asset_model_laws.specs.Sagas.{Pair, commits_in, first_part, second_part, first_name, second_name, IsUndone}
use Rattle.asset_model_laws.proofs.RunAmid.{IsRunAmid, whole}
use Rattle.asset_model_laws.proofs.FinalLemmas.{is_final, ends_so, not_stopped, part_onto}

-- what undoes the pairs, of which the latest comes first
undo_of : List Pair → Course
undo_of [] = ends ModelEnd'.Undone
undo_of (pair ∷ gone) = undo_course pair.1 (undo_of gone)

reverse_one : {A : Type 0} (x : A) (xs : List A) → reverse (x ∷ xs) ≡ reverse xs ++ x ∷ []
reverse_one x xs = reverse-append (x ∷ []) xs

-- the second parts have committed
record SecondsCommitted (gone : List Pair) (made calls new : List Entry) (end : ModelEnd) : Type 0 where
  pub told : end ≡ ModelEnd'.Undone
  pub seconds : AllEnded End'.Committed new (map second_part gone)
  pub order : commits_in calls ≡ reverse (map second_name gone) ++ commits_in made

ended_calls : (test : Entry → Bool) (last : ModelEnd) (made old calls new : List Entry) (end : ModelEnd) → IsRunAmid test (ends last) made old calls new (Ok end) → calls ≡ made
unfolding IsRunAmid
ended_calls test last made old calls new end run = run.0

undo_onto : (opening : Opening) (test : Entry → Bool) (gone : List Pair) (made old calls new : List Entry) (end : ModelEnd) → IsLegal opening new → is_final end ≡ true
    → IsRunAmid test (undo_of gone) made old calls new (Ok end) → SecondsCommitted gone made calls new end
unfolding undo_of undo_course AllEnded second_part second_name
undo_onto opening test [] made old calls new end legal final run = record { told = ends_so test ModelEnd'.Undone made old calls new end run; seconds = tt; order = ap commits_in (ended_calls test ModelEnd'.Undone made old calls new end run) }
undo_onto opening test (pair ∷ gone) made old calls new end legal final run =
    elim (part_onto opening test pair.1 (undo_of gone) (λ step. ends (ModelEnd'.Stopped step)) made old calls new end legal final run) [
      | inl goes ↦
          let later = undo_onto opening test gone goes.0.made goes.0.old calls new end legal final goes.0.run in
          record {
            told = later.told;
            seconds = (goes.1, later.seconds);
            order =
                later.order
                ∙ ap (λ (some : List Txn). reverse (map second_name gone) ++ some) goes.0.same
                ∙ sym (append_assoc (reverse (map second_name gone)) (pair.1.name ∷ []) (commits_in made))
                ∙ ap (λ (some : List Txn). some ++ commits_in made) (sym (reverse_one pair.1.name (map second_name gone)));
          }
      | inr falls ↦ absurd (not_stopped test falls.0 falls.1.made falls.1.old calls new end final falls.1.run)
    ]

saga_onto : (opening : Opening) (test : Entry → Bool) (pairs gone all : List Pair) (made old calls new : List Entry) (end : ModelEnd) → IsLegal opening new → is_final end ≡ true → end ≡ ModelEnd'.Undone
    → all ≡ reverse gone ++ pairs → AllEnded End'.Committed new (map first_part gone) → commits_in made ≡ map first_name gone
    → IsRunAmid test (saga_from pairs (undo_of gone)) made old calls new (Ok end) → IsUndone all calls new
unfolding saga_from undo_of AllEnded first_part first_name
saga_onto opening test [] gone all made old calls new end legal final undone split firsts order run = let told = ends_so test ModelEnd'.Committed made old calls new end run in cc
saga_onto opening test (pair ∷ pairs) gone all made old calls new end legal final undone split firsts order run =
    elim (part_onto opening test pair.0 (saga_from pairs (undo_of (pair ∷ gone))) (λ step. undo_of gone) made old calls new end legal final run) [
      | inl goes ↦
          saga_onto opening test pairs (pair ∷ gone) all goes.0.made goes.0.old calls new end legal final undone
          (split ∙ sym (append_assoc (reverse gone) (pair ∷ []) pairs) ∙ ap (λ (some : List Pair). some ++ pairs) (sym (reverse_one pair gone)))
          (goes.1, firsts)
          (goes.0.same ∙ ap (λ (some : List Txn). pair.0.name ∷ some) order)
          goes.0.run
      | inr falls ↦
          let later = undo_onto opening test gone falls.1.made falls.1.old calls new end legal final falls.1.run in
          record {
            gone = gone;
            failed = pair;
            left = pairs;
            split = split;
            firsts = firsts;
            fell = falls.2;
            seconds = later.seconds;
            order = later.order ∙ ap (λ (some : List Txn). reverse (map second_name gone) ++ some) (falls.1.same ∙ order);
          }
    ]

pub saga_undone : (opening : Opening) (test : Entry → Bool) (pairs : List Pair) (old calls new : List Entry) → IsLegal opening new
    → IsRun (saga_course pairs) [] calls (Ok ModelEnd'.Undone) → IsAmid test old calls new → IsUndone pairs calls new
unfolding saga_course undo_of AllEnded commits_in is_final
saga_undone opening test pairs old calls new legal run amid =
    saga_onto opening test pairs [] pairs [] old calls new ModelEnd'.Undone legal refl refl refl tt refl (whole test (saga_course pairs) calls old new (Ok ModelEnd'.Undone) run amid)
