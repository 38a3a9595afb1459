-- What is written turn by turn.
use Rattle.std.proofs.Common.{◌≡◌, ℕ, ◌<◌, ◌≤◌, ◌⊎◌, true, List, [], ◌++◌, Option, None, inl, length, nat_lt, take, refl, sym, ap, ◌∙◌, append_assoc, append-nil, arith}
use Rattle.std.specs.Bool.{OnTrue}
use Rattle.std.proofs.lemmas.Bool.{OnTrue_from}
use Rattle.std.proofs.lemmas.List.{length-take-le}
use Rattle.std.specs.Io.KnownBytes.{Appends, Consumes, IsAtEnd, Keeps}
use Rattle.std.proofs.KnownBytes.{Appends-nil, Appends-trans, Consumes-kept, Consumes-nil, Consumes-trans}
use Rattle.asset_entries.specs.Recorded.{opened}
use Rattle.asset_grammar.specs.Lines.{lines}
use Rattle.asset_scripts.specs.declared.ends.RunEnd.{RunEnd}
use Rattle.asset_scripts.specs.declared.faults.ScriptFault.{ScriptFault}
use Rattle.asset_scripts.specs.declared.faults.ScriptFault.TheVariants.{Read, Write, NoMemory}
use Rattle.asset_scripts.specs.Device.{DeviceState}
use Rattle.asset_scripts.specs.Renders.{end_at}
use Rattle.asset_check.specs.Checked.{check_lines, checked}
use Rattle.asset_check.specs.Checking.{or_first}
use Rattle.asset_shell.specs.Laws.{StaysSaid}
use Rattle.asset_shell.specs.Sessions.{new_session, reason_for, reply_to, said_of_each, session_seen}
use Rattle.asset_shell.specs.Shelled.{complete, shell_reasons, shell_text}
use Rattle.asset_shell.specs.Talking.{Talk, after, ended_last, new_talk, said, said_last}
use Rattle.asset_shell.specs.Turns.{HasWrittenAll, HasWrittenPart, IsUpToDate, StopsFor, StopsWith, Streams, TookPart, streams}
use Rattle.asset_shell.proofs.CutLemmas.{reason_cut, reply_cut}
use Rattle.asset_shell.proofs.SeenLemmas.{reasons_each}
use Rattle.asset_shell.proofs.TalkLemmas.{after_append, said_append}
use Rattle.asset_shell.proofs.WholeLemmas.{bad_all, lacks_none, said_all, said_complete}

-- the answers and the reasons so far are those of the complete lines
answers_complete : (bytes : List ℕ) (capacity : ℕ) → said reply_to (new_talk capacity) bytes ≡ shell_text (complete bytes) capacity
unfolding new_talk shell_text
answers_complete bytes capacity = said_complete reply_to reply_cut bytes [] (new_session capacity) 1 None lacks_none

reasons_lines : (bytes : List ℕ) (capacity : ℕ) → shell_reasons bytes ≡ said_of_each reason_for (lines bytes) 1 (new_session capacity)
unfolding shell_reasons checked new_session session_seen opened
reasons_lines bytes capacity = reasons_each (lines bytes) 1 (new_session capacity)

reasons_complete : (bytes : List ℕ) (capacity : ℕ) → said reason_for (new_talk capacity) bytes ≡ shell_reasons (complete bytes)
unfolding new_talk
reasons_complete bytes capacity = said_complete reason_for reason_cut bytes [] (new_session capacity) 1 None lacks_none ∙ sym (reasons_lines (complete bytes) capacity)

-- with the last line they are those of all lines
answers_all : (bytes : List ℕ) (capacity : ℕ) → said reply_to (new_talk capacity) bytes ++ said_last reply_to (after (new_talk capacity) bytes) ≡ shell_text bytes capacity
unfolding new_talk shell_text
answers_all bytes capacity = said_all reply_to reply_cut bytes [] (new_session capacity) 1 None lacks_none

reasons_all : (bytes : List ℕ) (capacity : ℕ) → said reason_for (new_talk capacity) bytes ++ said_last reason_for (after (new_talk capacity) bytes) ≡ shell_reasons bytes
unfolding new_talk
reasons_all bytes capacity = said_all reason_for reason_cut bytes [] (new_session capacity) 1 None lacks_none ∙ sym (reasons_lines bytes capacity)

-- further bytes
answers_more : (bytes given : List ℕ) (capacity : ℕ) → shell_text (complete (bytes ++ given)) capacity ≡ shell_text (complete bytes) capacity ++ said reply_to (after (new_talk capacity) bytes) given
answers_more bytes given capacity = sym (answers_complete (bytes ++ given) capacity) ∙ said_append reply_to (new_talk capacity) bytes given ∙ ap (λ (l : List ℕ). l ++ said reply_to (after (new_talk capacity) bytes) given) (answers_complete bytes capacity)

reasons_more : (bytes given : List ℕ) (capacity : ℕ) → shell_reasons (complete (bytes ++ given)) ≡ shell_reasons (complete bytes) ++ said reason_for (after (new_talk capacity) bytes) given
reasons_more bytes given capacity = sym (reasons_complete (bytes ++ given) capacity) ∙ said_append reason_for (new_talk capacity) bytes given ∙ ap (λ (l : List ℕ). l ++ said reason_for (after (new_talk capacity) bytes) given) (reasons_complete bytes capacity)

pub stays_said : (bytes more : List ℕ) (capacity : ℕ) → StaysSaid bytes more capacity
stays_said bytes more capacity = record { later = said reply_to (after (new_talk capacity) bytes) more; text = answers_more bytes more capacity }

-- before the first request
pub up_to_date_new : (start : Streams) (capacity : ℕ) → IsUpToDate start start capacity (new_talk capacity)
unfolding after complete shell_text shell_reasons checked check_lines lines said_of_each
up_to_date_new start capacity = record { bytes = []; read = Consumes-nil start.left; reached = refl; answers = Appends-nil start.answers; reasons = Appends-nil start.reasons }

-- after a turn
pub up_to_date_more : (start old now : Streams) (capacity : ℕ) (talk talk' : Talk) (given : List ℕ) → IsUpToDate start old capacity talk → Consumes old.left now.left given → talk' ≡ after talk given
    → Appends old.answers now.answers (said reply_to talk given) → Appends old.reasons now.reasons (said reason_for talk given) → IsUpToDate start now capacity talk'
up_to_date_more start old now capacity talk talk' given u gave heard answered reasoned = record {
  bytes = u.bytes ++ given;
  read = Consumes-trans start.left old.left now.left u.bytes given u.read gave;
  reached = heard ∙ ap (λ (t : Talk). after t given) u.reached ∙ sym (after_append (new_talk capacity) u.bytes given);
  answers = rw (answers_more u.bytes given capacity) (Appends-trans start.answers old.answers now.answers _ _ u.answers (rw u.reached at answered));
  reasons = rw (reasons_more u.bytes given capacity) (Appends-trans start.reasons old.reasons now.reasons _ _ u.reasons (rw u.reached at reasoned));
}

-- a part of what a turn says
part_text : (all so_far turn last prefix rest : List ℕ) → all ≡ (so_far ++ turn) ++ last → turn ≡ prefix ++ rest → all ≡ (so_far ++ prefix) ++ (rest ++ last)
part_text all so_far turn last prefix rest is split = is ∙ rw split (simp append_assoc)

answers_split : (bytes given : List ℕ) (capacity : ℕ) → shell_text (bytes ++ given) capacity
    ≡ (shell_text (complete bytes) capacity ++ said reply_to (after (new_talk capacity) bytes) given) ++ said_last reply_to (after (new_talk capacity) (bytes ++ given))
answers_split bytes given capacity =
    sym (answers_all (bytes ++ given) capacity) ∙ ap (λ (l : List ℕ). l ++ said_last reply_to (after (new_talk capacity) (bytes ++ given))) (answers_complete (bytes ++ given) capacity ∙ answers_more bytes given capacity)

reasons_split : (bytes given : List ℕ) (capacity : ℕ) → shell_reasons (bytes ++ given)
    ≡ (shell_reasons (complete bytes) ++ said reason_for (after (new_talk capacity) bytes) given) ++ said_last reason_for (after (new_talk capacity) (bytes ++ given))
reasons_split bytes given capacity =
    sym (reasons_all (bytes ++ given) capacity) ∙ ap (λ (l : List ℕ). l ++ said_last reason_for (after (new_talk capacity) (bytes ++ given))) (reasons_complete (bytes ++ given) capacity ∙ reasons_more bytes given capacity)

pub none_taken : (a : Option (List ℕ)) (text : List ℕ) → TookPart a a text
none_taken a text = ([], text, refl, Appends-nil a)

pub all_taken : (a b : Option (List ℕ)) (text : List ℕ) → Appends a b text → TookPart a b text
all_taken a b text took = (text, [], sym (append-nil text), took)

took_more : (a b c : Option (List ℕ)) (all so_far turn last : List ℕ) → all ≡ (so_far ++ turn) ++ last → Appends a b so_far → TookPart b c turn → TookPart a c all
took_more a b c all so_far turn last is took (prefix, rest, split, more) = (so_far ++ prefix, rest ++ last, part_text all so_far turn last prefix rest is split, Appends-trans a b c so_far prefix took more)

pub part_more : (start old now : Streams) (capacity : ℕ) (talk : Talk) (given : List ℕ) → IsUpToDate start old capacity talk → Consumes old.left now.left given
    → TookPart old.answers now.answers (said reply_to talk given) → TookPart old.reasons now.reasons (said reason_for talk given) → HasWrittenPart start now capacity
part_more start old now capacity talk given u gave answered reasoned = record {
  bytes = u.bytes ++ given;
  read = Consumes-trans start.left old.left now.left u.bytes given u.read gave;
  answers = took_more start.answers old.answers now.answers _ _ _ _ (answers_split u.bytes given capacity) u.answers (rw u.reached at answered);
  reasons = took_more start.reasons old.reasons now.reasons _ _ _ _ (reasons_split u.bytes given capacity) u.reasons (rw u.reached at reasoned);
}

-- the reader failed
pub read_failed : (start : Streams) (left left' answers reasons : Option (List ℕ)) (capacity : ℕ) (talk : Talk) → IsUpToDate start (streams left answers reasons) capacity talk → Keeps left left' → StopsWith start (streams left' answers reasons) capacity Read
unfolding StopsWith
read_failed start left left' answers reasons capacity talk u keeps = (talk, record { bytes = u.bytes; read = Consumes-kept start.left left left' u.bytes u.read keeps; reached = u.reached; answers = u.answers; reasons = u.reasons })

-- faults that are not the reader's
pub no_memory_is_no_read : NoMemory ≡ Read → ⊥
no_memory_is_no_read e = absurd (cc)

pub write_is_no_read : Write ≡ Read → ⊥
write_is_no_read e = absurd (cc)

-- a part was written
pub part_stops : (start now : Streams) (capacity : ℕ) (fault : ScriptFault) → (fault ≡ Read → ⊥) → HasWrittenPart start now capacity → StopsWith start now capacity fault
unfolding StopsWith
part_stops start now capacity Read other part = absurd (other refl)
part_stops start now capacity Write other part = part
part_stops start now capacity NoMemory other part = part

-- the last line
whole_answers : (bytes : List ℕ) (capacity : ℕ) → shell_text bytes capacity ≡ shell_text (complete bytes) capacity ++ said_last reply_to (after (new_talk capacity) bytes)
whole_answers bytes capacity = sym (answers_all bytes capacity) ∙ ap (λ (l : List ℕ). l ++ said_last reply_to (after (new_talk capacity) bytes)) (answers_complete bytes capacity)

whole_reasons : (bytes : List ℕ) (capacity : ℕ) → shell_reasons bytes ≡ shell_reasons (complete bytes) ++ said_last reason_for (after (new_talk capacity) bytes)
whole_reasons bytes capacity = sym (reasons_all bytes capacity) ∙ ap (λ (l : List ℕ). l ++ said_last reason_for (after (new_talk capacity) bytes)) (reasons_complete bytes capacity)

whole_end : (bytes : List ℕ) (capacity : ℕ) → end_at (ended_last (after (new_talk capacity) bytes)).bad ≡ (checked bytes).end
unfolding new_talk new_session session_seen opened checked or_first
whole_end bytes capacity = ap end_at (bad_all bytes [] (new_session capacity) 1 None lacks_none)

pub finished_all : (start : Streams) (left answers answers' reasons reasons' : Option (List ℕ)) (capacity : ℕ) (talk : Talk) (end : RunEnd) → IsUpToDate start (streams left answers reasons) capacity talk → IsAtEnd left
    → Appends answers answers' (said_last reply_to talk) → Appends reasons reasons' (said_last reason_for talk) → end ≡ end_at (ended_last talk).bad → HasWrittenAll start (streams left answers' reasons') capacity end
finished_all start left answers answers' reasons reasons' capacity talk end u at_end answered reasoned ends = record {
  bytes = u.bytes;
  read = u.read;
  at_end = at_end;
  answers = rw (whole_answers u.bytes capacity) (Appends-trans start.answers answers answers' _ _ u.answers (rw u.reached at answered));
  reasons = rw (whole_reasons u.bytes capacity) (Appends-trans start.reasons reasons reasons' _ _ u.reasons (rw u.reached at reasoned));
  ends = ends ∙ ap (λ (t : Talk). end_at (ended_last t).bad) u.reached ∙ whole_end u.bytes capacity;
}

last_text : (all so_far last : List ℕ) → all ≡ so_far ++ last → all ≡ (so_far ++ last) ++ []
last_text all so_far last is = is ∙ sym (append-nil (so_far ++ last))

pub finished_part : (start : Streams) (left answers answers' reasons reasons' : Option (List ℕ)) (capacity : ℕ) (talk : Talk) → IsUpToDate start (streams left answers reasons) capacity talk
    → TookPart answers answers' (said_last reply_to talk) → TookPart reasons reasons' (said_last reason_for talk) → HasWrittenPart start (streams left answers' reasons') capacity
finished_part start left answers answers' reasons reasons' capacity talk u answered reasoned = record {
  bytes = u.bytes;
  read = u.read;
  answers = took_more start.answers answers answers' (shell_text u.bytes capacity) (shell_text (complete u.bytes) capacity) (said_last reply_to (after (new_talk capacity) u.bytes)) [] (last_text (shell_text u.bytes capacity) (shell_text (complete u.bytes) capacity) (said_last reply_to (after (new_talk capacity) u.bytes)) (whole_answers u.bytes capacity)) u.answers (rw u.reached at answered);
  reasons = took_more start.reasons reasons reasons' (shell_reasons u.bytes) (shell_reasons (complete u.bytes)) (said_last reason_for (after (new_talk capacity) u.bytes)) [] (last_text (shell_reasons u.bytes) (shell_reasons (complete u.bytes)) (said_last reason_for (after (new_talk capacity) u.bytes)) (whole_reasons u.bytes capacity)) u.reasons (rw u.reached at reasoned);
}

-- nothing was read, and memory ran out
pub none_stops : (start : Streams) (capacity : ℕ) → StopsWith start start capacity NoMemory
unfolding StopsWith
none_stops start capacity = record { bytes = []; read = Consumes-nil start.left; answers = none_taken start.answers _; reasons = none_taken start.reasons _ }

-- why a conversation stops, by what was noted of each fault
pub stops_for : {R W E : Type 0} (input input' : DeviceState R) (output' : DeviceState W) (reasons' : DeviceState E) (fault : ScriptFault) → (fault ≡ Read → input'.failed ≡ true)
    → (fault ≡ Write → (output'.failed ≡ true) ⊎ (reasons'.failed ≡ true)) → StopsFor input input' output' reasons' fault
unfolding StopsFor
stops_for input input' output' reasons' Read read write = inl (read refl)
stops_for input input' output' reasons' Write read write = write refl
stops_for input input' output' reasons' NoMemory read write = tt

-- ---- what a turn that goes on was given
abbrev GaveSome : Option (List ℕ) → Option (List ℕ) → Type 0
GaveSome before later = (bytes : List ℕ) × (0 < length bytes) × Consumes before later bytes

pub gave_some : (before later : Option (List ℕ)) (count : ℕ) (piece : List ℕ) → count ≤ length piece → Consumes before later (take count piece) → OnTrue (nat_lt 0 count) (GaveSome before later)
gave_some before later count piece bound gave = OnTrue_from (nat_lt 0 count) (GaveSome before later) (λ some.
    let positive : 0 < count = grind (arith, some) in
    let more : 0 < length (take count piece) = omega (arith, positive, length-take-le count piece bound) in
    (take count piece, more, gave))
