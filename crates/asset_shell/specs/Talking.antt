-- A conversation that goes on byte by byte: what has been heard so far, and what was said to it.
use Rattle.std.specs.Prelude.{ℕ, ◌+◌, ◌==◌, cond, List, [], ◌∷◌, ◌++◌, length, take, Option, None, is_some}
use Rattle.asset_check.specs.Checking.{or_this}
use Rattle.asset_shell.specs.Sessions.{Session, mistake_of, new_session, session_after}

-- The session after the lines that have ended, the number of the line that comes next, what has come of that line, and the
-- number of the first bad line so far. Of a line that is too long no more than 4,097 bytes are kept.
pub record Talk : Type 0 where
  pub session : Session
  pub number : ℕ
  pub begun : List ℕ
  pub bad : Option ℕ

-- nothing was heard yet
unfoldable pub new_talk : ℕ → Talk
new_talk capacity = record { session = new_session capacity; number = 1; begun = []; bad = None }

-- more of the line has come
unfoldable pub kept : Talk → List ℕ → Talk
kept talk bytes = record talk { begun = take 4097 (talk.begun ++ bytes) }

-- the line has ended
unfoldable pub ended : Talk → Talk
ended talk = record {
  session = session_after talk.session talk.begun;
  number = talk.number + 1;
  begun = [];
  bad = or_this talk.bad (is_some (mistake_of talk.session talk.begun)) talk.number;
}

-- one more byte was heard: a line feed ends the line, and another byte is more of it
unfoldable pub heard : Talk → ℕ → Talk
heard talk b = cond (b == 10) (ended talk) (kept talk (b ∷ []))

-- these bytes were heard
unfoldable pub after : Talk → List ℕ → Talk
after talk [] = talk
after talk (b ∷ bytes) = after (heard talk b) bytes

-- what is said of the line that has come
abbrev pub said_now : (Session → ℕ → List ℕ → List ℕ) → Talk → List ℕ
said_now say talk = say talk.session talk.number talk.begun

-- what is said while these bytes are heard: each line feed ends a line, of which something is said
unfoldable pub said : (Session → ℕ → List ℕ → List ℕ) → Talk → List ℕ → List ℕ
said say talk [] = []
said say talk (b ∷ bytes) = cond (b == 10) (said_now say talk) [] ++ said say (heard talk b) bytes

-- what is said when nothing more comes: something of the last line, if it has begun
unfoldable pub said_last : (Session → ℕ → List ℕ → List ℕ) → Talk → List ℕ
said_last say talk = cond (length talk.begun == 0) [] (said_now say talk)

-- the conversation when nothing more comes
unfoldable pub ended_last : Talk → Talk
ended_last talk = cond (length talk.begun == 0) talk (ended talk)
