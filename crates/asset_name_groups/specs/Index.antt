-- The names in buckets: for each node the one before it in its bucket, and for each bucket the last one.
use Rattle.std.specs.Prelude.{◌≡◌, ℕ, zero, suc, ◌+◌, ◌*◌, ◌/◌, ◌%◌, ◌<◌, cond, ◌==◌, List, length, slice_index}

-- the bucket of a name among `buckets` buckets: the names of a block of 64 are in buckets that follow each other
unfoldable pub bucket_in : ℕ → ℕ → ℕ
bucket_in t buckets = ((t / 64 * 0x9E37_79B9_7F4A_7C15) % 0x1_0000_0000_0000_0000 / 0x1_0000_0000 + t % 64) % buckets

-- 1 and the last node below n whose name is in the bucket, or 0 if there is none
unfoldable pub last_in : List ℕ → ℕ → ℕ → ℕ → ℕ
last_in names buckets bucket zero = 0
last_in names buckets bucket (suc n) = cond (bucket_in (slice_index names n) buckets == bucket) (suc n) (last_in names buckets bucket n)

-- the last node of each bucket is noted, and for each node the one before it in its bucket
pub record IsIndexed (names before last : List ℕ) : Type 0 where
  pub has_buckets : 0 < length last
  pub long : length before ≡ length names
  pub last_is : (bucket : ℕ) → bucket < length last → slice_index last bucket ≡ last_in names (length last) bucket (length names)
  pub before_is : (k : ℕ) → k < length names → slice_index before k ≡ last_in names (length last) (bucket_in (slice_index names k) (length last)) k
