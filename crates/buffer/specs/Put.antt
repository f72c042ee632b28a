-- Bytes put into a buffer that may be too short for them.
use Rattle.std.specs.Prelude.{◌++◌, ℕ, ◌+◌, ◌-◌, min, length, take, drop}
use Rattle.laws.specs.Bytes.{Bytes}

-- the buffer with as many of the new bytes as fit in it from `at` on
unfoldable pub put : (buffer : Bytes) (at : ℕ) (new : Bytes) → Bytes
put buffer at new = take at buffer ++ take (length buffer - at) new ++ drop (at + length new) buffer

-- the place behind those that fit
abbrev pub behind : (buffer : Bytes) (at : ℕ) (new : Bytes) → ℕ
behind buffer at new = at + min (length new) (length buffer - at)
