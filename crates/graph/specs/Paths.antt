-- Ways over numbered things: b is reached from a over links, all in between being passable; and a test that decides it.
use Rattle.std.specs.Prelude.{Bool, true, ◌&&◌, ◌||◌, ◌≡◌, ℕ, zero, suc}

-- from a to b over at least one link; what lies in between is passable
pub data Way (link : ℕ → ℕ → Bool) (pass : ℕ → Bool) : ℕ → ℕ → Type 0 where
  one : {a b : ℕ} → link a b ≡ true → Way link pass a b
  on : {a b : ℕ} (c : ℕ) → link a c ≡ true → pass c ≡ true → Way link pass c b → Way link pass a b

-- the same with only 1 to k in between
unfoldable pub via : (link : ℕ → ℕ → Bool) (pass : ℕ → Bool) (k a b : ℕ) → Bool
via link pass zero a b = link a b
via link pass (suc k) a b = via link pass k a b || (pass (suc k) && (via link pass k a (suc k) && via link pass k (suc k) b))
