-- "Did the order of two entries matter?" Entry n holds entry m, which stands below it, where a chain of entries leads from one to the
-- other, each bound to the next.
use Rattle.std.specs.Prelude.{Bool, true, ◌≡◌, ℕ, suc, ◌<◌}

-- n = k0 < k1 < .. < kj = m, each bound to the next, with j links
pub data Chain (tied : ℕ → ℕ → Bool) : (links n m : ℕ) → Type 0 where
  link : {n m : ℕ} → n < m → tied n m ≡ true → Chain tied 1 n m
  on : {links n m : ℕ} (k : ℕ) → n < k → tied n k ≡ true → Chain tied links k m → Chain tied (suc links) n m

-- n holds m
abbrev pub Holds : (tied : ℕ → ℕ → Bool) → (n m : ℕ) → Type 0
Holds tied n m = (links : ℕ) × Chain tied links n m
