-- Runs: how far a test holds along a list.
use Rattle.std.specs.Prelude.{Bool, true, ◌&&◌, cond, List, [], ◌∷◌, ℕ, suc, ◌+◌, min, length, drop}

module _ {A : Type 0} (test : A → Bool) where
  -- every element passes the test
  unfoldable pub all : List A → Bool
  all [] = true
  all (x ∷ xs) = test x && all xs

  -- how many elements at the front pass the test: the length of the longest such run
  unfoldable pub run : List A → ℕ
  run [] = 0
  run (x ∷ xs) = let longer = suc (run xs) in cond (test x) longer 0

  -- the first place at or after `at` whose element fails the test, or the list's length
  unfoldable pub past : List A → ℕ → ℕ
  past xs at = min at (length xs) + run (drop at xs)
