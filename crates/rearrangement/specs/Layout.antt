-- Where the next statement of a text begins.
use Rattle.std.specs.Prelude.{Bool, true, false, cond, [], ◌∷◌, ℕ, suc, ◌+◌, min, eqb, length, drop}
use Rattle.laws.specs.Bytes.{Bytes, byte}
use Rattle.lexer.specs.Class.{is_blank}

-- how many bytes of blanks and comments stand at the front of a text, in a comment or not
unfoldable pub lead : (in_comment : Bool) → Bytes → ℕ
lead c [] = 0
lead c (b ∷ t) =
    let between = suc (lead false t) in
    let inside = suc (lead true t) in
    cond c (cond (eqb b 10) between inside) (cond (is_blank b) between (cond (eqb b (byte "#")) inside 0))

-- the first place from `at` on that is neither blank nor in a comment, or the text's length
unfoldable pub first_word : Bytes → (at : ℕ) → ℕ
first_word text at = min at (length text) + lead false (drop at text)
