-- Bytes as lists of numbers, quoted text as bytes, and a part of a text.
use Rattle.std.specs.Prelude.{Bool, true, false, ◌&&◌, List, [], ◌∷◌, ℕ, eqb, take, drop}
use Prim.Native.Char.{Char, code}
use Prim.Native.String.{String, [] as []ˢ, ◌∷◌ as ◌∷ˢ◌}

abbrev pub Bytes : Type 0
Bytes = List ℕ

-- the byte of one quoted character, as `byte "e"`
abbrev pub byte : Char → ℕ
byte c = code c

-- the bytes of quoted text, as `bytes "void"`
abbrev pub bytes : String → Bytes
bytes []ˢ = []
bytes (c ∷ˢ s) = code c ∷ bytes s

-- the `len` bytes from `place` on: those of them that the text has
abbrev pub part : Bytes → ℕ → ℕ → Bytes
part text place len = take len (drop place text)

-- two words have the same bytes
unfoldable pub same : Bytes → Bytes → Bool
same [] [] = true
same [] (y ∷ ys) = false
same (x ∷ xs) [] = false
same (x ∷ xs) (y ∷ ys) = eqb x y && same xs ys
