-- Two blocks of a text exchanged, and the text before compared with the text after.
use Rattle.std.specs.Prelude.{false, List, [], ◌∷◌, ◌++◌, ◌≡◌}
use Rattle.laws.specs.Bytes.{Bytes}
use Rattle.scene.specs.Block.{share}
use Rattle.scene.specs.Exchange.{statements_in}
use Rattle.scene.specs.Reading.{Entry}
use Rattle.scene.specs.Statement.{Statement}
use Rattle.scene.specs.declared.Settings.{Settings}
use Rattle.keys.specs.Rows.{rows_of}
use Rattle.sides.specs.Exchange.{MixedExchange, MixedExchanged}
use Rattle.comparison.specs.Compare.{compared}

unfoldable pub names_of : List Statement → List Bytes
names_of [] = []
names_of (s ∷ d) = s.name ∷ names_of d

-- no name stands in both blocks. Surfaces give no name and so may be exchanged, but "compare's nth still counts surfaces"
abbrev pub NamesApart : List Entry → (before first second : Bytes) → Type 0
NamesApart es p a b = share (names_of (statements_in es p a)) (names_of (statements_in es (p ++ a) b)) ≡ false

-- the old text against the new one: all the same
abbrev pub CompareExchangeLaw : Type 0
CompareExchangeLaw =
    (r : Settings) (p a b q : Bytes) (es : List Entry) → MixedExchange r p a b q es → NamesApart es p a b
    → (x : MixedExchanged r p a b q es) → compared (rows_of (p ++ a ++ b ++ q) es) (rows_of (p ++ b ++ a ++ q) x.entries) ≡ []
