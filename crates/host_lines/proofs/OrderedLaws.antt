-- The end and a line, as host programs are told of them.
use mathlib.Core.List.{List, [], ◌∷◌}
use mathlib.Core.Path.{◌≡◌, sym, ap, subst}
use Prim.Native.Nat.{ℕ}
use lib.ListN.{get_or}
use Rattle.comparison.specs.Answer as line
use Rattle.comparison.specs.Next.{answer_of}
use Rattle.ordered.specs.Lines.{Scene, handed, lines_from}
use Rattle.ordered.specs.declared.Cursors.{Cursors}
use Rattle.ordered.specs.declared.NextLine.{NextLine}
use Rattle.std.specs.Prelude.{Option, Some, None}
use Rattle.host_lines.specs.Ordered.{HostOrdered, cursors_in, first_of, further_of, told}

module _ (l r : Scene) (held : List ℕ) where
  -- what the answer x of the code hands out are the lines from the cursors held
  abbrev Hands : Option NextLine → Type 0
  Hands x = handed l r x ≡ lines_from l r (cursors_in held)

  pub end_told : Hands None → HostOrdered l r held 0 (0 ∷ 0 ∷ 0 ∷ 0 ∷ 0 ∷ 0 ∷ [])
  end_told e = record { says = ap (λ z. line.kind_number (first_of z)) e; numbers = ap (told (cursors_in [])) e; further = ap (further_of l r) e }

  -- two cursors, and the values of a line
  abbrev Told : Cursors → (values : List ℕ) → Type 0
  Told c v = HostOrdered l r held 1 (c.left ∷ c.right ∷ get_or v 0 0 ∷ get_or v 1 0 ∷ get_or v 2 0 ∷ get_or v 3 0 ∷ [])

  pub line_told : (x : NextLine) (values : List ℕ) → Hands (Some x) → values ≡ line.values_of (answer_of (Some x.line)) → Told x.cursors values
  line_told x values e v =
      subst (Told x.cursors) (sym v) (record { says = ap (λ z. line.kind_number (first_of z)) e; numbers = ap (told x.cursors) e; further = ap (further_of l r) e })
