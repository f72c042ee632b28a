-- Of two tests joined by `&&`: the value found, by what the first one came to.
use mathlib.Core.Bool.{Bool, true, false, ◌&&◌}
use mathlib.Core.Path.{◌≡◌, ap, sym, ◌∙◌}

module _ {x : Bool} (y p v : Bool) (e : p ≡ x) where
  pub both_by_second : p ≡ true → v ≡ y → v ≡ (x && y)
  both_by_second h f = f ∙ sym (ap (λ (b : Bool). b && y) (sym e ∙ h))

  pub both_by_first : p ≡ false → v ≡ false → v ≡ (x && y)
  both_by_first h f = f ∙ sym (ap (λ (b : Bool). b && y) (sym e ∙ h))
