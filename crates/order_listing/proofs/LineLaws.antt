-- The line's parts, one law for each answer.
use mathlib.Core.List.{List, ◌++◌}
use mathlib.Core.Path.{◌≡◌, refl, ap, sym}
use Prim.Native.Nat.{ℕ}
use Rattle.fields.specs.Fields.{field, text_field}
use Rattle.laws.specs.Bytes.{Bytes, bytes}
use Rattle.precedence.specs.Order.{Order, Free, Held, Refused}
use Rattle.scene.specs.Record.{name_in}
use Rattle.order_listing.specs.OrderLine.{order_text, pair_line}

module _ (text : Bytes) (T : List ℕ) where
  pub order_free : {o : Order} → o ≡ Free → bytes " order=free\n" ≡ order_text text T o
  unfolding order_text
  order_free e = sym (ap (order_text text T) e)

  pub order_held : {o : Order} {k b : ℕ} → o ≡ Held k b → field " order=held by=" k ++ text_field " name=" (name_in text T b) ++ bytes "\n" ≡ order_text text T o
  unfolding order_text
  order_held e = sym (ap (order_text text T) e)

  pub order_refused : {o : Order} {c : ℕ} → o ≡ Refused c → field " refused=" c ++ bytes "\n" ≡ order_text text T o
  unfolding order_text
  order_refused e = sym (ap (order_text text T) e)

  pub pair_is : (n m : ℕ) (o : Order) → field "first=" n ++ field " second=" m ++ order_text text T o ≡ pair_line text T n m o
  unfolding pair_line
  pair_is n m o = refl
