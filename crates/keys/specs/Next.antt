-- The keys of two scenes one by one: the next definition of a name, or else the first of the least name above it.
use Rattle.std.specs.Prelude.{cond, ◌||◌, List, [], ◌∷◌, ℕ, zero, suc}
use Rattle.std.proofs.Math.Option.{Option, none, some}
use Rattle.laws.specs.Bytes.{Bytes}
use Rattle.scene.specs.Record.{name_in}
use Rattle.scene.specs.Told.{Told}
use Rattle.keys.specs.After.{after}
use Rattle.keys.specs.Key.{Key, nth_of, found, is_found, lower}

-- the name that a number leads to, if any
abbrev pub named_by : Bytes → (records : List ℕ) → (n : ℕ) → Option Bytes
named_by text records zero = none
named_by text records (suc n) = some (name_in text records (suc n))

-- the lesser of two names, where there are any
abbrev pub lesser : Option Bytes → Option Bytes → Option Bytes
lesser none o = o
lesser (some v) none = some v
lesser (some v) (some u) = cond (lower u v) (some u) (some v)

-- a name u, where it comes after w
abbrev pub above : Bytes → Bytes → Option Bytes
above w u = cond (lower w u) (some u) none

-- the least name in a scene that comes after w
unfoldable pub least_above : Bytes → List Told → Option Bytes
least_above w [] = none
least_above w (t ∷ d) = lesser (least_above w d) (above w t.name)

-- the next definition of a key's name
abbrev pub one_more : Key → Key
one_more k = nth_of k.name (suc k.nth)

-- the first of a name, where there is one
abbrev pub first_of : Option Bytes → Option Key
first_of none = none
first_of (some w) = some (nth_of w 1)

-- the first key of the least name in either scene that comes after w
abbrev pub next_name : (l r : List Told) → Bytes → Option Key
next_name l r w = first_of (lesser (least_above w l) (least_above w r))

-- the key that follows k in the order of both scenes
unfoldable pub next_key : (l r : List Told) → Key → Option Key
next_key l r k = cond (is_found (found (one_more k) l) || is_found (found (one_more k) r)) (some (one_more k)) (next_name l r k.name)

-- what comes after a key, given the next one
abbrev pub onward : Option Key → List Key → List Key
onward none ks = []
onward (some k) ks = k ∷ after k ks
