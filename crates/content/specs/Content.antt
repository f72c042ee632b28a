-- What a primitive is, and whether two are the same.
use Rattle.std.specs.Prelude.{Bool, true, false, ◌&&◌, List, [], ◌∷◌, ℕ, eqb, Float}
use Rattle.bits.specs.Bits.{same_reals}
use Rattle.keys.specs.Key.{Key, key_of, same_key}
use Rattle.keys.specs.Rows.{scene_rows}
use Rattle.laws.specs.Bytes.{Bytes, same}
use Rattle.scene.specs.Record.{Record, record_in}
use Rattle.scene.specs.Told.{Told, tells, strings_of}

-- what a primitive is: its type, strings and reals, and the keys of its alias target and its modifier
pub record Content : Type 0 where
  pub type : ℕ
  pub strings : List Bytes
  pub reals : List Float
  pub alias : Key
  pub modifier : Key

-- by the keys that the numbers of its links have
abbrev pub content_with : (ℕ → Key) → Told → Content
content_with key t = record { type = t.type; strings = t.strings; reals = t.reals; alias = key t.target; modifier = key t.modifier }

abbrev pub content_of : (all : List Told) → Told → Content
content_of all = content_with (key_of all)

-- of number n of a scene
abbrev pub content_in : Bytes → (records : List ℕ) → (reals : List Float) → (n : ℕ) → Content
content_in text records reals n = content_of (scene_rows text records reals) (tells text reals (record_in records n))

unfoldable pub same_words : List Bytes → List Bytes → Bool
same_words [] [] = true
same_words [] (y ∷ ys) = false
same_words (x ∷ xs) [] = false
same_words (x ∷ xs) (y ∷ ys) = same x y && same_words xs ys

-- the same type and the same strings
abbrev pub same_but_links : Bytes → Record → Bytes → Record → Bool
same_but_links a r b s = eqb r.type s.type && same_words (strings_of a r) (strings_of b s)

-- "same means equal type, strings, real bits, alias key and modifier key"
unfoldable pub same_content : Content → Content → Bool
same_content a b = eqb a.type b.type && same_words a.strings b.strings && same_reals a.reals b.reals && same_key a.alias b.alias && same_key a.modifier b.modifier
