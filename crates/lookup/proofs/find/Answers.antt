-- `lookup::find` meets its contract.
use mathlib.Core.Bool.{Bool, true, false}
use mathlib.Core.List.{List}
use mathlib.Core.Logic.{◌⊎◌, inl, inr}
use mathlib.Core.Path.{◌≡◌, refl, sym, ap, subst, ◌∙◌}
use Prim.Native.Nat.{ℕ, ◌+◌, ◌-◌, ◌*◌, ◌≤◌, ◌<◌}
use native.Mathlib.Nat.{lt_irrefl, lt_of_lt_of_le}
use native.Mathlib.Omega.{arith}
use borrow.Author.Rules.{rules}
use lib.ListN.{length, get_or}
use Rattle.laws.proofs.NatLaws.{le_or_lt}
use Rattle.laws.specs.Bytes.{Bytes}
use Rattle.lookup.proofs.LookupLaws.{find_nothing, find_short, find_sized, find_beyond, find_fits, find_byte, find_hit, find_surface, find_none}
use Rattle.lookup.specs.Lookup.{latest_in}
use Rattle.scene.specs.Record.{width}
use Rattle.scene.specs.Types.{is_surface}
use Rattle.lookup.proofs.find.Goals as goal
use Rattle.lookup.proofs.find.Goals.{Else-most-name}

one_less : (i len : ℕ) → 0 < i → i ≤ len → i - 1 < len
one_less i len h l = omega arith

-- bytes that agree from i on and just before it agree from there on
one_more : (P : ℕ → Type 0) (i len : ℕ) → 0 < i → ((k : ℕ) → i ≤ k → k < len → P k) → P (i - 1) → (k : ℕ) → i - 1 ≤ k → k < len → P k
one_more P i len h f p k a b = go (le_or_lt i k)
  where
    go : (i ≤ k) ⊎ (k < i) → P k
    go (inl l) = f k l b
    go (inr l) = subst P (let e : i - 1 ≡ k = omega arith in e) p

above-0 : (n : ℕ) → (n ≡ 0 → ⊥) → 0 < n
above-0 n h = omega (arith, h)

-- ---- a record whose name has as many bytes as the word, inside the text
module _ (c : Else-most-name) where
  abbrev text : Bytes
  text = c.args.text.now

  abbrev records : List ℕ
  records = c.args.records.now

  abbrev word : Bytes
  word = c.args.word.now

  abbrev number : ℕ
  number = c.search.row

  first : length word ≡ 0 → ⊥
  first = c.if-len-eq0.false

  ends : length word - 1 < length word
  ends = omega (arith, first)

  abbrev place : ℕ
  place = get_or records ((number - 1) * width + 3) 0

  fits : place + length word ≤ length text
  fits =
      find_fits text records word c.if-text-len.false _ refl number (λ (e : _ ≡ 0). absurd (omega arith)) _ _ refl refl c.if-size-len.false c.if-most-name.false

  misses : (i : ℕ) → i < length word → (get_or text (place + i) 0 ≡ get_or word i 0 → ⊥) → latest_in text records word number ≡ latest_in text records word (number - 1)
  misses i l h =
      find_byte text records word c.if-text-len.false _ refl number (λ (e : _ ≡ 0). absurd (omega arith)) _ _ refl refl c.if-size-len.false c.if-most-name.false i l h

  module _ (h : (k : ℕ) → k < length word → get_or text (place + k) 0 ≡ get_or word k 0) where
    abbrev surface : Bool
    surface = is_surface (get_or records ((number - 1) * width + 0) 0)

    hit : surface ≡ false → latest_in text records word number ≡ number
    hit k =
        find_hit text records word c.if-text-len.false _ refl number (λ (e : _ ≡ 0). absurd (omega arith)) _ _ refl refl c.if-size-len.false c.if-most-name.false h k

    passes : surface ≡ true → latest_in text records word number ≡ latest_in text records word (number - 1)
    passes k =
        find_surface text records word c.if-text-len.false _ refl number (λ (e : _ ≡ 0). absurd (omega arith)) _ _ refl refl c.if-size-len.false c.if-most-name.false h k

pub returns-then-len-eq0 : goal.returns-then-len-eq0
returns-then-len-eq0 c = c.find_empty.ensures ∙ find_nothing _ _ _ _ _ c.if-len-eq0.true c.min-n.ensures

pub returns-then-text-len : goal.returns-then-text-len
returns-then-text-len c =
    let a = c.args in
    sym (find_short a.text.now a.records.now a.word.now _ c.if-text-len.true)

pub search-init : goal.search-init
search-init c =
    let a = c.args in
    (omega (arith, c.min-n.ensures), ap (latest_in a.text.now a.records.now a.word.now) (sym c.min-n.ensures))

pub search-preserved-then-size-len : goal.search-preserved-then-size-len
search-preserved-then-size-len c =
    let a = c.args in
    (search rules, c.search.invariant.1 ∙ find_sized a.text.now a.records.now a.word.now c.if-text-len.false _ refl c.search.row (λ (e : _ ≡ 0). absurd (omega arith)) (get_or a.records.now ((c.search.row - 1) * width + 3) 0) _ refl refl c.if-size-len.true)

pub search-preserved-then-most-name : goal.search-preserved-then-most-name
search-preserved-then-most-name c =
    let a = c.args in
    (search rules, c.search.invariant.1 ∙ find_beyond a.text.now a.records.now a.word.now c.if-text-len.false _ refl c.search.row (λ (e : _ ≡ 0). absurd (omega arith)) _ _ refl refl c.if-most-name.true)

pub bounds-text-name : goal.bounds-text-name
bounds-text-name c = omega (arith, fits (goal.at.bounds-text-name c).Else-most-name, ends (goal.at.bounds-text-name c).Else-most-name)

pub search-preserved-then-text-name : goal.search-preserved-then-text-name
search-preserved-then-text-name c = (search rules, c.search.invariant.1 ∙ misses (goal.at.search-preserved-then-text-name c).Else-most-name _ (ends (goal.at.search-preserved-then-text-name c).Else-most-name) c.if-text-name.true)

pub loop-i-init : goal.loop-i-init
loop-i-init c = (search rules, one_more _ _ _ (above-0 _ (first (goal.at.loop-i-init c).Else-most-name)) (λ k a b. absurd (lt_irrefl k (lt_of_lt_of_le b a))) c.if-text-name.false)

pub overflow_add-name-in-loop-i : goal.overflow_add-name-in-loop-i
overflow_add-name-in-loop-i c = omega (arith, fits (goal.at.overflow_add-name-in-loop-i c).Else-most-name)

pub bounds-text-name-in-loop-i : goal.bounds-text-name-in-loop-i
bounds-text-name-in-loop-i c = omega (arith, fits (goal.at.bounds-text-name-in-loop-i c).Else-most-name)

pub search-preserved-then-text-name-2 : goal.search-preserved-then-text-name-2
search-preserved-then-text-name-2 c =
    (search rules, c.search.invariant.1 ∙ misses (goal.at.search-preserved-then-text-name-2 c).Else-most-name _ (one_less _ _ c.loop-i-test.true c.loop-i.invariant.0) c.if-text-name-2.true)

pub loop-i-preserved : goal.loop-i-preserved
loop-i-preserved c = (search rules, one_more _ _ _ c.loop-i-test.true c.loop-i.invariant.1 c.if-text-name-2.false)

pub search-preserved : goal.search-preserved
search-preserved c =
    (search rules, c.search.invariant.1 ∙ passes (goal.at.search-preserved c).Else-most-name (λ k l. c.loop-i.invariant.1 k (omega (arith, c.loop-i-test.false)) l) (sym c.is_surface.ensures ∙ c.if-is_surface.true))

pub returns : goal.returns
returns c = sym (c.search.invariant.1 ∙ ap (latest_in _ _ _) (omega arith) ∙ find_none _ _ _)

pub returns-in-search : goal.returns-in-search
returns-in-search c =
    let n = c.search.row in
    let e : n - 1 + 1 ≡ n = omega arith in
    e ∙ sym (c.search.invariant.1 ∙ hit (goal.at.returns-in-search c).Else-most-name (λ k l. c.loop-i.invariant.1 k (omega (arith, c.loop-i-test.false)) l) (sym c.is_surface.ensures ∙ c.if-is_surface.false))
