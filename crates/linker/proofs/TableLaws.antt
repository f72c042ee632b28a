-- What the functions over the lent tables answer, case by case.
use mathlib.Core.Bool.{Bool, true, false}
use mathlib.Core.List.{List, [], ◌∷◌}
use mathlib.Core.Path.{◌≡◌, refl, ap, sym, ◌∙◌}
use Prim.Native.Nat.{ℕ, zero, suc, ◌+◌, ◌-◌, ◌*◌, ◌/◌, ◌≤◌, ◌<◌}
use native.Mathlib.Omega.{arith}
use borrow.Author.Tests.{le-leb, lt-leb}
use lib.ListN.{length, set}
use lib.Seq.{sets}
use Rattle.laws.specs.Bytes.{Bytes, part}
use Rattle.index.specs.Searches.{sought}
use Rattle.index.specs.declared.Found.{Found}
use Rattle.linker.specs.Entered.{behind_in, earlier_in, entered_at, indexed_in, looked_in, row_of, told_in}
use Rattle.statement.specs.States.{between, clipped, counted_in}
use Rattle.statement.specs.declared.State.{State}
use Rattle.scene.specs.Record.{width, next_field}
use Rattle.scene.specs.Types.{is_surface}
use Rattle.statement.specs.declared.Draft.{Draft}

-- ---- the next of a name

pub told_none : (t : List ℕ) (k v : ℕ) → k ≡ 0 → told_in t k v ≡ t
told_none t k v e = ap (λ (k : ℕ). told_in t k v) e

pub told_beyond : (t : List ℕ) (k v : ℕ) → length t / width < k → told_in t k v ≡ t
told_beyond t zero v h = refl
told_beyond t (suc k) v h = rw (lt-leb (suc k) (length t / width) h)

pub told_some : (t : List ℕ) (k v : ℕ) → (k ≡ 0 → ⊥) → k ≤ length t / width → told_in t k v ≡ set t ((k - 1) * width + next_field) v
told_some t zero v h l = absurd (h refl)
told_some t (suc k) v h l = let e : suc k - 1 ≡ k = omega arith in rw (le-leb (suc k) (length t / width) l) (ap (λ (n : ℕ). set t (n * width + next_field) v) (sym e))

-- ---- a row, stored number by number

pub row_stored : (T : List ℕ) (at a0 a1 a2 a3 a4 a5 a6 a7 a8 a9 a10 : ℕ) → set (set (set (set (set (set (set (set (set (set (set T (at) a0) (at + 1) a1) (at + 2) a2) (at + 3) a3) (at + 4) a4) (at + 5) a5) (at + 6) a6) (at + 7) a7) (at + 8) a8) (at + 9) a9) (at + 10) a10 ≡ sets T at (a0 ∷ a1 ∷ a2 ∷ a3 ∷ a4 ∷ a5 ∷ a6 ∷ a7 ∷ a8 ∷ a9 ∷ a10 ∷ [])
row_stored T at a0 a1 a2 a3 a4 a5 a6 a7 a8 a9 a10 =
    let e1 : at + 1 ≡ suc at = omega arith in
    let e2 : at + 2 ≡ suc (suc at) = omega arith in
    let e3 : at + 3 ≡ suc (suc (suc at)) = omega arith in
    let e4 : at + 4 ≡ suc (suc (suc (suc at))) = omega arith in
    let e5 : at + 5 ≡ suc (suc (suc (suc (suc at)))) = omega arith in
    let e6 : at + 6 ≡ suc (suc (suc (suc (suc (suc at))))) = omega arith in
    let e7 : at + 7 ≡ suc (suc (suc (suc (suc (suc (suc at)))))) = omega arith in
    let e8 : at + 8 ≡ suc (suc (suc (suc (suc (suc (suc (suc at))))))) = omega arith in
    let e9 : at + 9 ≡ suc (suc (suc (suc (suc (suc (suc (suc (suc at)))))))) = omega arith in
    let e10 : at + 10 ≡ suc (suc (suc (suc (suc (suc (suc (suc (suc (suc at))))))))) = omega arith in
    λ i. set (set (set (set (set (set (set (set (set (set (set T (at) a0) (e1 i) a1) (e2 i) a2) (e3 i) a3) (e4 i) a4) (e5 i) a5) (e6 i) a6) (e7 i) a7) (e8 i) a8) (e9 i) a9) (e10 i) a10

-- ---- a record entered

module _ (text : Bytes) (T x : List ℕ) (n : ℕ) (d : Draft) where
  -- the search, as the code does it
  pub earlier_surface : {q : Bool} → q ≡ is_surface d.kind → q ≡ true → record { entry = length x; number = 0; looked = 0 } ≡ earlier_in text T x n d
  unfolding earlier_in
  earlier_surface e h = rw (← e, h)

  pub earlier_found : {q : Bool} {w : Bytes} {r : Found} → q ≡ is_surface d.kind → q ≡ false → w ≡ part text d.name d.size → r ≡ sought text T x n w → r ≡ earlier_in text T x n d
  unfolding earlier_in
  earlier_found e h p f = f ∙ rw (← e, h) (ap (sought text T x n) p)

  -- the draft entered with its line

  abbrev rows : ℕ
  rows = length T / width

  module _ (line : ℕ) where
    abbrev In : ℕ → List ℕ → List ℕ → Type 0
    In looked T' x' = (looked ≡ looked_in text T x n d) × ((T' ≡ entered_at text T x n d line) × (x' ≡ indexed_in text T x n d))

    pub in_none : rows ≤ n → In 0 T x
    unfolding looked_in entered_at indexed_in
    in_none h = (rw (le-leb rows n h), (rw (le-leb rows n h), rw (le-leb rows n h)))

    pub in_one : n < rows → {number : ℕ} {f : Found} {T₁ T₂ x' : List ℕ}
        → f ≡ earlier_in text T x n d → number ≡ clipped (n + 1) → T₁ ≡ told_in T f.number number → T₂ ≡ sets T₁ (n * width) (row_of d line) → x' ≡ set x f.entry number
        → In f.looked T₂ x'
    unfolding looked_in entered_at indexed_in
    in_one h e m told row put = (
      rw (lt-leb rows n h) (ap (λ (z : Found). z.looked) e),
      (
        rw (lt-leb rows n h) (row ∙ ap (λ (z : List ℕ). sets z (n * width) (row_of d line)) (told ∙ (λ j. told_in T (e j).number (m j)))),
        rw (lt-leb rows n h) (put ∙ (λ i. set x (e i).entry (m i))),
      ),
    )

-- the state then
module _ (text : Bytes) (T x : List ℕ) (t : State) where
  abbrev room : ℕ
  room = length T / width

  pub behind_none : room ≤ t.count → {s : State} → s ≡ between t.at t.count t.used t.looked → s ≡ behind_in text T x t
  unfolding behind_in
  behind_none h q = rw (le-leb room t.count h) q

  pub behind_one : t.count < room → {looked : ℕ} {u s : State} → looked ≡ looked_in text T x t.count t.draft
      → u ≡ counted_in t looked → s ≡ between t.at (t.count + 1) t.used u.looked → s ≡ behind_in text T x t
  unfolding behind_in looked_in
  behind_one h l c q = rw (lt-leb room t.count h) (q ∙ ap (λ (z : State). between t.at (t.count + 1) t.used z.looked) c ∙ ap (λ (z : ℕ). between t.at (t.count + 1) t.used (clipped (t.looked + z))) (l ∙ rw (lt-leb room t.count h)))
