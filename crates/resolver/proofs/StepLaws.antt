-- The steps of the look-up: a side, a mixture, the records one after the other.
use mathlib.Core.Bool.{Bool, true, false, cond, not, ◌||◌}
use mathlib.Core.List.{List, [], ◌∷◌, ◌++◌}
use mathlib.Core.Logic.{◌⊎◌, inl, inr}
use mathlib.Core.Option.{Option, none, some}
use mathlib.Core.Path.{◌≡◌, refl, ap, sym, ◌∙◌, subst}
use Prim.Native.Nat.{ℕ, zero, suc, ◌+◌, ◌-◌, ◌*◌, ◌<◌, ◌≤◌}
use native.Mathlib.Nat.{sub-zero}
use native.Mathlib.Omega.{arith}
use borrow.Author.Tests.{eq-eqb, ne_eqb}
use lib.Dec.{eqb}
use lib.ListN.{length, length-append, replicate, set}
use lib.Seq.{sets}
use Rattle.graph.proofs.GraphLaws.{mixture_number}
use Rattle.graph.specs.Graph.{mixture_type}
use Rattle.index.specs.Searches.{sought}
use Rattle.index.specs.declared.Found.{Found}
use Rattle.laws.proofs.BoolLaws.{not_false, not_true}
use Rattle.laws.proofs.NatLaws.{le_or_lt}
use Rattle.laws.specs.Bytes.{Bytes, same}
use Rattle.lexer.specs.Word.{word_at, word_bytes, word_end}
use Rattle.lexer.specs.declared.Word.{Word}
use Rattle.resolver.specs.Code.{Resolves, Sides, chosen, first_place, is_mixture, mixture_to, pair_at, pairs_to, resolved_as, side_at, unknown_at, unknown_to}
use Rattle.resolver.specs.declared.Resolved.{Resolved}
use Rattle.resolver.specs.declared.Resolved.TheVariants.{Known, Plain, Unknown}
use Rattle.resolver.specs.declared.Side.{Side}
use Rattle.scene.proofs.FilledLaws.{put_behind, zeros_behind}
use Rattle.scene.specs.Record.{field_in, filled}
use Rattle.scene.specs.Statement.{void}
use Rattle.sides.specs.Read.{or_first}
use Rattle.statement.specs.States.{clipped}

-- ---- a side

abbrev side_with : Bool → ℕ → Side
side_with z m = record { number = cond z 0 (clipped m); known = z || not (eqb m 0) }

module _ (text : Bytes) (T X : List ℕ) (count at : ℕ) {w : Bytes} (word : w ≡ word_bytes text at) {b : Bool} (is_void : b ≡ same w void) where
  side_is : {z : Bool} → b ≡ z → {f : Found} → f ≡ sought text T X count w → side_with z f.number ≡ side_at text T X count at
  unfolding side_at
  side_is e {f} q = λ i. side_with ((sym e ∙ is_void ∙ ap (λ (v : Bytes). same v void) word) i) ((q ∙ ap (sought text T X count) word) i).number

  pub side_void : b ≡ true → ◌≡◌ {A = Side} (record { number = 0; known = true }) (side_at text T X count at)
  side_void t = side_is t refl

  pub side_found : b ≡ false → {f : Found} → f ≡ sought text T X count w → {m : ℕ} → m ≡ clipped f.number → ◌≡◌ {A = Side} (record { number = m; known = not (eqb f.number 0) }) (side_at text T X count at)
  side_found e {f} q c = (λ i. record { number = c i; known = not (eqb f.number 0) }) ∙ side_is e q

-- ---- a pair

pub pair_stored : (pairs : List ℕ) (at f b : ℕ) → set (set pairs at f) (at + 1) b ≡ sets pairs at (f ∷ b ∷ [])
pair_stored pairs at f b = let e : at + 1 ≡ suc at = omega arith in ap (λ (k : ℕ). set (set pairs at f) k b) e

-- ---- a mixture

abbrev IsKnown : Resolved → Type 0
IsKnown Plain = Unit
IsKnown Known = Unit
IsKnown (Unknown p) = ⊥

abbrev IsSome : Option ℕ → Type 0
IsSome none = ⊥
IsSome (some p) = Unit

some_none : {x : Option ℕ} {p : ℕ} → x ≡ some p → x ≡ none → ⊥
some_none e f = subst IsSome (sym e ∙ f) tt

-- the place p of the first string, and its side
module _ (text : Bytes) (T X : List ℕ) (count n : ℕ) {p : ℕ} (first : p ≡ first_place T n) {s : Side} (side : s ≡ side_at text T X count p) where
  known_first : (side_at text T X count (first_place T n)).known ≡ s.known
  known_first = ap (λ (z : Side). z.known) (ap (side_at text T X count) (sym first) ∙ sym side)

  -- an unknown side of some place leaves the pairs as they are
  refuses : (pairs : List ℕ) {q : ℕ} → unknown_at text T X count n ≡ some q → Sides text T X pairs count n (Unknown q) pairs
  refuses pairs e = record { says = ap (λ (o : Option ℕ). resolved_as o true) (sym e); same = refl; stands = λ f. absurd (some_none e f) }

  pub first_unknown_lem : not s.known ≡ true → (pairs : List ℕ) → Sides text T X pairs count n (Unknown p) pairs
  unfolding unknown_at
  first_unknown_lem k pairs = refuses pairs (λ i. chosen ((known_first ∙ not_true s.known k) i) (side_at text T X count (word_end text (first_place T n))).known (sym first i) (word_at text (word_end text (first_place T n))).place)

  module _ (known : not s.known ≡ false) {q : ℕ} (next : q ≡ word_end text p) {t : Side} (other : t ≡ side_at text T X count q) where
    at_next : word_end text (first_place T n) ≡ q
    at_next = ap (word_end text) (sym first) ∙ sym next

    known_second : (side_at text T X count (word_end text (first_place T n))).known ≡ t.known
    known_second = ap (λ (z : Side). z.known) (ap (side_at text T X count) at_next ∙ sym other)

    unknown_as : unknown_at text T X count n ≡ chosen true t.known p (word_at text q).place
    unfolding unknown_at
    unknown_as = λ i. chosen ((known_first ∙ not_false s.known known) i) (known_second i) (sym first i) (word_at text (at_next i)).place

    pub second_unknown : not t.known ≡ true → {w : Word} → w ≡ word_at text q → (pairs : List ℕ) → Sides text T X pairs count n (Unknown w.place) pairs
    second_unknown k e pairs = refuses pairs (unknown_as ∙ (λ i. chosen true (not_true t.known k i) p (sym e i).place))

    pub both_known : not t.known ≡ false → (pairs after : List ℕ) → length after ≡ length pairs → (0 < n → n * 2 ≤ length pairs → after ≡ sets pairs ((n - 1) * 2) (s.number ∷ t.number ∷ [])) → Sides text T X pairs count n Known after
    unfolding pair_at
    both_known k pairs after l h =
        let e : unknown_at text T X count n ≡ none = unknown_as ∙ (λ i. chosen true (not_false t.known k i) p (word_at text q).place) in
        record {
          says = ap (λ (o : Option ℕ). resolved_as o true) (sym e);
          same = l;
          stands = λ u z r. (h z r ∙ (λ i. sets pairs ((n - 1) * 2) (((side ∙ ap (side_at text T X count) first) i).number ∷ ((other ∙ ap (side_at text T X count) (sym at_next)) i).number ∷ [])));
        }

-- ---- the records one after the other

module _ (T : List ℕ) (n : ℕ) {t : ℕ} (type : t ≡ field_in T n 0) where
  pub is_mixture_lem : t ≡ 25 → is_mixture T n ≡ true
  is_mixture_lem e = eq-eqb (field_in T n 0) mixture_type (sym type ∙ e ∙ sym mixture_number)

  pub no_mixture : (t ≡ 25 → ⊥) → is_mixture T n ≡ false
  no_mixture h = ne_eqb (field_in T n 0) mixture_type (λ e. h (type ∙ e ∙ mixture_number))

module _ (text : Bytes) (T X : List ℕ) (count : ℕ) where
  pairs_length : (n : ℕ) → length (pairs_to text T X count n) ≡ n * 2
  unfolding pairs_to pair_at
  pairs_length zero = refl
  pairs_length (suc n) = go (is_mixture T (suc n)) (pairs_length n)
    where
      go : (b : Bool) → length (pairs_to text T X count n) ≡ n * 2 → length (pairs_to text T X count n ++ cond b (pair_at text T X count (suc n)) (0 ∷ 0 ∷ [])) ≡ suc n * 2
      go true e = omega (arith, length-append (pairs_to text T X count n) (pair_at text T X count (suc n)), e)
      go false e = omega (arith, length-append (pairs_to text T X count n) (0 ∷ 0 ∷ []), e)

  pair_length : (n : ℕ) → length (pair_at text T X count n) ≡ 2
  unfolding pair_at
  pair_length n = refl

  unknown_stays : {p : ℕ} (n m : ℕ) → n ≤ m → unknown_to text T X count n ≡ some p → unknown_to text T X count m ≡ some p
  unfolding unknown_to
  unknown_stays zero m h e = absurd (some_none e refl)
  unknown_stays (suc n) zero h e = absurd (omega arith)
  unknown_stays {p} (suc n) (suc m) h e = go (le_or_lt (suc n) m) (λ l. unknown_stays (suc n) m l e)
    where
      go : (suc n ≤ m) ⊎ (m < suc n) → (suc n ≤ m → unknown_to text T X count m ≡ some p) → unknown_to text T X count (suc m) ≡ some p
      go (inl l) up = ap (λ (o : Option ℕ). or_first o (cond (is_mixture T (suc m)) (unknown_at text T X count (suc m)) Option.none)) (up l)
      go (inr l) up = let q : suc m ≡ suc n = omega arith in subst (λ (j : ℕ). unknown_to text T X count j ≡ some p) (sym q) e

  -- the first n are looked up: no side is unknown, and their pairs stand in a table that was all zero
  pub record UpTo (pairs₀ : List ℕ) (n : ℕ) (end : Resolved) (pairs : List ℕ) : Type 0 where
    pub none : unknown_to text T X count n ≡ none
    pub says : end ≡ resolved_as Option.none (mixture_to T n)
    pub same : length pairs ≡ length pairs₀
    pub stands : pairs₀ ≡ replicate (length pairs₀) 0 → n * 2 ≤ length pairs₀ → pairs ≡ filled 0 (length pairs₀) (pairs_to text T X count n)

  pub none_yet : (pairs : List ℕ) → UpTo pairs 0 Plain pairs
  unfolding unknown_to mixture_to pairs_to
  none_yet pairs = record { none = refl; says = refl; same = refl; stands = λ e h. (e ∙ ap (λ (k : ℕ). replicate k 0) (sym (sub-zero (length pairs)))) }

  module _ (pairs₀ : List ℕ) (n : ℕ) {end : Resolved} {pairs : List ℕ} (u : UpTo pairs₀ n end pairs) where
    -- a record that is no mixture
    passed_next : is_mixture T (suc n) ≡ false → UpTo pairs₀ (suc n) end pairs
    unfolding unknown_to mixture_to pairs_to
    passed_next e = record {
      none = (λ i. or_first (u.none i) (cond (e i) (unknown_at text T X count (suc n)) Option.none));
      says = u.says ∙ (λ i. resolved_as Option.none (or_false (mixture_to T n) (sym e) i));
      same = u.same;
      stands = λ z h. (u.stands z (omega arith) ∙ sym (zeros_behind (pairs_to text T X count n) 2 (length pairs₀) (omega (arith, pairs_length n))) ∙ (λ i. filled 0 (length pairs₀) (pairs_to text T X count n ++ cond (sym e i) (pair_at text T X count (suc n)) (0 ∷ 0 ∷ []))));
    }
      where
        or_false : (a : Bool) {b : Bool} → false ≡ b → a ≡ (a || b)
        or_false true e = refl
        or_false false e = e

    unknown_next : is_mixture T (suc n) ≡ true → {p : ℕ} → unknown_at text T X count (suc n) ≡ some p → unknown_to text T X count (suc n) ≡ some p
    unfolding unknown_to
    unknown_next m e = λ i. or_first (u.none i) (cond (m i) (e i) Option.none)

    module _ (m : is_mixture T (suc n) ≡ true) {r : Resolved} {after : List ℕ} (S : Sides text T X pairs count (suc n) r after) where
      now_unknown : unknown_to text T X count (suc n) ≡ unknown_at text T X count (suc n)
      unfolding unknown_to
      now_unknown = λ i. or_first (u.none i) (cond (m i) (unknown_at text T X count (suc n)) Option.none)

      -- both sides of a mixture are known
      known_next : unknown_at text T X count (suc n) ≡ none → UpTo pairs₀ (suc n) r after
      unfolding mixture_to pairs_to
      known_next e = record {
        none = now_unknown ∙ e;
        says = S.says ∙ (λ i. resolved_as (e i) true) ∙ (λ i. resolved_as Option.none (or_true (mixture_to T n) (sym m) i));
        same = S.same ∙ u.same;
        stands = λ z h. (
            let f : pairs ≡ filled 0 (length pairs₀) (pairs_to text T X count n) = u.stands z (omega arith) in
            let at : (suc n - 1) * 2 ≡ length (pairs_to text T X count n) = omega (arith, pairs_length n) in
            S.stands e (omega arith) (omega (arith, u.same))
            ∙ (λ i. sets (f i) (at i) (pair_at text T X count (suc n)))
            ∙ put_behind (pairs_to text T X count n) (pair_at text T X count (suc n)) (length pairs₀) (omega (arith, pairs_length n, pair_length (suc n)))
            ∙ (λ i. filled 0 (length pairs₀) (pairs_to text T X count n ++ cond (sym m i) (pair_at text T X count (suc n)) (0 ∷ 0 ∷ [])))
            );
      }
        where
          or_true : (a : Bool) {b : Bool} → true ≡ b → true ≡ (a || b)
          or_true true e = refl
          or_true false e = e

    -- the same of the number that the code has next
    module _ {k : ℕ} (next : k ≡ n + 1) where
      is_next : k ≡ suc n
      is_next = omega (arith, next)

      pub passed : is_mixture T k ≡ false → UpTo pairs₀ k end pairs
      passed = subst (λ (j : ℕ). is_mixture T j ≡ false → UpTo pairs₀ j end pairs) (sym is_next) passed_next

      pub known_too : is_mixture T k ≡ true → {r : Resolved} {after : List ℕ} → Sides text T X pairs count k r after → unknown_at text T X count k ≡ none → UpTo pairs₀ k r after
      known_too m {r} {after} S e = subst (λ (j : ℕ). UpTo pairs₀ j r after) (sym is_next) (known_next (subst (λ (j : ℕ). is_mixture T j ≡ true) is_next m) (subst (λ (j : ℕ). Sides text T X pairs count j r after) is_next S) (subst (λ (j : ℕ). unknown_at text T X count j ≡ none) is_next e))

      -- a side is not known: the look-up ends
      module _ (m : is_mixture T k ≡ true) {r : Resolved} {after : List ℕ} (S : Sides text T X pairs count k r after) where
        pub stops_at : k ≤ count → (p : ℕ) → r ≡ Unknown p → Resolves text T X pairs₀ count r after
        stops_at h p e = go (unknown_at text T X count k) refl
          where
            go : (o : Option ℕ) → unknown_at text T X count k ≡ o → Resolves text T X pairs₀ count r after
            go none q = absurd (subst IsKnown (sym (S.says ∙ ap (λ (z : Option ℕ). resolved_as z true) q) ∙ e) tt)
            go (some x) q =
                let all : unknown_to text T X count count ≡ some x = unknown_stays k count h (subst (λ (j : ℕ). unknown_to text T X count j ≡ some x) (sym is_next) (unknown_next (subst (λ (j : ℕ). is_mixture T j ≡ true) is_next m) (subst (λ (j : ℕ). unknown_at text T X count j ≡ some x) is_next q))) in
                record {
                  says = S.says ∙ (λ i. resolved_as (q i) true) ∙ (λ i. resolved_as (sym all i) (mixture_to T count));
                  same = S.same ∙ u.same;
                  stands = λ f. absurd (some_none all f);
                }

        -- it is: the look-up goes on
        pub goes_on : ((w : ℕ) → r ≡ Unknown w → ⊥) → UpTo pairs₀ k r after
        goes_on t = go (unknown_at text T X count k) refl
          where
            go : (o : Option ℕ) → unknown_at text T X count k ≡ o → UpTo pairs₀ k r after
            go none q = known_too m S q
            go (some x) q = absurd (t _ (S.says ∙ ap (λ (z : Option ℕ). resolved_as z true) q))

  -- all are looked up
  pub all_known : (pairs₀ : List ℕ) {n : ℕ} {end : Resolved} {pairs : List ℕ} → n ≡ count → UpTo pairs₀ n end pairs → Resolves text T X pairs₀ count end pairs
  all_known pairs₀ {n} {end} {pairs} e v =
      let u : UpTo pairs₀ count end pairs = subst (λ (j : ℕ). UpTo pairs₀ j end pairs) e v in
      record { says = u.says ∙ (λ i. resolved_as (sym u.none i) (mixture_to T count)); same = u.same; stands = λ f. u.stands }
