-- Demand 3 with mixtures resolved.
use mathlib.Core.Bool.{true, false, ◌&&◌}
use mathlib.Core.List.{List, ◌++◌}
use mathlib.Core.Logic.{◌⊎◌, inl, inr}
use mathlib.Core.Path.{◌≡◌, ap, sym, ◌∙◌, subst}
use Prim.Native.Nat.{ℕ, ◌+◌, ◌-◌, ◌≤◌, ◌<◌}
use native.Mathlib.Omega.{arith}
use lib.ListN.{length}
use Rattle.graph.specs.Answers.{leads, lowest_loop, shows}
use Rattle.graph.specs.Graph.{goes_on, link}
use Rattle.graph.specs.Paths.{Way}
use Rattle.laws.proofs.BoolLaws.{same_bool}
use Rattle.laws.proofs.NatLaws.{le_or_lt}
use Rattle.laws.specs.Bytes.{Bytes}
use Rattle.mixtures.proofs.LeadLaws.{leads_path}
use Rattle.scene.proofs.BlockLaws.{exchange}
use Rattle.scene.proofs.ExchangeLaws.{renumbers}
use Rattle.scene.proofs.IndependentLaws.{clear_first, clear_second}
use Rattle.scene.proofs.RenumberLaws.{Renamed}
use Rattle.scene.proofs.SwapLaws.{shift_first, shift_high, shift_low, shift_second}
use Rattle.scene.proofs.TellsLaws.{statements_length}
use Rattle.scene.specs.Block.{shift}
use Rattle.scene.specs.Exchange.{Renumbers}
use Rattle.scene.specs.Links.{reals_used}
use Rattle.scene.specs.Reading.{Entry, accepted, read_statements, statements}
use Rattle.scene.specs.Statement.{Statement}
use Rattle.scene.specs.Types.{is_material}
use Rattle.scene.specs.declared.Settings.{Settings}
use Rattle.sides.proofs.KnownLaws.{first_known, known_first, known_stay}
use Rattle.sides.proofs.MixedLaws.{resolved, resolves}
use Rattle.sides.proofs.MovedLaws.{loops_stay, number_on, sides_on, some_moved, type_on, way_on}
use Rattle.sides.proofs.SideLaws.{scene_within}
use Rattle.sides.specs.Exchange.{MixedExchangeLaw, renumbered_sides}
use Rattle.sides.specs.Read.{read}
use Rattle.sides.specs.Sides.{scene_graph}

-- ---- shifting back

pub shift_back : (p i j n : ℕ) → shift p j i (shift p i j n) ≡ n
shift_back p i j n = go (le_or_lt n p) (le_or_lt n (p + i)) (le_or_lt n (p + i + j))
  where
    go : (n ≤ p) ⊎ (p < n) → (n ≤ p + i) ⊎ (p + i < n) → (n ≤ p + i + j) ⊎ (p + i + j < n) → shift p j i (shift p i j n) ≡ n
    go (inl a) b c = ap (shift p j i) (shift_low p i j n a) ∙ shift_low p j i n a
    go (inr a) (inl b) c = ap (shift p j i) (shift_first p i j n a b) ∙ shift_second p j i (n + j) (omega arith) (omega arith) ∙ (let e : n + j - j ≡ n = omega arith in e)
    go (inr a) (inr b) (inl c) = ap (shift p j i) (shift_second p i j n b c) ∙ shift_first p j i (n - i) (omega arith) (omega arith) ∙ (let e : n - i + i ≡ n = omega arith in e)
    go (inr a) (inr b) (inr c) = ap (shift p j i) (shift_high p i j n c) ∙ shift_high p j i n (omega arith)

-- ---- what is shown

module _ {f g : ℕ → ℕ} {D D' : List Statement} (R : Renamed f D D') (S : Renamed g D' D) (back : (n : ℕ) → g (f n) ≡ n) (n m : ℕ) (z : 0 < n) (h : n ≤ length D) (y : 0 < m) (k : m ≤ length D) where
  leads_on : leads (scene_graph D') false (length D') (f n) (f m) ≡ leads (scene_graph D) false (length D) n m
  leads_on = same_bool (leads (scene_graph D') false (length D') (f n) (f m)) (leads (scene_graph D) false (length D) n m) back_way on_way
    where
      last : (d : List Statement) → length d + 1 - 1 ≡ length d
      last d = omega arith

      way : (d : List Statement) (a b : ℕ) → 0 < a → a ≤ length d → leads (scene_graph d) false (length d) a b ≡ true → Way (link (scene_graph d)) (goes_on (scene_graph d) false) a b
      way d a b p l e = (leads_path (scene_graph d) false (length d + 1) a b (scene_within d) p (omega arith)).0 (subst (λ (c : ℕ). leads (scene_graph d) false c a b ≡ true) (sym (last d)) e)

      test : (d : List Statement) (a b : ℕ) → 0 < a → a ≤ length d → Way (link (scene_graph d)) (goes_on (scene_graph d) false) a b → leads (scene_graph d) false (length d) a b ≡ true
      test d a b p l w = subst (λ (c : ℕ). leads (scene_graph d) false c a b ≡ true) (last d) ((leads_path (scene_graph d) false (length d + 1) a b (scene_within d) p (omega arith)).1 w)

      on_way : leads (scene_graph D) false (length D) n m ≡ true → leads (scene_graph D') false (length D') (f n) (f m) ≡ true
      on_way e = test D' (f n) (f m) (some_moved R n z) (number_on R n z h) (way_on R false n m z h (way D n m z h e))

      back_way : leads (scene_graph D') false (length D') (f n) (f m) ≡ true → leads (scene_graph D) false (length D) n m ≡ true
      back_way e =
          let w = way_on S false (f n) (f m) (some_moved R n z) (number_on R n z h) (way D' (f n) (f m) (some_moved R n z) (number_on R n z h) e) in
          test D n m z h (subst (λ (c : ℕ). Way (link (scene_graph D)) (goes_on (scene_graph D) false) c m) (back n) (subst (λ (c : ℕ). Way (link (scene_graph D)) (goes_on (scene_graph D) false) (g (f n)) c) (back m) w))

  shows_on : shows (scene_graph D') (length D') (f n) (f m) ≡ shows (scene_graph D) (length D) n m
  unfolding shows
  shows_on = λ i. leads_on i && is_material (type_on R m y k i)

-- ---- a renumbering of the statements, and back, is one of all that is read

pub record Agrees (r : Settings) (old new : Bytes) (es es' : List Entry) (f : ℕ → ℕ) : Type 0 where
  pub reads : read r new ≡ accepted es'
  pub renumbers : Renumbers r old new es es' f
  pub pairs : (n : ℕ) → 0 < n → n ≤ length es → (scene_graph (statements es')).sides (f n) ≡ renumbered_sides f ((scene_graph (statements es)).sides n)
  pub shown : (n m : ℕ) → 0 < n → n ≤ length es → 0 < m → m ≤ length es → shows (scene_graph (statements es')) (length es') (f n) (f m) ≡ shows (scene_graph (statements es)) (length es) n m

pub agrees : {f g : ℕ → ℕ} (r : Settings) (old new : Bytes) (es es' : List Entry) → read r old ≡ accepted es → read_statements r new ≡ accepted es' → reals_used (statements es') ≡ reals_used (statements es)
    → Renamed f (statements es) (statements es') → Renamed g (statements es') (statements es) → ((n : ℕ) → g (f n) ≡ n) → Agrees r old new es es' f
agrees {f} {g} r old new es es' e e' reals R S back =
    let h = resolved r old es e in
    let len = statements_length es in
    let len' = statements_length es' in
    record {
      reads = resolves r new es' (record {
        reads = e';
        known = known_first new (statements es') es' (known_stay R S (first_known old (statements es) es h.known));
        loopless = subst (λ (k : ℕ). lowest_loop (scene_graph (statements es')) k ≡ 0) len' (loops_stay S (subst (λ (k : ℕ). lowest_loop (scene_graph (statements es)) k ≡ 0) (sym len) h.loopless));
      });
      renumbers = renumbers r old new es es' f h.reads e' R reals;
      pairs = λ n z l. sides_on R n z (omega (arith, len));
      shown = λ n m z l y k.
          (ap (λ (c : ℕ). shows (scene_graph (statements es')) c (f n) (f m)) (sym len')
          ∙ shows_on R S back n m z (omega (arith, len)) y (omega (arith, len))
          ∙ ap (λ (c : ℕ). shows (scene_graph (statements es)) c n m) len);
    }

-- ---- the law

pub mixed_exchange : MixedExchangeLaw
mixed_exchange r p a b q es x =
    let s = exchange r p a b q es (resolved r (p ++ a ++ b ++ q) es x.reads).reads x.first x.second (clear_first x.independent) (clear_second x.independent) in
    let k = agrees r (p ++ a ++ b ++ q) (p ++ b ++ a ++ q) es s.entries x.reads s.reads s.reals s.renamed s.back (shift_back _ _ _) in
    record { entries = s.entries; reads = k.reads; renumbers = k.renumbers; pairs = k.pairs; shown = k.shown }
