-- A number of a list, counted from 1: one law for each answer.
use mathlib.Core.List.{List}
use mathlib.Core.Path.{◌≡◌, refl, ap, sym, ◌∙◌}
use Prim.Native.Nat.{ℕ, ◌-◌, ◌≤◌}
use lib.ListN.{get_or-eq_default, get_or, length}
use Rattle.laws.proofs.NatLaws.{nonzero}
use Rattle.table.specs.Number.{number_in}

pub no_number : (ns : List ℕ) (n : ℕ) → n ≡ 0 → 0 ≡ number_in ns n
unfolding number_in
no_number ns n e = sym (ap (number_in ns) e)

pub number_in_lem : (ns : List ℕ) (n : ℕ) → (n ≡ 0 → ⊥) → get_or ns (n - 1) 0 ≡ number_in ns n
unfolding number_in
number_in_lem ns n = nonzero (λ m k. get_or ns k 0 ≡ number_in ns m) (λ k. refl) n

pub number_past : (ns : List ℕ) (n : ℕ) → (n ≡ 0 → ⊥) → length ns ≤ n - 1 → 0 ≡ number_in ns n
number_past ns n h l = sym (get_or-eq_default ns 0 l) ∙ number_in_lem ns n h
