-- Sums over the pages and the piece numbers, by how often the walk comes to each.
use Prim.Native.Nat.{ℕ, zero, suc, ◌≤◌, ◌<◌}
use native.Mathlib.Omega.{arith}
use native.Mathlib.Nat.{not-suc-le-zero}
use native.Mathlib.Decide.{ℕ_discrete}
use mathlib.Core.Path.{◌≡◌, sym, ap, ◌∙◌}
use mathlib.Core.List.{List}
use Rattle.pages.specs.Under.{under, seen}
use Rattle.pages.specs.declared.Entry.{Entry}
use Rattle.pages.specs.Sizes.{FEWEST}
use Rattle.pages.specs.Lists.{sum, sum_below}
use Rattle.pages.specs.Layout.{page, table_in}
use Rattle.pages.specs.Sound.{piece_entries}
use Rattle.pages.proofs.Lists.{every_map, sum_same}
use Rattle.pages.proofs.Below.{below-le, below-const}
use Rattle.pages.proofs.Entries.{leaf-pieces, above-pieces}
use Rattle.soundness.specs.Steps.{Tree}
use Rattle.soundness.proofs.Walks.{Child}

-- n numbers of at most 1 with the sum n are all 1
pub all_one : (n : ℕ) (f : ℕ → ℕ) → ((i : ℕ) → i < n → f i ≤ 1) → sum_below n f ≡ n → (i : ℕ) → i < n → f i ≡ 1
all_one zero f h e i l = absurd (not-suc-le-zero l)
all_one (suc n) f h e i l =
    let few : sum_below n f ≤ n = omega (arith, below-le n f (λ x. 1) (λ x xl. h x (omega arith)), below-const n 1) in
    go (ℕ_discrete i n) (λ s. all_one n f (λ x xl. h x (omega arith)) s i) (omega (arith, few, h n (omega arith)))
  where
    go : Dec (i ≡ n) → (sum_below n f ≡ n → i < n → f i ≡ 1) → (sum_below n f ≡ n) × (f n ≡ 1) → f i ≡ 1
    go (yes d) r s = ap f d ∙ s.1
    go (no d) r s = r s.0 (omega arith)

module _ (w : List ℕ) (f : Entry → ℕ) where
  -- a weight of the entries of page q, if it is a leaf
  abbrev held : ℕ → ℕ
  held q = sum f (piece_entries (page (table_in w) q))

  -- what is under a page is what the leaves come to hold
  pub under-seen : (l m p : ℕ) → Tree w l m p → under f (table_in w).pages l p ≡ seen held (table_in w).pages l p
  unfolding Tree seen under
  under-seen zero m p t = ap (sum f) (sym (leaf-pieces (page (table_in w) p) t.0.level))
  under-seen (suc l) m p t =
      let a = sum_same (λ e. under f (table_in w).pages l e.r) (λ e. seen held (table_in w).pages l e.r) (page (table_in w) p).entries
      (every_map (Child w l) _ (λ e z. under-seen l FEWEST e.r z.0) (page (table_in w) p).entries t.1) in
      omega (arith, a, ap (sum f) (above-pieces (page (table_in w) p) l t.0.level))
