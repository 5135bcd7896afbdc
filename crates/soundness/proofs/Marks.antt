-- Marks: what one after the other adds, and their number.
use Prim.Native.Nat.{ℕ, zero, suc, ◌+◌, ◌≤◌}
use native.Mathlib.Omega.{arith}
use native.Mathlib.Numerals.{add-one}
use mathlib.Core.Path.{◌≡◌, refl, sym, ap, ◌∙◌}
use mathlib.Core.Bool.{Bool, true, false}
use mathlib.Core.List.{List}
use lib.ListN.{length, get_or, take, replicate}
use lib.Seq.{take_all}
use lib.Dec.{eqb}
use borrow.Author.Tests.{eqb-true, eq-eqb}
use Rattle.std.specs.List.{count_by}
use Rattle.std.specs.Prelude.{◌↔◌, IsTrue}
use Rattle.std.proofs.lemmas.List.Sums.{sum_by_more}
use Rattle.pages.specs.Sizes.{PIECES}
use Rattle.pages.specs.Lists.{one}
use Rattle.soundness.specs.Steps.{mark_of, Adds, Room, total_of, Complete}

-- one after the other
pub adds_none : (n : ℕ) (h : List Bool) → Adds n h h (λ q. 0)
adds_none n h q l = omega arith

pub adds-more : (n : ℕ) (h h₁ h₂ : List Bool) (f g s : ℕ → ℕ) → Adds n h h₁ f → Adds n h₁ h₂ g → ((q : ℕ) → s q ≡ f q + g q) → Adds n h h₂ s
adds-more n h h₁ h₂ f g s a b e q l = omega (arith, a q l, b q l, e q)

pub room-left : (n : ℕ) (h h₁ : List Bool) (f g s : ℕ → ℕ) → Adds n h h₁ f → ((q : ℕ) → f q + g q ≤ s q) → Room n h s → Room n h₁ g
room-left n h h₁ f g s a e room q l = omega (arith, a q l, e q, room q l)

-- a number has one mark at most, and none where none is made
pub one-most : (b : Bool) → one b ≤ 1
one-most true = omega arith
one-most false = omega arith

pub unmarked : (n q : ℕ) → mark_of (replicate n false) q ≡ 0
unmarked zero q = refl
unmarked (suc n) zero = refl
unmarked (suc n) (suc q) = unmarked n q

-- the number of the first n marks, and of all
pub total_take : (h : List Bool) (n : ℕ) → n ≤ length h → count_by (λ b. b) (take n h) ≡ total_of h n
unfolding total_of
total_take h zero l = refl
total_take h (suc n) l =
    let e : count_by (λ b. b) (take (suc n) h) ≡ count_by (λ b. b) (take n h) + mark_of h n = rw add-one at (sum_by_more one h n false (omega arith)) in
    omega (arith, e, total_take h n (omega arith))

pub total_all : (h : List Bool) (n : ℕ) → length h ≡ n → count_by (λ b. b) h ≡ total_of h n
total_all h n e = ap (count_by (λ b. b)) (sym (take_all n h (omega arith))) ∙ total_take h n (omega arith)

-- the two numbers decide: of the pages as many as there are, and of the piece numbers
pub count_decides : (w : List ℕ) (h g : List Bool) {k a b : ℕ} → a ≡ total_of h k → a ≡ k → b ≡ total_of g PIECES → IsTrue (eqb b (get_or w 2 0)) ↔ Complete w k h g
count_decides w h g {k} {a} {b} x y z =
    ((λ t. (sym x ∙ y, sym z ∙ eqb-true b _ t)), (λ t. eq-eqb b _ (z ∙ t.1)))
