-- Zero words, tested by an `or` over them; of a list in two parts, and of the words from a on.
use Prim.Native.Nat.{ℕ, ◌+◌, ◌<◌}
use native.Mathlib.Omega.{arith}
use native.Mathlib.Decide.{ℕ_discrete}
use native.Mathlib.Numerals.{add-one}
use mathlib.Core.Path.{◌≡◌, refl, sym, ap, ◌∙◌}
use mathlib.Core.Bool.{Bool, true, false, ◌&&◌, and-true, and_assoc}
use mathlib.Core.List.{List, [], ◌∷◌, ◌++◌}
use lib.ListN.{length, get_or, drop}
use lib.Seq.{drop-cons}
use lib.Bits.{bit_or, or_add_and, and_le_l, and_le_r, or_zero_l}
use lib.Dec.{eqb}
use borrow.Author.Tests.{ne_eqb}
use Rattle.std.specs.List.{fold}
use Rattle.pages.specs.Sound.{zeros}

zeros-append : (xs ys : List ℕ) → zeros (xs ++ ys) ≡ zeros xs && zeros ys
zeros-append [] ys = refl
zeros-append (x ∷ xs) ys = go (eqb x 0) (zeros-append xs ys)
  where
    go : (b : Bool) → zeros (xs ++ ys) ≡ zeros xs && zeros ys → b && zeros (xs ++ ys) ≡ (b && zeros xs) && zeros ys
    go true e = e
    go false e = refl

zeros-next : (w : List ℕ) (a b : ℕ) → a < length w → a + 1 ≡ b → zeros (drop a w) ≡ eqb (get_or w a 0) 0 && zeros (drop b w)
zeros-next w a b l e = rw (drop-cons w a 0 l, ← e, add-one)

or-blank : (a x : ℕ) → eqb (bit_or a x) 0 ≡ eqb a 0 && eqb x 0
or-blank a x = go (ℕ_discrete a 0) (ℕ_discrete x 0)
  where
    go : Dec (a ≡ 0) → Dec (x ≡ 0) → eqb (bit_or a x) 0 ≡ eqb a 0 && eqb x 0
    go (yes p) (yes q) = rw (p, q)
    go (yes p) (no q) = rw (p, or_zero_l x, ne_eqb x 0 q)
    go (no p) q = rw (ne_eqb a 0 p, ne_eqb (bit_or a x) 0 (λ e. p (omega (arith, or_add_and a x, and_le_l a x, and_le_r a x, e))))

or-from : (a : ℕ) (w : List ℕ) → eqb (fold (λ x y. bit_or x y) a w) 0 ≡ eqb a 0 && zeros w
or-from a [] = sym (and-true (eqb a 0))
or-from a (x ∷ xs) = or-from (bit_or a x) xs ∙ (ap (λ b. b && zeros xs) (or-blank a x) ∙ and_assoc (eqb a 0) (eqb x 0) (zeros xs))

pub zeros_or : (w : List ℕ) → zeros w ≡ eqb (fold (λ x y. bit_or x y) 0 w) 0
zeros_or w = sym (or-from 0 w)
