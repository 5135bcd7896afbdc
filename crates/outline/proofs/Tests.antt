-- Tests as facts, and facts as tests.
use Prim.Native.Nat.{ℕ, ◌≤◌, ◌<◌}
use mathlib.Core.Path.{◌≡◌, refl, sym, ◌∙◌}
use mathlib.Core.Bool.{Bool, true, false, ◌&&◌, ◌||◌, false≢true}
use mathlib.Core.Logic.{◌↔◌}
use native.Mathlib.Decide.{ℕ_discrete, dec_le}
use native.Mathlib.Omega.{arith}
use lib.Dec.{leb, eqb}
use borrow.Author.Tests.{le-leb, lt-leb, eq-eqb, ne_eqb}

pub and_left : (a b : Bool) → (a && b) ≡ true → a ≡ true
and_left true b e = refl
and_left false b e = e

pub and_right : (a b : Bool) → (a && b) ≡ true → b ≡ true
and_right true b e = e
and_right false b e = absurd (false≢true e)

pub both : {a b : Bool} → a ≡ true → b ≡ true → (a && b) ≡ true
both p q = rw (p, q)

pub or-false-both : (a b : Bool) → (a || b) ≡ false → (a ≡ false) × (b ≡ false)
or-false-both true b e = absurd (false≢true (sym e))
or-false-both false b e = (refl, e)

-- two comparisons that say the same are the same test
pub leb-same : (a b c d : ℕ) → (a ≤ b) ↔ (c ≤ d) → leb a b ≡ leb c d
leb-same a b c d e = go (dec_le a b)
  where
    go : Dec (a ≤ b) → leb a b ≡ leb c d
    go (yes h) = le-leb a b h ∙ sym (le-leb c d (e.0 h))
    go (no n) = lt-leb a b (omega (arith, n)) ∙ sym (lt-leb c d (go-lt (dec_le c d)))
      where
        go-lt : Dec (c ≤ d) → d < c
        go-lt (yes h) = absurd (n (e.1 h))
        go-lt (no m) = omega (arith, m)

pub eqb_same : (a b c d : ℕ) → (a ≡ b) ↔ (c ≡ d) → eqb a b ≡ eqb c d
eqb_same a b c d e = go (ℕ_discrete a b)
  where
    go : Dec (a ≡ b) → eqb a b ≡ eqb c d
    go (yes h) = eq-eqb a b h ∙ sym (eq-eqb c d (e.0 h))
    go (no n) = ne_eqb a b n ∙ sym (ne_eqb c d (λ h. n (e.1 h)))
