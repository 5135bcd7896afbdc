-- The turned clause as the source makes it, from the bytes of the clause.
use Prim.Native.Nat.{ℕ, ◌+◌, ◌-◌, ◌*◌, ◌/◌, ◌%◌, ◌^◌, ◌<◌}
use native.Mathlib.Omega.{arith}
use native.Mathlib.Decide.{dec_lt}
use mathlib.Core.Path.{◌≡◌, ap, ◌∙◌}
use mathlib.Core.List.{List, [], ◌∷◌}
use lib.ListN.{get_or}
use Rattle.std.specs.Int.{to_le_bytes, from_le_bytes, w64}
use borrow.Author.Tests.{lt-ltb, le-ltb}
use Rattle.relations.specs.Sets.{bit}
use Rattle.relations.specs.Relation.{RELATIONS}
use Rattle.turning.specs.Turn.{turn_clause}
use Rattle.turning.proofs.Bits.{bit_shifted, joined-low, joined-high}
use Rattle.turning.proofs.Relations.{before, comes_from, comes-from}
use Rattle.turning.proofs.Clauses.{turn_is}

module _ (c : ℕ) where
  abbrev beyond : ℕ
  beyond = c / 2 ^ 40

  abbrev from_east : ℕ
  from_east = c / 2 ^ 8 % 2 ^ 24 + 2 ^ 24 * beyond

  abbrev from_north : ℕ
  from_north = c / 2 ^ 32 % 2 ^ 8 + 2 ^ 8 * from_east

  abbrev made : ℕ
  made = c % 2 ^ 8 + 2 ^ 8 * from_north

  made-from : (k : ℕ) → bit made k ≡ bit c (comes_from k) → k < RELATIONS → bit made k ≡ bit c (before k)
  made-from k e l = e ∙ ap (bit c) (comes-from k l)

  made-bit : (k : ℕ) → k < RELATIONS → bit made k ≡ bit c (comes_from k)
  made-bit k l = go (dec_lt k 8) (dec_lt k 16)
    where
      go : Dec (k < 8) → Dec (k < 16) → bit made k ≡ bit c (comes_from k)
      go (yes a) b = rw (lt-ltb k 8 a) (joined-low 8 c from_north k a)
      go (no a) (yes b) =
          let m : ℕ = k - 8 in
          let e : k ≡ 8 + m = omega arith in
          let f : 32 + m ≡ k + 24 = omega arith in
          rw (le-ltb k 8 (omega arith), lt-ltb k 16 b)
          (ap (bit made) e ∙ (joined-high 8 c from_north m ∙ (joined-low 8 (c / 2 ^ 32) from_east m (omega arith) ∙ (bit_shifted c 32 m ∙ ap (bit c) f))))
      go (no a) (no b) =
          let m : ℕ = k - 16 in
          let e : k ≡ 8 + (8 + m) = omega arith in
          let f : 8 + m ≡ k - 8 = omega arith in
          rw (le-ltb k 8 (omega arith), le-ltb k 16 (omega arith))
          (ap (bit made) e ∙ (joined-high 8 c from_north (8 + m) ∙ (joined-high 8 (c / 2 ^ 32) from_east m ∙ (joined-low 24 (c / 2 ^ 8) beyond m (omega arith)
          ∙ (bit_shifted c 8 m ∙ ap (bit c) f)))))

  -- the bytes with that of west below those of the other three directions
  abbrev turned : List ℕ → List ℕ
  turned bytes =
      get_or bytes 0 0 ∷ get_or bytes 4 0 ∷ get_or bytes 1 0 ∷ get_or bytes 2 0 ∷ get_or bytes 3 0 ∷ get_or bytes 5 0 ∷ get_or bytes 6 0 ∷ get_or bytes 7 0 ∷ []

  from-turned : c < 2 ^ 64 → from_le_bytes w64 (turned (to_le_bytes w64 c)) ≡ made
  from-turned l = omega (arith, l)

  pub made_is : (bytes : List ℕ) (r : ℕ) → c < 2 ^ 64 → bytes ≡ to_le_bytes w64 c → r ≡ from_le_bytes w64 (turned bytes) → r ≡ turn_clause c
  made_is bytes r l b e = e ∙ (ap (λ bs. from_le_bytes w64 (turned bs)) b ∙ (from-turned l ∙ turn_is made c (omega arith) (λ k l. made-from k (made-bit k l) l)))
