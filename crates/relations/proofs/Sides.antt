-- Each test of the code table is a test of a side, so codes depend on four sides alone: what the code computes from them is
-- compared with the table for all of them by one computed test.
use mathlib.Core.Bool.{Bool, true, false, cond, ◌&&◌, and-false}
use mathlib.Core.List.{List, [], ◌∷◌}
use mathlib.Core.Path.{◌≡◌, refl, sym, ap, ap₂, subst, subst⁻¹, ◌∙◌}
use Prim.Native.Nat.{ℕ, suc, ◌+◌, ◌*◌, ◌-◌, ◌≤◌, ◌<◌}
use native.Mathlib.Decide.{dec_lt}
use native.Mathlib.Omega.{arith}
use mir.Val.{bool_byte}
use lib.Dec.{eqb, leb, ltb}
use borrow.Author.Tests.{lt-ltb, le-ltb, eq-eqb, ne_eqb, le-leb, lt-leb, eqb-true, leb-true}
use Rattle.relations.specs.Sets.{digit}
use Rattle.relations.specs.Axis.{CODES, IsCode, lines, first_from, code}
use Rattle.relations.specs.Steps.{side_of}
use Rattle.relations.proofs.Tests.{all_below, all_pairs, pair-at, and_left, and_right}

pub data Side (a b : ℕ) : ℕ → Type 0 where
  below : a < b → Side a b 2
  at : a ≡ b → Side a b 1
  above : b < a → Side a b 0

pub side-below : (a b : ℕ) → a < b → side_of a b ≡ 2
unfolding side_of
side-below a b h = simp (le-leb a b (omega arith), lt-ltb a b h)

pub side-at : (a b : ℕ) → a ≡ b → side_of a b ≡ 1
unfolding side_of
side-at a b h = simp (le-leb a b (omega arith), le-ltb a b (omega arith))

pub side-above : (a b : ℕ) → b < a → side_of a b ≡ 0
unfolding side_of
side-above a b h = simp (lt-leb a b h, le-ltb a b (omega arith))

pub sided : (a b : ℕ) → Side a b (side_of a b)
sided a b = go (dec_lt a b) (dec_lt b a)
  where
    go : Dec (a < b) → Dec (b < a) → Side a b (side_of a b)
    go (yes p) e = rw (side-below a b p) (below p)
    go (no n) (yes p) = rw (side-above a b p) (above p)
    go (no n) (no m) = rw (side-at a b (omega arith)) (at (omega arith))

pub side-is : {a b s : ℕ} → Side a b s → side_of a b ≡ s
side-is {a} {b} (below h) = side-below a b h
side-is {a} {b} (at h) = side-at a b h
side-is {a} {b} (above h) = side-above a b h

pub side-lt : (a b : ℕ) → side_of a b < 3
side-lt a b = go (sided a b)
  where
    go : {s : ℕ} → Side a b s → s < 3
    go (below h) = omega arith
    go (at h) = omega arith
    go (above h) = omega arith

-- as the source makes a side
byte-digit : (b : Bool) → bool_byte b ≡ digit b
byte-digit true = refl
byte-digit false = refl

pub side-bytes : (a b : ℕ) → bool_byte (leb a b) + bool_byte (ltb a b) ≡ side_of a b
unfolding side_of
side-bytes a b = ap₂ ◌+◌ (byte-digit (leb a b)) (byte-digit (ltb a b))

-- what the table asks of a side
abbrev is_below : ℕ → Bool
is_below s = ltb 1 s

abbrev is_at : ℕ → Bool
is_at s = eqb s 1

abbrev is_above : ℕ → Bool
is_above s = ltb s 1

test_below : {a b s : ℕ} → Side a b s → ltb a b ≡ is_below s
test_below {a} {b} (below h) = lt-ltb a b h
test_below {a} {b} (at h) = le-ltb a b (omega arith)
test_below {a} {b} (above h) = le-ltb a b (omega arith)

test_at : {a b s : ℕ} → Side a b s → eqb a b ≡ is_at s
test_at {a} {b} (below h) = ne_eqb a b (omega arith)
test_at {a} {b} (at h) = eq-eqb a b h
test_at {a} {b} (above h) = ne_eqb a b (omega arith)

test-above : {a b s : ℕ} → Side a b s → ltb b a ≡ is_above s
test-above {a} {b} (below h) = le-ltb b a (omega arith)
test-above {a} {b} (at h) = le-ltb b a (omega arith)
test-above {a} {b} (above h) = lt-ltb b a h

-- the table's lines by the sides of p1 to q1 and q2, and of p2 to q1 and q2
lines_by : ℕ → ℕ → ℕ → ℕ → List Bool
lines_by a b c d =
    is_above b
    ∷ is_at b
    ∷ (is_above d && (is_above a && is_below b))
    ∷ (is_above d && is_at a)
    ∷ (is_above d && is_below a)
    ∷ (is_at d && is_above a)
    ∷ (is_at d && is_at a)
    ∷ (is_at d && is_below a)
    ∷ ((is_above c && is_below d) && is_above a)
    ∷ ((is_above c && is_below d) && is_at a)
    ∷ ((is_above c && is_below d) && is_below a)
    ∷ is_at c
    ∷ is_below c
    ∷ []

lines-by : {p1 p2 q1 q2 a b c d : ℕ} → Side p1 q1 a → Side p1 q2 b → Side p2 q1 c → Side p2 q2 d → lines p1 p2 q1 q2 ≡ lines_by a b c d
unfolding lines lines_by
lines-by A B C D =
    rw (
      test_below A,
      test_at A,
      test-above A,
      test_below B,
      test_at B,
      test-above B,
      test_below C,
      test_at C,
      test-above C,
      test_below D,
      test_at D,
      test-above D,
    )

code_by : {p1 p2 q1 q2 a b c d : ℕ} → Side p1 q1 a → Side p1 q2 b → Side p2 q1 c → Side p2 q2 d → code p1 p2 q1 q2 ≡ first_from 1 (lines_by a b c d)
unfolding code
code_by A B C D = ap (first_from 1) (lines-by A B C D)

-- x lies to q1 and q2 as y lies to s1 and s2
pub record Alike (x q1 q2 y s1 s2 : ℕ) : Type 0 where
  pub a : ℕ
  pub b : ℕ
  pub to-q1 : Side x q1 a
  pub to-q2 : Side x q2 b
  pub to-s1 : Side y s1 a
  pub to-s2 : Side y s2 b

-- intervals whose ends lie alike have the same lines and the same code
module _ {p1 p2 q1 q2 r1 r2 s1 s2 : ℕ} (u : Alike p1 q1 q2 r1 s1 s2) (v : Alike p2 q1 q2 r2 s1 s2) where
  pub same_lines : lines p1 p2 q1 q2 ≡ lines r1 r2 s1 s2
  same_lines =
      lines-by u.to-q1 u.to-q2 v.to-q1 v.to-q2
      ∙ sym (lines-by u.to-s1 u.to-s2 v.to-s1 v.to-s2)

  pub same_code : code p1 p2 q1 q2 ≡ code r1 r2 s1 s2
  unfolding code
  same_code = ap (first_from 1) same_lines

quadruple : {a b s : ℕ} → Side a b s → Side (4 * a) (4 * b) s
quadruple (below h) = below (omega arith)
quadruple (at h) = at (omega arith)
quadruple (above h) = above (omega arith)

-- in quarter units a point lies as before
pub in-quarters : (x q1 q2 : ℕ) → Alike x q1 q2 (4 * x) (4 * q1) (4 * q2)
in-quarters x q1 q2 =
    record {
      a = side_of x q1;
      b = side_of x q2;
      to-q1 = sided x q1;
      to-q2 = sided x q2;
      to-s1 = quadruple (sided x q1);
      to-s2 = quadruple (sided x q2);
    }

-- ---- the code as the source computes it

by_sides : ℕ → ℕ → ℕ → ℕ → ℕ
by_sides a b c d = cond (ltb b 2) (1 + b) (cond (is_below d && ltb 0 c) (11 + c) (3 + 3 * d + a))

right : ℕ → ℕ → ℕ → ℕ → Bool
right a b c d =
    let n = first_from 1 (lines_by a b c d) in
    eqb n (by_sides a b c d) && (leb 1 n && leb n CODES)

right_at : ℕ → ℕ → Bool
right_at a b = all_pairs (right a b) 3 3

test : all_pairs right_at 3 3 ≡ true
unfolding right_at right by_sides lines_by all_pairs all_below
test = refl

module _ (p1 p2 q1 q2 : ℕ) where
  first : ℕ
  first = first_from 1 (lines_by (side_of p1 q1) (side_of p1 q2) (side_of p2 q1) (side_of p2 q2))

  code-first : code p1 p2 q1 q2 ≡ first
  unfolding first
  code-first = code_by (sided p1 q1) (sided p1 q2) (sided p2 q1) (sided p2 q2)

  here : right (side_of p1 q1) (side_of p1 q2) (side_of p2 q1) (side_of p2 q2) ≡ true
  unfolding right_at
  here =
      pair-at (right (side_of p1 q1) (side_of p1 q2)) 3 3 (side_of p2 q1) (side_of p2 q2)
      (pair-at right_at 3 3 (side_of p1 q1) (side_of p1 q2) test (side-lt p1 q1) (side-lt p1 q2))
      (side-lt p2 q1) (side-lt p2 q2)

  by-sides : code p1 p2 q1 q2 ≡ by_sides (side_of p1 q1) (side_of p1 q2) (side_of p2 q1) (side_of p2 q2)
  unfolding right first
  by-sides = code-first ∙ eqb-true _ _ (and_left _ _ here)

  -- the code of any numbers is one of the thirteen
  pub is_code : IsCode (code p1 p2 q1 q2)
  unfolding right first
  is_code =
      let r = and_right (eqb first (by_sides (side_of p1 q1) (side_of p1 q2) (side_of p2 q1) (side_of p2 q2))) (leb 1 first && leb first CODES) here in
      rw code-first (record {
        low = leb-true 1 first (and_left (leb 1 first) (leb first CODES) r);
        high = leb-true first CODES (and_right (leb 1 first) (leb first CODES) r);
      })

  -- the three ways of the source
  pub code-above : q2 ≤ p1 → 1 + side_of p1 q2 ≡ code p1 p2 q1 q2
  unfolding by_sides
  code-above h = sym (by-sides ∙ simp (lt-ltb (side_of p1 q2) 2 (go (sided p1 q2))))
    where
      go : {s : ℕ} → Side p1 q2 s → s < 2
      go (below l) = omega arith
      go (at l) = omega arith
      go (above l) = omega arith

  pub code_below : q1 < q2 → p1 < q2 → p2 ≤ q1 → 11 + side_of p2 q1 ≡ code p1 p2 q1 q2
  unfolding by_sides
  code_below q h l = sym (by-sides ∙ simp (side-below p1 q2 h, side-below p2 q2 (omega arith), lt-ltb 0 (side_of p2 q1) (go (sided p2 q1))))
    where
      go : {s : ℕ} → Side p2 q1 s → 0 < s
      go (below m) = omega arith
      go (at m) = omega arith
      go (above m) = omega arith

  pub code-over : p1 < q2 → q1 < p2 → 3 + 3 * side_of p2 q2 + side_of p1 q1 ≡ code p1 p2 q1 q2
  unfolding by_sides
  code-over h k = sym (by-sides ∙ simp (side-below p1 q2 h, side-above p2 q1 k, and-false))

-- for a caller of `axis_code`
pub coded : (c p1 p2 q1 q2 : ℕ) → c ≡ code p1 p2 q1 q2 → IsCode c
coded c p1 p2 q1 q2 e = subst⁻¹ IsCode e (is_code p1 p2 q1 q2)

pub code-suc : (c : ℕ) → IsCode c → suc (c - 1) ≡ c
code-suc c i = omega arith

-- what holds of each suc h below 13 holds of each code
pub of_code : (G : ℕ → Type 0) → ((h : ℕ) → h < CODES → G (suc h)) → (c : ℕ) → IsCode c → G c
of_code G f c i = subst G (code-suc c i) (f (c - 1) (omega arith))
