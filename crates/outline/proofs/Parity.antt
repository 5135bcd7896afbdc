-- Two counts of the same parity: the two tests of each edge and the marks of its ends make an even number, and each point ends two edges.
use Prim.Native.Nat.{ℕ, suc, ◌+◌, ◌*◌, ◌%◌, ◌≤◌, ◌<◌, min, max}
use mathlib.Core.Path.{◌≡◌, refl, sym, ap, ◌∙◌}
use mathlib.Core.Bool.{Bool, false, ◌&&◌, cond, and-false, false≢true}
use mathlib.Core.List.{List, [], ◌∷◌}
use native.Mathlib.Decide.{ℕ_discrete, dec_le}
use native.Mathlib.Nat.{le_of_lt, add-zero, zero-add, zero-mul, mul-le-mul_left, le_of_mul-le-mul_left}
use native.Mathlib.Omega.{arith}
use lib.Dec.{leb, ltb, eqb}
use borrow.Author.Tests.{le-leb, lt-leb, lt-ltb, le-ltb, eq-eqb, ne_eqb}
use Rattle.outline.specs.declared.Point.{Point}
use Rattle.outline.specs.declared.Edge.{Edge}
use Rattle.outline.specs.Outline.{edge, path, edges}
use Rattle.outline.specs.Place.{gone, ahead, parts, x_there, meets_ray, counts, is_on_edge, on_any, crossings, odd}
use Rattle.outline.specs.Meaning.{LiesOn}
use Rattle.outline.specs.Claims.{counts_west, counts_upper, how_many}
use Rattle.outline.proofs.Tests.{leb-same, or-false-both}
use Rattle.outline.proofs.Heights.{parted}
use Rattle.outline.proofs.Means.{on-iff, has_parts, level-lies}

-- a test's number
abbrev one : Bool → ℕ
one b = cond b 1 0

-- with a test and a mark for which that holds
module _ (p : Point) (test : Edge → Bool) (mark : Point → Bool)
    (each : (v w : Point) → is_on_edge (edge v w) p ≡ false → (one (counts (edge v w) p) + one (test (edge v w)) + one (mark v) + one (mark w)) % 2 ≡ 0) where
  along : (v : Point) (ps : List Point) (w : Point) → on_any (path v ps w) p ≡ false
      → (crossings (path v ps w) p + how_many test (path v ps w) + one (mark v) + one (mark w)) % 2 ≡ 0
  unfolding path on_any crossings how_many
  along v [] w off = let only = each v w (or-false-both (is_on_edge (edge v w) p) false off).0 in omega arith
  along v (r ∷ ps) w off =
      let off-both = or-false-both (is_on_edge (edge v r) p) (on_any (path r ps w) p) off in
      let first = each v r off-both.0 in
      let rest = along r ps w off-both.1 in
      omega arith

  same : (ps : List Point) → on_any (edges ps) p ≡ false → odd (how_many test (edges ps)) ≡ odd (crossings (edges ps) p)
  unfolding edges how_many crossings
  same [] off = refl
  same (v ∷ ps) off =
      let even = along v ps v off in
      let alike : how_many test (path v ps v) % 2 ≡ crossings (path v ps v) p % 2 = omega arith in
      ap (λ (n : ℕ). eqb n 1) alike

-- an edge from the height b to the height d at the height y
module _ (b d y : ℕ) where
  abbrev low : ℕ
  low = min b d

  abbrev high : ℕ
  high = max b d

  -- whether it counts by a test, with its lower end and with its upper one
  abbrev lower : Bool → ℕ
  lower m = one (leb low y && (ltb y high && m))

  abbrev upper : Bool → ℕ
  upper m = one (ltb low y && (leb y high && m))

  -- one of two tests holds where it has the height
  lower-two : (m n : Bool) → (low ≤ y → y < high → one m + one n ≡ 1) → (lower m + lower n + one (leb b y) + one (leb d y)) % 2 ≡ 0
  lower-two m n once = go (dec_le b y) (dec_le d y)
    where
      across : low ≤ y → y < high → one (leb b y) + one (leb d y) ≡ 1 → (lower m + lower n + one (leb b y) + one (leb d y)) % 2 ≡ 0
      across l h e = rw (le-leb low y l, lt-ltb y high h) (omega (arith, once l h, e))

      go : Dec (b ≤ y) → Dec (d ≤ y) → (lower m + lower n + one (leb b y) + one (leb d y)) % 2 ≡ 0
      go (yes k) (yes l) = rw (le-ltb y high (omega (arith, k, l)), and-false, le-leb b y k, le-leb d y l)
      go (yes k) (no l) = across (omega (arith, k)) (omega (arith, l)) (rw (le-leb b y k, lt-leb d y (omega (arith, l))))
      go (no k) (yes l) = across (omega (arith, l)) (omega (arith, k)) (rw (lt-leb b y (omega (arith, k)), le-leb d y l))
      go (no k) (no l) = rw (lt-leb low y (omega (arith, k, l)), lt-leb b y (omega (arith, k)), lt-leb d y (omega (arith, l)))

  -- at the height of just one end it counts with that end alone
  at-end : (m : Bool) → low < high → ((low ≡ y → ⊥) → high ≡ y) → lower m + upper m ≡ one m
  at-end m n other = go (ℕ_discrete low y)
    where
      go : Dec (low ≡ y) → lower m + upper m ≡ one m
      go (yes k) = rw (le-leb low y (omega (arith, k)), lt-ltb y high (omega (arith, k, n)), le-ltb low y (omega (arith, k))) (omega arith)
      go (no k) = let h = other k in rw (le-ltb y high (omega (arith, h)), and-false, lt-ltb low y (omega (arith, n, h)), le-leb y high (omega (arith, h))) (omega arith)

  -- a test that is v at the first end and w at the second; on a level edge, the ends are alike
  two_ends : (m v w : Bool) → (b ≡ y → (d ≡ y → ⊥) → m ≡ v) → (d ≡ y → (b ≡ y → ⊥) → m ≡ w) → (b ≡ y → d ≡ y → v ≡ w)
      → (lower m + upper m + one (eqb b y && v) + one (eqb d y && w)) % 2 ≡ 0
  two_ends m v w first second level = go (ℕ_discrete b y) (ℕ_discrete d y)
    where
      go : Dec (b ≡ y) → Dec (d ≡ y) → (lower m + upper m + one (eqb b y && v) + one (eqb d y && w)) % 2 ≡ 0
      go (yes k) (yes l) = rw (le-ltb y high (omega (arith, k, l)), and-false, le-ltb low y (omega (arith, k, l)), eq-eqb b y k, eq-eqb d y l, level k l) (omega arith)
      go (yes k) (no l) = let e = at-end m (omega (arith, k, l)) (λ n. omega (arith, k, n)) in rw (eq-eqb b y k, ne_eqb d y l, ← first k l) (omega (arith, e))
      go (no k) (yes l) = let e = at-end m (omega (arith, k, l)) (λ n. omega (arith, l, n)) in rw (ne_eqb b y k, eq-eqb d y l, ← second l k) (omega (arith, e))
      go (no k) (no l) =
          let south : leb low y ≡ ltb low y = leb-same low y (suc low) y (λ n. omega (arith, k, l, n), λ n. omega (arith, n)) in
          let north : leb y high ≡ ltb y high = leb-same y high (suc y) high (λ n. omega (arith, k, l, n), λ n. omega (arith, n)) in
          rw (south, north, ne_eqb b y k, ne_eqb d y l) (omega arith)

-- different numbers: one is less
one_side : (m n : ℕ) → (m ≡ n → ⊥) → one (leb m n) + one (leb n m) ≡ 1
one_side m n off = go (dec_le m n)
  where
    go : Dec (m ≤ n) → one (leb m n) + one (leb n m) ≡ 1
    go (yes l) = rw (le-leb m n l, lt-leb n m (omega (arith, l, off)))
    go (no l) = rw (lt-leb m n (omega (arith, l)), le-leb n m (omega (arith, l)))

scaled : (k m n : ℕ) → 0 < k → leb (k * m) (k * n) ≡ leb m n
scaled k m n some = leb-same (k * m) (k * n) m n (λ l. le_of_mul-le-mul_left l some, λ l. mul-le-mul_left k l)

module _ (e : Edge) (p : Point) where
  -- where an edge has the height of one end, it is that end
  begins-there : e.b ≡ p.y → (e.d ≡ p.y → ⊥) → meets_ray e p ≡ leb p.x e.a
  unfolding meets_ray
  begins-there k n = let none : gone e p.y ≡ 0 = omega arith in simp (none, zero-mul, add-zero) (scaled (ahead e p.y) p.x e.a (omega (arith, n)))

  ends_there : e.d ≡ p.y → (e.b ≡ p.y → ⊥) → meets_ray e p ≡ leb p.x e.c
  unfolding meets_ray
  ends_there k n = let none : ahead e p.y ≡ 0 = omega arith in simp (none, zero-mul, zero-add) (scaled (gone e p.y) p.x e.c (omega (arith, n)))

  module _ (off : is_on_edge e p ≡ false) where
    not_on : LiesOn e p → ⊥
    not_on o = false≢true (sym off ∙ (on-iff e p).1 o)

    east-or-west : min e.b e.d ≤ p.y → p.y < max e.b e.d
        → one (leb (parts e p.y * p.x) (x_there e p.y)) + one (leb (x_there e p.y) (parts e p.y * p.x)) ≡ 1
    east-or-west l h =
        let height = (parted e p (record { south = l; north = le_of_lt h })).height in
        one_side _ _ (λ there. not_on (record { mean = record { s = ahead e p.y; t = gone e p.y; some = has_parts e p l h }; x = there; y = height }))

    -- a level edge is west of p or east of it, with both its ends
    level-off : e.b ≡ p.y → e.d ≡ p.y → leb p.x e.a ≡ leb p.x e.c
    level-off k l = go (dec_le (min e.a e.c) p.x)
      where
        go : Dec (min e.a e.c ≤ p.x) → leb p.x e.a ≡ leb p.x e.c
        go (yes m) =
            let beyond : p.x ≤ max e.a e.c → ⊥ = λ h. not_on (level-lies e p k l m h) in
            lt-leb p.x e.a (omega (arith, beyond)) ∙ sym (lt-leb p.x e.c (omega (arith, beyond)))
        go (no n) = le-leb p.x e.a (omega (arith, n)) ∙ sym (le-leb p.x e.c (omega (arith, n)))

module _ (ps : List Point) (p : Point) where
  pub same-west : on_any (edges ps) p ≡ false → odd (how_many (λ e. counts_west e p) (edges ps)) ≡ odd (crossings (edges ps) p)
  unfolding counts counts_west meets_ray
  same-west = same p (λ e. counts_west e p) (λ v. leb v.y p.y) (λ v w off. lower-two v.y w.y p.y _ _ (east-or-west (edge v w) p off)) ps

  pub same-upper : on_any (edges ps) p ≡ false → odd (how_many (λ e. counts_upper e p) (edges ps)) ≡ odd (crossings (edges ps) p)
  unfolding counts counts_upper
  same-upper =
      same p (λ e. counts_upper e p) (λ v. eqb v.y p.y && leb p.x v.x)
      (λ v w off. let e = edge v w in two_ends v.y w.y p.y _ _ _ (begins-there e p) (ends_there e p) (level-off e p off)) ps
