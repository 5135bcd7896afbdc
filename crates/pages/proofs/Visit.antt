-- A walk that visits every page under the root comes to each page below k one time.
use Prim.Native.Nat.{ℕ, zero, suc, ◌+◌, ◌*◌, ◌≤◌, ◌<◌}
use native.Mathlib.Omega.{arith}
use native.Mathlib.Decide.{ℕ_discrete, dec_lt}
use mathlib.Core.Path.{◌≡◌, refl, ap, ◌∙◌}
use mathlib.Core.Bool.{Bool, true, false, cond}
use lib.ListN.{length}
use lib.Dec.{leb, eqb}
use borrow.Author.Tests.{le-leb, lt-leb, eq-eqb, ne_eqb}
use Rattle.pages.specs.Lists.{one, sum, sum_below, Every}
use Rattle.pages.specs.Layout.{Table, no_page, page}
use Rattle.pages.specs.Sound.{child_entries, is, parents}
use Rattle.pages.specs.Under.{seen}
use Rattle.pages.proofs.Lists.{every_map, every-both, sum_same, sum-add, sum-below}
use Rattle.pages.proofs.Below.{below-same, below-add, below_one, sum-places, eqb-sym, cond-add, below-chosen}
use Rattle.pages.proofs.Facts.{Facts}
use Rattle.pages.proofs.Counting.{highest}
use Rattle.pages.proofs.Entries.{leaf-children, above-children}
use Rattle.pages.proofs.Walk.{sum-times, at_level, children, root-level}

up_to : (x l n : ℕ) → cond (eqb x (suc l)) n 0 + cond (leb x l) n 0 ≡ cond (leb x (suc l)) n 0
up_to x l n = go (dec_lt x (suc l)) (ℕ_discrete x (suc l))
  where
    go : Dec (x < suc l) → Dec (x ≡ suc l) → cond (eqb x (suc l)) n 0 + cond (leb x l) n 0 ≡ cond (leb x (suc l)) n 0
    go (yes a) b = rw (ne_eqb x (suc l) (omega arith), le-leb x l (omega arith), le-leb x (suc l) (omega arith)) (omega arith)
    go (no a) (yes b) = rw (eq-eqb x (suc l) b, lt-leb x l (omega arith), le-leb x (suc l) (omega arith)) (omega arith)
    go (no a) (no b) = rw (ne_eqb x (suc l) b, lt-leb x l (omega arith), lt-leb x (suc l) (omega arith)) refl

zero_is : (x n : ℕ) → cond (eqb x 0) n 0 ≡ cond (leb x 0) n 0
zero_is x n = go (ℕ_discrete x 0)
  where
    go : Dec (x ≡ 0) → cond (eqb x 0) n 0 ≡ cond (leb x 0) n 0
    go (yes a) = rw (eq-eqb x 0 a, le-leb x 0 (omega arith))
    go (no a) = rw (ne_eqb x 0 a, lt-leb x 0 (omega arith))

module _ (t : Table) (F : Facts t) where
  abbrev k : ℕ
  k = length t.pages

  abbrev h : ℕ
  h = (page t t.root).level

  levels-seen : (g : ℕ → ℕ) (l : ℕ) → l ≤ h → at_level t F l (seen g t.pages l) ≡ sum_below k (λ q. cond (leb (page t q).level l) (g q) 0)
  unfolding seen
  levels-seen g zero lh = below-same k _ _ (λ q ql. zero_is (page t q).level (g q))
  levels-seen g (suc l) lh =
      let G : ℕ → ℕ = seen g t.pages l in
      let a = below-same k (λ q. cond (eqb (page t q).level (suc l)) (g q + sum (λ e. G e.r) (page t q).entries) 0)
      (λ q. cond (eqb (page t q).level (suc l)) (g q) 0 + cond (eqb (page t q).level (suc l)) (sum (λ e. G e.r) (page t q).entries) 0)
      (λ q ql. cond-add (eqb (page t q).level (suc l)) (g q) (sum (λ e. G e.r) (page t q).entries)) in
      let b = below-add k (λ q. cond (eqb (page t q).level (suc l)) (g q) 0) (λ q. cond (eqb (page t q).level (suc l)) (sum (λ e. G e.r) (page t q).entries) 0) in
      let c = children t F l lh G in
      let r = levels-seen g l (omega arith) in
      let u = below-add k (λ q. cond (eqb (page t q).level (suc l)) (g q) 0) (λ q. cond (leb (page t q).level l) (g q) 0) in
      let v = below-same k (λ q. cond (eqb (page t q).level (suc l)) (g q) 0 + cond (leb (page t q).level l) (g q) 0) (λ q. cond (leb (page t q).level (suc l)) (g q) 0)
      (λ q ql. up_to (page t q).level l (g q)) in
      omega (arith, a, b, c, r, u, v)

  -- a walk from the root comes to each page one time
  pub seen-root : (g : ℕ → ℕ) → seen g t.pages h t.root ≡ sum_below k g
  seen-root g =
      root-level t F (seen g t.pages h)
      ∙ (levels-seen g h (omega arith)
      ∙ below-same k _ g (λ q ql. ap (λ b. cond b (g q) 0) (le-leb (page t q).level h (highest t F q ql))))

  pub seen-once : (q : ℕ) → q < k → seen (λ x. one (eqb x q)) t.pages h t.root ≡ 1
  seen-once q ql = seen-root (λ x. one (eqb x q)) ∙ below_one k q (λ x. 1) ql

-- the other way round: of a table with the bullets on levels and on r, before it is known that each page is named one time
module _ (t : Table) (top : t.root < length t.pages)
    (lower : (p : ℕ) → p < length t.pages → Every (λ e. (page t p).level ≡ suc (page t e.r).level) (child_entries (page t p)))
    (inside : (p : ℕ) → p < length t.pages → Every (λ e. e.r < length t.pages) (child_entries (page t p))) where
  -- the entries of a page above the leaves lead to pages one level lower
  leads : (l p : ℕ) → p < length t.pages → (page t p).level ≡ suc l → Every (λ e. (e.r < length t.pages) × ((page t e.r).level ≡ l)) (page t p).entries
  leads l p pl lv = rw (← above-children (page t p) l lv)
      (every-both (λ e. e.r < length t.pages) (λ e. (page t p).level ≡ suc (page t e.r).level) (λ e. (e.r < length t.pages) × ((page t e.r).level ≡ l))
      (λ e a b. (a, omega arith)) (child_entries (page t p)) (inside p pl) (lower p pl))

  -- the weight that the pages named by p have
  abbrev onward : (ℕ → ℕ) → ℕ → ℕ
  onward g p = sum (λ e. g e.r) (child_entries (page t p))

  -- a page that is come to is the first one, or is named by one that is come to
  seen-named : (g : ℕ → ℕ) (l p : ℕ) → p < length t.pages → (page t p).level ≡ l → seen g t.pages l p ≡ g p + seen (onward g) t.pages l p
  unfolding seen
  seen-named g zero p pl lv = omega (arith, ap (sum (λ e. g e.r)) (leaf-children (page t p) lv))
  seen-named g (suc l) p pl lv =
      let a = sum_same (λ e. seen g t.pages l e.r) (λ e. g e.r + seen (onward g) t.pages l e.r) (page t p).entries
      (every_map (λ e. (e.r < length t.pages) × ((page t e.r).level ≡ l)) _ (λ e z. seen-named g l e.r z.0 z.1) (page t p).entries (leads l p pl lv)) in
      let b = sum-add (λ e. g e.r) (λ e. seen (onward g) t.pages l e.r) (page t p).entries in
      omega (arith, a, b, ap (sum (λ e. g e.r)) (above-children (page t p) l lv))

  -- any weight, by how often each page is come to
  seen-each : (G : ℕ → ℕ) (l p : ℕ) → p < length t.pages → (page t p).level ≡ l
      → seen G t.pages l p ≡ sum_below (length t.pages) (λ q. seen (λ x. one (eqb x q)) t.pages l p * G q)
  unfolding seen
  seen-each G zero p pl lv = below-chosen (length t.pages) G p pl
  seen-each G (suc l) p pl lv =
      let n : ℕ = length t.pages in
      let S : ℕ → ℕ → ℕ = λ q x. seen (λ y. one (eqb y q)) t.pages l x in
      let a = sum_same (λ e. seen G t.pages l e.r) (λ e. sum_below n (λ q. S q e.r * G q)) (page t p).entries
      (every_map (λ e. (e.r < length t.pages) × ((page t e.r).level ≡ l)) _ (λ e z. seen-each G l e.r z.0 z.1) (page t p).entries (leads l p pl lv)) in
      let b = sum-below (λ q e. S q e.r * G q) n (page t p).entries in
      let c = below-same n (λ q. sum (λ e. S q e.r * G q) (page t p).entries) (λ q. sum (λ e. S q e.r) (page t p).entries * G q) (λ q ql. sum-times (λ e. S q e.r) (G q) (page t p).entries) in
      let d = below-add n (λ q. one (eqb p q) * G q) (λ q. sum (λ e. S q e.r) (page t p).entries * G q) in
      let f = below-same n (λ q. one (eqb p q) * G q + sum (λ e. S q e.r) (page t p).entries * G q) (λ q. (one (eqb p q) + sum (λ e. S q e.r) (page t p).entries) * G q) (λ q ql. omega arith) in
      omega (arith, a, b, c, d, f, below-chosen n G p pl)

  -- each page come to one time: a weight over them is its sum
  pub seen_all : (G : ℕ → ℕ) (l p : ℕ) → p < length t.pages → (page t p).level ≡ l
      → ((q : ℕ) → q < length t.pages → seen (λ x. one (eqb x q)) t.pages l p ≡ 1) → seen G t.pages l p ≡ sum_below (length t.pages) G
  seen_all G l p pl lv once =
      seen-each G l p pl lv
      ∙ below-same (length t.pages) (λ q. seen (λ x. one (eqb x q)) t.pages l p * G q) G (λ q ql. ap (λ m. m * G q) (once q ql) ∙ one-times (G q))
    where
      one-times : (m : ℕ) → 1 * m ≡ m
      one-times m = omega arith

  -- so each page but the root is named one time, the root never
  pub named-once : ((q : ℕ) → q < length t.pages → seen (λ x. one (eqb x q)) t.pages (page t t.root).level t.root ≡ 1)
      → (q : ℕ) → q < length t.pages → parents t q ≡ cond (eqb q t.root) 0 1
  named-once once q ql =
      let h : ℕ = (page t t.root).level in
      let g : ℕ → ℕ = λ x. one (eqb x q) in
      let a = seen-named g h t.root top refl in
      let b = seen_all (onward g) h t.root top refl once in
      let d = sum-places (λ p. sum (is q) (child_entries p)) t.pages no_page in
      let r : parents t q + one (eqb t.root q) ≡ 1 = omega (arith, a, b, d, once q ql) in
      turn (eqb q t.root) (rw (eqb-sym t.root q) at r)
    where
      turn : (b : Bool) → parents t q + one b ≡ 1 → parents t q ≡ cond b 0 1
      turn true r = omega arith
      turn false r = omega arith
