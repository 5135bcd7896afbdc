-- The 341 pages suffice, and so does level 4.
use Prim.Native.Nat.{ℕ, zero, suc, ◌+◌, ◌-◌, ◌*◌, ◌≤◌, ◌<◌}
use native.Mathlib.Omega.{arith}
use native.Mathlib.Decide.{ℕ_discrete, dec_lt}
use mathlib.Core.Path.{◌≡◌, refl, sym, ap, ◌∙◌}
use mathlib.Core.Logic.{◌≢◌}
use mathlib.Core.Bool.{Bool, true, false, cond}
use mathlib.Core.List.{List, [], ◌∷◌}
use lib.ListN.{length}
use lib.Dec.{eqb}
use borrow.Author.Tests.{eq-eqb, ne_eqb}
use Rattle.pages.specs.declared.Entry.{Entry}
use Rattle.pages.specs.Sizes.{PIECES, PAGES}
use Rattle.pages.specs.Lists.{one, sum, sum_below, Every}
use Rattle.pages.specs.Layout.{Page, Table, no_page, page}
use Rattle.pages.specs.Sound.{leaf, child_entries, piece_entries, is, stored, pieces, fewest}
use Rattle.pages.proofs.Lists.{at_every, every_map, sum_same, sum-length, sum-below}
use Rattle.pages.proofs.Below.{below-same, below-le, below-add, below-const, below-times, below-swap, below_one, sum-places, below-is, sum-nothing, below_at}
use Rattle.pages.proofs.Facts.{Limited, Facts, relimit}
use Rattle.pages.proofs.Entries.{is-not, above-children}

-- entries counted by their r, where all are below n
numbers-sum : (n : ℕ) (es : List Entry) → Every (λ e. e.r < n) es → sum_below n (λ c. sum (is c) es) ≡ length es
numbers-sum n es h =
    sum-below is n es ∙ (sum_same _ (λ e. 1) es (every_map (λ e. e.r < n) _ (λ e l. below-is n e.r l) es h) ∙ sum-length es)

-- the piece numbers counted one by one, where all are below n
pub stored-sum : (t : Table) (n : ℕ) → ((p : ℕ) → p < length t.pages → Every (λ e. e.r < n) (piece_entries (page t p))) → sum_below n (stored t) ≡ pieces t
stored-sum t n g =
    sum-below (λ c p. sum (is c) (piece_entries p)) n t.pages
    ∙ sum_same (λ p. sum_below n (λ c. sum (is c) (piece_entries p))) (λ p. length (piece_entries p)) t.pages
    (at_every (λ p. sum_below n (λ c. sum (is c) (piece_entries p)) ≡ length (piece_entries p)) t.pages no_page
    (λ p l. numbers-sum n (piece_entries (page t p)) (g p l)))

-- the entries of the pages at a level
abbrev held_at : ℕ → Page → ℕ
held_at i p = cond (eqb p.level i) (length p.entries) 0

abbrev held : Table → ℕ → ℕ
held t i = sum (held_at i) t.pages

-- the pages at a level, without the root
abbrev pub other : Table → ℕ → ℕ → ℕ
other t i q = cond (eqb q t.root) 0 (one (eqb (page t q).level i))

abbrev pub others : Table → ℕ → ℕ
others t i = sum_below (length t.pages) (other t i)

sum-children : (p : Page) (q i : ℕ) → p.level ≡ suc i → sum (is q) (child_entries p) ≡ sum (is q) p.entries
sum-children p q i e = ap (sum (is q)) (above-children p i e)

-- whatever the limits m on the pages and H on the levels
module _ (t : Table) {m H : ℕ} (s : Limited t m H) where
  stray : (p q : ℕ) → p < length t.pages → (page t p).level ≢ suc (page t q).level → sum (is q) (child_entries (page t p)) ≡ 0
  stray p q l n = sum-nothing (is q) (child_entries (page t p))
      (every_map (λ e. (page t p).level ≡ suc (page t e.r).level) (λ e. is q e ≡ 0)
      (λ e h. is-not q e (λ r. n (h ∙ ap (λ x. suc (page t x).level) r))) (child_entries (page t p)) (s.lower p l))

  term : (i p q : ℕ) → p < length t.pages
      → cond (eqb (page t p).level (suc i)) (sum (is q) (page t p).entries) 0 ≡ cond (eqb (page t q).level i) (sum (is q) (child_entries (page t p))) 0
  term i p q l = go (ℕ_discrete (page t p).level (suc i)) (ℕ_discrete (page t q).level i)
    where
      go : Dec ((page t p).level ≡ suc i) → Dec ((page t q).level ≡ i)
          → cond (eqb (page t p).level (suc i)) (sum (is q) (page t p).entries) 0 ≡ cond (eqb (page t q).level i) (sum (is q) (child_entries (page t p))) 0
      go (yes a) (yes b) = rw (eq-eqb _ _ a, eq-eqb _ _ b) (sym (sum-children (page t p) q i a))
      go (yes a) (no b) = rw (eq-eqb _ _ a, ne_eqb _ _ b) (sym (sum-children (page t p) q i a) ∙ stray p q l (omega arith))
      go (no a) (yes b) = rw (ne_eqb _ _ a, eq-eqb _ _ b) (sym (stray p q l (omega arith)))
      go (no a) (no b) = rw (ne_eqb _ _ a, ne_eqb _ _ b)

  sum-out : (b : Bool) (f : Page → ℕ) (ps : List Page) → sum (λ p. cond b (f p) 0) ps ≡ cond b (sum f ps) 0
  sum-out true f ps = refl
  sum-out false f [] = refl
  sum-out false f (p ∷ ps) = omega (arith, sum-out false f ps)

  cond-cond : (a b : Bool) → cond a (cond b 0 1) 0 ≡ cond b 0 (one a)
  cond-cond true true = refl
  cond-cond true false = refl
  cond-cond false true = refl
  cond-cond false false = refl

  -- the entries of level i + 1 that name q
  pub named-from : (i q : ℕ) → q < length t.pages → sum (λ p. cond (eqb p.level (suc i)) (sum (is q) p.entries) 0) t.pages ≡ other t i q
  named-from i q l =
      sum_same _ (λ p. cond (eqb (page t q).level i) (sum (is q) (child_entries p)) 0) t.pages
      (at_every (λ p. cond (eqb p.level (suc i)) (sum (is q) p.entries) 0 ≡ cond (eqb (page t q).level i) (sum (is q) (child_entries p)) 0) t.pages no_page (λ p k. term i p q k))
      ∙ (sum-out (eqb (page t q).level i) (λ p. sum (is q) (child_entries p)) t.pages
      ∙ (ap (λ n. cond (eqb (page t q).level i) n 0) (s.once q l) ∙ cond-cond (eqb (page t q).level i) (eqb q t.root)))

  -- the page's entries, counted by what they name
  named_by : (i p : ℕ) → p < length t.pages
      → sum_below (length t.pages) (λ q. cond (eqb (page t p).level (suc i)) (sum (is q) (page t p).entries) 0) ≡ held_at (suc i) (page t p)
  named_by i p l = go (ℕ_discrete (page t p).level (suc i))
    where
      go : Dec ((page t p).level ≡ suc i) → sum_below (length t.pages) (λ q. cond (eqb (page t p).level (suc i)) (sum (is q) (page t p).entries) 0) ≡ held_at (suc i) (page t p)
      go (yes a) =
          let ins : Every (λ e. e.r < length t.pages) (page t p).entries = rw (above-children (page t p) i a) at (s.inside p l) in
          rw (eq-eqb _ _ a) (numbers-sum (length t.pages) (page t p).entries ins)
      go (no a) = rw (ne_eqb _ _ a) (omega (arith, below-const (length t.pages) 0))

  -- the entries of a level are the pages of the level below, without the root
  others-held : (i : ℕ) → others t i ≡ held t (suc i)
  others-held i =
      below-same (length t.pages) (other t i) (λ q. sum (λ p. cond (eqb p.level (suc i)) (sum (is q) p.entries) 0) t.pages) (λ q l. sym (named-from i q l))
      ∙ (sum-below (λ q p. cond (eqb p.level (suc i)) (sum (is q) p.entries) 0) (length t.pages) t.pages
      ∙ sum_same _ (held_at (suc i)) t.pages
      (at_every (λ p. sum_below (length t.pages) (λ q. cond (eqb p.level (suc i)) (sum (is q) p.entries) 0) ≡ held_at (suc i) p) t.pages no_page (named_by i)))

  abbrev least : ℕ → ℕ → ℕ
  least i q = cond (eqb (page t q).level i) (cond (leaf (page t q)) 0 2) 0

  low : (r l : Bool) (c n : ℕ) → cond r c 4 ≤ n → 4 * cond r 0 (one l) + cond r (cond l c 0) 0 ≤ cond l n 0
  low true true c n h = omega arith
  low true false c n h = omega arith
  low false true c n h = omega arith
  low false false c n h = omega arith

  others-least : (i : ℕ) → 4 * others t i + least i t.root ≤ held t i
  unfolding fewest
  others-least i =
      let k : ℕ = length t.pages in
      let a = below-le k (λ q. 4 * other t i q + cond (eqb q t.root) (least i q) 0) (λ q. held_at i (page t q))
      (λ q l. low (eqb q t.root) (eqb (page t q).level i) (cond (leaf (page t q)) 0 2) (length (page t q).entries) (s.enough q l)) in
      let b = below-add k (λ q. 4 * other t i q) (λ q. cond (eqb q t.root) (least i q) 0) in
      let c = below-times k 4 (other t i) in
      let d = below_one k t.root (least i) s.top in
      let e = sum-places (held_at i) t.pages no_page in
      omega (arith, a, b, c, d, e)

  high : (r l : Bool) (n : ℕ) → n ≤ 8 → cond l n 0 ≤ 8 * cond r 0 (one l) + cond r (cond l 8 0) 0
  high true true n h = omega arith
  high true false n h = omega arith
  high false true n h = omega arith
  high false false n h = omega arith

  others-most : (i : ℕ) → held t i ≤ 8 * others t i + cond (eqb (page t t.root).level i) 8 0
  others-most i =
      let k : ℕ = length t.pages in
      let g : ℕ → ℕ = λ q. cond (eqb (page t q).level i) 8 0 in
      let a = below-le k (λ q. held_at i (page t q)) (λ q. 8 * other t i q + cond (eqb q t.root) (g q) 0)
      (λ q l. high (eqb q t.root) (eqb (page t q).level i) (length (page t q).entries) (s.eight q l)) in
      let b = below-add k (λ q. 8 * other t i q) (λ q. cond (eqb q t.root) (g q) 0) in
      let c = below-times k 8 (other t i) in
      let d = below_one k t.root g s.top in
      let e = sum-places (held_at i) t.pages no_page in
      omega (arith, a, b, c, d, e)

  -- no page is above level H
  none_over : held t (suc H) ≡ 0
  none_over = sum-nothing (held_at (suc H)) t.pages
      (at_every (λ p. held_at (suc H) p ≡ 0) t.pages no_page (λ p l. rw (ne_eqb (page t p).level (suc H) (omega (arith, s.levels p l)))))

  -- so nothing but the root is at its level or above
  pub none_above : (d i : ℕ) → i + d ≡ H → (page t t.root).level ≤ i → others t i ≡ 0
  none_above zero i e hi =
      let z : i ≡ H = omega arith in
      rw z (omega (arith, others-held H, none_over))
  none_above (suc d) i e hi =
      omega (
        arith,
        others-held i,
        others-most (suc i),
        none_above d (suc i) (omega arith) (omega arith),
        ap {B = ℕ} (λ b. cond b 8 0) (ne_eqb (page t t.root).level (suc i) (omega arith)),
      )

  pub highest : (q : ℕ) → q < length t.pages → (page t q).level ≤ (page t t.root).level
  highest q ql = go (dec_lt (page t t.root).level (page t q).level) (ℕ_discrete q t.root)
    where
      go : Dec ((page t t.root).level < (page t q).level) → Dec (q ≡ t.root) → (page t q).level ≤ (page t t.root).level
      go (no a) b = omega arith
      go (yes a) (yes b) = rw b (omega arith)
      go (yes a) (no b) =
          let i : ℕ = (page t q).level in
          let z : other t i q ≡ 1 = rw (ne_eqb q t.root b, eq-eqb i i refl) in
          absurd (omega (arith, z, below_at (length t.pages) (other t i) q ql, none_above (H - i) i (omega (arith, s.levels q ql)) (omega arith)))

  length-pieces : (p : Page) → length (piece_entries p) ≡ held_at 0 p
  length-pieces p = go (leaf p)
    where
      go : (b : Bool) → length (cond b p.entries []) ≡ cond b (length p.entries) 0
      go true = refl
      go false = refl

  -- at most 1,024 pieces
  pieces-held : pieces t ≡ held t 0
  pieces-held = sum_same _ (held_at 0) t.pages (at_every (λ p. length (piece_entries p) ≡ held_at 0 p) t.pages no_page (λ p l. length-pieces (page t p)))

  few-below : (n : ℕ) → ((c : ℕ) → c < n → stored t c ≤ 1) → ((p : ℕ) → p < length t.pages → Every (λ e. e.r < n) (piece_entries (page t p))) → pieces t ≤ n
  few-below n f g = omega (arith, below-le n (stored t) (λ c. 1) f, below-const n 1, stored-sum t n g)

  pieces-few : pieces t ≤ PIECES
  pieces-few = few-below PIECES s.distinct s.numbers

  -- each entry leads to four or more, one level lower
  four-times : (i : ℕ) → 4 * held t (suc i) ≤ held t i
  four-times i = omega (arith, others-held i, others-least i)

  -- from a root above level 0 down, each level has two entries or more
  two-held : (d i : ℕ) → i + d ≡ (page t t.root).level → 0 < (page t t.root).level → 2 ≤ held t i
  two-held zero i e h =
      let a : least i t.root ≡ 2 = rw (eq-eqb (page t t.root).level i (omega arith), ne_eqb (page t t.root).level 0 (omega arith)) in
      omega (arith, a, others-least i)
  two-held (suc d) i e h = omega (arith, two-held d (suc i) (omega arith) h, four-times i)

  -- two entries at level 5 are 2,048 pieces
  root-four : (page t t.root).level ≤ 4
  root-four = go (dec_lt 4 (page t t.root).level)
    where
      go : Dec (4 < (page t t.root).level) → (page t t.root).level ≤ 4
      go (no a) = omega arith
      go (yes a) =
          let two : 2 ≤ held t 5 = two-held ((page t t.root).level - 5) 5 (omega arith) (omega arith) in
          absurd (omega (arith, two, four-times 0, four-times 1, four-times 2, four-times 3, four-times 4, pieces-held, pieces-few))

module _ (t : Table) {m : ℕ} (s : Limited t m 4) where
  -- every page but the root is at one of the levels
  others-all : length t.pages ≡ sum_below 5 (others t) + 1
  others-all =
      let k : ℕ = length t.pages in
      let a = below-swap 5 k (λ i q. other t i q) in
      let b = below-add k (λ q. sum_below 5 (λ i. other t i q)) (λ q. cond (eqb q t.root) 1 0) in
      let c = below_one k t.root (λ q. 1) s.top in
      let d = below-same k (λ q. sum_below 5 (λ i. other t i q) + cond (eqb q t.root) 1 0) (λ q. 1)
      (λ q l. each (eqb q t.root) (page t q).level (below-is 5 (page t q).level (omega (arith, s.levels q l)))) in
      let e = below-const k 1 in
      omega (arith, a, b, c, d, e)
    where
      each : (r : Bool) (l : ℕ) → sum_below 5 (λ i. one (eqb l i)) ≡ 1 → sum_below 5 (λ i. cond r 0 (one (eqb l i))) + cond r 1 0 ≡ 1
      each true l h = refl
      each false l h = omega (arith, h)

  -- 256, 64, 16 and 4 pages at most, and the root
  few-pages : length t.pages ≤ PAGES
  few-pages =
      let pages : length t.pages ≡ held t 1 + held t 2 + held t 3 + held t 4 + 1 =
      omega (arith, others-all, none_over t s, others-held t s 0, others-held t s 1, others-held t s 2, others-held t s 3, others-held t s 4) in
      omega (arith, pages, four-times t s 0, four-times t s 1, four-times t s 2, four-times t s 3, pieces-held t s, pieces-few t s)

-- the PAGES pages, and the level 4, suffice
pub suffice : (t : Table) {m H : ℕ} → Limited t m H → (length t.pages ≤ PAGES) × ((p : ℕ) → p < length t.pages → (page t p).level ≤ 4)
suffice t {m} {H} s =
    let four : (p : ℕ) → p < length t.pages → (page t p).level ≤ 4 = λ p l. omega (arith, highest t s p l, root-four t s) in
    (few-pages t (relimit t m H m 4 s.most four s), four)

-- what placing shows of the table that it leaves: the root is one level higher at most
abbrev pub Shape : Table → Type 0
Shape t = Limited t (length t.pages) 5

pub shape-facts : (t : Table) → Shape t → Facts t
shape-facts t s = relimit t _ _ PAGES 4 (suffice t s).0 (suffice t s).1 s

-- a sound table counts at most 1,024 pieces
pub count-few : (t : Table) → Facts t → t.count ≤ PIECES
count-few t F = omega (arith, F.counted, pieces-few t F)
