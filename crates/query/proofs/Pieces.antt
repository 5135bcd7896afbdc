-- A number is listed exactly when a leaf's entry holds it with an admitted rectangle; there is one such entry at most.
use Prim.Native.Nat.{ℕ, ◌≤◌, ◌<◌}
use native.Mathlib.Omega.{arith}
use native.Mathlib.Decide.{ℕ_discrete}
use mathlib.Core.Path.{◌≡◌, refl, sym, ap, ap₂, ◌∙◌}
use mathlib.Core.Logic.{◌↔◌}
use mathlib.Core.Bool.{Bool, true, false, cond}
use mathlib.Core.List.{List, []}
use lib.ListN.{length, get_or}
use lib.Dec.{ltb, eqb, ltb→lt, eqb→eq}
use borrow.Author.Tests.{eqb-true, lt-ltb, eq-eqb}
use Rattle.pages.specs.declared.Rect.{Rect}
use Rattle.pages.specs.declared.Entry.{Entry}
use Rattle.pages.specs.Sizes.{PIECES}
use Rattle.pages.specs.Lists.{one, sum}
use Rattle.pages.specs.Layout.{Page, Table, no_entry, no_page, page}
use Rattle.pages.specs.Sound.{leaf, piece_entries, is}
use Rattle.pages.proofs.Lists.{every-at, sum-at, sum-apart}
use Rattle.pages.proofs.Facts.{Facts}
use Rattle.pages.proofs.Entries.{leaf-pieces}
use Rattle.pages.proofs.Below.{T-one}
use Rattle.query.specs.Listing.{rising, admitted_as, listing}
use Rattle.pages.specs.Pieces.{PieceAt}
use Rattle.query.specs.Demand2.{In}
use Rattle.query.proofs.Members.{in-times, times-in, sum-some, rising-below, rising-order, rising-times}

leaf-level : (g : Page) (i : ℕ) → i < length (piece_entries g) → g.level ≡ 0
leaf-level g i l = go (leaf g) refl l
  where
    go : (b : Bool) → leaf g ≡ b → i < length (cond b g.entries []) → g.level ≡ 0
    go true e k = eqb-true g.level 0 e
    go false e k = absurd (omega arith)

weighs : (b : Bool) (n : ℕ) → 1 ≤ cond b n 0 → (b ≡ true) × (1 ≤ n)
weighs true n h = (refl, h)
weighs false n h = absurd (omega arith)

module _ (t : Table) (admit : Rect → Bool) (c : ℕ) where
  piece-found : 1 ≤ admitted_as admit t c → (r : Rect) × PieceAt t c r × (admit r ≡ true)
  piece-found h =
      let a = sum-some (λ g. sum (λ e. cond (admit e.rect) (is c e) 0) (piece_entries g)) t.pages no_page h in
      let p : ℕ = a.0 in
      let b = sum-some (λ e. cond (admit e.rect) (is c e) 0) (piece_entries (page t p)) no_entry a.2 in
      let i : ℕ = b.0 in
      let lv : (page t p).level ≡ 0 = leaf-level (page t p) i b.1 in
      let es : piece_entries (page t p) ≡ (page t p).entries = leaf-pieces (page t p) lv in
      let w = weighs (admit (get_or (piece_entries (page t p)) i no_entry).rect) (is c (get_or (piece_entries (page t p)) i no_entry)) b.2 in
      let at : get_or (piece_entries (page t p)) i no_entry ≡ get_or (page t p).entries i no_entry = ap (λ x. get_or x i no_entry) es in (
        (get_or (page t p).entries i no_entry).rect,
        record {
          leaf = p;
          place = i;
          inside = a.1;
          level = lv;
          entry = omega (arith, b.1, ap length es);
          number = ap (λ x. x.r) (sym at) ∙ eqb→eq (get_or (piece_entries (page t p)) i no_entry).r c (T-one (eqb (get_or (piece_entries (page t p)) i no_entry).r c) w.1);
          rectangle = refl;
        },
        ap (λ x. admit x.rect) (sym at) ∙ w.0,
      )

  piece-weighs : (r : Rect) → PieceAt t c r → admit r ≡ true → 1 ≤ admitted_as admit t c
  piece-weighs r m y =
      let es : piece_entries (page t m.leaf) ≡ (page t m.leaf).entries = leaf-pieces (page t m.leaf) m.level in
      let e : Entry = get_or (page t m.leaf).entries m.place no_entry in
      let w : cond (admit e.rect) (is c e) 0 ≡ 1 = rw (m.rectangle, y) (ap one (eq-eqb e.r c m.number)) in
      omega (
        arith,
        w,
        sum-at (λ x. cond (admit x.rect) (is c x) 0) (page t m.leaf).entries m.place no_entry m.entry,
        ap (sum (λ x. cond (admit x.rect) (is c x) 0)) es,
        sum-at (λ g. sum (λ x. cond (admit x.rect) (is c x) 0) (piece_entries g)) t.pages m.leaf no_page m.inside,
      )

-- where a sum is at most 1, one place has a weight
one_place : {A : Type 0} (f : A → ℕ) (xs : List A) (d : A) → sum f xs ≤ 1 → (i j : ℕ) → i < length xs → j < length xs → 1 ≤ f (get_or xs i d) → 1 ≤ f (get_or xs j d) → i ≡ j
one_place f xs d h i j k l a b = go (ℕ_discrete i j)
  where
    go : Dec (i ≡ j) → i ≡ j
    go (yes e) = e
    go (no n) = absurd (omega (arith, h, a, b, sum-apart f xs i j d n k l))

-- the numbers of a sound table are small and distinct, so a number has one rectangle
module _ (t : Table) (F : Facts t) (c : ℕ) where
  piece-small : (r : Rect) → PieceAt t c r → c < PIECES
  piece-small r m =
      let k = every-at (λ e. e.r < PIECES) (page t m.leaf).entries no_entry (rw (leaf-pieces (page t m.leaf) m.level) at (F.numbers m.leaf m.inside)) m.place m.entry in
      omega (arith, k, m.number)

  -- how often a leaf's entries have the number
  abbrev held : Page → ℕ
  held g = sum (is c) (piece_entries g)

  module _ (r : Rect) (m : PieceAt t c r) where
    -- the entries of its leaf
    abbrev beside : List Entry
    beside = (page t m.leaf).entries

    in-leaf : held (page t m.leaf) ≡ sum (is c) beside
    in-leaf = ap (sum (is c)) (leaf-pieces (page t m.leaf) m.level)

    is-it : is c (get_or beside m.place no_entry) ≡ 1
    is-it = ap one (eq-eqb (get_or beside m.place no_entry).r c m.number)

    leaf-holds : 1 ≤ held (page t m.leaf)
    leaf-holds = omega (arith, is-it, in-leaf, sum-at (is c) beside m.place no_entry m.entry)

    once-there : sum (is c) beside ≤ 1
    once-there = omega (arith, in-leaf, sum-at held t.pages m.leaf no_page m.inside, F.distinct c (piece-small r m))

  pub one_rect : (r s : Rect) → PieceAt t c r → PieceAt t c s → r ≡ s
  one_rect r s m n = sym m.rectangle ∙ (ap₂ (λ p i. (get_or (page t p).entries i no_entry).rect) same_leaf same_place ∙ n.rectangle)
    where
      same_leaf : m.leaf ≡ n.leaf
      same_leaf = one_place held t.pages no_page (F.distinct c (piece-small r m)) m.leaf n.leaf m.inside n.inside (leaf-holds r m) (leaf-holds s n)

      same_place : m.place ≡ n.place
      same_place = go m.leaf m.place same_leaf m.entry (is-it r m)
        where
          go : (p i : ℕ) → p ≡ n.leaf → i < length (page t p).entries → is c (get_or (page t p).entries i no_entry) ≡ 1 → i ≡ n.place
          go p i e l h =
              let w : is c (get_or (beside s n) i no_entry) ≡ 1 = rw e at h in
              one_place (is c) (beside s n) no_entry (once-there s n) i n.place (rw e at l) n.entry (omega (arith, w)) (omega (arith, is-it s n))

module _ (t : Table) (F : Facts t) (admit : Rect → Bool) where
  listed_below : (n c : ℕ) → In c (rising n (λ x. ltb 0 (admitted_as admit t x))) → 1 ≤ admitted_as admit t c
  listed_below n c m =
      let p : ℕ → Bool = λ x. ltb 0 (admitted_as admit t x) in
      let l : get_or (rising n p) m.place 0 < n = every-at (λ x. x < n) (rising n p) 0 (rising-below p n) m.place m.inside in
      let k : c < n = omega (arith, l, m.holds) in
      ltb→lt 0 (admitted_as admit t c) (T-one (p c) (omega (arith, rising-times p n c k, in-times c (rising n p) m)))

  below-listed : (n c : ℕ) → c < n → 1 ≤ admitted_as admit t c → In c (rising n (λ x. ltb 0 (admitted_as admit t x)))
  below-listed n c l h =
      let p : ℕ → Bool = λ x. ltb 0 (admitted_as admit t x) in
      times-in c (rising n p) (omega (arith, rising-times p n c l, ap one (lt-ltb 0 (admitted_as admit t c) h)))

  pub listed-exactly : (c : ℕ) → In c (listing admit t) ↔ ((r : Rect) × PieceAt t c r × (admit r ≡ true))
  unfolding listing
  listed-exactly c =
      (λ m. piece-found t admit c (listed_below PIECES c m), λ m. below-listed PIECES c (piece-small t F c m.0 m.1) (piece-weighs t admit c m.0 m.1 m.2))

  pub listed-rising : (i j : ℕ) → i < j → j < length (listing admit t) → get_or (listing admit t) i 0 < get_or (listing admit t) j 0
  unfolding listing
  listed-rising i j l k = rising-order (λ c. ltb 0 (admitted_as admit t c)) PIECES i j l k
