-- From the computed test of soundness to facts, and back.
use Prim.Native.Nat.{ℕ, suc, ◌≤◌, ◌<◌}
use native.Mathlib.Omega.{arith}
use mathlib.Core.Path.{◌≡◌}
use mathlib.Core.Bool.{Bool, cond}
use mathlib.Core.List.{List, [], ◌∷◌, ◌++◌}
use lib.ListN.{length}
use lib.Dec.{T, leb, eqb, leb→le, ltb→lt, eqb→eq, le→leb, lt→ltb, eqb_refl}
use Rattle.pages.specs.declared.Rect.{Rect}
use Rattle.pages.specs.declared.Entry.{Entry}
use Rattle.pages.specs.Sizes.{PIECES, PAGES}
use Rattle.pages.specs.Lists.{all_of, all, Every}
use Rattle.pages.specs.Rectangles.{valid, same_rect, bounds}
use Rattle.pages.specs.Layout.{Page, Table, no_page, page}
use Rattle.pages.specs.Sound.{child_entries, piece_entries, every_child, every_piece, parents, stored, pieces}
use Rattle.pages.specs.Sound.{sound_root, sound_levels, sound_refs, fewest, sound_sizes, sound_bounds, sound_pieces, sound_table}
use Rattle.pages.specs.Claims.{sound_but}
use Rattle.pages.proofs.Lists.{holds, all-of, all-below, below_all, every, every→all, every-at, at_every}

-- what soundness says, with k as the most pages and h as the highest level
pub record Limited (t : Table) (k h : ℕ) : Type 0 where
  pub most : length t.pages ≤ k
  pub top : t.root < length t.pages
  pub levels : (p : ℕ) → p < length t.pages → (page t p).level ≤ h
  pub lower : (p : ℕ) → p < length t.pages → Every (λ e. (page t p).level ≡ suc (page t e.r).level) (child_entries (page t p))
  pub once : (q : ℕ) → q < length t.pages → parents t q ≡ cond (eqb q t.root) 0 1
  pub inside : (p : ℕ) → p < length t.pages → Every (λ e. e.r < length t.pages) (child_entries (page t p))
  pub enough : (p : ℕ) → p < length t.pages → fewest t p ≤ length (page t p).entries
  pub eight : (p : ℕ) → p < length t.pages → length (page t p).entries ≤ 8
  pub exact : (p : ℕ) → p < length t.pages → Every (λ e. e.rect ≡ bounds (page t e.r).entries) (child_entries (page t p))
  pub valids : (p : ℕ) → p < length t.pages → Every (λ e. T (valid e.rect)) (piece_entries (page t p))
  pub numbers : (p : ℕ) → p < length t.pages → Every (λ e. e.r < PIECES) (piece_entries (page t p))
  pub distinct : (c : ℕ) → c < PIECES → stored t c ≤ 1
  pub counted : t.count ≡ pieces t

abbrev pub Facts : Table → Type 0
Facts t = Limited t PAGES 4

-- the same with other limits
pub relimit : (t : Table) (k h m l : ℕ) → length t.pages ≤ m → ((p : ℕ) → p < length t.pages → (page t p).level ≤ l) → Limited t k h → Limited t m l
relimit t k h m l most levels F = record {
  most = most;
  top = F.top;
  levels = levels;
  lower = F.lower;
  once = F.once;
  inside = F.inside;
  enough = F.enough;
  eight = F.eight;
  exact = F.exact;
  valids = F.valids;
  numbers = F.numbers;
  distinct = F.distinct;
  counted = F.counted;
}

pub same-rect : (a b : Rect) → T (same_rect a b) → a ≡ b
unfolding same_rect
same-rect a b h =
    let (h1, (h2, (h3, (h4, _)))) = holds (eqb a.x1 b.x1 ∷ eqb a.y1 b.y1 ∷ eqb a.x2 b.x2 ∷ eqb a.y2 b.y2 ∷ []) h in
    λ i. record { x1 = eqb→eq a.x1 b.x1 h1 i; y1 = eqb→eq a.y1 b.y1 h2 i; x2 = eqb→eq a.x2 b.x2 h3 i; y2 = eqb→eq a.y2 b.y2 h4 i }

pub rect-same : (a : Rect) → T (same_rect a a)
unfolding same_rect
rect-same a = all-of (eqb a.x1 a.x1 ∷ eqb a.y1 a.y1 ∷ eqb a.x2 a.x2 ∷ eqb a.y2 a.y2 ∷ [])
    (eqb_refl a.x1, (eqb_refl a.y1, (eqb_refl a.x2, (eqb_refl a.y2, tt))))

-- each entry above the leaves
each-above : (t : Table) (q : Page → Entry → Bool) (P : Page → Entry → Type 0) → ((p : Page) (e : Entry) → T (q p e) → P p e)
    → T (every_child t q) → (p : ℕ) → p < length t.pages → Every (P (page t p)) (child_entries (page t p))
each-above t q P f h p l =
    every-at (λ pg. Every (P pg) (child_entries pg)) t.pages no_page
    (every (λ pg. Every (P pg) (child_entries pg)) (λ pg. all (q pg) (child_entries pg)) (λ pg k. every (P pg) (q pg) (f pg) (child_entries pg) k) t.pages h) p l

each-piece : (t : Table) (q : Entry → Bool) (P : Entry → Type 0) → ((e : Entry) → T (q e) → P e)
    → T (every_piece t q) → (p : ℕ) → p < length t.pages → Every P (piece_entries (page t p))
each-piece t q P f h p l =
    every-at (λ pg. Every P (piece_entries pg)) t.pages no_page
    (every (λ pg. Every P (piece_entries pg)) (λ pg. all q (piece_entries pg)) (λ pg k. every P q f (piece_entries pg) k) t.pages h) p l

abbrev tests : Table → List Bool
unfolding sound_root sound_levels sound_refs sound_sizes sound_bounds sound_pieces
tests t = sound_root t ++ (sound_levels t ++ (sound_refs t ++ (sound_sizes t ++ (sound_bounds t ++ sound_pieces t))))

-- of a table that is sound but for the limits, where it has them
pub limited : (t : Table) (k h : ℕ) → length t.pages ≤ k → ((p : ℕ) → p < length t.pages → (page t p).level ≤ h) → T (all_of (sound_but t)) → Limited t k h
unfolding sound_but
limited t k h most levels s =
    let (a, (b, (c1, (c2, (d1, (d2, (e1, (f1, (f2, (f3, (f4, _))))))))))) = holds (sound_but t) s in
    record {
      most = most;
      top = ltb→lt _ _ a;
      levels = levels;
      lower = each-above t _ (λ pg e. pg.level ≡ suc (page t e.r).level) (λ pg e k. eqb→eq _ _ k) b;
      once = λ q l. eqb→eq _ _ (all-below _ _ c1 q l);
      inside = each-above t _ (λ pg e. e.r < length t.pages) (λ pg e k. ltb→lt _ _ k) c2;
      enough = λ p l. leb→le _ _ (all-below _ _ d1 p l);
      eight = λ p l. leb→le _ _ (all-below _ _ d2 p l);
      exact = each-above t _ (λ pg e. e.rect ≡ bounds (page t e.r).entries) (λ pg e k. same-rect _ _ k) e1;
      valids = each-piece t _ (λ e. T (valid e.rect)) (λ e k. k) f1;
      numbers = each-piece t _ (λ e. e.r < PIECES) (λ e k. ltb→lt _ _ k) f2;
      distinct = λ x l. leb→le _ _ (all-below PIECES (λ c. leb (stored t c) 1) f3 x l);
      counted = eqb→eq _ _ f4;
    }

pub facts : (t : Table) → T (sound_table t) → Facts t
unfolding sound_table sound_but
facts t h =
    let (_, (a2, (a3, (b1, (b2, r))))) = holds (tests t) h in
    limited t PAGES 4 (leb→le _ _ a2) (λ p l. every-at (λ pg. pg.level ≤ 4) t.pages no_page (every _ (λ pg. leb pg.level 4) (λ pg k. leb→le _ _ k) t.pages b1) p l)
    (all-of (sound_but t) (a3, (b2, r)))

above-each : (t : Table) (q : Page → Entry → Bool) (P : Page → Entry → Type 0) → ((p : Page) (e : Entry) → P p e → T (q p e))
    → ((p : ℕ) → p < length t.pages → Every (P (page t p)) (child_entries (page t p))) → T (every_child t q)
above-each t q P f h =
    every→all (λ pg. Every (P pg) (child_entries pg)) (λ pg. all (q pg) (child_entries pg)) (λ pg k. every→all (P pg) (q pg) (f pg) (child_entries pg) k) t.pages
    (at_every (λ pg. Every (P pg) (child_entries pg)) t.pages no_page h)

piece-each : (t : Table) (q : Entry → Bool) (P : Entry → Type 0) → ((e : Entry) → P e → T (q e))
    → ((p : ℕ) → p < length t.pages → Every P (piece_entries (page t p))) → T (every_piece t q)
piece-each t q P f h =
    every→all (λ pg. Every P (piece_entries pg)) (λ pg. all q (piece_entries pg)) (λ pg k. every→all P q f (piece_entries pg) k) t.pages
    (at_every (λ pg. Every P (piece_entries pg)) t.pages no_page h)

eq→eqb : (m n : ℕ) → m ≡ n → T (eqb m n)
eq→eqb m n e = rw e (eqb_refl n)

eq→same : (a b : Rect) → a ≡ b → T (same_rect a b)
eq→same a b e = rw e (rect-same b)

pub sound-of : (t : Table) → Facts t → T (sound_table t)
unfolding sound_table
sound-of t f = all-of (tests t) (
  le→leb 1 (length t.pages) (omega (arith, f.top)),
  (
    le→leb _ _ f.most,
    (
      lt→ltb _ _ f.top,
      (
        every→all _ (λ pg. leb pg.level 4) (λ pg k. le→leb _ _ k) t.pages (at_every (λ pg. pg.level ≤ 4) t.pages no_page f.levels),
        (
          above-each t _ (λ pg e. pg.level ≡ suc (page t e.r).level) (λ pg e k. eq→eqb _ _ k) f.lower,
          (
            below_all _ _ (λ q l. eq→eqb _ _ (f.once q l)),
            (
              above-each t _ (λ pg e. e.r < length t.pages) (λ pg e k. lt→ltb _ _ k) f.inside,
              (
                below_all _ _ (λ p l. le→leb _ _ (f.enough p l)),
                (
                  below_all _ _ (λ p l. le→leb _ _ (f.eight p l)),
                  (
                    above-each t _ (λ pg e. e.rect ≡ bounds (page t e.r).entries) (λ pg e k. eq→same _ _ k) f.exact,
                    (
                      piece-each t _ (λ e. T (valid e.rect)) (λ e k. k) f.valids,
                      (
                        piece-each t _ (λ e. e.r < PIECES) (λ e k. lt→ltb _ _ k) f.numbers,
                        (
                          below_all PIECES (λ c. leb (stored t c) 1) (λ x l. le→leb _ _ (f.distinct x l)),
                          (eq→eqb _ _ f.counted, tt),
                        ),
                      ),
                    ),
                  ),
                ),
              ),
            ),
          ),
        ),
      ),
    ),
  ),
)
