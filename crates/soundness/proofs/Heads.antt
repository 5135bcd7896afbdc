-- The tests of a page's level, size and tail.
use Prim.Native.Nat.{ℕ, ◌+◌, ◌-◌, ◌*◌, ◌≤◌, ◌<◌}
use native.Mathlib.Omega.{arith}
use mathlib.Core.Path.{◌≡◌, sym, ap, subst, ◌∙◌}
use mathlib.Core.Bool.{Bool, true, false, not}
use mathlib.Core.List.{List}
use lib.ListN.{length, get_or, set, take, drop, length-drop}
use lib.Seq.{take_all}
use lib.Dec.{T, leb, eqb}
use borrow.Author.Tests.{leb-true, le-leb, eqb-true, eq-eqb}
use Rattle.std.specs.Prelude.{◌↔◌, IsTrue}
use Rattle.std.proofs.lemmas.Grind.{common_steps}
use Rattle.pages.specs.Sizes.{PAGE_HEAD, FANOUT, ENTRY_WORDS, PAGE_WORDS, PAGES, TABLE_WORDS}
use Rattle.pages.specs.Lists.{one}
use Rattle.pages.specs.Layout.{page, page_words, table_in}
use Rattle.pages.specs.Readers.{entries_in}
use Rattle.pages.specs.Sound.{zeros}
use Rattle.pages.proofs.Lists.{true-T, T_true, both, and}
use Rattle.soundness.specs.Steps.{shaped, Head, Tested}
use Rattle.soundness.proofs.Words.{level-word, size_word, entries-words}

-- what the tests of its words say of a page
shaped_head : (w : List ℕ) (l m p : ℕ) → TABLE_WORDS ≤ length w → p < length (table_in w).pages → length (table_in w).pages ≤ PAGES → IsTrue (shaped (page_words w p) l m) ↔ Head w l m p
shaped_head w l m p long inside most = (made, tests)
  where
    n : ℕ
    n = get_or (page_words w p) 1 0

    tail : ℕ → Type 0
    tail k = T (zeros (drop (PAGE_HEAD + ENTRY_WORDS * k) (page_words w p)))

    level-is : (page (table_in w) p).level ≡ get_or (page_words w p) 0 0
    level-is = level-word w long p inside most

    size-is : length (page (table_in w) p).entries ≡ n
    size-is = size_word w long p inside most

    made : IsTrue (shaped (page_words w p) l m) → Head w l m p
    made t =
        let a = both (eqb (get_or (page_words w p) 0 0) l) _ (true-T _ t) in
        let b = both (leb m n) _ a.1 in
        let d = both (leb n FANOUT) _ b.1 in record {
          inside = inside;
          level = level-is ∙ eqb-true _ l (T_true _ a.0);
          enough = omega (arith, size-is, leb-true m n (T_true _ b.0));
          eight = omega (arith, size-is, leb-true n FANOUT (T_true _ d.0));
          blank = subst tail (sym size-is) d.1;
        }

    tests : Head w l m p → IsTrue (shaped (page_words w p) l m)
    tests h = T_true _ (and (eqb (get_or (page_words w p) 0 0) l) _ (true-T _ (eq-eqb _ l (sym level-is ∙ h.level)))
        (and (leb m n) _ (true-T _ (le-leb m n (omega (arith, size-is, h.enough))))
        (and (leb n FANOUT) _ (true-T _ (le-leb n FANOUT (omega (arith, size-is, h.eight)))) (subst tail size-is h.blank))))

-- of a page with its first mark these tests decide
pub head_marked : (w : List ℕ) (l m p : ℕ) {pg : List ℕ} {h h' : List Bool} {b : Bool} → TABLE_WORDS ≤ length w → p < length (table_in w).pages → length (table_in w).pages ≤ PAGES
    → pg ≡ page_words w p → b ≡ shaped pg l m → length h ≡ PAGES → true ≡ not (get_or h p false) → h' ≡ set h p true → Tested PAGES (Head w l m p) (λ q. one (eqb p q)) h b h'
head_marked w l m p long inside most is e n fresh marked =
    let s : IsTrue (shaped (page_words w p) l m) ↔ Head w l m p = shaped_head w l m p long inside most in
    grind (arith, common_steps)

-- the words of a page with this level and size are tested from the last entry on
pub shaped_tail : (pg : List ℕ) (l m : ℕ) → length pg ≡ PAGE_WORDS → get_or pg 0 0 ≡ l → m ≤ get_or pg 1 0 → get_or pg 1 0 ≤ FANOUT
    → {b : Bool} → b ≡ zeros (take (PAGE_WORDS - (PAGE_HEAD + ENTRY_WORDS * get_or pg 1 0)) (drop (PAGE_HEAD + ENTRY_WORDS * get_or pg 1 0) pg)) → b ≡ shaped pg l m
shaped_tail pg l m long level enough eight z =
    let a : ℕ = PAGE_HEAD + ENTRY_WORDS * get_or pg 1 0 in
    z ∙ (ap zeros (take_all (PAGE_WORDS - a) (drop a pg) (omega (arith, length-drop a pg)))
    ∙ rw (eq-eqb (get_or pg 0 0) l level, le-leb m (get_or pg 1 0) enough, le-leb (get_or pg 1 0) FANOUT eight))

-- its entries by its words
pub entries_are : (w : List ℕ) (p : ℕ) {pg : List ℕ} → TABLE_WORDS ≤ length w → p < length (table_in w).pages → length (table_in w).pages ≤ PAGES → pg ≡ page_words w p
    → entries_in pg (get_or pg 1 0) ≡ (page (table_in w) p).entries
entries_are w p long inside most is = ap (λ x. entries_in x (get_or x 1 0)) is ∙ sym (entries-words w long p inside most)
