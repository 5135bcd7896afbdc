-- The marks of the numbers that stand: none in the empty table, and one more after a call that is accepted.
use Prim.Native.Nat.{ℕ, ◌+◌, ◌<◌}
use native.Mathlib.Omega.{arith}
use native.Mathlib.Decide.{ℕ_discrete}
use mathlib.Core.Path.{◌≡◌, sym, ap, ◌∙◌}
use mathlib.Core.Bool.{Bool, true, false}
use mathlib.Core.List.{List}
use lib.ListN.{length, get_or, drop, set, replicate, get_or-replicate}
use lib.Seq.{get_or-set_same, get_or-set_other}
use lib.Dec.{T, eqb}
use borrow.Author.Tests.{eq-eqb, ne_eqb}
use Rattle.pages.specs.declared.Rect.{Rect}
use Rattle.pages.specs.Sizes.{PIECES, TABLE_WORDS}
use Rattle.pages.specs.Lists.{one}
use Rattle.pages.specs.Rectangles.{valid}
use Rattle.pages.specs.Layout.{Table, table_in}
use Rattle.pages.specs.Sound.{is, stored, sound}
use Rattle.pages.proofs.Facts.{Facts}
use Rattle.pages.proofs.Whole.{encode-in, sound-in}
use Rattle.placing.specs.Place.{place}
use Rattle.placing.specs.Calls.{placed_words}
use Rattle.placing.proofs.Placed.{place-sound, place-holds}
use Rattle.placing.proofs.Joined.{words_open}
use Rattle.history.specs.Book.{blank}
use Rattle.history.specs.Replay.{Marked}
use Rattle.history.proofs.Reached.{Reached, stored-none}

pub marked-none : (w : List ℕ) → Reached w (λ n. blank) → Marked w (replicate PIECES false)
marked-none w R c l = ap one (get_or-replicate PIECES c false false l) ∙ sym (stored-none w R c l)

-- the number n, which did not stand, is placed and marked
module _ (w : List ℕ) (n : ℕ) (r : Rect) (h : T (sound w)) (v : T (valid r)) (l : n < PIECES) (free : stored (table_in w) n ≡ 0) where
  stored-placed : (c : ℕ) → stored (table_in (placed_words w n r)) c ≡ one (eqb n c) + stored (table_in w) c
  stored-placed c =
      let t : Table = table_in w in
      let F : Facts t = sound-in w h in
      ap (λ x. stored x c) (ap table_in (words_open w n r) ∙ encode-in (place t n r) (drop TABLE_WORDS w) (place-sound t n r F v l free))
      ∙ place-holds t n r F v l free (is c)

  pub marked-placed : (u : List ℕ) (marks : List Bool) → u ≡ placed_words w n r → n < length marks → Marked w marks → Marked u (set marks n true)
  marked-placed u marks p k m c cl = go (ℕ_discrete c n) ∙ ap (λ x. stored (table_in x) c) (sym p)
    where
      go : Dec (c ≡ n) → one (get_or (set marks n true) c false) ≡ stored (table_in (placed_words w n r)) c
      go (yes e) =
          let a : get_or (set marks n true) c false ≡ true = rw e (get_or-set_same marks n true false k) in
          let b : one (eqb n c) ≡ 1 = rw (eq-eqb n c (sym e)) in
          let z : stored (table_in w) c ≡ 0 = rw e free in
          ap one a ∙ omega (arith, stored-placed c)
      go (no e) =
          let a : get_or (set marks n true) c false ≡ get_or marks c false = get_or-set_other marks n c true false e in
          let b : one (eqb n c) ≡ 0 = rw (ne_eqb n c (λ x. e (sym x))) in
          ap one a ∙ omega (arith, stored-placed c, m c cl)
