-- The admitted pieces of a leaf, marked one entry after the other.
use Prim.Native.Nat.{ℕ, ◌<◌}
use mathlib.Core.Path.{◌≡◌, refl, sym, ap, subst, ◌∙◌}
use mathlib.Core.Bool.{Bool, true, false, cond}
use mathlib.Core.List.{List, [], ◌∷◌, ◌++◌}
use Rattle.pages.specs.declared.Rect.{Rect}
use Rattle.pages.specs.declared.Entry.{Entry}
use Rattle.pages.specs.Sizes.{PIECES}
use Rattle.pages.specs.Lists.{concat_map, Every}
use Rattle.pages.specs.Layout.{page, table_in}
use Rattle.pages.specs.Rectangles.{Small}
use Rattle.query.specs.Steps.{SoundPage, admitted_r, hits_on}
use Rattle.query.specs.Marks.{with_mark, marked}
use Rattle.query.proofs.Edges.{piece-entries}
use Rattle.query.proofs.Walking.{hits-leaf}

-- small rectangles and piece numbers
abbrev pub LeafEntries : List Entry → Type 0
LeafEntries es = Every (λ e. Small e.rect × (e.r < PIECES)) es

-- what the entries left will mark makes the whole
pub record Marking (admit : Rect → Bool) (w : List ℕ) (p : ℕ) (m₀ m : List ℕ) (es : List Entry) : Type 0 where
  pub marks : marked m (concat_map (admitted_r admit) es) ≡ marked m₀ (hits_on admit (table_in w) p)
  pub each : LeafEntries es

module _ (admit : Rect → Bool) (w : List ℕ) (p : ℕ) where
  pub marking-all : (m : List ℕ) (es : List Entry) → SoundPage w p 0 → es ≡ (page (table_in w) p).entries → Marking admit w p m m es
  marking-all m es s e = record {
    marks = ap (marked m) (ap (concat_map (admitted_r admit)) e ∙ sym (hits-leaf admit (table_in w) p s.level));
    each = subst LeafEntries (sym e) (piece-entries w p 0 s refl);
  }

  module _ (m₀ m : List ℕ) (es : List Entry) (i : Marking admit w p m₀ m es) where
    pub marking-none : es ≡ [] → m ≡ marked m₀ (hits_on admit (table_in w) p)
    unfolding marked
    marking-none e = ap (λ xs. marked m (concat_map (admitted_r admit) xs)) (sym e) ∙ i.marks

    module _ (e : Entry) (rest : List Entry) (s : es ≡ e ∷ rest) where
      pub marking-first : Small e.rect × (e.r < PIECES)
      marking-first = (subst LeafEntries s i.each).0

      pub marking-step : (m' : List ℕ) (hit : Bool) → hit ≡ admit e.rect → m' ≡ cond hit (with_mark m e.r) m → Marking admit w p m₀ m' rest
      unfolding marked
      marking-step m' hit y q = record {
        marks =
            ap (λ x. marked x (concat_map (admitted_r admit) rest)) q
            ∙ (go hit ∙ ap (λ x. marked m (cond x (e.r ∷ []) [] ++ concat_map (admitted_r admit) rest)) y
            ∙ ap (λ x. marked m (concat_map (admitted_r admit) x)) (sym s) ∙ i.marks);
        each = (subst LeafEntries s i.each).1;
      }
        where
          go : (b : Bool) → marked (cond b (with_mark m e.r) m) (concat_map (admitted_r admit) rest) ≡ marked m (cond b (e.r ∷ []) [] ++ concat_map (admitted_r admit) rest)
          go true = refl
          go false = refl
