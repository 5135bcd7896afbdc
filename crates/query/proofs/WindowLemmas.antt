-- What the window decides, by the ways through a test.
use mathlib.Core.Path.{◌≡◌, refl, sym, ◌∙◌}
use mathlib.Core.Bool.{Bool, true, false, not, cond}
use Rattle.pages.specs.declared.Rect.{Rect}
use Rattle.pages.specs.Rectangles.{Small}
use Rattle.query.specs.Window.{beyond, decided, Decides}

module _ (w : Rect) (whole : Bool) (test : Rect → Bool) (d : Decides w whole test) (p : Rect) (s : Small p) where
  -- the window and `whole` decide as the test does
  pub decides : decided w whole test p ≡ test p
  unfolding decided
  decides = go (beyond w p) refl whole refl
    where
      go : (b : Bool) → beyond w p ≡ b → (h : Bool) → whole ≡ h → cond b false (cond h true (test p)) ≡ test p
      go true e h z = sym (d.fails p s e)
      go false e true z = sym (d.passes z p e)
      go false e false z = refl

  pub beyond-fails : (b : Bool) → b ≡ beyond w p → b ≡ true → false ≡ test p
  beyond-fails b e h = sym (d.fails p s (sym e ∙ h))

  pub whole-decides : (b : Bool) → b ≡ beyond w p → whole ≡ true → not b ≡ test p
  whole-decides true e h = beyond-fails true e refl
  whole-decides false e h = sym (d.passes h p (sym e))
