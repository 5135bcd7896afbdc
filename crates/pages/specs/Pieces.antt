-- Pieces and rectangles, and valid ones; the pieces of a table.
use Rattle.std.specs.Prelude.{ℕ, ◌≡◌, ◌≤◌, ◌<◌, true, false, length, get_or, Result, Ok, Err}
use Rattle.std.specs.Bool.{MatchBool}
use Rattle.refusals.specs.declared.Refusal.{Refusal}
use Rattle.refusals.specs.declared.Refusal.TheVariants.{RectangleNotValid, NumberTooLarge}
use Rattle.pages.specs.declared.Rect.{Rect}
use Rattle.pages.specs.declared.piece.Piece.{Piece}
use Rattle.pages.specs.declared.piece.ValidRect.{ValidRect}
use Rattle.pages.specs.declared.piece.ValidPiece.{ValidPiece}
use Rattle.pages.specs.Sizes.{PIECES}
use Rattle.pages.specs.Rectangles.{valid}
use Rattle.pages.specs.Layout.{Table, no_entry, page}

-- the rectangle itself where it is valid, or why it is refused
abbrev pub IsValidRectOf : Rect → Result ValidRect Refusal → Type 0
IsValidRectOf r (Ok v) = (valid r ≡ true) × (v.rect ≡ r)
IsValidRectOf r (Err refusal) = (valid r ≡ false) × (refusal ≡ RectangleNotValid)

-- the piece itself where its rectangle is valid and its number is below 1,024, or the first that is refused
abbrev pub IsValidPieceOf : Piece → Result ValidPiece Refusal → Type 0
IsValidPieceOf p (Ok v) = (valid p.rect ≡ true) × (p.number < PIECES) × (v.number ≡ p.number) × (v.rect.rect ≡ p.rect)
IsValidPieceOf p (Err refusal) = MatchBool (valid p.rect) ((PIECES ≤ p.number) × (refusal ≡ NumberTooLarge)) (refusal ≡ RectangleNotValid)

abbrev pub piece_of : ℕ → Rect → Piece
piece_of n r = record { number = n; rect = r }

-- c is a piece of the table and has the rectangle r
pub record PieceAt (t : Table) (c : ℕ) (r : Rect) : Type 0 where
  pub leaf : ℕ
  pub place : ℕ
  pub inside : leaf < length t.pages
  pub level : (page t leaf).level ≡ 0
  pub entry : place < length (page t leaf).entries
  pub number : (get_or (page t leaf).entries place no_entry).r ≡ c
  pub rectangle : (get_or (page t leaf).entries place no_entry).rect ≡ r
