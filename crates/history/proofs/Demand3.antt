-- Demand 3 holds: specs/Demand3 has the statement. The second half follows from the first by the query "equal", with a standing
-- rectangle itself as the reference.
use Prim.Native.Nat.{ℕ, ◌≤◌, ◌<◌}
use mathlib.Core.Path.{◌≡◌, refl, sym, ap, ◌∙◌, subst}
use mathlib.Core.List.{List, Memᴰ}
use lib.ListN.{length}
use lib.Dec.{T}
use Rattle.pages.specs.declared.Rect.{Rect}
use Rattle.pages.specs.Sizes.{PIECES, TABLE_WORDS}
use Rattle.pages.specs.Rectangles.{valid}
use Rattle.history.specs.Book.{Slot, Call, blank, stands, book_after}
use Rattle.history.specs.History.{table_after}
use Rattle.history.specs.Demand3.{Asked, EqualListings, SameStanding, Demand3}
use Rattle.history.proofs.Book.{book-first, book-other, book-valid}
use Rattle.history.proofs.Reached.{Reached, reached-after}
use Rattle.history.proofs.Listed.{admitted_standing, standing-in, standing-same, out-hits, out-listing, query-lists}
use Rattle.history.proofs.Equal.{equal_query, equal-asked, equal-itself, equal-only}

-- a rectangle that stands after one list is found, by the query "equal", to stand after the other
found : (calls₁ calls₂ : List Call)
    → ((r : Rect) → T (valid r) → admitted_standing (book_after calls₁) equal_query r ≡ admitted_standing (book_after calls₂) equal_query r)
    → (n : ℕ) → n < PIECES → (r : Rect) → book_after calls₁ n ≡ stands r → book_after calls₂ n ≡ stands r
found calls₁ calls₂ same n l r e =
    let v = book-valid calls₁ n r l e in
    let in₁ = (standing-in (book_after calls₁) equal_query r (book-other calls₁) n).1 (r, e, equal-itself r v) in
    let (p, ep, h) = (standing-in (book_after calls₂) equal_query r (book-other calls₂) n).0 (subst (λ xs. Memᴰ n xs) (same r v) in₁) in
    ep ∙ ap stands (equal-only r p h)

books : (calls₁ calls₂ : List Call)
    → ((r : Rect) → T (valid r) → admitted_standing (book_after calls₁) equal_query r ≡ admitted_standing (book_after calls₂) equal_query r)
    → SameStanding calls₁ calls₂
books calls₁ calls₂ same n l = go (book_after calls₁ n) (book_after calls₂ n) refl refl
  where
    go : (s t : Slot) → book_after calls₁ n ≡ s → book_after calls₂ n ≡ t → book_after calls₁ n ≡ book_after calls₂ n
    go (stands r) t e f = e ∙ sym (found calls₁ calls₂ same n l r e)
    go blank (stands r) e f = found calls₂ calls₁ (λ p v. sym (same p v)) n l r f ∙ sym f
    go blank blank e f = e ∙ sym f

module _ (slice₁ slice₂ : List ℕ) (l₁ : TABLE_WORDS ≤ length slice₁) (l₂ : TABLE_WORDS ≤ length slice₂) (calls₁ calls₂ : List Call)
    (answer₁ answer₂ : List ℕ) (k₁ : PIECES ≤ length answer₁) (k₂ : PIECES ≤ length answer₂) where
  abbrev table₁ : List ℕ
  table₁ = table_after slice₁ calls₁

  abbrev table₂ : List ℕ
  table₂ = table_after slice₂ calls₂

  R₁ : Reached table₁ (book_after calls₁)
  R₁ = reached-after slice₁ l₁ calls₁

  R₂ : Reached table₂ (book_after calls₂)
  R₂ = reached-after slice₂ l₂ calls₂

  to : EqualListings table₁ answer₁ table₂ answer₂ → SameStanding calls₁ calls₂
  to same = books calls₁ calls₂ (λ r v.
      let A : Asked equal_query r = record { query = equal-asked; rectangle = v } in
      sym (out-listing table₁ (book_after calls₁) R₁ equal_query r A answer₁ k₁)
      ∙ ((same equal_query r A).words ∙ out-listing table₂ (book_after calls₂) R₂ equal_query r A answer₂ k₂))

  from : SameStanding calls₁ calls₂ → EqualListings table₁ answer₁ table₂ answer₂
  from same clauses q A =
      let e = standing-same (book_after calls₁) (book_after calls₂) clauses q same in
      record {
        hits = out-hits table₁ (book_after calls₁) R₁ clauses q A answer₁ k₁ ∙ (ap length e ∙ sym (out-hits table₂ (book_after calls₂) R₂ clauses q A answer₂ k₂));
        words = out-listing table₁ (book_after calls₁) R₁ clauses q A answer₁ k₁ ∙ (e ∙ sym (out-listing table₂ (book_after calls₂) R₂ clauses q A answer₂ k₂));
      }

pub demand3 : Demand3
demand3 = record {
  listed = λ slice l calls clauses q A answer k. query-lists (table_after slice calls) (book_after calls) (reached-after slice l calls) clauses q A answer k (book-other calls);
  compared = λ slice₁ slice₂ l₁ l₂ calls₁ calls₂ answer₁ answer₂ k₁ k₂. (
    to slice₁ slice₂ l₁ l₂ calls₁ calls₂ answer₁ answer₂ k₁ k₂,
    from slice₁ slice₂ l₁ l₂ calls₁ calls₂ answer₁ answer₂ k₁ k₂,
  );
  first = book-first;
  others = book-other;
}
