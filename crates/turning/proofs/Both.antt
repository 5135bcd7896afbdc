-- Each part of a query is a query, and a listing has the numbers of the admitted pieces. A number that both parts list is that of one
-- piece, since the numbers of a sound table are distinct: so both admit its rectangle.
use Prim.Native.Nat.{ℕ, ◌≤◌}
use native.Mathlib.Omega.{arith}
use native.Mathlib.Nat.{le_trans}
use mathlib.Core.Path.{◌≡◌, refl, sym, ap, ◌∙◌}
use mathlib.Core.Logic.{◌↔◌}
use mathlib.Core.Bool.{Bool, true, ◌&&◌, ◌||◌, or_assoc}
use mathlib.Core.List.{List, [], ◌∷◌, ◌++◌}
use lib.ListN.{length, drop, length-append}
use lib.Seq.{take-append_seam}
use lib.Dec.{T}
use Rattle.std.proofs.lemmas.Grind.{common_steps}
use Rattle.relations.specs.Query.{bad_clause, some_bad, refusal_of}
use Rattle.relations.proofs.Tests.{and_left, and_right, both}
use Rattle.relations.proofs.Rows.{admits-parts}
use Rattle.pages.specs.declared.Rect.{Rect}
use Rattle.pages.specs.Sizes.{TABLE_WORDS}
use Rattle.pages.specs.Refusals.{ACCEPTED}
use Rattle.pages.specs.Layout.{table_in}
use Rattle.pages.specs.Sound.{sound}
use Rattle.pages.proofs.Counting.{count-few}
use Rattle.pages.proofs.Whole.{sound-in}
use Rattle.query.specs.Admission.{code_y, code_x, admits_rect}
use Rattle.query.specs.Calls.{query_listing, query_call}
use Rattle.pages.specs.Pieces.{PieceAt}
use Rattle.query.specs.Demand2.{In}
use Rattle.query.proofs.Calls.{accepts}
use Rattle.query.proofs.Accepted.{Good, listed, answer-is}
use Rattle.query.proofs.Pieces.{one_rect}
use Rattle.history.specs.History.{table_after}
use Rattle.history.specs.Demand3.{Asked}
use Rattle.history.proofs.Reached.{reached-after}
use Rattle.turning.specs.Both.{listed_words, TwoClauses, MoreClauses, OnSoundTables, AfterCalls}

-- each part is a query where the whole is
bad-parts : (cs ds : List ℕ) → some_bad (cs ++ ds) ≡ (some_bad cs || some_bad ds)
unfolding some_bad
bad-parts [] ds = refl
bad-parts (c ∷ cs) ds = ap (λ (b : Bool). bad_clause c || b) (bad-parts cs ds) ∙ sym (or_assoc (bad_clause c) _ _)

module _ (q : Rect) (c d : ℕ) (cs ds : List ℕ) (A : Asked ((c ∷ cs) ++ (d ∷ ds)) q) where
  first-asked : Asked (c ∷ cs) q
  unfolding refusal_of
  first-asked = record {
    query = grind (arith, common_steps, A.query, length-append (c ∷ cs) (d ∷ ds), bad-parts (c ∷ cs) (d ∷ ds));
    rectangle = A.rectangle;
  }

  second-asked : Asked (d ∷ ds) q
  unfolding refusal_of
  second-asked = record {
    query = grind (arith, common_steps, A.query, length-append (c ∷ cs) (d ∷ ds), bad-parts (c ∷ cs) (d ∷ ds));
    rectangle = A.rectangle;
  }

-- an accepted call and its words
module _ (w : List ℕ) (long : TABLE_WORDS ≤ length w) (holds : T (sound w)) (q : Rect) (clauses answer : List ℕ) (A : Asked clauses q) (room : (table_in w).count ≤ length answer) where
  good : Good w q clauses (length answer)
  good = record {
    words = long;
    holds = holds;
    refusal = accepts q clauses (length answer) (table_in w).count (record { rectangle = A.rectangle; query = A.query; room = room });
  }

  call-taken : (query_call w q clauses answer).0.refusal ≡ ACCEPTED
  call-taken = ap (λ x. x.0.refusal) (answer-is w q clauses answer good)

  call-words : listed_words (query_call w q clauses answer) ≡ query_listing w q clauses
  call-words =
      let list = query_listing w q clauses in
      ap listed_words (answer-is w q clauses answer good) ∙ take-append_seam list (drop (length list) answer)

  call-lists : (n : ℕ) → In n (listed_words (query_call w q clauses answer)) ↔ ((r : Rect) × PieceAt (table_in w) n r × (admits_rect clauses q r ≡ true))
  call-lists n = rw call-words (listed w q clauses (length answer) good n)

pub more-clauses : OnSoundTables MoreClauses
unfolding admits_rect
more-clauses w long holds q c d cs ds A answer answer₁ answer₂ k k₁ k₂ = record {
  accepted = call-taken w long holds q (first ++ second) answer A k;
  first-accepted = call-taken w long holds q first answer₁ A₁ k₁;
  second-accepted = call-taken w long holds q second answer₂ A₂ k₂;
  exactly = λ n. (to n, from n);
}
  where
    first : List ℕ
    first = c ∷ cs

    second : List ℕ
    second = d ∷ ds

    A₁ : Asked first q
    A₁ = first-asked q c d cs ds A

    A₂ : Asked second q
    A₂ = second-asked q c d cs ds A

    parts : (r : Rect) → admits_rect (first ++ second) q r ≡ (admits_rect first q r && admits_rect second q r)
    parts r = admits-parts first second (code_y q r) (code_x q r)

    to : (n : ℕ) → In n (listed_words (query_call w q (first ++ second) answer)) → In n (listed_words (query_call w q first answer₁)) × In n (listed_words (query_call w q second answer₂))
    to n m =
        let (r, at, a) = (call-lists w long holds q (first ++ second) answer A k n).0 m in
        let b = sym (parts r) ∙ a in (
          (call-lists w long holds q first answer₁ A₁ k₁ n).1 (r, at, and_left (admits_rect first q r) (admits_rect second q r) b),
          (call-lists w long holds q second answer₂ A₂ k₂ n).1 (r, at, and_right (admits_rect first q r) (admits_rect second q r) b),
        )

    from : (n : ℕ) → In n (listed_words (query_call w q first answer₁)) × In n (listed_words (query_call w q second answer₂)) → In n (listed_words (query_call w q (first ++ second) answer))
    from n (m₁, m₂) =
        let (r, at, a) = (call-lists w long holds q first answer₁ A₁ k₁ n).0 m₁ in
        let (s, there, b) = (call-lists w long holds q second answer₂ A₂ k₂ n).0 m₂ in
        let e : s ≡ r = one_rect (table_in w) (sound-in w holds) n s r there at in
        (call-lists w long holds q (first ++ second) answer A k n).1 (r, at, parts r ∙ both a (rw e at b))

pub two-clauses : OnSoundTables TwoClauses
two-clauses w long holds q c d = more-clauses w long holds q c d [] []

pub more-clauses-after : AfterCalls MoreClauses
more-clauses-after slice l calls q c d cs ds A answer answer₁ answer₂ k k₁ k₂ =
    let w = table_after slice calls in
    let R = reached-after slice l calls in
    let few = count-few (table_in w) (sound-in w R.sound) in
    more-clauses w R.long R.sound q c d cs ds A answer answer₁ answer₂ (le_trans few k) (le_trans few k₁) (le_trans few k₂)

pub two-clauses-after : AfterCalls TwoClauses
two-clauses-after slice l calls q c d = more-clauses-after slice l calls q c d [] []
