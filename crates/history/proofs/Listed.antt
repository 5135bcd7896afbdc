-- A valid query on words that hold what stands is accepted, and its listing is that of the book.
use Prim.Native.Nat.{ℕ, ◌≤◌, ◌<◌}
use native.Mathlib.Omega.{arith}
use native.Mathlib.Decide.{dec_lt}
use native.Mathlib.Nat.{le_trans}
use mathlib.Core.Path.{◌≡◌, refl, sym, ap, ◌∙◌, subst}
use mathlib.Core.Bool.{Bool, true, false, cond}
use mathlib.Core.Logic.{◌↔◌}
use mathlib.Core.List.{List, ◌++◌, Memᴰ}
use lib.ListN.{length, get_or, take, drop}
use lib.Seq.{take-append_seam}
use lib.Dec.{T, ltb, eqb}
use Rattle.pages.specs.declared.Rect.{Rect}
use Rattle.pages.specs.declared.Entry.{Entry}
use Rattle.pages.specs.Sizes.{PIECES}
use Rattle.pages.specs.Lists.{one, sum_below}
use Rattle.pages.specs.Layout.{Table, table_in}
use Rattle.pages.specs.Sound.{is}
use Rattle.pages.proofs.Counting.{count-few}
use Rattle.pages.proofs.Entries.{leaves}
use Rattle.pages.proofs.Whole.{sound-in}
use Rattle.query.specs.declared.Answer.{Answer}
use Rattle.query.specs.Admission.{admits_rect}
use Rattle.query.specs.Listing.{rising, admitted_as, listing}
use Rattle.query.specs.Calls.{query_listing, query_call}
use Rattle.query.proofs.Marks.{rising-same}
use Rattle.query.proofs.Calls.{accepts}
use Rattle.query.proofs.Members.{rising-order}
use Rattle.query.proofs.Accepted.{Good, answer-is}
use Rattle.history.specs.Book.{Slot, Book, blank, stands}
use Rattle.history.specs.Demand3.{Asked, Lists}
use Rattle.history.proofs.Rising.{in-rising, rising-in}
use Rattle.history.proofs.Reached.{weigh, Reached, weigh-at, cond-none}

-- whether a query admits the standing rectangle; a blank slot has none
unfoldable pub admits_slot : List ℕ → Rect → Slot → Bool
unfolding admits_rect
admits_slot clauses reference blank = false
admits_slot clauses reference (stands r) = admits_rect clauses reference r

-- the numbers whose standing rectangle it admits, in rising order
unfoldable pub admitted_standing : Book → List ℕ → Rect → List ℕ
unfolding admits_slot
admitted_standing b clauses reference = rising PIECES (λ n. admits_slot clauses reference (b n))

-- a number is listed exactly when the query admits its standing rectangle
module _ (b : Book) (clauses : List ℕ) (q : Rect) where
  slot-in : (m : ℕ) → ((n : ℕ) → m ≤ n → b n ≡ blank) → (n : ℕ)
      → Memᴰ n (rising m (λ i. admits_slot clauses q (b i))) ↔ ((r : Rect) × (b n ≡ stands r) × T (admits_rect clauses q r))
  unfolding admits_slot
  slot-in m others n = (λ k. to (b n) (rising-in m (λ i. admits_slot clauses q (b i)) n k).1, λ p. from (dec_lt n m) p.0 p.1 p.2)
    where
      to : (s : Slot) → T (admits_slot clauses q s) → (r : Rect) × (s ≡ stands r) × T (admits_rect clauses q r)
      to blank h = absurd h
      to (stands r) h = (r, refl, h)

      from : Dec (n < m) → (r : Rect) → b n ≡ stands r → T (admits_rect clauses q r) → Memᴰ n (rising m (λ i. admits_slot clauses q (b i)))
      from (yes l) r e t = in-rising m (λ i. admits_slot clauses q (b i)) n l (subst (λ s. T (admits_slot clauses q s)) (sym e) t)
      from (no l) r e t =
          let k : b n ≡ blank = others n (omega arith) in
          let z : ◌≡◌ {A = ℕ} 0 1 = cc in
          absurd (omega arith)

  pub standing-in : ((n : ℕ) → PIECES ≤ n → b n ≡ blank) → (n : ℕ)
      → Memᴰ n (admitted_standing b clauses q) ↔ ((r : Rect) × (b n ≡ stands r) × T (admits_rect clauses q r))
  unfolding admitted_standing
  standing-in others n = slot-in PIECES others n

  standing-rising : (i j : ℕ) → i < j → j < length (admitted_standing b clauses q) → get_or (admitted_standing b clauses q) i 0 < get_or (admitted_standing b clauses q) j 0
  unfolding admitted_standing
  standing-rising i j a l = rising-order (λ n. admits_slot clauses q (b n)) PIECES i j a l

-- equal books give equal listings
pub standing-same : (b c : Book) (clauses : List ℕ) (q : Rect) → ((n : ℕ) → n < PIECES → b n ≡ c n) → admitted_standing b clauses q ≡ admitted_standing c clauses q
unfolding admitted_standing
standing-same b c clauses q h =
    rising-same PIECES (λ n. admits_slot clauses q (b n)) (λ n. admits_slot clauses q (c n)) (λ n l. ap (admits_slot clauses q) (h n l))

-- how often a number is stored with an admitted rectangle: once or never, as the slot says
module _ (clauses : List ℕ) (q : Rect) where
  weigh-admitted : (c n : ℕ) (s : Slot) → weigh (λ e. cond (admits_rect clauses q e.rect) (is c e) 0) n s ≡ cond (eqb n c) (one (admits_slot clauses q s)) 0
  unfolding weigh admits_slot
  weigh-admitted c n blank = sym (cond-none (eqb n c))
  weigh-admitted c n (stands r) = go (admits_rect clauses q r) (eqb n c)
    where
      go : (x y : Bool) → ◌≡◌ {A = ℕ} (cond x (one y) 0) (cond y (one x) 0)
      go true true = refl
      go true false = refl
      go false true = refl
      go false false = refl

  admitted-is : (m : ℕ) (t : Table) (b : Book) → ((f : Entry → ℕ) → leaves f t.pages ≡ sum_below m (λ n. weigh f n (b n)))
      → (c : ℕ) → c < m → ltb 0 (admitted_as (admits_rect clauses q) t c) ≡ admits_slot clauses q (b c)
  admitted-is m t b h c l = rw (h f ∙ weigh-at m b f (λ s. one (admits_slot clauses q s)) c (λ n. weigh-admitted c n (b n)) l) (go (admits_slot clauses q (b c)))
    where
      f : Entry → ℕ
      f = λ e. cond (admits_rect clauses q e.rect) (is c e) 0

      go : (x : Bool) → ltb 0 (one x) ≡ x
      go true = refl
      go false = refl

  listing-is : (w : List ℕ) (b : Book) → Reached w b → query_listing w q clauses ≡ admitted_standing b clauses q
  unfolding query_listing listing admitted_standing
  listing-is w b R = rising-same PIECES (λ c. ltb 0 (admitted_as (admits_rect clauses q) (table_in w) c)) (λ n. admits_slot clauses q (b n))
      (λ c l. admitted-is PIECES (table_in w) b R.holds c l)

module _ (w : List ℕ) (b : Book) (R : Reached w b) (clauses : List ℕ) (q : Rect) (A : Asked clauses q) (answer : List ℕ) (l : PIECES ≤ length answer) where
  good : Good w q clauses (length answer)
  good = record {
    words = R.long;
    holds = R.sound;
    refusal = accepts q clauses (length answer) (table_in w).count (record { rectangle = A.rectangle; query = A.query; room = le_trans (count-few (table_in w) (sound-in w R.sound)) l });
  }

  -- the parts of the answer
  abbrev out : Answer × List ℕ
  out = query_call w q clauses answer

  pub out-hits : out.0.hits ≡ length (admitted_standing b clauses q)
  out-hits = ap (λ x. x.0.hits) (answer-is w q clauses answer good) ∙ ap length (listing-is clauses q w b R)

  out-words : out.1 ≡ admitted_standing b clauses q ++ drop (length (admitted_standing b clauses q)) answer
  out-words = ap (λ x. x.1) (answer-is w q clauses answer good) ∙ ap (λ xs. xs ++ drop (length xs) answer) (listing-is clauses q w b R)

  -- the words that are compared
  pub out-listing : take out.0.hits out.1 ≡ admitted_standing b clauses q
  out-listing = rw (out-hits, out-words) (take-append_seam (admitted_standing b clauses q) (drop (length (admitted_standing b clauses q)) answer))

  pub query-lists : ((n : ℕ) → PIECES ≤ n → b n ≡ blank) → Lists b clauses q answer out
  query-lists others = record {
    accepted = ap (λ x. x.0.refusal) (answer-is w q clauses answer good);
    numbers = admitted_standing b clauses q;
    exactly = standing-in b clauses q others;
    rising = standing-rising b clauses q;
    hits = out-hits;
    words = out-words;
  }
