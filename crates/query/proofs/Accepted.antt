-- An accepted query: the table is sound, the reference a proper rectangle. What demand 2 says of it, part by part.
use Prim.Native.Nat.{ℕ, zero, suc, ◌-◌, ◌*◌, ◌≤◌, ◌<◌}
use native.Mathlib.Omega.{arith}
use native.Mathlib.Decide.{ℕ_discrete, dec_lt}
use native.Mathlib.Nat.{not-suc-le-zero, le_trans, le_of_eq}
use mathlib.Core.Path.{◌≡◌, refl, sym, ap, ap₂, ◌∙◌}
use mathlib.Core.Logic.{◌↔◌, ◌≢◌}
use mathlib.Core.Bool.{Bool, true, false, cond, false≢true}
use mathlib.Core.List.{List, [], ◌∷◌, ◌++◌}
use lib.ListN.{length, get_or, drop}
use lib.Dec.{T, ltb, eqb}
use borrow.Author.Tests.{ltb-false, le-ltb, ne_eqb}
use Rattle.pages.specs.Pieces.{PieceAt}
use Rattle.query.specs.Demand2.{In, QuarterIn}
use Rattle.relations.specs.Sets.{digit, total}
use Rattle.relations.specs.Axis.{CODES, IsCode, code}
use Rattle.relations.specs.Query.{admits, admitted_count}
use Rattle.relations.proofs.Sides.{is_code, code-suc}
use Rattle.pages.specs.declared.Rect.{Rect}
use Rattle.pages.specs.declared.Entry.{Entry}
use Rattle.pages.specs.Sizes.{TABLE_WORDS}
use Rattle.pages.specs.Lists.{one, concat_map, Every, times}
use Rattle.pages.specs.Refusals.{ACCEPTED, TABLE_TOO_SHORT, TABLE_NOT_SOUND}
use Rattle.pages.specs.Layout.{Page, no_entry, page_at, page, table_in}
use Rattle.pages.specs.Sound.{sound}
use Rattle.pages.proofs.Lists.{T_true, every-at, at_every}
use Rattle.pages.proofs.Facts.{Facts}
use Rattle.pages.proofs.Whole.{sound-in}
use Rattle.query.specs.declared.Answer.{Answer}
use Rattle.query.specs.Admission.{code_y, code_x, admits_rect, opens}
use Rattle.query.specs.Opening.{opened_under, opened_pages}
use Rattle.query.specs.Calls.{sound_refusal, no_answer, query_listing, query_opened, query_answer, query_sound, query_call}
use Rattle.query.proofs.Members.{in-times, times-in, once-apart}
use Rattle.query.proofs.Pieces.{listed-exactly, listed-rising}
use Rattle.query.proofs.Tests.{Proper, proper, quarter-rule}
use Rattle.query.proofs.Root.{opened-once, opened-few}
use Rattle.query.proofs.Parents.{child-proper, opened_inside, opened-child}
use Rattle.query.proofs.Calls.{accepted}

pub record Good (w : List ℕ) (q : Rect) (clauses : List ℕ) (size : ℕ) : Type 0 where
  pub words : TABLE_WORDS ≤ length w
  pub holds : T (sound w)
  pub refusal : sound_refusal q clauses size (table_in w).count ≡ 0

pub good-call : (w : List ℕ) (q : Rect) (clauses answer : List ℕ) → (query_call w q clauses answer).0.refusal ≡ ACCEPTED → Good w q clauses (length answer)
unfolding query_call query_sound
good-call w q clauses answer e = go (ltb (length w) TABLE_WORDS) refl (sound w) refl (sound_refusal q clauses (length answer) (table_in w).count) refl e
  where
    go : (a : Bool) → ltb (length w) TABLE_WORDS ≡ a → (b : Bool) → sound w ≡ b → (r : ℕ) → sound_refusal q clauses (length answer) (table_in w).count ≡ r
        → (cond {A = Answer × List ℕ} a (no_answer TABLE_TOO_SHORT, answer)
        (cond b (cond (eqb r ACCEPTED) (query_answer w q clauses answer) (no_answer r, answer)) (no_answer TABLE_NOT_SOUND, answer))).0.refusal ≡ ACCEPTED
        → Good w q clauses (length answer)
    go true s b h r z k = absurd (omega arith)
    go false s false h r z k = absurd (omega arith)
    go false s true h zero z k = record { words = ltb-false (length w) TABLE_WORDS s; holds = rw h tt; refusal = z }
    go false s true h (suc r) z k = absurd (omega (arith, rw (ne_eqb (suc r) 0 (λ y. omega arith)) at k))

first-opened : (o : Rect → Bool) (ps : List Page) (l p : ℕ) → In p (opened_under o ps l p)
unfolding opened_under
first-opened o ps zero p = record { place = 0; inside = omega arith; holds = refl }
first-opened o ps (suc l) p = record { place = 0; inside = omega arith; holds = refl }

-- where no entry passes, the page alone is opened
none-opened : (o : Rect → Bool) (ps : List Page) (l p : ℕ) → ((m : ℕ) → l ≡ suc m → (i : ℕ) → i < length (page_at ps p).entries → o (get_or (page_at ps p).entries i no_entry).rect ≡ false)
    → opened_under o ps l p ≡ p ∷ []
unfolding opened_under
none-opened o ps zero p h = refl
none-opened o ps (suc l) p h = ap (◌∷◌ p) (each (page_at ps p).entries (at_every (λ e. o e.rect ≡ false) (page_at ps p).entries no_entry (h l refl)))
  where
    each : (es : List Entry) → Every (λ e. o e.rect ≡ false) es → concat_map (λ e. cond (o e.rect) (opened_under o ps l e.r) []) es ≡ []
    each [] k = refl
    each (e ∷ es) k = rw k.0 (each es k.1)

none : (n : ℕ) → (1 ≤ n → ⊥) → n ≤ 1
none zero h = omega arith
none (suc n) h = absurd (h (omega arith))

no_member : (xs : List ℕ) → ((c : ℕ) → In c xs → ⊥) → xs ≡ []
no_member [] h = refl
no_member (x ∷ xs) h = absurd (h x (record { place = 0; inside = omega arith; holds = refl }))

both_some : (n : ℕ) (b : Bool) → 1 ≤ n * one b → (1 ≤ n) × (b ≡ true)
both_some n true h = (omega arith, refl)
both_some n false h = absurd (omega arith)

some-both : (n : ℕ) (b : Bool) → 1 ≤ n → b ≡ true → 1 ≤ n * one b
some-both n b h e = rw e (omega arith)

total-none : (f : ℕ → ℕ) (n k : ℕ) → total f n ≡ 0 → k < n → f k ≡ 0
unfolding total
total-none f zero k z l = absurd (not-suc-le-zero l)
total-none f (suc n) k z l = go (ℕ_discrete k n) (total-none f n k)
  where
    go : Dec (k ≡ n) → (total f n ≡ 0 → k < n → f k ≡ 0) → f k ≡ 0
    go (yes e) r = rw e (omega arith)
    go (no e) r = r (omega arith) (omega arith)

digit-none : (b : Bool) → digit b ≡ 0 → b ≡ false
digit-none true e = absurd (omega arith)
digit-none false e = refl

not-admitted : (clauses : List ℕ) → admitted_count clauses ≡ 0 → (i j : ℕ) → IsCode i → IsCode j → admits clauses i j ≡ false
unfolding admitted_count
not-admitted clauses z i j ic jc =
    let a = total-none (λ h. total (λ k. digit (admits clauses (suc h) (suc k))) CODES) CODES (i - 1) z (omega (arith, ic.low, ic.high)) in
    let b = total-none (λ k. digit (admits clauses (suc (i - 1)) (suc k))) CODES (j - 1) a (omega (arith, jc.low, jc.high)) in
    ap₂ (admits clauses) (sym (code-suc i ic)) (sym (code-suc j jc)) ∙ digit-none _ b

module _ (w : List ℕ) (q : Rect) (clauses : List ℕ) (size : ℕ) (g : Good w q clauses size) where
  facts : Facts (table_in w)
  facts = sound-in w g.holds

  reference : Proper q
  reference = proper q (accepted q clauses size (table_in w).count g.refusal).rectangle

  pub listed : (c : ℕ) → In c (query_listing w q clauses) ↔ ((r : Rect) × PieceAt (table_in w) c r × (admits_rect clauses q r ≡ true))
  unfolding query_listing
  listed c = listed-exactly (table_in w) facts (admits_rect clauses q) c

  pub listing-rises : (i j : ℕ) → i < j → j < length (query_listing w q clauses) → get_or (query_listing w q clauses) i 0 < get_or (query_listing w q clauses) j 0
  unfolding query_listing
  listing-rises i j l k = listed-rising (table_in w) facts (admits_rect clauses q) i j l k

  pub root_opened : In (table_in w).root (query_opened w q clauses)
  unfolding query_opened opened_pages
  root_opened = first-opened (opens clauses q) (table_in w).pages (page (table_in w) (table_in w).root).level (table_in w).root

  pub child-opened : (p i : ℕ) → p < length (table_in w).pages → (page (table_in w) p).level ≢ 0 → i < length (page (table_in w) p).entries
      → In (get_or (page (table_in w) p).entries i no_entry).r (query_opened w q clauses)
      ↔ (In p (query_opened w q clauses) × QuarterIn clauses q (get_or (page (table_in w) p).entries i no_entry).rect)
  unfolding query_opened
  child-opened p i pl n il = go (page (table_in w) p).level refl
    where
      go : (l : ℕ) → (page (table_in w) p).level ≡ l
          → In (get_or (page (table_in w) p).entries i no_entry).r (opened_pages (opens clauses q) (table_in w))
          ↔ (In p (opened_pages (opens clauses q) (table_in w)) × QuarterIn clauses q (get_or (page (table_in w) p).entries i no_entry).rect)
      go zero lv = absurd (n lv)
      go (suc l) lv =
          let e : Entry = get_or (page (table_in w) p).entries i no_entry in
          let xs : List ℕ = opened_pages (opens clauses q) (table_in w) in
          let t : times e.r xs ≡ times p xs * one (opens clauses q e.rect) = opened-child (table_in w) facts (opens clauses q) l p i pl lv il in
          let rule = quarter-rule clauses q e.rect reference (child-proper (table_in w) facts l p i pl lv il) in (
            λ m. let h = both_some (times p xs) (opens clauses q e.rect) (le_trans (in-times e.r xs m) (le_of_eq t)) in (times-in p xs h.0, rule.1 h.1),
            λ m. times-in e.r xs (le_trans (some-both (times p xs) (opens clauses q e.rect) (in-times p xs m.0) (rule.0 m.1)) (le_of_eq (sym t))),
          )

  pub opened-pages : (p : ℕ) → In p (query_opened w q clauses) → p < length (table_in w).pages
  unfolding query_opened
  opened-pages p m =
      let l = every-at (λ x. x < length (table_in w).pages) (opened_pages (opens clauses q) (table_in w)) 0 (opened_inside (table_in w) facts (opens clauses q)) m.place m.inside in
      omega (arith, l, m.holds)

  pub opened-apart : (i j : ℕ) → i < j → j < length (query_opened w q clauses) → get_or (query_opened w q clauses) i 0 ≢ get_or (query_opened w q clauses) j 0
  unfolding query_opened
  opened-apart = once-apart (opened_pages (opens clauses q) (table_in w)) each
    where
      each : (c : ℕ) → times c (opened_pages (opens clauses q) (table_in w)) ≤ 1
      each c = go (dec_lt c (length (table_in w).pages))
        where
          go : Dec (c < length (table_in w).pages) → times c (opened_pages (opens clauses q) (table_in w)) ≤ 1
          go (yes l) = opened-once (table_in w) facts (opens clauses q) c l
          go (no l) = none (times c (opened_pages (opens clauses q) (table_in w))) (λ h. l (opened-pages c (times-in c (opened_pages (opens clauses q) (table_in w)) h)))

  pub opened-most : length (query_opened w q clauses) ≤ length (table_in w).pages
  unfolding query_opened
  opened-most = opened-few (table_in w) facts (opens clauses q)

  -- no configuration is admitted
  module _ (none-admitted : admitted_count clauses ≡ 0) where
    no-piece : (c : ℕ) → In c (query_listing w q clauses) → ⊥
    unfolding admits_rect
    no-piece c m =
        let (r, at, a) = (listed c).0 m in
        false≢true (sym (not-admitted clauses none-admitted (code_y q r) (code_x q r) (is_code r.y1 r.y2 q.y1 q.y2) (is_code r.x1 r.x2 q.x1 q.x2)) ∙ a)

    pub none-listed : query_listing w q clauses ≡ []
    none-listed = no_member (query_listing w q clauses) no-piece

    no-page : (l i : ℕ) → (page (table_in w) (table_in w).root).level ≡ suc l → i < length (page (table_in w) (table_in w).root).entries
        → opens clauses q (get_or (page (table_in w) (table_in w).root).entries i no_entry).rect ≡ false
    no-page l i lv il = go (opens clauses q s) refl
      where
        s : Rect
        s = (get_or (page (table_in w) (table_in w).root).entries i no_entry).rect

        go : (b : Bool) → opens clauses q s ≡ b → opens clauses q s ≡ false
        go false e = e
        go true e =
            let m = (quarter-rule clauses q s reference (child-proper (table_in w) facts l (table_in w).root i facts.top lv il)).1 e in
            absurd (false≢true (sym (not-admitted clauses none-admitted (code m.y1 m.y2 (4 * q.y1) (4 * q.y2)) (code m.x1 m.x2 (4 * q.x1) (4 * q.x2))
            (is_code m.y1 m.y2 (4 * q.y1) (4 * q.y2)) (is_code m.x1 m.x2 (4 * q.x1) (4 * q.x2))) ∙ m.admitted))

    pub root-only : query_opened w q clauses ≡ (table_in w).root ∷ []
    unfolding query_opened opened_pages
    root-only = go (page (table_in w) (table_in w).root).level refl
      where
        go : (l : ℕ) → (page (table_in w) (table_in w).root).level ≡ l → opened_under (opens clauses q) (table_in w).pages l (table_in w).root ≡ (table_in w).root ∷ []
        go l lv = none-opened (opens clauses q) (table_in w).pages l (table_in w).root (λ m z i il. no-page m i (lv ∙ z) il)

-- the tests of a call, all passed
pub chosen : {A : Type 0} (a b : Bool) (r : ℕ) (x y z u : A) → a ≡ false → b ≡ true → r ≡ 0 → cond a x (cond b (cond (eqb r ACCEPTED) y z) u) ≡ y
chosen a b r x y z u p q e = rw (p, q, e)

pub answer-is : (w : List ℕ) (q : Rect) (clauses answer : List ℕ) → Good w q clauses (length answer) → ◌≡◌ {A = Answer × List ℕ} (query_call w q clauses answer) (
  record { refusal = ACCEPTED; hits = length (query_listing w q clauses); opened = length (query_opened w q clauses) },
  query_listing w q clauses ++ drop (length (query_listing w q clauses)) answer,
)
unfolding query_call query_sound query_answer
answer-is w q clauses answer g =
    chosen (ltb (length w) TABLE_WORDS) (sound w) (sound_refusal q clauses (length answer) (table_in w).count) (no_answer TABLE_TOO_SHORT, answer) (query_answer w q clauses answer)
    (no_answer (sound_refusal q clauses (length answer) (table_in w).count), answer) (no_answer TABLE_NOT_SOUND, answer) (le-ltb (length w) TABLE_WORDS g.words) (T_true (sound w) g.holds) g.refusal
