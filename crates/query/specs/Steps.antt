-- What the inner functions are held to: pages of a sound table, the tests on rows, and the pieces on a page.
use Rattle.std.specs.Prelude.{ℕ, ◌≤◌, ◌<◌, Bool, cond, ◌≡◌, List, [], ◌∷◌, ◌++◌, length, drop, T, eqb}
use Rattle.pages.specs.Lists.{concat_map}
use Rattle.relations.specs.Steps.{page_test, rows_have}
use Rattle.pages.specs.declared.Rect.{Rect}
use Rattle.pages.specs.declared.Entry.{Entry}
use Rattle.pages.specs.Sizes.{TABLE_WORDS}
use Rattle.pages.specs.Refusals.{ACCEPTED}
use Rattle.pages.specs.Layout.{Table, page, table_in}
use Rattle.pages.specs.Sound.{sound, piece_entries}
use Rattle.query.specs.declared.Opened.{Opened}
use Rattle.query.specs.Admission.{code_y, code_x}
use Rattle.query.specs.Calls.{query_opened, opened_sound}

-- p is a page of the sound table, at level l
pub record SoundPage (w : List ℕ) (p l : ℕ) : Type 0 where
  pub words : TABLE_WORDS ≤ length w
  pub holds : T (sound w)
  pub inside : p < length (table_in w).pages
  pub level : (page (table_in w) p).level ≡ l

-- the leaf test by row sets, the page test by joined rows
unfoldable pub admits_by : List ℕ → Rect → Rect → Bool
admits_by rows q p = rows_have rows (code_y q p) (code_x q p)

unfoldable pub opens_by : List ℕ → Rect → Rect → Bool
opens_by below q p = page_test below (code_y q p) (code_x q p)

-- the r of an entry that is admitted
abbrev pub admitted_r : (Rect → Bool) → Entry → List ℕ
admitted_r admit e = cond (admit e.rect) (e.r ∷ []) []

-- the numbers of the admitted pieces on a page
unfoldable pub hits_on : (Rect → Bool) → Table → ℕ → List ℕ
hits_on admit t p = concat_map (admitted_r admit) (piece_entries (page t p))

-- the opened pages in the order of the walk, each page before its children; the words after them are left
unfoldable pub opened_listed : List ℕ → Rect → List ℕ → List ℕ → Opened × List ℕ
unfolding opened_sound query_opened
opened_listed w q clauses answer =
    let r : Opened = opened_sound w q clauses answer in
    (r, cond (eqb r.refusal ACCEPTED) (query_opened w q clauses ++ drop (length (query_opened w q clauses)) answer) answer)
