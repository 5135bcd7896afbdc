-- A line is put behind what is gathered: the buffer keeps its length, the line fits, and what the buffer holds is the end of the text so far.
use Prim.Native.Nat.{ℕ, zero, suc, ◌+◌, ◌≤◌, ◌<◌}
use mathlib.Core.Path.{◌≡◌, refl, sym, ap, ◌∙◌, subst}
use mathlib.Core.Bool.{Bool, true, false, cond}
use mathlib.Core.List.{List, [], ◌++◌, append_assoc, append-nil}
use native.Mathlib.Numerals.{add-one}
use borrow.Author.Tests.{le-leb, lt-leb, leb-true, leb-false}
use lib.ListN.{length}
use lib.Dec.{T, leb}
use Rattle.std.proofs.Common.{inl, inr, Some, None, IfSome, is_some, arith, take, length-append, length-take-le}
use Rattle.std.proofs.lemmas.List.{take-append-le}
use Rattle.std.proofs.Math.Seq.{take-append-add}
use borrow.Rule.Slice.PartMut.{put_mid}
use Rattle.std.specs.declared.option.Option.{Option}
use Rattle.std.specs.Io.KnownBytes.{Appends, Consumes, IsAtEnd, Keeps}
use Rattle.std.proofs.KnownBytes.{Appends-nil, Appends-trans, append_known-grown}
use Rattle.job.specs.Sizes.{JOB_BYTES, LINE_BYTES}
use Rattle.job.specs.Output.{bad_job}
use Rattle.job.specs.Words.{piece_count, query_count, well_formed, output}
use Rattle.pages.specs.Calls.{empty_words}
use Rattle.job.specs.Steps.{table_at, piece_line_at, query_line_at, lines_to}
use Rattle.job.proofs.Claimed.{claimed}
use Rattle.job.proofs.Places.{too_long}
use Rattle.job.proofs.Tables.{first-table}
use Rattle.job.specs.declared.Job.{Job}
use Rattle.job_io.specs.Gathered.{kept, held, held_pieces, held_queries, output_of, Gathered}
use Rattle.job_io.specs.declared.Output.{Output}
use Rattle.job_io.specs.Printed.{Printed}
use Rattle.job_io.specs.Prints.{Prints}

-- the buffer before the next line
kept_tests : (size : ℕ) (before : List ℕ) → kept size before ≡ cond (leb (length before + LINE_BYTES) size) before []
unfolding kept
kept_tests size before = refl

pub kept_all : (size : ℕ) (before : List ℕ) → length before + LINE_BYTES ≤ size → before ≡ kept size before
kept_all size before h = sym (kept_tests size before ∙ ap (λ t. cond t before []) (le-leb (length before + LINE_BYTES) size h))

pub kept_none : (size : ℕ) (before : List ℕ) → size < length before + LINE_BYTES → [] ≡ kept size before
kept_none size before h = sym (kept_tests size before ∙ ap (λ t. cond t before []) (lt-leb (length before + LINE_BYTES) size h))

-- what the definitions say of no line, and of one more
pub no_line : (size : ℕ) (before : List ℕ) (line : ℕ → List ℕ) → held size before line 0 ≡ before
unfolding held
no_line size before line = refl

line-more : (size : ℕ) (before : List ℕ) (line : ℕ → List ℕ) (n : ℕ) → held size before line (suc n) ≡ kept size (held size before line n) ++ line n
unfolding held
line-more size before line n = refl

pub line_more : (size : ℕ) (before : List ℕ) (line : ℕ → List ℕ) (n : ℕ) → held size before line (n + 1) ≡ kept size (held size before line n) ++ line n
line_more size before line n = ap (held size before line) (add-one n) ∙ line-more size before line n

pub no_piece : (b : List ℕ) → table_at b 0 ≡ empty_words
no_piece b = first-table b

pub pieces_held : (size : ℕ) (b : List ℕ) → held_pieces size b ≡ held size [] (piece_line_at b) (piece_count b)
unfolding held_pieces
pieces_held size b = refl

pub queries_held : (size : ℕ) (b : List ℕ) → held_queries size b ≡ held size (held_pieces size b) (query_line_at b) (query_count b)
unfolding held_queries
queries_held size b = refl

pub ruleset kept_laws = (kept_all, kept_none)

pub ruleset piece_laws = (no_line, no_piece, line_more, pieces_held)

pub ruleset query_laws = (no_line, line_more, queries_held)

-- growing by nothing is staying
kept-by : (old new : Option (List ℕ)) → Appends old new [] → Keeps old new
kept-by None new e = tt
kept-by (Some xs) None e = e
kept-by (Some xs) (Some ys) e = e ∙ append-nil xs

module _ {W : Type 0} (contents : W → Option (List ℕ)) where
  pub prints-none : (out : Output W) → Prints contents out out []
  prints-none out = record { same_writer = refl; all = Appends-nil _ }

  prints-both : (a b c : Output W) (front back : List ℕ) → Prints contents a b front → Prints contents b c back → Prints contents a c (front ++ back)
  prints-both a b c front back f g = record { same_writer = g.same_writer ∙ f.same_writer; all = Appends-trans _ _ _ front back f.all g.all }

  -- one line more, behind what was kept
  prints-line : (before mid : Output W) (new line : List ℕ) → Prints contents before mid [] → new ≡ mid.lines ++ line → Prints contents before (record { to = mid.to; lines = new }) line
  prints-line before mid new line room e =
      record { same_writer = room.same_writer; all = append_known-grown _ _ mid.lines new line (kept-by _ _ room.all) e }

  pub next-line : (from before mid : Output W) (new : List ℕ) (f : ℕ → List ℕ) (n : ℕ) → Prints contents from before (lines_to f n) → Prints contents before mid []
      → new ≡ mid.lines ++ f n → Prints contents from (record { to = mid.to; lines = new }) (lines_to f (n + 1))
  next-line from before mid new f n so room line =
      subst (λ k. Prints contents from (record { to = mid.to; lines = new }) (lines_to f k)) (sym (add-one n))
      (prints-both from before _ (lines_to f n) (f n) so (prints-line before mid new (f n) room line))

  -- all that is printed in the end is the output
  pub all-good : (b : List ℕ) (before between after : Output W) → well_formed b ≡ true → Prints contents before between (lines_to (piece_line_at b) (piece_count b))
      → Prints contents between after (lines_to (query_line_at b) (query_count b)) → Prints contents before after (output b)
  all-good b before between after good pieces queries =
      subst (Prints contents before after) (sym (claimed.in_order b (subst T (sym good) tt)))
      (prints-both before between after (lines_to (piece_line_at b) (piece_count b)) (lines_to (query_line_at b) (query_count b)) pieces queries)

-- what the buffer holds is the end of the text
kept-gathered : (size : ℕ) (text before : List ℕ) → Gathered text before → Gathered text (kept size before)
kept-gathered size text before g = subst (Gathered text) (sym (kept_tests size before)) (go (leb (length before + LINE_BYTES) size))
  where
    go : (t : Bool) → Gathered text (cond t before [])
    go true = g
    go false = record { sent = text; whole = sym (append-nil text) }

line-gathered : (text before line : List ℕ) → Gathered text before → Gathered (text ++ line) (before ++ line)
line-gathered text before line g = record { sent = g.sent; whole = ap (λ l. l ++ line) g.whole ∙ append_assoc g.sent before line }

lines-gathered : (size : ℕ) (text before : List ℕ) (f : ℕ → List ℕ) → Gathered text before → (n : ℕ) → Gathered (text ++ lines_to f n) (held size before f n)
lines-gathered size text before f g zero = record { sent = g.sent; whole = append-nil text ∙ g.whole ∙ ap (λ l. g.sent ++ l) (sym (no_line size before f)) }
lines-gathered size text before f g (suc n) =
    let more = line-gathered _ _ (f n) (kept-gathered size _ _ (lines-gathered size text before f g n)) in
    record { sent = more.sent; whole = sym (append_assoc text (lines_to f n) (f n)) ∙ more.whole ∙ ap (λ l. more.sent ++ l) (sym (line-more size before f n)) }

module _ (size : ℕ) (b : List ℕ) where
  pieces-gathered : Gathered (lines_to (piece_line_at b) (piece_count b)) (held_pieces size b)
  pieces-gathered =
      subst (Gathered (lines_to (piece_line_at b) (piece_count b))) (sym (pieces_held size b))
      (lines-gathered size [] [] (piece_line_at b) (record { sent = []; whole = refl }) (piece_count b))

  queries-gathered : T (well_formed b) → Gathered (output b) (held_queries size b)
  queries-gathered good =
      let all = lines-gathered size _ (held_pieces size b) (query_line_at b) pieces-gathered (query_count b) in
      record { sent = all.sent; whole = claimed.in_order b good ∙ all.whole ∙ ap (λ l. all.sent ++ l) (sym (queries_held size b)) }

  -- what the buffer holds at the end of a well-formed job
  pub good-end : (front : List ℕ) → well_formed b ≡ true → front ≡ held_queries size b → (front ≡ held_queries size b) × Gathered (output b) front
  good-end front good e = (e, subst (Gathered (output b)) (sym e) (queries-gathered (subst T (sym good) tt)))

-- bytes that fill the slice are the front of an input that no job is; fewer are the input
pub printed : (read : List ℕ) (input left old new : Option (List ℕ)) (failed : Type 0) → Consumes input left read → (length read ≤ JOB_BYTES → IsAtEnd left)
    → Appends old new (output read) → Printed input failed old new
printed read None left old new failed all at_end text = tt
printed read (Some b) None old new failed all at_end text = absurd all
printed read (Some b) (Some rest) old new failed all at_end text = inl (subst (Appends old new) (go (leb (length read) JOB_BYTES) refl) text)
  where
    go : (t : Bool) → leb (length read) JOB_BYTES ≡ t → output read ≡ output b
    go true h = ap output (sym (all ∙ ap (λ l. read ++ l) (at_end (leb-true (length read) JOB_BYTES h)) ∙ append-nil read))
    go false h =
        let long = leb-false (length read) JOB_BYTES h in
        claimed.bad read (sym (too_long read long)) ∙ sym (claimed.bad b (sym (too_long b (rw (all, length-append read rest) (omega (arith, long))))))

-- after a failed read no job was read
pub printed_failed : (input old new : Option (List ℕ)) (failed : Type 0) → failed → Appends old new bad_job → Printed input failed old new
printed_failed None old new failed fails text = tt
printed_failed (Some b) old new failed fails text = inr (fails, text)

-- what the job prints that was read from some bytes, or was not
pub read_prints : (job : Option Job) (b : List ℕ) → is_some job ≡ well_formed b → IfSome job (λ j. j.bytes.now ≡ b) → output_of job ≡ output b
read_prints None b good same = sym (claimed.bad b (sym good))
read_prints (Some job) b good same = ap output same

-- a read takes what it gives, behind what was read
pub take-more : (n more k : ℕ) (bytes rest : List ℕ) → n ≤ length bytes → more ≤ length rest → take (n + more) (put_mid n k bytes rest) ≡ take n bytes ++ take more rest
take-more n more k bytes rest inside within =
    let all = put_mid n k bytes rest in
    ap (λ m. take (m + more) all) (sym (length-take-le n bytes inside)) ∙ take-append-add (take n bytes) _ more
    ∙ ap (λ l. take n bytes ++ l) (take-append-le more rest _ within)
