-- Each call reads one word.
use Rattle.std.proofs.Common.{rules, arith, [], ◌+◌, get_or, ◌∙◌}
use Rattle.std.specs.Int.{w32, from_le_bytes}
use Rattle.pages.proofs.Arrays.{made}
use Rattle.job.proofs.Reading.{word_of}
use Rattle.job.proofs.words.words_at.Goals as goal

pub returns : goal.returns
returns g c = λ k h.
    made _ (λ j. from_le_bytes w32 (get_or c.args.words.now (c.args.i + j) [])) _ (λ j r q call. search rules) c.from_fn.result 0 _ k h c.from_fn.ensures.items
    ∙ word_of c.args.words.now (c.args.i + k) c.told-words (omega arith)
