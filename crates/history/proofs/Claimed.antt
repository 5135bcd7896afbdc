-- The claims about the book hold.
use Rattle.history.specs.Claims.{Claims}
use Rattle.history.proofs.Book.{first-stays, above-1023, not_valid}

pub claimed : Claims
claimed = record { first-stays = first-stays; above-1023 = above-1023; not_valid = not_valid }
