-- A judged query. Assumes nothing.
use Rattle.std.proofs.Common.{◌≡◌, ◌≤◌, ℕ, false, List, length}
use Rattle.words.specs.Limits.{most_dims, top_code}
use Rattle.words.specs.Lists.{any_above}
use Rattle.words.proofs.ListLaws.{none_above}
use Rattle.sums.specs.Sums.{QueryCodes}

pub query : (qs : List ℕ) → length qs ≤ most_dims → any_above top_code qs ≡ false → QueryCodes qs
query qs l a = record { few = l; small = none_above top_code qs a }
