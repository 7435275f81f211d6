-- The paper's limits, each written here, and once in src/lib.rt for the code.
use Rattle.std.specs.Prelude.{ℕ, ◌*◌}

-- the most dims of a RaBitQ code
abbrev pub most_dims : ℕ
most_dims = 4369

-- the most dims of a scalar code
abbrev pub most_scalar_dims : ℕ
most_scalar_dims = 65535

-- the greatest query code
abbrev pub top_code : ℕ
top_code = 15

-- so the greatest sum of query codes
abbrev pub most_sum : ℕ
most_sum = top_code * most_dims

-- the most records of a walk
abbrev pub most_records : ℕ
most_records = 1048576

-- the most places of a list of candidates
abbrev pub most_places : ℕ
most_places = 4096

-- the greatest mark of a candidate: 0 waiting, 1 asked, 2 given
abbrev pub most_mark : ℕ
most_mark = 2
