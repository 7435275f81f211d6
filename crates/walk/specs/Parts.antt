-- What the parts of the walk ask of each other. No public promise cites this file.
use Rattle.std.specs.Prelude.{ℕ, ◌+◌, ◌*◌, ◌/◌}

-- room for the bounds of every lane of the blocks that c ids reach into
abbrev pub room_of : ℕ → ℕ
room_of c = 128 * ((c + 62) / 32)
