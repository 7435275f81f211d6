-- The paper's table of refusals: 1 BAD_DIMS, 2 BAD_WIDTH, 3 BAD_LENGTH, 4 MISSING, 5 BAD_VALUE, 6 OUT_OF_RANGE, 7 NO_ROOM,
-- 8 NO_ESTIMATE, 9 NOT_ASKED; 0 is accepted. What a call answers is the smallest that holds, so its table is a chain of tests.
use Rattle.std.specs.Prelude.{◌≡◌, ℕ, zero, suc, ◌*◌, Bool, true, false, not, ◌||◌, cond, List, ltb, eqb, length, Ok, Err}
use Rattle.std.specs.declared.result.Result.{Result}
use Rattle.words.specs.declared.refusal.Refusal.{Refusal}
use Rattle.words.specs.declared.refusal.Refusal.TheVariants.{BadDims, BadWidth, BadLength, Missing, BadValue, OutOfRange, NoRoom, NoEstimate, NotAsked}
use Rattle.words.specs.Bytes.{bytes_of}
use Rattle.words.specs.Limits.{most_dims, most_places}

-- the paper's number of a refusal
abbrev pub number_of : Refusal → ℕ
number_of BadDims = 1
number_of BadWidth = 2
number_of BadLength = 3
number_of Missing = 4
number_of BadValue = 5
number_of OutOfRange = 6
number_of NoRoom = 7
number_of NoEstimate = 8
number_of NotAsked = 9

-- the number of an answer: 0 where it is accepted
abbrev pub status : {A : Type 0} → Result A Refusal → ℕ
status (Ok x) = 0
status (Err e) = number_of e

-- a test: it refuses with e exactly where b holds
abbrev pub RefusedIf : {A : Type 0} → Bool → Refusal → Result A Refusal → Type 0
RefusedIf b e (Ok x) = b ≡ false
RefusedIf b e (Err f) = (b ≡ true) × (f ≡ e)

-- what a writable buffer has after a call with the number n: the old bytes where it was refused
unfoldable pub after : ℕ → List ℕ → List ℕ → List ℕ
after zero old new = new
after (suc n) old new = old

-- the number, and the one writable buffer
unfoldable pub answer : ℕ → List ℕ → List ℕ → ℕ × List ℕ
answer n old new = (n, after n old new)

-- the refusals of a, and where there is none those of b
unfoldable pub or_else : ℕ → ℕ → ℕ
or_else zero b = b
or_else (suc a) b = suc a

-- BAD_DIMS: dims is 0 or above the most
unfoldable pub bad_dims : ℕ → ℕ → Bool
bad_dims most dims = eqb dims 0 || ltb most dims

-- BAD_LENGTH of a buffer: it isn't of n bytes
unfoldable pub bad_length : List ℕ → ℕ → Bool
bad_length s n = not (eqb (length s) n)

-- BAD_LENGTH of lists of candidates, by their lengths in bytes: a and b have four bytes for each place, the marks one. There is not one
-- number of places in each, or more than 4,096
unfoldable pub bad_lists : ℕ → ℕ → ℕ → Bool
bad_lists a b places = ltb most_places places || not (eqb a (4 * places)) || not (eqb b (4 * places))

-- BAD_VALUE of a metric or a layout, where it is a number: neither 1 nor 2
unfoldable pub bad_form : ℕ → Bool
bad_form n = not (eqb n 1 || eqb n 2)

-- a call that gives the size of a RaBitQ code or block, as a 32-bit number
unfoldable pub size_number : ℕ → List ℕ → ℕ
size_number dims out = cond (bad_dims most_dims dims) 1 (cond (bad_length out 4) 3 0)

unfoldable pub size_answer : ℕ → ℕ → List ℕ → ℕ × List ℕ
size_answer dims size out = answer (size_number dims out) out (bytes_of 4 size)
