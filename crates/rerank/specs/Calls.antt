-- What `next` and `supply` answer over lent byte buffers: the whole promise of each is one definition. A place has 4 bytes of the
-- estimates, 4 of the distances and 1 of the marks.
use Rattle.std.specs.Prelude.{◌||◌, cond, List, ◌++◌, ℕ, ◌*◌, length, get_or, set, Float}
use Rattle.std.proofs.lemmas.List.Edits.{sets}
use Rattle.std.specs.Float.{binary32}
use Rattle.std.specs.Float.Ieee.{to_bits}
use Rattle.words.specs.Bytes.{bytes_of, f32_at, float_bytes}
use Rattle.words.specs.Refusals.{after, bad_length, bad_lists}
use Rattle.rerank.specs.Rerank.{State, answer_of, next_refusal, supply_refusal, counted}
use Rattle.rerank.specs.declared.Answer.{Answer}
use Rattle.rerank.specs.declared.Answer.TheVariants.{Ask, Give, Done}

-- the state that the estimates, distances and marks hold
abbrev pub state_of : List ℕ → List ℕ → List ℕ → State
state_of e d m = record { size = length m; estimate = f32_at e; distance = f32_at d; mark = λ i. get_or m i 0 }

-- ---- next

-- the paper's number and values of an answer: the place is 0 when Done, the distance's bits are 0 but at Give
abbrev pub answer_number : Answer → ℕ
answer_number (Ask p) = 1
answer_number (Give p d) = 2
answer_number Done = 0

abbrev pub answer_place : Answer → ℕ
answer_place (Ask p) = p
answer_place (Give p d) = p
answer_place Done = 0

abbrev pub answer_bits : Answer → ℕ
answer_bits (Ask p) = 0
answer_bits (Give p d) = to_bits binary32 d
answer_bits Done = 0

-- the marks that an answer leaves: a Give marks its place as given
abbrev pub answer_marks : Answer → List ℕ → List ℕ
answer_marks (Ask p) m = m
answer_marks (Give p d) m = set m p 2
answer_marks Done m = m

-- next's 16 bytes
unfoldable pub answer_bytes : Answer → ℕ → List ℕ
answer_bytes a count = bytes_of 4 (answer_number a) ++ bytes_of 4 (answer_place a) ++ bytes_of 4 (answer_bits a) ++ bytes_of 4 count

unfoldable pub next_number : List ℕ → List ℕ → List ℕ → List ℕ → ℕ
next_number e d m out = cond (bad_lists (length e) (length d) (length m) || bad_length out 16) 3 (next_refusal (state_of e d m))

-- the number, the marks and out
unfoldable pub next_answer : List ℕ → List ℕ → List ℕ → List ℕ → ℕ × List ℕ × List ℕ
next_answer e d m out =
    let n = next_number e d m out in
    let a = answer_of (state_of e d m) in
    let marks = answer_marks a m in
    (n, after n m marks, after n out (answer_bytes a (counted (state_of e d marks))))

-- ---- supply

unfoldable pub supply_number : List ℕ → List ℕ → List ℕ → ℕ → Float → List ℕ → ℕ
supply_number e d m place x out = cond (bad_lists (length e) (length d) (length m) || bad_length out 4) 3 (supply_refusal (state_of e d m) place x)

-- the number, the distances, the marks and out
unfoldable pub supply_answer : List ℕ → List ℕ → List ℕ → ℕ → Float → List ℕ → ℕ × List ℕ × List ℕ × List ℕ
supply_answer e d m place x out =
    let n = supply_number e d m place x out in
    let distances = sets d (4 * place) (float_bytes x) in
    let marks = set m place 1 in
    (n, after n d distances, after n m marks, after n out (bytes_of 4 (counted (state_of e distances marks))))
