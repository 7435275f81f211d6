-- The paper's numbers, by computation. Assumes nothing.
use Prim.Native.Nat.{◌*◌}
use mathlib.Core.Path.{refl}
use native.Mathlib.Omega.{arith}
use lib.Count.{ones, count_trailing_zeros}
use lib.Ieee.{odd, units, size, span, climb, round, sum, add, neg, sub, div, of_int, of_bits, to_bits, of_fields, lt, is_nan}
use Rattle.words.specs.Bytes.{num_at, bytes_of, words_of, f32_at, float_bytes}
use Rattle.words.specs.Digits.{bit, join, kept}
use Rattle.words.specs.Lists.{any_below, joined, tabulate}
use Rattle.words.specs.Refusals.{after, bad_length, bad_lists}
use Rattle.words.specs.Sums.{sum_to}
use Rattle.digits.specs.Digits.{digit_at, packed_byte, packed}
use Rattle.scalar.specs.Code.{del_of, quotient, rounded, rounded_code, dimension_code, codes_of, scalar_code}
use Rattle.root.specs.Root.{root_of}
use Rattle.code.specs.Code.{code_words, code_byte, code_of, code_word, code_bit, words_bit}
use Rattle.sums.specs.Sums.{plain_sum, query_sum, plane_word, plane_ones, plane_count}
use Rattle.sums.proofs.FullLaws.{full_sum}
use Rattle.rerank.specs.Rerank.{better, least, choose, answer_of, asks_for, missing, missing_at, bad_mark, next_refusal, supply_refusal, counted}
use Rattle.rerank.specs.Calls.{answer_bytes, next_number, next_answer, supply_number, supply_answer}
use Rattle.rerank.specs.Demand.{call, told, seen, left, numbers, heard, turn, turns}
use Rattle.paper.specs.Table.{Table}

pub table : Table
unfolding packed packed_byte join sum_to joined tabulate num_at bit ones plane_word plane_ones plane_count plain_sum query_sum words_bit code_word code_bit
    code_of code_byte kept rounded_code rounded quotient del_of dimension_code codes_of scalar_code digit_at bytes_of words_of f32_at div sub add neg sum round units
    odd size span climb of_int count_trailing_zeros of_bits to_bits of_fields root_of lt is_nan better least choose answer_of asks_for missing missing_at bad_mark
    next_refusal supply_refusal counted any_below after bad_length float_bytes bad_lists answer_bytes next_number next_answer supply_number supply_answer call
    told seen left numbers heard turn turns
table =
    record {
      dims_1 = refl;
      dims_65 = refl;
      dims_4369 = refl;
      planes = refl;
      word = refl;
      sum = refl;
      sum-by_planes = refl;
      query-sum = refl;
      greatest_sum = full_sum 4369 (8 * code_words 4369) 15 (omega arith);
      width_4 = refl;
      width_2 = refl;
      rounding = refl;
      no_room = refl;
      root_of_2 = refl;
      root_of-least = refl;
      first_run = refl;
      second_run = refl;
    }
