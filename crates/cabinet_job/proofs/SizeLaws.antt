-- What an accepted size tells. Assumes nothing.
use Prim.Native.Nat.{ℕ, ◌+◌, ◌*◌, ◌/◌, ◌≤◌}
use mathlib.Core.Path.{◌≡◌, ap, sym, ◌∙◌}
use mathlib.Core.List.{List}
use native.Mathlib.Omega.{arith}
use Rattle.words.specs.Bytes.{num_at, bytes_of}
use Rattle.words.specs.Limits.{most_dims}
use Rattle.words.specs.Refusals.{size_answer, size_number, answer, bad_dims}
use Rattle.cabinet_job.specs.Job.{most_block}
use Rattle.words.proofs.ByteLaws.{num_bytes}
use Rattle.words.proofs.RefusalLaws.{no_row, few_dims, after-accepted}

-- where a block's size is accepted it is that of at most 4,369 dims
pub size_fits : (dims r x : ℕ) (out old : List ℕ) → (r, out) ≡ size_answer dims (512 + 16 * ((dims + 3) / 4)) old → r ≡ 0 → x ≡ num_at 4 out 0
    → (dims ≤ most_dims) × (x ≤ most_block)
unfolding size_answer size_number answer
size_fits dims r x out old e z f =
    let size = 512 + 16 * ((dims + 3) / 4) in
    let n : size_number dims old ≡ 0 = sym (ap (λ (p : ℕ × List ℕ). p.0) e) ∙ z in
    let few : dims ≤ most_dims = few_dims most_dims dims (no_row (bad_dims most_dims dims) 0 _ n).0 in
    let o : out ≡ bytes_of 4 size = ap (λ (p : ℕ × List ℕ). p.1) e ∙ after-accepted (size_number dims old) old (bytes_of 4 size) n in
    let g : x ≡ size = f ∙ (ap (λ (l : List ℕ). num_at 4 l 0) o ∙ num_bytes size (omega arith)) in
    (few, omega arith)
