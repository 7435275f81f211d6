-- `walk::wanted::Wanted::fill_codes` meets its contract. Assumes nothing.
use mathlib.Core.Path.{◌≡◌, ap, ◌∙◌}
use Prim.Native.Nat.{◌+◌}
use native.Mathlib.Omega.{arith}
use lib.ListN.{length}
use Rattle.words.proofs.WordsLaws.{words_none}
use Rattle.code.specs.Code.{code_size}
use Rattle.estimate.proofs.EstimateLaws.{floats_more}
use Rattle.walk.specs.Walk.{bound_words}
use Rattle.walk.proofs.WalkLaws.{code_end, code_bound}
use Rattle.walk.proofs.wanted.Wanted.fill_codes.Goals as goal
use Rattle.walk.proofs.wanted.Wanted.fill_codes.Goals.{After-code_size-size}

size : (c : After-code_size-size) → c.code_size-size.result ≡ code_size (length c.args.self.now.query.codes.now)
size c = c.code_size-size.ensures.0 ∙ ap code_size (c.dims.ensures ∙ ap length c.codes-q.ensures)

pub loop-i-init : goal.loop-i-init
loop-i-init c = words_none c.args.buf.now _

pub record_at-code-requires : goal.record_at-code-requires
record_at-code-requires c =
    let w = c.args.self.now in
    code_end _ _ w.n _ _ _ c.requires.layout w.sized (size (goal.at.record_at-code-requires c).After-code_size-size) (omega (arith, w.inside))

pub loop-i-preserved : goal.loop-i-preserved
loop-i-preserved c =
    let w = c.args.self.now in
    let one = code_bound w.query.m w.query.v w.query.codes.now w.records.now _ _ (w.start + c.loop-i.i) _
    (size (goal.at.loop-i-preserved c).After-code_size-size) c.record_at-code.ensures.0 c.code_estimate-bound.ensures in
    (floats_more c.loop-i.buf _ c.loop-i.i _ _ (omega (arith, c.requires.room)) c.put_f32.ensures one c.loop-i.invariant).0

pub returns : goal.returns
unfolding bound_words
returns c =
    let e : c.loop-i.i ≡ c.args.self.now.c = omega arith in rw (← e) c.loop-i.invariant
