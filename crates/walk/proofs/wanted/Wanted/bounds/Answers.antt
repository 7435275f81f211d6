-- `walk::wanted::Wanted::bounds` meets its contract. Assumes nothing.
use mathlib.Core.Path.{◌≡◌, refl, sym, ap, ◌∙◌}
use Prim.Native.Nat.{◌*◌}
use native.Mathlib.Omega.{arith}
use lib.ListN.{length}
use Rattle.words.proofs.WordsLaws.{length-words_of}
use Rattle.walk.specs.Walk.{bound_words}
use Rattle.walk.proofs.WalkLaws.{nans_back}
use Rattle.walk.proofs.wanted.Wanted.bounds.Goals as goal
use Rattle.walk.proofs.wanted.Wanted.bounds.Goals.{After-fill-bounds}

size : (c : After-fill-bounds) → length c.fill-bounds.result.now ≡ 4 * c.args.self.now.c
unfolding bound_words
size c = ap length c.fill-bounds.ensures ∙ length-words_of _ _

pub any_nan-requires : goal.any_nan-requires
any_nan-requires c =
    (omega (arith, size (goal.at.any_nan-requires c).After-fill-bounds), omega (arith, c.args.self.now.places))

pub returns-then-any_nan-clause-refused : goal.returns-then-any_nan-clause-refused
returns-then-any_nan-clause-refused c =
    let w = c.args.self.now in
    (sym (nans_back w.layout _ _ _ _ _ _ _ c.fill-bounds.ensures) ∙ sym c.any_nan.ensures ∙ c.if-any_nan.true, refl)

pub returns-clause-refused : goal.returns-clause-refused
returns-clause-refused c =
    let w = c.args.self.now in
    sym (nans_back w.layout _ _ _ _ _ _ _ c.fill-bounds.ensures) ∙ sym c.any_nan.ensures ∙ c.if-any_nan.false

pub returns-clause-size : goal.returns-clause-size
returns-clause-size c = size (goal.at.returns-clause-size c).After-fill-bounds
