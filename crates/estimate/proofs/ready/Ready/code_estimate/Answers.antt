-- `estimate::ready::Ready::code_estimate` meets its contract. Assumes nothing.
use Rattle.estimate.proofs.EstimateLaws.{code_same}
use Rattle.estimate.proofs.ready.Ready.code_estimate.Goals as goal

pub returns : goal.returns
returns c =
    let a = c.args in
    let p = a.self.now in
    code_same a.asked p.m p.v p.codes.now _ a.code.now _ _ _ _ c.requires.0 c.words_of.ensures c.factors_of-f.ensures
    c.asymmetric_binary_dot_product-s.ensures.0 (rw p.summed at c.estimate.ensures)
