-- `rerank::put_four` meets its contract. Assumes nothing.
use Rattle.rerank.proofs.CallLaws.{four_stores}
use Rattle.rerank.proofs.put_four.Goals as goal

pub returns : goal.returns
returns c =
    let pre = c.requires in
    let putu = c.put_u32.ensures in
    let putu2 = c.put_u32-2.ensures in
    let putf = c.put_f32.ensures in
    let putu3 = c.put_u32-3.ensures in
    four_stores _ _ _ _ _ _ _ _ _ pre putu putu2 putf putu3
